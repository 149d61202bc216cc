-- Worked dumps, by computing.
use Rattle.std.specs.Prelude.{◌≡◌, ℕ, List, [], ◌∷◌, ◌++◌, Result, Ok, Err, codes}
use Rattle.gl_vcd.specs.declared.fault.VcdFault.{VcdFault}
use Rattle.gl_vcd.specs.declared.fault.VcdFault.TheVariants.{Syntax, UnknownSignal, TimeFalls, TooWide, NoValue, Twice, NoPort, TooLate}
use Rattle.gl_bits.specs.Words.{Word}
use Rattle.gl_vcd.specs.Dumped.{Port}
use Rattle.gl_vcd.specs.Reading.{dump_of}
use Rattle.gl_vcd.specs.Signals.{Dump, lines_of}
use Rattle.gl_vcd.specs.Written.{dump_text, line}

-- the lines that a text shows, or its fault
abbrev pub shown_by : Result Dump VcdFault → Result (List ℕ) VcdFault
shown_by (Ok dump) = Ok (lines_of dump)
shown_by (Err fault) = Err fault

-- the lines that a text shows, or its fault
abbrev pub shows : List ℕ → Result (List ℕ) VcdFault
shows text = shown_by (dump_of text)

-- the beginning of a dump, in which the one scope opens
abbrev pub scope : List ℕ
scope = codes "$scope module q $end "

-- a scope whose signals show no column of a result
abbrev pub columnless : List ℕ
columnless = scope ++ codes "$var wire 1 ! out__valid $end $var wire 1 $ out__eos $end "

-- the end of a scope and of the declarations
abbrev pub ended : List ℕ
ended = codes "$upscope $end $enddefinitions $end "

-- signals that show a result of 8 bits, declared
abbrev pub declared : List ℕ
declared =
    scope ++ codes "$var wire 1 ! out__valid $end $var reg 8 # out__v [7:0] $end $var wire 1 $ out__eos $end " ++ ended

-- a port of this name and width
abbrev pub port : List ℕ → ℕ → Port
port name width = record { name = name; width = width }

-- the price of one trade, in a cycle of its own
abbrev pub ports_of_price : List Port
ports_of_price =
    port (codes "rst") 1 ∷ port (codes "in__s__valid") 1 ∷ port (codes "in__s__v") 8 ∷ port (codes "eos") 1
    ∷ port (codes "out__valid") 1 ∷ port (codes "out__v") 8 ∷ port (codes "out__eos") 1
    ∷ port (codes "fault__group") 1 ∷ port (codes "fault__queue") 1 ∷ []

-- a row of words, with the bits of the ports
abbrev pub row_of : List Port → List ℕ → List Word
row_of (p ∷ ps) (v ∷ vs) = record { bits = v; width = p.width } ∷ row_of ps vs
row_of ps vs = []

-- the rows of two cycles of a module with one column: a price that comes in, and the same price as result
abbrev pub rows_of_price : List (List Word)
rows_of_price =
    row_of ports_of_price (0 ∷ 1 ∷ 5 ∷ 1 ∷ 0 ∷ 0 ∷ 0 ∷ 0 ∷ 0 ∷ [])
    ∷ row_of ports_of_price (0 ∷ 0 ∷ 0 ∷ 0 ∷ 1 ∷ 5 ∷ 1 ∷ 0 ∷ 0 ∷ []) ∷ []

-- the dump of those two cycles, line by line
abbrev pub text_of_price : List ℕ
text_of_price =
    line (codes "$timescale 1 ns $end") ++ line (codes "$scope module q__r $end")
    ++ line (codes "$var wire 1 !! rst $end") ++ line (codes "$var wire 1 !\" in__s__valid $end")
    ++ line (codes "$var wire 8 !# in__s__v $end") ++ line (codes "$var wire 1 !$ eos $end")
    ++ line (codes "$var wire 1 !% out__valid $end") ++ line (codes "$var wire 8 !& out__v $end")
    ++ line (codes "$var wire 1 !' out__eos $end") ++ line (codes "$var wire 1 !( fault__group $end")
    ++ line (codes "$var wire 1 !) fault__queue $end") ++ line (codes "$upscope $end")
    ++ line (codes "$enddefinitions $end") ++ line (codes "#0") ++ line (codes "0!!") ++ line (codes "1!\"")
    ++ line (codes "b101 !#") ++ line (codes "1!$") ++ line (codes "0!%") ++ line (codes "b0 !&") ++ line (codes "0!'")
    ++ line (codes "0!(") ++ line (codes "0!)") ++ line (codes "#1") ++ line (codes "0!\"") ++ line (codes "b0 !#")
    ++ line (codes "0!$") ++ line (codes "1!%") ++ line (codes "b101 !&") ++ line (codes "1!'") ++ line (codes "#2")

-- what is written of a trade, and what it shows; and the shortest texts
pub record WorkedDumps : Type 0 where
  pub written : dump_text (codes "q__r") ports_of_price rows_of_price ≡ text_of_price
  pub price : shows text_of_price ≡ Ok (line (codes "1,5") ++ line (codes "1,end"))
  pub empty : shows (codes "$enddefinitions $end") ≡ Err (NoPort 0)
  pub nothing : shows [] ≡ Err (Syntax 0)

-- texts, and the lines that they show
pub record WorkedTexts : Type 0 where
  pub in_dumpvars : shows (declared ++ codes "#0 $dumpvars 1! b111 # 0$ $end #1 0! 1$ #2")
      ≡ Ok (line (codes "0,7") ++ line (codes "1,end"))
  pub commented : shows (declared ++ codes "$comment b1 #5 $end #0 1! b111 # $comment 0! $end 0$ #1 $end 0! 1$ #2")
      ≡ Ok (line (codes "0,7") ++ line (codes "1,end"))
  pub returns :
      shows (codes "$scope module q $end\r\n$var wire 1 ! out__valid $end\r\n$var wire 1 $ out__eos $end\r\n"
      ++ codes "$upscope $end\r\n$enddefinitions\r\n$end\r\n#0\r\n1!\r\n0$\t#1\r\n") ≡ Ok (line (codes "0"))
  pub leading_zeros : shows (declared ++ codes "#0 b01 ! b000000000111 # b00 $ #00001") ≡ Ok (line (codes "0,7"))
  pub jump : shows (declared ++ codes "#0 1! b111 # 0$ #2 b1000 # #3 1$ 0! #4")
      ≡ Ok (line (codes "0,7") ++ line (codes "1,7") ++ line (codes "2,8") ++ line (codes "3,end"))
  pub last_given : shows (declared ++ codes "#0 0! 1! b1 # b10 # 0$ #1") ≡ Ok (line (codes "0,2"))
  pub nothing_shown : shows (declared ++ codes "#0 0! 0# 0$") ≡ Ok []
  pub long_code :
      shows (scope ++ codes "$var wire 1 abcdefghi out__valid $end $var wire 1 $ out__eos $end " ++ ended
      ++ codes "#0 1abcdefghi b0 $ #1") ≡ Ok (line (codes "0"))
  pub group_told_once :
      shows (columnless ++ codes "$var wire 1 # fault__group $end " ++ ended ++ codes "#0 0! 0$ 1# #1 1! #2 0! 1$ #3")
      ≡ Ok (line (codes "0,overflow") ++ line (codes "1") ++ line (codes "2,end"))
  pub in_order :
      shows (columnless ++ codes "$var wire 8 a out__b $end $var wire 8 b out__a $end $var wire 8 c in__c $end " ++ ended
      ++ codes "#0 1! 0$ b1 a b10 b b11 c #1") ≡ Ok (line (codes "0,1,2"))

-- texts that are no dumps, and their first faults
pub record WorkedFaults : Type 0 where
  -- a token that cannot stand there
  pub undeclared : shows (codes "hello") ≡ Err (Syntax 0)
  pub no_number : shows (declared ++ codes "#0 x!") ≡ Err (Syntax 148)
  pub not_behind : shows (declared ++ codes "#0 0! 0# 0$ b102 !") ≡ Err (Syntax 157)
  pub var_outside : shows (codes "$var wire 1 ! a $end") ≡ Err (Syntax 0)
  pub second_scope : shows (scope ++ codes "$upscope $end $scope module q $end") ≡ Err (Syntax 35)
  pub inner_scope : shows (scope ++ codes "$scope module q $end") ≡ Err (Syntax 21)
  pub no_module : shows (codes "$scope fork x $end") ≡ Err (Syntax 7)
  pub no_scope_name : shows (codes "$scope module $end") ≡ Err (Syntax 14)
  pub no_scope : shows (codes "$upscope $end") ≡ Err (Syntax 0)
  pub open_scope : shows (scope ++ codes "$enddefinitions $end") ≡ Err (Syntax 21)
  pub other_type : shows (scope ++ codes "$var integer 32 ! a $end") ≡ Err (Syntax 26)
  pub no_width : shows (scope ++ codes "$var wire x ! a $end") ≡ Err (Syntax 31)
  pub no_code : shows (scope ++ codes "$var wire 1 $end") ≡ Err (Syntax 33)
  pub no_name : shows (scope ++ codes "$var wire 1 ! $end") ≡ Err (Syntax 35)
  pub no_range : shows (scope ++ codes "$var wire 8 ! a 7:0 $end") ≡ Err (Syntax 37)
  pub two_ranges : shows (scope ++ codes "$var wire 8 ! a [7:0] [0] $end") ≡ Err (Syntax 43)
  pub first_time : shows (declared ++ codes "#1") ≡ Err (Syntax 145)
  pub long_first_time : shows (declared ++ codes "#00") ≡ Err (Syntax 145)
  pub early : shows (declared ++ codes "0! #0") ≡ Err (Syntax 145)
  pub early_bits : shows (declared ++ codes "b1 ! #0") ≡ Err (Syntax 145)
  pub bare_time : shows (declared ++ codes "#0 0! 0# 0$ #") ≡ Err (Syntax 157)
  pub bare_bit : shows (declared ++ codes "#0 1") ≡ Err (Syntax 148)
  pub bare_bits : shows (declared ++ codes "#0 b !") ≡ Err (Syntax 148)
  pub no_bits : shows (declared ++ codes "#0 bx !") ≡ Err (Syntax 148)
  -- a text that ends too early
  pub in_section : shows (codes "$comment a") ≡ Err (Syntax 10)
  pub scope_open : shows scope ≡ Err (Syntax 21)
  pub definitions : shows (columnless ++ codes "$upscope $end $enddefinitions") ≡ Err (Syntax 108)
  pub half : shows (declared ++ codes "#0 0! 0# 0$ b1") ≡ Err (Syntax 159)
  pub no_time : shows declared ≡ Err (Syntax 145)
  pub in_comment : shows (declared ++ codes "#0 0! 0# 0$ $comment 0!") ≡ Err (Syntax 168)
  -- a change of no signal, by its first token
  pub unknown_bit : shows (declared ++ codes "#0 0?") ≡ Err (UnknownSignal 148)
  pub unknown_bits : shows (declared ++ codes "#0 b1 ?") ≡ Err (UnknownSignal 148)
  pub unknown_end : shows (declared ++ codes "#0 b1 $end") ≡ Err (UnknownSignal 148)
  -- a time that is not above the one before
  pub same_time : shows (declared ++ codes "#0 0! 0# 0$ #0") ≡ Err (TimeFalls 157)
  pub falls : shows (declared ++ codes "#0 0! 0# 0$ #5 #4") ≡ Err (TimeFalls 160)
  -- too wide
  pub no_bit : shows (scope ++ codes "$var wire 0 ! a $end") ≡ Err (TooWide 31)
  pub bits_129 : shows (scope ++ codes "$var wire 129 ! a $end") ≡ Err (TooWide 31)
  pub two_in_one : shows (declared ++ codes "#0 b10 !") ≡ Err (TooWide 148)
  pub nine_in_eight : shows (declared ++ codes "#0 b100000000 #") ≡ Err (TooWide 148)
  -- no value in time 0
  pub lacks : shows (declared ++ codes "#0 0! 0$ #1") ≡ Err (NoValue 154)
  pub lacks_at_end : shows (declared ++ codes "#0 0! 0$") ≡ Err (NoValue 153)
  -- an identifier or a name that is taken
  pub code_twice : shows (scope ++ codes "$var wire 1 ! a $end $var wire 1 ! b $end") ≡ Err (Twice 54)
  pub name_twice : shows (scope ++ codes "$var wire 1 ! a $end $var wire 1 # a $end") ≡ Err (Twice 56)
  -- no result
  pub wide_valid :
      shows (scope ++ codes "$var wire 2 ! out__valid $end $var wire 1 $ out__eos $end " ++ ended) ≡ Err (NoPort 93)
  pub no_eos : shows (scope ++ codes "$var wire 1 ! out__valid $end " ++ ended) ≡ Err (NoPort 65)
  pub wide_group : shows (columnless ++ codes "$var wire 2 # fault__group $end " ++ ended) ≡ Err (NoPort 125)
  pub wide_column : shows (columnless ++ codes "$var wire 65 # out__v $end " ++ ended) ≡ Err (NoPort 120)
  -- too late
  pub late : shows (declared ++ codes "#0 0! 0# 0$ #67108865") ≡ Err (TooLate 157)
  pub later : shows (declared ++ codes "#0 0! 0# 0$ #1 #99999999999999999999") ≡ Err (TooLate 160)
  -- of several at one token the first
  pub falls_first : shows (declared ++ codes "#0 #0") ≡ Err (TimeFalls 148)
  pub value_before_late : shows (declared ++ codes "#0 #67108865") ≡ Err (NoValue 148)
  pub late_falls : shows (declared ++ codes "#0 0! 0# 0$ #67108864 #67108865") ≡ Err (TooLate 167)
