-- The reading of a dump from its tokens, from the left, and its first fault; of several at one token the one that stands
-- first here.
use Rattle.std.specs.Prelude.{ℕ, ◌+◌, ◌-◌, ◌*◌, ◌^◌, Bool, true, false, not, ◌&&◌, ◌||◌, List, [], ◌∷◌, ◌++◌, length, Option, Some, None, Result, Ok, Err, is_some, codes, bytes_eq, slice_get, nat_eq, nat_le, nat_lt, if◌then◌else◌}
use Rattle.std.specs.List.{fold, list_all}
use Rattle.gl_bits.specs.Limits.{latest_time}
use Rattle.gl_tuples.specs.Values.{is_number, number_in}
use Rattle.gl_vcd.specs.declared.fault.VcdFault.{VcdFault}
use Rattle.gl_vcd.specs.declared.fault.VcdFault.TheVariants.{Syntax, UnknownSignal, TimeFalls, TooWide, NoValue, Twice, NoPort, TooLate}
use Rattle.gl_vcd.specs.Signals.{Change, Dump, Signal, all_given, number_of_code, number_of_name, show_none}
use Rattle.gl_vcd.specs.Tokens.{Token, tokens_of}

-- what may come next: in the declarations between two sections, in one that is passed over, behind `$scope`, the kind of
-- the scope or its name, behind `$upscope`, behind `$var`, its type, width, identifier or name, or behind
-- `$enddefinitions`; then the changes, a comment among them, and the identifier behind the digits of a value
pub data Stage : Type 0 where
  Section : Stage
  Passed : Stage
  ScopeKind : Stage
  ScopeName : Stage
  ScopeEnd : Stage
  UpscopeEnd : Stage
  VarType : Stage
  VarWidth : Stage
  VarCode : (width : ℕ) → Stage
  VarName : (width : ℕ) (code : List ℕ) → Stage
  VarRange : (signal : Signal) → Stage
  VarEnd : (signal : Signal) → Stage
  DefinitionsEnd : Stage
  Changes : Stage
  Comment : Stage
  Vector : (at : ℕ) (digits : List ℕ) → Stage

-- the one scope: it has not come, or is open, or is closed
pub data Scope : Type 0 where
  Before : Scope
  Open : Scope
  Closed : Scope

-- what was read
pub record Reading : Type 0 where
  pub stage : Stage
  pub scope : Scope
  pub signals : List Signal
  pub time : Option ℕ
  pub changes : List Change

-- a reading begins between sections, before any scope, with no signal, no time and no change
abbrev pub start : Reading
start = record { stage = Section; scope = Before; signals = []; time = None; changes = [] }

-- what a token leads to: a further reading, or the first fault of the text
abbrev pub Step : Type 0
Step = Result Reading VcdFault

-- the token is this word
abbrev pub is : Token → List ℕ → Bool
is t word = bytes_eq t.bytes word

-- reading goes on at a stage
abbrev pub to : Reading → Stage → Step
to r stage = Ok (record r { stage = stage })

-- a token that must be so goes on, and any other cannot stand there
abbrev pub only : Bool → Token → Step → Step
only fits t next = if fits then next else Err (Syntax t.at)

-- a section ends with `$end` and with nothing else
abbrev pub ends : Token → Step → Step
ends t next = only (is t (codes "$end")) t next

-- the scope has not come yet
abbrev pub is_before : Scope → Bool
is_before Before = true
is_before _ = false

-- the scope is open
abbrev pub is_open : Scope → Bool
is_open Open = true
is_open _ = false

-- ---- declarations

-- behind the declarations the signals show a result
abbrev pub definitions_end : Reading → Token → Step
definitions_end r t =
    if is_open r.scope then Err (Syntax t.at) else if show_none r.signals then Err (NoPort t.at) else to r DefinitionsEnd

-- a section that says nothing of signals and is passed over
abbrev pub is_passed : Token → Bool
is_passed t =
    is t (codes "$date") || is t (codes "$version") || is t (codes "$comment") || is t (codes "$timescale")

-- between sections stands the beginning of the next one, in an order that keeps the signals inside the one scope
abbrev pub section_next : Reading → Token → Step
section_next r t =
    if is_passed t then to r Passed
    else if is t (codes "$scope") then only (is_before r.scope) t (to r ScopeKind)
    else if is t (codes "$upscope") then only (is_open r.scope) t (to r UpscopeEnd)
    else if is t (codes "$var") then only (is_open r.scope) t (to r VarType)
    else if is t (codes "$enddefinitions") then definitions_end r t
    else Err (Syntax t.at)

-- the section of a scope ends, which is open or closed then
abbrev pub scope_next : Reading → Scope → Token → Step
scope_next r scope t = ends t (Ok (record r { stage = Section; scope = scope }))

-- a signal has 1 to 128 bits
abbrev pub width_by : Reading → Token → ℕ → Step
width_by r t width = if nat_eq width 0 || nat_lt 128 width then Err (TooWide t.at) else to r (VarCode width)

-- the width of a signal is a decimal number
abbrev pub width_next : Reading → Token → Step
width_next r t = only (is_number t.bytes) t (width_by r t (number_in t.bytes))

-- an identifier is no `$end`, and no earlier signal has it
abbrev pub code_next : Reading → ℕ → Token → Step
code_next r width t =
    only (not (is t (codes "$end"))) t
    (if is_some (number_of_code r.signals t.bytes) then Err (Twice t.at) else to r (VarName width t.bytes))

-- the name of a signal is no `$end`, and no earlier signal has it
abbrev pub name_next : Reading → ℕ → List ℕ → Token → Step
name_next r width code t =
    only (not (is t (codes "$end"))) t
    (if is_some (number_of_name r.signals t.bytes) then Err (Twice t.at)
    else to r (VarRange (record { code = code; name = t.bytes; width = width })))

-- a signal is declared
abbrev pub declared : Reading → Signal → Step
declared r signal = Ok (record r { stage = Section; signals = r.signals ++ signal ∷ [] })

-- the first of some bytes is this one
abbrev pub begins_with : ℕ → List ℕ → Bool
begins_with b [] = false
begins_with b (c ∷ cs) = nat_eq b c

-- behind a signal's name stands `$end`, or a range in square brackets, which is passed over
abbrev pub range_next : Reading → Signal → Token → Step
range_next r signal t =
    if is t (codes "$end") then declared r signal else only (begins_with 91 t.bytes) t (to r (VarEnd signal))

-- ---- changes

-- a change more
abbrev pub with_change : Reading → Change → Reading
with_change r change = record r { stage = Changes; changes = r.changes ++ change ∷ [] }

-- a signal of this number and width gets a value; the fault stands where the change begins
abbrev pub given_to : Reading → ℕ → ℕ → ℕ → ℕ → Option Signal → Step
given_to r time at value number None = Err (UnknownSignal at)
given_to r time at value number (Some s) =
    if nat_lt value (2 ^ s.width)
    then Ok (with_change r (record { time = time; signal = number; value = value }))
    else Err (TooWide at)

-- a value for a signal whose identifier was looked up; an unknown one is the fault
abbrev pub given_at : Reading → ℕ → ℕ → ℕ → Option ℕ → Step
given_at r time at value None = Err (UnknownSignal at)
given_at r time at value (Some number) = given_to r time at value number (slice_get r.signals number)

-- the signal of an identifier gets a value in the time that has come
abbrev pub given_in : Reading → Option ℕ → ℕ → ℕ → List ℕ → Step
given_in r None at value code = Err (Syntax at)
given_in r (Some time) at value code = given_at r time at value (number_of_code r.signals code)

-- the signal of an identifier gets a value in the time that was read last
abbrev pub given : Reading → ℕ → ℕ → List ℕ → Step
given r at value code = given_in r r.time at value code

-- `0` or `1`, and the identifier behind it
abbrev pub scalar_next : Reading → ℕ → ℕ → List ℕ → Step
scalar_next r at value [] = Err (Syntax at)
scalar_next r at value (c ∷ cs) = given r at value (c ∷ cs)

-- a byte that is the digit 0 or 1
abbrev pub is_bit : ℕ → Bool
is_bit b = nat_eq b 48 || nat_eq b 49

-- the number that binary digits spell, the most significant first
abbrev pub binary_in : List ℕ → ℕ
binary_in digits = fold (λ n b. 2 * n + (b - 48)) 0 digits

-- binary digits, at least one
abbrev pub are_bits : List ℕ → Bool
are_bits [] = false
are_bits (d ∷ ds) = list_all is_bit (d ∷ ds)

-- behind `b` stand binary digits, and a first time has come; the identifier is the next token
abbrev pub vector_next : Reading → ℕ → List ℕ → Step
vector_next r at digits =
    if is_some r.time && are_bits digits then to r (Vector at digits) else Err (Syntax at)

-- the first time is `#0`
abbrev pub first_time : Reading → ℕ → List ℕ → Step
first_time r at digits =
    if bytes_eq digits (codes "0") then Ok (record r { time = Some 0 }) else Err (Syntax at)

-- the time is still 0, and some signal has no value yet
abbrev pub lacks_value : Reading → ℕ → Bool
lacks_value r time = nat_eq time 0 && not (all_given r.changes (length r.signals))

-- a time above the one before and at most the latest that a dump may have; at time 0 every signal must have got a value
abbrev pub later_time : Reading → ℕ → ℕ → ℕ → Step
later_time r at time next =
    if nat_le next time then Err (TimeFalls at)
    else if lacks_value r time then Err (NoValue at)
    else if nat_lt latest_time next then Err (TooLate at)
    else Ok (record r { time = Some next })

-- the first time is 0, and every further one is a decimal number above it
abbrev pub time_by : Reading → ℕ → List ℕ → Option ℕ → Step
time_by r at digits None = first_time r at digits
time_by r at digits (Some time) =
    if is_number digits then later_time r at time (number_in digits) else Err (Syntax at)

-- `#` and digits
abbrev pub time_next : Reading → ℕ → List ℕ → Step
time_next r at digits = time_by r at digits r.time

-- a token that begins with this byte
abbrev pub begun : Reading → Token → ℕ → List ℕ → Step
begun r t b bs =
    if nat_eq b 35 then time_next r t.at bs
    else if nat_eq b 98 then vector_next r t.at bs
    else if is_bit b then scalar_next r t.at (b - 48) bs
    else Err (Syntax t.at)

-- the first byte of a token shows whether it is a time, a bit or a vector
abbrev pub by_byte : Reading → Token → List ℕ → Step
by_byte r t [] = Err (Syntax t.at)
by_byte r t (b ∷ bs) = begun r t b bs

-- among the changes stand comments, the words around the first values, times, and values
abbrev pub change_next : Reading → Token → Step
change_next r t =
    if is t (codes "$comment") then to r Comment
    else if is t (codes "$dumpvars") || is t (codes "$end") then Ok r
    else by_byte r t t.bytes

-- ---- one token after another

-- sections that are passed over go to their `$end`
abbrev pub passed : Reading → Token → Stage → Step
passed r t behind = if is t (codes "$end") then to r behind else Ok r

-- what may come at each stage, and what it leads to
abbrev pub next_at : Stage → Reading → Token → Step
next_at Section r t = section_next r t
next_at Passed r t = passed r t Section
next_at ScopeKind r t = only (is t (codes "module")) t (to r ScopeName)
next_at ScopeName r t = only (not (is t (codes "$end"))) t (to r ScopeEnd)
next_at ScopeEnd r t = scope_next r Open t
next_at UpscopeEnd r t = scope_next r Closed t
next_at VarType r t = only (is t (codes "wire") || is t (codes "reg")) t (to r VarWidth)
next_at VarWidth r t = width_next r t
next_at (VarCode width) r t = code_next r width t
next_at (VarName width code) r t = name_next r width code t
next_at (VarRange signal) r t = range_next r signal t
next_at (VarEnd signal) r t = ends t (declared r signal)
next_at DefinitionsEnd r t = ends t (to r Changes)
next_at Changes r t = change_next r t
next_at Comment r t = passed r t Changes
next_at (Vector at digits) r t = given r at (binary_in digits) t.bytes

-- the token's step, or the fault that it shows
unfoldable pub next : Reading → Token → Step
next r t = next_at r.stage r t

-- at the end of a text of this length a time has come, and each signal has a value
abbrev pub end_by : Reading → ℕ → Option ℕ → Result Dump VcdFault
end_by r len None = Err (Syntax len)
end_by r len (Some time) =
    if lacks_value r time then Err (NoValue len)
    else Ok (record { signals = r.signals; changes = r.changes; last = time })

-- no change and no comment is begun
abbrev pub is_between : Stage → Bool
is_between Changes = true
is_between _ = false

-- the dump that a reading comes to where its text ends, or the fault of ending there
unfoldable pub end_of : Reading → ℕ → Result Dump VcdFault
end_of r len = if is_between r.stage then end_by r len r.time else Err (Syntax len)

-- a step that may show a fault, and what follows it
infixl 10 ◌>>=◌
abbrev pub ◌>>=◌ : {A B : Type 0} → Result A VcdFault → (A → Result B VcdFault) → Result B VcdFault
(Ok x) >>= f = f x
(Err e) >>= f = Err e

-- the dump that tokens give from a reading on, or their first fault
abbrev pub dump_from : ℕ → List Token → Reading → Result Dump VcdFault
dump_from len [] r = end_of r len
dump_from len (t ∷ ts) r = next r t >>= dump_from len ts

-- what a text tells, or its first fault from the left
unfoldable pub dump_of : List ℕ → Result Dump VcdFault
dump_of text = dump_from (length text) (tokens_of text) start
