-- What a dump tells: signals, and the values that they are given from some time on.
use Rattle.std.specs.Prelude.{ℕ, zero, suc, Bool, true, not, ◌&&◌, ◌==◌, List, [], ◌∷◌, map, filter, take, Option, Some, None, is_some, bytes_eq, codes, nat_eq, nat_le, nat_lt, length, if◌then◌else◌}
use Rattle.std.specs.List.{list_any, position}
use Rattle.gl_values.specs.declared.kind.Kind.{Kind}
use Rattle.gl_values.specs.declared.kind.Kind.TheVariants.{Unsigned}
use Rattle.gl_schema.specs.Ports.{PortValues, out_valid, out_eos, fault_group}
use Rattle.gl_schema.specs.Seen.{seen, lines, Shown}

-- a signal by its identifier, with its name and its bits
pub record Signal : Type 0 where
  pub code : List ℕ
  pub name : List ℕ
  pub width : ℕ

-- a signal of this number has this value from a time on
pub record Change : Type 0 where
  pub time : ℕ
  pub signal : ℕ
  pub value : ℕ

-- what a text tells: its signals in their order, the changes in theirs, and the last time
pub record Dump : Type 0 where
  pub signals : List Signal
  pub changes : List Change
  pub last : ℕ

-- the value that a signal is given last, at a time or before it
abbrev pub given_from : Option ℕ → List Change → ℕ → ℕ → Option ℕ
given_from given [] signal time = given
given_from given (c ∷ cs) signal time =
    given_from (if nat_eq c.signal signal && nat_le c.time time then Some c.value else given) cs signal time

-- the value that a signal was given last up to a time, if any
unfoldable pub value_at : List Change → ℕ → ℕ → Option ℕ
value_at changes signal time = given_from None changes signal time

-- the first so many signals all have a value in time 0
abbrev pub all_given : List Change → ℕ → Bool
all_given changes zero = true
all_given changes (suc n) = is_some (value_at changes n 0) && all_given changes n

-- the number of the signal with this identifier
abbrev pub number_of_code : List Signal → List ℕ → Option ℕ
number_of_code signals code = position (λ s. bytes_eq s.code code) signals

-- the number of the signal with this name
abbrev pub number_of_name : List Signal → List ℕ → Option ℕ
number_of_name signals name = position (λ s. bytes_eq s.name name) signals

-- ---- as the ports of a module

-- the values of signals in the cycles of a file, file cycle n being simulation cycle n + 1: each has the value that it was
-- given last
abbrev pub value_of : Dump → ℕ → Option ℕ → Option ℕ
value_of dump n None = None
value_of dump n (Some signal) = value_at dump.changes signal n

-- the signals of a dump as ports of a run; simulation cycle 0 comes before the dump's first time
abbrev pub ports_of : Dump → PortValues
ports_of dump zero name = None
ports_of dump (suc n) name = value_of dump n (number_of_name dump.signals name)

-- a signal shows a column of a result
abbrev pub shows_column : Signal → Bool
shows_column s =
    bytes_eq (take 5 s.name) (codes "out__") && not (bytes_eq s.name out_valid) && not (bytes_eq s.name out_eos)

-- the signals that show the columns of a result, in their order
abbrev pub columns_of : List Signal → List Signal
columns_of signals = filter shows_column signals

-- a signal of this name and one bit is there
abbrev pub has_line : List Signal → List ℕ → Bool
has_line signals name = list_any (λ s. bytes_eq s.name name && (s.width == 1)) signals

-- a signal of this name with more bits is there
abbrev pub has_wide : List Signal → List ℕ → Bool
has_wide signals name = list_any (λ s. bytes_eq s.name name && nat_lt 1 s.width) signals

-- at most 32 columns, none of more than 64 bits
abbrev pub are_columns : List Signal → Bool
are_columns signals =
    nat_le (length (columns_of signals)) 32 && not (list_any (λ s. nat_lt 64 s.width) (columns_of signals))

-- the signals show no result: its lines are not there, or its columns are too many or too wide
unfoldable pub show_none : List Signal → Bool
show_none signals =
    not (has_line signals out_valid && has_line signals out_eos && not (has_wide signals fault_group)
    && are_columns signals)

-- what is shown in the first so many cycles of a file
abbrev pub seen_below : PortValues → List (List ℕ) → ℕ → List Shown
seen_below port outs zero = []
seen_below port outs (suc n) = seen port outs n

-- a column's kind: a number of its bits, so that values are printed in decimal
abbrev pub kind_of : Signal → Kind
kind_of s = Unsigned s.width

-- the lines of the result that a dump shows
unfoldable pub lines_of : Dump → List ℕ
lines_of dump =
    let columns = columns_of dump.signals in
    lines (map kind_of columns) (seen_below (ports_of dump) (map (λ s. s.name) columns) dump.last)
