-- What is seen on the output ports of a module, and the lines that tell it.
use Rattle.std.specs.Prelude.{ℕ, zero, suc, Bool, false, not, ◌&&◌, ◌||◌, List, [], ◌∷◌, ◌++◌, map, Option, Some, None, codes, unwrap_or, ◌==◌, if◌then◌else◌, decimal, filter_map}
use Rattle.std.specs.List.{list_any, flat_map}
use Rattle.std.specs.Fmt.{signed_decimal}
use Rattle.std.specs.Int.{bytes_high_first}
use Rattle.gl_values.specs.declared.kind.Kind.{Kind}
use Rattle.gl_values.specs.Kinds.{bytes_in, is_number, number_of}
use Rattle.gl_schema.specs.Ports.{PortValues, out_valid, out_eos, fault_group, fault_queue}

-- what a file cycle shows: a row, the end, that a further group came, that a queue overflowed
pub record Shown : Type 0 where
  pub cycle : ℕ
  pub row : Option (List ℕ)
  pub end : Bool
  pub group : Bool
  pub queue : Bool

-- the value of a port, 0 where the module lacks it
abbrev pub value_at : PortValues → ℕ → List ℕ → ℕ
value_at port t name = unwrap_or (port t name) 0

-- a line is high
abbrev pub is_high : PortValues → ℕ → List ℕ → Bool
is_high port t name = value_at port t name == 1

-- the columns of the result, by the names of their ports, where a row leaves
abbrev pub row_shown : PortValues → List (List ℕ) → ℕ → Option (List ℕ)
row_shown port outs t = if is_high port t out_valid then Some (map (value_at port t) outs) else None

-- what file cycle n shows: it is simulation cycle n + 1
unfoldable pub shown : PortValues → List (List ℕ) → ℕ → Shown
shown port outs n = record {
  cycle = n;
  row = row_shown port outs (suc n);
  end = is_high port (suc n) out_eos;
  group = is_high port (suc n) fault_group;
  queue = is_high port (suc n) fault_queue;
}

-- file cycles 0 to n
abbrev pub seen : PortValues → List (List ℕ) → ℕ → List Shown
seen port outs zero = shown port outs 0 ∷ []
seen port outs (suc n) = seen port outs n ++ shown port outs (suc n) ∷ []

-- the rows that are seen, in their order
abbrev pub rows_of : List Shown → List (List ℕ)
rows_of all = filter_map (λ s. s.row) all

-- a byte in front of a text, but no zero byte in front of nothing
abbrev pub before : ℕ → List ℕ → List ℕ
before zero [] = []
before (suc b) [] = suc b ∷ []
before b (c ∷ cs) = b ∷ c ∷ cs

-- the bytes without the zero bytes at their end
abbrev pub unpadded : List ℕ → List ℕ
unpadded [] = []
unpadded (b ∷ bs) = before b (unpadded bs)

-- a double quote is written twice
abbrev pub doubled_byte : ℕ → List ℕ
doubled_byte b = if b == 34 then 34 ∷ 34 ∷ [] else b ∷ []

-- a text in which each double quote is written twice
abbrev pub doubled : List ℕ → List ℕ
doubled bytes = flat_map doubled_byte bytes

-- a text has a comma or a double quote
unfoldable pub needs_quotes : List ℕ → Bool
needs_quotes text = list_any (λ b. (b == 44) || (b == 34)) text

-- in double quotes where it needs them, as in a record of comma-separated values (RFC 4180)
abbrev pub quoted : List ℕ → List ℕ
quoted text = if needs_quotes text then 34 ∷ (doubled text ++ 34 ∷ []) else text

-- a value of a kind as it is printed: a number in decimal, the bytes of a text, the highest first, without its padding
unfoldable pub printed : Kind → ℕ → List ℕ
printed kind v =
    if is_number kind then signed_decimal (number_of kind v) else quoted (unpadded (bytes_high_first (bytes_in kind) v))

-- the values of a row, each behind a comma
abbrev pub values_text : List Kind → List ℕ → List ℕ
values_text [] row = []
values_text (k ∷ ks) [] = []
values_text (k ∷ ks) (v ∷ vs) = 44 ∷ (printed k v ++ values_text ks vs)

-- the line of a result
unfoldable pub line_of : ℕ → List Kind → List ℕ → List ℕ
line_of cycle kinds row = decimal cycle ++ values_text kinds row ++ 10 ∷ []

-- the line that says that a further group came
unfoldable pub overflow_line : ℕ → List ℕ
overflow_line cycle = decimal cycle ++ codes ",overflow" ++ 10 ∷ []

-- the line that tells the end: its cycle, and `end`
unfoldable pub end_line : ℕ → List ℕ
end_line cycle = decimal cycle ++ codes ",end" ++ 10 ∷ []

-- the line of a row, if there is one
abbrev pub row_line : List Kind → ℕ → Option (List ℕ) → List ℕ
row_line kinds cycle None = []
row_line kinds cycle (Some row) = line_of cycle kinds row

-- the lines of one cycle: overflow where it is told for the first time, then the result, then the end
abbrev pub cycle_lines : List Kind → Bool → Shown → List ℕ
cycle_lines kinds told s =
    (if s.group && not told then overflow_line s.cycle else []) ++ row_line kinds s.cycle s.row
    ++ (if s.end then end_line s.cycle else [])

-- the lines of cycles, where the overflow was told before or not
abbrev pub lines_after : Bool → List Kind → List Shown → List ℕ
lines_after told kinds [] = []
lines_after told kinds (s ∷ all) = cycle_lines kinds told s ++ lines_after (told || s.group) kinds all

-- the result file
abbrev pub lines : List Kind → List Shown → List ℕ
lines kinds all = lines_after false kinds all
