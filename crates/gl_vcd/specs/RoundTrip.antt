-- What is written of a run is a dump of that run, and shows its lines.
use Rattle.std.specs.Prelude.{◌≡◌, ℕ, suc, ◌+◌, ◌≤◌, Bool, true, false, not, ◌&&◌, List, [], ◌∷◌, length, map, Option, Some, None, bytes_eq, codes, slice_get, if◌then◌else◌}
use Rattle.std.specs.List.{AllByRecursion, list_any}
use Rattle.gl_bits.specs.Limits.{latest_time, most_ports}
use Rattle.gl_bits.specs.Words.{IsWidth, IsWord, Word, widths_of}
use Rattle.gl_schema.specs.Ports.{PortValues}
use Rattle.gl_schema.specs.SchemaText.{is_blank}
use Rattle.gl_schema.specs.Seen.{lines}
use Rattle.gl_vcd.specs.Dumped.{IsDumped, OfLines, Port}
use Rattle.gl_vcd.specs.Signals.{Signal, columns_of, kind_of, seen_below, show_none}
use Rattle.gl_vcd.specs.Written.{code_of, dump_text}

-- a name is one token, and does not end a section
abbrev pub is_named : List ℕ → Bool
is_named [] = false
is_named (b ∷ bs) = not (list_any is_blank (b ∷ bs)) && not (bytes_eq (b ∷ bs) (codes "$end"))

-- no two names are one
abbrev pub AreApart : List (List ℕ) → Type 0
AreApart [] = Unit {0}
AreApart (name ∷ names) = (list_any (bytes_eq name) names ≡ false) × AreApart names

-- the names of ports in their order
abbrev pub names_of : List Port → List (List ℕ)
names_of ports = map (λ p. p.name) ports

-- the signal that is declared of a port with a number
abbrev pub signal_at : ℕ → Port → Signal
signal_at i p = record { code = code_of i; name = p.name; width = p.width }

-- the signals that are declared of ports, from a number on
abbrev pub signals_from : ℕ → List Port → List Signal
signals_from i [] = []
signals_from i (p ∷ ps) = signal_at i p ∷ signals_from (i + 1) ps

-- a row has a word of each port
pub record IsRow (ports : List Port) (row : List Word) : Type 0 where
  pub widths : widths_of row ≡ map (λ p. p.width) ports
  pub words : AllByRecursion IsWord row

-- ports that show a result, and one row or more
pub record CanDump (name : List ℕ) (ports : List Port) (rows : List (List Word)) : Type 0 where
  pub named : is_named name ≡ true
  pub names : AllByRecursion (λ n. is_named n ≡ true) (names_of ports)
  pub apart : AreApart (names_of ports)
  pub widths : AllByRecursion (λ p. IsWidth p.width) ports
  pub few : length ports ≤ most_ports
  pub shows : show_none (signals_from 0 ports) ≡ false
  pub rows' : AllByRecursion (IsRow ports) rows
  pub some' : 1 ≤ length rows
  pub short : length rows ≤ latest_time

-- the value of the port of a name in a row
abbrev pub value_named : List Port → List Word → List ℕ → Option ℕ
value_named (p ∷ ps) (w ∷ ws) name = if bytes_eq p.name name then Some w.bits else value_named ps ws name
value_named ps ws name = None

-- in file cycle n, which is simulation cycle n + 1, the ports have the values of row n
abbrev pub IsRunOver : List Port → List (List Word) → PortValues → Type 0
IsRunOver ports rows run =
    (n : ℕ) (row : List Word) → slice_get rows n ≡ Some row
    → (name : List ℕ) → run (suc n) name ≡ value_named ports row name

-- the lines of a run over these ports in the first so many cycles of a file, values in decimal
abbrev pub lines_over : List Port → PortValues → ℕ → List ℕ
lines_over ports run cycles =
    let columns = columns_of (signals_from 0 ports) in
    lines (map kind_of columns) (seen_below run (map (λ s. s.name) columns) cycles)

-- a text is a dump of a run and shows the lines of that run
pub record ReadsBack (text : List ℕ) (ports : List Port) (cycles : ℕ) (run : PortValues) : Type 0 where
  pub dumped : IsDumped text ports cycles run
  pub shows : OfLines text (λ bytes. bytes ≡ lines_over ports run cycles)

-- what is written of a run, over ports that can be dumped, reads back as that run with its lines
abbrev pub DumpsReadBack : Type 0
DumpsReadBack =
    (name : List ℕ) (ports : List Port) (rows : List (List Word)) (run : PortValues)
    → CanDump name ports rows → IsRunOver ports rows run
    → ReadsBack (dump_text name ports rows) ports (length rows) run
