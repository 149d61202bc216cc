-- The text of a dump as it is written: of each port an identifier of two bytes, and of each cycle the ports that differ
-- from the cycle before.
use Rattle.std.specs.Prelude.{ℕ, ◌+◌, ◌/◌, ◌%◌, Bool, true, false, not, ◌||◌, List, [], ◌∷◌, ◌++◌, take, Option, Some, None, bytes_eq, codes, decimal, nat_eq, slice_get, if◌then◌else◌}
use Rattle.std.specs.Fmt.{digits_onto}
use Rattle.gl_bits.specs.Words.{Word}
use Rattle.gl_schema.specs.Profile.{clk}
use Rattle.gl_verilog.specs.Module.{Declaration, Module}
use Rattle.gl_vcd.specs.Dumped.{Port}

-- a declaration as a port of the dump: its name and its width
abbrev pub port_declared : Declaration → Port
port_declared d = record { name = d.name; width = d.width }

-- the ports of a module in their order, but for the clock
abbrev pub ports_among : List Declaration → List Port
ports_among [] = []
ports_among (d ∷ ds) = if bytes_eq d.name clk then ports_among ds else port_declared d ∷ ports_among ds

-- the ports of a module as the dump shows them, the clock left out
abbrev pub ports_of : Module → List Port
ports_of m = ports_among (take m.ports m.declarations)

-- a line
abbrev pub line : List ℕ → List ℕ
line text = text ++ 10 ∷ []

-- ---- what stands in front of the first time

-- the identifier of port i
abbrev pub code_of : ℕ → List ℕ
code_of i = (33 + i / 94) ∷ (33 + i % 94) ∷ []

-- the line that declares a port, under the identifier of its number
abbrev pub declaration : ℕ → Port → List ℕ
declaration i p = line (codes "$var wire " ++ decimal p.width ++ 32 ∷ (code_of i ++ 32 ∷ (p.name ++ codes " $end")))

-- one line for each port, numbered from here on
abbrev pub declarations : ℕ → List Port → List ℕ
declarations i [] = []
declarations i (p ∷ ps) = declaration i p ++ declarations (i + 1) ps

-- what stands before the first time: the unit of time, the module as the one scope, and its ports
unfoldable pub header : List ℕ → List Port → List ℕ
header name ports =
    line (codes "$timescale 1 ns $end") ++ line (codes "$scope module " ++ name ++ codes " $end")
    ++ declarations 0 ports ++ line (codes "$upscope $end") ++ line (codes "$enddefinitions $end")

-- ---- the cycles of a file, of each a row of words, one for each port

-- binary digits without leading zeros, of a number of at most 128 bits
unfoldable pub binary : ℕ → List ℕ
binary v = digits_onto 128 2 false v []

-- a bit in front of the identifier, or `b`, binary digits and a space
abbrev pub value_text : Word → List ℕ
value_text w = if nat_eq w.width 1 then decimal w.bits else 98 ∷ (binary w.bits ++ 32 ∷ [])

-- the line that gives a port its value
abbrev pub change : ℕ → Word → List ℕ
change i w = line (value_text w ++ code_of i)

-- a port differs from the row before, or there is none before
abbrev pub differs : Option Word → Word → Bool
differs None w = true
differs (Some old) w = not (nat_eq old.bits w.bits)

-- a word differs from that of the row before, or no row is before
abbrev pub is_new : Option (List Word) → ℕ → Word → Bool
is_new None i w = true
is_new (Some before) i w = differs (slice_get before i) w

-- the lines of the ports that changed, from a place of the row on
abbrev pub changes : Option (List Word) → ℕ → List Word → List ℕ
changes before i [] = []
changes before i (w ∷ ws) = (if is_new before i w then change i w else []) ++ changes before (i + 1) ws

-- some word of a row differs from the row before
abbrev pub has_new : Option (List Word) → ℕ → List Word → Bool
has_new before i [] = false
has_new before i (w ∷ ws) = is_new before i w || has_new before (i + 1) ws

-- a row is told: it is the first, or differs from the one before
abbrev pub is_told : Option (List Word) → List Word → Bool
is_told None now = true
is_told (Some before) now = has_new (Some before) 0 now

-- `#` and the time
abbrev pub time_line : ℕ → List ℕ
time_line at = line (35 ∷ decimal at)

-- a cycle, behind a row or as the first
unfoldable pub cycle : ℕ → Option (List Word) → List Word → List ℕ
cycle at before now = (if is_told before now then time_line at else []) ++ changes before 0 now

-- the cycles from a time on, and the time behind the last
abbrev pub cycles : ℕ → Option (List Word) → List (List Word) → List ℕ
cycles at before [] = time_line at
cycles at before (row ∷ rows) = cycle at before row ++ cycles (at + 1) (Some row) rows

-- the dump of a module of a name with these ports, over cycles with these rows
unfoldable pub dump_text : List ℕ → List Port → List (List Word) → List ℕ
dump_text name ports rows = header name ports ++ cycles 0 None rows
