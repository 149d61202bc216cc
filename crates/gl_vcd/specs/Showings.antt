-- What the cycles of a dump show while no signal changes, and what writes their lines.
-- A middle layer, proved equal to `Signals`: no promise rests on it.
use Rattle.std.specs.Prelude.{◌≡◌, ◌+◌, ◌-◌, ℕ, zero, suc, Bool, false, ◌||◌, List, [], ◌∷◌, map, Option, option_and_then, unwrap_or}
use Rattle.gl_bits.specs.Words.{Word, widths_of}
use Rattle.gl_tuples.specs.declared.lines.Sample.{Sample}
use Rattle.gl_tuples.specs.Pieces.{sampled}
use Rattle.gl_outside.specs.States.{Broke, SinkState, Took}
use Rattle.gl_schema.specs.Ports.{PortValues, fault_group, out_eos, out_valid}
use Rattle.gl_schema.specs.Seen.{Shown, lines_after, shown}
use Rattle.gl_vcd.specs.declared.columns.Columns.{Columns}
use Rattle.gl_vcd.specs.declared.outcome.Undump.{Undump}
use Rattle.gl_vcd.specs.declared.outcome.Undump.TheVariants.{Done, Fault, WriteFault, Memory}
use Rattle.gl_vcd.specs.declared.showing.Showing.{Showing}
use Rattle.gl_vcd.specs.Reading.{Reading}
use Rattle.gl_vcd.specs.Signals.{Dump, Signal, columns_of, kind_of, lines_of, number_of_name, ports_of, show_none}
use Rattle.gl_vcd.specs.Standing.{IsIndexed, bits_in, now_of, signals_of}

-- ---- cycles in which no signal changes

-- the value of a signal of this number, 0 where it has none
abbrev pub value_in : List (Option Word) → Option ℕ → ℕ
value_in values number = unwrap_or (option_and_then (bits_in values) number) 0

-- the ports, with these values in every cycle
abbrev pub steady : List Signal → List (Option Word) → PortValues
steady signals values t name = option_and_then (bits_in values) (number_of_name signals name)

-- the names of the signals that show columns
abbrev pub names_shown : List Signal → List (List ℕ)
names_shown signals = map (λ s. s.name) (columns_of signals)

-- so many cycles of a file from one on
abbrev pub shown_from : PortValues → List (List ℕ) → ℕ → ℕ → List Shown
shown_from port outs n zero = []
shown_from port outs n (suc k) = shown port outs n ∷ shown_from port outs (n + 1) k

-- so many cycles from one on that all show this
abbrev pub cycles_of : Sample → List ℕ → ℕ → ℕ → List Shown
cycles_of sample row n zero = []
cycles_of sample row n (suc k) = sampled sample n row ∷ cycles_of sample row (n + 1) k

-- a further group came before, or in one of these cycles
abbrev pub told_after : Bool → List Shown → Bool
told_after told [] = told
told_after told (s ∷ all) = told_after (told || s.group) all

-- ---- what shows a result

-- the columns among these signals, by their numbers, and the kinds by which they are printed
pub record AreColumns (signals : List Signal) (c : Columns) : Type 0 where
  pub numbers' : c.numbers.items ≡ map (λ s. number_of_name signals s.name) (columns_of signals)
  pub kinds' : c.kinds.items ≡ map kind_of (columns_of signals)

-- the lines and the columns are those of the signals
pub record IsShowing (s : Showing) : Type 0 where
  pub indexed : IsIndexed s.signals.now
  pub shows : show_none (signals_of s.signals.now) ≡ false
  pub valid' : s.valid ≡ number_of_name (signals_of s.signals.now) out_valid
  pub end' : s.end ≡ number_of_name (signals_of s.signals.now) out_eos
  pub group' : s.group ≡ number_of_name (signals_of s.signals.now) fault_group
  pub columns' : AreColumns (signals_of s.signals.now) s.columns
  pub widths' : widths_of s.row ≡ map (λ c. c.width) (columns_of (signals_of s.signals.now))

-- the other is the same but for what its columns show and what it has told
pub record IsLike (s s' : Showing) : Type 0 where
  pub signals' : s'.signals ≡ s.signals
  pub kinds' : s'.columns ≡ s.columns
  pub is : IsShowing s'

-- ---- the whole

-- the lines that are left of a dump behind what was read of it
abbrev pub lines_left : Bool → Dump → Reading → List ℕ
lines_left told dump r =
    let columns = columns_of dump.signals in
    lines_after told (map kind_of columns)
    (shown_from (ports_of dump) (map (λ s. s.name) columns) (now_of r) (dump.last - now_of r))

-- what showing a dump that was judged comes to
abbrev pub ShowsAll : Dump → SinkState → SinkState → Undump → Type 0
ShowsAll dump old new Done = Took old new (lines_of dump)
ShowsAll dump old new WriteFault = Broke old new (lines_of dump)
ShowsAll dump old new Memory = new ≡ old
ShowsAll dump old new (Fault fault) = ⊥
