-- What the watcher that dumps a run keeps.
-- A middle layer: no promise rests on it.
use Rattle.std.specs.Prelude.{◌≡◌, ℕ, suc, ◌+◌, ◌≤◌, Option, Result, Ok, Err, List, [], ◌∷◌, ◌++◌, length, map, take, bytes_eq, if◌then◌else◌}
use Rattle.std.specs.List.{AllByRecursion}
use Rattle.gl_bits.specs.Words.{widths_of}
use Rattle.gl_outside.specs.declared.writing.WriteFault.{WriteFault}
use Rattle.gl_schema.specs.Ports.{PortValues, out_eos}
use Rattle.gl_schema.specs.Profile.{clk}
use Rattle.gl_verilog.specs.declared.module.Module.{Module as Here}
use Rattle.gl_verilog.specs.Module.{Declaration, Module, Memories, Nets, number_of}
use Rattle.gl_verilog.specs.Run.{port_of}
use Rattle.gl_verilog.specs.View.{module_of}
use Rattle.gl_verilog.specs.Widths.{HasSize}
use Rattle.gl_verilog_ports.specs.Profile as profile
use Rattle.gl_verilog_ports.specs.Profile.{result_names}
use Rattle.gl_vcd.specs.Written.{ports_of}
use Rattle.gl_runner.specs.Cycles.{Driven, HasPlainPorts, IsBefore, design_of}
use Rattle.gl_runner.specs.Prints.{EndsWithin}
use Rattle.gl_runner.specs.declared.dumping.DumpLines.{DumpLines}
use Rattle.gl_runner.specs.declared.executing.Outcome.{Outcome}
use Rattle.gl_runner.specs.declared.executing.Outcome.TheVariants as ended
use Rattle.gl_runner.specs.Probes.{IsLineIn}
use Rattle.gl_runner.specs.Watches.{end_of_cycle, row_in}

-- the numbers of the ports but the clock, from one on
abbrev pub numbers_from : ℕ → List Declaration → List ℕ
numbers_from n [] = []
numbers_from n (d ∷ ds) = if bytes_eq d.name clk then numbers_from (n + 1) ds else n ∷ numbers_from (n + 1) ds

-- the numbers of a module's ports, the clock left out
abbrev pub numbers_of : Module → List ℕ
numbers_of m = numbers_from 0 (take m.ports m.declarations)

-- the widths of a module's ports, the clock left out
abbrev pub widths_in : Module → List ℕ
widths_in m = map (λ p. p.width) (ports_of m)

-- a module's ports are declared, of 1 to 128 bits each, and no more than a dump has identifiers
pub record CanDump (face : Here) : Type 0 where
  pub inside : face.ports ≤ length face.declarations
  pub sizes : AllByRecursion HasSize (module_of face).declarations
  pub few : length (ports_of (module_of face)) ≤ 8836

-- the number of the port that shows the end
abbrev pub end_in : Module → Option ℕ
end_in m = number_of (profile.ports_of m) out_eos

-- the watcher has a place for each port of the module but the clock, and knows where the end is shown
pub record IsRoomFor (m : Module) (w : DumpLines) : Type 0 where
  pub ports' : w.ports.items ≡ numbers_of m
  pub now' : widths_of w.now ≡ widths_in m
  pub before' : widths_of w.before ≡ widths_in m
  pub end' : w.end ≡ end_in m

-- the watcher has room for the module's ports and waits for the first cycle
pub record IsInFront (m : Module) (w : DumpLines) : Type 0 where
  pub room : IsRoomFor m w
  pub next' : w.next ≡ 0

-- the watcher holds no port of the module yet
pub record IsEmptyFor (face : Here) (w : DumpLines) : Type 0 where
  pub can : CanDump face
  pub ports' : w.ports.items ≡ []
  pub now' : w.now ≡ []
  pub before' : w.before ≡ []
  pub next' : w.next ≡ 0
  pub end' : w.end ≡ end_in (module_of face)

-- one has a port more than the other
pub record Adds (number width : ℕ) (old new : DumpLines) : Type 0 where
  pub next' : new.next ≡ old.next
  pub end' : new.end ≡ old.end
  pub ports' : new.ports.items ≡ old.ports.items ++ number ∷ []
  pub now' : widths_of new.now ≡ widths_of old.now ++ width ∷ []
  pub before' : widths_of new.before ≡ widths_of old.before ++ width ∷ []

-- the watcher is made for this module
pub record Serves (w : DumpLines) (m : Module) : Type 0 where
  pub room : IsRoomFor m w
  pub few : length (ports_of m) ≤ 8836
  pub plain : HasPlainPorts m
  pub line' : IsLineIn m out_eos

-- how dumping ended, by whether all was written
abbrev pub outcome_in : Result (Unit {0}) WriteFault → Outcome
outcome_in (Ok u) = ended.Done
outcome_in (Err e) = ended.WriteFault

-- the cycles of a run in front of this one were watched: the row of the one before is kept, and whether it was the end
pub record StandsDumped (w : DumpLines) (m : Module) (port : PortValues) (n : ℕ) : Type 0 where
  pub next' : w.next ≡ n
  pub before' : (k : ℕ) → n ≡ suc k → w.before ≡ row_in (ports_of m) port k
  pub ended' : (k : ℕ) → n ≡ suc k → w.ended ≡ end_of_cycle m port k

-- a fact of a module and its ports in each run in which it is before its next cycle, and which ends in time
abbrev pub OfTimelyDriven : Driven → (Module → PortValues → Type 0) → Type 0
OfTimelyDriven d P =
    (value : ℕ → Nets) (word : ℕ → Memories) → IsBefore d value word
    → EndsWithin d.extra d.beats (result_names (design_of d)) (port_of (design_of d) value)
    → P (design_of d) (port_of (design_of d) value)
