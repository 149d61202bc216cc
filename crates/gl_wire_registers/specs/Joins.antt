-- What copies give, on one wire, and the lines of all copies together.
use Rattle.std.specs.Prelude.{◌≡◌, ℕ, ◌+◌, ◌-◌, ◌*◌, List, [], ◌∷◌, length, map, Option, Some, None, slice_get}
use Rattle.std.specs.List.{sum}
use Rattle.gl_net.specs.declared.node.Bit.{Bit}
use Rattle.gl_net.specs.Net.{Net, Run, IsRun, Keeps}
use Rattle.gl_wire.specs.declared.emitted.Emitted.{Emitted}
use Rattle.gl_wire.specs.declared.emitted.Faults.{Faults}
use Rattle.gl_wire.specs.declared.wire.Wire.{Wire}
use Rattle.gl_wire.specs.Costs.{Cost, CostsAtMost, nodes_alone}
use Rattle.gl_wire.specs.Faults.{AreLines, lines_of, no_faults}
use Rattle.gl_wire.specs.Shapes.{IsDelayed}
use Rattle.gl_wire.specs.Spills.{Lines, SameLines, both_lines, no_lines}
use Rattle.gl_wire.specs.Wire.{Carried, IsWire, carried, line_at, widths}
use Rattle.gl_wire.specs.Lift.{tuple_of_any}
use Rattle.gl_wire.specs.Rotates.{lines_of_all}
use Rattle.gl_wire_registers.specs.Lines.{carried_of}

-- a back of so many copies, which give these columns, and the lines of all copies
abbrev pub cost_of_back : ℕ → List ℕ → Cost
cost_of_back copies own = record {
  nodes = copies * 2 + copies * (length own + 1) + length own + 3;
  registers = sum own + 2;
  memories = 0;
}

-- the wires of copies, in their order
abbrev pub wires_of : List Emitted → List Wire
wires_of copies = map (λ e. e.wire) copies

-- what each copy's wire carries in a run, by the copy's number
abbrev pub gives_of : Run → List Emitted → ℕ → Carried
gives_of run copies = carried_of run (wires_of copies)

-- the lines of a copy
abbrev pub told_by : Run → Option Emitted → Lines
told_by run None = no_lines
told_by run (Some e) = lines_of run e.faults

-- the lines of faults of each copy in a run, by the copy's number
abbrev pub told_of : Run → List Emitted → ℕ → Lines
told_of run copies k = told_by run (slice_get copies k)

-- the columns of copies, those of the first one
abbrev pub columns_of : List Emitted → List ℕ
columns_of [] = []
columns_of (e ∷ es) = widths e.wire.columns

-- the lines of copies are in the netlist
pub record HaveLines (net : Net) (copies : List Emitted) : Type 0 where
  pub each : (k : ℕ) (e : Emitted) → slice_get copies k ≡ Some e → AreLines net e.faults

-- copies with the same columns are in the netlist
pub record AreCopies (net : Net) (copies : List Emitted) : Type 0 where
  pub each : (k : ℕ) (e : Emitted) → slice_get copies k ≡ Some e → IsWire net e.wire
  pub same_widths : (k : ℕ) (e : Emitted) → slice_get copies k ≡ Some e → widths e.wire.columns ≡ columns_of copies
  pub lines : HaveLines net copies

-- the lines of the first copy, where there is one
abbrev pub faults_of : List Emitted → Faults
faults_of [] = no_faults
faults_of (e ∷ es) = e.faults

-- the lines of all these copies together
pub record JoinsAlone (old new : Net) (copies : List Emitted) (faults : Faults) : Type 0 where
  pub keeps : Keeps old new
  pub cost : CostsAtMost old new (nodes_alone ((length copies - 1) * 2))
  pub are : AreLines new faults
  pub told : (run : Run) → IsRun new run
      → SameLines (lines_of run faults) (lines_of_all (told_of run copies) (length copies))

-- the lines of a source and of the first n copies together
pub record JoinsLines (old new : Net) (source : Faults) (copies : List Emitted) (n : ℕ) (faults : Faults) : Type 0 where
  pub keeps : Keeps old new
  pub cost : CostsAtMost old new (nodes_alone (n * 2))
  pub are : AreLines new faults
  pub told : (run : Run) → IsRun new run → SameLines (lines_of run faults)
      (both_lines (lines_of run source) (lines_of_all (told_of run copies) n))

-- a wire behind copies, and all their lines
pub record JoinsAll (old new : Net) (source : Faults) (close : Bit) (copies : List Emitted) (e : Emitted) : Type 0 where
  pub keeps : Keeps old new
  pub cost : CostsAtMost old new (cost_of_back (length copies) (columns_of copies))
  pub wire : IsWire new e.wire
  pub same_widths : widths e.wire.columns ≡ columns_of copies
  pub lines : AreLines new e.faults
  pub told : (run : Run) → IsRun new run
      → SameLines (lines_of run e.faults) (both_lines (lines_of run source)
      (lines_of_all (told_of run copies) (length copies)))
  pub delayed : (run : Run) → IsRun new run
      → IsDelayed 1 (record { tuple = tuple_of_any (gives_of run copies) (length copies); ends = line_at run close })
      (carried run e.wire)
