-- Blocks, as what stands between an old netlist and a new one.
use Rattle.std.specs.Prelude.{◌≡◌, ℕ, List}
use Rattle.gl_algebra.specs.declared.figures.Figures.{Figures}
use Rattle.gl_algebra.specs.Values.{Sets}
use Rattle.gl_net.specs.Net.{Net, Run, IsRun, Keeps}
use Rattle.gl_wire.specs.declared.emitted.Emitted.{Emitted}
use Rattle.gl_wire.specs.Costs.{Cost, CostsAtMost}
use Rattle.gl_wire.specs.Faults.{AreLines, lines_of}
use Rattle.gl_wire.specs.Spills.{Condition, Lines, Relation, Relation2, SameLines, ServesWithLines, ServesWhen2, both_lines}
use Rattle.gl_wire.specs.Wire.{Carried, IsWire, carried, widths}

-- a block behind a wire, with the lines that there are: its wire has this shape in every run, for the words of the
-- parameters that the run holds
pub record IsBehind (old new : Net) (Shape : Sets → Carried → Carried → Type 0) (columns : List ℕ) (most : Cost)
    (a b : Emitted) : Type 0 where
  pub keeps : Keeps old new
  pub cost : CostsAtMost old new most
  pub wire : IsWire new b.wire
  pub same_widths : widths b.wire.columns ≡ columns
  pub faults : b.faults ≡ a.faults
  pub shape : (run : Run) → IsRun new run → Shape run.held (carried run a.wire) (carried run b.wire)

-- a block behind a wire, with lines of its own
pub record IsBehindLines (old new : Net) (f g : Figures) (means : Sets → Relation) (columns : List ℕ) (most : Cost)
    (a b : Emitted) : Type 0 where
  pub keeps : Keeps old new
  pub cost : CostsAtMost old new most
  pub wire : IsWire new b.wire
  pub same_widths : widths b.wire.columns ≡ columns
  pub lines : AreLines new b.faults
  pub serves : (run : Run) → IsRun new run → (own : Lines)
      × SameLines (lines_of run b.faults) (both_lines (lines_of run a.faults) own)
      × ServesWithLines f g (means run.held) own (carried run a.wire) (carried run b.wire)

-- a block behind two wires that meet a condition; its wire owes a pace beside
pub record IsBehind2 (old new : Net) (Cond : Condition) (Pace : Carried → Carried → Carried → Type 0) (f g h : Figures)
    (means : Relation2) (columns : List ℕ) (most : Cost) (a b o : Emitted) : Type 0 where
  pub keeps : Keeps old new
  pub cost : CostsAtMost old new most
  pub wire : IsWire new o.wire
  pub same_widths : widths o.wire.columns ≡ columns
  pub lines : AreLines new o.faults
  pub paced : (run : Run) → IsRun new run → Pace (carried run a.wire) (carried run b.wire) (carried run o.wire)
  pub serves : (run : Run) → IsRun new run → (own : Lines)
      × SameLines (lines_of run o.faults) (both_lines (both_lines (lines_of run a.faults) (lines_of run b.faults)) own)
      × ServesWhen2 Cond f g h means own (carried run a.wire) (carried run b.wire) (carried run o.wire)

-- a block whose wire owes no pace
abbrev pub any_pace : Carried → Carried → Carried → Type 0
any_pace a b o = Unit {0}
