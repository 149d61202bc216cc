-- What an operator of one input promises of its wire.
use Rattle.gl_algebra.specs.declared.figures.Figures.{Figures}
use Rattle.gl_algebra.specs.FigureTable.{IsSound}
use Rattle.gl_algebra.specs.Values.{Sets}
use Rattle.gl_net.specs.Net.{Net, Run, IsRun}
use Rattle.gl_wire.specs.declared.emitted.Emitted.{Emitted}
use Rattle.gl_wire.specs.Serves.{Meaning, Serves}
use Rattle.gl_wire.specs.Wire.{carried}

-- in every run, a wire serves a meaning of what stands before it, for all sound figures; the meaning goes by the words
-- of the parameters that the run holds
abbrev pub ServesIn : Net → (Figures → Figures) → (Sets → Meaning) → Emitted → Emitted → Type 0
ServesIn net figures means a b =
    (run : Run) → IsRun net run → (f : Figures) → IsSound f
    → Serves f (figures f) (means run.held) (carried run a.wire) (carried run b.wire)
