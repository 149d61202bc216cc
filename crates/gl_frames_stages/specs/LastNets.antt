-- The last value that passes, in a netlist.
use Rattle.std.specs.Prelude.{◌≡◌, ℕ, suc, if◌then◌else◌}
use Rattle.gl_net.specs.declared.node.Bus.{Bus}
use Rattle.gl_net.specs.declared.node.Bit.{Bit}
use Rattle.gl_net.specs.Net.{Net, Run, IsRun, IsBus, Keeps}
use Rattle.gl_totals.specs.declared.fold.Fold.{Fold}
use Rattle.gl_wire.specs.Costs.{Costs}
use Rattle.gl_wire.specs.Wire.{line_at}
use Rattle.gl_wire_lanes.specs.Keeping.{IsRegister}
use Rattle.gl_frames_stages.specs.Columns.{carried_by}
use Rattle.gl_frames_stages.specs.declared.lines.Lines.{Lines}

-- a register that takes a value where a line is 1, and begins anew behind each end
pub record IsLastIn (old new : Net) (lines : Lines) (takes : Bit) (value : Bus) (f : Fold) : Type 0 where
  pub keeps : Keeps old new
  pub cost : Costs old new (record { nodes = 4; registers = value.width; memories = 0 })
  pub before : IsBus new f.before
  pub now : IsBus new f.now
  pub before_width : f.before.width ≡ value.width
  pub now_width : f.now.width ≡ value.width
  pub anew : (run : Run) → IsRun new run
      → IsRegister 0 (line_at run lines.eos) (carried_by run f.before) (carried_by run f.now)
  pub taken : (run : Run) → IsRun new run → (t : ℕ) → run.at (suc t) f.now.node
      ≡ (if line_at run takes (suc t) then run.at (suc t) value.node else run.at (suc t) f.before.node)
