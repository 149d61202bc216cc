-- A queue of rows in a netlist.
use Rattle.std.specs.Prelude.{◌≡◌, ℕ, List, not}
use Rattle.gl_net.specs.declared.node.Bus.{Bus}
use Rattle.gl_net.specs.declared.node.Bit.{Bit}
use Rattle.gl_net.specs.Net.{Net, Run, IsRun, IsBit, Keeps}
use Rattle.gl_wire.specs.Costs.{Costs}
use Rattle.gl_wire.specs.Wire.{AreBuses, widths, line_at, tuple_at}
use Rattle.gl_queue.specs.declared.queue.Queue.{Queue}
use Rattle.gl_queue.specs.Costs.{cost_of_queue}
use Rattle.gl_queue.specs.Queue.{IsQueue}

-- a queue of so many places of the rows on these columns, from which an entry leaves wherever `hold` is 0
pub record IsQueueOf (old new : Net) (depth : ℕ) (push hold : Bit) (columns : List Bus) (q : Queue) : Type 0 where
  pub keeps : Keeps old new
  pub cost : Costs old new (cost_of_queue depth (widths columns))
  pub some : IsBit new q.some
  pub passed : IsBit new q.passed
  pub buses : AreBuses new q.columns
  pub same_widths : widths q.columns ≡ widths columns
  pub queue : (run : Run) → IsRun new run → IsQueue depth (tuple_at run push columns) (λ c. not (line_at run hold c))
      (tuple_at run q.some q.columns) (line_at run q.passed)
