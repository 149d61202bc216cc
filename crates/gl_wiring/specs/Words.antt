-- The buses of the parameters, which all circuits of a plan may read.
use Rattle.std.specs.Prelude.{List}
use Rattle.gl_algebra.specs.Known.{AreKnown}
use Rattle.gl_algebra.specs.declared.node.PlanNode.{PlanNode}
use Rattle.gl_net.specs.declared.node.Bus.{Bus}
use Rattle.gl_net.specs.Net.{Net}
use Rattle.gl_rows.specs.Made.{AreHeldBuses}
use Rattle.gl_wire.specs.Wire.{widths}

-- the buses are those of the parameters, and a plan names no parameter but these, each in its width
pub record HaveWords (nodes : List PlanNode) (net : Net) (words : List Bus) : Type 0 where
  pub held : AreHeldBuses net words
  pub known : AreKnown (widths words) nodes
