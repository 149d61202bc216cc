-- The memories of a netlist have addresses of at most 32 bits.
use Rattle.std.proofs.Common.{ℕ}
use Rattle.gl_net.specs.declared.node.Node.{Node}
use Rattle.gl_net.specs.declared.node.Node.TheVariants.{Input, Constant, Not, Binary, Choose, Join, Cut, Register, Memory, MemoryRead}
use Rattle.gl_net.specs.Net.{Net}
use Rattle.gl_net.specs.Finished.{IsNetlist}
use Rattle.gl_net.specs.WellFormed.{NodeFits}
use Rattle.gl_net.specs.Small.{AreAddressed, IsAddressed}

node_addressed : (net : Net) (n : ℕ) (x : Node) → NodeFits net n x → IsAddressed x
node_addressed net n (Input place w) fits = tt
node_addressed net n (Constant word) fits = tt
node_addressed net n (Not x) fits = tt
node_addressed net n (Binary op x y) fits = tt
node_addressed net n (Choose test x y) fits = tt
node_addressed net n (Join x y) fits = tt
node_addressed net n (Cut x high low) fits = tt
node_addressed net n (Register w reset next) fits = tt
node_addressed net n (Memory bits w drive) fits = fits.0.most
node_addressed net n (MemoryRead store x) fits = tt

pub addressed : (net : Net) → IsNetlist net → AreAddressed net.nodes
addressed net is n x there = node_addressed net n x (is.formed.nodes n x there)
