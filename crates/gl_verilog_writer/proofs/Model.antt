-- The module that a netlist's text means: declaration 0 is the clock, then come the ports, then the nodes.
use Rattle.std.proofs.Common.{ℕ, suc, ◌+◌, ◌==◌, if◌then◌else◌, List, [], ◌∷◌, ◌++◌, length, Option, Some, None, map}
use Rattle.std.specs.Prelude.{codes, option_map, unwrap_or, not}
use Rattle.gl_net.specs.declared.node.BinaryOp.{BinaryOp}
use Rattle.gl_net.specs.declared.node.BinaryOp.TheVariants as op
use Rattle.gl_net.specs.declared.node.Node.{Node}
use Rattle.gl_net.specs.declared.node.Node.TheVariants as node
use Rattle.gl_net.specs.declared.node.Port.{Port}
use Rattle.gl_net.specs.declared.node.Direction.{Direction}
use Rattle.gl_net.specs.declared.node.Direction.TheVariants.{In, Out}
use Rattle.gl_net.specs.Net.{Net}
use Rattle.gl_net.specs.Finished.{IsNetlist}
use Rattle.gl_verilog.specs.Module as verilog
use Rattle.gl_verilog.specs.Module.{Module, Declaration, Kind, Expr, Literal, Invert, Select, Read, Statement, Nothing, Put, Write, If, Assignment, number_of}
use Rattle.gl_verilog_writer.specs.Meaning.{declaration_of, clock}
use Rattle.gl_verilog_writer.specs.Naming.{IsNaming}
use Rattle.gl_verilog_writer.specs.Design.{node_width, numbered}

-- what is known of a netlist whose nets have these names
pub record Named (net : Net) (names : ℕ → List ℕ) : Type 0 where
  pub netlist : IsNetlist net
  pub naming : IsNaming net names

-- the number of a node's declaration, behind so many ports
abbrev pub at_node : ℕ → ℕ → ℕ
at_node ports n = suc (ports + n)

abbrev pub net_of : ℕ → ℕ → Expr
net_of ports n = verilog.Net (at_node ports n)

abbrev pub op_of : BinaryOp → verilog.BinaryOp
op_of op.Add = verilog.Add
op_of op.Sub = verilog.Sub
op_of op.Mul = verilog.Mul
op_of op.And = verilog.And
op_of op.Xor = verilog.Xor
op_of op.Or = verilog.Or
op_of op.Eq = verilog.Eq
op_of op.Ne = verilog.Ne
op_of op.Lt = verilog.Lt
op_of op.Le = verilog.Le

-- what two values mean under an operation, of this width
abbrev pub binary_meaning : BinaryOp → ℕ → Expr → Expr → Expr
binary_meaning op.Lt w x y =
    if w == 1 then verilog.Binary verilog.And 1 (Invert 1 x) y else verilog.Binary verilog.Lt w x y
binary_meaning op.Le w x y =
    if w == 1 then verilog.Binary verilog.Or 1 (Invert 1 x) y else verilog.Binary verilog.Le w x y
binary_meaning o w x y = verilog.Binary (op_of o) w x y

abbrev pub kind_for : Node → Kind
kind_for (node.Register w reset next) = verilog.Register
kind_for (node.Memory bits w drive) = verilog.Memory bits
kind_for x = verilog.Wire

abbrev pub declaration_for : (ℕ → List ℕ) → ℕ → Node → Declaration
declaration_for names n x = record { name = names n; width = node_width x; is_vector = not (node_width x == 1); kind = kind_for x }

-- some bits of a net; of one bit it is all
abbrev pub cut_meaning : ℕ → ℕ → ℕ → ℕ → Expr
cut_meaning w high low n = if w == 1 then verilog.Net n else Select high low n

-- what is assigned to a node's net
abbrev pub expression_of : ℕ → Node → Option Expr
expression_of p (node.Input place w) = Some (verilog.Net (suc place))
expression_of p (node.Constant word) = Some (Literal word.bits word.width)
expression_of p (node.Not x) = Some (Invert x.width (net_of p x.node))
expression_of p (node.Binary o x y) = Some (binary_meaning o x.width (net_of p x.node) (net_of p y.node))
expression_of p (node.Choose test x y) = Some (verilog.Choose (net_of p test.node) (net_of p x.node) (net_of p y.node))
expression_of p (node.Join x y) = Some (verilog.Join y.width (net_of p x.node) (net_of p y.node))
expression_of p (node.Cut x high low) = Some (cut_meaning x.width high low (at_node p x.node))
expression_of p (node.MemoryRead store x) = Some (Read (at_node p store.node) (net_of p x.node))
expression_of p (node.Register w reset next) = None
expression_of p (node.Memory bits w drive) = None

abbrev pub assigned_to : ℕ → Expr → Assignment
assigned_to target value = record { target = target; value = value }

abbrev pub assignment_for : ℕ → ℕ → Node → Option Assignment
assignment_for p n x = option_map (assigned_to (at_node p n)) (expression_of p x)

abbrev pub shown_by : ℕ → ℕ → Direction → ℕ → Option Assignment
shown_by p place In n = None
shown_by p place Out n = Some (assigned_to (suc place) (net_of p n))

abbrev pub output_for : ℕ → ℕ → Port → Option Assignment
output_for p place q = shown_by p place q.direction q.node

-- what a register or a memory does at the edge; the reset line is a net of this number
abbrev pub block_for : ℕ → ℕ → ℕ → Node → Option Statement
block_for p line n (node.Register w None (Some next)) = Some (Put (at_node p n) (net_of p next.node))
block_for p line n (node.Register w (Some value) (Some next)) = Some (If (verilog.Net line) (Put (at_node p n) (Literal value w)) (Put (at_node p n) (net_of p next.node)))
block_for p line n (node.Memory bits w (Some drive)) = Some (If (net_of p drive.write.node) (Write (at_node p n) (net_of p drive.address.node) (net_of p drive.value.node)) Nothing)
block_for p line n x = None

-- what each element gives, by its number from n on
abbrev pub counted : {A B : Type 0} → (ℕ → A → B) → ℕ → List A → List B
counted g n [] = []
counted g n (x ∷ xs) = g n x ∷ counted g (n + 1) xs

abbrev pub declarations_in : Net → (ℕ → List ℕ) → List Declaration
declarations_in net names = clock ∷ (map (declaration_of net) net.ports ++ counted (declaration_for names) 0 net.nodes)

-- the number of the reset port; none is asked for where no register has a reset value
abbrev pub line_in : Net → (ℕ → List ℕ) → ℕ
line_in net names = unwrap_or (number_of (declarations_in net names) (codes "rst")) 0

unfoldable pub module_in : Net → (ℕ → List ℕ) → Module
module_in net names = record {
  name = unwrap_or net.name [];
  ports = suc (length net.ports);
  declarations = declarations_in net names;
  assignments = numbered (assignment_for (length net.ports)) 0 net.nodes ++ numbered (output_for (length net.ports)) 0 net.ports;
  blocks = numbered (block_for (length net.ports) (line_in net names)) 0 net.nodes;
}
