-- The written module of a netlist: a net for each node, which is driven once.
use Rattle.std.specs.Prelude.{ℕ, ◌+◌, ◌-◌, ◌^◌, ◌==◌, nat_le, if◌then◌else◌, List, [], ◌∷◌, ◌++◌, map, Option, Some, None, slice_get, option_map, unwrap_or, codes, decimal}
use Rattle.std.specs.Option.{option_map_or}
use Rattle.gl_net.specs.declared.node.BinaryOp.{BinaryOp}
use Rattle.gl_net.specs.declared.node.BinaryOp.TheVariants.{Add, Sub, Mul, And, Xor, Or, Eq, Ne, Lt, Le}
use Rattle.gl_net.specs.declared.node.Node.{Node}
use Rattle.gl_net.specs.declared.node.Node.TheVariants.{Input, Constant, Not, Binary, Choose, Join, Cut, Register, Memory, MemoryRead}
use Rattle.gl_net.specs.declared.node.Port.{Port}
use Rattle.gl_net.specs.declared.node.Direction.{Direction}
use Rattle.gl_net.specs.declared.node.Direction.TheVariants.{In, Out}
use Rattle.gl_net.specs.Net.{Net, shape_of, shape_in}
use Rattle.gl_net.specs.PortValues.{bits_of}
use Rattle.gl_verilog.specs.Written as written
use Rattle.gl_verilog.specs.Written.{InfixOp, Times, Added, Subtracted, Below, AtMost, Equal, NotEqual, BitAnd, BitXor, BitOr, BitNot, WrittenExpr, Named, PartOf, WordOf, Braces, Parts, Prefix, Infix, Conditional, WrittenStatement, Update, UpdateWord, IfThen, IfElse, Range, WrittenPort, WrittenItem, Wires, Registers, MemoryOf, Assign, Always, WrittenModule}
use Rattle.gl_verilog_writer.specs.declared.label.Labels.{Labels}
use Rattle.gl_verilog_writer.specs.Comments.{header_text, title_text}
use Rattle.gl_verilog_writer.specs.Labelled.{Scheme, name_in, above_in, head_lines, scheme_of}
use Rattle.gl_verilog_writer.specs.Printed.{Line, head_text, lines_text, end_text}

-- ---- names

-- the name of the port at a place
abbrev pub port_name : List Port → ℕ → List ℕ
port_name ports place = option_map_or (λ p. p.name) (slice_get ports place) []

-- ---- nodes

-- the width of what a node carries, or of a memory's words
abbrev pub node_width : Node → ℕ
node_width x = bits_of (Some (shape_of x))

-- the operator in Verilog for an operator of a netlist
abbrev pub infix_of : BinaryOp → InfixOp
infix_of Add = Added
infix_of Sub = Subtracted
infix_of Mul = Times
infix_of And = BitAnd
infix_of Xor = BitXor
infix_of Or = BitOr
infix_of Eq = Equal
infix_of Ne = NotEqual
infix_of Lt = Below
infix_of Le = AtMost

-- what is written for two values under an operation. Of single bits, *below* and *at most* are gates: a comparison is
-- unknown wherever an operand is, a gate is not where the other operand decides it (IEEE 1364-2005, clause 5.1)
abbrev pub binary_expr : BinaryOp → ℕ → WrittenExpr → WrittenExpr → WrittenExpr
binary_expr Lt w x y = if w == 1 then Infix BitAnd (Prefix BitNot x) y else Infix Below x y
binary_expr Le w x y = if w == 1 then Infix BitOr (Prefix BitNot x) y else Infix AtMost x y
binary_expr op w x y = Infix (infix_of op) x y

-- the net of a node as an expression
abbrev pub named : (ℕ → List ℕ) → ℕ → WrittenExpr
named names node = Named (names node)

-- a literal in decimal, with its size in front
abbrev pub literal : ℕ → ℕ → WrittenExpr
literal value width = written.Constant (decimal width) 10 (decimal value)

-- the range of a vector of this width
abbrev pub vector : ℕ → Range
vector width = Some (decimal (width - 1))

-- one bit is no vector
abbrev pub range_of : ℕ → Range
range_of width = if width == 1 then None else vector width

-- some bits of a net; a net of one bit is no vector, and what is cut of it is all of it
abbrev pub cut_expr : ℕ → List ℕ → ℕ → ℕ → WrittenExpr
cut_expr width name high low = if width == 1 then Named name else PartOf name (decimal high) (decimal low)

-- the number of a memory's last word; addresses have at most 32 bits
unfoldable pub last_word : ℕ → ℕ
last_word address_bits = if nat_le address_bits 32 then 2 ^ address_bits - 1 else 0

-- the declaration of a node's net
abbrev pub declares : (ℕ → List ℕ) → ℕ → Node → WrittenItem
declares names n (Register w reset next) = Registers (range_of w) (names n ∷ [])
declares names n (Memory bits w drive) = MemoryOf (range_of w) (names n) (decimal (last_word bits))
declares names n x = Wires (range_of (node_width x)) (names n ∷ [])

-- what is assigned to a node's net; a register and a memory take theirs at the clock's edge
abbrev pub takes : (ℕ → List ℕ) → List Port → Node → Option WrittenExpr
takes names ports (Input place w) = Some (Named (port_name ports place))
takes names ports (Constant word) = Some (literal word.bits word.width)
takes names ports (Not x) = Some (Prefix BitNot (named names x.node))
takes names ports (Binary op x y) = Some (binary_expr op x.width (named names x.node) (named names y.node))
takes names ports (Choose test x y) =
    Some (Conditional (named names test.node) (named names x.node) (named names y.node))
takes names ports (Join x y) = Some (Braces (Parts (named names x.node) (named names y.node)))
takes names ports (Cut x high low) = Some (cut_expr x.width (names x.node) high low)
takes names ports (MemoryRead store x) = Some (WordOf (names store.node) (named names x.node))
takes names ports (Register w reset next) = None
takes names ports (Memory bits w drive) = None

-- what a register or a memory does at the clock's edge
abbrev pub does : (ℕ → List ℕ) → ℕ → Node → Option WrittenStatement
does names n (Register w None (Some next)) = Some (Update (names n) (named names next.node))
does names n (Register w (Some value) (Some next)) =
    Some (IfElse (Named (codes "rst")) (Update (names n) (literal value w))
    (Update (names n) (named names next.node)))
does names n (Memory bits w (Some drive)) =
    Some (IfThen (named names drive.write.node)
    (UpdateWord (names n) (named names drive.address.node) (named names drive.value.node)))
does names n x = None

-- ---- the module

-- a list with one more in front, where there is one
abbrev pub with_option : {A : Type 0} → Option A → List A → List A
with_option None ys = ys
with_option (Some y) ys = y ∷ ys

-- what a list's elements give, each with its number, counted from n
abbrev pub numbered : {A B : Type 0} → (ℕ → A → Option B) → ℕ → List A → List B
numbered f n [] = []
numbered f n (x ∷ xs) = with_option (f n x) (numbered f (n + 1) xs)

-- every node declares a net or a memory
abbrev pub declaring : (ℕ → List ℕ) → ℕ → Node → Option WrittenItem
declaring names n x = Some (declares names n x)

-- the assignment that drives a node's net, for nodes that one drives
abbrev pub assigning : (ℕ → List ℕ) → List Port → ℕ → Node → Option WrittenItem
assigning names ports n x = option_map (Assign (names n)) (takes names ports x)

-- an output port is assigned the net of its node; an input port shows nothing
abbrev pub shows : (ℕ → List ℕ) → Direction → List ℕ → ℕ → Option WrittenItem
shows names In name node = None
shows names Out name node = Some (Assign name (named names node))

-- an output port shows its node
abbrev pub showing : (ℕ → List ℕ) → ℕ → Port → Option WrittenItem
showing names place p = shows names p.direction p.name p.node

-- the clocked block of a node, for registers and memories that something drives
abbrev pub clocking : (ℕ → List ℕ) → ℕ → Node → Option WrittenItem
clocking names n x = option_map (Always (codes "clk")) (does names n x)

-- every port is declared as a wire
abbrev pub leads : Direction → written.Direction
leads In = written.InWire
leads Out = written.OutWire

-- a port of a netlist as it is written, with its node's width
abbrev pub written_port : List Node → Port → WrittenPort
written_port nodes p =
    record { direction = leads p.direction; range = range_of (bits_of (shape_in nodes p.node)); name = p.name }

-- the clock's port, one bit that leads in
abbrev pub clock_port : WrittenPort
clock_port = record { direction = written.InWire; range = None; name = codes "clk" }

-- the first of two where there is one, else the second
abbrev pub either : {A : Type 0} → Option A → Option A → Option A
either (Some x) y = Some x
either None y = y

-- what drives a node: its assignment or its clocked block, since no node has both
abbrev pub driving : (ℕ → List ℕ) → List Port → ℕ → Node → Option WrittenItem
driving names ports n x = either (assigning names ports n x) (clocking names n x)

-- all declarations, all that drives nodes, and the outputs
abbrev pub items_of : (ℕ → List ℕ) → List Node → List Port → List WrittenItem
items_of names nodes ports =
    numbered (declaring names) 0 nodes ++ numbered (driving names ports) 0 nodes ++ numbered (showing names) 0 ports

-- the written module of a netlist: the clock and its ports, then its items
abbrev pub written_as : (ℕ → List ℕ) → Net → WrittenModule
written_as names net = record {
  name = unwrap_or net.name [];
  ports = clock_port ∷ map (written_port net.nodes) net.ports;
  items = items_of names net.nodes net.ports;
}

-- ---- its text

-- an item under a heading
abbrev pub under : List ℕ → WrittenItem → Line
under above item = record { above = above; item = item }

-- a node's declaration, under its label's heading
abbrev pub declared_line : Scheme → ℕ → Node → Option Line
declared_line scheme n x = Some (under (above_in scheme n) (declares (name_in scheme) n x))

-- what drives a node, under the same heading
abbrev pub driven_line : Scheme → List Port → ℕ → Node → Option Line
driven_line scheme ports n x = option_map (under (above_in scheme n)) (driving (name_in scheme) ports n x)

-- what an output port shows
abbrev pub shown_line : Scheme → ℕ → Port → Option Line
shown_line scheme place p = option_map (under []) (showing (name_in scheme) place p)

-- the items' text: three parts, each under a title
abbrev pub parts_text : Scheme → List Node → List Port → List ℕ
parts_text scheme nodes ports =
    title_text (codes "declarations") ++ lines_text (numbered (declared_line scheme) 0 nodes)
    ++ title_text (codes "what drives them") ++ lines_text (numbered (driven_line scheme ports) 0 nodes)
    ++ title_text (codes "outputs") ++ lines_text (numbered (shown_line scheme) 0 ports)

-- the module, where nodes are called so
unfoldable pub text_by : Scheme → Net → List ℕ
text_by scheme net =
    head_text (written_as (name_in scheme) net) ++ parts_text scheme net.nodes net.ports ++ end_text

-- the text of a netlist: the lines in front, and the module
unfoldable pub module_text : Labels → Net → List ℕ
module_text labels net = header_text (head_lines labels) ++ text_by (scheme_of labels net) net
