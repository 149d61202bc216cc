-- The texts of a module's parts, each under the name by which the clauses of what writes it cite it.
use Rattle.std.specs.Prelude.{◌≡◌, ℕ, List, [], ◌∷◌, ◌++◌, map, codes}
use Rattle.std.specs.Option.{option_map_or}
use Rattle.gl_net.specs.declared.node.BinaryOp.{BinaryOp}
use Rattle.gl_net.specs.declared.node.Bus.{Bus}
use Rattle.gl_net.specs.declared.node.Node.{Node}
use Rattle.gl_net.specs.declared.node.Port.{Port}
use Rattle.gl_net.specs.declared.node.MemoryDrive.{MemoryDrive}
use Rattle.gl_verilog.specs.Written.{WrittenItem, Update, UpdateWord, IfThen}
use Rattle.gl_verilog_writer.specs.declared.names.Names.{Names}
use Rattle.gl_verilog_writer.specs.declared.names.Names.TheVariants.{Family, Labelled}
use Rattle.gl_verilog_writer.specs.Comments.{heading_text}
use Rattle.gl_verilog_writer.specs.Labelled.{Scheme, ByFamily, ByLabels, name_in, above_in}
use Rattle.gl_verilog_writer.specs.Printed.{range_text, port_text, more_ports_text, head_text, expr_text, statement_text, item_text, line_text, lines_text}
use Rattle.gl_verilog_writer.specs.Design.{range_of, cut_expr, binary_expr, named, literal, declares, takes, assigning, clocking, driving, clock_port, written_port, numbered, declared_line, driven_line, shown_line, parts_text}

-- ---- of one node

-- what names stand for
abbrev pub scheme_in : Names → Scheme
scheme_in (Family family) = ByFamily family
scheme_in (Labelled labels) = ByLabels labels.now

-- what they call a node's net
abbrev pub named_by : Names → ℕ → List ℕ
named_by names = name_in (scheme_in names)

-- a word, a range and a net
abbrev pub net_text : List ℕ → Names → ℕ → ℕ → List ℕ
net_text word names number width = word ++ range_text (range_of width) ++ named_by names number

-- the name of a node's net
abbrev pub name_text : Names → ℕ → List ℕ
name_text names node = named_by names node

-- two nets with a sign between them
abbrev pub pair_text : Names → ℕ → List ℕ → ℕ → List ℕ
pair_text names left sign right = named_by names left ++ sign ++ named_by names right

-- two values under an operation
abbrev pub binary_text : Names → BinaryOp → Bus → Bus → List ℕ
binary_text names op x y =
    expr_text (binary_expr op x.width (named (named_by names) x.node) (named (named_by names) y.node))

-- the text of some bits of a node's net
abbrev pub cut_text : Names → Bus → ℕ → ℕ → List ℕ
cut_text names x high low = expr_text (cut_expr x.width (named_by names x.node) high low)

-- the text of a node's declaration
abbrev pub declares_text : Names → ℕ → Node → List ℕ
declares_text names number node = item_text (declares (named_by names) number node)

-- the right side of its assignment
abbrev pub value_text : Names → List Port → Node → List ℕ
value_text names ports node = option_map_or expr_text (takes (named_by names) ports node) []

-- the text of the assignment that drives a node's net; nothing where none does
abbrev pub set_text : Names → List Port → ℕ → Node → List ℕ
set_text names ports number node = option_map_or item_text (assigning (named_by names) ports number node) []

-- the text of a register that takes the value of another net
abbrev pub update_text : Names → ℕ → ℕ → List ℕ
update_text names number next = statement_text (Update (named_by names number) (named (named_by names) next))

-- the text of a register that takes its reset value
abbrev pub reset_text : Names → ℕ → ℕ → ℕ → List ℕ
reset_text names number value width = statement_text (Update (named_by names number) (literal value width))

-- the text of a write to a memory where its write line is 1
abbrev pub write_text : Names → ℕ → MemoryDrive → List ℕ
write_text names number drive =
    statement_text (IfThen (named (named_by names) drive.write.node)
    (UpdateWord (named_by names number) (named (named_by names) drive.address.node)
    (named (named_by names) drive.value.node)))

-- the heading above a node, where it has one
abbrev pub above_text : Names → ℕ → List ℕ
above_text names number = heading_text (above_in (scheme_in names) number)

-- the text of a node's declaration under its heading
abbrev pub declared_text : Names → ℕ → Node → List ℕ
declared_text names number node = option_map_or line_text (declared_line (scheme_in names) number node) []

-- the text of a node's clocked block; nothing where it has none
abbrev pub block_text : Names → ℕ → Node → List ℕ
block_text names number node = option_map_or item_text (clocking (named_by names) number node) []

-- the text of what drives a node
abbrev pub does_text : Names → List Port → ℕ → Node → List ℕ
does_text names ports number node = option_map_or item_text (driving (named_by names) ports number node) []

-- the same under the node's heading
abbrev pub node_text : Names → List Port → ℕ → Node → List ℕ
node_text names ports number node = option_map_or line_text (driven_line (scheme_in names) ports number node) []

-- ---- of ports

-- the text of a port behind another
abbrev pub next_port_text : List Node → Port → List ℕ
next_port_text nodes port = codes "," ++ port_text (written_port nodes port)

-- the text of all ports behind the first
abbrev pub next_ports_text : List Node → List Port → List ℕ
next_ports_text nodes ports = more_ports_text (map (written_port nodes) ports)

-- the head is put behind what there was, whatever items follow
abbrev pub PutsHead : (old new name : List ℕ) → List Node → List Port → Type 0
PutsHead old new name nodes ports =
    (items : List WrittenItem) → new ≡ old ++ head_text
    (record { name = name; ports = clock_port ∷ map (written_port nodes) ports; items = items })

-- the text of the assignment that shows a port's value; nothing for an input
abbrev pub shown_text : Names → Port → List ℕ
shown_text names port = option_map_or line_text (shown_line (scheme_in names) 0 port) []

-- ---- of all nodes and ports

-- the text of all declarations
abbrev pub declarations_text : Names → List Node → List ℕ
declarations_text names nodes = lines_text (numbered (declared_line (scheme_in names)) 0 nodes)

-- the text of all that drives nodes
abbrev pub nodes_text : Names → List Node → List Port → List ℕ
nodes_text names nodes ports = lines_text (numbered (driven_line (scheme_in names) ports) 0 nodes)

-- the text of all assignments that show values on ports
abbrev pub shows_text : Names → List Port → List ℕ
shows_text names ports = lines_text (numbered (shown_line (scheme_in names)) 0 ports)

-- the text of all items of a module
abbrev pub body_text : Names → List Node → List Port → List ℕ
body_text names nodes ports = parts_text (scheme_in names) nodes ports
