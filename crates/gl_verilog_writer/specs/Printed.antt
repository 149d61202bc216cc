-- How a written module is printed: a line for each port, and lines for each item, under headings.
use Rattle.std.specs.Prelude.{ℕ, List, [], ◌∷◌, ◌++◌, codes, Some, None}
use Rattle.gl_verilog_writer.specs.Comments.{heading_text}
use Rattle.gl_verilog.specs.Written.{PrefixOp, BitNot, LogicalNot, InfixOp, Times, Added, Subtracted, Below, AtMost, Above, AtLeast, Equal, NotEqual, BitAnd, BitXor, BitOr, LogicalAnd, LogicalOr, WrittenExpr, Named, Constant, BitOf, PartOf, WordOf, Braces, Parts, Parens, Prefix, Infix, Conditional, WrittenStatement, Update, UpdateWord, IfThen, IfElse, Block, Listed, Ended, Direction, In, InWire, Out, OutWire, OutReg, Range, WrittenPort, WrittenItem, Wires, Registers, MemoryOf, Assign, Always, WrittenModule}

-- how a prefix operator is printed
abbrev pub prefix_text : PrefixOp → List ℕ
prefix_text BitNot = codes "~"
prefix_text LogicalNot = codes "!"

-- an operator between two blanks
abbrev pub infix_text : InfixOp → List ℕ
infix_text Times = codes " * "
infix_text Added = codes " + "
infix_text Subtracted = codes " - "
infix_text Below = codes " < "
infix_text AtMost = codes " <= "
infix_text Above = codes " > "
infix_text AtLeast = codes " >= "
infix_text Equal = codes " == "
infix_text NotEqual = codes " != "
infix_text BitAnd = codes " & "
infix_text BitXor = codes " ^ "
infix_text BitOr = codes " | "
infix_text LogicalAnd = codes " && "
infix_text LogicalOr = codes " || "

-- an expression; literals are in base d
abbrev pub expr_text : WrittenExpr → List ℕ
expr_text (Named name) = name
expr_text (Constant size radix digits) = size ++ codes "'d" ++ digits
expr_text (BitOf name place) = name ++ codes "[" ++ place ++ codes "]"
expr_text (PartOf name high low) = name ++ codes "[" ++ high ++ codes ":" ++ low ++ codes "]"
expr_text (WordOf name address) = name ++ codes "[" ++ expr_text address ++ codes "]"
expr_text (Braces parts) = codes "{" ++ expr_text parts ++ codes "}"
expr_text (Parts first rest) = expr_text first ++ codes ", " ++ expr_text rest
expr_text (Parens inner) = codes "(" ++ expr_text inner ++ codes ")"
expr_text (Prefix op arg) = prefix_text op ++ expr_text arg
expr_text (Infix op left right) = expr_text left ++ infix_text op ++ expr_text right
expr_text (Conditional test yes' no') = expr_text test ++ codes " ? " ++ expr_text yes' ++ codes " : " ++ expr_text no'

-- a statement, whose further lines stand behind eight blanks
abbrev pub statement_text : WrittenStatement → List ℕ
statement_text (Update target value) = target ++ codes " <= " ++ expr_text value ++ codes ";\n"
statement_text (UpdateWord target address value) =
    target ++ codes "[" ++ expr_text address ++ codes "] <= " ++ expr_text value ++ codes ";\n"
statement_text (IfThen test yes') = codes "if (" ++ expr_text test ++ codes ") " ++ statement_text yes'
statement_text (IfElse test yes' no') =
    codes "if (" ++ expr_text test ++ codes ") " ++ statement_text yes' ++ codes "        else "
    ++ statement_text no'
statement_text (Block statements) = codes "begin " ++ statement_text statements ++ codes "end\n"
statement_text (Listed first rest) = statement_text first ++ statement_text rest
statement_text Ended = []

-- how a range is printed, with a space behind it; nothing for a single bit
abbrev pub range_text : Range → List ℕ
range_text None = []
range_text (Some high) = codes "[" ++ high ++ codes ":0] "

-- names with a comma between each two
abbrev pub names_behind : List ℕ → List (List ℕ) → List ℕ
names_behind name [] = name
names_behind name (n ∷ ns) = name ++ codes ", " ++ names_behind n ns

-- how a list of names is printed, with commas between
abbrev pub names_text : List (List ℕ) → List ℕ
names_text [] = []
names_text (n ∷ ns) = names_behind n ns

-- what a clocked block begins with, up to the name of its clock
unfoldable pub always_text : List ℕ
always_text = codes "    always @(posedge "

-- an item of the module, behind four blanks
abbrev pub item_text : WrittenItem → List ℕ
item_text (Wires range names) = codes "    wire " ++ range_text range ++ names_text names ++ codes ";\n"
item_text (Registers range names) = codes "    reg " ++ range_text range ++ names_text names ++ codes ";\n"
item_text (MemoryOf range name last) = codes "    reg " ++ range_text range ++ name ++ codes " [0:" ++ last ++ codes "];\n"
item_text (Assign target value) = codes "    assign " ++ target ++ codes " = " ++ expr_text value ++ codes ";\n"
item_text (Always clock body) = always_text ++ clock ++ codes ")\n        " ++ statement_text body

-- an item under a heading
pub record Line : Type 0 where
  pub above : List ℕ
  pub item : WrittenItem

abbrev pub line_text : Line → List ℕ
line_text l = heading_text l.above ++ item_text l.item

-- how lines are printed, one behind the other
abbrev pub lines_text : List Line → List ℕ
lines_text [] = []
lines_text (l ∷ ls) = line_text l ++ lines_text ls

-- how a port begins: on a line of its own, with its direction
unfoldable pub direction_text : Direction → List ℕ
direction_text In = codes "\n    input "
direction_text InWire = codes "\n    input wire "
direction_text Out = codes "\n    output "
direction_text OutWire = codes "\n    output wire "
direction_text OutReg = codes "\n    output reg "

-- a port on a line of its own
abbrev pub port_text : WrittenPort → List ℕ
port_text p = direction_text p.direction ++ range_text p.range ++ p.name

-- how further ports are printed, each behind a comma
abbrev pub more_ports_text : List WrittenPort → List ℕ
more_ports_text [] = []
more_ports_text (p ∷ ps) = codes "," ++ port_text p ++ more_ports_text ps

-- how all ports are printed, with commas between
abbrev pub ports_text : List WrittenPort → List ℕ
ports_text [] = []
ports_text (p ∷ ps) = port_text p ++ more_ports_text ps

-- how a module begins: its name, its ports, and the end of the header
unfoldable pub head_text : WrittenModule → List ℕ
head_text m = codes "module " ++ m.name ++ codes "(" ++ ports_text m.ports ++ codes "\n);\n"

-- the end of a module
abbrev pub end_text : List ℕ
end_text = codes "\nendmodule\n"
