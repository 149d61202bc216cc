-- From a written module to its module: names become the numbers of their declarations, digits become numbers, and
-- operators keep their operands' width. A name resolves where it is declared before it is used.
use Rattle.std.specs.Prelude.{ℕ, zero, suc, ◌+◌, ◌^◌, Bool, true, false, List, [], ◌∷◌, ◌++◌, map, length, Option, Some, None, option_map, option_and_then, nat_eq, if◌then◌else◌, codes}
use Rattle.std.specs.Option.{option_map_or}
use Rattle.std.specs.Str.{bytes_eq}
use Rattle.gl_verilog.specs.Tokens.{number_in}
use Rattle.gl_verilog.specs.Widths.{width_of}
use Rattle.gl_verilog.specs.Written.{PrefixOp, BitNot, LogicalNot, InfixOp, Times, Added, Subtracted, Below, AtMost, Above, AtLeast, Equal, NotEqual, BitAnd, BitXor, BitOr, LogicalAnd, LogicalOr, WrittenExpr, Named, Constant, BitOf, PartOf, WordOf, Braces, Parts, Parens, Prefix, Infix, Conditional, WrittenStatement, Update, UpdateWord, IfThen, IfElse, Block, Listed, Ended, Direction, In, InWire, Out, OutWire, OutReg, Range, WrittenPort, WrittenItem, Wires, Registers, MemoryOf, Assign, Always, WrittenModule}
use Rattle.gl_verilog.specs.Module.{Module, Declaration, Assignment, Kind, Input, OutputWire, OutputRegister, Wire, Register, Memory, Add, Sub, Mul, And, Xor, Or, Eq, Ne, Lt, Le, Gt, Ge, Expr, Net, Literal, Invert, Binary, Choose, Join, Select, Read, Statement, Nothing, Put, Write, Both, If, number_of}

-- ---- names

-- the number of a name in an expression; only a block may name the clock
abbrev pub number_read : List Declaration → List ℕ → Option ℕ
number_read ds name = if bytes_eq name (codes "clk") then None else number_of ds name

-- ---- expressions

-- a result of two parts is there only where both parts are
abbrev pub both : {A B C : Type 0} → (A → B → C) → Option A → Option B → Option C
both f None y = None
both f (Some x) y = option_map (f x) y

-- a result of three parts is there only where all three are
abbrev pub three : {A B C D : Type 0} → (A → B → C → D) → Option A → Option B → Option C → Option D
three f None y z = None
three f (Some x) y z = both (f x) y z

-- bitwise negation keeps its operand's width, and logical negation inverts one bit
abbrev pub prefixed : List Declaration → PrefixOp → Expr → Expr
prefixed ds BitNot x = Invert (width_of ds x) x
prefixed ds LogicalNot x = Invert 1 x

-- an operator takes the width of its left operand; the logical ones are AND and OR of one bit
abbrev pub infixed : List Declaration → InfixOp → Expr → Expr → Expr
infixed ds Times x y = Binary Mul (width_of ds x) x y
infixed ds Added x y = Binary Add (width_of ds x) x y
infixed ds Subtracted x y = Binary Sub (width_of ds x) x y
infixed ds Below x y = Binary Lt (width_of ds x) x y
infixed ds AtMost x y = Binary Le (width_of ds x) x y
infixed ds Above x y = Binary Gt (width_of ds x) x y
infixed ds AtLeast x y = Binary Ge (width_of ds x) x y
infixed ds Equal x y = Binary Eq (width_of ds x) x y
infixed ds NotEqual x y = Binary Ne (width_of ds x) x y
infixed ds BitAnd x y = Binary And (width_of ds x) x y
infixed ds BitXor x y = Binary Xor (width_of ds x) x y
infixed ds BitOr x y = Binary Or (width_of ds x) x y
infixed ds LogicalAnd x y = Binary And 1 x y
infixed ds LogicalOr x y = Binary Or 1 x y

-- two parts in braces make one word, with the second in the low bits
abbrev pub joined : List Declaration → Expr → Expr → Expr
joined ds x y = Join (width_of ds y) x y

-- the number that decimal digits write
abbrev pub decimal_number : List ℕ → ℕ
decimal_number digits = number_in 10 digits

-- the expression that is meant where these are the declarations before it
abbrev pub resolve_expr : List Declaration → WrittenExpr → Option Expr
resolve_expr ds (Named name) = option_map Net (number_read ds name)
resolve_expr ds (Constant size radix digits) = Some (Literal (number_in radix digits) (decimal_number size))
resolve_expr ds (BitOf name place) =
    option_map (Select (decimal_number place) (decimal_number place)) (number_read ds name)
resolve_expr ds (PartOf name high low) =
    option_map (Select (decimal_number high) (decimal_number low)) (number_read ds name)
resolve_expr ds (WordOf name address) = both Read (number_read ds name) (resolve_expr ds address)
resolve_expr ds (Braces parts) = resolve_expr ds parts
resolve_expr ds (Parts first rest) = both (joined ds) (resolve_expr ds first) (resolve_expr ds rest)
resolve_expr ds (Parens inner) = resolve_expr ds inner
resolve_expr ds (Prefix op arg) = option_map (prefixed ds op) (resolve_expr ds arg)
resolve_expr ds (Infix op left right) = both (infixed ds op) (resolve_expr ds left) (resolve_expr ds right)
resolve_expr ds (Conditional test yes' no') =
    three Choose (resolve_expr ds test) (resolve_expr ds yes') (resolve_expr ds no')

-- ---- statements

-- the statement that is meant where these declarations stand; none where it names what is not declared
abbrev pub resolve_statement : List Declaration → WrittenStatement → Option Statement
resolve_statement ds (Update target value) = both Put (number_of ds target) (resolve_expr ds value)
resolve_statement ds (UpdateWord target address value) =
    three Write (number_of ds target) (resolve_expr ds address) (resolve_expr ds value)
resolve_statement ds (IfThen test yes') =
    both (λ c x. If c x Nothing) (resolve_expr ds test) (resolve_statement ds yes')
resolve_statement ds (IfElse test yes' no') =
    three If (resolve_expr ds test) (resolve_statement ds yes') (resolve_statement ds no')
resolve_statement ds (Block statements) = resolve_statement ds statements
resolve_statement ds (Listed first rest) = both Both (resolve_statement ds first) (resolve_statement ds rest)
resolve_statement ds Ended = Some Nothing

-- ---- declarations

-- a name is declared one bit wide without a range, and as a vector from its high bit down to 0 with one
abbrev pub declare : Kind → Range → List ℕ → Declaration
declare kind None name = record { name = name; width = 1; is_vector = false; kind = kind }
declare kind (Some high) name = record { name = name; width = decimal_number high + 1; is_vector = true; kind = kind }

-- a port is an input, an output that an assignment drives, or an output register
abbrev pub port_kind : Direction → Kind
port_kind In = Input
port_kind InWire = Input
port_kind Out = OutputWire
port_kind OutWire = OutputWire
port_kind OutReg = OutputRegister

-- a port is declared by its direction, its range and its name
abbrev pub declare_port : WrittenPort → Declaration
declare_port p = declare (port_kind p.direction) p.range p.name

-- j for 2^j words, with j from 1 to the first argument
unfoldable pub address_bits_to : ℕ → ℕ → Option ℕ
address_bits_to zero words = None
address_bits_to (suc j) words = if nat_eq words (2 ^ suc j) then Some (suc j) else address_bits_to j words

-- a memory's last word has a number below 2^32
unfoldable pub address_bits_of : ℕ → Option ℕ
address_bits_of words = address_bits_to 32 words

-- ---- items

-- all declarations, and what the items behind these declarations mean
pub record Resolved : Type 0 where
  pub declarations : List Declaration
  pub assignments : List Assignment
  pub blocks : List Statement

-- what is resolved of a module, with one more assignment in front
abbrev pub with_assignment : ℕ → Expr → Resolved → Resolved
with_assignment target value r = record r { assignments = record { target = target; value = value } ∷ r.assignments }

-- what is resolved of a module, with the body of one more clocked block in front
abbrev pub with_block : ℕ → Statement → Resolved → Resolved
with_block clock s r = record r { blocks = s ∷ r.blocks }

-- the declaration of a name
abbrev pub declared_in : List Declaration → List ℕ → Option Declaration
declared_in [] name = None
declared_in (d ∷ ds) name = if bytes_eq d.name name then Some d else declared_in ds name

-- the kind of a declaration is that of a memory
abbrev pub is_memory_kind : Kind → Bool
is_memory_kind (Memory bits) = true
is_memory_kind _ = false

-- what is declared is a memory
abbrev pub is_memory : Declaration → Bool
is_memory d = is_memory_kind d.kind

-- whether a name is declared, and its declaration meets a test
abbrev pub is_so : (Declaration → Bool) → List Declaration → List ℕ → Bool
is_so test ds name = option_map_or test (declared_in ds name) false

-- a block is clocked by `clk`, which is declared before it and is no memory
abbrev pub clocked : List Declaration → List ℕ → Option ℕ
clocked ds clock =
    if bytes_eq clock (codes "clk") then (if is_so is_memory ds clock then None else number_of ds clock) else None

-- the declarations, assignments and blocks of a list of items; a name is known from its declaration on
abbrev pub resolve_items : List Declaration → List WrittenItem → Option Resolved
resolve_items ds [] = Some (record { declarations = ds; assignments = []; blocks = [] })
resolve_items ds (Wires range names ∷ is) = resolve_items (ds ++ map (declare Wire range) names) is
resolve_items ds (Registers range names ∷ is) = resolve_items (ds ++ map (declare Register range) names) is
resolve_items ds (MemoryOf range name last ∷ is) =
    option_and_then (λ j. resolve_items (ds ++ declare (Memory j) range name ∷ []) is)
    (address_bits_of (decimal_number last + 1))
resolve_items ds (Assign target value ∷ is) =
    three with_assignment (number_of ds target) (resolve_expr ds value) (resolve_items ds is)
resolve_items ds (Always clock body ∷ is) =
    three with_block (clocked ds clock) (resolve_statement ds body) (resolve_items ds is)

-- the module of a written one: its name and ports, with what its items resolve to
abbrev pub module_from : WrittenModule → Resolved → Module
module_from w r =
    record {
      name = w.name;
      ports = length w.ports;
      declarations = r.declarations;
      assignments = r.assignments;
      blocks = r.blocks;
    }

-- the module that is meant; None where a name is not declared before it is used, the clock stands in an expression, a
-- block has another clock than `clk` or a memory for it, or a memory has not 2^j words
abbrev pub resolve : WrittenModule → Option Module
resolve w = option_map (module_from w) (resolve_items (map declare_port w.ports) w.items)
