-- The module that a value of the program stands for: its tree, without where the parts lie in memory.
use Rattle.std.specs.Prelude.{List, [], ◌∷◌, map}
use Rattle.gl_verilog.specs.Module as spec
use Rattle.gl_verilog.specs.declared.module.Kind.{Kind}
use Rattle.gl_verilog.specs.declared.module.Kind.TheVariants as kind_is
use Rattle.gl_verilog.specs.declared.module.Declaration.{Declaration}
use Rattle.gl_verilog.specs.declared.module.BinaryOp.{BinaryOp}
use Rattle.gl_verilog.specs.declared.module.BinaryOp.TheVariants as op_is
use Rattle.gl_verilog.specs.declared.module.Expr.{Expr, Net, Literal, Invert', Binary', Choose', Join', Select, Read'}
use Rattle.gl_verilog.specs.declared.module.Statement.{Statement, Nothing, Put, Write, Block', If', Row_of-Statement, end_of-Statement, more_of-Statement}
use Rattle.gl_verilog.specs.declared.module.Assignment.{Assignment}
use Rattle.gl_verilog.specs.declared.module.Module.{Module}

-- the kind of a declaration, as the spec names it
abbrev pub kind_of : Kind → spec.Kind
kind_of kind_is.Input = spec.Input
kind_of kind_is.OutputWire = spec.OutputWire
kind_of kind_is.OutputRegister = spec.OutputRegister
kind_of kind_is.Wire = spec.Wire
kind_of kind_is.Register = spec.Register
kind_of (kind_is.Memory address_bits) = spec.Memory address_bits

-- the operator between two words, as the spec names it
abbrev pub op_of : BinaryOp → spec.BinaryOp
op_of op_is.Add = spec.Add
op_of op_is.Sub = spec.Sub
op_of op_is.Mul = spec.Mul
op_of op_is.And = spec.And
op_of op_is.Xor = spec.Xor
op_of op_is.Or = spec.Or
op_of op_is.Eq = spec.Eq
op_of op_is.Ne = spec.Ne
op_of op_is.Lt = spec.Lt
op_of op_is.Le = spec.Le
op_of op_is.Gt = spec.Gt
op_of op_is.Ge = spec.Ge

-- the expression that a boxed one stands for
abbrev pub expr_of : Expr → spec.Expr
expr_of (Net n) = spec.Net n
expr_of (Literal value width) = spec.Literal value width
expr_of (Invert' width p arg) = spec.Invert width (expr_of arg)
expr_of (Binary' op width p left q right) = spec.Binary (op_of op) width (expr_of left) (expr_of right)
expr_of (Choose' p test q yes' r no') = spec.Choose (expr_of test) (expr_of yes') (expr_of no')
expr_of (Join' low_width p high q low) = spec.Join low_width (expr_of high) (expr_of low)
expr_of (Select high low n) = spec.Select high low n
expr_of (Read' memory p address) = spec.Read memory (expr_of address)

-- a list of statements is a chain of pairs that ends in nothing
abbrev mutual
  -- the statement that a boxed one stands for
  pub statement_of : Statement → spec.Statement
  statement_of Nothing = spec.Nothing
  statement_of (Put register value) = spec.Put register (expr_of value)
  statement_of (Write memory address value) = spec.Write memory (expr_of address) (expr_of value)
  statement_of (Block' shape row) = chain_of row
  statement_of (If' test p yes' q no') = spec.If (expr_of test) (statement_of yes') (statement_of no')

  -- the statements of a row in their order, as pairs that end in nothing
  pub chain_of : {m : _} → Row_of-Statement m → spec.Statement
  chain_of end_of-Statement = spec.Nothing
  chain_of (more_of-Statement s rest) = spec.Both (statement_of s) (chain_of rest)

-- the declaration that the program's value stands for
abbrev pub declaration_of : Declaration → spec.Declaration
declaration_of d = record { name = d.name; width = d.width; is_vector = d.is_vector; kind = kind_of d.kind }

-- the assignment that the program's value stands for
abbrev pub assignment_of : Assignment → spec.Assignment
assignment_of a = record { target = a.target; value = expr_of a.value }

-- the module that the program's value stands for, part by part
abbrev pub module_of : Module → spec.Module
module_of m = record {
  name = m.name;
  ports = m.ports;
  declarations = map declaration_of m.declarations;
  assignments = map assignment_of m.assignments;
  blocks = map statement_of m.blocks;
}

-- the chain of a list of statements
abbrev pub chained : List Statement → spec.Statement
chained [] = spec.Nothing
chained (s ∷ rest) = spec.Both (statement_of s) (chained rest)
