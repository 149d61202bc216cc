-- Levels: the operations whose operands are columns, literals or parameters become columns, once each, until none is
-- left.
use Rattle.std.specs.Prelude.{ℕ, ◌+◌, List, [], ◌∷◌, ◌++◌, Bool, Option, Some, None, option_map}
use Rattle.std.specs.List.{position_or_len}
use Rattle.indexmap.specs.IndexSet.{insert_all}
use Rattle.gl_algebra.specs.declared.node.Operand.{Operand}
use Rattle.gl_algebra.specs.declared.node.Operand.TheVariants as operand
use Rattle.gl_values.specs.declared.op.Op.{Op}
use Rattle.gl_algebra.specs.declared.node.ColOp.{ColOp}
use Rattle.gl_algebra.specs.declared.node.ColOp.TheVariants as op
use Rattle.gl_algebra.specs.contracts.node.ColOpPartialEq.TheImpl as OfColOp
use Rattle.gl_elaborate.specs.Terms.{Term, Column, Literal, Parameter, Not, Flip, Cast, Binary}

-- two operations on columns are equal
abbrev pub same_op : ColOp → ColOp → Bool
same_op = OfColOp.ghosts.eq

-- a column, literal or parameter as an operand
abbrev pub leaf_of : Term → Option Operand
leaf_of (Column number) = Some (operand.Column number)
leaf_of (Literal word kind) = Some (operand.Literal word kind)
leaf_of (Parameter number kind) = Some (operand.Parameter number kind)
leaf_of (Not t) = None
leaf_of (Flip t) = None
leaf_of (Cast t kind) = None
leaf_of (Binary op l r) = None

-- an operation of two operands, where both are columns, literals or parameters
abbrev pub binary_of : Op → Option Operand → Option Operand → Option ColOp
binary_of operator None right = None
binary_of operator (Some x) None = None
binary_of operator (Some x) (Some y) = Some (op.Binary operator x y)

-- the operation that a term is, where its operands are columns, literals or parameters
abbrev pub op_of : Term → Option ColOp
op_of (Column number) = None
op_of (Literal word kind) = None
op_of (Parameter number kind) = None
op_of (Not t) = option_map op.Not (leaf_of t)
op_of (Flip t) = option_map op.Flip (leaf_of t)
op_of (Cast t kind) = option_map (λ x. op.Cast x kind) (leaf_of t)
op_of (Binary op l r) = binary_of op (leaf_of l) (leaf_of r)

-- an operation alone, or else these
abbrev pub or_these : Option ColOp → List ColOp → List ColOp
or_these None ops = ops
or_these (Some op) ops = op ∷ []

-- the innermost operations of a term, from left to right
abbrev pub innermost : Term → List ColOp
innermost (Column number) = []
innermost (Literal word kind) = []
innermost (Parameter number kind) = []
innermost (Not t) = or_these (op_of (Not t)) (innermost t)
innermost (Flip t) = or_these (op_of (Flip t)) (innermost t)
innermost (Cast t kind) = or_these (op_of (Cast t kind)) (innermost t)
innermost (Binary op l r) = or_these (op_of (Binary op l r)) (innermost l ++ innermost r)

-- the innermost operations of terms, from left to right
abbrev pub innermost_of_all : List Term → List ColOp
innermost_of_all [] = []
innermost_of_all (t ∷ ts) = innermost t ++ innermost_of_all ts

-- the innermost operations of terms, each once, in order of first occurrence
unfoldable pub level_of : List Term → List ColOp
level_of terms = insert_all same_op [] (innermost_of_all terms)

-- the column of an operation of a level that stands behind `base` columns, or else this term
abbrev pub or_column : ℕ → List ColOp → Option ColOp → Term → Term
or_column base level None t = t
or_column base level (Some op) t = Column (base + position_or_len (same_op op) level)

-- a term whose innermost operations are columns
abbrev pub reduced : ℕ → List ColOp → Term → Term
reduced base level (Column number) = Column number
reduced base level (Literal word kind) = Literal word kind
reduced base level (Parameter number kind) = Parameter number kind
reduced base level (Not t) = or_column base level (op_of (Not t)) (Not (reduced base level t))
reduced base level (Flip t) = or_column base level (op_of (Flip t)) (Flip (reduced base level t))
reduced base level (Cast t kind) = or_column base level (op_of (Cast t kind)) (Cast (reduced base level t) kind)
reduced base level (Binary op l r) =
    or_column base level (op_of (Binary op l r)) (Binary op (reduced base level l) (reduced base level r))

-- a term of depth 0 as an operand
abbrev pub operand_of : Term → Operand
operand_of (Column number) = operand.Column number
operand_of (Literal word kind) = operand.Literal word kind
operand_of (Parameter number kind) = operand.Parameter number kind
operand_of (Not t) = operand.Column 0
operand_of (Flip t) = operand.Column 0
operand_of (Cast t kind) = operand.Column 0
operand_of (Binary op l r) = operand.Column 0
