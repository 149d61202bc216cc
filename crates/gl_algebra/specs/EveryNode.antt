-- The shapes of a small plan with a node of every kind.
use Rattle.std.specs.Prelude.{true, false, List, [], ◌∷◌}
use Rattle.gl_values.specs.declared.kind.Kind.{Kind}
use Rattle.gl_values.specs.declared.kind.Kind.TheVariants.{Unsigned}
use Rattle.gl_algebra.specs.declared.node.ColOp.{ColOp}
use Rattle.gl_algebra.specs.declared.node.ColOp.TheVariants.{Binary}
use Rattle.gl_values.specs.declared.op.Op.TheVariants.{Eq}
use Rattle.gl_algebra.specs.declared.node.Operand.{Operand}
use Rattle.gl_algebra.specs.declared.node.Operand.TheVariants.{Column}
use Rattle.gl_algebra.specs.declared.node.PlanAgg.{PlanAgg}
use Rattle.gl_algebra.specs.declared.node.PlanAgg.TheVariants.{Sum}
use Rattle.gl_algebra.specs.declared.node.PlanFrame.{PlanFrame}
use Rattle.gl_algebra.specs.declared.node.PlanFrame.TheVariants.{Lag}
use Rattle.gl_algebra.specs.declared.node.PlanNode.TheVariants.{Stream, Body}
use Rattle.gl_algebra.specs.Shapes.{Shape, unsteady, once, with_stream}

-- one number
abbrev pub number : List Kind
number = Unsigned 8 ∷ []

-- a number, and a bit
abbrev pub number_and_bit : List Kind
number_and_bit = Unsigned 8 ∷ Unsigned 1 ∷ []

-- whether the number is itself
abbrev pub tests : List ColOp
tests = Binary Eq (Column 0) (Column 0) ∷ []

-- the number alone
abbrev pub items : List Operand
items = Column 0 ∷ []

-- the number before it
abbrev pub frames : List PlanFrame
frames = Lag (Column 0) 1 ∷ []

-- the sum of the numbers
abbrev pub sums : List PlanAgg
sums = Sum (Column 0) ∷ []

-- a stream of one number gives a row in step with itself and waits for no end
abbrev pub of_stream : Shape
of_stream = record { kinds = number; closing = false; pace = with_stream 0; arrives = true; leaves = Stream 0 number ∷ [] }

-- a filtered body input gives a number and a bit, at no steady pace
abbrev pub of_choice : Shape
of_choice = record { kinds = number_and_bit; closing = false; pace = unsteady; arrives = true; leaves = Body number ∷ [] }

-- sums over a body input are one row of a number, and come with the end
abbrev pub of_sums : Shape
of_sums = record { kinds = number; closing = true; pace = once; arrives = false; leaves = Body number ∷ [] }
