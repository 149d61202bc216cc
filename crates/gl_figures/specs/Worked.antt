-- Trades, and the shapes of nodes over them, for plans that were worked out by hand.
use Rattle.std.specs.Prelude.{ℕ, ◌≡◌, ◌<◌, false, true, List, [], ◌∷◌, length, IsTrue}
use Rattle.gl_values.specs.declared.kind.Kind.{Kind}
use Rattle.gl_values.specs.declared.kind.Kind.TheVariants.{Unsigned, Text}
use Rattle.gl_algebra.specs.declared.node.Operand.TheVariants.{Column}
use Rattle.gl_algebra.specs.declared.node.PlanAgg.{PlanAgg}
use Rattle.gl_algebra.specs.declared.node.PlanAgg.TheVariants.{Avg}
use Rattle.gl_algebra.specs.declared.node.PlanNode.{PlanNode}
use Rattle.gl_algebra.specs.declared.node.PlanNode.TheVariants.{Stream, Body}
use Rattle.gl_algebra.specs.Shapes.{Shape, shape_of, with_stream, with_body}

-- a symbol, a price and a volume
abbrev pub trades : List Kind
trades = Text 4 ∷ Unsigned 32 ∷ Unsigned 32 ∷ []

-- the stream of trades gives rows in step with itself
abbrev pub of_stream : Shape
of_stream = record { kinds = trades; closing = false; pace = with_stream 0; arrives = true; leaves = Stream 0 trades ∷ [] }

-- a body's input of trades gives rows in step with the body
abbrev pub of_input : Shape
of_input = record { kinds = trades; closing = false; pace = with_body; arrives = true; leaves = Body trades ∷ [] }

-- the average of the prices
abbrev pub averages : List PlanAgg
averages = Avg (Column 1) ∷ []

-- a node that waits for the end and reads the trades of a body's input alone
pub record IsOverInput (nodes : List PlanNode) (number : ℕ) : Type 0 where
  pub within : number < length nodes
  pub closing : IsTrue (shape_of nodes number).closing
  pub leaves : (shape_of nodes number).leaves ≡ Body trades ∷ []
