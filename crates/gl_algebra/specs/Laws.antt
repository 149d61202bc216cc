-- Laws of plans.
use Rattle.std.specs.Prelude.{ℕ, ◌≡◌, ◌<◌, ◌≤◌, ◌↔◌, Bool, false, true, ◌||◌, List, ◌++◌, length, Some, slice_get, All, IsTrue, ⊤}
use Rattle.std.specs.List.{list_any}
use Rattle.gl_values.specs.Kinds.{IsKind}
use Rattle.gl_values.specs.declared.kind.Kind.{Kind}
use Rattle.gl_arrival.specs.Changes.{moved}
use Rattle.gl_arrival.specs.Laws.{Rises}
use Rattle.gl_arrival.specs.Places.{Placed, at_places}
use Rattle.gl_algebra.specs.declared.figures.Figures.{Figures}
use Rattle.gl_algebra.specs.declared.node.PlanNode.{PlanNode}
use Rattle.gl_algebra.specs.declared.node.PlanNode.TheVariants.{Body, Union}
use Rattle.gl_algebra.specs.FigureTable.{IsSound, figures_from, figures_of, spacer_figures}
use Rattle.gl_algebra.specs.Fits.{Suits, IsPlan}
use Rattle.gl_algebra.specs.Nodewise.{named_by, nodewise}
use Rattle.gl_values.specs.Results.{Row, AreSame}
use Rattle.gl_algebra.specs.Results.{Inputs, arriving_from, meaning_from, IsPlanArrival, IsPlanResult}
use Rattle.gl_algebra.specs.Shapes.{Shape, kinds_of, Pace, unsteady, once, with_stream, with_body, shape_from, shape_of, is_closing}
use Rattle.gl_algebra.specs.Cost.{keys_from, keys_of, lean_from, lean_of, store_from, store_of}
use Rattle.gl_algebra.specs.Direct.{form_from, form_of}
use Rattle.gl_algebra.specs.Views.{reads_time}
use Rattle.gl_algebra.specs.Weights.{weight_from, weight_of, copies_from, copies_of}

-- each row of the table gives sound figures from sound ones
abbrev pub RowsKeepSound : Type 0
RowsKeepSound = (shapes : ℕ → Shape) (figures : ℕ → Figures) (node : PlanNode) → Suits shapes node
    → All (λ child. IsSound (figures child)) (named_by node) → IsSound (figures_from shapes figures node)

-- so does a spacer
abbrev pub SpacersKeepSound : Type 0
SpacersKeepSound = (gap : ℕ) (f : Figures) → 1 ≤ gap → IsSound f → IsSound (spacer_figures gap f)

-- the figures of each node of a plan are sound
abbrev pub FiguresAreSound : Type 0
FiguresAreSound =
    (nodes : List PlanNode) (number : ℕ) → IsPlan nodes → number < length nodes → IsSound (figures_of nodes number)

-- a closing node gives nothing before the end
abbrev pub ClosingNodesWait : Type 0
ClosingNodesWait = (nodes : List PlanNode) (number : ℕ) → IsPlan nodes → number < length nodes
    → IsTrue (is_closing nodes number) → (figures_of nodes number).nt ≡ 0

-- figures of a node each of whose rows comes a fixed time after its beat
pub record IsFixed (f : Figures) : Type 0 where
  pub tuples_last : f.lt ≡ f.a
  pub end_last : f.le ≡ f.a
  pub tuples : f.nt ≡ 1
  pub end_tuples : f.ne ≡ 1

-- figures of a node that gives one row with the end and none before
pub record IsOnce (f : Figures) : Type 0 where
  pub tuples : f.nt ≡ 0
  pub end_tuples : f.ne ≡ 1

-- what a pace says of figures
abbrev pub PaceFixes : Pace → Figures → Type 0
PaceFixes unsteady f = ⊤
PaceFixes once f = IsOnce f
PaceFixes (with_stream number) f = IsFixed f
PaceFixes with_body f = IsFixed f

-- the figures of each node are as its pace says
abbrev pub PacesFixFigures : Type 0
PacesFixFigures = (nodes : List PlanNode) (number : ℕ) → IsPlan nodes → number < length nodes
    → PaceFixes (shape_of nodes number).pace (figures_of nodes number)

-- inputs that give a body the same rows at the same places, and the parameters the same words
pub record HaveSameBody (inputs others : Inputs) : Type 0 where
  pub rows : inputs.body ≡ others.body
  pub places : inputs.body_places ≡ others.body_places
  pub sets : inputs.sets ≡ others.sets

-- a node all of whose leaves are a body's input has the same results for all inputs that give a body the same rows at
-- the same places, and the parameters the same words
abbrev pub BodiesReadTheirInput : Type 0
BodiesReadTheirInput = (nodes : List PlanNode) (number : ℕ) → IsPlan nodes → number < length nodes
    → (kinds : List Kind) → All (λ leaf. leaf ≡ Body kinds) (shape_of nodes number).leaves
    → (inputs others : Inputs) → HaveSameBody inputs others
    → (out : List Row) (spill : Bool) → IsPlanResult nodes number inputs out spill
    → IsPlanResult nodes number others out spill

-- inputs that give the same rows at the same places, and the same words of the parameters, whatever their times and
-- ticks are
pub record HaveSameRows (inputs others : Inputs) : Type 0 where
  pub streams : (number : ℕ) → inputs.streams number ≡ others.streams number
  pub places : (number : ℕ) → inputs.places number ≡ others.places number
  pub body : HaveSameBody inputs others

-- without a window of time a plan has equal results for inputs whose rows, places and words of parameters are equal
abbrev pub UntimedResults : Type 0
UntimedResults = (nodes : List PlanNode) (number : ℕ) → IsPlan nodes → number < length nodes → reads_time nodes ≡ false
    → (inputs others : Inputs) → HaveSameRows inputs others
    → (out : List Row) (spill : Bool) → IsPlanResult nodes number inputs out spill
    → IsPlanResult nodes number others out spill

-- inputs that give the same rows, times, ticks and words of the parameters, where the places of the first turn into
-- those of the second
pub record TurnInto (g : ℕ → ℕ) (inputs others : Inputs) : Type 0 where
  pub streams : (number : ℕ) → inputs.streams number ≡ others.streams number
  pub places : (number : ℕ) → at_places (others.streams number) (others.places number)
      ≡ moved g (at_places (inputs.streams number) (inputs.places number))
  pub times : (number : ℕ) → inputs.times number ≡ others.times number
  pub ticks : inputs.ticks ≡ others.ticks
  pub body : inputs.body ≡ others.body
  pub body_places : at_places others.body others.body_places ≡ moved g (at_places inputs.body inputs.body_places)
  pub sets : inputs.sets ≡ others.sets

-- only the order of places counts
abbrev pub ResultsGoByOrder : Type 0
ResultsGoByOrder = (nodes : List PlanNode) (number : ℕ) → IsPlan nodes → number < length nodes
    → (g : ℕ → ℕ) → Rises g → (inputs others : Inputs) → TurnInto g inputs others
    → (out : List Row) (spill : Bool) → IsPlanResult nodes number others out spill
    → IsPlanResult nodes number inputs out spill

-- the columns of each node of a plan have kinds of columns
abbrev pub ColumnsHaveKinds : Type 0
ColumnsHaveKinds =
    (nodes : List PlanNode) (number : ℕ) → IsPlan nodes → number < length nodes → All IsKind (kinds_of nodes number)

-- whether a node is a union
abbrev pub is_union : PlanNode → Bool
is_union (Union left right) = true
is_union node = false

-- whether it is one or has one below it, in a body too
abbrev pub has_union_from : (ℕ → Bool) → PlanNode → Bool
has_union_from unions node = is_union node || list_any unions (named_by node)

-- a node is a union in any order or has one below it, in a body too
unfoldable pub has_union : List PlanNode → ℕ → Bool
has_union nodes = nodewise has_union_from false nodes

-- a node without a union has one result at most for inputs
abbrev pub ResultsAreUnique : Type 0
ResultsAreUnique =
    (nodes : List PlanNode) (number : ℕ) → IsPlan nodes → number < length nodes → has_union nodes number ≡ false
    → (inputs : Inputs) (out out' : List Row) (spill spill' : Bool)
    → IsPlanResult nodes number inputs out spill → IsPlanResult nodes number inputs out' spill'
    → AreSame out out' spill spill'

-- what a plan has for a node follows the node's row of each table
pub record FollowsTables (nodes : List PlanNode) (number : ℕ) (node : PlanNode) : Type 0 where
  pub shape : shape_of nodes number ≡ shape_from (shape_of nodes) node
  pub figures : figures_of nodes number ≡ figures_from (shape_of nodes) (figures_of nodes) node
  pub weight : weight_of nodes number ≡ weight_from (shape_of nodes) (figures_of nodes) (weight_of nodes) node
  pub copies : copies_of nodes number ≡ copies_from (copies_of nodes) node
  pub form : form_of nodes number ≡ form_from (shape_of nodes) (form_of nodes) node
  pub lean : lean_of nodes number
      ≡ lean_from (shape_of nodes) (figures_of nodes) (form_of nodes) (lean_of nodes) node
  pub keys : keys_of nodes number ≡ keys_from (shape_of nodes) (form_of nodes) (keys_of nodes) node
  pub store : store_of nodes number
      ≡ store_from (shape_of nodes) (figures_of nodes) (form_of nodes) (store_of nodes) node
  pub arrivals : (inputs : Inputs) (out : List (Placed Row)) (spill : Bool) → IsPlanArrival nodes number inputs out spill
      ↔ arriving_from (shape_of nodes) (IsPlanArrival nodes) node inputs out spill
  pub results : (inputs : Inputs) (out : List Row) (spill : Bool) → IsPlanResult nodes number inputs out spill
      ↔ meaning_from (shape_of nodes) (IsPlanArrival nodes) (IsPlanResult nodes) node inputs out spill

-- each node of a plan has the shape, figures, weight, bits and results that the tables give it from the nodes that it
-- names
abbrev pub NodesFollowTables : Type 0
NodesFollowTables =
    (nodes : List PlanNode) (number : ℕ) (node : PlanNode) → IsPlan nodes → slice_get nodes number ≡ Some node
    → FollowsTables nodes number node

-- nodes that are added change nothing of the nodes before them
pub record IsKept (nodes more : List PlanNode) (number : ℕ) : Type 0 where
  pub shape : shape_of (nodes ++ more) number ≡ shape_of nodes number
  pub figures : figures_of (nodes ++ more) number ≡ figures_of nodes number
  pub weight : weight_of (nodes ++ more) number ≡ weight_of nodes number
  pub copies : copies_of (nodes ++ more) number ≡ copies_of nodes number
  pub arrivals : (inputs : Inputs) (out : List (Placed Row)) (spill : Bool)
      → IsPlanArrival (nodes ++ more) number inputs out spill ↔ IsPlanArrival nodes number inputs out spill
  pub results : (inputs : Inputs) (out : List Row) (spill : Bool) → IsPlanResult (nodes ++ more) number inputs out spill
      ↔ IsPlanResult nodes number inputs out spill

-- nodes that are put behind a plan change nothing of the nodes that it had
abbrev pub EarlierNodesAreKept : Type 0
EarlierNodesAreKept =
    (nodes more : List PlanNode) (number : ℕ) → IsPlan nodes → number < length nodes → IsKept nodes more number
