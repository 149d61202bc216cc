-- What putting a child asks for follows from what putting its node asks for.
use Rattle.std.proofs.Common.{◌≡◌, ℕ, ◌<◌, List, [], ◌∷◌, ◌++◌, length, Bool, Option, Some, None, slice_get, All, subst, arith}
use Rattle.std.proofs.lemmas.List.Elements.{All-head, All-tail}
use Rattle.std.proofs.lemmas.Option.{slice_get_within}
use Rattle.gl_values.specs.declared.kind.Kind.{Kind}
use Rattle.gl_bits.proofs.AllLists.{all_back, all_front}
use Rattle.gl_algebra.specs.declared.figures.Figures.{Figures}
use Rattle.gl_algebra.specs.declared.node.PlanNode.{PlanNode}
use Rattle.gl_algebra.specs.declared.node.PlanNode.TheVariants.{Body}
use Rattle.gl_algebra.specs.Fits.{IsPlan}
use Rattle.gl_algebra.specs.Nodewise.{named_by}
use Rattle.gl_algebra.specs.Shapes.{shape_of, shape_from}
use Rattle.gl_algebra.specs.Views.{reads_time}
use Rattle.gl_net.specs.declared.node.Bit.{Bit}
use Rattle.gl_net.specs.Net.{Net, Keeps}
use Rattle.gl_wire.specs.declared.emitted.Emitted.{Emitted}
use Rattle.gl_wire.specs.declared.wire.Wire.{Wire}
use Rattle.gl_wire.proofs.ColumnLemmas.{wire_kept}
use Rattle.gl_wire.specs.Faults.{IsLine}
use Rattle.gl_wire.proofs.FaultLemmas.{line_kept, lines_kept}
use Rattle.gl_wiring.specs.Below.{LawsBelow}
use Rattle.gl_wiring.specs.Leaves.{HasLine, HaveLeaves, HaveLine}
use Rattle.gl_wiring.specs.Put.{CanPut, HasColumns, IsPut}

pub leaves_kept : (old new : Net) (leaves : List Wire) (nodes : List PlanNode) → Keeps old new → HaveLeaves old leaves nodes → HaveLeaves new leaves nodes
leaves_kept old new leaves [] g h = tt
leaves_kept old new leaves (node ∷ nodes) g h = (
  record { wire = h.0.wire; there = h.0.there; is = wire_kept old new h.0.wire g h.0.is; same_widths = h.0.same_widths },
  leaves_kept old new leaves nodes g h.1,
)

left_leaves : (net : Net) (leaves : List Wire) (xs ys : List PlanNode) → HaveLeaves net leaves (xs ++ ys) → HaveLeaves net leaves xs
left_leaves net leaves [] ys h = tt
left_leaves net leaves (x ∷ xs) ys h = (h.0, left_leaves net leaves xs ys h.1)

right_leaves : (net : Net) (leaves : List Wire) (xs ys : List PlanNode) → HaveLeaves net leaves (xs ++ ys) → HaveLeaves net leaves ys
right_leaves net leaves [] ys h = h
right_leaves net leaves (x ∷ xs) ys h = right_leaves net leaves xs ys h.1

pub record CanPutChild (nodes : List PlanNode) (figures : List Figures) (id child : ℕ) (net : Net) (tick : Option Bit) (leaves : List Wire) : Type 0 where
  pub before : child < id
  pub can : CanPut nodes figures child net tick leaves

module _ (nodes : List PlanNode) (id : ℕ) (node : PlanNode) (plan : IsPlan nodes) (at : slice_get nodes id ≡ Some node) where
  pub first_before : (child : ℕ) (rest : List ℕ) → named_by node ≡ child ∷ rest → child < id
  first_before child rest named = All-head (λ c. c < id) child rest (subst (All (λ c. c < id)) named (plan.fits id node at).before)

  pub second_before : (left right : ℕ) → named_by node ≡ left ∷ right ∷ [] → right < id
  second_before left right named =
      All-head (λ c. c < id) right [] (All-tail (λ c. c < id) left (right ∷ []) (subst (All (λ c. c < id)) named (plan.fits id node at).before))

  -- the nodes that a node names are there
  pub first_within : (child : ℕ) (rest : List ℕ) → named_by node ≡ child ∷ rest → child < length nodes
  first_within child rest named = let before = first_before child rest named in omega (arith, before, slice_get_within nodes id node at)

  pub second_within : (left right : ℕ) → named_by node ≡ left ∷ right ∷ [] → right < length nodes
  second_within left right named = let before = second_before left right named in omega (arith, before, slice_get_within nodes id node at)

-- what a node asks of its leaves: wires, and a line of ticks where one is read
abbrev HasAll : List PlanNode → Net → Option Bit → List Wire → List PlanNode → Type 0
HasAll nodes net tick leaves of = HaveLeaves net leaves of × HaveLine (reads_time nodes) tick of

-- a body's input needs no line
no_line : (reads : Bool) (tick : Option Bit) (kinds : List Kind) (leaves : List PlanNode) → All (λ leaf. leaf ≡ Body kinds) leaves → HaveLine reads tick leaves
no_line reads tick kinds [] h = tt
no_line reads tick kinds (x ∷ xs) h = (
  rw (All-head (λ leaf. leaf ≡ Body kinds) x xs h) tt,
  no_line reads tick kinds xs (All-tail (λ leaf. leaf ≡ Body kinds) x xs h),
)

module _ (laws : LawsBelow) (nodes : List PlanNode) (figures : List Figures) (id : ℕ) (node : PlanNode) (net : Net) (tick : Option Bit) (leaves : List Wire)
    (plan : IsPlan nodes) (at : slice_get nodes id ≡ Some node) (can : CanPut nodes figures id net tick leaves) where
  of_node : HasAll nodes net tick leaves (shape_from (shape_of nodes) node).leaves
  of_node = subst (λ s. HasAll nodes net tick leaves s.leaves) (laws.nodes_follow_tables nodes id node plan at).shape (can.leaved, can.timed)

  can_first : (child : ℕ) (rest : List ℕ) → named_by node ≡ child ∷ rest → HasAll nodes net tick leaves (shape_of nodes child).leaves
      → CanPutChild nodes figures id child net tick leaves
  can_first child rest named has =
      let before = first_before nodes id node plan at child rest named in
      record {
        before = before;
        can = record { within = omega (arith, before, can.within); figured = can.figured; leaved = has.0; ticked = can.ticked; timed = has.1 };
      }

  -- its first or only child, whose leaves are the node's; of two that is the source of a body
  pub can_child : (child : ℕ) (rest : List ℕ) → named_by node ≡ child ∷ rest
      → (shape_from (shape_of nodes) node).leaves ≡ (shape_of nodes child).leaves → CanPutChild nodes figures id child net tick leaves
  can_child child rest named same = can_first child rest named (subst (HasAll nodes net tick leaves) same of_node)

  -- the left of two, and the right one, once the left one is put
  pub can_left : (left right : ℕ) → named_by node ≡ left ∷ right ∷ []
      → (shape_from (shape_of nodes) node).leaves ≡ (shape_of nodes left).leaves ++ (shape_of nodes right).leaves
      → CanPutChild nodes figures id left net tick leaves
  can_left left right named same =
      let all = subst (HasAll nodes net tick leaves) same of_node in
      can_first left (right ∷ []) named (
        left_leaves net leaves _ (shape_of nodes right).leaves all.0,
        all_front (HasLine (reads_time nodes) tick) (shape_of nodes left).leaves (shape_of nodes right).leaves all.1,
      )

  can_second : (first second : ℕ) (new : Net) (line : Option Bit) (wires : List Wire) → named_by node ≡ first ∷ second ∷ []
      → IsLine new line → HasAll nodes new line wires (shape_of nodes second).leaves → CanPutChild nodes figures id second new line wires
  can_second first second new line wires named is has =
      let before = second_before nodes id node plan at first second named in
      record {
        before = before;
        can = record { within = omega (arith, before, can.within); figured = can.figured; leaved = has.0; ticked = is; timed = has.1 };
      }

  pub can_right : (new : Net) (left right : ℕ) → named_by node ≡ left ∷ right ∷ []
      → (shape_from (shape_of nodes) node).leaves ≡ (shape_of nodes left).leaves ++ (shape_of nodes right).leaves
      → Keeps net new → CanPutChild nodes figures id right new tick leaves
  can_right new left right named same keeps =
      let all = subst (HasAll nodes net tick leaves) same of_node in
      can_second left right new tick leaves named (line_kept net new tick keeps can.ticked) (
        leaves_kept net new leaves _ keeps (right_leaves net leaves (shape_of nodes left).leaves _ all.0),
        all_back (HasLine (reads_time nodes) tick) (shape_of nodes left).leaves (shape_of nodes right).leaves all.1,
      )

  -- a body, of which another wire is the input
  pub can_body : (source body : ℕ) (wire : Wire) (kinds : List Kind) (new : Net) → named_by node ≡ source ∷ body ∷ []
      → HaveLeaves new (wire ∷ []) (shape_of nodes body).leaves → All (λ leaf. leaf ≡ Body kinds) (shape_of nodes body).leaves
      → CanPutChild nodes figures id body new None (wire ∷ [])
  can_body source body wire kinds new named has own =
      can_second source body new None (wire ∷ []) named tt (has, no_line (reads_time nodes) None kinds (shape_of nodes body).leaves own)

-- what is put has its node's columns
pub put_columns : (nodes : List PlanNode) (id : ℕ) (old new : Net) (tick : Option Bit) (leaves : List Wire) (e : Emitted) → IsPut nodes id old new tick leaves e → HasColumns nodes id new e
put_columns nodes id old new tick leaves e h = record { wire = h.gives.wire; same_widths = h.gives.same_widths; lines = h.gives.lines }

pub columns_kept : (nodes : List PlanNode) (id : ℕ) (old new : Net) (e : Emitted) → Keeps old new → HasColumns nodes id old e → HasColumns nodes id new e
columns_kept nodes id old new e g h = record { wire = wire_kept old new e.wire g h.wire; same_widths = h.same_widths; lines = lines_kept old new e.faults g h.lines }
