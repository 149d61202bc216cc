-- Circuits of a body behind the wires of a front.
use Rattle.std.proofs.Common.{◌≡◌, ℕ, zero, suc, ◌+◌, ◌*◌, List, [], ◌∷◌, ◌++◌, length, Some, None, All, slice_get, length-append, refl, sym, ap, ◌∙◌, subst, arith, Option}
use Rattle.std.proofs.lemmas.List.Elements.{All-head, All-tail}
use Rattle.std.proofs.lemmas.Option.{slice_get_within}
use Rattle.std.proofs.Math.Nat.{add-mul}
use Rattle.gl_values.specs.declared.kind.Kind.{Kind}
use Rattle.gl_bits.proofs.AllLists.{get_there}
use Rattle.gl_algebra.specs.declared.figures.Figures.{Figures}
use Rattle.gl_algebra.specs.declared.node.PlanNode.{PlanNode}
use Rattle.gl_algebra.specs.declared.node.PlanNode.TheVariants.{Body}
use Rattle.gl_algebra.specs.FigureTable.{input_figures}
use Rattle.gl_algebra.specs.Fits.{IsBodyFor, IsPlan}
use Rattle.gl_algebra.specs.Nodewise.{named_by}
use Rattle.gl_algebra.specs.Shapes.{kinds_of, shape_of}
use Rattle.gl_algebra.proofs.ListLemmas.{earlier, last, place_in_append}
use Rattle.gl_net.specs.declared.node.Bit.{Bit}
use Rattle.gl_net.specs.Net.{Net, Run, Keeps}
use Rattle.gl_net.proofs.Determined.{keeps_then}
use Rattle.gl_net.proofs.Growth.{same_keeps}
use Rattle.gl_wire_registers.specs.Joins.{AreCopies, columns_of}
use Rattle.gl_wire.specs.declared.emitted.Emitted.{Emitted}
use Rattle.gl_wire.specs.declared.wire.Wire.{Wire}
use Rattle.gl_wire.specs.Beats.{beats_of}
use Rattle.gl_wire.specs.Serves.{Fits}
use Rattle.gl_wire.specs.Wire.{IsWire, carried, widths}
use Rattle.gl_wiring.specs.Below.{LawsBelow}
use Rattle.gl_wiring.specs.Leaves.{HaveLeaves, LeavesFit, widths_of}
use Rattle.gl_wiring.specs.Put.{CanPut, HasColumns, IsPut, plan_cost}
use Rattle.gl_wiring.specs.Copies.{AreBodies, CanCopy, CanStandBehind}
use Rattle.gl_wiring.proofs.CanLemmas.{can_body, leaves_kept, second_within}
use Rattle.gl_wiring.proofs.GivesLemmas.{gives_kept}

-- a wire is the leaf of a body whose input has its columns
pub body_leaves : (net : Net) (w : Wire) (kinds : List Kind) → IsWire net w → widths w.columns ≡ widths_of kinds
    → (leaves : List PlanNode) → All (λ leaf. leaf ≡ Body kinds) leaves → HaveLeaves net (w ∷ []) leaves
body_leaves net w kinds is columns [] h = tt
body_leaves net w kinds is columns (x ∷ xs) h = (
  rw (All-head (λ leaf. leaf ≡ Body kinds) x xs h) (record { wire = w; there = refl; is = is; same_widths = columns }),
  body_leaves net w kinds is columns xs (All-tail (λ leaf. leaf ≡ Body kinds) x xs h),
)

-- the one leaf of a copy fits the beats of its own wire
pub copy_fits : LawsBelow → (run : Run) (w : Wire) → LeavesFit run None (w ∷ []) (beats_of (carried run w))
copy_fits laws run w = record { each = each; ticks = record { each = λ c h. absurd (cc) } }
  where
    each : (place : ℕ) (wire : Wire) → slice_get (w ∷ []) place ≡ Some wire → Fits input_figures (beats_of (carried run w)) (carried run wire)
    each zero wire h = let same : w ≡ wire = cc in subst (λ (x : Wire). Fits input_figures (beats_of (carried run w)) (carried run x)) same (laws.own_beats_fit (carried run w))
    each (suc place) wire h = absurd (cc)

-- behind a wire with the columns of its source a body can be put
pub can_stand : LawsBelow → (nodes : List PlanNode) (figures : List Figures) (id source body : ℕ) (node : PlanNode) (net : Net) (tick : Option Bit) (leaves : List Wire) (columns : List ℕ)
    → IsPlan nodes → slice_get nodes id ≡ Some node → named_by node ≡ source ∷ body ∷ [] → IsBodyFor (shape_of nodes source) (shape_of nodes body)
    → CanPut nodes figures id net tick leaves → columns ≡ widths_of (kinds_of nodes source) → CanStandBehind nodes figures body columns
can_stand laws nodes figures id source body node net tick leaves columns plan at named for can same = record {
  within = second_within nodes id node plan at source body named;
  each = λ other wire is own.
      (can_body laws nodes figures id node net tick leaves plan at can source body wire (kinds_of nodes source) other named
      (body_leaves other wire (kinds_of nodes source) is (own ∙ same) (shape_of nodes body).leaves for.leaves) for.leaves).can;
}

-- behind each of some wires with these columns
pub can_copies : (nodes : List PlanNode) (figures : List Figures) (body : ℕ) (columns : List ℕ) (net : Net) (wires : List Wire) → CanStandBehind nodes figures body columns
    → ((k : ℕ) (wire : Wire) → slice_get wires k ≡ Some wire → IsWire net wire × (widths wire.columns ≡ columns))
    → CanCopy nodes figures body net wires
can_copies nodes figures body columns net wires stands has =
    record { within = stands.within; each = λ k wire at. let x = has k wire at in stands.each net wire x.0 x.1 }

-- also once others are put
pub can_copy : (nodes : List PlanNode) (figures : List Figures) (body : ℕ) (old new : Net) (wires : List Wire) (k : ℕ) (w : Wire) → Keeps old new
    → CanCopy nodes figures body old wires → slice_get wires k ≡ Some w → CanPut nodes figures body new None (w ∷ [])
can_copy nodes figures body old new wires k w keeps h at =
    let x = h.each k w at in
    record {
      within = x.within;
      figured = x.figured;
      leaved = leaves_kept old new (w ∷ []) (shape_of nodes body).leaves keeps x.leaved;
      ticked = tt;
      timed = x.timed;
    }

pub bodies_none : (nodes : List PlanNode) (body : ℕ) (net : Net) (wires : List Wire) → AreBodies nodes body net net wires 0 []
bodies_none nodes body net wires = record {
  keeps = same_keeps net;
  cost = record { nodes = omega arith; registers = omega arith; memories = omega arith };
  as_many = refl;
  gives = λ k w e at at_copy. absurd (cc);
}

-- one more
pub bodies_more : (nodes : List PlanNode) (body : ℕ) (old mid new : Net) (wires : List Wire) (n : ℕ) (copies : List Emitted) (w : Wire) (e : Emitted)
    → AreBodies nodes body old mid wires n copies → slice_get wires n ≡ Some w → IsPut nodes body mid new None (w ∷ []) e → AreBodies nodes body old new wires (n + 1) (copies ++ e ∷ [])
bodies_more nodes body old mid new wires n copies w e are at h = record {
  keeps = keeps_then old mid new are.keeps h.keeps;
  cost = record {
    nodes = omega (arith, are.cost.nodes, h.cost.nodes, one_more (plan_cost nodes body).nodes);
    registers = omega (arith, are.cost.registers, h.cost.registers, one_more (plan_cost nodes body).registers);
    memories = omega (arith, are.cost.memories, h.cost.memories, one_more (plan_cost nodes body).memories);
  };
  as_many = length-append copies (e ∷ []) ∙ ap (λ (k : ℕ). k + 1) are.as_many;
  gives = λ k v x at_wire at_copy. elim (place_in_append copies e k x at_copy) [
    | earlier below is ↦ gives_kept _ _ _ _ mid new None (v ∷ []) x h.keeps (are.gives k v x at_wire is)
    | last place same ↦ (let here : v ≡ w = (let z : slice_get wires n ≡ Some v = ap (slice_get wires) (sym (place ∙ are.as_many)) ∙ at_wire in cc) in
        rw (same, here) h.gives)
  ];
}
  where
    one_more : (cost : ℕ) → (n + 1) * cost ≡ n * cost + cost
    one_more cost = let z : (n + 1) * cost ≡ n * cost + 1 * cost = add-mul n 1 cost in omega (arith, z)

-- copies have the body's columns
module _ (nodes : List PlanNode) (body : ℕ) (old new : Net) (wires : List Wire) (copies : List Emitted) (are : AreBodies nodes body old new wires (length wires) copies) where
  gives_each : (k : ℕ) (e : Emitted) → slice_get copies k ≡ Some e → HasColumns nodes body new e
  gives_each k e at =
      let l = slice_get_within copies k e at in
      let w = get_there wires k (omega (arith, l, are.as_many)) in
      let g = are.gives k w.0 e w.1 at in
      record { wire = g.wire; same_widths = g.same_widths; lines = g.lines }

  pub bodies_columns : (k : ℕ) (e : Emitted) → slice_get copies k ≡ Some e → columns_of copies ≡ widths_of (kinds_of nodes body)
  bodies_columns = first copies (λ k e at. (gives_each k e at).same_widths)
    where
      first : (xs : List Emitted) → ((k : ℕ) (e : Emitted) → slice_get xs k ≡ Some e → widths e.wire.columns ≡ widths_of (kinds_of nodes body))
          → (k : ℕ) (e : Emitted) → slice_get xs k ≡ Some e → columns_of xs ≡ widths_of (kinds_of nodes body)
      first [] h k e at = absurd (cc)
      first (x ∷ xs) h k e at = h 0 x refl

  pub bodies_copies : AreCopies new copies
  bodies_copies = record {
    each = λ k e at. (gives_each k e at).wire;
    same_widths = λ k e at. (gives_each k e at).same_widths ∙ sym (bodies_columns k e at);
    lines = record { each = λ k e at. (gives_each k e at).lines };
  }
