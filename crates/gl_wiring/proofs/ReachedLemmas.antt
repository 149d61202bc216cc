-- The circuits of all that some roots reach, from a table of marked nodes.
use Rattle.std.proofs.Common.{◌≡◌, ℕ, ◌<◌, Bool, true, false, List, [], ◌∷◌, length, Option, Some, All, slice_get, refl, ◌∙◌, subst, arith}
use Rattle.std.specs.Prelude.{nat_eq}
use Rattle.std.specs.List.{AllByRecursion, list_any}
use Rattle.std.proofs.lemmas.Bool.{eq-eqb}
use Rattle.std.proofs.lemmas.List.Elements.{All-cons, All-nil, All-from_recursion}
use Rattle.gl_bits.proofs.Bools.{or_left}
use Rattle.gl_algebra.specs.declared.figures.Figures.{Figures}
use Rattle.gl_algebra.specs.declared.node.PlanNode.{PlanNode}
use Rattle.gl_algebra.specs.Cost.{keys_of, lean_of, store_of}
use Rattle.gl_algebra.specs.Fits.{IsPlan}
use Rattle.gl_algebra.specs.Weights.{weight_of}
use Rattle.gl_net.specs.declared.node.Bit.{Bit}
use Rattle.gl_net.specs.Net.{Net}
use Rattle.gl_figures.specs.Marks.{AreMarks}
use Rattle.gl_figures.specs.Reach.{keys_part, lean_part, lies_below, reached, reaches, store_part, weight_part}
use Rattle.gl_figures.proofs.MarkLemmas.{all_of, any_with}
use Rattle.gl_figures.proofs.ReachLemmas.{one_sum}
use Rattle.gl_figures.proofs.SumLemmas.{sum-same}
use Rattle.gl_wire.specs.declared.emitted.Emitted.{Emitted}
use Rattle.gl_wire.specs.declared.wire.Wire.{Wire}
use Rattle.gl_wiring.specs.Below.{LawsBelow}
use Rattle.gl_wiring.specs.Put.{CanPut, IsPut}
use Rattle.gl_wiring.specs.Reached.{AreReached, CanPutAll}
use Rattle.gl_wiring.specs.Roots.{GivesOnce}
use Rattle.gl_wiring.specs.Tables.{ArePutTo, CanPutMarked, is_marked}
use Rattle.gl_wiring.proofs.MarkedLemmas.{all_by, can_marked}
use Rattle.gl_wiring.proofs.TableLemmas.{is_there, taken_gives, taken_once}

module _ (laws : LawsBelow) (nodes : List PlanNode) (figures : List Figures) (roots : List ℕ) (net : Net) (tick : Option Bit) (leaves : List Wire) (plan : IsPlan nodes)
    (can : CanPutAll nodes figures roots net tick leaves) where
  can_each : (root : ℕ) → list_any (λ r. nat_eq r root) roots ≡ true → CanPut nodes figures root net tick leaves
  can_each root is = all_of (λ r. CanPut nodes figures r net tick leaves) roots root (All-from_recursion _ roots can) is

  pub rooted : AllByRecursion (λ root. root < length nodes) roots
  rooted = all_by (λ root. root < length nodes) roots (λ root is. (can_each root is).within)

  pub all_marked : (marks : List Bool) → AreMarks nodes roots marks → CanPutMarked nodes figures marks net tick leaves
  all_marked marks are = can_marked laws nodes figures net tick leaves plan roots marks are can_each

-- all marked nodes are all that is reached
pub are_reached : (nodes : List PlanNode) (roots : List ℕ) → AllByRecursion (λ root. root < length nodes) roots → (marks : List Bool) → AreMarks nodes roots marks
    → (limit : ℕ) → limit ≡ length nodes → (old new : Net) (tick : Option Bit) (leaves : List Wire) (table : List (Option Emitted))
    → ArePutTo nodes marks limit old new tick leaves table → AreReached nodes roots old new tick leaves table
are_reached nodes roots in_plan marks are limit same old new tick leaves table put =
    let h : ArePutTo nodes marks (length nodes) old new tick leaves table = subst (λ n. ArePutTo nodes marks n old new tick leaves table) same put in
    let w = sum-same (weight_part nodes) (is_marked marks) (reached nodes roots) are.each (length nodes) in
    let l = sum-same (lean_part nodes) (is_marked marks) (reached nodes roots) are.each (length nodes) in
    let k = sum-same (keys_part nodes) (is_marked marks) (reached nodes roots) are.each (length nodes) in
    let s = sum-same (store_part nodes) (is_marked marks) (reached nodes roots) are.each (length nodes) in
    record {
      keeps = h.keeps;
      cost = record {
        nodes = omega (arith, h.cost.nodes, w);
        registers = omega (arith, h.cost.registers, l, k);
        memories = omega (arith, h.cost.memories, s);
      };
      gives = λ root is.
          h.gives root (all_of (λ r. r < length nodes) roots root (All-from_recursion _ roots in_plan) is)
          (are.each root ∙ any_with (λ r. reaches nodes r root) roots root is (or_left (nat_eq root root) (lies_below nodes root root) (eq-eqb root root refl)));
    }

-- one root
module _ (laws : LawsBelow) (nodes : List PlanNode) (plan : IsPlan nodes) (root : ℕ) (within : root < length nodes) (old new : Net) (tick : Option Bit) (leaves : List Wire)
    (table : List (Option Emitted)) (h : AreReached nodes (root ∷ []) old new tick leaves table) where
  one : list_any (λ r. nat_eq r root) (root ∷ []) ≡ true
  one = or_left (nat_eq root root) false (eq-eqb root root refl)

  pub one_there : (e : Emitted) × (slice_get table root ≡ Some (Some e))
  one_there = is_there (h.gives root one)

  -- it costs no more than where each node is put for each use
  pub one_reached : (e : Emitted) → slice_get table root ≡ Some (Some e) → IsPut nodes root old new tick leaves e
  one_reached e at =
      let in_plan : All (λ r. r < length nodes) (root ∷ []) = All-cons (λ r. r < length nodes) root [] within (All-nil (λ r. r < length nodes)) in
      let less = laws.once_is_less nodes (root ∷ []) plan in_plan in
      record {
        keeps = h.keeps;
        cost = record {
          nodes = omega (arith, h.cost.nodes, less.weight, one_sum (weight_of nodes) root);
          registers = omega (arith, h.cost.registers, less.lean, less.keys, one_sum (lean_of nodes) root, one_sum (keys_of nodes) root);
          memories = omega (arith, h.cost.memories, less.store, one_sum (store_of nodes) root);
        };
        gives = taken_gives (h.gives root one) at;
      }

  pub one_once : (e : Emitted) → slice_get table root ≡ Some (Some e) → GivesOnce nodes root new tick leaves e
  one_once e at = taken_once (h.gives root one) at
