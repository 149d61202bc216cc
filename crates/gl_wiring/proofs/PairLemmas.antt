-- The circuits of nodes of two children.
use Rattle.std.proofs.Common.{◌≡◌, ℕ, List, [], ◌∷◌, ◌++◌, length, All, Some, Bool, ◌||◌, ◌&&◌, true, false, slice_get, refl, sym, ap, ◌∙◌, subst, arith, Option}
use Rattle.std.specs.Prelude.{if◌then◌else◌}
use Rattle.std.proofs.lemmas.List.{length-map, map-append}
use Rattle.std.proofs.lemmas.Option.{slice_get_within}
use Rattle.gl_values.specs.Kinds.{IsKind, width_of}
use Rattle.gl_values.specs.Lists.{IsInterleaving}
use Rattle.gl_values.specs.Results.{AreBeside}
use Rattle.gl_algebra.specs.declared.figures.Figures.{Figures}
use Rattle.gl_algebra.specs.declared.node.PlanNode.{PlanNode}
use Rattle.gl_algebra.specs.declared.node.PlanNode.TheVariants.{Union, Beside}
use Rattle.gl_algebra.specs.FigureTable.{NoCloser, at_end, beside_figures, delayed, figures_of, in_step, is_fixed, union_figures, wait_of}
use Rattle.gl_algebra.specs.Fits.{IsPlan}
use Rattle.gl_algebra.specs.Laws.{PaceFixes}
use Rattle.gl_algebra.specs.Results.{IsPlanArrival, IsPlanResult}
use Rattle.gl_algebra.specs.Shapes.{Pace, Shape, kinds_of, shape_of}
use Rattle.gl_net.specs.declared.node.Bit.{Bit}
use Rattle.gl_net.specs.Net.{Net}
use Rattle.gl_queue.specs.Joiners.{IsJoinerOf, cost_of_joiner, joined_pace, joins_when}
use Rattle.gl_queue.specs.Unions.{IsUnionOf, cost_of_union}
use Rattle.gl_figures.proofs.PartLemmas.{parts_at}
use Rattle.gl_wire.specs.declared.emitted.Emitted.{Emitted}
use Rattle.gl_wire.specs.declared.wire.Wire.{Wire}
use Rattle.gl_wire.specs.Blocks.{any_pace}
use Rattle.gl_wire.specs.Costs.{CostsAtMost}
use Rattle.gl_wire.specs.Pace.{KeepsPace}
use Rattle.gl_wire.specs.Spills.{always, never2}
use Rattle.gl_wire.specs.Wire.{widths}
use Rattle.gl_wire.proofs.CountLemmas.{narrow_kinds}
use Rattle.gl_wiring.specs.Below.{LawsBelow}
use Rattle.gl_wiring.specs.Leaves.{widths_of}
use Rattle.gl_wiring.specs.Put.{Gives, IsPutBehind}
use Rattle.gl_wiring.proofs.CanLemmas.{first_within, second_within}
use Rattle.gl_wiring.proofs.CostLemmas.{cost_behind}
use Rattle.gl_wiring.proofs.GivesLemmas.{behind2}
use Rattle.gl_wiring.proofs.SideLemmas.{joins_pace, sides_alike}

pub or_none : (p q : Bool) → q ≡ false → (p || q) ≡ p
or_none true q h = refl
or_none false q h = h

joined_closer : (p q : Figures) (b : Bool)
    → NoCloser p (if b then in_step (delayed (wait_of p q) p) (delayed (wait_of q p) q) else at_end (delayed (wait_of p q) p) (delayed (wait_of q p) q))
joined_closer p q true = record { gt = omega arith; ge = omega arith }
joined_closer p q false = record { gt = omega arith; ge = omega arith }

joined_closer' : (p q : Figures) (b : Bool)
    → NoCloser q (if b then in_step (delayed (wait_of p q) p) (delayed (wait_of q p) q) else at_end (delayed (wait_of p q) p) (delayed (wait_of q p) q))
joined_closer' p q true = record { gt = omega arith; ge = omega arith }
joined_closer' p q false = record { gt = omega arith; ge = omega arith }

module _ (laws : LawsBelow) (nodes : List PlanNode) (id : ℕ) (old new : Net) (tick : Option Bit) (leaves : List Wire) (first second e : Emitted) (plan : IsPlan nodes) where
  pub union_put : (left right : ℕ) → slice_get nodes id ≡ Some (Union left right) → Gives nodes left old tick leaves first
      → Gives nodes right old tick leaves second → IsUnionOf old new (figures_of nodes left) (figures_of nodes right) first second e
      → IsPutBehind nodes id old new tick leaves e
  union_put left right at h h' u =
      let b = u.behind in
      let follows = laws.nodes_follow_tables nodes id (Union left right) plan at in
      let parts = parts_at nodes id (Union left right) at in
      let p : Figures = figures_of nodes left in
      let q : Figures = figures_of nodes right in
      let kinds = kinds_of nodes left in
      let n : length (widths_of kinds) ≡ length kinds = length-map kinds width_of in
      let cost : CostsAtMost old new (cost_of_union p q (widths_of kinds)) =
      subst (λ (columns : List ℕ). CostsAtMost old new (cost_of_union p q columns)) h.same_widths b.cost in
      let within = first_within nodes id (Union left right) plan at left (right ∷ []) refl in
      record {
        keeps = b.keeps;
        cost = cost_behind nodes id _ _ _ old new _
            (record { weight' = rw n parts.weight; lean' = rw n (omega (arith, parts.lean, parts.keys)); store' = rw n parts.store })
            cost
            (laws.unions_are_counted (shape_of nodes) (figures_of nodes) left right (widths_of kinds) (narrow_kinds kinds (laws.columns_have_kinds nodes left plan within)));
        gives = rw (follows.shape, follows.figures) (behind2 (shape_of nodes left) (shape_of nodes right) _ p q (union_figures p q)
            (IsPlanArrival nodes left) (IsPlanArrival nodes right) (IsPlanArrival nodes id) (IsPlanResult nodes left) (IsPlanResult nodes right) (IsPlanResult nodes id) (never2 IsInterleaving) always any_pace old new tick leaves first second e _ _
            h h' b h.same_widths
            (record { gt = omega arith; ge = omega arith }) (record { gt = omega arith; ge = omega arith })
            (λ ls beats x y fx fy px py. tt)
            (λ ls x y o w px py. tt)
            (λ i xs ys zs s t u l r m. (follows.results i zs ((s || t) || u)).1
            (record { left = xs; right = ys; left_spill = s; right_spill = t; of_left = l; of_right = r; join = m.0; either = or_none (s || t) u m.1 }))
            refl);
      }

  pub beside_put : (left right : ℕ) → slice_get nodes id ≡ Some (Beside left right) → Gives nodes left old tick leaves first
      → Gives nodes right old tick leaves second → IsJoinerOf old new (figures_of nodes left) (figures_of nodes right) first second e
      → IsPutBehind nodes id old new tick leaves e
  beside_put left right at h h' j =
      let b = j.behind in
      let follows = laws.nodes_follow_tables nodes id (Beside left right) plan at in
      let parts = parts_at nodes id (Beside left right) at in
      let suits = (plan.fits id (Beside left right) at).suits in
      let p : Figures = figures_of nodes left in
      let q : Figures = figures_of nodes right in
      let kinds = kinds_of nodes left ++ kinds_of nodes right in
      let pace : Pace = (shape_of nodes left).pace in
      let fixed = is_fixed p && is_fixed q in
      let fp : PaceFixes pace p = laws.paces_fix_figures nodes left plan (first_within nodes id (Beside left right) plan at left (right ∷ []) refl) in
      let fq : PaceFixes pace q = subst (λ (x : Pace). PaceFixes x q) (sym suits.0) (laws.paces_fix_figures nodes right plan (second_within nodes id (Beside left right) plan at left right refl)) in
      let columns : widths first.wire.columns ++ widths second.wire.columns ≡ widths_of kinds =
      ap (λ (l : List ℕ). l ++ widths second.wire.columns) h.same_widths
      ∙ ap (λ (l : List ℕ). widths_of (kinds_of nodes left) ++ l) h'.same_widths ∙ sym (map-append width_of (kinds_of nodes left) (kinds_of nodes right)) in
      let n : length (widths_of kinds) ≡ length kinds = length-map kinds width_of in
      let own : All IsKind kinds =
      subst (λ (s : Shape). All IsKind s.kinds) follows.shape (laws.columns_have_kinds nodes id plan (slice_get_within nodes id (Beside left right) at)) in
      let cost : CostsAtMost old new (cost_of_joiner p q (widths_of kinds)) =
      subst (λ (cs : List ℕ). CostsAtMost old new (cost_of_joiner p q cs)) columns b.cost in
      let both = is_fixed (delayed (wait_of p q) p) && is_fixed (delayed (wait_of q p) q) in
      record {
        keeps = b.keeps;
        cost = cost_behind nodes id _ _ _ old new _
            (record { weight' = rw n parts.weight; lean' = rw n (omega (arith, parts.lean, parts.keys)); store' = parts.store })
            cost
            (laws.joiners_are_counted (shape_of nodes) (figures_of nodes) left right (widths_of kinds) (narrow_kinds kinds own));
        gives = rw (follows.shape, follows.figures) (behind2 (shape_of nodes left) (shape_of nodes right) _ p q (beside_figures p q)
            (IsPlanArrival nodes left) (IsPlanArrival nodes right) (IsPlanArrival nodes id) (IsPlanResult nodes left) (IsPlanResult nodes right) (IsPlanResult nodes id) (never2 AreBeside) (joins_when p q fixed) (joined_pace p q fixed)
            old new tick leaves first second e _ _
            h h' b columns
            (joined_closer p q both) (joined_closer' p q both)
            (λ ls beats x y fx fy px py. sides_alike pace p q suits.1 fp fq ls beats x y fx fy px (subst (λ (z : Pace). KeepsPace z q.a ls y) (sym suits.0) py) fixed refl)
            (λ ls x y o w px py. joins_pace laws pace p q fp fq ls x y o fixed refl w px)
            (λ i xs ys zs s t u l r m. (follows.results i zs ((s || t) || u)).1
            (record { left = xs; right = ys; left_spill = s; right_spill = t; of_left = l; of_right = r; join = m.0; either = or_none (s || t) u m.1 }))
            refl);
      }
