-- One step of the levels, as code takes it.
use Rattle.std.proofs.Common.{◌≡◌, ℕ, suc, ◌+◌, ◌<◌, ◌≤◌, List, Option, None, Some, length, refl, sym, ap, subst, ◌∙◌, arith, map, length-append}
use Rattle.std.specs.Prelude.{option_map, option_to_list}
use Rattle.gl_algebra.specs.declared.node.ColOp.{ColOp}
use Rattle.gl_algebra.specs.declared.node.PlanNode.TheVariants as node
use Rattle.gl_algebra.specs.Added.{Placed, added}
use Rattle.gl_elaborate.specs.Terms.{Term, depth_of_all, ops_in_all}
use Rattle.gl_elaborate.specs.Levels.{innermost_of_all, level_of, reduced}
use Rattle.gl_elaborate.proofs.DepthLemmas.{depth-reduced_all, depth-both}
use Rattle.gl_elaborate.proofs.RoomLemmas.{innermost-both, length-level, ops-reduced_all, ops-both}
use Rattle.gl_elaborate.specs.Plans.{levels, levelled, with_filter}
use Rattle.gl_elaborate.specs.Fitting.{FitsNext, LevelsFit, LevelledFit, IsStep}

-- ---- a step

-- a changed filter, as a list
pub listed : (f : Term → Term) (filter : Option Term) → option_to_list (option_map f filter) ≡ map f (option_to_list filter)
listed f None = refl
listed f (Some t) = refl

module _ (base : ℕ) (at : Placed) (items : List Term) (filter : Option Term) where
  abbrev level : List ColOp
  level = level_of (with_filter items filter)

  abbrev items' : List Term
  items' = map (reduced base level) items

  abbrev filter' : Option Term
  filter' = option_map (reduced base level) filter

  -- the depth is one more than that of what is left
  pub deeper : 1 ≤ depth_of_all (with_filter items filter) → depth_of_all (with_filter items filter) ≡ suc (depth_of_all (with_filter items' filter'))
  deeper some =
      let a = depth-reduced_all base level items in
      let b = depth-reduced_all base level (option_to_list filter) in
      let same = ap depth_of_all (listed (reduced base level) filter) in
      let before = depth-both items (option_to_list filter) in
      let after = depth-both items' (option_to_list filter') in
      omega arith

  pub levelled-step : 1 ≤ depth_of_all (with_filter items filter)
      → levelled base at items filter ≡ levelled (base + length level) (added at.nodes (node.Compute at.root level)) items' filter'
  levelled-step some = ap (λ (d : ℕ). levels d base at items filter) (deeper some)

  pub fit-step : 1 ≤ depth_of_all (with_filter items filter) → LevelledFit base at items filter
      → FitsNext at.nodes (node.Compute at.root level)
      × LevelledFit (base + length level) (added at.nodes (node.Compute at.root level)) items' filter'
  fit-step some fits = subst (λ (d : ℕ). LevelsFit d base at items filter) (deeper some) fits

  pub room-level : length level ≤ ops_in_all (with_filter items filter)
  room-level =
      let short = length-level (with_filter items filter) in
      let all = ops-reduced_all base level (with_filter items filter) in
      omega arith

  pub room-step : (most : ℕ) → base + ops_in_all (with_filter items filter) < most → base + length level + ops_in_all (with_filter items' filter') < most
  room-step most room =
      let short = length-level (with_filter items filter) in
      let a = ops-reduced_all base level items in
      let b = ops-reduced_all base level (option_to_list filter) in
      let same = ap ops_in_all (listed (reduced base level) filter) in
      let before = ops-both items (option_to_list filter) in
      let after = ops-both items' (option_to_list filter') in
      let long = ap length (innermost-both items (option_to_list filter)) ∙ length-append (innermost_of_all items) (innermost_of_all (option_to_list filter)) in
      omega arith

-- the step that code takes: a level, a node, and what is left
pub a_step : (base : ℕ) (at : Placed) (items : List Term) (filter : Option Term) (keys : List ColOp) (next : Placed) (base' : ℕ) (items' : List Term) (filter' : Option Term)
    → keys ≡ level_of (with_filter items filter) → next ≡ added at.nodes (node.Compute at.root keys) → base' ≡ base + length keys
    → items' ≡ map (reduced base keys) items → filter' ≡ option_map (reduced base keys) filter
    → 1 ≤ depth_of_all (with_filter items filter) → LevelledFit base at items filter → base + ops_in_all (with_filter items filter) < 65536
    → IsStep base at items filter base' next items' filter'
a_step base at items filter keys next base' items' filter' k n b i c below fit room =
    subst (λ (level : List ColOp). (next' : Placed) (b' : ℕ) (xs : List Term) (y : Option Term) → next' ≡ added at.nodes (node.Compute at.root level) → b' ≡ base + length level
    → xs ≡ map (reduced base level) items → y ≡ option_map (reduced base level) filter → IsStep base at items filter b' next' xs y)
    (sym k)
    (λ next' b' xs y n' e f g. rw (n', e, f, g) (record {
      same = sym (levelled-step base at items filter below);
      fit = (fit-step base at items filter below fit).1;
      room = room-step base at items filter 65536 room;
      less = let d = deeper base at items filter below in omega arith;
    }))
    next base' items' filter' n b i c

pub step-fits : (base : ℕ) (at : Placed) (items : List Term) (filter : Option Term) (keys : List ColOp) → keys ≡ level_of (with_filter items filter)
    → 1 ≤ depth_of_all (with_filter items filter) → LevelledFit base at items filter → FitsNext at.nodes (node.Compute at.root keys)
step-fits base at items filter keys k below fit =
    subst (λ (level : List ColOp). FitsNext at.nodes (node.Compute at.root level)) (sym k) (fit-step base at items filter below fit).0

pub step-room : (base : ℕ) (at : Placed) (items : List Term) (filter : Option Term) (keys : List ColOp) → keys ≡ level_of (with_filter items filter)
    → base + ops_in_all (with_filter items filter) < 65536 → base + length keys < 65536
step-room base at items filter keys k room =
    let short = room-level base at items filter in
    let same = ap length k in
    omega arith
