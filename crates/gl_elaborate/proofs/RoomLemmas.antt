-- How many operations there are: in a level, and in what is left behind it.
use Rattle.std.proofs.Common.{◌≡◌, ℕ, ◌+◌, ◌≤◌, List, [], ◌∷◌, ◌++◌, length, refl, sym, ap, ◌∙◌, arith, map, length-append, append_assoc}
use Rattle.std.specs.List.{list_any}
use Rattle.indexmap.specs.IndexSet.{insert_key, insert_all}
use Rattle.gl_bits.proofs.Bools.{by_cases}
use Rattle.gl_algebra.specs.declared.node.ColOp.{ColOp}
use Rattle.gl_elaborate.specs.Terms.{Term, Column, Literal, Parameter, Not, Flip, Cast, Binary, depth_of, ops_in, ops_in_all}
use Rattle.gl_elaborate.specs.Levels.{same_op, innermost, innermost_of_all, level_of, reduced}
use Rattle.gl_elaborate.proofs.DepthLemmas.{flat, deep, deep_or}

-- ---- gathering

pub innermost-both : (xs ys : List Term) → innermost_of_all (xs ++ ys) ≡ innermost_of_all xs ++ innermost_of_all ys
innermost-both [] ys = refl
innermost-both (x ∷ xs) ys =
    ap (λ (l : List ColOp). innermost x ++ l) (innermost-both xs ys)
    ∙ sym (append_assoc (innermost x) (innermost_of_all xs) (innermost_of_all ys))

insert-both : (xs ys ops : List ColOp) → insert_all same_op ops (xs ++ ys) ≡ insert_all same_op (insert_all same_op ops xs) ys
insert-both [] ys ops = refl
insert-both (x ∷ xs) ys ops = insert-both xs ys (insert_key same_op ops x)

pub level-of-two : (xs ys : List Term) (none one two : List ColOp) → none ≡ [] → one ≡ insert_all same_op none (innermost_of_all xs)
    → two ≡ insert_all same_op one (innermost_of_all ys) → two ≡ level_of (xs ++ ys)
unfolding level_of
level-of-two xs ys none one two e f g =
    g
    ∙ ap (λ (ops : List ColOp). insert_all same_op ops (innermost_of_all ys))
    (f ∙ ap (λ (ops : List ColOp). insert_all same_op ops (innermost_of_all xs)) e)
    ∙ sym (insert-both (innermost_of_all xs) (innermost_of_all ys) [])
    ∙ ap (insert_all same_op []) (sym (innermost-both xs ys))

-- ---- a level is no longer than there are operations

length-key : (ops : List ColOp) (x : ColOp) → length (insert_key same_op ops x) ≤ length ops + 1
length-key ops x = by_cases (list_any (same_op x) ops) (λ e. rw e (omega arith)) (λ e. rw (e, length-append) (omega arith))

length-inserted : (xs ops : List ColOp) → length (insert_all same_op ops xs) ≤ length ops + length xs
length-inserted [] ops = omega arith
length-inserted (x ∷ xs) ops =
    let one = length-key ops x in
    let rest = length-inserted xs (insert_key same_op ops x) in
    omega arith

pub length-level : (ts : List Term) → length (level_of ts) ≤ length (innermost_of_all ts)
unfolding level_of
length-level ts = let short = length-inserted (innermost_of_all ts) [] in omega arith

flat-ops : (t : Term) → depth_of t ≡ 0 → ops_in t ≡ 0
flat-ops (Column n) d = refl
flat-ops (Literal w k) d = refl
flat-ops (Parameter n k) d = refl
flat-ops (Not t) d = absurd (omega arith)
flat-ops (Flip t) d = absurd (omega arith)
flat-ops (Cast t k) d = absurd (omega arith)
flat-ops (Binary o l r) d = absurd (omega arith)

module _ (base : ℕ) (level : List ColOp) where
  ops-reduced : (t : Term) → ops_in (reduced base level t) + length (innermost t) ≡ ops_in t
  ops-reduced (Column n) = refl
  ops-reduced (Literal w k) = refl
  ops-reduced (Parameter n k) = refl
  ops-reduced (Not t) = elim (deep_or t) [
    | flat x e d ↦ let none = flat-ops t d in rw e (omega arith)
    | deep e d ↦ let below = ops-reduced t in rw e (omega arith)
  ]
  ops-reduced (Flip t) = elim (deep_or t) [
    | flat x e d ↦ let none = flat-ops t d in rw e (omega arith)
    | deep e d ↦ let below = ops-reduced t in rw e (omega arith)
  ]
  ops-reduced (Cast t k) = elim (deep_or t) [
    | flat x e d ↦ let none = flat-ops t d in rw e (omega arith)
    | deep e d ↦ let below = ops-reduced t in rw e (omega arith)
  ]
  ops-reduced (Binary o l r) =
      let a = ops-reduced l in
      let b = ops-reduced r in
      elim (deep_or l) [
        | flat x e d ↦ elim (deep_or r) [
          | flat y f g ↦ let none = flat-ops l d in let none' = flat-ops r g in rw (e, f) (omega arith)
          | deep f g ↦ rw (e, f, length-append) (omega arith)
        ]
        | deep e d ↦ rw (e, length-append) (omega arith)
      ]

  -- what is left has the operations but the innermost
  pub ops-reduced_all : (ts : List Term) → ops_in_all (map (reduced base level) ts) + length (innermost_of_all ts) ≡ ops_in_all ts
  ops-reduced_all [] = refl
  ops-reduced_all (t ∷ ts) =
      let a = ops-reduced t in
      let b = ops-reduced_all ts in
      rw length-append (omega arith)

pub ops-both : (xs ys : List Term) → ops_in_all (xs ++ ys) ≡ ops_in_all xs + ops_in_all ys
ops-both [] ys = omega arith
ops-both (x ∷ xs) ys = let rest = ops-both xs ys in omega arith
