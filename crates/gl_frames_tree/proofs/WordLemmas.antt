-- The words of a level's nodes: which children they mark, and what a row changes.
use Rattle.std.proofs.Common.{◌≡◌, ℕ, ◌+◌, ◌<◌, List, [], Some, Bool, true, false, length, refl, sym, ap, ◌∙◌, subst, arith, inl, inr, eq-eqb, eqb-true}
use Rattle.std.specs.Prelude.{◌*◌, ◌&&◌, nat_eq, slice_get}
use Rattle.std.specs.List.{list_any}
use Rattle.gl_bits.proofs.AllLists.{get_below, get_last}
use Rattle.gl_bits.proofs.Bools.{and_left, and_no, and_right, by_cases, else_false, not_both}
use Rattle.gl_bits.proofs.Options.{some_same}
use Rattle.gl_values.specs.Tables.{with_key}
use Rattle.gl_net.proofs.Lists.{get_push_cases}
use Rattle.gl_frames_map.proofs.PlaceLemmas.{added_is, added_new, added_room, any_at, is_added, same_is, with_front}
use Rattle.gl_frames_tree.proofs.NameLemmas.{Once, other_listed, room_listed, stays_listed}

-- a place tells whether a name is among some, and where
pub record Marked (ks : List ℕ) (x : ℕ) (on : Bool) (to : ℕ) : Type 0 where
  pub is_there : on ≡ list_any (nat_eq x) ks
  pub place : on ≡ true → slice_get ks to ≡ Some x

-- the words of nodes tell of all their children, and there is no child without its node
pub record Words (qs ps : List ℕ) (on : ℕ → ℕ → Bool) (to : ℕ → ℕ → ℕ) : Type 0 where
  pub marked : (j p d : ℕ) → d < 4 → slice_get qs j ≡ Some p → Marked ps (p * 4 + d) (on j d) (to j d)
  pub rooted : (p d : ℕ) → d < 4 → list_any (nat_eq p) qs ≡ false → list_any (nat_eq (p * 4 + d)) ps ≡ false

pub words_none : (on : ℕ → ℕ → Bool) (to : ℕ → ℕ → ℕ) → Words [] [] on to
words_none on to = record {
  marked = λ j p d l h. absurd (let z = get_below [] j p h in omega (arith, z));
  rooted = λ p d l h. refl;
}

pub words_same : (qs ps : List ℕ) (on later : ℕ → ℕ → Bool) (to after : ℕ → ℕ → ℕ) → ((j d : ℕ) → d < 4 → (later j d ≡ on j d) × (after j d ≡ to j d)) → Words qs ps on to → Words qs ps later after
words_same qs ps on later to after same w = record {
  marked = λ j p d l h. (let k = w.marked j p d l h in record {
    is_there = (same j d l).0 ∙ k.is_there;
    place = λ e. ap (slice_get ps) (same j d l).1 ∙ k.place (sym (same j d l).0 ∙ e);
  });
  rooted = w.rooted;
}

-- a row at a node names one of its children
module _ (n : ℕ) (qs ps : List ℕ) (p0 d0 j0 : ℕ) (few : d0 < 4) (on later : ℕ → ℕ → Bool) (to after : ℕ → ℕ → ℕ) (w : Words qs ps on to)
    (once : Once (with_key n qs p0)) (at : slice_get (with_key n qs p0) j0 ≡ Some p0)
    (others : (j d : ℕ) → d < 4 → nat_eq j0 j ≡ false → (later j d ≡ on j d) × (after j d ≡ to j d))
    (made : is_added n ps (p0 * 4 + d0) ≡ true → (later j0 d0 ≡ true) × (after j0 d0 ≡ length ps))
    (begun : (d : ℕ) → d < 4 → (is_added n ps (p0 * 4 + d0) && nat_eq d0 d) ≡ false → is_added n qs p0 ≡ true → later j0 d ≡ false)
    (stays : (d : ℕ) → d < 4 → (is_added n ps (p0 * 4 + d0) && nat_eq d0 d) ≡ false → is_added n qs p0 ≡ false → (later j0 d ≡ on j0 d) × (after j0 d ≡ to j0 d)) where
  abbrev y0 : ℕ
  y0 = p0 * 4 + d0

  abbrev qs1 : List ℕ
  qs1 = with_key n qs p0

  abbrev ps1 : List ℕ
  ps1 = with_key n ps y0

  -- children of other nodes, and other children of this one, have other names
  apart : (p d : ℕ) → d < 4 → (p ≡ p0 → ⊥) → p * 4 + d ≡ y0 → ⊥
  apart p d l ne e = ne (omega (arith, l, few, e))

  beside : (d : ℕ) → nat_eq d0 d ≡ false → p0 * 4 + d ≡ y0 → ⊥
  beside d ne e = not_both (nat_eq d0 d) (eq-eqb d0 d (omega (arith, e))) ne

  kept_mark : (x : ℕ) (b : Bool) (k : ℕ) → (x ≡ y0 → ⊥) → Marked ps x b k → Marked ps1 x b k
  kept_mark x b k ne h = record { is_there = h.is_there ∙ sym (other_listed n ps y0 x ne); place = λ e. with_front n ps y0 k x (h.place e) }

  marked_as : (x : ℕ) (b c : Bool) (i k : ℕ) → c ≡ b → k ≡ i → Marked ps1 x b i → Marked ps1 x c k
  marked_as x b c i k p q h = record { is_there = p ∙ h.is_there; place = λ e. ap (slice_get ps1) q ∙ h.place (sym p ∙ e) }

  -- a node that is another one stood there before
  old_at : (j p : ℕ) → slice_get qs1 j ≡ Some p → (p ≡ p0 → ⊥) → slice_get qs j ≡ Some p
  old_at j p s ne = by_cases (is_added n qs p0) added (λ e. sym (ap (λ xs. slice_get xs j) (same_is n qs p0 e)) ∙ s)
    where
      added : is_added n qs p0 ≡ true → slice_get qs j ≡ Some p
      added e = elim (get_push_cases qs p0 j p (sym (ap (λ xs. slice_get xs j) (added_is n qs p0 e)) ∙ s)) [
        | inl q ↦ q
        | inr q ↦ absurd (ne (sym q.1))
      ]

  own_made : is_added n ps y0 ≡ true → Marked ps1 y0 (later j0 d0) (after j0 d0)
  own_made a = record {
    is_there = (made a).0 ∙ sym (room_listed n ps y0 (added_room n ps y0 a));
    place = λ e. ap (slice_get ps1) (made a).1 ∙ ap (λ xs. slice_get xs (length ps)) (added_is n ps y0 a) ∙ get_last ps y0;
  }

  -- a node that begins has no other child
  no_other : (d : ℕ) → d < 4 → (is_added n ps y0 && nat_eq d0 d) ≡ false → is_added n qs p0 ≡ true → list_any (nat_eq (p0 * 4 + d)) ps1 ≡ false
  no_other d l u f =
      let none = w.rooted p0 d l (added_new n qs p0 f) in
      by_cases (is_added n ps y0)
      (λ a. other_listed n ps y0 (p0 * 4 + d) (beside d (and_no (is_added n ps y0) (nat_eq d0 d) u a)) ∙ none)
      (λ a. ap (list_any (nat_eq (p0 * 4 + d))) (same_is n ps y0 a) ∙ none)

  -- one that was there keeps its other children
  other_kept : (d : ℕ) → d < 4 → (is_added n ps y0 && nat_eq d0 d) ≡ false → is_added n qs p0 ≡ false → Marked ps1 (p0 * 4 + d) (on j0 d) (to j0 d)
  other_kept d l u f =
      let k = w.marked j0 p0 d l (sym (ap (λ xs. slice_get xs j0) (same_is n qs p0 f)) ∙ at) in
      by_cases (is_added n ps y0)
      (λ a. kept_mark (p0 * 4 + d) (on j0 d) (to j0 d) (beside d (and_no (is_added n ps y0) (nat_eq d0 d) u a)) k)
      (λ a. subst (λ (xs : List ℕ). Marked xs (p0 * 4 + d) (on j0 d) (to j0 d)) (sym (same_is n ps y0 a)) k)

  own_mark : (d : ℕ) → d < 4 → Marked ps1 (p0 * 4 + d) (later j0 d) (after j0 d)
  own_mark d l = by_cases (is_added n ps y0 && nat_eq d0 d)
      (λ u. subst (λ (z : ℕ). Marked ps1 (p0 * 4 + z) (later j0 z) (after j0 z)) (eqb-true d0 d (and_right (is_added n ps y0) (nat_eq d0 d) u)) (own_made (and_left (is_added n ps y0) (nat_eq d0 d) u)))
      (λ u. by_cases (is_added n qs p0)
      (λ f. record {
        is_there = begun d l u f ∙ sym (no_other d l u f);
        place = λ e. absurd (not_both (later j0 d) e (begun d l u f));
      })
      (λ f. marked_as (p0 * 4 + d) (on j0 d) (later j0 d) (to j0 d) (after j0 d) (stays d l u f).0 (stays d l u f).1 (other_kept d l u f)))

  all_marked : (j p d : ℕ) → d < 4 → slice_get qs1 j ≡ Some p → Marked ps1 (p * 4 + d) (later j d) (after j d)
  all_marked j p d l s = by_cases (nat_eq j0 j) own other
    where
      own : nat_eq j0 j ≡ true → Marked ps1 (p * 4 + d) (later j d) (after j d)
      own e =
          let same = eqb-true j0 j e in
          let name = some_same p0 p (sym at ∙ ap (slice_get qs1) same ∙ s) in
          subst (λ (k : ℕ). Marked ps1 (p * 4 + d) (later k d) (after k d)) same
          (subst (λ (z : ℕ). Marked ps1 (z * 4 + d) (later j0 d) (after j0 d)) name (own_mark d l))

      other : nat_eq j0 j ≡ false → Marked ps1 (p * 4 + d) (later j d) (after j d)
      other e =
          let ne : p ≡ p0 → ⊥ = λ q. not_both (nat_eq j0 j) (eq-eqb j0 j (once j0 j p0 at (s ∙ ap Some q))) e in
          let so = others j d l e in
          marked_as (p * 4 + d) (on j d) (later j d) (to j d) (after j d) so.0 so.1
          (kept_mark (p * 4 + d) (on j d) (to j d) (apart p d l ne) (w.marked j p d l (old_at j p s ne)))

  all_rooted : (p d : ℕ) → d < 4 → list_any (nat_eq p) qs1 ≡ false → list_any (nat_eq (p * 4 + d)) ps1 ≡ false
  all_rooted p d l h =
      let ne : p ≡ p0 → ⊥ = λ q. not_both (list_any (nat_eq p0) qs1) (any_at qs1 j0 p0 at) (sym (ap (λ z. list_any (nat_eq z) qs1) q) ∙ h) in
      let none = else_false (list_any (nat_eq p) qs) (λ t. not_both (list_any (nat_eq p) qs1) (stays_listed n qs p0 p t) h) in
      other_listed n ps y0 (p * 4 + d) (apart p d l ne) ∙ w.rooted p d l none

  pub words_row : Words qs1 ps1 later after
  words_row = record { marked = all_marked; rooted = all_rooted }
