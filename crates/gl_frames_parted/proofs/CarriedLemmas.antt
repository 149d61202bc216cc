-- Wires of which one carries what is made of each row of the other: what is made of their streams, and what is left out.
use Rattle.std.proofs.Common.{◌≡◌, ℕ, zero, suc, ◌+◌, ◌-◌, List, [], ◌∷◌, ◌++◌, map, take, Option, Some, None, Bool, true, false, refl, sym, ap, ◌∙◌, subst, arith, inl, inr}
use Rattle.std.specs.Prelude.{if◌then◌else◌, nat_eq, not, option_and_then, option_map, option_to_list}
use Rattle.std.specs.List.{list_any}
use Rattle.std.proofs.lemmas.Bool.{cases_lt}
use Rattle.std.proofs.lemmas.List.{map-append}
use Rattle.gl_values.specs.Lists.{distinct, keys_of}
use Rattle.gl_values.specs.Results.{Row}
use Rattle.gl_frames.specs.Frames.{by_key}
use Rattle.gl_frames_asked.specs.Laws.{AreSameByKey}
use Rattle.gl_frames_keys.specs.Lanes.{first_keys, leaves_out}
use Rattle.gl_frames_keys.proofs.LateLemmas.{delayed_both}
use Rattle.gl_frames_lanes.proofs.LaneNet.{after, after_is}
use Rattle.gl_frames_wire.specs.Running.{Runs}
use Rattle.gl_slots.specs.Slots.{is_further}
use Rattle.gl_wire.specs.Shapes.{IsDelayed}
use Rattle.gl_wire.specs.Wire.{Carried, pending, stream}
use Rattle.gl_frames_parted.proofs.PickedLemmas.{IsPicked}

-- ---- some cycles later

pub late_by : ℕ → Carried → Carried
late_by zero a = a
late_by (suc d) a = after (late_by d a)

pub late_by_is : (d : ℕ) (a : Carried) → IsDelayed d a (late_by d a)
unfolding late_by
late_by_is zero a = record {
  before = λ c l. absurd (omega (arith, l));
  no_end = λ c l. absurd (omega (arith, l));
  tuples = λ c. let e : c + 0 ≡ c = omega arith in ap a.tuple e;
  ends = λ c. let e : c + 0 ≡ c = omega arith in ap a.ends e;
}
late_by_is (suc d) a =
    let e : d + 1 ≡ suc d = omega arith in
    subst (λ (n : ℕ). IsDelayed n a (after (late_by d a))) e (delayed_both d 1 a (late_by d a) (after (late_by d a)) (late_by_is d a) (after_is (late_by d a)))

-- both so many cycles later
pub picked_late : (of : Row → Row) (d : ℕ) (a b late_a late_b : Carried) → IsPicked of a b → IsDelayed d a late_a → IsDelayed d b late_b → IsPicked of late_a late_b
picked_late of d a b late_a late_b is at_a at_b = record { tuples = tuple; ends = end }
  where
    tuple : (c : ℕ) → late_b.tuple c ≡ option_map of (late_a.tuple c)
    tuple c = elim (cases_lt c d) [
      | inl l ↦ at_b.before c l ∙ sym (ap (option_map of) (at_a.before c l))
      | inr l ↦ (
          let e : c ≡ c - d + d = omega (arith, l) in
          ap late_b.tuple e ∙ at_b.tuples (c - d) ∙ is.tuples (c - d) ∙ sym (ap (option_map of) (ap late_a.tuple e ∙ at_a.tuples (c - d)))
          )
    ]

    end : (c : ℕ) → late_b.ends c ≡ late_a.ends c
    end c = elim (cases_lt c d) [
      | inl l ↦ at_b.no_end c l ∙ sym (at_a.no_end c l)
      | inr l ↦ (let e : c ≡ c - d + d = omega (arith, l) in ap late_b.ends e ∙ at_b.ends (c - d) ∙ is.ends (c - d) ∙ sym (ap late_a.ends e ∙ at_a.ends (c - d)))
    ]

-- ---- streams

module _ (of : Row → Row) (a b : Carried) (is : IsPicked of a b) where
  with_row : (xs : List Row) (o : Option Row) → map of xs ++ option_to_list (option_map of o) ≡ map of (xs ++ option_to_list o)
  with_row xs None = sym (map-append of xs [])
  with_row xs (Some r) = sym (map-append of xs (r ∷ []))

  stream_of : (c : ℕ) → pending b c ≡ map of (pending a c) → stream b c ≡ map of (stream a c)
  stream_of c h =
      ap (λ xs. xs ++ option_to_list (b.tuple c)) h ∙ ap (λ o. map of (pending a c) ++ option_to_list o) (is.tuples c) ∙ with_row (pending a c) (a.tuple c)

  pending_picked : (c : ℕ) → pending b c ≡ map of (pending a c)
  pending_picked zero = refl
  pending_picked (suc c) =
      ap (λ (e : Bool). if e then [] else stream b c) (is.ends c) ∙ ap (λ xs. if a.ends c then [] else xs) (stream_of c (pending_picked c)) ∙ by (a.ends c)
    where
      by : (e : Bool) → (if e then [] else map of (stream a c)) ≡ map of (if e then [] else stream a c)
      by true = refl
      by false = refl

  pub stream_picked : (c : ℕ) → stream b c ≡ map of (stream a c)
  stream_picked c = stream_of c (pending_picked c)

  -- ---- by a key

  module _ (groups : ℕ) (key key' : Row → ℕ) (same : (row : Row) → key' (of row) ≡ key row) where
    keys_same : (xs : List Row) → map key' (map of xs) ≡ map key xs
    keys_same [] = refl
    keys_same (x ∷ xs) = let here = same x in let rest = keys_same xs in cc (here, rest)

    first_same : (c : ℕ) → first_keys groups key' b c ≡ first_keys groups key a c
    first_same c = ap (λ xs. take groups (keys_of key' xs)) (stream_picked c) ∙ ap (λ ks. take groups (distinct ks)) (keys_same (stream a c))

    further_same : (ks : List ℕ) (o : Option Row) → is_further key' ks (option_map of o) ≡ is_further key ks o
    further_same ks None = refl
    further_same ks (Some r) = ap (λ k. not (list_any (nat_eq k) ks)) (same r)

    pub leaves_same : (c : ℕ) → leaves_out groups key' b c ≡ leaves_out groups key a c
    leaves_same c =
        ap (λ ks. is_further key' ks (b.tuple c)) (first_same c) ∙ ap (is_further key' (first_keys groups key a c)) (is.tuples c)
        ∙ further_same (first_keys groups key a c) (a.tuple c)

    pub runs_same : (make make' : List Row → Row) → AreSameByKey of key key' make make' → (m : ℕ) (out : Carried) → Runs m (by_key groups key' make') b out → Runs m (by_key groups key make) a out
    runs_same make make' by m out h = record {
      before = h.before;
      no_end = h.no_end;
      tuples = λ c. h.tuples c ∙ ap (option_and_then (λ row. by_key groups key' make' (stream b c))) (is.tuples c) ∙ made c (a.tuple c);
      ends = λ c. h.ends c ∙ is.ends c;
    }
      where
        made : (c : ℕ) (o : Option Row)
            → option_and_then (λ row. by_key groups key' make' (stream b c)) (option_map of o) ≡ option_and_then (λ row. by_key groups key make (stream a c)) o
        made c None = refl
        made c (Some r) = ap (by_key groups key' make') (stream_picked c) ∙ by.now groups (stream a c)
