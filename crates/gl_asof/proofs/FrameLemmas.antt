-- A select of frames by key over both sides whose rows for left rows are the join's, and are kept, is the join.
use Rattle.std.proofs.Common.{◌≡◌, ℕ, List, [], ◌∷◌, Option, Some, None, Bool, true, false, refl, sym, ◌∙◌}
use Rattle.std.specs.Prelude.{if◌then◌else◌, nat_eq, option_and_then}
use Rattle.std.specs.List.{AllByRecursion}
use Rattle.gl_values.specs.Lists.{rows_with}
use Rattle.gl_values.specs.Partitions.{has_key}
use Rattle.gl_frames.specs.Frames.{by_key, if_has_key, row_before}
use Rattle.gl_arrival.specs.Places.{Placed, rows_of}
use Rattle.gl_arrival.specs.Changes.{framed_by_key_at, kept_at, mapped_at}
use Rattle.gl_asof.specs.AsOf.{JoinBy, OfEither, as_of, both_sides, joined, key_of_either}
use Rattle.gl_asof.specs.Laws.{FramesAreAsOf, MakesJoined, picked_of}
use Rattle.gl_asof.proofs.EachLemmas.{each_same, each_stepped, picked_stepped}

module _ {A B C D : Type 0} (by : JoinBy A B C) (P : OfEither A B → Type 0) (made : List (OfEither A B) → D) (passes : D → Bool) (change : D → C)
    (makes : MakesJoined by P made passes change) where
  all_with : (k : ℕ) (zs : List (OfEither A B)) → AllByRecursion P zs → AllByRecursion P (rows_with (key_of_either by) zs k)
  all_with k [] h = tt
  all_with k (z ∷ zs) h = split (nat_eq (key_of_either by z) k) (all_with k zs h.1)
    where
      split : (b : Bool) → AllByRecursion P (rows_with (key_of_either by) zs k)
          → AllByRecursion P (if b then z ∷ rows_with (key_of_either by) zs k else rows_with (key_of_either by) zs k)
      split true r = (h.0, r)
      split false r = r

  of_key : (zs : List (OfEither A B)) → AllByRecursion P zs → (o : Option (OfEither A B))
      → option_and_then (picked_of passes change) (if_has_key by.groups (key_of_either by) made zs o)
      ≡ option_and_then (λ (p : Option C). p) (if_has_key by.groups (key_of_either by) (joined by) zs o)
  of_key zs h None = refl
  of_key zs h (Some z) = split (has_key by.groups (key_of_either by) zs (key_of_either by z))
    where
      rows : List (OfEither A B)
      rows = rows_with (key_of_either by) zs (key_of_either by z)

      split : (b : Bool) → option_and_then (picked_of passes change) (if b then Some (made rows) else None)
          ≡ option_and_then (λ (p : Option C). p) (if b then Some (joined by rows) else None)
      split true = makes rows (all_with (key_of_either by z) zs h)
      split false = refl

  pub frames_join : (xs : List (Placed A)) (ys : List (Placed B)) → AllByRecursion P (rows_of (both_sides xs ys))
      → mapped_at change (kept_at passes (framed_by_key_at by.groups (key_of_either by) made (both_sides xs ys))) ≡ as_of by xs ys
  frames_join xs ys h =
      let zs : List (Placed (OfEither A B)) = both_sides xs ys in
      picked_stepped passes change (framed_by_key_at by.groups (key_of_either by) made zs)
      ∙ each_stepped (picked_of passes change) (by_key by.groups (key_of_either by) made) [] zs
      ∙ each_same P (λ l. option_and_then (picked_of passes change) (by_key by.groups (key_of_either by) made l))
      (λ l. option_and_then (λ (p : Option C). p) (by_key by.groups (key_of_either by) (joined by) l)) (λ l k. of_key l k (row_before 0 l)) [] zs tt h
      ∙ sym (each_stepped (λ (p : Option C). p) (by_key by.groups (key_of_either by) (joined by)) [] zs)

all_of_any : {A : Type 0} (xs : List A) → AllByRecursion (λ (x : A). Unit {0}) xs
all_of_any [] = tt
all_of_any (x ∷ xs) = (tt, all_of_any xs)

pub frames_are_as_of : {A B C D : Type 0} → FramesAreAsOf A B C D
frames_are_as_of {A = A} {B = B} by made passes change makes xs ys =
    frames_join by (λ (z : OfEither A B). Unit {0}) made passes change makes xs ys (all_of_any (rows_of (both_sides xs ys)))
