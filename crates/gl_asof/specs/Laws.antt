-- The laws of the as-of join.
use Rattle.std.specs.Prelude.{◌≡◌, Bool, List, Option, Some, None, filter_map, if◌then◌else◌}
use Rattle.std.specs.List.{AllByRecursion}
use Rattle.gl_arrival.specs.Places.{NeverFall, Placed, rows_of}
use Rattle.gl_arrival.specs.Changes.{framed_by_key_at, kept_at, mapped_at}
use Rattle.gl_asof.specs.AsOf.{JoinBy, OfEither, as_of, both_sides, joined, key_of_either, row_for}

-- one row for each left row of the first keys that come on either side, in their order, beside the last right row of
-- its key that came no later
abbrev pub AsOfIsTheSentence : Type 0 → Type 0 → Type 0 → Type 0
AsOfIsTheSentence A B C =
    (by : JoinBy A B C) (xs : List (Placed A)) (ys : List (Placed B)) → NeverFall xs → NeverFall ys
    → as_of by xs ys ≡ filter_map (row_for by (rows_of (both_sides xs ys)) ys) xs

-- ---- for plans

-- what passes, changed
abbrev pub picked_of : {C D : Type 0} → (D → Bool) → (D → C) → D → Option C
picked_of passes change d = if passes d then Some (change d) else None

-- over rows with a property, what is made of the rows up to each, picked, is what the join makes of them
abbrev pub MakesJoined : {A B C D : Type 0} → JoinBy A B C → (OfEither A B → Type 0) → (List (OfEither A B) → D)
    → (D → Bool) → (D → C) → Type 0
MakesJoined {A = A} {B = B} by P made passes change =
    (zs : List (OfEither A B)) → AllByRecursion P zs → picked_of passes change (made zs) ≡ joined by zs

-- a select of frames by key over both sides, of which rows are kept and changed so that they are the join's, is it
abbrev pub FramesAreAsOf : Type 0 → Type 0 → Type 0 → Type 0 → Type 0
FramesAreAsOf A B C D =
    (by : JoinBy A B C) (made : List (OfEither A B) → D) (passes : D → Bool) (change : D → C)
    → MakesJoined by (λ z. Unit {0}) made passes change → (xs : List (Placed A)) (ys : List (Placed B))
    → mapped_at change (kept_at passes (framed_by_key_at by.groups (key_of_either by) made (both_sides xs ys)))
    ≡ as_of by xs ys
