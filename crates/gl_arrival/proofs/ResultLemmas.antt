-- Results with places: without them they are those of UNION, and a union by arrival has one result at most where both sides have.
use Rattle.std.proofs.Common.{List, Bool, ◌||◌, refl, sym, ap, ◌∙◌, subst}
use Rattle.gl_values.specs.Lists.{IsInterleaving}
use Rattle.gl_values.specs.Results.{AreSame, IsOfBoth, Row}
use Rattle.gl_arrival.specs.Places.{Placed, rows_of}
use Rattle.gl_arrival.specs.Arrival.{by_arrival}
use Rattle.gl_arrival.specs.Results.{Arrivals, HasOneArrival, IsArrival, IsByArrival, IsChangedInPlace, IsPartedInPlace, IsWithoutPlaces}
use Rattle.gl_arrival.proofs.OrderLemmas.{interleaves}
use Rattle.gl_arrival.proofs.SideLemmas.{interleaving_mapped}

pub rows_interleave : {A : Type 0} (xs ys : List (Placed A)) → IsInterleaving (rows_of xs) (rows_of ys) (rows_of (by_arrival xs ys))
rows_interleave {A = A} xs ys = interleaving_mapped (λ (x : Placed A). x.row) xs ys (by_arrival xs ys) (interleaves xs ys)

-- a result of a union by arrival is one of UNION of the same sides
pub is_of_union : (Left Right : Arrivals) (out : List Row) (spill : Bool) → IsWithoutPlaces (IsByArrival Left Right) out spill
    → IsOfBoth (IsWithoutPlaces Left) (IsWithoutPlaces Right) IsInterleaving out spill
is_of_union Left Right out spill h =
    let u = h.of_source in
    record {
      left = rows_of u.left;
      right = rows_of u.right;
      left_spill = u.left_spill;
      right_spill = u.right_spill;
      of_left = record { rows = u.left; of_source = u.of_left; without = refl };
      of_right = record { rows = u.right; of_source = u.of_right; without = refl };
      join = subst (IsInterleaving (rows_of u.left) (rows_of u.right)) (sym (h.without ∙ ap (λ (l : List (Placed Row)). rows_of l) u.in_order)) (rows_interleave u.left u.right);
      either = u.either;
    }

pub one_arrival : (given : List (Placed Row)) → HasOneArrival (IsArrival given)
one_arrival given out out' spill spill' a b = (a.rows ∙ sym b.rows, a.kept ∙ sym b.kept)

pub one_changed : (Source : Arrivals) (change : List (Placed Row) → List (Placed Row)) → HasOneArrival Source → HasOneArrival (IsChangedInPlace Source change)
one_changed Source change one out out' spill spill' a b =
    let same = one a.rows b.rows spill spill' a.of_source b.of_source in
    (a.changed ∙ ap change same.0 ∙ sym b.changed, same.1)

pub one_parted : (Source : Arrivals) (change : List (Placed Row) → List (Placed Row)) (further : List Row → Bool) → HasOneArrival Source → HasOneArrival (IsPartedInPlace Source change further)
one_parted Source change further one out out' spill spill' a b =
    let same = one a.rows b.rows a.source_spill b.source_spill a.of_source b.of_source in (
      a.changed ∙ ap change same.0 ∙ sym b.changed,
      a.any ∙ ap (λ s. s || further (rows_of a.rows)) same.1 ∙ ap (λ (l : List (Placed Row)). b.source_spill || further (rows_of l)) same.0 ∙ sym b.any,
    )

pub one_by_arrival : (Left Right : Arrivals) → HasOneArrival Left → HasOneArrival Right → HasOneArrival (IsByArrival Left Right)
one_by_arrival Left Right left right out out' spill spill' a b =
    let l = left a.left b.left a.left_spill b.left_spill a.of_left b.of_left in
    let r = right a.right b.right a.right_spill b.right_spill a.of_right b.of_right in (
      a.in_order ∙ ap (λ (xs : List (Placed Row)). by_arrival xs a.right) l.0 ∙ ap (by_arrival b.left) r.0 ∙ sym b.in_order,
      a.either ∙ ap (λ s. s || a.right_spill) l.1 ∙ ap (λ s. b.left_spill || s) r.1 ∙ sym b.either,
    )

-- so it has one without its places
pub one_without : (Source : Arrivals) → HasOneArrival Source → (out out' : List Row) (spill spill' : Bool) → IsWithoutPlaces Source out spill
    → IsWithoutPlaces Source out' spill' → AreSame out out' spill spill'
one_without Source one out out' spill spill' a b =
    let same = one a.rows b.rows spill spill' a.of_source b.of_source in
    record { rows = a.without ∙ ap (λ (l : List (Placed Row)). rows_of l) same.0 ∙ sym b.without; spills = same.1 }
