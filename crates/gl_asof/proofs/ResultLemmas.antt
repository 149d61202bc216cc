-- An as-of join has one result at most where both sides have.
use Rattle.std.proofs.Common.{List, ◌||◌, sym, ap, ◌∙◌}
use Rattle.gl_values.specs.Results.{Row}
use Rattle.gl_arrival.specs.Places.{Placed}
use Rattle.gl_arrival.specs.Results.{Arrivals, HasOneArrival}
use Rattle.gl_asof.specs.AsOf.{JoinBy, as_of, more_keys}
use Rattle.gl_asof.specs.Results.{IsAsOf}

pub one_as_of : (by : JoinBy Row Row Row) (Left Right : Arrivals) → HasOneArrival Left → HasOneArrival Right → HasOneArrival (IsAsOf by Left Right)
one_as_of by Left Right left right out out' spill spill' a b =
    let l = left a.left b.left a.left_spill b.left_spill a.of_left b.of_left in
    let r = right a.right b.right a.right_spill b.right_spill a.of_right b.of_right in (
      a.joined ∙ ap (λ (xs : List (Placed Row)). as_of by xs a.right) l.0 ∙ ap (as_of by b.left) r.0 ∙ sym b.joined,
      a.any
          ∙ ap (λ s. (a.right_spill || s) || more_keys by a.left a.right) l.1
          ∙ ap (λ s. (s || b.left_spill) || more_keys by a.left a.right) r.1
          ∙ ap (λ (xs : List (Placed Row)). (b.right_spill || b.left_spill) || more_keys by xs a.right) l.0
          ∙ ap (λ (ys : List (Placed Row)). (b.right_spill || b.left_spill) || more_keys by b.left ys) r.0
          ∙ sym b.any,
    )
