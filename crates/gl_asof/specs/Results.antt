-- Results of an as-of join of two results with places.
use Rattle.std.specs.Prelude.{◌≡◌, Bool, ◌||◌, List}
use Rattle.gl_values.specs.Results.{Row}
use Rattle.gl_arrival.specs.Places.{Placed}
use Rattle.gl_arrival.specs.Results.{Arrivals}
use Rattle.gl_asof.specs.AsOf.{JoinBy, as_of, more_keys}

-- ASOF: the rows of both results joined; whether rows of further keys came on either side is told
pub record IsAsOf (by : JoinBy Row Row Row) (Left Right : Arrivals) (out : List (Placed Row)) (spill : Bool)
    : Type 0 where
  pub left : List (Placed Row)
  pub right : List (Placed Row)
  pub left_spill : Bool
  pub right_spill : Bool
  pub of_left : Left left left_spill
  pub of_right : Right right right_spill
  pub joined : out ≡ as_of by left right
  pub any : spill ≡ ((right_spill || left_spill) || more_keys by left right)
