-- The bits of columns of which none has more than 64, and those of a number.
use Rattle.std.proofs.Common.{ℕ, zero, suc, ◌+◌, ◌*◌, ◌^◌, ◌≤◌, List, [], ◌∷◌, length, Bool, true, false, arith}
use Rattle.std.specs.List.{sum}
use Rattle.std.proofs.lemmas.List.Elements.{All-map}
use Rattle.std.proofs.lemmas.List.Sums.{sum_by-le}
use Rattle.std.specs.Prelude.{All, map, nat_le, slice_index, if◌then◌else◌}
use Rattle.gl_algebra.specs.Cost.{least_exponent}
use Rattle.gl_values.specs.declared.kind.Kind.{Kind}
use Rattle.gl_values.specs.Kinds.{IsKind, width_of}
use Rattle.gl_wire.specs.Counted.{AreNarrow}

pub narrow_sum : (columns : List ℕ) → AreNarrow columns → sum columns ≤ length columns * 64
narrow_sum columns h = sum_by-le (λ (w : ℕ). w) 64 columns h

pub narrow_at : (columns : List ℕ) (k : ℕ) → AreNarrow columns → slice_index columns k ≤ 64
narrow_at [] k h = omega arith
narrow_at (w ∷ ws) zero h = h 0 0 (omega arith)
narrow_at (w ∷ ws) (suc k) h = narrow_at ws k (λ i d l. h (suc i) d (omega (arith, l)))

-- an exponent is among those that are tried
pub exponent_few : (more exponent count : ℕ) → least_exponent more exponent count ≤ more + exponent
exponent_few zero exponent count = omega arith
exponent_few (suc more) exponent count = by (nat_le count (2 ^ exponent)) (exponent_few more (suc exponent) count)
  where
    by : (b : Bool) → least_exponent more (suc exponent) count ≤ more + suc exponent → (if b then exponent else least_exponent more (suc exponent) count) ≤ suc more + exponent
    by true rest = omega arith
    by false rest = omega (arith, rest)

-- the columns of every kind are narrow
pub narrow_kinds : (kinds : List Kind) → All IsKind kinds → AreNarrow (map width_of kinds)
narrow_kinds kinds all = All-map (λ (w : ℕ). w ≤ 64) width_of kinds (λ k d lt. (all k d lt).1)
