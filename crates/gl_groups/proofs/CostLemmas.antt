-- What groups cost against what a plan counts.
use Rattle.std.proofs.Common.{◌≡◌, ℕ, zero, suc, ◌+◌, ◌*◌, ◌≤◌, length, refl, arith}
use Rattle.std.specs.Prelude.{slice_index}
use Rattle.gl_wire.proofs.CountLemmas.{exponent_few, narrow_at, narrow_sum}
use Rattle.gl_groups.specs.Costs.{GroupingsAreCounted}

pub groupings_are_counted : GroupingsAreCounted
groupings_are_counted slots key source own hs ho =
    let s = length source in
    let o = length own in
    let w = slice_index source key in
    let each : slots * (0 + 8 * (s + 2 + (o + 2) + 4)) ≡ 8 * (slots * s) + 8 * (slots * o) + 64 * slots = omega arith in
    let lines : slots * (o + 1) ≡ slots * o + slots = omega arith in
    let most : slots * (w + 3) ≤ slots * 67 = mul_more slots (w + 3) 67 (let n = narrow_at source key hs in omega (arith, n)) in
    record {
      nodes = omega (arith, each, lines);
      registers = omega (arith, each, lines, most, narrow_sum source hs, narrow_sum own ho, exponent_few slots 1 slots);
      memories = refl;
    }
  where
    mul_more : (n a b : ℕ) → a ≤ b → n * a ≤ n * b
    mul_more zero a b l = omega arith
    mul_more (suc n) a b l = let h = mul_more n a b l in let e : suc n * a ≡ n * a + a = omega arith in let f : suc n * b ≡ n * b + b = omega arith in omega (arith, h, e, f, l)
