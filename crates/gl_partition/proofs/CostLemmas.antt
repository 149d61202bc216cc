-- What windows of each key cost against what a plan counts.
use Rattle.std.proofs.Common.{◌≡◌, ℕ, zero, suc, ◌+◌, ◌*◌, ◌≤◌, length, refl, arith}
use Rattle.std.specs.Prelude.{slice_index}
use Rattle.gl_wire.proofs.CountLemmas.{exponent_few, narrow_at, narrow_sum}
use Rattle.gl_partition.specs.Costs.{PartitioningsAreCounted}

mul_more : (n a b : ℕ) → a ≤ b → n * a ≤ n * b
mul_more zero a b l = omega arith
mul_more (suc n) a b l =
    let h = mul_more n a b l in
    let e : suc n * a ≡ n * a + a = omega arith in
    let f : suc n * b ≡ n * b + b = omega arith in
    omega (arith, h, e, f, l)

pub partitionings_are_counted : PartitioningsAreCounted
partitionings_are_counted slots copies key source own some keyed hs ho =
    let s = length source in
    let o = length own in
    let w = slice_index source key in
    let all = slots * copies in
    let each : all * (0 + 8 * (s + 2 + (o + 2) + 4)) ≡ 8 * (all * s) + 8 * (all * o) + 64 * all = omega arith in
    let lines : all * (o + 1) ≡ all * o + all = omega arith in
    let slot : slots ≤ all = (let h = mul_more slots 1 copies some in let e : slots * 1 ≡ slots = omega arith in omega (arith, h, e)) in
    let out : all ≤ all * o = (let h = mul_more all 1 o keyed in let e : all * 1 ≡ all = omega arith in omega (arith, h, e)) in
    let most : slots * (w + 129) ≤ slots * 193 = mul_more slots (w + 129) 193 (let n = narrow_at source key hs in omega (arith, n)) in
    record {
      nodes = omega (arith, each, lines, slot, out);
      registers = omega (arith, each, lines, slot, out, most, narrow_sum source hs, narrow_sum own ho, exponent_few slots 1 slots);
      memories = refl;
    }
