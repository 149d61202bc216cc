-- What a rotation with spare copies costs against what a plan counts.
use Rattle.std.proofs.Common.{◌≡◌, ◌+◌, ◌*◌, length, refl, arith}
use Rattle.gl_wire.proofs.CountLemmas.{narrow_sum}
use Rattle.gl_spare.specs.Costs.{SparesAreCounted}

pub spares_are_counted : SparesAreCounted
spares_are_counted copies delay source own hs ho =
    let s = length source in
    let o = length own in
    let each : copies * (0 + 8 * (s + 2 + (o + 2) + 4)) ≡ 8 * (copies * s) + 8 * (copies * o) + 64 * copies = omega arith in
    let lines : copies * (o + 1) ≡ copies * o + copies = omega arith in
    record {
      nodes = omega (arith, each, lines);
      registers = omega (arith, each, lines, narrow_sum source hs, narrow_sum own ho);
      memories = refl;
    }
