use Rattle.std.proofs.Common.{◌≡◌, ℕ, ◌+◌, ◌^◌, ◌<◌, ◌≤◌, arith, ap, sym, subst, ◌∙◌}
use Rattle.gl_algebra.proofs.ExponentLemmas.{exponent_covers}
use Rattle.gl_frames_wire.proofs.ReachLemmas.{few_exponents}
use Rattle.gl_frames_wire.specs.Reaches.{place_bits}
use Rattle.gl_frames_wire.proofs.reach.Reach.new.Goals as goal

pub returns-clause-fits : goal.returns-clause-fits
returns-clause-fits c =
    let back = c.args.back in
    let same : c.from-depth.result ≡ back = c.from-depth.ensures in
    let is : c.least_exponent-bits.result ≡ place_bits back = c.least_exponent-bits.ensures.value ∙ ap (λ (n : ℕ). place_bits n) same in
    let covers = exponent_covers (back + 1) 1 (back + 1) (omega arith) in
    let most = c.requires.most in
    record {
      width = record {
        some' = c.least_exponent-bits.ensures.low;
        most = subst (λ (n : ℕ). n ≤ 17) (sym is) (few_exponents 17 (back + 1) 1 (back + 1) (omega arith) (omega (arith, most)));
      };
      some' = c.requires.some;
      inside = subst (λ (n : ℕ). back < 2 ^ n) (sym is) (omega (arith, covers));
    }
