use Rattle.std.proofs.Common.{◌≡◌, ◌+◌, ◌<◌, ◌^◌, ℕ, sym, subst, arith, take, get_or, refl, List}
use Rattle.std.proofs.lemmas.List.{take_all}
use Rattle.gl_verilog.specs.Tokens.{number_from}
use Rattle.gl_verilog_elaborator.proofs.Powers.{few_next}
use Rattle.gl_verilog.proofs.Fits.{pow_within}
use Rattle.gl_verilog_elaborator.proofs.numbers.are_few.Goals as goal

pub loop-b-preserved : goal.loop-b-preserved
loop-b-preserved c =
    let all = c.args.digits.now in
    let i = c.loop-b.b-index in
    record {
      small = subst (λ (n : ℕ). number_from c.args.radix 0 (take (i + 1) all) < 2 ^ (c.loop-b.bits + n)) (sym c.digit_bits-more.ensures.bits)
          (few_next c.args.radix all i (get_or all i 0) c.loop-b.bits c.loop-b-test.true refl c.digit_bits-more.ensures.radix c.digit_bits-more.ensures.digit c.loop-b.invariant.small);
      within = omega (arith, c.loop-b.invariant.within);
    }

pub returns : goal.returns
returns c = λ e.
    let all = c.args.digits.now in
    let whole : take c.loop-b.b-index all ≡ all = take_all c.loop-b.b-index all (omega (arith, c.loop-b-test.false)) in
    let small : number_from c.args.radix 0 all < 2 ^ c.loop-b.bits = subst (λ (xs : List ℕ). number_from c.args.radix 0 xs < 2 ^ c.loop-b.bits) whole c.loop-b.invariant.small in
    omega (arith, small, pow_within c.loop-b.bits c.args.size c.loop-b.invariant.within)
