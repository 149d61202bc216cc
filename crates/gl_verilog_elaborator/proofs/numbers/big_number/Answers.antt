use Rattle.std.proofs.Common.{◌^◌, arith, subst, Option, sym, ℕ, ◌≡◌, ◌≤◌}
use Rattle.std.specs.Prelude.{MatchOption}
use Rattle.gl_verilog.specs.Tokens.{number_in}
use Rattle.gl_verilog_elaborator.proofs.Powers.{number_passes, number_ends}
use Rattle.gl_verilog_elaborator.proofs.numbers.big_number.Goals as goal

pub returns-in_err-number : goal.returns-in_err-number
returns-in_err-number c =
    subst (λ (o : Option ℕ). MatchOption o (2 ^ 128 ≤ number_in c.args.radix c.args.digits.now) (λ n. n ≡ number_in c.args.radix c.args.digits.now)) (sym c.from_residual.ensures)
    (number_passes c.args.radix c.args.digits.now c.loop-b.b-index c.loop-b.number (number_in c.args.radix c.args.digits.now) (2 ^ 128) c.in_err-number.ensures.radix c.loop-b-test.true c.in_err-number.ensures.value c.loop-b.invariant.same)

pub returns : goal.returns
returns c = number_ends c.args.radix c.args.digits.now c.loop-b.b-index c.loop-b.number (number_in c.args.radix c.args.digits.now) (omega (arith, c.loop-b-test.false)) c.loop-b.invariant.same
