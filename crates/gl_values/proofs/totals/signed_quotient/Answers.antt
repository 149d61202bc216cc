use Rattle.std.proofs.Common.{◌≡◌, ℕ, ◌+◌, ◌-◌, ◌/◌, ◌%◌, ◌^◌, false, nat_lt, sym, ap, ◌∙◌, arith}
use Rattle.gl_values.proofs.Signs.{shifted}
use Rattle.gl_values.proofs.Totalling.{quotient_high}
use Rattle.gl_values.proofs.totals.signed_quotient.Goals as goal

pub returns : goal.returns
returns c =
    let w = c.args.width in
    let b = w + 32 in
    let s = c.args.sum in
    let n = c.args.number in
    let high : nat_lt s (2 ^ (b - 1)) ≡ false = ap (λ (k : ℕ). nat_lt s (2 ^ k)) (sym c.from.ensures) ∙ sym c.fits.ensures ∙ c.if-fits.false in
    c.wrapped-2.ensures ∙ ap (λ (k : ℕ). (0 + (2 ^ 128 - (k - s) / n)) % 2 ^ 128 % 2 ^ w) (shifted b (omega (arith, c.requires.most)))
    ∙ quotient_high b 128 w s n high c.requires.fits c.requires.number (omega (arith, c.requires.most)) (omega (arith, c.requires.most))
