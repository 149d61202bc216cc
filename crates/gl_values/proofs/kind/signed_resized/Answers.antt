use Rattle.std.proofs.Common.{◌≡◌, ℕ, ◌+◌, ◌-◌, ◌%◌, ◌^◌, false, nat_lt, sym, ap, ◌∙◌, arith}
use Rattle.gl_values.proofs.Signs.{resized_high, shifted}
use Rattle.gl_values.proofs.kind.signed_resized.Goals as goal

pub returns : goal.returns
returns c =
    let w = c.args.bits in
    let v = c.args.width in
    let x = c.args.word in
    let high : nat_lt x (2 ^ (w - 1)) ≡ false = ap (λ (k : ℕ). nat_lt x (2 ^ k)) (sym c.from.ensures) ∙ sym c.fits.ensures ∙ c.if-fits.false in
    c.wrapped-2.ensures ∙ ap (λ (n : ℕ). (x + (2 ^ 128 - n)) % 2 ^ 128 % 2 ^ v) (shifted w (omega (arith, c.requires.few)))
    ∙ resized_high w v x high c.requires.few c.requires.most
