use Rattle.std.proofs.Common.{◌≡◌, ◌∙◌, ◌+◌, ◌^◌, ℕ, sym, ap, subst, arith, drop, get_or, List}
use Rattle.std.specs.Prelude.{nat_lt}
use Rattle.std.proofs.lemmas.Bool.{ltb-true, ltb-false, lt-ltb}
use Rattle.std.proofs.lemmas.List.{drop_all}
use Rattle.std.proofs.lemmas.Nat.{pow_pos}
use Rattle.gl_verilog_elaborator.specs.Numbers.{value_of}
use Rattle.gl_verilog_elaborator.proofs.Steps.{left_at}
use Rattle.gl_verilog_elaborator.proofs.Powers.{below_next, below_past}
use Rattle.gl_verilog_elaborator.proofs.numbers.are_below.Goals as goal

pub loop-limb-preserved : goal.loop-limb-preserved
loop-limb-preserved c =
    let all = c.args.limbs.now in
    let i = c.loop-limb.limb-index in
    let left = c.loop-limb.left in
    let l = get_or all i 0 in
    subst (λ (n : ℕ). nat_lt (value_of (drop (i + 1) all)) (2 ^ n) ≡ nat_lt (value_of all) (2 ^ c.args.size)) (sym c.saturating_sub-left.ensures) (
    sym (below_next l (value_of (drop (i + 1) all)) left c.if-not-limb_fits.ensures.small (ltb-true l (2 ^ left) (sym c.if-not-limb_fits.ensures.fits)))
    ∙ ap (λ (xs : List ℕ). nat_lt (value_of xs) (2 ^ left)) (sym (left_at all i 0 c.loop-limb-test.true)) ∙ c.loop-limb.invariant)

pub returns-then-not-limb_fits : goal.returns-then-not-limb_fits
returns-then-not-limb_fits c =
    let all = c.args.limbs.now in
    let i = c.loop-limb.limb-index in
    let left = c.loop-limb.left in
    let l = get_or all i 0 in
    sym (below_past l (value_of (drop (i + 1) all)) left (ltb-false l (2 ^ left) (sym c.if-not-limb_fits.ensures.fits)))
    ∙ ap (λ (xs : List ℕ). nat_lt (value_of xs) (2 ^ left)) (sym (left_at all i 0 c.loop-limb-test.true)) ∙ c.loop-limb.invariant

pub returns : goal.returns
returns c =
    sym (lt-ltb 0 (2 ^ c.loop-limb.left) (pow_pos c.loop-limb.left))
    ∙ ap (λ (xs : List ℕ). nat_lt (value_of xs) (2 ^ c.loop-limb.left)) (sym (drop_all c.loop-limb.limb-index c.args.limbs.now (omega (arith, c.loop-limb-test.false)))) ∙ c.loop-limb.invariant
