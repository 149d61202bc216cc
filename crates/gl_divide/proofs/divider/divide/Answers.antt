use Rattle.std.proofs.Common.{◌≡◌, ℕ, arith, subst}
use Rattle.gl_divide.specs.Divider.{IsBehindDigits}
use Rattle.gl_divide.proofs.StageNet.{digits_more, divider_is, stage_as}
use Rattle.gl_divide.proofs.divider.divide.Goals as goal

pub put_step-requires : goal.put_step-requires
put_step-requires c = stage_as c.loop-digit.net c.args.top.width c.args.bottom.width c.loop-digit.stage c.loop-digit.invariant.stage

pub loop-digit-preserved : goal.loop-digit-preserved
loop-digit-preserved c =
    digits_more c.args.net.now c.loop-digit.net c.put_step.new.net c.loop-digit._digit c.args.top c.args.bottom c.args.go c.loop-digit.stage c.in_ok-stage-2.stage
    c.loop-digit.invariant c.in_ok-stage-2.ensures

pub returns : goal.returns
returns c =
    let all : c.loop-digit._digit ≡ c.args.top.width = omega (arith, c.loop-digit-test.false, c.loop-digit.auto._digit-end) in
    divider_is c.args.net.now c.loop-digit.net c.args.top c.args.bottom c.args.go c.loop-digit.stage c.requires.top
    (subst (λ (n : ℕ). IsBehindDigits c.args.net.now c.loop-digit.net n c.args.top c.args.bottom c.args.go c.loop-digit.stage) all c.loop-digit.invariant)
