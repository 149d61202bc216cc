use Rattle.std.proofs.Common.{◌≡◌, ◌∙◌, ◌-◌, ap, sym, length, arith}
use Rattle.std.specs.Prelude.{slice_get}
use Rattle.gl_testbench.proofs.Due.{last_some, last_none}
use Rattle.gl_runner.proofs.driving.last_of.Goals as goal

pub returns-in-Some-clause-cycle : goal.returns-in-Some-clause-cycle
returns-in-Some-clause-cycle c =
    let place : c.saturating_sub.result ≡ length c.args.beats.now.list - 1 = omega (arith, c.saturating_sub.ensures, c.len.ensures) in
    c.cycle_of.ensures.cycle ∙ last_some c.args.beats.now.list c.in-Some.beat (sym c.in-Some.is ∙ c.get.ensures ∙ ap (slice_get c.args.beats.now.list) place)

pub returns-in-None-clause-cycle : goal.returns-in-None-clause-cycle
returns-in-None-clause-cycle c =
    let place : c.saturating_sub.result ≡ length c.args.beats.now.list - 1 = omega (arith, c.saturating_sub.ensures, c.len.ensures) in
    last_none c.args.beats.now.list (sym c.in-None.is ∙ c.get.ensures ∙ ap (slice_get c.args.beats.now.list) place)
