use Rattle.std.proofs.Common.{◌∙◌, ap, arith, sym}
use Rattle.std.specs.Prelude.{option_and_then}
use Rattle.gl_root_gaps.specs.Roots.{rows_below}
use Rattle.gl_root_gaps.proofs.GapLemmas.{rows_above}
use Rattle.gl_figures.proofs.ticks.+root_ticks.Goals as goal

pub root_ticks-requires : goal.root_ticks-requires
root_ticks-requires t c =
    let is = sym c.rows_below-below.ensures ∙ c.in-Some.is in
    let before = (rows_above c.args.plan.now c.args.root c.node.result.now c.in-Some.child c.node.ensures.plan c.node.ensures.node is).before in
    (omega (arith, before), (omega (arith, before, c.requires.root), c.requires.figures))

pub returns-in-Some : goal.returns-in-Some
returns-in-Some t c =
    let is = sym c.rows_below-below.ensures ∙ c.in-Some.is in
    c.root_ticks.ensures ∙ sym (rows_above c.args.plan.now c.args.root c.node.result.now c.in-Some.child c.node.ensures.plan c.node.ensures.node is).same

pub own_ticks-requires-clause-alone : goal.own_ticks-requires-clause-alone
own_ticks-requires-clause-alone t c = ap (option_and_then rows_below) c.node.ensures.node ∙ sym c.rows_below-below.ensures ∙ c.in-None.is
