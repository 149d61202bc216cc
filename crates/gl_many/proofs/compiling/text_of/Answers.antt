use Rattle.std.proofs.Common.{◌≡◌, List, ap, subst, ◌∙◌}
use Rattle.gl_query.specs.Laws.{AcceptedHaveRealColumns}
use Rattle.gl_elaborate.specs.Laws.{PlansAreRight, PlansTellTime, SeveralAreRight}
use Rattle.gl_plan.specs.Together.{statements_of}
use Rattle.gl_testbench.proofs.OverflowRuns.{RunLaws}
use Rattle.gl_wiring.specs.Many.{AreWired}
use Rattle.gl_wiring.specs.declared.many.Root.{Root}
use Rattle.gl_many.specs.Roots.{roots_of}
use Rattle.gl_many.proofs.Meeting.{text_meets}
use Rattle.gl_many.proofs.Standing.{Laws, can_wire_all, no_others, they_stand}
use Rattle.gl_many.proofs.compiling.text_of.Goals as goal

laws : AcceptedHaveRealColumns → PlansAreRight → SeveralAreRight → PlansTellTime → Laws
laws a b s t = record { columns = a; plans = b; several = s; time = t }

pub wire_roots-requires : goal.wire_roots-requires
wire_roots-requires c =
    let schema = c.args.schema.now in
    let ss = statements_of c.args.statements.now in
    let p = c.args.planned.now in
    let can = c.requires.can in
    let is = c.requires.planned in
    let roots : c.deref-3.result.now ≡ roots_of schema ss p.roots.items = c.deref-3.ensures.value ∙ c.in_ok-roots.ensures ∙ ap (roots_of schema ss) c.deref.ensures.value in
    rw (c.deref-2.ensures.value, roots) (can_wire_all p.plan schema p.figures.items ss p.roots.items can is.figures'
    (no_others (laws c.accepted_have_real_columns.ensures c.plans_are_right.ensures c.several_are_right.ensures c.plans_tell_time.ensures) schema ss p can is)
    (they_stand (laws c.accepted_have_real_columns.ensures c.plans_are_right.ensures c.several_are_right.ensures c.plans_tell_time.ensures) schema ss p can is))

pub returns : goal.returns
returns c =
    let schema = c.args.schema.now in
    let ss = statements_of c.args.statements.now in
    let p = c.args.planned.now in
    let net = c.in_ok-net.net in
    let roots : c.deref-3.result.now ≡ roots_of schema ss p.roots.items = c.deref-3.ensures.value ∙ c.in_ok-roots.ensures ∙ ap (roots_of schema ss) c.deref.ensures.value in
    let runs : RunLaws = record {
      event_runs_are_runs = c.event_runs_are_runs.ensures.runs;
      inputs_are_ports = c.inputs_are_ports.ensures;
      runs_are_causal = c.runs_are_causal.ensures;
      valid_modules_run = c.valid_modules_run.ensures;
    } in
    text_meets (laws c.accepted_have_real_columns.ensures c.plans_are_right.ensures c.several_are_right.ensures c.plans_tell_time.ensures) schema ss p c.requires.can c.requires.planned runs c.once_is_less.ensures c.args.alloc net c.in_ok-made.made
    (subst (λ (rs : List Root). AreWired schema p.plan rs net) roots c.in_ok-net.ensures) c.in_ok-made.ensures
