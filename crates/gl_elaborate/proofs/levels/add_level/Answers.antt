use Rattle.std.proofs.Common.{map, ◌∙◌, ap, sym, subst, List, arith, ◌+◌}
use Rattle.std.specs.Prelude.{option_map}
use Rattle.gl_algebra.specs.declared.node.ColOp.{ColOp}
use Rattle.gl_algebra.specs.declared.node.PlanNode.TheVariants.{Compute}
use Rattle.gl_elaborate.specs.Fitting.{FitsNext}
use Rattle.gl_elaborate.specs.Trees.{term}
use Rattle.gl_algebra.specs.Added.{placed_at, added}
use Rattle.gl_elaborate.proofs.StepLemmas.{a_step, step-fits, step-room}
use Rattle.gl_elaborate.proofs.levels.add_level.Goals as goal

pub put-requires : goal.put-requires
put-requires c =
    subst (λ (ops : List ColOp). FitsNext c.args.plan.now (Compute c.args.at ops)) (sym c.in_ok-ops.ensures)
    (step-fits c.args.base (placed_at c.args.plan.now c.args.at) (map term c.args.items.now) (option_map term c.args.filter.now)
    c.in_ok-level.level.keys c.in_ok-level.ensures c.requires.deep c.requires.fit)

pub reduce_all-requires : goal.reduce_all-requires
reduce_all-requires c =
    step-room c.args.base (placed_at c.args.plan.now c.args.at) (map term c.args.items.now) (option_map term c.args.filter.now)
    c.in_ok-level.level.keys c.in_ok-level.ensures c.requires.room

pub reduce_some-requires : goal.reduce_some-requires
reduce_some-requires c =
    step-room c.args.base (placed_at c.args.plan.now c.args.at) (map term c.args.items.now) (option_map term c.args.filter.now)
    c.in_ok-level.level.keys c.in_ok-level.ensures c.requires.room

pub overflow_cast-wider : goal.overflow_cast-wider
overflow_cast-wider c =
    let room = step-room c.args.base (placed_at c.args.plan.now c.args.at) (map term c.args.items.now) (option_map term c.args.filter.now)
    c.in_ok-level.level.keys c.in_ok-level.ensures c.requires.room in
    omega (arith, room, c.len.ensures.len)

pub overflow_add-wider : goal.overflow_add-wider
overflow_add-wider c =
    let room = step-room c.args.base (placed_at c.args.plan.now c.args.at) (map term c.args.items.now) (option_map term c.args.filter.now)
    c.in_ok-level.level.keys c.in_ok-level.ensures c.requires.room in
    omega (arith, room, c.len.ensures.len)

pub returns-clause-step : goal.returns-clause-step
returns-clause-step c =
    a_step c.args.base (placed_at c.args.plan.now c.args.at) (map term c.args.items.now) (option_map term c.args.filter.now)
    c.in_ok-level.level.keys _ _ _ _ c.in_ok-level.ensures
    (c.in_ok-next.ensures.added ∙ ap (λ (ops : List ColOp). added c.args.plan.now (Compute c.args.at ops)) c.in_ok-ops.ensures)
    (ap (λ n. c.args.base + n) c.len.ensures.len) c.reduce_all.ensures c.reduce_some.ensures c.requires.deep c.requires.fit c.requires.room
