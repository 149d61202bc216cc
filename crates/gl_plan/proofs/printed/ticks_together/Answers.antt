use Rattle.std.proofs.Common.{Bool, Some, None, ap, sym, ◌∙◌}
use Rattle.std.specs.Prelude.{if◌then◌else◌}
use Rattle.gl_root_gaps.specs.Together.{farthest_ticks}
use Rattle.gl_plan.proofs.printed.ticks_together.Goals as goal

-- the greatest where there is one
pub returns-then-any_ticks : goal.returns-then-any_ticks
returns-then-any_ticks c =
    ap Some c.farthest_ticks.ensures
    ∙ ap (λ (b : Bool). if b then Some (farthest_ticks c.args.plan.now c.args.roots.now) else None) (sym c.if-any_ticks.true ∙ c.any_ticks.ensures)

pub returns-else-any_ticks : goal.returns-else-any_ticks
returns-else-any_ticks c =
    ap (λ (b : Bool). if b then Some (farthest_ticks c.args.plan.now c.args.roots.now) else None) (sym c.if-any_ticks.false ∙ c.any_ticks.ensures)
