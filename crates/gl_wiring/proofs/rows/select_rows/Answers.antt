use Rattle.std.proofs.Common.{ℕ, List, subst}
use Rattle.gl_algebra.specs.declared.node.PlanNode.TheVariants.{Select}
use Rattle.gl_algebra.specs.Shapes.{kinds_of}
use Rattle.gl_wire.specs.Blocks.{IsBehind}
use Rattle.gl_wire.specs.Shapes.{Steady, keep_where}
use Rattle.gl_wire.proofs.ColumnLemmas.{wire_kept}
use Rattle.gl_rows.specs.Costs.{cost_of_rows}
use Rattle.gl_wiring.proofs.LaneRowLemmas.{select_rows}
use Rattle.gl_wiring.proofs.RowLemmas.{width_at}
use Rattle.gl_wiring.proofs.rows.select_rows.Goals as goal

pub put_select-requires-clause-wire : goal.put_select-requires-clause-wire
put_select-requires-clause-wire c =
    wire_kept c.args.net.now c.later_place.new.net c.args.below.rows.wire c.in_ok-place.ensures.keeps c.requires.below.wire

pub put_select-requires-clause-column : goal.put_select-requires-clause-column
put_select-requires-clause-column c =
    rw (c.requires.below.same_widths, c.from.ensures) (width_at (kinds_of c.args.site.plan.now c.args.child) c.args.column _
    ((c.args.site.planned.fits c.args.id (Select c.args.child c.args.column) c.requires.node).suits))

pub returns : goal.returns
returns c = λ old lane place h.
    select_rows c.laws_below.ensures c.args.site.plan.now c.args.id old c.args.net.now c.later_place.new.net c.put_select.new.net lane place c.in_ok-place.place c.args.below c.in_ok-rows.rows
    c.args.site.planned c.args.child c.args.column c.requires.node h c.in_ok-place.ensures
    (subst (λ (columns : List ℕ). IsBehind c.later_place.new.net c.put_select.new.net (λ sets. Steady 1 (keep_where c.args.column)) columns (cost_of_rows columns 0)
    c.args.below.rows c.in_ok-rows.rows) c.requires.below.same_widths (rw c.from.ensures at c.in_ok-rows.ensures))
