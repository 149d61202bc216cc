use Rattle.std.proofs.Common.{ℕ, List, subst}
use Rattle.gl_algebra.specs.declared.node.PlanNode.TheVariants.{Select}
use Rattle.gl_algebra.specs.Shapes.{kinds_of}
use Rattle.gl_wire.specs.Blocks.{IsBehind}
use Rattle.gl_wire.specs.Shapes.{Steady, keep_where}
use Rattle.gl_rows.specs.Costs.{cost_of_rows}
use Rattle.gl_wiring.proofs.AboveLemmas.{select_once}
use Rattle.gl_wiring.proofs.RowLemmas.{select_put, width_at}
use Rattle.gl_wiring.proofs.TableLemmas.{is_there, taken_gives, taken_once}
use Rattle.gl_wiring.proofs.arms.select_node.Goals as goal

pub circuit_at-requires : goal.circuit_at-requires
circuit_at-requires c = is_there c.requires.there

pub put_select-requires-clause-wire : goal.put_select-requires-clause-wire
put_select-requires-clause-wire c = (taken_gives c.requires.there c.in_ok-below.ensures).wire

pub put_select-requires-clause-column : goal.put_select-requires-clause-column
put_select-requires-clause-column c =
    rw ((taken_gives c.requires.there c.in_ok-below.ensures).same_widths, c.from.ensures) (width_at (kinds_of c.args.site.plan.now c.args.child) c.args.column _
    ((c.args.site.planned.fits c.args.id (Select c.args.child c.args.column) c.requires.node).suits))

pub returns-clause-put : goal.returns-clause-put
returns-clause-put c =
    select_put c.laws_below.ensures c.args.site.plan.now c.args.id c.args.net.now c.put_select.new.net c.args.site.tick c.args.site.leaves.now c.in_ok-below.below c.in_ok-e.e c.args.site.planned
    c.args.child c.args.column c.requires.node (taken_gives c.requires.there c.in_ok-below.ensures)
    (subst (λ (columns : List ℕ). IsBehind c.args.net.now c.put_select.new.net (λ sets. Steady 1 (keep_where c.args.column)) columns (cost_of_rows columns 0)
    c.in_ok-below.below c.in_ok-e.e) (taken_gives c.requires.there c.in_ok-below.ensures).same_widths (rw c.from.ensures at c.in_ok-e.ensures))

pub returns-clause-once : goal.returns-clause-once
returns-clause-once c =
    select_once c.laws_below.ensures c.args.site.plan.now c.args.id c.args.net.now c.put_select.new.net c.args.site.tick c.args.site.leaves.now c.in_ok-below.below c.in_ok-e.e c.args.site.planned
    c.args.child c.args.column c.requires.node (taken_once c.requires.there c.in_ok-below.ensures)
    (subst (λ (columns : List ℕ). IsBehind c.args.net.now c.put_select.new.net (λ sets. Steady 1 (keep_where c.args.column)) columns (cost_of_rows columns 0)
    c.in_ok-below.below c.in_ok-e.e) (taken_gives c.requires.there c.in_ok-below.ensures).same_widths (rw c.from.ensures at c.in_ok-e.ensures))
