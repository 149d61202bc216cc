use Rattle.std.proofs.Common.{List, [], ◌∷◌, refl, sym, ap, ◌∙◌, subst}
use Rattle.gl_values.specs.declared.kind.Kind.{Kind}
use Rattle.gl_algebra.specs.declared.figures.Figures.{Figures}
use Rattle.gl_algebra.specs.declared.node.PlanNode.TheVariants.{Merge}
use Rattle.gl_algebra.specs.FigureTable.{AreSmall}
use Rattle.gl_wiring.specs.Leaves.{widths_of}
use Rattle.gl_wiring.proofs.CanLemmas.{first_within, second_within}
use Rattle.gl_wiring.proofs.TableLemmas.{is_there, taken_gives}
use Rattle.gl_wiring.proofs.TurnLemmas.{merge_put}
use Rattle.gl_wiring.proofs.arms.merge_node.Goals as goal

pub figures_at-requires : goal.figures_at-requires
figures_at-requires c = c.requires.within

pub circuit_at-requires : goal.circuit_at-requires
circuit_at-requires c = is_there c.requires.first

pub circuit_at-requires-2 : goal.circuit_at-requires-2
circuit_at-requires-2 c = is_there c.requires.second

pub emit-requires-clause-left : goal.emit-requires-clause-left
emit-requires-clause-left c = (taken_gives c.requires.first c.in_ok-first.ensures).wire

pub emit-requires-clause-right : goal.emit-requires-clause-right
emit-requires-clause-right c = (taken_gives c.requires.second c.in_ok-second.ensures).wire

pub emit-requires-clause-left_lines : goal.emit-requires-clause-left_lines
emit-requires-clause-left_lines c = (taken_gives c.requires.first c.in_ok-first.ensures).lines

pub emit-requires-clause-right_lines : goal.emit-requires-clause-right_lines
emit-requires-clause-right_lines c = (taken_gives c.requires.second c.in_ok-second.ensures).lines

pub figures_at-requires-2 : goal.figures_at-requires-2
figures_at-requires-2 c =
    first_within c.args.site.plan.now c.args.id (Merge c.args.left c.args.right) c.args.site.planned c.requires.node c.args.left (c.args.right ∷ []) refl

pub figures_at-requires-3 : goal.figures_at-requires-3
figures_at-requires-3 c =
    second_within c.args.site.plan.now c.args.id (Merge c.args.left c.args.right) c.args.site.planned c.requires.node c.args.left c.args.right refl

pub emit-requires-clause-sound_left : goal.emit-requires-clause-sound_left
emit-requires-clause-sound_left c =
    rw c.figures_at-2.ensures.value (c.laws_below.ensures.figures_are_sound c.args.site.plan.now c.args.left c.args.site.planned
    (first_within c.args.site.plan.now c.args.id (Merge c.args.left c.args.right) c.args.site.planned c.requires.node c.args.left (c.args.right ∷ []) refl))

pub emit-requires-clause-sound_right : goal.emit-requires-clause-sound_right
emit-requires-clause-sound_right c =
    rw c.figures_at-3.ensures.value (c.laws_below.ensures.figures_are_sound c.args.site.plan.now c.args.right c.args.site.planned
    (second_within c.args.site.plan.now c.args.id (Merge c.args.left c.args.right) c.args.site.planned c.requires.node c.args.left c.args.right refl))

-- the figures of the node are those of the turns
pub emit-requires-clause-small : goal.emit-requires-clause-small
emit-requires-clause-small c =
    let follows = c.laws_below.ensures.nodes_follow_tables c.args.site.plan.now c.args.id (Merge c.args.left c.args.right) c.args.site.planned c.requires.node in
    rw (c.figures_at-2.ensures.value, c.figures_at-3.ensures.value)
    (subst (λ (f : Figures). AreSmall f) (c.figures_at.ensures.value ∙ follows.figures) c.figures_at.ensures.small)

pub emit-requires-clause-widths : goal.emit-requires-clause-widths
emit-requires-clause-widths c =
    (taken_gives c.requires.first c.in_ok-first.ensures).same_widths
    ∙ ap (λ (kinds : List Kind). widths_of kinds) (c.args.site.planned.fits c.args.id (Merge c.args.left c.args.right) c.requires.node).suits.0
    ∙ sym (taken_gives c.requires.second c.in_ok-second.ensures).same_widths

pub returns : goal.returns
returns c =
    merge_put c.laws_below.ensures c.args.site.plan.now c.args.id c.args.net.now c.emit.new.net c.args.site.tick c.args.site.leaves.now c.in_ok-first.first c.in_ok-second.second c.in_ok-e.e c.args.site.planned
    c.args.left c.args.right c.requires.node (taken_gives c.requires.first c.in_ok-first.ensures) (taken_gives c.requires.second c.in_ok-second.ensures)
    (rw (c.figures_at-2.ensures.value, c.figures_at-3.ensures.value) at c.in_ok-e.ensures)
