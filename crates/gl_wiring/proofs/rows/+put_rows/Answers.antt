use Rattle.std.proofs.Common.{◌∷◌, [], Some, refl, sym, ap, ◌∙◌, subst, arith}
use Rattle.gl_algebra.specs.Direct.{form_of, is_rowwise}
use Rattle.gl_algebra.specs.Shapes.{Shape, shape_of}
use Rattle.gl_wiring.specs.Leaves.{HaveLeaves}
use Rattle.gl_wiring.proofs.CanLemmas.{first_before, first_within}
use Rattle.gl_wiring.proofs.FormLemmas.{child_rowwise, never, others_no_rows}
use Rattle.gl_wiring.proofs.LaneRowLemmas.{body_rows}
use Rattle.gl_wiring.proofs.WordLemmas.{have_words}
use Rattle.gl_wiring.proofs.rows.+put_rows.Goals as goal

pub put_rows-requires : goal.put_rows-requires
put_rows-requires t c =
    let nodes = c.args.site.plan.now in
    let at = c.node.ensures.node ∙ ap Some c.in-Compute.is in
    let follows = c.laws_below.ensures.nodes_follow_tables nodes c.args.id _ c.node.ensures.plan at in
    let before = first_before nodes c.args.id _ c.node.ensures.plan at c.in-Compute.child [] refl in (
      omega (arith, before),
      (
        first_within nodes c.args.id _ c.node.ensures.plan at c.in-Compute.child [] refl,
        (
          child_rowwise (form_of nodes c.in-Compute.child) (sym follows.form ∙ c.requires.form),
          (
            subst (λ (s : Shape). HaveLeaves c.args.net.now (c.args.lane.now ∷ []) s.leaves) follows.shape c.requires.leaves,
            (c.requires.slot, (c.requires.few, (c.requires.first, c.requires.words))),
          ),
        ),
      ),
    )

pub put_rows-requires-in-Select : goal.put_rows-requires-in-Select
put_rows-requires-in-Select t c =
    let nodes = c.args.site.plan.now in
    let at = c.node.ensures.node ∙ ap Some c.in-Select.is in
    let follows = c.laws_below.ensures.nodes_follow_tables nodes c.args.id _ c.node.ensures.plan at in
    let before = first_before nodes c.args.id _ c.node.ensures.plan at c.in-Select.child [] refl in (
      omega (arith, before),
      (
        first_within nodes c.args.id _ c.node.ensures.plan at c.in-Select.child [] refl,
        (
          child_rowwise (form_of nodes c.in-Select.child) (sym follows.form ∙ c.requires.form),
          (
            subst (λ (s : Shape). HaveLeaves c.args.net.now (c.args.lane.now ∷ []) s.leaves) follows.shape c.requires.leaves,
            (c.requires.slot, (c.requires.few, (c.requires.first, c.requires.words))),
          ),
        ),
      ),
    )

pub put_rows-requires-in-Project : goal.put_rows-requires-in-Project
put_rows-requires-in-Project t c =
    let nodes = c.args.site.plan.now in
    let at = c.node.ensures.node ∙ ap Some c.in-Project.is in
    let follows = c.laws_below.ensures.nodes_follow_tables nodes c.args.id _ c.node.ensures.plan at in
    let before = first_before nodes c.args.id _ c.node.ensures.plan at c.in-Project.child [] refl in (
      omega (arith, before),
      (
        first_within nodes c.args.id _ c.node.ensures.plan at c.in-Project.child [] refl,
        (
          child_rowwise (form_of nodes c.in-Project.child) (sym follows.form ∙ c.requires.form),
          (
            subst (λ (s : Shape). HaveLeaves c.args.net.now (c.args.lane.now ∷ []) s.leaves) follows.shape c.requires.leaves,
            (c.requires.slot, (c.requires.few, (c.requires.first, c.requires.words))),
          ),
        ),
      ),
    )

pub compute_rows-requires-clause-words : goal.compute_rows-requires-clause-words
compute_rows-requires-clause-words t c =
    rw c.note.ensures (have_words c.args.site.plan.now c.args.net.now c.put_rows.new.net c.args.site.words.now c.in_ok-below-in-Compute.ensures.keeps c.requires.words)

pub project_rows-requires-clause-words : goal.project_rows-requires-clause-words
project_rows-requires-clause-words t c =
    rw c.note-in-Project.ensures
    (have_words c.args.site.plan.now c.args.net.now c.put_rows-in-Project.new.net c.args.site.words.now c.in_ok-below-in-Project.ensures.keeps c.requires.words)

pub unreachable-requires : goal.unreachable-requires
unreachable-requires t c =
    let follows = c.laws_below.ensures.nodes_follow_tables c.args.site.plan.now c.args.id c.node.result.now c.node.ensures.plan c.node.ensures.node in
    never (others_no_rows (shape_of c.args.site.plan.now) (form_of c.args.site.plan.now) c.node.result.now c.in_default.not-Body c.in_default.not-Compute
    c.in_default.not-Select c.in_default.not-Project ∙ sym (ap is_rowwise follows.form) ∙ ap is_rowwise c.requires.form)

pub returns-in_ok-rows-in-Body : goal.returns-in_ok-rows-in-Body
returns-in_ok-rows-in-Body t c =
    body_rows c.laws_below.ensures c.args.site.plan.now c.args.id c.args.net.now c.args.lane.now c.args.place c.in-Body.field-0 c.in_ok-rows-in-Body.rows c.node.ensures.plan
    (c.node.ensures.node ∙ ap Some c.in-Body.is) c.requires.leaves c.requires.slot c.requires.few c.requires.first
    (rw c.from_ref.ensures.value at c.in_ok-rows-in-Body.ensures.wire) c.in_ok-rows-in-Body.ensures.faults
