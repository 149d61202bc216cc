use Rattle.std.proofs.Common.{◌≡◌, ◌≢◌, Some, false, true, inl, take, ap, sym, subst, ◌∙◌}
use Rattle.std.specs.Prelude.{All}
use Rattle.std.proofs.lemmas.List.Elements.{All-push}
use Rattle.std.proofs.lemmas.Option.{slice_get-get_or}
use Rattle.gl_bits.proofs.AllLists.{taken_next}
use Rattle.gl_algebra.specs.contracts.node.PlanFrameEq.TheImpl.Laws as PlanFrameLaws
use Rattle.gl_algebra.specs.contracts.node.PlanFramePartialEq.TheImpl as OfPlanFrame
use Rattle.gl_algebra.specs.declared.node.PlanFrame.{PlanFrame}
use Rattle.gl_algebra.proofs.NodeEquality.{same_frame}
use Rattle.gl_frames_stages.proofs.frames.first_place.Goals as goal

pub returns-then-eq-clause-equal : goal.returns-then-eq-clause-equal
returns-then-eq-clause-equal c =
    inl (slice_get-get_or c.args.items.now c.loop-at.at c.index-items-at.result c.loop-at-test.true ∙ ap Some (sym c.index-items-at.is)
    ∙ ap Some (same_frame c.index-items-at.result c.args.item.now (sym c.eq.ensures ∙ c.if-eq.true)))

pub loop-at-preserved : goal.loop-at-preserved
loop-at-preserved c =
    let here = c.index-items-at.result in
    let item = c.args.item.now in
    let tested : OfPlanFrame.ghosts.eq here item ≡ false = sym c.eq.ensures ∙ c.if-eq.false in
    let passes : (here ≡ item) → OfPlanFrame.ghosts.eq here item ≡ true = λ same. subst (λ (z : PlanFrame). OfPlanFrame.ghosts.eq here z ≡ true) same (PlanFrameLaws.laws-law.refl here) in
    let apart : here ≢ item = λ same. never (sym tested ∙ passes same) in
    subst (All (λ (before : PlanFrame). before ≢ item)) (sym (taken_next c.args.items.now c.loop-at.at here c.loop-at-test.true c.index-items-at.is))
    (All-push (λ (before : PlanFrame). before ≢ item) (take c.loop-at.at c.args.items.now) here c.loop-at.invariant apart)
  where
    never : false ≡ true → ⊥
    never h = cc
