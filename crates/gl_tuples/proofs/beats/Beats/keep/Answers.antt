use Rattle.std.proofs.Common.{◌≡◌, ◌∙◌, ap, sym, subst, List, Result, ◌↔◌}
use Rattle.std.specs.Prelude.{IsOk}
use Rattle.gl_gaps.specs.Keeps.{KeepsGaps}
use Rattle.gl_tuples.specs.declared.beats.Beat.{Beat}
use Rattle.gl_tuples.specs.declared.fault.TupleFault.{TupleFault}
use Rattle.gl_tuples.specs.Flat.{BeatList, beats_in}
use Rattle.gl_tuples.specs.Gaps.{close_answer, first_close, plain_beats}
use Rattle.gl_tuples.proofs.Closeness.{heads_tell, keeps_is}
use Rattle.gl_tuples.proofs.beats.Beats.keep.Goals as goal

pub returns-clause-exact : goal.returns-clause-exact
returns-clause-exact c =
    let shape = c.self.inside.shape in
    let numbers = c.self.inside.numbers.items in
    c.kept.ensures ∙ ap close_answer (heads_tell c.args.gaps 0 0 shape numbers c.as_slice.result.now)
    ∙ ap (λ (bs : List Beat). close_answer (first_close c.args.gaps 0 0 bs)) (ap (beats_in shape numbers) c.as_slice.ensures.value ∙ ap (λ (b : BeatList). b.list) c.self.view_is)

pub returns-clause-keeps : goal.returns-clause-keeps
returns-clause-keeps c =
    let shape = c.self.inside.shape in
    let numbers = c.self.inside.numbers.items in
    let e : c.kept.result ≡ close_answer (first_close c.args.gaps 0 0 c.args.self.now.list) =
    c.kept.ensures ∙ ap close_answer (heads_tell c.args.gaps 0 0 shape numbers c.as_slice.result.now)
    ∙ ap (λ (bs : List Beat). close_answer (first_close c.args.gaps 0 0 bs)) (ap (beats_in shape numbers) c.as_slice.ensures.value ∙ ap (λ (b : BeatList). b.list) c.self.view_is) in
    subst (λ (r : Result (Unit {0}) TupleFault). IsOk r ↔ KeepsGaps c.args.gaps (plain_beats c.args.self.now)) (sym e) (keeps_is c.args.gaps c.args.self.now)
