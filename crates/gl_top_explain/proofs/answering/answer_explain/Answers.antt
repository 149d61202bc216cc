use Rattle.std.proofs.Common.{List, ℕ, subst, sym}
use Rattle.gl_outside.proofs.Takes.{took_none}
use Rattle.gl_top_explain.specs.Ending.{IsPlanText, Explained, Refused}
use Rattle.gl_top_explain.proofs.Plans.{explain_names_query}
use Rattle.gl_top_explain.proofs.answering.answer_explain.Goals as goal

pub explain_texts-requires-clause-named : goal.explain_texts-requires-clause-named
explain_texts-requires-clause-named g c = explain_names_query c.args.words.now c.requires.explains

pub returns-in-Ok : goal.returns-in-Ok
returns-in-Ok g c =
    let is : List ℕ → Type 0 = λ bytes. IsPlanText (g.S.Shelf.state c.args.shelf.now).told c.args.words.now bytes in
    Explained c.deref.result.now (subst is (sym c.deref.ensures.value) c.in-Ok.ensures.plan) c.in-Ok.ensures.leaves c.show.ensures

pub returns-in-Err : goal.returns-in-Err
returns-in-Err g c = Refused c.in-Err.refusal c.in-Err.ensures.leaves (took_none _) c.tell.ensures
