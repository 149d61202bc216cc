use Rattle.std.proofs.Common.{inl, inr, sym, subst}
use Rattle.gl_outside.specs.States.{IsCalm, ShelfState}
use Rattle.gl_outside.proofs.Takes.{took_none}
use Rattle.gl_top_inputs.specs.Causes.{change}
use Rattle.gl_top.specs.Verdicts.{Refused}
use Rattle.gl_top.proofs.showing.answer_figures.Goals as goal

pub judge-requires-clause-wants : goal.judge-requires-clause-wants
judge-requires-clause-wants g c = inr c.requires.wants

pub show_figures-requires-clause-passes : goal.show_figures-requires-clause-passes
show_figures-requires-clause-passes g c = (_, c.in-Ok.ensures.passes)

pub returns-in-Ok : goal.returns-in-Ok
returns-in-Ok g c =
    c.show_figures.ensures.answer (change _ _) c.in-Ok.ensures.passes
    (subst (λ (s : ShelfState). IsCalm (g.S.Shelf.state c.args.desk.now.shelf) s) (sym c.show_figures.ensures.shelf) c.in-Ok.ensures.leaves)

pub returns-in-Err : goal.returns-in-Err
returns-in-Err g c = Refused (record {
  refusal = c.in-Err.refusal;
  cause = c.in-Err.ensures.leaves;
  untouched = took_none _;
  noted = c.tell.ensures;
  left = inl c.requires.empty;
})
