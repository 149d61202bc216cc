use Rattle.std.proofs.Common.{inl, sym, subst}
use Rattle.gl_outside.specs.States.{IsCalm, ShelfState}
use Rattle.gl_outside.proofs.Takes.{took_none}
use Rattle.gl_top_inputs.specs.Causes.{change}
use Rattle.gl_top.specs.Verdicts.{Refused}
use Rattle.gl_top.proofs.chain.answer_run.Goals as goal

pub keep_and_finish-requires-clause-passes : goal.keep_and_finish-requires-clause-passes
keep_and_finish-requires-clause-passes g c = (_, c.in-Ok.ensures.passes)

pub returns-in-Ok : goal.returns-in-Ok
returns-in-Ok g c =
    c.keep_and_finish.ensures.answer (change _ _) c.in-Ok.ensures.passes
    (subst (λ (s : ShelfState). IsCalm (g.S.Shelf.state c.args.desk.now.shelf) s) (sym c.keep_and_finish.ensures.shelf) c.in-Ok.ensures.leaves)

pub returns-in-Err : goal.returns-in-Err
returns-in-Err g c = Refused (record {
  refusal = c.in-Err.refusal;
  cause = c.in-Err.ensures.leaves;
  untouched = took_none _;
  noted = c.tell.ensures;
  left = inl c.requires.empty;
})
