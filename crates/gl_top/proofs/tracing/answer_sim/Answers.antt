use Rattle.std.proofs.Common.{inl, sym, subst}
use Rattle.gl_outside.specs.States.{IsCalm, ShelfState}
use Rattle.gl_outside.proofs.Takes.{took_none}
use Rattle.gl_top_inputs.specs.Causes.{change}
use Rattle.gl_top.specs.Verdicts.{Refused}
use Rattle.gl_top.proofs.tracing.answer_sim.Goals as goal

pub returns-in-Ok : goal.returns-in-Ok
returns-in-Ok g c =
    c.finish_trace.ensures.answer (change _ _) c.in-Ok.ensures.ready
    (subst (λ (s : ShelfState). IsCalm (g.S.Shelf.state c.args.desk.now.shelf) s) (sym c.finish_trace.ensures.shelf) c.in-Ok.ensures.leaves)

pub returns-in-Err : goal.returns-in-Err
returns-in-Err g c = Refused (record {
  refusal = c.in-Err.refusal;
  cause = c.in-Err.ensures.leaves;
  untouched = took_none _;
  noted = c.tell.ensures;
  left = inl c.requires.empty;
})
