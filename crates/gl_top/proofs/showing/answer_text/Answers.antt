use Rattle.std.proofs.Common.{List, ℕ, inl, sym, subst}
use Rattle.gl_outside.specs.States.{IsCalm, ShelfState}
use Rattle.gl_outside.proofs.Takes.{took_none}
use Rattle.gl_top_inputs.specs.Causes.{change}
use Rattle.gl_top.specs.Verdicts.{IsGiven, Refused}
use Rattle.gl_top.proofs.showing.answer_text.Goals as goal

pub judge-requires-clause-wants : goal.judge-requires-clause-wants
judge-requires-clause-wants g c = inl c.requires.wants

pub returns-in-Ok : goal.returns-in-Ok
returns-in-Ok g c =
    let ch = change (g.S.Shelf.state c.args.desk.now.shelf) (g.S.Shelf.state c.show_text.new.desk.shelf) in
    let shown : List ℕ → Type 0 = λ v. IsGiven ch.old.told c.args.words.now v v in
    c.show_text.ensures.answer ch (subst shown (sym c.text-verilog.ensures.same) (c.text-verilog.ensures.given _ _ c.in-Ok.ensures.passes c.requires.wants))
    (subst (λ (s : ShelfState). IsCalm (g.S.Shelf.state c.args.desk.now.shelf) s) (sym c.show_text.ensures.shelf) c.in-Ok.ensures.leaves)

pub returns-in-Err : goal.returns-in-Err
returns-in-Err g c = Refused (record {
  refusal = c.in-Err.refusal;
  cause = c.in-Err.ensures.leaves;
  untouched = took_none _;
  noted = c.tell.ensures;
  left = inl c.requires.empty;
})
