use Rattle.std.proofs.Common.{inl, refl, sym, subst}
use Rattle.gl_outside.specs.States.{IsCalm, ShelfState}
use Rattle.gl_top_forms.proofs.Named.{why_names_query}
use Rattle.gl_top_inputs.specs.Causes.{HasCause, change}
use Rattle.gl_top.specs.Verdicts.{OfFine, OfQuery}
use Rattle.gl_top.proofs.asking.answer_why.Goals as goal

pub judge_compile-requires-clause-named : goal.judge_compile-requires-clause-named
judge_compile-requires-clause-named g c = why_names_query c.args.words.now (inl c.requires.asks)

pub tell_why-requires-clause-asks : goal.tell_why-requires-clause-asks
tell_why-requires-clause-asks g c = inl c.requires.asks

pub returns-in-Ok : goal.returns-in-Ok
returns-in-Ok g c =
    c.show_text.ensures.answer (change (g.S.Shelf.state c.args.desk.now.shelf) (g.S.Shelf.state c.show_text.new.desk.shelf)) (OfFine (OfQuery c.requires.asks _ _ c.in-Ok.ensures.passes) c.fine_text.ensures refl)
    (subst (λ (s : ShelfState). IsCalm (g.S.Shelf.state c.args.desk.now.shelf) s) (sym c.show_text.ensures.shelf) c.in-Ok.ensures.leaves)

pub returns : goal.returns
returns g c =
    c.tell_why.ensures.answer (change (g.S.Shelf.state c.args.desk.now.shelf) (g.S.Shelf.state c.tell_why.new.desk.shelf))
    (subst (λ (s : ShelfState). HasCause c.args.words.now (change (g.S.Shelf.state c.args.desk.now.shelf) s) c.in-Err.refusal) (sym c.tell_why.ensures.shelf) c.in-Err.ensures.leaves)
