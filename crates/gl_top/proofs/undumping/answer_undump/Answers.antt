use Rattle.std.proofs.Common.{◌≡◌, ℕ, List, inl, sym, subst}
use Rattle.gl_outside.specs.States.{IsCalm, ShelfState}
use Rattle.gl_outside.proofs.Takes.{took_none}
use Rattle.gl_top_forms.specs.declared.command.Part.TheVariants as part
use Rattle.gl_top_status.specs.Texts.{HasText}
use Rattle.gl_top_inputs.specs.Causes.{change}
use Rattle.gl_top_inputs.proofs.Texts.{unfetched_cause}
use Rattle.gl_top.specs.Verdicts.{Refused}
use Rattle.gl_top.proofs.Dumps.{undump_names}
use Rattle.gl_top.proofs.undumping.answer_undump.Goals as goal

pub fetch-requires-clause-named : goal.fetch-requires-clause-named
fetch-requires-clause-named g c = undump_names c.args.words.now c.requires.undumps

pub returns-in-Ok : goal.returns-in-Ok
returns-in-Ok g c =
    let told = (g.S.Shelf.state c.args.desk.now.shelf).told in
    let has = subst (λ (v : List ℕ). HasText told c.args.words.now part.Dump (λ text. v ≡ text)) (sym c.deref.ensures.value) c.in-Ok.ensures.text in
    c.show_dump.ensures.answer (change _ _) has
    (subst (λ (s : ShelfState). IsCalm (g.S.Shelf.state c.args.desk.now.shelf) s) (sym c.show_dump.ensures.shelf) c.in-Ok.ensures.leaves)

pub returns-in-Err : goal.returns-in-Err
returns-in-Err g c =
    let ch = change (g.S.Shelf.state c.args.desk.now.shelf) (g.S.Shelf.state c.fetch.new.shelf) in
    Refused (record {
      refusal = c.in-Err.refusal;
      cause = unfetched_cause c.args.words.now ch part.Dump _ (undump_names c.args.words.now c.requires.undumps) c.in-Err.ensures.leaves;
      untouched = took_none _;
      noted = c.tell.ensures;
      left = inl c.requires.empty;
    })
