use Rattle.std.proofs.Common.{List, ℕ, subst}
use Rattle.gl_tuple_reader.specs.Entries.{Fails}
use Rattle.gl_top_forms.specs.declared.command.Part.TheVariants.{Tuples}
use Rattle.gl_top_inputs.specs.Causes.{change}
use Rattle.gl_top_inputs.specs.Passing.{kept_beats}
use Rattle.gl_top_inputs.proofs.Changes.{handed_on}
use Rattle.gl_top_inputs.proofs.Texts.{asks_before, asks_named, tuples_cause, unfetched_cause}
use Rattle.gl_top_inputs.proofs.judging.judge_tuples.Goals as goal

pub fetch-requires-clause-named : goal.fetch-requires-clause-named
fetch-requires-clause-named g c = asks_named (g.S.Shelf.state c.args.shelf.now).told c.args.words.now c.args.schema.now c.args.gaps c.requires.asks

pub returns-in_err-text-clause-leaves : goal.returns-in_err-text-clause-leaves
returns-in_err-text-clause-leaves g c =
    let ch = change (g.S.Shelf.state c.args.shelf.now) (g.S.Shelf.state c.fetch.new.shelf) in
    handed_on c.args.words.now _ _ c.from_residual.result _ c.from_residual.ensures.1
    (unfetched_cause c.args.words.now ch Tuples _ (asks_before ch.old.told c.args.words.now c.args.schema.now c.args.gaps c.requires.asks) c.in_err-text.ensures.leaves)

pub returns-in-Err-clause-leaves : goal.returns-in-Err-clause-leaves
returns-in-Err-clause-leaves g c =
    let ch = change (g.S.Shelf.state c.args.shelf.now) (g.S.Shelf.state c.fetch.new.shelf) in
    let fails = subst (λ (v : List ℕ). Fails c.in-Err.fault (kept_beats c.args.schema.now c.args.gaps v)) c.deref.ensures.value c.in-Err.ensures.exact in
    rw c.from.ensures (tuples_cause c.args.words.now ch c.in_ok-text.text.items c.args.schema.now c.args.gaps c.in-Err.fault c.requires.asks c.in_ok-text.ensures.leaves c.in_ok-text.ensures.text fails)
