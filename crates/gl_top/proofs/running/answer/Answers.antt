use Rattle.std.proofs.Common.{inl, sym, ◌∙◌}
use Rattle.gl_outside.proofs.Counting.{calm_none}
use Rattle.gl_outside.proofs.Takes.{took_none}
use Rattle.gl_top_status.specs.declared.refusal.Refusal.TheVariants as refusal
use Rattle.gl_top.specs.Verdicts.{Refused}
use Rattle.gl_top_inputs.proofs.Texts.{no_form}
use Rattle.gl_top.proofs.running.answer.Goals as goal

pub returns-in-None : goal.returns-in-None
returns-in-None g c = Refused (record {
  refusal = refusal.Usage;
  cause = (no_form c.args.words.now (sym c.command_of.ensures ∙ c.in-None.is), calm_none _);
  untouched = took_none _;
  noted = c.tell_words-in-None.ensures;
  left = inl c.requires.empty;
})

pub returns-in-Err : goal.returns-in-Err
returns-in-Err g c = Refused (record {
  refusal = refusal.Memory;
  cause = calm_none _;
  untouched = took_none _;
  noted = c.tell_words.ensures;
  left = inl c.requires.empty;
})
