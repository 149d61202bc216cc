use Rattle.std.proofs.Common.{inl, refl, ◌∙◌}
use Rattle.gl_outside.proofs.Takes.{took_none}
use Rattle.gl_top.specs.Verdicts.{Refused}
use Rattle.gl_top_status.specs.declared.refusal.Refusal.TheVariants as refusal
use Rattle.gl_top.proofs.Answering.{answer_text, kept_text, written}
use Rattle.gl_top.proofs.showing.show_text.Goals as goal

pub returns-in-Ok-clause-answer : goal.returns-in-Ok-clause-answer
returns-in-Ok-clause-answer g c = λ ch given calm.
    let kept = kept_text c.args.desk.now.text.items c.extend_from_slice.new.self.items c.args.verilog.now c.args.verilog.now c.requires.empty refl c.in-Ok.ensures.items in
    answer_text _ _ _ _ _ _ _ kept (written c.args.words.now ch _ _ c.args.bytes.now c.args.verilog.now _ given calm c.show.ensures)

pub returns-in-Err-clause-answer : goal.returns-in-Err-clause-answer
returns-in-Err-clause-answer g c = λ ch given calm. Refused (record {
  refusal = refusal.Memory;
  cause = calm;
  untouched = took_none _;
  noted = c.tell.ensures;
  left = inl (c.in-Err.ensures.items ∙ c.requires.empty);
})
