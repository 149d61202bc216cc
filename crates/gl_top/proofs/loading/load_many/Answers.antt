use Rattle.std.proofs.Common.{List, ℕ, inl, sym, subst}
use Rattle.gl_outside.proofs.Takes.{took_none}
use Rattle.gl_load.specs.Loads.{IsLoad}
use Rattle.gl_top_status.specs.declared.refusal.Refusal.TheVariants as refusal
use Rattle.gl_top.specs.Verdicts.{IsGiven, Refused, OfLoad}
use Rattle.gl_top.proofs.loading.load_many.Goals as goal

pub returns-in-Ok-clause-answer : goal.returns-in-Ok-clause-answer
returns-in-Ok-clause-answer g c = λ ch calm.
    let told : List ℕ → Type 0 = λ bytes. IsLoad c.args.count bytes c.in-Ok.loaded.compiled.text.items in
    c.show_text.ensures.answer ch
    (subst (IsGiven ch.old.told c.args.words.now c.deref.result.now) (sym c.text-verilog.ensures) (OfLoad (record {
      count = c.args.count;
      is = c.requires.many;
      load = subst told (sym c.deref.ensures.value) c.in-Ok.ensures;
    })))
    calm

pub returns-in-Err-clause-answer : goal.returns-in-Err-clause-answer
returns-in-Err-clause-answer g c = λ ch calm. Refused (record {
  refusal = refusal.Memory;
  cause = calm;
  untouched = took_none _;
  noted = c.tell.ensures;
  left = inl c.requires.empty;
})
