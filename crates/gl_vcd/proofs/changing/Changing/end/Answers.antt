use Rattle.std.proofs.Common.{◌≡◌, true, false, Result, Err, refl, sym, ap, subst, ◌∙◌}
use Rattle.gl_vcd.specs.declared.fault.VcdFault.{VcdFault}
use Rattle.gl_vcd.specs.declared.changing.Waiting.{Waiting}
use Rattle.gl_vcd.specs.declared.changing.Waiting.TheVariants.{Change, Comment, Code}
use Rattle.gl_vcd.specs.Reading.{is_between}
use Rattle.gl_vcd.specs.Signals.{Dump}
use Rattle.gl_vcd.specs.Standing.{Ended, waiting_of}
use Rattle.gl_vcd.proofs.Kept.{ends_among}
use Rattle.gl_vcd.proofs.changing.Changing.end.Goals as goal

begun : (w : Waiting) → (w ≡ Change → ⊥) → is_between (waiting_of w) ≡ false
begun Change other = absurd (other refl)
begun Comment other = refl
begun (Code at digits) other = refl

pub returns-in-Change : goal.returns-in-Change
returns-in-Change c = λ r k.
    subst (λ (said : Result Dump VcdFault). Ended said c.end_time.result)
    (sym (ends_among r c.args.len true (ap is_between (k.stage' ∙ ap waiting_of c.in-Change.is)))) (c.end_time.ensures r k.holds)

pub returns-in_default : goal.returns-in_default
returns-in_default c = λ r k.
    ends_among r c.args.len false (ap is_between k.stage' ∙ begun c.args.self.now.waits c.in_default.not-Change) ∙ ap Err (sym c.syntax.ensures)
