-- What is answered with the text that is left, and with what is written.
use Rattle.std.proofs.Common.{◌≡◌, ℕ, List, [], ◌++◌, sym, ap, subst, ◌∙◌}
use Rattle.gl_outside.specs.States.{IsCalm}
use Rattle.gl_top_status.specs.declared.status.Status.{Status}
use Rattle.gl_top_status.specs.Refusals.{Puts}
use Rattle.gl_top_status.specs.Written.{IsWritten, Whole, InPart}
use Rattle.gl_top_inputs.specs.Causes.{Change}
use Rattle.gl_top.specs.Calls.{Call}
use Rattle.gl_top.specs.Verdicts.{IsAnswer, IsGiven, Wrote, WroteCut}

pub kept_text : (old new got text : List ℕ) → old ≡ [] → got ≡ text → new ≡ old ++ got → text ≡ new
kept_text old new got text none e is = sym (is ∙ ap (λ (x : List ℕ). x ++ got) none ∙ e)

-- the call that leaves this text
abbrev pub leaving : List (List ℕ) → Change → Puts → Puts → Status → List ℕ → Call
leaving words shelf out notes status text = record { words = words; shelf = shelf; out = out; notes = notes; text = text; status = status }

pub answer_text : (words : List (List ℕ)) (c : Change) (out notes : Puts) (t u : List ℕ) (status : Status) → t ≡ u → IsAnswer (leaving words c out notes status t) → IsAnswer (leaving words c out notes status u)
answer_text words c out notes t u status e a = subst (λ (x : List ℕ). IsAnswer (leaving words c out notes status x)) e a

pub written : (words : List (List ℕ)) (c : Change) (out notes : Puts) (bytes text : List ℕ) (status : Status) → IsGiven c.old.told words bytes text → IsCalm c.old c.new → IsWritten bytes out notes status → IsAnswer (leaving words c out notes status text)
written words c out notes bytes text status given calm (Whole wrote silent done) =
    Wrote (record { bytes = bytes; given = given; wrote = wrote; silent = silent; calm = calm; done = done })
written words c out notes bytes text status given calm (InPart wrote noted) =
    WroteCut (record { bytes = bytes; given = given; wrote = wrote; calm = calm; noted = noted })
