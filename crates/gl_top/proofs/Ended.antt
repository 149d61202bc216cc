-- How what a command ran ended: what failed, that its texts pass, and what text is left.
use Rattle.std.proofs.Common.{◌≡◌, ℕ, List, [], inl, inr, sym, subst}
use Rattle.gl_outside.specs.Counts.{Rose}
use Rattle.gl_outside.specs.States.{SinkState, Took}
use Rattle.gl_outside.specs.Told.{Told}
use Rattle.gl_outside.proofs.Takes.{took_none}
use Rattle.gl_runner.specs.declared.executing.Outcome.{Outcome}
use Rattle.gl_runner.specs.declared.executing.Outcome.TheVariants as outcome
use Rattle.gl_top_forms.specs.declared.command.Command.TheVariants.{ManyRun, Run, Vcd}
use Rattle.gl_top_forms.specs.Forms.{IsForm}
use Rattle.gl_top_forms.proofs.Named.{form_of}
use Rattle.gl_top.specs.Verdicts.{AllPass, IsNoneOrEmitted, IsRun, OfResult, OfNamedLines, OfPorts, Three, ThreeOfAll}

module _ (told : List ℕ → Told) (words : List (List ℕ)) (text : List ℕ) (old new : SinkState) where
  pub nothing_failed : IsRun told words text old new outcome.Done → new.faults ≡ old.faults
  nothing_failed (OfResult is schema statement beats emitted wrote) = wrote.0
  nothing_failed (OfNamedLines is schema statements beats emitted wrote) = wrote.0
  nothing_failed (OfPorts is schema statement beats emitted wrote tells) = wrote.0

  pub sink_failed : IsRun told words text old new outcome.WriteFault → Rose old.faults new.faults
  sink_failed (OfResult is schema statement beats emitted wrote) = wrote.0
  sink_failed (OfNamedLines is schema statements beats emitted wrote) = wrote.0
  sink_failed (OfPorts is schema statement beats emitted wrote tells) = wrote.0

  same_sink : IsRun told words text old new outcome.Memory → new ≡ old
  same_sink (OfResult is schema statement beats emitted wrote) = wrote
  same_sink (OfNamedLines is schema statements beats emitted wrote) = wrote
  same_sink (OfPorts is schema statement beats emitted wrote tells) = wrote

  pub nothing_written : IsRun told words text old new outcome.Memory → Took old new []
  nothing_written run = subst (λ (s : SinkState). Took old s []) (sym (same_sink run)) (took_none old)

  pub texts_pass : (ended : Outcome) → IsRun told words text old new ended → AllPass told words
  texts_pass ended (OfResult is schema statement beats emitted wrote) = Three schema statement beats emitted.passes
  texts_pass ended (OfNamedLines is schema statements beats emitted wrote) = ThreeOfAll schema statements beats emitted.passes
  texts_pass ended (OfPorts is schema statement beats emitted wrote tells) = Three schema statement beats emitted.passes

  pub run_form : (ended : Outcome) → IsRun told words text old new ended → IsForm words
  run_form ended (OfResult is schema statement beats emitted wrote) = form_of words Run is
  run_form ended (OfNamedLines is schema statements beats emitted wrote) = form_of words ManyRun is
  run_form ended (OfPorts is schema statement beats emitted wrote tells) = form_of words Vcd is

  pub run_left : (ended : Outcome) → IsRun told words text old new ended → IsNoneOrEmitted told words text
  run_left ended (OfResult is schema statement beats emitted wrote) = inr (inl (schema, statement, beats, emitted))
  run_left ended (OfNamedLines is schema statements beats emitted wrote) = inr (inr (schema, statements, beats, emitted))
  run_left ended (OfPorts is schema statement beats emitted wrote tells) = inr (inl (schema, statement, beats, emitted))

-- the text that a run leaves is the one that was kept
pub run_of_kept : (told : List ℕ → Told) (words : List (List ℕ)) (t u : List ℕ) (old new : SinkState) (ended : Outcome) → t ≡ u → IsRun told words t old new ended → IsRun told words u old new ended
run_of_kept told words t u old new ended e run = subst (λ (x : List ℕ). IsRun told words x old new ended) e run
