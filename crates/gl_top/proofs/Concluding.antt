-- What each status says.
use Rattle.std.proofs.Common.{◌≡◌, ◌≢◌, ◌⊎◌, ℕ, List, [], ◌++◌, refl, sym, ap, subst, ◌∙◌, inl, inr}
use Rattle.gl_outside.specs.Counts.{Rose}
use Rattle.gl_schema.specs.declared.schema.Schema.{Schema}
use Rattle.gl_top_status.specs.declared.refusal.Refusal.{Refusal}
use Rattle.gl_top_status.specs.declared.refusal.Refusal.TheVariants as refusal
use Rattle.gl_top_status.specs.declared.status.Status.{Status}
use Rattle.gl_top_status.specs.declared.status.Status.TheVariants as status
use Rattle.gl_outside.specs.Told.{Told}
use Rattle.gl_top_forms.specs.declared.command.Command.{Command}
use Rattle.gl_top_forms.specs.declared.command.Command.TheVariants.{Load, ManyRun, Run, Sim, Undump, Vcd, Version, WhyRun}
use Rattle.gl_top_forms.specs.declared.command.Part.{Part}
use Rattle.gl_top_forms.specs.declared.command.Part.TheVariants as part
use Rattle.gl_top_forms.specs.Forms.{IsCommand, IsForm, IsOfRun, IsOfWhy, extra_of}
use Rattle.gl_top_forms.proofs.Named.{form_of, help_form, named_form, one_command, why_names_query}
use Rattle.gl_outside.specs.States.{IsCalm, Took}
use Rattle.gl_verilog.specs.declared.start.Start.TheVariants.{Zero}
use Rattle.gl_tuples.specs.Flat.{BeatList}
use Rattle.gl_tuples.specs.Gaps.{plain_beats}
use Rattle.gl_verilog.specs.Module.{Module}
use Rattle.gl_runner.specs.declared.executing.Outcome.TheVariants as outcome
use Rattle.gl_runner.specs.declared.tracing.Ending.{Ending}
use Rattle.gl_runner.specs.declared.tracing.Ending.TheVariants as end
use Rattle.gl_runner.specs.Prints.{HasRunOver}
use Rattle.gl_runner.specs.Traces.{OfRunsOf, decimal_kinds}
use Rattle.gl_runner.specs.Traces as traces
use Rattle.gl_top_inputs.specs.Below.{LawsBelow}
use Rattle.gl_top_inputs.specs.Passing.{FilePasses}
use Rattle.gl_top_status.specs.Refusals.{Puts, Notes, status_of, note_of, no_end_line, write_line}
use Rattle.gl_top_status.specs.Written.{IsTold, ToldInPart, ToldWhole}
use Rattle.gl_top_inputs.specs.Causes.{Change, HasCause, IsNext, IsRefused}
use Rattle.gl_top.specs.Shown.{AreShownOf, IsShownOf, Shows, ShowsAll}
use Rattle.gl_top.specs.Calls.{Call}
use Rattle.gl_top.specs.Verdicts.{AllPass, OfFile, Two, TwoOfAll, Completes, Whole, NoMemory, Endless, IsAnswer, Explained, RanWhole, RanCut, Traced, Wrote, WroteCut, Refused, IsEndless, IsComplete, IsGiven, OfDump, OfFine, OfHelp, OfLoad, OfQueries, OfTexts, OfVersion, IsTelling, TellsEnding, TellsFaults, TellsForm, Yields, Same, ToOutput, ToRead, ToWrite, ToMemory, IsFaultless, Says, SaysBy, TellsLine, TellsRefusal}
use Rattle.gl_top_inputs.proofs.Texts.{next_form}
use Rattle.gl_top.proofs.Stopping.{Stops, stops}
use Rattle.gl_top.proofs.Passed.{dump_goes, fine_form, fine_passes, help_goes, load_goes, passes_goes, version_goes}
use Rattle.gl_top.proofs.Deciding.{formed, one_refusal}
use Rattle.gl_top.proofs.Ended.{nothing_failed, run_form, sink_failed, texts_pass}

noted_write : (own answered : Status) (line : List ℕ) (notes : Puts) → own ≡ status.WriteFault → Notes own line notes answered → answered ≡ status.WriteFault
noted_write own answered line notes e (inl n) = n.0 ∙ e
noted_write own answered line notes e (inr n) = n.0

-- what there is of a refusal's cause: the words and the texts are refused so, a read failed, or memory ran out
data IsCaused (words : List (List ℕ)) (c : Change) (r : Refusal) : Type 0 where
  Judged : (is : IsRefused c.old.told words r) → IsCaused words c r
  Unread : (part : Part) (next : IsNext c.old.told words part) (rose : Rose c.old.faults c.new.faults) (is : status_of r ≡ status.ReadFault) → IsCaused words c r
  Short : (is : status_of r ≡ status.Memory) → IsCaused words c r

caused : (words : List (List ℕ)) (c : Change) (r : Refusal) → HasCause words c r → IsCaused words c r
caused words c refusal.Usage h = Judged h.0
caused words c (refusal.Missing p) h = Judged h.0
caused words c (refusal.ReadFault p) h = Unread p h.0 h.1.faults refl
caused words c (refusal.TooLong p) h = Judged h.0
caused words c (refusal.Schema f) h = Judged h.0
caused words c (refusal.Query f) h = Judged h.0
caused words c (refusal.Limit l) h = Judged h.0
caused words c (refusal.Verilog f) h = Judged h.0
caused words c (refusal.Tuples f) h = Judged h.0
caused words c (refusal.Dump f) h = Judged h.0
caused words c refusal.Memory h = Short refl

-- the statuses of what the words and the texts are refused for
abbrev IsJudged : Status → Type 0
IsJudged status.Done = ⊥
IsJudged status.ReadFault = ⊥
IsJudged status.WriteFault = ⊥
IsJudged status.Memory = ⊥
IsJudged status.NoEnd = ⊥
IsJudged _ = Unit {0}

judged : (told : List ℕ → Told) (words : List (List ℕ)) (r : Refusal) → IsRefused told words r → IsJudged (status_of r)
judged told words refusal.Usage h = tt
judged told words (refusal.Missing p) h = tt
judged told words (refusal.ReadFault p) h = h
judged told words (refusal.TooLong p) h = tt
judged told words (refusal.Schema f) h = tt
judged told words (refusal.Query f) h = tt
judged told words (refusal.Limit l) h = tt
judged told words (refusal.Verilog f) h = tt
judged told words (refusal.Tuples f) h = tt
judged told words (refusal.Dump f) h = tt
judged told words refusal.Memory h = h

-- what a refusal says
of_refusal : (call : Call) (r : Refusal) → HasCause call.words call.shelf r → SaysBy (status_of r) call
of_refusal call refusal.Usage h = h.0
of_refusal call (refusal.Missing p) h = (p, h)
of_refusal call (refusal.ReadFault p) h = (p, h)
of_refusal call (refusal.TooLong p) h = inl (p, h.0)
of_refusal call (refusal.Schema f) h = (f, h.0)
of_refusal call (refusal.Query f) h = (f, h.0)
of_refusal call (refusal.Limit l) h = inr (l, h.0)
of_refusal call (refusal.Verilog f) h = (f, h.0)
of_refusal call (refusal.Tuples f) h = (f, h.0)
of_refusal call (refusal.Dump f) h = (f, h.0)
of_refusal call refusal.Memory h = tt

says_noted : (call : Call) (own : Status) (line : List ℕ) → SaysBy own call → Notes own line call.notes call.status → Says call
says_noted call own line h (inl n) = subst (λ (s : Status). SaysBy s call) (sym n.0) h
says_noted call own line h (inr n) = subst (λ (s : Status). SaysBy s call) (sym n.0) (inr n.1.cause)

-- what is said where `why` told it
says_told : (call : Call) (r : Refusal) → SaysBy (status_of r) call → IsTold (status_of r) (note_of call.words r) call.out call.notes call.status → Says call
says_told call r h (ToldWhole rest wrote silent is) = subst (λ (s : Status). SaysBy s call) (sym is) h
says_told call r h (ToldInPart rest wrote noted) = says_noted call status.WriteFault write_line (inl wrote.cause) noted

-- ---- of a trace

-- how it ended is told by one of three statuses
ending_status : (ending : Ending) (notes : Puts) (answered : Status) → TellsEnding ending notes answered → (answered ≡ status.Done) ⊎ ((answered ≡ status.WriteFault) ⊎ (answered ≡ status.NoEnd))
ending_status end.Done notes answered h = inl h.0
ending_status (end.NoEnd cycle) notes answered (inl n) = inr (inr n.0)
ending_status (end.NoEnd cycle) notes answered (inr n) = inr (inl n.0)
ending_status end.WriteFault notes answered h = inr (inl (noted_write status.WriteFault answered write_line notes refl h))
ending_status end.Memory notes answered h = absurd h

module _ (call : Call) (schema : Schema) (design : Module) (beats : BeatList) (passes : FilePasses call.shelf.old.told call.words schema design beats)
    (run : HasRunOver design schema (plain_beats beats) Zero) (calm : IsCalm call.shelf.old call.shelf.new) where
  abbrev IsSo : Ending → Type 0
  IsSo ending = traces.Traced (OfRunsOf design schema (plain_beats beats) Zero) (decimal_kinds design) (plain_beats beats) (extra_of call.words) call.out.old call.out.new ending

  endless : (cycle : ℕ) → IsSo (end.NoEnd cycle) → Took call.notes.old call.notes.new (no_end_line cycle) → IsEndless call
  endless cycle h took = record {
    schema = schema;
    design = design;
    beats = beats;
    passes = passes;
    run = run;
    cycle = cycle;
    traced = h.1;
    noted = took;
    calm = calm;
    whole = h.0;
  }

  trace_says : (ending : Ending) → IsSo ending → TellsEnding ending call.notes call.status → Says call
  trace_says end.Done h t = subst (λ (s : Status). SaysBy s call) (sym t.0) (calm, h.0, t.1)
  trace_says (end.NoEnd cycle) h (inl n) = subst (λ (s : Status). SaysBy s call) (sym n.0) (endless cycle h n.1)
  trace_says (end.NoEnd cycle) h (inr n) = subst (λ (s : Status). SaysBy s call) (sym n.0) (inr n.1.cause)
  trace_says end.WriteFault h t = says_noted call status.WriteFault write_line (inl h.0) t
  trace_says end.Memory h t = absurd t

  trace_completes : (ending : Ending) → IsFaultless call → IsSo ending → TellsEnding ending call.notes call.status → Completes call
  trace_completes end.Done fine h t = Whole t.0
  trace_completes (end.NoEnd cycle) fine h (inl n) = Endless n.0 (endless cycle h n.1)
  trace_completes (end.NoEnd cycle) fine h (inr n) = absurd (fine.notes n.1.cause)
  trace_completes end.WriteFault fine h t = absurd (fine.out h.0)
  trace_completes end.Memory fine h t = absurd t

-- ---- of each answer

pub when_says : (call : Call) → IsAnswer call → Says call
when_says call (RanWhole d) = subst (λ (s : Status). SaysBy s call) (sym d.done) (d.calm, nothing_failed call.shelf.old.told call.words call.text call.out.old call.out.new d.run, d.silent)
when_says call (RanCut d) = says_noted call status.WriteFault write_line (inl (sink_failed call.shelf.old.told call.words call.text call.out.old call.out.new d.run)) d.noted
when_says call (Traced d) = trace_says call d.schema d.design d.beats d.passes d.run d.calm d.ending d.traced d.tells
when_says call (Wrote d) = subst (λ (s : Status). SaysBy s call) (sym d.done) (d.calm, d.wrote.calm, d.silent)
when_says call (WroteCut d) = says_noted call status.WriteFault write_line (inl d.wrote.cause) d.noted
when_says call (Explained d) = says_told call d.refusal (of_refusal call d.refusal d.cause) d.told
when_says call (Refused d) = says_noted call (status_of d.refusal) (note_of call.words d.refusal) (of_refusal call d.refusal d.cause) d.noted

-- with the status of what the words and the texts are refused for, its line is noted
told_by : LawsBelow → (words : List (List ℕ)) (c : Change) (notes : Puts) (answered : Status) (r : Refusal) → IsTelling c.old.told words → IsRefused c.old.told words r → answered ≡ status_of r
    → (s : Refusal) → IsCaused words c s → Notes (status_of s) (note_of words s) notes answered → Took notes.old notes.new (note_of words r)
told_by laws words c notes answered r tells is e s cause (inr n) = absurd (subst IsJudged (sym e ∙ n.0) (judged c.old.told words r is))
told_by laws words c notes answered r tells is e s (Judged h) (inl n) =
    let same : s ≡ r = one_refusal laws c.old.told words s r tells h is in subst (λ (x : Refusal). Took notes.old notes.new (note_of words x)) same n.1
told_by laws words c notes answered r tells is e s (Unread p next rose own) (inl n) = absurd (subst IsJudged (sym e ∙ n.0 ∙ own) (judged c.old.told words r is))
told_by laws words c notes answered r tells is e s (Short own) (inl n) = absurd (subst IsJudged (sym e ∙ n.0 ∙ own) (judged c.old.told words r is))

-- no other status is one of these
ending_other : (told : List ℕ → Told) (words : List (List ℕ)) (r : Refusal) (ending : Ending) (notes : Puts) (answered : Status) → IsRefused told words r → answered ≡ status_of r → TellsEnding ending notes answered → ⊥
ending_other told words r ending notes answered is e h = elim (ending_status ending notes answered h) [
  | inl d ↦ subst IsJudged (sym e ∙ d) (judged told words r is)
  | inr (inl w) ↦ subst IsJudged (sym e ∙ w) (judged told words r is)
  | inr (inr n) ↦ subst IsJudged (sym e ∙ n) (judged told words r is)
]

broken_other : (told : List ℕ → Told) (words : List (List ℕ)) (r : Refusal) (notes : Puts) (answered : Status) → IsRefused told words r → answered ≡ status_of r → Notes status.WriteFault write_line notes answered → ⊥
broken_other told words r notes answered is e n = subst IsJudged (sym e ∙ noted_write status.WriteFault answered write_line notes refl n) (judged told words r is)

told_why : LawsBelow → (call : Call) (r : Refusal) → IsTelling call.shelf.old.told call.words → IsRefused call.shelf.old.told call.words r → call.status ≡ status_of r → IsOfWhy call.words
    → (s : Refusal) → IsCaused call.words call.shelf s → IsTold (status_of s) (note_of call.words s) call.out call.notes call.status → TellsLine call (note_of call.words r)
told_why laws call r tells is e asks s cause (ToldInPart rest wrote noted) = absurd (broken_other call.shelf.old.told call.words r call.notes call.status is e noted)
told_why laws call r tells is e asks s (Judged h) (ToldWhole rest wrote silent own) =
    let same : s ≡ r = one_refusal laws call.shelf.old.told call.words s r tells h is in
    inr (asks, (rest, subst (λ (x : Refusal). Took call.out.old call.out.new (note_of call.words x ++ rest)) same wrote), silent)
told_why laws call r tells is e asks s (Unread p next rose at) (ToldWhole rest wrote silent own) = absurd (subst IsJudged (sym e ∙ own ∙ at) (judged call.shelf.old.told call.words r is))
told_why laws call r tells is e asks s (Short at) (ToldWhole rest wrote silent own) = absurd (subst IsJudged (sym e ∙ own ∙ at) (judged call.shelf.old.told call.words r is))

pub when_told : LawsBelow → (call : Call) → IsAnswer call → TellsRefusal call
when_told laws call (RanWhole d) r tells is e = absurd (subst IsJudged (sym e ∙ d.done) (judged call.shelf.old.told call.words r is))
when_told laws call (RanCut d) r tells is e = absurd (broken_other call.shelf.old.told call.words r call.notes call.status is e d.noted)
when_told laws call (Traced d) r tells is e = absurd (ending_other call.shelf.old.told call.words r d.ending call.notes call.status is e d.tells)
when_told laws call (Wrote d) r tells is e = absurd (subst IsJudged (sym e ∙ d.done) (judged call.shelf.old.told call.words r is))
when_told laws call (WroteCut d) r tells is e = absurd (broken_other call.shelf.old.told call.words r call.notes call.status is e d.noted)
when_told laws call (Explained d) r tells is e = told_why laws call r tells is e d.asks d.refusal (caused call.words call.shelf d.refusal d.cause) d.told
when_told laws call (Refused d) r tells is e = inl (told_by laws call.words call.shelf call.notes call.status r tells is e d.refusal (caused call.words call.shelf d.refusal d.cause) d.noted)

-- nothing is written but by a run, and by `why`
pub when_untouched : (call : Call) → IsAnswer call → call.status ≢ status.Done → call.status ≢ status.WriteFault → call.status ≢ status.NoEnd → (IsOfWhy call.words → ⊥) → Took call.out.old call.out.new []
when_untouched call (RanWhole d) nd nw ne unasked = absurd (nd d.done)
when_untouched call (RanCut d) nd nw ne unasked = absurd (nw (noted_write status.WriteFault call.status write_line call.notes refl d.noted))
when_untouched call (Traced d) nd nw ne unasked = elim (ending_status d.ending call.notes call.status d.tells) [ inl e ↦ absurd (nd e) | inr (inl e) ↦ absurd (nw e) | inr (inr e) ↦ absurd (ne e) ]
when_untouched call (Wrote d) nd nw ne unasked = absurd (nd d.done)
when_untouched call (WroteCut d) nd nw ne unasked = absurd (nw (noted_write status.WriteFault call.status write_line call.notes refl d.noted))
when_untouched call (Explained d) nd nw ne unasked = absurd (unasked d.asks)
when_untouched call (Refused d) nd nw ne unasked = d.untouched

-- a command that shows something does not run
shown_no_run : (told : List ℕ → Told) (words : List (List ℕ)) (bytes text : List ℕ) → IsShownOf told words bytes text → IsOfRun words → ⊥
shown_no_run told words bytes text d (inl runs) = subst (λ (c : Command). Shows c d.schema d.statement bytes text) (one_command words d.command Run d.is runs) d.shows
shown_no_run told words bytes text d (inr (inr asks)) = subst (λ (c : Command). Shows c d.schema d.statement bytes text) (one_command words d.command WhyRun d.is asks) d.shows
shown_no_run told words bytes text d (inr (inl dumps)) = subst (λ (c : Command). Shows c d.schema d.statement bytes text) (one_command words d.command Vcd d.is dumps) d.shows

shown_no_run_of_all : (told : List ℕ → Told) (words : List (List ℕ)) (bytes text : List ℕ) → AreShownOf told words bytes text → IsCommand words ManyRun → ⊥
shown_no_run_of_all told words bytes text d runs = subst (λ (c : Command). ShowsAll c d.schema d.statements bytes text) (one_command words d.command ManyRun d.is runs) d.shows

-- what the status yields to, where a refusal was noted
by_cause : LawsBelow → (call : Call) (r : Refusal) → IsTelling call.shelf.old.told call.words → IsRefused call.shelf.old.told call.words r → (s : Refusal) → IsCaused call.words call.shelf s
    → Notes (status_of s) (note_of call.words s) call.notes call.status → Yields (status_of r) call
by_cause laws call r tells is s cause (inr n) = ToWrite n.0 n.1.cause
by_cause laws call r tells is s (Judged h) (inl n) = Same (n.0 ∙ ap status_of (one_refusal laws call.shelf.old.told call.words s r tells h is))
by_cause laws call r tells is s (Unread p next rose own) (inl n) = ToRead (n.0 ∙ own) rose
by_cause laws call r tells is s (Short own) (inl n) = ToMemory (n.0 ∙ own)

-- and where `why` told it
by_told : LawsBelow → (call : Call) (r : Refusal) → IsTelling call.shelf.old.told call.words → IsRefused call.shelf.old.told call.words r → IsOfWhy call.words → (s : Refusal)
    → IsCaused call.words call.shelf s → IsTold (status_of s) (note_of call.words s) call.out call.notes call.status → Yields (status_of r) call
by_told laws call r tells is asks s cause (ToldInPart rest wrote noted) = ToOutput asks (noted_write status.WriteFault call.status write_line call.notes refl noted) wrote.cause
by_told laws call r tells is asks s (Judged h) (ToldWhole rest wrote silent own) = Same (own ∙ ap status_of (one_refusal laws call.shelf.old.told call.words s r tells h is))
by_told laws call r tells is asks s (Unread p next rose at) (ToldWhole rest wrote silent own) = ToRead (own ∙ at) rose
by_told laws call r tells is asks s (Short at) (ToldWhole rest wrote silent own) = ToMemory (own ∙ at)

-- what is shown was not refused
shown_goes : LawsBelow → (told : List ℕ → Told) (words : List (List ℕ)) (bytes text : List ℕ) (a : Refusal) → IsTelling told words → IsGiven told words bytes text → Stops told words a → ⊥
shown_goes laws told words bytes text a tells (OfLoad d) h = load_goes told words d.count a d.is h
shown_goes laws told words bytes text a tells (OfDump d left) h = dump_goes told words bytes a tells d h
shown_goes laws told words bytes text a tells (OfFine fine shown left) h = passes_goes laws told words a tells (fine_passes told words fine) h
shown_goes laws told words bytes text a tells (OfHelp is shown left) h = help_goes told words a is h
shown_goes laws told words bytes text a tells (OfVersion is shown left) h = version_goes told words a is h
shown_goes laws told words bytes text a tells (OfTexts d) h = passes_goes laws told words a tells (Two d.schema d.statement d.passes (shown_no_run told words bytes text d)) h
shown_goes laws told words bytes text a tells (OfQueries d) h = passes_goes laws told words a tells (TwoOfAll d.schema d.statements d.passes (shown_no_run_of_all told words bytes text d)) h

pub when_refused : LawsBelow → (call : Call) → IsAnswer call → TellsFaults call
when_refused laws call (RanWhole d) r tells h = absurd (passes_goes laws call.shelf.old.told call.words r tells (texts_pass call.shelf.old.told call.words call.text call.out.old call.out.new outcome.Done d.run) (stops call.shelf.old.told call.words r h))
when_refused laws call (RanCut d) r tells h = absurd (passes_goes laws call.shelf.old.told call.words r tells (texts_pass call.shelf.old.told call.words call.text call.out.old call.out.new outcome.WriteFault d.run) (stops call.shelf.old.told call.words r h))
when_refused laws call (Traced d) r tells h = absurd (passes_goes laws call.shelf.old.told call.words r tells (OfFile d.schema d.design d.beats d.passes) (stops call.shelf.old.told call.words r h))
when_refused laws call (Wrote d) r tells h = absurd (shown_goes laws call.shelf.old.told call.words d.bytes call.text r tells d.given (stops call.shelf.old.told call.words r h))
when_refused laws call (WroteCut d) r tells h = absurd (shown_goes laws call.shelf.old.told call.words d.bytes call.text r tells d.given (stops call.shelf.old.told call.words r h))
when_refused laws call (Explained d) r tells h = by_told laws call r tells h d.asks d.refusal (caused call.words call.shelf d.refusal d.cause) d.told
when_refused laws call (Refused d) r tells h = by_cause laws call r tells h d.refusal (caused call.words call.shelf d.refusal d.cause) d.noted

by_calm : LawsBelow → (call : Call) → IsTelling call.shelf.old.told call.words → AllPass call.shelf.old.told call.words → IsFaultless call → (s : Refusal) → IsCaused call.words call.shelf s
    → Notes (status_of s) (note_of call.words s) call.notes call.status → Completes call
by_calm laws call tells pass calm s cause (inr n) = absurd (calm.notes n.1.cause)
by_calm laws call tells pass calm s (Judged h) (inl n) = absurd (passes_goes laws call.shelf.old.told call.words s tells pass (stops call.shelf.old.told call.words s h))
by_calm laws call tells pass calm s (Unread p next rose own) (inl n) = absurd (calm.shelf rose)
by_calm laws call tells pass calm s (Short own) (inl n) = NoMemory (n.0 ∙ own)

calm_told : LawsBelow → (call : Call) → IsTelling call.shelf.old.told call.words → AllPass call.shelf.old.told call.words → IsFaultless call → (s : Refusal) → IsCaused call.words call.shelf s
    → IsTold (status_of s) (note_of call.words s) call.out call.notes call.status → Completes call
calm_told laws call tells pass calm s cause (ToldInPart rest wrote noted) = absurd (calm.out wrote.cause)
calm_told laws call tells pass calm s (Judged h) (ToldWhole rest wrote silent own) = absurd (passes_goes laws call.shelf.old.told call.words s tells pass (stops call.shelf.old.told call.words s h))
calm_told laws call tells pass calm s (Unread p next rose at) (ToldWhole rest wrote silent own) = absurd (calm.shelf rose)
calm_told laws call tells pass calm s (Short at) (ToldWhole rest wrote silent own) = NoMemory (own ∙ at)

pub when_calm : LawsBelow → (call : Call) → IsAnswer call → IsComplete call
when_calm laws call (RanWhole d) tells p calm = Whole d.done
when_calm laws call (Wrote d) tells p calm = Whole d.done
when_calm laws call (Traced d) tells p calm = trace_completes call d.schema d.design d.beats d.passes d.run d.calm d.ending calm d.traced d.tells
when_calm laws call (WroteCut d) tells p calm = absurd (calm.out d.wrote.cause)
when_calm laws call (RanCut d) tells p calm = absurd (calm.out (sink_failed call.shelf.old.told call.words call.text call.out.old call.out.new d.run))
when_calm laws call (Explained d) tells p calm = calm_told laws call tells p calm d.refusal (caused call.words call.shelf d.refusal d.cause) d.told
when_calm laws call (Refused d) tells p calm = by_calm laws call tells p calm d.refusal (caused call.words call.shelf d.refusal d.cause) d.noted

-- words of no form
by_form : (call : Call) → (IsForm call.words → ⊥) → (s : Refusal) → IsCaused call.words call.shelf s → Notes (status_of s) (note_of call.words s) call.notes call.status → Yields status.Usage call
by_form call none s cause (inr n) = ToWrite n.0 n.1.cause
by_form call none s (Judged h) (inl n) = elim (formed call.shelf.old.told call.words s (stops call.shelf.old.told call.words s h)) [ inl e ↦ Same (n.0 ∙ ap status_of e) | inr form ↦ absurd (none form) ]
by_form call none s (Unread p next rose own) (inl n) = absurd (none (next_form call.shelf.old.told call.words p next))
by_form call none s (Short own) (inl n) = ToMemory (n.0 ∙ own)

given_form : (told : List ℕ → Told) (words : List (List ℕ)) (bytes text : List ℕ) → IsGiven told words bytes text → IsForm words
given_form told words bytes text (OfTexts d) = named_form words part.Query d.passes.named
given_form told words bytes text (OfQueries d) = named_form words part.Queries d.passes.named
given_form told words bytes text (OfLoad d) = form_of words Load d.is.loads
given_form told words bytes text (OfDump d left) = form_of words Undump d.is
given_form told words bytes text (OfFine fine shown left) = fine_form told words fine
given_form told words bytes text (OfHelp is shown left) = help_form words is
given_form told words bytes text (OfVersion is shown left) = form_of words Version is

pub when_formless : (call : Call) → IsAnswer call → TellsForm call
when_formless call (RanWhole d) none = absurd (none (run_form call.shelf.old.told call.words call.text call.out.old call.out.new outcome.Done d.run))
when_formless call (RanCut d) none = absurd (none (run_form call.shelf.old.told call.words call.text call.out.old call.out.new outcome.WriteFault d.run))
when_formless call (Traced d) none = absurd (none (form_of call.words Sim d.passes.before.sims))
when_formless call (Wrote d) none = absurd (none (given_form call.shelf.old.told call.words d.bytes call.text d.given))
when_formless call (WroteCut d) none = absurd (none (given_form call.shelf.old.told call.words d.bytes call.text d.given))
when_formless call (Explained d) none = absurd (none (named_form call.words part.Query (why_names_query call.words d.asks)))
when_formless call (Refused d) none = by_form call none d.refusal (caused call.words call.shelf d.refusal d.cause) d.noted
