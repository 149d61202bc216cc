-- Words and texts are refused in one way, where the texts are told.
use Rattle.std.proofs.Common.{◌≡◌, ◌⊎◌, ℕ, List, inl, inr, refl, sym, subst, ◌∙◌}
use Rattle.gl_outside.specs.Told.{Told}
use Rattle.gl_schema.specs.declared.schema.Schema.{Schema}
use Rattle.gl_schema.specs.Schemas.{IsSchema}
use Rattle.gl_top_forms.specs.declared.command.Part.TheVariants as part
use Rattle.gl_top_forms.specs.Forms.{IsForm, name_of}
use Rattle.gl_top_forms.proofs.Named.{named_form, queries_and_no_module, sim_names_no_query}
use Rattle.gl_top_status.specs.declared.refusal.Refusal.{Refusal}
use Rattle.gl_top_status.specs.declared.refusal.Refusal.TheVariants as refusal
use Rattle.gl_top_inputs.specs.Below.{LawsBelow}
use Rattle.gl_top_inputs.specs.Passing.{kept_beats}
use Rattle.gl_top_inputs.specs.Readings.{One, Several}
use Rattle.gl_top_inputs.specs.Causes.{IsRefused}
use Rattle.gl_top_inputs.proofs.Texts.{asks_named, sim_names_module, sim_names_tuples}
use Rattle.gl_top.specs.Verdicts.{IsTelling}
use Rattle.gl_top.proofs.Dumps.{DumpFails, dump_once, no_dump}
use Rattle.gl_top.proofs.Failing.{fails_once}
use Rattle.gl_top.proofs.Stopping.{AtDump, AtFile, AtModule, AtQuery, AtSchema, AtSecond, AtThird, AtTuples, AtWords, ModuleFails, QueryFails, SchemaFails, SecondStops, Stops, ThirdStops, TuplesFail, filed, module_once, query_once, schema_once, stops, tuples_once}
use Rattle.gl_top.proofs.Passed.{asks_no_sim, not_both_named, one_schema, other_file, other_gaps, schema_goes, third_second}

-- words where something stops are of no form, or they name a schema
pub formed : (told : List ℕ → Told) (words : List (List ℕ)) (a : Refusal) → Stops told words a → (a ≡ refusal.Usage) ⊎ IsForm words
formed told words a (AtWords n e) = inl e
formed told words a (AtSchema named f) = inr (named_form words part.Schema named)
formed told words a (AtSecond s p h) = inr (named_form words part.Schema p.named)
formed told words a (AtThird s p h) = inr (named_form words part.Schema p.named)
formed told words a (AtDump named f) = inr (named_form words part.Dump named)

words_once : (told : List ℕ → Told) (words : List (List ℕ)) (a b : Refusal) → (IsForm words → ⊥) → a ≡ refusal.Usage → Stops told words b → a ≡ b
words_once told words a b n e h = elim (formed told words b h) [ inl f ↦ e ∙ sym f | inr form ↦ absurd (n form) ]

second_once : LawsBelow → (told : List ℕ → Told) (words : List (List ℕ)) (s : Schema) (a b : Refusal) → IsTelling told words → IsSchema s → SecondStops told words s a → SecondStops told words s b → a ≡ b
second_once laws told words s a b tells fine (AtQuery One named f) (AtQuery One named' g) =
    fails_once (told (name_of words part.Query)) part.Query (QueryFails One s) a b (tells part.Query named) (query_once laws One s a b fine) f g
second_once laws told words s a b tells fine (AtQuery One named f) (AtQuery Several named' g) = not_both_named words named named'
second_once laws told words s a b tells fine (AtQuery Several named f) (AtQuery One named' g) = not_both_named words named' named
second_once laws told words s a b tells fine (AtQuery Several named f) (AtQuery Several named' g) =
    fails_once (told (name_of words part.Queries)) part.Queries (QueryFails Several s) a b (tells part.Queries named) (query_once laws Several s a b fine) f g
second_once laws told words s a b tells fine (AtQuery One named f) (AtModule sims g) = absurd (sim_names_no_query words sims named)
second_once laws told words s a b tells fine (AtQuery Several named f) (AtModule sims g) = absurd (queries_and_no_module words named (sim_names_module words sims))
second_once laws told words s a b tells fine (AtModule sims f) (AtQuery One named g) = absurd (sim_names_no_query words sims named)
second_once laws told words s a b tells fine (AtModule sims f) (AtQuery Several named g) = absurd (queries_and_no_module words named (sim_names_module words sims))
second_once laws told words s a b tells fine (AtModule sims f) (AtModule sims' g) =
    fails_once (told (name_of words part.Module)) part.Module (ModuleFails s) a b (tells part.Module (sim_names_module words sims)) (module_once laws s a b) f g

third_once : LawsBelow → (told : List ℕ → Told) (words : List (List ℕ)) (s t : Schema) (a b : Refusal) → IsTelling told words → ThirdStops told words s a → ThirdStops told words t b → a ≡ b
third_once laws told words s t a b tells (AtTuples m p f) (AtTuples n q g) =
    fails_once (told (name_of words part.Tuples)) part.Tuples (TuplesFail (kept_beats s m)) a b (tells part.Tuples (asks_named told words s m p)) (tuples_once (kept_beats s m) a b) f (other_gaps laws told words s t m n tells p q b g)
third_once laws told words s t a b tells (AtTuples m p f) (AtFile n q g) = asks_no_sim told words s m p q.sims
third_once laws told words s t a b tells (AtFile m p f) (AtTuples n q g) = asks_no_sim told words t n q p.sims
third_once laws told words s t a b tells (AtFile m p f) (AtFile n q g) =
    fails_once (told (name_of words part.Tuples)) part.Tuples (TuplesFail (filed s)) a b (tells part.Tuples (sim_names_tuples words p.sims)) (tuples_once (filed s) a b) f (other_file told words s t tells p.before q.before b g)

pub stops_once : LawsBelow → (told : List ℕ → Told) (words : List (List ℕ)) (a b : Refusal) → IsTelling told words → Stops told words a → Stops told words b → a ≡ b
stops_once laws told words a b tells (AtWords n e) h = words_once told words a b n e h
stops_once laws told words a b tells (AtSchema named f) (AtWords m h) = sym (words_once told words b a m h (AtSchema named f))
stops_once laws told words a b tells (AtSchema named f) (AtSchema named' g) = fails_once (told (name_of words part.Schema)) part.Schema SchemaFails a b (tells part.Schema named) (schema_once a b) f g
stops_once laws told words a b tells (AtSchema named f) (AtSecond s p g) = schema_goes told words s a tells p f
stops_once laws told words a b tells (AtSchema named f) (AtThird s p g) = schema_goes told words s a tells p f
stops_once laws told words a b tells (AtSchema named f) (AtDump named' g) = absurd (no_dump words part.Schema refl named named')
stops_once laws told words a b tells (AtSecond s p f) (AtWords m h) = sym (words_once told words b a m h (AtSecond s p f))
stops_once laws told words a b tells (AtSecond s p f) (AtSchema named g) = schema_goes told words s b tells p g
stops_once laws told words a b tells (AtSecond s p f) (AtSecond t q g) =
    second_once laws told words t a b tells q.fine (subst (λ (x : Schema). SecondStops told words x a) (one_schema told words s t tells p q) f) g
stops_once laws told words a b tells (AtSecond s p f) (AtThird t q g) = third_second laws told words t s b a tells g p f
stops_once laws told words a b tells (AtSecond s p f) (AtDump named g) = absurd (no_dump words part.Schema refl p.named named)
stops_once laws told words a b tells (AtThird s p f) (AtWords m h) = sym (words_once told words b a m h (AtThird s p f))
stops_once laws told words a b tells (AtThird s p f) (AtSchema named g) = schema_goes told words s b tells p g
stops_once laws told words a b tells (AtThird s p f) (AtSecond t q g) = third_second laws told words s t a b tells f q g
stops_once laws told words a b tells (AtThird s p f) (AtThird t q g) = third_once laws told words s t a b tells f g
stops_once laws told words a b tells (AtThird s p f) (AtDump named g) = absurd (no_dump words part.Schema refl p.named named)
stops_once laws told words a b tells (AtDump named f) (AtWords m h) = sym (words_once told words b a m h (AtDump named f))
stops_once laws told words a b tells (AtDump named f) (AtSchema named' g) = absurd (no_dump words part.Schema refl named' named)
stops_once laws told words a b tells (AtDump named f) (AtSecond s p g) = absurd (no_dump words part.Schema refl p.named named)
stops_once laws told words a b tells (AtDump named f) (AtThird s p g) = absurd (no_dump words part.Schema refl p.named named)
stops_once laws told words a b tells (AtDump named f) (AtDump named' g) = fails_once (told (name_of words part.Dump)) part.Dump DumpFails a b (tells part.Dump named) (dump_once a b) f g

-- so one refusal holds at most
pub one_refusal : LawsBelow → (told : List ℕ → Told) (words : List (List ℕ)) (a b : Refusal) → IsTelling told words → IsRefused told words a → IsRefused told words b → a ≡ b
one_refusal laws told words a b tells h k = stops_once laws told words a b tells (stops told words a h) (stops told words b k)
