-- What stops a command: the first of its texts that is refused, and why.
use Rattle.std.proofs.Common.{◌≡◌, ℕ, List, Result, Err, inl, inr, refl, sym, ap, ◌∙◌}
use Rattle.gl_outside.specs.Told.{Told}
use Rattle.gl_vcd.specs.Reading.{dump_of}
use Rattle.gl_gaps.specs.declared.Gaps.{Gaps}
use Rattle.gl_schema.specs.declared.schema.Schema.{Schema}
use Rattle.gl_schema.specs.declared.fault.SchemaFault.{SchemaFault}
use Rattle.gl_schema.specs.SchemaFaults.{schema_of}
use Rattle.gl_schema.specs.Schemas.{IsSchema}
use Rattle.gl_query.specs.declared.tree.Statement.{Statement}
use Rattle.gl_query.specs.declared.fault.QueryFault.{QueryFault}
use Rattle.gl_query_texts.specs.Limits.{IsOverLimit}
use Rattle.gl_figures.specs.declared.Limit.{Limit}
use Rattle.gl_tuples.specs.Flat.{BeatList}
use Rattle.gl_tuples.specs.declared.fault.TupleFault.{TupleFault}
use Rattle.gl_tuple_reader.specs.Filing.{records_of}
use Rattle.gl_tuple_reader.specs.Settings.{beats_of}
use Rattle.gl_verilog.specs.Module.{Module}
use Rattle.gl_verilog_tokens.specs.declared.fault.VerilogFault.{VerilogFault}
use Rattle.gl_compiler.specs.declared.compiling.Compiled.{Compiled}
use Rattle.gl_compiler.specs.Built.{gaps_of}
use Rattle.gl_compiler.specs.Queries.{IsQuery}
use Rattle.gl_compiler.specs.declared.fault.CompileFault.{CompileFault}
use Rattle.gl_compiler.specs.declared.fault.CompileFault.TheVariants as compile
use Rattle.gl_compiler.proofs.Refusing.{over_goes, query_accepted, tells_of}
use Rattle.gl_many.specs.Meets.{shared_gaps}
use Rattle.gl_many.specs.Queries.{AreQueries}
use Rattle.gl_many.proofs.OneVerdict.{all_within, no_list, one_fault_of_all, one_limit_of_all}
use Rattle.gl_top_forms.specs.declared.command.Command.TheVariants as command
use Rattle.gl_top_forms.specs.declared.command.Part.TheVariants as part
use Rattle.gl_top_status.specs.declared.refusal.Refusal.{Refusal}
use Rattle.gl_top_status.specs.declared.refusal.Refusal.TheVariants as refusal
use Rattle.gl_top_forms.specs.Forms.{IsCommand, IsForm, IsNamed, name_of}
use Rattle.gl_top_status.specs.Texts.{SchemaPasses}
use Rattle.gl_top_inputs.specs.Below.{LawsBelow}
use Rattle.gl_top_inputs.specs.Passing.{AsksGaps, ModulePasses, OfAll, OfOne, kept_beats}
use Rattle.gl_top_inputs.specs.Readings.{IsFaultBy, IsOverBy, One, Reading, Several, part_read}
use Rattle.gl_top_inputs.specs.Causes.{PassBeforeTuples, OfRun, OfRunAll, OfSim, ToRun, ToRunAll, ToSim, IsModuleFault, IsRefused}
use Rattle.gl_top_inputs.proofs.Modules.{one_module_fault}
use Rattle.gl_top_inputs.proofs.Texts.{asks_schema}
use Rattle.gl_top.proofs.Dumps.{DumpFails}
use Rattle.gl_top.proofs.Failing.{FailsAt, Failing, Fine, Lacking, Long, bad, one_error}

-- ---- what may be wrong with each text

pub record SchemaFails (text : List ℕ) (r : Refusal) : Type 0 where
  pub fault : SchemaFault
  pub found : schema_of text ≡ Err fault
  pub is : r ≡ refusal.Schema fault

-- read as one query, or as several
pub data QueryFails (by : Reading) (s : Schema) (text : List ℕ) (r : Refusal) : Type 0 where
  OfFault : (fault : QueryFault) (found : IsFaultBy by s text fault) (is : r ≡ refusal.Query fault) → QueryFails by s text r
  OfLimit : (limit : Limit) (over : IsOverBy by s text limit) (is : r ≡ refusal.Limit limit) → QueryFails by s text r

pub record ModuleFails (s : Schema) (text : List ℕ) (r : Refusal) : Type 0 where
  pub fault : VerilogFault
  pub found : IsModuleFault s text fault
  pub is : r ≡ refusal.Verilog fault

-- the beats of a file of which no gap is asked
abbrev pub filed : Schema → List ℕ → Result BeatList TupleFault
filed s text = beats_of s (records_of text)

pub record TuplesFail (read : List ℕ → Result BeatList TupleFault) (text : List ℕ) (r : Refusal) : Type 0 where
  pub fault : TupleFault
  pub found : read text ≡ Err fault
  pub is : r ≡ refusal.Tuples fault

-- each in one way
pub schema_once : (a b : Refusal) (text : List ℕ) → SchemaFails text a → SchemaFails text b → a ≡ b
schema_once a b text f g = f.is ∙ ap refusal.Schema (one_error (schema_of text) f.fault g.fault f.found g.found) ∙ sym g.is

pub module_once : LawsBelow → (s : Schema) (a b : Refusal) (text : List ℕ) → ModuleFails s text a → ModuleFails s text b → a ≡ b
module_once laws s a b text f g = f.is ∙ ap refusal.Verilog (one_module_fault laws.one_verdict s text f.fault g.fault f.found g.found) ∙ sym g.is

pub tuples_once : (read : List ℕ → Result BeatList TupleFault) (a b : Refusal) (text : List ℕ) → TuplesFail read text a → TuplesFail read text b → a ≡ b
tuples_once read a b text f g = f.is ∙ ap refusal.Tuples (one_error (read text) f.fault g.fault f.found g.found) ∙ sym g.is

-- the limits that plans of a text's statements pass are one
one_limit : LawsBelow → (s : Schema) (text : List ℕ) (l m : Limit) → IsSchema s → IsOverLimit s text l → IsOverLimit s text m → l ≡ m
one_limit laws s text l m fine o p = elim (tells_of laws.one s text (compile.Limit l) fine o (compile.Limit m) p) [
  | inl e ↦ (let f : ◌≡◌ {A = Result Compiled CompileFault} (Err (compile.Limit l)) (Err (compile.Limit m)) = e in cc)
  | inr e ↦ absurd (let f : ◌≡◌ {A = Result Compiled CompileFault} (Err (compile.Limit l)) (Err compile.Memory) = e in cc)
]

fault_once : LawsBelow → (by : Reading) (s : Schema) (text : List ℕ) (f g : QueryFault) → IsSchema s → IsFaultBy by s text f → IsFaultBy by s text g → f ≡ g
fault_once laws One s text f g fine i j = (laws.one.texts_have_one_fault s text g fine j).only f i
fault_once laws Several s text f g fine i j = one_fault_of_all laws.several s text f g i j

limit_once : LawsBelow → (by : Reading) (s : Schema) (text : List ℕ) (l m : Limit) → IsSchema s → IsOverBy by s text l → IsOverBy by s text m → l ≡ m
limit_once laws One s text l m fine p q = one_limit laws s text l m fine p q
limit_once laws Several s text l m fine p q = one_limit_of_all laws.several s text l m p q

-- a text that has a fault has no plan
no_plan : LawsBelow → (by : Reading) (s : Schema) (text : List ℕ) (f : QueryFault) (l : Limit) → IsSchema s → IsFaultBy by s text f → IsOverBy by s text l → ⊥
no_plan laws One s text f l fine i p = (laws.one.texts_have_one_fault s text f fine i).refused p.statement p.is
no_plan laws Several s text f l fine i p = no_list laws.several s text f p.statements i p.has

pub query_once : LawsBelow → (by : Reading) (s : Schema) (a b : Refusal) → IsSchema s → (text : List ℕ) → QueryFails by s text a → QueryFails by s text b → a ≡ b
query_once laws by s a b fine text (OfFault f i e) (OfFault g j h) = e ∙ ap refusal.Query (fault_once laws by s text f g fine i j) ∙ sym h
query_once laws by s a b fine text (OfFault f i e) (OfLimit l p h) = absurd (no_plan laws by s text f l fine i p)
query_once laws by s a b fine text (OfLimit l p e) (OfFault f i h) = absurd (no_plan laws by s text f l fine i p)
query_once laws by s a b fine text (OfLimit l p e) (OfLimit m q h) = e ∙ ap refusal.Limit (limit_once laws by s text l m fine p q) ∙ sym h

-- and not at all where it is compiled
pub query_out : LawsBelow → (s : Schema) (st : Statement) (a : Refusal) → IsSchema s → (text : List ℕ) → IsQuery s text st → QueryFails One s text a → ⊥
query_out laws s st a fine text q (OfFault f i e) = (laws.one.texts_have_one_fault s text f fine i).refused st (query_accepted s text st q)
query_out laws s st a fine text q (OfLimit l p e) = over_goes laws.one s text st l p q

pub queries_out : LawsBelow → (s : Schema) (sts : List Statement) (a : Refusal) (text : List ℕ) → AreQueries s text sts → QueryFails Several s text a → ⊥
queries_out laws s sts a text q (OfFault f i e) = no_list laws.several s text f sts i q.has
queries_out laws s sts a text q (OfLimit l p e) = all_within laws.several s text sts l p q

-- ---- what stops a command

-- behind its schema
pub data SecondStops (told : List ℕ → Told) (words : List (List ℕ)) (s : Schema) (r : Refusal) : Type 0 where
  AtQuery : (by : Reading) (named : IsNamed words (part_read by)) (fails : FailsAt told words (part_read by) (QueryFails by s) r) → SecondStops told words s r
  AtModule : (sims : IsCommand words command.Sim) (fails : FailsAt told words part.Module (ModuleFails s) r) → SecondStops told words s r

-- and behind the text that comes next
pub data ThirdStops (told : List ℕ → Told) (words : List (List ℕ)) (s : Schema) (r : Refusal) : Type 0 where
  AtTuples : (gaps : Gaps) (asks : AsksGaps told words s gaps) (fails : FailsAt told words part.Tuples (TuplesFail (kept_beats s gaps)) r) → ThirdStops told words s r
  AtFile : (m : Module) (before : ModulePasses told words s m) (fails : FailsAt told words part.Tuples (TuplesFail (filed s)) r) → ThirdStops told words s r

-- the first that is refused
pub data Stops (told : List ℕ → Told) (words : List (List ℕ)) (r : Refusal) : Type 0 where
  AtWords : (formless : IsForm words → ⊥) (is : r ≡ refusal.Usage) → Stops told words r
  AtSchema : (named : IsNamed words part.Schema) (fails : FailsAt told words part.Schema SchemaFails r) → Stops told words r
  AtSecond : (s : Schema) (before : SchemaPasses told words s) (stops' : SecondStops told words s r) → Stops told words r
  AtThird : (s : Schema) (before : SchemaPasses told words s) (stops' : ThirdStops told words s r) → Stops told words r
  AtDump : (named : IsNamed words part.Dump) (fails : FailsAt told words part.Dump DumpFails r) → Stops told words r

at_tuples : (told : List ℕ → Told) (words : List (List ℕ)) (s : Schema) (gaps : Gaps) (r : Refusal) → AsksGaps told words s gaps → FailsAt told words part.Tuples (TuplesFail (kept_beats s gaps)) r → Stops told words r
at_tuples told words s gaps r asks f = AtThird s (asks_schema told words s gaps asks) (AtTuples gaps asks f)

at_file : (told : List ℕ → Told) (words : List (List ℕ)) (s : Schema) (m : Module) (r : Refusal) → ModulePasses told words s m → FailsAt told words part.Tuples (TuplesFail (filed s)) r → Stops told words r
at_file told words s m r before f = AtThird s before.before (AtFile m before f)

bad_tuples : (t : Told) (read : List ℕ → Result BeatList TupleFault) (fault : TupleFault) → Fine t (λ text. read text ≡ Err fault) → Failing t part.Tuples (TuplesFail read) (refusal.Tuples fault)
bad_tuples t read fault h = bad t part.Tuples (λ text. read text ≡ Err fault) (TuplesFail read) (refusal.Tuples fault) (λ text e. record { fault = fault; found = e; is = refl }) h

-- what stops a command at the tuple file, whatever else a file may fail at
by_file : (told : List ℕ → Told) (words : List (List ℕ)) (r : Refusal) → PassBeforeTuples told words → ((F : List ℕ → Refusal → Type 0) → FailsAt told words part.Tuples F r) → Stops told words r
by_file told words r (OfRun runs s st passes) f = at_tuples told words s (gaps_of s st) r (OfOne runs st passes refl) (f (TuplesFail (kept_beats s (gaps_of s st))))
by_file told words r (OfRunAll runs s sts passes) f = at_tuples told words s (shared_gaps s sts) r (OfAll runs sts passes refl) (f (TuplesFail (kept_beats s (shared_gaps s sts))))
by_file told words r (OfSim s m passes) f = at_file told words s m r passes (f (TuplesFail (filed s)))

-- what stops it at the text of a query, or of several
by_query : (told : List ℕ → Told) (words : List (List ℕ)) (r : Refusal) (by : Reading) (s : Schema) → IsNamed words (part_read by) → SchemaPasses told words s → FailsAt told words (part_read by) (QueryFails by s) r → Stops told words r
by_query told words r by s named before f = AtSecond s before (AtQuery by named f)

pub stops : (told : List ℕ → Told) (words : List (List ℕ)) (r : Refusal) → IsRefused told words r → Stops told words r
stops told words refusal.Usage h = AtWords h refl
stops told words (refusal.Missing part.Schema) h = AtSchema h.next (Lacking h.lacking refl)
stops told words (refusal.Missing part.Query) h = by_query told words (refusal.Missing part.Query) One h.next.1 h.next.0 h.next.2 (Lacking h.lacking refl)
stops told words (refusal.Missing part.Queries) h = by_query told words (refusal.Missing part.Queries) Several h.next.1 h.next.0 h.next.2 (Lacking h.lacking refl)
stops told words (refusal.Missing part.Module) h = AtSecond h.next.1 h.next.2 (AtModule h.next.0 (Lacking h.lacking refl))
stops told words (refusal.Missing part.Tuples) h = by_file told words (refusal.Missing part.Tuples) h.next (λ (F : List ℕ → Refusal → Type 0). Lacking h.lacking refl)
stops told words (refusal.Missing part.Dump) h = AtDump h.next (Lacking h.lacking refl)
stops told words (refusal.ReadFault p) h = absurd h
stops told words (refusal.TooLong part.Schema) h = AtSchema h.next (Long h.long refl)
stops told words (refusal.TooLong part.Query) h = by_query told words (refusal.TooLong part.Query) One h.next.1 h.next.0 h.next.2 (Long h.long refl)
stops told words (refusal.TooLong part.Queries) h = by_query told words (refusal.TooLong part.Queries) Several h.next.1 h.next.0 h.next.2 (Long h.long refl)
stops told words (refusal.TooLong part.Module) h = AtSecond h.next.1 h.next.2 (AtModule h.next.0 (Long h.long refl))
stops told words (refusal.TooLong part.Tuples) h = by_file told words (refusal.TooLong part.Tuples) h.next (λ (F : List ℕ → Refusal → Type 0). Long h.long refl)
stops told words (refusal.TooLong part.Dump) h = AtDump h.next (Long h.long refl)
stops told words (refusal.Schema fault) h =
    AtSchema h.named
    (bad (told (name_of words part.Schema)) part.Schema (λ text. schema_of text ≡ Err fault) SchemaFails (refusal.Schema fault) (λ text e. record { fault = fault; found = e; is = refl }) h.text)
stops told words (refusal.Query fault) h =
    let p = part_read h.reading in
    by_query told words (refusal.Query fault) h.reading h.schema h.named h.before
    (bad (told (name_of words p)) p (λ text. IsFaultBy h.reading h.schema text fault) (QueryFails h.reading h.schema) (refusal.Query fault) (λ text i. OfFault fault i refl) h.text)
stops told words (refusal.Limit limit) h =
    let p = part_read h.reading in
    by_query told words (refusal.Limit limit) h.reading h.schema h.named h.before
    (bad (told (name_of words p)) p (λ text. IsOverBy h.reading h.schema text limit) (QueryFails h.reading h.schema) (refusal.Limit limit) (λ text o. OfLimit limit o refl) h.text)
stops told words (refusal.Verilog fault) h =
    AtSecond h.schema h.before
    (AtModule h.sims
    (bad (told (name_of words part.Module)) part.Module (λ text. IsModuleFault h.schema text fault) (ModuleFails h.schema) (refusal.Verilog fault) (λ text i. record { fault = fault; found = i; is = refl }) h.text))
stops told words (refusal.Tuples fault) (ToRun runs s st before text) =
    at_tuples told words s (gaps_of s st) (refusal.Tuples fault) (OfOne runs st before refl) (bad_tuples (told (name_of words part.Tuples)) (kept_beats s (gaps_of s st)) fault text)
stops told words (refusal.Tuples fault) (ToRunAll runs s sts before text) =
    at_tuples told words s (shared_gaps s sts) (refusal.Tuples fault) (OfAll runs sts before refl) (bad_tuples (told (name_of words part.Tuples)) (kept_beats s (shared_gaps s sts)) fault text)
stops told words (refusal.Tuples fault) (ToSim s m before text) =
    at_file told words s m (refusal.Tuples fault) before (bad_tuples (told (name_of words part.Tuples)) (filed s) fault text)
stops told words (refusal.Dump fault) h =
    AtDump h.named (bad (told (name_of words part.Dump)) part.Dump (λ text. dump_of text ≡ Err fault) DumpFails (refusal.Dump fault) (λ text e. record { fault = fault; found = e; is = refl }) h.text)
stops told words refusal.Memory h = absurd h
