-- What a text that was read says of its part, and why one was not.
use Rattle.std.proofs.Common.{◌≡◌, ℕ, ◌<◌, ◌≤◌, List, length, Err, refl, subst}
use Rattle.gl_outside.specs.States.{ShelfState, IsCalm, Missed, Faulted, ReadLeaves}
use Rattle.gl_outside.specs.Told.{Told, Untold, Lacks, Holds, IsLacking, IfTold}
use Rattle.gl_outside.specs.Reads.{Refuses}
use Rattle.gl_outside.specs.declared.reading.ReadFault as reads
use Rattle.gl_outside.specs.declared.reading.ReadFault.TheVariants as read
use Rattle.gl_schema.specs.declared.schema.Schema.{Schema}
use Rattle.gl_schema.specs.declared.fault.SchemaFault as faults
use Rattle.gl_schema.specs.declared.fault.SchemaFault.TheVariants as schema
use Rattle.gl_schema.specs.SchemaFaults.{schema_of}
use Rattle.gl_schema.specs.SchemaFaults as schemas
use Rattle.gl_schema.specs.SchemaText.{IsSchemaText}
use Rattle.gl_top_forms.specs.declared.command.Part.{Part}
use Rattle.gl_top_forms.specs.declared.command.Part.TheVariants as part
use Rattle.gl_top_forms.specs.Forms.{IsNamed, name_of}
use Rattle.gl_top_status.specs.declared.refusal.Refusal.{Refusal}
use Rattle.gl_top_status.specs.declared.refusal.Refusal.TheVariants as refusal
use Rattle.gl_top_status.specs.Refusals.{schema_refusal}
use Rattle.gl_top_status.specs.Texts.{HasText, SchemaPasses, IsUnfetched, HasNoSchema, read_refusal}

-- what was read is the text that is told
pub read_is : (t : Told) (v : List ℕ) → IfTold t (λ text. v ≡ text) → length v ≤ 67108864 → IfTold t (λ text. (length text ≤ 67108864) × (v ≡ text))
read_is Untold v e le = tt
read_is Lacks v e le = e
read_is (Holds text) v e le = (subst (λ (x : List ℕ). length x ≤ 67108864) e le, e)

-- and what holds of the one holds of the other
pub of_text : (t : Told) (P : List ℕ → Type 0) (v : List ℕ) → IfTold t (λ text. (length text ≤ 67108864) × (v ≡ text)) → P v → IfTold t (λ text. (length text ≤ 67108864) × P text)
of_text Untold P v h p = tt
of_text Lacks P v h p = h
of_text (Holds text) P v h p = (h.0, subst P h.1 p)

pub has_text : (told : List ℕ → Told) (words : List (List ℕ)) (p : Part) (P : List ℕ → Type 0) (v : List ℕ) → HasText told words p (λ text. v ≡ text) → P v → HasText told words p P
has_text told words p P v h q = of_text (told (name_of words p)) P v h q

-- why a text was not fetched
pub unfetched : (words : List (List ℕ)) (a b : ShelfState) (p : Part) (name : List ℕ) (fault : reads.ReadFault) → name ≡ name_of words p
    → Refuses {T = Unit {0}} (a.told name) (Err fault) → ReadLeaves {T = Unit {0}} a b name (Err fault) → IsUnfetched words p a b (read_refusal p fault)
unfetched words a b p name read.Missing e told left = (refl, subst (λ n. IsLacking (a.told n)) e told, subst (Missed a b) e left)
unfetched words a b p name read.Failed e told left = (refl, subst (Faulted a b) e left)
unfetched words a b p name read.TooLong e told left = (refl, subst (λ n. IfTold (a.told n) (λ text. 67108864 < length text)) e told, left)
unfetched words a b p name read.Memory e told left = left

-- so there is no schema where its text was not
pub unread : (words : List (List ℕ)) (a b : ShelfState) (r : Refusal) → IsUnfetched words part.Schema a b r → HasNoSchema words a b r
unread words a b refusal.Usage h = h
unread words a b (refusal.Missing p) h = h
unread words a b (refusal.ReadFault p) h = h
unread words a b (refusal.TooLong p) h = h
unread words a b (refusal.Schema f) h = absurd h
unread words a b (refusal.Query f) h = h
unread words a b (refusal.Limit l) h = h
unread words a b (refusal.Verilog f) h = h
unread words a b (refusal.Tuples f) h = h
unread words a b (refusal.Dump f) h = h
unread words a b refusal.Memory h = h

-- nor where it has a fault
is_bad : (words : List (List ℕ)) (a b : ShelfState) (v : List ℕ) (fault : faults.SchemaFault) → IsCalm a b → HasText a.told words part.Schema (λ text. v ≡ text) → schema_of v ≡ Err fault → HasNoSchema words a b (refusal.Schema fault)
is_bad words a b v fault calm h f = (has_text a.told words part.Schema (λ text. schema_of text ≡ Err fault) v h f, calm)

pub has_none : (words : List (List ℕ)) (a b : ShelfState) (v : List ℕ) (fault : faults.SchemaFault) → IsCalm a b → HasText a.told words part.Schema (λ text. v ≡ text)
    → schemas.Fails fault (schema_of v) → HasNoSchema words a b (schema_refusal fault)
has_none words a b v schema.Memory calm h f = calm
has_none words a b v (schema.Syntax at) calm h f = is_bad words a b v (schema.Syntax at) calm h f
has_none words a b v (schema.BadName at) calm h f = is_bad words a b v (schema.BadName at) calm h f
has_none words a b v (schema.BadKind at) calm h f = is_bad words a b v (schema.BadKind at) calm h f
has_none words a b v (schema.Twice at) calm h f = is_bad words a b v (schema.Twice at) calm h f
has_none words a b v (schema.TooMany at) calm h f = is_bad words a b v (schema.TooMany at) calm h f

-- and where it is read it passes
pub schema_passes : (told : List ℕ → Told) (words : List (List ℕ)) (v : List ℕ) (s : Schema) → IsNamed words part.Schema → HasText told words part.Schema (λ text. v ≡ text) → IsSchemaText v s → SchemaPasses told words s
schema_passes told words v s named h is = record { named = named; fine = is.schema'; text = has_text told words part.Schema (λ text. IsSchemaText text s) v h is }
