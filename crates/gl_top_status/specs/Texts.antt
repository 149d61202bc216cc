-- What it is for a text of the words to be there, and for the schema to pass, and what fetching them leaves. What is
-- said of a text holds where the shelf tells it.
use Rattle.std.specs.Prelude.{◌≡◌, ℕ, ◌<◌, ◌≤◌, List, length, Result, Ok, Err}
use Rattle.gl_outside.specs.States.{ShelfState, IsCalm, Missed, Faulted}
use Rattle.gl_outside.specs.Told.{Told, IsLacking, IfTold}
use Rattle.gl_outside.specs.declared.reading.ReadFault as reads
use Rattle.gl_outside.specs.declared.reading.ReadFault.TheVariants as read
use Rattle.gl_schema.specs.declared.schema.Schema.{Schema}
use Rattle.gl_schema.specs.Schemas.{IsSchema}
use Rattle.gl_schema.specs.SchemaFaults.{schema_of}
use Rattle.gl_schema.specs.SchemaText.{IsSchemaText}
use Rattle.gl_top_forms.specs.declared.command.Part.{Part}
use Rattle.gl_top_forms.specs.declared.command.Part.TheVariants as part
use Rattle.gl_top_forms.specs.Forms.{IsNamed, name_of}
use Rattle.gl_top_status.specs.declared.refusal.Refusal.{Refusal}
use Rattle.gl_top_status.specs.declared.refusal.Refusal.TheVariants as refusal

-- the shelf has the text, it has at most 64 MiB, and the fact holds of it
abbrev pub HasText : (List ℕ → Told) → List (List ℕ) → Part → (List ℕ → Type 0) → Type 0
HasText told words part P = IfTold (told (name_of words part)) (λ text. (length text ≤ 67108864) × P text)

-- the words name a schema, and its text is that of this one
pub record SchemaPasses (told : List ℕ → Told) (words : List (List ℕ)) (schema : Schema) : Type 0 where
  pub named : IsNamed words part.Schema
  pub fine : IsSchema schema
  pub text : HasText told words part.Schema (λ text. IsSchemaText text schema)

-- a fault of the shelf's text as a refusal of its part: want of memory is its own
abbrev pub read_refusal : Part → reads.ReadFault → Refusal
read_refusal part read.Missing = refusal.Missing part
read_refusal part read.Failed = refusal.ReadFault part
read_refusal part read.TooLong = refusal.TooLong part
read_refusal part read.Memory = refusal.Memory

-- why the text of a part was not fetched; want of memory is free
abbrev pub IsUnfetched : List (List ℕ) → Part → ShelfState → ShelfState → Refusal → Type 0
IsUnfetched words part old new (refusal.Missing p) =
    (p ≡ part) × IsLacking (old.told (name_of words part)) × Missed old new (name_of words part)
IsUnfetched words part old new (refusal.ReadFault p) = (p ≡ part) × Faulted old new (name_of words part)
IsUnfetched words part old new (refusal.TooLong p) =
    (p ≡ part) × IfTold (old.told (name_of words part)) (λ text. 67108864 < length text) × IsCalm old new
IsUnfetched words part old new refusal.Memory = IsCalm old new
IsUnfetched words part old new r = ⊥

-- what fetching it leaves: the shelf refused nothing, or there is a refusal with its cause
abbrev pub LeavesText : {T : Type 0} → List (List ℕ) → Part → ShelfState → ShelfState → Result T Refusal → Type 0
LeavesText words part old new (Ok x) = IsCalm old new
LeavesText words part old new (Err r) = IsUnfetched words part old new r

-- why there is no schema: its text has this first fault, or was not fetched
abbrev pub HasNoSchema : List (List ℕ) → ShelfState → ShelfState → Refusal → Type 0
HasNoSchema words old new (refusal.Schema fault) =
    HasText old.told words part.Schema (λ text. schema_of text ≡ Err fault) × IsCalm old new
HasNoSchema words old new r = IsUnfetched words part.Schema old new r

-- the texts that were fetched were all there, or the refusal tells why there is no schema
abbrev pub LeavesSchema : {T : Type 0} → List (List ℕ) → ShelfState → ShelfState → Result T Refusal → Type 0
LeavesSchema words old new (Ok x) = IsCalm old new
LeavesSchema words old new (Err r) = HasNoSchema words old new r
