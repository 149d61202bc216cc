-- Why texts are not compiled: each cause is told.
use Rattle.std.proofs.Common.{◌≡◌, ◌⊎◌, ℕ, List, Result, Ok, Err, refl, sym, subst, ◌∙◌, inl, inr}
use Rattle.std.specs.Prelude.{IfErr}
use Rattle.gl_schema.specs.declared.schema.Schema.{Schema}
use Rattle.gl_schema.specs.declared.fault.SchemaFault.{SchemaFault}
use Rattle.gl_schema.specs.declared.fault.SchemaFault.TheVariants as schema
use Rattle.gl_schema.specs.SchemaText.{IsSchemaText}
use Rattle.gl_schema.specs.SchemaFaults.{Fails, IsFirstFault, schema_of}
use Rattle.gl_schema.proofs.Readings.{not_both, one_schema}
use Rattle.gl_compiler.specs.declared.compiling.Compiled.{Compiled}
use Rattle.gl_compiler.specs.declared.fault.CompileFault.{CompileFault}
use Rattle.gl_compiler.specs.declared.fault.CompileFault.TheVariants as compile
use Rattle.gl_compiler.specs.Queries.{IsQueryRefused, TellsCauses}
use Rattle.gl_compiler.specs.Texts.{IsTextRefused, TellsTextCauses}
use Rattle.gl_compiler.specs.Faults.{fault_of_schema}

-- ---- over the schema of the text

over_schema : (text query : List ℕ) (s : Schema) (f : CompileFault) → IsSchemaText text s → IsQueryRefused s query f → IsTextRefused text query f
over_schema text query s (compile.Schema f) is h = absurd h
over_schema text query s (compile.Query f) is h = record { schema = s; is = is; so = h }
over_schema text query s (compile.Limit l) is h = record { schema = s; is = is; so = h }
over_schema text query s compile.Memory is h = tt

pub cause_over : (text query : List ℕ) (s : Schema) (r : Result Compiled CompileFault) → IsSchemaText text s → IfErr r (IsQueryRefused s query) → IfErr r (IsTextRefused text query)
cause_over text query s (Ok c) is h = tt
cause_over text query s (Err f) is h = over_schema text query s f is h

pub told_over : (text query : List ℕ) (s : Schema) (r : Result Compiled CompileFault) → IsSchemaText text s → TellsCauses s query r → TellsTextCauses text query r
told_over text query s r is tells (compile.Schema f) = λ first. absurd (not_both text s f is first)
told_over text query s r is tells (compile.Query f) = λ o. tells (compile.Query f) (subst (λ (x : Schema). IsQueryRefused x query (compile.Query f)) (one_schema text o.schema s o.is is) o.so)
told_over text query s r is tells (compile.Limit l) = λ o. tells (compile.Limit l) (subst (λ (x : Schema). IsQueryRefused x query (compile.Limit l)) (one_schema text o.schema s o.is is) o.so)
told_over text query s r is tells compile.Memory = tt

-- ---- the schema's text has a fault

told_schema : (text query : List ℕ) (g : SchemaFault) → IsFirstFault text g → TellsTextCauses text query (Err (compile.Schema g))
told_schema text query g is (compile.Schema f) = λ first. inl (let z : ◌≡◌ {A = Result Schema SchemaFault} (Err g) (Err f) = sym is ∙ first in let e : g ≡ f = cc in rw e refl)
told_schema text query g is (compile.Query f) = λ o. absurd (not_both text o.schema g o.is is)
told_schema text query g is (compile.Limit l) = λ o. absurd (not_both text o.schema g o.is is)
told_schema text query g is compile.Memory = tt

told_memory : (text query : List ℕ) → TellsTextCauses text query (Err compile.Memory)
told_memory text query (compile.Schema f) = λ h. inr refl
told_memory text query (compile.Query f) = λ h. inr refl
told_memory text query (compile.Limit l) = λ h. inr refl
told_memory text query compile.Memory = tt

-- a fault is answered as it is, unless memory ran out
schema_told : (text : List ℕ) (f : SchemaFault) → Fails f (schema_of text) → (fault_of_schema f ≡ compile.Memory) ⊎ ((fault_of_schema f ≡ compile.Schema f) × IsFirstFault text f)
schema_told text schema.Memory h = inl refl
schema_told text (schema.Syntax at) h = inr (refl, h)
schema_told text (schema.BadName at) h = inr (refl, h)
schema_told text (schema.BadKind at) h = inr (refl, h)
schema_told text (schema.Twice at) h = inr (refl, h)
schema_told text (schema.TooMany at) h = inr (refl, h)

pub schema_cause : (text query : List ℕ) (f : SchemaFault) → Fails f (schema_of text) → IsTextRefused text query (fault_of_schema f)
schema_cause text query f h = elim (schema_told text f h) [
  | inl e ↦ rw e tt
  | inr is ↦ rw is.0 is.1
]

pub schema_tells : (text query : List ℕ) (f : SchemaFault) → Fails f (schema_of text) → TellsTextCauses text query (Err (fault_of_schema f))
schema_tells text query f h = elim (schema_told text f h) [
  | inl e ↦ subst (λ (g : CompileFault). TellsTextCauses text query (Err g)) (sym e) (told_memory text query)
  | inr is ↦ subst (λ (g : CompileFault). TellsTextCauses text query (Err g)) (sym is.0) (told_schema text query f is.1)
]
