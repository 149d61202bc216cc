-- Each text has one reading, and no fault of a text is want of memory.
use Rattle.std.proofs.Common.{◌≡◌, ◌↔◌, ◌⊎◌, inl, inr, ℕ, Bool, true, false, cond, List, [], ◌∷◌, Option, Some, None, Result, Ok, Err, refl, sym, ◌∙◌}
use Rattle.std.specs.Prelude.{bytes_eq, codes, nat_le, nat_lt, not, length, ◌==◌}
use Rattle.gl_values.specs.declared.kind.Kind.{Kind}
use Rattle.gl_schema.specs.declared.fault.SchemaFault.{SchemaFault}
use Rattle.gl_schema.specs.declared.fault.SchemaFault.TheVariants.{Syntax, BadName, BadKind, Twice, TooMany, Memory}
use Rattle.gl_schema.specs.declared.schema.Stream.{Stream}
use Rattle.gl_schema.specs.declared.schema.Schema.{Schema}
use Rattle.gl_schema.specs.declared.reading.Reading.{Reading}
use Rattle.gl_schema.specs.declared.reading.Place.{Place}
use Rattle.gl_schema.specs.declared.reading.Place.TheVariants as place
use Rattle.gl_schema.specs.Names.{is_name}
use Rattle.gl_schema.specs.Schemas.{has_stream, has_column}
use Rattle.gl_schema.specs.SchemaText.{Mark, Word, Sign, Token, tokens_of, IsSchemaText}
use Rattle.gl_schema.specs.SchemaFaults.{mark_at, word_at, sign_at, kind_next, parameter_kind, kind_named, end_at, schema_from, schema_of, IsFirstFault, ◌>>=◌}
use Rattle.gl_schema.proofs.Complete.{read_again}
use Rattle.gl_schema.proofs.Sound.{read_is}

-- ---- a schema or a fault

same_schema : (s t : Schema) → ◌≡◌ {A = Result Schema SchemaFault} (Ok s) (Ok t) → s ≡ t
same_schema s t e = cc

pub schema_is_read : (text : List ℕ) (s : Schema) → (schema_of text ≡ Ok s) ↔ IsSchemaText text s
schema_is_read text s = (read_is text s, read_again text s)

pub one_schema : (text : List ℕ) (s t : Schema) → IsSchemaText text s → IsSchemaText text t → s ≡ t
one_schema text s t a b = same_schema s t (sym (read_again text s a) ∙ read_again text t b)

either_in : (text : List ℕ) (r : Result Schema SchemaFault) → schema_of text ≡ r → ((s : Schema) × IsSchemaText text s) ⊎ ((e : SchemaFault) × IsFirstFault text e)
either_in text (Ok s) h = inl (s, read_is text s h)
either_in text (Err e) h = inr (e, h)

pub schema_or_fault : (text : List ℕ) → ((s : Schema) × IsSchemaText text s) ⊎ ((e : SchemaFault) × IsFirstFault text e)
schema_or_fault text = either_in text (schema_of text) refl

pub not_both : (text : List ℕ) (s : Schema) (e : SchemaFault) → IsSchemaText text s → IsFirstFault text e → ⊥
not_both text s e is fault = let z : ◌≡◌ {A = Result Schema SchemaFault} (Ok s) (Err e) = sym (read_again text s is) ∙ fault in absurd cc

-- ---- no step tells want of memory

abbrev IsOfText : {A : Type 0} → Result A SchemaFault → Type 0
IsOfText (Ok x) = Unit {0}
IsOfText (Err Memory) = ⊥
IsOfText (Err (Syntax at)) = Unit {0}
IsOfText (Err (BadName at)) = Unit {0}
IsOfText (Err (BadKind at)) = Unit {0}
IsOfText (Err (Twice at)) = Unit {0}
IsOfText (Err (TooMany at)) = Unit {0}

text_if : {A : Type 0} (b : Bool) (x y : Result A SchemaFault) → IsOfText x → IsOfText y → IsOfText (cond b x y)
text_if true x y h k = h
text_if false x y h k = k

kind_of_text : (r : Reading) (s : Stream) (name : List ℕ) (at : ℕ) (k : Option Kind) → IsOfText (kind_next r s name at k)
kind_of_text r s name at None = tt
kind_of_text r s name at (Some kind) = tt

parameter_kind_of_text : (r : Reading) (name : List ℕ) (at : ℕ) (k : Option Kind) → IsOfText (parameter_kind r name at k)
parameter_kind_of_text r name at None = tt
parameter_kind_of_text r name at (Some kind) = tt

word_of_text : (p : Place) (r : Reading) (at : ℕ) (w : List ℕ) → IsOfText (word_at p r at w)
word_of_text place.Declaration r at w = text_if (bytes_eq w (codes "stream")) _ _ (text_if (nat_le 8 (length r.schema.streams)) _ _ tt tt)
    (text_if (bytes_eq w (codes "parameter")) _ _ (text_if (nat_le 32 (length r.schema.parameters)) _ _ tt tt) tt)
word_of_text place.Name r at w = text_if (not (is_name w)) _ _ tt (text_if (has_stream r.schema.streams w) _ _ tt tt)
word_of_text (place.Opening name) r at w = tt
word_of_text (place.Column s) r at w = text_if (not (is_name w)) _ _ tt (text_if (nat_le 32 (length s.columns)) _ _ tt (text_if (has_column s.columns w) _ _ tt tt))
word_of_text (place.Kind s name) r at w = kind_of_text r s name at (kind_named w)
word_of_text (place.Comma s) r at w = tt
word_of_text (place.Close s) r at w = tt
word_of_text place.Parameter r at w = text_if (not (is_name w)) _ _ tt (text_if (has_column r.schema.parameters w) _ _ tt tt)
word_of_text (place.ParameterKind name) r at w = parameter_kind_of_text r name at (kind_named w)
word_of_text (place.ParameterClose p) r at w = tt

sign_of_text : (p : Place) (r : Reading) (at b : ℕ) → IsOfText (sign_at p r at b)
sign_of_text place.Declaration r at b = tt
sign_of_text place.Name r at b = tt
sign_of_text (place.Opening name) r at b = text_if (b == 40) _ _ tt tt
sign_of_text (place.Column s) r at b = tt
sign_of_text (place.Kind s name) r at b = tt
sign_of_text (place.Comma s) r at b = text_if (b == 44) _ _ tt (text_if (b == 41) _ _ tt tt)
sign_of_text (place.Close s) r at b = text_if (b == 59) _ _ tt tt
sign_of_text place.Parameter r at b = tt
sign_of_text (place.ParameterKind name) r at b = tt
sign_of_text (place.ParameterClose p) r at b = text_if (b == 59) _ _ tt tt

mark_of_text : (m : Mark) (r : Reading) (at : ℕ) → IsOfText (mark_at m r at)
mark_of_text (Word w) r at = word_of_text r.place r at w
mark_of_text (Sign b) r at = sign_of_text r.place r at b

end_of_text : (p : Place) (schema : Schema) (at : ℕ) → IsOfText (end_at p schema at)
end_of_text place.Declaration schema at = text_if (nat_lt 0 (length schema.streams)) _ _ tt tt
end_of_text place.Name schema at = tt
end_of_text (place.Opening name) schema at = tt
end_of_text (place.Column s) schema at = tt
end_of_text (place.Kind s name) schema at = tt
end_of_text (place.Comma s) schema at = tt
end_of_text (place.Close s) schema at = tt
end_of_text place.Parameter schema at = tt
end_of_text (place.ParameterKind name) schema at = tt
end_of_text (place.ParameterClose p) schema at = tt

then_of_text : {A B : Type 0} (x : Result A SchemaFault) (f : A → Result B SchemaFault) → IsOfText x → ((y : A) → IsOfText (f y)) → IsOfText (x >>= f)
then_of_text (Ok x) f h k = k x
then_of_text (Err (Syntax at)) f h k = tt
then_of_text (Err (BadName at)) f h k = tt
then_of_text (Err (BadKind at)) f h k = tt
then_of_text (Err (Twice at)) f h k = tt
then_of_text (Err (TooMany at)) f h k = tt
then_of_text (Err Memory) f h k = absurd h

read_of_text : (len : ℕ) (ts : List Token) (r : Reading) → IsOfText (schema_from len ts r)
read_of_text len [] r = end_of_text r.place r.schema len
read_of_text len (t ∷ ts) r = then_of_text (mark_at t.mark r t.at) (schema_from len ts) (mark_of_text t.mark r t.at) (read_of_text len ts)

no_memory : (r : Result Schema SchemaFault) → IsOfText r → r ≡ Err Memory → ⊥
no_memory (Ok s) h e = absurd cc
no_memory (Err (Syntax at)) h e = absurd cc
no_memory (Err (BadName at)) h e = absurd cc
no_memory (Err (BadKind at)) h e = absurd cc
no_memory (Err (Twice at)) h e = absurd cc
no_memory (Err (TooMany at)) h e = absurd cc
no_memory (Err Memory) h e = h

pub fault_is_of_text : (text : List ℕ) → IsFirstFault text Memory → ⊥
unfolding schema_of
fault_is_of_text text h = no_memory (schema_of text) (read_of_text _ (tokens_of text) _) h
