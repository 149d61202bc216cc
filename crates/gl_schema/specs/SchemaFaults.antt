-- The first fault of a text that has no schema, read from the left.
use Rattle.std.specs.Prelude.{◌≡◌, ℕ, ◌∷◌, not, List, [], ◌++◌, length, codes, bytes_eq, nat_le, nat_lt, ◌==◌, find, Option, Some, None, Result, Ok, Err, if◌then◌else◌}
use Rattle.gl_values.specs.declared.kind.Kind.{Kind}
use Rattle.gl_bits.specs.Limits.{most_columns, most_streams}
use Rattle.gl_schema.specs.declared.schema.Column.{Column}
use Rattle.gl_schema.specs.declared.schema.Stream.{Stream}
use Rattle.gl_schema.specs.declared.schema.Schema.{Schema}
use Rattle.gl_schema.specs.declared.fault.SchemaFault.{SchemaFault}
use Rattle.gl_schema.specs.declared.fault.SchemaFault.TheVariants.{Syntax, BadName, BadKind, Twice, TooMany, Memory}
use Rattle.gl_schema.specs.declared.reading.Place.{Place}
use Rattle.gl_schema.specs.declared.reading.Place.TheVariants as place
use Rattle.gl_schema.specs.declared.reading.Reading.{Reading}
use Rattle.gl_schema.specs.Names.{is_name}
use Rattle.gl_schema.specs.Schemas.{has_stream, has_column}
use Rattle.gl_schema.specs.SchemaText.{Token, Mark, Word, Sign, kind_text, tokens_of}
use Rattle.gl_schema.specs.Written.{kinds}

-- the kind that a word is the text of
unfoldable pub kind_named : List ℕ → Option Kind
kind_named w = find (λ k. bytes_eq w (kind_text k)) kinds

-- reading goes on at another place
abbrev pub goes_to : Reading → Place → Result Reading SchemaFault
goes_to r next = Ok (record r { place = next })

-- a stream begins, but no ninth one
abbrev pub stream_next : Reading → ℕ → Result Reading SchemaFault
stream_next r at =
    if nat_le most_streams (length r.schema.streams) then Err (TooMany at) else goes_to r place.Name

-- a parameter begins, but no 33rd one
abbrev pub parameter_next : Reading → ℕ → Result Reading SchemaFault
parameter_next r at =
    if nat_le most_columns (length r.schema.parameters) then Err (TooMany at) else goes_to r place.Parameter

-- `stream` begins a stream, and `parameter` a parameter
abbrev pub declaration_next : Reading → ℕ → List ℕ → Result Reading SchemaFault
declaration_next r at w =
    if bytes_eq w (codes "stream") then stream_next r at else if bytes_eq w (codes "parameter")
    then parameter_next r at else Err (Syntax at)

-- in a stream's place a name that no stream has
abbrev pub name_next : Reading → ℕ → List ℕ → Result Reading SchemaFault
name_next r at w =
    if not (is_name w) then Err (BadName at) else if has_stream r.schema.streams w then Err (Twice at)
    else goes_to r (place.Opening w)

-- in a column's place a name that no column of the stream has, but no 33rd one
abbrev pub column_next : Reading → Stream → ℕ → List ℕ → Result Reading SchemaFault
column_next r s at w =
    if not (is_name w) then Err (BadName at) else if nat_le most_columns (length s.columns) then Err (TooMany at)
    else if has_column s.columns w then Err (Twice at) else goes_to r (place.Kind s w)

-- a stream with one more column
abbrev pub with_column : Stream → List ℕ → Kind → Stream
with_column s name kind = record s { columns = s.columns ++ record { name = name; kind = kind } ∷ [] }

-- in a kind's place a kind
abbrev pub kind_next : Reading → Stream → List ℕ → ℕ → Option Kind → Result Reading SchemaFault
kind_next r s name at None = Err (BadKind at)
kind_next r s name at (Some kind) = goes_to r (place.Comma (with_column s name kind))

-- in a parameter's place a name that no parameter has
abbrev pub parameter_named : Reading → ℕ → List ℕ → Result Reading SchemaFault
parameter_named r at w =
    if not (is_name w) then Err (BadName at) else if has_column r.schema.parameters w then Err (Twice at)
    else goes_to r (place.ParameterKind w)

-- in the place of a parameter's kind a kind
abbrev pub parameter_kind : Reading → List ℕ → ℕ → Option Kind → Result Reading SchemaFault
parameter_kind r name at None = Err (BadKind at)
parameter_kind r name at (Some kind) = goes_to r (place.ParameterClose (record { name = name; kind = kind }))

-- a word at each place
abbrev pub word_at : Place → Reading → ℕ → List ℕ → Result Reading SchemaFault
word_at place.Declaration r at w = declaration_next r at w
word_at place.Name r at w = name_next r at w
word_at (place.Opening name) r at w = Err (Syntax at)
word_at (place.Column s) r at w = column_next r s at w
word_at (place.Kind s name) r at w = kind_next r s name at (kind_named w)
word_at (place.Comma s) r at w = Err (Syntax at)
word_at (place.Close s) r at w = Err (Syntax at)
word_at place.Parameter r at w = parameter_named r at w
word_at (place.ParameterKind name) r at w = parameter_kind r name at (kind_named w)
word_at (place.ParameterClose p) r at w = Err (Syntax at)

-- one sign stands at this place
abbrev pub only : ℕ → ℕ → ℕ → Result Reading SchemaFault → Result Reading SchemaFault
only wanted at b next = if b == wanted then next else Err (Syntax at)

-- a schema with one more stream
abbrev pub with_stream : Schema → Stream → Schema
with_stream schema s = record schema { streams = schema.streams ++ s ∷ [] }

-- a schema with one more parameter
abbrev pub with_parameter : Schema → Column → Schema
with_parameter schema p = record schema { parameters = schema.parameters ++ p ∷ [] }

-- a schema has one more declaration, and another may follow
abbrev pub declared : Schema → Result Reading SchemaFault
declared schema = Ok (record { schema = schema; place = place.Declaration })

-- a sign at each place
abbrev pub sign_at : Place → Reading → ℕ → ℕ → Result Reading SchemaFault
sign_at place.Declaration r at b = Err (Syntax at)
sign_at place.Name r at b = Err (Syntax at)
sign_at (place.Opening name) r at b = only 40 at b (goes_to r (place.Column (record { name = name; columns = [] })))
sign_at (place.Column s) r at b = Err (Syntax at)
sign_at (place.Kind s name) r at b = Err (Syntax at)
sign_at (place.Comma s) r at b =
    if b == 44 then goes_to r (place.Column s) else only 41 at b (goes_to r (place.Close s))
sign_at (place.Close s) r at b = only 59 at b (declared (with_stream r.schema s))
sign_at place.Parameter r at b = Err (Syntax at)
sign_at (place.ParameterKind name) r at b = Err (Syntax at)
sign_at (place.ParameterClose p) r at b = only 59 at b (declared (with_parameter r.schema p))

-- the next token: where reading stands behind it, or the fault that it shows
abbrev pub mark_at : Mark → Reading → ℕ → Result Reading SchemaFault
mark_at (Word w) r at = word_at r.place r at w
mark_at (Sign b) r at = sign_at r.place r at b

-- a schema that has a stream
abbrev pub with_streams : Schema → ℕ → Result Schema SchemaFault
with_streams schema at = if nat_lt 0 (length schema.streams) then Ok schema else Err (Syntax at)

-- at the end of the text some streams have come, and nothing else is begun
abbrev pub end_at : Place → Schema → ℕ → Result Schema SchemaFault
end_at place.Declaration schema at = with_streams schema at
end_at place.Name schema at = Err (Syntax at)
end_at (place.Opening name) schema at = Err (Syntax at)
end_at (place.Column s) schema at = Err (Syntax at)
end_at (place.Kind s name) schema at = Err (Syntax at)
end_at (place.Comma s) schema at = Err (Syntax at)
end_at (place.Close s) schema at = Err (Syntax at)
end_at place.Parameter schema at = Err (Syntax at)
end_at (place.ParameterKind name) schema at = Err (Syntax at)
end_at (place.ParameterClose p) schema at = Err (Syntax at)

-- a step that may show a fault, and what follows it
infixl 10 ◌>>=◌
abbrev pub ◌>>=◌ : {A B : Type 0} → Result A SchemaFault → (A → Result B SchemaFault) → Result B SchemaFault
(Ok x) >>= f = f x
(Err e) >>= f = Err e

-- one token after another, in a text of this length
abbrev pub schema_from : ℕ → List Token → Reading → Result Schema SchemaFault
schema_from len [] r = end_at r.place r.schema len
schema_from len (t ∷ ts) r = mark_at t.mark r t.at >>= schema_from len ts

-- before the first token
abbrev pub start : Reading
start = record { schema = record { streams = []; parameters = [] }; place = place.Declaration }

-- the schema of a text, or its first fault from the left
unfoldable pub schema_of : List ℕ → Result Schema SchemaFault
schema_of text = schema_from (length text) (tokens_of text) start

-- the first fault of a text that has no schema
abbrev pub IsFirstFault : List ℕ → SchemaFault → Type 0
IsFirstFault text fault = schema_of text ≡ Err fault

-- what a call answers is what reading gives, unless memory ran out
abbrev pub Fails : {A : Type 0} → SchemaFault → Result A SchemaFault → Type 0
Fails Memory read = Unit {0}
Fails (Syntax at) read = read ≡ Err (Syntax at)
Fails (BadName at) read = read ≡ Err (BadName at)
Fails (BadKind at) read = read ≡ Err (BadKind at)
Fails (Twice at) read = read ≡ Err (Twice at)
Fails (TooMany at) read = read ≡ Err (TooMany at)

-- what code answers is what the text gives; want of memory may come with any text
abbrev pub Gives : {A : Type 0} → Result A SchemaFault → Result A SchemaFault → Type 0
Gives (Ok x) read = read ≡ Ok x
Gives (Err e) read = Fails e read
