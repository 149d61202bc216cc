-- Schemas: streams of named columns, parameters, and the rows of a stream.
use Rattle.std.specs.Prelude.{ℕ, ◌+◌, ◌*◌, ◌^◌, ◌<◌, ◌≤◌, ◌-◌, Bool, List, [], ◌∷◌, ◌++◌, length, map, replicate, bytes_eq, IsTrue}
use Rattle.std.specs.List.{AllByRecursion, IsDistinct, fold, list_any}
use Rattle.gl_bits.specs.Limits.{most_columns, most_streams}
use Rattle.gl_values.specs.declared.kind.Kind.{Kind}
use Rattle.gl_values.specs.Kinds.{width_of}
use Rattle.gl_schema.specs.declared.schema.Column.{Column}
use Rattle.gl_schema.specs.declared.schema.Stream.{Stream}
use Rattle.gl_schema.specs.declared.schema.Schema.{Schema}
use Rattle.gl_schema.specs.Names.{IsName}
use Rattle.gl_schema.specs.Written.{is_written}

-- the names of columns in their order
abbrev pub column_names : List Column → List (List ℕ)
column_names columns = map (λ c. c.name) columns

-- the names of streams in their order
abbrev pub stream_names : List Stream → List (List ℕ)
stream_names streams = map (λ s. s.name) streams

-- some column has this name
unfoldable pub has_column : List Column → List ℕ → Bool
has_column columns name = list_any (λ c. bytes_eq name c.name) columns

-- some stream has this name
unfoldable pub has_stream : List Stream → List ℕ → Bool
has_stream streams name = list_any (λ s. bytes_eq name s.name) streams

-- the kinds of columns, in order
abbrev pub kinds_of : List Column → List Kind
kinds_of columns = map (λ c. c.kind) columns

-- a column, or a parameter, has a name and a kind that is written
pub record IsColumn (c : Column) : Type 0 where
  pub name : IsName c.name
  pub kind : IsTrue (is_written c.kind)

-- a stream has a name and 1 to 32 columns, no two of one name
pub record IsStream (s : Stream) : Type 0 where
  pub name : IsName s.name
  pub some' : 1 ≤ length s.columns
  pub most : length s.columns ≤ most_columns
  pub columns : AllByRecursion IsColumn s.columns
  pub distinct : IsDistinct bytes_eq (column_names s.columns)

-- parameters are at most 32, each with a name and a kind, no two of one name
pub record AreParameters (parameters : List Column) : Type 0 where
  pub most : length parameters ≤ most_columns
  pub each : AllByRecursion IsColumn parameters
  pub distinct : IsDistinct bytes_eq (column_names parameters)

-- a schema has 1 to 8 streams, no two of one name, and parameters
pub record IsSchema (schema : Schema) : Type 0 where
  pub some' : 1 ≤ length schema.streams
  pub most : length schema.streams ≤ most_streams
  pub streams : AllByRecursion IsStream schema.streams
  pub distinct : IsDistinct bytes_eq (stream_names schema.streams)
  pub declared : AreParameters schema.parameters

-- the numbers of a row's words, one for each column, or parameter, each as wide as that
abbrev pub IsRowOf : List Column → List ℕ → Type 0
IsRowOf [] [] = Unit {0}
IsRowOf [] (n ∷ ns) = ⊥
IsRowOf (c ∷ cs) [] = ⊥
IsRowOf (c ∷ cs) (n ∷ ns) = (n < 2 ^ width_of c.kind) × IsRowOf cs ns

-- the number that bytes spell, the first byte highest
abbrev pub number_of : List ℕ → ℕ
number_of bytes = fold (λ n b. 256 * n + b) 0 bytes

-- a text in n bytes: zero bytes follow it
abbrev pub padded : ℕ → List ℕ → List ℕ
padded n text = text ++ replicate (n - length text) 0

-- the word of a text: its bytes as one number, the first one highest
unfoldable pub text_word : ℕ → List ℕ → ℕ
text_word n text = number_of (padded n text)
