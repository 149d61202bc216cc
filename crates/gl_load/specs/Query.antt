-- The schema of the load and its query, and the texts that have them.
use Rattle.std.specs.Prelude.{ℕ, false, List, [], ◌∷◌, ◌++◌, codes, Some, None}
use Rattle.gl_values.specs.declared.kind.Kind.{Kind}
use Rattle.gl_values.specs.declared.kind.Kind.TheVariants.{Unsigned, Text}
use Rattle.gl_values.specs.declared.op.Op.TheVariants.{Eq}
use Rattle.gl_schema.specs.declared.schema.Column.{Column as NamedColumn}
use Rattle.gl_schema.specs.declared.schema.Schema.{Schema}
use Rattle.gl_query.specs.declared.tree.Measure.TheVariants.{Tuples}
use Rattle.gl_query.specs.declared.tree.Name.{Name}
use Rattle.gl_query.specs.declared.tree.Num.{Num}
use Rattle.gl_query_tokens.specs.declared.token.Fold.TheVariants.{Sum, Max}
use Rattle.gl_query_reader.specs.Written.{Item, Statement, Column, Letters, Binary, Count, Fold', Total, Items, Stream, Select}

-- ---- the schema

-- a column of this name and kind
abbrev pub column : List ℕ → Kind → NamedColumn
column name kind = record { name = name; kind = kind }

-- the columns of the load's stream: a symbol of four letters, and a price and a volume of 32 bits
abbrev pub load_columns : List NamedColumn
load_columns =
    column (codes "symbol") (Text 4) ∷ column (codes "price") (Unsigned 32) ∷ column (codes "volume") (Unsigned 32) ∷ []

-- the load's schema: the one stream `trades`
abbrev pub load_schema : Schema
load_schema = record { streams = record { name = codes "trades"; columns = load_columns } ∷ []; parameters = [] }

-- the text of the load's schema
unfoldable pub schema_text : List ℕ
schema_text = codes "stream trades (symbol text4, price u32, volume u32);"

-- ---- the query

-- the load's query: count, volume and highest price of one symbol in each 600 trades, every 60 trades
unfoldable pub query_text : List ℕ
query_text =
    codes "SELECT count() AS n, sum(volume) AS v, max(price) AS top "
    ++ codes "FROM trades [SIZE 600 ADVANCE 60 TUPLES] WHERE symbol = 'UBSN' INTO load"

-- a name with the byte where it stands
abbrev pub name : List ℕ → ℕ → Name
name text at = record { text = text; at = at }

-- a number with the byte where it stands
abbrev pub number : ℕ → ℕ → Num
number value at = record { value = value; at = at }

-- the query as it is written
abbrev pub load_items : List Item
load_items =
    Total (Count 7 12) (name (codes "n") 18)
    ∷ Total (Fold' Sum 21 24 (Column (name (codes "volume") 25))) (name (codes "v") 36)
    ∷ Total (Fold' Max 39 42 (Column (name (codes "price") 43))) (name (codes "top") 53)
    ∷ []

-- the load's query as it is written, with its places in the text
abbrev pub load_written : Statement
load_written = record {
  query =
      Select (Items load_items) (Stream (name (codes "trades") 62))
      (Some (record { at = 70; size = number 600 75; advance = number 60 87; measure = Tuples }))
      (Some (Binary Eq 111 (Column (name (codes "symbol") 104)) (Letters (codes "UBSN") 113))) None;
  name = name (codes "load") 125;
  closed = false;
}
