-- Two statements over trades, wherever they stand in a text, with what follows by hand from the definitions.
use Rattle.std.specs.Prelude.{ℕ, ◌≡◌, List, [], ◌∷◌, map, length, codes, Some, None}
use Rattle.gl_values.specs.declared.kind.Kind.{Kind}
use Rattle.gl_values.specs.declared.kind.Kind.TheVariants.{Unsigned, Text}
use Rattle.gl_values.specs.declared.op.Op.TheVariants as Op
use Rattle.gl_schema.specs.declared.schema.Column.{Column as NamedColumn}
use Rattle.gl_schema.specs.declared.schema.Schema.{Schema}
use Rattle.gl_query.specs.declared.tree.Statement.{Statement}
use Rattle.gl_query.specs.Shapes.{AggShape, QueryShape, query_shape}
use Rattle.gl_query.specs.Shapes as shape
use Rattle.gl_elaborate.specs.Plans.{Several, plans_of}
use Rattle.gl_root_gaps.specs.Together.{gap_together}
use Rattle.gl_plan.specs.Together.{latency_alone, weight_together}

-- a column of this name and kind
abbrev pub column : List ℕ → Kind → NamedColumn
column name kind = record { name = name; kind = kind }

-- the columns of a trade: its symbol, its price and its volume
abbrev pub trade_columns : List NamedColumn
trade_columns =
    column (codes "symbol") (Text 4) ∷ column (codes "price") (Unsigned 32)
    ∷ column (codes "volume") (Unsigned 32) ∷ []

-- a schema with the one stream of trades
abbrev pub trade_schema : Schema
trade_schema = record { streams = record { name = codes "trades"; columns = trade_columns } ∷ []; parameters = [] }

-- SELECT price FROM trades
abbrev pub prices : QueryShape
prices =
    shape.Rows (shape.Items (record { expr = shape.Column (codes "price"); name = codes "price" } ∷ [])) None
    (shape.Read (codes "trades"))

-- SELECT agg AS name FROM trades, all of them or those of a filter
abbrev pub total_of : AggShape → List ℕ → QueryShape → QueryShape
total_of agg name source = shape.Total (record { agg = agg; name = name } ∷ []) source

-- SELECT count() AS n FROM trades
abbrev pub counts : QueryShape
counts = total_of shape.Count (codes "n") (shape.Read (codes "trades"))

-- the trades with symbol = 'A'
abbrev pub trades_of_one : QueryShape
trades_of_one =
    shape.Rows shape.All (Some (shape.Binary Op.Eq (shape.Column (codes "symbol")) (shape.Letters (codes "A"))))
    (shape.Read (codes "trades"))

-- SELECT count() AS n FROM trades WHERE symbol = 'A'
abbrev pub counts_of_one : QueryShape
counts_of_one = total_of shape.Count (codes "n") trades_of_one

-- SELECT sum(price) AS v FROM trades WHERE symbol = 'A'
abbrev pub sums_of_one : QueryShape
sums_of_one = total_of (shape.Sum (shape.Column (codes "price"))) (codes "v") trades_of_one

-- what holds of the joint plan of two statements of these shapes
abbrev pub OfBoth : QueryShape → QueryShape → (Several → Type 0) → Type 0
OfBoth one other holds = (s t : Statement) → query_shape s.query ≡ one → query_shape t.query ≡ other
    → holds (plans_of [] trade_schema (s ∷ t ∷ []))

-- the latency of each root of a joint plan
abbrev pub latencies_in : Several → List ℕ
latencies_in all = map (latency_alone all.nodes) all.roots

-- nodes, roots, latencies, gap and weight of worked joint plans, by hand
pub record WorkedSeveral : Type 0 where
  -- the stream, its comparison, what is kept, its columns, the count and the sum
  pub shared : OfBoth counts_of_one sums_of_one (λ all. length all.nodes ≡ 6)
  -- a statement that stands twice has one plan
  pub twice : OfBoth counts counts (λ all. all.roots ≡ 1 ∷ 1 ∷ [])
  pub latencies : OfBoth prices counts (λ all. latencies_in all ≡ 1 ∷ 2 ∷ [])
  pub gap : OfBoth prices counts (λ all. gap_together all.nodes all.roots ≡ 1)
  -- 105 and 131: the stream (5) counts for each of them, beside a column (12) or a count (38), and an output (88)
  pub weight : OfBoth prices counts (λ all. weight_together all.nodes all.roots ≡ 236)
