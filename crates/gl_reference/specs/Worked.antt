-- Statements that are accepted over two streams of trades, and statements that are not.
use Rattle.std.specs.Prelude.{true, false, List, [], ◌∷◌, Some, None, codes}
use Rattle.gl_values.specs.declared.kind.Kind.TheVariants.{Unsigned, Text}
use Rattle.gl_schema.specs.declared.schema.Column.{Column}
use Rattle.gl_schema.specs.declared.schema.Stream.{Stream}
use Rattle.gl_values.specs.declared.op.Op.TheVariants as op
use Rattle.gl_query.specs.declared.tree.Measure.TheVariants.{Tuples, Time}
use Rattle.gl_query.specs.Shapes.{ExprShape, AggShape, QueryShape, Binary, Letters, Number, Count, All, Items, Read, Rows, Total, Each, Union, Concat}
use Rattle.gl_query.specs.Shapes as shape
use Rattle.gl_query.specs.Accepted.{Scope, IsAcceptedOver}

-- a symbol, a price and a volume
abbrev pub trade : List Column
trade =
    record { name = codes "symbol"; kind = Text 4 } ∷ record { name = codes "price"; kind = Unsigned 32 }
    ∷ record { name = codes "volume"; kind = Unsigned 32 } ∷ []

-- two streams of trades with the same columns
abbrev pub streams : List Stream
streams = record { name = codes "trades"; columns = trade } ∷ record { name = codes "other"; columns = trade } ∷ []

-- a scope of both streams, whose rows have times
abbrev pub scope : Scope
scope = record { sources = streams; timed = true }

-- the column of the symbol
abbrev pub symbol : ExprShape
symbol = shape.Column (codes "symbol")

-- the column of the price
abbrev pub price : ExprShape
price = shape.Column (codes "price")

-- the column of the volume
abbrev pub volume : ExprShape
volume = shape.Column (codes "volume")

-- the stream of trades as a query
abbrev pub trades : QueryShape
trades = Read (codes "trades")

-- the variable of a body as a query
abbrev pub it : QueryShape
it = Read (codes "it")

-- SELECT e AS x FROM source
abbrev pub select : ExprShape → QueryShape → QueryShape
select e source = Rows (Items (record { expr = e; name = codes "x" } ∷ [])) None source

-- SELECT * FROM source WHERE e
abbrev pub where_is : ExprShape → QueryShape → QueryShape
where_is e source = Rows All (Some e) source

-- SELECT agg AS n FROM source
abbrev pub total : AggShape → QueryShape → QueryShape
total agg source = Total (record { agg = agg; name = codes "n" } ∷ []) source

-- symbol = 'UBSN'
abbrev pub is_ubsn : ExprShape
is_ubsn = Binary op.Eq symbol (Letters (codes "UBSN"))

-- each of these is accepted
pub record AreAccepted : Type 0 where
  pub filtered : IsAcceptedOver scope (where_is is_ubsn trades)
  pub timed : IsAcceptedOver scope (Each Time (codes "it") trades 63 1 (total Count it))
  pub counted : IsAcceptedOver scope (Each Tuples (codes "it") trades 4 2 (total Count (where_is is_ubsn it)))
  pub summed : IsAcceptedOver scope (Concat (select price trades)
      (Rows (Items (record { expr = Binary op.Add price volume; name = codes "pv" } ∷ [])) None trades))

-- none of these is: a text as a number, a number that is too wide, a filter that is no bit, unlike columns, unlike
-- paces, a body that does not close, too many windows open at once, also in time, and a window of time over what is no
-- stream of the schema, also under a stream's name
pub record AreRefused : Type 0 where
  pub mixed : IsAcceptedOver scope (where_is (Binary op.Eq symbol (Number 5)) trades) → ⊥
  pub wide : IsAcceptedOver scope (where_is (Binary op.Lt price (Number 4294967296)) trades) → ⊥
  pub no_bit : IsAcceptedOver scope (where_is price trades) → ⊥
  pub unlike : IsAcceptedOver scope (Union (select price trades) (select symbol trades)) → ⊥
  pub unpaced : IsAcceptedOver scope (Concat (select price trades) (total Count trades)) → ⊥
  pub open' : IsAcceptedOver scope (Each Tuples (codes "it") trades 4 2 (select price it)) → ⊥
  pub many : IsAcceptedOver scope (Each Tuples (codes "it") trades 65 1 (total Count it)) → ⊥
  pub many_times : IsAcceptedOver scope (Each Time (codes "it") trades 64 1 (total Count it)) → ⊥
  pub no_time : IsAcceptedOver scope (Each Time (codes "it") (select price trades) 2 2 (total Count it)) → ⊥
  pub no_time_inside : IsAcceptedOver (record { sources = streams; timed = false })
      (Each Time (codes "it") trades 2 2 (total Count it)) → ⊥
