-- The leaves of an accepted statement's plan are streams of the schema.
use Rattle.std.proofs.Common.{◌≡◌, ℕ, suc, ◌+◌, Bool, true, false, List, [], ◌∷◌, ◌++◌, Some, refl, ap, subst, ◌∙◌, arith}
use Rattle.std.specs.Prelude.{IsTrue, bytes_eq, slice_get}
use Rattle.std.specs.List.{list_any}
use Rattle.gl_schema.specs.declared.schema.Column.{Column}
use Rattle.gl_schema.specs.declared.schema.Stream.{Stream}
use Rattle.gl_schema.specs.declared.schema.Schema.{Schema}
use Rattle.gl_schema.specs.Schemas.{has_stream, kinds_of}
use Rattle.gl_query.specs.Accepted.{IsAcceptedOver, schema_scope}
use Rattle.gl_query.specs.Columns.{source_columns}
use Rattle.gl_query.specs.Shapes.{QueryShape}
use Rattle.gl_query.specs.Shapes as shape
use Rattle.gl_algebra.specs.declared.node.PlanNode.{PlanNode}
use Rattle.gl_algebra.specs.declared.node.PlanNode.TheVariants as node
use Rattle.gl_elaborate.specs.Plans.{stream_node, stream_number}
use Rattle.gl_elaborate.proofs.PastLemmas.{among_streams}
use Rattle.gl_elaborate.specs.Right.{leaves_of}
use Rattle.gl_wiring.specs.StreamWires.{AreStreamLeaves}

-- the first stream of a name
record IsFirst (ss : List Stream) (name : List ℕ) : Type 0 where
  stream : Stream
  there : slice_get ss (stream_number ss name) ≡ Some stream
  columns : source_columns ss name ≡ stream.columns

next_at : (y : Stream) (ys : List Stream) (i : ℕ) → slice_get (y ∷ ys) (1 + i) ≡ slice_get ys i
next_at y ys i = let e : suc i ≡ 1 + i = omega arith in subst (λ (j : ℕ). slice_get (y ∷ ys) j ≡ slice_get ys i) e refl

first_of : (ss : List Stream) (name : List ℕ) → IsTrue (has_stream ss name) → IsFirst ss name
unfolding has_stream
first_of [] name h = absurd cc
first_of (s ∷ ss) name h = by (bytes_eq name s.name) refl (first_of ss name)
  where
    by : (b : Bool) → bytes_eq name s.name ≡ b → (IsTrue (list_any (λ (x : Stream). bytes_eq name x.name) ss) → IsFirst ss name) → IsFirst (s ∷ ss) name
    by true e rest = record { stream = s; there = rw e refl; columns = rw e refl }
    by false e rest =
        let r = rest (rw e at h) in
        record { stream = r.stream; there = rw e (next_at s ss (stream_number ss name) ∙ r.there); columns = rw e r.columns }

join_streams : (schema : Schema) (xs ys : List PlanNode) → AreStreamLeaves schema.streams xs → AreStreamLeaves schema.streams ys → AreStreamLeaves schema.streams (xs ++ ys)
join_streams schema [] ys h k = k
join_streams schema (x ∷ xs) ys h k = (h.0, join_streams schema xs ys h.1 k)

pub leaves_are_streams : (schema : Schema) (q : QueryShape) → IsAcceptedOver (schema_scope schema) q → AreStreamLeaves schema.streams (leaves_of (stream_node schema.streams) q)
leaves_are_streams schema (shape.Read name) a =
    let f = first_of schema.streams name (among_streams schema.parameters schema.streams name a) in (
      record {
        number = stream_number schema.streams name;
        stream = f.stream;
        is = ap (λ (cs : List Column). node.Stream (stream_number schema.streams name) (kinds_of cs)) f.columns;
        there = f.there;
      },
      tt,
    )
leaves_are_streams schema (shape.Rows pick filter source) a = leaves_are_streams schema source a.0
leaves_are_streams schema (shape.Total aggs source) a = leaves_are_streams schema source a.0
leaves_are_streams schema (shape.Frames items filter slots source) a = leaves_are_streams schema source a.0
leaves_are_streams schema (shape.Each measure var source size advance body) a = leaves_are_streams schema source a.0
leaves_are_streams schema (shape.PerGroup var source key groups body) a = leaves_are_streams schema source a.0
leaves_are_streams schema (shape.Partition var source key groups size advance body) a = leaves_are_streams schema source a.0
leaves_are_streams schema (shape.Union l r) a =
    join_streams schema (leaves_of (stream_node schema.streams) l) (leaves_of (stream_node schema.streams) r) (leaves_are_streams schema l a.0) (leaves_are_streams schema r a.1)
leaves_are_streams schema (shape.ByArrival l r) a =
    join_streams schema (leaves_of (stream_node schema.streams) l) (leaves_of (stream_node schema.streams) r) (leaves_are_streams schema l a.0) (leaves_are_streams schema r a.1)
leaves_are_streams schema (shape.AsOf l r slots) a =
    join_streams schema (leaves_of (stream_node schema.streams) r) (leaves_of (stream_node schema.streams) l) (leaves_are_streams schema r a.1) (leaves_are_streams schema l a.0)
leaves_are_streams schema (shape.Concat l r) a =
    join_streams schema (leaves_of (stream_node schema.streams) l) (leaves_of (stream_node schema.streams) r) (leaves_are_streams schema l a.0) (leaves_are_streams schema r a.1)
