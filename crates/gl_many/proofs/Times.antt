-- The nodes of a joint plan read the time where some statement does. They are those of the statements' UNION, which stands above them.
use Rattle.std.proofs.Common.{◌≡◌, ℕ, Bool, List, [], ◌∷◌, Box, Global, inl, inr, refl, sym, ap, ◌∙◌}
use Rattle.std.specs.Prelude.{◌||◌}
use Rattle.std.proofs.lemmas.List.Folds.{list_any-append}
use Rattle.gl_bits.proofs.Bools.{or_none}
use Rattle.gl_schema.specs.declared.schema.Schema.{Schema}
use Rattle.gl_query.specs.declared.tree.Query.{Query}
use Rattle.gl_query.specs.declared.tree.Query.TheVariants as query
use Rattle.gl_query.specs.declared.tree.Statement.{Statement}
use Rattle.gl_query.specs.Columns.{sources_of}
use Rattle.gl_query.specs.Shapes.{QueryShape, query_shape}
use Rattle.gl_query.specs.Windows.{has_time}
use Rattle.gl_algebra.specs.declared.node.PlanNode.{PlanNode}
use Rattle.gl_algebra.specs.declared.node.PlanNode.TheVariants as node
use Rattle.gl_algebra.specs.Added.{Placed, added}
use Rattle.gl_algebra.specs.Views.{is_time, reads_time}
use Rattle.gl_algebra.proofs.PlanLemmas.{node_inserted}
use Rattle.gl_elaborate.specs.Laws.{PlansTellTime}
use Rattle.gl_elaborate.specs.Plans.{placed, plan_behind, plans_of, stream_node}
use Rattle.gl_compiler.specs.Meets.{takes_ticks}
use Rattle.gl_many.specs.Meets.{take_ticks}
use denote.RawPtr.{null_ptr}

-- a place for a side of a query; where that lies is all one
abbrev nowhere : Global → Box (Unit {0}) Global
nowhere heap = record { ptr = null_ptr; alloc = heap; value = tt }

-- the UNION of the queries of statements
abbrev united : Global → Statement → List Statement → Query
united heap s [] = s.query
united heap s (t ∷ ss) = query.Union' (nowhere heap) s.query (nowhere heap) (united heap t ss) 0

abbrev as_statement : Query → Statement
as_statement q = record { query = q; name = record { text = []; at = 0 } }

united_time : (heap : Global) (ss : List Statement) (s : Statement) → has_time (query_shape (united heap s ss)) ≡ take_ticks (s ∷ ss)
united_time heap [] s = sym (or_none (takes_ticks s))
united_time heap (t ∷ ss) s = ap (λ (b : Bool). takes_ticks s || b) (united_time heap ss t)

abbrev shape_at : List PlanNode → Schema → QueryShape → Placed
shape_at nodes schema q = placed (stream_node schema.streams) (sources_of schema) q nodes

-- a UNION above a plan's nodes reads no time
union_quiet : (nodes : List PlanNode) (left right : ℕ) → reads_time (added nodes (node.Union left right)).nodes ≡ reads_time nodes
unfolding added
union_quiet nodes left right =
    elim (node_inserted nodes (node.Union left right)).grows [
      | inl same ↦ ap reads_time same
      | inr more ↦ ap reads_time more ∙ list_any-append is_time nodes (node.Union left right ∷ []) ∙ or_none (reads_time nodes)
    ]

united_plan : (heap : Global) (ss : List Statement) (s : Statement) (nodes : List PlanNode) (schema : Schema)
    → reads_time (shape_at nodes schema (query_shape (united heap s ss))).nodes ≡ reads_time (plans_of nodes schema (s ∷ ss)).nodes
united_plan heap [] s nodes schema = refl
united_plan heap (t ∷ ss) s nodes schema =
    let left = plan_behind nodes schema s in
    let right = shape_at left.nodes schema (query_shape (united heap t ss)) in
    union_quiet right.nodes left.root right.root ∙ united_plan heap ss t left.nodes schema

-- the nodes of several statements read the time exactly where one of them does
pub several-time : PlansTellTime → (heap : Global) (schema : Schema) (ss : List Statement) → reads_time (plans_of [] schema ss).nodes ≡ take_ticks ss
several-time time heap schema [] = refl
several-time time heap schema (s ∷ ss) = sym (united_plan heap ss s [] schema) ∙ time schema (as_statement (united heap s ss)) ∙ united_time heap ss s
