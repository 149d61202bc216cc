use Rattle.std.proofs.Common.{◌≡◌, ◌∷◌, [], length, refl, ◌∙◌}
use Rattle.gl_query.specs.Columns.{sources_of}
use Rattle.gl_query.specs.Shapes.{QueryShape}
use Rattle.gl_schema.specs.Schemas.{text_word}
use Rattle.gl_algebra.specs.Added.{added}
use Rattle.gl_algebra.specs.FigureTable.{figures_of}
use Rattle.gl_algebra.specs.Nodewise.{nodewise, value_to_depth}
use Rattle.gl_algebra.specs.Shapes.{shape_of}
use Rattle.gl_algebra.specs.Weights.{weight_of}
use Rattle.gl_elaborate.specs.Levels.{level_of}
use Rattle.gl_elaborate.specs.Plans.{Several, placed, stream_node}
use Rattle.gl_plan.specs.Worked.{counts, counts_of_one, latencies_in, prices, sums_of_one, trade_schema}
use Rattle.gl_root_gaps.specs.Roots.{tick_gaps_at}
use Rattle.gl_root_gaps.specs.Together.{gap_together}
use Rattle.gl_plan.specs.Together.{weight_together}
use Rattle.gl_plan.proofs.several_laws.worked_several.Goals as goal

-- the joint plan of two queries
abbrev both : QueryShape → QueryShape → Several
both one other =
    let first = placed (stream_node trade_schema.streams) (sources_of trade_schema) one [] in
    let second = placed (stream_node trade_schema.streams) (sources_of trade_schema) other first.nodes in
    record { nodes = second.nodes; roots = first.root ∷ second.root ∷ [] }

six : length (both counts_of_one sums_of_one).nodes ≡ 6
unfolding added level_of text_word
six = refl

alike : (both counts counts).roots ≡ 1 ∷ 1 ∷ []
unfolding added level_of
alike = refl

apart : latencies_in (both prices counts) ≡ 1 ∷ 2 ∷ []
unfolding added level_of nodewise value_to_depth figures_of shape_of
apart = refl

close : gap_together (both prices counts).nodes (both prices counts).roots ≡ 1
unfolding added level_of nodewise value_to_depth figures_of shape_of tick_gaps_at
close = refl

heavy : weight_together (both prices counts).nodes (both prices counts).roots ≡ 236
unfolding added level_of nodewise value_to_depth figures_of shape_of weight_of
heavy = refl

pub returns : goal.returns
returns c = record {
  shared = λ s t p q. (λ i. length (both (p i) (q i)).nodes) ∙ six;
  twice = λ s t p q. (λ i. (both (p i) (q i)).roots) ∙ alike;
  latencies = λ s t p q. (λ i. latencies_in (both (p i) (q i))) ∙ apart;
  gap = λ s t p q. (λ i. gap_together (both (p i) (q i)).nodes (both (p i) (q i)).roots) ∙ close;
  weight = λ s t p q. (λ i. weight_together (both (p i) (q i)).nodes (both (p i) (q i)).roots) ∙ heavy;
}
