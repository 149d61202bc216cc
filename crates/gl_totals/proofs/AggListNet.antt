-- Aggregates side by side.
use Rattle.std.proofs.Common.{◌≡◌, ℕ, zero, suc, ◌+◌, ◌*◌, ◌<◌, ◌≤◌, List, [], ◌∷◌, ◌++◌, map, length, get_or, refl, sym, ap, ◌∙◌, arith}
use Rattle.std.specs.Prelude.{sum_by}
use Rattle.std.proofs.Math.Nat.{le-max_left, le-max_right}
use Rattle.std.proofs.lemmas.List.{length-append, map-append}
use Rattle.std.proofs.lemmas.List.Sums.{sum_by-append, sum_by-cons}
use Rattle.gl_values.specs.Kinds.{width_of}
use Rattle.gl_values.specs.declared.kind.Kind.{Kind}
use Rattle.gl_algebra.specs.declared.node.PlanAgg.{PlanAgg}
use Rattle.gl_algebra.specs.Columns.{kind_of_agg}
use Rattle.gl_algebra.specs.FigureTable.{delay_of_agg, delay_of_aggs}
use Rattle.gl_algebra.specs.Results.{total_of}
use Rattle.gl_algebra.specs.Weights.{weight_of_agg}
use Rattle.gl_net.specs.declared.node.Bus.{Bus}
use Rattle.gl_net.specs.Net.{Net}
use Rattle.gl_net.proofs.Determined.{keeps_then}
use Rattle.gl_net.proofs.Growth.{same_keeps}
use Rattle.gl_wire.proofs.ColumnLemmas.{AreBuses-none, AreBuses-push, buses_kept, row_at-none, row_at-push, widths-push}
use Rattle.gl_totals.specs.Costs.{kept_of_agg, lag_of, operand_of_agg, slot_words, state_of_agg}
use Rattle.gl_totals.specs.Totals.{AreAggsOf, IsAggOf, rows_at, total_row, total_widths}
use Rattle.gl_totals.specs.declared.total.Stream.{Stream}

-- none takes longer than the slowest
pub delay_within : (kinds : List Kind) (aggs : List PlanAgg) (i : ℕ) (d : PlanAgg) → i < length aggs → delay_of_agg kinds (get_or aggs i d) ≤ delay_of_aggs kinds aggs
delay_within kinds [] i d lt = absurd (omega arith)
delay_within kinds (agg ∷ aggs) zero d lt = le-max_left (delay_of_agg kinds agg) (delay_of_aggs kinds aggs)
delay_within kinds (agg ∷ aggs) (suc i) d lt =
    omega (arith, delay_within kinds aggs i d (omega arith), le-max_right (delay_of_agg kinds agg) (delay_of_aggs kinds aggs))

sum_push : (f : PlanAgg → ℕ) (aggs : List PlanAgg) (agg : PlanAgg) → sum_by f (aggs ++ agg ∷ []) ≡ sum_by f aggs + f agg
sum_push f aggs agg = sum_by-append f aggs (agg ∷ []) ∙ ap (λ n. sum_by f aggs + n) (sum_by-cons f agg [] ∙ omega arith)

pub aggs_none : (net : Net) (cycles : ℕ) (s : Stream) → AreAggsOf net net cycles s [] []
aggs_none net cycles s = record {
  keeps = same_keeps net;
  cost = record { nodes = omega arith; registers = omega arith; memories = omega arith };
  buses = AreBuses-none net;
  same_widths = refl;
  row = λ run r told t fresh. row_at-none run (suc t + cycles);
}

pub aggs_more : (old mid new : Net) (cycles : ℕ) (s : Stream) (aggs : List PlanAgg) (agg : PlanAgg) (bs : List Bus) (b : Bus) → AreAggsOf old mid cycles s aggs bs
    → IsAggOf mid new cycles cycles s agg b → AreAggsOf old new cycles s (aggs ++ agg ∷ []) (bs ++ b ∷ [])
aggs_more old mid new cycles s aggs agg bs b all one =
    let kinds = s.source.kinds.now in
    let lag = lag_of s.rows.keep in
    let words = slot_words s.rows.keep in
    let more : lag * length (aggs ++ agg ∷ []) ≡ lag * (length aggs + 1) = ap (λ n. lag * n) (length-append aggs (agg ∷ []) ∙ omega arith) in
    let operands : lag * sum_by (operand_of_agg kinds) (aggs ++ agg ∷ []) ≡ lag * (sum_by (operand_of_agg kinds) aggs + operand_of_agg kinds agg) =
    ap (λ n. lag * n) (sum_push (operand_of_agg kinds) aggs agg) in
    let kept : words * sum_by (kept_of_agg kinds) (aggs ++ agg ∷ []) ≡ words * (sum_by (kept_of_agg kinds) aggs + kept_of_agg kinds agg) =
    ap (λ n. words * n) (sum_push (kept_of_agg kinds) aggs agg) in
    record {
      keeps = keeps_then old mid new all.keeps one.keeps;
      cost = record {
        nodes = omega (arith, all.cost.nodes, one.cost.nodes, sum_push (λ a. cycles + weight_of_agg kinds a) aggs agg, more);
        registers = omega (arith, all.cost.registers, one.cost.registers, sum_push (λ a. state_of_agg kinds a + width_of (kind_of_agg kinds a) * cycles) aggs agg, operands);
        memories = omega (arith, all.cost.memories, one.cost.memories, kept);
      };
      buses = AreBuses-push new bs b (buses_kept mid new bs one.keeps all.buses) one.bus;
      same_widths = widths-push bs b ∙ ap (λ l. l ++ b.width ∷ []) all.same_widths ∙ ap (λ w. total_widths kinds aggs ++ w ∷ []) one.same_width
          ∙ sym (ap (map width_of) (map-append (kind_of_agg kinds) aggs (agg ∷ [])) ∙ map-append width_of (map (kind_of_agg kinds) aggs) (kind_of_agg kinds agg ∷ []));
      row = λ run r told t fresh.
          let rows = rows_at run s (suc t) in
          row_at-push run (suc t + cycles) bs b ∙ ap (λ l. l ++ run.at (suc t + cycles) b.node ∷ []) (all.row run (one.keeps.runs run r) told t fresh)
          ∙ ap (λ v. total_row run.held kinds aggs rows ++ v ∷ []) (one.carries run r told t fresh) ∙ sym (map-append (total_of run.held kinds rows) aggs (agg ∷ []));
    }
