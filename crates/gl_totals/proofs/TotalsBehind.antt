-- All aggregates of a node, behind a wire.
use Rattle.std.proofs.Common.{◌≡◌, ℕ, zero, suc, ◌+◌, ◌*◌, ◌≤◌, List, [], ◌∷◌, length, Some, None, Bool, true, false, refl, sym, ap, ◌∙◌, arith}
use Rattle.std.specs.Prelude.{if◌then◌else◌, sum_by}
use Rattle.std.proofs.lemmas.List.Sums.{sum_by-cons}
use Rattle.gl_values.specs.Results.{Row}
use Rattle.gl_values.specs.declared.kind.Kind.{Kind}
use Rattle.gl_algebra.specs.declared.node.PlanAgg.{PlanAgg}
use Rattle.gl_algebra.specs.FigureTable.{delay_of_aggs}
use Rattle.gl_algebra.specs.Weights.{weight_of_agg}
use Rattle.gl_net.specs.declared.node.Bus.{Bus}
use Rattle.gl_net.specs.declared.node.Bit.{Bit}
use Rattle.gl_net.specs.Net.{Net, Run}
use Rattle.gl_net.proofs.Determined.{keeps_then}
use Rattle.gl_wire.specs.declared.emitted.Emitted.{Emitted}
use Rattle.gl_wire.specs.declared.wire.Wire.{Wire}
use Rattle.gl_wire.specs.Blocks.{IsBehind}
use Rattle.gl_wire.specs.Shapes.{AtEnds}
use Rattle.gl_wire.specs.Wire.{carried, line_at, row_at, stream, tuple_at, wire_of}
use Rattle.gl_wire.proofs.ColumnLemmas.{buses_kept}
use Rattle.gl_wire.proofs.StageLemmas.{line_first, tuple_by}
use Rattle.gl_wire_lanes.specs.Lanes.{rows_now, single}
use Rattle.gl_wire_lanes.specs.Laws.{OneIsSingle}
use Rattle.gl_wire_lanes.proofs.ShareLemmas.{stream_single}
use Rattle.gl_divide.specs.Divider.{IsLineBehind}
use Rattle.gl_rows.specs.declared.operand.Source.{Source}
use Rattle.gl_totals.specs.Costs.{cost_of_aggs}
use Rattle.gl_totals.specs.Delays.{IsBitBehind}
use Rattle.gl_totals.specs.Open.{in_register}
use Rattle.gl_totals.specs.Totals.{AreAggsOf, total_row, total_widths}

-- ---- what the wire carries

module _ (run : Run) (a : Wire) (end : Bit) (outs : List Bus) (m : ℕ) (total : List Row → Row) (line : IsLineBehind run m a.eos end)
    (row : (t : ℕ) → row_at run (suc t + m) outs ≡ total (stream (carried run a) (suc t))) where
  none : (b : Bool) (r : Row) → b ≡ false → (if b then Some r else None) ≡ None
  none true r e = absurd cc
  none false r e = refl

  end_tuple : (c : ℕ) → tuple_at run end outs (c + m) ≡ (if line_at run a.eos c then Some (total (stream (carried run a) c)) else None)
  end_tuple zero =
      tuple_by run end outs (zero + m) ∙ none (line_at run end (zero + m)) (row_at run (zero + m) outs) (line.line zero ∙ line_first run a.eos)
      ∙ sym (none (line_at run a.eos zero) (total (stream (carried run a) zero)) (line_first run a.eos))
  end_tuple (suc c) =
      tuple_by run end outs (suc c + m) ∙ ap (λ (b : Bool). if b then Some (row_at run (suc c + m) outs) else None) (line.line (suc c))
      ∙ ap (λ (r : Row). if line_at run a.eos (suc c) then Some r else None) (row c)

  pub totals_end : AtEnds m total (carried run a) (carried run (wire_of end end outs))
  totals_end = record {
    before = λ c lt. tuple_by run end outs c ∙ none (line_at run end c) (row_at run c outs) (line.before c lt);
    no_end = line.before;
    tuples = end_tuple;
    ends = line.line;
  }

-- ---- what it costs

spread : (m : ℕ) (f : PlanAgg → ℕ) (aggs : List PlanAgg) → sum_by (λ agg. 2 * m + f agg) aggs ≡ sum_by (λ agg. m + f agg) aggs + m * length aggs
spread m f [] = omega arith
spread m f (agg ∷ aggs) =
    let here : sum_by (λ a. m + f a) (agg ∷ aggs) ≡ m + f agg + sum_by (λ a. m + f a) aggs = sum_by-cons (λ a. m + f a) agg aggs in
    let parts : m * suc (length aggs) ≡ m * length aggs + m = omega arith in
    sum_by-cons (λ a. 2 * m + f a) agg aggs ∙ ap (λ n. 2 * m + f agg + n) (spread m f aggs) ∙ omega (arith, here, parts)

-- the line beside the aggregates has room in their weight, or, where there is none, in that of the lines
pub line_within : (kinds : List Kind) (aggs : List PlanAgg) (f : PlanAgg → ℕ)
    → delay_of_aggs kinds aggs + sum_by (λ agg. delay_of_aggs kinds aggs + f agg) aggs
    ≤ 4 * (length aggs + 2) + sum_by (λ agg. 2 * delay_of_aggs kinds aggs + f agg) aggs
line_within kinds [] f = omega arith
line_within kinds (agg ∷ aggs) f =
    let m = delay_of_aggs kinds (agg ∷ aggs) in
    let parts : m * suc (length aggs) ≡ m * length aggs + m = omega arith in
    omega (arith, spread m f (agg ∷ aggs), parts)

pub totals_behind : OneIsSingle → (old mid new : Net) (a : Emitted) (aggs : List PlanAgg) (source : Source) (outs : List Bus) (end : Bit) → source.columns.now ≡ a.wire.columns
    → AreAggsOf old mid (delay_of_aggs source.kinds.now aggs) (record { rows = in_register a.wire.valid a.wire.eos; source = source }) aggs outs
    → IsBitBehind mid new (delay_of_aggs source.kinds.now aggs) a.wire.eos end
    → IsBehind old new (λ sets. AtEnds (delay_of_aggs source.kinds.now aggs) (total_row sets source.kinds.now aggs)) (total_widths source.kinds.now aggs)
    (cost_of_aggs source.kinds.now aggs) a (record { wire = wire_of end end outs; faults = a.faults })
totals_behind one_is_single old mid new a aggs source outs end is_columns all line =
    let kinds = source.kinds.now in
    let m = delay_of_aggs kinds aggs in
    record {
      keeps = keeps_then old mid new all.keeps line.keeps;
      cost = record {
        nodes = omega (arith, all.cost.nodes, line.cost.nodes, line_within kinds aggs (weight_of_agg kinds));
        registers = omega (arith, all.cost.registers, line.cost.registers);
        memories = omega (arith, all.cost.memories, line.cost.memories);
      };
      wire = record { valid = line.bit; eos = line.bit; columns = buses_kept mid new outs line.keeps all.buses };
      same_widths = all.same_widths;
      faults = refl;
      shape = λ run r.
          let one = one_is_single (line_at run a.wire.valid) (line_at run a.wire.eos) (line_first run a.wire.valid) (line_first run a.wire.eos) in
          totals_end run a.wire end outs m (total_row run.held kinds aggs) (line.line run r)
          (λ t.
          all.row run (line.keeps.runs run r) (record { begins = one.begins; led = tt }) t (one.fresh t)
          ∙ ap (λ (bs : List Bus). total_row run.held kinds aggs (rows_now (single (line_at run a.wire.valid) (line_at run a.wire.eos)) (λ c. row_at run c bs) (suc t))) is_columns
          ∙ ap (total_row run.held kinds aggs) (stream_single run a.wire (suc t)));
    }
