-- Aggregates of rows, from totals of values.
use Rattle.std.proofs.Common.{◌≡◌, ℕ, suc, ◌+◌, ◌-◌, ◌*◌, ◌%◌, ◌^◌, ◌≤◌, List, map, refl, ap, ◌∙◌, arith}
use Rattle.gl_values.specs.Kinds.{width_of}
use Rattle.gl_values.specs.Results.{Row}
use Rattle.gl_values.specs.Totals.{count_of, greatest_of, least_of}
use Rattle.gl_algebra.specs.declared.node.Operand.{Operand}
use Rattle.gl_algebra.specs.declared.node.PlanAgg.{PlanAgg}
use Rattle.gl_algebra.specs.declared.node.PlanAgg.TheVariants.{Count, Max, Min}
use Rattle.gl_algebra.specs.Columns.{kind_of_agg, kind_of_operand}
use Rattle.gl_algebra.specs.Results.{total_of}
use Rattle.gl_algebra.specs.Values.{Sets, value_of_operand}
use Rattle.gl_algebra.specs.Weights.{weight_of_agg}
use Rattle.gl_net.specs.declared.node.Bus.{Bus}
use Rattle.gl_net.specs.Net.{Net}
use Rattle.gl_net.proofs.Determined.{keeps_then}
use Rattle.gl_wire.specs.Costs.{Cost}
use Rattle.gl_totals.specs.Costs.{cost_of_count, cost_of_extreme, kept_of_agg, lag_of, operand_of_agg, slot_words, state_of_agg}
use Rattle.gl_totals.specs.Delays.{IsBusBehind}
use Rattle.gl_totals.specs.Totals.{IsAggOf, IsTotalOf, IsValueOf, agg_of_extreme, extreme_of, rows_at}
use Rattle.gl_totals.specs.declared.fold.Extreme.{Extreme}
use Rattle.gl_totals.specs.declared.fold.Extreme.TheVariants.{Least, Greatest}
use Rattle.gl_totals.specs.declared.total.Stream.{Stream}
use Rattle.gl_totals.proofs.KeepLemmas.{lag_small}
use Rattle.gl_totals.proofs.ValueLemmas.{values_many}

-- a total of an operand's values
pub agg_is : (old mid new : Net) (s : Stream) (operand : Operand) (agg : PlanAgg) (x out : Bus) (most : Cost) (width stages cycles : ℕ) (total : List ℕ → ℕ)
    → IsValueOf old mid s operand x → IsTotalOf mid new most width cycles s.rows x total out
    → most.nodes + 1 ≤ stages + weight_of_agg s.source.kinds.now agg + 5 * lag_of s.rows.keep
    → most.registers ≤ state_of_agg s.source.kinds.now agg + width_of (kind_of_agg s.source.kinds.now agg) * stages
    → most.memories ≤ slot_words s.rows.keep * kept_of_agg s.source.kinds.now agg
    → width_of (kind_of_operand s.source.kinds.now operand) ≡ operand_of_agg s.source.kinds.now agg
    → width ≡ width_of (kind_of_agg s.source.kinds.now agg)
    → ((sets : Sets) (rows : List Row) → total (map (λ row. value_of_operand sets row operand) rows) ≡ total_of sets s.source.kinds.now rows agg) → IsAggOf old new stages cycles s agg out
agg_is old mid new s operand agg x out most width stages cycles total value h nodes registers memories bits wide same =
    let held : lag_of s.rows.keep * width_of (kind_of_operand s.source.kinds.now operand) ≡ lag_of s.rows.keep * operand_of_agg s.source.kinds.now agg =
    ap (λ (w : ℕ). lag_of s.rows.keep * w) bits in
    record {
      keeps = keeps_then old mid new value.keeps h.keeps;
      cost = record {
        nodes = omega (arith, value.cost.nodes, h.cost.nodes, nodes);
        registers = omega (arith, value.cost.registers, h.cost.registers, registers, held);
        memories = omega (arith, value.cost.memories, h.cost.memories, memories);
      };
      bus = h.bus;
      same_width = h.same_width ∙ wide;
      carries = λ run r told t fresh.
          h.carries run r told t fresh ∙ ap total (value.values run (h.keeps.runs run r) told.led t)
          ∙ same run.held (rows_at run s (suc t));
    }

-- the number of rows
pub count_is : (old new : Net) (s : Stream) (x out : Bus) → IsTotalOf old new (cost_of_count s.rows.keep) 32 0 s.rows x count_of out → IsAggOf old new 0 0 s Count out
unfolding count_of
count_is old new s x out h = record {
  keeps = h.keeps;
  cost = record { nodes = omega (arith, h.cost.nodes); registers = omega (arith, h.cost.registers); memories = omega (arith, h.cost.memories) };
  bus = h.bus;
  same_width = h.same_width;
  carries = λ run r told t fresh. h.carries run r told t fresh ∙ ap (λ (n : ℕ). n % 2 ^ 32) (values_many run s x (suc t));
}

side_by_side : (w m n : ℕ) → w * m + w * n ≡ w * (m + n)
side_by_side w m n = omega arith

-- some cycles later
pub agg_later : (old mid new : Net) (s : Stream) (agg : PlanAgg) (early out : Bus) (gone cycles : ℕ) → gone ≤ cycles → IsAggOf old mid gone gone s agg early
    → IsBusBehind mid new (cycles - gone) early out → IsAggOf old new cycles cycles s agg out
agg_later old mid new s agg early out gone cycles le h later =
    let width = width_of (kind_of_agg s.source.kinds.now agg) in
    let bits : early.width * (cycles - gone) ≡ width * (cycles - gone) = ap (λ (w : ℕ). w * (cycles - gone)) h.same_width in
    let whole : gone + (cycles - gone) ≡ cycles = omega (arith, le) in
    let parts : width * gone + width * (cycles - gone) ≡ width * cycles = side_by_side width gone (cycles - gone) ∙ ap (λ (n : ℕ). width * n) whole in
    record {
      keeps = keeps_then old mid new h.keeps later.keeps;
      cost = record {
        nodes = omega (arith, h.cost.nodes, later.cost.nodes, whole);
        registers = omega (arith, h.cost.registers, later.cost.registers, bits, parts);
        memories = omega (arith, h.cost.memories, later.cost.memories);
      };
      bus = later.bus;
      same_width = later.same_width ∙ h.same_width;
      carries = λ run r told t fresh.
          let at : suc t + cycles ≡ suc (t + gone) + (cycles - gone) = omega arith in
          let before : suc (t + gone) ≡ suc t + gone = omega arith in
          ap (λ (n : ℕ). run.at n out.node) at ∙ later.value run r (t + gone) ∙ ap (λ (n : ℕ). run.at n early.node) before
          ∙ h.carries run (later.keeps.runs run r) told t fresh;
    }

-- an extreme
pub extreme_is : (old mid new : Net) (s : Stream) (operand : Operand) (extreme : Extreme) (x out : Bus) → IsValueOf old mid s operand x
    → IsTotalOf mid new (cost_of_extreme s.rows.keep x.width) x.width 0 s.rows x (extreme_of extreme (kind_of_operand s.source.kinds.now operand)) out
    → IsAggOf old new 0 0 s (agg_of_extreme extreme operand) out
extreme_is old mid new s operand Least x out value h =
    let bits = ap (λ (w : ℕ). slot_words s.rows.keep * (w + 1)) value.same_width in
    agg_is old mid new s operand (Min operand) x out (cost_of_extreme s.rows.keep x.width) x.width 0 0 (least_of (kind_of_operand s.source.kinds.now operand)) value h
    (omega (arith, lag_small s.rows.keep)) (omega (arith, value.same_width)) (omega (arith, bits)) refl value.same_width (λ sets rows. refl)
extreme_is old mid new s operand Greatest x out value h =
    let bits = ap (λ (w : ℕ). slot_words s.rows.keep * (w + 1)) value.same_width in
    agg_is old mid new s operand (Max operand) x out (cost_of_extreme s.rows.keep x.width) x.width 0 0 (greatest_of (kind_of_operand s.source.kinds.now operand)) value h
    (omega (arith, lag_small s.rows.keep)) (omega (arith, value.same_width)) (omega (arith, bits)) refl value.same_width (λ sets rows. refl)
