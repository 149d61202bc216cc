use Rattle.std.proofs.Common.{◌≡◌, ℕ, suc, ◌+◌, ◌*◌, ◌^◌, ◌<◌, Some, map, ap, arith, subst, ◌∙◌}
use Rattle.std.specs.Prelude.{nat_eq}
use Rattle.gl_algebra.specs.Results.{counts_in}
use Rattle.gl_bits.specs.Words.{bit}
use Rattle.gl_values.specs.Kinds.{width_of}
use Rattle.gl_values.specs.Totals.{count_of, sum_total}
use Rattle.gl_values.specs.declared.kind.Kind.TheVariants.{Unsigned}
use Rattle.gl_frames.specs.Frames.{frame_of, last_ones}
use Rattle.gl_frames_wire.specs.Reaches.{place_bits}
use Rattle.gl_net.proofs.Determined.{keeps_then}
use Rattle.gl_net.proofs.Values.{bus_fits}
use Rattle.gl_frames_stages.specs.Columns.{carried_by}
use Rattle.gl_frames_stages.specs.SlideNets.{widened}
use Rattle.gl_frames_stages.proofs.FramingLemmas.{bit_word, count_through}
use Rattle.gl_frames_stages.proofs.InputNet.{column_kind, column_there}
use Rattle.gl_frames_slots.specs.Items.{rows_in}
use Rattle.gl_frames_slots.proofs.ItemsNet.{rows_kept, tells_as, tells_made}
use Rattle.gl_frames_slots.proofs.counts.put_slot_passing.Goals as goal

pub put_operand-requires-clause-source : goal.put_operand-requires-clause-source
put_operand-requires-clause-source c = c.requires.input.source

pub put_operand-requires-clause-fits : goal.put_operand-requires-clause-fits
put_operand-requires-clause-fits c = column_there c.args.input.source.kinds.now c.args.column c.requires.filter

pub put_slot_wide_sum-requires-clause-rows : goal.put_slot_wide_sum-requires-clause-rows
put_slot_wide_sum-requires-clause-rows c = rows_kept _ _ c.args.input.rows c.in_ok-bit.ensures.keeps c.requires.input.rows

pub put_slot_wide_sum-requires-clause-bits : goal.put_slot_wide_sum-requires-clause-bits
put_slot_wide_sum-requires-clause-bits c = let place = c.new.ensures.bits in omega (arith, place, c.requires.bits)

pub put_slot_wide_sum-requires-clause-address : goal.put_slot_wide_sum-requires-clause-address
put_slot_wide_sum-requires-clause-address c = let place = c.new.ensures.bits in omega (arith, place, c.requires.address)

pub put_slot_wide_sum-requires-clause-value_width : goal.put_slot_wide_sum-requires-clause-value_width
put_slot_wide_sum-requires-clause-value_width c = c.in_ok-bit.ensures.same_width ∙ ap width_of (column_kind c.args.input.source.kinds.now c.args.column c.requires.filter)

pub returns : goal.returns
returns c =
    let input = c.args.input in
    let slot = input.rows.slot.width in
    let x = c.in_ok-bit.bit in
    let column = c.args.column in
    let p = counts_in (Some column) in
    let value = c.in_ok-bit.ensures in
    let sum = c.in_ok-sum.ensures in
    let one : x.width ≡ 1 = value.same_width ∙ ap width_of (column_kind c.args.input.source.kinds.now c.args.column c.requires.filter) in
    let is = c.new.ensures.back in
    let next : c.new.result.back ≡ suc c.args.back = omega (arith, is) in
    let place : c.new.result.bits ≡ place_bits (c.args.back + 1) = c.new.ensures.bits in
    let words : 2 ^ (slot + c.new.result.bits) * x.width ≡ 2 ^ (slot + place_bits (c.args.back + 1)) * x.width = ap (λ n. 2 ^ (slot + n) * x.width) place in
    let bits = ap (λ n. 2 ^ (slot + place_bits (c.args.back + 1)) * n) one in
    record {
      keeps = keeps_then _ c.put_operand.new.net _ value.keeps sum.keeps;
      cost = record {
        nodes = omega (arith, value.cost.nodes, sum.cost.nodes);
        registers = omega (arith, value.cost.registers, sum.cost.registers, one);
        memories = omega (arith, value.cost.memories, sum.cost.memories, words, bits);
      };
      bus = sum.bus;
      same_width = sum.same_width;
      tells = λ run r ends told counts.
          let at_value = sum.keeps.runs run r in
          let fits : (t : ℕ) → run.at t x.node < 2 ^ 1 = subst (λ k. (t : ℕ) → run.at t x.node < 2 ^ k) one (bus_fits c.put_operand.new.net x run value.bus at_value) in
          tells_as run input.rows ends 3 (λ rows. sum_total 32 (map (widened (Unsigned 1) 32) (last_ones c.new.result.back (map (λ row. bit (p row)) rows))))
          (λ rows. count_of (frame_of (Some c.args.back) p rows)) (rows_in run input) (carried_by run c.in_ok-sum.sum)
          (λ rows. ap (λ n. sum_total 32 (map (widened (Unsigned 1) 32) (last_ones n (map (λ row. bit (p row)) rows)))) next ∙ count_through p c.args.back rows)
          (tells_made run input.rows ends 3 (λ row. bit (p row)) (λ xs. sum_total 32 (map (widened (Unsigned 1) 32) (last_ones c.new.result.back xs))) (rows_in run input) (carried_by run x) (carried_by run c.in_ok-sum.sum)
          (λ t. bit_word (run.at (suc t) x.node) (fits (suc t)) ∙ ap (λ n. bit (nat_eq n 1)) (value.carries run at_value (suc t)))
          (sum.tells run r ends told counts));
    }
