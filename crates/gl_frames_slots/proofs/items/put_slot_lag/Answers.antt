use Rattle.std.proofs.Common.{◌≡◌, suc, ◌+◌, ◌*◌, ◌^◌, map, ap, arith, ◌∙◌}
use Rattle.gl_frames.specs.Frames.{lag_of, row_before}
use Rattle.gl_frames_wire.specs.Reaches.{place_bits}
use Rattle.gl_net.proofs.Determined.{keeps_then}
use Rattle.gl_frames_stages.specs.Columns.{carried_by}
use Rattle.gl_frames_stages.specs.Framing.{value_in}
use Rattle.gl_frames_stages.specs.Laws.{itself}
use Rattle.gl_frames_stages.proofs.FramingLemmas.{lag_through}
use Rattle.gl_frames_slots.specs.Items.{rows_in}
use Rattle.gl_frames_slots.proofs.ItemsNet.{input_kept, tells_as, tells_made, told_or_none}
use Rattle.gl_frames_slots.proofs.items.put_slot_lag.Goals as goal

pub put_operand-requires-clause-source : goal.put_operand-requires-clause-source
put_operand-requires-clause-source c = c.requires.input.source

pub put_slot_lagged-requires-clause-rows : goal.put_slot_lagged-requires-clause-rows
put_slot_lagged-requires-clause-rows c = (input_kept _ _ c.args.input c.in_ok-value.ensures.keeps c.requires.input).rows

pub put_slot_lagged-requires-clause-bits : goal.put_slot_lagged-requires-clause-bits
put_slot_lagged-requires-clause-bits c = let place = c.new.ensures.bits in omega (arith, place, c.requires.bits)

pub put_slot_lagged-requires-clause-address : goal.put_slot_lagged-requires-clause-address
put_slot_lagged-requires-clause-address c = let place = c.new.ensures.bits in omega (arith, place, c.requires.address)

pub returns : goal.returns
returns c =
    let input = c.args.input in
    let slot = input.rows.slot.width in
    let x = c.in_ok-value.value in
    let value = c.in_ok-value.ensures in
    let found = c.in_ok-found.ensures in
    let out = c.in_ok-out.ensures in
    let wide = value.same_width in
    let back : c.new.result.back ≡ c.args.back = c.new.ensures.back in
    let place : c.new.result.bits ≡ place_bits c.args.back = c.new.ensures.bits in
    let words : 2 ^ (slot + c.new.result.bits) * x.width ≡ 2 ^ (slot + place_bits c.args.back) * x.width = ap (λ n. 2 ^ (slot + n) * x.width) place in
    let bits = ap (λ n. 2 ^ (slot + place_bits c.args.back) * n) wide in
    record {
      keeps = keeps_then _ c.put_operand.new.net _ value.keeps (keeps_then _ c.put_slot_lagged.new.net _ found.keeps out.keeps);
      cost = record {
        nodes = omega (arith, value.cost.nodes, found.cost.nodes, out.cost.nodes);
        registers = omega (arith, value.cost.registers, found.cost.registers, out.cost.registers, wide);
        memories = omega (arith, value.cost.memories, found.cost.memories, out.cost.memories, words, bits);
      };
      bus = out.bus;
      same_width = out.same_width ∙ found.same_width ∙ wide;
      tells = λ run r ends told counts.
          let at_found = out.keeps.runs run r in
          let at_value = found.keeps.runs run at_found in
          tells_as run input.rows ends 1 (λ rows. lag_of itself c.new.result.back (map (value_in run.held c.args.operand) rows)) (lag_of (value_in run.held c.args.operand) c.args.back) (rows_in run input) (carried_by run c.in_ok-out.out)
          (λ rows. lag_through (value_in run.held c.args.operand) c.new.result.back rows ∙ ap (λ n. lag_of (value_in run.held c.args.operand) n rows) back)
          (tells_made run input.rows ends 1 (value_in run.held c.args.operand) (lag_of itself c.new.result.back) (rows_in run input) (carried_by run x) (carried_by run c.in_ok-out.out)
          (λ t. value.carries run at_value (suc t))
          (told_or_none run input.rows ends (row_before c.new.result.back) (carried_by run x) c.in_ok-found.found c.in_ok-out.out (found.tells run at_found ends told counts) (out.chosen run r)));
    }
