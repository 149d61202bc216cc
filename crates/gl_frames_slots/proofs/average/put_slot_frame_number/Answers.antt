use Rattle.std.proofs.Common.{ℕ, Option, Some, arith, sym, subst, ◌∙◌}
use Rattle.std.specs.Prelude.{IfOk}
use Rattle.gl_algebra.specs.Columns.{ConditionFits}
use Rattle.gl_algebra.specs.Results.{counts_in}
use Rattle.gl_values.specs.Totals.{count_of}
use Rattle.gl_frames.specs.Frames.{frame_of}
use Rattle.gl_net.proofs.Determined.{keeps_then}
use Rattle.gl_frames_stages.specs.Columns.{carried_by}
use Rattle.gl_frames_stages.specs.Framing.{every}
use Rattle.gl_frames_slots.specs.ItemCosts.{cost_of_slot_passing}
use Rattle.gl_frames_slots.specs.Items.{IsSlotItemIn, rows_in}
use Rattle.gl_frames_slots.proofs.MeetLemmas.{tells_behind}
use Rattle.gl_frames_slots.proofs.average.put_slot_frame_number.Goals as goal

pub put_slot_passing-requires-clause-filter : goal.put_slot_passing-requires-clause-filter
put_slot_passing-requires-clause-filter c = subst (ConditionFits c.args.input.source.kinds.now) c.in-Some.is c.requires.filter

pub returns-in-Some : goal.returns-in-Some
returns-in-Some c =
    let back = c.args.back in
    subst (λ (f : Option ℕ). IfOk c.put_slot_passing.result (IsSlotItemIn c.args.net.now c.put_slot_passing.new.net (cost_of_slot_passing c.args.input.rows.slot.width back) 3 32
    (λ sets rows. count_of (frame_of (Some back) (counts_in f) rows)) c.args.input c.args.count)) (sym c.in-Some.is) c.put_slot_passing.ensures

pub returns-in_ok-out-in-None : goal.returns-in_ok-out-in-None
returns-in_ok-out-in-None c =
    let back = c.args.back in
    let input = c.args.input in
    let number = c.in_ok-number-in-None.ensures in
    let out = c.in_ok-out-in-None.ensures in
    let n = c.in_ok-number-in-None.number in
    let o = c.in_ok-out-in-None.out in
    let new = c.delay_bus.new.net in
    subst (λ (f : Option ℕ). IsSlotItemIn c.args.net.now new (cost_of_slot_passing input.rows.slot.width back) 3 32 (λ sets rows. count_of (frame_of (Some back) (counts_in f) rows)) input c.args.count o)
    (sym c.in-None.is)
    (record {
      keeps = keeps_then _ c.put_slot_number.new.net _ number.keeps out.keeps;
      cost = record {
        nodes = omega (arith, number.cost.nodes, out.cost.nodes);
        registers = omega (arith, number.cost.registers, out.cost.registers, number.same_width);
        memories = omega (arith, number.cost.memories, out.cost.memories);
      };
      bus = out.bus;
      same_width = out.same_width ∙ number.same_width;
      tells = λ run r ends told counts.
          tells_behind run input.rows ends 1 2 (λ rows. count_of (frame_of (Some back) every rows)) (rows_in run input) (carried_by run n) (carried_by run o) (out.value run r)
          (number.tells run (out.keeps.runs run r) ends told counts);
    })
