use Rattle.std.proofs.Common.{◌≡◌, ℕ, suc, ◌*◌, ◌^◌, ap, arith, subst, ◌∙◌}
use Rattle.std.specs.Prelude.{if◌then◌else◌}
use Rattle.gl_net.specs.Net.{Keeps}
use Rattle.gl_net.proofs.Determined.{keeps_then}
use Rattle.gl_net.proofs.Drive.{driven_keeps}
use Rattle.gl_wire.specs.Wire.{line_at}
use Rattle.gl_wire.proofs.ColumnLemmas.{bit_kept, bus_kept}
use Rattle.gl_wire.proofs.GateLemmas.{choose_line}
use Rattle.gl_wire_lanes.specs.Keeping.{IsKept}
use Rattle.gl_frames_stages.specs.Columns.{carried_by}
use Rattle.gl_frames_slots.specs.Rows.{lane_at}
use Rattle.gl_frames_slots.proofs.CountNet.{passing_kept}
use Rattle.gl_frames_slots.proofs.ExtremeNet.{best_told, most_gates}
use Rattle.gl_frames_slots.proofs.ItemsNet.{rows_kept}
use Rattle.gl_frames_slots.proofs.extreme.put_slot_best_so_far.Goals as goal

pub put_stays-requires-clause-some : goal.put_stays-requires-clause-some
put_stays-requires-clause-some c = record { there = c.in_ok-before.ensures.grows.shapes _ _ c.requires.rows.valid.there }

pub but_not-requires-clause-left : goal.but_not-requires-clause-left
but_not-requires-clause-left c =
    bit_kept c.register.new.self c.put_stays.new.net c.args.rows.valid c.in_ok-stays.ensures.keeps (record { there = c.in_ok-before.ensures.grows.shapes _ _ c.requires.rows.valid.there })

pub put_passing-requires-clause-rows : goal.put_passing-requires-clause-rows
put_passing-requires-clause-rows c =
    let gates : Keeps c.register.new.self c.choose.new.self = keeps_then _ c.put_stays.new.net _ c.in_ok-stays.ensures.keeps (keeps_then _ c.but_not.new.net _ c.in_ok-takes.ensures.keeps c.in_ok-now.ensures.keeps) in
    let grows = c.in_ok-before.ensures.grows in
    let rows = c.requires.rows in
    rows_kept c.register.new.self c.choose.new.self c.args.rows gates
    (record {
      valid = record { there = grows.shapes _ _ rows.valid.there };
      first = record { there = grows.shapes _ _ rows.first.there };
      slot = record { there = grows.shapes _ _ rows.slot.there; width = rows.slot.width };
      begins = record { there = grows.shapes _ _ rows.begins.there };
      next = record { there = grows.shapes _ _ rows.next.there; width = rows.next.width };
      same_width = rows.same_width;
      bits = rows.bits;
    })

pub choose-requires-2-clause-test : goal.choose-requires-2-clause-test
choose-requires-2-clause-test c =
    let passed : Keeps c.choose.new.self c.constant.new.self = keeps_then _ c.put_passing.new.net _ c.in_ok-ahead.ensures.keeps c.in_ok-again.ensures.keeps in
    let gates : Keeps c.register.new.self c.choose.new.self = keeps_then _ c.put_stays.new.net _ c.in_ok-stays.ensures.keeps (keeps_then _ c.but_not.new.net _ c.in_ok-takes.ensures.keeps c.in_ok-now.ensures.keeps) in
    bit_kept c.register.new.self c.constant.new.self c.args.rows.begins (keeps_then _ c.choose.new.self _ gates passed)
    (record { there = c.in_ok-before.ensures.grows.shapes _ _ c.requires.rows.begins.there })

pub returns : goal.returns
returns c = rw c.note_bus.ensures (
    let old = c.args.net.now in
    let new = c.drive.new.self in
    let rows = c.args.rows in
    let value = c.args.value in
    let b = c.in_ok-before.before in
    let f = c.in_ok-now.now in
    let a = c.in_ok-ahead.ahead in
    let before = c.in_ok-before.ensures in
    let stays = c.in_ok-stays.ensures in
    let takes = c.in_ok-takes.ensures in
    let now = c.in_ok-now.ensures in
    let ahead = c.in_ok-ahead.ensures in
    let again = c.in_ok-again.ensures in
    let next = c.in_ok-next.ensures in
    let drive = c.in_ok-drive.ensures in
    let cleared : Keeps c.put_passing.new.net c.choose-2.new.self = keeps_then _ c.constant.new.self _ again.keeps next.keeps in
    let passed : Keeps c.choose.new.self c.choose-2.new.self = keeps_then _ c.put_passing.new.net _ ahead.keeps cleared in
    let gates : Keeps c.register.new.self c.choose.new.self = keeps_then _ c.put_stays.new.net _ stays.keeps (keeps_then _ c.but_not.new.net _ takes.keeps now.keeps) in
    let inner : Keeps c.register.new.self c.choose-2.new.self = keeps_then _ c.choose.new.self _ gates passed in
    let state = bus_kept _ _ f passed now.bus in
    let words : 2 ^ rows.slot.width * f.width ≡ 2 ^ rows.slot.width * value.width = ap (λ (n : ℕ). 2 ^ rows.slot.width * n) now.width in
    let few = most_gates c.args.order c.requires.packed in
    record {
      keeps = driven_keeps old c.register.new.self c.choose-2.new.self new b.node before.grows before.ports before.name before.others before.fresh
          inner drive.grows drive.ports drive.name drive.others drive.driven;
      cost = record {
        nodes = omega (arith, before.size, stays.cost.nodes, few, takes.cost.nodes, now.size, ahead.cost.nodes, again.size, next.size, drive.size);
        registers = omega (arith, before.register_bits, stays.cost.registers, takes.cost.registers, now.register_bits, ahead.cost.registers, again.register_bits, next.register_bits, drive.register_bits, c.width.ensures.value, c.small_word-zero.ensures.width);
        memories = omega (arith, before.memory_bits, stays.cost.memories, takes.cost.memories, now.memory_bits, ahead.cost.memories, again.memory_bits, next.memory_bits, drive.memory_bits, words);
      };
      bus = record { there = drive.grows.shapes _ _ state.there; width = state.width };
      same_width = now.width;
      tells = λ run r ends told.
          let at_next = drive.grows.runs run r in
          let at_ahead = cleared.runs run at_next in
          let at_now = ahead.keeps.runs run at_ahead in
          let at_takes = now.keeps.runs run at_now in
          let at_stays = takes.keeps.runs run at_takes in
          best_told run rows ends c.args.order (carried_by run value) (carried_by run b) (carried_by run f) c.in_ok-stays.stays c.in_ok-takes.takes told
          (subst (λ (n : ℕ). IsKept n (lane_at run rows ends) (λ t. run.at t b.node) (λ t. run.at t f.node)) c.small_word-zero.ensures.bits
          (passing_kept run rows ends told c.small_word-zero.result.bits b f a (ahead.past run at_ahead)
          (λ t. drive.value run r t ∙ next.value run at_next (suc t)
          ∙ choose_line run rows.begins (run.at (suc t) c.in_ok-again.again.node) (run.at (suc t) a.node) t
          ∙ ap (λ (n : ℕ). if line_at run rows.begins (suc t) then n else run.at (suc t) a.node) (again.value run (next.keeps.runs run at_next) (suc t)))))
          (stays.line run at_stays) (λ t. takes.line run at_takes (suc t))
          (λ t. now.value run at_now (suc t) ∙ choose_line run c.in_ok-takes.takes (run.at (suc t) value.node) (run.at (suc t) b.node) t);
    })
