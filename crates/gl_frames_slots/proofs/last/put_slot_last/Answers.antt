use Rattle.std.proofs.Common.{◌≡◌, ℕ, suc, ◌*◌, ◌^◌, ap, arith, subst, ◌∙◌}
use Rattle.std.specs.Prelude.{if◌then◌else◌}
use Rattle.gl_net.specs.Net.{Keeps}
use Rattle.gl_net.proofs.Determined.{keeps_then}
use Rattle.gl_net.proofs.Drive.{driven_keeps}
use Rattle.gl_wire.specs.Wire.{line_at}
use Rattle.gl_wire.proofs.ColumnLemmas.{bit_kept, bus_kept}
use Rattle.gl_wire.proofs.GateLemmas.{choose_line}
use Rattle.gl_wire_lanes.specs.Keeping.{IsKept}
use Rattle.gl_frames_stages.specs.Columns.{carried_by}
use Rattle.gl_frames_slots.specs.Rows.{lane_at}
use Rattle.gl_frames_slots.proofs.CountNet.{passing_kept}
use Rattle.gl_frames_slots.proofs.LastNet.{last_told}
use Rattle.gl_frames_slots.proofs.last.put_slot_last.Goals as goal

pub choose-requires-2-clause-test : goal.choose-requires-2-clause-test
choose-requires-2-clause-test c =
    let passed : Keeps c.choose.new.self c.constant.new.self = keeps_then _ c.put_passing.new.net _ c.in_ok-ahead.ensures.keeps c.in_ok-again.ensures.keeps in
    bit_kept c.register.new.self c.constant.new.self c.args.rows.begins (keeps_then _ c.choose.new.self _ c.in_ok-now.ensures.keeps passed)
    (record { there = c.in_ok-before.ensures.grows.shapes _ _ c.requires.rows.begins.there })

pub returns : goal.returns
returns c = rw c.note_bus.ensures (
    let old = c.args.net.now in
    let new = c.drive.new.self in
    let rows = c.args.rows in
    let value = c.args.value in
    let b = c.in_ok-before.before in
    let f = c.in_ok-now.now in
    let a = c.in_ok-ahead.ahead in
    let before = c.in_ok-before.ensures in
    let now = c.in_ok-now.ensures in
    let ahead = c.in_ok-ahead.ensures in
    let again = c.in_ok-again.ensures in
    let next = c.in_ok-next.ensures in
    let drive = c.in_ok-drive.ensures in
    let cleared : Keeps c.put_passing.new.net c.choose-2.new.self = keeps_then _ c.constant.new.self _ again.keeps next.keeps in
    let passed : Keeps c.choose.new.self c.choose-2.new.self = keeps_then _ c.put_passing.new.net _ ahead.keeps cleared in
    let inner : Keeps c.register.new.self c.choose-2.new.self = keeps_then _ c.choose.new.self _ now.keeps passed in
    let state = bus_kept _ _ f passed now.bus in
    let words : 2 ^ rows.slot.width * f.width ≡ 2 ^ rows.slot.width * value.width = ap (λ (n : ℕ). 2 ^ rows.slot.width * n) now.width in
    record {
      keeps = driven_keeps old c.register.new.self c.choose-2.new.self new b.node before.grows before.ports before.name before.others before.fresh
          inner drive.grows drive.ports drive.name drive.others drive.driven;
      cost = record {
        nodes = omega (arith, before.size, now.size, ahead.cost.nodes, again.size, next.size, drive.size);
        registers = omega (arith, before.register_bits, now.register_bits, ahead.cost.registers, again.register_bits, next.register_bits, drive.register_bits, c.width.ensures.value, c.small_word-zero.ensures.width);
        memories = omega (arith, before.memory_bits, now.memory_bits, ahead.cost.memories, again.memory_bits, next.memory_bits, drive.memory_bits, words);
      };
      bus = record { there = drive.grows.shapes _ _ state.there; width = state.width };
      same_width = now.width;
      tells = λ run r ends told p v row line is.
          let at_next = drive.grows.runs run r in
          let at_ahead = cleared.runs run at_next in
          let at_now = ahead.keeps.runs run at_ahead in
          last_told run rows ends told c.args.takes v p row (carried_by run value) (carried_by run b) (carried_by run f)
          (subst (λ (n : ℕ). IsKept n (lane_at run rows ends) (λ t. run.at t b.node) (λ t. run.at t f.node)) c.small_word-zero.ensures.bits
          (passing_kept run rows ends told c.small_word-zero.result.bits b f a (ahead.past run at_ahead)
          (λ t. drive.value run r t ∙ next.value run at_next (suc t)
          ∙ choose_line run rows.begins (run.at (suc t) c.in_ok-again.again.node) (run.at (suc t) a.node) t
          ∙ ap (λ (n : ℕ). if line_at run rows.begins (suc t) then n else run.at (suc t) a.node) (again.value run (next.keeps.runs run at_next) (suc t)))))
          (λ t. now.value run at_now (suc t) ∙ choose_line run c.args.takes (run.at (suc t) value.node) (run.at (suc t) b.node) t)
          line is;
    })
