use Rattle.std.proofs.Common.{◌≡◌, ℕ, suc, ◌+◌, ◌-◌, ◌*◌, ◌^◌, ap, arith, sym, ◌∙◌, length}
use Rattle.std.specs.Prelude.{if◌then◌else◌}
use Rattle.std.proofs.lemmas.Nat.{pow_pos}
use Rattle.gl_net.specs.Net.{Keeps}
use Rattle.gl_net.proofs.Determined.{keeps_then}
use Rattle.gl_net.proofs.Drive.{driven_keeps}
use Rattle.gl_wire.specs.Wire.{line_at}
use Rattle.gl_wire.proofs.ColumnLemmas.{bit_kept, bus_kept}
use Rattle.gl_wire.proofs.GateLemmas.{choose_line}
use Rattle.gl_frames_wire.specs.Rings.{wound}
use Rattle.gl_frames_slots.specs.Rows.{slot_past}
use Rattle.gl_frames_slots.proofs.CountNet.{slots_counted}
use Rattle.gl_frames_slots.proofs.count.put_slot_count.Goals as goal

pub choose-requires-clause-test : goal.choose-requires-clause-test
choose-requires-clause-test c =
    let passed : Keeps c.put_wound.new.net c.constant.new.self = keeps_then _ c.put_passing.new.net _ c.in_ok-ahead.ensures.keeps c.in_ok-again.ensures.keeps in
    bit_kept c.register.new.self c.constant.new.self c.args.rows.begins (keeps_then _ c.put_wound.new.net _ c.in_ok-now.ensures.keeps passed)
    (record { there = c.in_ok-before.ensures.grows.shapes _ _ c.requires.rows.begins.there })

pub returns : goal.returns
returns c = rw c.note_bus.ensures (
    let old = c.args.net.now in
    let new = c.drive.new.self in
    let rows = c.args.rows in
    let bits = c.args.bits in
    let b = c.in_ok-before.before in
    let f = c.in_ok-now.now in
    let a = c.in_ok-ahead.ahead in
    let before = c.in_ok-before.ensures in
    let fold = c.in_ok-now.ensures in
    let ahead = c.in_ok-ahead.ensures in
    let again = c.in_ok-again.ensures in
    let next = c.in_ok-next.ensures in
    let drive = c.in_ok-drive.ensures in
    let cleared : Keeps c.put_passing.new.net c.choose.new.self = keeps_then _ c.constant.new.self _ again.keeps next.keeps in
    let passed : Keeps c.put_wound.new.net c.choose.new.self = keeps_then _ c.put_passing.new.net _ ahead.keeps cleared in
    let inner : Keeps c.register.new.self c.choose.new.self = keeps_then _ c.put_wound.new.net _ fold.keeps passed in
    let state = bus_kept _ _ b inner before.bus in
    let wide : b.width ≡ bits + 1 = before.width ∙ c.width.ensures.value ∙ c.word-zero.ensures.width in
    let bits_of : 2 ^ rows.slot.width * f.width ≡ 2 ^ rows.slot.width * (bits + 1) = ap (λ (n : ℕ). 2 ^ rows.slot.width * n) (fold.same_width ∙ wide) in
    let low : b.width - 1 ≡ bits = omega (arith, wide) in
    record {
      keeps = driven_keeps old c.register.new.self c.choose.new.self new b.node before.grows before.ports before.name before.others before.fresh
          inner drive.grows drive.ports drive.name drive.others drive.driven;
      cost = record {
        nodes = omega (arith, before.size, fold.cost.nodes, ahead.cost.nodes, again.size, next.size, drive.size);
        registers = omega (arith, before.register_bits, fold.cost.registers, ahead.cost.registers, again.register_bits, next.register_bits, drive.register_bits, c.width.ensures.value, c.word-zero.ensures.width);
        memories = omega (arith, before.memory_bits, fold.cost.memories, ahead.cost.memories, again.memory_bits, next.memory_bits, drive.memory_bits, bits_of);
      };
      bus = record { there = drive.grows.shapes _ _ state.there; width = state.width };
      width = wide;
      counts = λ run r ends told column d v.
          let at_next = drive.grows.runs run r in
          let at_ahead = cleared.runs run at_next in
          let at_fold = ahead.keeps.runs run at_ahead in
          slots_counted run rows ends told c.word-zero.result.bits b f a (ahead.past run at_ahead)
          (λ t. drive.value run r t ∙ next.value run at_next (suc t)
          ∙ choose_line run rows.begins (run.at (suc t) c.in_ok-again.again.node) (run.at (suc t) a.node) t
          ∙ ap (λ (n : ℕ). if line_at run rows.begins (suc t) then n else run.at (suc t) a.node) (again.value run (next.keeps.runs run at_next) (suc t)))
          (2 ^ bits) (pow_pos bits) c.word-zero.ensures.bits (fold.with_row run at_fold) column d v
          ∙ sym (ap (λ n. wound (2 ^ n) (length (slot_past run rows ends column (suc d)))) low);
    })
