use Rattle.std.proofs.Common.{◌≡◌, ℕ, suc, ◌+◌, ◌*◌, ◌^◌, ap, arith, ◌∙◌}
use Rattle.std.specs.Prelude.{if◌then◌else◌}
use Rattle.std.proofs.lemmas.Nat.{pow_pos}
use Rattle.gl_net.specs.Net.{Keeps}
use Rattle.gl_net.proofs.Determined.{keeps_then}
use Rattle.gl_net.proofs.Drive.{driven_keeps}
use Rattle.gl_wire.specs.Wire.{line_at}
use Rattle.gl_wire.proofs.ColumnLemmas.{bit_kept, bus_kept}
use Rattle.gl_wire.proofs.GateLemmas.{choose_line}
use Rattle.gl_frames_stages.specs.Columns.{carried_by}
use Rattle.gl_frames_slots.proofs.CountNet.{passing_kept}
use Rattle.gl_frames_slots.proofs.ItemsNet.{rows_kept}
use Rattle.gl_frames_slots.proofs.RecentNet.{since_told}
use Rattle.gl_frames_slots.proofs.recent.put_slot_since.Goals as goal

pub put_passing-requires-clause-rows : goal.put_passing-requires-clause-rows
put_passing-requires-clause-rows c =
    let gates : Keeps c.register.new.self c.choose.new.self = keeps_then _ c.put_wound.new.net _ c.in_ok-more.ensures.keeps (keeps_then _ c.constant.new.self _ c.in_ok-none.ensures.keeps c.in_ok-now.ensures.keeps) in
    let grows = c.in_ok-before.ensures.grows in
    let rows = c.requires.rows in
    rows_kept c.register.new.self c.choose.new.self c.args.rows gates
    (record {
      valid = record { there = grows.shapes _ _ rows.valid.there };
      first = record { there = grows.shapes _ _ rows.first.there };
      slot = record { there = grows.shapes _ _ rows.slot.there; width = rows.slot.width };
      begins = record { there = grows.shapes _ _ rows.begins.there };
      next = record { there = grows.shapes _ _ rows.next.there; width = rows.next.width };
      same_width = rows.same_width;
      bits = rows.bits;
    })

pub choose-requires-2-clause-test : goal.choose-requires-2-clause-test
choose-requires-2-clause-test c =
    let gates : Keeps c.register.new.self c.choose.new.self = keeps_then _ c.put_wound.new.net _ c.in_ok-more.ensures.keeps (keeps_then _ c.constant.new.self _ c.in_ok-none.ensures.keeps c.in_ok-now.ensures.keeps) in
    bit_kept c.register.new.self c.put_passing.new.net c.args.rows.begins (keeps_then _ c.choose.new.self _ gates c.in_ok-ahead.ensures.keeps)
    (record { there = c.in_ok-before.ensures.grows.shapes _ _ c.requires.rows.begins.there })

pub returns : goal.returns
returns c = rw c.note_bus.ensures (
    let old = c.args.net.now in
    let new = c.drive.new.self in
    let rows = c.args.rows in
    let bits = c.args.bits in
    let b = c.in_ok-before.before in
    let m = c.in_ok-more.more in
    let z = c.in_ok-none.none in
    let f = c.in_ok-now.now in
    let a = c.in_ok-ahead.ahead in
    let before = c.in_ok-before.ensures in
    let more = c.in_ok-more.ensures in
    let none = c.in_ok-none.ensures in
    let now = c.in_ok-now.ensures in
    let ahead = c.in_ok-ahead.ensures in
    let next = c.in_ok-next.ensures in
    let drive = c.in_ok-drive.ensures in
    let passed : Keeps c.choose.new.self c.choose-2.new.self = keeps_then _ c.put_passing.new.net _ ahead.keeps next.keeps in
    let chosen : Keeps c.constant.new.self c.choose-2.new.self = keeps_then _ c.choose.new.self _ now.keeps passed in
    let inner : Keeps c.register.new.self c.choose-2.new.self = keeps_then _ c.put_wound.new.net _ more.keeps (keeps_then _ c.constant.new.self _ none.keeps chosen) in
    let state = bus_kept _ _ b inner before.bus in
    let zero = c.word-zero.ensures in
    let wide : b.width ≡ bits + 1 = before.width ∙ c.width.ensures.value ∙ zero.width in
    let same : f.width ≡ bits + 1 = now.width ∙ none.width ∙ zero.width in
    let words : 2 ^ rows.slot.width * f.width ≡ 2 ^ rows.slot.width * (bits + 1) = ap (λ (n : ℕ). 2 ^ rows.slot.width * n) same in
    record {
      keeps = driven_keeps old c.register.new.self c.choose-2.new.self new b.node before.grows before.ports before.name before.others before.fresh
          inner drive.grows drive.ports drive.name drive.others drive.driven;
      cost = record {
        nodes = omega (arith, before.size, more.cost.nodes, none.size, now.size, ahead.cost.nodes, next.size, drive.size);
        registers = omega (arith, before.register_bits, more.cost.registers, none.register_bits, now.register_bits, ahead.cost.registers, next.register_bits, drive.register_bits, c.width.ensures.value, zero.width);
        memories = omega (arith, before.memory_bits, more.cost.memories, none.memory_bits, now.memory_bits, ahead.cost.memories, next.memory_bits, drive.memory_bits, words);
      };
      bus = record { there = drive.grows.shapes _ _ state.there; width = state.width };
      width = wide;
      counts = λ run r ends told p row takes d v.
          let at_next = drive.grows.runs run r in
          let at_ahead = next.keeps.runs run at_next in
          let at_now = ahead.keeps.runs run at_ahead in
          let at_none = now.keeps.runs run at_now in
          let at_more = none.keeps.runs run at_none in
          let empty : (t : ℕ) → run.at (suc t) z.node ≡ 0 = (λ t. none.value run at_none (suc t) ∙ zero.bits) in
          since_told run rows ends (2 ^ bits) c.args.takes p row (carried_by run b) (carried_by run m) (carried_by run f) (pow_pos bits) told
          (passing_kept run rows ends told 0 b f a (ahead.past run at_ahead)
          (λ t. drive.value run r t ∙ next.value run at_next (suc t)
          ∙ choose_line run rows.begins (run.at (suc t) z.node) (run.at (suc t) a.node) t
          ∙ ap (λ (n : ℕ). if line_at run rows.begins (suc t) then n else run.at (suc t) a.node) (empty t)))
          takes (more.with_row run at_more)
          (λ t. now.value run at_now (suc t) ∙ choose_line run c.args.takes (run.at (suc t) z.node) (run.at (suc t) m.node) t
          ∙ ap (λ (n : ℕ). if line_at run c.args.takes (suc t) then n else run.at (suc t) m.node) (empty t))
          d v;
    })
