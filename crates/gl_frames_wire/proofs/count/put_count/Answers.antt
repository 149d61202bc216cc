use Rattle.std.proofs.Common.{ℕ, suc, ◌^◌, ap, arith, ◌∙◌}
use Rattle.std.specs.Prelude.{if◌then◌else◌}
use Rattle.std.proofs.lemmas.Nat.{pow_pos}
use Rattle.gl_net.specs.Net.{Keeps}
use Rattle.gl_net.proofs.Determined.{keeps_then}
use Rattle.gl_net.proofs.Drive.{driven_keeps}
use Rattle.gl_wire.specs.Wire.{line_at}
use Rattle.gl_wire.proofs.ColumnLemmas.{bus_kept}
use Rattle.gl_wire.proofs.GateLemmas.{choose_line}
use Rattle.gl_frames_wire.proofs.CountNet.{counted}
use Rattle.gl_frames_wire.proofs.count.put_count.Goals as goal

pub returns : goal.returns
returns c = rw c.note_bus.ensures (
    let old = c.args.net.now in
    let new = c.drive.new.self in
    let b = c.in_ok-before.before in
    let f = c.in_ok-now.now in
    let before = c.in_ok-before.ensures in
    let fold = c.in_ok-now.ensures in
    let again = c.in_ok-again.ensures in
    let next = c.in_ok-next.ensures in
    let drive = c.in_ok-drive.ensures in
    let behind_now : Keeps c.put_wound.new.net c.choose.new.self = keeps_then _ c.constant.new.self _ again.keeps next.keeps in
    let middle : Keeps c.register.new.self c.choose.new.self = keeps_then _ c.put_wound.new.net _ fold.keeps behind_now in
    let state = bus_kept _ _ b middle before.bus in
    record {
      keeps = driven_keeps old c.register.new.self c.choose.new.self new b.node before.grows before.ports before.name before.others before.fresh
          middle drive.grows drive.ports drive.name drive.others drive.driven;
      cost = record {
        nodes = omega (arith, before.size, fold.cost.nodes, again.size, next.size, drive.size);
        registers = omega (arith, before.register_bits, fold.cost.registers, again.register_bits, next.register_bits, drive.register_bits, c.width.ensures.value, c.word-zero.ensures.width);
        memories = omega (arith, before.memory_bits, fold.cost.memories, again.memory_bits, next.memory_bits, drive.memory_bits);
      };
      bus = record { there = drive.grows.shapes _ _ state.there; width = state.width };
      width = before.width ∙ c.width.ensures.value ∙ c.word-zero.ensures.width;
      counts = λ run r column d v.
          let at_next = drive.grows.runs run r in
          let at_again = next.keeps.runs run at_next in
          let at_fold = behind_now.runs run at_next in
          let at_before = fold.keeps.runs run at_fold in
          counted c.one_is_single.ensures run c.args.valid c.args.eos (2 ^ c.args.bits) (pow_pos c.args.bits) b f (before.start run at_before ∙ c.word-zero.ensures.bits)
          (λ t.
          drive.value run r t ∙ next.value run at_next (suc t)
          ∙ choose_line run c.args.eos (run.at (suc t) c.in_ok-again.again.node) (run.at (suc t) f.node) t
          ∙ ap (λ (n : ℕ). if line_at run c.args.eos (suc t) then n else run.at (suc t) f.node) (again.value run at_again (suc t) ∙ c.word-zero.ensures.bits))
          (fold.with_row run at_fold) column d v;
    }
    )
