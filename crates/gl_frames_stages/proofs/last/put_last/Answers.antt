use Rattle.std.proofs.Common.{ℕ, suc, sym, ap, arith, ◌∙◌}
use Rattle.std.specs.Prelude.{if◌then◌else◌}
use Rattle.gl_net.specs.Net.{Keeps}
use Rattle.gl_net.proofs.Determined.{keeps_then}
use Rattle.gl_net.proofs.Drive.{driven_keeps}
use Rattle.gl_wire.specs.Wire.{line_at}
use Rattle.gl_wire.proofs.ColumnLemmas.{bus_kept}
use Rattle.gl_wire.proofs.GateLemmas.{choose_line}
use Rattle.gl_frames_stages.proofs.last.put_last.Goals as goal

pub choose-requires-clause-widths : goal.choose-requires-clause-widths
choose-requires-clause-widths c = sym (c.in_ok-before.ensures.width ∙ c.width.ensures.value ∙ c.small_word-zero.ensures.width)

pub choose-requires-2-clause-widths : goal.choose-requires-2-clause-widths
choose-requires-2-clause-widths c = c.in_ok-again.ensures.width ∙ c.small_word-zero.ensures.width ∙ sym c.in_ok-now.ensures.width

pub returns : goal.returns
returns c = rw c.note_bus.ensures (
    let old = c.args.net.now in
    let new = c.drive.new.self in
    let value = c.args.value in
    let b = c.in_ok-before.before in
    let f = c.in_ok-now.now in
    let before = c.in_ok-before.ensures in
    let fold = c.in_ok-now.ensures in
    let again = c.in_ok-again.ensures in
    let next = c.in_ok-next.ensures in
    let drive = c.in_ok-drive.ensures in
    let behind_now : Keeps c.choose.new.self c.choose-2.new.self = keeps_then _ c.constant.new.self _ again.keeps next.keeps in
    let middle : Keeps c.register.new.self c.choose-2.new.self = keeps_then _ c.choose.new.self _ fold.keeps behind_now in
    let kept = bus_kept _ _ f behind_now fold.bus in
    let state = bus_kept _ _ b middle before.bus in
    record {
      keeps = driven_keeps old c.register.new.self c.choose-2.new.self new b.node before.grows before.ports before.name before.others before.fresh
          middle drive.grows drive.ports drive.name drive.others drive.driven;
      cost = record {
        nodes = omega (arith, before.size, fold.size, again.size, next.size, drive.size);
        registers = omega (arith, before.register_bits, fold.register_bits, again.register_bits, next.register_bits, drive.register_bits, c.width.ensures.value, c.small_word-zero.ensures.width);
        memories = omega (arith, before.memory_bits, fold.memory_bits, again.memory_bits, next.memory_bits, drive.memory_bits);
      };
      before = record { there = drive.grows.shapes _ _ state.there; width = state.width };
      now = record { there = drive.grows.shapes _ _ kept.there; width = kept.width };
      before_width = before.width ∙ c.width.ensures.value ∙ c.small_word-zero.ensures.width;
      now_width = fold.width;
      anew = λ run r.
          let at_next = drive.grows.runs run r in
          let at_again = next.keeps.runs run at_next in
          let at_before = middle.runs run at_next in
          record {
            start = before.start run at_before ∙ c.small_word-zero.ensures.bits;
            next = λ t.
                drive.value run r t ∙ next.value run at_next (suc t)
                ∙ choose_line run c.args.lines.eos (run.at (suc t) c.in_ok-again.again.node) (run.at (suc t) f.node) t
                ∙ ap (λ (n : ℕ). if line_at run c.args.lines.eos (suc t) then n else run.at (suc t) f.node) (again.value run at_again (suc t) ∙ c.small_word-zero.ensures.bits);
          };
      taken = λ run r t.
          let at_fold = behind_now.runs run (drive.grows.runs run r) in
          fold.value run at_fold (suc t) ∙ choose_line run c.args.takes (run.at (suc t) value.node) (run.at (suc t) b.node) t;
    })
