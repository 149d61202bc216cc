use Rattle.std.proofs.Common.{◌≡◌, ℕ, suc, ◌^◌, ◌<◌, sym, subst, ap, arith, ◌∙◌}
use Rattle.std.specs.Prelude.{if◌then◌else◌}
use Rattle.gl_bits.specs.Words.{difference_of, sum_of}
use Rattle.gl_net.specs.Net.{Keeps}
use Rattle.gl_net.proofs.Determined.{keeps_then}
use Rattle.gl_net.proofs.Drive.{driven_keeps}
use Rattle.gl_net.proofs.Values.{bus_fits}
use Rattle.gl_wire.specs.Wire.{line_at}
use Rattle.gl_wire.proofs.ColumnLemmas.{bit_kept, bus_kept}
use Rattle.gl_wire.proofs.GateLemmas.{choose_line}
use Rattle.gl_frames_wire.proofs.SumNet.{summed}
use Rattle.gl_frames_wire.proofs.sum.put_frame_sum.Goals as goal

pub put_slid-requires-clause-value_width : goal.put_slid-requires-clause-value_width
put_slid-requires-clause-value_width c = sym (c.in_ok-before.ensures.width ∙ c.width.ensures.value ∙ c.word-zero.ensures.width)

pub put_slid-requires-clause-lag_width : goal.put_slid-requires-clause-lag_width
put_slid-requires-clause-lag_width c = c.in_ok-lag.ensures.same_width ∙ sym (c.in_ok-before.ensures.width ∙ c.width.ensures.value ∙ c.word-zero.ensures.width)

pub choose-requires-clause-widths : goal.choose-requires-clause-widths
choose-requires-clause-widths c = c.in_ok-again.ensures.width ∙ sym (c.in_ok-now.ensures.same_width ∙ c.in_ok-before.ensures.width ∙ c.width.ensures.value)

pub returns : goal.returns
returns c = rw c.note_bus.ensures (
    let mid = c.put_lag.new.net in
    let new = c.drive.new.self in
    let value = c.args.value in
    let reach = c.args.reach in
    let b = c.in_ok-before.before in
    let f = c.in_ok-now.now in
    let lag = c.in_ok-lag.ensures in
    let before = c.in_ok-before.ensures in
    let fold = c.in_ok-now.ensures in
    let again = c.in_ok-again.ensures in
    let next = c.in_ok-next.ensures in
    let drive = c.in_ok-drive.ensures in
    let behind_now : Keeps c.put_slid.new.net c.choose.new.self = keeps_then _ c.constant.new.self _ again.keeps next.keeps in
    let middle : Keeps c.register.new.self c.choose.new.self = keeps_then _ c.put_slid.new.net _ fold.keeps behind_now in
    let kept = bus_kept _ _ f behind_now fold.bus in
    let driven : Keeps mid new = driven_keeps mid c.register.new.self c.choose.new.self new b.node before.grows before.ports before.name before.others before.fresh
    middle drive.grows drive.ports drive.name drive.others drive.driven in
    let width : b.width ≡ value.width = before.width ∙ c.width.ensures.value ∙ c.word-zero.ensures.width in
    record {
      keeps = keeps_then _ mid _ lag.keeps driven;
      cost = record {
        nodes = omega (arith, lag.cost.nodes, before.size, fold.cost.nodes, again.size, next.size, drive.size);
        registers = omega (arith, lag.cost.registers, before.register_bits, fold.cost.registers, again.register_bits, next.register_bits, drive.register_bits, c.width.ensures.value, c.word-zero.ensures.width);
        memories = omega (arith, lag.cost.memories, before.memory_bits, fold.cost.memories, again.memory_bits, next.memory_bits, drive.memory_bits);
      };
      bus = record { there = drive.grows.shapes _ _ kept.there; width = kept.width };
      same_width = fold.same_width ∙ width;
      sums = λ run r d v.
          let at_next = drive.grows.runs run r in
          let at_again = next.keeps.runs run at_next in
          let at_fold = behind_now.runs run at_next in
          let at_before = fold.keeps.runs run at_fold in
          let at_lag = driven.runs run r in
          summed c.one_is_single.ensures c.sums_slide.ensures.slide run c.args.valid c.args.eos value c.in_ok-lag.lag b f value.width reach.back (before.start run at_before ∙ c.word-zero.ensures.bits)
          (λ t.
          drive.value run r t ∙ next.value run at_next (suc t)
          ∙ choose_line run c.args.eos (run.at (suc t) c.in_ok-again.again.node) (run.at (suc t) f.node) t
          ∙ ap (λ (n : ℕ). if line_at run c.args.eos (suc t) then n else run.at (suc t) f.node) (again.value run at_again (suc t) ∙ c.word-zero.ensures.bits))
          (λ t.
          fold.slid run at_fold t
          ∙ ap (λ (w : ℕ). if line_at run c.args.valid (suc t) then difference_of w (sum_of w (run.at (suc t) b.node) (run.at (suc t) value.node)) (run.at (suc t) c.in_ok-lag.lag.node) else run.at (suc t) b.node) width)
          (subst (λ w. (t : ℕ) → run.at t c.in_ok-lag.lag.node < 2 ^ w) lag.same_width (bus_fits mid c.in_ok-lag.lag run lag.bus at_lag))
          (lag.lags run at_lag) d v;
    })

pub choose-requires-clause-test : goal.choose-requires-clause-test
choose-requires-clause-test c =
    let passed : Keeps c.register.new.self c.constant.new.self = keeps_then _ c.put_slid.new.net _ c.in_ok-now.ensures.keeps c.in_ok-again.ensures.keeps in
    bit_kept c.register.new.self c.constant.new.self c.args.eos passed
    (record { there = c.in_ok-before.ensures.grows.shapes _ _ (c.in_ok-lag.ensures.keeps.shapes _ _ c.requires.eos.there) })
