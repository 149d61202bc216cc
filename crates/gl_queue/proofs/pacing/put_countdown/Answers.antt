use Rattle.std.proofs.Common.{ℕ, ◌<◌, ◌^◌, ap, arith, ◌∙◌, subst}
use Rattle.gl_bits.specs.Words.{difference_of}
use Rattle.gl_net.proofs.Determined.{keeps_then}
use Rattle.gl_net.proofs.Values.{bus_fits}
use Rattle.gl_queue.proofs.PacingLemmas.{next_is}
use Rattle.gl_queue.proofs.pacing.put_countdown.Goals as goal

pub returns : goal.returns
returns c =
    let zero = c.in_ok-zero.ensures in
    let one = c.in_ok-one.ensures in
    let full = c.in_ok-full.ensures in
    let less = c.in_ok-less.ensures in
    let down = c.in_ok-down.ensures in
    let next = c.in_ok-next.ensures in
    let old = c.args.net.now in
    record {
      keeps = keeps_then old c.constant.new.self _ zero.keeps (keeps_then _ c.constant-2.new.self _ one.keeps (keeps_then _ c.constant-3.new.self _ full.keeps
          (keeps_then _ c.binary.new.self _ less.keeps (keeps_then _ c.choose.new.self c.choose-2.new.self down.keeps next.keeps))));
      cost = record {
        nodes = omega (arith, zero.size, one.size, full.size, less.size, down.size, next.size);
        registers = omega (arith, zero.register_bits, one.register_bits, full.register_bits, less.register_bits, down.register_bits, next.register_bits);
        memories = omega (arith, zero.memory_bits, one.memory_bits, full.memory_bits, less.memory_bits, down.memory_bits, next.memory_bits);
      };
      bus = next.bus;
      width = next.width ∙ full.width ∙ c.word-3.ensures.width;
      value = λ run r holds.
          let at_down = next.keeps.runs run r in
          let at_less = down.keeps.runs run at_down in
          let at_full = less.keeps.runs run at_less in
          let at_one = full.keeps.runs run at_full in
          let at_zero = one.keeps.runs run at_one in
          let at_old = zero.keeps.runs run at_zero in
          next_is run c.args.number c.args.timer c.in_ok-zero.zero c.in_ok-one.one c.in_ok-full.full c.in_ok-less.less c.in_ok-down.down c.in_ok-next.next c.args.hold c.args.start
          (λ t. subst (λ (w : ℕ). run.at t c.args.timer.node < 2 ^ w) c.requires.width (bus_fits old c.args.timer run c.requires.timer at_old t))
          (λ t. zero.value run at_zero t ∙ c.word.ensures.bits)
          (λ t. one.value run at_one t ∙ c.word-2.ensures.bits)
          (λ t. full.value run at_full t ∙ c.word-3.ensures.bits ∙ c.saturating_sub.ensures)
          (λ t. less.value run at_less t ∙ ap (λ (w : ℕ). difference_of w (run.at t c.args.timer.node) (run.at t c.in_ok-one.one.node)) c.requires.width)
          (λ t. down.value run at_down t)
          (λ t. next.value run r t)
          holds;
    }
