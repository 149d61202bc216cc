use Rattle.std.proofs.Common.{◌≡◌, ◌≤◌, ℕ, suc, subst, arith}
use Rattle.gl_net.proofs.Determined.{keeps_then}
use Rattle.gl_wire.specs.Wire.{line_at}
use Rattle.gl_wire_registers.specs.Held.{held_at, counted_down}
use Rattle.gl_wire_registers.proofs.TimerLemmas.{timer_is}
use Rattle.gl_wire_registers.proofs.timers.timer.Goals as goal

pub returns : goal.returns
returns c = rw c.note_timer.ensures (
    let one = c.in_ok-one.ensures in
    let left = c.in_ok-left.ensures in
    let over = c.in_ok-over.ensures in
    let on = c.in_ok-on.ensures in
    let fired = c.in_ok-fired.ensures in
    record {
      keeps = keeps_then c.args.net.now c.always.new.net _ one.keeps (keeps_then _ c.count_down.new.net _ left.keeps
          (keeps_then _ c.when_equal.new.net _ over.keeps (keeps_then _ c.latch.new.net c.when_equal-2.new.net on.keeps fired.keeps)));
      cost = record {
        nodes = omega (arith, one.cost.nodes, left.cost.nodes, over.cost.nodes, on.cost.nodes, fired.cost.nodes);
        registers = omega (arith, one.cost.registers, left.cost.registers, over.cost.registers, on.cost.registers, fired.cost.registers, c.bits_to-bits.ensures.value);
        memories = omega (arith, one.cost.memories, left.cost.memories, over.cost.memories, on.cost.memories, fired.cost.memories);
      };
      few = subst (λ (n : ℕ). n ≤ 32) c.bits_to-bits.ensures.value c.bits_to-bits.ensures.few;
      bit = fired.bit;
      line = λ run r4.
          let r3 = fired.keeps.runs run r4 in
          let r2 = on.keeps.runs run r3 in
          let r1 = over.keeps.runs run r2 in
          let r0 = left.keeps.runs run r1 in
          timer_is run c.args.set c.in_ok-one.one c.in_ok-over.over c.in_ok-on.on c.in_ok-fired.fired c.in_ok-left.left c.args.cycles
          (one.line run r0)
          (subst (λ (n : ℕ). (t : ℕ) → held_at 0 run c.in_ok-left.left (suc t) ≡ counted_down n 0 (line_at run c.args.set t) (line_at run c.in_ok-one.one t) (held_at 0 run c.in_ok-left.left t))
          c.from.ensures (left.next run r1))
          (over.line run r2 0) (on.line run r3) (fired.line run r4 0);
    })
