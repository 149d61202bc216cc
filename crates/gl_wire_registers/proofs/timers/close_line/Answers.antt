use Rattle.std.proofs.Common.{arith}
use Rattle.gl_net.proofs.Determined.{keeps_then}
use Rattle.gl_wire.specs.Wire.{line_at}
use Rattle.gl_wire_registers.proofs.TimerLemmas.{close_is}
use Rattle.gl_wire_registers.proofs.timers.close_line.Goals as goal

pub returns : goal.returns
returns c = rw c.note_bit.ensures (
    let fired = c.in_ok-fired.ensures in
    let close = c.in_ok-close.ensures in
    record {
      keeps = keeps_then c.args.net.now c.timer.new.net c.later_by.new.net fired.keeps close.keeps;
      cost = record {
        nodes = omega (arith, fired.cost.nodes, close.cost.nodes);
        registers = omega (arith, fired.cost.registers, close.cost.registers);
        memories = omega (arith, fired.cost.memories, close.cost.memories);
      };
      few = fired.few;
      bit = close.bit;
      close = λ run r.
          close_is c.args.cycles c.args.more (line_at run c.args.ends) (line_at run c.in_ok-fired.fired) (line_at run c.in_ok-close.close)
          (fired.line run (close.keeps.runs run r)) (close.first run r) (close.later run r);
    })
