use Rattle.std.proofs.Common.{ℕ, suc, ◌&&◌, ap, sym, arith, ◌∙◌}
use Rattle.std.specs.Prelude.{nat_eq}
use Rattle.gl_net.proofs.Determined.{keeps_then}
use Rattle.gl_wire.specs.Wire.{line_at}
use Rattle.gl_wire_registers.specs.Held.{counted_down, held_at}
use Rattle.gl_windows.proofs.parts.count_openings.Goals as goal

pub returns : goal.returns
returns c = rw c.note_opening.ensures (
    let until = c.in_ok-until.ensures in
    let opens = c.in_ok-opens.ensures in
    record {
      keeps = keeps_then c.args.net.now c.count_down.new.net c.when_equal.new.net until.keeps opens.keeps;
      bit = opens.bit;
      cost = record {
        nodes = omega (arith, until.cost.nodes, opens.cost.nodes);
        registers = omega (arith, until.cost.registers, opens.cost.registers, until.width);
        memories = omega (arith, until.cost.memories, opens.cost.memories);
      };
      few = omega (arith, until.width, c.bits_to-bits.ensures.few);
      law = λ run r. record {
        next = λ t. ap (λ (n : ℕ). held_at n run c.in_ok-until.until (suc t)) (sym c.from-first.ensures) ∙ until.next run (opens.keeps.runs run r) t
            ∙ (λ i. counted_down (c.from-first.ensures i) (c.from-again.ensures i) (line_at run c.args.eos t) (line_at run c.args.unit t) (held_at (c.from-first.ensures i) run c.in_ok-until.until t));
        opens = λ t. opens.line run r c.from-first.result t ∙ ap (λ (n : ℕ). line_at run c.args.unit t && nat_eq (held_at n run c.in_ok-until.until t) 0) c.from-first.ensures;
      };
    })
