use Rattle.std.proofs.Common.{ℕ, Bool, ap, arith, ◌∙◌}
use Rattle.std.specs.Prelude.{not, ◌&&◌, nat_eq}
use Rattle.gl_net.proofs.Determined.{keeps_then}
use Rattle.gl_wire.specs.Wire.{line_at}
use Rattle.gl_wire.proofs.ColumnLemmas.{bit_kept}
use Rattle.gl_wire_registers.specs.Held.{held_at}
use Rattle.gl_frames_map.proofs.telling.decide.Goals as goal

pub returns : goal.returns
returns c =
    let new = c.in_ok-new.ensures in
    let further = c.in_ok-further.ensures in
    let first = c.in_ok-first.ensures in
    let row = c.in_ok-row.ensures in
    let k_further = keeps_then c.when_equal.new.net c.but_not-2.new.net c.but_not-3.new.net first.keeps row.keeps in
    let k_new = keeps_then c.but_not.new.net c.when_equal.new.net c.but_not-3.new.net further.keeps k_further in
    record {
      keeps = keeps_then c.args.net.now c.but_not.new.net c.but_not-3.new.net new.keeps k_new;
      cost = record {
        nodes = omega (arith, new.cost.nodes, further.cost.nodes, first.cost.nodes, row.cost.nodes);
        registers = omega (arith, new.cost.registers, further.cost.registers, first.cost.registers, row.cost.registers);
        memories = omega (arith, new.cost.memories, further.cost.memories, first.cost.memories, row.cost.memories);
      };
      row = row.bit;
      first = bit_kept c.but_not-2.new.net c.but_not-3.new.net c.in_ok-first.first row.keeps first.bit;
      further = bit_kept c.when_equal.new.net c.but_not-3.new.net c.in_ok-further.further k_further further.bit;
      law = λ run r.
          let at_first = row.keeps.runs run r in
          let at_further = first.keeps.runs run at_first in
          let at_new = further.keeps.runs run at_further in
          record {
            further = λ t. further.line run at_further 0 t
                ∙ ap (λ (b : Bool). b && nat_eq (held_at 0 run c.args.used t) c.from.result) (new.line run at_new t)
                ∙ ap (λ (x : ℕ). (line_at run c.args.valid t && not (line_at run c.args.known t)) && nat_eq (held_at 0 run c.args.used t) x) c.from.ensures;
            first = λ t. first.line run at_first t
                ∙ ap (λ (b : Bool). b && not (line_at run c.in_ok-further.further t)) (new.line run at_new t);
            row = row.line run r;
          };
    }
