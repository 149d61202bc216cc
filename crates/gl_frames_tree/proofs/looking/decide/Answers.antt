use Rattle.std.proofs.Common.{ℕ, Bool, ap, arith, ◌∙◌}
use Rattle.std.specs.Prelude.{not, ◌&&◌, nat_eq}
use Rattle.gl_net.proofs.Determined.{keeps_then}
use Rattle.gl_wire.specs.Wire.{line_at}
use Rattle.gl_wire.proofs.ColumnLemmas.{bit_kept}
use Rattle.gl_wire_registers.specs.Held.{held_at}
use Rattle.gl_frames_tree.proofs.looking.decide.Goals as goal

pub returns : goal.returns
returns c =
    let new = c.in_ok-new.ensures in
    let lost = c.in_ok-lost.ensures in
    let make = c.in_ok-make.ensures in
    let row = c.in_ok-row.ensures in
    let k_lost = keeps_then c.when_equal.new.net c.but_not-2.new.net c.but_not-3.new.net make.keeps row.keeps in
    let k_new = keeps_then c.but_not.new.net c.when_equal.new.net c.but_not-3.new.net lost.keeps k_lost in
    record {
      keeps = keeps_then c.args.net.now c.but_not.new.net c.but_not-3.new.net new.keeps k_new;
      cost = record {
        nodes = omega (arith, new.cost.nodes, lost.cost.nodes, make.cost.nodes, row.cost.nodes);
        registers = omega (arith, new.cost.registers, lost.cost.registers, make.cost.registers, row.cost.registers);
        memories = omega (arith, new.cost.memories, lost.cost.memories, make.cost.memories, row.cost.memories);
      };
      has = record {
        row = row.bit;
        make = bit_kept c.but_not-2.new.net c.but_not-3.new.net c.in_ok-make.make row.keeps make.bit;
        lost = bit_kept c.when_equal.new.net c.but_not-3.new.net c.in_ok-lost.lost k_lost lost.bit;
      };
      law = λ run r.
          let at_make = row.keeps.runs run r in
          let at_lost = make.keeps.runs run at_make in
          let at_new = lost.keeps.runs run at_lost in
          record {
            lost = λ t. lost.line run at_lost 0 t
                ∙ ap (λ (b : Bool). b && nat_eq (held_at 0 run c.args.used t) c.from.result) (new.line run at_new t)
                ∙ ap (λ (x : ℕ). (line_at run c.args.valid t && not (line_at run c.args.here t)) && nat_eq (held_at 0 run c.args.used t) x) c.from.ensures;
            make = λ t. make.line run at_make t
                ∙ ap (λ (b : Bool). b && not (line_at run c.in_ok-lost.lost t)) (new.line run at_new t);
            row = row.line run r;
          };
    }
