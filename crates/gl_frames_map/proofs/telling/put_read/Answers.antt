use Rattle.std.proofs.Common.{Bool, suc, ap, sym, arith, ◌∙◌}
use Rattle.std.specs.Prelude.{not, ◌&&◌, nat_lt}
use Rattle.gl_net.proofs.Determined.{keeps_then}
use Rattle.gl_wire.specs.Wire.{line_at}
use Rattle.gl_wire.proofs.ColumnLemmas.{bit_kept}
use Rattle.gl_frames_map.proofs.telling.put_read.Goals as goal

pub widen-requires-clause-room : goal.widen-requires-clause-room
widen-requires-clause-room c = omega (arith, c.requires.used.width.most, c.requires.width)

pub less-requires-clause-widths : goal.less-requires-clause-widths
less-requires-clause-widths c = c.in_ok-wide.ensures.width ∙ sym c.requires.width

pub returns : goal.returns
returns c =
    let wide = c.in_ok-wide.ensures in
    let lower = c.in_ok-lower.ensures in
    let stays = c.in_ok-stays.ensures in
    let below = c.in_ok-below.ensures in
    let number = c.in_ok-number.ensures in
    let k_stays = keeps_then c.but_not.new.net c.later_bit.new.net c.later.new.net below.keeps number.keeps in
    let k_lower = keeps_then c.less.new.net c.but_not.new.net c.later.new.net stays.keeps k_stays in
    let k_wide = keeps_then c.widen.new.net c.less.new.net c.later.new.net lower.keeps k_lower in
    record {
      keeps = keeps_then c.args.net.now c.widen.new.net c.later.new.net wide.keeps k_wide;
      cost = record {
        nodes = omega (arith, wide.cost.nodes, lower.cost.nodes, stays.cost.nodes, below.cost.nodes, number.cost.nodes);
        registers = omega (arith, wide.cost.registers, lower.cost.registers, stays.cost.registers, below.cost.registers, number.cost.registers, wide.width);
        memories = omega (arith, wide.cost.memories, lower.cost.memories, stays.cost.memories, below.cost.memories, number.cost.memories);
      };
      below = bit_kept c.later_bit.new.net c.later.new.net c.in_ok-below.below number.keeps below.bit;
      number = number.bus;
      number_width = number.same_width ∙ wide.width;
      law = λ run r.
          let at_below = number.keeps.runs run r in
          let at_stays = below.keeps.runs run at_below in
          let at_lower = stays.keeps.runs run at_stays in
          let at_wide = lower.keeps.runs run at_lower in
          record {
            below = λ t. below.line run at_below (suc t) ∙ stays.line run at_stays (suc t)
                ∙ ap (λ (b : Bool). b && not (line_at run c.args.ends (suc t))) (lower.line run at_lower t)
                ∙ ap (λ x. nat_lt x (run.at (suc t) c.args.used.node) && not (line_at run c.args.ends (suc t))) (wide.value run at_wide (suc t));
            number = λ t. number.value run r t ∙ wide.value run at_wide (suc t);
          };
    }
