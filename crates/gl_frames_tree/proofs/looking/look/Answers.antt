use Rattle.std.proofs.Common.{ℕ, suc, ap, arith, ◌+◌, ◌∙◌}
use Rattle.gl_net.proofs.Determined.{keeps_then}
use Rattle.gl_wire.specs.Wire.{line_at}
use Rattle.gl_wire.proofs.ColumnLemmas.{bit_kept}
use Rattle.std.specs.Prelude.{not, ◌&&◌}
use Rattle.gl_frames_tree.specs.LevelNets.{child_in, is_marked}
use Rattle.gl_frames_tree.proofs.PartNet.{part_there, parts_kept}
use Rattle.gl_frames_tree.proofs.looking.look.Goals as goal

pub put_parts-requires-clause-width : goal.put_parts-requires-clause-width
put_parts-requires-clause-width c = record { some' = omega arith; most = omega (arith, c.requires.few) }

pub pick_part-requires-clause-digit : goal.pick_part-requires-clause-digit
pick_part-requires-clause-digit c = record {
  high = bit_kept c.args.net.now c.put_parts.new.net c.args.stand.digit.high c.in_ok-parts.ensures.keeps c.requires.stand.digit.high;
  low = bit_kept c.args.net.now c.put_parts.new.net c.args.stand.digit.low c.in_ok-parts.ensures.keeps c.requires.stand.digit.low;
}

pub pick_part-requires-clause-parts : goal.pick_part-requires-clause-parts
pick_part-requires-clause-parts c = c.in_ok-parts.ensures.has

pub put_seen-requires-clause-part_width : goal.put_seen-requires-clause-part_width
put_seen-requires-clause-part_width c = c.in_ok-part.ensures.part_width

pub put_seen-requires-clause-fresh : goal.put_seen-requires-clause-fresh
put_seen-requires-clause-fresh c =
    bit_kept c.args.net.now c.pick_part.new.net c.args.stand.fresh
    (keeps_then c.args.net.now c.put_parts.new.net c.pick_part.new.net c.in_ok-parts.ensures.keeps c.in_ok-part.ensures.keeps) c.requires.stand.fresh

pub returns : goal.returns
returns c =
    let parts = c.in_ok-parts.ensures in
    let part = c.in_ok-part.ensures in
    let seen = c.in_ok-seen.ensures in
    let w = c.args.keys.width in
    let s = c.args.stand in
    let k_parts = keeps_then c.put_parts.new.net c.pick_part.new.net c.put_seen.new.net part.keeps seen.keeps in
    record {
      keeps = keeps_then c.args.net.now c.put_parts.new.net c.put_seen.new.net parts.keeps k_parts;
      cost = record {
        nodes = omega (arith, parts.cost.nodes, part.cost.nodes, seen.cost.nodes);
        registers = omega (arith, parts.cost.registers, part.cost.registers, seen.cost.registers);
        memories = omega (arith, parts.cost.memories, part.cost.memories, seen.cost.memories);
      };
      has = record {
        parts = parts_kept c.put_parts.new.net c.put_seen.new.net (w + 1) c.in_ok-parts.parts k_parts parts.has;
        here = seen.here';
        child = seen.child';
        child_width = seen.child_width;
      };
      law = λ run r.
          let at_part = seen.keeps.runs run r in
          let at_parts = part.keeps.runs run at_part in
          let are = parts.law run at_parts in
          let own = λ (t : ℕ). part.value run at_part t ∙ part_there run (w + 1) c.args.word c.in_ok-parts.parts are s.digit (suc t) in
          record {
            parts = are;
            here = λ t. seen.here run r t ∙ ap (λ (x : ℕ). is_marked w x && not (line_at run s.fresh (suc t))) (own t);
            child = λ t. seen.child run r (suc t) ∙ ap (child_in w) (own t);
          };
    }
