use Rattle.std.proofs.Common.{ℕ, suc, ap, subst, sym, arith, ◌+◌, ◌*◌, ◌∙◌}
use Rattle.std.specs.Prelude.{◌&&◌, nat_eq}
use Rattle.gl_net.proofs.Determined.{keeps_then}
use Rattle.gl_wire.specs.Wire.{line_at}
use Rattle.gl_wire.proofs.ColumnLemmas.{bit_kept, bus_kept}
use Rattle.gl_frames_tree.specs.LevelNets.{HasParts, digit_at, part_now, part_of}
use Rattle.gl_frames_tree.proofs.PartNet.{digit_kept, part_is, parts_kept, stand_kept}
use Rattle.gl_frames_tree.proofs.level.tell.Goals as goal

pub settle-requires-clause-stand : goal.settle-requires-clause-stand
settle-requires-clause-stand c = stand_kept c.args.net.now c.look.new.net c.args.keys.width c.args.stand c.in_ok-looked.ensures.keeps c.requires.stand

pub settle-requires-clause-looked : goal.settle-requires-clause-looked
settle-requires-clause-looked c = c.in_ok-looked.ensures.has

pub put_written-requires-clause-parts : goal.put_written-requires-clause-parts
put_written-requires-clause-parts c =
    subst (λ (k : ℕ). HasParts c.settle.new.net k c.in_ok-looked.looked.parts) (sym c.in_ok-settled.ensures.mark_width)
    (parts_kept c.look.new.net c.settle.new.net (c.args.keys.width + 1) c.in_ok-looked.looked.parts c.in_ok-settled.ensures.keeps c.in_ok-looked.ensures.has.parts)

pub put_written-requires-clause-make : goal.put_written-requires-clause-make
put_written-requires-clause-make c = c.in_ok-settled.ensures.decision.make

pub put_written-requires-clause-digit : goal.put_written-requires-clause-digit
put_written-requires-clause-digit c =
    digit_kept c.args.net.now c.settle.new.net c.args.stand.digit (keeps_then c.args.net.now c.look.new.net c.settle.new.net c.in_ok-looked.ensures.keeps c.in_ok-settled.ensures.keeps) c.requires.stand.digit

pub put_written-requires-clause-mark : goal.put_written-requires-clause-mark
put_written-requires-clause-mark c = c.in_ok-settled.ensures.mark

pub put_written-requires-clause-four : goal.put_written-requires-clause-four
put_written-requires-clause-four c = omega (arith, c.in_ok-settled.ensures.mark_width, c.requires.few)

pub put_written-requires-clause-fresh : goal.put_written-requires-clause-fresh
put_written-requires-clause-fresh c =
    bit_kept c.args.net.now c.settle.new.net c.args.stand.fresh (keeps_then c.args.net.now c.look.new.net c.settle.new.net c.in_ok-looked.ensures.keeps c.in_ok-settled.ensures.keeps) c.requires.stand.fresh

pub returns : goal.returns
returns c =
    let looked = c.in_ok-looked.ensures in
    let settled = c.in_ok-settled.ensures in
    let written = c.in_ok-written.ensures in
    let w = c.args.keys.width in
    let s = c.args.stand in
    let made = c.in_ok-settled.settled in
    let word = c.args.word in
    let k_looked = keeps_then c.look.new.net c.settle.new.net c.put_written.new.net settled.keeps written.keeps in
    record {
      keeps = keeps_then c.args.net.now c.look.new.net c.put_written.new.net looked.keeps k_looked;
      cost = record {
        nodes = omega (arith, looked.cost.nodes, settled.cost.nodes, written.cost.nodes);
        registers = omega (arith, looked.cost.registers, settled.cost.registers, written.cost.registers);
        memories = omega (arith, looked.cost.memories, settled.cost.memories, written.cost.memories);
      };
      has = record {
        here = bit_kept c.look.new.net c.put_written.new.net c.in_ok-looked.looked.seen.here k_looked looked.has.here;
        decision = record {
          row = bit_kept c.settle.new.net c.put_written.new.net made.decision.row written.keeps settled.decision.row;
          make = bit_kept c.settle.new.net c.put_written.new.net made.decision.make written.keeps settled.decision.make;
          lost = bit_kept c.settle.new.net c.put_written.new.net made.decision.lost written.keeps settled.decision.lost;
        };
        number = bus_kept c.settle.new.net c.put_written.new.net made.number written.keeps settled.number;
        number_width = settled.number_width;
        seen = bus_kept c.look.new.net c.put_written.new.net c.in_ok-looked.looked.seen.child k_looked looked.has.child;
        seen_width = looked.has.child_width;
        word = written.word;
        word_width = written.word_width ∙ ap (λ (k : ℕ). 4 * k) settled.mark_width;
        write = written.write;
      };
      law = λ run r.
          let at_settled = written.keeps.runs run r in
          let at_looked = settled.keeps.runs run at_settled in
          let look = looked.law run at_looked in
          let is = settled.law run at_settled in
          record {
            here = look.here;
            decision = is.decision;
            seen = look.child;
            number = is.number;
            value = λ t i l.
                ap (λ (k : ℕ). part_of k i (run.at (suc t) c.in_ok-written.written.word.node)) (sym settled.mark_width)
                ∙ written.value run r t i l
                ∙ ap (λ (x : ℕ). part_now (line_at run made.decision.make (suc t) && nat_eq (digit_at run s.digit (suc t)) i) (line_at run s.fresh (suc t)) (run.at (suc t) made.mark.node) x)
                (part_is run (w + 1) word c.in_ok-looked.looked.parts look.parts i (suc t) l)
                ∙ ap (λ (x : ℕ). part_now (line_at run made.decision.make (suc t) && nat_eq (digit_at run s.digit (suc t)) i) (line_at run s.fresh (suc t)) x (part_of (w + 1) i (run.at (suc t) word.node)))
                (is.mark (suc t));
            write = written.line run r;
          };
    }
