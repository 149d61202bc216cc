use Rattle.std.proofs.Common.{Bool, suc, ap, arith, ◌∙◌}
use Rattle.gl_net.proofs.Determined.{keeps_then}
use Rattle.gl_wire.specs.Wire.{line_at}
use Rattle.gl_wire.proofs.ColumnLemmas.{bus_kept}
use Rattle.gl_frames_tree.specs.LevelNets.{part_at, part_now}
use Rattle.gl_frames_tree.proofs.PartNet.{parts_kept}
use Rattle.gl_frames_tree.proofs.writing.put_written.Goals as goal

pub put_all_now-requires-clause-parts : goal.put_all_now-requires-clause-parts
put_all_now-requires-clause-parts c = parts_kept c.args.net.now c.put_takes.new.net c.args.mark.width c.args.parts c.in_ok-takes.ensures.keeps c.requires.parts

pub put_all_now-requires-clause-takes : goal.put_all_now-requires-clause-takes
put_all_now-requires-clause-takes c = c.in_ok-takes.ensures.has

pub join_parts-requires-clause-parts : goal.join_parts-requires-clause-parts
join_parts-requires-clause-parts c = c.in_ok-now.ensures.has

pub join_parts-requires-clause-width : goal.join_parts-requires-clause-width
join_parts-requires-clause-width c = c.requires.mark.width

pub returns : goal.returns
returns c =
    let takes = c.in_ok-takes.ensures in
    let now = c.in_ok-now.ensures in
    let word = c.in_ok-word.ensures in
    let write = c.in_ok-write.ensures in
    let mark = c.args.mark in
    let k_now = keeps_then c.put_all_now.new.net c.join_parts.new.net c.either.new.net word.keeps write.keeps in
    let k_takes = keeps_then c.put_takes.new.net c.put_all_now.new.net c.either.new.net now.keeps k_now in
    record {
      keeps = keeps_then c.args.net.now c.put_takes.new.net c.either.new.net takes.keeps k_takes;
      cost = record {
        nodes = omega (arith, takes.cost.nodes, now.cost.nodes, word.cost.nodes, write.cost.nodes);
        registers = omega (arith, takes.cost.registers, now.cost.registers, word.cost.registers, write.cost.registers);
        memories = omega (arith, takes.cost.memories, now.cost.memories, word.cost.memories, write.cost.memories);
      };
      word = bus_kept c.join_parts.new.net c.either.new.net c.in_ok-word.word write.keeps word.bus;
      word_width = word.word_width;
      write = write.bit;
      value = λ run r t i l.
          let at_word = write.keeps.runs run r in
          let at_now = word.keeps.runs run at_word in
          word.value run at_word (suc t) i l ∙ now.value run at_now t i l
          ∙ ap (λ (b : Bool). part_now b (line_at run c.args.fresh (suc t)) (run.at (suc t) mark.node) (part_at run c.args.parts i (suc t)))
          (takes.line run (now.keeps.runs run at_now) (suc t) i l);
      line = λ run r t. write.line run r t;
    }
