use Rattle.std.proofs.Common.{Bool, suc, ap, arith, ◌∙◌}
use Rattle.std.specs.Prelude.{not, ◌&&◌}
use Rattle.gl_bits.proofs.Wrapping.{cut_low}
use Rattle.gl_net.proofs.Determined.{keeps_then}
use Rattle.gl_wire.specs.Wire.{line_at}
use Rattle.gl_wire.proofs.ColumnLemmas.{bit_kept}
use Rattle.gl_wire.proofs.GateLemmas.{bit_of}
use Rattle.gl_frames_tree.proofs.PartLemmas.{top_line}
use Rattle.gl_frames_tree.proofs.looking.put_seen.Goals as goal

pub but_not-requires-clause-left : goal.but_not-requires-clause-left
but_not-requires-clause-left c = bit_of c.cut.new.self c.in_ok-top.top c.bit.result c.in_ok-top.ensures.bus (omega (arith, c.in_ok-top.ensures.width)) c.bit.ensures

pub returns : goal.returns
returns c =
    let w = c.args.width in
    let top = c.in_ok-top.ensures in
    let here = c.in_ok-here.ensures in
    let child = c.in_ok-child.ensures in
    let k_top = keeps_then c.cut.new.self c.but_not.new.net c.cut-2.new.self here.keeps child.keeps in
    record {
      keeps = keeps_then c.args.net.now c.cut.new.self c.cut-2.new.self top.keeps k_top;
      cost = record {
        nodes = omega (arith, top.size, here.cost.nodes, child.size);
        registers = omega (arith, top.register_bits, here.cost.registers, child.register_bits);
        memories = omega (arith, top.memory_bits, here.cost.memories, child.memory_bits);
      };
      here' = bit_kept c.but_not.new.net c.cut-2.new.self c.in_ok-here.here child.keeps here.bit;
      child' = child.bus;
      child_width = child.width ∙ omega (arith, c.requires.width.some');
      here = λ run r t.
          let at_here = child.keeps.runs run r in
          let at_top = here.keeps.runs run at_here in
          here.line run at_here (suc t)
          ∙ ap (λ (b : Bool). b && not (line_at run c.args.fresh (suc t)))
          (top_line run c.bit.result w (run.at (suc t) c.args.part.node) t (ap (run.at (suc t)) c.bit.ensures ∙ top.value run at_top (suc t)));
      child = λ run r t. child.value run r t ∙ cut_low w (run.at t c.args.part.node) c.requires.width.some';
    }
