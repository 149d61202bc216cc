use Rattle.std.proofs.Common.{ℕ, suc, ap, sym, arith, ◌∙◌}
use Rattle.std.specs.Prelude.{if◌then◌else◌}
use Rattle.gl_net.proofs.Determined.{keeps_then}
use Rattle.gl_wire.specs.Wire.{line_at}
use Rattle.gl_wire.proofs.GateLemmas.{choose_line}
use Rattle.gl_frames_tree.proofs.writing.put_now.Goals as goal

pub choose-requires-clause-widths : goal.choose-requires-clause-widths
choose-requires-clause-widths c = c.requires.widths ∙ sym c.in_ok-kept.ensures.width

pub returns : goal.returns
returns c =
    let kept = c.in_ok-kept.ensures in
    let now = c.in_ok-now.ensures in
    let mark = c.args.mark.node in
    record {
      keeps = keeps_then c.args.net.now c.number_or.new.net c.choose.new.self kept.keeps now.keeps;
      cost = record {
        nodes = omega (arith, kept.cost.nodes, now.size);
        registers = omega (arith, kept.cost.registers, now.register_bits);
        memories = omega (arith, kept.cost.memories, now.memory_bits);
      };
      bus = now.bus;
      part_width = now.width;
      value = λ run r t. now.value run r (suc t) ∙ choose_line run c.args.takes (run.at (suc t) mark) (run.at (suc t) c.in_ok-kept.kept.node) t
          ∙ ap (λ (x : ℕ). if line_at run c.args.takes (suc t) then run.at (suc t) mark else x) (kept.value run (now.keeps.runs run r) t);
    }
