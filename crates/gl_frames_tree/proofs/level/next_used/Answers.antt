use Rattle.std.proofs.Common.{ℕ, suc, ap, arith, ◌∙◌}
use Rattle.std.specs.Prelude.{if◌then◌else◌}
use Rattle.gl_net.proofs.Determined.{keeps_then}
use Rattle.gl_wire.specs.Wire.{line_at}
use Rattle.gl_frames_map.proofs.SeenNet.{next_is}
use Rattle.gl_frames_tree.proofs.level.next_used.Goals as goal

pub returns : goal.returns
returns c =
    let more = c.in_ok-more.ensures in
    let kept = c.in_ok-kept.ensures in
    let next = c.in_ok-next.ensures in
    record {
      keeps = keeps_then c.args.net.now c.with_one.new.net c.number_or.new.net more.keeps (keeps_then c.with_one.new.net c.choose.new.self c.number_or.new.net kept.keeps next.keeps);
      cost = record {
        nodes = omega (arith, more.cost.nodes, kept.size, next.cost.nodes);
        registers = omega (arith, more.cost.registers, kept.register_bits, next.cost.registers);
        memories = omega (arith, more.cost.memories, kept.memory_bits, next.cost.memories);
      };
      bus = next.bus;
      same_width = next.width ∙ kept.width ∙ more.width;
      value = λ run r t fits.
          let at_kept = next.keeps.runs run r in
          let at_more = kept.keeps.runs run at_kept in
          next.value run r t
          ∙ ap (λ (x : ℕ). if line_at run c.args.ends (suc t) then 0 else x)
          (next_is run c.args.used c.in_ok-more.more c.args.make c.args.used.width (run.at (suc t) c.in_ok-kept.kept.node) t
          (more.value run at_more (suc t)) (kept.value run at_kept (suc t)) fits);
    }
