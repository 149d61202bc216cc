use Rattle.std.proofs.Common.{ℕ, suc, refl, ap, arith, ◌∙◌}
use Rattle.std.specs.Prelude.{if◌then◌else◌}
use Rattle.gl_net.proofs.Determined.{keeps_then}
use Rattle.gl_wire.specs.Wire.{line_at}
use Rattle.gl_wire.proofs.GateLemmas.{choose_line}
use Rattle.gl_totals.proofs.fold.put_stepped.Goals as goal

pub returns : goal.returns
returns c = λ start step next.
    let now = c.in_ok-now.ensures in
    record {
      keeps = keeps_then start c.args.net.now c.choose.new.self next.keeps now.keeps;
      cost = record {
        nodes = omega (arith, next.cost.nodes, now.size);
        registers = omega (arith, next.cost.registers, now.register_bits);
        memories = omega (arith, next.cost.memories, now.memory_bits);
      };
      before = refl;
      now = now.bus;
      now_width = now.width ∙ next.same_width;
      with_row = λ run r t.
          now.value run r (suc t) ∙ choose_line run c.args.valid (run.at (suc t) c.args.next.node) (run.at (suc t) c.args.word.node) t
          ∙ ap (λ (n : ℕ). if line_at run c.args.valid (suc t) then n else run.at (suc t) c.args.word.node) (next.value run (now.keeps.runs run r) t);
    }
