use Rattle.std.proofs.Common.{ℕ, suc, ap, arith, ◌∙◌, sym}
use Rattle.std.specs.Prelude.{if◌then◌else◌}
use Rattle.gl_net.proofs.Determined.{keeps_then}
use Rattle.gl_wire.specs.Wire.{line_at}
use Rattle.gl_wire.proofs.GateLemmas.{choose_line}
use Rattle.gl_frames_stages.proofs.slide.put_or_none.Goals as goal

pub choose-requires-clause-widths : goal.choose-requires-clause-widths
choose-requires-clause-widths c = sym (c.in_ok-none.ensures.width ∙ c.small_word.ensures.width)

pub returns : goal.returns
returns c =
    let none = c.in_ok-none.ensures in
    let out = c.in_ok-out.ensures in
    let x = c.args.value in
    record {
      keeps = keeps_then _ c.constant.new.self _ none.keeps out.keeps;
      cost = record {
        nodes = omega (arith, none.size, out.size);
        registers = omega (arith, none.register_bits, out.register_bits);
        memories = omega (arith, none.memory_bits, out.memory_bits);
      };
      bus = out.bus;
      same_width = out.width;
      chosen = λ run r t.
          out.value run r (suc t) ∙ choose_line run x.some (run.at (suc t) x.word.node) (run.at (suc t) c.in_ok-none.none.node) t
          ∙ ap (λ (n : ℕ). if line_at run x.some (suc t) then run.at (suc t) x.word.node else n)
          (none.value run (out.keeps.runs run r) (suc t) ∙ c.small_word.ensures.bits);
    }
