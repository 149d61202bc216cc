use Rattle.std.proofs.Common.{ℕ, suc, ap, arith, ◌∙◌}
use Rattle.std.specs.Prelude.{if◌then◌else◌}
use Rattle.gl_bits.specs.Words.{difference_of}
use Rattle.gl_net.proofs.Determined.{keeps_then}
use Rattle.gl_wire.specs.Wire.{line_at}
use Rattle.gl_wire.proofs.GateLemmas.{choose_line}
use Rattle.gl_totals.proofs.sign.put_negated.Goals as goal

pub returns : goal.returns
returns c =
    let new = c.choose.new.self in
    let bus = c.args.bus in
    let line = c.args.line in
    let zero = c.in_ok-zero.ensures in
    let less = c.in_ok-less.ensures in
    let out = c.in_ok-out.ensures in
    let wide = zero.width ∙ c.small_word.ensures.width in
    record {
      keeps = keeps_then c.args.net.now c.constant.new.self new zero.keeps (keeps_then c.constant.new.self c.binary.new.self new less.keeps out.keeps);
      cost = record {
        nodes = omega (arith, zero.size, less.size, out.size);
        registers = omega (arith, zero.register_bits, less.register_bits, out.register_bits);
        memories = omega (arith, zero.memory_bits, less.memory_bits, out.memory_bits);
      };
      bus = out.bus;
      same_width = out.width ∙ less.width ∙ wide;
      value = λ run r t.
          let at_less = out.keeps.runs run r in
          let at_zero = less.keeps.runs run at_less in
          let x = run.at (suc t) bus.node in
          out.value run r (suc t) ∙ choose_line run line (run.at (suc t) c.in_ok-less.less.node) x t
          ∙ ap (λ (n : ℕ). if line_at run line (suc t) then n else x)
          (less.value run at_less (suc t) ∙ ap (λ (w : ℕ). difference_of w (run.at (suc t) c.in_ok-zero.zero.node) x) wide
          ∙ ap (λ (n : ℕ). difference_of bus.width n x) (zero.value run at_zero (suc t) ∙ c.small_word.ensures.bits));
    }
