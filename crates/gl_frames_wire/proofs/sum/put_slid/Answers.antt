use Rattle.std.proofs.Common.{ℕ, suc, ap, arith, ◌∙◌, sym}
use Rattle.std.specs.Prelude.{if◌then◌else◌}
use Rattle.gl_bits.specs.Words.{difference_of}
use Rattle.gl_net.proofs.Determined.{keeps_then}
use Rattle.gl_wire.specs.Wire.{line_at}
use Rattle.gl_wire.proofs.GateLemmas.{choose_line}
use Rattle.gl_frames_wire.proofs.sum.put_slid.Goals as goal

pub binary-requires-clause-widths : goal.binary-requires-clause-widths
binary-requires-clause-widths c = sym c.requires.value_width

pub binary-requires-2-clause-widths : goal.binary-requires-2-clause-widths
binary-requires-2-clause-widths c = c.in_ok-added.ensures.width ∙ sym c.requires.lag_width

pub choose-requires-clause-widths : goal.choose-requires-clause-widths
choose-requires-clause-widths c = c.in_ok-slid.ensures.width ∙ c.in_ok-added.ensures.width

pub returns : goal.returns
returns c =
    let added = c.in_ok-added.ensures in
    let slid = c.in_ok-slid.ensures in
    let now = c.in_ok-now.ensures in
    record {
      keeps = keeps_then _ _ _ added.keeps (keeps_then _ _ _ slid.keeps now.keeps);
      cost = record {
        nodes = omega (arith, added.size, slid.size, now.size);
        registers = omega (arith, added.register_bits, slid.register_bits, now.register_bits);
        memories = omega (arith, added.memory_bits, slid.memory_bits, now.memory_bits);
      };
      bus = now.bus;
      same_width = now.width ∙ slid.width ∙ added.width;
      slid = λ run r t.
          let at_slid = now.keeps.runs run r in
          let at_added = slid.keeps.runs run at_slid in
          now.value run r (suc t) ∙ choose_line run c.args.valid (run.at (suc t) c.in_ok-slid.slid.node) (run.at (suc t) c.args.before.node) t
          ∙ ap (λ (n : ℕ). if line_at run c.args.valid (suc t) then n else run.at (suc t) c.args.before.node)
          (slid.value run at_slid (suc t) ∙ ap (λ (w : ℕ). difference_of w (run.at (suc t) c.in_ok-added.added.node) (run.at (suc t) c.args.lag.node)) added.width
          ∙ ap (λ (n : ℕ). difference_of c.args.before.width n (run.at (suc t) c.args.lag.node)) (added.value run at_added (suc t)));
    }
