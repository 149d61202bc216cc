use Rattle.std.proofs.Common.{ap, arith, ◌∙◌, sym}
use Rattle.gl_bits.specs.Words.{difference_of}
use Rattle.gl_net.proofs.Determined.{keeps_then}
use Rattle.gl_frames_wire.proofs.RingNet.{before_is}
use Rattle.gl_frames_wire.proofs.ring.put_before.Goals as goal

pub binary-requires-clause-widths : goal.binary-requires-clause-widths
binary-requires-clause-widths c = c.requires.width ∙ sym (c.in_ok-back.ensures.width ∙ c.back_word.ensures.width)

pub returns : goal.returns
returns c =
    let place = c.args.place in
    let reach = c.args.reach in
    let back = c.in_ok-back.ensures in
    let before = c.in_ok-before.ensures in
    record {
      keeps = keeps_then _ _ _ back.keeps before.keeps;
      cost = record {
        nodes = omega (arith, back.size, before.size);
        registers = omega (arith, back.register_bits, before.register_bits);
        memories = omega (arith, back.memory_bits, before.memory_bits);
      };
      bus = before.bus;
      same_width = before.width;
      before = λ run r t.
          before.value run r t
          ∙ ap (λ w. difference_of w (run.at t place.node) (run.at t c.in_ok-back.back.node)) c.requires.width
          ∙ ap (difference_of reach.bits (run.at t place.node)) (back.value run (before.keeps.runs run r) t ∙ c.back_word.ensures.bits)
          ∙ before_is reach.bits reach.back (run.at t place.node);
    }
