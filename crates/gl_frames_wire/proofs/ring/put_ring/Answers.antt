use Rattle.std.proofs.Common.{arith, ◌∙◌, ◌^◌}
use Rattle.gl_net.proofs.Determined.{keeps_then}
use Rattle.gl_frames_wire.proofs.RingNet.{ring_alone}
use Rattle.gl_frames_wire.proofs.ring.put_ring.Goals as goal

pub put_memory-requires-clause-bits : goal.put_memory-requires-clause-bits
put_memory-requires-clause-bits c =
    let w = c.requires.reach.width in
    let most = w.most in
    record { some' = w.some'; most = omega (arith, most) }

pub put_memory-requires-clause-at_width : goal.put_memory-requires-clause-at_width
put_memory-requires-clause-at_width c = c.in_ok-before.ensures.same_width ∙ c.requires.width

pub returns : goal.returns
returns c =
    let before = c.in_ok-before.ensures in
    let out = c.in_ok-out.ensures in
    let reach = c.args.reach in
    record {
      keeps = keeps_then _ _ _ before.keeps out.keeps;
      cost = record {
        nodes = omega (arith, before.cost.nodes, out.cost.nodes);
        registers = omega (arith, before.cost.registers, out.cost.registers);
        memories = omega (arith, before.cost.memories, out.cost.memories);
      };
      bus = out.bus;
      same_width = out.same_width;
      ring = λ run r ends first.
          ring_alone run c.args.valid c.args.place c.args.value c.in_ok-before.before c.in_ok-out.out (2 ^ reach.bits) reach.back
          (before.before run (out.keeps.runs run r)) (out.held run r) ends first;
    }
