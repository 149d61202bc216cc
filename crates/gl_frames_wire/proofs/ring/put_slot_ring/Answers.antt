use Rattle.std.proofs.Common.{ℕ, ◌+◌, ◌^◌, ap, arith, ◌∙◌}
use Rattle.gl_bits.specs.Words.{join_of}
use Rattle.gl_net.proofs.Determined.{keeps_then}
use Rattle.gl_wire.proofs.ColumnLemmas.{bit_kept}
use Rattle.gl_net.proofs.Values.{bus_fits}
use Rattle.gl_frames_wire.proofs.RingNet.{ring_of}
use Rattle.gl_frames_wire.proofs.ring.put_slot_ring.Goals as goal

pub returns : goal.returns
returns c =
    let slot = c.args.slot in
    let place = c.args.place in
    let reach = c.args.reach in
    let before = c.in_ok-before.ensures in
    let from = c.in_ok-from.ensures in
    let to = c.in_ok-to.ensures in
    let out = c.in_ok-out.ensures in
    record {
      keeps = keeps_then _ _ _ before.keeps (keeps_then _ _ _ from.keeps (keeps_then _ _ _ to.keeps out.keeps));
      cost = record {
        nodes = omega (arith, before.cost.nodes, from.size, to.size, out.cost.nodes);
        registers = omega (arith, before.cost.registers, from.register_bits, to.register_bits, out.cost.registers);
        memories = omega (arith, before.cost.memories, from.memory_bits, to.memory_bits, out.cost.memories);
      };
      bus = out.bus;
      same_width = out.same_width;
      ring = λ run r ends first.
          let at_to = out.keeps.runs run r in
          let at_from = to.keeps.runs run at_to in
          let at_before = from.keeps.runs run at_from in
          ring_of run c.args.valid slot place c.args.value c.in_ok-from.from c.in_ok-to.to c.in_ok-out.out (2 ^ reach.bits) reach.back
          (ap (λ (w : ℕ). 2 ^ w) c.requires.width)
          (bus_fits c.args.net.now place run c.requires.place (before.keeps.runs run at_before))
          (λ t. from.value run at_from t
          ∙ ap (λ w. join_of w (run.at t slot.node) (run.at t c.in_ok-before.before.node)) before.same_width
          ∙ ap (join_of place.width (run.at t slot.node)) (before.before run at_before t))
          (to.value run at_to) (out.held run r) ends first;
    }

pub overflow_add-bits : goal.overflow_add-bits
overflow_add-bits c = omega (arith, c.requires.bits)

pub join-requires-clause-widths : goal.join-requires-clause-widths
join-requires-clause-widths c = let w = c.in_ok-before.ensures.same_width in omega (arith, c.requires.bits, w)

pub join-requires-2-clause-widths : goal.join-requires-2-clause-widths
join-requires-2-clause-widths c = omega (arith, c.requires.bits)

pub put_memory-requires-clause-bits : goal.put_memory-requires-clause-bits
put_memory-requires-clause-bits c = let s = c.requires.slot.width.some' in record { some' = omega (arith, s); most = c.requires.bits }

pub put_memory-requires-clause-place_width : goal.put_memory-requires-clause-place_width
put_memory-requires-clause-place_width c = c.in_ok-to.ensures.width

pub put_memory-requires-clause-at_width : goal.put_memory-requires-clause-at_width
put_memory-requires-clause-at_width c = c.in_ok-from.ensures.width ∙ ap (λ n. c.args.slot.width + n) c.in_ok-before.ensures.same_width

pub put_memory-requires-clause-write : goal.put_memory-requires-clause-write
put_memory-requires-clause-write c =
    bit_kept c.args.net.now c.join-2.new.self c.args.valid
    (keeps_then _ _ _ c.in_ok-before.ensures.keeps (keeps_then _ _ _ c.in_ok-from.ensures.keeps c.in_ok-to.ensures.keeps)) c.requires.valid
