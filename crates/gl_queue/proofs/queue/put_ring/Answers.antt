use Rattle.std.proofs.Common.{ℕ, ◌+◌, ◌*◌, ◌^◌, ap, arith, ◌∙◌}
use Rattle.std.specs.List.{sum}
use Rattle.gl_net.proofs.Determined.{keeps_then}
use Rattle.gl_wire.specs.Wire.{widths}
use Rattle.gl_wire.proofs.ColumnLemmas.{buses_kept}
use Rattle.gl_queue.proofs.DepthLemmas.{ring_words}
use Rattle.gl_queue.proofs.QueueCosts.{ring_cost}
use Rattle.gl_queue.proofs.RingLinesLemmas.{ring_queue}
use Rattle.gl_queue.proofs.queue.put_ring.Goals as goal

pub put_columns-requires-clause-columns : goal.put_columns-requires-clause-columns
put_columns-requires-clause-columns c = buses_kept _ _ _ c.in_ok-passed.ensures.keeps (buses_kept _ _ _ c.in_ok-at.ensures.keeps c.requires.columns)

pub returns : goal.returns
returns c = rw c.note_queue.ensures (
    let bits = c.address_bits-bits.ensures in
    let places = c.in_ok-at.ensures in
    let passed = c.in_ok-passed.ensures in
    let stored = c.in_ok-columns.ensures in
    let at = c.in_ok-at.at in
    let words = ap (λ (n : ℕ). 2 ^ n * sum (widths c.args.columns.now)) bits.value ∙ ap (λ (n : ℕ). n * sum (widths c.args.columns.now)) (ring_words c.args.depth) in
    let two = ap (λ (n : ℕ). 2 * n + 1) bits.value in
    record {
      keeps = keeps_then c.args.net.now c.put_places.new.net c.put_columns.new.net places.keeps (keeps_then c.put_places.new.net c.put_passed.new.net c.put_columns.new.net passed.keeps stored.keeps);
      cost = ring_cost c.args.net.now c.put_columns.new.net c.args.depth (widths c.args.columns.now) c.requires.more_than_one (record {
        nodes = omega (arith, places.cost.nodes, passed.cost.nodes, stored.cost.nodes);
        registers = omega (arith, places.cost.registers, passed.cost.registers, stored.cost.registers, two);
        memories = omega (arith, places.cost.memories, passed.cost.memories, stored.cost.memories, words);
      });
      some = record { there = stored.keeps.shapes _ _ (passed.keeps.shapes _ _ places.some.there) };
      passed = record { there = stored.keeps.shapes _ _ passed.bit.there };
      buses = stored.buses;
      same_widths = stored.same_widths;
      queue = λ run r.
          let at_passed = stored.keeps.runs run r in
          let at_places = passed.keeps.runs run at_passed in
          ring_queue run c.address_bits-bits.result c.args.depth c.args.push c.args.hold at.some at.pop c.in_ok-passed.passed at.head at.tail c.args.columns.now c.in_ok-columns.columns
          bits.bits.some' (omega (arith, c.requires.more_than_one)) bits.enough
          (places.places run at_places) (passed.passed run at_passed) (stored.held run r);
    })
