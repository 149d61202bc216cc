use Rattle.std.proofs.Common.{Bool, Some, None, suc, ◌^◌, ap, arith, ◌∙◌, sym}
use Rattle.std.specs.Prelude.{if◌then◌else◌, nat_le}
use Rattle.std.proofs.lemmas.Nat.{pow_pos}
use Rattle.gl_bits.proofs.Wrapping.{cut_low}
use Rattle.gl_net.proofs.Determined.{keeps_then}
use Rattle.gl_wire.proofs.ColumnLemmas.{bus_kept}
use Rattle.gl_frames_wire.specs.CountNets.{streams_by}
use Rattle.gl_frames_wire.specs.Since.{own_ends}
use Rattle.gl_frames_wire.proofs.ColumnLemmas.{lags_given}
use Rattle.gl_frames_wire.proofs.LagNet.{gives}
use Rattle.gl_frames_stages.proofs.lagged.put_found.Goals as goal

pub cut-requires-clause-inside : goal.cut-requires-clause-inside
cut-requires-clause-inside c = let w = c.in_ok-count.ensures.width in omega (arith, w)

pub put_ring-requires-clause-width : goal.put_ring-requires-clause-width
put_ring-requires-clause-width c =
    let w = c.in_ok-place.ensures.width in
    let some = c.requires.reach.width.some' in
    omega (arith, w, some)

pub returns : goal.returns
returns c =
    let reach = c.args.reach in
    let lines = c.args.lines in
    let value = c.args.value in
    let fits = c.requires.reach in
    let inside = fits.inside in
    let count = c.in_ok-count.ensures in
    let cut = c.in_ok-place.ensures in
    let ring = c.in_ok-word.ensures in
    let many = c.in_ok-some.ensures in
    let b = c.in_ok-count.count in
    let p = c.in_ok-place.place in
    let w = c.in_ok-word.word in
    record {
      keeps = keeps_then _ _ _ count.keeps (keeps_then _ _ _ cut.keeps (keeps_then _ _ _ ring.keeps many.keeps));
      cost = record {
        nodes = omega (arith, count.cost.nodes, cut.size, ring.cost.nodes, many.cost.nodes);
        registers = omega (arith, count.cost.registers, cut.register_bits, ring.cost.registers, many.cost.registers);
        memories = omega (arith, count.cost.memories, cut.memory_bits, ring.cost.memories, many.cost.memories);
      };
      bit = many.bit;
      bus = bus_kept _ _ w many.keeps ring.bus;
      same_width = ring.same_width;
      finds = λ run r d v.
          let at_ring = many.keeps.runs run r in
          let at_cut = ring.keeps.runs run at_ring in
          let at_count = cut.keeps.runs run at_cut in
          ap (λ (s : Bool). if s then Some (run.at (suc d) w.node) else None) (many.line run r d)
          ∙ sym (lags_given (2 ^ reach.bits) reach.back (own_ends (streams_by run lines.valid lines.eos)) (streams_by run lines.valid lines.eos)
          (λ t. run.at t value.node) (λ t. run.at t w.node) (λ t. nat_le reach.back (run.at t b.node))
          (gives run lines.valid lines.eos p b (λ t. run.at t value.node) (λ t. run.at t w.node) (2 ^ reach.bits) reach.back
          (pow_pos reach.bits) fits.some' (omega (arith, inside)) (ring.ring run at_ring)
          (count.counts run at_count (λ t. run.at t value.node))
          (λ t. cut.value run at_cut t ∙ cut_low reach.bits (run.at t b.node) fits.width.some')) d v);
    }
