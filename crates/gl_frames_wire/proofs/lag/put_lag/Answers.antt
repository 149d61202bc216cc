use Rattle.std.proofs.Common.{◌^◌, arith, ◌∙◌}
use Rattle.std.proofs.lemmas.Nat.{pow_pos}
use Rattle.gl_bits.proofs.Wrapping.{cut_low}
use Rattle.gl_net.proofs.Determined.{keeps_then}
use Rattle.gl_frames_wire.proofs.LagNet.{gives, lagged}
use Rattle.gl_frames_wire.proofs.lag.put_lag.Goals as goal

pub cut-requires-clause-inside : goal.cut-requires-clause-inside
cut-requires-clause-inside c = let w = c.in_ok-count.ensures.width in omega (arith, w)

pub put_told-requires-clause-place_width : goal.put_told-requires-clause-place_width
put_told-requires-clause-place_width c =
    let w = c.in_ok-place.ensures.width in
    let some = c.requires.reach.width.some' in
    omega (arith, w, some)

pub returns : goal.returns
returns c = rw c.note_bus.ensures (
    let reach = c.args.reach in
    let fits = c.requires.reach in
    let inside = fits.inside in
    let count = c.in_ok-count.ensures in
    let cut = c.in_ok-place.ensures in
    let lag = c.in_ok-lag.ensures in
    let b = c.in_ok-count.count in
    let p = c.in_ok-place.place in
    record {
      keeps = keeps_then _ _ _ count.keeps (keeps_then _ _ _ cut.keeps lag.keeps);
      cost = record {
        nodes = omega (arith, count.cost.nodes, cut.size, lag.cost.nodes);
        registers = omega (arith, count.cost.registers, cut.register_bits, lag.cost.registers);
        memories = omega (arith, count.cost.memories, cut.memory_bits, lag.cost.memories);
      };
      bus = lag.bus;
      same_width = lag.same_width;
      lags = λ run r d v.
          let at_cut = lag.keeps.runs run r in
          let at_count = cut.keeps.runs run at_cut in
          lagged run c.args.valid c.args.eos b c.args.value lag.given c.in_ok-lag.lag (2 ^ reach.bits) reach.back
          (gives run c.args.valid c.args.eos p b (λ t. run.at t c.args.value.node) (λ t. run.at t lag.given.node) (2 ^ reach.bits) reach.back
          (pow_pos reach.bits) fits.some' (omega (arith, inside)) (lag.ring run r)
          (count.counts run at_count (λ t. run.at t c.args.value.node))
          (λ t. cut.value run at_cut t ∙ cut_low reach.bits (run.at t b.node) fits.width.some'))
          (lag.told run r) d v;
    })
