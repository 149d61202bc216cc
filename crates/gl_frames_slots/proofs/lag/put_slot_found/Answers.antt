use Rattle.std.proofs.Common.{◌≡◌, Bool, Some, None, suc, ◌+◌, ◌-◌, ◌*◌, ◌^◌, ◌≤◌, ap, arith, refl, ◌∙◌, sym}
use Rattle.std.specs.Prelude.{if◌then◌else◌, nat_le}
use Rattle.std.proofs.Math.Pow.{pow_mono}
use Rattle.gl_bits.proofs.Wrapping.{cut_low}
use Rattle.gl_net.proofs.Determined.{keeps_then}
use Rattle.gl_wire.specs.Wire.{line_at}
use Rattle.gl_wire.proofs.ColumnLemmas.{bus_kept}
use Rattle.gl_frames_wire.specs.Since.{all_ends}
use Rattle.gl_frames_wire.proofs.ColumnLemmas.{lags_given}
use Rattle.gl_frames_slots.specs.Rows.{lane_at}
use Rattle.gl_frames_slots.proofs.LagNet.{gives_lag}
use Rattle.gl_frames_slots.proofs.lag.put_slot_found.Goals as goal

pub put_many-requires-clause-fits : goal.put_many-requires-clause-fits
put_many-requires-clause-fits c =
    let few : c.args.reach.bits ≤ c.args.count.width = omega (arith, c.requires.bits) in
    omega (arith, c.requires.reach.inside, pow_mono few)

pub returns : goal.returns
returns c =
    let reach = c.args.reach in
    let rows = c.args.rows in
    let value = c.args.value in
    let count = c.args.count in
    let fits = c.requires.reach in
    let cut = c.in_ok-place.ensures in
    let ring = c.in_ok-word.ensures in
    let many = c.in_ok-some.ensures in
    let p = c.in_ok-place.place in
    let w = c.in_ok-word.word in
    let narrow : p.width ≡ reach.bits = cut.width ∙ omega (arith, fits.width.some') in
    let words : 2 ^ (rows.slot.width + p.width) * value.width ≡ 2 ^ (rows.slot.width + reach.bits) * value.width = ap (λ n. 2 ^ (rows.slot.width + n) * value.width) narrow in
    record {
      keeps = keeps_then _ _ _ cut.keeps (keeps_then _ _ _ ring.keeps many.keeps);
      cost = record {
        nodes = omega (arith, cut.size, ring.cost.nodes, many.cost.nodes);
        registers = omega (arith, cut.register_bits, ring.cost.registers, many.cost.registers);
        memories = omega (arith, cut.memory_bits, ring.cost.memories, many.cost.memories, words);
      };
      bit = many.bit;
      bus = bus_kept _ _ w many.keeps ring.bus;
      same_width = ring.same_width;
      finds = λ run r ends told counts d v.
          let at_ring = many.keeps.runs run r in
          let at_cut = ring.keeps.runs run at_ring in
          ap (λ (s : Bool). if s then Some (run.at (suc d) w.node) else None) (many.line run r d)
          ∙ sym (lags_given (2 ^ reach.bits) reach.back (all_ends (lane_at run rows ends)) (lane_at run rows ends)
          (λ t. run.at t value.node) (λ t. run.at t w.node) (λ t. nat_le reach.back (run.at t count.node))
          (gives_lag run rows ends told count p (λ t. run.at t value.node) (λ t. run.at t w.node) (count.width - 1) reach.bits reach.back
          (omega (arith, c.requires.bits)) fits.some' fits.inside refl counts (ring.ring run at_ring ends (line_at run rows.first))
          (λ t. cut.value run at_cut t ∙ cut_low reach.bits (run.at t count.node) fits.width.some')) d v);
    }
