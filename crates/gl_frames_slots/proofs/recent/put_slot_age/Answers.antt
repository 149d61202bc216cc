use Rattle.std.proofs.Common.{◌≡◌, ℕ, suc, ◌+◌, ◌*◌, ◌^◌, ◌≤◌, ap, arith, ◌∙◌}
use Rattle.std.proofs.lemmas.Nat.{pow_pos}
use Rattle.gl_frames_wire.specs.Reaches.{place_bits}
use Rattle.gl_frames_wire.proofs.CountNet.{twice}
use Rattle.gl_net.proofs.Determined.{keeps_then}
use Rattle.gl_frames_stages.specs.RecentNets.{age}
use Rattle.gl_frames_slots.specs.Rows.{slot_past}
use Rattle.gl_frames_slots.proofs.RecentNet.{wound_old}
use Rattle.gl_frames_slots.proofs.recent.put_slot_age.Goals as goal

pub put_many-requires-clause-fits : goal.put_many-requires-clause-fits
put_many-requires-clause-fits c =
    let bits : ℕ = c.new-bits.result.bits in
    let inside = c.new-bits.ensures.fits.inside in
    let back = c.new-bits.ensures.back in
    let wide = ap (λ (n : ℕ). 2 ^ n) c.in_ok-since.ensures.width in
    omega (arith, twice bits, inside, back, wide)

pub returns : goal.returns
returns c =
    let rows = c.args.rows in
    let back = c.args.back in
    let reach = c.new-bits.ensures in
    let bits : ℕ = c.new-bits.result.bits in
    let since = c.in_ok-since.ensures in
    let old = c.in_ok-old.ensures in
    let place : bits ≡ place_bits (back + 1) = reach.bits in
    let words : 2 ^ rows.slot.width * (bits + 1) ≡ 2 ^ rows.slot.width * (place_bits (back + 1) + 1) = ap (λ n. 2 ^ rows.slot.width * (n + 1)) place in
    let few : back ≤ 2 ^ bits = (let inside = reach.fits.inside in let is = reach.back in omega (arith, inside, is)) in
    record {
      keeps = keeps_then _ c.put_slot_since.new.net _ since.keeps old.keeps;
      cost = record {
        nodes = omega (arith, since.cost.nodes, old.cost.nodes);
        registers = omega (arith, since.cost.registers, old.cost.registers, place);
        memories = omega (arith, since.cost.memories, old.cost.memories, words);
      };
      bit = old.bit;
      ages = λ run r ends told p row takes d v.
          old.line run r d
          ∙ wound_old (2 ^ bits) back (run.at (suc d) c.in_ok-since.since.node) (age p (slot_past run rows ends row (suc d))) (pow_pos bits) few
          (since.counts run (old.keeps.runs run r) ends told p row takes d v);
    }
