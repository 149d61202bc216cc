use Rattle.std.proofs.Common.{ℕ, suc, ◌^◌, ◌≤◌, ap, arith, sym, ◌∙◌}
use Rattle.std.specs.Prelude.{nat_le}
use Rattle.std.proofs.lemmas.Nat.{pow_pos}
use Rattle.gl_bits.specs.Words.{le_of}
use Rattle.gl_frames_wire.specs.CountNets.{column_past}
use Rattle.gl_frames_wire.proofs.CountNet.{twice}
use Rattle.gl_frames_wire.proofs.LagNet.{many_line}
use Rattle.gl_net.proofs.Determined.{keeps_then}
use Rattle.gl_wire.proofs.GateLemmas.{bit_of}
use Rattle.gl_frames_stages.proofs.RecentNet.{ages_since, old_told}
use Rattle.gl_frames_stages.proofs.recent.put_age.Goals as goal

pub number_word-requires-clause-fits : goal.number_word-requires-clause-fits
number_word-requires-clause-fits c =
    let bits : ℕ = c.new-reach.result.bits in
    let inside = c.new-reach.ensures.fits.inside in
    let back = c.new-reach.ensures.back in
    omega (arith, twice bits, inside, back)

pub binary-requires-clause-widths : goal.binary-requires-clause-widths
binary-requires-clause-widths c = c.in_ok-least.ensures.width ∙ c.number_word.ensures.width ∙ sym c.in_ok-count.ensures.width

pub returns : goal.returns
returns c =
    let lines = c.args.lines in
    let back = c.args.back in
    let reach = c.new-reach.ensures in
    let bits : ℕ = c.new-reach.result.bits in
    let fresh = c.in_ok-fresh.ensures in
    let count = c.in_ok-count.ensures in
    let least = c.in_ok-least.ensures in
    let gate = c.in_ok-old.ensures in
    let b = c.in_ok-count.count in
    let place = reach.bits in
    let few : back ≤ 2 ^ bits = (let inside = reach.fits.inside in let is = reach.back in omega (arith, inside, is)) in
    record {
      keeps = keeps_then _ c.either.new.net _ fresh.keeps (keeps_then _ c.put_count.new.net _ count.keeps (keeps_then _ c.constant.new.self _ least.keeps gate.keeps));
      cost = record {
        nodes = omega (arith, fresh.cost.nodes, count.cost.nodes, least.size, gate.size);
        registers = omega (arith, fresh.cost.registers, count.cost.registers, least.register_bits, gate.register_bits, place);
        memories = omega (arith, fresh.cost.memories, count.cost.memories, least.memory_bits, gate.memory_bits);
      };
      bit = bit_of c.binary.new.self c.in_ok-old.old c.bit.result gate.bus gate.width c.bit.ensures;
      ages = λ run r p row is d v.
          let at_least = gate.keeps.runs run r in
          let at_count = least.keeps.runs run at_least in
          let at_fresh = count.keeps.runs run at_count in
          many_line run c.bit.result back (run.at (suc d) b.node) d
          (ap (run.at (suc d)) c.bit.ensures ∙ gate.value run r (suc d)
          ∙ ap (λ n. le_of n (run.at (suc d) b.node)) (least.value run at_least (suc d) ∙ c.number_word.ensures.bits ∙ c.from.ensures))
          ∙ old_told (2 ^ bits) back (run.at (suc d) b.node) (column_past run lines.valid c.in_ok-fresh.fresh (λ (t : ℕ). 0) (suc d)) (pow_pos bits) few (count.counts run at_count (λ (t : ℕ). 0) d v)
          ∙ ap (nat_le back) (ages_since run lines c.args.takes c.in_ok-fresh.fresh p row is (fresh.line run at_fresh) (suc d));
    }
