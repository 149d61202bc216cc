use Rattle.std.proofs.Common.{◌≡◌, ℕ, suc, ◌-◌, ◌*◌, ◌^◌, ap, arith, true, ◌∙◌}
use Rattle.gl_net.proofs.Determined.{keeps_then}
use Rattle.gl_wire.proofs.ColumnLemmas.{bit_kept}
use Rattle.gl_wire.proofs.GateLemmas.{bit_of, never_line}
use Rattle.gl_totals.proofs.FoldNet.{bit_line}
use Rattle.gl_frames_wire.specs.Reaches.{place_bits}
use Rattle.gl_frames_stages.specs.Columns.{carried_by}
use Rattle.gl_frames_stages.proofs.DelayNet.{line_far}
use Rattle.gl_frames_stages.proofs.delay.put_far_line.Goals as goal

pub put_lagged-requires-clause-valid : goal.put_lagged-requires-clause-valid
put_lagged-requires-clause-valid c =
    bit_kept _ _ c.bit.result c.in_ok-zero.ensures.keeps
    (bit_of c.constant.new.self c.in_ok-one.one c.bit.result c.in_ok-one.ensures.bus (c.in_ok-one.ensures.width ∙ c.small_word.ensures.width) c.bit.ensures)

pub put_lagged-requires-clause-eos : goal.put_lagged-requires-clause-eos
put_lagged-requires-clause-eos c =
    bit_of c.constant-2.new.self c.in_ok-zero.zero c.bit-2.result c.in_ok-zero.ensures.bus (c.in_ok-zero.ensures.width ∙ c.small_word-2.ensures.width) c.bit-2.ensures

pub returns : goal.returns
returns c =
    let one = c.in_ok-one.ensures in
    let zero = c.in_ok-zero.ensures in
    let late = c.in_ok-late.ensures in
    let out = c.in_ok-out.ensures in
    let reach = c.new.ensures in
    let is = reach.back in
    let place = reach.bits in
    let back : ℕ = c.new.result.back in
    let long : c.args.cycles ≡ suc back = (let some = c.requires.some in omega (arith, is, some)) in
    let wide = c.bus.ensures.width in
    let words : 2 ^ c.new.result.bits * c.bus.result.width ≡ 2 ^ c.new.result.bits * 1 = ap (λ n. 2 ^ c.new.result.bits * n) wide in
    let room : 2 ^ c.new.result.bits ≡ 2 ^ place_bits (c.args.cycles - 1) = ap (λ n. 2 ^ n) place in
    record {
      keeps = keeps_then _ c.constant.new.self _ one.keeps (keeps_then _ c.constant-2.new.self _ zero.keeps (keeps_then _ c.put_lagged.new.net _ late.keeps out.keeps));
      cost = record {
        nodes = omega (arith, one.size, zero.size, late.cost.nodes, out.cost.nodes);
        registers = omega (arith, one.register_bits, zero.register_bits, late.cost.registers, out.cost.registers, place, wide);
        memories = omega (arith, one.memory_bits, zero.memory_bits, late.cost.memories, out.cost.memories, words, room);
      };
      bit = bit_of c.put_or_none.new.net c.in_ok-out.out c.bit-3.result out.bus (out.same_width ∙ late.same_width ∙ wide) c.bit-3.ensures;
      line = λ run r.
          let at_late = out.keeps.runs run r in
          let at_zero = late.keeps.runs run at_late in
          let at_one = zero.keeps.runs run at_zero in
          line_far run (record { valid = c.bit.result; eos = c.bit-2.result })
          (λ t. bit_line run c.bit.result t true (ap (run.at (suc t)) c.bit.ensures ∙ one.value run at_one (suc t) ∙ c.small_word.ensures.bits))
          (never_line run c.bit-2.result (λ t. ap (run.at t) c.bit-2.ensures ∙ zero.value run at_zero t ∙ c.small_word-2.ensures.bits))
          c.args.line c.bit-3.result c.in_ok-late.late (carried_by run c.bus.result) back (let some = c.requires.some in omega (arith, is, some)) (late.fresh run at_late) (late.tells run at_late)
          (λ t. ap (run.at t) c.bus.ensures.node) (λ t. ap (run.at (suc t)) c.bit-3.ensures ∙ out.chosen run r t) c.args.cycles long;
    }
