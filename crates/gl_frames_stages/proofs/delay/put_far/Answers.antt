use Rattle.std.proofs.Common.{◌≡◌, ℕ, suc, ◌-◌, ◌*◌, ◌^◌, ap, arith, true, ◌∙◌}
use Rattle.gl_net.proofs.Determined.{keeps_then}
use Rattle.gl_wire.proofs.ColumnLemmas.{bit_kept, bus_kept}
use Rattle.gl_wire.proofs.GateLemmas.{bit_of, never_line}
use Rattle.gl_totals.proofs.FoldNet.{bit_line}
use Rattle.gl_frames_wire.specs.Reaches.{place_bits}
use Rattle.gl_frames_stages.specs.Columns.{carried_by}
use Rattle.gl_frames_stages.proofs.DelayNet.{far_behind}
use Rattle.gl_frames_stages.proofs.delay.put_far.Goals as goal

pub put_lagged-requires-clause-valid : goal.put_lagged-requires-clause-valid
put_lagged-requires-clause-valid c =
    bit_kept _ _ c.bit.result c.in_ok-zero.ensures.keeps
    (bit_of c.constant.new.self c.in_ok-one.one c.bit.result c.in_ok-one.ensures.bus (c.in_ok-one.ensures.width ∙ c.small_word.ensures.width) c.bit.ensures)

pub put_lagged-requires-clause-eos : goal.put_lagged-requires-clause-eos
put_lagged-requires-clause-eos c =
    bit_of c.constant-2.new.self c.in_ok-zero.zero c.bit-2.result c.in_ok-zero.ensures.bus (c.in_ok-zero.ensures.width ∙ c.small_word-2.ensures.width) c.bit-2.ensures

pub put_lagged-requires-clause-value : goal.put_lagged-requires-clause-value
put_lagged-requires-clause-value c =
    bus_kept _ _ c.args.bus c.in_ok-zero.ensures.keeps (bus_kept _ _ c.args.bus c.in_ok-one.ensures.keeps c.requires.bus)

pub returns : goal.returns
returns c =
    let one = c.in_ok-one.ensures in
    let zero = c.in_ok-zero.ensures in
    let late = c.in_ok-late.ensures in
    let back = c.new.result.back in
    let bits = c.new.ensures.bits in
    let wide : ℕ = c.args.bus.width in
    let room : 2 ^ c.new.result.bits * wide ≡ 2 ^ place_bits (c.args.cycles - 1) * wide = ap (λ n. 2 ^ n * wide) bits in
    let is : back ≡ c.args.cycles - 1 = c.new.ensures.back in
    let long : c.args.cycles ≡ suc back = omega (arith, is, c.requires.some) in
    record {
      keeps = keeps_then _ c.constant.new.self _ one.keeps (keeps_then _ c.constant-2.new.self _ zero.keeps late.keeps);
      cost = record {
        nodes = omega (arith, one.size, zero.size, late.cost.nodes);
        registers = omega (arith, one.register_bits, zero.register_bits, late.cost.registers, bits);
        memories = omega (arith, one.memory_bits, zero.memory_bits, late.cost.memories, room);
      };
      bus = late.bus;
      same_width = late.same_width;
      value = λ run r.
          let at_zero = late.keeps.runs run r in
          let at_one = zero.keeps.runs run at_zero in
          far_behind run (record { valid = c.bit.result; eos = c.bit-2.result })
          (λ t. bit_line run c.bit.result t true (ap (run.at (suc t)) c.bit.ensures ∙ one.value run at_one (suc t) ∙ c.small_word.ensures.bits))
          (never_line run c.bit-2.result (λ t. ap (run.at t) c.bit-2.ensures ∙ zero.value run at_zero t ∙ c.small_word-2.ensures.bits))
          (carried_by run c.args.bus) c.in_ok-late.late back c.args.cycles long (late.tells run r);
    }
