use Rattle.std.proofs.Common.{◌≡◌, ℕ, suc, ◌^◌, ◌<◌, ap, arith, sym, subst, ◌∙◌}
use Rattle.std.proofs.Math.Nat.{mod-eq_of_lt}
use Rattle.gl_bits.specs.Words.{join_of}
use Rattle.gl_algebra.specs.Columns.{kind_of_operand}
use Rattle.gl_values.specs.Kinds.{width_of}
use Rattle.gl_net.proofs.Determined.{keeps_then}
use Rattle.gl_net.proofs.Values.{bus_fits}
use Rattle.gl_frames_stages.specs.Framing.{value_in}
use Rattle.gl_frames_stages.proofs.FilteredNet.{packed_word}
use Rattle.gl_frames_slots.specs.Items.{rows_in}
use Rattle.gl_frames_slots.proofs.extreme.put_slot_marked.Goals as goal

pub put_operand-requires-clause-source : goal.put_operand-requires-clause-source
put_operand-requires-clause-source c = c.requires.input.source

pub returns : goal.returns
returns c =
    let input = c.args.input in
    let w : ℕ = width_of (kind_of_operand input.source.kinds.now c.args.operand) in
    let value = c.in_ok-value.ensures in
    let one = c.in_ok-one.ensures in
    let packed = c.in_ok-packed.ensures in
    let x = c.in_ok-value.value in
    let b = c.in_ok-one.one in
    let single : b.width ≡ 1 = one.width ∙ c.small_word.ensures.width in
    let wide : x.width ≡ w = value.same_width in
    record {
      keeps = keeps_then _ c.put_operand.new.net _ value.keeps (keeps_then _ c.constant.new.self _ one.keeps packed.keeps);
      cost = record {
        nodes = omega (arith, value.cost.nodes, one.size, packed.size);
        registers = omega (arith, value.cost.registers, one.register_bits, packed.register_bits);
        memories = omega (arith, value.cost.memories, one.memory_bits, packed.memory_bits);
      };
      bus = packed.bus;
      width = (let whole = packed.width in omega (arith, whole, single, wide));
      values = λ run r t.
          let at_value = one.keeps.runs run (packed.keeps.runs run r) in
          let fits : (u : ℕ) → run.at u x.node < 2 ^ w = subst (λ k. (u : ℕ) → run.at u x.node < 2 ^ k) wide (bus_fits c.put_operand.new.net x run value.bus at_value) in
          sym (mod-eq_of_lt (subst (λ n. n < 2 ^ w) (value.carries run at_value (suc t)) (fits (suc t))));
      packs = λ run r t.
          let at_one = packed.keeps.runs run r in
          let at_value = one.keeps.runs run at_one in
          let row = rows_in run input (suc t) in
          let fits : (u : ℕ) → run.at u x.node < 2 ^ w = subst (λ k. (u : ℕ) → run.at u x.node < 2 ^ k) wide (bus_fits c.put_operand.new.net x run value.bus at_value) in
          packed.value run r (suc t)
          ∙ ap (λ k. join_of k (run.at (suc t) b.node) (run.at (suc t) x.node)) wide
          ∙ ap (λ n. join_of w n (run.at (suc t) x.node)) (one.value run at_one (suc t) ∙ c.small_word.ensures.bits)
          ∙ ap (join_of w 1) (value.carries run at_value (suc t))
          ∙ packed_word w 1 (value_in run.held c.args.operand row) (omega arith) (subst (λ n. n < 2 ^ w) (value.carries run at_value (suc t)) (fits (suc t)));
    }
