use Rattle.std.proofs.Common.{suc, ◌+◌, ◌≡◌, ℕ, ap, arith, ◌∙◌}
use Rattle.gl_net.proofs.Determined.{keeps_then}
use Rattle.gl_wire.proofs.ColumnLemmas.{bus_kept}
use Rattle.gl_divide.specs.Divider.{division_at}
use Rattle.gl_divide.specs.declared.stage.Stage.{Stage}
use Rattle.gl_divide.proofs.StageNet.{line_behind_one, same_division}
use Rattle.gl_divide.proofs.stage.put_start.Goals as goal

pub returns : goal.returns
returns c = rw c.note_division.ensures (
    let new = c.later_bit.new.net in
    let rest = c.in_ok-rest.ensures in
    let digits = c.in_ok-digits.ensures in
    let bottom = c.in_ok-bottom.ensures in
    let go = c.in_ok-go.ensures in
    let behind_digits = keeps_then _ c.later-2.new.net new bottom.keeps go.keeps in
    let behind_rest = keeps_then _ c.later.new.net new digits.keeps behind_digits in
    let stage : Stage = record { digits = c.in_ok-digits.digits; rest = c.in_ok-rest.rest; bottom = c.in_ok-bottom.bottom; go = c.in_ok-go.go } in
    record {
      keeps = keeps_then _ c.constant.new.self new rest.keeps behind_rest;
      cost = record {
        nodes = omega (arith, rest.size, digits.cost.nodes, bottom.cost.nodes, go.cost.nodes);
        registers = omega (arith, rest.register_bits, digits.cost.registers, bottom.cost.registers, go.cost.registers);
        memories = omega (arith, rest.memory_bits, digits.cost.memories, bottom.cost.memories, go.cost.memories);
      };
      stage = record {
        digits = bus_kept c.later.new.net new c.in_ok-digits.digits behind_digits digits.bus;
        same_digits = digits.same_width;
        rest = bus_kept c.constant.new.self new c.in_ok-rest.rest behind_rest rest.bus;
        same_rest = rest.width ∙ c.zero_word.ensures.width;
        bottom = bus_kept c.later-2.new.net new c.in_ok-bottom.bottom go.keeps bottom.bus;
        same_bottom = bottom.same_width;
        go = go.bit;
      };
      line = λ run r. line_behind_one run c.args.go c.in_ok-go.go (go.line run r);
      division = λ run r t some.
          let at_bottom = go.keeps.runs run r in
          let at_digits = bottom.keeps.runs run at_bottom in
          let at : suc t + 1 ≡ suc (suc t) = omega arith in
          ap (λ (k : ℕ). division_at run k stage) at
          ∙ same_division _ _ _ _ _ _ (digits.value run at_digits t) (rest.value run (digits.keeps.runs run at_digits) (suc (suc t)) ∙ c.zero_word.ensures.bits) (bottom.value run at_bottom t);
    })
