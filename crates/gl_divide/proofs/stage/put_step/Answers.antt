use Rattle.std.proofs.Common.{arith, ◌∙◌}
use Rattle.gl_net.proofs.Determined.{keeps_then}
use Rattle.gl_wire.proofs.ColumnLemmas.{bus_kept}
use Rattle.gl_divide.specs.declared.stage.Stage.{Stage}
use Rattle.gl_divide.proofs.StageNet.{step_division}
use Rattle.gl_divide.proofs.stage.put_step.Goals as goal

pub returns : goal.returns
returns c = rw c.note_division.ensures (
    let new = c.later_bit.new.net in
    let next = c.in_ok-next.ensures in
    let digit = c.in_ok-digit.ensures in
    let shift = c.in_ok-digits.ensures in
    let digits = c.in_ok-digits-2.ensures in
    let rest = c.in_ok-rest.ensures in
    let bottom = c.in_ok-bottom.ensures in
    let go = c.in_ok-go.ensures in
    let behind_rest = keeps_then _ c.later-3.new.net new bottom.keeps go.keeps in
    let behind_digits = keeps_then _ c.later-2.new.net new rest.keeps behind_rest in
    let stage : Stage = record { digits = c.in_ok-digits-2.digits; rest = c.in_ok-rest.rest; bottom = c.in_ok-bottom.bottom; go = c.in_ok-go.go } in
    record {
      keeps = keeps_then _ c.highest.new.net _ next.keeps (keeps_then _ c.put_digit.new.net _ digit.keeps
          (keeps_then _ c.shift.new.net _ shift.keeps (keeps_then _ c.later.new.net _ digits.keeps behind_digits)));
      cost = record {
        nodes = omega (arith, next.cost.nodes, digit.cost.nodes, shift.cost.nodes, digits.cost.nodes, rest.cost.nodes, bottom.cost.nodes, go.cost.nodes);
        registers = omega (
          arith,
          next.cost.registers,
          digit.cost.registers,
          shift.cost.registers,
          digits.cost.registers,
          rest.cost.registers,
          bottom.cost.registers,
          go.cost.registers,
          shift.same_width,
          digit.same_width,
          c.requires.same_rest,
        );
        memories = omega (arith, next.cost.memories, digit.cost.memories, shift.cost.memories, digits.cost.memories, rest.cost.memories, bottom.cost.memories, go.cost.memories);
      };
      stage = record {
        digits = bus_kept c.later.new.net new c.in_ok-digits-2.digits behind_digits digits.bus;
        same_digits = digits.same_width ∙ shift.same_width;
        rest = bus_kept c.later-2.new.net new c.in_ok-rest.rest behind_rest rest.bus;
        same_rest = rest.same_width ∙ digit.same_width ∙ c.requires.same_rest;
        bottom = bus_kept c.later-3.new.net new c.in_ok-bottom.bottom go.keeps bottom.bus;
        same_bottom = bottom.same_width;
        go = go.bit;
      };
      line = λ run r. go.line run r;
      division = λ run r t less.
          let at_bottom = go.keeps.runs run r in
          let at_rest = bottom.keeps.runs run at_bottom in
          let at_digits = rest.keeps.runs run at_rest in
          let at_shift = digits.keeps.runs run at_digits in
          let at_digit = shift.keeps.runs run at_shift in
          step_division run c.args.stage stage c.in_ok-next.next c.in_ok-digit.digit.fits c.in_ok-digit.digit.left c.in_ok-digits.digits t
          (next.line run (digit.keeps.runs run at_digit) t) (digit.line run at_digit t less) (digit.value run at_digit t less) (shift.value run at_shift t)
          (digits.value run at_digits t) (rest.value run at_rest t) (bottom.value run at_bottom t);
    })
