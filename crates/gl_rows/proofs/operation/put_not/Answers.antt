use Rattle.std.proofs.Common.{ℕ, arith, ap, ◌∙◌}
use Rattle.gl_values.specs.Kinds.{width_of}
use Rattle.gl_bits.specs.Words.{not_of}
use Rattle.gl_algebra.specs.Values.{value_of_operand}
use Rattle.gl_wire.specs.Wire.{row_at}
use Rattle.gl_rows.proofs.MadeLemmas.{carries_then, carries_within}
use Rattle.gl_rows.proofs.operation.put_not.Goals as goal

pub returns : goal.returns
returns c =
    let old = c.args.net.now in
    let new = c.not.new.self in
    let columns = c.args.source.columns.now in
    let arg = c.in_ok-arg.ensures in
    let gate = c.in_ok-bus.ensures in
    let one = arg.same_width ∙ ap width_of c.requires.fits.1 in
    carries_within old new 2 7 1 (λ run t. not_of 1 (value_of_operand run.held (row_at run t columns) c.args.operand)) c.in_ok-bus.bus (omega arith)
    (carries_then old c.put_operand.new.net new 1 1 _ 1 (λ run t. value_of_operand run.held (row_at run t columns) c.args.operand) (not_of 1) c.in_ok-arg.arg c.in_ok-bus.bus arg
    (record {
      keeps = gate.keeps;
      cost = record { nodes = omega (arith, gate.size); registers = omega (arith, gate.register_bits); memories = omega (arith, gate.memory_bits) };
      bus = gate.bus;
      same_width = gate.width ∙ one;
      carries = λ run r t. gate.value run r t ∙ ap (λ (w : ℕ). not_of w (run.at t c.in_ok-arg.arg.node)) one;
    }))
