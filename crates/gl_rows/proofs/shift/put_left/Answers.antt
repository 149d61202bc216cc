use Rattle.std.proofs.Common.{◌^◌, sym, ap, ◌∙◌}
use Rattle.std.proofs.lemmas.Result.{IfOk-weaker}
use Rattle.gl_algebra.specs.Columns.{kind_of_operand}
use Rattle.gl_algebra.specs.Values.{value_of_operand}
use Rattle.gl_algebra.specs.declared.node.ColOp.TheVariants.{Binary}
use Rattle.gl_algebra.specs.declared.node.Operand.{Operand}
use Rattle.gl_bits.specs.Words.{product_of}
use Rattle.gl_values.specs.Kinds.{width_of}
use Rattle.gl_values.specs.declared.op.Op.TheVariants.{ShiftLeft}
use Rattle.gl_wire.specs.Wire.{row_at}
use Rattle.gl_rows.specs.Made.{IsOperation}
use Rattle.gl_rows.specs.Multiples.{IsScaled}
use Rattle.gl_rows.proofs.shift.put_left.Goals as goal

pub returns : goal.returns
returns c =
    let old = c.args.net.now in
    let new = c.put_scaled.new.net in
    let columns = c.args.source.columns.now in
    let kinds = c.args.source.kinds.now in
    let left = c.args.left in
    let right = c.args.right in
    let width = width_of (kind_of_operand kinds left) in
    IfOk-weaker c.put_scaled.result (IsScaled old new columns kinds left c.power_word.result.bits) (IsOperation old new columns kinds (Binary ShiftLeft left right))
    (λ b one. record {
      keeps = one.keeps;
      cost = one.cost;
      bus = one.bus;
      same_width = one.same_width;
      carries = λ run r t.
          let row = row_at run t columns in
          one.carries run r t ∙ ap (product_of width (value_of_operand run.held row left)) c.power_word.ensures.bits
          ∙ ap (λ (o : Operand). product_of width (value_of_operand run.held row left) (2 ^ value_of_operand run.held row o)) (sym c.in-Literal.is);
    })
    c.put_scaled.ensures
