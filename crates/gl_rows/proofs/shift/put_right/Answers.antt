use Rattle.std.proofs.Common.{sym, ap, ◌∙◌}
use Rattle.std.proofs.lemmas.Result.{IfOk-weaker}
use Rattle.gl_algebra.specs.Columns.{kind_of_operand}
use Rattle.gl_algebra.specs.Values.{value_of_operand}
use Rattle.gl_algebra.specs.declared.node.ColOp.TheVariants.{Binary}
use Rattle.gl_algebra.specs.declared.node.Operand.{Operand}
use Rattle.gl_values.specs.Kinds.{shifted_down, width_of}
use Rattle.gl_values.specs.declared.op.Op.TheVariants.{ShiftRight}
use Rattle.gl_wire.specs.Wire.{row_at}
use Rattle.gl_rows.specs.Made.{Carries, IsOperation}
use Rattle.gl_rows.proofs.shift.put_right.Goals as goal

pub returns : goal.returns
returns c =
    let old = c.args.net.now in
    let new = c.put_down.new.net in
    let columns = c.args.source.columns.now in
    let kinds = c.args.source.kinds.now in
    let left = c.args.left in
    let right = c.args.right in
    let kind = kind_of_operand kinds left in
    let by = c.in-Literal.by.bits in
    IfOk-weaker c.put_down.result (Carries old new 7 (width_of kind) (λ run t. shifted_down kind (value_of_operand run.held (row_at run t columns) left) by))
    (IsOperation old new columns kinds (Binary ShiftRight left right))
    (λ b one. record {
      keeps = one.keeps;
      cost = one.cost;
      bus = one.bus;
      same_width = one.same_width;
      carries = λ run r t.
          let row = row_at run t columns in
          one.carries run r t
          ∙ ap (λ (o : Operand). shifted_down kind (value_of_operand run.held row left) (value_of_operand run.held row o)) (sym c.in-Literal.is);
    })
    c.put_down.ensures
