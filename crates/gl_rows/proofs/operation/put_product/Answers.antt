use Rattle.std.proofs.Common.{ℕ, sym, ap, ◌∙◌}
use Rattle.std.proofs.lemmas.Result.{IfOk-weaker}
use Rattle.gl_algebra.specs.Columns.{kind_of_operand}
use Rattle.gl_algebra.specs.Values.{value_of_operand}
use Rattle.gl_algebra.specs.declared.node.ColOp.TheVariants.{Binary}
use Rattle.gl_algebra.specs.declared.node.Operand.{Operand}
use Rattle.gl_bits.specs.Words.{product_of}
use Rattle.gl_values.specs.Kinds.{width_of}
use Rattle.gl_values.specs.declared.op.Op.TheVariants.{Mul}
use Rattle.gl_wire.specs.Wire.{row_at}
use Rattle.gl_rows.specs.Made.{IsOperation}
use Rattle.gl_rows.specs.Multiples.{IsScaled}
use Rattle.gl_rows.proofs.MultipleLemmas.{product_turned}
use Rattle.gl_rows.proofs.operation.put_product.Goals as goal

pub returns-in-Literal-left : goal.returns-in-Literal-left
returns-in-Literal-left c =
    let old = c.args.net.now in
    let new = c.put_scaled-in-Literal-left.new.net in
    let columns = c.args.source.columns.now in
    let kinds = c.args.source.kinds.now in
    let left = c.args.left in
    let right = c.args.right in
    let factor = c.in-Literal-left.literal.bits in
    let wide = ap width_of (sym c.requires.fits.2) in
    IfOk-weaker c.put_scaled-in-Literal-left.result (IsScaled old new columns kinds right factor) (IsOperation old new columns kinds (Binary Mul left right))
    (λ b one. record {
      keeps = one.keeps;
      cost = one.cost;
      bus = one.bus;
      same_width = one.same_width ∙ wide;
      carries = λ run r t.
          let row = row_at run t columns in
          one.carries run r t ∙ product_turned (width_of (kind_of_operand kinds right)) (value_of_operand run.held row right) factor
          ∙ ap (λ (w : ℕ). product_of w factor (value_of_operand run.held row right)) wide
          ∙ ap (λ (o : Operand). product_of (width_of (kind_of_operand kinds left)) (value_of_operand run.held row o) (value_of_operand run.held row right)) (sym c.in-Literal-left.is);
    })
    c.put_scaled-in-Literal-left.ensures
