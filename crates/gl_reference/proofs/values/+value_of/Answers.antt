use Rattle.std.proofs.Common.{rules, subst}
use Rattle.gl_query.specs.declared.tree.Expr.{Expr}
use Rattle.gl_query.specs.Shapes.{expr_shape}
use Rattle.gl_query.specs.Values.{kind_of, operand_place}
use Rattle.gl_reference.specs.Fits.{HasWord}
use Rattle.gl_reference.proofs.Words.{in_cast, in_flip, in_left, in_right, right_near, word_kind, word_small}
use Rattle.gl_reference.proofs.values.+value_of.Goals as goal

pub returns-in_err-x-in-Binary-clause-fits : goal.returns-in_err-x-in-Binary-clause-fits
returns-in_err-x-in-Binary-clause-fits t c = λ h.
    let whole = subst (λ (e : Expr). HasWord c.args.columns.now c.args.place (expr_shape e) c.args.row.now) c.in-Binary.is h in
    let left = in_left _ _ _ _ _ _ whole in
    search rules

pub returns-in_err-y-in-Binary-clause-fits : goal.returns-in_err-y-in-Binary-clause-fits
returns-in_err-y-in-Binary-clause-fits t c = λ h.
    let whole = subst (λ (e : Expr). HasWord c.args.columns.now c.args.place (expr_shape e) c.args.row.now) c.in-Binary.is h in
    let right = in_right _ _ _ _ _ _ whole in
    search rules

pub returns-in_ok-word-in-Cast-clause-fits : goal.returns-in_ok-word-in-Cast-clause-fits
returns-in_ok-word-in-Cast-clause-fits t c = λ h.
    let whole = subst (λ (e : Expr). HasWord c.args.columns.now c.args.place (expr_shape e) c.args.row.now) c.in-Cast.is h in
    let inner = in_cast _ _ _ _ _ whole in
    let kind = word_kind _ _ _ _ inner in
    let small = word_small _ _ _ _ inner in
    let can = whole.typed.1 in
    search rules

pub returns-in_ok-y-in-Binary-clause-fits : goal.returns-in_ok-y-in-Binary-clause-fits
returns-in_ok-y-in-Binary-clause-fits t c = λ h.
    let whole = subst (λ (e : Expr). HasWord c.args.columns.now c.args.place (expr_shape e) c.args.row.now) c.in-Binary.is h in
    let left = in_left _ _ _ _ _ _ whole in
    let right = in_right _ _ _ _ _ _ whole in
    let kind = word_kind _ _ _ _ left in
    let x = word_small _ _ _ _ left in
    let y = word_small _ _ _ _ right in
    let columns = c.args.columns.now in
    let o = c.in-Binary.op in
    let l = expr_shape c.in-Binary.left.value in
    let r = expr_shape c.in-Binary.right.value in
    let near = right_near columns (operand_place columns o c.args.place r l) (kind_of columns (operand_place columns o c.args.place l r) l) o r c.args.row.now whole.typed.3 in
    search rules

pub returns-in_ok-word-in-Flip-clause-fits : goal.returns-in_ok-word-in-Flip-clause-fits
returns-in_ok-word-in-Flip-clause-fits t c = λ h.
    let whole = subst (λ (e : Expr). HasWord c.args.columns.now c.args.place (expr_shape e) c.args.row.now) c.in-Flip.is h in
    let inner = in_flip _ _ _ _ whole in
    let kind = word_kind _ _ _ _ inner in
    search rules
