use Rattle.std.proofs.Common.{◌≡◌, ◌∙◌, ℕ, rules, slice_index, subst, sym}
use Rattle.std.specs.Prelude.{nat_eq}
use Rattle.gl_values.specs.Lists.{rows_with}
use Rattle.gl_values.specs.Results.{Row}
use Rattle.gl_reference.specs.Rows.{AreSeen, reach_seen}
use Rattle.gl_reference.proofs.Seeing.{seen_filter}
use Rattle.gl_reference.proofs.frames.key_row.Goals as goal

pub returns-in_err-row-clause-fits : goal.returns-in_err-row-clause-fits
returns-in_err-row-clause-fits c = λ h r.
    let key_of : Row → ℕ = λ x. slice_index x c.args.keys.column in
    let from : c.as_slice.result.now ≡ rows_with key_of c.args.rows.now c.args.key = c.as_slice.ensures ∙ c.in_ok-own.ensures in
    let reach = reach_seen c.args.seen in
    let fit = seen_filter reach (λ (x : Row). nat_eq (key_of x) c.args.key) c.args.rows.now r in
    let known = c.in_err-row.ensures.fits h (subst (AreSeen reach) (sym from) fit) in
    search rules
