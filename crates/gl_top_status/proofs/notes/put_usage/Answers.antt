use Rattle.std.proofs.Common.{subst}
use Rattle.gl_outside.specs.States.{Broke}
use Rattle.gl_top_forms.specs.Wrong.{wrong_line}
use Rattle.gl_top_status.specs.Refusals.{usage_line}
use Rattle.gl_top_status.proofs.Noting.{broke_off}
use Rattle.gl_top_status.proofs.notes.put_usage.Goals as goal

pub returns-in_err-write_all_of : goal.returns-in_err-write_all_of
returns-in_err-write_all_of g c =
    broke_off _ _ _ usage_line (wrong_line c.args.words.now) c.from_residual.result c.from_residual.ensures.1
    (subst (Broke _ _) c.usage.ensures c.in_err-write_all_of.ensures)
