use Rattle.std.proofs.Common.{◌∙◌, arith}
use Rattle.gl_explain.proofs.LineLemmas.{next-line}
use Rattle.gl_explain.proofs.lines.put_lines.Goals as goal

pub loop-number-preserved : goal.loop-number-preserved
loop-number-preserved c =
    next-line c.args.schema.now c.args.plan.now c.loop-number.number c.loop-number.text.items c.put_line_at.new.text.items
    (omega arith) c.in_ok-put_line_at.ensures
    ∙ c.loop-number.invariant
