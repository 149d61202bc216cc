use Rattle.std.proofs.Common.{◌≡◌, ◌++◌}
use Rattle.gl_explain.specs.Lines.{lines_of}
use Rattle.gl_explain.proofs.LineLemmas.{rest}
use Rattle.gl_explain.proofs.lines.put_lines.Given as goal

abbrev pub invariant-loop-number : goal.invariant-loop-number
invariant-loop-number l = l.text.items ++ rest l.schema l.plan l.number ≡ l.initial.text.items ++ lines_of l.schema l.plan
