use Rattle.std.proofs.Common.{ap}
use Rattle.std.specs.Prelude.{slice_get}
use Rattle.gl_wire_registers.proofs.LineLemmas.{any_none_of, any_only}
use Rattle.gl_wire_registers.proofs.lines.any_of_few.Goals as goal

pub returns-in_default : goal.returns-in_default
returns-in_default c = any_none_of c.args.net.now c.never.new.net c.in_ok-none.none c.args.lines.now c.in_ok-none.ensures c.in_default.ensures.cases

pub returns : goal.returns
returns c = any_only c.args.net.now c.in-Some.line.now c.args.lines.now c.requires.lines (ap (λ l. slice_get l 0) c.in-Some.ensures.cases.0) c.requires.few
