use Rattle.gl_schema.specs.Right.{IsTold}
use Rattle.gl_schema.proofs.RightTo.{right_to}
use Rattle.gl_schema.proofs.right.right_at_each_cycle.Goals as goal

pub returns : goal.returns
returns c test = right_to (IsTold test)
