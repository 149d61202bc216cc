use Rattle.std.proofs.Common.{◌≡◌, take}
use Rattle.gl_plan.specs.Together.{statements_of}
use Rattle.gl_many.specs.Runs.{faces_of}
use Rattle.gl_many.proofs.faces.faces_of.Given as goal

abbrev pub invariant-loop-checked : goal.invariant-loop-checked
invariant-loop-checked l = l.faces.items ≡ faces_of l.schema (statements_of (take l.checked-index l.statements))
