-- What is cited of the crates below, here and by the program.
use Rattle.std.specs.Prelude.{◌≡◌, ℕ, List}
use Rattle.gl_verilog_faults.specs.Faults.{Verdict, IsVerdict}
use Rattle.gl_compiler.specs.Below as query
use Rattle.gl_many.specs.Below as queries

-- the laws by which each text of a command is refused in one way at most: a query, several queries, a module
pub record LawsBelow : Type 0 where
  pub one : query.LawsBelow
  pub several : queries.LawsBelow
  pub one_verdict : (text : List ℕ) (v w : Verdict) → IsVerdict text v → IsVerdict text w → v ≡ w
