-- What the process ends with.
use Rattle.std.specs.Prelude.{◌≡◌, ℕ}
use Rattle.gl_top.specs.Calls.{Call}
use Rattle.gl_top.specs.Verdicts.{IsAnswer, Says}
use Rattle.gl_top_status.specs.Statuses.{code_of}
use Rattle.gl_top_status.specs.declared.status.Status.{Status}

-- the number of the status that answers the call
pub record EndsAs (call : Status → Call) (code : ℕ) : Type 0 where
  pub status : Status
  pub answer : IsAnswer (call status)
  pub says : Says (call status)
  pub number : code ≡ code_of status
