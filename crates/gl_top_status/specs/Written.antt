-- What is written, or noted where that fails.
use Rattle.std.specs.Prelude.{◌≡◌, ℕ, List, [], ◌++◌}
use Rattle.gl_outside.specs.States.{Took, Broke}
use Rattle.gl_top_status.specs.declared.status.Status.{Status}
use Rattle.gl_top_status.specs.declared.status.Status.TheVariants.{Done, WriteFault}
use Rattle.gl_top_status.specs.Refusals.{Puts, Notes, write_line}

-- the bytes were written and nothing was noted, or the output failed behind a front of them, and that was noted
pub data IsWritten (bytes : List ℕ) (out notes : Puts) (answered : Status) : Type 0 where
  Whole : (wrote : Took out.old out.new bytes) (silent : Took notes.old notes.new []) (done : answered ≡ Done)
      → IsWritten bytes out notes answered
  InPart : (wrote : Broke out.old out.new bytes) (noted : Notes WriteFault write_line notes answered)
      → IsWritten bytes out notes answered

-- the line of a refusal was written under its status, with something behind it, and nothing was noted, or the output
-- failed behind a front of both, and that was noted
pub data IsTold (own : Status) (line : List ℕ) (out notes : Puts) (answered : Status) : Type 0 where
  ToldWhole : (rest : List ℕ) (wrote : Took out.old out.new (line ++ rest)) (silent : Took notes.old notes.new [])
      (is : answered ≡ own) → IsTold own line out notes answered
  ToldInPart : (rest : List ℕ) (wrote : Broke out.old out.new (line ++ rest))
      (noted : Notes WriteFault write_line notes answered) → IsTold own line out notes answered
