use Rattle.std.proofs.Common.{refl}
use Rattle.gl_outside.proofs.Takes.{took_none}
use Rattle.gl_top_status.specs.Written.{Whole, InPart}
use Rattle.gl_top_status.proofs.notes.show.Goals as goal

pub returns-in-Ok : goal.returns-in-Ok
returns-in-Ok g c = Whole c.in-Ok.ensures (took_none _) refl

pub returns-in-Err : goal.returns-in-Err
returns-in-Err g c = InPart c.in-Err.ensures c.tell_write_fault.ensures
