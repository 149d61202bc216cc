use Rattle.std.proofs.Common.{sym}
use Rattle.gl_outside.proofs.Takes.{took_none}
use Rattle.gl_top_status.specs.Written.{ToldWhole, ToldInPart}
use Rattle.gl_top_status.proofs.notes.explain.Goals as goal

pub returns-in-Ok : goal.returns-in-Ok
returns-in-Ok g c = ToldWhole c.args.rest.now (rw (sym c.words.ensures) c.in-Ok.ensures) (took_none _) c.status_of.ensures

pub returns-in-Err : goal.returns-in-Err
returns-in-Err g c = ToldInPart c.args.rest.now (rw (sym c.words.ensures) c.in-Err.ensures) c.tell_write_fault.ensures
