use Rattle.std.proofs.Common.{length}
use Rattle.gl_runner.proofs.naming.+put_all.Given as goal

abbrev pub decreases-put_all : goal.decreases-put_all
decreases-put_all g l = length l.faces.now
