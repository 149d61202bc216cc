use Rattle.gl_compiler.proofs.DumpedRuns as runs
use Rattle.gl_compiler.proofs.laws.dumps_tell.Goals as goal

pub returns : goal.returns
returns c = runs.dumps_tell c.accepted_have_real_columns.ensures c.one_module.ensures c.dumps_read_back.ensures
