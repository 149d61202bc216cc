use Rattle.std.proofs.Common.{refl}
use Rattle.gl_schema.specs.Ports.{out_valid, out_eos, fault_group, fault_queue}
use Rattle.gl_schema.specs.Seen.{shown}
use Rattle.gl_tuples_tests.proofs.worked.worked_seen.Goals as goal

pub returns : goal.returns
unfolding shown out_valid out_eos fault_group fault_queue
returns c = refl
