use Rattle.std.proofs.Common.{ap}
use Rattle.std.specs.Prelude.{map}
use Rattle.gl_verilog.specs.View.{declaration_of, assignment_of, statement_of, module_of}
use Rattle.gl_verilog_check.proofs.Marks.{runnable, not_runnable}
use Rattle.gl_verilog_check.proofs.runnable.is_runnable.Goals as goal

pub returns-clause-sound : goal.returns-clause-sound
returns-clause-sound c =
    runnable (module_of c.args.design.now) (map declaration_of c.as_slice-declarations.result.now) (map assignment_of c.as_slice-assignments.result.now) (map statement_of c.as_slice-blocks.result.now) c.in_ok-runs.runs
    (ap (map declaration_of) c.as_slice-declarations.ensures) (ap (map assignment_of) c.as_slice-assignments.ensures) (ap (map statement_of) c.as_slice-blocks.ensures) c.in_ok-runs.ensures.yes

pub returns-clause-complete : goal.returns-clause-complete
returns-clause-complete c =
    not_runnable (module_of c.args.design.now) (map declaration_of c.as_slice-declarations.result.now) (map assignment_of c.as_slice-assignments.result.now) (map statement_of c.as_slice-blocks.result.now) c.in_ok-runs.runs
    (ap (map declaration_of) c.as_slice-declarations.ensures) (ap (map assignment_of) c.as_slice-assignments.ensures) (ap (map statement_of) c.as_slice-blocks.ensures) c.in_ok-runs.ensures.all
