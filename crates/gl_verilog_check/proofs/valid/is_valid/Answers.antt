use Rattle.std.proofs.Common.{ap}
use Rattle.std.specs.Prelude.{map}
use Rattle.gl_verilog.specs.View.{declaration_of, assignment_of, statement_of, module_of}
use Rattle.gl_verilog_check.proofs.Drives.{valid, not_valid}
use Rattle.gl_verilog_check.proofs.valid.is_valid.Goals as goal

pub returns-clause-sound : goal.returns-clause-sound
returns-clause-sound c =
    valid (module_of c.args.design.now) (map declaration_of c.as_slice-declarations.result.now) (map assignment_of c.as_slice-assignments.result.now) (map statement_of c.as_slice-blocks.result.now) c.in_ok-valid.valid
    (ap (map declaration_of) c.as_slice-declarations.ensures) (ap (map assignment_of) c.as_slice-assignments.ensures) (ap (map statement_of) c.as_slice-blocks.ensures) c.in_ok-valid.ensures.yes

pub returns-clause-complete : goal.returns-clause-complete
returns-clause-complete c =
    not_valid (module_of c.args.design.now) (map declaration_of c.as_slice-declarations.result.now) (map assignment_of c.as_slice-assignments.result.now) (map statement_of c.as_slice-blocks.result.now) c.in_ok-valid.valid
    (ap (map declaration_of) c.as_slice-declarations.ensures) (ap (map assignment_of) c.as_slice-assignments.ensures) (ap (map statement_of) c.as_slice-blocks.ensures) c.in_ok-valid.ensures.all
