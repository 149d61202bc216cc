use Rattle.std.proofs.Common.{◌≡◌}
use Rattle.gl_verilog.specs.View as meant
use Rattle.gl_verilog_reader.proofs.Places.{only_refused}
use Rattle.gl_verilog_reader.proofs.read_module.Goals as goal

pub returns-in_err-source-clause-only : goal.returns-in_err-source-clause-only
returns-in_err-source-clause-only c =
    only_refused (λ m d. meant.module_of d ≡ m) c.one_verdict.ensures.only c.args.text.now c.from_residual.result _ c.from_residual.ensures.1 c.in_err-source.ensures.fault
