use Rattle.gl_top_inputs.specs.Causes.{IsModuleFaultOrMemory}
use Rattle.gl_top_inputs.proofs.Modules.{fit_fault, handed}
use Rattle.gl_top_inputs.proofs.simulating.fitted_of.Goals as goal

pub returns-in_err-ports-clause-fault : goal.returns-in_err-ports-clause-fault
returns-in_err-ports-clause-fault c =
    let fault = c.in_err-ports.field-0.0 in
    handed (IsModuleFaultOrMemory c.args.schema.now c.args.text.now) c.from_residual-in_err-ports.result fault c.from_residual-in_err-ports.ensures.1
    (fit_fault c.port_faults_are_told.ensures c.args.schema.now c.args.text.now c.in_ok-source.source fault c.in_ok-source.ensures.found c.in_err-ports.ensures)
