use Rattle.gl_verilog_tokens.specs.View.{module_of}
use Rattle.gl_verilog_elaborator.proofs.Wholly.{refused_whole}
use Rattle.gl_verilog_elaborator.proofs.elaborating.elaborate.Goals as goal

pub returns-in_err-e : goal.returns-in_err-e
returns-in_err-e c = refused_whole (module_of c.args.written.now) c.from_residual.result _ c.from_residual.ensures.1 c.requires c.in_err-e.ensures
