use Rattle.std.proofs.Common.{◌∙◌}
use Rattle.gl_verilog.specs.View.{kind_of}
use Rattle.gl_verilog_tokens.specs.View.{name_of, range_of}
use Rattle.gl_verilog_elaborator.specs.View.{scope_of}
use Rattle.gl_verilog_elaborator.proofs.Found.{new_stop, new_added, ranged}
use Rattle.gl_verilog_elaborator.proofs.Steps.{refused}
use Rattle.gl_verilog_elaborator.proofs.declarations.declare.Goals as goal

pub returns-in_err-width : goal.returns-in_err-width
returns-in_err-width c = refused c.from_residual.result _ _ _ c.from_residual.ensures.1 (λ e. new_stop (scope_of c.args.scope.now) c.args.k (kind_of c.args.kind) (range_of c.args.range) (name_of c.args.name) _ (c.in_err-width.ensures e))

pub returns : goal.returns
returns c = new_added (scope_of c.args.scope.now) (scope_of c.add.new.scope) c.args.k (kind_of c.args.kind) (range_of c.args.range) (name_of c.args.name) c.in_ok-width.width c.is_some.result c.in_ok-width.ensures (c.is_some.ensures ∙ ranged c.args.range) c.in_ok-add.ensures.done
