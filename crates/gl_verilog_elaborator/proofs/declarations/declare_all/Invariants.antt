use Rattle.std.proofs.Common.{◌≡◌, drop}
use Rattle.gl_verilog.specs.View.{kind_of}
use Rattle.gl_verilog_tokens.specs.View.{names_of, range_of}
use Rattle.gl_verilog_elaborator.specs.Elaborated.{declared_all}
use Rattle.gl_verilog_elaborator.specs.View.{scope_of}
use Rattle.gl_verilog_elaborator.proofs.declarations.declare_all.Given as goal

abbrev pub invariant-loop-name : goal.invariant-loop-name
invariant-loop-name l = declared_all (kind_of l.kind) (range_of l.range) (scope_of l.scope) l.at (names_of (drop l.name-index l.names)) ≡ declared_all (kind_of l.kind) (range_of l.range) (scope_of l.initial.scope) l.k (names_of l.names)
