use Rattle.std.proofs.Common.{◌≡◌, map, take}
use Rattle.gl_verilog.specs.View.{module_of}
use Rattle.gl_runner.specs.Naming.{column_at}
use Rattle.gl_runner.proofs.faces.columns_within.Given as goal

abbrev pub invariant-loop-column : goal.invariant-loop-column
invariant-loop-column l = l.numbers.items ≡ map (column_at (module_of l.design) l.whose) (take l.column-index l.columns)
