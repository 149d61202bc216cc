use Rattle.std.proofs.Common.{take}
use Rattle.std.specs.List.{AllZip}
use Rattle.gl_verilog.specs.View.{module_of}
use Rattle.gl_runner.specs.Naming.{IsNew}
use Rattle.gl_runner.proofs.naming.NamedLines.new.Given as goal

abbrev pub invariant-loop-face : goal.invariant-loop-face
invariant-loop-face l = AllZip (IsNew (module_of l.design)) (take l.face-index l.faces) l.results.items
