use Rattle.std.proofs.Common.{◌≡◌, drop}
use Rattle.gl_verilog_elaborator.specs.Elaborated.{Elaborated, all_driven}
use Rattle.gl_verilog_elaborator.specs.View.{names_in, declarations_of, tokens_of}
use Rattle.gl_verilog_elaborator.proofs.elaborating.test_driven.Given as goal

abbrev pub invariant-loop-i : goal.invariant-loop-i
invariant-loop-i l = (e : Elaborated) → all_driven (names_in l.done.keys) (drop l.i (declarations_of l.scope)) (drop l.i (tokens_of l.scope)) e ≡ all_driven (names_in l.done.keys) (declarations_of l.scope) (tokens_of l.scope) e
