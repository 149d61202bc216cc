use Rattle.std.proofs.Common.{◌≡◌, drop}
use Rattle.std.specs.Prelude.{map}
use Rattle.gl_verilog.specs.View.{declaration_of, statement_of}
use Rattle.gl_verilog_check.specs.Kept.{blocks_kept}
use Rattle.gl_verilog_check.proofs.runnable.blocks_keep.Given as goal

abbrev pub invariant-loop-block : goal.invariant-loop-block
invariant-loop-block l = blocks_kept (map declaration_of l.declarations) (map statement_of (drop l.block-index l.blocks)) ≡ blocks_kept (map declaration_of l.declarations) (map statement_of l.blocks)
