use Rattle.std.proofs.Common.{◌≡◌, vec_len}
use Rattle.gl_verilog_grammar.specs.Machine as machine
use Rattle.gl_verilog_tokens.specs.View.{expr_of}
use Rattle.gl_verilog_grammar.specs.View.{frames_of}
use Rattle.gl_verilog_grammar.proofs.frames.reduce.Given as goal

abbrev pub invariant-loop-alloc : goal.invariant-loop-alloc
invariant-loop-alloc l = machine.reduce l.level (frames_of l.frames.items) (expr_of l.operand.value) ≡ machine.reduce l.level (frames_of l.initial.frames.items) (expr_of l.initial.operand.value)

abbrev pub decreases-loop-alloc : goal.decreases-loop-alloc
decreases-loop-alloc l = vec_len l.frames
