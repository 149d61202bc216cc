use Rattle.std.proofs.Common.{◌≡◌, vec_len}
use Rattle.gl_verilog_grammar.specs.Machine as machine
use Rattle.gl_verilog_tokens.specs.View.{statement_of}
use Rattle.gl_verilog_grammar.specs.View.{frames_of}
use Rattle.gl_verilog_grammar.proofs.frames.end_ifs.Given as goal

abbrev pub invariant-loop-alloc : goal.invariant-loop-alloc
invariant-loop-alloc l = machine.at_end (frames_of l.frames.items) (statement_of l.statement.value) ≡ machine.at_end (frames_of l.initial.frames.items) (statement_of l.initial.statement.value)

abbrev pub decreases-loop-alloc : goal.decreases-loop-alloc
decreases-loop-alloc l = vec_len l.frames
