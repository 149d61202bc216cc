use Rattle.std.proofs.Common.{◌≡◌, vec_len}
use Rattle.gl_query_reader.specs.Machine.{reduced}
use Rattle.gl_query_reader.specs.Trees.{frames_of, expr_of}
use Rattle.gl_query_reader.proofs.operators.reduced.Given as goal

abbrev pub invariant-loop-alloc : goal.invariant-loop-alloc
invariant-loop-alloc l = reduced l.most (frames_of l.frames.items) (expr_of l.expr) ≡ reduced l.most (frames_of l.initial.frames.items) (expr_of l.initial.expr)

abbrev pub decreases-loop-alloc : goal.decreases-loop-alloc
decreases-loop-alloc l = vec_len l.frames
