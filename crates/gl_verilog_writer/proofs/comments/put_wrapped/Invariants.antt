use Rattle.std.proofs.Common.{◌≡◌, ◌++◌, drop}
use Rattle.gl_verilog_writer.specs.Comments.{wrapped}
use Rattle.gl_verilog_writer.proofs.comments.put_wrapped.Given as goal

abbrev pub invariant-loop-byte : goal.invariant-loop-byte
invariant-loop-byte l = l.out.items ++ wrapped l.front l.room (drop l.byte-index l.text) ≡ l.initial.out.items ++ wrapped l.front 115 l.text
