use Rattle.std.proofs.Common.{◌≡◌, ◌++◌, drop, map}
use Rattle.gl_verilog_writer.specs.Comments.{header_from}
use Rattle.gl_verilog_writer.specs.Labelled.{bytes_of, head_lines}
use Rattle.gl_verilog_writer.proofs.comments.put_header.Given as goal

abbrev pub invariant-loop-line : goal.invariant-loop-line
invariant-loop-line l = l.out.items ++ header_from l.room (map bytes_of (drop l.line-index l.labels.head.items)) ≡ l.initial.out.items ++ header_from 65536 (head_lines l.labels)
