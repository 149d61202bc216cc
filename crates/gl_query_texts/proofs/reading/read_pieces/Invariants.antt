use Rattle.std.proofs.Common.{[], reverse, vec_len}
use Rattle.gl_query_texts.specs.Pieces.{pieces_behind}
use Rattle.gl_query_texts.specs.Reading.{Came}
use Rattle.gl_query_texts.proofs.reading.read_pieces.Given as goal

abbrev pub invariant-loop-left : goal.invariant-loop-left
invariant-loop-left l = Came l.schema (pieces_behind [] (reverse l.fn.left.items) l.end) (pieces_behind [] (reverse l.left.items) l.end) l.statements

abbrev pub decreases-loop-left : goal.decreases-loop-left
decreases-loop-left l = vec_len l.left
