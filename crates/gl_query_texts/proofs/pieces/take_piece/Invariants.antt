use Rattle.std.proofs.Common.{◌≡◌, ◌≤◌, [], reverse, vec_len}
use Rattle.gl_query_texts.specs.Pieces.{pieces_behind}
use Rattle.gl_query_texts.proofs.pieces.take_piece.Given as goal

abbrev pub invariant-loop-lexeme : goal.invariant-loop-lexeme
invariant-loop-lexeme l = record {
  same : pieces_behind l.tokens.items (reverse l.left.items) l.end ≡ pieces_behind [] (reverse l.fn.left.items) l.end;
  shorter : vec_len l.left ≤ vec_len l.fn.left;
}

abbrev pub decreases-loop-lexeme : goal.decreases-loop-lexeme
decreases-loop-lexeme l = vec_len l.left
