use Rattle.std.proofs.Common.{◌≡◌, reverse, vec_len}
use Rattle.gl_query_reader.specs.States.{start}
use Rattle.gl_query_reader.specs.Limits.{none_counted, IsSmall}
use Rattle.gl_query_reader.specs.Reading.{run}
use Rattle.gl_query_reader.specs.Trees.{state_of, frames_of}
use Rattle.gl_query_reader.proofs.parsing.parsed.Given as goal

abbrev pub invariant-loop-lexeme : goal.invariant-loop-lexeme
invariant-loop-lexeme l = record {
  small : IsSmall l.counts;
  same : run l.len l.counts (state_of l.control (frames_of l.frames.items)) (reverse l.left.items) ≡ run l.len none_counted start l.fn.lexemes.items;
}

abbrev pub decreases-loop-lexeme : goal.decreases-loop-lexeme
decreases-loop-lexeme l = vec_len l.left
