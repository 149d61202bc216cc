use Rattle.std.proofs.Common.{refl}
use Rattle.std.specs.Fmt.{digits}
use Rattle.gl_schema.specs.Schemas.{text_word}
use Rattle.gl_schema.specs.Seen.{line_of, overflow_line, end_line, printed, needs_quotes}
use Rattle.gl_tuples_tests.proofs.worked.worked_lines.Goals as goal

pub returns-clause-quoted : goal.returns-clause-quoted
unfolding line_of overflow_line end_line printed needs_quotes text_word digits
returns-clause-quoted c = refl

pub returns-clause-together : goal.returns-clause-together
unfolding line_of overflow_line end_line printed needs_quotes text_word digits
returns-clause-together c = refl
