use Rattle.std.proofs.Common.{refl}
use Rattle.std.specs.Fmt.{digits}
use Rattle.gl_explain.specs.Lines.{figures_text, frame_agg_text, frame_text, key_text, line_of, numbered, words_of}
use Rattle.gl_explain.proofs.laws.worked_lines.Goals as goal

pub returns : goal.returns
unfolding digits figures_text frame_agg_text frame_text key_text line_of numbered words_of
returns c = λ schema. record { averages = refl; all_rows = refl; by_symbol = refl }
