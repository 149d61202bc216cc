use Rattle.std.proofs.Common.{◌≡◌, ◌<◌, ℕ, List, Some, Ok}
use Rattle.csv.specs.Reading.{Reached, Ready, default_config, source_of, strip_bom}
use Rattle.csv.specs.declared.parser.State.TheVariants as st
use Rattle.csv.specs.declared.reader.Trim.TheVariants as trim
use Rattle.gl_tuple_reader.specs.Settings.{progress_after, no_progress}
use Rattle.gl_tuple_reader.proofs.reading.read.Given as goal

-- the records so far were taken from the text and added in order
abbrev pub invariant-loop-fields : goal.invariant-loop-fields
invariant-loop-fields l = (l.fields-iterator.rdr.trim ≡ trim.None) × Ready l.fields-iterator.rdr × (0 < l.fields-iterator.left) × (l.fields-iterator.rdr.config ≡ default_config)
    × (y : List ℕ) × (source_of (λ s. Some s.now) l.fields-iterator.rdr ≡ Some y)
    × (rows : List (List (List ℕ))) × Reached default_config st.StartRecord (strip_bom l.fn.text) rows l.fields-iterator.rdr.state y
    × (progress_after l.schema rows (no_progress l.schema) ≡ Ok l.progress)
