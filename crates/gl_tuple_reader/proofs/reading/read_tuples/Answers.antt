use Rattle.std.proofs.Common.{List, ℕ, Result, Ok, Err, subst}
use Rattle.std.specs.Prelude.{IfOk}
use Rattle.gl_schema.specs.declared.schema.Schema.{Schema}
use Rattle.gl_tuples.specs.Flat.{BeatList}
use Rattle.gl_tuples.specs.Gaps.{AreFileBeats}
use Rattle.gl_tuples.specs.declared.fault.TupleFault.{TupleFault}
use Rattle.gl_tuple_reader.specs.FileBeats.{AreBeatsOf}
use Rattle.gl_tuple_reader.specs.Entries.{Gives}
use Rattle.gl_tuple_reader.specs.Filing.{records_of}
use Rattle.gl_tuple_reader.specs.Settings.{beats_of}
use Rattle.gl_tuple_reader.proofs.WholeFiles.{beats_are, beats_again, file_beats}
use Rattle.gl_tuple_reader.proofs.reading.read_tuples.Goals as goal

found_in : (schema : Schema) (rs : List (List (List ℕ))) (r : Result BeatList TupleFault) → Gives r (beats_of schema rs) → IfOk r (AreBeatsOf schema rs)
found_in schema rs (Ok beats) h = beats_are schema rs beats h
found_in schema rs (Err e) h = tt

pub returns-clause-found : goal.returns-clause-found
returns-clause-found c = found_in c.args.schema.now (records_of c.args.text.now) c.read.result c.read.ensures

fine_in : (schema : Schema) (rs : List (List (List ℕ))) (r : Result BeatList TupleFault) → Gives r (beats_of schema rs) → IfOk r (AreFileBeats schema)
fine_in schema rs (Ok beats) h = file_beats schema rs beats (beats_are schema rs beats h)
fine_in schema rs (Err e) h = tt

pub returns-clause-fine : goal.returns-clause-fine
returns-clause-fine c = fine_in c.args.schema.now (records_of c.args.text.now) c.read.result c.read.ensures

pub returns-clause-only : goal.returns-clause-only
returns-clause-only c beats are = subst (Gives c.read.result) (beats_again c.args.schema.now (records_of c.args.text.now) beats are) c.read.ensures
