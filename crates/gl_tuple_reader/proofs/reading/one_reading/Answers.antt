use Rattle.gl_tuple_reader.proofs.FileReadings.{beats_are_read, one_beats, beats_or_fault, not_both, no_memory, no_gap}
use Rattle.gl_tuple_reader.proofs.reading.one_reading.Goals as goal

pub returns : goal.returns
returns c = record {
  beats = beats_are_read;
  one = one_beats;
  either = beats_or_fault;
  never_both = not_both;
  of_the_file = no_memory;
  no_gap = no_gap;
}
