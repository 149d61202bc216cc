use Rattle.std.proofs.Common.{◌≡◌, map}
use Rattle.std.specs.List.{range_with_len}
use Rattle.gl_tuples.specs.Gaps.{plain_list}
use Rattle.gl_tuples.specs.Growing.{shape_of}
use Rattle.gl_load.specs.Query.{load_schema}
use Rattle.gl_load.specs.Tuples.{load_beat}
use Rattle.gl_load.proofs.tuples.load_beats.Given as goal

-- the beats so far, and the columns of the load's schema
abbrev pub invariant-loop-index : goal.invariant-loop-index
invariant-loop-index l = record {
  plain : plain_list l.beats.beats ≡ map (load_beat l.count) (range_with_len 0 l.index);
  columns : l.beats.columns ≡ shape_of load_schema;
}
