use Rattle.std.proofs.Common.{◌≡◌, true, take}
use Rattle.std.specs.List.{list_all}
use Rattle.csv.specs.Records.{fields_of}
use Rattle.gl_tuples.specs.Values.{is_utf8}
use Rattle.gl_tuple_reader.proofs.record.is_text.Given as goal

-- each field so far is UTF-8
abbrev pub invariant-loop-at : goal.invariant-loop-at
invariant-loop-at l = list_all is_utf8 (take l.at (fields_of l.fields)) ≡ true
