use Rattle.std.proofs.Common.{◌≡◌, ◌+◌, ◌++◌, drop}
use Rattle.std.specs.Prelude.{option_map}
use Rattle.csv.specs.Records.{fields_of}
use Rattle.gl_tuple_reader.specs.Entries.{words_of}
use Rattle.gl_tuple_reader.proofs.record.row_of.Given as goal

-- the words so far and those of what is left are those of all
abbrev pub invariant-loop-at : goal.invariant-loop-at
invariant-loop-at l = option_map (λ ws. l.row ++ ws) (words_of (drop l.at l.columns) (drop (2 + l.at) (fields_of l.fields))) ≡ words_of l.columns (drop 2 (fields_of l.fields))
