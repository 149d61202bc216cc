-- Arguments that the system did not give.
use Rattle.std.specs.Prelude.{ℕ, List, [], Result, Ok, Err}
use Rattle.std.specs.declared.io.ErrorKind.{ErrorKind}
use Rattle.std.specs.declared.io.ErrorKind.TheVariants.{InvalidData}
use Rattle.gl_bits.specs.declared.row.Memory.{Memory}

-- where one of them is no UTF-8 there are no words, which is no form of a command line; else memory was short
abbrev pub words_without : ErrorKind → Result (List (List ℕ)) Memory
words_without InvalidData = Ok []
words_without kind = Err (record {})
