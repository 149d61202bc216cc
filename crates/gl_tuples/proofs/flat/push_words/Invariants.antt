use Rattle.std.proofs.Common.{◌≡◌, ◌++◌, take}
use Rattle.gl_bits.specs.Words.{bits_of}
use Rattle.gl_tuples.proofs.flat.push_words.Given as goal

-- the numbers of the words so far were added
abbrev pub invariant-loop-at : goal.invariant-loop-at
invariant-loop-at l = l.numbers.items ≡ l.initial.numbers.items ++ take l.at (bits_of l.row)
