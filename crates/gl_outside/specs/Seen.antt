-- What is seen of a shelf of files.
use Rattle.std.specs.Prelude.{ℕ, List, Option}
use Rattle.std.specs.declared.io.ErrorKind.{ErrorKind}
use Rattle.std.specs.declared.io.ErrorKind.TheVariants.{NotFound, OutOfMemory}
use Rattle.gl_outside.specs.Told.{Untold}
use Rattle.gl_outside.specs.States.{ShelfState}
use Rattle.gl_outside.specs.declared.shelf.Fetch.{Fetch}
use Rattle.gl_outside.specs.declared.shelf.Fetch.TheVariants.{Missing, Failed, Memory}

-- the state of a shelf of files: its names, its counts, and the name that was last refused
pub record FilesState : Type 0 where
  pub names : List (List ℕ)
  pub misses : ℕ
  pub faults : ℕ
  pub last : Option (List ℕ)

-- a shelf of files as any shelf: it tells no texts
abbrev pub files_state : FilesState → ShelfState
files_state s = record { names = s.names; told = λ _. Untold; misses = s.misses; faults = s.faults; last = s.last }

-- a file that is not there is missing, and every other refusal but want of memory is a fault
abbrev pub refusal_of : ErrorKind → Fetch
refusal_of NotFound = Missing
refusal_of OutOfMemory = Memory
refusal_of kind = Failed
