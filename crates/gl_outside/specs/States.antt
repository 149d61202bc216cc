-- What is seen of shelves and sinks, and what their calls change of it.
use Rattle.std.specs.Prelude.{◌≡◌, ℕ, ◌≤◌, List, [], ◌++◌, take, Option, Some, None, Result, Ok, Err}
use Rattle.gl_outside.specs.Counts.{Rose}
use Rattle.gl_outside.specs.Told.{Told}
use Rattle.gl_outside.specs.declared.shelf.Fetch.{Fetch}
use Rattle.gl_outside.specs.declared.shelf.Fetch.TheVariants as fetch
use Rattle.gl_outside.specs.declared.reading.ReadFault.{ReadFault}
use Rattle.gl_outside.specs.declared.reading.ReadFault.TheVariants as read
use Rattle.gl_outside.specs.declared.sink.Put.{Put}
use Rattle.gl_outside.specs.declared.sink.Put.TheVariants as put

-- of a shelf: the names that it is made for, what it tells of the text of a name, how often a text was missing, how
-- often a call failed, and the one of its names that last missed or failed
pub record ShelfState : Type 0 where
  pub names : List (List ℕ)
  pub told : List ℕ → Told
  pub misses : ℕ
  pub faults : ℕ
  pub last : Option (List ℕ)

-- the names and the texts stay
pub record Stays (old new : ShelfState) : Type 0 where
  pub names : new.names ≡ old.names
  pub texts : (name : List ℕ) → new.told name ≡ old.told name

-- nothing was refused: both counts and the last name are as before
pub record IsCalm (old new : ShelfState) : Type 0 where
  pub misses : new.misses ≡ old.misses
  pub faults : new.faults ≡ old.faults
  pub last : new.last ≡ old.last

-- the text of a name was missing: the count of misses rose, and this is the last name
pub record Missed (old new : ShelfState) (name : List ℕ) : Type 0 where
  pub misses : Rose old.misses new.misses
  pub faults : new.faults ≡ old.faults
  pub last : new.last ≡ Some name

-- a call for a name failed: the count of faults rose, and this is the last name
pub record Faulted (old new : ShelfState) (name : List ℕ) : Type 0 where
  pub misses : new.misses ≡ old.misses
  pub faults : Rose old.faults new.faults
  pub last : new.last ≡ Some name

-- what a fetch leaves of the counts
abbrev pub Fetched : ShelfState → ShelfState → List ℕ → Fetch → Type 0
Fetched old new name fetch.Missing = Missed old new name
Fetched old new name fetch.Failed = Faulted old new name
Fetched old new name (fetch.Got n) = IsCalm old new
Fetched old new name fetch.End = IsCalm old new
Fetched old new name fetch.Memory = IsCalm old new

-- what reading a whole text leaves of them
abbrev pub ReadLeaves : {T : Type 0} → ShelfState → ShelfState → List ℕ → Result T ReadFault → Type 0
ReadLeaves old new name (Ok text) = IsCalm old new
ReadLeaves old new name (Err read.Missing) = Missed old new name
ReadLeaves old new name (Err read.Failed) = Faulted old new name
ReadLeaves old new name (Err read.TooLong) = IsCalm old new
ReadLeaves old new name (Err read.Memory) = IsCalm old new

-- of a sink: the bytes that it took so far, where it tells them, and how often a put failed
pub record SinkState : Type 0 where
  pub taken : Option (List ℕ)
  pub faults : ℕ

-- a sink took these bytes behind the earlier ones, where it is told what it took
abbrev pub Appends : Option (List ℕ) → Option (List ℕ) → List ℕ → Type 0
Appends None new bytes = Unit {0}
Appends (Some old) new bytes = new ≡ Some (old ++ bytes)

-- all of these bytes were taken, and nothing failed
pub record Took (old new : SinkState) (bytes : List ℕ) : Type 0 where
  pub all : Appends old.taken new.taken bytes
  pub calm : new.faults ≡ old.faults

-- a front of these bytes was taken
pub record AppendsFront (old new : Option (List ℕ)) (bytes : List ℕ) : Type 0 where
  pub front : List ℕ
  pub back : List ℕ
  pub parts : bytes ≡ front ++ back
  pub taken : Appends old new front

-- the sink failed behind a front of these bytes
pub record Broke (old new : SinkState) (bytes : List ℕ) : Type 0 where
  pub front : AppendsFront old.taken new.taken bytes
  pub cause : Rose old.faults new.faults

-- some bytes of a piece of this length were taken, at least one
abbrev pub FitsPiece : ℕ → Put → Type 0
FitsPiece most (put.Took n) = (1 ≤ n) × (n ≤ most)
FitsPiece most put.Failed = Unit {0}

-- what a put does: it takes so many bytes of the piece, or fails and takes none
abbrev pub DoesPut : SinkState → SinkState → List ℕ → Put → Type 0
DoesPut old new piece (put.Took n) = Took old new (take n piece)
DoesPut old new piece put.Failed = Appends old.taken new.taken [] × Rose old.faults new.faults

-- what writing does: it takes all, or fails behind a front
abbrev pub Wrote : {E : Type 0} → SinkState → SinkState → List ℕ → Result (Unit {0}) E → Type 0
Wrote old new bytes (Ok u) = Took old new bytes
Wrote old new bytes (Err e) = Broke old new bytes

-- what writing leaves of the count: it is as before, or it rose where the sink failed
abbrev pub Counts : {E : Type 0} → SinkState → SinkState → Result (Unit {0}) E → Type 0
Counts old new (Ok u) = new.faults ≡ old.faults
Counts old new (Err e) = Rose old.faults new.faults
