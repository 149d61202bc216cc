-- Writers of std as sinks.
use Rattle.std.specs.Prelude.{ℕ, List, take, Option, None, Result, Ok, Err}
use Rattle.std.specs.Io.KnownBytes.{Appends}
use Rattle.gl_outside.specs.States.{SinkState}
use Rattle.gl_outside.specs.declared.sink.Put.{Put}
use Rattle.gl_outside.specs.declared.sink.Put.TheVariants as put

-- the bytes that a writer holds, where they are known, and how often a put failed
pub record StreamState : Type 0 where
  pub contents : Option (List ℕ)
  pub faults : ℕ

-- a stream as any sink: it tells no bytes, since those of a failed put may stand in the writer
abbrev pub stream_state : StreamState → SinkState
stream_state s = record { taken = None; faults = s.faults }

-- known bytes grow by a front of the piece
abbrev pub GrowsByFront : Option (List ℕ) → Option (List ℕ) → List ℕ → Type 0
GrowsByFront old new piece = (n : ℕ) × Appends old new (take n piece)

-- what writing and flushing does to known bytes: they grow by so many of the piece, or by a front of it where either
-- failed
abbrev pub WritesThrough : {E : Type 0} → Option (List ℕ) → Option (List ℕ) → List ℕ → Result ℕ E → Type 0
WritesThrough old new piece (Ok n) = Appends old new (take n piece)
WritesThrough old new piece (Err e) = GrowsByFront old new piece

-- what a put does to them
abbrev pub Writes : Option (List ℕ) → Option (List ℕ) → List ℕ → Put → Type 0
Writes old new piece (put.Took n) = Appends old new (take n piece)
Writes old new piece put.Failed = GrowsByFront old new piece
