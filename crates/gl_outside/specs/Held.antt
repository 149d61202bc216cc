-- Shelves and sinks in memory.
use Rattle.std.specs.Prelude.{ℕ, ◌+◌, ◌-◌, ◌^◌, Bool, ◌||◌, nat_eq, nat_lt, nat_le, List, [], ◌∷◌, ◌++◌, length, min, Option, Some, None, if◌then◌else◌}
use Rattle.std.specs.Str.{bytes_eq}
use Rattle.std.specs.List.{list_any}
use Rattle.gl_outside.specs.Told.{Told, Untold, Lacks, Holds}
use Rattle.gl_outside.specs.States.{ShelfState, SinkState}
use Rattle.gl_outside.specs.declared.shelf.Fetch.{Fetch}
use Rattle.gl_outside.specs.declared.shelf.Fetch.TheVariants.{Got, End, Missing, Failed}
use Rattle.gl_outside.specs.declared.sink.Put.{Put}
use Rattle.gl_outside.specs.declared.sink.Put.TheVariants as put

-- texts under names, how often one was missing, and the name that was last refused
pub record Held : Type 0 where
  pub names : List (List ℕ)
  pub texts : List (List ℕ × List ℕ)
  pub misses : ℕ
  pub last : Option (List ℕ)

-- no text is there yet and none was missing, while these are the known names
abbrev pub no_texts : List (List ℕ) → Held
no_texts names = record { names = names; texts = []; misses = 0; last = None }

-- one text more under its name, behind the others
abbrev pub with_text : Held → List ℕ → List ℕ → Held
with_text h name bytes = record h { texts = h.texts ++ (name, bytes) ∷ [] }

-- the first text that has the name
abbrev pub told_of : List (List ℕ × List ℕ) → List ℕ → Told
told_of [] name = Lacks
told_of (t ∷ ts) name = if bytes_eq t.0 name then Holds t.1 else told_of ts name

-- as many of the text's bytes from a place on as there is room for
abbrev pub given : Told → ℕ → ℕ → Fetch
given Untold at room = Missing
given Lacks at room = Missing
given (Holds text) at room = if nat_le (length text) at then End else Got (min room (length text - at))

-- the next value of a counter of 64 bits, which stands still at its last one
abbrev pub next_count : ℕ → ℕ
next_count n = min (n + 1) (2 ^ 64 - 1)

-- texts of which one was asked for: one that is missing is counted and its name kept
abbrev pub asked : Held → List ℕ → Told → Held
asked h name Untold = record h { misses = next_count h.misses; last = Some name }
asked h name Lacks = record h { misses = next_count h.misses; last = Some name }
asked h name (Holds text) = h

-- what is seen of such a shelf, with so many faults
abbrev pub held_state : ℕ → Held → ShelfState
held_state faults h =
    record { names = h.names; told = told_of h.texts; misses = h.misses; faults = faults; last = h.last }

-- a shelf in memory: its texts, the numbers of the calls that fail, the calls so far, and the faults
pub record MemoryShelfState : Type 0 where
  pub held : Held
  pub failing : List ℕ
  pub calls : ℕ
  pub faults : ℕ

-- the state of a shelf in memory, as that of any shelf
abbrev pub shelf_state : MemoryShelfState → ShelfState
shelf_state s = held_state s.faults s.held

-- a shelf in memory with no text yet under any of these names, and no call that fails
abbrev pub new_shelf : List (List ℕ) → MemoryShelfState
new_shelf names = record { held = no_texts names; failing = []; calls = 0; faults = 0 }

-- whether the next call is one of those that fail
abbrev pub next_fails : List ℕ → ℕ → Bool
next_fails failing calls = list_any (λ call. nat_eq call (next_count calls)) failing

-- what the next call gives
abbrev pub served : MemoryShelfState → List ℕ → ℕ → ℕ → Fetch
served s name at room = if next_fails s.failing s.calls then Failed else given (told_of s.held.texts name) at room

-- the shelf behind a call that failed: the fault is counted once, and the name of the text is kept
abbrev pub failed : MemoryShelfState → List ℕ → MemoryShelfState
failed s name =
    record s { held = record s.held { last = Some name }; calls = next_count s.calls; faults = next_count s.faults }

-- a shelf behind a call for a text: the call failed, or the text under the name was told
abbrev pub behind_call : MemoryShelfState → List ℕ → MemoryShelfState
behind_call s name = if next_fails s.failing s.calls then failed s name
    else record s { held = asked s.held name (told_of s.held.texts name); calls = next_count s.calls }

-- a sink in memory: its bytes, its room, the numbers of the puts that fail, the puts so far, and the faults
pub record MemorySinkState : Type 0 where
  pub bytes : List ℕ
  pub room : ℕ
  pub failing : List ℕ
  pub calls : ℕ
  pub faults : ℕ

-- the state of a sink in memory, as that of any sink
abbrev pub sink_state : MemorySinkState → SinkState
sink_state s = record { taken = Some s.bytes; faults = s.faults }

-- an empty sink in memory with room for a number of bytes, and no call that fails
abbrev pub new_sink : ℕ → MemorySinkState
new_sink room = record { bytes = []; room = room; failing = []; calls = 0; faults = 0 }

-- whether the next put fails: it is one of those that do, or there is no room for its piece
abbrev pub put_fails : MemorySinkState → List ℕ → Bool
put_fails s piece = next_fails s.failing s.calls || nat_lt s.room (length s.bytes + length piece)

-- what the next put does: a piece is taken whole
abbrev pub put_of : MemorySinkState → List ℕ → Put
put_of s piece = if put_fails s piece then put.Failed else put.Took (length piece)

-- the sink behind it: a failed put is counted once
abbrev pub behind_put : MemorySinkState → List ℕ → MemorySinkState
behind_put s piece = if put_fails s piece then record s { calls = next_count s.calls; faults = next_count s.faults }
    else record s { bytes = s.bytes ++ piece; calls = next_count s.calls }
