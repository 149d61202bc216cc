-- What waits for a clock edge: the words that blocks write.
use Rattle.std.specs.Prelude.{ℕ, ◌+◌, ◌^◌, ◌<◌, List, [], ◌∷◌, Option, Some, None, length, nat_eq, if◌then◌else◌, slice_index_or}
use Rattle.std.specs.List.{AllByRecursion}
use Rattle.gl_verilog.specs.Module.{Statement, Nothing, Put, Write, Both, If, value_of, later_or}
use Rattle.gl_verilog.specs.Evaluate.{nets_of, memories_of, CanEvaluate}
use Rattle.gl_sim.specs.declared.update.Update.{Update}

-- what an update puts into a word, if it is that word
abbrev pub put_by : Update → ℕ → ℕ → Option ℕ
put_by u k at = if nat_eq u.memory k then (if nat_eq u.address at then Some u.value else None) else None

-- what the updates put into a word; the last of them counts
abbrev pub put_of : List Update → ℕ → ℕ → Option ℕ
put_of [] k at = None
put_of (u ∷ us) k at = later_or (put_of us k at) (put_by u k at)

-- each update is in its memory
abbrev pub AreInside : List (List ℕ) → List Update → Type 0
AreInside banks us =
    AllByRecursion (λ u. (u.memory < length banks) × (u.address < length (slice_index_or banks u.memory []))) us

-- the writes that stand in a statement
abbrev pub writes_in : Statement → ℕ
writes_in Nothing = 0
writes_in (Put register value) = 0
writes_in (Write memory address value) = 1
writes_in (Both first second) = writes_in first + writes_in second
writes_in (If test yes' no') = writes_in yes' + writes_in no'

-- each expression of a statement can be evaluated, and each target is in range
abbrev pub CanExecute : List ℕ → List (List ℕ) → Statement → Type 0
CanExecute vs bs Nothing = Unit {0}
CanExecute vs bs (Put register value) = (register < length vs) × CanEvaluate vs bs value
CanExecute vs bs (Write memory address value) =
    (memory < length bs) × (value_of (nets_of vs) (memories_of bs) address < length (slice_index_or bs memory []))
    × (value_of (nets_of vs) (memories_of bs) address < 2 ^ 64) × CanEvaluate vs bs address × CanEvaluate vs bs value
CanExecute vs bs (Both first second) = CanExecute vs bs first × CanExecute vs bs second
CanExecute vs bs (If test yes' no') = CanEvaluate vs bs test × CanExecute vs bs yes' × CanExecute vs bs no'
