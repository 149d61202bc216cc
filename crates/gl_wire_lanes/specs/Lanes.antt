-- A lane: the streams of many slots on one wire, at most one event in a cycle. Cycle 0 is reset; nothing counts in it.
use Rattle.std.specs.Prelude.{◌≡◌, ℕ, zero, suc, ◌+◌, ◌<◌, List, [], ◌∷◌, ◌++◌, Bool, true, false}
use Rattle.std.specs.Prelude.{not, ◌||◌, if◌then◌else◌, nat_eq}

-- in each cycle whether a row comes, whether its stream ends, whose slot the cycle is, and whether its stream begins
pub record Lane : Type 0 where
  pub valid : ℕ → Bool
  pub ends : ℕ → Bool
  pub slot : ℕ → ℕ
  pub first : ℕ → Bool

-- the row of this cycle, where one comes
abbrev pub row_in : {B : Type 0} → Lane → (ℕ → B) → ℕ → List B
row_in l row c = if l.valid c then row c ∷ [] else []

-- the rows of a slot since its last end, before this cycle
abbrev pub rows_before : {B : Type 0} → Lane → (ℕ → B) → ℕ → ℕ → List B
rows_before l row k zero = []
rows_before l row k (suc c) =
    if nat_eq (l.slot c) k then (if l.ends c then [] else rows_before l row k c ++ row_in l row c)
    else rows_before l row k c

-- the rows of a slot's stream so far, with the cycle's own, for the slot whose cycle it is
abbrev pub rows_now : {B : Type 0} → Lane → (ℕ → B) → ℕ → List B
rows_now l row c = rows_before l row (l.slot c) c ++ row_in l row c

-- whether a slot's stream has begun before this cycle, and not ended
abbrev pub is_open : Lane → ℕ → ℕ → Bool
is_open l k zero = false
is_open l k (suc c) =
    if nat_eq (l.slot c) k then (if l.ends c then false else (l.first c || is_open l k c)) else is_open l k c

-- a cycle begins its slot's stream exactly if none is open
abbrev pub IsFresh : Lane → ℕ → Type 0
IsFresh l c = l.first c ≡ not (is_open l (l.slot c) c)

-- a lane tells where streams begin: with the first row or end of a slot behind its last end, and else only where a row
-- was dropped
pub record Begins (l : Lane) : Type 0 where
  pub no_row : l.valid 0 ≡ false
  pub no_end : l.ends 0 ≡ false
  pub no_first : l.first 0 ≡ false
  pub rows : (c : ℕ) → l.valid c ≡ true → IsFresh l c
  pub ends : (c : ℕ) → l.ends c ≡ true → IsFresh l c
  pub only : (c : ℕ) → l.first c ≡ true → is_open l (l.slot c) c ≡ false

-- a lane so many cycles behind another, in which rows may be dropped; of the other's cycle 0 the slot does not count
pub record IsLaneBehind (m : ℕ) (l d : Lane) : Type 0 where
  pub no_row : (c : ℕ) → c < m → d.valid c ≡ false
  pub no_end : (c : ℕ) → c < m → d.ends c ≡ false
  pub no_first : (c : ℕ) → c < m → d.first c ≡ false
  pub rows : (c : ℕ) → d.valid (c + m) ≡ true → l.valid c ≡ true
  pub ends : (c : ℕ) → d.ends (c + m) ≡ l.ends c
  pub firsts : (c : ℕ) → d.first (c + m) ≡ l.first c
  pub slots : (c : ℕ) → d.slot (suc c + m) ≡ l.slot (suc c)

-- where streams one after another begin: in cycle 1, and behind each end
abbrev pub first_of : (ℕ → Bool) → ℕ → Bool
first_of ends zero = false
first_of ends (suc zero) = true
first_of ends (suc (suc c)) = ends (suc c)

-- streams one after another, as a lane of one slot
abbrev pub single : (ℕ → Bool) → (ℕ → Bool) → Lane
single valid ends = record { valid = valid; ends = ends; slot = λ c. 0; first = first_of ends }

-- a lane tells where streams begin, and each cycle of it is fresh
pub record IsSingle (l : Lane) : Type 0 where
  pub begins : Begins l
  pub fresh : (c : ℕ) → IsFresh l (suc c)
