-- A look-up in two memories, cycle by cycle: the slot of each key, and the key of each slot. What they held before the
-- stream is not said.
use Rattle.std.specs.Prelude.{◌≡◌, ℕ, suc, ◌+◌, ◌<◌, ◌≤◌, Bool, true, not, ◌&&◌, ◌||◌, if◌then◌else◌, nat_eq, nat_lt}

-- what the look-up is in each cycle
pub record Mapped : Type 0 where
  -- whether a row asks, its key, and whether its stream ends
  pub valid : ℕ → Bool
  pub value : ℕ → ℕ
  pub ends : ℕ → Bool
  -- how many keys the stream has
  pub used : ℕ → ℕ
  -- the word at each key, and the word at each slot
  pub place : ℕ → ℕ → ℕ
  pub kept : ℕ → ℕ → ℕ
  -- whether the row's key is found, with the number of its slot or of the next one; whether the key takes that slot;
  -- whether the row is left out; the slot that is written
  pub known : ℕ → Bool
  pub number : ℕ → ℕ
  pub first : ℕ → Bool
  pub further : ℕ → Bool
  pub slot : ℕ → ℕ

-- the slot that was read, two cycles before the row asks
abbrev pub place_read : Mapped → ℕ → ℕ
place_read m t = m.place (suc t) (m.value (suc (suc (suc t))))

-- whether it is the slot of a key of the stream, one cycle before, and that key is the row's
abbrev pub is_hit : Mapped → ℕ → Bool
is_hit m t =
    (nat_lt (place_read m t) (m.used (suc (suc t))) && not (m.ends (suc (suc t))))
    && nat_eq (m.value (suc (suc (suc t)))) (m.kept (suc (suc t)) (place_read m t))

-- whether the row's key stood one cycle before, in the same stream
abbrev pub is_near : Mapped → ℕ → Bool
is_near m t =
    nat_eq (m.value (suc (suc (suc t)))) (m.value (suc (suc t))) && not (m.ends (suc (suc t)))

-- whether it stood two cycles before
abbrev pub is_far : Mapped → ℕ → Bool
is_far m t =
    (nat_eq (m.value (suc (suc (suc t)))) (m.value (suc t)) && not (m.ends (suc (suc t)))) && not (m.ends (suc t))

-- whether there is a key more one cycle later
abbrev pub grows : Mapped → ℕ → Bool
grows m c = nat_lt (m.used c) (m.used (suc c))

-- whether the key is found: in the memories, or as one that was new one or two cycles before
abbrev pub is_known : Mapped → ℕ → Bool
is_known m t = (is_hit m t || (is_near m t && grows m (suc (suc t)))) || (is_far m t && grows m (suc t))

-- its slot, and that of a new key
abbrev pub number_of : Mapped → ℕ → ℕ
number_of m t =
    if is_hit m t then place_read m t
    else (if is_near m t && grows m (suc (suc t)) then m.used (suc (suc t))
    else (if is_far m t && grows m (suc t) then m.used (suc t) else m.used (suc (suc (suc t)))))

-- a look-up of n slots goes on so
pub record Maps (n : ℕ) (m : Mapped) : Type 0 where
  pub known : (t : ℕ) → m.valid (suc (suc (suc t))) ≡ true → m.known (suc (suc (suc t))) ≡ is_known m t
  pub number : (t : ℕ) → m.valid (suc (suc (suc t))) ≡ true → m.number (suc (suc (suc t))) ≡ number_of m t
  pub further : (c : ℕ) → m.further c ≡ ((m.valid c && not (m.known c)) && nat_eq (m.used c) n)
  pub first : (c : ℕ) → m.first c ≡ ((m.valid c && not (m.known c)) && not (m.further c))
  pub slot : (c : ℕ) → m.number (suc c) < n → m.slot (suc c) ≡ m.number (suc c)
  pub start : m.used 1 ≡ 0
  pub used : (c : ℕ) → m.used (suc c) ≤ n → m.used (suc (suc c))
      ≡ (if m.ends (suc c) then 0 else (if m.first (suc c) then m.used (suc c) + 1 else m.used (suc c)))
  pub places : (c k : ℕ) → m.place (suc (suc c)) k
      ≡ (if m.first (suc c) && nat_eq (m.value (suc c)) k then m.slot (suc c) else m.place (suc c) k)
  pub keys : (c j : ℕ) → m.kept (suc (suc c)) j
      ≡ (if m.first (suc c) && nat_eq (m.slot (suc c)) j then m.value (suc c) else m.kept (suc c) j)
