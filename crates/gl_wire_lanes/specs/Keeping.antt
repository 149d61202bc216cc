-- Where the state of a lane's slots is kept: in a word of a memory for each, or, for one slot, in a register.
use Rattle.std.specs.Prelude.{◌≡◌, ℕ, suc, Bool, true, false, ◌||◌, ◌&&◌, if◌then◌else◌, nat_eq}
use Rattle.gl_wire_lanes.specs.Lanes.{Lane}

-- whether the word of a cycle's slot is written at its end: with a row, and with a beginning whose row was dropped
abbrev pub writes : Lane → ℕ → Bool
writes l c = l.valid c || l.first c

-- a state before each cycle and with it, in words: the first state where a stream begins, and else the slot's word.
-- Which words there are, and what they hold at the start, is not said
pub record IsKept {A : Type 0} (initial : A) (l : Lane) (before now : ℕ → A) : Type 0 where
  pub word : ℕ → ℕ → A
  pub begins : (c : ℕ) → l.first (suc c) ≡ true → before (suc c) ≡ initial
  pub takes : (c : ℕ) → l.first (suc (suc c)) ≡ false
      → before (suc (suc c)) ≡ word (suc (suc c)) (l.slot (suc (suc c)))
  pub leaves : (c k : ℕ) → word (suc (suc c)) k
      ≡ (if nat_eq (l.slot (suc c)) k && writes l (suc c) then now (suc c) else word (suc c) k)

-- the same with a register that reads the word of the slot that comes next, past what is written in the same cycle
pub record IsKeptAhead {A : Type 0} (initial : A) (l : Lane) (before now : ℕ → A) : Type 0 where
  pub word : ℕ → ℕ → A
  pub ahead : ℕ → A
  pub begins : (c : ℕ) → l.first (suc c) ≡ true → before (suc c) ≡ initial
  pub takes : (c : ℕ) → l.first (suc c) ≡ false → before (suc c) ≡ ahead (suc c)
  pub leaves : (c k : ℕ) → word (suc (suc c)) k
      ≡ (if nat_eq (l.slot (suc c)) k && writes l (suc c) then now (suc c) else word (suc c) k)
  pub reads : (c : ℕ) → ahead (suc (suc c))
      ≡ (if nat_eq (l.slot (suc c)) (l.slot (suc (suc c))) && writes l (suc c) then now (suc c)
      else word (suc c) (l.slot (suc (suc c))))

-- a register that begins anew behind each end
pub record IsRegister {A : Type 0} (initial : A) (ends : ℕ → Bool) (before now : ℕ → A) : Type 0 where
  pub start : before 1 ≡ initial
  pub next : (c : ℕ) → before (suc (suc c)) ≡ (if ends (suc c) then initial else now (suc c))

-- where no row comes the state stays
abbrev pub Stays : {A : Type 0} → (ℕ → Bool) → (ℕ → A) → (ℕ → A) → Type 0
Stays valid before now = (c : ℕ) → valid (suc c) ≡ false → now (suc c) ≡ before (suc c)

-- the state takes a step with each row, and stays where none comes
abbrev pub Steps : {A B : Type 0} → (A → B → A) → Lane → (ℕ → B) → (ℕ → A) → (ℕ → A) → Type 0
Steps step l row before now =
    (c : ℕ) → now (suc c) ≡ (if l.valid (suc c) then step (before (suc c)) (row (suc c)) else before (suc c))
