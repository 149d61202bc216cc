-- A queue: what it holds, and what it shows while none of its places was passed.
use Rattle.std.specs.Prelude.{◌≡◌, ℕ, zero, suc, ◌<◌, List, [], ◌∷◌, ◌++◌, length, Option, Some, None, Bool, false, if◌then◌else◌, is_some, not, ◌&&◌, nat_eq, option_to_list}

-- the oldest entry, if there is one
abbrev pub oldest : {A : Type 0} → List A → Option A
oldest [] = None
oldest (x ∷ xs) = Some x

-- all entries but the oldest
abbrev pub behind : {A : Type 0} → List A → List A
behind [] = []
behind (x ∷ xs) = xs

-- what a queue holds in each cycle: none in the first one; at the edge the oldest is taken off where it may go, then
-- what comes is appended
abbrev pub entries : {A : Type 0} → (ℕ → Option A) → (ℕ → Bool) → ℕ → List A
entries push go zero = []
entries push go (suc c) = (if go c then behind (entries push go c) else entries push go c) ++ option_to_list (push c)

-- a push comes to as many entries as there are places, and none is taken off
abbrev pub passes : {A : Type 0} → ℕ → (ℕ → Option A) → (ℕ → Bool) → ℕ → Bool
passes depth push go c =
    is_some (push c) && nat_eq (length (entries push go c)) depth && not (go c && is_some (oldest (entries push go c)))

-- a line was 0 before a cycle
abbrev pub LowBefore : (ℕ → Bool) → ℕ → Type 0
LowBefore line c = (d : ℕ) → d < c → line d ≡ false

-- as long as its line stayed 0, a block of so many places shows the oldest entry, and its line is right
pub record IsQueue {A : Type 0} (depth : ℕ) (push : ℕ → Option A) (go : ℕ → Bool) (shown : ℕ → Option A)
    (passed : ℕ → Bool) : Type 0 where
  pub shows : (c : ℕ) → LowBefore passed c → shown c ≡ oldest (entries push go c)
  pub tells : (c : ℕ) → LowBefore passed c → passed c ≡ passes depth push go c
