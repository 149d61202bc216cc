-- A queue of one place, by what it shows: what came last, until it leaves.
use Rattle.std.specs.Prelude.{◌≡◌, ℕ, suc, Option, Some, None, Bool, is_some, not, ◌&&◌, if◌then◌else◌}
use Rattle.gl_queue.specs.Queue.{IsQueue}

-- what comes, else what was there
abbrev pub newer : {A : Type 0} → Option A → Option A → Option A
newer None held = held
newer (Some r) held = Some r

-- a queue of one place: what came last stays until it leaves, and a push before that passes the place
pub record IsSingle {A : Type 0} (push : ℕ → Option A) (go : ℕ → Bool) (shown : ℕ → Option A)
    (passed : ℕ → Bool) : Type 0 where
  pub first : shown 0 ≡ None
  pub next : (c : ℕ) → shown (suc c) ≡ newer (push c) (if go c then None else shown c)
  pub full : (c : ℕ) → passed c ≡ is_some (push c) && (is_some (shown c) && not (go c))

-- a single place is a queue of one place
abbrev pub SinglesAreQueues : Type 1
SinglesAreQueues =
    (A : Type 0) (push : ℕ → Option A) (go : ℕ → Bool) (shown : ℕ → Option A) (passed : ℕ → Bool)
    → IsSingle push go shown passed → IsQueue 1 push go shown passed
