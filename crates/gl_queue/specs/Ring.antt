-- A ring: a queue in a memory, by the equations of its registers and words. The reset cycle is cycle 0; from cycle 1 on
-- all is as set.
use Rattle.std.specs.Prelude.{◌≡◌, ◌≢◌, ℕ, suc, ◌+◌, ◌-◌, ◌≤◌, Option, Some, None, Bool, false, is_some, not, ◌&&◌, ◌||◌, if◌then◌else◌, nat_eq, nat_lt}
use Rattle.gl_queue.specs.Queue.{IsQueue}

-- a place in a ring of this many words: for numbers below twice the size, the rest of the division by it
abbrev pub wrap : ℕ → ℕ → ℕ
wrap size x = if nat_lt x size then x else x - size

-- a queue in a memory: where its head and tail stand, which word is shown, and when a push finds no place
pub record IsRing {A : Type 0} (size depth : ℕ) (push : ℕ → Option A) (go : ℕ → Bool) (shown : ℕ → Option A)
    (passed : ℕ → Bool) : Type 0 where
  pub some : ℕ → Bool
  pub head : ℕ → ℕ
  pub tail : ℕ → ℕ
  pub word : ℕ → ℕ → A
  -- nothing comes in the reset cycle, and nothing is there in it and after it
  pub blank : push 0 ≡ None
  pub none_yet : some 0 ≡ false
  pub none_first : some 1 ≡ false
  pub head_first : head 1 ≡ 0
  pub tail_first : tail 1 ≡ 0
  -- the word at the head is read in its own cycle
  pub shows : (c : ℕ) → shown c ≡ (if some c then Some (word c (head c)) else None)
  pub full : (c : ℕ) → passed c ≡ is_some (push c) && (some c && nat_eq (wrap size (head c + depth)) (tail c)) && not
      (go c && some c)
  -- at the edge
  pub head_next : (c : ℕ) → 1 ≤ c → head (suc c) ≡ (if go c && some c then wrap size (head c + 1) else head c)
  pub tail_next : (c : ℕ) → 1 ≤ c → tail (suc c) ≡ (if is_some (push c) then wrap size (tail c + 1) else tail c)
  pub some_next : (c : ℕ) → 1 ≤ c → some (suc c) ≡ is_some (push c)
      || (some c && not (go c && nat_eq (wrap size (head c + 1)) (tail c)))
  pub written : (c : ℕ) (r : A) → 1 ≤ c → push c ≡ Some r → word (suc c) (tail c) ≡ r
  pub kept : (c x : ℕ) → 1 ≤ c → x ≢ tail c → word (suc c) x ≡ word c x
  pub all_kept : (c x : ℕ) → 1 ≤ c → push c ≡ None → word (suc c) x ≡ word c x

-- a ring is a queue
abbrev pub RingsAreQueues : Type 1
RingsAreQueues =
    (A : Type 0) (size depth : ℕ) (push : ℕ → Option A) (go : ℕ → Bool) (shown : ℕ → Option A) (passed : ℕ → Bool)
    → 2 ≤ size → 1 ≤ depth → depth ≤ size → IsRing size depth push go shown passed → IsQueue depth push go shown passed
