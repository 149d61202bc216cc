-- How far a union is, before each cycle.
use Rattle.std.specs.Prelude.{◌≡◌, ℕ, suc, ◌+◌, ◌<◌, ◌≤◌, List, ◌++◌, length, Some, Bool, true, false, is_some, not, ◌&&◌, ◌||◌, if◌then◌else◌, option_to_list}
use Rattle.gl_values.specs.Results.{Row}
use Rattle.gl_wire.specs.Beats.{Beats}
use Rattle.gl_wire.specs.Wire.{Carried}
use Rattle.gl_queue.specs.Queue.{oldest, behind}
use Rattle.gl_queue.specs.Merging.{first_of}

-- the two lists and the two flags of a union
pub record Held : Type 0 where
  pub left : ℕ → List Row
  pub right : ℕ → List Row
  pub wait_a : ℕ → Bool
  pub wait_b : ℕ → Bool

-- a union works in a cycle
pub record Works (h : Held) (a b o : Carried) (c : ℕ) : Type 0 where
  pub out : o.tuple c ≡ first_of (oldest (h.left c)) (oldest (h.right c))
  pub leaves : o.ends c ≡ (h.wait_a c && h.wait_b c) && not (is_some (oldest (h.left c))) && not
      (is_some (oldest (h.right c)))
  pub left : h.left (suc c) ≡ behind (h.left c) ++ option_to_list (a.tuple c)
  pub right : h.right (suc c) ≡ (if not (is_some (oldest (h.left c))) then behind (h.right c) else h.right c)
      ++ option_to_list (b.tuple c)
  pub wait_a : h.wait_a (suc c) ≡ a.ends c || (h.wait_a c && not (o.ends c))
  pub wait_b : h.wait_b (suc c) ≡ b.ends c || (h.wait_b c && not (o.ends c))

-- how many rows are held
abbrev pub held : Held → ℕ → ℕ
held h c = length (h.left c) + length (h.right c)

-- the last cycles of both sides, and how much each brings
pub record Bounds : Type 0 where
  pub first : ℕ
  pub late : Bool → ℕ
  pub most_a : Bool → ℕ
  pub most_b : Bool → ℕ

-- how many rows a beat may bring on both sides together
abbrev pub most_of : Bounds → Bool → ℕ
most_of k e = k.most_a e + k.most_b e

-- a beat's rows have left before the next one's come, and so has its end
pub record Roomy (k : Bounds) (beats : Beats) : Type 0 where
  pub low : (e : Bool) → k.first ≤ k.late e
  pub late : (t u : ℕ) (e d : Bool) → beats t ≡ Some e → beats u ≡ Some d → t < u → t + k.late e < u + k.first
  pub rows : (t u : ℕ) (e d : Bool) → beats t ≡ Some e → beats u ≡ Some d → t < u
      → t + k.late e + most_of k e ≤ u + k.first
  pub ends : (t u : ℕ) (d : Bool) → beats t ≡ Some true → beats u ≡ Some d → t < u
      → t + k.late true + most_of k true + 1 ≤ u + k.first

-- neither side's end is waiting
pub record Quiet (h : Held) (c : ℕ) : Type 0 where
  pub a : h.wait_a c ≡ false
  pub b : h.wait_b c ≡ false

-- a flag is set from the cycle after this one on
pub record IsWaiting (wait : ℕ → Bool) (at c : ℕ) : Type 0 where
  pub yes : at < c → wait c ≡ true
  pub no : wait c ≡ true → at < c

-- the end has not left yet; it came in these cycles
pub record Waits (k : Bounds) (h : Held) (o : Carried) (c t x y : ℕ) : Type 0 where
  pub a : IsWaiting h.wait_a x c
  pub b : IsWaiting h.wait_b y c
  pub none : (z : ℕ) → t + k.first < z → z < c → o.ends z ≡ false
  pub high : c ≤ t + k.late true + most_of k true + 1

-- the end has left
pub record Gone (k : Bounds) (h : Held) (o : Carried) (c t x y : ℕ) : Type 0 where
  pub at : ℕ
  pub low : t + k.first < at
  pub high : at ≤ t + k.late true + most_of k true + 1
  pub before : at < c
  pub ends : o.ends at ≡ true
  pub after_a : x < at
  pub after_b : y < at
  pub only : (z : ℕ) → t + k.first < z → z < c → o.ends z ≡ true → z ≡ at
  pub empty : (z : ℕ) → at ≤ z → z ≤ c → held h z ≡ 0
  pub quiet : Quiet h c
