-- Slots that find the key of a row in the cycle after it came: which ones had it was asked when it came, and what the row
-- before it did with the slots since is known from that row alone.
use Rattle.std.specs.Prelude.{◌≡◌, ℕ, suc, ◌+◌, ◌-◌, ◌<◌, ◌≤◌, Bool, true, false, not, ◌&&◌, ◌||◌, if◌then◌else◌, nat_eq, nat_lt}
use Rattle.gl_wire_registers.specs.Lines.{any_to}
use Rattle.gl_slots.specs.Seeking.{Sought, found, has, is_next, kept, matches, takes}

-- what n slots are, slot by slot and cycle by cycle
pub record Ahead : Type 0 where
  -- whether a slot is used, and its key
  pub used : ℕ → ℕ → Bool
  pub key : ℕ → ℕ → ℕ
  -- whether all are set free; whether a row comes; the key that is looked for: that of this row, or of the one that came last
  pub free : ℕ → Bool
  pub ask : ℕ → Bool
  pub value : ℕ → ℕ
  -- the key of the row that comes one cycle later
  pub here : ℕ → ℕ
  -- whether the slot had the key one cycle ago, when it was used then; whether the key is another one than a cycle ago
  pub hit : ℕ → ℕ → Bool
  pub moved : ℕ → Bool
  -- whether a slot has the key of a cycle ago, and which one; how many slots are used
  pub had : ℕ → Bool
  pub home : ℕ → ℕ
  pub many : ℕ → ℕ
  -- the number of the slot that had it, where it is the only one
  pub met : ℕ → ℕ
  -- whether a slot has the key, whether one takes it, and the number of that slot
  pub one : ℕ → Bool
  pub new : ℕ → Bool
  pub number : ℕ → ℕ

-- the slots in a cycle
abbrev pub sought_in : Ahead → ℕ → Sought
sought_in a t = record {
  used = λ k. a.used k t;
  key = λ k. a.key k t;
  free = a.free t;
  ask = a.ask t;
  value = a.value t;
}

-- how many are used with those set free
abbrev pub many_kept : Ahead → ℕ → ℕ
many_kept a t = if a.free t then 0 else a.many t

-- how they go on
pub record GoesOn (n : ℕ) (a : Ahead) : Type 0 where
  pub first_used : (k : ℕ) → a.used k 0 ≡ false
  pub first_ask : a.ask 0 ≡ false
  pub first_moved : a.moved 0 ≡ false
  pub first_had : a.had 0 ≡ false
  pub first_hit : (k : ℕ) → k < n → a.hit k 1 ≡ false
  pub first_many : a.many 0 ≡ 0
  -- the key that is looked for
  pub comes : (t : ℕ) → a.ask (suc t) ≡ true → a.value (suc t) ≡ a.here t
  pub stays : (t : ℕ) → a.ask (suc (suc t)) ≡ false → a.value (suc (suc t)) ≡ a.value (suc t)
  -- what is known one cycle later
  pub used : (k t : ℕ) → k < n → a.used k (suc t) ≡ (kept (sought_in a t) k || (is_next (sought_in a t) k && not (a.one t)))
  pub key : (k t : ℕ) → k < n → a.key k (suc t) ≡ (if is_next (sought_in a t) k then a.value t else a.key k t)
  pub hit : (k t : ℕ) → k < n → a.hit k (suc (suc t)) ≡ (kept (sought_in a (suc t)) k && nat_eq (a.here (suc t)) (a.key k (suc t)))
  pub moved : (t : ℕ) → a.moved (suc t) ≡ (a.ask (suc t) && not (nat_eq (a.here t) (a.value t)))
  pub had : (t : ℕ) → a.had (suc t) ≡ (a.one t || a.new t)
  pub home : (t : ℕ) → a.home (suc (suc t)) ≡ a.number (suc t)
  pub many : (t : ℕ) → (a.new t ≡ true → many_kept a t < n)
      → a.many (suc t) ≡ (if a.new t then many_kept a t + 1 else many_kept a t)
  -- what is found
  pub met : (k t : ℕ) → k < n → a.hit k t ≡ true → ((j : ℕ) → j < n → a.hit j t ≡ true → j ≡ k) → a.met t ≡ k
  pub one : (t : ℕ) → a.one t ≡ ((if a.moved t then any_to n (λ k. a.hit k t) else a.had t) && not (a.free t))
  pub new : (t : ℕ) → a.new t ≡ ((a.ask t && not (kept (sought_in a t) (n - 1))) && not (a.one t))
  pub number : (t : ℕ) → a.number (suc t)
      ≡ (if a.one (suc t) then (if a.moved (suc t) then a.met (suc t) else a.home (suc t)) else many_kept a (suc t))

-- whether the first slot, where it is kept, has the key
abbrev pub head_in : Ahead → ℕ → Bool
head_in a t = if a.moved t then a.hit 0 t else (a.had t && nat_eq (a.home t) 0)

-- so they find what is to be found
pub record Finds (n : ℕ) (a : Ahead) : Type 0 where
  pub used : (k t : ℕ) → k < n → a.used k (suc t) ≡ has n (sought_in a t) k
  pub one : (t : ℕ) → a.one t ≡ any_to n (found (sought_in a t))
  pub new : (t : ℕ) → a.new t ≡ any_to n (takes n (sought_in a t))
  pub number : (k t : ℕ) → k < n → matches n (sought_in a t) k ≡ true → a.number t ≡ k
  pub many : (k t : ℕ) → k < n → a.used k t ≡ nat_lt k (a.many t)
  pub few : (t : ℕ) → a.many t ≤ n
  -- where no row comes and nothing is set free, the registers alone tell which slot has the key
  pub home : (k t : ℕ) → k < n → a.ask t ≡ false → a.free t ≡ false → (a.had t && nat_eq (a.home t) k) ≡ found (sought_in a t) k
  -- and in any cycle whether the first slot has it, where that one is kept
  pub head : (t : ℕ) → 1 ≤ n → kept (sought_in a t) 0 ≡ true → head_in a t ≡ found (sought_in a t) 0
