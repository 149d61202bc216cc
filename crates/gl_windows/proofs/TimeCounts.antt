-- One tick, or none: the counters of the front of windows of time.
use Rattle.std.proofs.Common.{◌≡◌, ℕ, zero, suc, ◌+◌, ◌-◌, ◌*◌, ◌<◌, ◌≤◌, Bool, true, false, ◌&&◌, refl, arith}
use Rattle.std.specs.Prelude.{if◌then◌else◌, nat_eq}
use Rattle.std.proofs.lemmas.Bool.{ne_eqb}
use Rattle.gl_wire_registers.specs.Held.{counted_down}
use Rattle.gl_wire.proofs.NumberLemmas.{mul_below}

abbrev pub with_tick : Bool → ℕ → ℕ
with_tick b n = if b then suc n else n

-- the windows opened so far
pub record Opened (advance : ℕ) (b : Bool) (n until q more : ℕ) : Type 0 where
  pub to_open : with_tick b n + counted_down (advance - 1) (advance - 1) false b until + 1 ≡ more * advance
  pub less : counted_down (advance - 1) (advance - 1) false b until < advance
  pub is : (base o : ℕ) → o ≡ base + q → (if b && nat_eq until 0 then suc o else o) ≡ base + more

-- the windows completed so far
pub data Completed (size advance : ℕ) (b : Bool) (n left d : ℕ) : ℕ → Type 0 where
  last : (b && nat_eq left 0) ≡ true → with_tick b n ≡ d * advance + size → Completed size advance b n left d (suc d)
  no_more : (b && nat_eq left 0) ≡ false → Completed size advance b n left d d

pub record Closed (size advance : ℕ) (b : Bool) (n left d more : ℕ) : Type 0 where
  pub to_close : with_tick b n + counted_down (size - 1) (advance - 1) false b left + 1 ≡ more * advance + size
  pub near : 1 ≤ more → counted_down (size - 1) (advance - 1) false b left < advance
  pub by : Completed size advance b n left d more

module _ (size advance : ℕ) (rows_some : 1 ≤ size) (step_some : 1 ≤ advance) where
  pub count_open : (b : Bool) (n until q : ℕ) → n + until + 1 ≡ q * advance → until < advance → (more : ℕ) × Opened advance b n until q more
  count_open false n until q h l = (q, record { to_open = h; less = l; is = λ base o e. e })
  count_open true n zero q h l = (suc q, record { to_open = omega (arith, h, step_some); less = omega (arith, step_some); is = λ base o e. omega (arith, e) })
  count_open true n (suc until) q h l =
      let some : nat_eq (suc until) 0 ≡ false = ne_eqb (suc until) 0 (λ z. absurd (omega (arith, z))) in
      (q, record { to_open = rw some (omega (arith, h)); less = rw some (omega (arith, l)); is = λ base o e. rw some e })

  pub count_close : (b : Bool) (n left d : ℕ) → n + left + 1 ≡ d * advance + size → (1 ≤ d → left < advance) → (more : ℕ) × Closed size advance b n left d more
  count_close false n left d h l = (d, record { to_close = h; near = l; by = no_more refl })
  count_close true n zero d h l = (suc d, record { to_close = omega (arith, h, step_some); near = λ x. omega (arith, step_some); by = last refl (omega (arith, h)) })
  count_close true n (suc left) d h l =
      let some : nat_eq (suc left) 0 ≡ false = ne_eqb (suc left) 0 (λ z. absurd (omega (arith, z))) in
      (d, record { to_close = rw some (omega (arith, h)); near = λ x. (let y = l x in rw some (omega (arith, y))); by = no_more some })

  -- a window that is completed is open
  pub completed_open : (n until q d : ℕ) → n + until + 1 ≡ q * advance → n ≡ d * advance + size → d < q
  completed_open n until q d h e = let far : d * advance < q * advance = omega (arith, h, e) in mul_below d q advance far
