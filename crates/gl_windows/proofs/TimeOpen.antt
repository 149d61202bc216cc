-- Which windows of time are open, by the counters of the front, and which windows a time is in.
use Rattle.std.proofs.Common.{◌≡◌, ℕ, suc, ◌+◌, ◌*◌, ◌<◌, ◌≤◌, false, ◌&&◌, sym, ◌∙◌, arith, inl, inr, mul-le-mul_right}
use Rattle.std.specs.Prelude.{nat_le, nat_lt}
use Rattle.std.proofs.lemmas.Bool.{cases_lt, lt-ltb, le-ltb, le-leb, lt-leb, and_from, and_left, and_right}
use Rattle.gl_wire.proofs.NumberLemmas.{mul_below}

-- with n ticks so far: q windows are opened and d closed, and so many ticks lack to the next opening and the next closing
module _ (size advance q d n until left : ℕ) (step_some : 1 ≤ advance) (to_open : n + until + 1 ≡ q * advance) (less : until < advance)
    (to_close : n + left + 1 ≡ d * advance + size) (near : 1 ≤ d → left < advance) where
  begun : (j : ℕ) → j < q → j * advance ≤ n
  begun j l = let z : suc j * advance ≤ q * advance = mul-le-mul_right advance l in omega (arith, z, to_open, less)

  not_begun : (j : ℕ) → q ≤ j → n < j * advance
  not_begun j l = let z : q * advance ≤ j * advance = mul-le-mul_right advance l in omega (arith, z, to_open)

  goes_on : (j : ℕ) → d ≤ j → n < j * advance + size
  goes_on j l = let z : d * advance ≤ j * advance = mul-le-mul_right advance l in omega (arith, z, to_close)

  over : (j : ℕ) → j < d → j * advance + size ≤ n
  over j l = let z : suc j * advance ≤ d * advance = mul-le-mul_right advance l in let y : left < advance = near (omega (arith, l)) in omega (arith, z, y, to_close)

  -- a window is open exactly where the time is in it
  pub open_is_in : (j : ℕ) → (nat_le d j && nat_lt j q) ≡ (nat_le (j * advance) n && nat_lt n (j * advance + size))
  open_is_in j = elim (cases_lt j d) [
    | inl l ↦ and_left _ _ (lt-leb d j l) ∙ sym (and_right _ _ (le-ltb n (j * advance + size) (over j l)))
    | inr l ↦ elim (cases_lt j q) [
      | inl m ↦ and_from _ _ (le-leb d j l) (lt-ltb j q m) ∙ sym (and_from _ _ (le-leb (j * advance) n (begun j m)) (lt-ltb n (j * advance + size) (goes_on j l)))
      | inr m ↦ and_right _ _ (le-ltb j q m) ∙ sym (and_left _ _ (lt-leb (j * advance) n (not_begun j m)))
    ]
  ]

  -- a window that ended is in no time from then on
  pub closed_is_past : (j : ℕ) → j < d → (nat_le (j * advance) n && nat_lt n (j * advance + size)) ≡ false
  closed_is_past j l = and_right _ _ (le-ltb n (j * advance + size) (over j l))

  -- no more are completed than opened
  pub in_order : d ≤ q
  in_order = elim (cases_lt q d) [
    | inl l ↦ absurd (
        let z : suc q * advance ≤ d * advance = mul-le-mul_right advance l in
        let y : left < advance = near (omega (arith, l)) in
        omega (arith, z, y, to_open, to_close))
    | inr l ↦ l
  ]

-- so many copies are enough, where the time is not behind the end of the oldest window
pub few_open : (size advance q d n until count : ℕ) → n + until + 1 ≡ q * advance → until < advance → n ≤ d * advance + size → size < count * advance → q ≤ d + count
few_open size advance q d n until count to_open less near cover =
    let far : q * advance < (d + count + 1) * advance = omega (arith, to_open, less, near, cover) in
    let z : q < d + count + 1 = mul_below q (d + count + 1) advance far in omega (arith, z)
