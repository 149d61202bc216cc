-- How many copies behind a front of windows of time take their ends while no end comes, and with one.
use Rattle.std.proofs.Common.{◌≡◌, ℕ, zero, suc, ◌+◌, ◌-◌, ◌*◌, ◌<◌, ◌≤◌, max, length, Some, None, Bool, true, false, ◌⊎◌, refl, sym, ap, ◌∙◌, subst, arith, inl, inr, mul-le-mul_right}
use Rattle.std.specs.Prelude.{if◌then◌else◌}
use Rattle.std.proofs.Math.Nat.{le-mul_of_pos_right}
use Rattle.std.proofs.lemmas.Bool.{cases_lt, false_from_ne_true}
use Rattle.gl_bits.specs.Words.{bit}
use Rattle.gl_wire.specs.Apart.{an_end}
use Rattle.gl_wire.specs.Ticks.{ticks_in}
use Rattle.gl_wire.specs.Wire.{Carried}
use Rattle.gl_wire.specs.Lift.{Visits, visits}
use Rattle.gl_wire.specs.Timed.{NoEnd, Rested}
use Rattle.gl_wire.proofs.NumberLemmas.{all_turns, mul_below}
use Rattle.gl_windows.specs.Ticks.{by_ticks}
use Rattle.gl_windows.specs.TimeFront.{TimeMachine, states, closes_at, copy_for, reopens, who_closes}
use Rattle.gl_windows.proofs.TimeSetting.{IsTimed, ticks_before, ticks_at}
use Rattle.gl_windows.proofs.TimeFlow.{Flow, Flowing, flow_next}
use Rattle.gl_windows.proofs.TimeFlush.{Flushes, flow_end}
use Rattle.gl_windows.proofs.TimePhases.{Phase, flows, flushes, phase, Source, with_end, with_tick, in_turn, source, again, flowing, on_flush}

module _ (m : TimeMachine) (ok : IsTimed m) (ins : ℕ → Carried) where
  open m use {size, advance, count, stride, tick, a}

  abbrev who : Visits
  who = who_closes m

  abbrev flush : ℕ
  flush = count * stride

  -- ---- while no end comes

  few_by : (n x : ℕ) → ((y : ℕ) → x ≤ y → y < x + n → closes_at m y ≡ true → tick y ≡ true) → length (visits who ins (suc x) n) ≤ ticks_in tick x n
  few_by zero x h = omega arith
  few_by (suc n) x h = by (closes_at m x) refl (few_by n (suc x) (λ y l k e. h y (omega (arith, l)) (omega (arith, k)) e))
    where
      by : (z : Bool) → closes_at m x ≡ z → length (visits who ins (suc (suc x)) n) ≤ ticks_in tick (suc x) n → length (visits who ins (suc x) (suc n)) ≤ bit (tick x) + ticks_in tick (suc x) n
      by true p ih =
          let t = h x (omega arith) (omega arith) p in
          let seen : who (suc x) ≡ Some (copy_for m (states m x).closed) = ap (λ (b : Bool). if b then Some (copy_for m (states m x).closed) else None) p in
          rw (seen, t) (omega (arith, ih))
      by false p ih =
          let seen : who (suc x) ≡ None = ap (λ (b : Bool). if b then Some (copy_for m (states m x).closed) else None) p in
          rw seen (omega (arith, ih))

  pub few_windows : (x n : ℕ) → Rested flush a x → NoEnd a x (x + n) → length (visits who ins (suc x) n) ≤ ticks_in tick x n
  few_windows x n rest quiet = few_by n x (λ y l k e. why y l k (source m ok y e))
    where
      why : (y : ℕ) → x ≤ y → y < x + n → Source m ok y → tick y ≡ true
      why y l k (with_tick e) = e
      why y l k (with_end e) = absurd (let z = quiet.none y l k in cc (z, e))
      why y l k (in_turn t) = absurd (elim (cases_lt t.u x) [
        | inl p ↦ (let z = rest.over t.u t.end p in let w : t.i * stride ≤ count * stride = mul-le-mul_right stride (omega (arith, t.less)) in omega (arith, z, w, t.time, l))
        | inr p ↦ (let z = quiet.none t.u p (omega (arith, t.time, k)) in let w = t.end in cc (z, w))
      ])

  -- ---- with an end

  closed_visits : (n x : ℕ) → (states m x).closed + length (visits who ins (suc x) n) ≡ (states m (x + n)).closed
  closed_visits zero x = let e : x + zero ≡ x = omega arith in rw e (omega arith)
  closed_visits (suc n) x =
      let e : x + suc n ≡ suc x + n = omega arith in
      by (closes_at m x) refl (closed_visits n (suc x) ∙ ap (λ i. (states m i).closed) (sym e))
    where
      by : (b : Bool) → closes_at m x ≡ b → (states m (suc x)).closed + length (visits who ins (suc (suc x)) n) ≡ (states m (x + suc n)).closed → (states m x).closed + length (visits who ins (suc x) (suc n)) ≡ (states m (x + suc n)).closed
      by true p ih =
          let seen : who (suc x) ≡ Some (copy_for m (states m x).closed) = ap (λ (b : Bool). if b then Some (copy_for m (states m x).closed) else None) p in
          let up : (states m (suc x)).closed ≡ suc (states m x).closed = ap (λ (b : Bool). if b then suc (states m x).closed else (states m x).closed) p in
          rw seen (omega (arith, up, ih))
      by false p ih =
          let seen : who (suc x) ≡ None = ap (λ (b : Bool). if b then Some (copy_for m (states m x).closed) else None) p in
          let up : (states m (suc x)).closed ≡ (states m x).closed = ap (λ (b : Bool). if b then suc (states m x).closed else (states m x).closed) p in
          rw seen (omega (arith, up, ih))

  -- the ticks of a stream from one cycle to a later one
  ticks_to : (n x : ℕ) → ((y : ℕ) → x ≤ y → y < x + n → a.ends y ≡ false) → ticks_at m (x + n) ≡ ticks_before m x + ticks_in tick x (suc n)
  ticks_to zero x h = let e : x + zero ≡ x = omega arith in rw e (by (tick x))
    where
      by : (b : Bool) → (if b then suc (ticks_before m x) else ticks_before m x) ≡ ticks_before m x + (bit b + 0)
      by true = omega arith
      by false = omega arith
  ticks_to (suc n) x h =
      let e : x + suc n ≡ suc x + n = omega arith in
      let none = h x (omega arith) (omega arith) in
      let ih = ticks_to n (suc x) (λ y l k. h y (omega (arith, l)) (omega (arith, k))) in
      let here : ticks_before m (suc x) ≡ ticks_before m x + bit (tick x) = rw none (by (tick x)) in
      ap (ticks_at m) e ∙ ih ∙ omega (arith, here)
    where
      by : (b : Bool) → (if b then suc (ticks_before m x) else ticks_before m x) ≡ ticks_before m x + bit b
      by true = omega arith
      by false = omega arith

  abbrev Silent : ℕ → ℕ → Type 0
  Silent u c = (y : ℕ) → u < y → y < c → (by_ticks tick a).comes y → ⊥

  no_end_in : (u c y : ℕ) → Silent u c → u < y → y < c → a.ends y ≡ false
  no_end_in u c y h l k = false_from_ne_true (a.ends y) (λ e. h y l k (inr (an_end e)))

  -- behind an end nothing is counted where nothing comes
  none_counted : (u n : ℕ) → a.ends u ≡ true → Silent u (suc u + n) → ticks_before m (suc u + n) ≡ 0
  none_counted u zero p h = let e : suc u + zero ≡ suc u = omega arith in rw (e, p) refl
  none_counted u (suc n) p h =
      let e : suc u + suc n ≡ suc (suc u + n) = omega arith in
      let calm : a.ends (suc u + n) ≡ false = no_end_in u (suc u + suc n) (suc u + n) h (omega arith) (omega arith) in
      let none : tick (suc u + n) ≡ false = false_from_ne_true (tick (suc u + n)) (λ t. h (suc u + n) (omega arith) (omega arith) (inl t)) in
      rw (e, calm, none) (none_counted u n p (λ y l k. h y l (omega (arith, k))))

  -- without a tick no window is completed
  none_done : (c base q d : ℕ) → Flow m ok c base q d → ticks_before m c ≡ 0 → d ≡ 0
  none_done c base q zero f e = refl
  none_done c base q (suc d) f e =
      let z : 1 * advance ≤ suc d * advance = mul-le-mul_right advance (omega arith) in
      let y = f.near (omega arith) in
      absurd (omega (arith, f.left, e, y, z, ok.rows_some))

  still : (u base q d n : ℕ) → Flushes m ok (suc u) base q d u → Silent u (suc u + n) → Flushes m ok (suc u + n) base q d u ⊎ Flowing m ok (suc u + n) (base + q)
  still u base q d zero f h = let e : suc u ≡ suc u + zero = omega arith in inl (subst (λ i. Flushes m ok i base q d u) e f)
  still u base q d (suc n) f h =
      let e : suc (suc u + n) ≡ suc u + suc n = omega arith in
      subst (λ i. Flushes m ok i base q d u ⊎ Flowing m ok i (base + q)) e (by (still u base q d n f (λ y l k. h y l (omega (arith, k)))))
    where
      by : Flushes m ok (suc u + n) base q d u ⊎ Flowing m ok (suc u + n) (base + q) → Flushes m ok (suc (suc u + n)) base q d u ⊎ Flowing m ok (suc (suc u + n)) (base + q)
      by (inl g) = next (reopens (states m (suc u + n))) refl
        where
          next : (b : Bool) → reopens (states m (suc u + n)) ≡ b → Flushes m ok (suc (suc u + n)) base q d u ⊎ Flowing m ok (suc (suc u + n)) (base + q)
          next true now = inr (again m ok (suc u + n) base q d u g now)
          next false quiet = inl (on_flush m ok (suc u + n) base q d u g quiet)
      by (inr g) = inr (flow_next m ok (suc u + n) (base + q) g.q g.d g.is (no_end_in u (suc u + suc n) (suc u + n) h (omega arith) (omega arith)))

  closed_after : (u base q d n : ℕ) → Flushes m ok (suc u) base q d u → a.ends u ≡ true → Silent u (suc u + n) → (states m (suc u + n)).closed ≤ base + q
  closed_after u base q d n f p h = by (still u base q d n f h)
    where
      by : Flushes m ok (suc u + n) base q d u ⊎ Flowing m ok (suc u + n) (base + q) → (states m (suc u + n)).closed ≤ base + q
      by (inl g) = omega (arith, g.is.closed, g.is.high)
      by (inr g) = let none = none_done (suc u + n) (base + q) g.q g.d g.is (none_counted u n p h) in omega (arith, g.is.closed, none)

  flows_at : (x : ℕ) → Rested flush a x → (base : ℕ) × Flowing m ok x base
  flows_at x rest = by (phase m ok x)
    where
      by : Phase m ok x → (base : ℕ) × Flowing m ok x base
      by (flows base f) = (base, f)
      by (flushes base q d u f) =
          let z = rest.over u f.is.end f.is.past in
          absurd (omega (arith, z, f.is.fire, all_turns count stride ok.copies_some, ok.stride_some))

  few_enough : (q d n k l : ℕ) → n + l + 1 ≡ d * advance + size → q * advance ≤ n + k + advance → q ≤ d + (max k 1 - 1 + count)
  few_enough q d n k l e reach =
      let z : max k 1 - 1 ≤ (max k 1 - 1) * advance = le-mul_of_pos_right (max k 1 - 1) ok.step_some in
      let far : q * advance < (d + count + 1 + (max k 1 - 1)) * advance = omega (arith, z, e, reach, ok.cover) in
      let y = mul_below q (d + count + 1 + (max k 1 - 1)) advance far in omega (arith, y)

  pub many_windows : (x u n : ℕ) → Rested flush a x → x ≤ u → u < x + n → NoEnd a x u → a.ends u ≡ true → Silent u (x + n) → length (visits who ins (suc x) n) ≤ max (ticks_in tick x (suc (u - x))) 1 - 1 + count
  many_windows x u n rest l k quiet p silent =
      let at : x + (u - x) ≡ u = omega (arith, l) in
      let z = flows_at x rest in
      let base : ℕ = z.0 in
      let f0 : Flowing m ok x base = z.1 in
      let calm : (y : ℕ) → x ≤ y → y < x + (u - x) → a.ends y ≡ false = λ y r s. quiet.none y r (omega (arith, s, l)) in
      let f1 : Flowing m ok u base = subst (λ i. Flowing m ok i base) at (flowing m ok base x (u - x) f0 calm) in
      let g = flow_end m ok u base f1.q f1.d f1.is p in
      let last : suc u + (x + n - suc u) ≡ x + n = omega (arith, k) in
      let closed : (states m (suc u + (x + n - suc u))).closed ≤ base + g.q = closed_after u base g.q f1.d (x + n - suc u) g.by p (λ y r s. silent y r (omega (arith, s, k))) in
      let end_closed : (states m (x + n)).closed ≤ base + g.q = subst (λ i. (states m i).closed ≤ base + g.q) last closed in
      let ticks : ticks_at m u ≡ ticks_before m x + ticks_in tick x (suc (u - x)) = ap (ticks_at m) (sym at) ∙ ticks_to (u - x) x calm in
      let bound : g.q ≤ f0.d + (max (ticks_in tick x (suc (u - x))) 1 - 1 + count) = few_enough g.q f0.d (ticks_before m x) (ticks_in tick x (suc (u - x))) (states m x).left f0.is.left (omega (arith, g.by.is.reach, ticks)) in
      omega (arith, closed_visits n x, end_closed, f0.is.closed, bound)
