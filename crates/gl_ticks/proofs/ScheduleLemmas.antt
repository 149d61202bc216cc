-- A front of windows of time over one stream, whose ticks are farther apart than its tuples, schedules the visits of its copies.
use Rattle.std.proofs.Common.{◌≡◌, ℕ, zero, suc, ◌+◌, ◌-◌, ◌*◌, ◌<◌, ◌≤◌, ◌⊎◌, max, map, Option, Some, None, Bool, true, false, ◌&&◌, refl, sym, ap, ◌∙◌, subst, arith, inl, inr, mul-le-mul_right}
use Rattle.std.specs.Prelude.{if◌then◌else◌, nat_eq, nat_le, nat_lt}
use Rattle.std.proofs.lemmas.Bool.{cases_lt, ltb-true, and_parts}
use Rattle.gl_algebra.specs.declared.figures.Figures.{Figures}
use Rattle.gl_values.specs.Results.{Row}
use Rattle.gl_values.specs.Times.{tslices}
use Rattle.gl_wire.specs.Apart.{Carries, a_tuple, an_end}
use Rattle.gl_wire.specs.Wire.{Carried, stream}
use Rattle.gl_wire.specs.Lift.{Schedules, visits}
use Rattle.gl_wire.specs.Timed.{Begins, at_first, after_end}
use Rattle.gl_wire.proofs.NumberLemmas.{mul_below}
use Rattle.gl_wire.proofs.TurnLemmas.{turn_of, turns_schedule}
use Rattle.gl_windows.specs.Ticks.{by_ticks}
use Rattle.gl_windows.specs.TimeFront.{TimeMachine, IsTimeFront, states, closes, closes_at, copy_for, last_row, open_row, opened_by, turns_in, who_closes}
use Rattle.gl_windows.proofs.TimeSetting.{IsTimed, ticks_at, times_at}
use Rattle.gl_windows.proofs.TimeCopies.{copies_apart, copy_ends, copy_hits, copy_tuple, rows_of, within}
use Rattle.gl_windows.proofs.TimeParts.{begin_at, begins_at, parted}
use Rattle.gl_windows.proofs.TimePhases.{Source, with_end, with_tick, in_turn, source}
use Rattle.gl_ticks.proofs.CountLemmas.{IsOnce, as_far, before, counted, from_end, open_at, spread, turn_begun}

-- what comes is far enough apart for a body: anything, and ticks with the end
pub record IsSpread (m : TimeMachine) (s : Figures) (gap ticks : ℕ) : Type 0 where
  pub near : (x y : ℕ) → (by_ticks m.tick m.a).comes x → (by_ticks m.tick m.a).comes y → x < y → x + gap ≤ y
  pub far : (x y : ℕ) → m.tick x ≡ true → ((m.tick y ≡ true) ⊎ (m.a.ends y ≡ true)) → x < y → x + ticks ≤ y
  pub own : s.gt ≤ gap
  pub interval : m.stride ≡ s.le - s.a + 1
  pub strides : m.stride ≤ max 1 (m.advance - m.size) * ticks
  pub again : s.ge ≤ (m.count * m.advance - m.size) * ticks

inside_of : (b : Bool) (o : Option Row) (r : Row) → (if b then o else None) ≡ Some r → b ≡ true
inside_of true o r h = refl
inside_of false o r h = absurd (cc)

module _ (m : TimeMachine) (ok : IsTimed m) (u : ℕ) (once : IsOnce m u) (ins : ℕ → Carried) (law : IsTimeFront m ins) (s : Figures) (gap ticks : ℕ) (time : IsSpread m s gap ticks) where
  open m use {size, advance, count, stride, tick, a}

  abbrev closed : ℕ → ℕ
  closed c = (states m c).closed

  -- ---- windows end one after another

  one_closed : (c : ℕ) → closed c ≤ closed (suc c)
  one_closed c = by (closes_at m c)
    where
      by : (b : Bool) → closed c ≤ (if b then suc (closed c) else closed c)
      by true = omega arith
      by false = omega arith

  closed_up : (n x : ℕ) → closed x ≤ closed (x + n)
  closed_up zero x = let e : x + zero ≡ x = omega arith in let z = ap closed e in omega (arith, z)
  closed_up (suc n) x = let e : x + suc n ≡ suc x + n = omega arith in let z = ap closed e in omega (arith, z, one_closed x, closed_up n (suc x))

  closed_past : (x y : ℕ) → closes_at m x ≡ true → x < y → suc (closed x) ≤ closed y
  closed_past x y p l =
      let e : suc x + (y - suc x) ≡ y = omega (arith, l) in
      let z = ap closed e in
      let one : closed (suc x) ≡ suc (closed x) = ap (λ (b : Bool). if b then suc (closed x) else closed x) p in
      omega (arith, z, one, closed_up (y - suc x) (suc x))

  -- a later window of the same copy is all copies later
  a_round : (w v : ℕ) → w < v → copy_for m w ≡ copy_for m v → w + count ≤ v
  a_round w v l e = elim (cases_lt v (w + count)) [
    | inl n ↦ absurd (copies_apart m w v l n e)
    | inr n ↦ n
  ]

  -- ---- why a window ends

  data Cause (c : ℕ) : Type 0 where
    of_tick : tick c ≡ true → c < u → ticks_at m c ≡ closed c * advance + size → Cause c
    of_end : c ≡ u → Cause c
    of_turn : (i : ℕ) → c ≡ u + i * stride → 1 ≤ i → i < count → closed c ≡ closed u + i → Cause c

  cause : (c : ℕ) → closes_at m c ≡ true → Cause c
  cause c p = by (source m ok c p)
    where
      at_tick : (b : Bool) → a.ends c ≡ b → tick c ≡ true → Cause c
      at_tick true e t = of_end (once.only c e)
      at_tick false e t =
          let low = once.until c (inl t) in
          let due = (counted m ok u once c low).due p e in
          of_tick t (before m ok u once c low e) due.1

      by : Source m ok c → Cause c
      by (with_end e) = of_end (once.only c e)
      by (with_tick t) = at_tick (a.ends c) refl t
      by (in_turn k) =
          let same = once.only k.u k.end in
          of_turn k.i (omega (arith, k.time, same)) k.once k.less (k.window ∙ ap (λ z. closed z + k.i) same)

  one_turn : (i : ℕ) → 1 ≤ i → stride ≤ i * stride
  one_turn i some = let z : 1 * stride ≤ i * stride = mul-le-mul_right stride some in omega (arith, z)

  -- ---- from a tick that ends a window to a cycle in which a later one is open

  any_later : (x y v : ℕ) → tick x ≡ true → ticks_at m x ≡ closed x * advance + size → x < y → y ≤ u → ((tick y ≡ true) ⊎ (a.ends y ≡ true)) → suc (closed x) ≤ v → v * advance ≤ ticks_at m y
      → x + stride ≤ y
  any_later x y v t e l n c w b = elim (cases_lt size advance) [
    | inl less ↦
        let most : max 1 (advance - size) ≡ advance - size = omega (arith, less) in
        let strides : stride ≤ (advance - size) * ticks = subst (λ k. stride ≤ k * ticks) most time.strides in
        let on = from_end advance size (ticks_at m y) (ticks_at m x) (closed x) v 1 (omega (arith, less)) e (omega (arith, w)) b in
        as_far x y stride ((advance - size) * ticks) strides (spread m ok u once ticks time.far (advance - size) x y t (omega (arith, l)) n (omega (arith, on)))
    | inr more ↦
        let least : max 1 (advance - size) ≡ 1 = omega (arith, more) in
        let strides : stride ≤ 1 * ticks = subst (λ k. stride ≤ k * ticks) least time.strides in
        let apart = time.far x y t c l in
        omega (arith, apart, strides)
  ]

  one_later : (x y v : ℕ) → tick x ≡ true → ticks_at m x ≡ closed x * advance + size → x ≤ y → y ≤ u → closed x + count ≤ v → v * advance ≤ ticks_at m y → x + s.ge ≤ y
  one_later x y v t e l n w b =
      let on = from_end advance size (ticks_at m y) (ticks_at m x) (closed x) v count (omega (arith, ok.cover)) e w b in
      as_far x y s.ge ((count * advance - size) * ticks) time.again (spread m ok u once ticks time.far (count * advance - size) x y t l n on)

  -- ---- two ends

  record Between (x y : ℕ) : Type 0 where
    in_one : copy_for m (closed x) ≡ copy_for m (closed y) → x + s.ge ≤ y
    any : x + stride ≤ y

  -- behind a tick: the end, or another tick, while the window that ends there is open
  tick_then : (x y : ℕ) → closes_at m x ≡ true → closes_at m y ≡ true → x < y → tick x ≡ true → ticks_at m x ≡ closed x * advance + size → y ≤ u → ((tick y ≡ true) ⊎ (a.ends y ≡ true)) → Between x y
  tick_then x y p q l t e n c =
      let later = closed_past x y p l in
      let open_there = (counted m ok u once y n).begun (closed y) (open_at m ok u once y q) in
      record {
        in_one = λ same. one_later x y (closed y) t e (omega (arith, l)) n (a_round (closed x) (closed y) later same) open_there;
        any = any_later x y (closed y) t e l n c later open_there;
      }

  tick_turn : (x y i : ℕ) → closes_at m x ≡ true → closes_at m y ≡ true → x < y → tick x ≡ true → x < u → ticks_at m x ≡ closed x * advance + size → y ≡ u + i * stride → 1 ≤ i → i < count → Between x y
  tick_turn x y i p q l t below e time some less =
      let one = one_turn i some in
      record {
        in_one = λ same.
            let far = one_later x u (closed y) t e (omega (arith, below)) (omega arith) (a_round (closed x) (closed y) (closed_past x y p l) same) (turn_begun m ok u once y i q time some less) in
            omega (arith, far, time);
        any = omega (arith, one, time, below);
      }

  end_turn : (x y i : ℕ) → x ≡ u → y ≡ u + i * stride → 1 ≤ i → i < count → closed y ≡ closed u + i → Between x y
  end_turn x y i at time some less window =
      let one = one_turn i some in
      record {
        in_one = λ same.
            let as_one : copy_for m (closed u) ≡ copy_for m (closed u + i) = ap (λ z. copy_for m (closed z)) (sym at) ∙ same ∙ ap (copy_for m) window in
            absurd (copies_apart m (closed u) (closed u + i) (omega (arith, some)) (omega (arith, less)) as_one);
        any = omega (arith, one, time, at);
      }

  turn_turn : (x y i j : ℕ) → x < y → x ≡ u + i * stride → closed x ≡ closed u + i → y ≡ u + j * stride → j < count → closed y ≡ closed u + j → Between x y
  turn_turn x y i j l time window time' less window' =
      let more : i < j = mul_below i j stride (omega (arith, l, time, time')) in
      let one : suc i * stride ≤ j * stride = mul-le-mul_right stride more in
      record {
        in_one = λ same.
            let as_one : copy_for m (closed u + i) ≡ copy_for m (closed u + j) = ap (copy_for m) (sym window) ∙ same ∙ ap (copy_for m) window' in
            absurd (copies_apart m (closed u + i) (closed u + j) (omega (arith, more)) (omega (arith, less)) as_one);
        any = omega (arith, one, time, time');
      }

  the_end : (y : ℕ) → y ≡ u → a.ends y ≡ true
  the_end y at = ap a.ends at ∙ once.is

  between : (x y : ℕ) → closes_at m x ≡ true → closes_at m y ≡ true → x < y → Between x y
  between x y p q l = by (cause x p) (cause y q)
    where
      by : Cause x → Cause y → Between x y
      by (of_tick t below e) (of_tick t' below' e') = tick_then x y p q l t e (omega (arith, below')) (inl t')
      by (of_tick t below e) (of_end at) = tick_then x y p q l t e (omega (arith, at)) (inr (the_end y at))
      by (of_tick t below e) (of_turn j time some less window) = tick_turn x y j p q l t below e time some less
      by (of_end at) (of_tick t' below' e') = absurd (omega (arith, at, below', l))
      by (of_end at) (of_end at') = absurd (omega (arith, at, at', l))
      by (of_end at) (of_turn j time some less window) = end_turn x y j at time some less window
      by (of_turn i time some less window) (of_tick t' below' e') = absurd (omega (arith, time, below', l))
      by (of_turn i time some less window) (of_end at') = absurd (omega (arith, time, at', l))
      by (of_turn i time some less window) (of_turn j time' some' less' window') = turn_turn x y i j l time window time' less' window'

  -- ---- an end and a tuple of one copy

  -- a window that takes a tuple is open
  takes_open : (c w : ℕ) (r : Row) → closed c ≤ w → w < closed c + count → (ins (copy_for m w)).tuple (suc c) ≡ Some r → w < opened_by (tick c) (states m c)
  takes_open c w r low high h =
      let own : Option Row = if closes (tick c) (a.ends c) (a.tuple c) (states m c) && nat_eq w (closed c) then last_row (tick c) (a.ends c) (a.tuple c) (states m c) else open_row (a.ends c) (a.tuple c) in
      let inside = inside_of (nat_le (closed c) w && nat_lt w (opened_by (tick c) (states m c))) own r (sym (law.tuples w c low high) ∙ h) in
      ltb-true w (opened_by (tick c) (states m c)) (and_parts (nat_le (closed c) w) _ inside).1

  then_comes : (k x y : ℕ) (r : Row) → k < count → closes_at m x ≡ true → copy_for m (closed x) ≡ k → (ins k).tuple (suc y) ≡ Some r → (ins k).ends (suc y) ≡ false → x < y → x + s.ge ≤ y
  then_comes k x y r l p e h n o =
      let z = copy_tuple m ok ins law k y r l h n in
      let low = once.until y (inr (a_tuple r z.1)) in
      by (before m ok u once y low z.0) (cause x p)
    where
      by : y < u → Cause x → x + s.ge ≤ y
      by below (of_tick t under at) =
          let w = copy_hits m (closed y) k l in
          let there = takes_open y w.0 r w.1 w.2 (ap (λ i. (ins i).tuple (suc y)) w.3 ∙ h) in
          let later = closed_past x y p o in
          one_later x y w.0 t at (omega (arith, o)) (omega (arith, below)) (a_round (closed x) w.0 (omega (arith, later, w.1)) (e ∙ sym w.3)) ((counted m ok u once y (omega (arith, below))).begun w.0 there)
      by below (of_end at) = absurd (omega (arith, at, below, o))
      by below (of_turn i time some less window) = absurd (omega (arith, time, below, o))

  comes_then : (x y : ℕ) → Carries a x → a.ends x ≡ false → closes_at m y ≡ true → x < y → x + s.gt ≤ y
  comes_then x y k still q l = by (cause y q)
    where
      below : x < u
      below = before m ok u once x (once.until x (inr k)) still

      by : Cause y → x + s.gt ≤ y
      by (of_tick t under e) = as_far x y s.gt gap time.own (time.near x y (inr k) (inl t) l)
      by (of_end at) = as_far x y s.gt gap time.own (time.near x y (inr k) (inr (an_end (the_end y at))) l)
      by (of_turn i at some less window) = let z = time.near x u (inr k) (inr (an_end once.is)) below in omega (arith, z, at, time.own)

  -- ---- all together

  pub schedules : Schedules s count (who_closes m) ins
  schedules = turns_schedule s count (who_closes m) (closes_at m) (λ c. copy_for m (closed c)) a ins (record {
    first = refl;
    next = λ c. refl;
    no_tuple = law.no_tuple;
    no_end = law.no_end;
    ends = copy_ends m ok ins law;
    tuples = copy_tuple m ok ins law;
    within = λ c p. within m ok ins law (closed c);
    in_one = λ x y p q l e. (between x y p q l).in_one e;
    any = λ x y p q l. let z = (between x y p q l).any in let same = time.interval in omega (arith, z, same);
    then_comes = then_comes;
    comes_then = comes_then;
    apart = λ x y k j l. as_far x y s.gt gap time.own (time.near x y (inr k) (inr j) l);
  })

  -- the last window ends in the last turn
  pub over : (v k : ℕ) → who_closes m v ≡ Some k → v < u + turns_in m + 2
  over zero k h = absurd (cc)
  over (suc c) k h = by (cause c (turn_of (closes_at m c) (copy_for m (closed c)) k h).0)
    where
      by : Cause c → suc c < u + turns_in m + 2
      by (of_tick t below e) = omega (arith, below)
      by (of_end at) = omega (arith, at)
      by (of_turn i time some less window) = let early : i * stride ≤ turns_in m = mul-le-mul_right stride (omega (arith, less)) in omega (arith, time, early)

  -- the visits are of all windows of the stream
  pub all_parted : map rows_of (visits (who_closes m) ins 0 (u + turns_in m + 2)) ≡ tslices size advance (times_at m u) (ticks_at m u) (stream a u)
  all_parted =
      let z = parted m ok ins law (λ v d p k l. absurd (omega (arith, once.only v p, once.until d k, l))) u once.is in
      let all : u + turns_in m + 2 - 0 ≡ u + turns_in m + 2 = omega arith in
      sym (ap (λ n. map rows_of (visits (who_closes m) ins 0 n)) all)
      ∙ subst (λ lo. map rows_of (visits (who_closes m) ins lo (u + turns_in m + 2 - lo)) ≡ tslices size advance (times_at m u) (ticks_at m u) (stream a u)) (none_before (begins_at m ok u)) z
    where
      none_before : Begins (count * stride) a (begin_at m ok u) u → begin_at m ok u ≡ 0
      none_before (at_first e none) = e
      none_before (after_end v q l is others) = absurd (omega (arith, once.only v q, l))

  -- what a copy takes without an end came before the stream's end
  pub caused : (k c : ℕ) (r : Row) → k < count → (ins k).tuple c ≡ Some r → (ins k).ends c ≡ false → c ≤ u
  caused k zero r l h n = absurd (let z = law.no_tuple k l in cc (z, h))
  caused k (suc c) r l h n =
      let z = copy_tuple m ok ins law k c r l h n in
      let below = before m ok u once c (once.until c (inr (a_tuple r z.1))) z.0 in
      omega (arith, below)
