-- A front of windows of time schedules the visits of its copies, each of which something that came lets end.
use Rattle.std.proofs.Common.{◌≡◌, ℕ, zero, suc, ◌+◌, ◌-◌, ◌*◌, ◌<◌, ◌≤◌, ◌⊎◌, Some, false, true, refl, sym, ap, ◌∙◌, arith, inl, inr, mul-le-mul_right}
use Rattle.std.proofs.lemmas.Bool.{cases_lt}
use Rattle.gl_algebra.specs.declared.figures.Figures.{Figures}
use Rattle.gl_values.specs.Results.{Row}
use Rattle.gl_wire.specs.Apart.{Carries, a_tuple, an_end}
use Rattle.gl_wire.specs.Wire.{Carried}
use Rattle.gl_wire.specs.Lift.{Schedules}
use Rattle.gl_wire.specs.Timed.{Origin, Timed}
use Rattle.gl_wire.proofs.NumberLemmas.{mul_below}
use Rattle.gl_wire.proofs.TurnLemmas.{turn_of, turns_schedule}
use Rattle.gl_windows.specs.Ticks.{by_ticks}
use Rattle.gl_windows.specs.TimeFront.{TimeMachine, IsTimeFront, states, closes_at, copy_for, turns_in, who_closes}
use Rattle.gl_windows.proofs.TimeSetting.{IsTimed}
use Rattle.gl_windows.proofs.TimeCopies.{copies_apart, copy_ends, copy_tuple, within}
use Rattle.gl_windows.proofs.TimePhases.{Turn, Source, with_end, with_tick, in_turn, source}

-- what comes is so far apart, after anything and after an end, that a copy which has ended can take the next tuple that comes
pub record IsSpaced (m : TimeMachine) (g1 g2 gap_end : ℕ) : Type 0 where
  pub timed : Timed g1 g2 m.a (by_ticks m.tick m.a)
  pub near : gap_end ≤ g1
  pub strides : m.stride ≤ gap_end
  pub far : turns_in m + gap_end + 1 ≤ g2

module _ (m : TimeMachine) (ok : IsTimed m) (ins : ℕ → Carried) (law : IsTimeFront m ins) (g1 g2 gap_end : ℕ) (time : IsSpaced m g1 g2 gap_end) where
  open m use {count, stride, tick, a}

  abbrev Comes : ℕ → Type 0
  Comes c = (tick c ≡ true) ⊎ Carries a c

  -- the copy whose window is the oldest
  abbrev old : ℕ → ℕ
  old c = copy_for m (states m c).closed

  turn_early : (i : ℕ) → i < count → i * stride ≤ turns_in m
  turn_early i l = mul-le-mul_right stride (omega (arith, l))

  cause : (c : ℕ) → Source m ok c → Comes c ⊎ Turn m ok c
  cause c (with_end p) = inl (inr (an_end p))
  cause c (with_tick p) = inl (inl p)
  cause c (in_turn k) = inr k

  -- two causes in one copy are the gap after an end apart, and any two the stride
  record Between (x y : ℕ) : Type 0 where
    in_one : old x ≡ old y → x + gap_end ≤ y
    any : x + stride ≤ y

  come_come : (x y : ℕ) → Comes x → Comes y → x < y → Between x y
  come_come x y k j l = let z = time.timed.apart x y k j l in record { in_one = λ e. omega (arith, z, time.near); any = omega (arith, z, time.near, time.strides) }

  turn_come : (x y : ℕ) → Turn m ok x → Comes y → x < y → Between x y
  turn_come x y k j l =
      let z = time.timed.after k.u y k.end j (omega (arith, k.time, l)) in
      let w = turn_early k.i k.less in
      record { in_one = λ e. omega (arith, z, w, k.time, time.far); any = omega (arith, z, w, k.time, time.far, time.strides) }

  come_turn : (x y : ℕ) → Comes x → Turn m ok y → x < y → Between x y
  come_turn x y k j l =
      let w = turn_early j.i j.less in
      elim (cases_lt x j.u) [
        | inl n ↦ (let z = time.timed.apart x j.u k (inr (an_end j.end)) n in record { in_one = λ e. omega (arith, z, time.near, j.time); any = omega (arith, z, time.near, time.strides, j.time) })
        | inr n ↦ elim (cases_lt j.u x) [
          | inl o ↦ absurd (let z = time.timed.after j.u x j.end k o in omega (arith, z, w, j.time, time.far, l))
          | inr o ↦
              let e : j.u ≡ x = omega (arith, n, o) in
              let one : 1 * stride ≤ j.i * stride = mul-le-mul_right stride j.once in
              record {
                in_one = λ q.
                    let same : old j.u ≡ copy_for m ((states m j.u).closed + j.i) = ap old e ∙ q ∙ ap (copy_for m) j.window in
                    absurd (copies_apart m (states m j.u).closed ((states m j.u).closed + j.i) (omega (arith, j.once)) (omega (arith, j.less)) same);
                any = omega (arith, one, j.time, e);
              }
        ]
      ]

  turn_turn : (x y : ℕ) → Turn m ok x → Turn m ok y → x < y → Between x y
  turn_turn x y k j l =
      let v = turn_early k.i k.less in
      let w = turn_early j.i j.less in
      elim (cases_lt k.u j.u) [
        | inl n ↦ (let z = time.timed.after k.u j.u k.end (inr (an_end j.end)) n in record { in_one = λ e. omega (arith, z, v, time.far, k.time, j.time); any = omega (arith, z, v, time.far, time.strides, k.time, j.time) })
        | inr n ↦ elim (cases_lt j.u k.u) [
          | inl o ↦ absurd (let z = time.timed.after j.u k.u j.end (inr (an_end k.end)) o in omega (arith, z, w, j.time, k.time, time.far, l))
          | inr o ↦
              let e : k.u ≡ j.u = omega (arith, n, o) in
              let more : k.i < j.i = mul_below k.i j.i stride (omega (arith, l, k.time, j.time, e)) in
              let one : suc k.i * stride ≤ j.i * stride = mul-le-mul_right stride more in
              let window_y : (states m y).closed ≡ (states m k.u).closed + j.i = j.window ∙ ap (λ z. (states m z).closed + j.i) (sym e) in
              record {
                in_one = λ q.
                    let same : copy_for m ((states m k.u).closed + k.i) ≡ copy_for m ((states m k.u).closed + j.i) = ap (copy_for m) (sym k.window) ∙ q ∙ ap (copy_for m) window_y in
                    absurd (copies_apart m ((states m k.u).closed + k.i) ((states m k.u).closed + j.i) (omega (arith, more)) (omega (arith, j.less)) same);
                any = omega (arith, one, k.time, j.time, e);
              }
        ]
      ]

  between : (x y : ℕ) → closes_at m x ≡ true → closes_at m y ≡ true → x < y → Between x y
  between x y p q l = by (cause x (source m ok x p)) (cause y (source m ok y q))
    where
      by : Comes x ⊎ Turn m ok x → Comes y ⊎ Turn m ok y → Between x y
      by (inl k) (inl j) = come_come x y k j l
      by (inl k) (inr j) = come_turn x y k j l
      by (inr k) (inl j) = turn_come x y k j l
      by (inr k) (inr j) = turn_turn x y k j l

  then_comes : (x y : ℕ) → Comes x ⊎ Turn m ok x → Comes y → x < y → x + gap_end ≤ y
  then_comes x y (inl k) j l = let z = time.timed.apart x y k j l in omega (arith, z, time.near)
  then_comes x y (inr k) j l =
      let z = time.timed.after k.u y k.end j (omega (arith, k.time, l)) in
      let w = turn_early k.i k.less in
      omega (arith, z, w, k.time, time.far)

  then_any : (x y : ℕ) → Comes x → a.ends x ≡ false → Comes y ⊎ Turn m ok y → x < y → x + g1 ≤ y
  then_any x y k calm (inl j) l = time.timed.apart x y k j l
  then_any x y k calm (inr j) l = elim (cases_lt x j.u) [
    | inl n ↦ (let z = time.timed.apart x j.u k (inr (an_end j.end)) n in omega (arith, z, j.time))
    | inr n ↦ elim (cases_lt j.u x) [
      | inl o ↦ absurd (let z = time.timed.after j.u x j.end k o in let w = turn_early j.i j.less in omega (arith, z, w, j.time, time.far, l))
      | inr o ↦ absurd (let e : j.u ≡ x = omega (arith, n, o) in let z = ap a.ends e in let y = j.end in cc (z, y, calm))
    ]
  ]

  pub schedules : (f : Figures) → f.ge ≡ gap_end → f.gt ≤ g1 → stride ≡ f.le - f.a + 1 → Schedules f count (who_closes m) ins
  schedules f ge_is gt_near interval = turns_schedule f count (who_closes m) (closes_at m) old a ins (record {
    first = refl;
    next = λ c. refl;
    no_tuple = law.no_tuple;
    no_end = law.no_end;
    ends = copy_ends m ok ins law;
    tuples = copy_tuple m ok ins law;
    within = λ c p. within m ok ins law (states m c).closed;
    in_one = λ x y p q l e. let z = (between x y p q l).in_one e in omega (arith, z, ge_is);
    any = λ x y p q l. let z = (between x y p q l).any in omega (arith, z, interval);
    then_comes = λ k x y r l p e h n o. let z = then_comes x y (cause x (source m ok x p)) (inr (a_tuple r (copy_tuple m ok ins law k y r l h n).1)) o in omega (arith, z, ge_is);
    comes_then = λ x y k calm q l. let z = then_any x y (inr k) calm (cause y (source m ok y q)) l in omega (arith, z, gt_near);
    apart = λ x y k j l. let z = time.timed.apart x y (inr k) (inr j) l in omega (arith, z, gt_near);
  })

  -- ---- why a copy takes an end, and a tuple

  pub origin : (v k : ℕ) → who_closes m v ≡ Some k → Origin (turns_in m) g1 stride a (by_ticks tick a) v
  origin zero k h = absurd (cc)
  origin (suc x) k h = by (cause x (source m ok x (turn_of (closes_at m x) (old x) k h).0))
    where
      by : Comes x ⊎ Turn m ok x → Origin (turns_in m) g1 stride a (by_ticks tick a) (suc x)
      by (inl q) = record { of = x; comes = q; low = omega arith; high = omega arith; at_once = λ e. (refl, omega (arith, time.near, time.strides)) }
      by (inr q) =
          let z = turn_early q.i q.less in
          let y = q.end in
          record { of = q.u; comes = inr (an_end q.end); low = omega (arith, q.time); high = omega (arith, q.time, z); at_once = λ e. absurd (cc (e, y)) }

  pub caused : (k c : ℕ) (r : Row) → k < count → (ins k).tuple c ≡ Some r → (ins k).ends c ≡ false → (x : ℕ) × (c ≡ suc x) × ((tick x ≡ true) ⊎ Carries a x)
  caused k zero r l h n = absurd (let z = law.no_tuple k l in cc (z, h))
  caused k (suc x) r l h n = (x, refl, inr (a_tuple r (copy_tuple m ok ins law k x r l h n).1))
