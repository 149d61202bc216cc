-- A front of windows schedules the visits of its copies.
use Rattle.std.proofs.Common.{◌≡◌, ℕ, suc, ◌+◌, ◌-◌, ◌*◌, ◌%◌, ◌<◌, ◌≤◌, false, refl, sym, ap, ◌∙◌, arith, inl, inr, mul-le-mul_right}
use Rattle.std.proofs.lemmas.Bool.{cases_lt}
use Rattle.gl_wire.specs.Apart.{Carries, a_tuple, an_end}
use Rattle.gl_wire.specs.Lift.{Visits, Schedules}
use Rattle.gl_windows.specs.Front.{mid, closes, oldest, who_ends}
use Rattle.gl_windows.proofs.Setting.{Setting, Spacing}
use Rattle.gl_windows.proofs.SliceLemmas.{mod_apart}
use Rattle.gl_wire.proofs.NumberLemmas.{mul_below}
use Rattle.gl_algebra.specs.declared.figures.Figures.{Figures}
use Rattle.gl_wire.proofs.TurnLemmas.{turns_schedule}
use Rattle.gl_windows.proofs.CopyLemmas.{within}
use Rattle.gl_windows.proofs.SourceLemmas.{Turn, Source, comes, in_turn, source, tuple_source}

module _ (front : Setting) (time : Spacing front) where
  open front use {size, advance, count, most, stride, a, ins}

  abbrev who : Visits
  who = who_ends size advance count stride a

  turn_early : (i : ℕ) → i < most → i * stride ≤ (most - 1) * stride
  turn_early i l = mul-le-mul_right stride (omega (arith, l))

  abbrev pub old : ℕ → ℕ
  old = oldest size advance count stride a

  -- two causes in one copy are the gap after an end apart, and any two the stride
  pub record Between (x y : ℕ) : Type 0 where
    pub in_one : old x ≡ old y → x + time.gap_end ≤ y
    pub any : x + stride ≤ y

  come_come : (x y : ℕ) → Carries a x → Carries a y → x < y → Between x y
  come_come x y k j l = let z = time.timed.apart x y k j l in record { in_one = λ e. omega (arith, z, time.near); any = omega (arith, z, time.near, time.strides) }

  turn_come : (x y : ℕ) → Turn front x → Carries a y → x < y → Between x y
  turn_come x y k j l =
      let z = time.timed.after k.u y k.end j (omega (arith, k.time, l)) in
      let w = turn_early k.i k.less in
      record { in_one = λ e. omega (arith, z, w, k.time, time.far); any = omega (arith, z, w, k.time, time.far, time.strides) }

  come_turn : (x y : ℕ) → Carries a x → Turn front y → x < y → Between x y
  come_turn x y k j l =
      let w = turn_early j.i j.less in
      elim (cases_lt x j.u) [
        | inl m ↦ (let z = time.timed.apart x j.u k (an_end j.end) m in record { in_one = λ e. omega (arith, z, time.near, j.time); any = omega (arith, z, time.near, time.strides, j.time) })
        | inr m ↦ elim (cases_lt j.u x) [
          | inl n ↦ absurd (let z = time.timed.after j.u x j.end k n in omega (arith, z, w, j.time, time.far, l))
          | inr n ↦
              let e : j.u ≡ x = omega (arith, m, n) in
              let one : 1 * stride ≤ j.i * stride = mul-le-mul_right stride j.once in
              record {
                in_one = λ q.
                    let c = j.copy in
                    let same : old j.u ≡ ((mid size advance count stride a j.u).closed + j.i) % count = ap old e ∙ q ∙ ap (λ z. z % count) c in
                    absurd (mod_apart count (mid size advance count stride a j.u).closed ((mid size advance count stride a j.u).closed + j.i) (omega (arith, j.once)) (omega (arith, j.less, front.enough)) same);
                any = omega (arith, one, j.time, e);
              }
        ]
      ]

  turn_turn : (x y : ℕ) → Turn front x → Turn front y → x < y → Between x y
  turn_turn x y k j l =
      let v = turn_early k.i k.less in
      let w = turn_early j.i j.less in
      elim (cases_lt k.u j.u) [
        | inl m ↦ (let z = time.timed.after k.u j.u k.end (an_end j.end) m in record { in_one = λ e. omega (arith, z, v, time.far, k.time, j.time); any = omega (arith, z, v, time.far, time.strides, k.time, j.time) })
        | inr m ↦ elim (cases_lt j.u k.u) [
          | inl n ↦ absurd (let z = time.timed.after j.u k.u j.end (an_end k.end) n in omega (arith, z, w, j.time, k.time, time.far, l))
          | inr n ↦
              let e : k.u ≡ j.u = omega (arith, m, n) in
              let more : k.i < j.i = mul_below k.i j.i stride (omega (arith, l, k.time, j.time, e)) in
              let one : suc k.i * stride ≤ j.i * stride = mul-le-mul_right stride more in
              let base : ℕ = (mid size advance count stride a k.u).closed in
              let copy_x = k.copy in
              let copy_y : (mid size advance count stride a y).closed ≡ (mid size advance count stride a k.u).closed + j.i = j.copy ∙ ap (λ z. (mid size advance count stride a z).closed + j.i) (sym e) in
              record {
                in_one = λ q.
                    let same : ((mid size advance count stride a k.u).closed + k.i) % count ≡ ((mid size advance count stride a k.u).closed + j.i) % count = ap (λ z. z % count) (sym copy_x) ∙ q ∙ ap (λ z. z % count) copy_y in
                    absurd (mod_apart count ((mid size advance count stride a k.u).closed + k.i) ((mid size advance count stride a k.u).closed + j.i) (omega (arith, more)) (omega (arith, j.less, front.enough)) same);
                any = omega (arith, one, k.time, j.time, e);
              }
        ]
      ]

  pub between : (x y : ℕ) → Source front x → Source front y → x < y → Between x y
  between x y (comes k) (comes j) l = come_come x y k j l
  between x y (comes k) (in_turn j) l = come_turn x y k j l
  between x y (in_turn k) (comes j) l = turn_come x y k j l
  between x y (in_turn k) (in_turn j) l = turn_turn x y k j l

  then_comes : (x y : ℕ) → Source front x → Carries a y → x < y → x + time.gap_end ≤ y
  then_comes x y (comes k) j l = let z = time.timed.apart x y k j l in omega (arith, z, time.near)
  then_comes x y (in_turn k) j l =
      let z = time.timed.after k.u y k.end j (omega (arith, k.time, l)) in
      let w = turn_early k.i k.less in
      omega (arith, z, w, k.time, time.far)

  then_any : (x y : ℕ) → Carries a x → a.ends x ≡ false → Source front y → x < y → x + time.g1 ≤ y
  then_any x y k calm (comes j) l = time.timed.apart x y k j l
  then_any x y k calm (in_turn j) l = elim (cases_lt x j.u) [
    | inl m ↦ (let z = time.timed.apart x j.u k (an_end j.end) m in omega (arith, z, j.time))
    | inr m ↦ elim (cases_lt j.u x) [
      | inl n ↦ absurd (let z = time.timed.after j.u x j.end k n in let w = turn_early j.i j.less in omega (arith, z, w, j.time, time.far, l))
      | inr n ↦ absurd (let e : j.u ≡ x = omega (arith, m, n) in let z = ap a.ends e in let y = j.end in cc (z, y, calm))
    ]
  ]

  pub schedules : (f : Figures) → f.ge ≡ time.gap_end → f.gt ≤ time.g1 → stride ≡ f.le - f.a + 1 → Schedules f count who ins
  schedules f ge_is gt_near interval = turns_schedule f count who (closes size advance count stride a) old a ins (record {
    first = refl;
    next = λ c. refl;
    no_tuple = front.law.no_tuple;
    no_end = front.law.no_end;
    ends = front.law.ends;
    tuples = tuple_source front;
    within = λ c p. within front (mid size advance count stride a c).closed;
    in_one = λ x y p q m e. let z = (between x y (source front x p) (source front y q) m).in_one e in omega (arith, z, ge_is);
    any = λ x y p q m. let z = (between x y (source front x p) (source front y q) m).any in omega (arith, z, interval);
    then_comes = λ k x y r l p e h n m. let z = then_comes x y (source front x p) (a_tuple r (tuple_source front k y r l h n).1) m in omega (arith, z, ge_is);
    comes_then = λ x y k calm q m. let z = then_any x y k calm (source front y q) m in omega (arith, z, gt_near);
    apart = λ x y k j m. let z = time.timed.apart x y k j m in omega (arith, z, gt_near);
  })
