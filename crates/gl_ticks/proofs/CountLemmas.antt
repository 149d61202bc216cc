-- The front of windows of time over one stream: which windows are open in a cycle up to its end, which one a tick ends, and how far apart
-- ticks are by their number.
use Rattle.std.proofs.Common.{◌≡◌, ℕ, zero, suc, ◌+◌, ◌-◌, ◌*◌, ◌<◌, ◌≤◌, ◌⊎◌, Bool, true, false, ◌&&◌, refl, ap, ◌∙◌, subst, arith, inl, inr, mul-le-mul_right}
use Rattle.std.specs.Prelude.{if◌then◌else◌, nat_eq}
use Rattle.std.proofs.lemmas.Bool.{cases_lt, false_from_ne_true, ltb-true, and_parts, or_cases}
use Rattle.gl_bits.proofs.Bools.{or_none}
use Rattle.gl_windows.specs.Ticks.{by_ticks}
use Rattle.gl_windows.specs.TimeFront.{TimeMachine, states, closes_at, idle, lasts, opened_by, turns_in}
use Rattle.gl_windows.proofs.TimeSetting.{IsTimed, ticks_before, ticks_at}
use Rattle.gl_windows.proofs.TimeFlow.{Flowing, flow_start}
use Rattle.gl_windows.proofs.TimeFlush.{Flushes, flow_end}
use Rattle.gl_windows.proofs.TimePhases.{flowing, flushing, quiet_at}
use Rattle.gl_windows.proofs.TimeCounts.{Completed, last, no_more, with_tick, count_open, count_close}

-- one stream at a machine, whose end comes in this cycle, and nothing behind it
pub record IsOnce (m : TimeMachine) (u : ℕ) : Type 0 where
  pub is : m.a.ends u ≡ true
  pub only : (c : ℕ) → m.a.ends c ≡ true → c ≡ u
  pub until : (c : ℕ) → (by_ticks m.tick m.a).comes c → c ≤ u

-- ---- numbers

-- a window that is opened began by now
begun_by : (advance n until q w : ℕ) → n + until + 1 ≡ q * advance → until < advance → w < q → w * advance ≤ n
begun_by advance n until q w to_open less l = let z : suc w * advance ≤ q * advance = mul-le-mul_right advance l in omega (arith, z, to_open, less)

-- a tick that completes a window is its last one
completed_at : (size advance : ℕ) (b : Bool) (n left d more : ℕ) → Completed size advance b n left d more → (b && nat_eq left 0) ≡ true → with_tick b n ≡ d * advance + size
completed_at size advance b n left d more (last t e) h = e
completed_at size advance b n left d more (no_more t) h = absurd (cc (t, h))

-- the ticks from the one that ends a window to the first one of a later window
pub from_end : (advance size n t w v k : ℕ) → size ≤ k * advance → t ≡ w * advance + size → w + k ≤ v → v * advance ≤ n → t + (k * advance - size) ≤ n
from_end advance size n t w v k c e l b = let z : (w + k) * advance ≤ v * advance = mul-le-mul_right advance l in omega (arith, z, e, b, c)

-- what is within a distance is within a longer one
pub as_far : (x y g d : ℕ) → g ≤ d → x + d ≤ y → x + g ≤ y
as_far x y g d l h = omega (arith, l, h)

module _ (m : TimeMachine) (ok : IsTimed m) (u : ℕ) (once : IsOnce m u) where
  open m use {size, advance, count, stride, tick, a}

  calm : (c : ℕ) → c < u → a.ends c ≡ false
  calm c l = false_from_ne_true (a.ends c) (λ e. let z = once.only c e in omega (arith, z, l))

  pub before : (c : ℕ) → c ≤ u → a.ends c ≡ false → c < u
  before c l e = elim (cases_lt c u) [
    | inl n ↦ n
    | inr n ↦ absurd (let same : c ≡ u = omega (arith, l, n) in let z = ap a.ends same in let y = once.is in cc (z, y, e))
  ]

  -- ---- windows

  -- no end comes before: the windows of the stream are all windows
  flows : (c : ℕ) → c ≤ u → Flowing m ok c 0
  flows c l =
      let e : 0 + c ≡ c = omega arith in
      let first : Flowing m ok 0 0 = record { q = 1; d = 0; is = flow_start m ok } in
      subst (λ i. Flowing m ok i 0) e (flowing m ok 0 0 c first (λ x low high. calm x (omega (arith, high, l))))

  -- a window that ends is open
  pub open_at : (c : ℕ) → closes_at m c ≡ true → (states m c).closed < opened_by (tick c) (states m c)
  open_at c p = ltb-true (states m c).closed (opened_by (tick c) (states m c)) (and_parts _ _ p).1

  -- in a cycle up to the end: windows that are open began by now, and without the end a window ends with its last tick
  pub record Counted (c : ℕ) : Type 0 where
    pub begun : (w : ℕ) → w < opened_by (tick c) (states m c) → w * advance ≤ ticks_at m c
    pub due : closes_at m c ≡ true → a.ends c ≡ false → (tick c ≡ true) × (ticks_at m c ≡ (states m c).closed * advance + size)

  pub counted : (c : ℕ) → c ≤ u → Counted c
  counted c l =
      let f = flows c l in
      let x = count_open size advance ok.rows_some ok.step_some (tick c) (ticks_before m c) (states m c).until f.q f.is.until f.is.less in
      let y = count_close size advance ok.rows_some ok.step_some (tick c) (ticks_before m c) (states m c).left f.d f.is.left f.is.near in
      let rest = f.is.rest in
      let none = or_none (tick c && nat_eq (states m c).until 0) in
      let opened : opened_by (tick c) (states m c) ≡ 0 + x.0 = rw (rest, none) (x.1.is 0 (states m c).opened f.is.opened) in
      let same : f.d ≡ (states m c).closed = omega (arith, f.is.closed) in
      record {
        begun = λ w n. begun_by advance (ticks_at m c) _ x.0 w x.1.to_open x.1.less (omega (arith, n, opened));
        due = λ p e. elim (or_cases (a.ends c) _ (and_parts _ _ p).0) [
          | inl z ↦ absurd (cc (z, e))
          | inr z ↦ elim (or_cases (lasts (tick c) (states m c)) _ z) [
            | inl t ↦ ((and_parts (tick c) _ t).0, subst (λ i. ticks_at m c ≡ i * advance + size) same (completed_at size advance (tick c) (ticks_before m c) (states m c).left f.d y.0 y.1.by t))
            | inr t ↦ absurd (let goes = (and_parts (states m c).flush _ (and_parts (idle (tick c) (a.ends c) (a.tuple c) (states m c)) _ t).0).0 in let still = f.is.calm in cc (goes, still))
          ]
        ];
      }

  -- a window that ends in its turn behind the end was open at the end
  pub turn_begun : (c i : ℕ) → closes_at m c ≡ true → c ≡ u + i * stride → 1 ≤ i → i < count → (states m c).closed * advance ≤ ticks_at m u
  turn_begun c i p time some less =
      let f = flows u (omega arith) in
      let g = flow_end m ok u 0 f.q f.d f.is once.is in
      let early : i * stride ≤ turns_in m = mul-le-mul_right stride (omega (arith, less)) in
      let one : 1 * stride ≤ i * stride = mul-le-mul_right stride some in
      let late : u < c = omega (arith, time, one, ok.stride_some) in
      let at : suc u + (c - suc u) ≡ c = omega (arith, late) in
      let b : Flushes m ok c 0 g.q f.d u = subst (λ j. Flushes m ok j 0 g.q f.d u) at (flushing m ok u 0 g.q f.d (c - suc u) g.by (omega (arith, time, early))) in
      let quiet = quiet_at m ok c 0 g.q f.d u b (omega (arith, time, early)) in
      let still : tick c ≡ false = false_from_ne_true (tick c) (λ t. let z = once.until c (inl t) in omega (arith, z, late)) in
      let all : opened_by (tick c) (states m c) ≡ (states m c).opened = rw (still, quiet) refl in
      let there : (states m c).closed < g.q = omega (arith, open_at c p, all, b.is.opened) in
      let z : suc (states m c).closed * advance ≤ g.q * advance = mul-le-mul_right advance there in
      omega (arith, z, g.by.is.reach)

  -- ---- ticks

  one_on : (c : ℕ) → c < u → ticks_at m (suc c) ≡ (if tick (suc c) then suc (ticks_at m c) else ticks_at m c)
  one_on c l = let none = calm c l in rw none refl

  -- the next tick behind a cycle
  record Next (x y : ℕ) : Type 0 where
    at : ℕ
    past : x < at
    within : at ≤ y
    ticks : tick at ≡ true
    one : ticks_at m at ≡ suc (ticks_at m x)

  next_tick : (n x : ℕ) → x + n ≤ u → ticks_at m x < ticks_at m (x + n) → Next x (x + n)
  next_tick zero x l h = absurd (let e : x + zero ≡ x = omega arith in let z = ap (ticks_at m) e in omega (arith, z, h))
  next_tick (suc n) x l h = by (tick (suc x)) refl (next_tick n (suc x) (omega (arith, l)))
    where
      by : (b : Bool) → tick (suc x) ≡ b → (ticks_at m (suc x) < ticks_at m (suc x + n) → Next (suc x) (suc x + n)) → Next x (x + suc n)
      by true t later = record {
        at = suc x;
        past = omega arith;
        within = omega arith;
        ticks = t;
        one = one_on x (omega (arith, l)) ∙ ap (λ (b : Bool). if b then suc (ticks_at m x) else ticks_at m x) t;
      }
      by false t later =
          let same : ticks_at m (suc x) ≡ ticks_at m x = one_on x (omega (arith, l)) ∙ ap (λ (b : Bool). if b then suc (ticks_at m x) else ticks_at m x) t in
          let e : x + suc n ≡ suc x + n = omega arith in
          let z = later (omega (arith, same, h, ap (ticks_at m) e)) in
          record { at = z.at; past = omega (arith, z.past); within = omega (arith, z.within); ticks = z.ticks; one = z.one ∙ ap suc same }

  -- so many ticks on, as many gaps later
  pub spread : (gap : ℕ) → ((x y : ℕ) → tick x ≡ true → ((tick y ≡ true) ⊎ (a.ends y ≡ true)) → x < y → x + gap ≤ y) → (k x y : ℕ) → tick x ≡ true → x ≤ y → y ≤ u
      → ticks_at m x + k ≤ ticks_at m y → x + k * gap ≤ y
  spread gap far zero x y t l e n = omega (arith, l)
  spread gap far (suc k) x y t l e n =
      let whole : x + (y - x) ≡ y = omega (arith, l) in
      let z = next_tick (y - x) x (omega (arith, e, whole)) (omega (arith, n, ap (ticks_at m) whole)) in
      let one = far x z.at t (inl z.ticks) z.past in
      let rest = spread gap far k z.at y z.ticks (omega (arith, z.within, whole)) e (omega (arith, z.one, n)) in
      omega (arith, one, rest)
