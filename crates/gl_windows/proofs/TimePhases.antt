-- What a front of windows of time does in each cycle, stream after stream: behind the flush of each end the windows of all streams so far ended,
-- and there are always copies enough.
use Rattle.std.proofs.Common.{◌≡◌, ℕ, zero, suc, ◌+◌, ◌*◌, ◌<◌, ◌≤◌, None, Bool, true, false, refl, ◌∙◌, subst, sym, arith, inl, inr}
use Rattle.std.specs.Prelude.{nat_eq, nat_lt}
use Rattle.std.proofs.lemmas.Bool.{eqb-true, eq-eqb, ne_eqb, ltb-true, and_from, and_parts, and_right, or_cases}
use Rattle.std.proofs.lemmas.List.{append-nil}
use Rattle.gl_wire.specs.Apart.{an_end}
use Rattle.gl_windows.specs.Taking.{visited, parts_before}
use Rattle.gl_windows.specs.TimeFront.{TimeMachine, states, closes, closes_at, idle, lasts, opened_by, reopens, turns_in}
use Rattle.gl_windows.proofs.TimeSetting.{IsTimed}
use Rattle.gl_windows.proofs.TimeTakes.{none_ends, turn_ends}
use Rattle.gl_windows.proofs.TimeFlow.{Flow, Flowing, flow_next, flow_start}
use Rattle.gl_windows.proofs.TimeFlush.{Flushes, Flushed, flow_end, flow_room}
use Rattle.gl_windows.proofs.TimeTurns.{all_ended, ends_as, flow_again, flush_next, no_tick, silent}

module _ (m : TimeMachine) (ok : IsTimed m) where
  open m use {count, stride, tick, a}

  -- ---- at every cycle

  pub data Phase (c : ℕ) : Type 0 where
    flows : (base : ℕ) → Flowing m ok c base → Phase c
    flushes : (base q d u : ℕ) → Flushes m ok c base q d u → Phase c

  from_end : (c base : ℕ) → (f : Flowing m ok c base) → a.ends c ≡ true → Flushed m ok (suc c) base f.d c
  from_end c base f p = flow_end m ok c base f.q f.d f.is p

  pub again : (c base q d u : ℕ) → (f : Flushes m ok c base q d u) → reopens (states m c) ≡ true → Flowing m ok (suc c) (base + q)
  again c base q d u f now = record { q = 1; d = 0; is = flow_again m ok c base q d f.e f.i u f.is now }

  pub on_flush : (c base q d u : ℕ) → (f : Flushes m ok c base q d u) → reopens (states m c) ≡ false → Flushes m ok (suc c) base q d u
  on_flush c base q d u f quiet = flush_next m ok c base q d f.e f.i u f.is quiet

  phase_next : (c : ℕ) → Phase c → Phase (suc c)
  phase_next c (flows base f) = by (a.ends c) refl
    where
      by : (b : Bool) → a.ends c ≡ b → Phase (suc c)
      by true p = let x = from_end c base f p in flushes base x.q f.d c x.by
      by false p = flows base (flow_next m ok c base f.q f.d f.is p)
  phase_next c (flushes base q d u f) = by (reopens (states m c)) refl
    where
      by : (b : Bool) → reopens (states m c) ≡ b → Phase (suc c)
      by true now = flows (base + q) (again c base q d u f now)
      by false quiet = flushes base q d u (on_flush c base q d u f quiet)

  pub phase : (c : ℕ) → Phase c
  phase zero = flows 0 (record { q = 1; d = 0; is = flow_start m ok })
  phase (suc c) = phase_next c (phase c)

  -- a stream that flows, from one cycle to a later one with no end before it
  pub flowing : (base c n : ℕ) → Flowing m ok c base → ((x : ℕ) → c ≤ x → x < c + n → a.ends x ≡ false) → Flowing m ok (c + n) base
  flowing base c zero f h = let e : c ≡ c + zero = omega arith in subst (λ i. Flowing m ok i base) e f
  flowing base c (suc n) f h =
      let e : suc (c + n) ≡ c + suc n = omega arith in
      let g = flowing base c n f (λ x l k. h x l (omega (arith, k))) in
      subst (λ i. Flowing m ok i base) e (flow_next m ok (c + n) base g.q g.d g.is (h (c + n) (omega arith) (omega arith)))

  -- ---- behind an end

  -- a cycle with the end, whatever came before
  pub record Ended (u : ℕ) : Type 0 where
    pub base : ℕ
    pub d : ℕ
    pub q : ℕ
    pub by : Flushes m ok (suc u) base q d u

  pub ended : (u : ℕ) → a.ends u ≡ true → Ended u
  ended u p = by (phase u)
    where
      by : Phase u → Ended u
      by (flows base f) = let x = from_end u base f p in record { base = base; d = f.d; q = x.q; by = x.by }
      by (flushes base q d v f) = absurd (silent m ok u base q d f.e f.i v f.is (inr (an_end p)))

  pub quiet_at : (c base q d u : ℕ) → (f : Flushes m ok c base q d u) → c < u + turns_in m + 1 → reopens (states m c) ≡ false
  quiet_at c base q d u f l = and_right _ _ (ne_eqb (states m c).timer.left_over 0 (λ e. omega (arith, e, f.is.fire, l)))

  pub fires_at : (c base q d u : ℕ) → (f : Flushes m ok c base q d u) → c ≡ u + turns_in m + 1 → reopens (states m c) ≡ true
  fires_at c base q d u f l = and_from _ _ f.is.on (eq-eqb (states m c).timer.left_over 0 (omega (arith, f.is.fire, l)))

  pub flushing : (u base q d n : ℕ) → Flushes m ok (suc u) base q d u → n ≤ turns_in m → Flushes m ok (suc u + n) base q d u
  flushing u base q d zero f l = let e : suc u ≡ suc u + zero = omega arith in subst (λ i. Flushes m ok i base q d u) e f
  flushing u base q d (suc n) f l =
      let e : suc (suc u + n) ≡ suc u + suc n = omega arith in
      let g = flushing u base q d n f (omega (arith, l)) in
      subst (λ i. Flushes m ok i base q d u) e (on_flush (suc u + n) base q d u g (quiet_at (suc u + n) base q d u g (omega (arith, l))))

  -- behind the last turn all windows have ended
  pub at_last : (u base q d : ℕ) → Flushes m ok (suc u) base q d u → Flushes m ok (suc u + turns_in m) base q d u
  at_last u base q d f = flushing u base q d (turns_in m) f (omega arith)

  pub none_left : (u base q d : ℕ) (f : Flushes m ok (suc u) base q d u) → (states m (suc u + turns_in m)).closed ≡ (states m (suc u + turns_in m)).opened
  none_left u base q d f =
      let g = at_last u base q d f in
      let e = all_ended m ok (suc u + turns_in m) base q d g.e g.i u g.is (omega arith) in
      omega (arith, e, g.is.opened, g.is.closed)

  pub flows_again : (u base q d : ℕ) → Flushes m ok (suc u) base q d u → Flow m ok (u + turns_in m + 2) (base + q) 1 0
  flows_again u base q d f =
      let g = at_last u base q d f in
      let e : suc (suc u + turns_in m) ≡ u + turns_in m + 2 = omega arith in
      subst (λ i. Flow m ok i (base + q) 1 0) e
      (flow_again m ok (suc u + turns_in m) base q d g.e g.i u g.is (fires_at (suc u + turns_in m) base q d u g (omega arith)))

  -- the visits of all streams that ended so far, in order
  pub all_visited : (u : ℕ) → a.ends u ≡ true → visited m (u + turns_in m + 2) ≡ parts_before m (u + turns_in m + 2)
  all_visited u p =
      let x = ended u p in
      let f = flows_again u x.base x.q x.d x.by in
      f.done ∙ append-nil (parts_before m (u + turns_in m + 2))

  -- ---- copies enough

  flush_room : (c base q d u : ℕ) → Flushes m ok c base q d u → opened_by (tick c) (states m c) ≤ (states m c).closed + count
  flush_room c base q d u f = by (reopens (states m c)) refl
    where
      calm : tick c ≡ false
      calm = no_tick m ok c base q d f.e f.i u f.is

      by : (b : Bool) → reopens (states m c) ≡ b → opened_by (tick c) (states m c) ≤ (states m c).closed + count
      by true now =
          let e = all_ended m ok c base q d f.e f.i u f.is (omega (arith, f.is.fire, eqb-true (states m c).timer.left_over 0 (and_parts (states m c).timer.on _ now).1)) in
          rw (calm, now) (omega (arith, e, f.is.opened, f.is.closed, ok.copies_some))
      by false quiet = rw (calm, quiet) (omega (arith, f.is.opened, f.is.closed, f.is.few, f.is.low))

  pub room : (c : ℕ) → opened_by (tick c) (states m c) ≤ (states m c).closed + count
  room c = by (phase c)
    where
      by : Phase c → opened_by (tick c) (states m c) ≤ (states m c).closed + count
      by (flows base f) = flow_room m ok c base f.q f.d f.is
      by (flushes base q d u f) = flush_room c base q d u f

  -- ---- why a window ends

  -- in the flush that began at this end, the window whose turn it is
  pub record Turn (c : ℕ) : Type 0 where
    pub u : ℕ
    pub i : ℕ
    pub end : a.ends u ≡ true
    pub time : c ≡ u + i * stride
    pub once : 1 ≤ i
    pub less : i < count
    pub window : (states m c).closed ≡ (states m u).closed + i

  pub data Source (c : ℕ) : Type 0 where
    with_end : a.ends c ≡ true → Source c
    with_tick : tick c ≡ true → Source c
    in_turn : Turn c → Source c

  flow_source : (c base : ℕ) → Flowing m ok c base → closes_at m c ≡ true → Source c
  flow_source c base f p = elim (or_cases (a.ends c) _ (and_parts _ _ p).0) [
    | inl e ↦ with_end e
    | inr x ↦ elim (or_cases (lasts (tick c) (states m c)) _ x) [
      | inl t ↦ with_tick (and_parts (tick c) _ t).0
      | inr t ↦ absurd (let goes = (and_parts (states m c).flush _ (and_parts (idle (tick c) (a.ends c) (a.tuple c) (states m c)) _ t).0).0 in let calm = f.is.calm in cc (goes, calm))
    ]
  ]

  flush_source : (c base q d u : ℕ) → Flushes m ok c base q d u → closes_at m c ≡ true → Source c
  flush_source c base q d u f p = by (reopens (states m c)) refl
    where
      same : closes_at m c ≡ closes false false None (states m c)
      same = ends_as m ok c base q d f.e f.i u f.is

      by : (b : Bool) → reopens (states m c) ≡ b → Source c
      by true now = absurd (let none = none_ends (states m c) now in cc (none, same, p))
      by false quiet =
          let x = and_parts (nat_eq (states m c).wait 0) (nat_lt (states m c).closed (states m c).opened) (sym (same ∙ turn_ends (states m c) f.is.flush quiet) ∙ p) in
          let none : (states m c).wait ≡ 0 = eqb-true (states m c).wait 0 x.0 in
          let less : (states m c).closed < (states m c).opened = ltb-true (states m c).closed (states m c).opened x.1 in
          let there : f.e < q = omega (arith, less, f.is.opened, f.is.closed) in
          in_turn (record {
            u = u;
            i = f.i;
            end = f.is.end;
            time = omega (arith, f.is.time, none);
            once = f.is.once;
            less = omega (arith, f.is.turn there, there, f.is.few);
            window = omega (arith, f.is.closed, f.is.begun, f.is.turn there);
          })

  pub source : (c : ℕ) → closes_at m c ≡ true → Source c
  source c p = by (phase c)
    where
      by : Phase c → Source c
      by (flows base f) = flow_source c base f p
      by (flushes base q d u f) = flush_source c base q d u f p
