-- The front of windows of time behind the end of a stream: the windows that are open end one after another, and then the next stream's first
-- one opens.
use Rattle.std.proofs.Common.{◌≡◌, ℕ, suc, ◌+◌, ◌-◌, ◌*◌, ◌<◌, ◌≤◌, List, [], ◌∷◌, ◌++◌, Option, None, Bool, true, false, ◌&&◌, refl, sym, ap, ◌∙◌, arith, inl, inr}
use Rattle.std.specs.Prelude.{if◌then◌else◌, nat_le, nat_lt, nat_eq, option_to_list}
use Rattle.std.proofs.lemmas.Bool.{cases_lt, eq-eqb, ne_eqb, lt-ltb, le-ltb, le-leb, and_from, and_right}
use Rattle.std.proofs.lemmas.List.{append-nil, append_assoc}
use Rattle.gl_values.specs.Results.{Row}
use Rattle.gl_values.specs.Times.{tpart, tfirsts}
use Rattle.gl_bits.proofs.Bools.{or_none}
use Rattle.gl_wire.specs.Wire.{pending, stream}
use Rattle.gl_windows.specs.Taking.{content, visited, parts_before}
use Rattle.gl_windows.specs.TimeFront.{TimeFront, TimeMachine, states, closes, closes_at, taken, opened_by, turns_in}
use Rattle.gl_windows.proofs.TimeSetting.{IsTimed, ticks_before, ticks_at, times_before, times_at}
use Rattle.gl_windows.proofs.TimeOpen.{closed_is_past, few_open, in_order, open_is_in}
use Rattle.gl_windows.proofs.TimeCounts.{Opened, Closed, Completed, last, no_more, count_open, count_close, completed_open}
use Rattle.gl_windows.proofs.MachineLemmas.{if_same}
use Rattle.gl_windows.proofs.TimeFlow.{Flow, grown, kept, over_low}

module _ (m : TimeMachine) (ok : IsTimed m) where
  open m use {size, advance, count, stride, tick, a}

  -- a window of the stream that ends in a cycle
  abbrev pub part_at : ℕ → ℕ → List Row
  part_at u j = tpart (j * advance) size (times_at m u) (stream a u)

  abbrev pub first_parts : ℕ → ℕ → List (List Row)
  first_parts u n = tfirsts size advance n (times_at m u) (stream a u)

  -- behind an end of cycle u: q windows of its stream were opened, d were completed before that cycle, and by now e have ended; the next turn is
  -- the i-th
  pub record Flushing (c base q d e i u : ℕ) : Type 0 where
    pub end : a.ends u ≡ true
    pub past : u < c
    pub begun : (states m u).closed ≡ base + d
    pub reach : q * advance ≤ ticks_at m u + advance
    pub full : ticks_at m u < q * advance
    pub few : q ≤ d + count
    pub opened : (states m c).opened ≡ base + q
    pub closed : (states m c).closed ≡ base + e
    pub low : d ≤ e
    pub high : e ≤ q
    pub turn : e < q → e ≡ d + i
    pub once : 1 ≤ i
    pub time : c + (states m c).wait ≡ u + i * stride
    pub small : (states m c).wait < stride
    pub flush : (states m c).flush ≡ true
    pub on : (states m c).timer.on ≡ true
    pub fire : c + (states m c).timer.left_over ≡ u + turns_in m + 1
    pub until : (states m c).until ≡ advance - 1
    pub left : (states m c).left ≡ size - 1
    pub held : (states m c).held ≡ a.tuple u
    pub holds : (j : ℕ) → e ≤ j → j < q → content m c (base + j) ++ option_to_list (a.tuple u) ≡ part_at u j
    pub done : visited m c ≡ parts_before m u ++ first_parts u e
    pub parts : parts_before m c ≡ parts_before m (suc u)
    pub no_ticks : ticks_before m c ≡ 0
    pub no_times : times_before m c ≡ []
    pub empty : pending a c ≡ []

  pub record Flushes (c base q d u : ℕ) : Type 0 where
    pub e : ℕ
    pub i : ℕ
    pub is : Flushing c base q d e i u

  pub record Flushed (c base d u : ℕ) : Type 0 where
    pub q : ℕ
    pub by : Flushes c base q d u

  -- ---- the end

  module _ (c base q d : ℕ) (h : Flow m ok c base q d) where
    abbrev s : TimeFront
    s = states m c

    x : (more : ℕ) × Opened advance (tick c) (ticks_before m c) s.until q more
    x = count_open size advance ok.rows_some ok.step_some (tick c) (ticks_before m c) s.until q h.until h.less

    y : (more : ℕ) × Closed size advance (tick c) (ticks_before m c) s.left d more
    y = count_close size advance ok.rows_some ok.step_some (tick c) (ticks_before m c) s.left d h.left h.near

    opened_now : opened_by (tick c) s ≡ base + x.0
    opened_now = let rest = h.rest in let none = or_none (tick c && nat_eq s.until 0) in rw (rest, none) (x.1.is base s.opened h.opened)

    few_now : x.0 ≤ d + count
    few_now = few_open size advance x.0 d (ticks_at m c) _ count x.1.to_open x.1.less (soon (tick c) h.left) ok.cover
      where
        soon : (b : Bool) → ticks_before m c + s.left + 1 ≡ d * advance + size → (if b then suc (ticks_before m c) else ticks_before m c) ≤ d * advance + size
        soon true e = omega (arith, e)
        soon false e = omega (arith, e)

    -- there are copies enough
    pub flow_room : opened_by (tick c) s ≤ s.closed + count
    flow_room = omega (arith, opened_now, few_now, h.closed)

    module _ (p : a.ends c ≡ true) where
      ends_one : closes_at m c ≡ nat_lt s.closed (opened_by (tick c) s)
      ends_one = ap (λ (e : Bool). closes (tick c) e (a.tuple c) s) p

      -- what a window has with the tuple that came with the end, where it is in it
      with_tuple : (j : ℕ) (z : Bool) → (nat_le (j * advance) (ticks_at m c) && nat_lt (ticks_at m c) (j * advance + size)) ≡ z → content m c (base + j) ++ option_to_list (if z then a.tuple c else None) ≡ part_at c j
      with_tuple j z t =
          ap (λ (xs : List Row). xs ++ option_to_list (if z then a.tuple c else None)) (h.holds j)
          ∙ ap (λ (b : Bool). tpart (j * advance) size (times_before m c) (pending a c) ++ option_to_list (if b then a.tuple c else None)) (sym t)
          ∙ sym (grown (j * advance) size (ticks_at m c) (times_before m c) (pending a c) h.alike (a.tuple c))

      more_rows : (w : ℕ) (o : Option Row) → taken (tick c) true (a.tuple c) s w ≡ o → content m (suc c) w ≡ content m c w ++ option_to_list o
      more_rows w o t = rw p (ap (λ (z : Option Row). content m c w ++ option_to_list z) t)

      old : visited m c ≡ parts_before m c ++ first_parts c d
      old =
          let low = over_low size advance d y.0 (ticks_before m c) s.left (tick c) y.1.by in
          let f = kept size advance d (ticks_at m c) (times_before m c) (pending a c) h.alike
          (λ j l. closed_is_past size advance x.0 y.0 (ticks_at m c) _ _ ok.step_some x.1.to_open x.1.less y.1.to_close y.1.near j (omega (arith, l, low))) (a.tuple c) in
          h.done ∙ ap (λ (z : List (List Row)). parts_before m c ++ z) (sym f)

      order : y.0 ≤ x.0
      order = in_order size advance x.0 y.0 (ticks_at m c) _ _ ok.step_some x.1.to_open x.1.less y.1.to_close y.1.near

      -- the cycle behind the end, where this window is the oldest one then
      entered : (e : ℕ) → d ≤ e → e ≤ x.0 → (e < x.0 → e ≡ d + 1) → (states m (suc c)).closed ≡ base + e
          → ((j : ℕ) → e ≤ j → j < x.0 → content m (suc c) (base + j) ++ option_to_list (a.tuple c) ≡ part_at c j)
          → visited m (suc c) ≡ parts_before m c ++ first_parts c e → Flushing (suc c) base x.0 d e 1 c
      entered e low high turn closed holds done = record {
        end = p;
        past = omega arith;
        begun = h.closed;
        reach = omega (arith, x.1.to_open, x.1.less);
        full = omega (arith, x.1.to_open);
        few = few_now;
        opened = opened_now;
        closed = closed;
        low = low;
        high = high;
        turn = turn;
        once = omega arith;
        time = rw p (omega (arith, ok.stride_some));
        small = rw p (omega (arith, ok.stride_some));
        flush = rw p refl;
        on = rw p refl;
        fire = rw p (omega arith);
        until = rw p refl;
        left = rw p refl;
        held = rw p refl;
        holds = holds;
        done = done;
        parts = refl;
        no_ticks = rw p refl;
        no_times = rw p refl;
        empty = rw p refl;
      }

      -- an open window that does not end takes nothing
      waits : (j : ℕ) → (nat_lt s.closed (opened_by (tick c) s) && nat_eq (base + j) s.closed) ≡ false → y.0 ≤ j → j < x.0 → content m (suc c) (base + j) ++ option_to_list (a.tuple c) ≡ part_at c j
      waits j stays l n =
          let nothing : Option Row = None in
          let t : taken (tick c) true (a.tuple c) s (base + j) ≡ nothing =
          ap (λ (b : Bool). if nat_le s.closed (base + j) && nat_lt (base + j) (opened_by (tick c) s) then (if b then (if tick c && nat_eq s.left 0 then None else a.tuple c) else nothing) else nothing) stays
          ∙ if_same (nat_le s.closed (base + j) && nat_lt (base + j) (opened_by (tick c) s)) nothing in
          let r : (nat_le y.0 j && nat_lt j x.0) ≡ true = and_from _ _ (le-leb y.0 j l) (lt-ltb j x.0 n) in
          let o = open_is_in size advance x.0 y.0 (ticks_at m c) _ _ ok.step_some x.1.to_open x.1.less y.1.to_close y.1.near j in
          ap (λ (xs : List Row). xs ++ option_to_list (a.tuple c)) (more_rows (base + j) None t ∙ append-nil (content m c (base + j))) ∙ with_tuple j true (sym o ∙ r)

      -- the oldest window ends, with what it takes
      one_ends : (z : Bool) → d < x.0 → (nat_le (d * advance) (ticks_at m c) && nat_lt (ticks_at m c) (d * advance + size)) ≡ z → (if tick c && nat_eq s.left 0 then None else a.tuple c) ≡ (if z then a.tuple c else None)
          → y.0 ≤ suc d → Flushing (suc c) base x.0 d (suc d) 1 c
      one_ends z there inside takes near =
          let open_there : nat_lt s.closed (opened_by (tick c) s) ≡ true = lt-ltb s.closed (opened_by (tick c) s) (omega (arith, opened_now, h.closed, there)) in
          let here : nat_le s.closed s.closed ≡ true = le-leb s.closed s.closed (omega arith) in
          let same : nat_eq s.closed s.closed ≡ true = eq-eqb s.closed s.closed refl in
          let t : taken (tick c) true (a.tuple c) s s.closed ≡ (if z then a.tuple c else None) = rw (here, open_there, same) takes in
          let rows : content m (suc c) s.closed ≡ part_at c d = more_rows s.closed _ t ∙ ap (λ (w : ℕ). content m c w ++ option_to_list (if z then a.tuple c else None)) h.closed ∙ with_tuple d z inside in
          let now : closes_at m c ≡ true = ends_one ∙ open_there in
          entered (suc d) (omega arith) (omega (arith, there)) (λ l. omega arith)
          (ap (λ (b : Bool). if b then suc s.closed else s.closed) now ∙ omega (arith, h.closed))
          (λ j l n. waits j (and_right _ _ (ne_eqb (base + j) s.closed (λ e. omega (arith, e, h.closed, l)))) (omega (arith, near, l)) n)
          (ap (λ (b : Bool). visited m c ++ (if b then content m (suc c) s.closed ∷ [] else [])) now
          ∙ ap (λ (xs : List Row). visited m c ++ xs ∷ []) rows
          ∙ ap (λ (ps : List (List Row)). ps ++ part_at c d ∷ []) old
          ∙ append_assoc (parts_before m c) (first_parts c d) (part_at c d ∷ []))

      -- none is open
      none_open : x.0 ≤ d → d ≤ x.0 → y.0 ≡ d → Flushing (suc c) base x.0 d d 1 c
      none_open l n e =
          let none : nat_lt s.closed (opened_by (tick c) s) ≡ false = le-ltb s.closed (opened_by (tick c) s) (omega (arith, opened_now, h.closed, l)) in
          let now : closes_at m c ≡ false = ends_one ∙ none in
          entered d (omega arith) n (λ k. absurd (omega (arith, k, l)))
          (ap (λ (b : Bool). if b then suc s.closed else s.closed) now ∙ h.closed)
          (λ j k r. absurd (omega (arith, k, r, l)))
          (ap (λ (b : Bool). visited m c ++ (if b then content m (suc c) s.closed ∷ [] else [])) now ∙ append-nil (visited m c) ∙ old)

      pub flow_end : Flushed (suc c) base d c
      flow_end = record { q = x.0; by = by y.0 refl y.1.by }
        where
          by : (over : ℕ) → y.0 ≡ over → Completed size advance (tick c) (ticks_before m c) s.left d over → Flushes (suc c) base x.0 d c
          by over e (last t n) =
              let there : d < x.0 = completed_open size advance ok.rows_some ok.step_some _ _ x.0 d x.1.to_open n in
              let past = closed_is_past size advance x.0 y.0 (ticks_at m c) _ _ ok.step_some x.1.to_open x.1.less y.1.to_close y.1.near d (omega (arith, e)) in
              record { e = suc d; i = 1; is = one_ends false there past (ap (λ (b : Bool). if b then None else a.tuple c) t) (omega (arith, e)) }
          by over e (no_more t) = elim (cases_lt d x.0) [
            | inl there ↦
                let r : (nat_le y.0 d && nat_lt d x.0) ≡ true = and_from _ _ (le-leb y.0 d (omega (arith, e))) (lt-ltb d x.0 there) in
                let o = open_is_in size advance x.0 y.0 (ticks_at m c) _ _ ok.step_some x.1.to_open x.1.less y.1.to_close y.1.near d in
                record { e = suc d; i = 1; is = one_ends true there (sym o ∙ r) (ap (λ (b : Bool). if b then None else a.tuple c) t) (omega (arith, e)) }
            | inr l ↦ record { e = d; i = 1; is = none_open l (omega (arith, order, e)) e }
          ]
