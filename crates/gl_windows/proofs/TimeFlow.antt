-- The front of windows of time while a stream comes: each window has taken the tuples whose times are in it.
use Rattle.std.proofs.Common.{◌≡◌, ℕ, zero, suc, ◌+◌, ◌*◌, ◌<◌, ◌≤◌, List, [], ◌∷◌, ◌++◌, length, Option, Some, None, Bool, true, false, ◌&&◌, refl, sym, ap, ◌∙◌, arith, length-append}
use Rattle.std.specs.Prelude.{if◌then◌else◌, nat_le, nat_lt, nat_eq, option_to_list}
use Rattle.std.proofs.lemmas.Bool.{and_right, le-ltb}
use Rattle.std.proofs.lemmas.List.{append-nil, append_assoc}
use Rattle.gl_values.specs.Results.{Row}
use Rattle.gl_values.specs.Times.{tpart, tfirsts}
use Rattle.gl_bits.proofs.Bools.{or_none}
use Rattle.gl_values.proofs.Timing.{tpart-more}
use Rattle.gl_wire.specs.Wire.{pending}
use Rattle.gl_windows.specs.Taking.{content, visited, parts_before}
use Rattle.gl_wire.specs.Ticks.{times_of}
use Rattle.gl_windows.specs.TimeFront.{TimeMachine, states, closes, taken, opened_by, opens, last_row, open_row}
use Rattle.gl_windows.proofs.TimeSetting.{IsTimed, ticks_before, ticks_at, times_before}
use Rattle.gl_windows.proofs.TimeSlices.{tfirsts-more}
use Rattle.gl_windows.proofs.TimeOpen.{open_is_in, closed_is_past}
use Rattle.gl_windows.proofs.TimeCounts.{Opened, Completed, last, no_more, count_open, count_close, completed_open}
use Rattle.gl_windows.proofs.MachineLemmas.{if_same}
use Rattle.gl_windows.proofs.TimeTakes.{ends_completed, takes}

pub grown : (from size n : ℕ) (ts : List ℕ) (xs : List Row) → length ts ≡ length xs → (o : Option Row)
    → tpart from size (ts ++ times_of o n) (xs ++ option_to_list o) ≡ tpart from size ts xs ++ option_to_list (if nat_le from n && nat_lt n (from + size) then o else None)
grown from size n ts xs h None =
    let x = append-nil ts in let y = append-nil xs in let nothing : Option Row = None in let z = if_same (nat_le from n && nat_lt n (from + size)) nothing in
    rw (x, y, z) (sym (append-nil _))
grown from size n ts xs h (Some r) = tpart-more from size n ts r xs h ∙ by (nat_le from n && nat_lt n (from + size))
  where
    by : (b : Bool) → tpart from size ts xs ++ (if b then r ∷ [] else []) ≡ tpart from size ts xs ++ option_to_list (if b then Some r else None)
    by true = refl
    by false = refl

alike_more : (n : ℕ) (ts : List ℕ) (xs : List Row) → length ts ≡ length xs → (o : Option Row) → length (ts ++ times_of o n) ≡ length (xs ++ option_to_list o)
alike_more n ts xs h None = let x = append-nil ts in let y = append-nil xs in rw (x, y) h
alike_more n ts xs h (Some r) = omega (arith, h, length-append ts (n ∷ []), length-append xs (r ∷ []))

pub kept : (size advance d n : ℕ) (ts : List ℕ) (xs : List Row) → length ts ≡ length xs → ((j : ℕ) → j < d → (nat_le (j * advance) n && nat_lt n (j * advance + size)) ≡ false) → (o : Option Row)
    → tfirsts size advance d (ts ++ times_of o n) (xs ++ option_to_list o) ≡ tfirsts size advance d ts xs
kept size advance d n ts xs h out None = let x = append-nil ts in let y = append-nil xs in rw (x, y) refl
kept size advance d n ts xs h out (Some r) = tfirsts-more size advance d n ts r xs h out

-- the visits so far, where a window is completed or none
visits_more : (size advance d e n l : ℕ) (b : Bool) (ts : List ℕ) (xs : List Row) (parts : List (List Row)) (c : List Row) → c ≡ tpart (d * advance) size ts xs → Completed size advance b n l d e
    → (parts ++ tfirsts size advance d ts xs) ++ (if b && nat_eq l 0 then c ∷ [] else []) ≡ (parts ++ []) ++ tfirsts size advance e ts xs
visits_more size advance d e n l b ts xs parts c h (last t k) =
    let z = append-nil parts in rw (t, h, z) (append_assoc parts (tfirsts size advance d ts xs) (tpart (d * advance) size ts xs ∷ []))
visits_more size advance d e n l b ts xs parts c h (no_more t) = let z = append-nil parts in rw (t, z) (append-nil _)

pub over_low : (size advance d e n l : ℕ) (b : Bool) → Completed size advance b n l d e → d ≤ e
over_low size advance d e n l b (last t k) = omega arith
over_low size advance d e n l b (no_more t) = omega arith

module _ (m : TimeMachine) (ok : IsTimed m) where
  open m use {size, advance, tick, a}

  -- q windows of the stream are opened and d completed
  pub record Flow (c base q d : ℕ) : Type 0 where
    pub opened : (states m c).opened ≡ base + q
    pub closed : (states m c).closed ≡ base + d
    pub until : ticks_before m c + (states m c).until + 1 ≡ q * advance
    pub less : (states m c).until < advance
    pub left : ticks_before m c + (states m c).left + 1 ≡ d * advance + size
    pub near : 1 ≤ d → (states m c).left < advance
    pub calm : (states m c).flush ≡ false
    pub rest : (states m c).timer.on ≡ false
    pub alike : length (times_before m c) ≡ length (pending a c)
    pub holds : (j : ℕ) → content m c (base + j) ≡ tpart (j * advance) size (times_before m c) (pending a c)
    pub done : visited m c ≡ parts_before m c ++ tfirsts size advance d (times_before m c) (pending a c)

  pub record Flowing (c base : ℕ) : Type 0 where
    pub q : ℕ
    pub d : ℕ
    pub is : Flow c base q d

  -- a cycle without the end
  pub flow_next : (c base q d : ℕ) → Flow c base q d → a.ends c ≡ false → Flowing (suc c) base
  flow_next c base q d h p =
      let x = count_open size advance ok.rows_some ok.step_some (tick c) (ticks_before m c) (states m c).until q h.until h.less in
      let y = count_close size advance ok.rows_some ok.step_some (tick c) (ticks_before m c) (states m c).left d h.left h.near in
      let rest = h.rest in
      let none = or_none (tick c && nat_eq (states m c).until 0) in
      let opened : opened_by (tick c) (states m c) ≡ base + x.0 = rw (rest, none) (x.1.is base (states m c).opened h.opened) in
      let there : (tick c && nat_eq (states m c).left 0) ≡ true → d < x.0 = λ t. open_there (tick c) (states m c).left x.0 y.0 x.1 y.1.by t in
      let holds : (j : ℕ) → content m c (base + j) ++ option_to_list (taken (tick c) false (a.tuple c) (states m c) (base + j)) ≡ tpart (j * advance) size (times_before m c ++ times_of (a.tuple c) (ticks_at m c)) (pending a c ++ option_to_list (a.tuple c)) = λ j. (
      let t = takes (tick c) (a.tuple c) (states m c) base x.0 d (ticks_before m c) size advance h.calm h.closed opened y.0 y.1.by there j in
      let o = open_is_in size advance x.0 y.0 (ticks_at m c) _ _ ok.step_some x.1.to_open x.1.less y.1.to_close y.1.near j in
      let g = grown (j * advance) size (ticks_at m c) (times_before m c) (pending a c) h.alike (a.tuple c) in
      let k = h.holds j in
      rw (t, o, k) (sym g)) in
      record {
        q = x.0;
        d = y.0;
        is = record {
          opened = opened;
          closed = rw (p, ends_completed (tick c) (a.tuple c) (states m c) base x.0 d (ticks_before m c) size advance h.calm h.closed opened y.0 y.1.by there) (one_closed (tick c) (states m c).left y.0 y.1.by);
          until = rw p x.1.to_open;
          less = rw p x.1.less;
          left = rw p y.1.to_close;
          near = rw p y.1.near;
          calm = (let calm = h.calm in rw (p, calm) refl);
          rest = rw (p, rest) refl;
          alike = rw p (alike_more (ticks_at m c) (times_before m c) (pending a c) h.alike (a.tuple c));
          holds = λ j. rw p (holds j);
          done = (
              let low = over_low size advance d y.0 (ticks_before m c) (states m c).left (tick c) y.1.by in
              let f = kept size advance d (ticks_at m c) (times_before m c) (pending a c) h.alike (λ j l. closed_is_past size advance x.0 y.0 (ticks_at m c) _ _ ok.step_some x.1.to_open x.1.less y.1.to_close y.1.near j (omega (arith, l, low))) (a.tuple c) in
              let v = visits_more size advance d y.0 (ticks_before m c) (states m c).left (tick c) (times_before m c ++ times_of (a.tuple c) (ticks_at m c)) (pending a c ++ option_to_list (a.tuple c)) (parts_before m c)
              (content m c (states m c).closed ++ option_to_list (taken (tick c) false (a.tuple c) (states m c) (states m c).closed))
              (ap (λ w. content m c w ++ option_to_list (taken (tick c) false (a.tuple c) (states m c) w)) h.closed ∙ holds d) y.1.by in
              let w = ends_completed (tick c) (a.tuple c) (states m c) base x.0 d (ticks_before m c) size advance h.calm h.closed opened y.0 y.1.by there in
              let old : visited m c ≡ parts_before m c ++ tfirsts size advance d (times_before m c ++ times_of (a.tuple c) (ticks_at m c)) (pending a c ++ option_to_list (a.tuple c)) = h.done ∙ ap (λ z. parts_before m c ++ z) (sym f) in
              ap (λ z. z ++ (if closes (tick c) (a.ends c) (a.tuple c) (states m c) then content m (suc c) (states m c).closed ∷ [] else [])) old ∙ (rw p (ap (λ z. (parts_before m c ++ tfirsts size advance d (times_before m c ++ times_of (a.tuple c) (ticks_at m c)) (pending a c ++ option_to_list (a.tuple c))) ++ (if z then (content m c (states m c).closed ++ option_to_list (taken (tick c) false (a.tuple c) (states m c) (states m c).closed)) ∷ [] else [])) w ∙ v)));
        };
      }
    where
      open_there : (b : Bool) (l q' d' : ℕ) → Opened advance b (ticks_before m c) (states m c).until q q' → Completed size advance b (ticks_before m c) l d d' → (b && nat_eq l 0) ≡ true → d < q'
      open_there b l q' d' x (last t e) r = completed_open size advance ok.rows_some ok.step_some _ _ q' d x.to_open e
      open_there b l q' d' x (no_more t) r = absurd (cc (t, r))

      one_closed : (b : Bool) (l d' : ℕ) → Completed size advance b (ticks_before m c) l d d' → (if b && nat_eq l 0 then suc (states m c).closed else (states m c).closed) ≡ base + d'
      one_closed b l d' (last t e) = rw t (omega (arith, h.closed))
      one_closed b l d' (no_more t) = rw t h.closed

  -- in the reset cycle the first window is open and nothing came
  pub flow_start : Flow 0 0 1 0
  flow_start = record {
    opened = omega arith;
    closed = omega arith;
    until = omega (arith, ok.step_some);
    less = omega (arith, ok.step_some);
    left = omega (arith, ok.rows_some);
    near = λ x. absurd (omega (arith, x));
    calm = refl;
    rest = refl;
    alike = refl;
    holds = λ j. refl;
    done = refl;
  }

  -- a window that is not opened has taken nothing
  opened_up : (b : Bool) (n : ℕ) → n ≤ (if b then suc n else n)
  opened_up true n = omega arith
  opened_up false n = omega arith

  pub unopened : (c w : ℕ) → (states m c).opened ≤ w → content m c w ≡ []
  unopened zero w l = refl
  unopened (suc c) w l =
      let up : (states m c).opened ≤ opened_by (tick c) (states m c) = opened_up (opens (tick c) (states m c)) (states m c).opened in
      let out : (nat_le (states m c).closed w && nat_lt w (opened_by (tick c) (states m c))) ≡ false = and_right _ _ (le-ltb w (opened_by (tick c) (states m c)) l) in
      let own : Option Row = if closes (tick c) (a.ends c) (a.tuple c) (states m c) && nat_eq w (states m c).closed then last_row (tick c) (a.ends c) (a.tuple c) (states m c) else open_row (a.ends c) (a.tuple c) in
      ap (λ (b : Bool). content m c w ++ option_to_list (if b then own else None)) out ∙ append-nil (content m c w) ∙ unopened c w (omega (arith, l, up))
