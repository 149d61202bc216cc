-- The front of windows of time in a cycle behind the end of a stream: the windows that are open end in their turns, and then the next stream's
-- first one opens.
use Rattle.std.proofs.Common.{◌≡◌, ℕ, zero, suc, ◌+◌, ◌-◌, ◌*◌, ◌/◌, ◌<◌, ◌≤◌, List, [], ◌∷◌, ◌++◌, Option, Some, None, Bool, true, false, ◌&&◌, refl, sym, ap, ◌∙◌, arith, inl, inr, mul-le-mul_right}
use Rattle.std.specs.Prelude.{if◌then◌else◌, nat_eq, option_to_list}
use Rattle.std.proofs.Math.Nat.{div-mul-le_self, lt-div-mul-add}
use Rattle.std.proofs.lemmas.Bool.{cases_lt, eqb-true, ne_eqb, lt-ltb, le-ltb, and_from, and_left, and_right, false_from_ne_true}
use Rattle.std.proofs.lemmas.List.{append-nil, append_assoc}
use Rattle.gl_values.specs.Results.{Row}
use Rattle.gl_wire.specs.Apart.{a_tuple, an_end}
use Rattle.gl_wire.specs.Wire.{pending}
use Rattle.gl_wire.proofs.NumberLemmas.{all_turns, mul_below}
use Rattle.gl_windows.specs.Taking.{content, visited, parts_before}
use Rattle.gl_windows.specs.Ticks.{by_ticks}
use Rattle.gl_windows.specs.TimeFront.{TimeFront, TimeMachine, states, closes, closes_at, taken, reopens, turns_in}
use Rattle.gl_windows.proofs.TimeSetting.{IsTimed, ticks_before, ticks_at, times_before}
use Rattle.gl_windows.proofs.TimeTakes.{goes_idle, last_takes, none_ends, others_take, turn_ends}
use Rattle.gl_windows.proofs.TimeFlow.{Flow, unopened}
use Rattle.gl_windows.proofs.TimeFlush.{Flushing, Flushes, first_parts, part_at}

module _ (m : TimeMachine) (ok : IsTimed m) where
  open m use {size, advance, count, stride, tick, a}

  module _ (c base q d e i u : ℕ) (h : Flushing m ok c base q d e i u) where
    abbrev f : TimeFront
    f = states m c

    -- nothing comes
    pub silent : (by_ticks tick a).comes c → ⊥
    silent k = let z = ok.rested u c h.end k h.past in omega (arith, z, h.fire)

    pub no_end : a.ends c ≡ false
    no_end = false_from_ne_true (a.ends c) (λ t. silent (inr (an_end t)))

    pub no_tick : tick c ≡ false
    no_tick = false_from_ne_true (tick c) (λ t. silent (inl t))

    pub no_tuple : a.tuple c ≡ None
    no_tuple = by (a.tuple c) refl
      where
        by : (o : Option Row) → a.tuple c ≡ o → o ≡ None
        by None t = refl
        by (Some r) t = absurd (silent (inr (a_tuple r t)))

    pub ends_as : closes_at m c ≡ closes false false None f
    ends_as = rw (no_tick, no_end, no_tuple) refl

    takes_as : (w : ℕ) → content m (suc c) w ≡ content m c w ++ option_to_list (taken false false None f w)
    takes_as w = rw (no_tick, no_end, no_tuple) refl

    waits_on : (w : ℕ) → (closes false false None f && nat_eq w f.closed) ≡ false → content m (suc c) w ≡ content m c w
    waits_on w stays = takes_as w ∙ ap (λ (o : Option Row). content m c w ++ option_to_list o) (others_take f w stays) ∙ append-nil (content m c w)

    parts_same : parts_before m (suc c) ≡ parts_before m c
    parts_same = rw no_end (append-nil (parts_before m c))

    no_tick_after : ticks_before m (suc c) ≡ 0
    no_tick_after = rw (no_end, no_tick) h.no_ticks

    no_time_after : times_before m (suc c) ≡ []
    no_time_after = let none = h.no_times in rw (no_end, no_tuple, none) refl

    empty_after : pending a (suc c) ≡ []
    empty_after = let none = h.empty in rw (no_end, no_tuple, none) refl

    module _ (quiet : reopens f ≡ false) where
      later : 1 ≤ f.timer.left_over
      later = by f.timer.left_over refl
        where
          by : (n : ℕ) → f.timer.left_over ≡ n → 1 ≤ n
          by zero t = absurd (let on = h.on in let now : reopens f ≡ true = rw (on, t) refl in cc (now, quiet))
          by (suc n) t = omega arith

      stays_on : (states m (suc c)).timer.on ≡ true
      stays_on =
          let none = ne_eqb f.timer.left_over 0 (λ t. omega (arith, t, later)) in
          let on = h.on in
          rw (no_end, on, none) refl

      -- one cycle later, where this window is the oldest then
      goes_on : (e' j : ℕ) → e ≤ e' → e' ≤ q → (e' < q → e' ≡ d + j) → 1 ≤ j → (v : ℕ) → (if nat_eq f.wait 0 then stride - 1 else (f.wait - 1)) ≡ v → v < stride → suc c + v ≡ u + j * stride
          → (states m (suc c)).closed ≡ base + e' → ((k : ℕ) → e' ≤ k → content m (suc c) (base + k) ≡ content m c (base + k)) → visited m (suc c) ≡ parts_before m u ++ first_parts m ok u e' → Flushing m ok (suc c) base q d e' j u
      goes_on e' j up high turn once v is small time closed same done =
          let wait : (states m (suc c)).wait ≡ v = (let idle = goes_idle f h.flush quiet in rw (no_tick, no_end, no_tuple, idle) is) in
          record {
            end = h.end;
            past = omega (arith, h.past);
            begun = h.begun;
            reach = h.reach;
            full = h.full;
            few = h.few;
            opened = rw (no_tick, quiet) h.opened;
            closed = closed;
            low = omega (arith, h.low, up);
            high = high;
            turn = turn;
            once = once;
            time = ap (λ z. suc c + z) wait ∙ time;
            small = rw wait small;
            flush = (let idle = goes_idle f h.flush quiet in rw (no_tick, no_end, no_tuple, idle) refl);
            on = stays_on;
            fire = rw no_end (omega (arith, h.fire, later));
            until = rw (no_tick, no_end) h.until;
            left = rw (no_tick, no_end) h.left;
            held = rw no_end h.held;
            holds = λ k l n. ap (λ (xs : List Row). xs ++ option_to_list (a.tuple u)) (same k l) ∙ h.holds k (omega (arith, l, up)) n;
            done = done;
            parts = parts_same ∙ h.parts;
            no_ticks = no_tick_after;
            no_times = no_time_after;
            empty = empty_after;
          }

      -- no window ends
      waiting : closes false false None f ≡ false → (j : ℕ) → (e < q → e ≡ d + j) → 1 ≤ j → (v : ℕ) → (if nat_eq f.wait 0 then stride - 1 else (f.wait - 1)) ≡ v → v < stride → suc c + v ≡ u + j * stride → Flushes m ok (suc c) base q d u
      waiting stays j turn once v is small time =
          let now = ends_as ∙ stays in
          record {
            e = e;
            i = j;
            is = goes_on e j (omega arith) h.high turn once v is small time
                (ap (λ (b : Bool). if b then suc f.closed else f.closed) now ∙ h.closed)
                (λ k l. waits_on (base + k) (and_left _ _ stays))
                (ap (λ (b : Bool). visited m c ++ (if b then content m (suc c) f.closed ∷ [] else [])) now ∙ append-nil (visited m c) ∙ h.done);
          }

      -- the oldest window ends in its turn
      turning : nat_eq f.wait 0 ≡ true → e < q → Flushes m ok (suc c) base q d u
      turning due there =
          let zero_wait : f.wait ≡ 0 = eqb-true f.wait 0 due in
          let is_there : f.closed < f.opened = omega (arith, h.closed, h.opened, there) in
          let one : closes false false None f ≡ true = turn_ends f h.flush quiet ∙ and_from _ _ due (lt-ltb f.closed f.opened is_there) in
          let now = ends_as ∙ one in
          let rows : content m (suc c) f.closed ≡ part_at m ok u e =
          takes_as f.closed ∙ ap (λ (o : Option Row). content m c f.closed ++ option_to_list o) (last_takes f h.flush quiet due is_there ∙ h.held)
          ∙ ap (λ (w : ℕ). content m c w ++ option_to_list (a.tuple u)) h.closed ∙ h.holds e (omega arith) there in
          record {
            e = suc e;
            i = suc i;
            is = goes_on (suc e) (suc i) (omega arith) (omega (arith, there)) (λ l. omega (arith, h.turn there)) (omega arith) (stride - 1) (rw due refl) (omega (arith, ok.stride_some)) (omega (arith, h.time, zero_wait, ok.stride_some))
                (ap (λ (b : Bool). if b then suc f.closed else f.closed) now ∙ omega (arith, h.closed))
                (λ k l. waits_on (base + k) (and_right _ _ (ne_eqb (base + k) f.closed (λ z. omega (arith, z, h.closed, l)))))
                (ap (λ (b : Bool). visited m c ++ (if b then content m (suc c) f.closed ∷ [] else [])) now
                ∙ ap (λ (xs : List Row). visited m c ++ xs ∷ []) rows
                ∙ ap (λ (ps : List (List Row)). ps ++ part_at m ok u e ∷ []) h.done
                ∙ append_assoc (parts_before m u) (first_parts m ok u e) (part_at m ok u e ∷ []));
          }

      pub flush_next : Flushes m ok (suc c) base q d u
      flush_next = by (nat_eq f.wait 0) refl
        where
          positive : (n : ℕ) → nat_eq n 0 ≡ false → 1 ≤ n
          positive zero t = absurd (cc)
          positive (suc n) t = omega arith

          by : (b : Bool) → nat_eq f.wait 0 ≡ b → Flushes m ok (suc c) base q d u
          by true t =
              let zero_wait : f.wait ≡ 0 = eqb-true f.wait 0 t in
              elim (cases_lt e q) [
                | inl l ↦ turning t l
                | inr l ↦
                    waiting (turn_ends f h.flush quiet ∙ and_right _ _ (le-ltb f.closed f.opened (omega (arith, h.closed, h.opened, l)))) (suc i) (λ n. absurd (omega (arith, n, l))) (omega arith)
                    (stride - 1) (rw t refl) (omega (arith, ok.stride_some)) (omega (arith, h.time, zero_wait, ok.stride_some))
              ]
          by false t =
              let some = positive f.wait t in
              waiting (turn_ends f h.flush quiet ∙ and_left _ _ t) i h.turn h.once (f.wait - 1) (rw t refl) (omega (arith, h.small)) (omega (arith, h.time, some))

    -- ---- behind the last turn

    pub all_ended : u + turns_in m + 1 ≤ c → e ≡ q
    all_ended far = elim (cases_lt e q) [
      | inl l ↦
          let r : suc i * stride ≤ count * stride = mul-le-mul_right stride (omega (arith, h.turn l, h.few, l)) in
          absurd (omega (arith, r, h.time, far, all_turns count stride ok.copies_some))
      | inr l ↦ omega (arith, l, h.high)
    ]

    module _ (now : reopens f ≡ true) where
      fired : f.timer.left_over ≡ 0
      fired = eqb-true f.timer.left_over 0 (let on = h.on in rw on at now)

      over : e ≡ q
      over = all_ended (omega (arith, h.fire, fired))

      -- the next stream's first window opens
      pub flow_again : Flow m ok (suc c) (base + q) 1 0
      flow_again =
          let none = none_ends f now in
          let stays = ends_as ∙ none in
          let on = h.on in
          let no_times = no_time_after in
          let empty = empty_after in
          record {
            opened = rw (no_tick, now) (omega (arith, h.opened));
            closed = ap (λ (b : Bool). if b then suc f.closed else f.closed) stays ∙ omega (arith, h.closed, over);
            until = (let none = no_tick_after in rw (none, no_tick, no_end) (omega (arith, h.until, ok.step_some)));
            less = rw (no_tick, no_end) (omega (arith, h.until, ok.step_some));
            left = (let none = no_tick_after in rw (none, no_tick, no_end) (omega (arith, h.left, ok.rows_some)));
            near = λ l. absurd (omega (arith, l));
            calm = rw (no_tick, no_end, no_tuple, now) (and_right f.flush _ refl);
            rest = (let z = fired in rw (no_end, on, z) refl);
            alike = rw (no_times, empty) refl;
            holds = λ j. waits_on (base + q + j) (and_left _ _ none) ∙ unopened m ok c (base + q + j) (omega (arith, h.opened)) ∙ rw no_times refl;
            done =
                ap (λ (b : Bool). visited m c ++ (if b then content m (suc c) f.closed ∷ [] else [])) stays ∙ append-nil (visited m c) ∙ h.done
                ∙ ap (λ (n : ℕ). parts_before m u ++ first_parts m ok u n) over ∙ all_parts ∙ sym (parts_same ∙ h.parts) ∙ sym (append-nil (parts_before m (suc c)));
          }
        where
          whole : q * advance ≤ ticks_at m u + advance → ticks_at m u < q * advance → q ≡ suc (ticks_at m u / advance)
          whole reach full =
              let x = div-mul-le_self (ticks_at m u) advance in
              let y = lt-div-mul-add {a = ticks_at m u} {b = advance} ok.step_some in
              let z : q < suc (suc (ticks_at m u / advance)) = mul_below q (suc (suc (ticks_at m u / advance))) advance (omega (arith, reach, y)) in
              let w : ticks_at m u / advance < q = mul_below (ticks_at m u / advance) q advance (omega (arith, full, x)) in
              omega (arith, z, w)

          all_parts : parts_before m u ++ first_parts m ok u q ≡ parts_before m (suc u)
          all_parts = let end = h.end in rw end (ap (λ (n : ℕ). parts_before m u ++ first_parts m ok u n) (whole h.reach h.full))
