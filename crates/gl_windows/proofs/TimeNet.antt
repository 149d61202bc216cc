-- The parts of the front of windows of time together are its machine, as long as that has room.
use Rattle.std.proofs.Common.{◌≡◌, ℕ, zero, suc, ◌+◌, ◌-◌, ◌*◌, ◌%◌, ◌<◌, ◌≤◌, List, Some, None, Bool, true, false, refl, sym, ap, ◌∙◌, arith}
use Rattle.std.specs.Prelude.{nat_eq, nat_le, nat_lt, not, ◌&&◌, ◌||◌, if◌then◌else◌}
use Rattle.std.proofs.Math.Bool.{and-true, and-false}
use Rattle.std.proofs.Math.Nat.{mod_self, mod-eq_of_lt}
use Rattle.std.proofs.lemmas.Bool.{and_parts, eqb-true, ne_eqb, le-leb, le-ltb}
use Rattle.gl_values.specs.Results.{Row}
use Rattle.gl_net.specs.declared.node.Bus.{Bus}
use Rattle.gl_net.specs.declared.node.Bit.{Bit}
use Rattle.gl_net.specs.Net.{Run}
use Rattle.gl_wire.specs.declared.wire.Wire.{Wire}
use Rattle.gl_wire.specs.Wire.{carried, line_at, row_at, tuple_at}
use Rattle.gl_wire_registers.specs.Held.{held_at, counted_down, turned}
use Rattle.gl_wire_registers.specs.Lines.{line_of, carried_of, any_to, pointed}
use Rattle.gl_wire_registers.specs.Timers.{fires, ticked, timer_at}
use Rattle.gl_wire_registers.proofs.LineLemmas.{any_at, line_of-first}
use Rattle.gl_windows.specs.declared.parts.Opening.{Opening}
use Rattle.gl_windows.specs.declared.parts.Flush.{Flush}
use Rattle.gl_windows.specs.declared.parts.Trigger.{Trigger}
use Rattle.gl_windows.specs.declared.parts.Tail.{Tail}
use Rattle.gl_windows.specs.declared.turns.OpenCopies.{OpenCopies}
use Rattle.gl_windows.specs.Parts.{IsOpening, IsFlush, IsTrigger, IsTail}
use Rattle.gl_windows.specs.Turns.{Rotating}
use Rattle.gl_windows.specs.TimeFront.{TimeFront, TimeMachine, HasRoom, IsTimeFront, states, reopens, opens, opened_by, lasts, idle, due, closes_at, taken, last_row, open_row}
use Rattle.gl_windows.proofs.MachineLemmas.{if_same, tuple_of}
use Rattle.gl_windows.proofs.TurnLemmas.{any_false}
use Rattle.gl_windows.proofs.TurnNumbers.{copy, copy_low, same_copy, next_copy, opens_one, ends_one, stays_open, low_next, idle_as, valid_as, takes_as}

-- the circuit need not look at the end where it tells whether a flush goes on
module _ (s : TimeFront) (x : Row) where
  same_flush : (tick e v : Bool) → (e || idle_as s tick v) ≡ (e || idle tick e (tuple_of v x) s)
  same_flush tick true v = refl
  same_flush tick false true = refl
  same_flush tick false false = refl

  same_wait : (stride : ℕ) (tick e v : Bool) → counted_down stride stride e (idle_as s tick v) s.wait ≡ counted_down stride stride e (idle tick e (tuple_of v x) s) s.wait
  same_wait stride tick true v = refl
  same_wait stride tick false true = refl
  same_wait stride tick false false = refl

  same_due : (tick e v : Bool) → (e || (lasts tick s || (idle_as s tick v && nat_eq s.wait 0))) ≡ (e || (lasts tick s || due tick e (tuple_of v x) s))
  same_due tick true v = refl
  same_due tick false true = refl
  same_due tick false false = refl

module _ (run : Run) (w : Wire) (tick : Bit) (size advance count stride turns : ℕ) (hc : 1 ≤ count) (turns_is : turns ≡ (count - 1) * stride)
    (rearm brings busy opening tail : Bit) (o : Opening) (f : Flush) (g : Trigger) (h : Tail) (opened : Bus) (r : OpenCopies) (stay takes : List Bit) (row : List Bus) (ins : List Wire)
    (is_rearm : (t : ℕ) → line_at run rearm t ≡ fires (timer_at turns (line_at run w.eos) t))
    (is_brings : (t : ℕ) → line_at run brings t ≡ (line_at run tick t || line_at run w.valid t))
    (is_busy : (t : ℕ) → line_at run busy t ≡ (line_at run brings t || line_at run rearm t))
    (is_o : IsOpening run tick w.eos (advance - 1) advance o)
    (is_opening : (t : ℕ) → line_at run opening t ≡ (line_at run o.opens t || line_at run rearm t))
    (is_f : IsFlush run busy w.eos stride f) (is_g : IsTrigger run tick w.eos f.due size advance g) (is_h : IsTail run w.valid w.eos f.idle h)
    (is_tail : (t : ℕ) → line_at run tail t ≡ (line_at run h.tail t && not (line_at run g.last t)))
    (is_opened : (t : ℕ) → (held_at 0 run opened t ≤ count - 1) × (held_at 0 run opened (suc t) ≡ turned (count - 1) (line_at run opening t) (held_at 0 run opened t)))
    (is_r : Rotating run count 1 (count - 1) opening opened g.trigger r)
    (is_stay : (k t : ℕ) → k < count → line_of run stay k t ≡ (line_of run r.mids k t && not (line_of run r.ends k t)))
    (is_takes : (k t : ℕ) → k < count → line_of run takes k t ≡ ((line_of run stay k t && (line_at run w.valid t && not (line_at run w.eos t))) || (line_of run r.ends k t && line_at run tail t)))
    (is_row : (t : ℕ) → row_at run (suc (suc t)) row ≡ (if line_at run w.valid (suc t) then row_at run (suc t) w.columns else row_at run (suc t) row))
    (first_tuple : (k : ℕ) → k < count → (carried_of run ins k).tuple 0 ≡ None)
    (first_end : (k : ℕ) → k < count → (carried_of run ins k).ends 0 ≡ false)
    (later_tuple : (k t : ℕ) → k < count → (carried_of run ins k).tuple (suc t) ≡ (if line_of run takes k t then Some (row_at run (suc t) row) else None))
    (later_end : (k t : ℕ) → k < count → (carried_of run ins k).ends (suc t) ≡ line_of run r.ends k t) where
  abbrev m : TimeMachine
  m = record { size = size; advance = advance; count = count; stride = stride; tick = line_at run tick; a = carried run w }

  abbrev s : ℕ → TimeFront
  s c = states m c

  abbrev b : ℕ → Bool
  b c = line_at run tick c

  abbrev e : ℕ → Bool
  e c = line_at run w.eos c

  abbrev v : ℕ → Bool
  v c = line_at run w.valid c

  abbrev x : ℕ → Row
  x c = row_at run c w.columns

  -- ---- the counters, each by itself

  until_is : (c : ℕ) → held_at (advance - 1) run o.until c ≡ (s c).until
  unfolding held_at
  until_is zero = refl
  until_is (suc c) = is_o.next c ∙ ap (counted_down (advance - 1) (advance - 1) (e c) (b c)) (until_is c)

  left_is : (c : ℕ) → held_at (size - 1) run g.left c ≡ (s c).left
  unfolding held_at
  left_is zero = refl
  left_is (suc c) = is_g.next c ∙ ap (counted_down (size - 1) (advance - 1) (e c) (b c)) (left_is c)

  timer_is : (c : ℕ) → timer_at turns (line_at run w.eos) c ≡ (s c).timer
  timer_is zero = refl
  timer_is (suc c) = ap (ticked turns (e c)) (timer_is c) ∙ ap (λ n. ticked n (e c) (s c).timer) turns_is

  rearm_is : (c : ℕ) → line_at run rearm c ≡ reopens (s c)
  rearm_is c = is_rearm c ∙ ap fires (timer_is c)

  opening_is : (c : ℕ) → line_at run opening c ≡ opens (b c) (s c)
  opening_is c =
      is_opening c ∙ ap (λ z. z || line_at run rearm c) (is_o.opens c) ∙ ap (λ n. (b c && nat_eq n 0) || line_at run rearm c) (until_is c)
      ∙ ap (λ z. (b c && nat_eq (s c).until 0) || z) (rearm_is c)

  last_is : (c : ℕ) → line_at run g.last c ≡ lasts (b c) (s c)
  last_is c = is_g.last c ∙ ap (λ n. b c && nat_eq n 0) (left_is c)

  busy_is : (c : ℕ) → line_at run busy c ≡ ((b c || v c) || reopens (s c))
  busy_is c = is_busy c ∙ ap (λ z. z || line_at run rearm c) (is_brings c) ∙ ap (λ z. (b c || v c) || z) (rearm_is c)

  flush_is : (c : ℕ) → line_at run f.flush c ≡ (s c).flush
  unfolding line_at tuple_at
  flush_is zero = refl
  flush_is (suc c) =
      is_f.next c ∙ ap (λ z. e c || (z && not (line_at run busy c))) (flush_is c) ∙ ap (λ z. e c || ((s c).flush && not z)) (busy_is c)
      ∙ same_flush (s c) (x c) (b c) (e c) (v c)

  idle_is : (c : ℕ) → line_at run f.idle c ≡ idle_as (s c) (b c) (v c)
  idle_is c = is_f.idle c ∙ ap (λ z. z && not (line_at run busy c)) (flush_is c) ∙ ap (λ z. (s c).flush && not z) (busy_is c)

  wait_is : (c : ℕ) → held_at 0 run f.wait c ≡ (s c).wait
  unfolding held_at tuple_at
  wait_is zero = refl
  wait_is (suc c) =
      is_f.next_wait c ∙ ap (λ z. counted_down (stride - 1) (stride - 1) (e c) z (held_at 0 run f.wait c)) (idle_is c)
      ∙ ap (counted_down (stride - 1) (stride - 1) (e c) (idle_as (s c) (b c) (v c))) (wait_is c) ∙ same_wait (s c) (x c) (stride - 1) (b c) (e c) (v c)

  -- whether the oldest window ends, if it is open
  abbrev ending : ℕ → Bool
  ending c = e c || (lasts (b c) (s c) || due (b c) (e c) (tuple_of (v c) (x c)) (s c))

  trigger_is : (c : ℕ) → line_at run g.trigger c ≡ ending c
  trigger_is c =
      is_g.trigger c ∙ ap (λ n. e c || ((b c && nat_eq n 0) || line_at run f.due c)) (left_is c)
      ∙ ap (λ z. e c || (lasts (b c) (s c) || z)) (is_f.due c ∙ ap (λ z. z && nat_eq (held_at 0 run f.wait c) 0) (idle_is c) ∙ ap (λ n. idle_as (s c) (b c) (v c) && nat_eq n 0) (wait_is c))
      ∙ same_due (s c) (x c) (b c) (e c) (v c)

  opened_is : (c : ℕ) → held_at 0 run opened c ≡ copy count hc (s c).opened
  unfolding held_at
  opened_is zero = let one : 1 + (count - 1) ≡ count = omega (arith, hc) in sym (ap (λ z. z % count) one ∙ mod_self count)
  opened_is (suc c) =
      (is_opened c).1 ∙ ap (λ z. turned (count - 1) z (held_at 0 run opened c)) (opening_is c) ∙ ap (turned (count - 1) (opens (b c) (s c))) (opened_is c)
      ∙ next_copy count hc (opens (b c) (s c)) (s c).opened

  -- ---- the row that came with the end

  row_step : (c : ℕ) → (v c || line_at run f.flush c) ≡ true → row_at run (suc c) row ≡ (if v c then x c else row_at run c row)
  unfolding line_at
  row_step zero q = absurd (cc)
  row_step (suc c) q = is_row c

  row_new : (c : ℕ) → v c ≡ true → row_at run (suc c) row ≡ x c
  row_new c q = row_step c (rw q refl) ∙ ap (λ (z : Bool). if z then x c else row_at run c row) q

  row_old : (c : ℕ) → v c ≡ false → (s c).flush ≡ true → row_at run (suc c) row ≡ row_at run c row
  row_old c q on = row_step c (rw q (flush_is c ∙ on)) ∙ ap (λ (z : Bool). if z then x c else row_at run c row) q

  held_is : (c : ℕ) → (s c).flush ≡ true → (s c).held ≡ (if line_at run h.held c then Some (row_at run c row) else None)
  unfolding tuple_at
  held_is zero on = absurd (cc)
  held_is (suc c) on = by (held_is c) (e c) (v c) refl refl (flush_is (suc c) ∙ on) on
    where
      quiet : (d : Bool) → ((s c).flush && not ((d || true) || reopens (s c))) ≡ true → ⊥
      quiet true z = let y = and_parts (s c).flush false z in absurd (let q = y.1 in cc)
      quiet false z = let y = and_parts (s c).flush false z in absurd (let q = y.1 in cc)

      by : ((s c).flush ≡ true → (s c).held ≡ (if line_at run h.held c then Some (row_at run c row) else None)) → (e' v' : Bool) → e c ≡ e' → v c ≡ v' → line_at run f.flush (suc c) ≡ true → (s (suc c)).flush ≡ true
          → (if e' then tuple_of v' (x c) else (s c).held) ≡ (if line_at run h.held (suc c) then Some (row_at run (suc c) row) else None)
      by was true true p q l n =
          let is : line_at run h.held (suc c) ≡ true = is_h.next c ∙ rw (p, q) refl in
          let new = row_new c q in
          rw (is, new) refl
      by was true false p q l n =
          let is : line_at run h.held (suc c) ≡ false = is_h.next c ∙ rw (p, q) (and-false (line_at run h.held c)) in
          rw is refl
      by was false true p q l n =
          let at : line_at run f.flush (suc c) ≡ ((s c).flush && not ((b c || true) || reopens (s c))) = is_f.next c ∙ ap (λ z. z || (line_at run f.flush c && not (line_at run busy c))) p ∙ ap (λ z. z && not (line_at run busy c)) (flush_is c) ∙ ap (λ z. (s c).flush && not z) (busy_is c) ∙ ap (λ z. (s c).flush && not ((b c || z) || reopens (s c))) q in
          absurd (quiet (b c) (sym at ∙ l))
      by was false false p q l n =
          let at : line_at run f.flush (suc c) ≡ ((s c).flush && not (line_at run busy c)) = is_f.next c ∙ ap (λ z. z || (line_at run f.flush c && not (line_at run busy c))) p ∙ ap (λ z. z && not (line_at run busy c)) (flush_is c) in
          let on' = and_parts (s c).flush (not (line_at run busy c)) (sym at ∙ l) in
          let same : line_at run h.held (suc c) ≡ line_at run h.held c = is_h.next c ∙ rw p (and-true (line_at run h.held c)) in
          let old = row_old c q on'.0 in
          rw (same, old) (was on'.0)

  -- ---- the copies, where there is room

  held_later : (y z : ℕ) (bus : Bus) (c : ℕ) → held_at y run bus (suc c) ≡ held_at z run bus (suc c)
  unfolding held_at
  held_later y z bus c = refl

  module _ (room : HasRoom m) where
    record Ring (c : ℕ) : Type 0 where
      low : (s c).closed ≤ (s c).opened
      oldest : held_at (count - 1) run r.oldest c ≡ copy count hc (s c).closed
      flags : (n : ℕ) → (s c).closed ≤ n → n < (s c).closed + count → line_of run r.flags (copy count hc n) c ≡ nat_lt n (s c).opened

    ring_first : Ring 1
    unfolding line_at tuple_at held_at
    ring_first = record {
      low = omega arith;
      oldest =
          is_r.oldest 0 ∙ ap (λ z. turned (count - 1) z (held_at (count - 1) run r.oldest 0)) (any_false count (λ k. line_of run r.ends k 0) (line_of-first run r.ends))
          ∙ sym last_copy;
      flags = λ n l k. is_r.flag_first (copy count hc n) (copy_low count hc n) ∙ first_flag n k;
    }
      where
        last_copy : copy count hc 0 ≡ count - 1
        last_copy = let less : 0 + (count - 1) < count = omega (arith, hc) in mod-eq_of_lt less ∙ (let e : 0 + (count - 1) ≡ count - 1 = omega arith in e)

        one_open : (n : ℕ) → nat_eq n 0 ≡ nat_lt n 1
        one_open zero = refl
        one_open (suc n) = ne_eqb (suc n) 0 (λ z. absurd (omega (arith, z))) ∙ sym (le-ltb (suc n) 1 (omega arith))

        first_flag : (n : ℕ) → n < 0 + count → (nat_eq (copy count hc n) (count - 1) && nat_eq 1 1) ≡ nat_lt n 1
        first_flag n k =
            and-true (nat_eq (copy count hc n) (count - 1)) ∙ ap (nat_eq (copy count hc n)) (sym last_copy) ∙ same_copy count hc 0 n 0 (omega arith) k (omega arith) (omega (arith, hc)) ∙ one_open n

    -- a cycle behind the reset cycle
    module _ (c : ℕ) (ring : Ring (suc c)) where
      abbrev now : TimeFront
      now = s (suc c)

      abbrev all : ℕ
      all = opened_by (b (suc c)) now

      mid_is : (n : ℕ) → now.closed ≤ n → n < now.closed + count → line_of run r.mids (copy count hc n) (suc c) ≡ nat_lt n all
      unfolding pointed
      mid_is n l k =
          is_r.mid (copy count hc n) (suc c) (copy_low count hc n)
          ∙ ap (λ z. z || (line_at run opening (suc c) && nat_eq (held_at 0 run opened (suc c)) (copy count hc n))) (ring.flags n l k)
          ∙ ap (λ z. nat_lt n now.opened || (z && nat_eq (held_at 0 run opened (suc c)) (copy count hc n))) (opening_is (suc c))
          ∙ ap (λ z. nat_lt n now.opened || (opens (b (suc c)) now && nat_eq z (copy count hc n))) (opened_is (suc c))
          ∙ opens_one count hc now.closed now.opened n (opens (b (suc c)) now) ring.low l k (room (suc c))

      turn_is : (k : ℕ) → k < count → line_of run r.ends k (suc c) ≡ ((ending (suc c) && nat_eq (copy count hc now.closed) k) && line_of run r.mids k (suc c))
      unfolding pointed
      turn_is k l =
          is_r.end k (suc c) l
          ∙ ap (λ z. (z && nat_eq (held_at 0 run r.oldest (suc c)) k) && line_of run r.mids k (suc c)) (trigger_is (suc c))
          ∙ ap (λ z. (ending (suc c) && nat_eq z k) && line_of run r.mids k (suc c)) (held_later 0 (count - 1) r.oldest c ∙ ring.oldest)

      end_is : (n : ℕ) → now.closed ≤ n → n < now.closed + count → line_of run r.ends (copy count hc n) (suc c) ≡ (closes_at m (suc c) && nat_eq n now.closed)
      unfolding tuple_at
      end_is n l k =
          turn_is (copy count hc n) (copy_low count hc n)
          ∙ ap (λ z. (ending (suc c) && nat_eq (copy count hc now.closed) (copy count hc n)) && z) (mid_is n l k)
          ∙ ends_one count hc now.closed all n (ending (suc c)) l k

      any_is : any_to count (λ k. line_of run r.ends k (suc c)) ≡ closes_at m (suc c)
      unfolding tuple_at
      any_is =
          any_at count (copy count hc now.closed) (ending (suc c)) (λ k. line_of run r.mids k (suc c)) (λ k. line_of run r.ends k (suc c)) (copy_low count hc now.closed) turn_is
          ∙ ap (λ z. ending (suc c) && z) (mid_is now.closed (omega arith) (omega (arith, hc)))

      low_is : now.closed ≤ all
      low_is = up (opens (b (suc c)) now) now.opened ring.low
        where
          up : (z : Bool) (n : ℕ) → now.closed ≤ n → now.closed ≤ (if z then suc n else n)
          up true n l = omega (arith, l)
          up false n l = l

      ring_next : Ring (suc (suc c))
      unfolding tuple_at
      ring_next = record {
        low = low_next count hc (ending (suc c)) now.closed all low_is;
        oldest =
            is_r.oldest (suc c) ∙ ap (λ z. turned (count - 1) z (held_at (count - 1) run r.oldest (suc c))) any_is
            ∙ ap (turned (count - 1) (closes_at m (suc c))) ring.oldest ∙ next_copy count hc (closes_at m (suc c)) now.closed;
        flags = λ n l k.
            is_r.flag (copy count hc n) c (copy_low count hc n)
            ∙ stays_open count hc now.closed all (closes_at m (suc c)) (λ k'. line_of run r.mids k' (suc c)) (λ k'. line_of run r.ends k' (suc c)) mid_is end_is (room (suc c)) n l k;
      }

      takes_are : (n : ℕ) → now.closed ≤ n → n < now.closed + count
          → line_of run takes (copy count hc n) (suc c) ≡ valid_as now (line_at run h.held (suc c)) (b (suc c)) (e (suc c)) (v (suc c)) (nat_lt n all) (closes_at m (suc c) && nat_eq n now.closed)
      takes_are n l k =
          is_takes (copy count hc n) (suc c) (copy_low count hc n)
          ∙ rw (is_stay (copy count hc n) (suc c) (copy_low count hc n), mid_is n l k, end_is n l k, is_tail (suc c), is_h.tail (suc c), idle_is (suc c), last_is (suc c)) refl

      tuple_is : (n : ℕ) → now.closed ≤ n → n < now.closed + count → (carried_of run ins (copy count hc n)).tuple (suc (suc c)) ≡ taken (b (suc c)) (e (suc c)) (m.a.tuple (suc c)) now n
      unfolding tuple_at
      tuple_is n l k =
          later_tuple (copy count hc n) (suc c) (copy_low count hc n)
          ∙ ap (λ (z : Bool). if z then Some (row_at run (suc (suc c)) row) else None) (takes_are n l k)
          ∙ takes_as now (x (suc c)) (line_at run h.held (suc c)) (row_at run (suc c) row) (row_at run (suc (suc c)) row) (b (suc c)) (e (suc c)) (v (suc c)) (nat_lt n all) (closes_at m (suc c) && nat_eq n now.closed)
          so why (row_new (suc c)) (row_old (suc c)) (held_is (suc c))
          ∙ ap (λ (z : Bool). if z && nat_lt n all then (if closes_at m (suc c) && nat_eq n now.closed then last_row (b (suc c)) (e (suc c)) (m.a.tuple (suc c)) now else open_row (e (suc c)) (m.a.tuple (suc c))) else None) (sym (le-leb now.closed n l))
        where
          so : (closes_at m (suc c) && nat_eq n now.closed) ≡ true → nat_lt n all ≡ true
          so z =
              let y = and_parts (closes_at m (suc c)) (nat_eq n now.closed) z in
              let same : n ≡ now.closed = eqb-true n now.closed y.1 in
              ap (λ i. nat_lt i all) same ∙ (and_parts (ending (suc c)) (nat_lt now.closed all) y.0).1

          why : (closes_at m (suc c) && nat_eq n now.closed) ≡ true → ending (suc c) ≡ true
          why z = (and_parts (ending (suc c)) (nat_lt now.closed all) (and_parts (closes_at m (suc c)) (nat_eq n now.closed) z).0).0

    rings : (c : ℕ) → Ring (suc c)
    rings zero = ring_first
    rings (suc c) = ring_next c (rings c)

    first_taken : (n : ℕ) → taken (b 0) (e 0) (m.a.tuple 0) (s 0) n ≡ None
    unfolding line_at tuple_at
    first_taken n = if_same (nat_le 0 n && nat_lt n 1) None

    first_closes : (n : ℕ) → (closes_at m 0 && nat_eq n (s 0).closed) ≡ false
    unfolding line_at tuple_at
    first_closes n = refl

    tuples : (n c : ℕ) → (s c).closed ≤ n → n < (s c).closed + count → (carried_of run ins (copy count hc n)).tuple (suc c) ≡ taken (b c) (e c) (m.a.tuple c) (s c) n
    tuples n zero l k =
        later_tuple (copy count hc n) 0 (copy_low count hc n) ∙ ap (λ (z : Bool). if z then Some (row_at run 1 row) else None) (line_of-first run takes (copy count hc n))
        ∙ sym (first_taken n)
    tuples n (suc c) l k = tuple_is c (rings c) n l k

    ends : (n c : ℕ) → (s c).closed ≤ n → n < (s c).closed + count → (carried_of run ins (copy count hc n)).ends (suc c) ≡ (closes_at m c && nat_eq n (s c).closed)
    ends n zero l k = later_end (copy count hc n) 0 (copy_low count hc n) ∙ line_of-first run r.ends (copy count hc n) ∙ sym (first_closes n)
    ends n (suc c) l k = later_end (copy count hc n) (suc c) (copy_low count hc n) ∙ end_is c (rings c) n l k

    pub time_front_is : IsTimeFront m (carried_of run ins)
    time_front_is = record { no_tuple = first_tuple; no_end = first_end; tuples = tuples; ends = ends }
