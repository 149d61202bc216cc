-- Lines and a ring that make a spacer.
use Rattle.std.proofs.Common.{◌≡◌, ℕ, zero, suc, ◌-◌, List, ◌∷◌, Option, Some, None, Bool, true, false, refl, sym, ap, ◌∙◌, subst}
use Rattle.std.specs.Prelude.{is_some, ◌&&◌, ◌||◌, if◌then◌else◌, nat_eq}
use Rattle.std.specs.Option.{option_map}
use Rattle.gl_values.specs.Results.{Row}
use Rattle.gl_net.specs.declared.node.Bus.{Bus}
use Rattle.gl_net.specs.declared.node.Bit.{Bit}
use Rattle.gl_net.specs.Net.{Run}
use Rattle.gl_wire.specs.declared.wire.Wire.{Wire}
use Rattle.gl_wire.specs.Wire.{carried, line_at, row_at, tuple_at}
use Rattle.gl_queue.specs.Queue.{IsQueue}
use Rattle.gl_queue.specs.Spacing.{Entry, arrives, row_in, end_in, IsSpacer}
use Rattle.gl_queue.specs.declared.pacing.Paced.{Paced}
use Rattle.gl_queue.specs.SpacerLines.{bus_of, entry_of, IsPacing}
use Rattle.gl_queue.proofs.QueueMapLemmas.{queue_map}

gate : (n m : ℕ) (xs : Row) → (if is_some (if nat_eq n 1 then Some xs else None) || nat_eq m 1 then Some (record { row = if nat_eq n 1 then Some xs else None; end = nat_eq m 1 }) else None) ≡ option_map entry_of (if nat_eq n 1 || nat_eq m 1 then Some (n ∷ m ∷ xs) else None)
gate n m xs = by (is_some (if nat_eq n 1 then Some xs else None) || nat_eq m 1) (nat_eq n 1 || nat_eq m 1) (ap (λ b. b || nat_eq m 1) (same (nat_eq n 1)))
  where
    same : (b : Bool) → is_some (if b then Some xs else None) ≡ b
    same true = refl
    same false = refl

    by : (x y : Bool) → x ≡ y → (if x then Some (entry_of (n ∷ m ∷ xs)) else None) ≡ option_map entry_of (if y then Some (n ∷ m ∷ xs) else None)
    by true true p = refl
    by false false p = refl
    by true false p = absurd (cc)
    by false true p = absurd (cc)

-- what comes, as a row of the queue
arrives_row : (run : Run) (w : Wire) (comes : Bit) → ((t : ℕ) → line_at run comes t ≡ line_at run w.valid t || line_at run w.eos t) → (c : ℕ) → arrives (carried run w) c ≡ option_map entry_of (tuple_at run comes (bus_of w.valid ∷ bus_of w.eos ∷ w.columns) c)
unfolding tuple_at line_at row_at
arrives_row run w comes h zero = refl
arrives_row run w comes h (suc c) = rw (h (suc c)) (gate (run.at (suc c) w.valid.node) (run.at (suc c) w.eos.node) (row_at run (suc c) w.columns))

-- a spacer from a queue whose entries leave apart, and the two lines in front of its columns
module _ (run : Run) (g depth : ℕ) (w out : Wire) (comes shown_valid shown_end : Bit) (p : Paced) (is : p.queue.columns ≡ bus_of shown_valid ∷ bus_of shown_end ∷ out.columns)
    (m : IsPacing run depth g comes (bus_of w.valid ∷ bus_of w.eos ∷ w.columns) p)
    (valid : (t : ℕ) → line_at run out.valid t ≡ line_at run p.pop t && line_at run shown_valid t) (eos : (t : ℕ) → line_at run out.eos t ≡ line_at run p.pop t && line_at run shown_end t) where
  abbrev outs : List Bus
  outs = bus_of shown_valid ∷ bus_of shown_end ∷ out.columns

  abbrev some : Bit
  some = p.queue.some

  abbrev go : ℕ → Bool
  go c = nat_eq (m.timer c) 0

  abbrev shown : ℕ → Option Entry
  shown c = option_map entry_of (tuple_at run some outs c)

  pop_is : (c : ℕ) → line_at run p.pop c ≡ line_at run some c && go c
  pop_is c = m.pops c

  some_shown : (c : ℕ) → is_some (shown c) ≡ line_at run some c
  unfolding tuple_at
  some_shown c = by (line_at run some c)
    where
      by : (b : Bool) → is_some (option_map entry_of (if b then Some (row_at run c outs) else None)) ≡ b
      by true = refl
      by false = refl

  row_out : (c : ℕ) → tuple_at run out.valid out.columns c ≡ (if go c then row_in (shown c) else None)
  unfolding tuple_at line_at row_at
  row_out zero = rw m.first refl
  row_out (suc c) = rw (valid (suc c), pop_is (suc c)) (by (nat_eq (run.at (suc c) some.node) 1) (go (suc c)) (nat_eq (run.at (suc c) shown_valid.node) 1) refl)
    where
      by : (x y z : Bool) → nat_eq (run.at (suc c) shown_valid.node) 1 ≡ z → (if (x && y) && z then Some (row_at run (suc c) out.columns) else None) ≡ (if y then row_in (option_map entry_of (if x then Some (row_at run (suc c) outs) else None)) else None)
      by true true true p = rw p refl
      by true true false p = rw p refl
      by true false z p = refl
      by false true z p = refl
      by false false z p = refl

  end_out : (c : ℕ) → line_at run out.eos c ≡ go c && end_in (shown c)
  unfolding tuple_at line_at row_at
  end_out zero = rw m.first refl
  end_out (suc c) = rw (eos (suc c), pop_is (suc c)) (by (nat_eq (run.at (suc c) some.node) 1) (go (suc c)) (nat_eq (run.at (suc c) shown_end.node) 1) refl)
    where
      by : (x y z : Bool) → nat_eq (run.at (suc c) shown_end.node) 1 ≡ z → (x && y) && z ≡ y && end_in (option_map entry_of (if x then Some (row_at run (suc c) outs) else None))
      by true true true p = sym p
      by true true false p = sym p
      by true false z p = refl
      by false true z p = refl
      by false false z p = refl

  swap : (x y : Bool) → x && y ≡ y && x
  swap true true = refl
  swap true false = refl
  swap false true = refl
  swap false false = refl

  pub spacer_is : ((t : ℕ) → line_at run comes t ≡ line_at run w.valid t || line_at run w.eos t) → IsSpacer g depth (line_at run p.queue.passed) (carried run w) (carried run out)
  spacer_is h = record {
    shown = shown;
    timer = m.timer;
    queue = queue_map entry_of depth (tuple_at run comes (bus_of w.valid ∷ bus_of w.eos ∷ w.columns)) (arrives (carried run w)) go (tuple_at run some outs) (line_at run p.queue.passed) (arrives_row run w comes h) rows;
    out = row_out;
    ends = end_out;
    first = m.first;
    next = λ c. m.next c ∙ ap (λ b. if b then g - 1 else m.timer c - 1) (pop_is c ∙ swap (line_at run some c) (go c) ∙ ap (λ b. go c && b) (sym (some_shown c)));
  }
    where
      rows : IsQueue depth (tuple_at run comes (bus_of w.valid ∷ bus_of w.eos ∷ w.columns)) go (tuple_at run some outs) (line_at run p.queue.passed)
      rows = subst (λ (bs : List Bus). IsQueue depth (tuple_at run comes (bus_of w.valid ∷ bus_of w.eos ∷ w.columns)) go (tuple_at run some bs) (line_at run p.queue.passed)) is m.queue
