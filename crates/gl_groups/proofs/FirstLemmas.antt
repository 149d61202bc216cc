-- Where the streams of slots begin: with the row that takes a slot, and nowhere else.
use Rattle.std.proofs.Common.{◌≡◌, ℕ, zero, suc, ◌<◌, ◌≤◌, List, [], length, Option, Some, None, Bool, true, false, ◌&&◌, ◌||◌, refl, sym, ap, ◌∙◌, arith, inl, inr, eqb-true, eq-eqb}
use Rattle.std.specs.Prelude.{if◌then◌else◌, is_some, not, nat_eq, nat_lt, slice_get}
use Rattle.std.specs.List.{list_any}
use Rattle.std.proofs.lemmas.Bool.{le-ltb, lt-ltb, ltb-false, ltb-true, ne_eqb}
use Rattle.gl_values.specs.Results.{Row}
use Rattle.gl_values.specs.Tables.{with_key}
use Rattle.gl_bits.proofs.Bools.{and_both, and_left, and_parts, and_right, by_cases, not_both, not_false, not_true, or_cases, or_left, or_none, or_right, same_when}
use Rattle.gl_wire.specs.Apart.{Carries, a_tuple, an_end}
use Rattle.gl_wire.specs.Wire.{Carried}
use Rattle.gl_wire_registers.specs.Lines.{any_to}
use Rattle.gl_groups.specs.Firsts.{TellsNew, ends_at, is_begun, takes_row_at}
use Rattle.gl_slots.specs.Keys.{AwaitsTurns}
use Rattle.gl_slots.specs.Slots.{AreSlots, Slots, freed, keys_at, keys_now, of_slot, same_key, slot_at, slot_ends, slot_ends_at, slot_now, slot_takes, slots_at, slots_next}
use Rattle.gl_slots.proofs.OneLemmas.{any_here, any_there}
use Rattle.gl_slots.proofs.FlushLemmas.{fresh}
use Rattle.gl_groups.proofs.NewKeyLemmas.{has_now, new_slot, old_has, old_is, old_now, slot_new}
use Rattle.gl_slots.proofs.PhaseLemmas.{Phase, flows, flushes, phase}
use Rattle.gl_slots.proofs.Setting.{Setting, awaited}

-- ---- one cycle of the machine

and_all : (l : Bool) → (l && true) ≡ l
and_all true = refl
and_all false = refl

-- where a row or an end comes only if it is this slot's turn, it is
event_at : (l z : Bool) (w : Option Row) → (is_some (if l && z then w else None) || (l && z)) ≡ true → (l ≡ true) × (z ≡ true)
event_at true true w x = (refl, refl)
event_at true false w x = absurd (cc)
event_at false z w x = absurd (cc)

is_some_if : (b : Bool) (o : Option Row) → is_some (if b then o else None) ≡ (b && is_some o)
is_some_if true o = refl
is_some_if false o = refl

module _ (count : ℕ) (key : Row → ℕ) (stride : ℕ) (some : 1 ≤ count) where
  abbrev keys_of_cycle : Slots → Bool → Option Row → List ℕ
  keys_of_cycle s e o = keys_now count key e o s

  abbrev taken : Slots → Bool → Option Row → ℕ → Bool
  taken s e o k = is_some (slot_takes key e o (keys_of_cycle s e o) s k)

  abbrev ended : Slots → Bool → Option Row → ℕ → Bool
  ended s e o k = slot_ends e o (keys_of_cycle s e o) s && nat_eq k (slot_now e s)

  -- whether a slot takes the row that came with the end in its turn, and whether its turn is now
  abbrev waits : Slots → ℕ → Bool
  waits s k = is_some (of_slot key s.keys k s.held)

  abbrev due : Slots → Bool
  due s = (s.flush && nat_eq s.wait 0) && nat_lt s.turn (length s.keys)

  -- whether the stream of a slot is open: it is used, and in a flush its turn is still to come, and the row that came with
  -- the end did not take it, which is told only then
  abbrev open_in : Slots → Bool → ℕ → Bool
  open_in s b k = nat_lt k (length s.keys) && not (s.flush && (nat_lt k s.turn || (b && waits s k)))

  -- what comes in a cycle: whether the last row's key was new is told, and whatever comes finds a flush over
  record Cycle (s : Slots) (e : Bool) (o : Option Row) (b n : Bool) : Type 0 where
    row : (r : Row) → o ≡ Some r → n ≡ not (list_any (nat_eq (key r)) (freed s))
    idle : o ≡ None → s.flush ≡ true → n ≡ b
    row_over : (r : Row) → o ≡ Some r → s.flush ≡ true → length s.keys ≤ s.turn
    end_over : e ≡ true → s.flush ≡ true → length s.keys ≤ s.turn

  has_row : (ks : List ℕ) (k : ℕ) (r : Row) → is_some (of_slot key ks k (Some r)) ≡ same_key (slice_get ks k) (key r)
  has_row ks k r = by (same_key (slice_get ks k) (key r))
    where
      by : (b : Bool) → is_some (if b then Some r else None) ≡ b
      by true = refl
      by false = refl

  -- once a flush is over, the streams that are open are those of the slots that are not free
  settled : (s : Slots) (b : Bool) (k : ℕ) → (s.flush ≡ true → length s.keys ≤ s.turn) → open_in s b k ≡ nat_lt k (length (freed s))
  settled s b k over = by s.flush refl
    where
      none : (l t w : Bool) → (l ≡ true → t ≡ true) → (l && not (t || w)) ≡ false
      none false t w h = refl
      none true t w h = let e = h refl in rw e refl

      by : (f : Bool) → s.flush ≡ f → (nat_lt k (length s.keys) && not (f && (nat_lt k s.turn || (b && waits s k)))) ≡ nat_lt k (length (if f then [] else s.keys))
      by false e = and_all (nat_lt k (length s.keys))
      by true e =
          none (nat_lt k (length s.keys)) (nat_lt k s.turn) (b && waits s k) (λ l. lt-ltb k s.turn (let m = over e in let z = ltb-true k (length s.keys) l in omega (arith, m, z)))
          ∙ sym (le-ltb k 0 (omega arith))

  -- the slot of a turn
  at_turn : (s : Slots) (b : Bool) (k : ℕ) → due s ≡ true → nat_eq k s.turn ≡ true → open_in s b k ≡ not (b && waits s k)
  at_turn s b k d e =
      let p = and_parts (s.flush && nat_eq s.wait 0) (nat_lt s.turn (length s.keys)) d in
      let f = and_left s.flush (nat_eq s.wait 0) p.0 in
      let at : k ≡ s.turn = eqb-true k s.turn e in
      let used : nat_lt k (length s.keys) ≡ true = ap (λ i. nat_lt i (length s.keys)) at ∙ p.1 in
      let not_past : nat_lt k s.turn ≡ false = le-ltb k s.turn (omega (arith, at)) in
      rw (used, f, not_past) refl

  -- a row of a new key takes a slot whose stream is not open
  takes_closed : (s : Slots) (e : Bool) (o : Option Row) (b n : Bool) → Cycle s e o b n → (k : ℕ) → taken s e o k ≡ true → n ≡ true → open_in s b k ≡ false
  takes_closed s true None b n h k t q =
      absurd (let z = and_right (nat_lt 0 (length (keys_of_cycle s true None)) && nat_eq k 0) false (sym (is_some_if (nat_lt 0 (length (keys_of_cycle s true None)) && nat_eq k 0) None) ∙ t) in cc (z))
  takes_closed s true (Some r) b n h k t q =
      let ks = with_key count (freed s) (key r) in
      let mine = and_right (nat_lt 0 (length ks) && nat_eq k 0) (is_some (of_slot key ks k (Some r))) (sym (is_some_if (nat_lt 0 (length ks) && nat_eq k 0) (of_slot key ks k (Some r))) ∙ t) in
      settled s b k (h.end_over refl)
      ∙ new_slot count (freed s) (key r) k (sym (has_row ks k r) ∙ mine) (not_true (list_any (nat_eq (key r)) (freed s)) (sym (h.row r refl) ∙ q))
  takes_closed s false (Some r) b n h k t q =
      settled s b k (h.row_over r refl)
      ∙ new_slot count (freed s) (key r) k (sym (has_row (with_key count (freed s) (key r)) k r) ∙ t) (not_true (list_any (nat_eq (key r)) (freed s)) (sym (h.row r refl) ∙ q))
  takes_closed s false None b n h k t q =
      let p = and_parts (due s && nat_eq k s.turn) (waits s k) (sym (is_some_if (due s && nat_eq k s.turn) (of_slot key s.keys k s.held)) ∙ t) in
      let d = and_parts (due s) (nat_eq k s.turn) p.0 in
      let f = and_left s.flush (nat_eq s.wait 0) (and_left (s.flush && nat_eq s.wait 0) (nat_lt s.turn (length s.keys)) d.0) in
      let told : b ≡ true = sym (h.idle refl f) ∙ q in
      at_turn s b k d.0 d.1 ∙ ap not (and_both b (waits s k) told p.1)

  -- an event of a slot whose stream is not open is a row of a new key that takes it
  event_takes : (s : Slots) (e : Bool) (o : Option Row) (b n : Bool) → Cycle s e o b n → (k : ℕ) → (taken s e o k || ended s e o k) ≡ true → open_in s b k ≡ false → (taken s e o k ≡ true) × (n ≡ true)
  event_takes s true o b n h k v c = by o refl (event_at (nat_lt 0 (length (keys_of_cycle s true o))) (nat_eq k 0) (of_slot key (keys_of_cycle s true o) k o) v)
    where
      by : (p : Option Row) → o ≡ p → (nat_lt 0 (length (keys_of_cycle s true o)) ≡ true) × (nat_eq k 0 ≡ true) → (taken s true o k ≡ true) × (n ≡ true)
      by None e x = absurd (
          let used : nat_lt 0 (length (freed s)) ≡ true = sym (ap (λ p. nat_lt 0 (length (keys_of_cycle s true p))) e) ∙ x.0 in
          let free : nat_lt 0 (length (freed s)) ≡ false = ap (λ i. nat_lt i (length (freed s))) (sym (eqb-true k 0 x.1)) ∙ sym (settled s b k (h.end_over refl)) ∙ c in
          not_both (nat_lt 0 (length (freed s))) used free)
      by (Some r) e x =
          let ks = with_key count (freed s) (key r) in
          let one : nat_lt 0 (length ks) ≡ true = sym (ap (λ p. nat_lt 0 (length (keys_of_cycle s true p))) e) ∙ x.0 in
          let used : nat_lt k (length ks) ≡ true = ap (λ i. nat_lt i (length ks)) (eqb-true k 0 x.1) ∙ one in
          let got = slot_new count (freed s) (key r) k used (sym (settled s b k (h.end_over refl)) ∙ c) in (
            ap (λ p. taken s true p k) e ∙ is_some_if (nat_lt 0 (length ks) && nat_eq k 0) (of_slot key ks k (Some r))
                ∙ and_both (nat_lt 0 (length ks) && nat_eq k 0) (is_some (of_slot key ks k (Some r))) (and_both (nat_lt 0 (length ks)) (nat_eq k 0) one x.1) (has_row ks k r ∙ got.0),
            h.row r e ∙ ap not got.1,
          )
  event_takes s false (Some r) b n h k v c =
      let ks = with_key count (freed s) (key r) in
      let mine : is_some (of_slot key ks k (Some r)) ≡ true = elim (or_cases (is_some (of_slot key ks k (Some r))) false v) [ inl t ↦ t | inr f ↦ absurd (cc) ] in
      let used = has_now count (freed s) (key r) k (sym (has_row ks k r) ∙ mine) in
      (mine, h.row r refl ∙ ap not (slot_new count (freed s) (key r) k used (sym (settled s b k (h.row_over r refl)) ∙ c)).1)
  event_takes s false None b n h k v c =
      let d = event_at (due s) (nat_eq k s.turn) (of_slot key s.keys k s.held) v in
      let w = and_parts b (waits s k) (told (b && waits s k) (sym (at_turn s b k d.0 d.1) ∙ c)) in
      let f = and_left s.flush (nat_eq s.wait 0) (and_left (s.flush && nat_eq s.wait 0) (nat_lt s.turn (length s.keys)) d.0) in (
        is_some_if (due s && nat_eq k s.turn) (of_slot key s.keys k s.held) ∙ and_both (due s && nat_eq k s.turn) (waits s k) (and_both (due s) (nat_eq k s.turn) d.0 d.1) w.1,
        h.idle refl f ∙ w.0,
      )
    where
      told : (x : Bool) → not x ≡ false → x ≡ true
      told true e = refl
      told false e = absurd (cc)

  -- what is open one cycle later
  opens_next : (s : Slots) (e : Bool) (o : Option Row) (b n : Bool) → Cycle s e o b n → (k : ℕ)
      → ((taken s e o k || open_in s b k) && not (ended s e o k)) ≡ open_in (slots_next stride e o (keys_of_cycle s e o) s) n k
  opens_next s true o b n h zero = by (nat_lt 0 (length (keys_of_cycle s true o))) (of_slot key (keys_of_cycle s true o) 0 o) (open_in s b 0) (λ e. settled s b 0 (h.end_over refl) ∙ few o e)
    where
      by : (l : Bool) (w : Option Row) (p : Bool) → (l ≡ false → p ≡ false) → ((is_some (if l && true then w else None) || p) && not (l && true)) ≡ (l && not (true && (true || (n && is_some w))))
      by true w p q = high (is_some w || p)
        where
          high : (x : Bool) → (x && false) ≡ false
          high true = refl
          high false = refl
      by false w p q = let e = q refl in rw e refl

      few : (o : Option Row) → nat_lt 0 (length (keys_of_cycle s true o)) ≡ false → nat_lt 0 (length (freed s)) ≡ false
      few None e = e
      few (Some r) e = by_cases (nat_lt 0 (length (freed s))) (λ z. absurd (not_both (nat_lt 0 (length (with_key count (freed s) (key r)))) (old_now count (freed s) (key r) 0 z) e)) (λ z. z)
  opens_next s true o b n h (suc k) =
      by (nat_lt 0 (length (keys_of_cycle s true o))) (nat_eq (suc k) 0) (of_slot key (keys_of_cycle s true o) (suc k) o) (open_in s b (suc k)) (ne_eqb (suc k) 0 (λ e. omega (arith, e)))
      ∙ settled s b (suc k) (h.end_over refl) ∙ grows o refl
      ∙ ap (λ x. nat_lt (suc k) (length (keys_of_cycle s true o)) && not (true && (x || (n && is_some (of_slot key (keys_of_cycle s true o) (suc k) o))))) (sym (le-ltb (suc k) 1 (omega arith)))
    where
      by : (l z : Bool) (w : Option Row) (p : Bool) → z ≡ false → ((is_some (if l && z then w else None) || p) && not (l && z)) ≡ p
      by l true w p e = absurd (cc)
      by true false w true e = refl
      by true false w false e = refl
      by false false w true e = refl
      by false false w false e = refl

      alone : (l n : Bool) → l ≡ (l && not (n && false))
      alone true true = refl
      alone true false = refl
      alone false n = refl

      grows : (p : Option Row) → o ≡ p → nat_lt (suc k) (length (freed s)) ≡ (nat_lt (suc k) (length (keys_of_cycle s true o)) && not (n && is_some (of_slot key (keys_of_cycle s true o) (suc k) o)))
      grows None e = alone (nat_lt (suc k) (length (freed s))) n ∙ sym (ap (λ p. nat_lt (suc k) (length (keys_of_cycle s true p)) && not (n && is_some (of_slot key (keys_of_cycle s true p) (suc k) p))) e)
      grows (Some r) e =
          let ks = with_key count (freed s) (key r) in
          old_is count (freed s) (key r) (suc k)
          ∙ ap (λ x. nat_lt (suc k) (length ks) && not (not (list_any (nat_eq (key r)) (freed s)) && x)) (sym (has_row ks (suc k) r))
          ∙ ap (λ x. nat_lt (suc k) (length ks) && not (x && is_some (of_slot key ks (suc k) (Some r)))) (sym (h.row r e))
          ∙ sym (ap (λ p. nat_lt (suc k) (length (keys_of_cycle s true p)) && not (n && is_some (of_slot key (keys_of_cycle s true p) (suc k) p))) e)
  opens_next s false (Some r) b n h k =
      let ks = with_key count (freed s) (key r) in
      and_all (is_some (of_slot key ks k (Some r)) || open_in s b k) ∙ ap (λ x. is_some (of_slot key ks k (Some r)) || x) (settled s b k (h.row_over r refl))
      ∙ ap (λ x. x || nat_lt k (length (freed s))) (has_row ks k r) ∙ old_has count (freed s) (key r) k ∙ sym (and_all (nat_lt k (length ks)))
  opens_next s false None b n h k =
      stay s.flush (nat_eq s.wait 0) (nat_lt s.turn (length s.keys)) (nat_eq k s.turn) (of_slot key s.keys k s.held) (nat_lt k (length s.keys)) (nat_lt k s.turn)
      (nat_lt k (if s.flush && nat_eq s.wait 0 then suc s.turn else s.turn)) (h.idle refl) own (turned (s.flush && nat_eq s.wait 0))
    where
      own : nat_eq k s.turn ≡ true → nat_lt k (length s.keys) ≡ nat_lt s.turn (length s.keys)
      own e = ap (λ i. nat_lt i (length s.keys)) (eqb-true k s.turn e)

      next_turn : (k t : ℕ) → nat_lt k (suc t) ≡ (nat_lt k t || nat_eq k t)
      next_turn k t = same_when (nat_lt k (suc t)) (nat_lt k t || nat_eq k t) there here
        where
          there : nat_lt k (suc t) ≡ true → (nat_lt k t || nat_eq k t) ≡ true
          there e = by_cases (nat_lt k t) (λ l. or_left (nat_lt k t) (nat_eq k t) l)
              (λ l. let less = ltb-true k (suc t) e in let most = ltb-false k t l in or_right (nat_lt k t) (nat_eq k t) (eq-eqb k t (omega (arith, less, most))))

          here : (nat_lt k t || nat_eq k t) ≡ true → nat_lt k (suc t) ≡ true
          here e = lt-ltb k (suc t) (elim (or_cases (nat_lt k t) (nat_eq k t) e) [
            | inl l ↦ (let z = ltb-true k t l in omega (arith, z))
            | inr l ↦ (let z = eqb-true k t l in omega (arith, z))
          ])

      turned : (g : Bool) → nat_lt k (if g then suc s.turn else s.turn) ≡ (nat_lt k s.turn || (g && nat_eq k s.turn))
      turned true = next_turn k s.turn
      turned false = sym (or_none (nat_lt k s.turn))

      -- a flush or none, a turn or none, the slots that are left, this one's turn, the row that waits, whether this slot is
      -- used, whether its turn is over, and whether it is then
      stay : (f w t e : Bool) (r : Option Row) (l past late : Bool) → (f ≡ true → n ≡ b) → (e ≡ true → l ≡ t) → late ≡ (past || ((f && w) && e))
          → ((is_some (if ((f && w) && t) && e then r else None) || (l && not (f && (past || (b && is_some r))))) && not (((f && w) && t) && e)) ≡ (l && not (f && (late || (n && is_some r))))
      stay false w t e r l past late told turn is = high l
        where
          high : (l : Bool) → ((false || (l && true)) && true) ≡ (l && true)
          high true = refl
          high false = refl
      stay true w t e r l past late told turn is = let p = told refl in rw (is, p) (cycle w t e (is_some r) l turn)
        where
          plain : (l p y : Bool) → ((false || (l && not (p || y))) && true) ≡ (l && not ((p || false) || y))
          plain true true y = refl
          plain true false true = refl
          plain true false false = refl
          plain false p y = refl

          cycle : (w t e : Bool) (x l : Bool) → (e ≡ true → l ≡ t)
              → ((is_some (if (w && t) && e then r else None) || (l && not (past || (b && x)))) && not ((w && t) && e)) ≡ (l && not ((past || (w && e)) || (b && x)))
          cycle false t e x l q = plain l past (b && x)
          cycle true false false x l q = plain l past (b && x)
          cycle true true false x l q = plain l past (b && x)
          cycle true false true x l q = let z = q refl in rw z refl
          cycle true true true x l q = over (is_some r || (l && not (past || (b && x)))) l past (b && x)
            where
              over : (z l p y : Bool) → (z && false) ≡ (l && not ((p || true) || y))
              over true true true y = refl
              over true true false y = refl
              over true false p y = refl
              over false true true y = refl
              over false true false y = refl
              over false false p y = refl

-- ---- the machine

module _ (front : Setting) (new : ℕ → Bool) (tells : TellsNew front.count front.key front.stride front.a new) where
  open front use {count, key, stride, a}

  abbrev state : ℕ → Slots
  state c = slots_at count key stride a c

  -- what was told a cycle before
  abbrev before : ℕ → Bool
  before zero = false
  before (suc c) = new c

  abbrev open_at : ℕ → ℕ → Bool
  open_at k c = open_in count key stride front.slots_some (state c) (before c) k

  over : (c : ℕ) (s : Slots) → Phase front c s → Carries a c → s.flush ≡ true → length s.keys ≤ s.turn
  over c s (flows lo xs f b) k e = f.calm e
  over c s (flushes lo u xs f b) k e = (fresh front c s lo u xs f (omega (arith, front.timed.after u c f.end k f.past, front.wide))).calm e

  cycle_at : (c : ℕ) → Cycle count key stride front.slots_some (state c) (a.ends c) (a.tuple c) (before c) (new c)
  cycle_at c = record {
    row = tells.comes c;
    idle = idle c;
    row_over = λ r e. over c (state c) (phase front c) (a_tuple r e);
    end_over = λ e. over c (state c) (phase front c) (an_end e);
  }
    where
      idle : (c : ℕ) → a.tuple c ≡ None → (state c).flush ≡ true → new c ≡ before c
      idle zero e f = absurd (cc)
      idle (suc c) e f = tells.stays c e

  begun_is : (k c : ℕ) → k < count → is_begun count key stride a k c ≡ open_at k c
  unfolding is_begun
  begun_is k zero l = sym (ap (λ b. b && not (false && (nat_lt k 0 || (before zero && false)))) (le-ltb k 0 (omega arith)))
  begun_is k (suc c) l =
      ap (λ b. (takes_row_at count key stride a k c || b) && not (ends_at count key stride a k c)) (begun_is k c l)
      ∙ opens_next count key stride front.slots_some (state c) (a.ends c) (a.tuple c) (before c) (new c) (cycle_at c) k

  -- a slot's stream begins exactly in the cycle in which a row is taken whose key was new
  pub first_is : (c : ℕ) → (any_to count (λ k. takes_row_at count key stride a k c) && new c)
      ≡ any_to count (λ k. (takes_row_at count key stride a k c || ends_at count key stride a k c) && not (is_begun count key stride a k c))
  first_is c = same_when _ _ there here
    where
      there : (any_to count (λ k. takes_row_at count key stride a k c) && new c) ≡ true
          → any_to count (λ k. (takes_row_at count key stride a k c || ends_at count key stride a k c) && not (is_begun count key stride a k c)) ≡ true
      there e =
          let p = and_parts (any_to count (λ k. takes_row_at count key stride a k c)) (new c) e in
          let k = any_there count (λ k. takes_row_at count key stride a k c) p.0 in
          let closed = takes_closed count key stride front.slots_some (state c) (a.ends c) (a.tuple c) (before c) (new c) (cycle_at c) k.0 k.2 p.1 in
          any_here count (λ k. (takes_row_at count key stride a k c || ends_at count key stride a k c) && not (is_begun count key stride a k c)) k.0 k.1
          (and_both _ _ (or_left (takes_row_at count key stride a k.0 c) (ends_at count key stride a k.0 c) k.2) (not_false _ (begun_is k.0 c k.1 ∙ closed)))

      here : any_to count (λ k. (takes_row_at count key stride a k c || ends_at count key stride a k c) && not (is_begun count key stride a k c)) ≡ true
          → (any_to count (λ k. takes_row_at count key stride a k c) && new c) ≡ true
      here e =
          let k = any_there count (λ k. (takes_row_at count key stride a k c || ends_at count key stride a k c) && not (is_begun count key stride a k c)) e in
          let p = and_parts (takes_row_at count key stride a k.0 c || ends_at count key stride a k.0 c) (not (is_begun count key stride a k.0 c)) k.2 in
          let closed = sym (begun_is k.0 c k.1) ∙ not_true (is_begun count key stride a k.0 c) p.1 in
          let t = event_takes count key stride front.slots_some (state c) (a.ends c) (a.tuple c) (before c) (new c) (cycle_at c) k.0 p.0 closed in
          and_both _ _ (any_here count (λ k. takes_row_at count key stride a k c) k.0 k.1 t.0) t.1

-- behind any source that awaits each flush: the machine has wires of its own
module _ (count : ℕ) (key : Row → ℕ) (stride : ℕ) (a : Carried) where
  own_tuple : ℕ → ℕ → Option Row
  own_tuple k zero = None
  own_tuple k (suc c) = slot_takes key (a.ends c) (a.tuple c) (keys_at count key stride a c) (slots_at count key stride a c) k

  own_end : ℕ → ℕ → Bool
  own_end k zero = false
  own_end k (suc c) = slot_ends_at count key stride a c && nat_eq k (slot_at count key stride a c)

  own_wires : AreSlots count key stride a (λ k. record { tuple = own_tuple k; ends = own_end k })
  unfolding own_tuple own_end
  own_wires = record { no_tuple = λ k l. refl; no_end = λ k l. refl; tuples = λ k c l. refl; ends = λ k c l. refl }

  pub first_awaited : 1 ≤ count → 1 ≤ stride → AwaitsTurns count stride a → (new : ℕ → Bool) → TellsNew count key stride a new → (c : ℕ)
      → (any_to count (λ k. takes_row_at count key stride a k c) && new c)
      ≡ any_to count (λ k. (takes_row_at count key stride a k c || ends_at count key stride a k c) && not (is_begun count key stride a k c))
  first_awaited some stride_some awaits new tells c =
      first_is (awaited count key stride a (λ k. record { tuple = own_tuple k; ends = own_end k }) some stride_some own_wires awaits) new tells c
