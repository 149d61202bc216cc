-- One cycle of the front's registers is one step of the machine.
use Rattle.std.proofs.Common.{◌≡◌, ℕ, suc, ◌-◌, ◌<◌, ◌≤◌, List, [], length, Option, Some, None, Bool, true, false, refl, sym, ap, ◌∙◌, subst, arith, inl, inr}
use Rattle.std.specs.Prelude.{slice_get, not, ◌&&◌, ◌||◌, if◌then◌else◌, nat_eq, nat_lt, is_some}
use Rattle.std.specs.List.{list_any}
use Rattle.std.proofs.lemmas.Bool.{cases_lt, ne_eqb}
use Rattle.std.proofs.lemmas.Bool.Decides.{eqb_tells}
use Rattle.std.proofs.Math.Bool.{and-true, and-false}
use Rattle.gl_values.specs.Results.{Row}
use Rattle.gl_bits.proofs.Bools.{by_cases, same_test}
use Rattle.gl_wire_registers.specs.Held.{counted_down}
use Rattle.gl_wire_registers.specs.Lines.{any_to}
use Rattle.gl_slots.specs.Seeking.{Sought, asked, found, has, is_next, kept, matches, takes}
use Rattle.gl_slots.specs.Slots.{Slots, is_further, keys_now, of_slot, same_key, slot_ends, slot_now, slot_takes, slots_next, with_tuple}
use Rattle.gl_slots.specs.Values.{Cycle, Mirrors, Steps, Values, at_of, due_of, end_of, sought_of, tail_of, valid_of}
use Rattle.gl_slots.proofs.SeekLemmas.{get_some, has_is, joined, later_few, left_is, matches_is, new_is, next_at, next_used}

abbrev pub tuple_of : Bool → Row → Option Row
tuple_of v x = if v then Some x else None

-- the keys before what comes
abbrev pub base : Bool → Bool → Slots → List ℕ
base e v s = if s.flush && (v || e) then [] else s.keys

pub keys_are : (count : ℕ) (key : Row → ℕ) (e v : Bool) (x : Row) (s : Slots) → keys_now count key e (tuple_of v x) s ≡ joined count v (key x) (base e v s)
keys_are count key true true x s = ap (λ b. with_tuple count key (Some x) (if b then [] else s.keys)) (sym (and-true s.flush))
keys_are count key true false x s = ap (λ b. if b then [] else s.keys) (sym (and-true s.flush))
keys_are count key false true x s = ap (λ b. with_tuple count key (Some x) (if b then [] else s.keys)) (sym (and-true s.flush))
keys_are count key false false x s = ap (λ b. if b then [] else s.keys) (sym (and-false s.flush))

-- which slots come before a turn
turn_test : (count k n : ℕ) → k < count → nat_eq (count - n) (count - k) ≡ nat_eq k n
turn_test count k n l = same_test (count - n) (count - k) k n (λ e. omega (arith, e, l)) (λ e. ap (λ i. count - i) (sym e))

all_test : (count k : ℕ) → k < count → nat_eq count (count - k) ≡ nat_eq k 0
all_test count k l = same_test count (count - k) k 0 (λ e. omega (arith, e, l)) (λ e. omega (arith, e))

at_turn : (x : Bool) (q k : ℕ) (f : ℕ → Bool) → ((x && nat_eq k q) && f k) ≡ ((x && f q) && nat_eq k q)
at_turn x q k f = elim (eqb_tells k q) [
  | inl h ↦ (let a = h.0 in rw (a, and-true x, and-true (x && f q)) (ap (λ n. x && f n) h.1))
  | inr h ↦ (let a = h.0 in rw (a, and-false x, and-false (x && f q)) refl)
]

module _ (count stride : ℕ) (key : Row → ℕ) (some : 1 ≤ count) (s : Slots) (p : Values) (m : Mirrors count s p) (e v : Bool) (x : Row) (y : ℕ) (is_key : v ≡ true → y ≡ key x) where
  abbrev pub cycle : Cycle
  cycle = record { end = e; valid = v; row = x; value = y }

  abbrev pub seen : Sought
  seen = sought_of cycle p

  abbrev pub ks : List ℕ
  ks = keys_now count key e (tuple_of v x) s

  -- what the slots show before and after
  shown : (k : ℕ) → k < count → slice_get (base e v s) k ≡ (if kept seen k then Some (p.key k) else None)
  shown k l = ap (λ b. slice_get (if b && (v || e) then [] else s.keys) k) (sym m.flush) ∙ by (p.flush && (v || e))
    where
      by : (b : Bool) → slice_get (if b then [] else s.keys) k ≡ (if p.used k && not b then Some (p.key k) else None)
      by true = rw (and-false (p.used k)) refl
      by false = rw (and-true (p.used k)) (m.slots k l)

  few_base : length (base e v s) ≤ count
  few_base = by (s.flush && (v || e))
    where
      by : (b : Bool) → length (if b then [] else s.keys) ≤ count
      by true = omega arith
      by false = m.few

  -- the keys with what comes
  keys_later : ks ≡ joined count v y (base e v s)
  keys_later = keys_are count key e v x s ∙ by v is_key
    where
      by : (w : Bool) → (w ≡ true → y ≡ key x) → joined count w (key x) (base e v s) ≡ joined count w y (base e v s)
      by true h = ap (λ n. joined count true n (base e v s)) (sym (h refl))
      by false h = refl

  has_now : (k : ℕ) → k < count → has count seen k ≡ is_some (slice_get ks k)
  has_now k l = has_is count (base e v s) seen shown few_base k l ∙ ap (λ zs. is_some (slice_get zs k)) (sym keys_later)

  matches_now : (k : ℕ) → k < count → matches count seen k ≡ same_key (slice_get ks k) y
  matches_now k l = matches_is count (base e v s) seen shown few_base k l ∙ ap (λ zs. same_key (slice_get zs k) y) (sym keys_later)

  shown_next : (k : ℕ) → k < count → slice_get ks k ≡ (if has count seen k then Some (if takes count seen k then y else p.key k) else None)
  shown_next k l = ap (λ zs. slice_get zs k) keys_later ∙ next_at count (base e v s) seen shown few_base k l

  few_next : length ks ≤ count
  few_next = subst (λ (zs : List ℕ). length zs ≤ count) (sym keys_later) (later_few count (base e v s) seen shown few_base)

  -- whether a key that comes is new
  pub one_is : v ≡ true → any_to count (found seen) ≡ list_any (nat_eq y) (base e v s)
  one_is h = by (any_to count (found seen)) (list_any (nat_eq y) (base e v s)) (ap (λ b. b && not (any_to count (found seen))) (sym h) ∙ new_is count (base e v s) seen shown few_base ∙ ap (λ b. b && not (list_any (nat_eq y) (base e v s))) h)
    where
      by : (b c : Bool) → (true && not b) ≡ (true && not c) → b ≡ c
      by true true q = refl
      by false false q = refl
      by true false q = absurd (cc)
      by false true q = absurd (cc)

  -- a row of a further key is left over
  pub further_is : asked count seen count ≡ is_further key ks (tuple_of v x)
  further_is = left_is count (base e v s) seen shown few_base some ∙ ap (λ zs. v && not (list_any (nat_eq y) zs)) (sym keys_later) ∙ by v is_key
    where
      by : (w : Bool) → (w ≡ true → y ≡ key x) → (w && not (list_any (nat_eq y) ks)) ≡ is_further key ks (tuple_of w x)
      by true h = ap (λ n. not (list_any (nat_eq n) ks)) (h refl)
      by false h = refl

  -- the slot that ends
  abbrev fires : Bool
  fires = e || due_of cycle p

  slot_is : (k : ℕ) → k < count → (fires && nat_eq (at_of count cycle p) (count - k)) ≡ (fires && nat_eq k (slot_now e s))
  slot_is k l = by e
    where
      by : (b : Bool) → ((b || due_of cycle p) && nat_eq (if b then count else p.rest) (count - k)) ≡ ((b || due_of cycle p) && nat_eq k (slot_now b s))
      by true = all_test count k l
      by false = ap (λ n. due_of cycle p && nat_eq n (count - k)) m.rest ∙ ap (λ b. due_of cycle p && b) (turn_test count k s.turn l)

  ends_are : slot_ends e (tuple_of v x) ks s ≡ (fires && nat_lt (slot_now e s) (length ks))
  ends_are = by e v
    where
      by : (e' v' : Bool) → slot_ends e' (tuple_of v' x) ks s ≡ ((e' || ((p.flush && not (v' || e')) && nat_eq p.wait 0)) && nat_lt (slot_now e' s) (length ks))
      by true v' = refl
      by false true = rw (and-false p.flush) refl
      by false false = rw (and-true p.flush, m.flush, m.wait) refl

  pub end_is : (k : ℕ) → k < count → end_of count cycle p k ≡ (slot_ends e (tuple_of v x) ks s && nat_eq k (slot_now e s))
  end_is k l =
      ap (λ b. b && has count seen k) (slot_is k l) ∙ ap (λ b. (fires && nat_eq k (slot_now e s)) && b) (has_now k l ∙ get_some ks k)
      ∙ at_turn fires (slot_now e s) k (λ n. nat_lt n (length ks)) ∙ ap (λ b. b && nat_eq k (slot_now e s)) (sym ends_are)

  module _ (q : Values) (st : Steps count stride key cycle p q) where
    abbrev pub after : Slots
    after = slots_next stride e (tuple_of v x) ks s

    after_keys : after.keys ≡ ks
    after_keys = by e v
      where
        by : (e' v' : Bool) → (slots_next stride e' (tuple_of v' x) ks s).keys ≡ ks
        by true v' = refl
        by false true = refl
        by false false = refl

    after_flush : after.flush ≡ (e || (s.flush && not v))
    after_flush = by e v
      where
        by : (e' v' : Bool) → (slots_next stride e' (tuple_of v' x) ks s).flush ≡ (e' || (s.flush && not v'))
        by true v' = refl
        by false true = sym (and-false s.flush)
        by false false = sym (and-true s.flush)

    after_wait : after.wait ≡ counted_down (stride - 1) (stride - 1) e (s.flush && not (v || e)) s.wait
    after_wait = by e v
      where
        idle : (b : Bool) → (if b then (if nat_eq s.wait 0 then stride - 1 else (s.wait - 1)) else s.wait) ≡ counted_down (stride - 1) (stride - 1) false b s.wait
        idle true = refl
        idle false = refl

        by : (e' v' : Bool) → (slots_next stride e' (tuple_of v' x) ks s).wait ≡ counted_down (stride - 1) (stride - 1) e' (s.flush && not (v' || e')) s.wait
        by true v' = refl
        by false true = rw (and-false s.flush) refl
        by false false = rw (and-true s.flush) (idle s.flush)

    one_more : (n : ℕ) → (if nat_eq (count - n) 0 then 0 else (count - n - 1)) ≡ count - suc n
    one_more n = by (nat_eq (count - n) 0) refl
      where
        by : (b : Bool) → nat_eq (count - n) 0 ≡ b → (if b then 0 else (count - n - 1)) ≡ count - suc n
        by true h = elim (cases_lt n count) [
          | inl l ↦ (let z = ne_eqb (count - n) 0 (λ q. omega (arith, q, l)) in absurd (cc))
          | inr l ↦ omega (arith, l)
        ]
        by false h = omega arith

    after_turn : counted_down (count - 1) 0 e ((s.flush && not (v || e)) && nat_eq s.wait 0) (count - s.turn) ≡ count - after.turn
    after_turn = by e v
      where
        idle : (b : Bool) → counted_down (count - 1) 0 false b (count - s.turn) ≡ count - (if b then suc s.turn else s.turn)
        idle true = one_more s.turn
        idle false = refl

        by : (e' v' : Bool) → counted_down (count - 1) 0 e' ((s.flush && not (v' || e')) && nat_eq s.wait 0) (count - s.turn) ≡ count - (slots_next stride e' (tuple_of v' x) ks s).turn
        by true v' = refl
        by false true = rw (and-false s.flush) refl
        by false false = rw (and-true s.flush) (idle (s.flush && nat_eq s.wait 0))

    next_held : after.flush ≡ true → after.held ≡ (if q.held then Some q.row else None)
    next_held = by e v refl refl
      where
        by : (e' v' : Bool) → e ≡ e' → v ≡ v' → (slots_next stride e' (tuple_of v' x) ks s).flush ≡ true → (slots_next stride e' (tuple_of v' x) ks s).held ≡ (if q.held then Some q.row else None)
        by true true he hv h =
            let is : q.held ≡ true = st.held ∙ rw (he, hv) refl in
            let row : q.row ≡ x = st.row (rw hv refl) ∙ rw hv refl in
            rw (is, row) refl
        by true false he hv h =
            let is : q.held ≡ false = st.held ∙ rw (he, hv) (and-false p.held) in
            rw is refl
        by false true he hv h = absurd (cc)
        by false false he hv h =
            let is : q.held ≡ p.held = st.held ∙ rw he (and-true p.held) in
            let row : q.row ≡ p.row = st.row (rw hv (m.flush ∙ h)) ∙ rw hv refl in
            rw (is, row) (m.held h)

    -- what is asked of a key is what it is while its slot is used
    kept_key : (k : ℕ)
        → (if has count seen k then Some (if takes count seen k then y else p.key k) else None) ≡ (if has count seen k then Some (if is_next seen k then y else p.key k) else None)
    kept_key k = by_cases (has count seen k)
        (λ h. ap (λ b. if has count seen k then Some (if b then y else p.key k) else None) (sym (next_used count seen k h)))
        (λ h. ap (λ b. if b then Some (if takes count seen k then y else p.key k) else None) h ∙ sym (ap (λ b. if b then Some (if is_next seen k then y else p.key k) else None) h))

    -- one cycle is one step
    pub mirrors_next : Mirrors count after q
    mirrors_next = record {
      slots = λ k l.
          ap (λ zs. slice_get zs k) after_keys ∙ shown_next k l ∙ kept_key k
          ∙ ap (λ b. if b then Some (if is_next seen k then y else p.key k) else None) (sym (st.used k l))
          ∙ ap (λ n. if q.used k then Some n else None) (sym (st.keys k l));
      few = subst (λ (zs : List ℕ). length zs ≤ count) (sym after_keys) few_next;
      flush = st.flush ∙ ap (λ b. e || (b && not v)) m.flush ∙ sym after_flush;
      rest =
          st.rest ∙ ap (λ b. counted_down (count - 1) 0 e ((b && not (v || e)) && nat_eq p.wait 0) p.rest) m.flush
          ∙ ap (λ n. counted_down (count - 1) 0 e ((s.flush && not (v || e)) && nat_eq n 0) p.rest) m.wait
          ∙ ap (counted_down (count - 1) 0 e ((s.flush && not (v || e)) && nat_eq s.wait 0)) m.rest ∙ after_turn;
      wait =
          st.wait ∙ ap (λ b. counted_down (stride - 1) (stride - 1) e (b && not (v || e)) p.wait) m.flush
          ∙ ap (counted_down (stride - 1) (stride - 1) e (s.flush && not (v || e))) m.wait ∙ sym after_wait;
      held = next_held;
    }

    abbrev ends : ℕ → Bool → Bool → Bool
    ends k e' v' = slot_ends e' (tuple_of v' x) ks s && nat_eq k (slot_now e' s)

    abbrev tail : Bool → Bool → Bool
    tail e' v' = (e' && v') || ((p.flush && not (v' || e')) && p.held)

    abbrev same : ℕ → Bool
    same k = same_key (slice_get ks k) y

    -- and what a slot takes in it
    pub taken_is : (k : ℕ) → k < count → slot_takes key e (tuple_of v x) ks s k ≡ (if valid_of count cycle p k then Some q.row else None)
    taken_is k l =
        by e v refl refl
        ∙ ap (λ b. if b && ((ends k e v && tail_of cycle p) || (v && not e)) then Some q.row else None) (sym (matches_now k l))
        ∙ ap (λ b. if matches count seen k && ((b && tail_of cycle p) || (v && not e)) then Some q.row else None) (sym (end_is k l))
      where
        turned : (a b : Bool) → (if a then (if b then Some q.row else None) else None) ≡ (if b && ((a && true) || false) then Some q.row else None)
        turned true true = refl
        turned true false = refl
        turned false b = rw (and-false b) refl

        nothing : (b : Bool) → (if b then of_slot key ks k None else None) ≡ None
        nothing true = refl
        nothing false = refl

        by_held : (h : Bool) → y ≡ key p.row → of_slot key ks k (if h then Some p.row else None) ≡ (if same k && (h || false) then Some p.row else None)
        by_held true w = ap (λ n. if same_key (slice_get ks k) n then Some p.row else None) (sym w) ∙ ap (λ b. if b then Some p.row else None) (sym (and-true (same k)))
        by_held false w = rw (and-false (same k)) refl

        -- an idle end takes what came with the end
        idle_end : (z : Bool) → (z ≡ true → s.flush ≡ true) → v ≡ false → (if z then of_slot key ks k s.held else None) ≡ (if same k && ((z && ((p.flush && true) && p.held)) || false) then Some q.row else None)
        idle_end false on hv = rw (and-false (same k)) refl
        idle_end true on hv =
            let f : p.flush ≡ true = m.flush ∙ on refl in
            let row : q.row ≡ p.row = st.row (rw hv f) ∙ rw hv refl in
            let wanted : y ≡ key p.row = st.value (rw hv f) ∙ rw hv refl in
            ap (of_slot key ks k) (m.held (on refl)) ∙ by_held p.held wanted
            ∙ ap (λ r. if same k && (p.held || false) then Some r else None) (sym row)
            ∙ ap (λ b. if same k && (((b && true) && p.held) || false) then Some q.row else None) (sym f)

        on_flush : (f a b c : Bool) → (((f && a) && b) && c) ≡ true → f ≡ true
        on_flush true a b c h = refl
        on_flush false a b c h = h

        by : (e' v' : Bool) → e ≡ e' → v ≡ v' → slot_takes key e' (tuple_of v' x) ks s k ≡ (if same k && ((ends k e' v' && tail e' v') || (v' && not e')) then Some q.row else None)
        by true true he hv =
            let row : q.row ≡ x = st.row (rw hv refl) ∙ rw hv refl in
            let c = nat_lt 0 (length ks) && nat_eq k 0 in
            ap (λ n. if c then (if same_key (slice_get ks k) n then Some x else None) else None) (sym (is_key hv))
            ∙ ap (λ (r : Row). if c then (if same k then Some r else None) else None) (sym row) ∙ turned c (same k)
        by true false he hv =
            nothing (nat_lt 0 (length ks) && nat_eq k 0)
            ∙ sym (ap (λ b. if same k && (((nat_lt 0 (length ks) && nat_eq k 0) && (b && p.held)) || false) then Some q.row else None) (and-false p.flush)
            ∙ ap (λ b. if same k && (b || false) then Some q.row else None) (and-false (nat_lt 0 (length ks) && nat_eq k 0)) ∙ ap (λ b. if b then Some q.row else None) (and-false (same k)))
        by false true he hv =
            let row : q.row ≡ x = st.row (rw hv refl) ∙ rw hv refl in
            ap (λ n. if same_key (slice_get ks k) n then Some x else None) (sym (is_key hv))
            ∙ ap (λ (r : Row). if same k then Some r else None) (sym row) ∙ ap (λ b. if b then Some q.row else None) (sym (and-true (same k)))
        by false false he hv =
            idle_end (((s.flush && nat_eq s.wait 0) && nat_lt s.turn (length ks)) && nat_eq k s.turn)
            (on_flush s.flush (nat_eq s.wait 0) (nat_lt s.turn (length ks)) (nat_eq k s.turn)) hv
