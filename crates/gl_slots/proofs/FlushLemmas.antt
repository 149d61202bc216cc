-- The flush after the end of a stream: each slot that is used takes its end in its turn.
use Rattle.std.proofs.Common.{◌≡◌, ℕ, zero, suc, ◌+◌, ◌-◌, ◌*◌, ◌<◌, ◌≤◌, List, [], ◌∷◌, ◌++◌, length, take, take_all, map, Some, None, Bool, true, false, ◌&&◌, refl, sym, ap, ◌∙◌, subst, arith, inl, inr, mul-le-mul_right}
use Rattle.std.specs.Prelude.{option_to_list, if◌then◌else◌, nat_eq, nat_lt, slice_get}
use Rattle.std.proofs.lemmas.Bool.{cases_lt, eqb-true, eq-eqb, ne_eqb, and_from, and_left, and_right, lt-ltb, le-ltb}
use Rattle.std.proofs.lemmas.List.{append-nil, map-append}
use Rattle.gl_values.specs.Lists.{rows_with}
use Rattle.gl_values.specs.Results.{Row}
use Rattle.gl_bits.proofs.AllLists.{get_past}
use Rattle.gl_wire.specs.Apart.{Carries, a_tuple, an_end}
use Rattle.gl_wire.specs.Wire.{pending, stream}
use Rattle.gl_wire.specs.Lift.{Visits}
use Rattle.gl_slots.specs.Slots.{Slots, freed, keys_now, of_slot, slots_next, who_slots, rows_of_key}
use Rattle.gl_slots.proofs.Setting.{Setting}
use Rattle.gl_wire.proofs.NumberLemmas.{mul_below}
use Rattle.gl_wire.proofs.VisitLemmas.{did_none, did_one, visits_none}
use Rattle.gl_slots.proofs.KeyLemmas.{key_below, rows-push}
use Rattle.gl_slots.proofs.SlotLemmas.{Step, Flow, Flush, few_keys, grows, stops, group_of, group_shown, of_group}

pub none_taken : {A : Type 0} (n : ℕ) → take {A = A} n [] ≡ []
none_taken zero = refl
none_taken (suc n) = refl

module _ (front : Setting) where
  open front use {count, key, stride, a, ins}

  abbrev who : Visits
  who = who_slots count key stride a

  no_carry : (c : ℕ) (s : Slots) → Step front c false None s → Carries a c → ⊥
  no_carry c s step (a_tuple r h) = let x = step.is_tuple in cc (x, h)
  no_carry c s step (an_end h) = let x = step.is_end in cc (x, h)

  pub flush_idle : (c : ℕ) (s : Slots) (lo u : ℕ) (xs : List Row) → Flush front c s lo u xs → Step front c false None s → Flush front (suc c) (slots_next stride false None (keys_now count key false None s) s) lo u xs
  flush_idle c s lo u xs h step = by (nat_eq s.wait 0) refl
    where
      still_quiet : (x : ℕ) → u < x → x < suc c → Carries a x → ⊥
      still_quiet x l n k = elim (cases_lt x c) [ inl y ↦ h.quiet x l y k | inr y ↦ (let e : x ≡ c = omega (arith, n, y) in no_carry c s step (subst (Carries a) e k)) ]

      still_empty : pending a (suc c) ≡ []
      still_empty = rw (step.is_end, step.is_tuple, h.empty) refl

      still_rest : who (suc c) ≡ None → (x k : ℕ) → u + count * stride + 1 ≤ x → x ≤ suc c → who x ≡ Some k → ⊥
      still_rest seen x k l n y = elim (cases_lt c x) [
        | inl z ↦ (let e : x ≡ suc c = omega (arith, n, z) in let f = ap who e in cc (f, seen, y))
        | inr z ↦ h.rest x k l z y
      ]

      few : length s.keys ≤ count
      few = few_keys front (stream a u) s.keys h.keys

      quietly : ((s.flush && nat_eq s.wait 0) && nat_lt s.turn (length s.keys)) ≡ false → (k : ℕ) → k < count → pending (ins k) (suc (suc c)) ≡ pending (ins k) (suc c)
      quietly stays k l = grows front k c None (step.ends k l ∙ and_left _ _ stays) (step.tuples k l ∙ ap (λ z. if z then of_slot key s.keys k s.held else None) (and_left _ (nat_eq k s.turn) stays)) ∙ append-nil _

      unseen : ((s.flush && nat_eq s.wait 0) && nat_lt s.turn (length s.keys)) ≡ false → who (suc c) ≡ None
      unseen stays = step.visit ∙ ap (λ (z : Bool). if z then Some s.turn else None) stays

      by : (x : Bool) → nat_eq s.wait 0 ≡ x → Flush front (suc c) (record s { turn = if s.flush && nat_eq s.wait 0 then suc s.turn else s.turn; wait = if s.flush then (if nat_eq s.wait 0 then stride - 1 else (s.wait - 1)) else s.wait }) lo u xs
      by false p =
          let stays : ((s.flush && nat_eq s.wait 0) && nat_lt s.turn (length s.keys)) ≡ false = and_left _ _ (and_right _ _ p) in
          let some : 1 ≤ s.wait = positive s.wait p in
          let turn_is : (if s.flush && nat_eq s.wait 0 then suc s.turn else s.turn) ≡ s.turn = ap (λ (z : Bool). if z then suc s.turn else s.turn) (and_right s.flush (nat_eq s.wait 0) p) in
          let wait_is : (if s.flush then (if nat_eq s.wait 0 then stride - 1 else (s.wait - 1)) else s.wait) ≡ s.wait - 1 = ap (λ (z : Bool). if z then (if nat_eq s.wait 0 then stride - 1 else (s.wait - 1)) else s.wait) h.flush ∙ ap (λ (z : Bool). if z then stride - 1 else (s.wait - 1)) p in
          record {
            end = h.end;
            past = omega (arith, h.past);
            quiet = still_quiet;
            empty = still_empty;
            is = h.is;
            flush = h.flush;
            keys = h.keys;
            time = rw (turn_is, wait_is) (omega (arith, h.time, some));
            once = rw turn_is h.once;
            small = rw wait_is (omega (arith, h.small));
            slots = λ k l m. quietly stays k m ∙ h.slots k (rw turn_is at l) m;
            over = λ k l m. quietly stays k m ∙ h.over k (rw turn_is at l) m;
            from = omega (arith, h.from);
            done = did_none (of_group front) who ins lo c h.from (unseen stays) ∙ h.done ∙ ap (λ z. map (group_of front (stream a u)) (take z s.keys)) (sym turn_is);
            rest = still_rest (unseen stays);
          }
        where
          positive : (n : ℕ) → nat_eq n 0 ≡ false → 1 ≤ n
          positive zero e = absurd (cc)
          positive (suc n) e = omega arith
      by true p =
          let zero_wait : s.wait ≡ 0 = eqb-true s.wait 0 p in
          let both : (s.flush && nat_eq s.wait 0) ≡ true = and_from _ _ h.flush p in
          let turn_is : (if s.flush && nat_eq s.wait 0 then suc s.turn else s.turn) ≡ suc s.turn = ap (λ (z : Bool). if z then suc s.turn else s.turn) both in
          let wait_is : (if s.flush then (if nat_eq s.wait 0 then stride - 1 else (s.wait - 1)) else s.wait) ≡ stride - 1 = ap (λ (z : Bool). if z then (if nat_eq s.wait 0 then stride - 1 else (s.wait - 1)) else s.wait) h.flush ∙ ap (λ (z : Bool). if z then stride - 1 else (s.wait - 1)) p in
          elim (cases_lt s.turn (length s.keys)) [
            | inl l ↦
                let now : ((s.flush && nat_eq s.wait 0) && nat_lt s.turn (length s.keys)) ≡ true = and_from _ _ both (lt-ltb _ _ l) in
                let y = key_below s.keys s.turn l in
                let seen : who (suc c) ≡ Some s.turn = step.visit ∙ ap (λ (z : Bool). if z then Some s.turn else None) now in
                let mine : s.turn < count = omega (arith, l, few) in
                let took : (ins s.turn).tuple (suc c) ≡ of_slot key s.keys s.turn s.held = step.tuples s.turn mine ∙ ap (λ z. if z then of_slot key s.keys s.turn s.held else None) (and_from _ _ now (eq-eqb s.turn s.turn refl)) in
                let shown : stream (ins s.turn) (suc c) ≡ rows_with key (stream a u) y.0 =
                ap (λ z. pending (ins s.turn) (suc c) ++ option_to_list z) took
                ∙ ap (λ z. z ++ option_to_list (of_slot key s.keys s.turn s.held)) (h.slots s.turn (omega arith) mine)
                ∙ sym (rows-push key xs s.held s.keys s.turn) ∙ ap (rows_of_key key (xs ++ option_to_list s.held)) y.1 ∙ ap (λ z. rows_with key z y.0) (sym h.is)
                in
                record {
                  end = h.end;
                  past = omega (arith, h.past);
                  quiet = still_quiet;
                  empty = still_empty;
                  is = h.is;
                  flush = h.flush;
                  keys = h.keys;
                  time = rw (turn_is, wait_is) (omega (arith, h.time, zero_wait, front.stride_some));
                  once = rw turn_is (omega arith);
                  small = rw wait_is (omega (arith, front.stride_some));
                  slots = λ k g m. let z : suc s.turn ≤ k = rw turn_is at g in
                      let other : nat_eq k s.turn ≡ false = ne_eqb k s.turn (λ e. omega (arith, e, z)) in
                      grows front k c None (step.ends k m ∙ and_right _ _ other) (step.tuples k m ∙ ap (λ w. if w then of_slot key s.keys k s.held else None) (and_right ((s.flush && nat_eq s.wait 0) && nat_lt s.turn (length s.keys)) (nat_eq k s.turn) other)) ∙ append-nil _ ∙ h.slots k (omega (arith, z)) m;
                  over = λ k g m. let z : k < suc s.turn = rw turn_is at g in elim (cases_lt k s.turn) [
                    | inl w ↦ (let other : nat_eq k s.turn ≡ false = ne_eqb k s.turn (λ e. omega (arith, e, w)) in
                        grows front k c None (step.ends k m ∙ and_right _ _ other) (step.tuples k m ∙ ap (λ w. if w then of_slot key s.keys k s.held else None) (and_right ((s.flush && nat_eq s.wait 0) && nat_lt s.turn (length s.keys)) (nat_eq k s.turn) other)) ∙ append-nil _ ∙ h.over k w m)
                    | inr w ↦ (let e : k ≡ s.turn = omega (arith, z, w) in stops front k c (step.ends k m ∙ and_from _ _ now (eq-eqb k s.turn e)))
                  ];
                  from = omega (arith, h.from);
                  done = did_one (of_group front) who ins lo c s.turn h.from seen ∙ ap (λ z. z ++ of_group front (suc c, stream (ins s.turn) (suc c)) ∷ []) h.done ∙ ap (λ z. map (group_of front (stream a u)) (take s.turn s.keys) ++ z ∷ []) (group_shown front c s.turn y.0 s.keys (rows_with key (stream a u) y.0) step.stays seen y.1 shown)
                      ∙ sym (map-append (group_of front (stream a u)) (take s.turn s.keys) (y.0 ∷ [])) ∙ ap (map (group_of front (stream a u))) (sym y.2) ∙ ap (λ z. map (group_of front (stream a u)) (take z s.keys)) (sym turn_is);
                  rest = λ x k g m w. elim (cases_lt c x) [
                    | inl z ↦ (let r : suc s.turn * stride ≤ count * stride = mul-le-mul_right stride mine in omega (arith, r, h.time, zero_wait, g, m, front.stride_some))
                    | inr z ↦ h.rest x k g z w
                  ];
                }
            | inr l ↦
                let stays : ((s.flush && nat_eq s.wait 0) && nat_lt s.turn (length s.keys)) ≡ false = and_right _ _ (le-ltb _ _ l) in
                record {
                  end = h.end;
                  past = omega (arith, h.past);
                  quiet = still_quiet;
                  empty = still_empty;
                  is = h.is;
                  flush = h.flush;
                  keys = h.keys;
                  time = rw (turn_is, wait_is) (omega (arith, h.time, zero_wait, front.stride_some));
                  once = rw turn_is (omega arith);
                  small = rw wait_is (omega (arith, front.stride_some));
                  slots = λ k g m. let z : suc s.turn ≤ k = rw turn_is at g in quietly stays k m ∙ h.slots k (omega (arith, z)) m;
                  over = λ k g m. let z : k < suc s.turn = rw turn_is at g in quietly stays k m ∙ elim (cases_lt k s.turn) [
                    | inl w ↦ h.over k w m
                    | inr w ↦ h.slots k w m ∙ ap (rows_of_key key xs) (get_past s.keys k (omega (arith, l, w)))
                  ];
                  from = omega (arith, h.from);
                  done = did_none (of_group front) who ins lo c h.from (unseen stays) ∙ h.done ∙ ap (map (group_of front (stream a u))) (take_all s.turn s.keys l ∙ sym (take_all (suc s.turn) s.keys (omega (arith, l)))) ∙ ap (λ z. map (group_of front (stream a u)) (take z s.keys)) (sym turn_is);
                  rest = still_rest (unseen stays);
                }
          ]

  -- once all turns have been, no slot is left
  pub flush_done : (c : ℕ) (s : Slots) (lo u : ℕ) (xs : List Row) → Flush front c s lo u xs → u + (count - 1) * stride + 1 ≤ c → count ≤ s.turn
  flush_done c s lo u xs h late =
      let later : (count - 1) * stride < s.turn * stride = omega (arith, h.time, late) in
      let z = mul_below (count - 1) s.turn stride later in omega (arith, z, front.slots_some)

  -- then the next stream begins
  pub fresh : (c : ℕ) (s : Slots) (lo u : ℕ) (xs : List Row) → Flush front c s lo u xs → u + (count * stride + 1) ≤ c → Flow front c s (u + count * stride + 2) []
  fresh c s lo u xs h late =
      let one : (count - 1) * stride ≤ count * stride = mul-le-mul_right stride (omega arith) in
      let done = flush_done c s lo u xs h (omega (arith, late, one)) in
      let free : freed s ≡ [] = ap (λ (z : Bool). if z then [] else s.keys) h.flush in
      record {
        is = h.empty;
        keys = free ∙ sym (none_taken count);
        slots = λ k l. h.over k (omega (arith, l, done)) l ∙ ap (λ z. rows_of_key key [] (slice_get z k)) (sym free);
        from = omega (arith, late);
        done = ap (map (of_group front)) (visits_none (of_group front) who ins (suc c - (u + count * stride + 2)) (u + count * stride + 2) (λ x k l m. h.rest x k (omega (arith, l)) (omega (arith, m, late))));
        calm = λ e. omega (arith, few_keys front (stream a u) s.keys h.keys, done);
      }
