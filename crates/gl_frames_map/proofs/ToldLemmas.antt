-- What a look-up in memories tells of each row: whether it is kept, whether its key is new, and the slot of its key.
use Rattle.std.proofs.Common.{◌≡◌, ℕ, zero, suc, ◌<◌, ◌≤◌, List, [], ◌∷◌, Option, Some, None, Bool, true, false, length, refl, sym, ap, ◌∙◌, arith, eq-eqb, eqb-true}
use Rattle.std.specs.Prelude.{not, ◌&&◌, ◌||◌, if◌then◌else◌, is_some, nat_eq, nat_lt, option_to_list, slice_get}
use Rattle.std.specs.List.{list_any}
use Rattle.gl_bits.proofs.AllLists.{get_below, get_last}
use Rattle.gl_bits.proofs.Bools.{by_cases, same_when}
use Rattle.gl_values.specs.Results.{Row}
use Rattle.gl_values.specs.Tables.{with_key}
use Rattle.gl_wire.specs.Wire.{Carried}
use Rattle.gl_slots.specs.Slots.{is_further, of_slot, same_key}
use Rattle.gl_frames_keys.specs.Lanes.{first_keys, is_first, is_kept, leaves_out}
use Rattle.gl_frames_keys.proofs.OpenLemmas.{not_listed}
use Rattle.gl_frames_map.specs.Mapping.{Mapped, Maps}
use Rattle.gl_frames_map.proofs.PlaceLemmas.{Marks, added_is, added_room, is_added, listed_with, room_is, same_some, same_there, with_front}
use Rattle.gl_frames_map.proofs.MapLemmas.{Found, a_row, few, first_added, found, joined_marks, ks, right, row_joined}

module _ (n : ℕ) (key : Row → ℕ) (a : Carried) (m : Mapped) (g : Maps n m) (asks : (t : ℕ) → m.valid t ≡ is_some (a.tuple t))
    (value : (t : ℕ) (r : Row) → a.tuple t ≡ Some r → m.value t ≡ key r) (ends : (t : ℕ) → m.ends t ≡ a.ends t) (quiet : (c : ℕ) → c < 3 → a.tuple c ≡ None) where
  abbrev has : ℕ → List ℕ
  has c = ks n key a m g asks value ends quiet c

  -- the cycle of a row is not the first one
  later_row : (c : ℕ) (r : Row) → a.tuple c ≡ Some r → (d : ℕ) × (c ≡ suc d)
  later_row zero r p = absurd (let z = quiet 0 (omega arith) in cc (z, p))
  later_row (suc d) r p = (d, refl)

  without : (c : ℕ) → a.tuple c ≡ None → m.valid c ≡ false
  without c p = asks c ∙ ap is_some p

  module _ (c : ℕ) (r : Row) (p : a.tuple c ≡ Some r) where
    abbrev y : ℕ
    y = m.value c

    valid : m.valid c ≡ true
    valid = a_row n key a m g asks value ends quiet c r p

    told : Found n key a m g asks value ends quiet c
    told = found n key a m g asks value ends quiet c r p

    few_used : length (has c) ≤ n
    few_used = few n key a m g asks value ends quiet c

    used : m.used c ≡ length (has c)
    used = by c r p
      where
        by : (c : ℕ) (r : Row) → a.tuple c ≡ Some r → m.used c ≡ length (has c)
        by zero r p = absurd (let z = quiet 0 (omega arith) in cc (z, p))
        by (suc d) r p = (right n key a m g asks value ends quiet d).used

    -- the keys with the row's
    joined : first_keys n key a c ≡ with_key n (has c) y
    joined = row_joined n key a m g asks value ends quiet c r p

    listed : list_any (nat_eq (key r)) (first_keys n key a c) ≡ (list_any (nat_eq y) (has c) || nat_lt (length (has c)) n)
    listed = ap (λ z. list_any (nat_eq z) (first_keys n key a c)) (sym (value c r p)) ∙ ap (list_any (nat_eq y)) joined ∙ listed_with n (has c) y

    full : nat_eq (m.used c) n ≡ nat_eq (length (has c)) n
    full = ap (λ x. nat_eq x n) used

    further_row : m.further c ≡ not (list_any (nat_eq (key r)) (first_keys n key a c))
    further_row =
        g.further c ∙ ap (λ b. (b && not (m.known c)) && nat_eq (m.used c) n) valid ∙ ap (λ b. not b && nat_eq (m.used c) n) told.known
        ∙ by (list_any (nat_eq y) (has c)) (nat_eq (m.used c) n) (nat_lt (length (has c)) n) (room_is n (length (has c)) few_used ∙ sym (ap not full))
        ∙ sym (ap not listed)
      where
        by : (l f room : Bool) → room ≡ not f → (not l && f) ≡ not (l || room)
        by true f room e = refl
        by false true room e = sym (ap not e)
        by false false room e = sym (ap not e)

    first_row : m.first c ≡ (list_any (nat_eq (key r)) (first_keys n key a c) && not (list_any (nat_eq (key r)) (has c)))
    first_row =
        first_added n key a m g asks value ends quiet c r p used told ∙ by (list_any (nat_eq y) (has c)) (nat_lt (length (has c)) n)
        ∙ ap (λ b. b && not (list_any (nat_eq y) (has c))) (sym listed)
        ∙ ap (λ z. list_any (nat_eq (key r)) (first_keys n key a c) && not (list_any (nat_eq z) (has c))) (value c r p)
      where
        by : (l room : Bool) → (room && not l) ≡ ((l || room) && not l)
        by true true = refl
        by true false = refl
        by false true = refl
        by false false = refl

    -- the slot of a row that is kept has its key
    slot_known : m.known c ≡ true → slice_get (first_keys n key a c) (m.slot c) ≡ Some y
    slot_known e =
        let there = told.number e in
        let low = get_below (has c) (m.number c) y there in
        let d = later_row c r p in
        let slot : m.slot c ≡ m.number c = ap m.slot d.1 ∙ g.slot d.0 (omega (arith, low, few_used, ap m.number d.1)) ∙ ap m.number (sym d.1) in
        ap (slice_get (first_keys n key a c)) slot ∙ ap (λ xs. slice_get xs (m.number c)) joined ∙ with_front n (has c) y (m.number c) y there

    slot_new : is_added n (has c) y ≡ true → m.known c ≡ false → slice_get (first_keys n key a c) (m.slot c) ≡ Some y
    slot_new e k =
        let number = told.next k in
        let d = later_row c r p in
        let slot : m.slot c ≡ m.number c = ap m.slot d.1 ∙ g.slot d.0 (omega (arith, number, added_room n (has c) y e, ap m.number d.1)) ∙ ap m.number (sym d.1) in
        ap (slice_get (first_keys n key a c)) (slot ∙ number) ∙ ap (λ xs. slice_get xs (length (has c))) (joined ∙ added_is n (has c) y e) ∙ get_last (has c) y

    slot_there : list_any (nat_eq (key r)) (first_keys n key a c) ≡ true → slice_get (first_keys n key a c) (m.slot c) ≡ Some y
    slot_there h = by_cases (m.known c) slot_known (λ k. slot_new (by (list_any (nat_eq y) (has c)) (nat_lt (length (has c)) n) (sym told.known ∙ k) (sym listed ∙ h)) k)
      where
        by : (l room : Bool) → l ≡ false → (l || room) ≡ true → (room && not l) ≡ true
        by true room e q = absurd (cc)
        by false true e q = refl
        by false false e q = absurd (cc)

    -- and no other slot has it
    marked : (d : ℕ) → c ≡ suc d → Marks (first_keys n key a c) (m.place (suc c)) (m.kept (suc c))
    marked d e = by c e told_here
      where
        told_here : (r : Row) → a.tuple c ≡ Some r → Found n key a m g asks value ends quiet c
        told_here = found n key a m g asks value ends quiet c

        by : (c : ℕ) → c ≡ suc d → ((r : Row) → a.tuple c ≡ Some r → Found n key a m g asks value ends quiet c)
            → Marks (first_keys n key a c) (m.place (suc c)) (m.kept (suc c))
        by zero e f = absurd (omega (arith, e))
        by (suc c) e f = joined_marks n key a m g asks value ends quiet c (right n key a m g asks value ends quiet c) f

    slot_is : (k : ℕ) → list_any (nat_eq (key r)) (first_keys n key a c) ≡ true → nat_eq (m.slot c) k ≡ same_key (slice_get (first_keys n key a c) k) (key r)
    slot_is k h =
        let d = later_row c r p in
        let marks = marked d.0 d.1 in
        same_when (nat_eq (m.slot c) k) (same_key (slice_get (first_keys n key a c) k) (key r))
        (λ e. same_there (slice_get (first_keys n key a c) k) (key r) (ap (slice_get (first_keys n key a c)) (sym (eqb-true (m.slot c) k e)) ∙ slot_there h ∙ ap Some (value c r p)))
        (λ e. eq-eqb (m.slot c) k (sym (marks.at_key (m.slot c) y (slot_there h)) ∙ marks.at_key k y (same_some (slice_get (first_keys n key a c) k) (key r) e ∙ ap Some (sym (value c r p)))))

  -- ---- what is told in a cycle

  module _ (c : ℕ) where
    pub further_is : m.further c ≡ leaves_out n key a c
    further_is = by (a.tuple c) refl
      where
        by : (o : Option Row) → a.tuple c ≡ o → m.further c ≡ leaves_out n key a c
        by None p =
            g.further c ∙ ap (λ b. (b && not (m.known c)) && nat_eq (m.used c) n) (without c p)
            ∙ sym (ap (is_further key (first_keys n key a c)) p)
        by (Some r) p = further_row c r p ∙ sym (ap (is_further key (first_keys n key a c)) p)

    double : (b : Bool) → not (not b) ≡ b
    double true = refl
    double false = refl

    pub kept_is : (m.valid c && not (m.further c)) ≡ is_kept n key a c (a.tuple c)
    kept_is = by (a.tuple c) refl
      where
        by : (o : Option Row) → a.tuple c ≡ o → (m.valid c && not (m.further c)) ≡ is_kept n key a c (a.tuple c)
        by None p = ap (λ b. b && not (m.further c)) (without c p) ∙ sym (ap (is_kept n key a c) p)
        by (Some r) p =
            ap (λ b. b && not (m.further c)) (valid c r p) ∙ ap not (further_row c r p)
            ∙ double (list_any (nat_eq (key r)) (first_keys n key a c)) ∙ sym (ap (is_kept n key a c) p)

    pub first_is : m.first c ≡ is_first n key a c (a.tuple c)
    first_is = by (a.tuple c) refl
      where
        by : (o : Option Row) → a.tuple c ≡ o → m.first c ≡ is_first n key a c (a.tuple c)
        by None p =
            g.first c ∙ ap (λ b. (b && not (m.known c)) && not (m.further c)) (without c p) ∙ sym (ap (is_first n key a c) p)
        by (Some r) p = first_row c r p ∙ sym (ap (is_first n key a c) p)

  -- a slot takes the row of its key
  module _ (row : ℕ → Row) (is_row : (t : ℕ) (r : Row) → a.tuple t ≡ Some r → row t ≡ r) where
    pub takes_row : (c k : ℕ) → (if nat_eq (m.slot c) k then (if m.valid c && not (m.further c) then row c ∷ [] else []) else [])
        ≡ option_to_list (of_slot key (first_keys n key a c) k (a.tuple c))
    takes_row c k = by (a.tuple c) refl
      where
        none : (b : Bool) (xs : List Row) → xs ≡ [] → (if b then xs else []) ≡ []
        none true xs e = e
        none false xs e = refl

        chosen : (b s : Bool) (r : Row) → b ≡ s → (if b then r ∷ [] else []) ≡ option_to_list (if s then Some r else None)
        chosen true true r e = refl
        chosen true false r e = absurd (cc)
        chosen false true r e = absurd (cc)
        chosen false false r e = refl

        kept_row : (r : Row) → a.tuple c ≡ Some r → (l : Bool) → list_any (nat_eq (key r)) (first_keys n key a c) ≡ l
            → (if nat_eq (m.slot c) k then (if l then row c ∷ [] else []) else []) ≡ option_to_list (if same_key (slice_get (first_keys n key a c) k) (key r) then Some r else None)
        kept_row r p true e =
            ap (λ (z : Row). if nat_eq (m.slot c) k then z ∷ [] else []) (is_row c r p)
            ∙ chosen (nat_eq (m.slot c) k) (same_key (slice_get (first_keys n key a c) k) (key r)) r (slot_is c r p k e)
        kept_row r p false e =
            none (nat_eq (m.slot c) k) [] refl ∙ sym (ap (λ (b : Bool). option_to_list (if b then Some r else None)) (not_listed (first_keys n key a c) (key r) k e))

        by : (o : Option Row) → a.tuple c ≡ o → (if nat_eq (m.slot c) k then (if m.valid c && not (m.further c) then row c ∷ [] else []) else [])
            ≡ option_to_list (of_slot key (first_keys n key a c) k (a.tuple c))
        by None p =
            ap (λ (b : Bool). if nat_eq (m.slot c) k then (if b && not (m.further c) then row c ∷ [] else []) else []) (without c p)
            ∙ none (nat_eq (m.slot c) k) [] refl ∙ sym (ap (λ o. option_to_list (of_slot key (first_keys n key a c) k o)) p)
        by (Some r) p =
            ap (λ (b : Bool). if nat_eq (m.slot c) k then (if b then row c ∷ [] else []) else []) (kept_is c ∙ ap (is_kept n key a c) p)
            ∙ kept_row r p (list_any (nat_eq (key r)) (first_keys n key a c)) refl
            ∙ sym (ap (λ o. option_to_list (of_slot key (first_keys n key a c) k o)) p)
