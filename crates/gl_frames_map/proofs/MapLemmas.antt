-- A look-up in memories has the keys of the stream: it finds the place of each of them.
use Rattle.std.proofs.Common.{◌≡◌, ℕ, zero, suc, ◌+◌, ◌<◌, ◌≤◌, List, [], ◌++◌, Option, Some, None, Bool, true, false, length, length-take, take, append-nil, refl, sym, ap, ◌∙◌, subst, arith, eq-eqb, eqb-true, lt-ltb}
use Rattle.std.specs.Prelude.{not, ◌&&◌, ◌||◌, if◌then◌else◌, is_some, nat_eq, nat_lt, option_to_list, slice_get}
use Rattle.std.specs.List.{list_any}
use Rattle.std.proofs.lemmas.Bool.{ltb-true}
use Rattle.gl_bits.proofs.AllLists.{get_below, get_there}
use Rattle.gl_bits.proofs.Bools.{and_both, and_left, and_right, by_cases, not_false, not_true, or_left, or_right, same_when}
use Rattle.gl_values.specs.Lists.{keys_of}
use Rattle.gl_values.specs.Results.{Row}
use Rattle.gl_values.specs.Tables.{with_key}
use Rattle.gl_wire.specs.Wire.{Carried, pending, stream}
use Rattle.gl_slots.proofs.KeyLemmas.{keys-push}
use Rattle.gl_frames_keys.specs.Lanes.{first_keys}
use Rattle.gl_frames_map.specs.Mapping.{Mapped, Maps, grows, is_far, is_hit, is_known, is_near, number_of, place_read}
use Rattle.gl_frames_map.proofs.PlaceLemmas.{Marks, added_is, added_new, added_room, any_at, is_added, listed_at, marks_none, marks_push, marks_same, room_is, same_is, with_front, with_last, with_longer, with_new}

module _ (n : ℕ) (key : Row → ℕ) (a : Carried) (m : Mapped) (g : Maps n m) (asks : (t : ℕ) → m.valid t ≡ is_some (a.tuple t))
    (value : (t : ℕ) (r : Row) → a.tuple t ≡ Some r → m.value t ≡ key r) (ends : (t : ℕ) → m.ends t ≡ a.ends t) (quiet : (c : ℕ) → c < 3 → a.tuple c ≡ None) where
  -- the first keys before a cycle
  abbrev pub ks : ℕ → List ℕ
  ks c = take n (keys_of key (pending a c))

  pub few : (c : ℕ) → length (ks c) ≤ n
  few c = omega (arith, length-take n (keys_of key (pending a c)))

  -- with what comes
  none_joined : (c : ℕ) → a.tuple c ≡ None → first_keys n key a c ≡ ks c
  none_joined c p = ap (λ o. take n (keys_of key (pending a c ++ option_to_list o))) p ∙ ap (λ xs. take n (keys_of key xs)) (append-nil (pending a c))

  pub row_joined : (c : ℕ) (r : Row) → a.tuple c ≡ Some r → first_keys n key a c ≡ with_key n (ks c) (m.value c)
  row_joined c r p =
      ap (λ o. take n (keys_of key (pending a c ++ option_to_list o))) p ∙ keys-push n key (pending a c) r
      ∙ ap (with_key n (ks c)) (sym (value c r p))

  next_keys : (c : ℕ) → m.ends c ≡ false → ks (suc c) ≡ first_keys n key a c
  next_keys c e = ap (λ (b : Bool). take n (keys_of key (if b then [] else stream a c))) (sym (ends c) ∙ e)

  no_keys : length (take n (keys_of key [])) ≡ 0
  no_keys = omega (arith, length-take n (keys_of key []))

  ended_keys : (c : ℕ) → m.ends c ≡ true → length (ks (suc c)) ≡ 0
  ended_keys c e = ap (λ (b : Bool). length (take n (keys_of key (if b then [] else stream a c)))) (sym (ends c) ∙ e) ∙ no_keys

  no_row : (c : ℕ) → a.tuple c ≡ None → m.valid c ≡ false
  no_row c p = asks c ∙ ap is_some p

  pub a_row : (c : ℕ) (r : Row) → a.tuple c ≡ Some r → m.valid c ≡ true
  a_row c r p = asks c ∙ ap is_some p

  -- ---- the keys one cycle later

  -- where no stream ends each key keeps its place
  stays : (c j z : ℕ) → m.ends c ≡ false → slice_get (ks c) j ≡ Some z → slice_get (ks (suc c)) j ≡ Some z
  stays c j z e h = ap (λ xs. slice_get xs j) (next_keys c e) ∙ by (a.tuple c) refl
    where
      by : (o : Option Row) → a.tuple c ≡ o → slice_get (first_keys n key a c) j ≡ Some z
      by None p = ap (λ xs. slice_get xs j) (none_joined c p) ∙ h
      by (Some r) p = ap (λ xs. slice_get xs j) (row_joined c r p) ∙ with_front n (ks c) (m.value c) j z h

  -- a key more is the one that came, at the end
  grown : (c : ℕ) → m.ends c ≡ false → length (ks c) < length (ks (suc c)) → slice_get (ks (suc c)) (length (ks c)) ≡ Some (m.value c)
  grown c e l = by (a.tuple c) refl
    where
      by : (o : Option Row) → a.tuple c ≡ o → slice_get (ks (suc c)) (length (ks c)) ≡ Some (m.value c)
      by None p = absurd (let z = ap length (next_keys c e ∙ none_joined c p) in omega (arith, z, l))
      by (Some r) p =
          let same = next_keys c e ∙ row_joined c r p in
          let z = ap length same in
          ap (λ xs. slice_get xs (length (ks c))) same ∙ with_last n (ks c) (m.value c) (omega (arith, z, l))

  -- a key that was not there came
  came : (c z : ℕ) → m.ends c ≡ false → list_any (nat_eq z) (ks (suc c)) ≡ true → list_any (nat_eq z) (ks c) ≡ false → (z ≡ m.value c) × (length (ks c) < length (ks (suc c)))
  came c z e h none = by (a.tuple c) refl
    where
      by : (o : Option Row) → a.tuple c ≡ o → (z ≡ m.value c) × (length (ks c) < length (ks (suc c)))
      by None p = absurd (let u = sym (ap (list_any (nat_eq z)) (next_keys c e ∙ none_joined c p)) ∙ h in cc (u, none))
      by (Some r) p =
          let same = next_keys c e ∙ row_joined c r p in
          let w = with_new n (ks c) (m.value c) z (sym (ap (list_any (nat_eq z)) same) ∙ h) none in
          let u = ap length same in
          (w.0, omega (arith, u, w.1))

  none_listed : (c z : ℕ) → length (ks c) ≡ 0 → list_any (nat_eq z) (ks c) ≡ true → ⊥
  none_listed c z none h = let w = listed_at (ks c) z h in omega (arith, none, get_below (ks c) w.0 z w.1)

  -- ---- what is told of a row

  -- as many slots are used as there are keys, and the words of both memories tell of them
  pub record Right (c : ℕ) : Type 0 where
    pub used : m.used c ≡ length (ks c)
    pub marks : Marks (ks c) (m.place c) (m.kept c)

  -- a key of the stream is found where it stands, and another one goes behind them
  pub record Found (c : ℕ) : Type 0 where
    pub known : m.known c ≡ list_any (nat_eq (m.value c)) (ks c)
    pub number : m.known c ≡ true → slice_get (ks c) (m.number c) ≡ Some (m.value c)
    pub next : m.known c ≡ false → m.number c ≡ length (ks c)

  module _ (t : ℕ) (zeroth : Right (suc t)) (first : Right (suc (suc t))) (here : Right (suc (suc (suc t)))) where
    abbrev y : ℕ
    y = m.value (suc (suc (suc t)))

    hit_place : is_hit m t ≡ true → slice_get (ks (suc (suc (suc t)))) (place_read m t) ≡ Some y
    hit_place h =
        let both = and_left (nat_lt (place_read m t) (m.used (suc (suc t))) && not (m.ends (suc (suc t)))) (nat_eq y (m.kept (suc (suc t)) (place_read m t))) h in
        let same = eqb-true y (m.kept (suc (suc t)) (place_read m t)) (and_right (nat_lt (place_read m t) (m.used (suc (suc t))) && not (m.ends (suc (suc t)))) (nat_eq y (m.kept (suc (suc t)) (place_read m t))) h) in
        let low = ltb-true (place_read m t) (m.used (suc (suc t))) (and_left (nat_lt (place_read m t) (m.used (suc (suc t)))) (not (m.ends (suc (suc t)))) both) in
        let open_still = not_true (m.ends (suc (suc t))) (and_right (nat_lt (place_read m t) (m.used (suc (suc t)))) (not (m.ends (suc (suc t)))) both) in
        let z = get_there (ks (suc (suc t))) (place_read m t) (omega (arith, low, first.used)) in
        stays (suc (suc t)) (place_read m t) y open_still (z.1 ∙ ap Some (sym (first.marks.at_slot (place_read m t) z.0 z.1) ∙ sym same))

    near_place : (is_near m t && grows m (suc (suc t))) ≡ true → slice_get (ks (suc (suc (suc t)))) (m.used (suc (suc t))) ≡ Some y
    near_place h =
        let near = and_left (is_near m t) (grows m (suc (suc t))) h in
        let same = eqb-true y (m.value (suc (suc t))) (and_left (nat_eq y (m.value (suc (suc t)))) (not (m.ends (suc (suc t)))) near) in
        let open_still = not_true (m.ends (suc (suc t))) (and_right (nat_eq y (m.value (suc (suc t)))) (not (m.ends (suc (suc t)))) near) in
        let more = ltb-true (m.used (suc (suc t))) (m.used (suc (suc (suc t)))) (and_right (is_near m t) (grows m (suc (suc t))) h) in
        ap (slice_get (ks (suc (suc (suc t))))) first.used
        ∙ grown (suc (suc t)) open_still (omega (arith, more, first.used, here.used)) ∙ ap Some (sym same)

    far_place : (is_far m t && grows m (suc t)) ≡ true → slice_get (ks (suc (suc (suc t)))) (m.used (suc t)) ≡ Some y
    far_place h =
        let far = and_left (is_far m t) (grows m (suc t)) h in
        let both = and_left (nat_eq y (m.value (suc t)) && not (m.ends (suc (suc t)))) (not (m.ends (suc t))) far in
        let same = eqb-true y (m.value (suc t)) (and_left (nat_eq y (m.value (suc t))) (not (m.ends (suc (suc t)))) both) in
        let open_still = not_true (m.ends (suc (suc t))) (and_right (nat_eq y (m.value (suc t))) (not (m.ends (suc (suc t)))) both) in
        let open_before = not_true (m.ends (suc t)) (and_right (nat_eq y (m.value (suc t)) && not (m.ends (suc (suc t)))) (not (m.ends (suc t))) far) in
        let more = ltb-true (m.used (suc t)) (m.used (suc (suc t))) (and_right (is_far m t) (grows m (suc t)) h) in
        stays (suc (suc t)) (m.used (suc t)) y open_still
        (ap (slice_get (ks (suc (suc t)))) zeroth.used
        ∙ grown (suc t) open_before (omega (arith, more, zeroth.used, first.used)) ∙ ap Some (sym same))

    -- where a key is found it stands
    number_right : is_known m t ≡ true → slice_get (ks (suc (suc (suc t)))) (number_of m t) ≡ Some y
    number_right h = by (is_hit m t) refl (is_near m t && grows m (suc (suc t))) refl (is_far m t && grows m (suc t)) refl h
      where
        by : (p : Bool) → is_hit m t ≡ p → (q : Bool) → (is_near m t && grows m (suc (suc t))) ≡ q → (s : Bool) → (is_far m t && grows m (suc t)) ≡ s
            → ((p || q) || s) ≡ true
            → slice_get (ks (suc (suc (suc t)))) (if p then place_read m t else (if q then m.used (suc (suc t)) else (if s then m.used (suc t) else m.used (suc (suc (suc t)))))) ≡ Some y
        by true p q f s k h = hit_place p
        by false p true f s k h = near_place f
        by false p false f true k h = far_place k
        by false p false f false k h = absurd (cc)

    -- where none is found the next one is told
    next_right : is_known m t ≡ false → number_of m t ≡ length (ks (suc (suc (suc t))))
    next_right h = by (is_hit m t) (is_near m t && grows m (suc (suc t))) (is_far m t && grows m (suc t)) h ∙ here.used
      where
        by : (p q s : Bool) → ((p || q) || s) ≡ false
            → (if p then place_read m t else (if q then m.used (suc (suc t)) else (if s then m.used (suc t) else m.used (suc (suc (suc t)))))) ≡ m.used (suc (suc (suc t)))
        by true q s h = absurd (cc)
        by false true s h = absurd (cc)
        by false false true h = absurd (cc)
        by false false false h = refl

    -- a key that stood there two cycles before is read
    read_known : (open_still : m.ends (suc (suc t)) ≡ false) (open_before : m.ends (suc t) ≡ false) → list_any (nat_eq y) (ks (suc t)) ≡ true → is_hit m t ≡ true
    read_known open_still open_before h =
        let w = listed_at (ks (suc t)) y h in
        let place = zeroth.marks.at_key w.0 y w.1 in
        let there = stays (suc t) w.0 y open_before w.1 in
        let low = get_below (ks (suc (suc t))) w.0 y there in
        let lower = lt-ltb (place_read m t) (m.used (suc (suc t))) (omega (arith, place, low, first.used)) in
        let kept = ap (m.kept (suc (suc t))) place ∙ first.marks.at_slot w.0 y there in
        and_both (nat_lt (place_read m t) (m.used (suc (suc t))) && not (m.ends (suc (suc t)))) (nat_eq y (m.kept (suc (suc t)) (place_read m t)))
        (and_both (nat_lt (place_read m t) (m.used (suc (suc t)))) (not (m.ends (suc (suc t)))) lower (not_false (m.ends (suc (suc t))) open_still))
        (eq-eqb y (m.kept (suc (suc t)) (place_read m t)) (sym kept))

    far_known : (open_still : m.ends (suc (suc t)) ≡ false) (open_before : m.ends (suc t) ≡ false) → list_any (nat_eq y) (ks (suc (suc t))) ≡ true → list_any (nat_eq y) (ks (suc t)) ≡ false
        → (is_far m t && grows m (suc t)) ≡ true
    far_known open_still open_before h none =
        let w = came (suc t) y open_before h none in
        and_both (is_far m t) (grows m (suc t))
        (and_both (nat_eq y (m.value (suc t)) && not (m.ends (suc (suc t)))) (not (m.ends (suc t)))
        (and_both (nat_eq y (m.value (suc t))) (not (m.ends (suc (suc t)))) (eq-eqb y (m.value (suc t)) w.0) (not_false (m.ends (suc (suc t))) open_still))
        (not_false (m.ends (suc t)) open_before))
        (lt-ltb (m.used (suc t)) (m.used (suc (suc t))) (omega (arith, w.1, zeroth.used, first.used)))

    near_known : (open_still : m.ends (suc (suc t)) ≡ false) → list_any (nat_eq y) (ks (suc (suc (suc t)))) ≡ true → list_any (nat_eq y) (ks (suc (suc t))) ≡ false
        → (is_near m t && grows m (suc (suc t))) ≡ true
    near_known open_still h none =
        let w = came (suc (suc t)) y open_still h none in
        and_both (is_near m t) (grows m (suc (suc t)))
        (and_both (nat_eq y (m.value (suc (suc t)))) (not (m.ends (suc (suc t)))) (eq-eqb y (m.value (suc (suc t))) w.0) (not_false (m.ends (suc (suc t))) open_still))
        (lt-ltb (m.used (suc (suc t))) (m.used (suc (suc (suc t)))) (omega (arith, w.1, first.used, here.used)))

    hit_is_known : is_hit m t ≡ true → is_known m t ≡ true
    hit_is_known e = or_left (is_hit m t || (is_near m t && grows m (suc (suc t)))) (is_far m t && grows m (suc t)) (or_left (is_hit m t) (is_near m t && grows m (suc (suc t))) e)

    near_is_known : (is_near m t && grows m (suc (suc t))) ≡ true → is_known m t ≡ true
    near_is_known e = or_left (is_hit m t || (is_near m t && grows m (suc (suc t)))) (is_far m t && grows m (suc t)) (or_right (is_hit m t) (is_near m t && grows m (suc (suc t))) e)

    far_is_known : (is_far m t && grows m (suc t)) ≡ true → is_known m t ≡ true
    far_is_known e = or_right (is_hit m t || (is_near m t && grows m (suc (suc t)))) (is_far m t && grows m (suc t)) e

    listed_known : list_any (nat_eq y) (ks (suc (suc (suc t)))) ≡ true → is_known m t ≡ true
    listed_known h = by_cases (m.ends (suc (suc t)))
        (λ e. absurd (none_listed (suc (suc (suc t))) y (ended_keys (suc (suc t)) e) h))
        (λ e. by_cases (list_any (nat_eq y) (ks (suc (suc t)))) (λ p. older e p) (λ p. near_is_known (near_known e h p)))
      where
        older : m.ends (suc (suc t)) ≡ false → list_any (nat_eq y) (ks (suc (suc t))) ≡ true → is_known m t ≡ true
        older e p = by_cases (m.ends (suc t))
            (λ d. absurd (none_listed (suc (suc t)) y (ended_keys (suc t) d) p))
            (λ d. by_cases (list_any (nat_eq y) (ks (suc t))) (λ q. hit_is_known (read_known e d q)) (λ q. far_is_known (far_known e d p q)))

    pub found_right : m.valid (suc (suc (suc t))) ≡ true → Found (suc (suc (suc t)))
    found_right v = record {
      known = g.known t v ∙ same_when (is_known m t) (list_any (nat_eq y) (ks (suc (suc (suc t)))))
          (λ e. any_at (ks (suc (suc (suc t)))) (number_of m t) y (number_right e)) listed_known;
      number = λ e. ap (slice_get (ks (suc (suc (suc t))))) (g.number t v) ∙ number_right (sym (g.known t v) ∙ e);
      next = λ e. g.number t v ∙ next_right (sym (g.known t v) ∙ e);
    }

  -- ---- the words one cycle later

  -- a row is the first of its key exactly where the key takes a place
  pub first_added : (c : ℕ) (r : Row) → a.tuple c ≡ Some r → m.used c ≡ length (ks c) → Found c → m.first c ≡ is_added n (ks c) (m.value c)
  first_added c r p used f =
      g.first c ∙ ap (λ b. (m.valid c && not (m.known c)) && not b) (g.further c)
      ∙ ap (λ b. (b && not (m.known c)) && not ((b && not (m.known c)) && nat_eq (m.used c) n)) (a_row c r p)
      ∙ by (m.known c) (nat_eq (m.used c) n) (nat_lt (length (ks c)) n) (room_is n (length (ks c)) (few c) ∙ ap (λ x. not (nat_eq x n)) (sym used))
      ∙ ap (λ b. nat_lt (length (ks c)) n && not b) f.known
    where
      by : (l full room : Bool) → room ≡ not full → ((true && not l) && not ((true && not l) && full)) ≡ (room && not l)
      by true true room e = sym (ap (λ b. b && false) e)
      by true false room e = sym (ap (λ b. b && false) e)
      by false true room e = sym (ap (λ b. b && true) e)
      by false false room e = sym (ap (λ b. b && true) e)

  none_first : (c : ℕ) → a.tuple c ≡ None → m.first c ≡ false
  none_first c p = g.first c ∙ ap (λ b. (b && not (m.known c)) && not (m.further c)) (no_row c p)

  -- what is found of the row that comes, where one does
  abbrev pub Told : ℕ → Type 0
  Told c = (r : Row) → a.tuple c ≡ Some r → Found c

  module _ (c : ℕ) (right : Right (suc c)) (told : Told (suc c)) where
    abbrev d : ℕ
    d = suc c

    place_stays : m.first d ≡ false → (k : ℕ) → m.place (suc d) k ≡ m.place d k
    place_stays e k = g.places c k ∙ ap (λ (b : Bool). if b && nat_eq (m.value d) k then m.slot d else m.place d k) e

    kept_stays : m.first d ≡ false → (j : ℕ) → m.kept (suc d) j ≡ m.kept d j
    kept_stays e j = g.keys c j ∙ ap (λ (b : Bool). if b && nat_eq (m.slot d) j then m.value d else m.kept d j) e

    same_marks : m.first d ≡ false → first_keys n key a d ≡ ks d → Marks (first_keys n key a d) (m.place (suc d)) (m.kept (suc d))
    same_marks e same =
        subst (λ xs. Marks xs (m.place (suc d)) (m.kept (suc d))) (sym same)
        (marks_same (ks d) (m.place d) (m.kept d) (m.place (suc d)) (m.kept (suc d)) (place_stays e) (kept_stays e) right.marks)

    same_used : m.first d ≡ false → first_keys n key a d ≡ ks d → (if m.first d then m.used d + 1 else m.used d) ≡ length (first_keys n key a d)
    same_used e same = ap (λ (b : Bool). if b then m.used d + 1 else m.used d) e ∙ right.used ∙ sym (ap length same)

    module _ (r : Row) (p : a.tuple d ≡ Some r) where
      is_first : m.first d ≡ is_added n (ks d) (m.value d)
      is_first = first_added d r p right.used (told r p)

      slot_next : is_added n (ks d) (m.value d) ≡ true → m.slot d ≡ length (ks d)
      slot_next e =
          let f = told r p in
          let number = f.next (f.known ∙ added_new n (ks d) (m.value d) e) in
          g.slot c (omega (arith, number, added_room n (ks d) (m.value d) e)) ∙ number

      new_marks : is_added n (ks d) (m.value d) ≡ true → Marks (first_keys n key a d) (m.place (suc d)) (m.kept (suc d))
      new_marks e =
          subst (λ xs. Marks xs (m.place (suc d)) (m.kept (suc d))) (sym (row_joined d r p ∙ added_is n (ks d) (m.value d) e))
          (marks_push (ks d) (m.value d) (m.place d) (m.kept d) (m.place (suc d)) (m.kept (suc d)) right.marks (added_new n (ks d) (m.value d) e)
          (λ k. g.places c k ∙ ap (λ (b : Bool). if b && nat_eq (m.value d) k then m.slot d else m.place d k) (is_first ∙ e) ∙ ap (λ x. if nat_eq (m.value d) k then x else m.place d k) (slot_next e))
          (λ j. g.keys c j ∙ ap (λ (b : Bool). if b && nat_eq (m.slot d) j then m.value d else m.kept d j) (is_first ∙ e) ∙ ap (λ x. if nat_eq x j then m.value d else m.kept d j) (slot_next e)))

      new_used : is_added n (ks d) (m.value d) ≡ true → (if m.first d then m.used d + 1 else m.used d) ≡ length (first_keys n key a d)
      new_used e =
          ap (λ (b : Bool). if b then m.used d + 1 else m.used d) (is_first ∙ e) ∙ ap (λ x. x + 1) right.used
          ∙ sym (ap length (row_joined d r p) ∙ with_longer n (ks d) (m.value d) e)

      same_keys : is_added n (ks d) (m.value d) ≡ false → first_keys n key a d ≡ ks d
      same_keys e = row_joined d r p ∙ same_is n (ks d) (m.value d) e

      row_marks : Marks (first_keys n key a d) (m.place (suc d)) (m.kept (suc d))
      row_marks = by_cases (is_added n (ks d) (m.value d)) new_marks (λ e. same_marks (is_first ∙ e) (same_keys e))

      row_used : (if m.first d then m.used d + 1 else m.used d) ≡ length (first_keys n key a d)
      row_used = by_cases (is_added n (ks d) (m.value d)) new_used (λ e. same_used (is_first ∙ e) (same_keys e))

    pub joined_marks : Marks (first_keys n key a d) (m.place (suc d)) (m.kept (suc d))
    joined_marks = by (a.tuple d) refl
      where
        by : (o : Option Row) → a.tuple d ≡ o → Marks (first_keys n key a d) (m.place (suc d)) (m.kept (suc d))
        by None p = same_marks (none_first d p) (none_joined d p)
        by (Some r) p = row_marks r p

    joined_used : (if m.first d then m.used d + 1 else m.used d) ≡ length (first_keys n key a d)
    joined_used = by (a.tuple d) refl
      where
        by : (o : Option Row) → a.tuple d ≡ o → (if m.first d then m.used d + 1 else m.used d) ≡ length (first_keys n key a d)
        by None p = same_used (none_first d p) (none_joined d p)
        by (Some r) p = row_used r p

    used_next : m.used (suc d) ≡ (if m.ends d then 0 else (if m.first d then m.used d + 1 else m.used d))
    used_next = g.used c (omega (arith, right.used, few d))

    pub step : Right (suc d)
    step = by_cases (m.ends d)
        (λ e. record {
          used = used_next ∙ ap (λ (b : Bool). if b then 0 else (if m.first d then m.used d + 1 else m.used d)) e ∙ sym (ended_keys d e);
          marks = marks_none (ks (suc d)) (m.place (suc d)) (m.kept (suc d)) (ended_keys d e);
        })
        (λ e. record {
          used = used_next ∙ ap (λ (b : Bool). if b then 0 else (if m.first d then m.used d + 1 else m.used d)) e ∙ joined_used ∙ sym (ap length (next_keys d e));
          marks = subst (λ xs. Marks xs (m.place (suc d)) (m.kept (suc d))) (sym (next_keys d e)) joined_marks;
        })

  -- ---- all cycles

  quiet_told : (c : ℕ) → c < 3 → Told c
  quiet_told c l r p = absurd (let z = quiet c l in cc (z, p))

  begun : length (ks 1) ≡ 0
  begun = by (a.ends 0)
    where
      by : (b : Bool) → length (take n (keys_of key (if b then [] else stream a 0))) ≡ 0
      by true = no_keys
      by false = ap (λ o. length (take n (keys_of key ([] ++ option_to_list o)))) (quiet 0 (omega arith)) ∙ no_keys

  right_1 : Right 1
  right_1 = record { used = g.start ∙ sym begun; marks = marks_none (ks 1) (m.place 1) (m.kept 1) begun }

  right_2 : Right 2
  right_2 = step 0 right_1 (quiet_told 1 (omega arith))

  right_3 : Right 3
  right_3 = step 1 right_2 (quiet_told 2 (omega arith))

  three : (t : ℕ) → Right (suc t) × Right (suc (suc t)) × Right (suc (suc (suc t)))
  three zero = (right_1, right_2, right_3)
  three (suc t) =
      let x = three t in
      (x.1, x.2, step (suc (suc t)) x.2 (λ r p. found_right t x.0 x.1 x.2 (a_row (suc (suc (suc t))) r p)))

  pub right : (c : ℕ) → Right (suc c)
  right c = (three c).0

  pub found : (c : ℕ) → Told c
  found zero = quiet_told 0 (omega arith)
  found (suc zero) = quiet_told 1 (omega arith)
  found (suc (suc zero)) = quiet_told 2 (omega arith)
  found (suc (suc (suc t))) = λ r p. (let x = three t in found_right t x.0 x.1 x.2 (a_row (suc (suc (suc t))) r p))
