-- At the last level a node's name is the key: its numbers are the places of the first keys.
use Rattle.std.proofs.Common.{◌≡◌, ℕ, zero, suc, List, [], ◌∷◌, Option, Some, None, Bool, true, false, length, refl, sym, ap, ◌∙◌, subst, arith, eq-eqb, eqb-true}
use Rattle.std.specs.Prelude.{not, ◌&&◌, ◌||◌, if◌then◌else◌, is_some, nat_eq, nat_lt, option_to_list, slice_get}
use Rattle.std.specs.List.{list_any}
use Rattle.gl_bits.proofs.Bools.{and_left, and_right, by_cases, else_false, not_both, same_when}
use Rattle.gl_values.specs.Results.{Row}
use Rattle.gl_values.specs.Tables.{with_key}
use Rattle.gl_wire.specs.Wire.{Carried}
use Rattle.gl_slots.specs.Slots.{is_further, of_slot, same_key}
use Rattle.gl_frames_keys.specs.Lanes.{first_keys, is_first, is_kept, leaves_out}
use Rattle.gl_frames_keys.proofs.OpenLemmas.{not_listed}
use Rattle.gl_frames_map.proofs.PlaceLemmas.{is_added, listed_with, same_some, same_there}
use Rattle.gl_frames_tree.specs.Growing.{Leads, Numbered, Numbers, nodes_at}
use Rattle.gl_frames_tree.proofs.LeadLemmas.{ended_none, first_none, keys_before, lead_valid, next_keys, no_node, none_joined, row_joined}
use Rattle.gl_frames_tree.proofs.NameLemmas.{Once, at_end, nodes_once, once_with, unlisted_same}

empty : (xs : List ℕ) → length xs ≡ 0 → xs ≡ []
empty [] e = refl
empty (x ∷ xs) e = absurd (omega (arith, e))

module _ (n : ℕ) (key : Row → ℕ) (a : Carried) (m : Numbered) (h : Numbers n m) (l : Leads n key a (λ x. x) m) where
  abbrev ks : ℕ → List ℕ
  ks c = keys_before n key a c

  abbrev qs : ℕ → List ℕ
  qs c = nodes_at n m c

  -- ---- the nodes are the first keys

  joined : (c : ℕ) → qs c ≡ ks c → (if m.asks c then with_key n (qs c) (m.name c) else qs c) ≡ first_keys n key a c
  joined c same = by (a.tuple c) refl
    where
      row : (r : Row) → a.tuple c ≡ Some r → (b : Bool) → m.asks c ≡ b → (if b then with_key n (qs c) (m.name c) else qs c) ≡ with_key n (ks c) (key r)
      row r p true e = ap (with_key n (qs c)) (l.name c r p e) ∙ ap (λ xs. with_key n xs (key r)) same
      row r p false e =
          same ∙ sym (unlisted_same n (ks c) (key r) (else_false (list_any (nat_eq (key r)) (with_key n (ks c) (key r)))
          (λ t. not_both (m.asks c) (l.kept c r p (ap (list_any (nat_eq (key r))) (row_joined n key a c r p) ∙ t)) e)))

      by : (o : Option Row) → a.tuple c ≡ o → (if m.asks c then with_key n (qs c) (m.name c) else qs c) ≡ first_keys n key a c
      by None p = ap (λ (b : Bool). if b then with_key n (qs c) (m.name c) else qs c) (l.none c p) ∙ same ∙ sym (none_joined n key a c p)
      by (Some r) p = row r p (m.asks c) refl ∙ sym (row_joined n key a c r p)

  nodes_are : (c : ℕ) → qs c ≡ ks c
  nodes_are zero = sym (empty (ks 0) (first_none n key a))
  nodes_are (suc c) = by_cases (m.ends c)
      (λ e. at_end n m.asks m.name m.ends c e ∙ sym (empty (ks (suc c)) (ended_none n key a c (sym (l.ends c) ∙ e))))
      (λ e. ap (λ (b : Bool). if b then [] else (if m.asks c then with_key n (qs c) (m.name c) else qs c)) e
      ∙ joined c (nodes_are c) ∙ sym (next_keys n key a c (sym (l.ends c) ∙ e)))

  -- ---- a row

  module _ (c : ℕ) (r : Row) (p : a.tuple c ≡ Some r) where
    abbrev y : ℕ
    y = key r

    -- where it asks, the keys with its own
    asked_joined : m.asks c ≡ true → with_key n (qs c) (m.name c) ≡ first_keys n key a c
    asked_joined e = ap (with_key n (qs c)) (l.name c r p e) ∙ ap (λ xs. with_key n xs y) (nodes_are c) ∙ sym (row_joined n key a c r p)

    valid_asks : m.valid c ≡ true → m.asks c ≡ true
    valid_asks e = and_left (m.asks c) (list_any (nat_eq (m.name c)) (with_key n (qs c) (m.name c))) (sym (h.valid c) ∙ e)

    valid_row : m.valid c ≡ list_any (nat_eq y) (first_keys n key a c)
    valid_row = same_when (m.valid c) (list_any (nat_eq y) (first_keys n key a c)) listed (λ e. lead_valid n key a (λ x. x) m h l c r p e)
      where
        listed : m.valid c ≡ true → list_any (nat_eq y) (first_keys n key a c) ≡ true
        listed e =
            let asks = valid_asks e in
            ap (λ x. list_any (nat_eq x) (first_keys n key a c)) (sym (l.name c r p asks)) ∙ ap (list_any (nat_eq (m.name c))) (sym (asked_joined asks))
            ∙ and_right (m.asks c) (list_any (nat_eq (m.name c)) (with_key n (qs c) (m.name c))) (sym (h.valid c) ∙ e)

    fresh_row : m.fresh c ≡ (list_any (nat_eq y) (first_keys n key a c) && not (list_any (nat_eq y) (ks c)))
    fresh_row = by_cases (m.asks c) asked unasked
      where
        split : (k room : Bool) → (room && not k) ≡ ((k || room) && not k)
        split true true = refl
        split true false = refl
        split false true = refl
        split false false = refl

        asked : m.asks c ≡ true → m.fresh c ≡ (list_any (nat_eq y) (first_keys n key a c) && not (list_any (nat_eq y) (ks c)))
        asked e =
            h.fresh c ∙ ap (λ (b : Bool). b && is_added n (qs c) (m.name c)) e ∙ ap (is_added n (qs c)) (l.name c r p e)
            ∙ ap (λ xs. is_added n xs y) (nodes_are c) ∙ split (list_any (nat_eq y) (ks c)) (nat_lt (length (ks c)) n)
            ∙ ap (λ (b : Bool). b && not (list_any (nat_eq y) (ks c)))
            (sym (ap (list_any (nat_eq y)) (row_joined n key a c r p) ∙ listed_with n (ks c) y))

        unasked : m.asks c ≡ false → m.fresh c ≡ (list_any (nat_eq y) (first_keys n key a c) && not (list_any (nat_eq y) (ks c)))
        unasked e =
            let out = else_false (list_any (nat_eq y) (first_keys n key a c)) (λ t. not_both (m.asks c) (l.kept c r p t) e) in
            h.fresh c ∙ ap (λ (b : Bool). b && is_added n (qs c) (m.name c)) e ∙ sym (ap (λ (b : Bool). b && not (list_any (nat_eq y) (ks c))) out)

    -- its number is the place of its key, and no other place has it
    number_there : m.valid c ≡ true → slice_get (first_keys n key a c) (m.number c) ≡ Some y
    number_there e =
        let asks = valid_asks e in
        ap (λ xs. slice_get xs (m.number c)) (sym (asked_joined asks)) ∙ h.number c e ∙ ap Some (l.name c r p asks)

    keys_once : m.asks c ≡ true → Once (first_keys n key a c)
    keys_once e = subst (λ (xs : List ℕ). Once xs) (asked_joined e) (once_with n (qs c) (m.name c) (nodes_once n m.asks m.name m.ends c))

    slot_is : (k : ℕ) → m.valid c ≡ true → nat_eq (m.number c) k ≡ same_key (slice_get (first_keys n key a c) k) y
    slot_is k e = same_when (nat_eq (m.number c) k) (same_key (slice_get (first_keys n key a c) k) y)
        (λ q. same_there (slice_get (first_keys n key a c) k) y (ap (slice_get (first_keys n key a c)) (sym (eqb-true (m.number c) k q)) ∙ number_there e))
        (λ q. eq-eqb (m.number c) k (keys_once (valid_asks e) (m.number c) k y (number_there e) (same_some (slice_get (first_keys n key a c) k) y q)))

  -- ---- what is told in a cycle

  pub kept_is : (c : ℕ) → m.valid c ≡ is_kept n key a c (a.tuple c)
  kept_is c = by (a.tuple c) refl
    where
      by : (o : Option Row) → a.tuple c ≡ o → m.valid c ≡ is_kept n key a c (a.tuple c)
      by None p = no_node n key a (λ x. x) m h l c p ∙ sym (ap (is_kept n key a c) p)
      by (Some r) p = valid_row c r p ∙ sym (ap (is_kept n key a c) p)

  pub first_is : (c : ℕ) → m.fresh c ≡ is_first n key a c (a.tuple c)
  first_is c = by (a.tuple c) refl
    where
      by : (o : Option Row) → a.tuple c ≡ o → m.fresh c ≡ is_first n key a c (a.tuple c)
      by None p = h.fresh c ∙ ap (λ (b : Bool). b && is_added n (qs c) (m.name c)) (l.none c p) ∙ sym (ap (is_first n key a c) p)
      by (Some r) p = fresh_row c r p ∙ sym (ap (is_first n key a c) p)

  pub further_is : (c : ℕ) → (is_some (a.tuple c) && not (m.valid c)) ≡ leaves_out n key a c
  further_is c = by (a.tuple c) refl
    where
      by : (o : Option Row) → a.tuple c ≡ o → (is_some (a.tuple c) && not (m.valid c)) ≡ leaves_out n key a c
      by None p = ap (λ o. is_some o && not (m.valid c)) p ∙ sym (ap (is_further key (first_keys n key a c)) p)
      by (Some r) p =
          ap (λ o. is_some o && not (m.valid c)) p ∙ ap not (valid_row c r p) ∙ sym (ap (is_further key (first_keys n key a c)) p)

  -- a slot takes the row of its key
  pub takes_row : (row : ℕ → Row) → ((t : ℕ) (r : Row) → a.tuple t ≡ Some r → m.valid t ≡ true → row t ≡ r) → (c k : ℕ)
      → (if nat_eq (m.number c) k then (if m.valid c then row c ∷ [] else []) else []) ≡ option_to_list (of_slot key (first_keys n key a c) k (a.tuple c))
  takes_row row is_row c k = by (a.tuple c) refl
    where
      none : (b : Bool) (xs : List Row) → xs ≡ [] → (if b then xs else []) ≡ []
      none true xs e = e
      none false xs e = refl

      chosen : (b s : Bool) (r : Row) → b ≡ s → (if b then r ∷ [] else []) ≡ option_to_list (if s then Some r else None)
      chosen true true r e = refl
      chosen true false r e = absurd (cc)
      chosen false true r e = absurd (cc)
      chosen false false r e = refl

      kept_row : (r : Row) → a.tuple c ≡ Some r → (v : Bool) → m.valid c ≡ v
          → (if nat_eq (m.number c) k then (if v then row c ∷ [] else []) else []) ≡ option_to_list (if same_key (slice_get (first_keys n key a c) k) (key r) then Some r else None)
      kept_row r p true e =
          ap (λ (z : Row). if nat_eq (m.number c) k then z ∷ [] else []) (is_row c r p e)
          ∙ chosen (nat_eq (m.number c) k) (same_key (slice_get (first_keys n key a c) k) (key r)) r (slot_is c r p k e)
      kept_row r p false e =
          none (nat_eq (m.number c) k) [] refl
          ∙ sym (ap (λ (b : Bool). option_to_list (if b then Some r else None)) (not_listed (first_keys n key a c) (key r) k (sym (valid_row c r p) ∙ e)))

      by : (o : Option Row) → a.tuple c ≡ o → (if nat_eq (m.number c) k then (if m.valid c then row c ∷ [] else []) else []) ≡ option_to_list (of_slot key (first_keys n key a c) k (a.tuple c))
      by None p =
          ap (λ (b : Bool). if nat_eq (m.number c) k then (if b then row c ∷ [] else []) else []) (no_node n key a (λ x. x) m h l c p)
          ∙ none (nat_eq (m.number c) k) [] refl ∙ sym (ap (λ o. option_to_list (of_slot key (first_keys n key a c) k o)) p)
      by (Some r) p = kept_row r p (m.valid c) refl ∙ sym (ap (λ o. option_to_list (of_slot key (first_keys n key a c) k o)) p)
