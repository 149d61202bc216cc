-- Slots that find keys, where one end frees all of them: they have the first keys of the stream.
use Rattle.std.proofs.Common.{◌≡◌, ℕ, zero, suc, ◌+◌, ◌-◌, ◌<◌, ◌≤◌, List, [], ◌∷◌, ◌++◌, Option, Some, None, Bool, true, false, length, length-take, take, append-nil, refl, sym, ap, ◌∙◌, arith, inl, inr, eq-eqb, eqb-true}
use Rattle.std.specs.Prelude.{not, ◌&&◌, if◌then◌else◌, is_some, nat_eq, option_to_list, slice_get}
use Rattle.std.specs.List.{list_any}
use Rattle.std.proofs.lemmas.Bool.{cases_lt}
use Rattle.gl_bits.proofs.AllLists.{get_past}
use Rattle.gl_bits.proofs.Bools.{by_cases, else_false, not_both, or_cases}
use Rattle.gl_values.specs.Lists.{keys_of}
use Rattle.gl_values.specs.Partitions.{has_key}
use Rattle.gl_values.specs.Results.{Row}
use Rattle.gl_wire.specs.Wire.{Carried, pending, stream}
use Rattle.gl_wire_registers.specs.Lines.{any_to}
use Rattle.gl_groups.specs.Ahead.{Ahead, Finds, GoesOn, sought_in}
use Rattle.gl_slots.specs.Seeking.{Sought, asked, asks, found, has, kept, matches, takes}
use Rattle.gl_slots.specs.Slots.{is_further, of_slot, same_key}
use Rattle.gl_groups.specs.Telling.{passes_in}
use Rattle.gl_groups.proofs.AheadLemmas.{ahead_finds}
use Rattle.gl_slots.proofs.KeyLemmas.{keys-push}
use Rattle.gl_slots.proofs.SeekLemmas.{asked_last, joined, left_is, matches_is, new_is, next_at, next_used}
use Rattle.gl_frames_keys.specs.Lanes.{first_keys, is_first, is_kept, leaves_out}
use Rattle.gl_frames_keys.proofs.OpenLemmas.{not_listed}

-- a key of a list stands at a place
listed_at : (ks : List ℕ) (y : ℕ) → list_any (nat_eq y) ks ≡ true → (k : ℕ) × (k < length ks) × (same_key (slice_get ks k) y ≡ true)
listed_at [] y e = absurd (cc)
listed_at (x ∷ ks) y e = elim (or_cases (nat_eq y x) (list_any (nat_eq y) ks) e) [
  | inl p ↦ (0, omega arith, p)
  | inr p ↦ (let z = listed_at ks y p in (suc z.0, omega (arith, z.1), z.2))
]

not_twice : (a b : Bool) → not a ≡ not b → a ≡ b
not_twice true true e = refl
not_twice true false e = absurd (cc)
not_twice false true e = absurd (cc)
not_twice false false e = refl

module _ (n : ℕ) (some : 1 ≤ n) (key : Row → ℕ) (a : Carried) (x : Ahead) (g : GoesOn n x)
    (ask : (t : ℕ) → x.ask t ≡ is_some (a.tuple t)) (value : (t : ℕ) (r : Row) → a.tuple t ≡ Some r → x.value t ≡ key r)
    (free : (t : ℕ) → x.free (suc t) ≡ a.ends t) where
  finds : Finds n x
  finds = ahead_finds n x some g

  abbrev s : ℕ → Sought
  s t = sought_in x t

  -- the first keys before a cycle
  abbrev ks : ℕ → List ℕ
  ks t = take n (keys_of key (pending a t))

  few : (t : ℕ) → length (ks t) ≤ n
  few t = omega (arith, length-take n (keys_of key (pending a t)))

  asks_none : (t : ℕ) → a.tuple t ≡ None → x.ask t ≡ false
  asks_none t p = ask t ∙ ap is_some p

  asks_row : (t : ℕ) (r : Row) → a.tuple t ≡ Some r → x.ask t ≡ true
  asks_row t r p = ask t ∙ ap is_some p

  -- with what comes
  joined_is : (t : ℕ) → joined n (x.ask t) (x.value t) (ks t) ≡ first_keys n key a t
  joined_is t = by (a.tuple t) refl
    where
      by : (o : Option Row) → a.tuple t ≡ o → joined n (x.ask t) (x.value t) (ks t) ≡ first_keys n key a t
      by None p =
          ap (λ b. joined n b (x.value t) (ks t)) (asks_none t p)
          ∙ sym (ap (λ z. take n (keys_of key (pending a t ++ option_to_list z))) p ∙ ap (λ xs. take n (keys_of key xs)) (append-nil (pending a t)))
      by (Some r) p =
          ap (λ b. joined n b (x.value t) (ks t)) (asks_row t r p) ∙ ap (λ y. joined n true y (ks t)) (value t r p)
          ∙ sym (ap (λ z. take n (keys_of key (pending a t ++ option_to_list z))) p ∙ keys-push n key (pending a t) r)

  none_yet : (k : ℕ) → slice_get (take n (keys_of key [])) k ≡ None
  none_yet k = get_past (take n (keys_of key [])) k (omega (arith, length-take n (keys_of key [])))

  -- the slots that are kept show the keys
  abbrev Shown : ℕ → Type 0
  Shown t = (k : ℕ) → k < n → slice_get (ks t) k ≡ (if kept (s t) k then Some (x.key k t) else None)

  next_key : (t k : ℕ) → k < n → has n (s t) k ≡ true → x.key k (suc t) ≡ (if takes n (s t) k then x.value t else x.key k t)
  next_key t k l e = g.key k t l ∙ ap (λ (b : Bool). if b then x.value t else x.key k t) (next_used n (s t) k e)

  goes : (t k : ℕ) → k < n → (h e : Bool) → has n (s t) k ≡ h → a.ends t ≡ e
      → (if e then None else (if h then Some (if takes n (s t) k then x.value t else x.key k t) else None)) ≡ (if kept (s (suc t)) k then Some (x.key k (suc t)) else None)
  goes t k l h true p q =
      sym (ap (λ (b : Bool). if x.used k (suc t) && not b then Some (x.key k (suc t)) else None) (free t ∙ q) ∙ no (x.used k (suc t)))
    where
      no : (b : Bool) → (if b && false then Some (x.key k (suc t)) else None) ≡ None
      no true = refl
      no false = refl
  goes t k l true false p q =
      sym (ap (λ (b : Bool). if b && not (x.free (suc t)) then Some (x.key k (suc t)) else None) (finds.used k t l ∙ p)
      ∙ ap (λ (b : Bool). if not b then Some (x.key k (suc t)) else None) (free t ∙ q) ∙ ap (λ y. Some y) (next_key t k l p))
  goes t k l false false p q =
      sym (ap (λ (b : Bool). if b && not (x.free (suc t)) then Some (x.key k (suc t)) else None) (finds.used k t l ∙ p))

  shown : (t : ℕ) → Shown t
  shown zero k l = none_yet k ∙ sym (ap (λ (b : Bool). if b && not (x.free 0) then Some (x.key k 0) else None) (g.first_used k))
  shown (suc t) k l = by (a.ends t) refl (next_at n (ks t) (s t) (shown t) (few t) k l) ∙ goes t k l (has n (s t) k) (a.ends t) refl refl
    where
      by : (e : Bool) → a.ends t ≡ e → slice_get (joined n (x.ask t) (x.value t) (ks t)) k ≡ (if has n (s t) k then Some (if takes n (s t) k then x.value t else x.key k t) else None)
          → slice_get (take n (keys_of key (if e then [] else stream a t))) k
          ≡ (if e then None else (if has n (s t) k then Some (if takes n (s t) k then x.value t else x.key k t) else None))
      by true q h = none_yet k
      by false q h = ap (λ xs. slice_get xs k) (sym (joined_is t)) ∙ h

  -- ---- what is told in a cycle

  module _ (t : ℕ) where
    -- whether a row is left over
    passes_asked : passes_in n x t ≡ asked n (s t) n
    passes_asked =
        let place : n ≡ suc (n - 1) = omega (arith, some) in
        ap (λ b. (x.ask t && kept (s t) (n - 1)) && not b) (finds.one t)
        ∙ sym (asked_last n (s t) n ∙ ap (λ k. asks (s t) k && not (any_to n (found (s t)))) place)

    passes_listed : passes_in n x t ≡ (x.ask t && not (list_any (nat_eq (x.value t)) (first_keys n key a t)))
    passes_listed =
        passes_asked ∙ left_is n (ks t) (s t) (shown t) (few t) some
        ∙ ap (λ xs. x.ask t && not (list_any (nat_eq (x.value t)) xs)) (joined_is t)

    passes_row : (r : Row) → a.tuple t ≡ Some r → passes_in n x t ≡ not (list_any (nat_eq (key r)) (first_keys n key a t))
    passes_row r p =
        passes_listed ∙ ap (λ b. b && not (list_any (nat_eq (x.value t)) (first_keys n key a t))) (asks_row t r p)
        ∙ ap (λ y. not (list_any (nat_eq y) (first_keys n key a t))) (value t r p)

    pub passes_is : passes_in n x t ≡ leaves_out n key a t
    passes_is = by (a.tuple t) refl
      where
        by : (o : Option Row) → a.tuple t ≡ o → passes_in n x t ≡ leaves_out n key a t
        by None p =
            passes_listed ∙ ap (λ b. b && not (list_any (nat_eq (x.value t)) (first_keys n key a t))) (asks_none t p)
            ∙ sym (ap (is_further key (first_keys n key a t)) p)
        by (Some r) p = passes_row r p ∙ sym (ap (is_further key (first_keys n key a t)) p)

    double : (b : Bool) → not (not b) ≡ b
    double true = refl
    double false = refl

    pub kept_is : (x.ask t && not (passes_in n x t)) ≡ is_kept n key a t (a.tuple t)
    kept_is = by (a.tuple t) refl
      where
        by : (o : Option Row) → a.tuple t ≡ o → (x.ask t && not (passes_in n x t)) ≡ is_kept n key a t (a.tuple t)
        by None p = ap (λ b. b && not (passes_in n x t)) (asks_none t p) ∙ sym (ap (is_kept n key a t) p)
        by (Some r) p =
            ap (λ b. b && not (passes_in n x t)) (asks_row t r p) ∙ ap not (passes_row r p)
            ∙ double (list_any (nat_eq (key r)) (first_keys n key a t)) ∙ sym (ap (is_kept n key a t) p)

    -- whether a slot had the key
    had : (r : Row) → a.tuple t ≡ Some r → x.one t ≡ has_key n key (pending a t) (key r)
    had r p =
        finds.one t
        ∙ not_twice (any_to n (found (s t))) (list_any (nat_eq (key r)) (ks t))
        (sym (ap (λ b. b && not (any_to n (found (s t)))) (asks_row t r p)) ∙ new_is n (ks t) (s t) (shown t) (few t)
        ∙ ap (λ b. b && not (list_any (nat_eq (x.value t)) (ks t))) (asks_row t r p)
        ∙ ap (λ y. not (list_any (nat_eq y) (ks t))) (value t r p))

    pub first_is : ((x.ask t && not (passes_in n x t)) && not (x.one t)) ≡ is_first n key a t (a.tuple t)
    first_is = by (a.tuple t) refl
      where
        by : (o : Option Row) → a.tuple t ≡ o → ((x.ask t && not (passes_in n x t)) && not (x.one t)) ≡ is_first n key a t (a.tuple t)
        by None p = ap (λ b. (b && not (passes_in n x t)) && not (x.one t)) (asks_none t p) ∙ sym (ap (is_first n key a t) p)
        by (Some r) p =
            ap (λ b. b && not (x.one t)) (kept_is ∙ ap (is_kept n key a t) p) ∙ ap (λ b. has_key n key (stream a t) (key r) && not b) (had r p)
            ∙ sym (ap (is_first n key a t) p)

    few_joined : length (first_keys n key a t) ≤ n
    few_joined = omega (arith, length-take n (keys_of key (stream a t)))

    -- the slot that has a row's key
    module _ (r : Row) (p : a.tuple t ≡ Some r) where
      matches_key : (k : ℕ) → k < n → matches n (s t) k ≡ same_key (slice_get (first_keys n key a t) k) (key r)
      matches_key k l =
          matches_is n (ks t) (s t) (shown t) (few t) k l ∙ ap (λ xs. same_key (slice_get xs k) (x.value t)) (joined_is t)
          ∙ ap (same_key (slice_get (first_keys n key a t) k)) (value t r p)

      numbered : (k : ℕ) → same_key (slice_get (first_keys n key a t) k) (key r) ≡ true → (x.number t ≡ k) × (k < n)
      numbered k e = elim (cases_lt k n) [
        | inl l ↦ (finds.number k t l (matches_key k l ∙ e), l)
        | inr far ↦
            absurd (let z = ap (λ o. same_key o (key r)) (get_past (first_keys n key a t) k (omega (arith, far, few_joined))) in not_both (same_key (slice_get (first_keys n key a t) k) (key r)) e z)
      ]

      -- some slot has it, where it is kept
      slot_there : list_any (nat_eq (key r)) (first_keys n key a t) ≡ true → x.number t < n
      slot_there e =
          let w = listed_at (first_keys n key a t) (key r) e in
          let q = numbered w.0 w.2 in
          omega (arith, q.0, q.1)

      pub slot_is : (k : ℕ) → list_any (nat_eq (key r)) (first_keys n key a t) ≡ true → nat_eq (x.number t) k ≡ same_key (slice_get (first_keys n key a t) k) (key r)
      slot_is k e =
          let w = listed_at (first_keys n key a t) (key r) e in
          by_cases (nat_eq (x.number t) k)
          (λ q. q ∙ sym (ap (λ j. same_key (slice_get (first_keys n key a t) j) (key r)) (sym (eqb-true (x.number t) k q) ∙ (numbered w.0 w.2).0) ∙ w.2))
          (λ q. q ∙ sym (else_false (same_key (slice_get (first_keys n key a t) k) (key r)) (λ m. not_both (nat_eq (x.number t) k) (eq-eqb (x.number t) k (numbered k m).0) q)))

  -- a slot takes the row of its key, by any numbers that are these where they are below n
  module _ (slot : ℕ → ℕ) (same : (t : ℕ) → x.number t < n → slot t ≡ x.number t) (row : ℕ → Row) (is_row : (t : ℕ) (r : Row) → a.tuple t ≡ Some r → row t ≡ r) where
    pub takes_row : (t k : ℕ) → (if nat_eq (slot t) k then (if x.ask t && not (passes_in n x t) then row t ∷ [] else []) else [])
        ≡ option_to_list (of_slot key (first_keys n key a t) k (a.tuple t))
    takes_row t k = by (a.tuple t) refl
      where
        none : (b : Bool) (xs : List Row) → xs ≡ [] → (if b then xs else []) ≡ []
        none true xs e = e
        none false xs e = refl

        chosen : (b c : Bool) (r : Row) → b ≡ c → (if b then r ∷ [] else []) ≡ option_to_list (if c then Some r else None)
        chosen true true r e = refl
        chosen true false r e = absurd (cc)
        chosen false true r e = absurd (cc)
        chosen false false r e = refl

        kept_row : (r : Row) → a.tuple t ≡ Some r → (l : Bool) → list_any (nat_eq (key r)) (first_keys n key a t) ≡ l
            → (if nat_eq (slot t) k then (if l then row t ∷ [] else []) else []) ≡ option_to_list (if same_key (slice_get (first_keys n key a t) k) (key r) then Some r else None)
        kept_row r p true e =
            ap (λ (z : Row). if nat_eq (slot t) k then z ∷ [] else []) (is_row t r p)
            ∙ chosen (nat_eq (slot t) k) (same_key (slice_get (first_keys n key a t) k) (key r)) r
            (ap (λ j. nat_eq j k) (same t (slot_there t r p e)) ∙ slot_is t r p k e)
        kept_row r p false e =
            none (nat_eq (slot t) k) [] refl ∙ sym (ap (λ (b : Bool). option_to_list (if b then Some r else None)) (not_listed (first_keys n key a t) (key r) k e))

        by : (o : Option Row) → a.tuple t ≡ o → (if nat_eq (slot t) k then (if x.ask t && not (passes_in n x t) then row t ∷ [] else []) else [])
            ≡ option_to_list (of_slot key (first_keys n key a t) k (a.tuple t))
        by None p =
            ap (λ (b : Bool). if nat_eq (slot t) k then (if b && not (passes_in n x t) then row t ∷ [] else []) else []) (asks_none t p)
            ∙ none (nat_eq (slot t) k) [] refl ∙ sym (ap (λ o. option_to_list (of_slot key (first_keys n key a t) k o)) p)
        by (Some r) p =
            ap (λ (b : Bool). if nat_eq (slot t) k then (if b then row t ∷ [] else []) else []) (kept_is t ∙ ap (is_kept n key a t) p)
            ∙ kept_row r p (list_any (nat_eq (key r)) (first_keys n key a t)) refl
            ∙ sym (ap (λ o. option_to_list (of_slot key (first_keys n key a t) k o)) p)
