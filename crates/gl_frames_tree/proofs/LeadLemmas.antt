-- No row of one of the first keys is lost: before n keys have come no level has more nodes than there are keys.
use Rattle.std.proofs.Common.{◌≡◌, ℕ, zero, suc, ◌+◌, ◌<◌, ◌≤◌, List, [], ◌++◌, Option, Some, None, Bool, true, false, length, length-take, take, append-nil, refl, sym, ap, ◌∙◌, subst, arith, lt-ltb}
use Rattle.std.specs.Prelude.{◌*◌, ◌&&◌, if◌then◌else◌, nat_eq, nat_lt, option_to_list}
use Rattle.std.specs.List.{list_any}
use Rattle.gl_bits.proofs.AllLists.{get_below}
use Rattle.gl_bits.proofs.Bools.{and_both, and_left, and_so, by_cases, not_both}
use Rattle.gl_values.specs.Lists.{keys_of}
use Rattle.gl_values.specs.Results.{Row}
use Rattle.gl_values.specs.Tables.{with_key}
use Rattle.gl_wire.specs.Shapes.{IsDelayed}
use Rattle.gl_wire.specs.Wire.{Carried, pending, stream}
use Rattle.gl_wire.proofs.DelayLemmas.{stream_delayed}
use Rattle.gl_slots.proofs.KeyLemmas.{keys-push}
use Rattle.gl_frames_keys.specs.Lanes.{first_keys}
use Rattle.gl_frames_map.proofs.PlaceLemmas.{is_added, listed_at, same_is, with_longer, with_new}
use Rattle.gl_frames_tree.specs.Growing.{IsAfter, Leads, Level, Numbered, Numbers, children_of, nodes_at}
use Rattle.gl_frames_tree.proofs.NameLemmas.{at_end, few_with, known_same, one_longer, room_listed, stays_listed}

-- ---- the first keys of a wire's streams

module _ (n : ℕ) (key : Row → ℕ) (a : Carried) where
  -- those before a cycle
  abbrev pub keys_before : ℕ → List ℕ
  keys_before c = take n (keys_of key (pending a c))

  pub keys_few : (c : ℕ) → length (keys_before c) ≤ n
  keys_few c = omega (arith, length-take n (keys_of key (pending a c)))

  pub none_joined : (c : ℕ) → a.tuple c ≡ None → first_keys n key a c ≡ keys_before c
  none_joined c p = ap (λ o. take n (keys_of key (pending a c ++ option_to_list o))) p ∙ ap (λ xs. take n (keys_of key xs)) (append-nil (pending a c))

  pub row_joined : (c : ℕ) (r : Row) → a.tuple c ≡ Some r → first_keys n key a c ≡ with_key n (keys_before c) (key r)
  row_joined c r p = ap (λ o. take n (keys_of key (pending a c ++ option_to_list o))) p ∙ keys-push n key (pending a c) r

  pub next_keys : (c : ℕ) → a.ends c ≡ false → keys_before (suc c) ≡ first_keys n key a c
  next_keys c e = ap (λ (b : Bool). take n (keys_of key (if b then [] else stream a c))) e

  no_keys : length (take n (keys_of key [])) ≡ 0
  no_keys = omega (arith, length-take n (keys_of key []))

  pub first_none : length (keys_before 0) ≡ 0
  first_none = no_keys

  pub ended_none : (c : ℕ) → a.ends c ≡ true → length (keys_before (suc c)) ≡ 0
  ended_none c e = ap (λ (b : Bool). length (take n (keys_of key (if b then [] else stream a c)))) e ∙ no_keys

-- ---- one row

-- each key has its node, and while there is room for keys there are no more nodes than keys
pub record Within (n : ℕ) (f : ℕ → ℕ) (ks qs : List ℕ) : Type 0 where
  pub led : (z : ℕ) → list_any (nat_eq z) ks ≡ true → list_any (nat_eq (f z)) qs ≡ true
  pub fits : length ks < n → length qs ≤ length ks

none_listed : (ks : List ℕ) (z : ℕ) → length ks ≡ 0 → list_any (nat_eq z) ks ≡ true → ⊥
none_listed ks z none h = let w = listed_at ks z h in omega (arith, none, get_below ks w.0 z w.1)

within_none : (n : ℕ) (f : ℕ → ℕ) (ks qs : List ℕ) → length ks ≡ 0 → length qs ≡ 0 → Within n f ks qs
within_none n f ks qs p q = record { led = λ z h. absurd (none_listed ks z p h); fits = λ l. omega (arith, p, q) }

module _ (n : ℕ) (f : ℕ → ℕ) (ks qs : List ℕ) (y : ℕ) (few : length ks ≤ n) (w : Within n f ks qs) where
  -- a row of a key that the list has with it has a node
  pub leads : list_any (nat_eq y) (with_key n ks y) ≡ true → list_any (nat_eq (f y)) (with_key n qs (f y)) ≡ true
  leads h = by_cases (list_any (nat_eq y) ks)
      (λ e. stays_listed n qs (f y) (f y) (w.led y e))
      (λ e. (
      let new = with_new n ks y y h e in
      let room : length ks < n = omega (arith, new.1, few_with n ks y few) in
      room_listed n qs (f y) (omega (arith, room, w.fits room))
      ))

  module _ (asked : Bool) (kept : list_any (nat_eq y) (with_key n ks y) ≡ true → asked ≡ true) where
    abbrev later : List ℕ
    later = if asked then with_key n qs (f y) else qs

    led_on : (z : ℕ) → list_any (nat_eq z) qs ≡ true → list_any (nat_eq z) later ≡ true
    led_on z h = by asked
      where
        by : (b : Bool) → list_any (nat_eq z) (if b then with_key n qs (f y) else qs) ≡ true
        by true = stays_listed n qs (f y) z h
        by false = h

    led_own : list_any (nat_eq y) (with_key n ks y) ≡ true → list_any (nat_eq (f y)) later ≡ true
    led_own h = ap (λ (b : Bool). list_any (nat_eq (f y)) (if b then with_key n qs (f y) else qs)) (kept h) ∙ leads h

    led : (z : ℕ) → list_any (nat_eq z) (with_key n ks y) ≡ true → list_any (nat_eq (f z)) later ≡ true
    led z h = by_cases (list_any (nat_eq z) ks)
        (λ e. led_on (f z) (w.led z e))
        (λ e. (
        let same = (with_new n ks y z h e).0 in
        ap (λ x. list_any (nat_eq (f x)) later) same ∙ led_own (sym (ap (λ x. list_any (nat_eq x) (with_key n ks y)) same) ∙ h)
        ))

    longer : length later ≤ length qs + 1
    longer = by asked
      where
        by : (b : Bool) → length (if b then with_key n qs (f y) else qs) ≤ length qs + 1
        by true = one_longer n qs (f y)
        by false = omega arith

    no_longer : list_any (nat_eq y) ks ≡ true → length later ≡ length qs
    no_longer e = by asked
      where
        by : (b : Bool) → length (if b then with_key n qs (f y) else qs) ≡ length qs
        by true = ap length (known_same n qs (f y) (w.led y e))
        by false = refl

    fits : length (with_key n ks y) < n → length later ≤ length (with_key n ks y)
    fits l = by_cases (is_added n ks y)
        (λ e. (
        let more = with_longer n ks y e in
        let room : length ks < n = omega (arith, l, more) in
        omega (arith, more, longer, w.fits room)
        ))
        (λ e. (
        let same = ap length (same_is n ks y e) in
        let room : length ks < n = omega (arith, l, same) in
        let there = and_so (nat_lt (length ks) n) (list_any (nat_eq y) ks) e (lt-ltb (length ks) n room) in
        omega (arith, same, no_longer there, w.fits room)
        ))

    pub within_row : Within n f (with_key n ks y) later
    within_row = record { led = led; fits = fits }

-- ---- all cycles

module _ (n : ℕ) (key : Row → ℕ) (a : Carried) (f : ℕ → ℕ) (m : Numbered) (h : Numbers n m) (l : Leads n key a f m) where
  abbrev ks : ℕ → List ℕ
  ks c = keys_before n key a c

  abbrev qs : ℕ → List ℕ
  qs c = nodes_at n m c

  joined : (c : ℕ) → Within n f (ks c) (qs c) → Within n f (first_keys n key a c) (if m.asks c then with_key n (qs c) (m.name c) else qs c)
  joined c w = by (a.tuple c) refl
    where
      by : (o : Option Row) → a.tuple c ≡ o → Within n f (first_keys n key a c) (if m.asks c then with_key n (qs c) (m.name c) else qs c)
      by None p =
          subst (λ (b : Bool). Within n f (first_keys n key a c) (if b then with_key n (qs c) (m.name c) else qs c)) (sym (l.none c p))
          (subst (λ (xs : List ℕ). Within n f xs (qs c)) (sym (none_joined n key a c p)) w)
      by (Some r) p =
          let on = within_row n f (ks c) (qs c) (key r) (keys_few n key a c) w (m.asks c) (λ e. l.kept c r p (ap (list_any (nat_eq (key r))) (row_joined n key a c r p) ∙ e)) in
          subst (λ (xs : List ℕ). Within n f xs (if m.asks c then with_key n (qs c) (m.name c) else qs c)) (sym (row_joined n key a c r p))
          (subst (λ (xs : List ℕ). Within n f (with_key n (ks c) (key r)) xs) (named r p (m.asks c) refl) on)
        where
          named : (r : Row) → a.tuple c ≡ Some r → (b : Bool) → m.asks c ≡ b
              → (if b then with_key n (qs c) (f (key r)) else qs c) ≡ (if b then with_key n (qs c) (m.name c) else qs c)
          named r p true e = ap (with_key n (qs c)) (sym (l.name c r p e))
          named r p false e = refl

  within : (c : ℕ) → Within n f (ks c) (qs c)
  within zero = within_none n f (ks 0) [] (first_none n key a) refl
  within (suc c) = by_cases (m.ends c) ended (going (within c))
    where
      ended : m.ends c ≡ true → Within n f (ks (suc c)) (qs (suc c))
      ended e = within_none n f (ks (suc c)) (qs (suc c)) (ended_none n key a c (sym (l.ends c) ∙ e)) (ap length (at_end n m.asks m.name m.ends c e))

      going : Within n f (ks c) (qs c) → m.ends c ≡ false → Within n f (ks (suc c)) (qs (suc c))
      going w e =
          subst (λ (xs : List ℕ). Within n f xs (qs (suc c))) (sym (next_keys n key a c (sym (l.ends c) ∙ e)))
          (subst (λ (xs : List ℕ). Within n f (first_keys n key a c) xs)
          (sym (ap (λ (b : Bool). if b then [] else (if m.asks c then with_key n (qs c) (m.name c) else qs c)) e)) (joined c w))

  -- a row of one of the first keys has a node
  pub lead_valid : (c : ℕ) (r : Row) → a.tuple c ≡ Some r → list_any (nat_eq (key r)) (first_keys n key a c) ≡ true → m.valid c ≡ true
  lead_valid c r p e =
      let asks = l.kept c r p e in
      h.valid c ∙ and_both (m.asks c) (list_any (nat_eq (m.name c)) (with_key n (qs c) (m.name c))) asks
      (ap (λ x. list_any (nat_eq x) (with_key n (qs c) x)) (l.name c r p asks)
      ∙ leads n f (ks c) (qs c) (key r) (keys_few n key a c) (within c) (sym (ap (list_any (nat_eq (key r))) (row_joined n key a c r p)) ∙ e))

  pub no_node : (c : ℕ) → a.tuple c ≡ None → m.valid c ≡ false
  no_node c p = h.valid c ∙ ap (λ (b : Bool). b && list_any (nat_eq (m.name c)) (with_key n (qs c) (m.name c))) (l.none c p)

-- ---- from level to level

pub lead_children : (n : ℕ) (key : Row → ℕ) (a : Carried) (f next : ℕ → ℕ) (v : Level) → Numbers n v.rows → Leads n key a f v.rows
    → ((c : ℕ) (r : Row) → a.tuple c ≡ Some r → v.rows.valid c ≡ true → f (key r) * 4 + v.digit c ≡ next (key r)) → Leads n key a next (children_of v)
lead_children n key a f next v h l is = record {
  none = λ c p. no_node n key a f v.rows h l c p;
  name = λ c r p e. ap (λ x. x * 4 + v.digit c)
      (l.name c r p (and_left (v.rows.asks c) (list_any (nat_eq (v.rows.name c)) (with_key n (nodes_at n v.rows c) (v.rows.name c))) (sym (h.valid c) ∙ e)))
      ∙ is c r p e;
  ends = l.ends;
  kept = λ c r p e. lead_valid n key a f v.rows h l c r p e;
}

-- and one cycle later
module _ (n : ℕ) (key : Row → ℕ) (a b : Carried) (f : ℕ → ℕ) (m d : Numbered) (l : Leads n key a f m) (behind : IsDelayed 1 a b) (is : IsAfter m d) where
  tuple_late : (c : ℕ) → b.tuple (suc c) ≡ a.tuple c
  tuple_late c = let e : c + 1 ≡ suc c = omega arith in ap b.tuple (sym e) ∙ behind.tuples c

  keys_late : (c : ℕ) → first_keys n key b (suc c) ≡ first_keys n key a c
  keys_late c =
      let e : c + 1 ≡ suc c = omega arith in
      ap (λ xs. take n (keys_of key xs)) (ap (stream b) (sym e) ∙ stream_delayed 1 a b behind c)

  none_late : (c : ℕ) → b.tuple c ≡ None → d.asks c ≡ false
  none_late zero p = is.asks 0
  none_late (suc c) p = is.asks (suc c) ∙ l.none c (sym (tuple_late c) ∙ p)

  name_late : (c : ℕ) (r : Row) → b.tuple c ≡ Some r → d.asks c ≡ true → d.name c ≡ f (key r)
  name_late zero r p e = absurd (not_both (d.asks 0) e (is.asks 0))
  name_late (suc c) r p e = is.name (suc c) ∙ l.name c r (sym (tuple_late c) ∙ p) (sym (is.asks (suc c)) ∙ e)

  ends_late : (c : ℕ) → d.ends c ≡ b.ends c
  ends_late zero = is.ends 0 ∙ sym (behind.no_end 0 (omega arith))
  ends_late (suc c) = let e : c + 1 ≡ suc c = omega arith in is.ends (suc c) ∙ l.ends c ∙ sym (behind.ends c) ∙ ap b.ends e

  kept_late : (c : ℕ) (r : Row) → b.tuple c ≡ Some r → list_any (nat_eq (key r)) (first_keys n key b c) ≡ true → d.asks c ≡ true
  kept_late zero r p e = absurd (let z = behind.before 0 (omega arith) in cc (z, p))
  kept_late (suc c) r p e = is.asks (suc c) ∙ l.kept c r (sym (tuple_late c) ∙ p) (sym (ap (list_any (nat_eq (key r))) (keys_late c)) ∙ e)

  pub lead_late : Leads n key b f d
  lead_late = record { none = none_late; name = name_late; ends = ends_late; kept = kept_late }
