-- The machine of slots, from one cycle to the next, while a stream comes, and where it ends.
use Rattle.std.proofs.Common.{◌≡◌, ℕ, suc, ◌+◌, ◌*◌, ◌<◌, ◌≤◌, List, [], ◌∷◌, ◌++◌, length, take, length-take, map, Option, Some, None, Bool, true, false, ◌&&◌, refl, sym, ap, ◌∙◌, subst, arith, inl, inr, ◌⊎◌, mul-le-mul_right}
use Rattle.std.specs.Prelude.{option_to_list, if◌then◌else◌, nat_eq, nat_lt, slice_get}
use Rattle.std.proofs.lemmas.Bool.{cases_lt, cases_Bool, ne_eqb, and_from, and_left, and_right, lt-ltb, le-ltb}
use Rattle.std.proofs.lemmas.List.{append-nil}
use Rattle.gl_values.specs.Lists.{keys_of, rows_with, Group}
use Rattle.gl_values.specs.Results.{Row}
use Rattle.gl_bits.proofs.AllLists.{get_past}
use Rattle.gl_wire.specs.Apart.{Carries}
use Rattle.gl_wire.specs.Wire.{pending, stream}
use Rattle.gl_wire.specs.Lift.{Visits}
use Rattle.gl_slots.specs.Slots.{Slots, freed, with_tuple, keys_now, of_slot, slot_now, slot_ends, slot_takes, slots_next, slots_at, keys_at, slot_at, who_slots, rows_of_key, key_or, slot_or}
use Rattle.gl_slots.proofs.Setting.{Setting}
use Rattle.gl_wire.proofs.VisitLemmas.{did, did_none, did_one}
use Rattle.gl_slots.proofs.KeyLemmas.{keys-push, rows_kept, rows-push, key_below}

module _ (front : Setting) where
  open front use {count, key, stride, a, ins}

  abbrev who : Visits
  who = who_slots count key stride a

  -- the key that a slot shows, and the group of a visit
  abbrev pub slot_key : ℕ → ℕ → ℕ
  slot_key k c = key_or (slice_get (slots_at count key stride a c).keys k)

  abbrev pub of_group : ℕ × List Row → Group Row
  of_group v = record { key = slot_key (slot_or (who v.0)) v.0; rows = v.1 }

  abbrev pub group_of : List Row → ℕ → Group Row
  group_of xs y = record { key = y; rows = rows_with key xs y }

  -- one cycle of the machine, where it stands at s and this comes
  pub record Step (c : ℕ) (e : Bool) (o : Option Row) (s : Slots) : Type 0 where
    pub is_end : a.ends c ≡ e
    pub is_tuple : a.tuple c ≡ o
    pub tuples : (k : ℕ) → k < count → (ins k).tuple (suc c) ≡ slot_takes key e o (keys_now count key e o s) s k
    pub ends : (k : ℕ) → k < count → (ins k).ends (suc c) ≡ (slot_ends e o (keys_now count key e o s) s && nat_eq k (slot_now e s))
    pub visit : who (suc c) ≡ (if slot_ends e o (keys_now count key e o s) s then Some (slot_now e s) else None)
    pub slot : slot_at count key stride a c ≡ slot_now e s
    pub stays : (slots_at count key stride a (suc c)).keys ≡ keys_now count key e o s

  next_keys : (e : Bool) (o : Option Row) (ks : List ℕ) (s : Slots) → (slots_next stride e o ks s).keys ≡ ks
  next_keys true o ks s = refl
  next_keys false None ks s = refl
  next_keys false (Some r) ks s = refl

  pub step_at : (c : ℕ) → Step c (a.ends c) (a.tuple c) (slots_at count key stride a c)
  step_at c = record { is_end = refl; is_tuple = refl; tuples = λ k l. front.law.tuples k c l; ends = λ k l. front.law.ends k c l; visit = refl; slot = refl; stays = next_keys (a.ends c) (a.tuple c) (keys_at count key stride a c) (slots_at count key stride a c) }

  -- a stream comes, of which xs has come: each slot has the rows of its key
  pub record Flow (c : ℕ) (s : Slots) (lo : ℕ) (xs : List Row) : Type 0 where
    pub is : pending a c ≡ xs
    pub keys : freed s ≡ take count (keys_of key xs)
    pub slots : (k : ℕ) → k < count → pending (ins k) (suc c) ≡ rows_of_key key xs (slice_get (freed s) k)
    pub from : lo ≤ suc c
    pub done : did of_group who ins lo c ≡ []
    pub calm : s.flush ≡ true → length s.keys ≤ s.turn

  -- the end at u was the last that came: the slots before the turn have ended, the others still have the rows of their keys
  pub record Flush (c : ℕ) (s : Slots) (lo u : ℕ) (xs : List Row) : Type 0 where
    pub end : a.ends u ≡ true
    pub past : u < c
    pub quiet : (x : ℕ) → u < x → x < c → Carries a x → ⊥
    pub empty : pending a c ≡ []
    pub is : stream a u ≡ xs ++ option_to_list s.held
    pub flush : s.flush ≡ true
    pub keys : s.keys ≡ take count (keys_of key (stream a u))
    pub time : c + s.wait ≡ u + s.turn * stride
    pub once : 1 ≤ s.turn
    pub small : s.wait < stride
    pub slots : (k : ℕ) → s.turn ≤ k → k < count → pending (ins k) (suc c) ≡ rows_of_key key xs (slice_get s.keys k)
    pub over : (k : ℕ) → k < s.turn → k < count → pending (ins k) (suc c) ≡ []
    pub from : lo ≤ suc c
    pub done : did of_group who ins lo c ≡ map (group_of (stream a u)) (take s.turn s.keys)
    pub rest : (x k : ℕ) → u + count * stride + 1 ≤ x → x ≤ c → who x ≡ Some k → ⊥

  pub one_stride : stride ≤ count * stride
  one_stride = let z : 1 * stride ≤ count * stride = mul-le-mul_right stride front.slots_some in omega (arith, z)

  pub grows : (k c : ℕ) (x : Option Row) → (ins k).ends (suc c) ≡ false → (ins k).tuple (suc c) ≡ x → pending (ins k) (suc (suc c)) ≡ pending (ins k) (suc c) ++ option_to_list x
  grows k c x e t = rw (e, t) refl

  pub stops : (k c : ℕ) → (ins k).ends (suc c) ≡ true → pending (ins k) (suc (suc c)) ≡ []
  stops k c e = rw e refl

  pub keys_with : (xs : List Row) (o : Option Row) (ks : List ℕ) → ks ≡ take count (keys_of key xs) → with_tuple count key o ks ≡ take count (keys_of key (xs ++ option_to_list o))
  keys_with xs None ks e = e ∙ ap (λ l. take count (keys_of key l)) (sym (append-nil xs))
  keys_with xs (Some r) ks e = ap (λ l. with_tuple count key (Some r) l) e ∙ sym (keys-push count key xs r)

  rows_with_more : (xs : List Row) (o : Option Row) (ks : List ℕ) → ks ≡ take count (keys_of key xs) → (k : ℕ) → rows_of_key key xs (slice_get (with_tuple count key o ks) k) ≡ rows_of_key key xs (slice_get ks k)
  rows_with_more xs None ks e k = refl
  rows_with_more xs (Some r) ks e k = subst (λ l. rows_of_key key xs (slice_get (with_tuple count key (Some r) l) k) ≡ rows_of_key key xs (slice_get l k)) (sym e) (rows_kept count key xs (key r) k)

  pub few_keys : (xs : List Row) (ks : List ℕ) → ks ≡ take count (keys_of key xs) → length ks ≤ count
  few_keys xs ks e = let z = ap length e in omega (arith, z, length-take count (keys_of key xs))

  pub group_shown : (c k y : ℕ) (ks : List ℕ) (xs : List Row) → (slots_at count key stride a (suc c)).keys ≡ ks → who (suc c) ≡ Some k → slice_get ks k ≡ Some y → stream (ins k) (suc c) ≡ xs → of_group (suc c, stream (ins k) (suc c)) ≡ record { key = y; rows = xs }
  group_shown c k y ks xs keys seen got rows =
      ap (λ (z : Option ℕ). record { key = slot_key (slot_or z) (suc c); rows = stream (ins k) (suc c) }) seen
      ∙ ap (λ (z : List ℕ). record { key = key_or (slice_get z k); rows = stream (ins k) (suc c) }) keys
      ∙ ap (λ (z : Option ℕ). record { key = key_or z; rows = stream (ins k) (suc c) }) got
      ∙ ap (λ (z : List Row). record { key = y; rows = z }) rows

  pub flow_tuple : (c : ℕ) (s : Slots) (lo : ℕ) (xs : List Row) → Flow c s lo xs → (r : Row) → Step c false (Some r) s → Flow (suc c) (slots_next stride false (Some r) (keys_now count key false (Some r) s) s) lo (xs ++ r ∷ [])
  flow_tuple c s lo xs h r step = record {
    is = rw (step.is_end, step.is_tuple, h.is) refl;
    keys = keys_with xs (Some r) (freed s) h.keys;
    slots = λ k l.
        grows k c (of_slot key (with_tuple count key (Some r) (freed s)) k (Some r)) (step.ends k l) (step.tuples k l)
        ∙ ap (λ z. z ++ option_to_list (of_slot key (with_tuple count key (Some r) (freed s)) k (Some r))) (h.slots k l ∙ sym (rows_with_more xs (Some r) (freed s) h.keys k))
        ∙ sym (rows-push key xs (Some r) (with_tuple count key (Some r) (freed s)) k);
    from = omega (arith, h.from);
    done = did_none of_group who ins lo c h.from step.visit ∙ h.done;
    calm = λ e. absurd (cc);
  }

  pub flow_idle : (c : ℕ) (s : Slots) (lo : ℕ) (xs : List Row) → Flow c s lo xs → Step c false None s → Flow (suc c) (slots_next stride false None (keys_now count key false None s) s) lo xs
  flow_idle c s lo xs h step =
      let stays : ((s.flush && nat_eq s.wait 0) && nat_lt s.turn (length s.keys)) ≡ false = (elim (cases_Bool s.flush) [
        | inl e ↦ and_right _ _ (le-ltb _ _ (h.calm e))
        | inr e ↦ and_left _ _ (and_left _ _ e)
      ]) in
      record {
        is = rw (step.is_end, step.is_tuple, h.is) (append-nil xs);
        keys = h.keys;
        slots = λ k l. grows k c None (step.ends k l ∙ and_left _ _ stays) (step.tuples k l ∙ ap (λ z. if z then of_slot key s.keys k s.held else None) (and_left _ (nat_eq k s.turn) stays)) ∙ append-nil _ ∙ h.slots k l;
        from = omega (arith, h.from);
        done = did_none of_group who ins lo c h.from (step.visit ∙ ap (λ (z : Bool). if z then Some s.turn else None) stays) ∙ h.done;
        calm = λ e. let z = h.calm e in later (s.flush && nat_eq s.wait 0) z;
      }
    where
      later : (b : Bool) → length s.keys ≤ s.turn → length s.keys ≤ (if b then suc s.turn else s.turn)
      later true z = omega (arith, z)
      later false z = z

  pub flow_end : (c : ℕ) (s : Slots) (lo : ℕ) (xs : List Row) → Flow c s lo xs → (o : Option Row) → Step c true o s → Flush (suc c) (slots_next stride true o (keys_now count key true o s) s) lo c xs
  flow_end c s lo xs h o step = record {
    end = step.is_end;
    past = omega arith;
    quiet = λ x l m k. omega (arith, l, m);
    empty = rw step.is_end refl;
    is = whole;
    flush = refl;
    keys = keys_with xs o (freed s) h.keys ∙ ap (λ l. take count (keys_of key l)) (sym whole);
    time = omega (arith, front.stride_some);
    once = omega arith;
    small = omega (arith, front.stride_some);
    slots = λ k l m. let other : nat_eq k 0 ≡ false = ne_eqb k 0 (λ e. omega (arith, e, l)) in
        grows k c None (step.ends k m ∙ and_right _ _ other) (step.tuples k m ∙ ap (λ z. if z then of_slot key ks k o else None) (and_right (nat_lt 0 (length ks)) (nat_eq k 0) other)) ∙ append-nil _ ∙ h.slots k m ∙ sym (rows_with_more xs o (freed s) h.keys k);
    over = λ k l m. let e : k ≡ 0 = omega (arith, l) in subst (λ i. pending (ins i) (suc (suc c)) ≡ []) (sym e) (first (cases_lt 0 (length ks)));
    from = omega (arith, h.from);
    done = visited (cases_lt 0 (length ks));
    rest = λ x k l m w. omega (arith, l, m, one_stride, front.stride_some);
  }
    where
      ks : List ℕ
      ks = with_tuple count key o (freed s)

      whole : stream a c ≡ xs ++ option_to_list o
      whole = rw (step.is_tuple, h.is) refl

      first : (0 < length ks) ⊎ (length ks ≤ 0) → pending (ins 0) (suc (suc c)) ≡ []
      first (inl l) = stops 0 c (step.ends 0 front.slots_some ∙ and_from _ _ (lt-ltb _ _ l) refl)
      first (inr l) =
          grows 0 c None (step.ends 0 front.slots_some ∙ and_left _ _ (le-ltb _ _ l)) (step.tuples 0 front.slots_some ∙ ap (λ z. if z then of_slot key ks 0 o else None) (and_left (nat_lt 0 (length ks)) (nat_eq 0 0) (le-ltb _ _ l))) ∙ append-nil _
          ∙ h.slots 0 front.slots_some ∙ sym (rows_with_more xs o (freed s) h.keys 0) ∙ ap (rows_of_key key xs) (get_past ks 0 l)

      visited : (0 < length ks) ⊎ (length ks ≤ 0) → did of_group who ins lo (suc c) ≡ map (group_of (stream a c)) (take 1 ks)
      visited (inl l) =
          let y = key_below ks 0 l in
          let seen : who (suc c) ≡ Some 0 = step.visit ∙ ap (λ (z : Bool). if z then Some 0 else None) (lt-ltb _ _ l) in
          let took : (ins 0).tuple (suc c) ≡ of_slot key ks 0 o = step.tuples 0 front.slots_some ∙ ap (λ z. if z then of_slot key ks 0 o else None) (and_from _ _ (lt-ltb 0 (length ks) l) refl) in
          let shown : stream (ins 0) (suc c) ≡ rows_with key (stream a c) y.0 =
          ap (λ z. pending (ins 0) (suc c) ++ option_to_list z) took
          ∙ ap (λ z. z ++ option_to_list (of_slot key ks 0 o)) (h.slots 0 front.slots_some ∙ sym (rows_with_more xs o (freed s) h.keys 0))
          ∙ sym (rows-push key xs o ks 0) ∙ ap (rows_of_key key (xs ++ option_to_list o)) y.1 ∙ ap (λ z. rows_with key z y.0) (sym whole)
          in
          did_one of_group who ins lo c 0 h.from seen ∙ ap (λ z. z ++ of_group (suc c, stream (ins 0) (suc c)) ∷ []) h.done ∙ ap (λ z. z ∷ []) (group_shown c 0 y.0 ks (rows_with key (stream a c) y.0) step.stays seen y.1 shown) ∙ sym (ap (map (group_of (stream a c))) y.2)
      visited (inr l) = did_none of_group who ins lo c h.from (step.visit ∙ ap (λ (z : Bool). if z then Some 0 else None) (le-ltb _ _ l)) ∙ h.done ∙ sym (ap (λ z. map (group_of (stream a c)) (take 1 z)) (nil ks l))
        where
          nil : (zs : List ℕ) → length zs ≤ 0 → zs ≡ []
          nil [] e = refl
          nil (z ∷ zs) e = absurd (omega (arith, e))
