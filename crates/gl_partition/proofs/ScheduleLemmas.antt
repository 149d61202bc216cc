-- A front of windows of each key schedules the visits of its copies.
use Rattle.std.proofs.Common.{◌≡◌, ℕ, zero, suc, ◌+◌, ◌-◌, ◌*◌, ◌/◌, ◌%◌, ◌<◌, ◌≤◌, ◌⊎◌, Option, Some, None, Bool, true, false, ◌&&◌, refl, sym, ap, ◌∙◌, subst, arith, inl, inr, mul-le-mul_right}
use Rattle.std.specs.Prelude.{if◌then◌else◌, is_some, nat_eq}
use Rattle.std.proofs.lemmas.Bool.{cases_lt, and_right, and_left, ne_eqb}
use Rattle.std.proofs.lemmas.Nat.{div-add-mod', div-mul-add, mod_below}
use Rattle.gl_values.specs.Results.{Row}
use Rattle.gl_bits.proofs.Bools.{same_test, true_or_false}
use Rattle.gl_algebra.specs.declared.figures.Figures.{Figures}
use Rattle.gl_wire.specs.Apart.{Carries, a_tuple, an_end}
use Rattle.gl_wire.specs.Lift.{Schedules}
use Rattle.gl_wire.proofs.NumberLemmas.{mul_below}
use Rattle.gl_wire.proofs.TurnLemmas.{turns_schedule}
use Rattle.gl_slots.specs.Slots.{slot_or}
use Rattle.gl_windows.proofs.SliceLemmas.{mod_apart}
use Rattle.gl_partition.specs.Machine.{closes, closing, comes, copy_of, due, ending, kept, mid, oldest, taken, Windows, windows_at}
use Rattle.gl_partition.proofs.Setting.{Setting, Spacing}
use Rattle.gl_partition.proofs.EndingLemmas.{ending_some, oldest_below, slot_of, who}
use Rattle.gl_partition.proofs.PhaseLemmas.{all}
use Rattle.gl_partition.proofs.CauseLemmas.{Source, Turn, closed_next, comes', comes_tuple, in_turn, mid_closed, mid_room, opened_next, source, turn_early, visit_of}

module _ (front : Setting) where
  open front use {n, a, ins}

  abbrev copies : ℕ
  copies = front.n.copies

  abbrev count : ℕ
  count = front.n.slots

  -- whether a window ends in a cycle, and the copy that has it
  abbrev pub ends_now : ℕ → Bool
  ends_now c = is_some (ending n a c count)

  abbrev pub turn_at : ℕ → ℕ
  turn_at c = slot_or (ending n a c count)

  as_turn : (o : Option ℕ) → o ≡ (if is_some o then Some (slot_or o) else None)
  as_turn None = refl
  as_turn (Some k) = refl

  pub record Ends (c : ℕ) : Type 0 where
    pub slot : ℕ
    pub there : slot < count
    pub ends : closes n a slot c ≡ true
    pub copy : turn_at c ≡ copy_of n slot (oldest n a slot c)

  pub ends_at : (c : ℕ) → ends_now c ≡ true → Ends c
  ends_at c p = by (ending n a c count) refl p
    where
      by : (o : Option ℕ) → ending n a c count ≡ o → is_some o ≡ true → Ends c
      by None e g = absurd (cc)
      by (Some v) e g =
          let x = ending_some front c count v e in
          record { slot = x.0; there = x.1; ends = x.2; copy = ap slot_or e ∙ x.3 }

  -- the slot of a copy, and its place there
  pub copy_is : (k : ℕ) → copy_of n (k / copies) (k % copies) ≡ k
  copy_is k = div-add-mod' k copies

  pub slot_there : (k : ℕ) → k < all front → k / copies < count
  slot_there k l = mul_below (k / copies) count copies (omega (arith, copy_is k, l))

  pub place_there : (k : ℕ) → k % copies < copies
  place_there k = mod_below k copies front.copies_some

  slot_is : (i m : ℕ) → m < copies → copy_of n i m / copies ≡ i
  slot_is i m l = div-mul-add i copies m l

  ends_slot : (i m c : ℕ) → i < count → m < copies → (ins (copy_of n i m)).ends (suc c) ≡ (ends_now c && nat_eq (copy_of n i m) (turn_at c))
  ends_slot i m c there l = front.law.ends i m c there l ∙ by (closes n a i c) refl
    where
      by : (b : Bool) → closes n a i c ≡ b → (closes n a i c && nat_eq m (oldest n a i c)) ≡ (ends_now c && nat_eq (copy_of n i m) (turn_at c))
      by true p =
          let seen : ending n a c count ≡ Some (copy_of n i (oldest n a i c)) = visit_of front i c there p in
          ap (λ (b : Bool). b && nat_eq m (oldest n a i c)) p
          ∙ same_test m (oldest n a i c) (copy_of n i m) (copy_of n i (oldest n a i c)) (λ e. omega (arith, e)) (λ e. omega (arith, e))
          ∙ ap (λ (o : Option ℕ). is_some o && nat_eq (copy_of n i m) (slot_or o)) (sym seen)
      by false p = and_left _ _ p ∙ sym (none (true_or_false (ends_now c)))
        where
          none : ((ends_now c ≡ true) ⊎ (ends_now c ≡ false)) → (ends_now c && nat_eq (copy_of n i m) (turn_at c)) ≡ false
          none (inr f) = and_left _ _ f
          none (inl t) =
              let x = ends_at c t in
              and_right _ _ (ne_eqb _ _ (λ e. other x e))
            where
              other : (x : Ends c) → copy_of n i m ≡ turn_at c → ⊥
              other x e =
                  let same : copy_of n i m ≡ copy_of n x.slot (oldest n a x.slot c) = e ∙ x.copy in
                  let slot : i ≡ x.slot = sym (slot_is i m l) ∙ ap (λ (v : ℕ). v / copies) same ∙ slot_of front x.slot c in
                  let q = x.ends in let r = ap (λ (v : ℕ). closes n a v c) slot in cc (p, q, r)

  pub ends_copy : (k c : ℕ) → k < all front → (ins k).ends (suc c) ≡ (ends_now c && nat_eq k (turn_at c))
  ends_copy k c l = subst (λ (v : ℕ). (ins v).ends (suc c) ≡ (ends_now c && nat_eq v (turn_at c))) (copy_is k) (ends_slot (k / copies) (k % copies) c (slot_there k l) (place_there k))

  -- ---- what a copy takes without an end came in the cycle before

  out_of : (e d : Bool) (o held : Option Row) (t : Windows) (k : ℕ) (r : Row) → taken copies e d o held t k ≡ Some r → (closing copies d o t && nat_eq k (t.closed % copies)) ≡ false → (e ≡ false) × (o ≡ Some r)
  out_of true d (Some q) held t k r h g = absurd (let z = ap (λ (b : Bool). if b then Some q else None) g in cc (h, z))
  out_of true d None held t k r h g = absurd (let z = ap (λ (b : Bool). if b then held else None) g in cc (h, z))
  out_of false d None held t k r h g = absurd (let z = ap (λ (b : Bool). if b then held else None) g in cc (h, z))
  out_of false d (Some q) held t k r h g = (refl, by (t.is_open k) h)
    where
      by : (b : Bool) → (if b then Some q else None) ≡ Some r → Some q ≡ Some r
      by true e = e
      by false e = absurd (cc)

  tuple_slot : (i m c : ℕ) (r : Row) → i < count → m < copies → (ins (copy_of n i m)).tuple (suc c) ≡ Some r → (ins (copy_of n i m)).ends (suc c) ≡ false → (a.ends c ≡ false) × (a.tuple c ≡ Some r)
  tuple_slot i m c r there l h g =
      let x = out_of (a.ends c) (due n a i c) (comes n a i c) (kept n a i c) (mid n a i c) m r (sym (front.law.tuples i m c there l) ∙ h) (sym (front.law.ends i m c there l) ∙ g) in
      (x.0, (comes_tuple front i c r x.1).0)

  pub tuple_copy : (k c : ℕ) (r : Row) → k < all front → (ins k).tuple (suc c) ≡ Some r → (ins k).ends (suc c) ≡ false → (a.ends c ≡ false) × (a.tuple c ≡ Some r)
  tuple_copy k c r l h g =
      tuple_slot (k / copies) (k % copies) c r (slot_there k l) (place_there k) (ap (λ (v : ℕ). (ins v).tuple (suc c)) (copy_is k) ∙ h) (ap (λ (v : ℕ). (ins v).ends (suc c)) (copy_is k) ∙ g)

  -- before the first cycle is over nothing was taken
  first_none : (k : ℕ) → k < all front → (ins k).tuple 0 ≡ None
  first_none k l = ap (λ (v : ℕ). (ins v).tuple 0) (sym (copy_is k)) ∙ front.law.no_tuple (k / copies) (k % copies) (slot_there k l) (place_there k)

  first_no_end : (k : ℕ) → k < all front → (ins k).ends 0 ≡ false
  first_no_end k l = ap (λ (v : ℕ). (ins v).ends 0) (sym (copy_is k)) ∙ front.law.no_end (k / copies) (k % copies) (slot_there k l) (place_there k)

  pub part_caused : (k c : ℕ) (r : Row) → k < all front → (ins k).tuple c ≡ Some r → (ins k).ends c ≡ false → (x : ℕ) × (c ≡ suc x) × Carries a x
  part_caused k zero r l h g = absurd (let z = first_none k l in cc (z, h))
  part_caused k (suc x) r l h g = (x, refl, a_tuple r (tuple_copy k x r l h g).1)

  -- ---- two ends

  module _ (time : Spacing front) where
    abbrev stride : ℕ
    stride = front.n.stride

    -- two causes in one copy are the gap after an end apart, and any two the stride
    pub record Between (i j x y : ℕ) : Type 0 where
      pub in_one : copy_of n i (oldest n a i x) ≡ copy_of n j (oldest n a j y) → x + time.gap_end ≤ y
      pub any : x + stride ≤ y

    -- of one copy are windows of one slot, whose numbers leave the same rest
    same_copy : (i j x y : ℕ) → copy_of n i (oldest n a i x) ≡ copy_of n j (oldest n a j y) → (i ≡ j) × (oldest n a i x ≡ oldest n a j y)
    same_copy i j x y e =
        let slot : i ≡ j = sym (slot_of front i x) ∙ ap (λ (v : ℕ). v / copies) e ∙ slot_of front j y in
        let start : i * copies ≡ j * copies = ap (λ (v : ℕ). v * copies) slot in
        (slot, omega (arith, e, start))

    carries : (i c : ℕ) (r : Row) → comes n a i c ≡ Some r → Carries a c
    carries i c r e = a_tuple r (comes_tuple front i c r e).0

    come_come : (i j x y : ℕ) → Carries a x → Carries a y → x < y → Between i j x y
    come_come i j x y k l g = let z = time.timed.apart x y k l g in record { in_one = λ e. omega (arith, z, time.near); any = omega (arith, z, time.near, time.strides) }

    pub turn_come : (i j x y : ℕ) → i < count → Turn front i x → Carries a y → x < y → Between i j x y
    turn_come i j x y there t k g =
        let z = time.timed.after t.u y t.end k (omega (arith, t.time, g)) in
        let w = turn_early front i x there t in
        record { in_one = λ e. omega (arith, z, w, t.time, time.far); any = omega (arith, z, w, t.time, time.far, time.strides) }

    come_turn : (i j x y : ℕ) → i < count → j < count → closes n a i x ≡ true → Carries a x → Turn front j y → x < y → Between i j x y
    come_turn i j x y there there' p k t g =
        let w = turn_early front j y there' t in
        elim (cases_lt x t.u) [
          | inl m ↦ (let z = time.timed.apart x t.u k (an_end t.end) m in record { in_one = λ e. omega (arith, z, time.near, t.time); any = omega (arith, z, time.near, time.strides, t.time) })
          | inr m ↦ elim (cases_lt t.u x) [
            | inl o ↦ absurd (let z = time.timed.after t.u x t.end k o in omega (arith, z, w, t.time, time.far, g))
            | inr o ↦
                let at : t.u ≡ x = omega (arith, m, o) in
                let one : 1 * stride ≤ t.turn * stride = mul-le-mul_right stride (omega (arith, t.low)) in
                record { in_one = λ e. absurd (apart at e); any = omega (arith, one, t.time, at) }
          ]
        ]
      where
        apart : t.u ≡ x → copy_of n i (oldest n a i x) ≡ copy_of n j (oldest n a j y) → ⊥
        apart at e =
            let s = same_copy i j x y e in
            let room = mid_room front i x there in
            let began : (windows_at n a j (suc t.u)).closed ≡ (windows_at n a i (suc x)).closed = ap (λ (v : ℕ). (windows_at n a v (suc t.u)).closed) (sym s.0) ∙ ap (λ (v : ℕ). (windows_at n a i (suc v)).closed) at in
            let begun : (windows_at n a j (suc t.u)).opened ≡ (windows_at n a i (suc x)).opened = ap (λ (v : ℕ). (windows_at n a v (suc t.u)).opened) (sym s.0) ∙ ap (λ (v : ℕ). (windows_at n a i (suc v)).opened) at in
            let next : (windows_at n a i (suc x)).closed ≡ suc (windows_at n a i x).closed = closed_next front i x ∙ ap (λ (b : Bool). if b then suc (windows_at n a i x).closed else (windows_at n a i x).closed) p in
            mod_apart copies (mid n a i x).closed (mid n a j y).closed (omega (arith, t.copy, began, next, mid_closed front i x)) (omega (arith, t.open', begun, opened_next front i x, room.high)) s.1

    turn_turn : (i j x y : ℕ) → i < count → j < count → Turn front i x → Turn front j y → x < y → Between i j x y
    turn_turn i j x y there there' s t g =
        let v = turn_early front i x there s in
        let w = turn_early front j y there' t in
        elim (cases_lt s.u t.u) [
          | inl m ↦ (let z = time.timed.after s.u t.u s.end (an_end t.end) m in record { in_one = λ e. omega (arith, z, v, s.time, t.time, time.far); any = omega (arith, z, v, s.time, t.time, time.far, time.strides) })
          | inr m ↦ elim (cases_lt t.u s.u) [
            | inl o ↦ absurd (let z = time.timed.after t.u s.u t.end (an_end s.end) o in omega (arith, z, w, t.time, s.time, time.far, g))
            | inr o ↦
                let at : s.u ≡ t.u = omega (arith, m, o) in
                let more : s.turn < t.turn = mul_below s.turn t.turn stride (omega (arith, g, s.time, t.time, at)) in
                let one : suc s.turn * stride ≤ t.turn * stride = mul-le-mul_right stride more in
                record { in_one = λ e. absurd (apart at more e); any = omega (arith, one, s.time, t.time, at) }
          ]
        ]
      where
        apart : s.u ≡ t.u → s.turn < t.turn → copy_of n i (oldest n a i x) ≡ copy_of n j (oldest n a j y) → ⊥
        apart at more e =
            let same = same_copy i j x y e in
            let start : i * copies ≡ j * copies = ap (λ (v : ℕ). v * copies) same.0 in
            let began : (windows_at n a j (suc t.u)).closed ≡ (windows_at n a i (suc s.u)).closed = ap (λ (v : ℕ). (windows_at n a v (suc t.u)).closed) (sym same.0) ∙ ap (λ (v : ℕ). (windows_at n a i (suc v)).closed) (sym at) in
            mod_apart copies (mid n a i x).closed (mid n a j y).closed (omega (arith, s.copy, t.copy, began, start, more, s.low)) (omega (arith, s.copy, t.copy, began, start, t.high, s.low)) same.1

    pub between : (i j x y : ℕ) → i < count → j < count → closes n a i x ≡ true → Source front i x → Source front j y → x < y → Between i j x y
    between i j x y l m p (comes' r e) (comes' q f) g = come_come i j x y (carries i x r e) (carries j y q f) g
    between i j x y l m p (comes' r e) (in_turn t) g = come_turn i j x y l m p (carries i x r e) t g
    between i j x y l m p (in_turn s) (comes' q f) g = turn_come i j x y l s (carries j y q f) g
    between i j x y l m p (in_turn s) (in_turn t) g = turn_turn i j x y l m s t g

    between_ends : (x y : ℕ) (e : Ends x) (f : Ends y) → x < y → Between e.slot f.slot x y
    between_ends x y e f g = between e.slot f.slot x y e.there f.there e.ends (source front e.slot x e.there e.ends) (source front f.slot y f.there f.ends) g

    then_comes : (x y : ℕ) → Ends x → Carries a y → x < y → x + time.gap_end ≤ y
    then_comes x y e k g = by (source front e.slot x e.there e.ends)
      where
        by : Source front e.slot x → x + time.gap_end ≤ y
        by (comes' r f) = let z = time.timed.apart x y (carries e.slot x r f) k g in omega (arith, z, time.near)
        by (in_turn t) =
            let z = time.timed.after t.u y t.end k (omega (arith, t.time, g)) in
            let w = turn_early front e.slot x e.there t in
            omega (arith, z, w, t.time, time.far)

    comes_then : (x y : ℕ) → Carries a x → a.ends x ≡ false → Ends y → x < y → x + time.g1 ≤ y
    comes_then x y k calm e g = by (source front e.slot y e.there e.ends)
      where
        by : Source front e.slot y → x + time.g1 ≤ y
        by (comes' r f) = time.timed.apart x y k (carries e.slot y r f) g
        by (in_turn t) = elim (cases_lt x t.u) [
          | inl m ↦ (let z = time.timed.apart x t.u k (an_end t.end) m in omega (arith, z, t.time))
          | inr m ↦ elim (cases_lt t.u x) [
            | inl o ↦ absurd (let z = time.timed.after t.u x t.end k o in let w = turn_early front e.slot y e.there t in omega (arith, z, w, t.time, time.far, g))
            | inr o ↦ absurd (let at : t.u ≡ x = omega (arith, m, o) in let z = ap a.ends at in let w = t.end in cc (z, w, calm))
          ]
        ]

    below : (c : ℕ) → Ends c → turn_at c < all front
    below c e =
        let up : suc e.slot * copies ≤ count * copies = mul-le-mul_right copies e.there in
        omega (arith, e.copy, oldest_below front e.slot c, up)

    pub parts_schedule : (f : Figures) → f.ge ≡ time.gap_end → f.gt ≤ time.g1 → stride ≡ f.le - f.a + 1 → Schedules f (all front) (who front) ins
    parts_schedule f ge_is gt_near interval = turns_schedule f (all front) (who front) ends_now turn_at a ins (record {
      first = refl;
      next = λ c. as_turn (ending n a c count);
      no_tuple = first_none;
      no_end = first_no_end;
      ends = ends_copy;
      tuples = tuple_copy;
      within = λ c p. below c (ends_at c p);
      in_one = λ x y p q m e. let v = ends_at x p in let w = ends_at y q in let z = (between_ends x y v w m).in_one (sym v.copy ∙ e ∙ w.copy) in omega (arith, z, ge_is);
      any = λ x y p q m. let z = (between_ends x y (ends_at x p) (ends_at y q) m).any in omega (arith, z, interval);
      then_comes = λ k x y r l p e h g m. let z = then_comes x y (ends_at x p) (a_tuple r (tuple_copy k y r l h g).1) m in omega (arith, z, ge_is);
      comes_then = λ x y k calm q m. let z = comes_then x y k calm (ends_at y q) m in omega (arith, z, gt_near);
      apart = λ x y k j m. let z = time.timed.apart x y k j m in omega (arith, z, gt_near);
    })
