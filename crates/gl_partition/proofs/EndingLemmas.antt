-- Which slot's window ends in a cycle, and what its visit shows.
use Rattle.std.proofs.Common.{◌≡◌, ℕ, zero, suc, ◌/◌, ◌<◌, List, Option, Some, None, Bool, true, false, refl, sym, ap, ◌∙◌, arith, inl, inr}
use Rattle.std.specs.Prelude.{if◌then◌else◌, slice_get}
use Rattle.std.proofs.lemmas.Bool.{cases_lt}
use Rattle.std.proofs.lemmas.Nat.{div-mul-add, mod_below}
use Rattle.gl_values.specs.Lists.{Group}
use Rattle.gl_values.specs.Results.{Row}
use Rattle.gl_wire.specs.Lift.{Visits}
use Rattle.gl_slots.specs.Slots.{Slots, key_or, keys_at, slot_or, slots_at, slots_next}
use Rattle.gl_partition.specs.Machine.{closes, copy_of, ending, oldest, who_ends}
use Rattle.gl_partition.proofs.Setting.{Setting}

module _ (front : Setting) where
  open front use {n, a, ins}

  abbrev pub copies : ℕ
  copies = front.n.copies

  abbrev pub who : Visits
  who = who_ends n a

  -- the registers of the keys and turns, and the keys with what comes
  abbrev pub slots : ℕ → Slots
  slots c = slots_at front.n.slots front.n.key front.n.stride a c

  abbrev pub keys : ℕ → List ℕ
  keys c = keys_at front.n.slots front.n.key front.n.stride a c

  pub ending_none : (c k : ℕ) → ((i : ℕ) → i < k → closes n a i c ≡ false) → ending n a c k ≡ None
  ending_none c zero h = refl
  ending_none c (suc i) h =
      ap (λ (b : Bool). if b then Some (copy_of n i (oldest n a i c)) else ending n a c i) (h i (omega arith)) ∙ ending_none c i (λ j l. h j (omega (arith, l)))

  pub ending_one : (c k j : ℕ) → j < k → closes n a j c ≡ true → ((i : ℕ) → i < k → (i ≡ j → ⊥) → closes n a i c ≡ false) → ending n a c k ≡ Some (copy_of n j (oldest n a j c))
  ending_one c zero j l p h = absurd (omega (arith, l))
  ending_one c (suc i) j l p h = elim (cases_lt j i) [
    | inl m ↦
        ap (λ (b : Bool). if b then Some (copy_of n i (oldest n a i c)) else ending n a c i) (h i (omega arith) (λ e. omega (arith, e, m)))
        ∙ ending_one c i j m p (λ k q e. h k (omega (arith, q)) e)
    | inr m ↦ (let e : j ≡ i = omega (arith, l, m) in
        ap (λ (b : Bool). if b then Some (copy_of n i (oldest n a i c)) else ending n a c i) (ap (λ (v : ℕ). closes n a v c) (sym e) ∙ p) ∙ ap (λ (v : ℕ). Some (copy_of n v (oldest n a v c))) (sym e))
  ]

  pub ending_some : (c k v : ℕ) → ending n a c k ≡ Some v → (j : ℕ) × (j < k) × (closes n a j c ≡ true) × (v ≡ copy_of n j (oldest n a j c))
  ending_some c zero v h = absurd (cc)
  ending_some c (suc i) v h = by (closes n a i c) refl h (ending_some c i v)
    where
      by : (b : Bool) → closes n a i c ≡ b → (if b then Some (copy_of n i (oldest n a i c)) else ending n a c i) ≡ Some v → (ending n a c i ≡ Some v → (j : ℕ) × (j < i) × (closes n a j c ≡ true) × (v ≡ copy_of n j (oldest n a j c)))
          → (j : ℕ) × (j < suc i) × (closes n a j c ≡ true) × (v ≡ copy_of n j (oldest n a j c))
      by true p g later = (i, omega arith, p, (let same : copy_of n i (oldest n a i c) ≡ v = cc in sym same))
      by false p g later = let z = later g in (z.0, omega (arith, z.1), z.2, z.3)

  -- ---- what a visit shows

  -- the key that a slot shows, and the window of a visit with it
  abbrev pub slot_key : ℕ → ℕ → ℕ
  slot_key i c = key_or (slice_get (slots c).keys i)

  abbrev pub of_part : ℕ × List Row → Group Row
  of_part v = record { key = slot_key (slot_or (who v.0) / copies) v.0; rows = v.1 }

  next_keys : (e : Bool) (o : Option Row) (ks : List ℕ) (s : Slots) → (slots_next front.n.stride e o ks s).keys ≡ ks
  next_keys true o ks s = refl
  next_keys false None ks s = refl
  next_keys false (Some r) ks s = refl

  pub keys_stay : (c : ℕ) → (slots (suc c)).keys ≡ keys c
  keys_stay c = next_keys (a.ends c) (a.tuple c) (keys c) (slots c)

  pub oldest_below : (i c : ℕ) → oldest n a i c < copies
  oldest_below i c = mod_below _ copies front.copies_some

  pub slot_of : (i c : ℕ) → copy_of n i (oldest n a i c) / copies ≡ i
  slot_of i c = div-mul-add i copies (oldest n a i c) (oldest_below i c)

  pub part_shown : (c i y : ℕ) (rows : List Row) → who (suc c) ≡ Some (copy_of n i (oldest n a i c)) → slice_get (keys c) i ≡ Some y → of_part (suc c, rows) ≡ record { key = y; rows = rows }
  part_shown c i y rows seen got =
      ap (λ (z : Option ℕ). record { key = slot_key (slot_or z / copies) (suc c); rows = rows }) seen
      ∙ ap (λ (z : ℕ). record { key = slot_key z (suc c); rows = rows }) (slot_of i c)
      ∙ ap (λ (z : List ℕ). record { key = key_or (slice_get z i); rows = rows }) (keys_stay c)
      ∙ ap (λ (z : Option ℕ). record { key = key_or z; rows = rows }) got
