-- A lane by key one cycle later.
use Rattle.std.proofs.Common.{◌≡◌, ℕ, zero, suc, ◌+◌, List, [], ◌∷◌, Option, Some, None, Bool, true, false, take, refl, sym, ap, ◌∙◌, arith}
use Rattle.std.specs.Prelude.{not, ◌&&◌, if◌then◌else◌, nat_eq, option_to_list}
use Rattle.gl_values.specs.Lists.{keys_of}
use Rattle.gl_values.specs.Partitions.{has_key}
use Rattle.gl_values.specs.Results.{Row}
use Rattle.gl_frames_keys.specs.Lanes.{IsKeyedLane, IsLaneLate, first_keys, is_first, is_kept}
use Rattle.gl_frames_keys.specs.Laws.{KeyedLanesGoLate}
use Rattle.gl_slots.specs.Slots.{of_slot}
use Rattle.gl_wire.specs.Shapes.{IsDelayed}
use Rattle.gl_wire.specs.Wire.{Carried, pending, stream}
use Rattle.gl_wire.proofs.DelayLemmas.{stream_delayed}
use Rattle.gl_wire_lanes.specs.Lanes.{Lane, row_in}

module _ (groups : ℕ) (key : Row → ℕ) (a b : Carried) (l d : Lane) (row late : ℕ → Row) (h : IsKeyedLane groups key a l row)
    (none : a.tuple 0 ≡ None) (behind : IsDelayed 1 a b) (is : IsLaneLate l d row late) where
  no_tuple : b.tuple 0 ≡ None
  no_tuple = behind.before 0 (omega arith)

  tuple_late : (c : ℕ) → b.tuple (suc c) ≡ a.tuple c
  tuple_late c = let e : c + 1 ≡ suc c = omega arith in ap b.tuple (sym e) ∙ behind.tuples c

  stream_late : (c : ℕ) → stream b (suc c) ≡ stream a c
  stream_late c = let e : c + 1 ≡ suc c = omega arith in ap (stream b) (sym e) ∙ stream_delayed 1 a b behind c

  pending_late : (c : ℕ) → pending b (suc c) ≡ pending a c
  pending_late zero =
      ap (λ (e : Bool). if e then [] else option_to_list (b.tuple 0)) (behind.no_end 0 (omega arith)) ∙ ap (λ (o : Option Row). option_to_list o) no_tuple
  pending_late (suc c) =
      let e : c + 1 ≡ suc c = omega arith in
      ap (λ (x : Bool). if x then [] else stream b (suc c)) (ap b.ends (sym e) ∙ behind.ends c)
      ∙ ap (λ (xs : List Row). if a.ends c then [] else xs) (stream_late c)

  kept_late : (c : ℕ) → is_kept groups key b (suc c) (b.tuple (suc c)) ≡ is_kept groups key a c (a.tuple c)
  kept_late c = ap (is_kept groups key b (suc c)) (tuple_late c) ∙ by (a.tuple c)
    where
      by : (o : Option Row) → is_kept groups key b (suc c) o ≡ is_kept groups key a c o
      by None = refl
      by (Some r) = ap (λ xs. has_key groups key xs (key r)) (stream_late c)

  first_late : (c : ℕ) → is_first groups key b (suc c) (b.tuple (suc c)) ≡ is_first groups key a c (a.tuple c)
  first_late c = ap (is_first groups key b (suc c)) (tuple_late c) ∙ by (a.tuple c)
    where
      by : (o : Option Row) → is_first groups key b (suc c) o ≡ is_first groups key a c o
      by None = refl
      by (Some r) =
          ap (λ xs. has_key groups key xs (key r) && not (has_key groups key (pending b (suc c)) (key r))) (stream_late c)
          ∙ ap (λ xs. has_key groups key (stream a c) (key r) && not (has_key groups key xs (key r))) (pending_late c)

  slot_late : (c k : ℕ) → option_to_list (of_slot key (first_keys groups key b (suc c)) k (b.tuple (suc c))) ≡ option_to_list (of_slot key (first_keys groups key a c) k (a.tuple c))
  slot_late c k =
      ap (λ o. option_to_list (of_slot key (first_keys groups key b (suc c)) k o)) (tuple_late c)
      ∙ ap (λ xs. option_to_list (of_slot key (take groups (keys_of key xs)) k (a.tuple c))) (stream_late c)

  -- a slot takes nothing where no row comes
  nothing : (l : Lane) (row : ℕ → Row) (c k : ℕ) → l.valid c ≡ false → (if nat_eq (l.slot c) k then row_in l row c else []) ≡ []
  nothing l row c k v = by (nat_eq (l.slot c) k) (l.valid c) v
    where
      by : (s q : Bool) → q ≡ false → (if s then (if q then row c ∷ [] else []) else []) ≡ []
      by true false e = refl
      by true true e = absurd (cc)
      by false q e = refl

  takes : (c k : ℕ) → (if nat_eq (d.slot c) k then row_in d late c else []) ≡ option_to_list (of_slot key (first_keys groups key b c) k (b.tuple c))
  takes zero k = nothing d late 0 k is.no_row ∙ sym (ap (λ o. option_to_list (of_slot key (first_keys groups key b 0) k o)) no_tuple)
  takes (suc zero) k =
      let low : l.valid 0 ≡ false = h.valid 0 ∙ ap (is_kept groups key a 0) none in
      nothing d late 1 k (is.rows 0 ∙ low) ∙ sym (ap (λ o. option_to_list (of_slot key (first_keys groups key a 0) k o)) none) ∙ sym (slot_late 0 k)
  takes (suc (suc c)) k =
      ap (λ s. if nat_eq s k then row_in d late (suc (suc c)) else []) (is.slots c)
      ∙ ap (λ (v : Bool). if nat_eq (l.slot (suc c)) k then (if v then late (suc (suc c)) ∷ [] else []) else []) (is.rows (suc c))
      ∙ ap (λ (xs : List Row). if nat_eq (l.slot (suc c)) k then xs else []) (same_row (l.valid (suc c)) refl)
      ∙ h.takes (suc c) k ∙ sym (slot_late (suc c) k)
    where
      same_row : (v : Bool) → l.valid (suc c) ≡ v → (if v then late (suc (suc c)) ∷ [] else []) ≡ (if v then row (suc c) ∷ [] else [])
      same_row true q = ap (λ (r : Row). r ∷ []) (is.values c q)
      same_row false q = refl

  valid_late : (c : ℕ) → d.valid c ≡ is_kept groups key b c (b.tuple c)
  valid_late zero = is.no_row ∙ sym (ap (is_kept groups key b 0) no_tuple)
  valid_late (suc c) = is.rows c ∙ h.valid c ∙ sym (kept_late c)

  new_late : (c : ℕ) → d.first c ≡ is_first groups key b c (b.tuple c)
  new_late zero = is.no_first ∙ sym (ap (is_first groups key b 0) no_tuple)
  new_late (suc c) = is.firsts c ∙ h.first c ∙ sym (first_late c)

  ends_late : (c : ℕ) → d.ends c ≡ b.ends c
  ends_late zero = is.no_end ∙ sym (behind.no_end 0 (omega arith))
  ends_late (suc c) = let e : c + 1 ≡ suc c = omega arith in is.ends c ∙ h.ends c ∙ sym (behind.ends c) ∙ ap b.ends e

  pub late_is : IsKeyedLane groups key b d late
  late_is = record { takes = takes; valid = valid_late; first = new_late; ends = ends_late }

pub lanes_late : KeyedLanesGoLate
lanes_late groups key a b l d row late h none behind is = late_is groups key a b l d row late h none behind is
