-- The rows of a slot are those of its key.
use Rattle.std.proofs.Common.{◌≡◌, ℕ, zero, suc, ◌+◌, List, [], ◌∷◌, ◌++◌, Option, Some, None, Bool, true, false, take, refl, sym, ap, ◌∙◌, eq-eqb, append-nil}
use Rattle.std.specs.Prelude.{option_and_then, option_to_list, slice_get, nat_eq, if◌then◌else◌}
use Rattle.std.proofs.lemmas.Bool.{eqb-true}
use Rattle.gl_values.specs.Lists.{keys_of, rows_with}
use Rattle.gl_values.specs.Partitions.{has_key}
use Rattle.gl_values.specs.Results.{Row}
use Rattle.gl_frames.specs.Frames.{by_key, if_has_key, row_before}
use Rattle.gl_frames.proofs.ListLemmas.{one_more}
use Rattle.gl_frames_keys.specs.Lanes.{IsKeyedLane, first_keys, is_kept}
use Rattle.gl_frames_keys.specs.Laws.{KeyedLanesRun, SlotsHaveKeys}
use Rattle.gl_frames_keys.proofs.LateLemmas.{delayed_both, running_late}
use Rattle.gl_frames_wire.specs.Running.{Runs, running}
use Rattle.gl_frames_wire.specs.Since.{all_ends, rows_here, rows_past, rows_since}
use Rattle.gl_slots.specs.Slots.{of_slot, rows_of_key, same_key}
use Rattle.gl_slots.proofs.KeyLemmas.{keys-push, rows-push, rows_kept}
use Rattle.gl_wire.specs.Wire.{Carried, pending, stream}
use Rattle.gl_wire.proofs.StageLemmas.{delayed_same}
use Rattle.gl_wire_lanes.specs.Lanes.{Lane, row_in}

of_none : (key : Row → ℕ) (o : Option ℕ) → rows_of_key key [] o ≡ []
of_none key None = refl
of_none key (Some x) = refl

module _ (groups : ℕ) (key : Row → ℕ) (a : Carried) (l : Lane) (row : ℕ → Row) (h : IsKeyedLane groups key a l row) where
  -- the rows of a key before a row more are those by the keys with it
  same_before : (c k : ℕ) (o : Option Row) → a.tuple c ≡ o
      → rows_of_key key (pending a c) (slice_get (first_keys groups key a c) k) ≡ rows_of_key key (pending a c) (slice_get (take groups (keys_of key (pending a c))) k)
  same_before c k None p =
      ap (λ z. rows_of_key key (pending a c) (slice_get (take groups (keys_of key (pending a c ++ option_to_list z))) k)) p
      ∙ ap (λ xs. rows_of_key key (pending a c) (slice_get (take groups (keys_of key xs)) k)) (append-nil (pending a c))
  same_before c k (Some r) p =
      ap (λ z. rows_of_key key (pending a c) (slice_get (take groups (keys_of key (pending a c ++ option_to_list z))) k)) p
      ∙ ap (λ ks. rows_of_key key (pending a c) (slice_get ks k)) (keys-push groups key (pending a c) r)
      ∙ rows_kept groups key (pending a c) (key r) k

  -- with the row of the cycle
  grown : (c k : ℕ) (xs : List Row) → xs ≡ rows_of_key key (pending a c) (slice_get (take groups (keys_of key (pending a c))) k)
      → xs ++ (if nat_eq (l.slot c) k then row_in l row c else []) ≡ rows_of_key key (stream a c) (slice_get (first_keys groups key a c) k)
  grown c k xs e =
      ap (λ own. xs ++ own) (h.takes c k)
      ∙ ap (λ ys. ys ++ option_to_list (of_slot key (first_keys groups key a c) k (a.tuple c))) (e ∙ sym (same_before c k (a.tuple c) refl))
      ∙ sym (rows-push key (pending a c) (a.tuple c) (first_keys groups key a c) k)

  pub slot_rows : (k c : ℕ) → rows_since (all_ends l) l row k c ≡ rows_of_key key (pending a c) (slice_get (take groups (keys_of key (pending a c))) k)
  slot_rows k zero = sym (of_none key (slice_get (take groups (keys_of key [])) k))
  slot_rows k (suc c) = by (l.ends c) (a.ends c) (h.ends c) (nat_eq (l.slot c) k) (rows_since (all_ends l) l row k c) (grown c k (rows_since (all_ends l) l row k c) (slot_rows k c))
    where
      moved : (s : Bool) (xs own : List Row) → (if s then xs ++ own else xs) ≡ xs ++ (if s then own else [])
      moved true xs own = refl
      moved false xs own = sym (append-nil xs)

      by : (e d : Bool) → e ≡ d → (s : Bool) (xs : List Row) → xs ++ (if s then row_in l row c else []) ≡ rows_of_key key (stream a c) (slice_get (first_keys groups key a c) k)
          → (if e then [] else (if s then xs ++ row_in l row c else xs))
          ≡ rows_of_key key (if d then [] else stream a c) (slice_get (take groups (keys_of key (if d then [] else stream a c))) k)
      by true true p s xs g = sym (of_none key (slice_get (take groups (keys_of key [])) k))
      by true false p s xs g = absurd (cc)
      by false true p s xs g = absurd (cc)
      by false false p s xs g = moved s xs (row_in l row c) ∙ g

  -- with a row of a slot, its key's rows
  here_is : (c : ℕ) → rows_here (all_ends l) l row c ≡ rows_of_key key (stream a c) (slice_get (first_keys groups key a c) (l.slot c))
  here_is c =
      ap (λ own. rows_past (all_ends l) l row c ++ own) (sym (ap (λ (b : Bool). if b then row_in l row c else []) (eq-eqb (l.slot c) (l.slot c) refl)))
      ∙ grown c (l.slot c) (rows_past (all_ends l) l row c) (slot_rows (l.slot c) c)

  -- where the lane has a row its slot has the row's key
  pub has_its_key : (c : ℕ) (r : Row) → a.tuple c ≡ Some r → l.valid c ≡ true → slice_get (first_keys groups key a c) (l.slot c) ≡ Some (key r)
  has_its_key c r p v = by (slice_get (first_keys groups key a c) (l.slot c)) there
    where
      one : (b : Bool) → b ≡ true → (if b then row c ∷ [] else []) ≡ row c ∷ []
      one true q = refl
      one false q = absurd (cc)

      there : row c ∷ [] ≡ option_to_list (if same_key (slice_get (first_keys groups key a c) (l.slot c)) (key r) then Some r else None)
      there =
          sym (ap (λ (b : Bool). if b then row_in l row c else []) (eq-eqb (l.slot c) (l.slot c) refl) ∙ one (l.valid c) v)
          ∙ h.takes c (l.slot c) ∙ ap (λ o. option_to_list (of_slot key (first_keys groups key a c) (l.slot c) o)) p

      by : (o : Option ℕ) → row c ∷ [] ≡ option_to_list (if same_key o (key r) then Some r else None) → o ≡ Some (key r)
      by None q = absurd (cc)
      by (Some y) q = known (nat_eq (key r) y) refl q
        where
          known : (b : Bool) → nat_eq (key r) y ≡ b → row c ∷ [] ≡ option_to_list (if b then Some r else None) → Some y ≡ Some (key r)
          known true e q = ap Some (sym (eqb-true (key r) y e))
          known false e q = absurd (cc)

  module _ (of : List Row → Row) (made : ℕ → Row) (is : (c : ℕ) → l.valid c ≡ true → made c ≡ of (rows_here (all_ends l) l row c)) where
    tuples : (c : ℕ) → (if l.valid c then Some (made c) else None) ≡ option_and_then (λ r. by_key groups key of (stream a c)) (a.tuple c)
    tuples c = by (a.tuple c) refl
      where
        last : (r : Row) → a.tuple c ≡ Some r → row_before 0 (stream a c) ≡ Some r
        last r p = ap (λ o. row_before 0 (pending a c ++ option_to_list o)) p ∙ ap (λ xs. slice_get xs 0) (one_more (pending a c) r)

        split : (r : Row) (v : Bool) → a.tuple c ≡ Some r → l.valid c ≡ v → has_key groups key (stream a c) (key r) ≡ v
            → (if v then Some (made c) else None) ≡ if_has_key groups key of (stream a c) (Some r)
        split r true p q e =
            ap Some (is c q ∙ ap of (here_is c ∙ ap (rows_of_key key (stream a c)) (has_its_key c r p q)))
            ∙ sym (ap (λ (b : Bool). if b then Some (of (rows_with key (stream a c) (key r))) else None) e)
        split r false p q e = sym (ap (λ (b : Bool). if b then Some (of (rows_with key (stream a c) (key r))) else None) e)

        by : (o : Option Row) → a.tuple c ≡ o → (if l.valid c then Some (made c) else None) ≡ option_and_then (λ r. by_key groups key of (stream a c)) o
        by None p = ap (λ (b : Bool). if b then Some (made c) else None) (h.valid c ∙ ap (is_kept groups key a c) p)
        by (Some r) p =
            let kept : l.valid c ≡ has_key groups key (stream a c) (key r) = h.valid c ∙ ap (is_kept groups key a c) p in
            split r (l.valid c) p refl (sym kept) ∙ sym (ap (if_has_key groups key of (stream a c)) (last r p))

pub slots_keyed : SlotsHaveKeys
slots_keyed groups key a l row h k c = slot_rows groups key a l row h k c

pub keyed_run : KeyedLanesRun
keyed_run m d groups key of a late b l row made behind h is out =
    delayed_both d m (running (by_key groups key of) a) (running (by_key groups key of) late) b
    (running_late d a late behind (by_key groups key of)) runs
  where
    runs : Runs m (by_key groups key of) late b
    runs = delayed_same m (record { tuple = λ c. if l.valid c then Some (made c) else None; ends = l.ends })
        (running (by_key groups key of) late) b (tuples groups key late l row h of made is) h.ends out
