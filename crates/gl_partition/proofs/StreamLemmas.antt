-- All slots while a stream comes: the windows that have ended are those that rows of their keys completed.
use Rattle.std.proofs.Common.{◌≡◌, ℕ, suc, ◌+◌, ◌*◌, ◌%◌, ◌<◌, ◌≤◌, List, [], ◌∷◌, ◌++◌, length, take, length-take, Option, Some, None, Bool, true, false, ◌&&◌, refl, sym, ap, ◌∙◌, subst, arith, inl, inr, length-append}
use Rattle.std.specs.Prelude.{if◌then◌else◌, option_to_list, nat_eq, slice_get}
use Rattle.std.specs.List.{list_any}
use Rattle.std.proofs.lemmas.Bool.{cases_lt, and_left, eq-eqb, eqb-true}
use Rattle.std.proofs.lemmas.List.{append-nil}
use Rattle.gl_values.specs.Lists.{Group, keys_of, rows_with}
use Rattle.gl_values.specs.Partitions.{completed, completed_by, fulls, has_key, keyed}
use Rattle.gl_values.specs.Results.{Row}
use Rattle.gl_bits.proofs.AllLists.{get_below}
use Rattle.gl_bits.proofs.Bools.{true_or_false}
use Rattle.gl_values.proofs.Grouping.{AreDistinct, distinct_once, distinct_take}
use Rattle.gl_values.proofs.Parting.{fulls-push}
use Rattle.gl_wire.specs.Wire.{pending, stream}
use Rattle.gl_wire.proofs.VisitLemmas.{did, did_none, did_one}
use Rattle.gl_slots.specs.Slots.{freed, with_tuple, of_slot, rows_of_key, same_key}
use Rattle.gl_slots.proofs.OneLemmas.{not_listed}
use Rattle.gl_slots.proofs.KeyLemmas.{keys-push, rows-push, rows_kept}
use Rattle.gl_partition.specs.Machine.{Windows, closes, closing, comes, copy_of, due, mid, next, oldest, opening, windows_at}
use Rattle.gl_partition.proofs.Setting.{Setting}
use Rattle.gl_partition.proofs.OwnCopies.{Step, step_at, wire}
use Rattle.gl_partition.proofs.OwnFlow.{Own, own_mid, own_tuple, own_rests, Completes, whole_now, not_yet, completes}
use Rattle.gl_partition.proofs.PartLists.{completed_now, completed_not, one_place, place_with}
use Rattle.gl_partition.proofs.EndingLemmas.{ending_none, ending_one, keys, of_part, part_shown, slots, who}

module _ (front : Setting) where
  open front use {n, a, ins}

  abbrev size : ℕ
  size = front.n.size

  abbrev advance : ℕ
  advance = front.n.advance

  abbrev count : ℕ
  count = front.n.slots

  abbrev key : Row → ℕ
  key = front.n.key

  -- a slot has these rows
  pub record Owns (c i : ℕ) (there : i < count) (xs : List Row) : Type 0 where
    pub base : ℕ
    pub q : ℕ
    pub d : ℕ
    pub is : Own front i there c (windows_at n a i c) base q d xs

  -- a stream comes, of which xs has come: each slot has the rows of its key
  pub record Flow (c lo : ℕ) (xs : List Row) : Type 0 where
    pub is : pending a c ≡ xs
    pub keys' : freed (slots front c) ≡ take count (keys_of key xs)
    pub owns : (i : ℕ) (there : i < count) → Owns c i there (rows_of_key key xs (slice_get (freed (slots front c)) i))
    pub from : lo ≤ suc c
    pub done : did (of_part front) (who front) ins lo c ≡ fulls count key size advance [] xs

  -- ---- a slot

  -- whether its row of this cycle completes a window
  pub data Done (c i : ℕ) (there : i < count) (zs : List Row) (ends : Bool) (old : ℕ) : Type 0 where
    ended : ends ≡ true → completed size advance zs ≡ stream (wire front i there old) (suc c) ∷ [] → Done c i there zs ends old
    going : ends ≡ false → completed size advance zs ≡ [] → Done c i there zs ends old

  pub done_of : (c i : ℕ) (there : i < count) (d e : ℕ) (xs : List Row) (r : Row) (b : Bool) (old : ℕ) → ((j : ℕ) → j < d → j * advance + size ≤ length xs) → Completes front i there c d (xs ++ r ∷ []) b old e → Done c i there (xs ++ r ∷ []) b old
  done_of c i there d e xs r b old whole (whole_now p k v) = ended p (completed_now size advance d (xs ++ r ∷ []) k ∙ ap (λ (z : List Row). z ∷ []) (sym v))
  done_of c i there d e xs r b old whole (not_yet p k) = going p (completed_not size advance d (xs ++ r ∷ []) k (λ j l. omega (arith, whole j l, length-append xs (r ∷ []))))

  -- a row of its key, or none of it
  pub record Stepped (c i : ℕ) (there : i < count) (s' : Windows) (zs : List Row) : Type 0 where
    pub base : ℕ
    pub q : ℕ
    pub d : ℕ
    pub is : Own front i there (suc c) s' base q d zs

  slot_tuple : (c i : ℕ) (there : i < count) (s : Windows) (base q d : ℕ) (xs : List Row) → Own front i there c s base q d xs → (e b : Bool) (o held : Option Row) (r : Row) → e ≡ false → o ≡ Some r → Step front i there c e b o held s
      → Stepped c i there (next n e b o s) (xs ++ r ∷ []) × Done c i there (xs ++ r ∷ []) (closing front.n.copies b o (opening advance front.n.copies o s)) (opening advance front.n.copies o s).closed
  slot_tuple c i there s base q d xs h true b o held r p f step = absurd (cc)
  slot_tuple c i there s base q d xs h false b None held r p f step = absurd (cc)
  slot_tuple c i there s base q d xs h false b (Some r') held r p f step =
      let same : r' ≡ r = cc in
      subst (λ z. Stepped c i there (next n false b (Some r') s) (xs ++ z ∷ []) × Done c i there (xs ++ z ∷ []) (closing front.n.copies b (Some r') (opening advance front.n.copies (Some r') s)) (opening advance front.n.copies (Some r') s).closed) same (
        record { base = base; q = (own_mid front i there c s base q d xs h (Some r')).0; d = if closing front.n.copies b (Some r') (opening advance front.n.copies (Some r') s) then suc d else d; is = own_tuple front i there c s base q d xs h b r' held step },
        done_of c i there d _ xs r' _ _ h.whole (completes front i there c s base q d xs h false b r' held step),
      )

  slot_rests : (c i : ℕ) (there : i < count) (s : Windows) (base q d : ℕ) (xs : List Row) → Own front i there c s base q d xs → (e b : Bool) (o held : Option Row) → e ≡ false → o ≡ None → b ≡ false → Step front i there c e b o held s
      → Stepped c i there (next n e b o s) xs × (closing front.n.copies b o (opening advance front.n.copies o s) ≡ false)
  slot_rests c i there s base q d xs h true b o held p f g step = absurd (cc)
  slot_rests c i there s base q d xs h false b (Some r) held p f g step = absurd (cc)
  slot_rests c i there s base q d xs h false b None held p f g step =
      let stays : (b && s.is_open (s.closed % front.n.copies)) ≡ false = and_left _ _ g in (
        record { base = base; q = q; d = d; is = own_rests front i there c s base q d xs h b held stays step },
        stays,
      )

  -- ---- a row of the stream: its slot may end a window, no other one does

  pub of_slot_by : (ks : List ℕ) (r : Row) (i : ℕ) (b : Bool) → same_key (slice_get ks i) (key r) ≡ b → of_slot key ks i (Some r) ≡ (if b then Some r else None)
  of_slot_by ks r i b p = ap (λ (z : Bool). if z then Some r else None) p

  has_same : (r : Row) (o : Option ℕ) → same_key o (key r) ≡ true → o ≡ Some (key r)
  has_same r None p = absurd (cc)
  has_same r (Some y) p = let e = eqb-true (key r) y p in ap (λ (v : ℕ). Some v) (sym e)

  same_has : (r : Row) (o : Option ℕ) → o ≡ Some (key r) → same_key o (key r) ≡ true
  same_has r None p = absurd (cc)
  same_has r (Some y) p = let e : y ≡ key r = cc in eq-eqb (key r) y (sym e)

  -- in a cycle with a row the keys are ks
  module _ (c lo : ℕ) (xs : List Row) (r : Row) (ks : List ℕ) (keys_is : keys front c ≡ ks) (ks_are : ks ≡ take count (keys_of key (xs ++ r ∷ []))) (from : lo ≤ suc c) (done : did (of_part front) (who front) ins lo c ≡ fulls count key size advance [] xs)
      (mine : (i : ℕ) (there : i < count) → of_slot key ks i (Some r) ≡ Some r → Done c i there (rows_of_key key (xs ++ r ∷ []) (slice_get ks i)) (closes n a i c) (mid n a i c).closed)
      (other : (i : ℕ) → i < count → of_slot key ks i (Some r) ≡ None → closes n a i c ≡ false) where
    ks_few : length ks ≤ count
    ks_few = let z = ap length ks_are in omega (arith, z, length-take count (keys_of key (xs ++ r ∷ [])))

    ks_distinct : AreDistinct ks
    ks_distinct = subst AreDistinct (sym ks_are) (distinct_take count _ (distinct_once _))

    not_mine : (i j : ℕ) → slice_get ks j ≡ Some (key r) → (i ≡ j → ⊥) → of_slot key ks i (Some r) ≡ None
    not_mine i j at apart = elim (true_or_false (same_key (slice_get ks i) (key r))) [
      | inl t ↦ absurd (apart (one_place ks (key r) i j ks_distinct (has_same r (slice_get ks i) t) at))
      | inr f ↦ of_slot_by ks r i false f
    ]

    no_ones : list_any (nat_eq (key r)) ks ≡ false → (i : ℕ) → of_slot key ks i (Some r) ≡ None
    no_ones none i = elim (true_or_false (same_key (slice_get ks i) (key r))) [
      | inl t ↦ absurd (not_listed ks (key r) i none (has_same r (slice_get ks i) t))
      | inr f ↦ of_slot_by ks r i false f
    ]

    grown : fulls count key size advance [] (xs ++ r ∷ []) ≡ fulls count key size advance [] xs ++ completed_by count key size advance xs r
    grown = fulls-push count size advance key front.rows_some front.step_some [] xs r

    has_is : has_key count key (xs ++ r ∷ []) (key r) ≡ list_any (nat_eq (key r)) ks
    has_is = ap (list_any (nat_eq (key r))) (sym ks_are)

    by_has : (b : Bool) → has_key count key (xs ++ r ∷ []) (key r) ≡ b → completed_by count key size advance xs r ≡ (if b then keyed (key r) (completed size advance (rows_with key (xs ++ r ∷ []) (key r))) else [])
    by_has b p = ap (λ (z : Bool). if z then keyed (key r) (completed size advance (rows_with key (xs ++ r ∷ []) (key r))) else []) p

    told_with : (j : ℕ) → slice_get ks j ≡ Some (key r) → list_any (nat_eq (key r)) ks ≡ true → did (of_part front) (who front) ins lo (suc c) ≡ fulls count key size advance [] (xs ++ r ∷ [])
    told_with j at has = by (mine j below (of_slot_by ks r j true (same_has r (slice_get ks j) at)))
      where
        below : j < count
        below = omega (arith, get_below ks j (key r) at, ks_few)

        others : (i : ℕ) → i < count → (i ≡ j → ⊥) → closes n a i c ≡ false
        others i l apart = other i l (not_mine i j at apart)

        rows : rows_of_key key (xs ++ r ∷ []) (slice_get ks j) ≡ rows_with key (xs ++ r ∷ []) (key r)
        rows = ap (rows_of_key key (xs ++ r ∷ [])) at

        by : Done c j below (rows_of_key key (xs ++ r ∷ []) (slice_get ks j)) (closes n a j c) (mid n a j c).closed → did (of_part front) (who front) ins lo (suc c) ≡ fulls count key size advance [] (xs ++ r ∷ [])
        by (ended e k) =
            let seen : who front (suc c) ≡ Some (copy_of n j (oldest n a j c)) = ending_one front c count j below e others in
            let whole : completed_by count key size advance xs r ≡ keyed (key r) (stream (ins (copy_of n j (oldest n a j c))) (suc c) ∷ []) =
            by_has true (has_is ∙ has) ∙ ap (λ (zs : List Row). keyed (key r) (completed size advance zs)) (sym rows) ∙ ap (keyed (key r)) k
            in
            did_one (of_part front) (who front) ins lo c (copy_of n j (oldest n a j c)) from seen
            ∙ ap (λ z. z ++ of_part front (suc c, stream (ins (copy_of n j (oldest n a j c))) (suc c)) ∷ []) done
            ∙ ap (λ (g : Group Row). fulls count key size advance [] xs ++ g ∷ []) (part_shown front c j (key r) (stream (ins (copy_of n j (oldest n a j c))) (suc c)) seen (ap (λ z. slice_get z j) keys_is ∙ at))
            ∙ ap (λ z. fulls count key size advance [] xs ++ z) (sym whole) ∙ sym grown
        by (going e k) =
            let none : (i : ℕ) → i < count → closes n a i c ≡ false = λ i l. elim (cases_lt i j) [
              | inl m ↦ others i l (λ z. omega (arith, z, m))
              | inr m ↦ elim (cases_lt j i) [ inl o ↦ others i l (λ z. omega (arith, z, o)) | inr o ↦ (let same : j ≡ i = omega (arith, m, o) in ap (λ (v : ℕ). closes n a v c) (sym same) ∙ e) ]
            ] in
            let nothing : completed_by count key size advance xs r ≡ [] = by_has true (has_is ∙ has) ∙ ap (λ (zs : List Row). keyed (key r) (completed size advance zs)) (sym rows) ∙ ap (keyed (key r)) k in
            did_none (of_part front) (who front) ins lo c from (ending_none front c count none) ∙ done ∙ sym (append-nil _) ∙ ap (λ z. fulls count key size advance [] xs ++ z) (sym nothing) ∙ sym grown

    told_without : list_any (nat_eq (key r)) ks ≡ false → did (of_part front) (who front) ins lo (suc c) ≡ fulls count key size advance [] (xs ++ r ∷ [])
    told_without none =
        let nothing : completed_by count key size advance xs r ≡ [] = by_has false (has_is ∙ none) in
        did_none (of_part front) (who front) ins lo c from (ending_none front c count (λ i l. other i l (no_ones none i))) ∙ done ∙ sym (append-nil _) ∙ ap (λ z. fulls count key size advance [] xs ++ z) (sym nothing) ∙ sym grown

    pub told : did (of_part front) (who front) ins lo (suc c) ≡ fulls count key size advance [] (xs ++ r ∷ [])
    told = elim (true_or_false (list_any (nat_eq (key r)) ks)) [
      | inl t ↦ (let p = place_with ks (key r) t in told_with p.0 p.1 t)
      | inr f ↦ told_without f
    ]

  -- ---- a row of the stream, without the end

  pub keys_with : (xs : List Row) (o : Option Row) (ks : List ℕ) → ks ≡ take count (keys_of key xs) → with_tuple count key o ks ≡ take count (keys_of key (xs ++ option_to_list o))
  keys_with xs None ks e = e ∙ ap (λ l. take count (keys_of key l)) (sym (append-nil xs))
  keys_with xs (Some r) ks e = ap (λ l. with_tuple count key (Some r) l) e ∙ sym (keys-push count key xs r)

  pub rows_with_more : (xs : List Row) (o : Option Row) (ks : List ℕ) → ks ≡ take count (keys_of key xs) → (k : ℕ) → rows_of_key key xs (slice_get (with_tuple count key o ks) k) ≡ rows_of_key key xs (slice_get ks k)
  rows_with_more xs None ks e k = refl
  rows_with_more xs (Some r) ks e k = subst (λ l. rows_of_key key xs (slice_get (with_tuple count key (Some r) l) k) ≡ rows_of_key key xs (slice_get l k)) (sym e) (rows_kept count key xs (key r) k)

  module _ (c lo : ℕ) (xs : List Row) (h : Flow c lo xs) (r : Row) (calm : a.ends c ≡ false) (comes_now : a.tuple c ≡ Some r) where
    abbrev now : List ℕ
    now = with_tuple count key (Some r) (freed (slots front c))

    now_is : keys front c ≡ now
    now_is = rw (calm, comes_now) refl

    now_are : now ≡ take count (keys_of key (xs ++ r ∷ []))
    now_are = keys_with xs (Some r) (freed (slots front c)) h.keys'

    next_freed : freed (slots front (suc c)) ≡ now
    next_freed = rw (calm, comes_now) refl

    comes_is : (i : ℕ) → comes n a i c ≡ of_slot key now i (Some r)
    comes_is i = rw (calm, comes_now) refl

    not_due : (i : ℕ) → due n a i c ≡ false
    not_due i = rw (calm, comes_now) refl

    own_now : (i : ℕ) (there : i < count) → Owns c i there (rows_of_key key xs (slice_get now i))
    own_now i there = subst (Owns c i there) (sym (rows_with_more xs (Some r) (freed (slots front c)) h.keys' i)) (h.owns i there)

    -- the slot of the row's key
    with_row : (i : ℕ) (there : i < count) → of_slot key now i (Some r) ≡ Some r
        → Stepped c i there (windows_at n a i (suc c)) (rows_of_key key (xs ++ r ∷ []) (slice_get now i)) × Done c i there (rows_of_key key (xs ++ r ∷ []) (slice_get now i)) (closes n a i c) (mid n a i c).closed
    with_row i there f =
        let own = own_now i there in
        let rows : rows_of_key key xs (slice_get now i) ++ r ∷ [] ≡ rows_of_key key (xs ++ r ∷ []) (slice_get now i) = ap (λ (o : Option Row). rows_of_key key xs (slice_get now i) ++ option_to_list o) (sym f) ∙ sym (rows-push key xs (Some r) now i) in
        subst (λ zs. Stepped c i there (windows_at n a i (suc c)) zs × Done c i there zs (closes n a i c) (mid n a i c).closed) rows
        (slot_tuple c i there (windows_at n a i c) own.base own.q own.d (rows_of_key key xs (slice_get now i)) own.is (a.ends c) (due n a i c) (comes n a i c) _ r calm (comes_is i ∙ f) (step_at front i there c))

    -- another one
    without_row : (i : ℕ) (there : i < count) → of_slot key now i (Some r) ≡ None
        → Stepped c i there (windows_at n a i (suc c)) (rows_of_key key (xs ++ r ∷ []) (slice_get now i)) × (closes n a i c ≡ false)
    without_row i there f =
        let own = own_now i there in
        let rows : rows_of_key key xs (slice_get now i) ≡ rows_of_key key (xs ++ r ∷ []) (slice_get now i) = sym (append-nil _) ∙ ap (λ (o : Option Row). rows_of_key key xs (slice_get now i) ++ option_to_list o) (sym f) ∙ sym (rows-push key xs (Some r) now i) in
        subst (λ zs. Stepped c i there (windows_at n a i (suc c)) zs × (closes n a i c ≡ false)) rows
        (slot_rests c i there (windows_at n a i c) own.base own.q own.d (rows_of_key key xs (slice_get now i)) own.is (a.ends c) (due n a i c) (comes n a i c) _ calm (comes_is i ∙ f) (not_due i) (step_at front i there c))

    stepped : (i : ℕ) (there : i < count) → Stepped c i there (windows_at n a i (suc c)) (rows_of_key key (xs ++ r ∷ []) (slice_get now i))
    stepped i there = elim (true_or_false (same_key (slice_get now i) (key r))) [
      | inl t ↦ (with_row i there (of_slot_by now r i true t)).0
      | inr f ↦ (without_row i there (of_slot_by now r i false f)).0
    ]

    pub flow_tuple : Flow (suc c) lo (xs ++ r ∷ [])
    flow_tuple = record {
      is = rw (calm, comes_now, h.is) refl;
      keys' = next_freed ∙ now_are;
      owns = λ i there. subst (λ z. Owns (suc c) i there (rows_of_key key (xs ++ r ∷ []) (slice_get z i))) (sym next_freed) (let w = stepped i there in record { base = w.base; q = w.q; d = w.d; is = w.is });
      from = omega (arith, h.from);
      done = told c lo xs r now now_is now_are h.from h.done (λ i there f. (with_row i there f).1) (λ i there f. (without_row i there f).1);
    }

  -- nothing comes
  pub flow_idle : (c lo : ℕ) (xs : List Row) → Flow c lo xs → (slots front c).flush ≡ false → a.ends c ≡ false → a.tuple c ≡ None → Flow (suc c) lo xs
  flow_idle c lo xs h unflushed calm nothing = record {
    is = rw (calm, nothing, h.is) (append-nil xs);
    keys' = stays ∙ h.keys';
    owns = λ i there. subst (λ z. Owns (suc c) i there (rows_of_key key xs (slice_get z i))) (sym stays) (let w = (rests i there).0 in record { base = w.base; q = w.q; d = w.d; is = w.is });
    from = omega (arith, h.from);
    done = did_none (of_part front) (who front) ins lo c h.from (ending_none front c count (λ i l. (rests i l).1)) ∙ h.done;
  }
    where
      stays : freed (slots front (suc c)) ≡ freed (slots front c)
      stays = rw (calm, nothing) refl

      comes_none : (i : ℕ) → comes n a i c ≡ None
      comes_none i = rw nothing refl

      undue : (i : ℕ) → due n a i c ≡ false
      undue i = rw (calm, nothing, unflushed) refl

      rests : (i : ℕ) (there : i < count) → Stepped c i there (windows_at n a i (suc c)) (rows_of_key key xs (slice_get (freed (slots front c)) i)) × (closes n a i c ≡ false)
      rests i there =
          let own = h.owns i there in
          slot_rests c i there (windows_at n a i c) own.base own.q own.d (rows_of_key key xs (slice_get (freed (slots front c)) i)) own.is (a.ends c) (due n a i c) (comes n a i c) _ calm (comes_none i) (undue i) (step_at front i there c)
