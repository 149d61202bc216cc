-- All slots behind the end of a stream, cycle by cycle: a turn ends a window or none, and the flush is over when the turns are.
use Rattle.std.proofs.Common.{◌≡◌, ℕ, zero, suc, ◌+◌, ◌-◌, ◌*◌, ◌/◌, ◌%◌, ◌<◌, ◌≤◌, List, [], ◌∷◌, ◌++◌, length, take, length-take, map, Option, Some, None, Bool, true, false, ◌&&◌, refl, sym, ap, ◌∙◌, subst, arith, inl, inr, mul-le-mul_right}
use Rattle.std.specs.Prelude.{if◌then◌else◌, option_to_list, nat_eq, nat_le, nat_lt, slice_get}
use Rattle.std.proofs.lemmas.Bool.{cases_lt, and_from, and_left, and_right, eqb-true, lt-ltb, le-ltb, le-leb, lt-leb}
use Rattle.std.proofs.lemmas.List.{append-nil, append_assoc}
use Rattle.std.proofs.lemmas.Nat.{div-add-mod', mod_below}
use Rattle.gl_values.specs.Lists.{Group, keys_of, part, rows_with}
use Rattle.gl_values.specs.Partitions.{fulls, keyed, short_slices}
use Rattle.gl_values.specs.Results.{Row}
use Rattle.gl_bits.proofs.AllLists.{get_past}
use Rattle.gl_bits.proofs.Bools.{true_or_false}
use Rattle.gl_wire.specs.Apart.{Carries, a_tuple, an_end}
use Rattle.gl_wire.specs.Wire.{stream}
use Rattle.gl_wire.proofs.NumberLemmas.{mul_below}
use Rattle.gl_wire.proofs.VisitLemmas.{did, did_none, did_one, visits_none}
use Rattle.gl_slots.specs.Slots.{freed, of_slot, rows_of_key}
use Rattle.gl_slots.proofs.KeyLemmas.{rows-push}
use Rattle.gl_partition.specs.Machine.{Windows, closes, closing, comes, copy_of, due, kept, next, oldest, opening, windows_at}
use Rattle.gl_partition.proofs.Setting.{Setting, all_of_slots}
use Rattle.gl_partition.proofs.OwnCopies.{Step, step_at, wire}
use Rattle.gl_partition.proofs.OwnFlush.{Cut, Short, own_again, none_left, short_turns, short_waits}
use Rattle.gl_partition.proofs.PartLists.{in_turn, later_get, later_past, later_parts, shorts_are, turned}
use Rattle.gl_partition.proofs.EndingLemmas.{ending_none, ending_one, keys, of_part, part_shown, slots, who}
use Rattle.gl_partition.proofs.StreamLemmas.{Flow, Owns}
use Rattle.gl_partition.proofs.FlushLemmas.{Flush, Shorts}

module _ (front : Setting) where
  open front use {n, a, ins}

  abbrev size : ℕ
  size = front.n.size

  abbrev advance : ℕ
  advance = front.n.advance

  abbrev copies : ℕ
  copies = front.n.copies

  abbrev count : ℕ
  count = front.n.slots

  abbrev stride : ℕ
  stride = front.n.stride

  abbrev key : Row → ℕ
  key = front.n.key

  -- ---- a cycle in which nothing comes

  not_past : (x y z : ℕ) → x ≤ y → nat_lt y x ≡ false
  not_past x y z l = le-ltb y x l

  module _ (c lo u : ℕ) (xs : List Row) (h : Flush front c lo u xs) (calm : a.ends c ≡ false) (nothing : a.tuple c ≡ None) where
    abbrev ks : List ℕ
    ks = (slots front c).keys

    abbrev turn : ℕ
    turn = (slots front c).turn

    abbrev held : Option Row
    held = (slots front c).held

    keys_stay : keys front c ≡ ks
    keys_stay = rw (calm, nothing) refl

    next_keys_idle : (slots front (suc c)).keys ≡ ks
    next_keys_idle = rw (calm, nothing) refl

    next_held_idle : (slots front (suc c)).held ≡ held
    next_held_idle = rw (calm, nothing) refl

    next_flush_idle : (slots front (suc c)).flush ≡ true
    next_flush_idle = rw (calm, nothing) h.flush

    comes_none : (i : ℕ) → comes n a i c ≡ None
    comes_none i = rw nothing refl

    kept_is : (i : ℕ) → kept n a i c ≡ of_slot key ks i held
    kept_is i = ap (λ z. of_slot key z i held) keys_stay

    rows_kept_are : (i : ℕ) → rows_of_key key (stream a u) (slice_get ks i) ≡ rows_of_key key xs (slice_get ks i) ++ option_to_list (kept n a i c)
    rows_kept_are i = ap (λ z. rows_of_key key z (slice_get ks i)) h.is ∙ rows-push key xs held ks i ∙ ap (λ (z : Option Row). rows_of_key key xs (slice_get ks i) ++ option_to_list z) (sym (kept_is i))

    no_carry : Carries a c → ⊥
    no_carry (a_tuple r p) = cc (p, nothing)
    no_carry (an_end p) = cc (p, calm)

    still_quiet : (x : ℕ) → u < x → x < suc c → Carries a x → ⊥
    still_quiet x l p k = elim (cases_lt x c) [ inl y ↦ h.quiet x l y k | inr y ↦ (let e : x ≡ c = omega (arith, p, y) in no_carry (subst (Carries a) e k)) ]

    -- a slot in which no window ends
    waits : (i : ℕ) (there : i < count) (b : Bool) (o : Option Row) (s : Windows) (e : Bool) (x : Shorts front c u i there turn (rows_of_key key xs (slice_get ks i)) (rows_of_key key (stream a u) (slice_get ks i))) → s ≡ windows_at n a i c → e ≡ false → o ≡ None → closing copies b o (opening advance copies o s) ≡ false
        → (kept' : Option Row) → Step front i there c e b o kept' s → Short front i there (suc c) (next n e b o s) x.base x.q x.d (rows_of_key key xs (slice_get ks i))
    waits i there b (Some r) s e x same p f stays kept' step = absurd (cc)
    waits i there b None s true x same p f stays kept' step = absurd (cc)
    waits i there b None s false x same p f stays kept' step = short_waits front i there c s x.base x.q x.d (rows_of_key key xs (slice_get ks i)) (subst (λ z. Short front i there c z x.base x.q x.d (rows_of_key key xs (slice_get ks i))) (sym same) x.is) b kept' step stays

    slot_waits : (i : ℕ) (there : i < count) → closes n a i c ≡ false → (x : Shorts front c u i there turn (rows_of_key key xs (slice_get ks i)) (rows_of_key key (stream a u) (slice_get ks i)))
        → Short front i there (suc c) (windows_at n a i (suc c)) x.base x.q x.d (rows_of_key key xs (slice_get ks i))
    slot_waits i there stays x = waits i there (due n a i c) (comes n a i c) (windows_at n a i c) (a.ends c) x refl calm (comes_none i) stays (kept n a i c) (step_at front i there c)

    -- its oldest one ends
    pub record Turns (i : ℕ) (there : i < count) (base q d : ℕ) : Type 0 where
      pub ends : closes n a i c ≡ true
      pub is : Short front i there (suc c) (windows_at n a i (suc c)) base q (suc d) (rows_of_key key xs (slice_get ks i))
      pub shown : stream (ins (copy_of n i (oldest n a i c))) (suc c) ≡ part size (d * advance) (rows_of_key key (stream a u) (slice_get ks i))

    turns : (i : ℕ) (there : i < count) (x : Shorts front c u i there turn (rows_of_key key xs (slice_get ks i)) (rows_of_key key (stream a u) (slice_get ks i))) → due n a i c ≡ true → x.d < x.q → Turns i there x.base x.q x.d
    turns i there x is_due more =
        let z = by (a.ends c) (comes n a i c) calm (comes_none i) (step_at front i there c) in
        record { ends = z.0; is = z.1; shown = z.2 ∙ ap (part size (x.d * advance)) (sym (rows_kept_are i)) }
      where
        few : length (rows_of_key key xs (slice_get ks i) ++ option_to_list (kept n a i c)) ≤ x.d * advance + size
        few =
            let same = ap length (rows_kept_are i) in
            let up : x.f * advance ≤ x.d * advance = mul-le-mul_right advance (omega (arith, x.past)) in
            omega (arith, same, x.cut.short, up)

        by : (e : Bool) (o : Option Row) → e ≡ false → o ≡ None → Step front i there c e (due n a i c) o (kept n a i c) (windows_at n a i c)
            → (closing copies (due n a i c) o (opening advance copies o (windows_at n a i c)) ≡ true) × Short front i there (suc c) (next n e (due n a i c) o (windows_at n a i c)) x.base x.q (suc x.d) (rows_of_key key xs (slice_get ks i))
            × (stream (wire front i there (opening advance copies o (windows_at n a i c)).closed) (suc c) ≡ part size (x.d * advance) (rows_of_key key xs (slice_get ks i) ++ option_to_list (kept n a i c)))
        by e (Some r) p f step = absurd (cc)
        by true None p f step = absurd (cc)
        by false None p f step =
            let z = short_turns front i there c (windows_at n a i c) x.base x.q x.d (rows_of_key key xs (slice_get ks i)) x.is (due n a i c) (kept n a i c) step is_due more few in
            (z.ends, z.is, z.shown)

    -- ---- whose turn it is

    due_is : (i : ℕ) → due n a i c ≡ ((nat_eq (slots front c).wait 0) && (nat_lt (i * copies) turn && nat_le turn (i * copies + copies)))
    due_is i =
        let f = h.flush in
        rw (calm, nothing) (ap (λ (b : Bool). (b && nat_eq (slots front c).wait 0) && (nat_lt (i * copies) turn && nat_le turn (i * copies + copies))) f)

    undue : (i : ℕ) → due n a i c ≡ false → closes n a i c ≡ false
    undue i e = none (comes n a i c) (comes_none i)
      where
        none : (o : Option Row) → o ≡ None → closing copies (due n a i c) o (opening advance copies o (windows_at n a i c)) ≡ false
        none None p = and_left _ _ e
        none (Some r) p = absurd (cc)

    shut : (i : ℕ) (there : i < count) (x : Shorts front c u i there turn (rows_of_key key xs (slice_get ks i)) (rows_of_key key (stream a u) (slice_get ks i))) → x.d ≡ x.q → closes n a i c ≡ false
    shut i there x e = by (a.ends c) (comes n a i c) calm (comes_none i) (step_at front i there c)
      where
        by : (e' : Bool) (o : Option Row) → e' ≡ false → o ≡ None → Step front i there c e' (due n a i c) o (kept n a i c) (windows_at n a i c) → closing copies (due n a i c) o (opening advance copies o (windows_at n a i c)) ≡ false
        by true o p f step = absurd (cc)
        by false (Some r) p f step = absurd (cc)
        by false None p f step = none_left front i there c (windows_at n a i c) x.base x.q x.d (rows_of_key key xs (slice_get ks i)) x.is (due n a i c) (kept n a i c) step e

    as_next : (t : ℕ) → (slots front (suc c)).turn ≡ t → ((i : ℕ) (there : i < count) → Shorts front (suc c) u i there t (rows_of_key key xs (slice_get ks i)) (rows_of_key key (stream a u) (slice_get ks i)))
        → suc c + (slots front (suc c)).wait ≡ u + t * stride → 1 ≤ t → (slots front (suc c)).wait < stride
        → did (of_part front) (who front) ins lo (suc c) ≡ fulls count key size advance [] (stream a u) ++ turned key size advance copies (stream a u) ks (t - 1)
        → ((k : ℕ) → u + all_of_slots front.n * stride + 2 ≤ suc c → who front (suc c) ≡ Some k → ⊥) → Flush front (suc c) lo u xs
    as_next t is_turn each time once small done over = record {
      end = h.end;
      behind = omega (arith, h.behind);
      quiet = still_quiet;
      empty = rw (calm, nothing, h.empty) refl;
      is = h.is ∙ ap (λ (z : Option Row). xs ++ option_to_list z) (sym next_held_idle);
      flush = next_flush_idle;
      keys' = next_keys_idle ∙ h.keys';
      time = time ∙ ap (λ (z : ℕ). u + z * stride) (sym is_turn);
      once = rw is_turn once;
      small = small;
      shorts = λ i there. subst (λ (z : ℕ). Shorts front (suc c) u i there z (rows_of_key key xs (slice_get (slots front (suc c)).keys i)) (rows_of_key key (stream a u) (slice_get (slots front (suc c)).keys i))) (sym is_turn)
          (subst (λ z. Shorts front (suc c) u i there t (rows_of_key key xs (slice_get z i)) (rows_of_key key (stream a u) (slice_get z i))) (sym next_keys_idle) (each i there));
      from = omega (arith, h.from);
      done = done ∙ ap (λ (z : ℕ). fulls count key size advance [] (stream a u) ++ turned key size advance copies (stream a u) ks (z - 1)) (sym is_turn)
          ∙ ap (λ z. fulls count key size advance [] (stream a u) ++ turned key size advance copies (stream a u) z ((slots front (suc c)).turn - 1)) (sym next_keys_idle);
      rest = λ x k l p w. elim (cases_lt c x) [
        | inl g ↦ (let e : x ≡ suc c = omega (arith, p, g) in over k (omega (arith, l, e)) (ap (who front) (sym e) ∙ w))
        | inr g ↦ h.rest x k l g w
      ];
    }

    -- between two turns
    idle_waits : nat_eq (slots front c).wait 0 ≡ false → Flush front (suc c) lo u xs
    idle_waits p =
        let f = h.flush in
        let stays : (slots front (suc c)).turn ≡ turn = rw (calm, nothing, f, p) refl in
        let less : (slots front (suc c)).wait ≡ (slots front c).wait - 1 = rw (calm, nothing, f, p) refl in
        let some : 1 ≤ (slots front c).wait = positive (slots front c).wait p in
        let none : (i : ℕ) → closes n a i c ≡ false = λ i. undue i (due_is i ∙ and_left _ _ p) in
        let seen : who front (suc c) ≡ None = ending_none front c count (λ i l. none i) in
        as_next turn stays
        (λ i there. let x = h.shorts i there in record { base = x.base; q = x.q; f = x.f; d = x.d; is = slot_waits i there (none i) x; cut = x.cut; past = x.past; began = x.began; begun = x.begun })
        (omega (arith, h.time, less, some)) h.once (omega (arith, h.small, less)) (did_none (of_part front) (who front) ins lo c h.from seen ∙ h.done) (λ k l w. absurd (cc (w, seen)))
      where
        positive : (w : ℕ) → nat_eq w 0 ≡ false → 1 ≤ w
        positive zero e = absurd (cc)
        positive (suc w) e = omega arith

    -- ---- a turn

    module _ (now_turns : nat_eq (slots front c).wait 0 ≡ true) where
      no_wait : (slots front c).wait ≡ 0
      no_wait = eqb-true (slots front c).wait 0 now_turns

      next_turn_is : (slots front (suc c)).turn ≡ suc turn
      next_turn_is = let f = h.flush in rw (calm, nothing, f, now_turns) refl

      next_wait_is : (slots front (suc c)).wait ≡ stride - 1
      next_wait_is = let f = h.flush in rw (calm, nothing, f, now_turns) refl

      due_then : (i : ℕ) → i * copies < turn → turn ≤ i * copies + copies → due n a i c ≡ true
      due_then i low high = due_is i ∙ and_from _ _ now_turns (and_from _ _ (lt-ltb _ _ low) (le-leb _ _ high))

      early : (i : ℕ) → turn ≤ i * copies → due n a i c ≡ false
      early i l = due_is i ∙ and_right _ _ (and_left _ _ (le-ltb _ _ l))

      later : (i : ℕ) → i * copies + copies < turn → due n a i c ≡ false
      later i l = due_is i ∙ and_right _ _ (and_right _ _ (lt-leb _ _ l))

      time_is : suc c + (slots front (suc c)).wait ≡ u + suc turn * stride
      time_is = omega (arith, h.time, no_wait, next_wait_is, front.stride_some)

      small_is : (slots front (suc c)).wait < stride
      small_is = omega (arith, next_wait_is, front.stride_some)

      abbrev turning : ℕ
      turning = (turn - 1) / copies

      abbrev place : ℕ
      place = (turn - 1) % copies

      at_turn : turning * copies + place ≡ turn - 1
      at_turn = div-add-mod' (turn - 1) copies

      place_less : place < copies
      place_less = mod_below (turn - 1) copies front.copies_some

      -- another slot than the one whose turn it is
      others_shut : (i : ℕ) → (i ≡ turning → ⊥) → due n a i c ≡ false
      others_shut i apart = elim (cases_lt i turning) [
        | inl l ↦ (let up : suc i * copies ≤ turning * copies = mul-le-mul_right copies l in later i (omega (arith, up, at_turn, h.once)))
        | inr l ↦ elim (cases_lt turning i) [
          | inl g ↦ (let up : suc turning * copies ≤ i * copies = mul-le-mul_right copies g in early i (omega (arith, up, at_turn, place_less, h.once)))
          | inr g ↦ absurd (apart (omega (arith, l, g)))
        ]
      ]

      is_due : due n a turning c ≡ true
      is_due = due_then turning (omega (arith, at_turn, h.once)) (omega (arith, at_turn, place_less))

      slot_after : (i : ℕ) (there : i < count) → Shorts front (suc c) u i there (suc turn) (rows_of_key key xs (slice_get ks i)) (rows_of_key key (stream a u) (slice_get ks i))
      slot_after i there = elim (cases_lt (i * copies) turn) [
        | inr l ↦ record { base = x.base; q = x.q; f = x.f; d = x.d; is = slot_waits i there (undue i (early i l)) x; cut = x.cut; past = omega (arith, x.past, l, x.cut.low); began = x.began; begun = x.begun }
        | inl l ↦ elim (cases_lt (i * copies + copies) turn) [
          | inl g ↦ record { base = x.base; q = x.q; f = x.f; d = x.d; is = slot_waits i there (undue i (later i g)) x; cut = x.cut; past = omega (arith, x.past, g, x.cut.room, x.cut.low); began = x.began; begun = x.begun }
          | inr g ↦ elim (cases_lt x.d x.q) [
            | inl k ↦ record { base = x.base; q = x.q; f = x.f; d = suc x.d; is = (turns i there x (due_then i l g) k).is; cut = x.cut; past = omega (arith, x.past, l, k, x.cut.low); began = x.began; begun = x.begun }
            | inr k ↦ (let same : x.d ≡ x.q = omega (arith, k, x.is.low) in
                record { base = x.base; q = x.q; f = x.f; d = x.d; is = slot_waits i there (shut i there x same) x; cut = x.cut; past = omega (arith, x.past, l, same, x.cut.low); began = x.began; begun = x.begun })
          ]
        ]
      ]
        where
          x : Shorts front c u i there turn (rows_of_key key xs (slice_get ks i)) (rows_of_key key (stream a u) (slice_get ks i))
          x = h.shorts i there

      -- what the turn shows
      abbrev shown_turn : List (Group Row)
      shown_turn = in_turn key size advance copies (stream a u) ks (slice_get ks turning) place

      turned_more : turned key size advance copies (stream a u) ks (suc turn - 1) ≡ turned key size advance copies (stream a u) ks (turn - 1) ++ shown_turn
      turned_more = let e : suc turn - 1 ≡ suc (turn - 1) = omega (arith, h.once) in ap (turned key size advance copies (stream a u) ks) e

      with_none : ((i : ℕ) → i < count → closes n a i c ≡ false) → shown_turn ≡ [] → did (of_part front) (who front) ins lo (suc c) ≡ fulls count key size advance [] (stream a u) ++ turned key size advance copies (stream a u) ks (suc turn - 1)
      with_none none nothing' =
          did_none (of_part front) (who front) ins lo c h.from (ending_none front c count none) ∙ h.done
          ∙ ap (λ z. fulls count key size advance [] (stream a u) ++ z) (sym (append-nil _) ∙ ap (λ z. turned key size advance copies (stream a u) ks (turn - 1) ++ z) (sym nothing') ∙ sym turned_more)

      ks_few : length ks ≤ count
      ks_few = let z = ap length h.keys' in omega (arith, z, length-take count (keys_of key (stream a u)))

      past_slots : count ≤ turning → did (of_part front) (who front) ins lo (suc c) ≡ fulls count key size advance [] (stream a u) ++ turned key size advance copies (stream a u) ks (suc turn - 1)
      past_slots l =
          with_none (λ i k. undue i (others_shut i (λ e. omega (arith, e, k, l))))
          (ap (λ (z : Option ℕ). in_turn key size advance copies (stream a u) ks z place) (get_past ks turning (omega (arith, ks_few, l))))

      module _ (there : turning < count) where
        abbrev x' : Shorts front c u turning there turn (rows_of_key key xs (slice_get ks turning)) (rows_of_key key (stream a u) (slice_get ks turning))
        x' = h.shorts turning there

        others_closed : (i : ℕ) → i < count → (i ≡ turning → ⊥) → closes n a i c ≡ false
        others_closed i l apart = undue i (others_shut i apart)

        -- the windows that were cut short of the key's rows
        are : (f q : ℕ) (zs : List Row) → Cut front turning there q f zs → short_slices size advance zs ≡ later_parts size advance f (q - f) zs
        are f q zs cut = shorts_are size advance q f zs cut.whole cut.short cut.place front.step_some cut.all cut.low

        shut_slot : x'.d ≡ x'.q → did (of_part front) (who front) ins lo (suc c) ≡ fulls count key size advance [] (stream a u) ++ turned key size advance copies (stream a u) ks (suc turn - 1)
        shut_slot same = with_none none (by (slice_get ks turning) refl)
          where
            none : (i : ℕ) → i < count → closes n a i c ≡ false
            none i l = elim (cases_lt i turning) [
              | inl g ↦ others_closed i l (λ e. omega (arith, e, g))
              | inr g ↦ elim (cases_lt turning i) [ inl k ↦ others_closed i l (λ e. omega (arith, e, k)) | inr k ↦ (let e : turning ≡ i = omega (arith, g, k) in ap (λ (v : ℕ). closes n a v c) (sym e) ∙ shut turning there x' same) ]
            ]

            by : (o : Option ℕ) → slice_get ks turning ≡ o → shown_turn ≡ []
            by None at = ap (λ (z : Option ℕ). in_turn key size advance copies (stream a u) ks z place) at
            by (Some y) at =
                let rows : rows_of_key key (stream a u) (slice_get ks turning) ≡ rows_with key (stream a u) y = ap (rows_of_key key (stream a u)) at in
                let cut : Cut front turning there x'.q x'.f (rows_with key (stream a u) y) = subst (Cut front turning there x'.q x'.f) rows x'.cut in
                ap (λ (z : Option ℕ). in_turn key size advance copies (stream a u) ks z place) at
                ∙ ap (λ z. keyed y (option_to_list (slice_get z place))) (are x'.f x'.q (rows_with key (stream a u) y) cut)
                ∙ ap (λ (z : Option (List Row)). keyed y (option_to_list z)) (later_past size advance x'.f (x'.q - x'.f) place (rows_with key (stream a u) y) (omega (arith, x'.past, same, at_turn, h.once, x'.cut.low)))

        open_slot : x'.d < x'.q → did (of_part front) (who front) ins lo (suc c) ≡ fulls count key size advance [] (stream a u) ++ turned key size advance copies (stream a u) ks (suc turn - 1)
        open_slot more = by (slice_get ks turning) refl
          where
            z : Turns turning there x'.base x'.q x'.d
            z = turns turning there x' is_due more

            by : (o : Option ℕ) → slice_get ks turning ≡ o → did (of_part front) (who front) ins lo (suc c) ≡ fulls count key size advance [] (stream a u) ++ turned key size advance copies (stream a u) ks (suc turn - 1)
            by None at = absurd (let none : length (rows_of_key key (stream a u) (slice_get ks turning)) ≡ 0 = ap (λ (o : Option ℕ). length (rows_of_key key (stream a u) o)) at in omega (arith, none, x'.cut.place x'.d more))
            by (Some y) at =
                let rows : rows_of_key key (stream a u) (slice_get ks turning) ≡ rows_with key (stream a u) y = ap (rows_of_key key (stream a u)) at in
                let cut : Cut front turning there x'.q x'.f (rows_with key (stream a u) y) = subst (Cut front turning there x'.q x'.f) rows x'.cut in
                let at_d : x'.d ≡ x'.f + place = omega (arith, x'.past, more, at_turn, h.once, x'.cut.low) in
                let seen : who front (suc c) ≡ Some (copy_of n turning (oldest n a turning c)) = ending_one front c count turning there z.ends others_closed in
                let one : shown_turn ≡ record { key = y; rows = part size (x'.d * advance) (rows_with key (stream a u) y) } ∷ [] =
                ap (λ (v : Option ℕ). in_turn key size advance copies (stream a u) ks v place) at
                ∙ ap (λ v. keyed y (option_to_list (slice_get v place))) (are x'.f x'.q (rows_with key (stream a u) y) cut)
                ∙ ap (λ (v : Option (List Row)). keyed y (option_to_list v)) (later_get size advance x'.f (x'.q - x'.f) place (rows_with key (stream a u) y) (omega (arith, at_d, more)))
                ∙ ap (λ (v : ℕ). record { key = y; rows = part size (v * advance) (rows_with key (stream a u) y) } ∷ []) (sym at_d)
                in
                did_one (of_part front) (who front) ins lo c (copy_of n turning (oldest n a turning c)) h.from seen
                ∙ ap (λ v. v ++ of_part front (suc c, stream (ins (copy_of n turning (oldest n a turning c))) (suc c)) ∷ []) h.done
                ∙ append_assoc (fulls count key size advance [] (stream a u)) (turned key size advance copies (stream a u) ks (turn - 1)) _
                ∙ ap (λ (g : Group Row). fulls count key size advance [] (stream a u) ++ (turned key size advance copies (stream a u) ks (turn - 1) ++ g ∷ []))
                (part_shown front c turning y (stream (ins (copy_of n turning (oldest n a turning c))) (suc c)) seen (ap (λ v. slice_get v turning) keys_stay ∙ at)
                ∙ ap (λ (v : List Row). record { key = y; rows = v }) (z.shown ∙ ap (part size (x'.d * advance)) rows))
                ∙ ap (λ v. fulls count key size advance [] (stream a u) ++ (turned key size advance copies (stream a u) ks (turn - 1) ++ v)) (sym one)
                ∙ ap (λ v. fulls count key size advance [] (stream a u) ++ v) (sym turned_more)

      told_turn : did (of_part front) (who front) ins lo (suc c) ≡ fulls count key size advance [] (stream a u) ++ turned key size advance copies (stream a u) ks (suc turn - 1)
      told_turn = elim (cases_lt turning count) [
        | inr l ↦ past_slots l
        | inl l ↦ elim (cases_lt (h.shorts turning l).d (h.shorts turning l).q) [ inl k ↦ open_slot l k | inr k ↦ shut_slot l (omega (arith, k, (h.shorts turning l).is.low)) ]
      ]

      none_over : (k : ℕ) → u + all_of_slots front.n * stride + 2 ≤ suc c → who front (suc c) ≡ Some k → ⊥
      none_over k l w =
          let more : all_of_slots front.n * stride < turn * stride = omega (arith, l, h.time, no_wait) in
          let past : all_of_slots front.n < turn = mul_below (all_of_slots front.n) turn stride more in
          let seen : who front (suc c) ≡ None = ending_none front c count (λ i g. undue i (later i (let up : suc i * copies ≤ count * copies = mul-le-mul_right copies g in omega (arith, up, past)))) in
          cc (w, seen)

      pub turn_next : Flush front (suc c) lo u xs
      turn_next = as_next (suc turn) next_turn_is slot_after time_is (omega arith) small_is told_turn none_over

    pub flush_idle : Flush front (suc c) lo u xs
    flush_idle = elim (true_or_false (nat_eq (slots front c).wait 0)) [ inl t ↦ turn_next t | inr f ↦ idle_waits f ]

  -- ---- the flush is over

  pub past_turns : (c lo u : ℕ) (xs : List Row) → Flush front c lo u xs → u + all_of_slots front.n * stride + 1 ≤ c → all_of_slots front.n < (slots front c).turn
  past_turns c lo u xs h late = mul_below (all_of_slots front.n) (slots front c).turn stride (omega (arith, h.time, late))

  pub slot_done : (c lo u : ℕ) (xs : List Row) (h : Flush front c lo u xs) → u + all_of_slots front.n * stride + 1 ≤ c → (i : ℕ) (there : i < count) → (h.shorts i there).d ≡ (h.shorts i there).q
  slot_done c lo u xs h late i there =
      let past = past_turns c lo u xs h late in
      let up : suc i * copies ≤ count * copies = mul-le-mul_right copies there in
      let x = h.shorts i there in
      omega (arith, past, up, x.past, x.cut.room, x.cut.low)

  -- the next stream begins
  pub fresh : (c lo u : ℕ) (xs : List Row) → Flush front c lo u xs → u + ((all_of_slots front.n + 1) * stride + 1) ≤ c → Flow front c (u + (all_of_slots front.n + 1) * stride + 2) []
  fresh c lo u xs h late = record {
    is = h.empty;
    keys' = free ∙ sym (none_taken count);
    owns = λ i there. subst (λ z. Owns front c i there (rows_of_key key [] (slice_get z i))) (sym free) (
        let x = h.shorts i there in
        record { base = x.base + x.q; q = 0; d = 0; is = own_again front i there c (windows_at n a i c) x.base x.q x.d (rows_of_key key xs (slice_get (slots front c).keys i)) x.is (slot_done c lo u xs h (omega (arith, late, one_more)) i there) });
    from = omega (arith, late);
    done = ap (map (of_part front)) (visits_none (of_part front) (who front) ins (suc c - (u + (all_of_slots front.n + 1) * stride + 2)) (u + (all_of_slots front.n + 1) * stride + 2) (λ x k l p. h.rest x k (omega (arith, l, one_more)) (omega (arith, p, late))));
  }
    where
      one_more : (all_of_slots front.n + 1) * stride ≡ all_of_slots front.n * stride + stride
      one_more = omega arith

      none_taken : (k : ℕ) → take k (keys_of key []) ≡ []
      none_taken zero = refl
      none_taken (suc k) = refl

      free : freed (slots front c) ≡ []
      free = ap (λ (z : Bool). if z then [] else (slots front c).keys) h.flush
