-- The machine of windows of each key at every cycle: a stream comes, or its end was the last that came.
use Rattle.std.proofs.Common.{◌≡◌, ℕ, zero, suc, ◌+◌, ◌-◌, ◌*◌, ◌/◌, ◌%◌, ◌<◌, ◌≤◌, List, [], ◌∷◌, ◌++◌, length, take, length-take, map, Option, Some, None, Bool, true, false, refl, sym, ap, ◌∙◌, subst, arith}
use Rattle.std.specs.Prelude.{slice_get}
use Rattle.std.proofs.lemmas.Nat.{div-add-mod', mod_below}
use Rattle.gl_values.specs.Lists.{keys_of, rows_with}
use Rattle.gl_values.specs.Partitions.{fulls, parts, short_slices}
use Rattle.gl_values.specs.Results.{Row}
use Rattle.gl_bits.proofs.AllLists.{get_below}
use Rattle.gl_wire.specs.Apart.{Carries, a_tuple, an_end}
use Rattle.gl_wire.specs.Wire.{pending, stream}
use Rattle.gl_wire.specs.Lift.{visits}
use Rattle.gl_wire.specs.Timed.{Begins, at_first, after_end}
use Rattle.gl_wire.proofs.NumberLemmas.{mul_below}
use Rattle.gl_wire.proofs.VisitLemmas.{begins_more}
use Rattle.gl_slots.specs.Slots.{rows_of_key}
use Rattle.gl_windows.proofs.SliceLemmas.{mod_hits}
use Rattle.gl_partition.specs.Machine.{copy_of, windows_at}
use Rattle.gl_partition.proofs.Setting.{Setting, all_of_slots}
use Rattle.gl_partition.proofs.OwnFlush.{Cut}
use Rattle.gl_partition.proofs.PartLists.{all_turned, length-later, shorts_are, turned}
use Rattle.gl_partition.proofs.EndingLemmas.{of_part, slots, who}
use Rattle.gl_partition.proofs.StreamLemmas.{Flow, flow_idle, flow_tuple}
use Rattle.gl_partition.proofs.FlushLemmas.{Flush, flow_end}
use Rattle.gl_partition.proofs.IdleLemmas.{flush_idle, fresh, past_turns, slot_done}

module _ (front : Setting) where
  open front use {n, a, ins}

  abbrev size : ℕ
  size = front.n.size

  abbrev advance : ℕ
  advance = front.n.advance

  abbrev copies : ℕ
  copies = front.n.copies

  abbrev count : ℕ
  count = front.n.slots

  abbrev stride : ℕ
  stride = front.n.stride

  abbrev key : Row → ℕ
  key = front.n.key

  -- the copies of all slots, and the cycles of a flush
  abbrev pub all : ℕ
  all = all_of_slots front.n

  abbrev pub flush : ℕ
  flush = (all + 1) * stride

  pub data Phase (c : ℕ) : Type 0 where
    flows : (lo : ℕ) (xs : List Row) → Flow front c lo xs → (slots front c).flush ≡ false → Begins flush a lo c → Phase c
    flushes : (lo u : ℕ) (xs : List Row) → Flush front c lo u xs → Begins flush a lo u → Phase c

  far_enough : (c lo u : ℕ) (xs : List Row) → Flush front c lo u xs → Carries a c → u + (flush + 1) ≤ c
  far_enough c lo u xs h k = front.rested u c h.end k h.behind

  begun_at : (c lo u : ℕ) (xs : List Row) → Flush front c lo u xs → Begins flush a (u + flush + 2) c
  begun_at c lo u xs h = after_end u h.end h.behind refl (λ x l m e. h.quiet x l m (an_end e))

  phase_by : (c : ℕ) (e : Bool) (o : Option Row) → a.ends c ≡ e → a.tuple c ≡ o → Phase c → Phase (suc c)
  phase_by c true o p q (flows lo xs f un b) = flushes lo c xs (flow_end front c lo xs f o p q) b
  phase_by c true o p q (flushes lo u xs f b) = flushes (u + flush + 2) c [] (flow_end front c (u + flush + 2) [] (fresh front c lo u xs f (far_enough c lo u xs f (an_end p))) o p q) (begun_at c lo u xs f)
  phase_by c false (Some r) p q (flows lo xs f un b) = flows lo (xs ++ r ∷ []) (flow_tuple front c lo xs f r p q) (rw (p, q) refl) (begins_more flush a lo c p b)
  phase_by c false (Some r) p q (flushes lo u xs f b) =
      flows (u + flush + 2) ([] ++ r ∷ []) (flow_tuple front c (u + flush + 2) [] (fresh front c lo u xs f (far_enough c lo u xs f (a_tuple r q))) r p q) (rw (p, q) refl) (begins_more flush a (u + flush + 2) c p (begun_at c lo u xs f))
  phase_by c false None p q (flows lo xs f un b) = flows lo xs (flow_idle front c lo xs f un p q) (rw (p, q) un) (begins_more flush a lo c p b)
  phase_by c false None p q (flushes lo u xs f b) = flushes lo u xs (flush_idle front c lo u xs f p q) b

  none_taken : (k : ℕ) → take k (keys_of key []) ≡ []
  none_taken zero = refl
  none_taken (suc k) = refl

  first_phase : Phase 0
  first_phase = flows 0 [] (record {
    is = refl;
    keys' = sym (none_taken count);
    owns = λ i there. record {
      base = 0;
      q = 0;
      d = 0;
      is = record {
        opened = refl;
        closed = refl;
        until = omega arith;
        less = omega (arith, front.step_some);
        left = omega arith;
        some = front.rows_some;
        low = omega arith;
        whole = λ j l. absurd (omega (arith, l));
        copies' = record {
          on = λ w l m. absurd (omega (arith, l, m));
          off = λ w l m. (refl, (let x = front.law.no_end i (w % copies) there (mod_below w copies front.copies_some) in let y = front.law.no_tuple i (w % copies) there (mod_below w copies front.copies_some) in rw (x, y) refl));
        };
      };
    };
    from = omega arith;
    done = refl;
  }) refl (at_first refl (λ x l h. omega (arith, l)))

  pub phase : (c : ℕ) → Phase c
  phase zero = first_phase
  phase (suc c) = phase_by c (a.ends c) (a.tuple c) refl refl (phase c)

  -- the flush that begins at an end
  pub record Ended (u : ℕ) : Type 0 where
    pub lo : ℕ
    pub xs : List Row
    pub begins : Begins flush a lo u
    pub after : Flush front (suc u) lo u xs

  end_by : (c : ℕ) → a.ends c ≡ true → Phase c → Ended c
  end_by c p (flows lo xs f un b) = record { lo = lo; xs = xs; begins = b; after = flow_end front c lo xs f (a.tuple c) p refl }
  end_by c p (flushes lo u xs f b) = record {
    lo = u + flush + 2;
    xs = [];
    begins = begun_at c lo u xs f;
    after = flow_end front c (u + flush + 2) [] (fresh front c lo u xs f (far_enough c lo u xs f (an_end p))) (a.tuple c) p refl;
  }

  pub ended : (u : ℕ) → a.ends u ≡ true → Ended u
  ended u p = end_by u p (phase u)

  -- what does not come
  no_end : (c : ℕ) → (Carries a c → ⊥) → a.ends c ≡ false
  no_end c still = by (a.ends c) refl
    where
      by : (e : Bool) → a.ends c ≡ e → a.ends c ≡ false
      by true p = absurd (still (an_end p))
      by false p = p

  no_row : (c : ℕ) → (Carries a c → ⊥) → a.tuple c ≡ None
  no_row c still = by (a.tuple c) refl
    where
      by : (o : Option Row) → a.tuple c ≡ o → a.tuple c ≡ None
      by None p = p
      by (Some r) p = absurd (still (a_tuple r p))

  pub flushing : (lo u k : ℕ) (xs : List Row) → Flush front (suc u) lo u xs → ((x : ℕ) → u < x → x < suc u + k → Carries a x → ⊥) → Flush front (suc u + k) lo u xs
  flushing lo u zero xs f h = let e : suc u ≡ suc u + zero = omega arith in subst (λ c. Flush front c lo u xs) e f
  flushing lo u (suc k) xs f h =
      let e : suc (suc u + k) ≡ suc u + suc k = omega arith in
      let g = flushing lo u k xs f (λ x l m. h x l (omega (arith, m))) in
      let still = h (suc u + k) (omega arith) (omega arith) in
      subst (λ c. Flush front c lo u xs) e (flush_idle front (suc u + k) lo u xs g (no_end (suc u + k) still) (no_row (suc u + k) still))

  one_more : flush ≡ all * stride + stride
  one_more = omega arith

  pub flush_over : (u : ℕ) (p : a.ends u ≡ true) (x : Ended u) → Flush front (suc u + all * stride) x.lo u x.xs
  flush_over u p x = flushing x.lo u (all * stride) x.xs x.after (λ y l m k. omega (arith, front.rested u y p k l, m, one_more))

  -- ---- the visits of a stream

  last_turn : (u lo : ℕ) (xs : List Row) → Flush front (suc u + all * stride) lo u xs → (slots front (suc u + all * stride)).turn ≡ suc all
  last_turn u lo xs f =
      let low = past_turns front (suc u + all * stride) lo u xs f (omega arith) in
      let two : suc (suc all) * stride ≡ all * stride + stride + stride = omega arith in
      let high : (slots front (suc u + all * stride)).turn < suc (suc all) = mul_below (slots front (suc u + all * stride)).turn (suc (suc all)) stride (omega (arith, f.time, f.small, two, front.stride_some)) in
      omega (arith, low, high)

  slot_parts : (u : ℕ) (p : a.ends u ≡ true) → map (of_part front) (visits (who front) ins (ended u p).lo (u + all * stride + 2 - (ended u p).lo)) ≡ parts count key size advance (stream a u)
  unfolding parts
  slot_parts u p =
      let x = ended u p in
      let f = flush_over u p x in
      let at : suc (suc u + all * stride) ≡ u + all * stride + 2 = omega arith in
      let turn : (slots front (suc u + all * stride)).turn - 1 ≡ all = omega (arith, last_turn u x.lo x.xs f) in
      ap (λ (k : ℕ). map (of_part front) (visits (who front) ins x.lo (k - x.lo))) (sym at) ∙ f.done
      ∙ ap (λ (t : ℕ). fulls count key size advance [] (stream a u) ++ turned key size advance copies (stream a u) (slots front (suc u + all * stride)).keys t) turn
      ∙ ap (λ ks. fulls count key size advance [] (stream a u) ++ turned key size advance copies (stream a u) ks all) f.keys'
      ∙ ap (λ z. fulls count key size advance [] (stream a u) ++ z) (all_turned count key size advance copies (stream a u) (few x.lo x.xs f))
    where
      few : (lo : ℕ) (xs : List Row) (f : Flush front (suc u + all * stride) lo u xs) (i y : ℕ) → slice_get (take count (keys_of key (stream a u))) i ≡ Some y → length (short_slices size advance (rows_with key (stream a u) y)) ≤ copies
      few lo xs f i y at =
          let there : i < count = omega (arith, get_below (take count (keys_of key (stream a u))) i y at, length-take count (keys_of key (stream a u))) in
          let s = f.shorts i there in
          let rows : rows_of_key key (stream a u) (slice_get (slots front (suc u + all * stride)).keys i) ≡ rows_with key (stream a u) y = ap (λ ks. rows_of_key key (stream a u) (slice_get ks i)) f.keys' ∙ ap (rows_of_key key (stream a u)) at in
          let cut : Cut front i there s.q s.f (rows_with key (stream a u) y) = subst (Cut front i there s.q s.f) rows s.cut in
          let are = ap length (shorts_are size advance s.q s.f (rows_with key (stream a u) y) cut.whole cut.short cut.place front.step_some cut.all cut.low) in
          omega (arith, are, length-later size advance s.f (s.q - s.f) (rows_with key (stream a u) y), cut.room)

  pub empty_copies : (u k : ℕ) → a.ends u ≡ true → k < all → pending (ins k) (u + all * stride + 2) ≡ []
  empty_copies u k p l =
      let x = ended u p in
      let f = flush_over u p x in
      let is : k / copies * copies + k % copies ≡ k = div-add-mod' k copies in
      let there : k / copies < count = mul_below (k / copies) count copies (omega (arith, is, l)) in
      let s = f.shorts (k / copies) there in
      let done = slot_done front (suc u + all * stride) x.lo u x.xs f (omega arith) (k / copies) there in
      let at : suc (suc u + all * stride) ≡ u + all * stride + 2 = omega arith in
      let w = mod_hits copies (windows_at n a (k / copies) (suc u + all * stride)).closed (k % copies) (mod_below k copies front.copies_some) in
      let empty = (s.is.copies'.off w.0 (omega (arith, w.1, s.is.opened, s.is.closed, done)) w.2).1 in
      let wire_is : copy_of n (k / copies) (w.0 % copies) ≡ k = ap (λ (v : ℕ). k / copies * copies + v) w.3 ∙ is in
      ap (λ (c : ℕ). pending (ins k) c) (sym at) ∙ ap (λ (v : ℕ). pending (ins v) (suc (suc u + all * stride))) (sym wire_is) ∙ empty

  -- where the visits of the stream that ends in a cycle begin, and that they are of its parts
  pub part_from : (u : ℕ) (e : Bool) → a.ends u ≡ e → ℕ
  part_from u true p = (ended u p).lo
  part_from u false p = 0

  pub part_begins : (u : ℕ) (e : Bool) (p : a.ends u ≡ e) → e ≡ true → Begins flush a (part_from u e p) u
  unfolding part_from
  part_begins u true p q = (ended u p).begins
  part_begins u false p q = absurd (cc)

  pub parts_are : (u : ℕ) (e : Bool) (p : a.ends u ≡ e) → e ≡ true → map (of_part front) (visits (who front) ins (part_from u e p) (u + all * stride + 2 - part_from u e p)) ≡ parts count key size advance (stream a u)
  unfolding part_from
  parts_are u true p q = slot_parts u p
  parts_are u false p q = absurd (cc)
