-- A front of windows while the last windows of a stream end.
use Rattle.std.proofs.Common.{◌≡◌, ℕ, zero, suc, ◌+◌, ◌-◌, ◌*◌, ◌%◌, ◌<◌, ◌≤◌, List, [], ◌∷◌, ◌++◌, length, drop, map, Option, Some, None, Bool, true, false, ◌&&◌, refl, sym, ap, ◌∙◌, subst, arith, inl, inr, mul-le-mul_right, length-append, length-drop}
use Rattle.std.specs.Prelude.{option_to_list, if◌then◌else◌, nat_eq}
use Rattle.std.proofs.lemmas.Bool.{cases_lt, eqb-true, eq-eqb, ne_eqb, and_from, and_left, and_right}
use Rattle.std.proofs.lemmas.List.{take_all, drop-append-le, append-nil}
use Rattle.gl_values.specs.Lists.{part}
use Rattle.gl_values.specs.Results.{Row}
use Rattle.gl_wire.specs.Apart.{Carries, a_tuple, an_end}
use Rattle.gl_wire.specs.Wire.{pending, stream}
use Rattle.gl_wire.specs.Lift.{Visits}
use Rattle.gl_windows.specs.Front.{Front, opening, closing, closed_by, counted, next, mid, who_ends}
use Rattle.gl_windows.specs.Firsts.{firsts}
use Rattle.gl_windows.proofs.Setting.{Setting}
use Rattle.gl_windows.proofs.SliceLemmas.{mod_apart, firsts-grown}
use Rattle.gl_wire.proofs.VisitLemmas.{visits_none}
use Rattle.gl_windows.proofs.CopyLemmas.{Step, Copies, within, copies_next, ended_stream, of_visit, did, did_none, did_one}
use Rattle.gl_windows.proofs.FlowLemmas.{Flow, Mid, flow_mid}

module _ (front : Setting) where
  open front use {size, advance, count, most, stride, a, ins}

  abbrev who : Visits
  who = who_ends size advance count stride a

  pub record Flush (c : ℕ) (s : Front) (lo base q d i u : ℕ) (xs : List Row) : Type 0 where
    pub end : a.ends u ≡ true
    pub past : u < c
    pub quiet : (x : ℕ) → u < x → x < c → Carries a x → ⊥
    pub empty : pending a c ≡ []
    pub is : stream a u ≡ xs ++ option_to_list s.held
    pub flush : s.flush ≡ true
    pub until : s.until ≡ 0
    pub left : s.left ≡ size
    pub opened : s.opened ≡ base + q
    pub closed : s.closed ≡ base + d
    pub low : d ≤ q
    pub room : q ≤ d + most
    pub time : c + s.wait ≡ u + i * stride
    pub once : 1 ≤ i
    pub small : s.wait < stride
    pub soon : d < q → q + i ≤ d + most
    pub turn : d < q → s.closed ≡ (mid size advance count stride a u).closed + i
    pub short : length (xs ++ option_to_list s.held) ≤ d * advance + size
    pub place : (j : ℕ) → j < q → j * advance < length (xs ++ option_to_list s.held)
    pub begun : (j : ℕ) → j < q → j * advance ≤ length xs
    pub all : length (xs ++ option_to_list s.held) ≤ q * advance
    pub copies : Copies front c s base xs
    pub from : lo ≤ suc c
    pub done : did front lo c ≡ firsts size advance d (xs ++ option_to_list s.held)
    pub over : (x k : ℕ) → u + most * stride + 1 ≤ x → x ≤ c → who x ≡ Some k → ⊥

  pub record Flushing (c : ℕ) (s : Front) (lo base q u : ℕ) : Type 0 where
    pub d : ℕ
    pub i : ℕ
    pub xs : List Row
    pub is : Flush c s lo base q d i u xs

  one_stride : stride ≤ most * stride
  one_stride = let z : 1 * stride ≤ most * stride = mul-le-mul_right stride front.most_some in omega (arith, z)

  -- the end, with or without a tuple
  pub flow_end : (c : ℕ) (s : Front) (lo base q d : ℕ) (xs : List Row) (h : Flow front c s lo base q d xs) (o : Option Row) → Step front c true o s → Flushing (suc c) (next size advance count stride true o s) lo base (flow_mid front c s lo base q d xs h o).0 c
  flow_end c s lo base q d xs h o step = elim (cases_lt d m.0) [
    | inl there ↦
        let is_there : t.closed < t.opened = omega (arith, m.1.opened, m.1.closed, there) in
        let on : t.is_open (t.closed % count) ≡ true = (m.1.copies.on t.closed (omega arith) is_there).0 in
        let where_from : t.closed - base ≡ d = omega (arith, m.1.closed) in
        let mine : (t.is_open (t.closed % count) && nat_eq (t.closed % count) (t.closed % count)) ≡ true = and_from _ _ on (eq-eqb _ _ refl) in
        let shown : stream (ins (t.closed % count)) (suc c) ≡ part size (d * advance) (xs ++ option_to_list o) =
        ended_stream front c true o None s step base xs m.1.copies is_there
        ∙ ap (λ z. drop (z * advance) xs ++ option_to_list (if t.is_open (t.closed % count) && nat_eq (t.closed % count) (t.closed % count) then o else None)) where_from
        ∙ ap (λ z. drop (d * advance) xs ++ option_to_list (if z then o else None)) mine
        ∙ sym (drop-append-le (d * advance) xs (option_to_list o) (begun d there))
        ∙ sym (take_all size (drop (d * advance) (xs ++ option_to_list o)) (omega (arith, length-drop (d * advance) (xs ++ option_to_list o), short)))
        in
        let seen : who (suc c) ≡ Some (t.closed % count) = step.visit ∙ ap (λ (z : Bool). if z then Some (t.closed % count) else None) on in
        subst (λ z. Flushing (suc c) (counted size advance stride true o (closed_by count z t)) lo base m.0 c) (sym on) (record {
          d = suc d;
          i = 1;
          xs = xs;
          is = record {
            end = step.is_end;
            past = omega arith;
            quiet = λ x l n k. omega (arith, l, n);
            empty = rw step.is_end refl;
            is = rw (step.is_tuple, h.is) refl;
            flush = refl;
            until = refl;
            left = refl;
            opened = m.1.opened;
            closed = omega (arith, m.1.closed);
            low = omega (arith, there);
            room = omega (arith, m.1.room);
            time = omega (arith, front.stride_some);
            once = omega arith;
            small = omega (arith, front.stride_some);
            soon = λ l. omega (arith, m.1.room);
            turn = λ l. omega (arith, step.turn);
            short = omega (arith, short);
            place = place;
            begun = begun;
            all = omega (arith, m.1.until);
            copies = (let z = copies true on (λ y. is_there) in record { on = z.on; off = z.off });
            from = omega (arith, h.from);
            done = did_one front lo c (t.closed % count) h.from seen ∙ ap (λ z. z ++ stream (ins (t.closed % count)) (suc c) ∷ []) (h.done ∙ sym (firsts-grown size advance d xs (option_to_list o) h.whole)) ∙ ap (λ z. firsts size advance d (xs ++ option_to_list o) ++ z ∷ []) shown;
            over = λ x k l n y. omega (arith, l, n, one_stride, front.stride_some);
          };
        })
    | inr none ↦
        let off : t.is_open (t.closed % count) ≡ false = (m.1.copies.off t.closed (omega (arith, m.1.opened, m.1.closed, none)) (omega (arith, front.copies_some))).0 in
        let seen : who (suc c) ≡ None = step.visit ∙ ap (λ (z : Bool). if z then Some (t.closed % count) else None) off in
        subst (λ z. Flushing (suc c) (counted size advance stride true o (closed_by count z t)) lo base m.0 c) (sym off) (record {
          d = d;
          i = 1;
          xs = xs;
          is = record {
            end = step.is_end;
            past = omega arith;
            quiet = λ x l n k. omega (arith, l, n);
            empty = rw step.is_end refl;
            is = rw (step.is_tuple, h.is) refl;
            flush = refl;
            until = refl;
            left = refl;
            opened = m.1.opened;
            closed = m.1.closed;
            low = m.1.low;
            room = m.1.room;
            time = omega (arith, front.stride_some);
            once = omega arith;
            small = omega (arith, front.stride_some);
            soon = λ l. absurd (omega (arith, l, none));
            turn = λ l. absurd (omega (arith, l, none));
            short = short;
            place = place;
            begun = begun;
            all = omega (arith, m.1.until);
            copies = (let z = copies false off (λ y. absurd (cc)) in record { on = z.on; off = z.off });
            from = omega (arith, h.from);
            done = did_none front lo c h.from seen ∙ h.done ∙ sym (firsts-grown size advance d xs (option_to_list o) h.whole);
            over = λ x k l n y. omega (arith, l, n, one_stride, front.stride_some);
          };
        })
  ]
    where
      t : Front
      t = opening advance count o s

      m : (v : ℕ) × Mid front c t base v d (length (xs ++ option_to_list o)) xs
      m = flow_mid front c s lo base q d xs h o

      one_at_most : (p : Option Row) → length (option_to_list p) ≤ 1
      one_at_most None = omega arith
      one_at_most (Some r) = omega arith

      more : length (xs ++ option_to_list o) ≤ length xs + 1
      more = omega (arith, length-append xs (option_to_list o), one_at_most o)

      short : length (xs ++ option_to_list o) ≤ d * advance + size
      short = omega (arith, more, m.1.left, m.1.some)

      place : (j : ℕ) → j < m.0 → j * advance < length (xs ++ option_to_list o)
      place j l = let z : suc j * advance ≤ m.0 * advance = mul-le-mul_right advance l in omega (arith, z, m.1.until, m.1.less)

      begun : (j : ℕ) → j < m.0 → j * advance ≤ length xs
      begun j l = omega (arith, place j l, more)

      place_of : (w : ℕ) → w < t.opened → (w - base) * advance ≤ length xs
      place_of w l = elim (cases_lt w base) [
        | inl y ↦ (let z : w - base ≡ 0 = omega (arith, y) in rw z (omega arith))
        | inr y ↦ begun (w - base) (omega (arith, y, l, m.1.opened))
      ]

      empty : (b : Bool) → t.is_open (t.closed % count) ≡ b → (w : ℕ) → (b ≡ true → nat_eq (w % count) (t.closed % count) ≡ false) → (ins (w % count)).tuple (suc c) ≡ None
      empty true p w f = step.tuples (w % count) (within front w) ∙ ap (λ z. if z then o else None) (and_right _ _ (f refl))
      empty false p w f = step.tuples (w % count) (within front w) ∙ ap (λ z. if z then o else None) (and_left _ _ p)

      copies : (b : Bool) → closing count true o t ≡ b → (b ≡ true → t.closed < t.opened) → Copies front (suc c) (closed_by count b t) base xs
      copies b p there =
          let room : t.opened ≤ t.closed + count = omega (arith, m.1.opened, m.1.closed, m.1.room, front.enough) in
          subst (Copies front (suc c) (closed_by count b t) base) (append-nil xs)
          (copies_next front c true o None s step base xs m.1.copies (omega (arith, m.1.opened, m.1.closed, m.1.low)) room b p there
          (λ w l n x. empty b p w (λ y. ne_eqb _ _ (λ q. elim (cases_lt t.closed w) [ inl z ↦ mod_apart count t.closed w z (omega (arith, n, room)) (sym q) | inr z ↦ x y (omega (arith, l, z)) ])))
          (λ w l n. empty b p w (λ y. ne_eqb _ _ (λ q. mod_apart count t.closed w (let z = there y in omega (arith, z, l)) n (sym q))))
          place_of)

  no_carry : (c : ℕ) (s : Front) → Step front c false None s → Carries a c → ⊥
  no_carry c s step (a_tuple r h) = let x = step.is_tuple in cc (x, h)
  no_carry c s step (an_end h) = let x = step.is_end in cc (x, h)

  -- a cycle of the flush, in which nothing comes
  module _ (c : ℕ) (s : Front) (lo base q d i u : ℕ) (xs : List Row) (h : Flush c s lo base q d i u xs) (step : Step front c false None s) where
    abbrev ends_now : Bool
    ends_now = (s.flush && nat_eq s.wait 0) && s.is_open (s.closed % count)

    low_now : s.closed ≤ s.opened
    low_now = omega (arith, h.opened, h.closed, h.low)

    room_now : s.opened ≤ s.closed + count
    room_now = omega (arith, h.opened, h.closed, h.room, front.enough)

    flush_place : (w : ℕ) → w < s.opened → (w - base) * advance ≤ length xs
    flush_place w l = elim (cases_lt w base) [
      | inl y ↦ (let z : w - base ≡ 0 = omega (arith, y) in rw z (omega arith))
      | inr y ↦ h.begun (w - base) (omega (arith, y, l, h.opened))
    ]

    flush_empty : (b : Bool) → ends_now ≡ b → (w : ℕ) → (b ≡ true → nat_eq (w % count) (s.closed % count) ≡ false) → (ins (w % count)).tuple (suc c) ≡ None
    flush_empty true p w f = step.tuples (w % count) (within front w) ∙ ap (λ z. if z then s.held else None) (and_right _ _ (f refl))
    flush_empty false p w f = step.tuples (w % count) (within front w) ∙ ap (λ z. if z then s.held else None) (and_left _ _ p)

    flush_copies : (b : Bool) → ends_now ≡ b → (b ≡ true → s.closed < s.opened) → Copies front (suc c) (closed_by count b s) base xs
    flush_copies b p there =
        subst (Copies front (suc c) (closed_by count b s) base) (append-nil xs)
        (copies_next front c false None None s step base xs h.copies low_now room_now b p there
        (λ w l n x. flush_empty b p w (λ y. ne_eqb _ _ (λ q. elim (cases_lt s.closed w) [ inl z ↦ mod_apart count s.closed w z (omega (arith, n, room_now)) (sym q) | inr z ↦ x y (omega (arith, l, z)) ])))
        (λ w l n. flush_empty b p w (λ y. ne_eqb _ _ (λ q. mod_apart count s.closed w (let z = there y in omega (arith, z, l)) n (sym q))))
        flush_place)

    still_quiet : (x : ℕ) → u < x → x < suc c → Carries a x → ⊥
    still_quiet x l n k = elim (cases_lt x c) [ inl y ↦ h.quiet x l y k | inr y ↦ (let e : x ≡ c = omega (arith, n, y) in no_carry c s step (subst (Carries a) e k)) ]

    still_empty : pending a (suc c) ≡ []
    still_empty = rw (step.is_end, step.is_tuple, h.empty) refl

    still_over : who (suc c) ≡ None → (x k : ℕ) → u + most * stride + 1 ≤ x → x ≤ suc c → who x ≡ Some k → ⊥
    still_over seen x k l n y = elim (cases_lt c x) [
      | inl z ↦ (let e : x ≡ suc c = omega (arith, n, z) in let f = ap who e in cc (f, seen, y))
      | inr z ↦ h.over x k l z y
    ]

    -- no copy takes its end in this cycle
    waiting : ends_now ≡ false → (j : ℕ) → i ≤ j → (v : ℕ) → v < stride → suc c + v ≡ u + j * stride → (d < q → i ≡ j) → (if nat_eq s.wait 0 then stride - 1 else (s.wait - 1)) ≡ v → Flushing (suc c) (next size advance count stride false None s) lo base q u
    waiting stays j up v small time same is =
        let seen : who (suc c) ≡ None = step.visit ∙ ap (λ (z : Bool). if z then Some (s.closed % count) else None) stays in
        subst (λ z. Flushing (suc c) (counted size advance stride false None (closed_by count z s)) lo base q u) (sym stays) (record {
          d = d;
          i = j;
          xs = xs;
          is = record {
            end = h.end;
            past = omega (arith, h.past);
            quiet = still_quiet;
            empty = still_empty;
            is = h.is;
            flush = h.flush;
            until = h.until;
            left = h.left;
            opened = h.opened;
            closed = h.closed;
            low = h.low;
            room = h.room;
            time = ap (λ z. suc c + z) (ap (λ z. if z then (if nat_eq s.wait 0 then stride - 1 else (s.wait - 1)) else s.wait) h.flush ∙ is) ∙ time;
            once = omega (arith, h.once, up);
            small = rw (h.flush, is) small;
            soon = λ l. omega (arith, same l, h.soon l);
            turn = λ l. omega (arith, same l, h.turn l);
            short = h.short;
            place = h.place;
            begun = h.begun;
            all = h.all;
            copies = (let z = flush_copies false stays (λ y. absurd (cc)) in record { on = z.on; off = z.off });
            from = omega (arith, h.from);
            done = did_none front lo c h.from seen ∙ h.done;
            over = still_over seen;
          };
        })

    -- the oldest open copy takes its end
    turning : s.wait ≡ 0 → d < q → Flushing (suc c) (next size advance count stride false None s) lo base q u
    turning zero_wait there =
        let is_there : s.closed < s.opened = omega (arith, h.opened, h.closed, there) in
        let on : s.is_open (s.closed % count) ≡ true = (h.copies.on s.closed (omega arith) is_there).0 in
        let now : ends_now ≡ true = and_from _ _ (and_from _ _ h.flush (eq-eqb _ _ zero_wait)) on in
        let where_from : s.closed - base ≡ d = omega (arith, h.closed) in
        let mine : (ends_now && nat_eq (s.closed % count) (s.closed % count)) ≡ true = and_from _ _ now (eq-eqb _ _ refl) in
        let shown : stream (ins (s.closed % count)) (suc c) ≡ part size (d * advance) (xs ++ option_to_list s.held) =
        ended_stream front c false None None s step base xs h.copies is_there
        ∙ ap (λ z. drop (z * advance) xs ++ option_to_list (if ends_now && nat_eq (s.closed % count) (s.closed % count) then s.held else None)) where_from
        ∙ ap (λ z. drop (d * advance) xs ++ option_to_list (if z then s.held else None)) mine
        ∙ sym (drop-append-le (d * advance) xs (option_to_list s.held) (h.begun d there))
        ∙ sym (take_all size (drop (d * advance) (xs ++ option_to_list s.held)) (omega (arith, length-drop (d * advance) (xs ++ option_to_list s.held), h.short)))
        in
        let seen : who (suc c) ≡ Some (s.closed % count) = step.visit ∙ ap (λ (z : Bool). if z then Some (s.closed % count) else None) now in
        let is : (if nat_eq s.wait 0 then stride - 1 else (s.wait - 1)) ≡ stride - 1 = rw zero_wait refl in
        subst (λ z. Flushing (suc c) (counted size advance stride false None (closed_by count z s)) lo base q u) (sym now) (record {
          d = suc d;
          i = suc i;
          xs = xs;
          is = record {
            end = h.end;
            past = omega (arith, h.past);
            quiet = still_quiet;
            empty = still_empty;
            is = h.is;
            flush = h.flush;
            until = h.until;
            left = h.left;
            opened = h.opened;
            closed = omega (arith, h.closed);
            low = omega (arith, there);
            room = omega (arith, h.room);
            time = ap (λ z. suc c + z) (ap (λ z. if z then (if nat_eq s.wait 0 then stride - 1 else (s.wait - 1)) else s.wait) h.flush ∙ is) ∙ omega (arith, h.time, zero_wait, front.stride_some);
            once = omega arith;
            small = rw (h.flush, is) (omega (arith, front.stride_some));
            soon = λ l. omega (arith, h.soon there);
            turn = λ l. omega (arith, h.turn there);
            short = omega (arith, h.short);
            place = h.place;
            begun = h.begun;
            all = h.all;
            copies = (let z = flush_copies true now (λ y. is_there) in record { on = z.on; off = z.off });
            from = omega (arith, h.from);
            done = did_one front lo c (s.closed % count) h.from seen ∙ ap (λ z. z ++ stream (ins (s.closed % count)) (suc c) ∷ []) h.done ∙ ap (λ z. firsts size advance d (xs ++ option_to_list s.held) ++ z ∷ []) shown;
            over = λ x k l n y. elim (cases_lt c x) [
              | inl z ↦ (let r : suc i * stride ≤ most * stride = mul-le-mul_right stride (omega (arith, h.soon there, there)) in omega (arith, r, h.time, zero_wait, l, n, front.stride_some))
              | inr z ↦ h.over x k l z y
            ];
          };
        })

    pub flush_idle : Flushing (suc c) (next size advance count stride false None s) lo base q u
    flush_idle = by (nat_eq s.wait 0) refl
      where
        positive : (n : ℕ) → nat_eq n 0 ≡ false → 1 ≤ n
        positive zero e = absurd (cc)
        positive (suc n) e = omega arith

        by : (x : Bool) → nat_eq s.wait 0 ≡ x → Flushing (suc c) (next size advance count stride false None s) lo base q u
        by true p =
            let z : s.wait ≡ 0 = eqb-true s.wait 0 p in
            elim (cases_lt d q) [
              | inl l ↦ turning z l
              | inr l ↦
                  let off : s.is_open (s.closed % count) ≡ false = (h.copies.off s.closed (omega (arith, h.opened, h.closed, l)) (omega (arith, front.copies_some))).0 in
                  waiting (and_right _ _ off) (suc i) (omega arith) (stride - 1) (omega (arith, front.stride_some)) (omega (arith, h.time, z, front.stride_some)) (λ n. absurd (omega (arith, n, l))) (rw p refl)
            ]
        by false p =
            let some = positive s.wait p in
            waiting (and_left _ _ (and_right _ _ p)) i (omega arith) (s.wait - 1) (omega (arith, h.small)) (omega (arith, h.time, some)) (λ n. refl) (rw p refl)

  -- the flush is over
  pub flush_done : (c : ℕ) (s : Front) (lo base q d i u : ℕ) (xs : List Row) → Flush c s lo base q d i u xs → u + (most - 1) * stride + 1 ≤ c → d ≡ q
  flush_done c s lo base q d i u xs h far = elim (cases_lt d q) [
    | inl l ↦
        let r : suc i * stride ≤ most * stride = mul-le-mul_right stride (omega (arith, h.soon l, l)) in
        let one : (most - 1) * stride + stride ≡ most * stride = (let e : suc (most - 1) ≡ most = omega (arith, front.most_some) in let f : (most - 1) * stride + stride ≡ suc (most - 1) * stride = omega arith in f ∙ ap (λ z. z * stride) e) in
        absurd (omega (arith, r, h.time, far, one))
    | inr l ↦ omega (arith, l, h.low)
  ]

  -- and another stream begins
  pub fresh : (c : ℕ) (s : Front) (lo base q d i u : ℕ) (xs : List Row) → Flush c s lo base q d i u xs → u + (most * stride + 1) ≤ c → Flow front c s (u + most * stride + 2) (base + q) 0 0 []
  fresh c s lo base q d i u xs h far =
      let one : (most - 1) * stride ≤ most * stride = mul-le-mul_right stride (omega arith) in
      let done : d ≡ q = flush_done c s lo base q d i u xs h (omega (arith, far, one)) in
      record {
        is = h.empty;
        opened = omega (arith, h.opened);
        closed = omega (arith, h.closed, done);
        until = omega (arith, h.until);
        less = omega (arith, h.until, front.step_some);
        left = omega (arith, h.left);
        some = omega (arith, h.left, front.rows_some);
        low = omega arith;
        whole = λ j l. absurd (omega (arith, l));
        copies = record {
          on = λ w l m. absurd (omega (arith, l, m, h.opened, h.closed, done));
          off = h.copies.off;
        };
        from = omega (arith, far);
        done = ap (map of_visit) (visits_none of_visit who ins (suc c - (u + most * stride + 2)) (u + most * stride + 2) (λ x k l m. h.over x k (omega (arith, l)) (omega (arith, m, far))));
        calm = λ l. absurd (omega (arith, l));
      }
