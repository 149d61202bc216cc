-- A front of windows while a stream comes.
use Rattle.std.proofs.Common.{◌≡◌, ℕ, zero, suc, ◌+◌, ◌-◌, ◌*◌, ◌%◌, ◌<◌, ◌≤◌, List, [], ◌∷◌, ◌++◌, length, drop, Option, Some, None, Bool, true, false, ◌&&◌, refl, sym, ap, ◌∙◌, subst, arith, inl, inr, mul-le-mul_right, length-append, length-drop}
use Rattle.std.specs.Prelude.{option_to_list, if◌then◌else◌, nat_eq}
use Rattle.std.proofs.lemmas.Bool.{cases_lt, eqb-true, and_from, and_left, and_right}
use Rattle.std.proofs.lemmas.List.{take_all, drop-append-le, append-nil}
use Rattle.gl_values.specs.Lists.{part}
use Rattle.gl_values.specs.Results.{Row}
use Rattle.gl_wire.specs.Wire.{pending, stream}
use Rattle.gl_wire.specs.Lift.{Visits}
use Rattle.gl_windows.specs.Front.{Front, opening, one_opened, one_nearer, closing, closed_by, counted, next, who_ends}
use Rattle.gl_windows.specs.Firsts.{firsts}
use Rattle.gl_windows.proofs.Setting.{Setting}
use Rattle.gl_windows.proofs.SliceLemmas.{firsts-grown}
use Rattle.gl_wire.proofs.NumberLemmas.{mul_below}
use Rattle.gl_windows.proofs.CopyLemmas.{Step, Copies, copies_opened, within, copies_next, ended_stream, did, did_none, did_one}

module _ (front : Setting) where
  open front use {size, advance, count, most, stride, a, ins}

  abbrev who : Visits
  who = who_ends size advance count stride a

  -- ---- while a stream comes, and while its last windows end

  pub record Flow (c : ℕ) (s : Front) (lo base q d : ℕ) (xs : List Row) : Type 0 where
    pub is : pending a c ≡ xs
    pub opened : s.opened ≡ base + q
    pub closed : s.closed ≡ base + d
    pub until : length xs + s.until ≡ q * advance
    pub less : s.until < advance
    pub left : length xs + s.left ≡ d * advance + size
    pub some : 1 ≤ s.left
    pub low : d ≤ q
    pub whole : (j : ℕ) → j < d → j * advance + size ≤ length xs
    pub copies : Copies front c s base xs
    pub from : lo ≤ suc c
    pub done : did front lo c ≡ firsts size advance d xs
    pub calm : d < q → s.flush ≡ false

  -- after what this cycle opens
  pub record Mid (c : ℕ) (t : Front) (base q d n : ℕ) (xs : List Row) : Type 0 where
    pub opened : t.opened ≡ base + q
    pub closed : t.closed ≡ base + d
    pub low : d ≤ q
    pub room : q ≤ d + most
    pub until : n + t.until ≡ q * advance
    pub less : t.until < advance
    pub left : length xs + t.left ≡ d * advance + size
    pub some : 1 ≤ t.left
    pub copies : Copies front c t base xs

  flow_room : (d q n u l : ℕ) → n + u ≡ q * advance → u < advance → n ≤ l → l ≤ d * advance + size → q ≤ d + most
  flow_room d q n u l e less m k =
      let far : q * advance < (d + most + 1) * advance = omega (arith, e, less, m, k, front.cover) in
      let z : q < d + most + 1 = mul_below q (d + most + 1) advance far in omega (arith, z)

  pub flow_mid : (c : ℕ) (s : Front) (lo base q d : ℕ) (xs : List Row) → Flow c s lo base q d xs → (i : Option Row)
      → (m : ℕ) × Mid c (opening advance count i s) base m d (length (xs ++ option_to_list i)) xs
  flow_mid c s lo base q d xs h None = (
    q,
    record {
      opened = h.opened;
      closed = h.closed;
      low = h.low;
      room = flow_room d q (length xs) s.until (length xs) h.until h.less (omega arith) (omega (arith, h.left));
      until = ap (λ (z : List Row). length z + s.until) (append-nil xs) ∙ h.until;
      less = h.less;
      left = h.left;
      some = h.some;
      copies = h.copies;
    },
  )
  flow_mid c s lo base q d xs h (Some r) = by (nat_eq s.until 0) refl
    where
      more : length (xs ++ r ∷ []) ≡ length xs + 1
      more = length-append xs (r ∷ [])

      by : (b : Bool) → nat_eq s.until 0 ≡ b → (m : ℕ) × Mid c (if b then one_opened advance count s else one_nearer s) base m d (length (xs ++ option_to_list (Some r))) xs
      by true p =
          let z : s.until ≡ 0 = eqb-true s.until 0 p in
          let near : q * advance < (d + most) * advance = omega (arith, h.until, z, h.left, h.some, front.cover) in
          let room : q < d + most = mul_below q (d + most) advance near in
          let base_of : s.opened - base ≡ q = omega (arith, h.opened) in
          let full : length xs ≤ (s.opened - base) * advance = rw base_of (omega (arith, h.until, z)) in (
            suc q,
            record {
              opened = omega (arith, h.opened);
              closed = h.closed;
              low = omega (arith, h.low);
              room = omega (arith, room);
              until = omega (arith, more, h.until, z, front.step_some);
              less = omega (arith, front.step_some);
              left = h.left;
              some = h.some;
              copies = copies_opened front c s base xs h.copies (omega (arith, h.opened, h.closed, h.low)) (omega (arith, h.opened, h.closed, room, front.enough)) full;
            },
          )
      by false p =
          let some : 1 ≤ s.until = positive s.until p in (
            q,
            record {
              opened = h.opened;
              closed = h.closed;
              low = h.low;
              room = flow_room d q (length xs) s.until (length xs) h.until h.less (omega arith) (omega (arith, h.left));
              until = omega (arith, more, h.until, some);
              less = omega (arith, h.less);
              left = h.left;
              some = h.some;
              copies = record { on = h.copies.on; off = h.copies.off };
            },
          )
        where
          positive : (n : ℕ) → nat_eq n 0 ≡ false → 1 ≤ n
          positive zero e = absurd (cc)
          positive (suc n) e = omega arith

  pub record Flowing (c : ℕ) (s : Front) (lo base : ℕ) : Type 0 where
    pub q : ℕ
    pub d : ℕ
    pub xs : List Row
    pub is : Flow c s lo base q d xs

  -- a tuple without the end
  pub flow_tuple : (c : ℕ) (s : Front) (lo base q d : ℕ) (xs : List Row) → Flow c s lo base q d xs → (r : Row) → Step front c false (Some r) s → Flowing (suc c) (next size advance count stride false (Some r) s) lo base
  flow_tuple c s lo base q d xs h r step = by (nat_eq t.left 1) refl
    where
      t : Front
      t = opening advance count (Some r) s

      m : (v : ℕ) × Mid c t base v d (length (xs ++ r ∷ [])) xs
      m = flow_mid c s lo base q d xs h (Some r)

      more : length (xs ++ r ∷ []) ≡ length xs + 1
      more = length-append xs (r ∷ [])

      pend : pending a (suc c) ≡ xs ++ r ∷ []
      pend = rw (step.is_end, step.is_tuple, h.is) refl

      given : (w : ℕ) → t.closed ≤ w → w < t.opened → (ins (w % count)).tuple (suc c) ≡ Some r
      given w l n = step.tuples (w % count) (within front w) ∙ ap (λ z. if z then Some r else None) (m.1.copies.on w l n).0

      none : (w : ℕ) → t.opened ≤ w → w < t.closed + count → (ins (w % count)).tuple (suc c) ≡ None
      none w l n = step.tuples (w % count) (within front w) ∙ ap (λ z. if z then Some r else None) (m.1.copies.off w l n).0

      place : (w : ℕ) → w < t.opened → (w - base) * advance ≤ length xs
      place w l =
          let u = m.1.until in let o = m.1.opened in let less = m.1.less in
          elim (cases_lt w base) [
            | inl y ↦ (let z : w - base ≡ 0 = omega (arith, y) in rw z (omega arith))
            | inr y ↦ (let z : suc (w - base) * advance ≤ m.0 * advance = mul-le-mul_right advance (omega (arith, o, l, y)) in omega (arith, z, u, less, more))
          ]

      copies : (b : Bool) → closing count false (Some r) t ≡ b → (b ≡ true → t.closed < t.opened) → Copies front (suc c) (closed_by count b t) base (xs ++ r ∷ [])
      copies b p there = copies_next front c false (Some r) (Some r) s step base xs m.1.copies (omega (arith, m.1.opened, m.1.closed, m.1.low)) (omega (arith, m.1.opened, m.1.closed, m.1.room, front.enough)) b p there (λ w l n x. given w l n) none place

      by : (x : Bool) → nat_eq t.left 1 ≡ x → Flowing (suc c) (counted size advance stride false (Some r) (closed_by count (nat_eq t.left 1 && t.is_open (t.closed % count)) t)) lo base
      by true p =
          let one : t.left ≡ 1 = eqb-true t.left 1 p in
          let far : d * advance < m.0 * advance = omega (arith, m.1.until, more, one, m.1.left, front.rows_some) in
          let there : d < m.0 = mul_below d m.0 advance far in
          let is_there : t.closed < t.opened = omega (arith, m.1.opened, m.1.closed, there) in
          let on : t.is_open (t.closed % count) ≡ true = (m.1.copies.on t.closed (omega arith) is_there).0 in
          let closes : (nat_eq t.left 1 && t.is_open (t.closed % count)) ≡ true = and_from _ _ p on in
          let where_from : t.closed - base ≡ d = omega (arith, m.1.closed) in
          let shown : stream (ins (t.closed % count)) (suc c) ≡ part size (d * advance) (xs ++ r ∷ []) =
          ended_stream front c false (Some r) None s step base xs m.1.copies is_there
          ∙ ap (λ z. drop (z * advance) xs ++ option_to_list (if t.is_open (t.closed % count) then Some r else None)) where_from
          ∙ ap (λ z. drop (d * advance) xs ++ option_to_list (if z then Some r else None)) on
          ∙ sym (drop-append-le (d * advance) xs (r ∷ []) (omega (arith, one, m.1.left, front.rows_some)))
          ∙ sym (take_all size (drop (d * advance) (xs ++ r ∷ [])) (omega (arith, length-drop (d * advance) (xs ++ r ∷ []), more, one, m.1.left)))
          in
          let seen : who (suc c) ≡ Some (t.closed % count) = step.visit ∙ ap (λ (z : Bool). if z then Some (t.closed % count) else None) closes in
          subst (λ z. Flowing (suc c) (counted size advance stride false (Some r) (closed_by count z t)) lo base) (sym closes) (record {
            q = m.0;
            d = suc d;
            xs = xs ++ r ∷ [];
            is = record {
              is = pend;
              opened = m.1.opened;
              closed = omega (arith, m.1.closed);
              until = m.1.until;
              less = m.1.less;
              left = rw p (omega (arith, more, one, m.1.left));
              some = rw p front.step_some;
              low = omega (arith, there);
              whole = λ j l. elim (cases_lt j d) [ inl y ↦ omega (arith, more, h.whole j y) | inr y ↦ (let e : j ≡ d = omega (arith, l, y) in rw e (omega (arith, more, one, m.1.left))) ];
              copies = (let z = copies true closes (λ y. is_there) in record { on = z.on; off = z.off });
              from = omega (arith, h.from);
              done = did_one front lo c (t.closed % count) h.from seen ∙ ap (λ z. z ++ stream (ins (t.closed % count)) (suc c) ∷ []) (h.done ∙ sym (firsts-grown size advance d xs (r ∷ []) h.whole)) ∙ ap (λ z. firsts size advance d (xs ++ r ∷ []) ++ z ∷ []) shown;
              calm = λ l. refl;
            };
          })
      by false p =
          let stays : (nat_eq t.left 1 && t.is_open (t.closed % count)) ≡ false = and_left _ _ p in
          let two : 2 ≤ t.left = more_than t.left m.1.some p in
          let seen : who (suc c) ≡ None = step.visit ∙ ap (λ (z : Bool). if z then Some (t.closed % count) else None) stays in
          subst (λ z. Flowing (suc c) (counted size advance stride false (Some r) (closed_by count z t)) lo base) (sym stays) (record {
            q = m.0;
            d = d;
            xs = xs ++ r ∷ [];
            is = record {
              is = pend;
              opened = m.1.opened;
              closed = m.1.closed;
              until = m.1.until;
              less = m.1.less;
              left = rw p (omega (arith, more, two, m.1.left));
              some = rw p (omega (arith, two));
              low = m.1.low;
              whole = λ j l. omega (arith, more, h.whole j l);
              copies = (let z = copies false stays (λ y. absurd (cc)) in record { on = z.on; off = z.off });
              from = omega (arith, h.from);
              done = did_none front lo c h.from seen ∙ h.done ∙ sym (firsts-grown size advance d xs (r ∷ []) h.whole);
              calm = λ l. refl;
            };
          })
        where
          more_than : (n : ℕ) → 1 ≤ n → nat_eq n 1 ≡ false → 2 ≤ n
          more_than zero l e = absurd (omega (arith, l))
          more_than (suc zero) l e = absurd (cc)
          more_than (suc (suc n)) l e = omega arith

  -- nothing comes
  pub flow_idle : (c : ℕ) (s : Front) (lo base q d : ℕ) (xs : List Row) → Flow c s lo base q d xs → Step front c false None s → Flowing (suc c) (next size advance count stride false None s) lo base
  flow_idle c s lo base q d xs h step =
      let stays : ((s.flush && nat_eq s.wait 0) && s.is_open (s.closed % count)) ≡ false = (elim (cases_lt d q) [
        | inl l ↦ and_left _ _ (and_left _ _ (h.calm l))
        | inr l ↦ and_right _ _ (h.copies.off s.closed (omega (arith, h.opened, h.closed, l)) (omega (arith, front.copies_some))).0
      ]) in
      let seen : who (suc c) ≡ None = step.visit ∙ ap (λ (z : Bool). if z then Some (s.closed % count) else None) stays in
      let all : length xs ≤ length xs = omega arith in
      let mid = flow_mid c s lo base q d xs h None in
      let low : s.closed ≤ s.opened = omega (arith, h.opened, h.closed, h.low) in
      let room : s.opened ≤ s.closed + count = omega (arith, mid.1.opened, mid.1.closed, mid.1.room, front.enough) in
      subst (λ z. Flowing (suc c) (counted size advance stride false None (closed_by count z s)) lo base) (sym stays) (record {
        q = q;
        d = d;
        xs = xs;
        is = record {
          is = rw (step.is_end, step.is_tuple, h.is) (append-nil xs);
          opened = h.opened;
          closed = h.closed;
          until = h.until;
          less = h.less;
          left = h.left;
          some = h.some;
          low = h.low;
          whole = h.whole;
          copies = (let z = copies_idle c s step base xs h.copies low room stays (λ w l. place w l) in record { on = z.on; off = z.off });
          from = omega (arith, h.from);
          done = did_none front lo c h.from seen ∙ h.done;
          calm = h.calm;
        };
      })
    where
      place : (w : ℕ) → w < s.opened → (w - base) * advance ≤ length xs
      place w l =
          elim (cases_lt w base) [
            | inl y ↦ (let z : w - base ≡ 0 = omega (arith, y) in rw z (omega arith))
            | inr y ↦ (let z : suc (w - base) * advance ≤ q * advance = mul-le-mul_right advance (omega (arith, h.opened, l, y)) in omega (arith, z, h.until, h.less))
          ]

      copies_idle : (c : ℕ) (s : Front) → Step front c false None s → (base : ℕ) (xs : List Row) → Copies front c s base xs → s.closed ≤ s.opened → s.opened ≤ s.closed + count → ((s.flush && nat_eq s.wait 0) && s.is_open (s.closed % count)) ≡ false
          → ((w : ℕ) → w < s.opened → (w - base) * advance ≤ length xs) → Copies front (suc c) s base xs
      copies_idle c s step base xs h low room stays place =
          let nothing : (k : ℕ) → k < count → (ins k).tuple (suc c) ≡ None = λ k l. step.tuples k l ∙ ap (λ z. if z then s.held else None) (and_left _ (nat_eq k (s.closed % count)) stays) in
          subst (Copies front (suc c) s base) (append-nil xs) (copies_next front c false None None s step base xs h low room false stays (λ y. absurd (cc)) (λ w l n x. nothing (w % count) (within front w)) (λ w l n. nothing (w % count) (within front w)) place)
