-- A slot while a stream comes: its windows go by the rows of its key.
use Rattle.std.proofs.Common.{◌≡◌, ℕ, zero, suc, ◌+◌, ◌-◌, ◌*◌, ◌%◌, ◌<◌, ◌≤◌, List, [], ◌∷◌, ◌++◌, length, drop, Option, Some, None, Bool, true, false, ◌&&◌, refl, sym, ap, ◌∙◌, subst, arith, inl, inr, mul-le-mul_right, length-append}
use Rattle.std.specs.Prelude.{option_to_list, if◌then◌else◌, nat_eq}
use Rattle.std.proofs.lemmas.Bool.{cases_lt, eqb-true, eq-eqb, and_from, and_left, and_right}
use Rattle.std.proofs.lemmas.List.{drop-append-le, append-nil}
use Rattle.gl_values.specs.Results.{Row}
use Rattle.gl_wire.specs.Wire.{stream}
use Rattle.gl_wire.proofs.NumberLemmas.{mul_below}
use Rattle.gl_partition.specs.Machine.{Windows, opening, one_opened, closing, taken, closed_by, counted, next}
use Rattle.gl_partition.proofs.Setting.{Setting}
use Rattle.gl_partition.proofs.OwnCopies.{Step, Copies, copies_opened, copies_next, ended_stream, wire}

module _ (front : Setting) (i : ℕ) (there : i < front.n.slots) where
  open front use {n}

  abbrev size : ℕ
  size = front.n.size

  abbrev advance : ℕ
  advance = front.n.advance

  abbrev copies : ℕ
  copies = front.n.copies

  -- q windows of the slot's rows are opened and d completed
  pub record Own (c : ℕ) (s : Windows) (base q d : ℕ) (xs : List Row) : Type 0 where
    pub opened : s.opened ≡ base + q
    pub closed : s.closed ≡ base + d
    pub until : length xs + s.until ≡ q * advance
    pub less : s.until < advance
    pub left : length xs + s.left ≡ d * advance + size
    pub some : 1 ≤ s.left
    pub low : d ≤ q
    pub whole : (j : ℕ) → j < d → j * advance + size ≤ length xs
    pub copies' : Copies front i there c s base xs

  -- after what this cycle opens, with m rows
  pub record Mid (c : ℕ) (t : Windows) (base q d m : ℕ) (xs : List Row) : Type 0 where
    pub opened : t.opened ≡ base + q
    pub closed : t.closed ≡ base + d
    pub low : d ≤ q
    pub room : q ≤ d + copies
    pub until : m + t.until ≡ q * advance
    pub less : t.until < advance
    pub left : length xs + t.left ≡ d * advance + size
    pub some : 1 ≤ t.left
    pub copies' : Copies front i there c t base xs

  own_room : (d q m u l : ℕ) → m + u ≡ q * advance → u < advance → m ≤ l → l ≤ d * advance + size → q ≤ d + copies
  own_room d q m u l e less k h =
      let far : q * advance < (d + copies + 1) * advance = omega (arith, e, less, k, h, front.cover) in
      let z : q < d + copies + 1 = mul_below q (d + copies + 1) advance far in omega (arith, z)

  positive : (m : ℕ) → nat_eq m 0 ≡ false → 1 ≤ m
  positive zero e = absurd (cc)
  positive (suc m) e = omega arith

  pub own_mid : (c : ℕ) (s : Windows) (base q d : ℕ) (xs : List Row) → Own c s base q d xs → (o : Option Row)
      → (m : ℕ) × Mid c (opening advance copies o s) base m d (length (xs ++ option_to_list o)) xs
  own_mid c s base q d xs h None = (
    q,
    record {
      opened = h.opened;
      closed = h.closed;
      low = h.low;
      room = own_room d q (length xs) s.until (length xs) h.until h.less (omega arith) (omega (arith, h.left));
      until = ap (λ (z : List Row). length z + s.until) (append-nil xs) ∙ h.until;
      less = h.less;
      left = h.left;
      some = h.some;
      copies' = h.copies';
    },
  )
  own_mid c s base q d xs h (Some r) = by (nat_eq s.until 0) refl
    where
      more : length (xs ++ r ∷ []) ≡ length xs + 1
      more = length-append xs (r ∷ [])

      by : (b : Bool) → nat_eq s.until 0 ≡ b → (m : ℕ) × Mid c (if b then one_opened advance copies s else record s { until = s.until - 1 }) base m d (length (xs ++ option_to_list (Some r))) xs
      by true p =
          let z : s.until ≡ 0 = eqb-true s.until 0 p in
          let near : q * advance < (d + copies) * advance = omega (arith, h.until, z, h.left, h.some, front.cover) in
          let room : q < d + copies = mul_below q (d + copies) advance near in
          let base_of : s.opened - base ≡ q = omega (arith, h.opened) in
          let full : length xs ≤ (s.opened - base) * advance = rw base_of (omega (arith, h.until, z)) in (
            suc q,
            record {
              opened = omega (arith, h.opened);
              closed = h.closed;
              low = omega (arith, h.low);
              room = omega (arith, room);
              until = omega (arith, more, h.until, z, front.step_some);
              less = omega (arith, front.step_some);
              left = h.left;
              some = h.some;
              copies' = copies_opened front i there c s base xs h.copies' (omega (arith, h.opened, h.closed, h.low)) (omega (arith, h.opened, h.closed, room)) full;
            },
          )
      by false p =
          let some : 1 ≤ s.until = positive s.until p in (
            q,
            record {
              opened = h.opened;
              closed = h.closed;
              low = h.low;
              room = own_room d q (length xs) s.until (length xs) h.until h.less (omega arith) (omega (arith, h.left));
              until = omega (arith, more, h.until, some);
              less = omega (arith, h.less);
              left = h.left;
              some = h.some;
              copies' = record { on = h.copies'.on; off = h.copies'.off };
            },
          )

  -- whether the row that came completes window d, of which then the copy has all rows
  pub data Completes (c : ℕ) (d : ℕ) (zs : List Row) (ends : Bool) (oldest : ℕ) : ℕ → Type 0 where
    whole_now : ends ≡ true → length zs ≡ d * advance + size → stream (wire front i there oldest) (suc c) ≡ drop (d * advance) zs → Completes c d zs ends oldest (suc d)
    not_yet : ends ≡ false → length zs < d * advance + size → Completes c d zs ends oldest d

  more_than : (m : ℕ) → 1 ≤ m → nat_eq m 1 ≡ false → 2 ≤ m
  more_than zero l e = absurd (omega (arith, l))
  more_than (suc zero) l e = absurd (cc)
  more_than (suc (suc m)) l e = omega arith

  module _ (c : ℕ) (s : Windows) (base q d : ℕ) (xs : List Row) (h : Own c s base q d xs) where
    place : (w p : ℕ) (o : Option Row) → w < (opening advance copies o s).opened → (m : Mid c (opening advance copies o s) base p d (length (xs ++ option_to_list o)) xs) → length (option_to_list o) ≤ 1 → (w - base) * advance ≤ length xs
    place w p o l m one = elim (cases_lt w base) [
      | inl y ↦ (let z : w - base ≡ 0 = omega (arith, y) in rw z (omega arith))
      | inr y ↦ (let z : suc (w - base) * advance ≤ p * advance = mul-le-mul_right advance (omega (arith, m.opened, l, y)) in
          omega (arith, z, m.until, m.less, length-append xs (option_to_list o), one))
    ]

    -- with a row of the slot
    module _ (e due : Bool) (r : Row) (held : Option Row) (step : Step front i there c e due (Some r) held s) where
      abbrev t : Windows
      t = opening advance copies (Some r) s

      abbrev m : (v : ℕ) × Mid c t base v d (length (xs ++ r ∷ [])) xs
      m = own_mid c s base q d xs h (Some r)

      more : length (xs ++ r ∷ []) ≡ length xs + 1
      more = length-append xs (r ∷ [])

      one_left : nat_eq t.left 1 ≡ true → d < m.0
      one_left p =
          let one : t.left ≡ 1 = eqb-true t.left 1 p in
          let far : d * advance < m.0 * advance = omega (arith, m.1.until, more, one, m.1.left, front.rows_some) in
          mul_below d m.0 advance far

      is_there : nat_eq t.left 1 ≡ true → t.closed < t.opened
      is_there p = omega (arith, m.1.opened, m.1.closed, one_left p)

      is_on : (p : nat_eq t.left 1 ≡ true) → t.is_open (t.closed % copies) ≡ true
      is_on p = (m.1.copies'.on t.closed (omega arith) (is_there p)).0

      room_now : t.opened ≤ t.closed + copies
      room_now = omega (arith, m.1.opened, m.1.closed, m.1.room)

      -- what the oldest window takes where it ends
      took : (b : Bool) → closing copies due (Some r) t ≡ true → e ≡ b → taken copies e due (Some r) held t (t.closed % copies) ≡ Some r
      took true p g =
          let mine : (closing copies due (Some r) t && nat_eq (t.closed % copies) (t.closed % copies)) ≡ true = and_from _ _ p (eq-eqb _ _ refl) in
          ap (λ x. taken copies x due (Some r) held t (t.closed % copies)) g ∙ ap (λ (z : Bool). if z then Some r else None) mine
      took false p g =
          let on : t.is_open (t.closed % copies) ≡ true = and_second (nat_eq t.left 1) (t.is_open (t.closed % copies)) p in
          ap (λ x. taken copies x due (Some r) held t (t.closed % copies)) g ∙ ap (λ (z : Bool). if z then Some r else None) on
        where
          and_second : (x y : Bool) → (x && y) ≡ true → y ≡ true
          and_second true y f = f
          and_second false y f = absurd (cc)

      pub completes : Completes c d (xs ++ r ∷ []) (closing copies due (Some r) t) t.closed (if closing copies due (Some r) t then suc d else d)
      completes = by (nat_eq t.left 1) refl
        where
          by : (x : Bool) → nat_eq t.left 1 ≡ x → Completes c d (xs ++ r ∷ []) (closing copies due (Some r) t) t.closed (if closing copies due (Some r) t then suc d else d)
          by true p =
              let now : closing copies due (Some r) t ≡ true = and_from _ _ p (is_on p) in
              let one : t.left ≡ 1 = eqb-true t.left 1 p in
              let at : t.closed - base ≡ d = omega (arith, m.1.closed) in
              let begun : d * advance ≤ length xs = omega (arith, m.1.left, one, front.rows_some) in
              let shown : stream (wire front i there t.closed) (suc c) ≡ drop (d * advance) (xs ++ r ∷ []) =
              ended_stream front i there c e due (Some r) held None s step base xs m.1.copies' (is_there p)
              ∙ ap (λ z. drop (z * advance) xs ++ option_to_list (taken copies e due (Some r) held t (t.closed % copies))) at
              ∙ ap (λ z. drop (d * advance) xs ++ option_to_list z) (took e now refl)
              ∙ sym (drop-append-le (d * advance) xs (r ∷ []) begun)
              in
              subst (λ b. Completes c d (xs ++ r ∷ []) (closing copies due (Some r) t) t.closed (if b then suc d else d)) (sym now) (whole_now now (omega (arith, more, m.1.left, one)) shown)
          by false p =
              let stays : closing copies due (Some r) t ≡ false = and_left _ _ p in
              let two = more_than t.left m.1.some p in
              subst (λ b. Completes c d (xs ++ r ∷ []) (closing copies due (Some r) t) t.closed (if b then suc d else d)) (sym stays) (not_yet stays (omega (arith, more, m.1.left, two)))

    one_at_most : (o : Option Row) → length (option_to_list o) ≤ 1
    one_at_most None = omega arith
    one_at_most (Some r) = omega arith

    -- a row without the end
    pub own_tuple : (due : Bool) (r : Row) (held : Option Row) → (step : Step front i there c false due (Some r) held s)
        → Own (suc c) (next n false due (Some r) s) base (own_mid c s base q d xs h (Some r)).0 (if closing copies due (Some r) (opening advance copies (Some r) s) then suc d else d) (xs ++ r ∷ [])
    own_tuple due r held step = by (nat_eq (t').left 1) refl
      where
        t' : Windows
        t' = opening advance copies (Some r) s

        m' : (v : ℕ) × Mid c t' base v d (length (xs ++ r ∷ [])) xs
        m' = own_mid c s base q d xs h (Some r)

        more' : length (xs ++ r ∷ []) ≡ length xs + 1
        more' = length-append xs (r ∷ [])

        given : (w : ℕ) → t'.closed ≤ w → w < t'.opened → (wire front i there w).tuple (suc c) ≡ Some r
        given w l k = step.tuples w ∙ ap (λ (z : Bool). if z then Some r else None) (m'.1.copies'.on w l k).0

        none : (w : ℕ) → t'.opened ≤ w → w < t'.closed + copies → (wire front i there w).tuple (suc c) ≡ None
        none w l k = step.tuples w ∙ ap (λ (z : Bool). if z then Some r else None) (m'.1.copies'.off w l k).0

        after : (b : Bool) → closing copies due (Some r) t' ≡ b → (b ≡ true → t'.closed < t'.opened) → Copies front i there (suc c) (closed_by copies b t') base (xs ++ r ∷ [])
        after b p some = copies_next front i there c false due (Some r) held (Some r) s step base xs m'.1.copies' (omega (arith, m'.1.opened, m'.1.closed, m'.1.low)) (omega (arith, m'.1.opened, m'.1.closed, m'.1.room)) b p some (λ w l k x. given w l k) none (λ w l. place w m'.0 (Some r) l m'.1 (omega arith))

        by : (x : Bool) → nat_eq t'.left 1 ≡ x → Own (suc c) (counted size advance false (Some r) (closed_by copies (closing copies due (Some r) t') t')) base m'.0 (if closing copies due (Some r) t' then suc d else d) (xs ++ r ∷ [])
        by true p =
            let one : t'.left ≡ 1 = eqb-true t'.left 1 p in
            let there' : d < m'.0 = one_left false due r held step p in
            let now : closing copies due (Some r) t' ≡ true = and_from _ _ p (is_on false due r held step p) in
            let z = after true now (λ y. omega (arith, m'.1.opened, m'.1.closed, there')) in
            subst (λ b. Own (suc c) (counted size advance false (Some r) (closed_by copies b t')) base m'.0 (if b then suc d else d) (xs ++ r ∷ [])) (sym now) (record {
              opened = m'.1.opened;
              closed = omega (arith, m'.1.closed);
              until = m'.1.until;
              less = m'.1.less;
              left = rw p (omega (arith, more', one, m'.1.left));
              some = rw p front.step_some;
              low = omega (arith, there');
              whole = λ j l. elim (cases_lt j d) [
                | inl k ↦ omega (arith, more', h.whole j k)
                | inr k ↦ (let same : j ≡ d = omega (arith, l, k) in rw same (omega (arith, more', one, m'.1.left)))
              ];
              copies' = record { on = z.on; off = z.off };
            })
        by false p =
            let stays : closing copies due (Some r) t' ≡ false = and_left _ _ p in
            let two = more_than t'.left m'.1.some p in
            let z = after false stays (λ y. absurd (cc)) in
            subst (λ b. Own (suc c) (counted size advance false (Some r) (closed_by copies b t')) base m'.0 (if b then suc d else d) (xs ++ r ∷ [])) (sym stays) (record {
              opened = m'.1.opened;
              closed = m'.1.closed;
              until = m'.1.until;
              less = m'.1.less;
              left = rw p (omega (arith, more', two, m'.1.left));
              some = rw p (omega (arith, two));
              low = m'.1.low;
              whole = λ j l. omega (arith, more', h.whole j l);
              copies' = record { on = z.on; off = z.off };
            })

    -- no row of the slot, and no window ends
    pub own_rests : (due : Bool) (held : Option Row) → closing copies due None s ≡ false → Step front i there c false due None held s → Own (suc c) (next n false due None s) base q d xs
    own_rests due held stays step =
        let low : s.closed ≤ s.opened = omega (arith, h.opened, h.closed, h.low) in
        let mid = own_mid c s base q d xs h None in
        let room : s.opened ≤ s.closed + copies = omega (arith, mid.1.opened, mid.1.closed, mid.1.room) in
        let nothing : (w : ℕ) → (wire front i there w).tuple (suc c) ≡ None = λ w. step.tuples w ∙ ap (λ (z : Bool). if z then held else None) (and_left _ (nat_eq (w % copies) (s.closed % copies)) stays) in
        let z = subst (Copies front i there (suc c) s base) (append-nil xs) (copies_next front i there c false due None held None s step base xs h.copies' low room false stays (λ y. absurd (cc)) (λ w l k x. nothing w) (λ w l k. nothing w) (λ w l. place w mid.0 None l mid.1 (one_at_most None))) in
        subst (λ b. Own (suc c) (counted size advance false None (closed_by copies b s)) base q d xs) (sym stays) (record {
          opened = h.opened;
          closed = h.closed;
          until = h.until;
          less = h.less;
          left = h.left;
          some = h.some;
          low = h.low;
          whole = h.whole;
          copies' = record { on = z.on; off = z.off };
        })

    -- no window ends in a turn where none is open
    pub none_ends : d ≡ q → (due : Bool) → closing copies due None s ≡ false
    none_ends same due = and_right due _ (h.copies'.off s.closed (omega (arith, h.opened, h.closed, same)) (omega (arith, front.copies_some))).0
