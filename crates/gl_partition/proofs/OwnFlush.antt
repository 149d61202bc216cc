-- A slot behind the end of a stream: the windows that were cut short end in the slot's turns.
use Rattle.std.proofs.Common.{◌≡◌, ℕ, suc, ◌+◌, ◌-◌, ◌*◌, ◌%◌, ◌<◌, ◌≤◌, List, [], ◌∷◌, ◌++◌, length, drop, Option, Some, None, Bool, true, false, ◌&&◌, refl, sym, ap, ◌∙◌, subst, arith, inl, inr, mul-le-mul_right, length-append, length-drop}
use Rattle.std.specs.Prelude.{option_to_list, if◌then◌else◌, nat_eq}
use Rattle.std.proofs.lemmas.Bool.{cases_lt, eq-eqb, ne_eqb, and_from, and_left, and_right}
use Rattle.std.proofs.lemmas.List.{take_all, drop-append-le, append-nil}
use Rattle.gl_values.specs.Lists.{part}
use Rattle.gl_values.specs.Results.{Row}
use Rattle.gl_wire.specs.Wire.{stream}
use Rattle.gl_windows.proofs.SliceLemmas.{mod_apart}
use Rattle.gl_partition.specs.Machine.{Windows, opening, closing, taken, closed_by, counted, next}
use Rattle.gl_partition.proofs.Setting.{Setting}
use Rattle.gl_partition.proofs.OwnCopies.{Step, Copies, copies_next, ended_stream, wire}
use Rattle.gl_partition.proofs.OwnFlow.{Own, Mid, own_mid, Completes, whole_now, not_yet, completes}

module _ (front : Setting) (i : ℕ) (there : i < front.n.slots) where
  open front use {n}

  abbrev size : ℕ
  size = front.n.size

  abbrev advance : ℕ
  advance = front.n.advance

  abbrev copies : ℕ
  copies = front.n.copies

  -- q windows were opened and d have ended; the copies of the others have what came of the rows xs, without the one that came with the end
  pub record Short (c : ℕ) (s : Windows) (base q d : ℕ) (xs : List Row) : Type 0 where
    pub opened : s.opened ≡ base + q
    pub closed : s.closed ≡ base + d
    pub until : s.until ≡ 0
    pub left : s.left ≡ size
    pub low : d ≤ q
    pub room : q ≤ d + copies
    pub begun : (j : ℕ) → j < q → j * advance ≤ length xs
    pub copies' : Copies front i there c s base xs

  -- of the rows zs windows before the f-th are whole, and there are q
  pub record Cut (q f : ℕ) (zs : List Row) : Type 0 where
    pub whole : (j : ℕ) → j < f → j * advance + size ≤ length zs
    pub short : length zs < f * advance + size
    pub place : (j : ℕ) → j < q → j * advance < length zs
    pub all : length zs ≤ q * advance
    pub low : f ≤ q
    pub room : q ≤ f + copies

  -- where the stream ends: window f - 1 may have ended at once
  pub record Ended (c : ℕ) (s' : Windows) (base q f : ℕ) (xs zs : List Row) : Type 0 where
    pub is : Short (suc c) s' base q f xs
    pub cut : Cut q f zs

  short_place : (s : Windows) (base q : ℕ) (xs : List Row) → s.opened ≡ base + q → ((j : ℕ) → j < q → j * advance ≤ length xs) → (w : ℕ) → w < s.opened → (w - base) * advance ≤ length xs
  short_place s base q xs opened begun w l = elim (cases_lt w base) [
    | inl y ↦ (let z : w - base ≡ 0 = omega (arith, y) in rw z (omega arith))
    | inr y ↦ begun (w - base) (omega (arith, y, l, opened))
  ]

  module _ (c : ℕ) (s : Windows) (base q d : ℕ) (xs : List Row) (h : Own front i there c s base q d xs) where
    -- the end without a row of the slot
    pub own_end : (held : Option Row) → Step front i there c true false None held s → Ended c (next n true false None s) base q d xs (xs ++ [])
    own_end held step = record {
      is = record {
        opened = h.opened;
        closed = h.closed;
        until = refl;
        left = refl;
        low = h.low;
        room = room;
        begun = begun;
        copies' = record { on = after.on; off = after.off };
      };
      cut = record {
        whole = λ j l. omega (arith, h.whole j l, same);
        short = omega (arith, h.left, h.some, same);
        place = place;
        all = omega (arith, h.until, same);
        low = h.low;
        room = room;
      };
    }
      where
        mid : (v : ℕ) × Mid front i there c s base v d (length (xs ++ [])) xs
        mid = own_mid front i there c s base q d xs h None

        room : q ≤ d + copies
        room = omega (arith, mid.1.room, mid.1.opened, h.opened)

        room_at : s.opened ≤ s.closed + copies
        room_at = omega (arith, h.opened, h.closed, room)

        low_at : s.closed ≤ s.opened
        low_at = omega (arith, h.opened, h.closed, h.low)

        same : length (xs ++ []) ≡ length xs
        same = ap length (append-nil xs)

        place : (j : ℕ) → j < q → j * advance < length (xs ++ [])
        place j l = let z : suc j * advance ≤ q * advance = mul-le-mul_right advance l in omega (arith, z, h.until, h.less, same)

        begun : (j : ℕ) → j < q → j * advance ≤ length xs
        begun j l = omega (arith, place j l, same)

        after : Copies front i there (suc c) s base xs
        after =
            subst (Copies front i there (suc c) s base) (append-nil xs)
            (copies_next front i there c true false None held None s step base xs h.copies' low_at room_at false refl (λ y. absurd (cc))
            (λ w l k x. step.tuples w) (λ w l k. step.tuples w) (short_place s base q xs h.opened begun))

    -- the end with one
    module _ (r : Row) (held : Option Row) (step : Step front i there c true false (Some r) held s) where
      abbrev t : Windows
      t = opening advance copies (Some r) s

      abbrev pub m : (v : ℕ) × Mid front i there c t base v d (length (xs ++ r ∷ [])) xs
      m = own_mid front i there c s base q d xs h (Some r)

      place_r : (j : ℕ) → j < m.0 → j * advance < length (xs ++ r ∷ [])
      place_r j l = let z : suc j * advance ≤ m.0 * advance = mul-le-mul_right advance l in omega (arith, z, m.1.until, m.1.less)

      begun_r : (j : ℕ) → j < m.0 → j * advance ≤ length xs
      begun_r j l = omega (arith, place_r j l, length-append xs (r ∷ []))

      others : (b : Bool) → closing copies false (Some r) t ≡ b → (w : ℕ) → (b ≡ true → nat_eq (w % copies) (t.closed % copies) ≡ false) → (wire front i there w).tuple (suc c) ≡ None
      others true p w f = step.tuples w ∙ ap (λ (z : Bool). if z then Some r else None) (and_right _ _ (f refl))
      others false p w f = step.tuples w ∙ ap (λ (z : Bool). if z then Some r else None) (and_left _ _ p)

      room_r : t.opened ≤ t.closed + copies
      room_r = omega (arith, m.1.opened, m.1.closed, m.1.room)

      after_r : (b : Bool) → closing copies false (Some r) t ≡ b → (b ≡ true → t.closed < t.opened) → Copies front i there (suc c) (closed_by copies b t) base xs
      after_r b p some =
          subst (Copies front i there (suc c) (closed_by copies b t) base) (append-nil xs)
          (copies_next front i there c true false (Some r) held None s step base xs m.1.copies' (omega (arith, m.1.opened, m.1.closed, m.1.low)) room_r b p some
          (λ w l k x. others b p w (λ y. ne_eqb _ _ (λ g. elim (cases_lt t.closed w) [ inl z ↦ mod_apart copies t.closed w z (omega (arith, k, room_r)) (sym g) | inr z ↦ x y (omega (arith, l, z)) ])))
          (λ w l k. others b p w (λ y. ne_eqb _ _ (λ g. mod_apart copies t.closed w (let z = some y in omega (arith, z, l)) k (sym g))))
          (short_place t base m.0 xs m.1.opened begun_r))

      pub own_end_row : Ended c (next n true false (Some r) s) base m.0 (if closing copies false (Some r) t then suc d else d) xs (xs ++ r ∷ [])
      own_end_row = by (closing copies false (Some r) t) refl (if closing copies false (Some r) t then suc d else d) (completes front i there c s base q d xs h true false r held step)
        where
          ended_as : (f : ℕ) (b : Bool) → closing copies false (Some r) t ≡ b → (b ≡ true → t.closed < t.opened) → (closed_by copies b t).closed ≡ base + f → (closed_by copies b t).opened ≡ base + m.0 → d ≤ f → f ≤ m.0
              → ((j : ℕ) → j < f → j * advance + size ≤ length (xs ++ r ∷ [])) → length (xs ++ r ∷ []) < f * advance + size → Ended c (counted size advance true (Some r) (closed_by copies b t)) base m.0 f xs (xs ++ r ∷ [])
          ended_as f b p some closed opened up low whole short = record {
            is = record {
              opened = opened;
              closed = closed;
              until = refl;
              left = refl;
              low = low;
              room = omega (arith, m.1.room, up);
              begun = begun_r;
              copies' = (let z = after_r b p some in record { on = z.on; off = z.off });
            };
            cut = record { whole = whole; short = short; place = place_r; all = omega (arith, m.1.until); low = low; room = omega (arith, m.1.room, up) };
          }

          by : (b : Bool) → closing copies false (Some r) t ≡ b → (f : ℕ) → Completes front i there c d (xs ++ r ∷ []) (closing copies false (Some r) t) t.closed f
              → Ended c (next n true false (Some r) s) base m.0 (if closing copies false (Some r) t then suc d else d) xs (xs ++ r ∷ [])
          by true p f (not_yet e k) = absurd (cc (p, e))
          by false p f (whole_now e k v) = absurd (cc (p, e))
          by true p f (whole_now e k v) =
              let place : d * advance < m.0 * advance = omega (arith, k, m.1.until, front.rows_some) in
              let more : d < m.0 = mul_less d m.0 place in
              let step_up : suc d * advance ≡ d * advance + advance = omega arith in
              subst (λ z. Ended c (counted size advance true (Some r) (closed_by copies z t)) base m.0 (if z then suc d else d) xs (xs ++ r ∷ [])) (sym p)
              (ended_as (suc d) true p (λ y. omega (arith, m.1.opened, m.1.closed, more)) (omega (arith, m.1.closed)) m.1.opened (omega arith) more
              (λ j l. elim (cases_lt j d) [
                | inl g ↦ omega (arith, h.whole j g, length-append xs (r ∷ []))
                | inr g ↦ (let at : j ≡ d = omega (arith, l, g) in rw at (omega (arith, k)))
              ])
              (omega (arith, k, step_up, front.step_some)))
            where
              mul_less : (x y : ℕ) → x * advance < y * advance → x < y
              mul_less x y l = elim (cases_lt x y) [ inl g ↦ g | inr g ↦ absurd (let z : y * advance ≤ x * advance = mul-le-mul_right advance g in omega (arith, z, l)) ]
          by false p f (not_yet e k) =
              subst (λ z. Ended c (counted size advance true (Some r) (closed_by copies z t)) base m.0 (if z then suc d else d) xs (xs ++ r ∷ [])) (sym p)
              (ended_as d false p (λ y. absurd (cc)) m.1.closed m.1.opened (omega arith) m.1.low (λ j l. omega (arith, h.whole j l, length-append xs (r ∷ []))) k)

  -- ---- a cycle of the flush, in which nothing comes

  module _ (c : ℕ) (s : Windows) (base q d : ℕ) (xs : List Row) (h : Short c s base q d xs) (due : Bool) (held : Option Row) (step : Step front i there c false due None held s) where
    low_now : s.closed ≤ s.opened
    low_now = omega (arith, h.opened, h.closed, h.low)

    room_now : s.opened ≤ s.closed + copies
    room_now = omega (arith, h.opened, h.closed, h.room)

    idle_others : (b : Bool) → closing copies due None s ≡ b → (w : ℕ) → (b ≡ true → nat_eq (w % copies) (s.closed % copies) ≡ false) → (wire front i there w).tuple (suc c) ≡ None
    idle_others true p w f = step.tuples w ∙ ap (λ (z : Bool). if z then held else None) (and_right _ _ (f refl))
    idle_others false p w f = step.tuples w ∙ ap (λ (z : Bool). if z then held else None) (and_left _ _ p)

    idle_copies : (b : Bool) → closing copies due None s ≡ b → (b ≡ true → s.closed < s.opened) → Copies front i there (suc c) (closed_by copies b s) base xs
    idle_copies b p some =
        subst (Copies front i there (suc c) (closed_by copies b s) base) (append-nil xs)
        (copies_next front i there c false due None held None s step base xs h.copies' low_now room_now b p some
        (λ w l k x. idle_others b p w (λ y. ne_eqb _ _ (λ g. elim (cases_lt s.closed w) [ inl z ↦ mod_apart copies s.closed w z (omega (arith, k, room_now)) (sym g) | inr z ↦ x y (omega (arith, l, z)) ])))
        (λ w l k. idle_others b p w (λ y. ne_eqb _ _ (λ g. mod_apart copies s.closed w (let z = some y in omega (arith, z, l)) k (sym g))))
        (short_place s base q xs h.opened h.begun))

    -- no window ends
    pub short_waits : closing copies due None s ≡ false → Short (suc c) (next n false due None s) base q d xs
    short_waits stays =
        let z = idle_copies false stays (λ y. absurd (cc)) in
        subst (λ b. Short (suc c) (counted size advance false None (closed_by copies b s)) base q d xs) (sym stays) (record {
          opened = h.opened;
          closed = h.closed;
          until = h.until;
          left = h.left;
          low = h.low;
          room = h.room;
          begun = h.begun;
          copies' = record { on = z.on; off = z.off };
        })

    pub none_left : d ≡ q → closing copies due None s ≡ false
    none_left same = and_right due _ (h.copies'.off s.closed (omega (arith, h.opened, h.closed, same)) (omega (arith, front.copies_some))).0

    -- the oldest ends in the slot's turn
    pub record Turned : Type 0 where
      pub ends : closing copies due None s ≡ true
      pub is : Short (suc c) (next n false due None s) base q (suc d) xs
      pub shown : stream (wire front i there s.closed) (suc c) ≡ part size (d * advance) (xs ++ option_to_list held)

    pub short_turns : due ≡ true → d < q → length (xs ++ option_to_list held) ≤ d * advance + size → Turned
    short_turns is_due more few =
        let is_there : s.closed < s.opened = omega (arith, h.opened, h.closed, more) in
        let on : s.is_open (s.closed % copies) ≡ true = (h.copies'.on s.closed (omega arith) is_there).0 in
        let now : closing copies due None s ≡ true = and_from _ _ is_due on in
        let at : s.closed - base ≡ d = omega (arith, h.closed) in
        let mine : (closing copies due None s && nat_eq (s.closed % copies) (s.closed % copies)) ≡ true = and_from _ _ now (eq-eqb _ _ refl) in
        let z = idle_copies true now (λ y. is_there) in
        record {
          ends = now;
          is = subst (λ b. Short (suc c) (counted size advance false None (closed_by copies b s)) base q (suc d) xs) (sym now) (record {
            opened = h.opened;
            closed = omega (arith, h.closed);
            until = h.until;
            left = h.left;
            low = more;
            room = omega (arith, h.room);
            begun = h.begun;
            copies' = record { on = z.on; off = z.off };
          });
          shown =
              ended_stream front i there c false due None held None s step base xs h.copies' is_there
              ∙ ap (λ v. drop (v * advance) xs ++ option_to_list (taken copies false due None held s (s.closed % copies))) at
              ∙ ap (λ (v : Bool). drop (d * advance) xs ++ option_to_list (if v then held else None)) mine
              ∙ sym (drop-append-le (d * advance) xs (option_to_list held) (h.begun d more))
              ∙ sym (take_all size (drop (d * advance) (xs ++ option_to_list held)) (omega (arith, length-drop (d * advance) (xs ++ option_to_list held), few)));
        }

  -- the next stream finds the slot as at the start
  pub own_again : (c : ℕ) (s : Windows) (base q d : ℕ) (xs : List Row) → Short c s base q d xs → d ≡ q → Own front i there c s (base + q) 0 0 []
  own_again c s base q d xs h done = record {
    opened = omega (arith, h.opened);
    closed = omega (arith, h.closed, done);
    until = omega (arith, h.until);
    less = omega (arith, h.until, front.step_some);
    left = omega (arith, h.left);
    some = omega (arith, h.left, front.rows_some);
    low = omega arith;
    whole = λ j l. absurd (omega (arith, l));
    copies' = record {
      on = λ w l m. absurd (omega (arith, l, m, h.opened, h.closed, done));
      off = h.copies'.off;
    };
  }
