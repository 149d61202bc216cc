-- Why a window of a slot ends: a row of its key completes it, or it is one of the slot's turns. In one cycle at most one ends.
use Rattle.std.proofs.Common.{◌≡◌, ℕ, suc, ◌+◌, ◌-◌, ◌*◌, ◌%◌, ◌<◌, ◌≤◌, List, [], ◌∷◌, ◌++◌, length, take, Option, Some, None, Bool, true, false, ◌&&◌, refl, sym, ap, ◌∙◌, subst, arith, inl, inr, mul-le-mul_right}
use Rattle.std.specs.Prelude.{if◌then◌else◌, nat_eq, nat_le, nat_lt, slice_get}
use Rattle.std.proofs.lemmas.Bool.{cases_lt, and_parts, eqb-true, leb-true, ltb-true}
use Rattle.gl_values.specs.Lists.{keys_of}
use Rattle.gl_values.specs.Results.{Row}
use Rattle.gl_bits.proofs.Bools.{else_false}
use Rattle.gl_values.proofs.Grouping.{AreDistinct, distinct_once, distinct_take}
use Rattle.gl_wire.specs.Apart.{a_tuple}
use Rattle.gl_wire.specs.Wire.{stream}
use Rattle.gl_slots.specs.Slots.{Slots, freed, keys_now, of_slot, rows_of_key, same_key, with_tuple}
use Rattle.gl_partition.specs.Machine.{Windows, closes, closing, comes, copy_of, counted, closed_by, due, is_due, mid, oldest, one_opened, opening, windows_at}
use Rattle.gl_partition.proofs.Setting.{Setting}
use Rattle.gl_partition.proofs.OwnFlow.{own_mid}
use Rattle.gl_partition.proofs.PartLists.{one_place}
use Rattle.gl_partition.proofs.EndingLemmas.{ending_one, ending_some, keys, slots, who}
use Rattle.gl_partition.proofs.StreamLemmas.{Flow, keys_with}
use Rattle.gl_partition.proofs.FlushLemmas.{Flush}
use Rattle.gl_partition.proofs.IdleLemmas.{fresh}
use Rattle.gl_partition.proofs.PhaseLemmas.{Phase, all, flows, flush, flushes, phase}

module _ (front : Setting) where
  open front use {n, a, ins}

  abbrev copies : ℕ
  copies = front.n.copies

  abbrev count : ℕ
  count = front.n.slots

  abbrev stride : ℕ
  stride = front.n.stride

  abbrev key : Row → ℕ
  key = front.n.key

  -- ---- the numbers of a slot from one cycle to the next

  pub opening_closed : (o : Option Row) (s : Windows) → (opening front.n.advance copies o s).closed ≡ s.closed
  opening_closed None s = refl
  opening_closed (Some r) s = by (nat_eq s.until 0)
    where
      by : (b : Bool) → (if b then one_opened front.n.advance copies s else record s { until = s.until - 1 }).closed ≡ s.closed
      by true = refl
      by false = refl

  counted_closed : (e : Bool) (o : Option Row) (t : Windows) → (counted front.n.size front.n.advance e o t).closed ≡ t.closed
  counted_closed true o t = refl
  counted_closed false None t = refl
  counted_closed false (Some r) t = refl

  counted_opened : (e : Bool) (o : Option Row) (t : Windows) → (counted front.n.size front.n.advance e o t).opened ≡ t.opened
  counted_opened true o t = refl
  counted_opened false None t = refl
  counted_opened false (Some r) t = refl

  by_closed : (b : Bool) (t : Windows) → (closed_by copies b t).closed ≡ (if b then suc t.closed else t.closed)
  by_closed true t = refl
  by_closed false t = refl

  by_opened : (b : Bool) (t : Windows) → (closed_by copies b t).opened ≡ t.opened
  by_opened true t = refl
  by_opened false t = refl

  pub mid_closed : (i c : ℕ) → (mid n a i c).closed ≡ (windows_at n a i c).closed
  mid_closed i c = opening_closed (comes n a i c) (windows_at n a i c)

  pub closed_next : (i c : ℕ) → (windows_at n a i (suc c)).closed ≡ (if closes n a i c then suc (windows_at n a i c).closed else (windows_at n a i c).closed)
  closed_next i c =
      counted_closed (a.ends c) (comes n a i c) (closed_by copies (closes n a i c) (mid n a i c)) ∙ by_closed (closes n a i c) (mid n a i c)
      ∙ ap (λ (v : ℕ). if closes n a i c then suc v else v) (mid_closed i c)

  pub opened_next : (i c : ℕ) → (windows_at n a i (suc c)).opened ≡ (mid n a i c).opened
  opened_next i c = counted_opened (a.ends c) (comes n a i c) (closed_by copies (closes n a i c) (mid n a i c)) ∙ by_opened (closes n a i c) (mid n a i c)

  -- ---- what comes at a slot

  of_slot_some : (ks : List ℕ) (i : ℕ) (o : Option Row) (r : Row) → of_slot key ks i o ≡ Some r → (o ≡ Some r) × (slice_get ks i ≡ Some (key r))
  of_slot_some ks i None r h = absurd (cc)
  of_slot_some ks i (Some q) r h = by (same_key (slice_get ks i) (key q)) refl h
    where
      has : (o : Option ℕ) → same_key o (key q) ≡ true → o ≡ Some (key q)
      has None p = absurd (cc)
      has (Some y) p = let e = eqb-true (key q) y p in ap (λ (v : ℕ). Some v) (sym e)

      by : (b : Bool) → same_key (slice_get ks i) (key q) ≡ b → (if b then Some q else None) ≡ Some r → (Some q ≡ Some r) × (slice_get ks i ≡ Some (key r))
      by true p e = (e, let same : q ≡ r = cc in has (slice_get ks i) p ∙ ap (λ (v : Row). Some (key v)) same)
      by false p e = absurd (cc)

  pub comes_tuple : (i c : ℕ) (r : Row) → comes n a i c ≡ Some r → (a.tuple c ≡ Some r) × (slice_get (keys front c) i ≡ Some (key r))
  comes_tuple i c r h = of_slot_some (keys front c) i (a.tuple c) r h

  -- the keys with a row are the first of its stream
  pub keys_are : (c : ℕ) (r : Row) → a.tuple c ≡ Some r → keys front c ≡ take count (keys_of key (stream a c))
  keys_are c r h = by (phase front c)
    where
      now : (s : Slots) (e : Bool) → keys_now count key e (Some r) s ≡ with_tuple count key (Some r) (freed s)
      now s true = refl
      now s false = refl

      flow : (lo : ℕ) (xs : List Row) → Flow front c lo xs → keys front c ≡ take count (keys_of key (stream a c))
      flow lo xs f =
          ap (λ (o : Option Row). keys_now count key (a.ends c) o (slots front c)) h ∙ now (slots front c) (a.ends c) ∙ keys_with front xs (Some r) (freed (slots front c)) f.keys'
          ∙ ap (λ z. take count (keys_of key z)) (let w : stream a c ≡ xs ++ r ∷ [] = rw (f.is, h) refl in sym w)

      by : Phase front c → keys front c ≡ take count (keys_of key (stream a c))
      by (flows lo xs f un b) = flow lo xs f
      by (flushes lo u xs f b) = flow (u + flush front + 2) [] (fresh front c lo u xs f (front.rested u c f.end (a_tuple r h) f.behind))

  pub one_slot : (i j c : ℕ) (r q : Row) → comes n a i c ≡ Some r → comes n a j c ≡ Some q → i ≡ j
  one_slot i j c r q h g =
      let x = comes_tuple i c r h in
      let y = comes_tuple j c q g in
      let same : r ≡ q = (let p = x.0 in let o = y.0 in cc (p, o)) in
      let distinct : AreDistinct (keys front c) = subst AreDistinct (sym (keys_are c r x.0)) (distinct_take count _ (distinct_once _)) in
      one_place (keys front c) (key r) i j distinct x.1 (y.1 ∙ ap (λ (v : Row). Some (key v)) (sym same))

  -- at most as many windows of a slot are open as it has copies
  pub record Roomy (i c : ℕ) : Type 0 where
    pub low : (mid n a i c).closed ≤ (mid n a i c).opened
    pub high : (mid n a i c).opened ≤ (mid n a i c).closed + copies

  pub mid_room : (i c : ℕ) (there : i < count) → Roomy i c
  mid_room i c there = by (phase front c)
    where
      flow : (lo : ℕ) (xs : List Row) → Flow front c lo xs → Roomy i c
      flow lo xs f =
          let o = f.owns i there in
          let m = own_mid front i there c (windows_at n a i c) o.base o.q o.d (rows_of_key key xs (slice_get (freed (slots front c)) i)) o.is (comes n a i c) in
          record { low = omega (arith, m.1.opened, m.1.closed, m.1.low); high = omega (arith, m.1.opened, m.1.closed, m.1.room) }

      idle : (lo u : ℕ) (xs : List Row) → Flush front c lo u xs → (o : Option Row) → o ≡ None → ((opening front.n.advance copies o (windows_at n a i c)).closed ≤ (opening front.n.advance copies o (windows_at n a i c)).opened)
          × ((opening front.n.advance copies o (windows_at n a i c)).opened ≤ (opening front.n.advance copies o (windows_at n a i c)).closed + copies)
      idle lo u xs f (Some r) e = absurd (cc)
      idle lo u xs f None e =
          let s = f.shorts i there in
          let low : (windows_at n a i c).closed ≤ (windows_at n a i c).opened = omega (arith, s.is.opened, s.is.closed, s.is.low) in
          let high : (windows_at n a i c).opened ≤ (windows_at n a i c).closed + copies = omega (arith, s.is.opened, s.is.closed, s.is.room) in
          (low, high)

      flushed : (lo u : ℕ) (xs : List Row) → Flush front c lo u xs → (o : Option Row) → comes n a i c ≡ o → Roomy i c
      flushed lo u xs f None e = let z = idle lo u xs f (comes n a i c) e in record { low = z.0; high = z.1 }
      flushed lo u xs f (Some r) e = flow (u + flush front + 2) [] (fresh front c lo u xs f (front.rested u c f.end (a_tuple r (comes_tuple i c r e).0) f.behind))

      by : Phase front c → Roomy i c
      by (flows lo xs f un b) = flow lo xs f
      by (flushes lo u xs f b) = flushed lo u xs f (comes n a i c) refl

  -- no more have ended than were opened
  pub own_low : (i c : ℕ) (there : i < count) → (windows_at n a i c).closed ≤ (windows_at n a i c).opened
  own_low i c there = by (phase front c)
    where
      by : Phase front c → (windows_at n a i c).closed ≤ (windows_at n a i c).opened
      by (flows lo xs f un b) = let o = f.owns i there in omega (arith, o.is.opened, o.is.closed, o.is.low)
      by (flushes lo u xs f b) = let s = f.shorts i there in omega (arith, s.is.opened, s.is.closed, s.is.low)

  -- ---- why a window ends

  -- it is one of the slot's turns in the flush that began at this end
  pub record Turn (i c : ℕ) : Type 0 where
    pub u : ℕ
    pub turn : ℕ
    pub end : a.ends u ≡ true
    pub time : c ≡ u + turn * stride
    pub low : i * copies < turn
    pub high : turn ≤ i * copies + copies
    pub alone : a.tuple c ≡ None
    pub is_turn : (slots front c).turn ≡ turn
    pub copy : (mid n a i c).closed ≡ (windows_at n a i (suc u)).closed + (turn - 1 - i * copies)
    pub open' : (mid n a i c).closed < (windows_at n a i (suc u)).opened
    pub key_of : ℕ
    pub keyed' : slice_get (keys front c) i ≡ Some key_of

  pub data Source (i c : ℕ) : Type 0 where
    comes' : (r : Row) → comes n a i c ≡ Some r → Source i c
    in_turn : Turn i c → Source i c

  due_turn : (i c : ℕ) (e : Bool) (o : Option Row) (s : Slots) → is_due copies i e o s ≡ true → (e ≡ false) × (o ≡ None) × (s.flush ≡ true) × (s.wait ≡ 0) × (i * copies < s.turn) × (s.turn ≤ i * copies + copies)
  due_turn i c true o s h = absurd (cc)
  due_turn i c false (Some r) s h = absurd (cc)
  due_turn i c false None s h =
      let x = and_parts (s.flush && nat_eq s.wait 0) (nat_lt (i * copies) s.turn && nat_le s.turn (i * copies + copies)) h in
      let y = and_parts s.flush (nat_eq s.wait 0) x.0 in
      let z = and_parts (nat_lt (i * copies) s.turn) (nat_le s.turn (i * copies + copies)) x.1 in
      (refl, refl, y.0, eqb-true s.wait 0 y.1, ltb-true _ _ z.0, leb-true _ _ z.1)

  pub source : (i c : ℕ) → i < count → closes n a i c ≡ true → Source i c
  source i c there h = by (comes n a i c) refl h
    where
      -- nothing comes at the slot: a turn
      turned : closing copies (due n a i c) None (windows_at n a i c) ≡ true → (mid n a i c).closed ≡ (windows_at n a i c).closed → Source i c
      turned g same = flushed (phase front c)
        where
          x : ((due n a i c) ≡ true) × ((windows_at n a i c).is_open ((windows_at n a i c).closed % copies) ≡ true)
          x = and_parts (due n a i c) ((windows_at n a i c).is_open ((windows_at n a i c).closed % copies)) g

          -- a slot that had no key has no window
          has_key : (lo u : ℕ) (xs : List Row) (f : Flush front c lo u xs) → (f.shorts i there).d < (f.shorts i there).q → (y : ℕ) × (slice_get (slots front c).keys i ≡ Some y)
          has_key lo u xs f l = by (slice_get (slots front c).keys i) refl
            where
              by : (o : Option ℕ) → slice_get (slots front c).keys i ≡ o → (y : ℕ) × (slice_get (slots front c).keys i ≡ Some y)
              by (Some y) e = (y, e)
              by None e = absurd (
                  let s = f.shorts i there in
                  let none : length (rows_of_key key (stream a u) (slice_get (slots front c).keys i)) ≡ 0 = ap (λ (o : Option ℕ). length (rows_of_key key (stream a u) o)) e in
                  omega (arith, none, s.cut.place s.d l))

          flushed : Phase front c → Source i c
          flushed (flows lo xs f un b) = absurd (let y = due_turn i c (a.ends c) (a.tuple c) (slots front c) (x).0 in let z = y.2 in cc (z, un))
          flushed (flushes lo u xs f b) =
              let y = due_turn i c (a.ends c) (a.tuple c) (slots front c) (x).0 in
              let s = f.shorts i there in
              elim (cases_lt s.d s.q) [
                | inr l ↦ absurd (
                    let off = (s.is.copies'.off (windows_at n a i c).closed (omega (arith, s.is.opened, s.is.closed, l)) (omega (arith, front.copies_some))).0 in
                    let on = (x).1 in cc (off, on))
                | inl l ↦ in_turn (record {
                  u = u;
                  turn = (slots front c).turn;
                  end = f.end;
                  time = omega (arith, f.time, y.3);
                  low = y.4;
                  high = y.5;
                  alone = y.1;
                  is_turn = refl;
                  copy = omega (arith, same, s.is.closed, s.began, s.past, l, s.cut.low);
                  open' = omega (arith, same, s.is.closed, s.begun, l);
                  key_of = (has_key lo u xs f l).0;
                  keyed' = rw (y.0, y.1) (has_key lo u xs f l).1;
                })
              ]

      by : (o : Option Row) → comes n a i c ≡ o → closes n a i c ≡ true → Source i c
      by (Some r) e g = comes' r e
      by None e g = turned (ap (λ (o : Option Row). closing copies (due n a i c) o (opening front.n.advance copies o (windows_at n a i c))) (sym e) ∙ g) (mid_closed i c)

  -- at most one window ends in a cycle
  pub one_ends : (i j c : ℕ) → i < count → j < count → closes n a i c ≡ true → closes n a j c ≡ true → i ≡ j
  one_ends i j c k l p q = by (source i c k p) (source j c l q)
    where
      same_turn : (i j : ℕ) → Turn i c → Turn j c → i < j → ⊥
      same_turn i j s t g =
          let up : suc i * copies ≤ j * copies = mul-le-mul_right copies g in
          omega (arith, s.high, t.low, s.is_turn, t.is_turn, up)

      by : Source i c → Source j c → i ≡ j
      by (comes' r e) (comes' r' f) = one_slot i j c r r' e f
      by (comes' r e) (in_turn t) = absurd (let x = (comes_tuple i c r e).0 in let y = t.alone in cc (x, y))
      by (in_turn t) (comes' r e) = absurd (let x = (comes_tuple j c r e).0 in let y = t.alone in cc (x, y))
      by (in_turn s) (in_turn t) = elim (cases_lt i j) [
        | inl g ↦ absurd (same_turn i j s t g)
        | inr g ↦ elim (cases_lt j i) [ inl m ↦ absurd (same_turn j i t s m) | inr m ↦ omega (arith, g, m) ]
      ]

  pub visit_of : (i c : ℕ) → i < count → closes n a i c ≡ true → who front (suc c) ≡ Some (copy_of n i (oldest n a i c))
  visit_of i c there p = ending_one front c count i there p (λ j l apart. else_false (closes n a j c) (λ q. apart (one_ends j i c l there q p)))

  pub visit_from : (c k : ℕ) → who front (suc c) ≡ Some k → (i : ℕ) × (i < count) × (closes n a i c ≡ true) × (k ≡ copy_of n i (oldest n a i c))
  visit_from c k h = ending_some front c count k h

  -- a turn comes before the flush is over
  pub turn_early : (i c : ℕ) → i < count → (t : Turn i c) → t.turn * stride ≤ all front * stride
  turn_early i c there t =
      let up : suc i * copies ≤ count * copies = mul-le-mul_right copies there in
      mul-le-mul_right stride (omega (arith, t.high, up))
