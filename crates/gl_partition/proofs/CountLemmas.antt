-- How many windows end: no more than rows come while no end does, and with the end those of all copies besides, less one.
use Rattle.std.proofs.Common.{◌≡◌, ℕ, zero, suc, ◌+◌, ◌-◌, ◌*◌, ◌<◌, ◌≤◌, ◌⊎◌, max, List, [], ◌++◌, length, Option, Some, None, Bool, true, false, refl, sym, ap, ◌∙◌, arith, inl, inr, mul-le-mul_right, length-append}
use Rattle.std.specs.Prelude.{if◌then◌else◌, is_some, nat_eq, option_to_list}
use Rattle.std.proofs.lemmas.Bool.{cases_lt}
use Rattle.std.proofs.lemmas.List.{append-nil}
use Rattle.gl_values.specs.Results.{Row}
use Rattle.gl_bits.specs.Words.{bit}
use Rattle.gl_bits.proofs.Bools.{else_false}
use Rattle.gl_wire.specs.Apart.{Carries, a_tuple, an_end}
use Rattle.gl_wire.specs.Wire.{rows, stream}
use Rattle.gl_wire.proofs.RowsLemmas.{rows-quiet, rows-split}
use Rattle.gl_wire.specs.Lift.{visits, with_visit}
use Rattle.gl_wire.specs.Timed.{NoEnd, Rested}
use Rattle.gl_slots.specs.Slots.{of_slot}
use Rattle.gl_partition.specs.Machine.{Windows, closes, comes, copy_of, ending, mid, oldest, one_opened, opening, windows_at}
use Rattle.gl_partition.proofs.Setting.{Setting}
use Rattle.gl_partition.proofs.EndingLemmas.{ending_none, keys, who}
use Rattle.gl_partition.proofs.PhaseLemmas.{all, flush}
use Rattle.gl_partition.proofs.CauseLemmas.{Source, Turn, closed_next, comes', comes_tuple, in_turn, mid_closed, mid_room, one_ends, one_slot, opened_next, own_low, source, turn_early, visit_from}

module _ (front : Setting) where
  open front use {n, a, ins}

  abbrev copies : ℕ
  copies = front.n.copies

  abbrev count : ℕ
  count = front.n.slots

  abbrev stride : ℕ
  stride = front.n.stride

  -- of the first k slots: the windows that have ended, those that were opened, without and with those of the cycle, those that end in it, and the rows
  closed_sum : ℕ → ℕ → ℕ
  closed_sum c zero = 0
  closed_sum c (suc i) = closed_sum c i + (windows_at n a i c).closed

  opened_sum : ℕ → ℕ → ℕ
  opened_sum c zero = 0
  opened_sum c (suc i) = opened_sum c i + (windows_at n a i c).opened

  mid_sum : ℕ → ℕ → ℕ
  mid_sum c zero = 0
  mid_sum c (suc i) = mid_sum c i + (mid n a i c).opened

  ends_sum : ℕ → ℕ → ℕ
  ends_sum c zero = 0
  ends_sum c (suc i) = ends_sum c i + bit (closes n a i c)

  came_sum : ℕ → ℕ → ℕ
  came_sum c zero = 0
  came_sum c (suc i) = came_sum c i + bit (is_some (comes n a i c))

  -- ---- windows that end

  ends_one : (c k : ℕ) → k ≤ count → ends_sum c k ≡ bit (is_some (ending n a c k))
  unfolding ends_sum
  ends_one c zero l = refl
  ends_one c (suc i) l = by (closes n a i c) refl (ends_one c i (omega (arith, l)))
    where
      by : (b : Bool) → closes n a i c ≡ b → ends_sum c i ≡ bit (is_some (ending n a c i)) → ends_sum c i + bit (closes n a i c) ≡ bit (is_some (if closes n a i c then Some (copy_of n i (oldest n a i c)) else ending n a c i))
      by true p ih =
          let none : ending n a c i ≡ None = ending_none front c i (λ j g. else_false (closes n a j c) (λ q. omega (arith, one_ends front j i c (omega (arith, g, l)) (omega (arith, l)) q p, g))) in
          let zero_sum : ends_sum c i ≡ 0 = ih ∙ ap (λ (o : Option ℕ). bit (is_some o)) none in
          ap (λ (b : Bool). ends_sum c i + bit b) p ∙ ap (λ (v : ℕ). v + 1) zero_sum ∙ ap (λ (b : Bool). bit (is_some (if b then Some (copy_of n i (oldest n a i c)) else ending n a c i))) (sym p)
      by false p ih =
          ap (λ (b : Bool). ends_sum c i + bit b) p ∙ (let e : ends_sum c i + 0 ≡ ends_sum c i = omega arith in e) ∙ ih ∙ ap (λ (b : Bool). bit (is_some (if b then Some (copy_of n i (oldest n a i c)) else ending n a c i))) (sym p)

  one_more : (b : Bool) (x : ℕ) → (if b then suc x else x) ≡ x + bit b
  one_more true x = omega arith
  one_more false x = omega arith

  closed_more : (c k : ℕ) → closed_sum (suc c) k ≡ closed_sum c k + ends_sum c k
  unfolding closed_sum ends_sum
  closed_more c zero = refl
  closed_more c (suc i) = omega (arith, closed_more c i, closed_next front i c, one_more (closes n a i c) (windows_at n a i c).closed)

  length_visit : (o : Option ℕ) (c : ℕ) (of : ℕ → List Row) (rest : List (ℕ × List Row)) → length (with_visit o c of rest) ≡ bit (is_some o) + length rest
  length_visit None c of rest = omega arith
  length_visit (Some k) c of rest = omega arith

  visits_count : (m c : ℕ) → closed_sum c count + length (visits (who front) ins (suc c) m) ≡ closed_sum (c + m) count
  visits_count zero c = let e : c ≡ c + zero = omega arith in omega (arith, ap (λ (v : ℕ). closed_sum v count) e)
  visits_count (suc m) c =
      let e : suc c + m ≡ c + suc m = omega arith in
      omega (arith, visits_count m (suc c), closed_more c count, ends_one c count (omega arith), length_visit (who front (suc c)) (suc c) (λ k. stream (ins k) (suc c)) (visits (who front) ins (suc (suc c)) m), ap (λ (v : ℕ). closed_sum v count) e)

  -- ---- windows that are opened

  none_before : (c i : ℕ) (r : Row) → i < count → comes n a i c ≡ Some r → (k : ℕ) → k ≤ i → came_sum c k ≡ 0
  unfolding came_sum
  none_before c i r l p zero g = refl
  none_before c i r l p (suc j) g = omega (arith, none_before c i r l p j (omega (arith, g)), ap (λ (o : Option Row). bit (is_some o)) (none (comes n a j c) refl))
    where
      none : (o : Option Row) → comes n a j c ≡ o → comes n a j c ≡ None
      none None q = q
      none (Some r') q = absurd (let e = one_slot front j i c r' r q p in omega (arith, e, g))

  came_one : (c k : ℕ) → k ≤ count → came_sum c k ≤ 1
  unfolding came_sum
  came_one c zero l = omega arith
  came_one c (suc i) l = by (comes n a i c) refl (came_one c i (omega (arith, l)))
    where
      by : (o : Option Row) → comes n a i c ≡ o → came_sum c i ≤ 1 → came_sum c i + bit (is_some (comes n a i c)) ≤ 1
      by None p ih = omega (arith, ih, ap (λ (o : Option Row). bit (is_some o)) p)
      by (Some r) p ih = omega (arith, none_before c i r (omega (arith, l)) p i (omega arith), ap (λ (o : Option Row). bit (is_some o)) p)

  came_none : (c k : ℕ) → a.tuple c ≡ None → came_sum c k ≡ 0
  unfolding came_sum
  came_none c zero e = refl
  came_none c (suc i) e = omega (arith, came_none c i e, ap (λ (o : Option Row). bit (is_some o)) (nothing i))
    where
      nothing : (i : ℕ) → comes n a i c ≡ None
      nothing i = ap (λ (o : Option Row). of_slot front.n.key (keys front c) i o) e

  came_few : (c : ℕ) → came_sum c count ≤ length (option_to_list (a.tuple c))
  came_few c = by (a.tuple c) refl
    where
      by : (o : Option Row) → a.tuple c ≡ o → came_sum c count ≤ length (option_to_list (a.tuple c))
      by None e = omega (arith, came_none c count e)
      by (Some r) e = omega (arith, came_one c count (omega arith), ap (λ (o : Option Row). length (option_to_list o)) e)

  opening_more : (o : Option Row) (s : Windows) → (opening front.n.advance copies o s).opened ≤ s.opened + bit (is_some o)
  opening_more None s = omega arith
  opening_more (Some r) s = by (nat_eq s.until 0)
    where
      by : (b : Bool) → (if b then one_opened front.n.advance copies s else record s { until = s.until - 1 }).opened ≤ s.opened + 1
      by true = omega arith
      by false = omega arith

  opening_less : (o : Option Row) (s : Windows) → s.opened ≤ (opening front.n.advance copies o s).opened
  opening_less None s = omega arith
  opening_less (Some r) s = by (nat_eq s.until 0)
    where
      by : (b : Bool) → s.opened ≤ (if b then one_opened front.n.advance copies s else record s { until = s.until - 1 }).opened
      by true = omega arith
      by false = omega arith

  mid_more : (c k : ℕ) → mid_sum c k ≤ opened_sum c k + came_sum c k
  unfolding mid_sum opened_sum came_sum
  mid_more c zero = omega arith
  mid_more c (suc i) = omega (arith, mid_more c i, opening_more (comes n a i c) (windows_at n a i c))

  mid_less : (c k : ℕ) → opened_sum c k ≤ mid_sum c k
  unfolding mid_sum opened_sum
  mid_less c zero = omega arith
  mid_less c (suc i) = omega (arith, mid_less c i, opening_less (comes n a i c) (windows_at n a i c))

  mid_next : (c k : ℕ) → opened_sum (suc c) k ≡ mid_sum c k
  unfolding mid_sum opened_sum
  mid_next c zero = refl
  mid_next c (suc i) = omega (arith, mid_next c i, opened_next front i c)

  room_sum : (c k : ℕ) → k ≤ count → mid_sum c k ≤ closed_sum c k + k * copies
  unfolding mid_sum closed_sum
  room_sum c zero l = omega arith
  room_sum c (suc i) l =
      let more : suc i * copies ≡ i * copies + copies = omega arith in
      omega (arith, room_sum c i (omega (arith, l)), (mid_room front i c (omega (arith, l))).high, mid_closed front i c, more)

  low_sum : (c k : ℕ) → k ≤ count → closed_sum c k ≤ opened_sum c k
  unfolding closed_sum opened_sum
  low_sum c zero l = omega arith
  low_sum c (suc i) l = omega (arith, low_sum c i (omega (arith, l)), own_low front i c (omega (arith, l)))

  opened_rows : (m c : ℕ) → opened_sum (c + m) count ≤ opened_sum c count + length (rows a c m)
  opened_rows zero c = let e : c ≡ c + zero = omega arith in omega (arith, ap (λ (v : ℕ). opened_sum v count) e)
  opened_rows (suc m) c =
      let e : suc c + m ≡ c + suc m = omega arith in
      omega (arith, opened_rows m (suc c), mid_next c count, mid_more c count, came_few c, ap (λ (v : ℕ). opened_sum v count) e, length-append (option_to_list (a.tuple c)) (rows a (suc c) m))

  -- ---- bounds

  -- where no row comes, at most those that are open end
  bound_all : (m x : ℕ) → rows a x m ≡ [] → length (visits (who front) ins (suc x) m) ≤ all front
  bound_all m x none = omega (arith, visits_count m x, low_sum (x + m) count (omega arith), opened_rows m x, mid_less x count, room_sum x count (omega arith), ap length none)

  bound_row : (m x : ℕ) → length (visits (who front) ins (suc x) (suc m)) ≤ all front + length (rows a (suc x) m)
  bound_row m x =
      let e : suc x + m ≡ x + suc m = omega arith in
      omega (arith, visits_count (suc m) x, low_sum (x + suc m) count (omega arith), ap (λ (v : ℕ). opened_sum v count) e, opened_rows m (suc x), mid_next x count, room_sum x count (omega arith))

  -- whether nothing comes any more where a window ends without a row
  Ends : ℕ → ℕ → Type 0
  Ends x m = (y k : ℕ) → x ≤ y → y < x + m → who front (suc y) ≡ Some k → ((r : Row) × (a.tuple y ≡ Some r)) ⊎ ((z : ℕ) → y ≤ z → z < x + m → a.tuple z ≡ None)

  many_by : (m x : ℕ) → Ends x m → length (visits (who front) ins (suc x) m) ≤ max (length (rows a x m)) 1 - 1 + all front
  unfolding Ends
  many_by zero x h = omega arith
  many_by (suc m) x h = by (a.tuple x) refl (who front (suc x)) refl (many_by m (suc x) (λ y k l g w. elim (h y k (omega (arith, l)) (omega (arith, g)) w) [ inl q ↦ inl q | inr q ↦ inr (λ z o p. q z o (omega (arith, p))) ]))
    where
      by : (o : Option Row) → a.tuple x ≡ o → (v : Option ℕ) → who front (suc x) ≡ v → length (visits (who front) ins (suc (suc x)) m) ≤ max (length (rows a (suc x) m)) 1 - 1 + all front
          → length (visits (who front) ins (suc x) (suc m)) ≤ max (length (rows a x (suc m))) 1 - 1 + all front
      by (Some r) p v w ih = omega (arith, bound_row m x, length-append (option_to_list (a.tuple x)) (rows a (suc x) m), ap (λ (o : Option Row). length (option_to_list o)) p)
      by None p None w ih =
          omega (
            arith,
            ih,
            length-append (option_to_list (a.tuple x)) (rows a (suc x) m),
            ap (λ (o : Option Row). length (option_to_list o)) p,
            ap (λ (o : Option ℕ). length (with_visit o (suc x) (λ k. stream (ins k) (suc x)) (visits (who front) ins (suc (suc x)) m))) w,
          )
      by None p (Some k) w ih = elim (h x k (omega arith) (omega arith) w) [
        | inl q ↦ absurd (let z = q.1 in cc (z, p))
        | inr q ↦ (let none = rows-quiet a (suc m) x q in omega (arith, bound_all (suc m) x none, ap length none))
      ]

  -- ---- while no end comes

  few_by : (m x : ℕ) → ((y k : ℕ) → x ≤ y → y < x + m → who front (suc y) ≡ Some k → (r : Row) × (a.tuple y ≡ Some r)) → length (visits (who front) ins (suc x) m) ≤ length (rows a x m)
  few_by zero x h = omega arith
  few_by (suc m) x h = by (a.tuple x) refl (who front (suc x)) refl (few_by m (suc x) (λ y k l g w. h y k (omega (arith, l)) (omega (arith, g)) w))
    where
      by : (o : Option Row) → a.tuple x ≡ o → (v : Option ℕ) → who front (suc x) ≡ v → length (visits (who front) ins (suc (suc x)) m) ≤ length (rows a (suc x) m) → length (visits (who front) ins (suc x) (suc m)) ≤ length (rows a x (suc m))
      by (Some r) p v w ih = omega (arith, ih, length_visit (who front (suc x)) (suc x) (λ k. stream (ins k) (suc x)) (visits (who front) ins (suc (suc x)) m), few (is_some (who front (suc x))), length-append (option_to_list (a.tuple x)) (rows a (suc x) m), ap (λ (o : Option Row). length (option_to_list o)) p)
        where
          few : (b : Bool) → bit b ≤ 1
          few true = omega arith
          few false = omega arith
      by None p None w ih = omega (arith, ih, length_visit (who front (suc x)) (suc x) (λ k. stream (ins k) (suc x)) (visits (who front) ins (suc (suc x)) m), ap (λ (o : Option ℕ). bit (is_some o)) w, length-append (option_to_list (a.tuple x)) (rows a (suc x) m), ap (λ (o : Option Row). length (option_to_list o)) p)
      by None p (Some k) w ih = absurd (let z = (h x k (omega arith) (omega arith) w).1 in cc (z, p))

  -- a turn is in a flush that is not over
  turn_in : (i c x : ℕ) → i < count → (t : Turn front i c) → Rested (flush front) a x → x ≤ c → x ≤ t.u
  turn_in i c x there t rest l = elim (cases_lt t.u x) [
    | inl g ↦ absurd (let z = rest.over t.u t.end g in let w = turn_early front i c there t in let more : flush front ≡ all front * stride + stride = omega arith in omega (arith, z, w, t.time, l, more))
    | inr g ↦ g
  ]

  turn_past : (i c : ℕ) → (t : Turn front i c) → t.u < c
  turn_past i c t = let one : 1 * stride ≤ t.turn * stride = mul-le-mul_right stride (omega (arith, t.low)) in omega (arith, one, t.time, front.stride_some)

  pub few_windows : (x m : ℕ) → Rested (flush front) a x → NoEnd a x (x + m) → length (visits (who front) ins (suc x) m) ≤ length (rows a x m)
  few_windows x m rest quiet = few_by m x (λ y k l g w. let v = visit_from front y k w in why y v.0 l g v.1 (source front v.0 y v.1 v.2))
    where
      why : (y i : ℕ) → x ≤ y → y < x + m → i < count → Source front i y → (r : Row) × (a.tuple y ≡ Some r)
      why y i l g there (comes' r e) = (r, (comes_tuple front i y r e).0)
      why y i l g there (in_turn t) = absurd (let z = quiet.none t.u (turn_in i y x there t rest l) (omega (arith, turn_past i y t, g)) in let w = t.end in cc (z, w))

  pub many_windows : (x u m : ℕ) → Rested (flush front) a x → x ≤ u → u < x + m → NoEnd a x u → a.ends u ≡ true → ((y : ℕ) → u < y → y < x + m → Carries a y → ⊥)
      → length (visits (who front) ins (suc x) m) ≤ max (length (rows a x (suc (u - x)))) 1 - 1 + all front
  unfolding Ends
  many_windows x u m rest l g quiet e still =
      let at : suc (u - x) + (x + m - suc u) ≡ m = omega (arith, l, g) in
      let none : rows a (x + suc (u - x)) (x + m - suc u) ≡ [] = rows-quiet a (x + m - suc u) (x + suc (u - x)) (λ k o p. silent k (omega (arith, o, l)) (omega (arith, p, l, g)) (a.tuple k) refl) in
      let same : rows a x m ≡ rows a x (suc (u - x)) = ap (λ (v : ℕ). rows a x v) (sym at) ∙ rows-split a (suc (u - x)) (x + m - suc u) x ∙ ap (λ z. rows a x (suc (u - x)) ++ z) none ∙ append-nil _ in
      omega (arith, many_by m x ends, ap length same)
    where
      silent : (k : ℕ) → u < k → k < x + m → (o : Option Row) → a.tuple k ≡ o → a.tuple k ≡ None
      silent k o p None q = q
      silent k o p (Some r) q = absurd (still k o p (a_tuple r q))

      why : (y i : ℕ) → x ≤ y → y < x + m → i < count → Source front i y → ((r : Row) × (a.tuple y ≡ Some r)) ⊎ ((z : ℕ) → y ≤ z → z < x + m → a.tuple z ≡ None)
      why y i o p there (comes' r f) = inl (r, (comes_tuple front i y r f).0)
      why y i o p there (in_turn t) = inr (λ z v w. silent z (omega (arith, same, turn_past i y t, v)) w (a.tuple z) refl)
        where
          same : t.u ≡ u
          same = elim (cases_lt t.u u) [
            | inl k ↦ absurd (let z = quiet.none t.u (turn_in i y x there t rest o) k in let w = t.end in cc (z, w))
            | inr k ↦ elim (cases_lt u t.u) [ inl j ↦ absurd (still t.u j (omega (arith, turn_past i y t, p)) (an_end t.end)) | inr j ↦ omega (arith, k, j) ]
          ]

      ends : Ends x m
      ends y k o p w = let v = visit_from front y k w in why y v.0 o p v.1 (source front v.0 y v.1 v.2)
