-- The machine of windows over one stream and over more copies than can be open at once: it schedules the visits of its copies.
use Rattle.std.proofs.Common.{◌≡◌, ℕ, zero, suc, ◌+◌, ◌-◌, ◌*◌, ◌%◌, ◌<◌, ◌≤◌, List, [], ◌++◌, length, map, Option, Some, None, Bool, true, false, ◌&&◌, refl, sym, ap, ◌∙◌, subst, arith, inl, inr, mul-le-mul_right, length-append}
use Rattle.std.specs.Prelude.{option_to_list, if◌then◌else◌, nat_eq}
use Rattle.std.proofs.lemmas.Bool.{cases_lt, eqb-true, and_parts}
use Rattle.gl_values.specs.Lists.{slices}
use Rattle.gl_values.specs.Results.{Row}
use Rattle.gl_algebra.specs.declared.figures.Figures.{Figures}
use Rattle.gl_wire.specs.Apart.{Carries, a_tuple, an_end}
use Rattle.gl_wire.specs.Wire.{pending, stream, rows}
use Rattle.gl_wire.proofs.RowsLemmas.{pending-rows}
use Rattle.gl_wire.specs.Lift.{Visits, Schedules, visits}
use Rattle.gl_wire.specs.Timed.{Begins, at_first, after_end}
use Rattle.gl_wire.proofs.NumberLemmas.{mul_below}
use Rattle.gl_windows.specs.Front.{Front, opening, one_opened, one_nearer, closing, taken, next, states, mid, closes, oldest, who_ends}
use Rattle.gl_windows.proofs.Setting.{Setting}
use Rattle.gl_windows.proofs.SliceLemmas.{mod_apart, mod_hits}
use Rattle.gl_windows.proofs.CopyLemmas.{Step, step_at, within, of_visit}
use Rattle.gl_windows.proofs.FlowLemmas.{Flowing, flow_mid}
use Rattle.gl_windows.proofs.FlushLemmas.{Flushing}
use Rattle.gl_windows.proofs.PhaseLemmas.{first_flow, flowing, flowing_end, flushing, closed_visits, closed_next, opening_closed, visited, empty_copies}
use Rattle.gl_windows.proofs.SourceLemmas.{Source, comes, in_turn, source, visit_source, tuple_source}
use Rattle.gl_spare.specs.Sources.{OneSource}
use Rattle.gl_wire.proofs.TurnLemmas.{turns_schedule}
use Rattle.gl_spare.proofs.CountLemmas.{number, one_more, grown, tuple_number, spread}

module _ (front : Setting) (gap gap_end u : ℕ) (one : OneSource gap front.stride front.a u) (strides : front.stride ≤ front.advance * gap)
    (covers : front.size ≤ front.count * front.advance) (again : gap_end ≤ (front.count * front.advance - front.size + 1) * gap) where
  open front use {size, advance, count, most, stride, a, ins}

  abbrev who : Visits
  who = who_ends size advance count stride a

  abbrev st : ℕ → Front
  st c = states size advance count stride a c

  abbrev md : ℕ → Front
  md c = mid size advance count stride a c

  abbrev ends_now : ℕ → Bool
  ends_now = closes size advance count stride a

  abbrev old : ℕ → ℕ
  old = oldest size advance count stride a

  no_end : (c : ℕ) → c < u → a.ends c ≡ false
  no_end c l = by (a.ends c) refl
    where
      by : (e : Bool) → a.ends c ≡ e → a.ends c ≡ false
      by false p = p
      by true p = absurd (omega (arith, one.only c p, l))

  flow_at : (c : ℕ) → c ≤ u → Flowing front c (st c) 0 0
  flow_at c l =
      let e : 0 + c ≡ c = omega arith in
      subst (λ i. Flowing front i (st i) 0 0) e (flowing front 0 0 0 c (first_flow front) (λ x m n. no_end x (omega (arith, n, l))))

  so_far : (c : ℕ) → c ≤ u → pending a c ≡ rows a 0 c
  so_far c l =
      let e : 0 + c ≡ c = omega arith in
      subst (λ i. pending a i ≡ rows a 0 c) e (pending-rows a c 0 (λ x m n. no_end x (omega (arith, n, l))))

  mid_closed : (c : ℕ) → (md c).closed ≡ (st c).closed
  mid_closed c = opening_closed front (a.tuple c) (st c)

  opening_left : (o : Option Row) (t : Front) → (opening advance count o t).left ≡ t.left
  opening_left None t = refl
  opening_left (Some r) t = by (nat_eq t.until 0)
    where
      by : (x : Bool) → (if x then one_opened advance count t else one_nearer t).left ≡ t.left
      by true = refl
      by false = refl

  closed_grows : (c d : ℕ) → c ≤ d → (st c).closed ≤ (st d).closed
  closed_grows c d l =
      let e : c + (d - c) ≡ d = omega (arith, l) in
      let v = closed_visits front (d - c) c in
      let g = ap (λ i. (st i).closed) e in
      omega (arith, v, g)

  closed_more : (c d : ℕ) → ends_now c ≡ true → c < d → suc (st c).closed ≤ (st d).closed
  closed_more c d p l =
      let n : (st (suc c)).closed ≡ suc (st c).closed = closed_next front c ∙ ap (λ (b : Bool). if b then suc (st c).closed else (st c).closed) p in
      omega (arith, n, closed_grows (suc c) d l)

  -- a window that fills up before the end does so with its last tuple
  record Full (c : ℕ) : Type 0 where
    row : Row
    comes_now : a.tuple c ≡ Some row
    last : number a c + 1 ≡ (st c).closed * advance + size

  last_left : (e : Bool) (o : Option Row) (t : Front) (r : Row) → e ≡ false → o ≡ Some r → closing count e o t ≡ true → t.left ≡ 1
  last_left true o t r p q h = absurd (cc (p))
  last_left false None t r p q h = absurd (cc (q))
  last_left false (Some x) t r p q h = eqb-true t.left 1 (and_parts (nat_eq t.left 1) (t.is_open (t.closed % count)) h).0

  full : (c : ℕ) → ends_now c ≡ true → c < u → Full c
  full c p l = by (source front c p)
    where
      by : Source front c → Full c
      by (comes (an_end e)) = absurd (omega (arith, one.only c e, l))
      by (in_turn k) = absurd (omega (arith, one.only k.u k.end, k.time, l))
      by (comes (a_tuple r e)) =
          let f = flow_at c (omega (arith, l)) in
          let left_one : (st c).left ≡ 1 = sym (opening_left (a.tuple c) (st c)) ∙ last_left (a.ends c) (a.tuple c) (md c) r (no_end c l) e p in
          let n : number a c ≡ length f.xs = ap length (sym (so_far c (omega (arith, l))) ∙ f.is.is) in
          let d : (st c).closed * advance ≡ (0 + f.d) * advance = ap (λ i. i * advance) f.is.closed in
          record { row = r; comes_now = e; last = omega (arith, n, f.is.left, left_one, d) }

  -- windows that are open have begun
  begun_mid : (c w : ℕ) → c ≤ u → w < (md c).opened → w * advance < number a (suc c)
  begun_mid c w l h =
      let f = flow_at c l in
      let m = flow_mid front c (st c) 0 0 f.q f.d f.xs f.is (a.tuple c) in
      let n : number a (suc c) ≡ length (f.xs ++ option_to_list (a.tuple c)) =
      one_more a c (a.tuple c) refl ∙ ap (λ (q : List Row). length q + length (option_to_list (a.tuple c))) (sym (so_far c l) ∙ f.is.is) ∙ sym (length-append f.xs (option_to_list (a.tuple c))) in
      let o = m.1.opened in
      let z : suc w * advance ≤ m.0 * advance = mul-le-mul_right advance (omega (arith, h, o)) in
      omega (arith, z, m.1.until, m.1.less, n)

  open_there : (c : ℕ) (l : c ≤ u) (w : ℕ) → (md c).closed ≤ w → w < (md c).closed + count → (md c).is_open (w % count) ≡ true → w * advance < number a (suc c)
  open_there c l w low high p = elim (cases_lt w (md c).opened) [
    | inl h ↦ begun_mid c w l h
    | inr h ↦
        let f = flow_at c l in
        let m = flow_mid front c (st c) 0 0 f.q f.d f.xs f.is (a.tuple c) in
        absurd (let off = (m.1.copies.off w h high).0 in cc (off, p))
  ]

  ends_open : (e : Bool) (o : Option Row) (t : Front) → closing count e o t ≡ true → t.is_open (t.closed % count) ≡ true
  ends_open true o t h = h
  ends_open false (Some r) t h = (and_parts (nat_eq t.left 1) (t.is_open (t.closed % count)) h).1
  ends_open false None t h = (and_parts (t.flush && nat_eq t.wait 0) (t.is_open (t.closed % count)) h).1

  -- a window that ends has begun
  begun : (c : ℕ) → ends_now c ≡ true → (md c).closed * advance < number a (suc c)
  begun c p = elim (cases_lt u c) [
    | inr l ↦ open_there c l (md c).closed (omega arith) (omega (arith, front.copies_some)) (ends_open (a.ends c) (a.tuple c) (md c) p)
    | inl l ↦ flushed c p l (a.ends c) refl (a.tuple c) refl
  ]
    where
      flushed : (c : ℕ) → ends_now c ≡ true → u < c → (e : Bool) → a.ends c ≡ e → (o : Option Row) → a.tuple c ≡ o → (md c).closed * advance < number a (suc c)
      flushed c p l true q o r = absurd (omega (arith, one.only c q, l))
      flushed c p l false q (Some x) r = absurd (omega (arith, one.until c (a_tuple x r), l))
      flushed c p l false q None r =
          let f0 = flow_at u (omega arith) in
          let step = step_at front u in
          let g0 = end_there u (st u) (a.ends u) (a.tuple u) one.is step f0 in
          let e : suc u + (c - suc u) ≡ c = omega (arith, l) in
          let g : Flushing front c (st c) 0 0 (flow_mid front u (st u) 0 0 f0.q f0.d f0.xs f0.is (a.tuple u)).0 u =
          subst (λ i. Flushing front i (st i) 0 0 (flow_mid front u (st u) 0 0 f0.q f0.d f0.xs f0.is (a.tuple u)).0 u) e
          (flushing front 0 0 (flow_mid front u (st u) 0 0 f0.q f0.d f0.xs f0.is (a.tuple u)).0 u (c - suc u) g0 (λ x m n k. omega (arith, one.until x k, m))) in
          let here : md c ≡ st c = ap (λ o. opening advance count o (st c)) r in
          let on : (st c).is_open ((st c).closed % count) ≡ true = ap (λ (t : Front). t.is_open (t.closed % count)) (sym here) ∙ ends_open (a.ends c) (a.tuple c) (md c) p in
          elim (cases_lt g.d (flow_mid front u (st u) 0 0 f0.q f0.d f0.xs f0.is (a.tuple u)).0) [
            | inr none ↦ absurd (let off = (g.is.copies.off (st c).closed (omega (arith, g.is.opened, g.is.closed, none)) (omega (arith, front.copies_some))).0 in cc (off, on))
            | inl there ↦
                let place = g.is.place g.d there in
                let whole : length (stream a u) ≡ length (g.xs ++ option_to_list (st c).held) = ap length g.is.is in
                let n : number a (suc u) ≡ length (stream a u) =
                one_more a u (a.tuple u) refl ∙ ap (λ (q : List Row). length q + length (option_to_list (a.tuple u))) (sym (so_far u (omega arith))) ∙ sym (length-append (pending a u) (option_to_list (a.tuple u))) in
                let m : (md c).closed * advance ≡ (0 + g.d) * advance = ap (λ i. i * advance) (mid_closed c ∙ g.is.closed) in
                let more = grown a (suc u) (suc c) (omega (arith, l)) in
                omega (arith, place, whole, n, m, more)
          ]
        where
          end_there : (c : ℕ) (s : Front) (e : Bool) (o : Option Row) → e ≡ true → Step front c e o s → (f : Flowing front c s 0 0) → Flushing front (suc c) (next size advance count stride e o s) 0 0 (flow_mid front c s 0 0 f.q f.d f.xs f.is o).0 c
          end_there c s false o p step f = absurd (cc)
          end_there c s true o p step f = flowing_end front c s 0 0 f o step

  -- the window of a copy that takes a tuple without an end
  given : (k c : ℕ) (r : Row) → k < count → (ins k).tuple (suc c) ≡ Some r → (ins k).ends (suc c) ≡ false → (w : ℕ) × (w % count ≡ k) × ((st c).closed ≤ w) × (w * advance < number a (suc c)) × (c < u)
  given k c r l h n =
      let q = tuple_source front k c r l h n in
      let low = one.until c (a_tuple r q.1) in
      let w = mod_hits count (md c).closed k l in
      let on : (md c).is_open k ≡ true = opened (a.ends c) (a.tuple c) (md c) q.0 q.1 (sym (front.law.tuples k c l) ∙ h) in
      let there : (md c).is_open (w.0 % count) ≡ true = ap (λ i. (md c).is_open i) w.3 ∙ on in
      let m = mid_closed c in
      (w.0, w.3, omega (arith, w.1, m), open_there c low w.0 w.1 w.2 there, before c low (a.ends c) refl q.0)
    where
      opened : (e : Bool) (o : Option Row) (t : Front) → e ≡ false → o ≡ Some r → taken count e o t k ≡ Some r → t.is_open k ≡ true
      opened true o t p q g = absurd (cc)
      opened false None t p q g = absurd (cc (q))
      opened false (Some x) t p q g = by (t.is_open k) refl g
        where
          by : (b : Bool) → t.is_open k ≡ b → (if b then Some x else None) ≡ Some r → t.is_open k ≡ true
          by true p g = p
          by false p g = absurd (cc (g))

      before : (c : ℕ) → c ≤ u → (e : Bool) → a.ends c ≡ e → a.ends c ≡ false → c < u
      before c low e p q = elim (cases_lt c u) [ inl x ↦ x | inr x ↦ absurd (let z : c ≡ u = omega (arith, low, x) in let y = ap a.ends z in let w = one.is in cc (y, w, q)) ]

  same_copy : (j w : ℕ) → j < w → j % count ≡ w % count → j + count ≤ w
  same_copy j w l e = elim (cases_lt w (j + count)) [ inl m ↦ absurd (mod_apart count j w l m e) | inr m ↦ m ]

  -- the next window of a copy begins far enough behind the last tuple of the one before
  window_far : (x y w : ℕ) → ends_now x ≡ true → x < u → (st x).closed + count ≤ w → w * advance < number a (suc y) → x + gap_end ≤ y
  window_far x y w p l far there =
      let f = full x p l in
      let z = tuple_number a (suc y) (w * advance) there in
      let n = z.3 in
      let more : ((st x).closed + count) * advance ≤ w * advance = mul-le-mul_right advance far in
      let s = spread a gap one.apart (count * advance - size + 1) x z.0 f.row z.1 f.comes_now z.4 (omega (arith, n, more, f.last, covers)) in
      omega (arith, s, again, z.2)

  -- causes from the end on are turns of its flush
  late_turn : (y : ℕ) → ends_now y ≡ true → u < y → (i : ℕ) × (y ≡ u + i * stride) × (1 ≤ i) × (i < most) × ((md y).closed ≡ (md u).closed + i)
  late_turn y p l = by (source front y p)
    where
      by : Source front y → (i : ℕ) × (y ≡ u + i * stride) × (1 ≤ i) × (i < most) × ((md y).closed ≡ (md u).closed + i)
      by (comes c) = absurd (omega (arith, one.until y c, l))
      by (in_turn k) =
          let e : k.u ≡ u = one.only k.u k.end in
          (k.i, omega (arith, e, k.time), k.once, k.less, k.copy ∙ ap (λ z. (md z).closed + k.i) e)

  in_one : (x y : ℕ) → ends_now x ≡ true → ends_now y ≡ true → x < y → old x ≡ old y → x + gap_end ≤ y
  in_one x y p q l e =
      let m = mid_closed x in
      let n = mid_closed y in
      let grows = closed_more x y p l in
      elim (cases_lt x u) [
        | inl before ↦
            let far = same_copy (md x).closed (md y).closed (omega (arith, m, n, grows)) e in
            window_far x y (md y).closed p before (omega (arith, far, m)) (begun y q)
        | inr after ↦
            let t = late_turn y q (omega (arith, after, l)) in
            let base = mid_closed u in
            let low = closed_grows u x after in
            absurd (mod_apart count (md x).closed (md y).closed (omega (arith, m, n, grows)) (omega (arith, t.3, t.4, base, low, m, front.enough)) e)
      ]

  any : (x y : ℕ) → ends_now x ≡ true → ends_now y ≡ true → x < y → x + stride ≤ y
  any x y p q l = elim (cases_lt x u) [
    | inl before ↦
        let f = full x p before in
        elim (cases_lt y u) [
          | inl m ↦
              let g = full y q m in
              let more : suc (st x).closed * advance ≤ (st y).closed * advance = mul-le-mul_right advance (closed_more x y p l) in
              let s = spread a gap one.apart advance x y f.row g.row f.comes_now g.comes_now (omega (arith, f.last, g.last, more)) in
              omega (arith, s, strides)
          | inr m ↦ (let z = one.before x (a_tuple f.row f.comes_now) before in omega (arith, z, m))
        ]
    | inr after ↦
        let t = late_turn y q (omega (arith, after, l)) in
        elim (cases_lt u x) [
          | inl m ↦
              let s = late_turn x p m in
              let less : s.0 < t.0 = mul_below s.0 t.0 stride (omega (arith, l, s.1, t.1)) in
              let z : suc s.0 * stride ≤ t.0 * stride = mul-le-mul_right stride less in
              omega (arith, z, s.1, t.1)
          | inr m ↦
              let z : 1 * stride ≤ t.0 * stride = mul-le-mul_right stride t.2 in
              omega (arith, z, t.1, m)
        ]
  ]

  then_comes : (k x y : ℕ) (r : Row) → k < count → ends_now x ≡ true → old x ≡ k → (ins k).tuple (suc y) ≡ Some r → (ins k).ends (suc y) ≡ false → x < y → x + gap_end ≤ y
  then_comes k x y r l p e h n m =
      let g = given k y r l h n in
      let at = mid_closed x in
      let low = closed_more x y p m in
      let far = same_copy (md x).closed g.0 (omega (arith, at, low, g.2)) (e ∙ sym g.1) in
      window_far x y g.0 p (omega (arith, m, g.4)) (omega (arith, far, at)) g.3

  comes_then : (x y : ℕ) → Carries a x → a.ends x ≡ false → ends_now y ≡ true → x < y → x + gap ≤ y
  comes_then x y k calm q l = by (source front y q)
    where
      before : x < u
      before = elim (cases_lt x u) [ inl m ↦ m | inr m ↦ absurd (let z : x ≡ u = omega (arith, m, one.until x k) in let e = ap a.ends z in let w = one.is in cc (e, w, calm)) ]

      by : Source front y → x + gap ≤ y
      by (comes c) = one.apart x y k c l
      by (in_turn t) = let e : t.u ≡ u = one.only t.u t.end in let z = one.apart x u k (an_end one.is) before in omega (arith, z, e, t.time)

  pub schedules : (f : Figures) → f.ge ≡ gap_end → f.gt ≤ gap → stride ≡ f.le - f.a + 1 → Schedules f count who ins
  schedules f ge_is gt_near interval = turns_schedule f count who ends_now old a ins (record {
    first = refl;
    next = λ c. refl;
    no_tuple = front.law.no_tuple;
    no_end = front.law.no_end;
    ends = front.law.ends;
    tuples = tuple_source front;
    within = λ c p. within front (md c).closed;
    in_one = λ x y p q m e. let z = in_one x y p q m e in omega (arith, z, ge_is);
    any = λ x y p q m. let z = any x y p q m in omega (arith, z, interval);
    then_comes = λ k x y r l p e h n m. let z = then_comes k x y r l p e h n m in omega (arith, z, ge_is);
    comes_then = λ x y k calm q m. let z = comes_then x y k calm q m in omega (arith, z, gt_near);
    apart = λ x y k j m. let z = one.apart x y k j m in omega (arith, z, gt_near);
  })

  -- all visits end by the last turn
  pub over : (v k : ℕ) → who v ≡ Some k → v < u + (most - 1) * stride + 2
  over zero k h = omega arith
  over (suc x) k h = elim (cases_lt u x) [
    | inr l ↦ omega (arith, l)
    | inl l ↦
        let t = late_turn x (visit_source front x k h).0 l in
        let z : t.0 * stride ≤ (most - 1) * stride = mul-le-mul_right stride (omega (arith, t.3)) in
        omega (arith, z, t.1)
  ]

  -- the visits have the slices of the stream
  pub parted : map of_visit (visits who ins 0 (u + (most - 1) * stride + 2)) ≡ slices size advance (stream a u)
  parted =
      let v = visited front u one.is in
      let e : v.lo ≡ 0 = first v.begins in
      let n : u + (most - 1) * stride + 2 - 0 ≡ u + (most - 1) * stride + 2 = omega arith in
      subst (λ i. map of_visit (visits who ins 0 i) ≡ slices size advance (stream a u)) n
      (subst (λ lo. map of_visit (visits who ins lo (u + (most - 1) * stride + 2 - lo)) ≡ slices size advance (stream a u)) e v.are)
    where
      first : {lo : ℕ} → Begins (most * stride) a lo u → lo ≡ 0
      first (at_first z none) = z
      first (after_end x e l z none) = absurd (omega (arith, one.only x e, l))

  pub empties : (k : ℕ) → k < count → pending (ins k) (u + (most - 1) * stride + 2) ≡ []
  empties k l = empty_copies front u k one.is l

  pub caused : (k c : ℕ) (r : Row) → k < count → (ins k).tuple c ≡ Some r → (ins k).ends c ≡ false → c ≤ u
  caused k zero r l h n = omega arith
  caused k (suc c) r l h n = let g = given k c r l h n in omega (arith, g.4)
