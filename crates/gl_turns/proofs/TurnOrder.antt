-- Sides that take turns: what has left since the last end is what came on both, in the order of arrival.
use Rattle.std.proofs.Common.{◌≡◌, ℕ, zero, suc, ◌+◌, ◌-◌, ◌<◌, ◌≤◌, List, [], ◌∷◌, ◌++◌, Option, Some, None, Bool, true, false, refl, sym, ap, ◌∙◌, arith, inl, inr}
use Rattle.std.specs.Prelude.{if◌then◌else◌, map, option_to_list}
use Rattle.std.specs.List.{AllByRecursion}
use Rattle.std.proofs.lemmas.Bool.{cases_lt, cases_order, false_from_ne_true}
use Rattle.std.proofs.lemmas.List.{append-nil}
use Rattle.gl_algebra.specs.declared.figures.Figures.{Figures}
use Rattle.gl_algebra.specs.FigureTable.{IsSound}
use Rattle.gl_values.specs.Results.{Row}
use Rattle.gl_wire.specs.Beats.{Beats, Spaced, last}
use Rattle.gl_wire.specs.Serves.{Caused, Fits, HasEnd}
use Rattle.gl_wire.specs.Wire.{Carried}
use Rattle.gl_wire.proofs.SideLemmas.{none_unless}
use Rattle.gl_queue.specs.Merging.{first_of}
use Rattle.gl_arrival.specs.Places.{Placed, at_place}
use Rattle.gl_arrival.specs.Arrival.{by_arrival}
use Rattle.gl_arrival.proofs.OrderLemmas.{first_goes_last, second_goes_last}
use Rattle.gl_turns.specs.Dates.{beat_of, pending_at_beats, row_at_beat, stream_at_beats}
use Rattle.gl_turns.specs.TurnFigures.{in_turn}
use Rattle.gl_turns.specs.Turns.{together}
use Rattle.gl_turns.proofs.DateLemmas.{all_pending, row_none}
use Rattle.gl_turns.proofs.TurnTimes as times

-- the left side's rows, with the right side's ends
abbrev pub left_until : Carried → Carried → Carried
left_until a b = record { tuple = a.tuple; ends = b.ends }

module _ (p q : Figures) (a b : Carried) (beats : Beats) (sound_p : IsSound p) (sound_q : IsSound q) (behind : p.le + 1 ≡ q.a) (spaced : Spaced (in_turn p q) beats)
    (fits_a : Fits p beats a) (fits_b : Fits q beats b) where
  apart : (t u : ℕ) (e d : Bool) → beats t ≡ Some e → beats u ≡ Some d → t < u → t + last q e < u + p.a
  apart = times.apart p q beats sound_p sound_q behind spaced

  first_before : p.a < q.a
  first_before = times.first_before p q beats sound_p sound_q behind spaced

  left_before : (e : Bool) → last p e < q.a
  left_before = times.left_before p q beats sound_p sound_q behind spaced

  right_some : (e : Bool) → q.a ≤ last q e
  right_some = times.right_some p q beats sound_p sound_q behind spaced

  left_most : (e : Bool) → last p e ≤ p.le
  left_most = times.left_most p q beats sound_p sound_q behind spaced

  -- the left side's rows since the right side's last end, the right side's, and what has left
  abbrev lefts : ℕ → List (Placed Row)
  lefts c = pending_at_beats p.a beats (left_until a b) c

  abbrev rights : ℕ → List (Placed Row)
  rights c = pending_at_beats q.a beats b c

  abbrev boths : ℕ → List (Placed Row)
  boths c = pending_at_beats p.a beats (together a b) c

  -- a row of a cycle of either side, where there is one, at its beat
  abbrev left_row : ℕ → Option Row → List (Placed Row)
  left_row c o = map (λ (r : Row). at_place r (beat_of p.a beats c)) (option_to_list o)

  abbrev right_row : ℕ → Option Row → List (Placed Row)
  right_row c o = map (λ (r : Row). at_place r (beat_of q.a beats c)) (option_to_list o)

  -- ---- a row more

  right_rows_earlier : (c : ℕ) (r : Row) → a.tuple c ≡ Some r → AllByRecursion (λ (y : Placed Row). y.place < beat_of p.a beats c) (pending_at_beats q.a beats b c)
  right_rows_earlier c r e =
      all_pending q.a beats b (λ (y : Placed Row). y.place < beat_of p.a beats c) c
      (λ k t l g. let x = fits_a.tuples c r e in let y = fits_b.tuples k t g in
      let less = times.right_earlier p q beats sound_p sound_q behind spaced k c l y x in
      let own = times.right_beat p q beats sound_p sound_q behind spaced k y in
      let its = times.left_beat p q beats sound_p sound_q behind spaced c x in
      let z : beat_of q.a beats k < beat_of p.a beats c = omega (arith, less, own, its) in z)

  left_rows_no_later : (c : ℕ) (r : Row) → b.tuple c ≡ Some r → AllByRecursion (λ (x : Placed Row). x.place ≤ beat_of q.a beats c) (pending_at_beats p.a beats (left_until a b) c)
  left_rows_no_later c r e =
      all_pending p.a beats (left_until a b) (λ (x : Placed Row). x.place ≤ beat_of q.a beats c) c
      (λ k t l g. let x = fits_a.tuples k t g in let y = fits_b.tuples c r e in
      let less = times.left_no_later p q beats sound_p sound_q behind spaced k c l x y in
      let own = times.left_beat p q beats sound_p sound_q behind spaced k x in
      let its = times.right_beat p q beats sound_p sound_q behind spaced c y in
      let z : beat_of p.a beats k ≤ beat_of q.a beats c = omega (arith, less, own, its) in z)

  same_date : (c : ℕ) (r : Row) → b.tuple c ≡ Some r → beat_of p.a beats c ≡ beat_of q.a beats c
  same_date c r e =
      let y = fits_b.tuples c r e in
      times.right_beat_too p q beats sound_p sound_q behind spaced c y ∙ sym (times.right_beat p q beats sound_p sound_q behind spaced c y)

  step : (c : ℕ) → pending_at_beats p.a beats (together a b) c ≡ by_arrival (pending_at_beats p.a beats (left_until a b) c) (pending_at_beats q.a beats b c)
      → stream_at_beats p.a beats (together a b) c ≡ by_arrival (stream_at_beats p.a beats (left_until a b) c) (stream_at_beats q.a beats b c)
  step c h = by (a.tuple c) (b.tuple c) refl refl
    where
      by : (l r : Option Row) → a.tuple c ≡ l → b.tuple c ≡ r → boths c ++ left_row c (first_of l r) ≡ by_arrival (lefts c ++ left_row c l) (rights c ++ right_row c r)
      by None None e d = append-nil (boths c) ∙ h ∙ sym (ap (λ l. by_arrival l (rights c ++ [])) (append-nil (lefts c)) ∙ ap (by_arrival (lefts c)) (append-nil (rights c)))
      by (Some r) None e d =
          let x : Placed Row = at_place r (beat_of p.a beats c) in
          ap (λ l. l ++ x ∷ []) h ∙ sym (first_goes_last (lefts c) (rights c) x (right_rows_earlier c r e)) ∙ sym (ap (by_arrival (lefts c ++ x ∷ [])) (append-nil (rights c)))
      by None (Some r) e d =
          let y : Placed Row = at_place r (beat_of q.a beats c) in
          ap (λ l. l ++ at_place r (beat_of p.a beats c) ∷ []) h ∙ ap (λ (n : ℕ). by_arrival (lefts c) (rights c) ++ at_place r n ∷ []) (same_date c r d)
          ∙ sym (second_goes_last (lefts c) (rights c) y (left_rows_no_later c r d)) ∙ sym (ap (λ l. by_arrival l (rights c ++ y ∷ [])) (append-nil (lefts c)))
      by (Some r) (Some t) e d = absurd (times.never_both p q beats sound_p sound_q behind spaced c (fits_a.tuples c r e) (fits_b.tuples c t d))

  merged : (c : ℕ) → pending_at_beats p.a beats (together a b) c ≡ by_arrival (pending_at_beats p.a beats (left_until a b) c) (pending_at_beats q.a beats b c)
  merged zero = refl
  merged (suc c) = by (b.ends c) (step c (merged c))
    where
      by : (e : Bool) → stream_at_beats p.a beats (together a b) c ≡ by_arrival (stream_at_beats p.a beats (left_until a b) c) (stream_at_beats q.a beats b c)
          → (if e then [] else stream_at_beats p.a beats (together a b) c) ≡ by_arrival (if e then [] else stream_at_beats p.a beats (left_until a b) c) (if e then [] else stream_at_beats q.a beats b c)
      by true h = refl
      by false h = h

  -- ---- behind the left side's end

  -- no left row comes before the beat's interval is over
  pub no_row_after : (t d k : ℕ) → beats t ≡ Some true → HasEnd p a t d → d < k → k ≤ t + q.le → a.tuple k ≡ None
  no_row_after t d k h i l m = none_unless (a.tuple k) (λ r e. by r e (fits_a.tuples k r e))
    where
      by : (r : Row) → a.tuple k ≡ Some r → Caused p beats k → ⊥
      by r e x =
          let high = x.high in
          let low = i.low in
          let less = left_before x.end in
          let some = right_some x.end in
          let most = left_most x.end in
          elim (cases_order x.beat t) [
            | inl same ↦ (let o = fits_a.end t h in let at = o.only d i in let none = o.after k (omega (arith, at, l)) (omega (arith, high, most, same)) in cc (none, e))
            | inr (inl before) ↦ (let far = apart x.beat t x.end true x.is h before in omega (arith, far, high, less, some, low, l))
            | inr (inr after) ↦ (let far = apart t x.beat true x.end h x.is after in let begun = x.low in omega (arith, far, begun, m))
          ]

  quiet_from : (t d n : ℕ) → beats t ≡ Some true → HasEnd p a t d → suc d + n ≤ t + q.le + 1 → pending_at_beats p.a beats a (suc d + n) ≡ []
  quiet_from t d zero h i l =
      let e : suc d + zero ≡ suc d = omega arith in
      ap (pending_at_beats p.a beats a) e ∙ ap (λ (x : Bool). if x then [] else stream_at_beats p.a beats a d) i.is
  quiet_from t d (suc n) h i l =
      let e : suc d + suc n ≡ suc (suc d + n) = omega arith in
      ap (pending_at_beats p.a beats a) e
      ∙ by (a.ends (suc d + n)) (quiet_from t d n h i (omega (arith, l))) (row_none p.a beats a (suc d + n) (no_row_after t d (suc d + n) h i (omega arith) (omega (arith, l))))
    where
      by : (e : Bool) → pending_at_beats p.a beats a (suc d + n) ≡ [] → row_at_beat p.a beats a (suc d + n) ≡ [] → (if e then [] else stream_at_beats p.a beats a (suc d + n)) ≡ []
      by true g k = refl
      by false g k = ap (λ u. u ++ row_at_beat p.a beats a (suc d + n)) g ∙ k

  -- no end of the left side waits for the right side's before this cycle
  abbrev NoneOpen : ℕ → Type 0
  NoneOpen c = (t d e : ℕ) → beats t ≡ Some true → HasEnd p a t d → HasEnd q b t e → d < c → c ≤ e → ⊥

  -- then the left side's rows since its own end are those since the right side's
  same_pending : (c : ℕ) → NoneOpen c → pending_at_beats p.a beats (left_until a b) c ≡ pending_at_beats p.a beats a c
  same_pending zero n = refl
  same_pending (suc c) n = by (a.ends c) (b.ends c) refl refl (same_pending c)
    where
      both_end : b.ends c ≡ true → [] ≡ stream_at_beats p.a beats a c
      both_end d =
          let y = fits_b.ends c d in
          let o = fits_a.end y.beat y.is in
          let high = o.here.high in
          let low = y.low in
          let over = y.high in
          let less : o.at < c = omega (arith, high, low, behind) in
          let e : suc o.at + (c - suc o.at) ≡ c = omega (arith, less) in
          sym (ap (λ l. l ++ row_at_beat p.a beats a c) (ap (pending_at_beats p.a beats a) (sym e) ∙ quiet_from y.beat o.at (c - suc o.at) y.is o.here (omega (arith, e, over)))
          ∙ row_none p.a beats a c (no_row_after y.beat o.at c y.is o.here less over))

      by : (l r : Bool) → a.ends c ≡ l → b.ends c ≡ r → (NoneOpen c → lefts c ≡ pending_at_beats p.a beats a c)
          → (if r then [] else lefts c ++ row_at_beat p.a beats a c) ≡ (if l then [] else stream_at_beats p.a beats a c)
      by true r e d on = absurd (
          let x = fits_a.ends c e in
          let o = fits_b.end x.beat x.is in
          let low = o.here.low in
          let high = x.high in
          n x.beat c o.at x.is (record { is = e; low = x.low; high = x.high }) o.here (omega arith) (omega (arith, low, high, behind)))
      by false true e d on = both_end d
      by false false e d on =
          ap (λ l. l ++ row_at_beat p.a beats a c) (on (λ t i j h g k l m. elim (cases_lt c j) [
            | inl x ↦ n t i j h g k (omega (arith, l)) (omega (arith, x))
            | inr x ↦ (let same : j ≡ c = omega (arith, x, m) in let is : b.ends c ≡ true = ap b.ends (sym same) ∙ k.is in cc (is, d))
          ]))

  none_open_at : (t d : ℕ) → beats t ≡ Some true → HasEnd p a t d → NoneOpen d
  none_open_at t d h i u c e k j g l m =
      let low = i.low in
      let high = i.high in
      let low_u = j.low in
      let high_u = j.high in
      let over = g.high in
      let some = right_some true in
      elim (cases_order u t) [
        | inl same ↦ (let o = fits_a.end t h in let x = o.only d i in
            let y = o.only c (record { is = j.is; low = omega (arith, low_u, same); high = omega (arith, high_u, same) }) in omega (arith, x, y, l))
        | inr (inl before) ↦ (let far = apart u t true true k h before in omega (arith, far, low, over, m))
        | inr (inr after) ↦ (let far = apart t u true true h k after in omega (arith, far, high, low_u, l, behind, some))
      ]

  -- no end of the right side comes before the beat's own
  no_end_between : (t d e k : ℕ) → beats t ≡ Some true → HasEnd p a t d → HasEnd q b t e → d ≤ k → k < e → b.ends k ≡ false
  no_end_between t d e k h i j l m = false_from_ne_true (b.ends k) (λ g.
      let y = fits_b.ends k g in
      let low = i.low in
      let over = j.high in
      let begun = y.low in
      let high = y.high in
      elim (cases_order y.beat t) [
        | inl same ↦ (let o = fits_b.end t h in let x = o.only e j in
            let z = o.only k (record { is = g; low = omega (arith, begun, same); high = omega (arith, high, same) }) in omega (arith, x, z, m))
        | inr (inl before) ↦ (let far = apart y.beat t true true y.is h before in omega (arith, far, low, high, l))
        | inr (inr after) ↦ (let far = apart t y.beat true true h y.is after in omega (arith, far, over, begun, m, first_before))
      ])

  grown : (t d e n : ℕ) → beats t ≡ Some true → HasEnd p a t d → HasEnd q b t e → suc d + n ≤ e → pending_at_beats p.a beats (left_until a b) (suc d + n) ≡ stream_at_beats p.a beats a d
  grown t d e zero h i j l =
      let z : suc d + zero ≡ suc d = omega arith in
      ap (pending_at_beats p.a beats (left_until a b)) z
      ∙ ap (λ (x : Bool). if x then [] else stream_at_beats p.a beats (left_until a b) d) (no_end_between t d e d h i j (omega arith) (omega (arith, l)))
      ∙ ap (λ u. u ++ row_at_beat p.a beats a d) (same_pending d (none_open_at t d h i))
  grown t d e (suc n) h i j l =
      let z : suc d + suc n ≡ suc (suc d + n) = omega arith in
      let over = j.high in
      ap (pending_at_beats p.a beats (left_until a b)) z
      ∙ ap (λ (x : Bool). if x then [] else stream_at_beats p.a beats (left_until a b) (suc d + n)) (no_end_between t d e (suc d + n) h i j (omega arith) (omega (arith, l)))
      ∙ ap (λ u. pending_at_beats p.a beats (left_until a b) (suc d + n) ++ u) (row_none p.a beats a (suc d + n) (no_row_after t d (suc d + n) h i (omega arith) (omega (arith, l, over))))
      ∙ append-nil (pending_at_beats p.a beats (left_until a b) (suc d + n)) ∙ grown t d e n h i j (omega (arith, l))

  left_stream : (t d e : ℕ) → beats t ≡ Some true → HasEnd p a t d → HasEnd q b t e → stream_at_beats p.a beats (left_until a b) e ≡ stream_at_beats p.a beats a d
  left_stream t d e h i j =
      let high = i.high in
      let low = j.low in
      let over = j.high in
      let less : d < e = omega (arith, high, low, behind) in
      let z : suc d + (e - suc d) ≡ e = omega (arith, less) in
      ap (λ u. pending_at_beats p.a beats (left_until a b) e ++ u) (row_none p.a beats a e (no_row_after t d e h i less over))
      ∙ append-nil (pending_at_beats p.a beats (left_until a b) e)
      ∙ ap (pending_at_beats p.a beats (left_until a b)) (sym z) ∙ grown t d e (e - suc d) h i j (omega (arith, z))

  -- what came for a beat with the end
  pub in_order_at : (t d e : ℕ) → beats t ≡ Some true → HasEnd p a t d → HasEnd q b t e → stream_at_beats p.a beats (together a b) e ≡ by_arrival (stream_at_beats p.a beats a d) (stream_at_beats q.a beats b e)
  in_order_at t d e h i j = step e (merged e) ∙ ap (λ l. by_arrival l (stream_at_beats q.a beats b e)) (left_stream t d e h i j)
