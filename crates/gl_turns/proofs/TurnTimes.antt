-- Over beats that keep the gap, the rows of a beat come on the left side, then on the right, and then come those of the next beat.
use Rattle.std.proofs.Common.{◌≡◌, ℕ, ◌+◌, ◌-◌, ◌<◌, ◌≤◌, Some, Bool, true, false, arith, inl, inr}
use Rattle.std.proofs.lemmas.Bool.{cases_lt, cases_order}
use Rattle.gl_algebra.specs.declared.figures.Figures.{Figures}
use Rattle.gl_algebra.specs.FigureTable.{IsSound}
use Rattle.gl_wire.specs.Beats.{Beats, Spaced, last}
use Rattle.gl_wire.specs.Serves.{Caused, EndCaused}
use Rattle.gl_turns.specs.Dates.{beat_of}
use Rattle.gl_turns.specs.TurnFigures.{in_turn}
use Rattle.gl_turns.proofs.DateLemmas.{last_is}

-- an end comes in an interval too
pub of_end : (f : Figures) (beats : Beats) (c : ℕ) → EndCaused f beats c → Caused f beats c
of_end f beats c x = record { beat = x.beat; end = true; is = x.is; low = x.low; high = x.high }

module _ (p q : Figures) (beats : Beats) (sound_p : IsSound p) (sound_q : IsSound q) (behind : p.le + 1 ≡ q.a) (spaced : Spaced (in_turn p q) beats) where
  pub first_before : p.a < q.a
  first_before = omega (arith, behind, sound_p.tuples_last, sound_p.end_last)

  pub left_before : (e : Bool) → last p e < q.a
  left_before true = omega (arith, behind)
  left_before false = omega (arith, behind, sound_p.end_last)

  pub right_some : (e : Bool) → q.a ≤ last q e
  right_some true = omega (arith, sound_q.tuples_last, sound_q.end_last)
  right_some false = sound_q.tuples_last

  pub left_most : (e : Bool) → last p e ≤ p.le
  left_most true = omega arith
  left_most false = sound_p.end_last

  -- the rows of a beat have come before those of the next one come
  pub apart : (t u : ℕ) (e d : Bool) → beats t ≡ Some e → beats u ≡ Some d → t < u → t + last q e < u + p.a
  apart t u true d h k l = let far = spaced.apart t u true d h k l in let some = right_some true in omega (arith, far, some, first_before)
  apart t u false d h k l = let far = spaced.apart t u false d h k l in let some = right_some false in omega (arith, far, some, first_before)

  -- ---- the beat of a cycle

  pub left_beat : (c : ℕ) → (x : Caused p beats c) → beat_of p.a beats c ≡ x.beat
  left_beat c x =
      let low = x.low in
      let high = x.high in
      let less = left_before x.end in
      let some = right_some x.end in
      last_is beats x.beat x.end x.is (c - p.a) (omega (arith, low)) (λ u d h l m. let far = apart x.beat u x.end d x.is h l in omega (arith, far, low, high, less, some, m))

  pub right_beat : (c : ℕ) → (y : Caused q beats c) → beat_of q.a beats c ≡ y.beat
  right_beat c y =
      let low = y.low in
      let high = y.high in
      last_is beats y.beat y.end y.is (c - q.a) (omega (arith, low)) (λ u d h l m. let far = apart y.beat u y.end d y.is h l in omega (arith, far, low, high, m, first_before))

  -- the same, seen from where the left side's intervals begin
  pub right_beat_too : (c : ℕ) → (y : Caused q beats c) → beat_of p.a beats c ≡ y.beat
  right_beat_too c y =
      let low = y.low in
      let high = y.high in
      last_is beats y.beat y.end y.is (c - p.a) (omega (arith, low, first_before))
      (λ u d h l m. let far = apart y.beat u y.end d y.is h l in omega (arith, far, low, high, m, first_before))

  -- ---- what comes before what

  pub never_both : (c : ℕ) → Caused p beats c → Caused q beats c → ⊥
  never_both c x y =
      let high = x.high in
      let low = y.low in
      let less = left_before x.end in
      let some = right_some x.end in
      elim (cases_order x.beat y.beat) [
        | inl e ↦ omega (arith, high, low, less, e)
        | inr (inl l) ↦ (let far = apart x.beat y.beat x.end y.end x.is y.is l in omega (arith, far, high, low, less, some, first_before))
        | inr (inr l) ↦ (let far = apart y.beat x.beat y.end x.end y.is x.is l in let begun = x.low in let over = y.high in omega (arith, far, begun, over))
      ]

  -- a right row that comes before a left one is of an earlier beat
  pub right_earlier : (k c : ℕ) → k < c → (y : Caused q beats k) → (x : Caused p beats c) → y.beat < x.beat
  right_earlier k c less y x =
      let low = y.low in
      let high = x.high in
      let over = left_before x.end in
      let some = right_some x.end in
      elim (cases_lt y.beat x.beat) [
        | inl l ↦ l
        | inr l ↦ absurd (elim (cases_lt x.beat y.beat) [
          | inl m ↦ (let far = apart x.beat y.beat x.end y.end x.is y.is m in omega (arith, far, low, high, over, some, less, first_before))
          | inr m ↦ omega (arith, l, m, low, high, over, less)
        ])
      ]

  -- a left row that comes before a right one is of no later beat
  pub left_no_later : (k c : ℕ) → k < c → (x : Caused p beats k) → (y : Caused q beats c) → x.beat ≤ y.beat
  left_no_later k c less x y = elim (cases_lt y.beat x.beat) [
    | inl l ↦ absurd (let far = apart y.beat x.beat y.end x.end y.is x.is l in let low = x.low in let high = y.high in omega (arith, far, low, high, less))
    | inr l ↦ l
  ]
