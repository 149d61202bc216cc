-- Sides that take turns, on one wire: it fits the figures of both, begun with the left side and over with the right.
use Rattle.std.proofs.Common.{◌≡◌, ℕ, zero, suc, ◌+◌, ◌-◌, ◌<◌, ◌≤◌, [], ◌++◌, length, Option, Some, None, Bool, true, false, refl, sym, ap, ◌∙◌, arith, inl, inr}
use Rattle.std.specs.Prelude.{option_to_list}
use Rattle.std.proofs.lemmas.Bool.{cases_order}
use Rattle.gl_algebra.specs.declared.figures.Figures.{Figures}
use Rattle.gl_algebra.specs.FigureTable.{IsSound, NoCloser}
use Rattle.gl_values.specs.Results.{Row}
use Rattle.gl_wire.specs.Beats.{Beats, Spaced, last, most}
use Rattle.gl_wire.specs.Serves.{Caused, EndCaused, Fits, HasEnd, OneEnd}
use Rattle.gl_wire.specs.Wire.{Carried, rows}
use Rattle.gl_wire.proofs.RowsLemmas.{rows-quiet, rows-split}
use Rattle.gl_wire.proofs.SideLemmas.{fits_side, none_unless}
use Rattle.gl_queue.specs.Merging.{first_of}
use Rattle.gl_turns.specs.TurnFigures.{in_turn}
use Rattle.gl_turns.specs.Turns.{together}
use Rattle.gl_turns.proofs.TurnOrder.{no_row_after}
use Rattle.gl_turns.proofs.TurnTimes as times

-- both sides on one wire, in the same cycle
abbrev pub together_figures : Figures → Figures → Figures
together_figures p q = record (in_turn p q) { a = p.a; lt = q.lt; le = q.le }

last_of_both : (p q : Figures) (e : Bool) → last (together_figures p q) e ≡ last q e
last_of_both p q true = refl
last_of_both p q false = refl

-- in some cycles both have as many rows as either
fewer_together : (a b : Carried) (n c : ℕ) → length (rows (together a b) c n) ≤ length (rows a c n) + length (rows b c n)
fewer_together a b zero c = omega arith
fewer_together a b (suc n) c = by (a.tuple c) (b.tuple c) (fewer_together a b n (suc c))
  where
    by : (l r : Option Row) → length (rows (together a b) (suc c) n) ≤ length (rows a (suc c) n) + length (rows b (suc c) n)
        → length (option_to_list (first_of l r) ++ rows (together a b) (suc c) n) ≤ length (option_to_list l ++ rows a (suc c) n) + length (option_to_list r ++ rows b (suc c) n)
    by None None h = h
    by (Some x) None h = omega (arith, h)
    by None (Some y) h = omega (arith, h)
    by (Some x) (Some y) h = omega (arith, h)

module _ (p q : Figures) (a b : Carried) (beats : Beats) (sound_p : IsSound p) (sound_q : IsSound q) (behind : p.le + 1 ≡ q.a) (spaced : Spaced (in_turn p q) beats)
    (fits_a : Fits p beats a) (fits_b : Fits q beats b) where
  apart : (t u : ℕ) (e d : Bool) → beats t ≡ Some e → beats u ≡ Some d → t < u → t + last q e < u + p.a
  apart = times.apart p q beats sound_p sound_q behind spaced

  first_before : p.a < q.a
  first_before = times.first_before p q beats sound_p sound_q behind spaced

  left_before : (e : Bool) → last p e < q.a
  left_before = times.left_before p q beats sound_p sound_q behind spaced

  right_some : (e : Bool) → q.a ≤ last q e
  right_some = times.right_some p q beats sound_p sound_q behind spaced

  -- ---- each row in its interval

  of_either : (c : ℕ) (r : Row) (l : Option Row) → a.tuple c ≡ l → first_of l (b.tuple c) ≡ Some r → Caused (together_figures p q) beats c
  of_either c r None d e =
      let y = fits_b.tuples c r e in
      let low = y.low in
      let high = y.high in
      record { beat = y.beat; end = y.end; is = y.is; low = omega (arith, low, first_before); high = (let g = last_of_both p q y.end in omega (arith, high, g)) }
  of_either c r (Some x) d e =
      let y = fits_a.tuples c x d in
      let high = y.high in
      let less = left_before y.end in
      let some = right_some y.end in
      record { beat = y.beat; end = y.end; is = y.is; low = y.low; high = (let g = last_of_both p q y.end in omega (arith, high, less, some, g)) }

  of_right : (c : ℕ) → b.ends c ≡ true → EndCaused (together_figures p q) beats c
  of_right c e =
      let y = fits_b.ends c e in
      let low = y.low in
      record { beat = y.beat; is = y.is; low = omega (arith, low, first_before); high = y.high }

  -- ---- not too many in one

  near : NoCloser p (in_turn p q)
  near = record { gt = omega arith; ge = omega arith }

  few_left : (t : ℕ) (e : Bool) → beats t ≡ Some e → length (rows a (t + p.a) (suc (last q e) - p.a)) ≤ most p e
  few_left t e h =
      let some = right_some e in
      (fits_side p (in_turn p q) beats a sound_p near spaced fits_a).fewer (suc (t + last q e)) t (suc (last q e) - p.a) e
      (record { is = h; low = omega (arith, some, first_before); later = λ u d k l. let far = apart t u e d h k l in omega (arith, far) })
      (omega (arith, some, first_before))

  -- before the right side's interval it brings nothing
  quiet_right : (t k : ℕ) (e : Bool) → beats t ≡ Some e → t + p.a ≤ k → k < t + q.a → b.tuple k ≡ None
  quiet_right t k e h l m = none_unless (b.tuple k) (λ r g. by (fits_b.tuples k r g))
    where
      by : Caused q beats k → ⊥
      by y =
          let low = y.low in
          let high = y.high in
          elim (cases_order y.beat t) [
            | inl same ↦ omega (arith, low, m, same)
            | inr (inl before) ↦ (let far = apart y.beat t y.end e y.is h before in omega (arith, far, high, l))
            | inr (inr after) ↦ (let far = apart t y.beat e y.end h y.is after in let some = right_some e in omega (arith, far, low, m, some, first_before))
          ]

  few_right : (t : ℕ) (e : Bool) → beats t ≡ Some e → length (rows b (t + p.a) (suc (last q e) - p.a)) ≤ most q e
  few_right t e h =
      let some = right_some e in
      let m : ℕ = q.a - p.a in
      let n : ℕ = suc (last q e) - q.a in
      let both : suc (last q e) - p.a ≡ m + n = omega (arith, some, first_before) in
      let at : t + p.a + m ≡ t + q.a = omega (arith, first_before) in
      let none : rows b (t + p.a) m ≡ [] = rows-quiet b m (t + p.a) (λ k l u. quiet_right t k e h l (omega (arith, u, at))) in
      let all : rows b (t + p.a) (suc (last q e) - p.a) ≡ rows b (t + q.a) n =
      ap (rows b (t + p.a)) both ∙ rows-split b m n (t + p.a) ∙ ap (λ l. l ++ rows b (t + p.a + m) n) none ∙ ap (λ k. rows b k n) at in
      let few = fits_b.few t e h in
      let same = ap length all in
      omega (arith, few, same)

  few_both : (t : ℕ) (e : Bool) → beats t ≡ Some e → length (rows (together a b) (t + p.a) (suc (last (together_figures p q) e) - p.a)) ≤ most (together_figures p q) e
  few_both t true h =
      let l : length (rows a (t + p.a) (suc q.le - p.a)) ≤ p.ne = few_left t true h in
      let r : length (rows b (t + p.a) (suc q.le - p.a)) ≤ q.ne = few_right t true h in
      let z = fewer_together a b (suc q.le - p.a) (t + p.a) in
      let all : length (rows (together a b) (t + p.a) (suc q.le - p.a)) ≤ p.ne + q.ne = omega (arith, l, r, z) in
      all
  few_both t false h =
      let l : length (rows a (t + p.a) (suc q.lt - p.a)) ≤ p.nt = few_left t false h in
      let r : length (rows b (t + p.a) (suc q.lt - p.a)) ≤ q.nt = few_right t false h in
      let z = fewer_together a b (suc q.lt - p.a) (t + p.a) in
      let all : length (rows (together a b) (t + p.a) (suc q.lt - p.a)) ≤ p.nt + q.nt = omega (arith, l, r, z) in
      all

  -- ---- the end

  end_low : (t c : ℕ) → beats t ≡ Some true → b.ends c ≡ true → t + p.a ≤ c → c ≤ t + q.le → t + q.a ≤ c
  end_low t c h e l m =
      let y = fits_b.ends c e in
      let low = y.low in
      let high = y.high in
      elim (cases_order y.beat t) [
        | inl same ↦ omega (arith, low, same)
        | inr (inl before) ↦ absurd (let far = apart y.beat t true true y.is h before in omega (arith, far, high, l))
        | inr (inr after) ↦ absurd (let far = apart t y.beat true true h y.is after in omega (arith, far, low, m, first_before))
      ]

  -- it is the right side's
  pub same_end : (t c e : ℕ) → beats t ≡ Some true → HasEnd (together_figures p q) (together a b) t c → HasEnd q b t e → c ≡ e
  same_end t c e h g j =
      let o = fits_b.end t h in
      o.only c (record { is = g.is; low = end_low t c h g.is g.low g.high; high = g.high }) ∙ sym (o.only e j)

  end_of_both : (t : ℕ) → beats t ≡ Some true → OneEnd (together_figures p q) (together a b) t
  end_of_both t h =
      let o = fits_b.end t h in
      let x = fits_a.end t h in
      let low = o.here.low in
      let over = x.here.high in
      record {
        at = o.at;
        here = record { is = o.here.is; low = omega (arith, low, first_before); high = o.here.high };
        only = λ c g. o.only c (record { is = g.is; low = end_low t c h g.is g.low g.high; high = g.high });
        after = λ c l m.
            let none = no_row_after p q a b beats sound_p sound_q behind spaced fits_a fits_b t x.at c h x.here (omega (arith, low, over, behind, l)) m in
            ap (λ u. first_of u (b.tuple c)) none ∙ o.after c l m;
      }

  pub fits_together : Fits (together_figures p q) beats (together a b)
  fits_together = record {
    tuples = λ c r e. of_either c r (a.tuple c) refl e;
    ends = of_right;
    few = few_both;
    end = end_of_both;
  }
