-- What a wire carries over its own beats, and on which only beats with the end cause something.
use Rattle.std.proofs.Common.{◌≡◌, ℕ, zero, suc, ◌+◌, ◌-◌, ◌<◌, ◌≤◌, List, [], ◌++◌, length, Option, Some, None, Bool, true, false, refl, sym, ap, ◌∙◌, subst, arith, inl, inr}
use Rattle.std.specs.Prelude.{option_to_list, if◌then◌else◌, is_some}
use Rattle.std.proofs.lemmas.Bool.{cases_lt}
use Rattle.std.proofs.lemmas.List.{append-nil}
use Rattle.gl_algebra.specs.declared.figures.Figures.{Figures}
use Rattle.gl_algebra.specs.FigureTable.{IsSound, input_figures}
use Rattle.gl_values.specs.Results.{Row}
use Rattle.gl_wire.specs.Beats.{Beats, beats_of, last, most, Spaced}
use Rattle.gl_wire.specs.Wire.{Carried, pending, stream, rows}
use Rattle.gl_wire.specs.Serves.{HasEnd, Caused, EndCaused, Fits}
use Rattle.gl_wire.proofs.RowsLemmas.{rows-split, rows-quiet, pending-rows}

-- a wire fits the figures of a stream over its own beats
pub own_fits : (s : Carried) → Fits input_figures (beats_of s) s
own_fits s = record {
  tuples = λ c r h. tuple_in c r h (s.ends c) refl;
  ends = λ c h. record { beat = c; is = end_beat c h; low = omega arith; high = omega arith };
  few = λ t e h. few_in t e;
  end = λ t h. record {
    at = t;
    here = record { is = its_end t (s.ends t) refl h; low = omega arith; high = omega arith };
    only = λ c e. let l = e.low in let m = e.high in omega arith;
    after = λ c l m. absurd (omega arith);
  };
}
  where
    end_beat : (c : ℕ) → s.ends c ≡ true → beats_of s c ≡ Some true
    end_beat c h = rw h refl

    its_end : (t : ℕ) (e : Bool) → s.ends t ≡ e → (if s.ends t then Some true else (if is_some (s.tuple t) then Some false else None)) ≡ Some true → s.ends t ≡ true
    its_end t true p h = p
    its_end t false p h = absurd (no (is_some (s.tuple t)) (rw p at h))
      where
        no : (b : Bool) → (if b then Some false else None) ≡ Some true → ⊥
        no true q = cc
        no false q = cc

    tuple_in : (c : ℕ) (r : Row) → s.tuple c ≡ Some r → (e : Bool) → s.ends c ≡ e → Caused input_figures (beats_of s) c
    tuple_in c r h true p = record { beat = c; end = true; is = rw p refl; low = omega arith; high = omega arith }
    tuple_in c r h false p = record { beat = c; end = false; is = rw (p, h) refl; low = omega arith; high = omega arith }

    one_at_most : (o : Option Row) → length (option_to_list o ++ []) ≤ 1
    one_at_most None = omega arith
    one_at_most (Some r) = omega arith

    few_in : (t : ℕ) (e : Bool) → length (rows s (t + 0) (suc (last input_figures e) - 0)) ≤ most input_figures e
    few_in t true = one_at_most (s.tuple (t + 0))
    few_in t false = one_at_most (s.tuple (t + 0))

-- a wire on which only beats with the end cause something
module _ (f : Figures) (beats : Beats) (s : Carried) (fits : Fits f beats s) (spaced : Spaced f beats) (closing : f.nt ≡ 0) (sound : IsSound f) where
  -- between the first cycle of an interval and its end
  abbrev Inside : ℕ → Type 0
  Inside c = (t : ℕ) × (h : beats t ≡ Some true) × (t + f.a < c) × (c ≤ (fits.end t h).at)

  none_of : (n : ℕ) (xs : List Row) (k : ℕ) (o : Option Row) (ys : List Row) → length (option_to_list o ++ ys) ≤ 0 → o ≡ None
  none_of n xs k None ys h = refl
  none_of n xs k (Some r) ys h = absurd (omega (arith, h))

  none_in : (n lo c : ℕ) → length (rows s lo n) ≤ 0 → lo ≤ c → c < lo + n → s.tuple c ≡ None
  none_in zero lo c h l m = absurd (omega (arith, l, m))
  none_in (suc n) lo c h l m = elim (cases_lt lo c) [
    | inl p ↦ none_in n (suc lo) c (rest (s.tuple lo) h) (omega arith) (omega arith)
    | inr p ↦ let e : lo ≡ c = omega arith in subst (λ k. s.tuple k ≡ None) e (none_of 0 [] 0 (s.tuple lo) (rows s (suc lo) n) h)
  ]
    where
      rest : (o : Option Row) → length (option_to_list o ++ rows s (suc lo) n) ≤ 0 → length (rows s (suc lo) n) ≤ 0
      rest None q = q
      rest (Some r) q = absurd (omega (arith, q))

  -- a tuple comes of a beat with the end
  pub closing_caused : (c : ℕ) (r : Row) → s.tuple c ≡ Some r → EndCaused f beats c
  closing_caused c r h = by (fits.tuples c r h) (fits.tuples c r h).end refl
    where
      by : (q : Caused f beats c) (e : Bool) → q.end ≡ e → EndCaused f beats c
      by q true p = record { beat = q.beat; is = rw p at q.is; low = q.low; high = rw p at q.high }
      by q false p =
          let is : beats q.beat ≡ Some false = rw p at q.is in
          let high : c ≤ q.beat + f.lt = rw p at q.high in
          let few : length (rows s (q.beat + f.a) (suc f.lt - f.a)) ≤ f.nt = fits.few q.beat false is in
          let none : s.tuple c ≡ None = none_in (suc f.lt - f.a) (q.beat + f.a) c (omega (arith, few, closing)) q.low (omega (arith, q.low, high)) in
          absurd (cc (none, h))

  not_inside : (t : ℕ) → beats t ≡ Some true → Inside (t + f.a) → ⊥
  not_inside t h i =
      let o = fits.end i.0 i.1 in
      let high = o.here.high in let close = i.3 in
      let l : i.0 < t = omega (arith, i.2) in
      let far = spaced.apart i.0 t true true i.1 h l in
      omega (arith, far, high, close, sound.end_gap)

  -- outside of all intervals nothing is pending
  pending_outside : (c : ℕ) → (Inside c → ⊥) → pending s c ≡ []
  pending_outside zero out = refl
  pending_outside (suc c) out = by (s.ends c) refl (s.tuple c) refl (pending_outside c)
    where
      by : (e : Bool) → s.ends c ≡ e → (o : Option Row) → s.tuple c ≡ o → ((Inside c → ⊥) → pending s c ≡ []) → (if s.ends c then [] else pending s c ++ option_to_list (s.tuple c)) ≡ []
      by true p o q ih = rw p refl
      by false p None q ih = rw (p, q) (append-nil (pending s c) ∙ ih (λ i.
          out (
            i.0,
            i.1,
            omega (arith, i.2),
            elim (cases_lt c (fits.end i.0 i.1).at) [
              | inl l ↦ l
              | inr l ↦ let z : (fits.end i.0 i.1).at ≡ c = omega (arith, i.3, l) in absurd (cc ((fits.end i.0 i.1).here.is, ap s.ends z, p))
            ],
          )))
      by false p (Some r) q ih =
          let t = closing_caused c r q in
          let o = fits.end t.beat t.is in
          absurd (elim (cases_lt c o.at) [
            | inl l ↦ out (t.beat, t.is, omega (arith, t.low), l)
            | inr l ↦ elim (cases_lt o.at c) [
              | inl m ↦ (let none = o.after c m t.high in cc (none, q))
              | inr m ↦ (let z : o.at ≡ c = omega arith in cc (o.here.is, ap s.ends z, p))
            ]
          ])

  -- the stream that ends in an interval is what came in it
  pub closing_stream : (t e : ℕ) → beats t ≡ Some true → HasEnd f s t e → stream s e ≡ rows s (t + f.a) (suc f.le - f.a)
  closing_stream t e h he =
      let o = fits.end t h in
      let same : e ≡ o.at = o.only e he in
      let before : e ≡ t + f.a + (e - (t + f.a)) = omega (arith, he.low) in
      let quiet : (k : ℕ) → t + f.a ≤ k → k < t + f.a + (e - (t + f.a)) → s.ends k ≡ false = λ k l m. not_end k (omega (arith, he.high, m, he.low)) l (s.ends k) refl in
      let start = pending_outside (t + f.a) (not_inside t h) in
      let grown : pending s e ≡ rows s (t + f.a) (e - (t + f.a)) = ap (pending s) before ∙ pending-rows s (e - (t + f.a)) (t + f.a) quiet ∙ ap (λ l. l ++ rows s (t + f.a) (e - (t + f.a))) start in
      let rest : rows s (suc e) (t + f.le - e) ≡ [] = rows-quiet s (t + f.le - e) (suc e) (λ k l m. o.after k (omega (arith, same, l)) (omega (arith, m, he.high))) in
      let len : suc f.le - f.a ≡ (e - (t + f.a)) + suc (t + f.le - e) = omega (arith, he.low, he.high) in
      let at : t + f.a + (e - (t + f.a)) ≡ e = sym before in
      let tail : rows s e (suc (t + f.le - e)) ≡ option_to_list (s.tuple e) = ap (λ l. option_to_list (s.tuple e) ++ l) rest ∙ append-nil (option_to_list (s.tuple e)) in
      ap (λ l. l ++ option_to_list (s.tuple e)) grown
      ∙ ap (λ l. rows s (t + f.a) (e - (t + f.a)) ++ l) (sym tail)
      ∙ ap (λ k. rows s (t + f.a) (e - (t + f.a)) ++ rows s k (suc (t + f.le - e))) (sym at)
      ∙ sym (rows-split s (e - (t + f.a)) (suc (t + f.le - e)) (t + f.a))
      ∙ ap (rows s (t + f.a)) (sym len)
    where
      not_end : (k : ℕ) → k < e → t + f.a ≤ k → (b : Bool) → s.ends k ≡ b → s.ends k ≡ false
      not_end k l m true p = let o = fits.end t h in let z = o.only k (record { is = p; low = m; high = omega (arith, he.high, l) }) in let y = o.only e he in absurd (omega (arith, z, y, l))
      not_end k l m false p = p
