-- A wire some cycles behind another: what is left out of its streams, and what is made of them.
use Rattle.std.proofs.Common.{◌≡◌, ℕ, ◌+◌, ◌-◌, ◌<◌, List, Option, None, true, false, take, sym, ap, ◌∙◌, arith, inl, inr}
use Rattle.std.specs.Prelude.{option_and_then}
use Rattle.std.proofs.lemmas.Bool.{cases_lt}
use Rattle.gl_values.specs.Lists.{keys_of}
use Rattle.gl_values.specs.Results.{Row}
use Rattle.gl_frames_keys.specs.Lanes.{first_keys, leaves_out}
use Rattle.gl_frames_wire.specs.Running.{running}
use Rattle.gl_slots.specs.Slots.{is_further}
use Rattle.gl_wire.specs.Shapes.{IsDelayed}
use Rattle.gl_wire.specs.Wire.{Carried, stream}
use Rattle.gl_wire.proofs.DelayLemmas.{stream_delayed}

module _ (d : ℕ) (a late : Carried) (behind : IsDelayed d a late) where
  module _ (groups : ℕ) (key : Row → ℕ) where
    pub left_late : (c : ℕ) → leaves_out groups key late (c + d) ≡ leaves_out groups key a c
    left_late c =
        ap (λ xs. is_further key (take groups (keys_of key xs)) (late.tuple (c + d))) (stream_delayed d a late behind c)
        ∙ ap (is_further key (first_keys groups key a c)) (behind.tuples c)

    none_early : (c : ℕ) → c < d → leaves_out groups key late c ≡ false
    none_early c l = ap (is_further key (first_keys groups key late c)) (behind.before c l)

    -- the cycle of a row that is told of
    pub row_of : (c : ℕ) → leaves_out groups key late c ≡ true → (x : ℕ) × (c ≡ x + d) × (leaves_out groups key a x ≡ true)
    row_of c e = elim (cases_lt c d) [
      | inl l ↦ absurd (let z = none_early c l in cc (z, e))
      | inr l ↦ (
          let at : c ≡ c - d + d = omega (arith, l) in
          (c - d, at, sym (left_late (c - d)) ∙ ap (leaves_out groups key late) (sym at) ∙ e)
          )
    ]

  -- what is made of the streams of both
  pub running_late : (f : List Row → Option Row) → IsDelayed d (running f a) (running f late)
  running_late f = record {
    before = λ c l. ap (option_and_then (λ row. f (stream late c))) (behind.before c l);
    no_end = behind.no_end;
    tuples = λ c. ap (λ xs. option_and_then (λ row. f xs) (late.tuple (c + d))) (stream_delayed d a late behind c)
        ∙ ap (option_and_then (λ row. f (stream a c))) (behind.tuples c);
    ends = behind.ends;
  }

-- delays add up
pub delayed_both : (d m : ℕ) (x y z : Carried) → IsDelayed d x y → IsDelayed m y z → IsDelayed (d + m) x z
delayed_both d m x y z h s = record {
  before = before;
  no_end = no_end;
  tuples = λ c. let e : c + (d + m) ≡ c + d + m = omega arith in ap z.tuple e ∙ s.tuples (c + d) ∙ h.tuples c;
  ends = λ c. let e : c + (d + m) ≡ c + d + m = omega arith in ap z.ends e ∙ s.ends (c + d) ∙ h.ends c;
}
  where
    before : (c : ℕ) → c < d + m → z.tuple c ≡ None
    before c l = elim (cases_lt c m) [
      | inl q ↦ s.before c q
      | inr q ↦ (let e : c ≡ c - m + m = omega (arith, q) in ap z.tuple e ∙ s.tuples (c - m) ∙ h.before (c - m) (omega (arith, l, q)))
    ]

    no_end : (c : ℕ) → c < d + m → z.ends c ≡ false
    no_end c l = elim (cases_lt c m) [
      | inl q ↦ s.no_end c q
      | inr q ↦ (let e : c ≡ c - m + m = omega (arith, q) in ap z.ends e ∙ s.ends (c - m) ∙ h.no_end (c - m) (omega (arith, l, q)))
    ]
