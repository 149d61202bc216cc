-- The pace of wires behind others.
use Rattle.std.proofs.Common.{◌≡◌, ℕ, ◌+◌, ◌-◌, Option, Some, None, Bool, true, false, List, refl, sym, ap, ◌∙◌, arith, inl, inr}
use Rattle.std.specs.Prelude.{is_some, option_and_then, if◌then◌else◌}
use Rattle.std.proofs.lemmas.Bool.{cases_lt}
use Rattle.gl_values.specs.Results.{Row}
use Rattle.gl_algebra.specs.Shapes.{Pace, unsteady, once, with_stream, with_body}
use Rattle.gl_wire.specs.Wire.{Carried, stream}
use Rattle.gl_wire.specs.Shapes.{IsDelayed, Steady, AtEnds}
use Rattle.gl_wire.specs.Pace.{Follows, InStep, WithEnds, KeepsPace}

always_some : (f : Row → Row) (o : Option Row) → is_some (option_and_then (λ row. Some (f row)) o) ≡ is_some o
always_some f None = refl
always_some f (Some row) = refl

-- what a step that drops nothing follows
pub steady_follows : (m : ℕ) (f : Row → Row) (a b : Carried) → Steady m (λ row. Some (f row)) a b → Follows m a b
steady_follows m f a b s = record {
  before = λ c l. ap is_some (s.before c l);
  no_end = s.no_end;
  tuples = λ c. ap is_some (s.tuples c) ∙ always_some f (a.tuple c);
  ends = s.ends;
}

module _ (m : ℕ) (a b : Carried) (s : Follows m a b) where
  in_step : (n : ℕ) (leaf : Carried) → InStep n leaf a → InStep (n + m) leaf b
  in_step n leaf h = record {
    before = λ c l. elim (cases_lt c m) [
      | inl k ↦ s.before c k
      | inr k ↦ (let e : c ≡ (c - m) + m = omega arith in ap (λ (i : ℕ). is_some (b.tuple i)) e ∙ s.tuples (c - m) ∙ h.before (c - m) (omega arith))
    ];
    each = λ c. let e : c + (n + m) ≡ (c + n) + m = omega arith in ap (λ (i : ℕ). is_some (b.tuple i)) e ∙ s.tuples (c + n) ∙ h.each c;
  }

  with_ends : WithEnds a → WithEnds b
  with_ends h = λ c. elim (cases_lt c m) [
    | inl k ↦ s.before c k ∙ sym (s.no_end c k)
    | inr k ↦ (let e : c ≡ (c - m) + m = omega arith in
        ap (λ (i : ℕ). is_some (b.tuple i)) e ∙ s.tuples (c - m) ∙ h (c - m) ∙ sym (s.ends (c - m)) ∙ sym (ap b.ends e))
  ]

  pub follows_pace : (pace : Pace) (n : ℕ) (leaves : ℕ → Carried) → KeepsPace pace n leaves a → KeepsPace pace (n + m) leaves b
  follows_pace unsteady n leaves h = tt
  follows_pace once n leaves h = with_ends h
  follows_pace (with_stream k) n leaves h = in_step n (leaves k) h
  follows_pace with_body n leaves h = in_step n (leaves 0) h

pub steady_pace : (m : ℕ) (f : Row → Row) (a b : Carried) → Steady m (λ row. Some (f row)) a b → (pace : Pace) (n : ℕ) (leaves : ℕ → Carried) → KeepsPace pace n leaves a → KeepsPace pace (n + m) leaves b
steady_pace m f a b s = follows_pace m a b (steady_follows m f a b s)

pub ends_pace : (m : ℕ) (total : List Row → Row) (a b : Carried) → AtEnds m total a b → WithEnds b
ends_pace m total a b s = λ c. elim (cases_lt c m) [
  | inl k ↦ ap is_some (s.before c k) ∙ sym (s.no_end c k)
  | inr k ↦ (let e : c ≡ (c - m) + m = omega arith in
      ap (λ (i : ℕ). is_some (b.tuple i)) e ∙ ap is_some (s.tuples (c - m)) ∙ one (total (stream a (c - m))) (a.ends (c - m)) ∙ sym (s.ends (c - m)) ∙ sym (ap b.ends e))
]
  where
    one : (r : Row) (e : Bool) → is_some (if e then Some r else None) ≡ e
    one r true = refl
    one r false = refl

-- a wire some cycles behind follows
pub delayed_follows : (m : ℕ) (a b : Carried) → IsDelayed m a b → Follows m a b
delayed_follows m a b d = record {
  before = λ c l. ap is_some (d.before c l);
  no_end = d.no_end;
  tuples = λ c. ap is_some (d.tuples c);
  ends = d.ends;
}
