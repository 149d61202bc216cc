-- Operators of rows one behind another, and lists of rows that go through their steps.
use Rattle.std.proofs.Common.{◌≡◌, ℕ, ◌+◌, ◌-◌, ◌<◌, inl, inr, List, [], ◌∷◌, Option, Some, None, false, refl, ap, ◌∙◌, arith}
use Rattle.std.specs.Prelude.{filter_map, option_and_then}
use Rattle.std.specs.List.{cons_option}
use Rattle.std.proofs.lemmas.Bool.{cases_lt}
use Rattle.gl_values.specs.Results.{Row}
use Rattle.gl_wire.specs.Shapes.{IsDelayed, Steady, stepped}
use Rattle.gl_wire.specs.Wire.{Carried}
use Rattle.gl_wire.proofs.StageLemmas.{delayed_none, delayed_same}

-- what is behind a wire that is behind another
delayed_then : (n m : ℕ) (a b d : Carried) → IsDelayed n a b → IsDelayed m b d → IsDelayed (n + m) a d
delayed_then n m a b d h s = record {
  before = before;
  no_end = no_end;
  tuples = λ c. let e : c + (n + m) ≡ c + n + m = omega arith in ap d.tuple e ∙ s.tuples (c + n) ∙ h.tuples c;
  ends = λ c. let e : c + (n + m) ≡ c + n + m = omega arith in ap d.ends e ∙ s.ends (c + n) ∙ h.ends c;
}
  where
    before : (c : ℕ) → c < n + m → d.tuple c ≡ None
    before c l = elim (cases_lt c m) [
      | inl lt ↦ s.before c lt
      | inr le ↦ (let e : c ≡ (c - m) + m = omega (arith, le) in ap d.tuple e ∙ s.tuples (c - m) ∙ h.before (c - m) (omega (arith, l, le)))
    ]

    no_end : (c : ℕ) → c < n + m → d.ends c ≡ false
    no_end c l = elim (cases_lt c m) [
      | inl lt ↦ s.no_end c lt
      | inr le ↦ (let e : c ≡ (c - m) + m = omega (arith, le) in ap d.ends e ∙ s.ends (c - m) ∙ h.no_end (c - m) (omega (arith, l, le)))
    ]

-- both steps, one after the other
pub steady_then : (n m : ℕ) (s t : Row → Option Row) (a b d : Carried) → Steady n s a b → Steady m t b d
    → Steady (n + m) (λ row. option_and_then t (s row)) a d
steady_then n m s t a b d h i =
    delayed_same (n + m) (stepped t (stepped s a)) (stepped (λ row. option_and_then t (s row)) a) d (λ c. both (a.tuple c)) (λ c. refl)
    (delayed_then n m (stepped t (stepped s a)) (stepped t b) d stepped_then i)
  where
    both : (o : Option Row) → option_and_then t (option_and_then s o) ≡ option_and_then (λ row. option_and_then t (s row)) o
    both None = refl
    both (Some r) = refl

    stepped_then : IsDelayed n (stepped t (stepped s a)) (stepped t b)
    stepped_then = record {
      before = λ c l. ap (option_and_then t) (h.before c l);
      no_end = h.no_end;
      tuples = λ c. ap (option_and_then t) (h.tuples c);
      ends = h.ends;
    }

-- no step at all
pub steady_none : (a : Carried) → Steady 0 (λ row. Some row) a a
steady_none a = delayed_same 0 a (stepped (λ row. Some row) a) a (λ c. same (a.tuple c)) (λ c. refl) (delayed_none a)
  where
    same : (o : Option Row) → o ≡ option_and_then (λ row. Some row) o
    same None = refl
    same (Some r) = refl

pub filter_none : (xs : List Row) → filter_map (λ row. Some row) xs ≡ xs
filter_none [] = refl
filter_none (x ∷ xs) = ap (λ (l : List Row). x ∷ l) (filter_none xs)

pub filter_then : (s t : Row → Option Row) (xs : List Row) → filter_map (λ row. option_and_then t (s row)) xs ≡ filter_map t (filter_map s xs)
filter_then s t [] = refl
filter_then s t (x ∷ xs) = by (s x) (filter_then s t xs)
  where
    by : (o : Option Row) → filter_map (λ row. option_and_then t (s row)) xs ≡ filter_map t (filter_map s xs)
        → cons_option (option_and_then t o) (filter_map (λ row. option_and_then t (s row)) xs) ≡ filter_map t (cons_option o (filter_map s xs))
    by None h = h
    by (Some r) h = ap (cons_option (t r)) h
