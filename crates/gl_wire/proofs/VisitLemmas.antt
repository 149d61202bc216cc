-- The visits of a stretch of cycles, one cycle more at a time.
use Rattle.std.proofs.Common.{◌≡◌, ℕ, zero, suc, ◌+◌, ◌-◌, ◌<◌, ◌≤◌, List, [], ◌∷◌, ◌++◌, map, Option, Some, None, Bool, true, false, refl, ap, ◌∙◌, arith, inl, inr}
use Rattle.std.proofs.lemmas.Bool.{cases_lt}
use Rattle.std.specs.Prelude.{is_some, if◌then◌else◌}
use Rattle.std.proofs.lemmas.List.{append-nil, map-append}
use Rattle.gl_values.specs.Results.{Row}
use Rattle.gl_wire.specs.Wire.{Carried, stream}
use Rattle.gl_wire.specs.Beats.{beats_of}
use Rattle.gl_wire.specs.Lift.{Visits, visits, with_visit}
use Rattle.gl_wire.specs.Timed.{Begins, at_first, after_end}

-- what a beat of a wire is
pub data BeatOf (s : Carried) (c : ℕ) : Bool → Type 0 where
  its_end : s.ends c ≡ true → BeatOf s c true
  its_tuple : (r : Row) → s.ends c ≡ false → s.tuple c ≡ Some r → BeatOf s c false

pub beat_of : (s : Carried) (c : ℕ) (e : Bool) → beats_of s c ≡ Some e → BeatOf s c e
beat_of s c e h = by (s.ends c) refl (s.tuple c) refl e h
  where
    by : (x : Bool) → s.ends c ≡ x → (o : Option Row) → s.tuple c ≡ o → (e : Bool) → (if x then Some true else (if is_some o then Some false else None)) ≡ Some e → BeatOf s c e
    by true p o q true g = its_end p
    by true p o q false g = absurd (cc)
    by false p (Some r) q false g = its_tuple r p q
    by false p (Some r) q true g = absurd (cc)
    by false p None q e g = absurd (cc)

module _ {Part : Type 0} (of : ℕ × List Row → Part) (who : Visits) (ins : ℕ → Carried) where
  abbrev pub did : ℕ → ℕ → List Part
  did lo c = map of (visits who ins lo (suc c - lo))

  with_visit-append : (o : Option ℕ) (c : ℕ) (of : ℕ → List Row) (xs ys : List (ℕ × List Row)) → with_visit o c of (xs ++ ys) ≡ with_visit o c of xs ++ ys
  with_visit-append None c of xs ys = refl
  with_visit-append (Some k) c of xs ys = refl

  visits-more : (n c : ℕ) → visits who ins c (suc n) ≡ visits who ins c n ++ with_visit (who (c + n)) (c + n) (λ k. stream (ins k) (c + n)) []
  visits-more zero c = let e : c + zero ≡ c = omega arith in rw e refl
  visits-more (suc n) c =
      let e : c + suc n ≡ suc c + n = omega arith in
      rw (visits-more n (suc c), e) (with_visit-append (who c) c (λ k. stream (ins k) c) (visits who ins (suc c) n) (with_visit (who (suc c + n)) (suc c + n) (λ k. stream (ins k) (suc c + n)) []))

  did_next : (lo c : ℕ) → lo ≤ suc c → did lo (suc c) ≡ did lo c ++ map of (with_visit (who (suc c)) (suc c) (λ k. stream (ins k) (suc c)) [])
  did_next lo c l =
      let e : suc (suc c) - lo ≡ suc (suc c - lo) = omega (arith, l) in
      let f : lo + (suc c - lo) ≡ suc c = omega (arith, l) in
      ap (λ n. map of (visits who ins lo n)) e ∙ ap (map of) (visits-more (suc c - lo) lo)
      ∙ map-append of (visits who ins lo (suc c - lo)) _
      ∙ ap (λ x. did lo c ++ map of (with_visit (who x) x (λ k. stream (ins k) x) [])) f

  pub did_none : (lo c : ℕ) → lo ≤ suc c → who (suc c) ≡ None → did lo (suc c) ≡ did lo c
  did_none lo c l h = did_next lo c l ∙ ap (λ o. did lo c ++ map of (with_visit o (suc c) (λ k. stream (ins k) (suc c)) [])) h ∙ append-nil (did lo c)

  pub did_one : (lo c k : ℕ) → lo ≤ suc c → who (suc c) ≡ Some k → did lo (suc c) ≡ did lo c ++ of (suc c, stream (ins k) (suc c)) ∷ []
  did_one lo c k l h = did_next lo c l ∙ ap (λ o. did lo c ++ map of (with_visit o (suc c) (λ k. stream (ins k) (suc c)) [])) h

  pub visits_none : (n c : ℕ) → ((x k : ℕ) → c ≤ x → x < c + n → who x ≡ Some k → ⊥) → visits who ins c n ≡ []
  visits_none zero c h = refl
  visits_none (suc n) c h = by (who c) refl (visits_none n (suc c) (λ u k l m. h u k (omega (arith, l)) (omega (arith, m))))
    where
      by : (o : Option ℕ) → who c ≡ o → visits who ins (suc c) n ≡ [] → with_visit o c (λ k. stream (ins k) c) (visits who ins (suc c) n) ≡ []
      by None p rest = rest
      by (Some k) p rest = absurd (h c k (omega arith) (omega arith) p)

-- a stream that has not ended begins where it did
pub begins_more : (flush : ℕ) (a : Carried) (lo c : ℕ) → a.ends c ≡ false → Begins flush a lo c → Begins flush a lo (suc c)
begins_more flush a lo c calm (at_first e none) = at_first e (λ x l h. elim (cases_lt x c) [ inl m ↦ none x m h | inr m ↦ (let z : x ≡ c = omega (arith, l, m) in let y = ap a.ends z in cc (y, h, calm)) ])
begins_more flush a lo c calm (after_end u e l is none) = after_end u e (omega (arith, l)) is (λ x m n h. elim (cases_lt x c) [ inl o ↦ none x m o h | inr o ↦ (let z : x ≡ c = omega (arith, n, o) in let y = ap a.ends z in cc (y, h, calm)) ])
