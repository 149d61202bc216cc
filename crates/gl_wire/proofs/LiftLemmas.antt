-- Copies that each serve a closing body, and are visited in turn.
use Rattle.std.proofs.Common.{◌≡◌, ℕ, zero, suc, ◌+◌, ◌-◌, ◌<◌, ◌≤◌, List, [], ◌++◌, length, Option, Some, None, Bool, true, false, refl, sym, ap, ◌∙◌, subst, arith, inl, inr, ◌⊎◌}
use Rattle.std.specs.Prelude.{if◌then◌else◌, is_some}
use Rattle.std.proofs.lemmas.Bool.{cases_lt}
use Rattle.gl_algebra.specs.declared.figures.Figures.{Figures}
use Rattle.gl_algebra.specs.FigureTable.{IsSound, input_figures}
use Rattle.gl_values.specs.Results.{Row}
use Rattle.gl_wire.specs.Beats.{beats_of}
use Rattle.gl_wire.specs.Wire.{Carried, stream, rows}
use Rattle.gl_wire.specs.Serves.{Served}
use Rattle.gl_wire.proofs.ClosingLemmas.{closing_caused, closing_stream}
use Rattle.gl_wire.proofs.RowsLemmas.{rows-split, rows-quiet, rows-same}
use Rattle.gl_wire.specs.Lift.{Visits, Schedules, first_of, tuple_of_any, all_of, visits, with_visit, Joined, Lifted}

pub first_of-none : (o : Option Row) → first_of o None ≡ o
first_of-none None = refl
first_of-none (Some r) = refl

module _ (outs : ℕ → Carried) (c : ℕ) where
  any-none : (count : ℕ) → ((l : ℕ) → l < count → (outs l).tuple c ≡ None) → tuple_of_any outs count c ≡ None
  any-none zero h = refl
  any-none (suc m) h = rw (any-none m (λ l p. h l (omega arith)), h m (omega arith)) refl

  any-at : (count k : ℕ) → k < count → ((l : ℕ) → l < count → (l ≡ k → ⊥) → (outs l).tuple c ≡ None) → tuple_of_any outs count c ≡ (outs k).tuple c
  any-at zero k p h = absurd (omega (arith, p))
  any-at (suc m) k p h = elim (cases_lt k m) [
    | inl q ↦ rw (h m (omega arith) (λ e. omega arith)) (first_of-none (tuple_of_any outs m c) ∙ any-at m k q (λ l r n. h l (omega arith) n))
    | inr q ↦ let e : m ≡ k = omega (arith, p, q) in
        let none = any-none m (λ l r. h l (omega arith) (λ d. omega arith)) in
        ap (λ o. first_of o ((outs m).tuple c)) none ∙ ap (λ l. (outs l).tuple c) e
  ]

module _ (f : Figures) (means : ℕ → List Row → List Row → Type 0) (count : ℕ) (who : Visits) (ins outs : ℕ → Carried) (sound : IsSound f) (closing : f.nt ≡ 0) (sch : Schedules f count who ins) (body : (k : ℕ) → k < count → Served input_figures f (λ t xs ys. who t ≡ Some k → means t xs ys) (beats_of (ins k)) (ins k) (outs k)) where
  pub beat_end : (k c : ℕ) → beats_of (ins k) c ≡ Some true → (ins k).ends c ≡ true
  beat_end k c h = by ((ins k).ends c) refl (is_some ((ins k).tuple c)) h
    where
      by : (e : Bool) → (ins k).ends c ≡ e → (b : Bool) → (if (ins k).ends c then Some true else (if b then Some false else None)) ≡ Some true → (ins k).ends c ≡ true
      by true p b q = p
      by false p true q = absurd (let z = rw p at q in cc (z))
      by false p false q = absurd (let z = rw p at q in cc (z))

  lift-near : (k c : ℕ) (r : Row) → k < count → (outs k).tuple c ≡ Some r → (u : ℕ) × (who u ≡ Some k) × (u + f.a ≤ c) × (c ≤ u + f.le)
  lift-near k c r l h =
      let q = closing_caused f (beats_of (ins k)) (outs k) (body k l).fits (sch.spaced k l) closing sound c r h in
      (q.beat, sch.no_other q.beat k l (beat_end k q.beat q.is), q.low, q.high)

  -- two visits whose intervals meet are one
  one_visit : (u v k l c : ℕ) → who u ≡ Some k → who v ≡ Some l → u + f.a ≤ c → c ≤ u + f.le → v + f.a ≤ c → c ≤ v + f.le → u ≡ v
  one_visit u v k l c hu hv a b d e = elim (cases_lt u v) [
    | inl p ↦ absurd (omega (arith, sch.apart u v k l hu hv p, b, d))
    | inr p ↦ elim (cases_lt v u) [ inl q ↦ absurd (omega (arith, sch.apart v u l k hv hu q, e, a)) | inr q ↦ omega arith ]
  ]

  lift-alone : (k l c : ℕ) (r q : Row) → k < count → l < count → (outs k).tuple c ≡ Some r → (outs l).tuple c ≡ Some q → k ≡ l
  lift-alone k l c r q p s hr hq =
      let x = lift-near k c r p hr in let y = lift-near l c q s hq in
      let e = one_visit x.0 y.0 k l c x.1 y.1 x.2 x.3 y.2 y.3 in
      let z = ap who e in cc (x.1, y.1, z)

  -- in a visit's interval the all_of wire carries what its copy does
  in_visit : (u k c : ℕ) → who u ≡ Some k → u + f.a ≤ c → c ≤ u + f.le → tuple_of_any outs count c ≡ (outs k).tuple c
  in_visit u k c h low high = any-at outs c count k (sch.copies u k h) (λ l p ne. by l p ne ((outs l).tuple c) refl)
    where
      by : (l : ℕ) → l < count → (l ≡ k → ⊥) → (o : Option Row) → (outs l).tuple c ≡ o → (outs l).tuple c ≡ None
      by l p ne None q = q
      by l p ne (Some r) q =
          let x = lift-near l c r p q in
          let e = one_visit x.0 u l k c x.1 h x.2 x.3 low high in
          let z = ap who e in let y : l ≡ k = cc (x.1, h, z) in absurd (ne y)

  lift-visit : (u k : ℕ) → who u ≡ Some k → means u (stream (ins k) u) (rows (all_of outs count) (u + f.a) (suc f.le - f.a))
  lift-visit u k h =
      let l = sch.copies u k h in
      let b = body k l in
      let beat : beats_of (ins k) u ≡ Some true = let e = sch.ends u k h in rw e refl in
      let o = b.fits.end u beat in
      let result = b.results u u o.at beat (record { is = sch.ends u k h; low = omega arith; high = omega arith }) o.here h in
      let whole = closing_stream f (beats_of (ins k)) (outs k) b.fits (sch.spaced k l) closing sound u o.at beat o.here in
      let same : rows (all_of outs count) (u + f.a) (suc f.le - f.a) ≡ rows (outs k) (u + f.a) (suc f.le - f.a) = rows-same (all_of outs count) (outs k) (suc f.le - f.a) (u + f.a) (λ c p q. in_visit u k c h p (omega (arith, p, q))) in
      subst (means u (stream (ins k) u)) (whole ∙ sym same) result

  lift-few : (u k : ℕ) → who u ≡ Some k → length (rows (all_of outs count) (u + f.a) (suc f.le - f.a)) ≤ f.ne
  lift-few u k h =
      let l = sch.copies u k h in
      let beat : beats_of (ins k) u ≡ Some true = let e = sch.ends u k h in rw e refl in
      let same : rows (all_of outs count) (u + f.a) (suc f.le - f.a) ≡ rows (outs k) (u + f.a) (suc f.le - f.a) = rows-same (all_of outs count) (outs k) (suc f.le - f.a) (u + f.a) (λ c p q. in_visit u k c h p (omega (arith, p, q))) in
      subst (λ l. length l ≤ f.ne) (sym same) ((body k l).fits.few u true beat)

  pub lift : Lifted f means count who ins outs
  lift = record { near = lift-near; alone = lift-alone; visit = lift-visit; few = lift-few }

-- what was lifted, over the cycles in which visits end; the relation may be any that holds of each visit
module _ (f : Figures) (means : ℕ → List Row → List Row → Type 0) (count : ℕ) (who : Visits) (ins outs : ℕ → Carried) (sch_apart : (c d k l : ℕ) → who c ≡ Some k → who d ≡ Some l → c < d → c + (f.le + 1) ≤ d + f.a)
    (lift_near : (k c : ℕ) (r : Row) → k < count → (outs k).tuple c ≡ Some r → (u : ℕ) × (who u ≡ Some k) × (u + f.a ≤ c) × (c ≤ u + f.le))
    (lift_visit : (u k : ℕ) → who u ≡ Some k → means u (stream (ins k) u) (rows (all_of outs count) (u + f.a) (suc f.le - f.a))) where
  -- a cycle that no visit's interval has carries nothing
  pub any_quiet : (c : ℕ) → ((u k : ℕ) → who u ≡ Some k → u + f.a ≤ c → c ≤ u + f.le → ⊥) → tuple_of_any outs count c ≡ None
  any_quiet c h = any-none outs c count (λ l p. by l p ((outs l).tuple c) refl)
    where
      by : (l : ℕ) → l < count → (o : Option Row) → (outs l).tuple c ≡ o → (outs l).tuple c ≡ None
      by l p None q = q
      by l p (Some r) q = let x = lift_near l c r p q in absurd (h x.0 l x.1 x.2 x.3)

  visits-quiet : (n c : ℕ) → ((u k : ℕ) → who u ≡ Some k → c ≤ u → u < c + n → ⊥) → visits who ins c n ≡ []
  visits-quiet zero c h = refl
  visits-quiet (suc n) c h = by (who c) refl (visits-quiet n (suc c) (λ u k p l m. h u k p (omega arith) (omega arith)))
    where
      by : (o : Option ℕ) → who c ≡ o → visits who ins (suc c) n ≡ [] → with_visit o c (λ k. stream (ins k) c) (visits who ins (suc c) n) ≡ []
      by None p rest = rest
      by (Some k) p rest = absurd (h c k p (omega arith) (omega arith))

  -- past the visits that are found none, those of n cycles are those of the rest
  visits-skip : (m n c : ℕ) → ((u k : ℕ) → who u ≡ Some k → c ≤ u → u < c + m → ⊥) → visits who ins c (m + n) ≡ visits who ins (c + m) n
  visits-skip zero n c h = let e : zero + n ≡ n = omega arith in let d : c + zero ≡ c = omega arith in rw (e, d) refl
  visits-skip (suc m) n c h =
      let e : suc m + n ≡ suc (m + n) = omega arith in let d : c + suc m ≡ suc c + m = omega arith in
      rw (e, d) (by (who c) refl (visits-skip m n (suc c) (λ u k p l q. h u k p (omega arith) (omega arith))))
    where
      by : (o : Option ℕ) → who c ≡ o → visits who ins (suc c) (m + n) ≡ visits who ins (suc c + m) n → with_visit o c (λ k. stream (ins k) c) (visits who ins (suc c) (m + n)) ≡ visits who ins (suc c + m) n
      by None p rest = rest
      by (Some k) p rest = absurd (h c k p (omega arith) (omega arith))

  -- the visits before a stretch of cycles are over, and those after it are not yet heard
  pub record Apart (c n : ℕ) : Type 0 where
    pub before : (u k : ℕ) → who u ≡ Some k → u < c → u + (f.le + 1) ≤ c + f.a
    pub after : (u k : ℕ) → who u ≡ Some k → c + n ≤ u → c + n + f.le ≤ u + f.a

  rows_none : (n c : ℕ) → ((d u k : ℕ) → c ≤ d → d < c + n → who u ≡ Some k → u + f.a ≤ d → d ≤ u + f.le → ⊥) → rows (all_of outs count) c n ≡ []
  rows_none n c h = rows-quiet (all_of outs count) n c (λ d l m. any_quiet d (λ u k p low high. h d u k l m p low high))

  pub joined : (fuel n c : ℕ) → n ≤ fuel → f.a ≤ f.le → Apart c n → Joined means (visits who ins c n) (rows (all_of outs count) (c + f.a) (n + (f.le - f.a)))
  joined fuel zero c small wide ap' =
      rows_none (zero + (f.le - f.a)) (c + f.a) (λ d u k l m p low high. elim (cases_lt u c) [
        | inl q ↦ omega (arith, ap'.before u k p q, l, high)
        | inr q ↦ omega (arith, ap'.after u k p (omega (arith, q)), m, low, wide)
      ])
  joined zero (suc n) c small wide ap' = absurd (omega (arith, small))
  joined (suc fuel) (suc n) c small wide ap' = by (who c) refl (λ m d l a. joined fuel m d l wide a)
    where
      -- the cycles after c that a visit at c takes up
      st : ℕ
      st = suc f.le - f.a

      far : (k u l : ℕ) → who c ≡ Some k → who u ≡ Some l → c < u → c + (f.le + 1) ≤ u + f.a
      far k u l p q m = sch_apart c u k l p q m

      none : who c ≡ None → tuple_of_any outs count (c + f.a) ≡ None
      none p = any_quiet (c + f.a) (λ u k q low high. elim (cases_lt u c) [
        | inl m ↦ omega (arith, ap'.before u k q m, high)
        | inr m ↦ (let e : u ≡ c = omega (arith, m, low) in let z = ap who e in cc (z, p, q))
      ])

      next : who c ≡ None → Apart (suc c) n
      next p = record {
        before = λ u k q m. elim (cases_lt u c) [
          | inl l ↦ omega (arith, ap'.before u k q l)
          | inr l ↦ (let e : u ≡ c = omega (arith, m, l) in let z = ap who e in absurd (cc (z, p, q)))
        ];
        after = λ u k q m. let h = ap'.after u k q (omega (arith, m)) in omega (arith, h);
      }

      jump : (k : ℕ) → who c ≡ Some k → suc f.le - f.a ≤ suc n → Apart (c + (suc f.le - f.a)) (suc n - (suc f.le - f.a))
      jump k p fit = record {
        before = λ u l q m. elim (cases_lt u c) [
          | inl x ↦ omega (arith, ap'.before u l q x, wide)
          | inr x ↦ elim (cases_lt c u) [ inl y ↦ omega (arith, far k u l p q y, m, wide) | inr y ↦ omega (arith, x, y, wide) ]
        ];
        after = λ u l q m. let h = ap'.after u l q (omega (arith, m, fit)) in omega (arith, h, fit);
      }

      by : (o : Option ℕ) → who c ≡ o → ((m d : ℕ) → m ≤ fuel → Apart d m → Joined means (visits who ins d m) (rows (all_of outs count) (d + f.a) (m + (f.le - f.a)))) → Joined means (with_visit o c (λ k. stream (ins k) c) (visits who ins (suc c) n)) (rows (all_of outs count) (c + f.a) (suc n + (f.le - f.a)))
      by None p ih =
          let e : suc n + (f.le - f.a) ≡ suc (n + (f.le - f.a)) = omega arith in
          let d : suc (c + f.a) ≡ suc c + f.a = omega arith in
          rw (e, none p, d) (ih n (suc c) (omega (arith, small)) (next p))
      by (Some k) p ih =
          let whole : rows (all_of outs count) (c + f.a) (suc n + (f.le - f.a)) ≡ rows (all_of outs count) (c + f.a) (suc f.le - f.a) ++ rows (all_of outs count) (c + f.a + (suc f.le - f.a)) (suc n + (f.le - f.a) - (suc f.le - f.a)) =
          (let e : suc n + (f.le - f.a) ≡ (suc f.le - f.a) + (suc n + (f.le - f.a) - (suc f.le - f.a)) = omega (arith, wide) in
          ap (rows (all_of outs count) (c + f.a)) e ∙ rows-split (all_of outs count) (suc f.le - f.a) (suc n + (f.le - f.a) - (suc f.le - f.a)) (c + f.a)) in
          (rows (all_of outs count) (c + f.a) (suc f.le - f.a), rows (all_of outs count) (c + f.a + (suc f.le - f.a)) (suc n + (f.le - f.a) - (suc f.le - f.a)), lift_visit c k p, others (cases_lt (suc n) (suc f.le - f.a)), whole)
        where
          others : (suc n < suc f.le - f.a) ⊎ (suc f.le - f.a ≤ suc n) → Joined means (visits who ins (suc c) n) (rows (all_of outs count) (c + f.a + (suc f.le - f.a)) (suc n + (f.le - f.a) - (suc f.le - f.a)))
          others (inl short) =
              let e : visits who ins (suc c) n ≡ [] = visits-quiet n (suc c) (λ u l q x y. omega (arith, far k u l p q x, y, short, wide)) in
              rw e (rows_none _ (c + f.a + (suc f.le - f.a)) (λ d u l x y q low high. elim (cases_lt u c) [
                | inl m ↦ omega (arith, ap'.before u l q m, x, high, wide)
                | inr m ↦ elim (cases_lt c u) [
                  | inl o ↦ (let v = far k u l p q o in omega (arith, ap'.after u l q (omega (arith, v, short, wide)), y, low, wide))
                  | inr o ↦ omega (arith, o, x, high, wide)
                ]
              ]))
          others (inr fit) =
              let e : n ≡ (f.le - f.a) + (suc n - (suc f.le - f.a)) = omega (arith, fit, wide) in
              let at : suc c + (f.le - f.a) ≡ c + (suc f.le - f.a) = omega (arith, wide) in
              let skip : visits who ins (suc c) n ≡ visits who ins (c + (suc f.le - f.a)) (suc n - (suc f.le - f.a)) =
              ap (visits who ins (suc c)) e ∙ visits-skip (f.le - f.a) (suc n - (suc f.le - f.a)) (suc c) (λ u l q x y. omega (arith, far k u l p q x, y, wide)) ∙ ap (λ x. visits who ins x (suc n - (suc f.le - f.a))) at in
              let len : suc n + (f.le - f.a) - (suc f.le - f.a) ≡ suc n - (suc f.le - f.a) + (f.le - f.a) = omega (arith, fit, wide) in
              let place : c + f.a + (suc f.le - f.a) ≡ c + (suc f.le - f.a) + f.a = omega arith in
              rw (skip, len, place) (ih (suc n - (suc f.le - f.a)) (c + (suc f.le - f.a)) (omega (arith, small, wide)) (jump k p fit))
