-- Whether one of some visits spills, and when all that a copy takes is ended.
use Rattle.std.proofs.Common.{◌≡◌, ℕ, zero, suc, ◌+◌, ◌-◌, ◌<◌, ◌≤◌, List, [], ◌∷◌, length, map, Option, Some, None, Bool, true, false, ◌||◌, refl, sym, ap, ◌∙◌, arith, inl, inr, ◌⊎◌, length-append}
use Rattle.std.proofs.lemmas.Bool.{cases_lt, or_cases, or_left, or_right}
use Rattle.gl_values.specs.Results.{Row, Results, AreJoined}
use Rattle.gl_wire.specs.Beats.{beats_of, Ends}
use Rattle.gl_wire.specs.Wire.{Carried, pending, stream, rows}
use Rattle.gl_wire.proofs.RowsLemmas.{rows-part, rows-one, pending-rows}
use Rattle.gl_wire.specs.Lift.{Visits, visits, with_visit, Joined}
use Rattle.gl_wire.proofs.AnyLemmas.{first_true}

module _ (spill : ℕ → Bool) where
  abbrev pub any_spill : List (ℕ × List Row) → Bool
  any_spill [] = false
  any_spill (v ∷ vs) = spill v.0 || any_spill vs

  -- what is joined of the visits is so of their parts
  pub are_joined : {Part : Type 0} (of : ℕ × List Row → Part) (OfPart : Part → Results) (vs : List (ℕ × List Row)) (ys : List Row)
      → Joined (λ u xs zs. OfPart (of (u, xs)) zs (spill u)) vs ys → AreJoined OfPart (map of vs) ys (any_spill vs)
  are_joined of OfPart [] ys j = (j, refl)
  are_joined of OfPart (v ∷ vs) ys (zs, ws, one, rest, is) = (zs, ws, spill v.0, any_spill vs, one, are_joined of OfPart vs ws rest, is, refl)

  module _ (who : Visits) (ins : ℕ → Carried) where
    -- then one of them spills
    pub spilling : (n c : ℕ) → any_spill (visits who ins c n) ≡ true → (v : ℕ) × (k : ℕ) × (who v ≡ Some k) × (spill v ≡ true)
    spilling zero c h = absurd (cc)
    spilling (suc n) c h = by (who c) refl h (λ e. spilling n (suc c) e)
      where
        by : (o : Option ℕ) → who c ≡ o → any_spill (with_visit o c (λ k. stream (ins k) c) (visits who ins (suc c) n)) ≡ true → (any_spill (visits who ins (suc c) n) ≡ true → (v : ℕ) × (k : ℕ) × (who v ≡ Some k) × (spill v ≡ true)) → (v : ℕ) × (k : ℕ) × (who v ≡ Some k) × (spill v ≡ true)
        by None p q ih = ih q
        by (Some k) p q ih = elim (or_cases (spill c) (any_spill (visits who ins (suc c) n)) q) [ inl e ↦ (c, k, p, e) | inr e ↦ ih e ]

    -- where one of them does
    pub spilt : (n c v k : ℕ) → who v ≡ Some k → c ≤ v → v < c + n → spill v ≡ true → any_spill (visits who ins c n) ≡ true
    spilt zero c v k w l q e = absurd (omega (arith, l, q))
    spilt (suc n) c v k w l q e = by (who c) refl (cases_lt c v) (λ x. spilt n (suc c) v k w x (omega (arith, q)) e)
      where
        by : (o : Option ℕ) → who c ≡ o → ((c < v) ⊎ (v ≤ c)) → (suc c ≤ v → any_spill (visits who ins (suc c) n) ≡ true) → any_spill (with_visit o c (λ i. stream (ins i) c) (visits who ins (suc c) n)) ≡ true
        by None p (inl x) ih = ih x
        by None p (inr x) ih = absurd (let g : v ≡ c = omega (arith, l, x) in let y = ap who g in cc (y, w, p))
        by (Some j) p (inl x) ih = or_right (spill c) (any_spill (visits who ins (suc c) n)) (ih x)
        by (Some j) p (inr x) ih = let g : v ≡ c = omega (arith, l, x) in or_left (spill c) (any_spill (visits who ins (suc c) n)) (ap spill (sym g) ∙ e)

-- in a later cycle nothing is pending
pub record IsEmptied (r : Carried) (t : ℕ) : Type 0 where
  pub at : ℕ
  pub behind : t < at
  pub none : pending r at ≡ []

-- where that is so of each tuple without an end, a wire's own beats end
pub wire_ends : (r : Carried) → ((t : ℕ) (x : Row) → r.tuple t ≡ Some x → r.ends t ≡ false → IsEmptied r t) → Ends (beats_of r)
wire_ends r emptied = record { ends = λ t e p. by t (r.ends t) refl (r.tuple t) refl e p }
  where
    beat_end : (c : ℕ) → r.ends c ≡ true → beats_of r c ≡ Some true
    beat_end c e = rw e refl

    later : (t : ℕ) (x : Row) → r.tuple t ≡ Some x → r.ends t ≡ false → (u : ℕ) × (t ≤ u) × (beats_of r u ≡ Some true)
    later t x h n =
        let z = emptied t x h n in
        elim (first_true r.ends (z.at - t) t) [
          | inl (i, y, w, p, g) ↦ (i, y, beat_end i p)
          | inr g ↦ absurd (
              let at : t + (z.at - t) ≡ z.at = omega (arith, z.behind) in
              let grown = pending-rows r (z.at - t) t g in
              let one = rows-one r t x h in
              let part = rows-part r t (z.at - t) t 1 (omega arith) (omega (arith, z.behind)) in
              let len : length (pending r z.at) ≡ length (pending r t) + length (rows r t (z.at - t)) = ap (λ i. length (pending r i)) (sym at) ∙ ap length grown ∙ length-append (pending r t) (rows r t (z.at - t)) in
              let zero_len : length (pending r z.at) ≡ 0 = ap length z.none in
              omega (arith, len, zero_len, one, part))
        ]

    by : (t : ℕ) (x : Bool) → r.ends t ≡ x → (o : Option Row) → r.tuple t ≡ o → (e : Bool) → beats_of r t ≡ Some e → (u : ℕ) × (t ≤ u) × (beats_of r u ≡ Some true)
    by t true n o h e p = (t, omega arith, beat_end t n)
    by t false n (Some x) h e p = later t x h n
    by t false n None h e p = absurd (let z : beats_of r t ≡ None = rw (n, h) refl in cc (z, p))
