-- The lines of a circuit with late ends give a wire with late ends.
use Rattle.std.proofs.Common.{◌≡◌, ℕ, zero, suc, ◌+◌, ◌-◌, ◌<◌, ◌≤◌, Option, Some, None, Bool, true, false, not, ◌&&◌, ◌||◌, refl, sym, ap, ◌∙◌, arith}
use Rattle.std.specs.Prelude.{if◌then◌else◌}
use Rattle.gl_values.specs.Results.{Row}
use Rattle.gl_wire.specs.Apart.{Carries, a_tuple, an_end}
use Rattle.gl_wire.specs.Wire.{Carried}
use Rattle.gl_spare.specs.LateEnds.{IsLate, AreLateLines, LateLinesAreLate}

kept : (h : Bool) → ((false && h) || (h && true)) ≡ h
kept true = refl
kept false = refl

with_own : (v h : Bool) → ((true && v) || (h && false)) ≡ v
with_own true h = refl
with_own false true = refl
with_own false false = refl

alone_by : (v e h : Bool) (x : Row) (y : Row) → (if (v && not e) || (false && h) then Some (if false then y else x) else None) ≡ (if e then None else (if v then Some x else None))
alone_by true true h x y = refl
alone_by true false h x y = refl
alone_by false true h x y = refl
alone_by false false h x y = refl

ended_by : (v n : Bool) (x y : Row) → (v ≡ true → y ≡ x) → (if (false && n) || (true && v) then Some (if true then y else x) else None) ≡ (if v then Some x else None)
ended_by true n x y same = ap (λ r. Some r) (same refl)
ended_by false n x y same = refl

module _ (shift : ℕ) (a b : Carried) (valid had fired : ℕ → Bool) (columns row : ℕ → Row) (some : 1 ≤ shift) (l : AreLateLines shift a b valid had fired columns row)
    (quiet : (u d : ℕ) → a.ends u ≡ true → Carries a d → u < d → u + shift < d) where
  fires : (c : ℕ) → fired (c + shift) ≡ a.ends c
  fires c = l.fired'.later (λ u d p q m. let z = quiet u d p (an_end q) m in omega (arith, z)) c

  no_valid : (u d : ℕ) → a.ends u ≡ true → u < d → d ≤ u + shift → valid d ≡ false
  no_valid u d p m n = by (valid d) refl
    where
      by : (v : Bool) → valid d ≡ v → valid d ≡ false
      by false e = e
      by true e = absurd (let z = quiet u d p (a_tuple (columns d) (l.tuple d ∙ ap (λ (v : Bool). if v then Some (columns d) else None) e)) m in omega (arith, z, n))

  no_end_now : (u d : ℕ) → a.ends u ≡ true → u < d → d ≤ u + shift → a.ends d ≡ false
  no_end_now u d p m n = by (a.ends d) refl
    where
      by : (e : Bool) → a.ends d ≡ e → a.ends d ≡ false
      by false e = e
      by true e = absurd (let z = quiet u d p (an_end e) m in omega (arith, z, n))

  -- what came with an end is kept
  had_still : (n u : ℕ) → a.ends u ≡ true → suc n ≤ shift → had (suc (u + n)) ≡ valid u
  had_still zero u p m =
      let e : u + zero ≡ u = omega arith in
      let q = p in
      ap (λ i. had (suc i)) e ∙ l.had' u ∙ rw q (with_own (valid u) (had u))
  had_still (suc n) u p m =
      let e : u + suc n ≡ suc (u + n) = omega arith in
      let q = no_end_now u (suc (u + n)) p (omega arith) (omega (arith, m)) in
      ap (λ i. had (suc i)) e ∙ l.had' (suc (u + n))
      ∙ ap (λ (x : Bool). (x && valid (suc (u + n))) || (had (suc (u + n)) && not x)) q
      ∙ kept_of (valid (suc (u + n))) (had (suc (u + n))) ∙ had_still n u p (omega (arith, m))
    where
      kept_of : (v h : Bool) → ((false && v) || (h && true)) ≡ h
      kept_of v true = refl
      kept_of v false = refl

  row_still : (n u : ℕ) → a.ends (suc u) ≡ true → valid (suc u) ≡ true → suc n ≤ shift → row (suc (suc u + n)) ≡ columns (suc u)
  row_still zero u p v m =
      let e : suc (suc u + zero) ≡ suc (suc u) = omega arith in
      ap row e ∙ l.row' u ∙ ap (λ (x : Bool). if x then columns (suc u) else row (suc u)) v
  row_still (suc n) u p v m =
      let e : suc (suc u + suc n) ≡ suc (suc (suc u + n)) = omega arith in
      let q = no_valid (suc u) (suc (suc u + n)) p (omega arith) (omega (arith, m)) in
      ap row e ∙ l.row' (suc u + n)
      ∙ ap (λ (x : Bool). if x then columns (suc (suc u + n)) else row (suc (suc u + n))) q ∙ row_still n u p v (omega (arith, m))

  at_end : (c : ℕ) → a.ends c ≡ true → b.tuple (c + shift) ≡ a.tuple c
  at_end zero h = absurd (let z = l.no_end in cc (z, h))
  at_end (suc u) h =
      let e : suc (suc u + (shift - 1)) ≡ suc u + shift = omega (arith, some) in
      let f : fired (suc u + shift) ≡ true = fires (suc u) ∙ h in
      let v : valid (suc u + shift) ≡ false = no_valid (suc u) (suc u + shift) h (omega (arith, some)) (omega arith) in
      let g : had (suc u + shift) ≡ valid (suc u) = ap had (sym e) ∙ had_still (shift - 1) (suc u) h (omega (arith, some)) in
      l.out_tuple (suc u + shift)
      ∙ ap (λ (x : Bool). if (x && not (a.ends (suc u + shift))) || (fired (suc u + shift) && had (suc u + shift)) then Some (if fired (suc u + shift) then row (suc u + shift) else columns (suc u + shift)) else None) v
      ∙ ap (λ (x : Bool). if (false && not (a.ends (suc u + shift))) || (x && had (suc u + shift)) then Some (if x then row (suc u + shift) else columns (suc u + shift)) else None) f
      ∙ ap (λ (x : Bool). if (false && not (a.ends (suc u + shift))) || (true && x) then Some (if true then row (suc u + shift) else columns (suc u + shift)) else None) g
      ∙ ended_by (valid (suc u)) (not (a.ends (suc u + shift))) (columns (suc u)) (row (suc u + shift)) (λ p. ap row (sym e) ∙ row_still (shift - 1) u h p (omega (arith, some)))
      ∙ sym (l.tuple (suc u))

  lines_late : IsLate shift a b
  lines_late = record {
    no_end = λ c m. l.out_end c ∙ l.fired'.before c m;
    ends = λ c. l.out_end (c + shift) ∙ fires c;
    with_end = at_end;
    alone = λ c h.
        let f : fired c ≡ false = sym (l.out_end c) ∙ h in
        l.out_tuple c
        ∙ ap (λ (x : Bool). if (valid c && not (a.ends c)) || (x && had c) then Some (if x then row c else columns c) else None) f
        ∙ alone_by (valid c) (a.ends c) (had c) (columns c) (row c)
        ∙ ap (λ (o : Option Row). if a.ends c then None else o) (sym (l.tuple c));
  }

pub late_lines_are_late : LateLinesAreLate
late_lines_are_late shift a b valid had fired columns row some l quiet = lines_late shift a b valid had fired columns row some l quiet
