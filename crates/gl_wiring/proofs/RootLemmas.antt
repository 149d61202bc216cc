-- From what the root's wire gives over one stream to what the output shows.
use Rattle.std.proofs.Common.{◌≡◌, ℕ, zero, suc, ◌+◌, ◌-◌, ◌<◌, List, ◌++◌, None, Bool, true, false, ◌||◌, refl, sym, ap, ◌∙◌, subst, arith, inl, inr}
use Rattle.std.specs.Prelude.{option_to_list}
use Rattle.std.proofs.lemmas.List.{append-nil}
use Rattle.std.proofs.lemmas.Bool.{false_from_ne_true, or_cases}
use Rattle.std.proofs.Math.Bool.{or-true}
use Rattle.gl_algebra.specs.declared.figures.Figures.{Figures}
use Rattle.gl_values.specs.Results.{Row, Results}
use Rattle.gl_bits.proofs.Bools.{same_when}
use Rattle.gl_wire.specs.Once.{ServingOnce}
use Rattle.gl_wire.specs.Shapes.{IsDelayed}
use Rattle.gl_wire.specs.Spills.{Lines}
use Rattle.gl_wire.specs.Wire.{Carried, pending, stream, rows}
use Rattle.gl_wire.proofs.RowsLemmas.{rows-split, pending-rows}
use Rattle.gl_wiring.specs.Root.{IsSticky, ShowsRight, later_line}

-- a line that is never 1 is not so a cycle later
low_later : (line : ℕ → Bool) → ((c : ℕ) → line c ≡ false) → (c : ℕ) → later_line line c ≡ false
low_later line h zero = refl
low_later line h (suc c) = h c

module _ (line sticky : ℕ → Bool) (s : IsSticky line sticky) where
  -- once it is 1 it stays so
  sticky_lasts : (c : ℕ) → sticky c ≡ true → sticky (suc c) ≡ true
  sticky_lasts c h = s.next c ∙ ap (λ (b : Bool). b || line c) h

  sticky_later : (n c : ℕ) → sticky c ≡ true → sticky (n + c) ≡ true
  sticky_later zero c h = let e : zero + c ≡ c = omega arith in rw e h
  sticky_later (suc n) c h = let e : suc n + c ≡ suc (n + c) = omega arith in rw e (sticky_lasts (n + c) (sticky_later n c h))

  -- it is 1 behind every cycle in which the line was
  sticky_after : (c d : ℕ) → c < d → line c ≡ true → sticky d ≡ true
  sticky_after c d l h =
      let here : sticky (suc c) ≡ true = s.next c ∙ ap (λ (b : Bool). sticky c || b) h ∙ or-true (sticky c) in
      let e : (d - suc c) + suc c ≡ d = omega arith in subst (λ (i : ℕ). sticky i ≡ true) e (sticky_later (d - suc c) (suc c) here)

  -- and only there
  sticky_from : (d : ℕ) → sticky d ≡ true → (c : ℕ) × (c < d) × (line c ≡ true)
  sticky_from zero h = absurd (let f = s.first in cc)
  sticky_from (suc d) h = elim (or_cases (sticky d) (line d) (sym (s.next d) ∙ h)) [
    | inl p ↦ (let x = sticky_from d p in (x.0, omega (arith, x.1), x.2))
    | inr p ↦ (d, omega arith, p)
  ]

  sticky_none : ((c : ℕ) → line c ≡ false) → (d : ℕ) → sticky d ≡ false
  sticky_none h d = false_from_ne_true (sticky d) (λ p. let x = sticky_from d p in let z = h x.0 in let y = x.2 in cc)

module _ (b o : Carried) (d : IsDelayed 1 b o) where
  rows_later : (n c : ℕ) → rows o (c + 1) n ≡ rows b c n
  rows_later zero c = refl
  rows_later (suc n) c = let e : suc (c + 1) ≡ suc c + 1 = omega arith in rw (d.tuples c, e, rows_later n (suc c)) refl

  -- all rows up to a cycle
  rows_shown : (e : ℕ) → rows o 0 (suc (suc e)) ≡ rows b 0 (suc e)
  rows_shown e = let z : 0 < 1 = omega arith in let i : suc 0 ≡ 0 + 1 = omega arith in rw (d.before 0 z, i) (rows_later (suc e) 0)

-- where no end came before, the stream is all rows
pub first_stream : (b : Carried) (e : ℕ) → ((c : ℕ) → c < e → b.ends c ≡ false) → stream b e ≡ rows b 0 (suc e)
first_stream b e quiet =
    let n : zero + e ≡ e = omega arith in
    let m : suc e ≡ e + 1 = omega arith in
    let p : pending b e ≡ rows b 0 e = rw n at (pending-rows b e zero (λ k l h. quiet k (omega arith))) in
    ap (λ (l : List Row). l ++ option_to_list (b.tuple e)) p
    ∙ ap (λ (l : List Row). rows b 0 e ++ l) (sym (append-nil (option_to_list (b.tuple e))))
    ∙ ap (λ (i : ℕ). rows b 0 e ++ rows b i 1) (sym n) ∙ sym (rows-split b e 1 0) ∙ ap (rows b 0) (sym m)

pub once_shows : (f : Figures) (means : Results) (lines : Lines) (b o : Carried) (group queue : ℕ → Bool) (last : ℕ)
    → ServingOnce f means lines last b → IsDelayed 1 b o
    → IsSticky lines.further group → IsSticky (later_line lines.passed) queue → ShowsRight f means last o group queue
once_shows f means lines b o group queue last s d g q = record {
  ended = s.ended;
  soonest = omega (arith, s.low);
  in_time = s.high;
  ends = ap o.ends (next s.ended) ∙ d.ends s.ended ∙ s.ends;
  once = once;
  none_later = none_later;
  no_overflow = sticky_none (later_line lines.passed) queue q (low_later lines.passed s.unpassed);
  meets = subst (λ (xs : List Row). means xs (group (suc s.ended))) (sym (rows_shown b o d s.ended ∙ sym (first_stream b s.ended quiet)))
      (subst (means (stream b s.ended)) (same_when s.spill (group (suc s.ended)) told so) s.right);
  lasts = sticky_lasts lines.further group g;
  stays = λ c l. same_when (group c) (group (suc s.ended))
      (λ h. let x = sticky_from lines.further group g c h in
      sticky_after lines.further group g x.0 (suc s.ended) (omega (arith, s.late x.0 x.2)) x.2)
      (λ h. let x = sticky_from lines.further group g (suc s.ended) h in
      sticky_after lines.further group g x.0 c (let y = x.1 in omega (arith, y, l)) x.2);
}
  where
    next : (c : ℕ) → suc c ≡ c + 1
    next c = omega arith

    quiet : (c : ℕ) → c < s.ended → b.ends c ≡ false
    quiet c l = false_from_ne_true (b.ends c) (λ h. omega (arith, s.once c h, l))

    once : (c : ℕ) → o.ends c ≡ true → c ≡ suc s.ended
    once zero h = absurd (let n = d.no_end 0 (omega arith) in cc (n, h))
    once (suc c) h = ap suc (s.once c (sym (d.ends c) ∙ ap o.ends (sym (next c)) ∙ h))

    none_later : (c : ℕ) → suc s.ended < c → o.tuple c ≡ None
    none_later zero l = absurd (omega (arith, l))
    none_later (suc c) l = ap o.tuple (next c) ∙ d.tuples c ∙ s.none_later c (omega (arith, l))

    told : s.spill ≡ true → group (suc s.ended) ≡ true
    told h = let x = s.told h in sticky_after lines.further group g x.0 (suc s.ended) (omega (arith, s.late x.0 x.1)) x.1

    so : group (suc s.ended) ≡ true → s.spill ≡ true
    so h = let x = sticky_from lines.further group g (suc s.ended) h in s.so x.0 x.2
