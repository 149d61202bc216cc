-- The numbers of windows with spare copies are such numbers, and the copies are the fewest; when windows have some.
use Rattle.std.proofs.Common.{◌≡◌, ℕ, suc, ◌+◌, ◌-◌, ◌*◌, ◌^◌, ◌<◌, ◌≤◌, inl, inr, arith, mul-le-mul_right, Bool, true, ◌&&◌, Some, None, sym, ap, ◌∙◌, subst}
use Rattle.std.specs.Prelude.{max, if◌then◌else◌, nat_eq, nat_le, nat_lt}
use Rattle.std.specs.Int.{div_ceil}
use Rattle.std.proofs.lemmas.Bool.{cases_lt, eqb-true, leb-true, ltb-true}
use Rattle.std.proofs.lemmas.Grind.{div_ceil_times}
use Rattle.gl_algebra.specs.declared.figures.Figures.{Figures}
use Rattle.gl_algebra.specs.FigureTable.{IsSound, needs_spacer, spaced, spacer_figures, stride_of, window_figures, window_gap, windows_over}
use Rattle.gl_bits.specs.Limits.{most_copies}
use Rattle.gl_algebra.specs.Views.{copies_of_window}
use Rattle.gl_algebra.proofs.FigureLemmas.{one_copy}
use Rattle.gl_bits.proofs.Bools.{and_parts, by_cases, else_false}
use Rattle.gl_algebra.specs.declared.figures.Spare.{Spare}
use Rattle.gl_algebra.specs.Spares.{AreSpareNumbers, Suffices, SparesSuffice, has_spare, spare_copies, spare_figures, spare_gap, spare_of, spare_shift}

-- a product that covers
pub covers : (a b : ℕ) → 1 ≤ b → a ≤ div_ceil a b * b
covers a b some = (div_ceil_times a b some).0

-- and no fewer do
pub fewest : (a b c : ℕ) → 1 ≤ b → a ≤ c * b → div_ceil a b ≤ c
fewest a b c some l = elim (cases_lt c (div_ceil a b)) [
  | inl more ↦ absurd (
      let past : suc c * b ≤ div_ceil a b * b = mul-le-mul_right b more in
      let close = (div_ceil_times a b some).1 in
      omega (arith, past, close, l))
  | inr few ↦ few
]

-- enough copies for the gap after an end
ready : (ge gap size advance copies : ℕ) → 1 ≤ gap → 1 ≤ size → 1 ≤ advance → div_ceil (div_ceil ge gap + size - 1) advance ≤ copies
    → ge ≤ (copies * advance - size + 1) * gap
ready ge gap size advance copies some_gap rows step enough =
    let gaps = covers ge gap some_gap in
    let tuples = covers (div_ceil ge gap + size - 1) advance step in
    let all : div_ceil (div_ceil ge gap + size - 1) advance * advance ≤ copies * advance = mul-le-mul_right advance enough in
    let between : div_ceil ge gap ≤ copies * advance - size + 1 = omega (arith, tuples, all, rows) in
    let long : div_ceil ge gap * gap ≤ (copies * advance - size + 1) * gap = mul-le-mul_right gap between in
    omega (arith, gaps, long)

no_fewer : (ge gap size advance copies : ℕ) → 1 ≤ gap → 1 ≤ size → 1 ≤ advance → size ≤ copies * advance
    → ge ≤ (copies * advance - size + 1) * gap → div_ceil (div_ceil ge gap + size - 1) advance ≤ copies
no_fewer ge gap size advance copies some_gap rows step cover long =
    let between = fewest ge gap (copies * advance - size + 1) some_gap long in
    fewest (div_ceil ge gap + size - 1) advance copies step (omega (arith, between, cover, rows))

pub spare_numbers_suffice : (f s : Figures) (size advance : ℕ) → IsSound f → f.a ≡ f.le → 1 ≤ size → 1 ≤ advance
    → AreSpareNumbers f s size advance (spare_copies (spare_gap f s advance) s size advance) (spare_gap f s advance)
    (spare_shift (spare_gap f s advance) s)
spare_numbers_suffice f s size advance sound at_once rows step =
    let some_gap : 1 ≤ spare_gap f s advance = omega (arith, sound.tuples_gap) in
    let cover : size ≤ copies_of_window size advance * advance = covers size advance step in
    let near : div_ceil (stride_of s) advance ≤ spare_gap f s advance = omega arith in
    let product : div_ceil (stride_of s) advance * advance ≤ spare_gap f s advance * advance = mul-le-mul_right advance near in
    let strides = covers (stride_of s) advance step in
    let turned : spare_gap f s advance * advance ≡ advance * spare_gap f s advance = omega arith in
    record {
      are = record {
        rows = rows;
        step = step;
        turns_some = one_copy size advance rows step;
        enough = omega arith;
        cover = cover;
        at_once = at_once;
        source_gap = omega arith;
        body_gap = omega arith;
        strides = omega (arith, product, strides, turned);
        late = omega arith;
        again = ready s.ge (spare_gap f s advance) size advance (spare_copies (spare_gap f s advance) s size advance) some_gap rows step (omega arith);
      };
      fewest = λ fewer more long.
          let wide : copies_of_window size advance * advance ≤ fewer * advance = mul-le-mul_right advance more in
          let least = no_fewer s.ge (spare_gap f s advance) size advance fewer some_gap rows step (omega (arith, wide, cover)) long in
          omega (arith, least, more);
    }

-- no spacer stands behind a source that gives each beat's tuples and end in one cycle
unspaced : (gap : ℕ) (f : Figures) → f.a ≡ f.le → spaced gap f ≡ f
unspaced gap f at_once =
    ap (λ (b : Bool). if b then spacer_figures gap f else f)
    (else_false (needs_spacer gap f) (λ h. omega (arith, ltb-true f.a f.le (and_parts (nat_lt 1 gap) (nat_lt f.a f.le) h).1, at_once)))

-- so the gap without spare copies is the body's, or the source's where it is more
pub own_gap : (turns : ℕ) (f s : Figures) → IsSound f → f.a ≡ f.le → (window_figures turns f s).gt ≡ max f.gt (max s.gt s.ge)
own_gap turns f s sound at_once =
    let none : f.lt - f.a + window_gap s ≡ window_gap s = omega (arith, sound.tuples_last, sound.end_last, at_once) in
    ap (λ (g : Figures). (windows_over turns g s).gt) (unspaced (window_gap s) f at_once) ∙ ap (max f.gt) none

-- windows have spare copies
pub record HasSpare (size advance : ℕ) (f s : Figures) : Type 0 where
  pub at_once : f.a ≡ f.le
  pub closer : spare_gap f s advance < (window_figures (copies_of_window size advance) f s).gt
  pub few : spare_copies (spare_gap f s advance) s size advance ≤ most_copies
  pub soon : (spare_figures size advance f s).le + 1 < 2 ^ 32

module _ (size advance : ℕ) (f s : Figures) where
  abbrev gap : ℕ
  gap = spare_gap f s advance

  abbrev copies : ℕ
  copies = spare_copies gap s size advance

  abbrev own : ℕ
  own = (window_figures (copies_of_window size advance) f s).gt

  abbrev last : ℕ
  last = (spare_figures size advance f s).le + 1

  abbrev numbers : Spare
  numbers = record { copies = copies; gap = gap; shift = spare_shift gap s }

  parts : has_spare size advance f s ≡ true → HasSpare size advance f s
  parts h =
      let third = and_parts (nat_eq f.a f.le && nat_lt gap own && nat_le copies most_copies) (nat_lt last (2 ^ 32)) h in
      let second = and_parts (nat_eq f.a f.le && nat_lt gap own) (nat_le copies most_copies) third.0 in
      let first = and_parts (nat_eq f.a f.le) (nat_lt gap own) second.0 in
      record {
        at_once = eqb-true f.a f.le first.0;
        closer = ltb-true gap own first.1;
        few = leb-true copies most_copies second.1;
        soon = ltb-true last (2 ^ 32) third.1;
      }

  -- what is there are the numbers
  pub spare_is : (it : Spare) → spare_of size advance f s ≡ Some it → (it ≡ numbers) × HasSpare size advance f s
  spare_is it h =
      by_cases (has_spare size advance f s)
      (λ e. (let same : Some numbers ≡ Some it = sym (ap (λ (b : Bool). if b then Some numbers else None) e) ∙ h in cc (same), parts e))
      (λ e. absurd (let none : None ≡ Some it = sym (ap (λ (b : Bool). if b then Some numbers else None) e) ∙ h in cc (none)))

pub spares_suffice : SparesSuffice
spares_suffice f s size advance it sound rows step h =
    let is = spare_is size advance f s it h in
    let all = spare_numbers_suffice f s size advance sound is.1.at_once rows step in
    subst (Suffices f s size advance) (sym is.0) (record { numbers = all; closer = is.1.closer })
