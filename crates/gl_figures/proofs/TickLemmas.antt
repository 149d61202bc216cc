-- The gaps of windows of time whose ticks are farther apart than tuples: what they are, that they are enough for the body, and that no
-- beat is farther apart with them.
use Rattle.std.proofs.Common.{◌≡◌, ℕ, ◌*◌, ◌<◌, ◌≤◌, Bool, Some, None, sym, ap, ◌∙◌, arith, mul-le-mul_right}
use Rattle.std.specs.Prelude.{if◌then◌else◌, nat_lt}
use Rattle.std.specs.Int.{div_ceil}
use Rattle.std.proofs.Math.Nat.{le-mul_of_pos_right}
use Rattle.std.proofs.lemmas.Bool.{ltb-true}
use Rattle.gl_bits.proofs.Bools.{by_cases}
use Rattle.gl_algebra.specs.declared.figures.Figures.{Figures}
use Rattle.gl_root_gaps.specs.declared.TickGaps.{TickGaps}
use Rattle.gl_algebra.specs.FigureTable.{IsSound, stride_of, window_gap, windows_over}
use Rattle.gl_root_gaps.specs.TickGaps.{tick_gap, tick_gaps_of, ticks_to_end, ticks_to_next}
use Rattle.gl_figures.proofs.SpareLemmas.{covers, fewest}

-- what so many gaps cover
within : (x k gap : ℕ) → 1 ≤ k → div_ceil x k ≤ gap → x ≤ k * gap
within x k gap some near =
    let all : div_ceil x k * k ≤ gap * k = mul-le-mul_right k near in
    let turned : gap * k ≡ k * gap = omega arith in
    omega (arith, covers x k some, all, turned)

-- a part is no more than the whole
no_more : (x k : ℕ) → 1 ≤ k → div_ceil x k ≤ x
no_more x k some = fewest x k x some (le-mul_of_pos_right x some)

module _ (size advance : ℕ) (s : Figures) where
  abbrev numbers : TickGaps
  numbers = record { gap = s.gt; ticks = tick_gap size advance s }

  -- what is there are the numbers
  pub tick_gaps_are : (it : TickGaps) → tick_gaps_of size advance s ≡ Some it → (it ≡ numbers) × (s.gt < s.ge)
  tick_gaps_are it h =
      by_cases (nat_lt s.gt s.ge)
      (λ e. (let same : Some numbers ≡ Some it = sym (ap (λ (b : Bool). if b then Some numbers else None) e) ∙ h in cc (same), ltb-true s.gt s.ge e))
      (λ e. absurd (let none : None ≡ Some it = sym (ap (λ (b : Bool). if b then Some numbers else None) e) ∙ h in cc (none)))

  -- two windows are told one after another, and a copy is ready again
  pub told_apart : stride_of s ≤ ticks_to_end size advance * tick_gap size advance s
  told_apart = within (stride_of s) (ticks_to_end size advance) (tick_gap size advance s) (omega arith) (omega arith)

  pub ready_again : s.ge ≤ ticks_to_next size advance * tick_gap size advance s
  ready_again = within s.ge (ticks_to_next size advance) (tick_gap size advance s) (omega arith) (omega arith)

  -- ticks are no farther apart than the body's ends are
  pub no_farther : IsSound s → tick_gap size advance s ≤ s.ge
  no_farther sound =
      let told = no_more (stride_of s) (ticks_to_end size advance) (omega arith) in
      let ready = no_more s.ge (ticks_to_next size advance) (omega arith) in
      omega (arith, told, ready, sound.end_gap, sound.gaps)

-- windows over a body are no closer than its ends
pub over_gap : (turns : ℕ) (g s : Figures) → window_gap s ≤ (windows_over turns g s).gt
over_gap turns g s = omega arith
