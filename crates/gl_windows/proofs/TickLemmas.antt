-- Ticks that stand at beats keep to the beats of a stream.
use Rattle.std.proofs.Common.{◌≡◌, ℕ, zero, suc, ◌+◌, ◌-◌, ◌≤◌, Some, Bool, true, false, ap, arith, inl, inr, ◌⊎◌}
use Rattle.std.proofs.lemmas.Bool.{cases_lt}
use Rattle.gl_algebra.specs.FigureTable.{input_figures}
use Rattle.gl_bits.specs.Words.{bit}
use Rattle.gl_wire.specs.Apart.{Carries}
use Rattle.gl_wire.specs.Beats.{Beats, last, most}
use Rattle.gl_wire.specs.Serves.{Caused, Fits}
use Rattle.gl_wire.specs.Wire.{Carried}
use Rattle.gl_wire.proofs.ApartLemmas.{carried_beat}
use Rattle.gl_wire.specs.Coming.{KeepsBeats}
use Rattle.gl_wire.specs.Ticks.{TicksFit, ticks_in}
use Rattle.gl_windows.specs.Ticks.{by_ticks}

bit_low : (b : Bool) → bit b ≤ 1
bit_low true = omega arith
bit_low false = omega arith

ticks-part : (tick : ℕ → Bool) (lo n x m : ℕ) → lo ≤ x → x + m ≤ lo + n → ticks_in tick x m ≤ ticks_in tick lo n
ticks-part tick lo n x zero l h = omega arith
ticks-part tick lo zero x (suc m) l h = absurd (omega (arith, l, h))
ticks-part tick lo (suc n) x (suc m) l h = elim (cases_lt lo x) [
  | inl y ↦ (let z = ticks-part tick (suc lo) n x (suc m) (omega (arith, y)) (omega (arith, h)) in omega (arith, z))
  | inr y ↦
      let e : lo ≡ x = omega (arith, l, y) in
      let z = ticks-part tick (suc lo) n (suc x) m (omega (arith, l)) (omega (arith, h)) in
      let b : bit (tick lo) ≡ bit (tick x) = ap (λ c. bit (tick c)) e in
      omega (arith, z, b)
]

pub ticks_keep : (tick : ℕ → Bool) (beats : Beats) (a : Carried) → Fits input_figures beats a → TicksFit tick beats → KeepsBeats input_figures beats a (by_ticks tick a)
ticks_keep tick beats a fits at = record {
  carried = λ c k. inr k;
  caused = caused;
  after = λ t u c p h l m k. omega (arith, h.low, l, m);
  few = few;
  part = ticks-part tick;
}
  where
    here : (c : ℕ) (e : Bool) → beats c ≡ Some e → c ≤ c + last input_figures e
    here c true p = omega arith
    here c false p = omega arith

    caused : (c : ℕ) → (tick c ≡ true) ⊎ Carries a c → Caused input_figures beats c
    caused c (inl p) = let x = at.each c p in record { beat = c; end = x.0; is = x.1; low = omega arith; high = here c x.0 x.1 }
    caused c (inr k) = carried_beat input_figures beats a fits c k

    few : (t : ℕ) (e : Bool) → beats t ≡ Some e → ticks_in tick (t + 0) (suc (last input_figures e) - 0) ≤ most input_figures e
    few t true p = let z = bit_low (tick (t + 0)) in omega (arith, z)
    few t false p = let z = bit_low (tick (t + 0)) in omega (arith, z)
