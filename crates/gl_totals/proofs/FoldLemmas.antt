-- What a fold carries: a register that begins anew behind each end keeps a state, one that is kept is such a register, and two states that are kept are one.
use Rattle.std.proofs.Common.{◌≡◌, ℕ, zero, suc, Bool, true, false, refl, sym, ap, ◌∙◌, eq-eqb}
use Rattle.std.specs.Prelude.{fold, if◌then◌else◌, nat_eq, ◌&&◌, ◌||◌}
use Rattle.gl_net.specs.declared.node.Bus.{Bus}
use Rattle.gl_net.specs.declared.node.Bit.{Bit}
use Rattle.gl_net.specs.Net.{Run}
use Rattle.gl_wire.specs.Wire.{line_at}
use Rattle.gl_wire_lanes.specs.Keeping.{IsKept, IsRegister, Stays}
use Rattle.gl_wire_lanes.specs.Lanes.{Begins, IsFresh, first_of, single}
use Rattle.gl_wire_lanes.proofs.FoldLemmas.{tables_fold}
use Rattle.gl_wire_lanes.proofs.PairLemmas.{both_kept, pair, pair_chosen, pair_same}
use Rattle.gl_wire_lanes.proofs.SingleLemmas.{register_is_kept}
use Rattle.gl_totals.specs.Folds.{IsFolded, next_of}
use Rattle.gl_totals.specs.Open.{in_register, lane_by, values_at}
use Rattle.gl_totals.specs.declared.fold.Step.{Step}
use Rattle.gl_totals.specs.declared.rows.Rows.{Rows}

pub register_folded : (run : Run) (width first : ℕ) (step : Step) (valid eos : Bit) (before now : Bus) → run.at 1 before.node ≡ first
    → ((t : ℕ) → run.at (suc (suc t)) before.node ≡ (if line_at run eos (suc t) then first else run.at (suc t) now.node))
    → ((t : ℕ) → run.at (suc t) now.node ≡ (if line_at run valid (suc t) then next_of step run width (suc t) (run.at (suc t) before.node) else run.at (suc t) before.node))
    → IsFolded run width first step (in_register valid eos) before now
register_folded run width first step valid eos before now start next with_row = record {
  kept = register_is_kept first (line_at run valid) (line_at run eos) (λ t. run.at t before.node) (λ t. run.at t now.node) (record { start = start; next = next })
      (λ t none.
      with_row t ∙ ap (λ (b : Bool). if b then next_of step run width (suc t) (run.at (suc t) before.node) else run.at (suc t) before.node) none);
  with_row = with_row;
}

-- what is kept of streams one after another, and stays where no row comes, is such a register
module _ {A : Type 0} (initial : A) (valid ends : ℕ → Bool) (before now : ℕ → A) (p : IsKept initial (single valid ends) before now) (stays : Stays valid before now) where
  written : (c : ℕ) → (valid (suc c) || first_of ends (suc c)) ≡ true → ends (suc c) ≡ false → before (suc (suc c)) ≡ now (suc c)
  written c w none =
      p.takes c none ∙ p.leaves c 0
      ∙ ap (λ (b : Bool). if b && (valid (suc c) || first_of ends (suc c)) then now (suc c) else p.word (suc c) 0) (eq-eqb 0 0 refl)
      ∙ ap (λ (b : Bool). if b then now (suc c) else p.word (suc c) 0) w

  left : (c : ℕ) → (valid (suc c) || first_of ends (suc c)) ≡ false → first_of ends (suc c) ≡ false → valid (suc c) ≡ false → ends (suc c) ≡ false → before (suc (suc c)) ≡ now (suc c)
  left zero w begun row none = absurd (cc)
  left (suc c) w begun row none =
      p.takes (suc c) none ∙ p.leaves (suc c) 0
      ∙ ap (λ (b : Bool). if nat_eq 0 0 && b then now (suc (suc c)) else p.word (suc (suc c)) 0) w
      ∙ ap (λ (b : Bool). if b && false then now (suc (suc c)) else p.word (suc (suc c)) 0) (eq-eqb 0 0 refl)
      ∙ sym (p.takes c begun) ∙ sym (stays (suc c) row)

  later : (c : ℕ) (v f e : Bool) → valid (suc c) ≡ v → first_of ends (suc c) ≡ f → ends (suc c) ≡ e → before (suc (suc c)) ≡ (if e then initial else now (suc c))
  later c v f true row begun ended = p.begins (suc c) ended
  later c true f false row begun ended = written c (ap (λ (b : Bool). b || first_of ends (suc c)) row) ended
  later c false true false row begun ended = written c (ap (λ (b : Bool). b || first_of ends (suc c)) row ∙ begun) ended
  later c false false false row begun ended = left c (ap (λ (b : Bool). b || first_of ends (suc c)) row ∙ begun) begun row ended

  pub kept_is_register : IsRegister initial ends before now
  kept_is_register = record { start = p.begins 0 refl; next = λ c. later c _ _ _ refl refl refl }

-- of two states of which one may depend on the other, the second
module _ (run : Run) (rows : Rows) (x : Bus) (step : ℕ × ℕ → ℕ → ℕ × ℕ) (first second : ℕ) (one one_now two two_now : ℕ → ℕ)
    (p : IsKept first (lane_by run rows) one one_now) (q : IsKept second (lane_by run rows) two two_now)
    (one_row : (t : ℕ) → one_now (suc t) ≡ (if line_at run rows.valid (suc t) then (step (pair (one (suc t)) (two (suc t))) (run.at (suc t) x.node)).0 else one (suc t)))
    (two_row : (t : ℕ) → two_now (suc t) ≡ (if line_at run rows.valid (suc t) then (step (pair (one (suc t)) (two (suc t))) (run.at (suc t) x.node)).1 else two (suc t)))
    (begins : Begins (lane_by run rows)) where
  pub folds_second : (t : ℕ) → IsFresh (lane_by run rows) (suc t) → two_now (suc t) ≡ (fold step (pair first second) (values_at run rows x (suc t))).1
  folds_second t fresh =
      ap (λ (s : ℕ × ℕ). s.1)
      (tables_fold step (pair first second) (lane_by run rows) (λ c. run.at c x.node) (λ c. pair (one c) (two c)) (λ c. pair (one_now c) (two_now c)) begins
      (both_kept first second (lane_by run rows) one one_now two two_now p q)
      (λ c.
      let state = step (pair (one (suc c)) (two (suc c))) (run.at (suc c) x.node) in
      pair_same _ _ _ _ (one_row c) (two_row c) ∙ pair_chosen (line_at run rows.valid (suc c)) state.0 (one (suc c)) state.1 (two (suc c))) t fresh)
