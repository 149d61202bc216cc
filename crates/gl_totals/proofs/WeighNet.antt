-- Weighted sums, from two folds: the place of the next weight, and the sum.
use Rattle.std.proofs.Common.{◌≡◌, ℕ, suc, ◌+◌, ◌-◌, ◌*◌, ◌/◌, ◌%◌, ◌^◌, ◌≤◌, List, ◌∷◌, length, sym, ap, ◌∙◌, arith}
use Rattle.std.specs.Prelude.{if◌then◌else◌, nat_eq}
use Rattle.std.proofs.Math.Nat.{div-div-eq-div-mul, pow-suc}
use Rattle.gl_values.specs.Totals.{weighted_sum}
use Rattle.gl_bits.specs.Words.{choose_of, cut_of, product_of, sum_of}
use Rattle.gl_net.specs.declared.node.Bus.{Bus}
use Rattle.gl_net.specs.Net.{Run}
use Rattle.gl_wire.specs.Wire.{line_at}
use Rattle.gl_wire_lanes.specs.Lanes.{Begins, IsFresh}
use Rattle.gl_totals.specs.Folds.{IsFolded}
use Rattle.gl_totals.specs.Open.{lane_by, values_at}
use Rattle.gl_totals.specs.Weighing.{picked}
use Rattle.gl_totals.specs.declared.fold.Step.TheVariants.{Add, Shift}
use Rattle.gl_totals.specs.declared.rows.Rows.{Rows}
use Rattle.gl_totals.proofs.FoldLemmas.{folds_second}
use Rattle.gl_totals.proofs.WeighLemmas.{folds_weighted, weigh_step}

-- the choice of one weight before the others
pub picked_more : (n : ℕ) (ns : List ℕ) (place from : ℕ)
    → choose_of (cut_of from from place) n (picked ns (place / 2 ^ (from + 1))) ≡ picked (n ∷ ns) (place / 2 ^ from)
unfolding choose_of cut_of
picked_more n ns place from =
    let one : from + 1 - from ≡ 1 = omega arith in
    let step : from + 1 ≡ suc from = omega arith in
    let power : 2 ^ (from + 1) ≡ 2 ^ from * 2 = ap (λ (k : ℕ). 2 ^ k) step ∙ pow-suc 2 from in
    let half : place / 2 ^ (from + 1) ≡ place / 2 ^ from / 2 = ap (λ (k : ℕ). place / k) power ∙ sym (div-div-eq-div-mul place (2 ^ from) 2) in
    ap (λ (k : ℕ). if nat_eq (place / 2 ^ from % 2 ^ k) 1 then n else picked ns (place / 2 ^ (from + 1))) one
    ∙ ap (λ (k : ℕ). if nat_eq (place / 2 ^ from % 2) 1 then n else picked ns k) half

module _ (run : Run) (rows : Rows) (width : ℕ) (ws : List ℕ) (some : 1 ≤ length ws) (value part place place_now before now : Bus)
    (places : IsFolded run (length ws) 1 Shift rows place place_now)
    (parts : (t : ℕ) → run.at (suc t) part.node ≡ product_of width (picked ws (run.at (suc t) place.node)) (run.at (suc t) value.node)) where
  pub sum_first : IsFolded run width 0 (Add part) rows before now → Begins (lane_by run rows) → (t : ℕ) → IsFresh (lane_by run rows) (suc t)
      → run.at (suc t) now.node ≡ weighted_sum width ws (values_at run rows value (suc t))
  sum_first h begins t fresh =
      folds_second run rows value (weigh_step width ws) 1 0 (λ c. run.at c place.node) (λ c. run.at c place_now.node) (λ c. run.at c before.node)
      (λ c. run.at c now.node) places.kept h.kept places.with_row
      (λ c. h.with_row c ∙ ap (λ (n : ℕ). if line_at run rows.valid (suc c) then sum_of width (run.at (suc c) before.node) n else run.at (suc c) before.node) (parts c)) begins t fresh
      ∙ folds_weighted width ws some (values_at run rows value (suc t))
