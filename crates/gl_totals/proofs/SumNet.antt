-- Sums and counts, from folds.
use Rattle.std.proofs.Common.{◌≡◌, ℕ, suc, ap, ◌∙◌}
use Rattle.gl_values.specs.Totals.{count_of, sum_total}
use Rattle.gl_bits.specs.Words.{sum_of}
use Rattle.gl_net.specs.declared.node.Bus.{Bus}
use Rattle.gl_net.specs.Net.{Run}
use Rattle.gl_wire_lanes.specs.Lanes.{Begins, IsFresh}
use Rattle.gl_wire_lanes.proofs.FoldLemmas.{tables_fold}
use Rattle.gl_totals.specs.Folds.{IsFolded}
use Rattle.gl_totals.specs.Open.{lane_by, values_at}
use Rattle.gl_totals.specs.declared.fold.Step.TheVariants.{Add}
use Rattle.gl_totals.specs.declared.rows.Rows.{Rows}
use Rattle.gl_totals.proofs.TotalLemmas.{folds_sum, ones_count}
use Rattle.gl_totals.proofs.ValueLemmas.{values_through}

-- ---- sums and counts

pub sum_now : (run : Run) (width : ℕ) (rows : Rows) (value before now : Bus) → IsFolded run width 0 (Add value) rows before now → Begins (lane_by run rows) → (t : ℕ)
    → IsFresh (lane_by run rows) (suc t) → run.at (suc t) now.node ≡ sum_total width (values_at run rows value (suc t))
sum_now run width rows value before now h begins t fresh =
    tables_fold (sum_of width) 0 (lane_by run rows) (λ c. run.at c value.node) (λ c. run.at c before.node) (λ c. run.at c now.node) begins h.kept h.with_row t fresh
    ∙ folds_sum width (values_at run rows value (suc t))

pub count_now : (run : Run) (rows : Rows) (one value : Bus) → ((t : ℕ) → run.at (suc t) one.node ≡ 1) → (t : ℕ)
    → sum_total 32 (values_at run rows one (suc t)) ≡ count_of (values_at run rows value (suc t))
count_now run rows one value is t =
    ap (sum_total 32) (values_through run rows value one (λ (x : ℕ). 1) is (suc t)) ∙ ones_count (values_at run rows value (suc t))
