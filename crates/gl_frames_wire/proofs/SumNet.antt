-- A register to which comes what comes, and from which goes what leaves, holds the sum of a frame.
use Rattle.std.proofs.Common.{◌≡◌, ℕ, suc, ◌^◌, ◌<◌, List, [], ◌∷◌, ◌++◌, Bool, true, sym, ap, ◌∙◌, subst}
use Rattle.std.specs.Prelude.{if◌then◌else◌}
use Rattle.gl_values.specs.Totals.{sum_total}
use Rattle.gl_bits.specs.Words.{difference_of, sum_of}
use Rattle.gl_net.specs.declared.node.Bus.{Bus}
use Rattle.gl_net.specs.declared.node.Bit.{Bit}
use Rattle.gl_net.specs.Net.{Run}
use Rattle.gl_wire.specs.Wire.{line_at}
use Rattle.gl_wire.proofs.StageLemmas.{line_first}
use Rattle.gl_wire_lanes.specs.Keeping.{IsKept}
use Rattle.gl_wire_lanes.specs.Laws.{OneIsSingle}
use Rattle.gl_wire_lanes.proofs.SingleLemmas.{register_is_kept}
use Rattle.gl_frames.specs.Frames.{lag_of, last_ones}
use Rattle.gl_frames.specs.Laws.{SumsSlide}
use Rattle.gl_frames_wire.specs.CountNets.{streams_by}
use Rattle.gl_frames_wire.proofs.ColumnLemmas.{sum_none}
use Rattle.gl_frames_wire.proofs.CountNet.{opens_own}
use Rattle.gl_frames_wire.specs.Since.{Opens, own_ends, rows_here, rows_past}
use Rattle.gl_frames_wire.proofs.RingLemmas.{one_in}
use Rattle.gl_frames_wire.proofs.SinceLemmas.{slots_are}

module _ (one_is_single : OneIsSingle) (sums_slide : SumsSlide) (run : Run) (valid eos : Bit) (value lag before now : Bus) (w k : ℕ) (start : run.at 1 before.node ≡ 0)
    (next : (t : ℕ) → run.at (suc (suc t)) before.node ≡ (if line_at run eos (suc t) then 0 else run.at (suc t) now.node))
    (slid : (t : ℕ) → run.at (suc t) now.node
    ≡ (if line_at run valid (suc t) then difference_of w (sum_of w (run.at (suc t) before.node) (run.at (suc t) value.node)) (run.at (suc t) lag.node) else run.at (suc t) before.node))
    (fits : (t : ℕ) → run.at t lag.node < 2 ^ w)
    (lags : (c : ℕ) → line_at run valid (suc c) ≡ true
    → run.at (suc c) lag.node ≡ lag_of (λ x. x) k (rows_here (own_ends (streams_by run valid eos)) (streams_by run valid eos) (λ t. run.at t value.node) (suc c))) where
  kept : IsKept 0 (streams_by run valid eos) (λ t. run.at t before.node) (λ t. run.at t now.node)
  kept = register_is_kept 0 (line_at run valid) (line_at run eos) (λ t. run.at t before.node) (λ t. run.at t now.node) (record { start = start; next = next })
      (λ t none. slid t ∙ ap (λ (b : Bool). if b then difference_of w (sum_of w (run.at (suc t) before.node) (run.at (suc t) value.node)) (run.at (suc t) lag.node) else run.at (suc t) before.node) none)

  opens : Opens (own_ends (streams_by run valid eos)) (streams_by run valid eos)
  opens = opens_own (streams_by run valid eos) (one_is_single (line_at run valid) (line_at run eos) (line_first run valid) (line_first run eos)).begins

  goes_on : (d : ℕ) → line_at run valid (suc d) ≡ true
      → run.at (suc d) before.node ≡ sum_total w (last_ones k (rows_past (own_ends (streams_by run valid eos)) (streams_by run valid eos) (λ t. run.at t value.node) (suc d)))
      → difference_of w (sum_of w (run.at (suc d) before.node) (run.at (suc d) value.node)) (run.at (suc d) lag.node)
      ≡ sum_total w (last_ones k (rows_here (own_ends (streams_by run valid eos)) (streams_by run valid eos) (λ t. run.at t value.node) (suc d)))
  goes_on d v e =
      let xs : List ℕ = rows_past (own_ends (streams_by run valid eos)) (streams_by run valid eos) (λ t. run.at t value.node) (suc d) in
      let x : ℕ = run.at (suc d) value.node in
      let own = one_in (line_at run valid (suc d)) x v in
      let left : run.at (suc d) lag.node ≡ lag_of (λ y. y) k (xs ++ x ∷ []) = lags d v ∙ ap (λ l. lag_of (λ y. y) k (xs ++ l)) own in
      ap (λ s. difference_of w (sum_of w s x) (run.at (suc d) lag.node)) e ∙ ap (difference_of w (sum_of w (sum_total w (last_ones k xs)) x)) left
      ∙ sym (sums_slide w k x xs (subst (λ n. n < 2 ^ w) left (fits (suc d)))) ∙ ap (λ l. sum_total w (last_ones k (xs ++ l))) (sym own)

  pub summed : (c : ℕ) → line_at run valid (suc c) ≡ true
      → run.at (suc c) now.node ≡ sum_total w (last_ones k (rows_here (own_ends (streams_by run valid eos)) (streams_by run valid eos) (λ t. run.at t value.node) (suc c)))
  summed c v =
      (slots_are (λ xs. sum_total w (last_ones k xs)) (own_ends (streams_by run valid eos)) (streams_by run valid eos) (λ t. run.at t value.node) (λ t. run.at t before.node) (λ t. run.at t now.node)
      opens (subst (λ n. IsKept n (streams_by run valid eos) (λ t. run.at t before.node) (λ t. run.at t now.node)) (sym (sum_none w k)) kept) (record {
        with_row = λ d p e.
            slid d ∙ ap (λ (b : Bool). if b then difference_of w (sum_of w (run.at (suc d) before.node) (run.at (suc d) value.node)) (run.at (suc d) lag.node) else run.at (suc d) before.node) p
            ∙ goes_on d p e;
        without = λ d p.
            slid d ∙ ap (λ (b : Bool). if b then difference_of w (sum_of w (run.at (suc d) before.node) (run.at (suc d) value.node)) (run.at (suc d) lag.node) else run.at (suc d) before.node) p;
      }) c v).here
