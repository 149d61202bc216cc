-- What a total of streams one after another carries, as what a column tells.
use Rattle.std.proofs.Common.{◌≡◌, ℕ, suc, ◌+◌, List, ◌++◌, sym, ap, ◌∙◌}
use Rattle.gl_net.specs.declared.node.Bus.{Bus}
use Rattle.gl_net.specs.Net.{Run}
use Rattle.gl_wire.specs.Wire.{line_at}
use Rattle.gl_wire.proofs.StageLemmas.{line_first}
use Rattle.gl_wire_lanes.specs.Lanes.{IsFresh, row_in, rows_now}
use Rattle.gl_wire_lanes.proofs.SingleLemmas.{one_is_single}
use Rattle.gl_frames_wire.specs.CountNets.{streams_by}
use Rattle.gl_frames_wire.proofs.SinceLemmas.{own_ends_lanes}
use Rattle.gl_totals.specs.Open.{AreTold, in_register, lane_by, values_at}
use Rattle.gl_frames_stages.specs.Columns.{carried_by, column_of}
use Rattle.gl_frames_stages.specs.declared.lines.Lines.{Lines}

-- the rows of the open stream, as those of a lane of one slot
pub lane_rows : {B : Type 0} (run : Run) (lines : Lines) (column : ℕ → B) (c : ℕ)
    → column_of run lines column c ≡ rows_now (streams_by run lines.valid lines.eos) column c
lane_rows run lines column c =
    ap (λ xs. xs ++ row_in (streams_by run lines.valid lines.eos) column c) (own_ends_lanes (streams_by run lines.valid lines.eos) column 0 c)

pub total_here : (run : Run) (lines : Lines) (value out : Bus) (d : ℕ) (total : List ℕ → ℕ)
    → (AreTold run (in_register lines.valid lines.eos) → (t : ℕ) → IsFresh (lane_by run (in_register lines.valid lines.eos)) (suc t)
    → run.at (suc t + d) out.node ≡ total (values_at run (in_register lines.valid lines.eos) value (suc t)))
    → (t : ℕ) → run.at (suc t + d) out.node ≡ total (column_of run lines (carried_by run value) (suc t))
total_here run lines value out d total h t =
    let one = one_is_single (line_at run lines.valid) (line_at run lines.eos) (line_first run lines.valid) (line_first run lines.eos) in
    h (record { begins = one.begins; led = tt }) t (one.fresh t) ∙ ap total (sym (lane_rows run lines (carried_by run value) (suc t)))
