-- What is made of the rows so far of streams one after another is what a wire gives for each row.
use Rattle.std.proofs.Common.{◌≡◌, ℕ, zero, suc, List, ◌++◌, Some, None, Bool, true, false, refl, sym, ap, ◌∙◌}
use Rattle.std.specs.Prelude.{option_and_then, if◌then◌else◌}
use Rattle.gl_values.specs.Results.{Row}
use Rattle.gl_net.specs.Net.{Run}
use Rattle.gl_wire.specs.declared.wire.Wire.{Wire}
use Rattle.gl_wire.specs.Wire.{carried, line_at, row_at, stream, tuple_at}
use Rattle.gl_wire.proofs.StageLemmas.{delayed_same, line_first, tuple_by}
use Rattle.gl_wire_lanes.specs.Lanes.{row_in}
use Rattle.gl_wire_lanes.specs.Shares.{rows_of}
use Rattle.gl_wire_lanes.proofs.ShareLemmas.{stream_single}
use Rattle.gl_frames_wire.specs.Laws.{StreamsRun, streams_of}
use Rattle.gl_frames_wire.specs.Running.{running}
use Rattle.gl_frames_wire.specs.Since.{own_ends, rows_here}
use Rattle.gl_frames_wire.proofs.SinceLemmas.{own_ends_lanes}

module _ (of : List Row → Row) (run : Run) (w : Wire) (made : ℕ → Row)
    (is : (c : ℕ) → line_at run w.valid (suc c) ≡ true → made (suc c) ≡ of (rows_here (own_ends (streams_of run w)) (streams_of run w) (rows_of run w) (suc c))) where
  here_is : (c : ℕ) → rows_here (own_ends (streams_of run w)) (streams_of run w) (rows_of run w) c ≡ stream (carried run w) c
  here_is c = ap (λ xs. xs ++ row_in (streams_of run w) (rows_of run w) c) (own_ends_lanes (streams_of run w) (rows_of run w) 0 c) ∙ stream_single run w c

  tuples : (c : ℕ) → (if line_at run w.valid c then Some (made c) else None) ≡ option_and_then (λ row. Some (of (stream (carried run w) c))) (tuple_at run w.valid w.columns c)
  tuples c = by c (line_at run w.valid c) refl ∙ sym (ap (option_and_then (λ row. Some (of (stream (carried run w) c)))) (tuple_by run w.valid w.columns c))
    where
      by : (d : ℕ) (v : Bool) → line_at run w.valid d ≡ v
          → (if line_at run w.valid d then Some (made d) else None) ≡ option_and_then (λ row. Some (of (stream (carried run w) d))) (if line_at run w.valid d then Some (row_at run d w.columns) else None)
      by d false p =
          ap (λ (b : Bool). if b then Some (made d) else None) p
          ∙ sym (ap (λ (b : Bool). option_and_then (λ row. Some (of (stream (carried run w) d))) (if b then Some (row_at run d w.columns) else None)) p)
      by zero true p = absurd (let z = line_first run w.valid in cc (z, p))
      by (suc d) true p =
          ap (λ (b : Bool). if b then Some (made (suc d)) else None) p ∙ ap Some (is d p ∙ ap of (here_is (suc d)))
          ∙ sym (ap (λ (b : Bool). option_and_then (λ row. Some (of (stream (carried run w) (suc d)))) (if b then Some (row_at run (suc d) w.columns) else None)) p)

pub streams_run : StreamsRun
streams_run m of run w made b is d = delayed_same m (record {
  tuple = λ c. if line_at run w.valid c then Some (made c) else None;
  ends = line_at run w.eos;
}) (running (λ xs. Some (of xs)) (carried run w)) b (tuples of run w made is) (λ c. refl) d
