use Rattle.std.proofs.Common.{ℕ, Some, map, refl}
use Rattle.gl_values.specs.Results.{Row}
use Rattle.gl_values.specs.Totals.{count_of}
use Rattle.gl_frames.specs.Frames.{frame_of, rows_preceding}
use Rattle.gl_frames_stages.specs.Columns.{carried_by}
use Rattle.gl_frames_stages.specs.Framing.{every}
use Rattle.gl_frames_stages.specs.Inputs.{rows_by}
use Rattle.gl_frames_stages.proofs.InputNet.{tells_as, tells_made}
use Rattle.gl_frames_stages.proofs.NumberNet.{number_through}
use Rattle.gl_frames_stages.proofs.number.put_number_item.Goals as goal

pub put_number-requires-clause-valid : goal.put_number-requires-clause-valid
put_number-requires-clause-valid c = c.requires.input.valid

pub put_number-requires-clause-eos : goal.put_number-requires-clause-eos
put_number-requires-clause-eos c = c.requires.input.eos

pub returns : goal.returns
returns c =
    let input = c.args.input in
    let back = c.args.back in
    let out = c.in_ok-out.ensures in
    record {
      keeps = out.keeps;
      cost = out.cost;
      bus = out.bus;
      same_width = out.width;
      tells = λ run r.
          tells_as run input.lines 1 (λ rows. count_of (rows_preceding (Some back) (map (λ (row : Row). 0) rows))) (λ rows. count_of (frame_of (Some back) every rows)) (rows_by run input)
          (carried_by run c.in_ok-out.out) (number_through back (λ (row : Row). 0))
          (tells_made run input.lines 1 (λ (row : Row). 0) (λ xs. count_of (rows_preceding (Some back) xs)) (rows_by run input) (λ (t : ℕ). 0) (carried_by run c.in_ok-out.out)
          (λ t. refl) (out.tells run r (λ (t : ℕ). 0)));
    }
