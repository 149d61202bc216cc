use Rattle.std.proofs.Common.{ℕ, ◌+◌, ◌-◌, ◌^◌, ◌≤◌, Some, map, refl, arith, ◌∙◌}
use Rattle.std.proofs.Math.Pow.{pow_mono}
use Rattle.std.proofs.lemmas.Nat.{pow_pos}
use Rattle.gl_algebra.proofs.ExponentLemmas.{exponent_covers}
use Rattle.gl_values.specs.Results.{Row}
use Rattle.gl_values.specs.Totals.{count_of}
use Rattle.gl_frames.specs.Frames.{frame_of, rows_preceding}
use Rattle.gl_frames_wire.specs.Reaches.{place_bits}
use Rattle.gl_net.proofs.Determined.{keeps_then}
use Rattle.gl_frames_stages.specs.Columns.{carried_by}
use Rattle.gl_frames_stages.specs.Framing.{every}
use Rattle.gl_frames_stages.proofs.NumberNet.{number_through}
use Rattle.gl_frames_slots.specs.Items.{rows_in}
use Rattle.gl_frames_slots.proofs.ItemsNet.{tells_as, tells_made}
use Rattle.gl_frames_slots.proofs.NumberNet.{number_told}
use Rattle.gl_frames_slots.proofs.counts.put_slot_number.Goals as goal

pub put_at_most-requires-clause-fits : goal.put_at_most-requires-clause-fits
put_at_most-requires-clause-fits c =
    let covered = exponent_covers (c.args.back + 1 + 1) 1 (c.args.back + 1 + 1) (omega arith) in
    let few : place_bits (c.args.back + 1) ≤ c.args.count.width = omega (arith, c.requires.bits) in
    omega (arith, covered, pow_mono few)

pub returns : goal.returns
returns c =
    let input = c.args.input in
    let back = c.args.back in
    let count = c.args.count in
    let rows = c.in_ok-rows.ensures in
    let out = c.in_ok-out.ensures in
    let covered = exponent_covers (back + 1 + 1) 1 (back + 1 + 1) (omega arith) in
    let low : place_bits (back + 1) ≤ count.width - 1 = omega (arith, c.requires.bits) in
    let few : back ≤ 2 ^ (count.width - 1) = omega (arith, covered, pow_mono low) in
    record {
      keeps = keeps_then _ c.put_at_most.new.net _ rows.keeps out.keeps;
      cost = record {
        nodes = omega (arith, rows.cost.nodes, out.cost.nodes);
        registers = omega (arith, rows.cost.registers, out.cost.registers, rows.width);
        memories = omega (arith, rows.cost.memories, out.cost.memories);
      };
      bus = out.bus;
      same_width = out.same_width ∙ rows.width;
      tells = λ run r ends told counts.
          let at_rows = out.keeps.runs run r in
          tells_as run input.rows ends 1 (λ xs. count_of (rows_preceding (Some back) (map (λ (row : Row). 0) xs))) (λ xs. count_of (frame_of (Some back) every xs)) (rows_in run input)
          (carried_by run c.in_ok-out.out) (number_through back (λ (row : Row). 0))
          (tells_made run input.rows ends 1 (λ (row : Row). 0) (λ xs. count_of (rows_preceding (Some back) xs)) (rows_in run input) (λ (t : ℕ). 0) (carried_by run c.in_ok-out.out)
          (λ t. refl)
          (number_told run input.rows ends (2 ^ (count.width - 1)) back (λ (t : ℕ). 0) (carried_by run count) (carried_by run c.in_ok-rows.rows) (carried_by run c.in_ok-out.out) (pow_pos (count.width - 1)) few c.requires.back
          (counts (λ (t : ℕ). 0)) (rows.least run at_rows) (out.value run r)));
    }
