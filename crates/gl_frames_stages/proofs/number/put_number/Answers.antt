use Rattle.std.proofs.Common.{◌≡◌, ℕ, ◌+◌, ◌^◌, ◌≤◌, Some, ap, arith, ◌∙◌}
use Rattle.std.proofs.lemmas.Nat.{pow_pos}
use Rattle.gl_values.specs.Totals.{count_of}
use Rattle.gl_frames.specs.Frames.{rows_preceding}
use Rattle.gl_frames_wire.proofs.CountNet.{twice}
use Rattle.gl_net.proofs.Determined.{keeps_then}
use Rattle.gl_frames_stages.specs.Columns.{carried_by}
use Rattle.gl_frames_stages.proofs.MeetLemmas.{tells_next}
use Rattle.gl_frames_stages.proofs.NumberNet.{number_told}
use Rattle.gl_frames_stages.proofs.number.put_number.Goals as goal

pub put_at_most-requires-clause-width : goal.put_at_most-requires-clause-width
put_at_most-requires-clause-width c =
    let w = c.in_ok-count.ensures.width in
    let most = c.new-reach.ensures.fits.width.most in
    omega (arith, w, most)

pub put_at_most-requires-clause-fits : goal.put_at_most-requires-clause-fits
put_at_most-requires-clause-fits c =
    let bits : ℕ = c.new-reach.result.bits in
    let w : 2 ^ c.in_ok-count.count.width ≡ 2 ^ (bits + 1) = ap (λ (n : ℕ). 2 ^ n) c.in_ok-count.ensures.width in
    let inside = c.new-reach.ensures.fits.inside in
    let back = c.new-reach.ensures.back in
    omega (arith, w, twice bits, inside, back)

pub returns : goal.returns
returns c =
    let lines = c.args.lines in
    let back = c.args.back in
    let reach = c.new-reach.ensures in
    let bits : ℕ = c.new-reach.result.bits in
    let count = c.in_ok-count.ensures in
    let rows = c.in_ok-rows.ensures in
    let out = c.in_ok-out.ensures in
    let inside = reach.fits.inside in
    let is = reach.back in
    let place = reach.bits in
    let few : back ≤ 2 ^ bits = omega (arith, inside, is) in
    record {
      keeps = keeps_then _ c.put_count.new.net _ count.keeps (keeps_then _ c.put_at_most.new.net _ rows.keeps out.keeps);
      cost = record {
        nodes = omega (arith, count.cost.nodes, rows.cost.nodes, out.cost.nodes);
        registers = omega (arith, count.cost.registers, rows.cost.registers, out.cost.registers, rows.width, place);
        memories = omega (arith, count.cost.memories, rows.cost.memories, out.cost.memories);
      };
      bus = out.bus;
      width = out.same_width ∙ rows.width;
      tells = λ run r column.
          let at_rows = out.keeps.runs run r in
          let at_count = rows.keeps.runs run at_rows in
          tells_next run lines 0 (λ xs. count_of (rows_preceding (Some back) xs)) column (carried_by run c.in_ok-rows.rows) (carried_by run c.in_ok-out.out) (out.value run r)
          (number_told run lines (2 ^ bits) back column (carried_by run c.in_ok-count.count) (carried_by run c.in_ok-rows.rows) (pow_pos bits) few c.requires.back
          (count.counts run at_count column) (rows.least run at_rows));
    }
