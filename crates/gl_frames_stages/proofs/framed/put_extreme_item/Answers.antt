use Rattle.std.proofs.Common.{suc, ◌+◌, Some, false, map, ap, arith, refl, sym, subst, ◌≤◌, ◌∙◌}
use Rattle.gl_algebra.specs.Frames.{delay_of_extreme}
use Rattle.gl_algebra.specs.Columns.{kind_of_operand}
use Rattle.gl_values.proofs.KindLemmas.{kind_some}
use Rattle.gl_values.specs.Kinds.{width_of}
use Rattle.gl_values.specs.declared.kind.Kind.{Kind}
use Rattle.gl_frames.specs.Frames.{last_ones, total_over}
use Rattle.gl_totals.proofs.KindLemmas.{operand_kind}
use Rattle.gl_totals.specs.Totals.{extreme_of}
use Rattle.gl_net.proofs.Determined.{keeps_then}
use Rattle.gl_wire.specs.Costs.{Cost}
use Rattle.gl_frames_stages.specs.Columns.{carried_by, column_of}
use Rattle.gl_frames_stages.specs.DoublingNets.{cost_of_doublings}
use Rattle.gl_frames_stages.specs.Framing.{every, value_in}
use Rattle.gl_frames_stages.specs.Inputs.{rows_by}
use Rattle.gl_frames_stages.proofs.DoublingNet.{plain_best}
use Rattle.gl_frames_stages.proofs.FramingLemmas.{total_through}
use Rattle.gl_frames_stages.proofs.InputNet.{input_kept, tells_as, tells_made}
use Rattle.gl_frames_stages.proofs.framed.put_extreme_item.Goals as goal

pub put_operand-requires-clause-source : goal.put_operand-requires-clause-source
put_operand-requires-clause-source c = c.requires.input.source

pub put_frame_best-requires-clause-valid : goal.put_frame_best-requires-clause-valid
put_frame_best-requires-clause-valid c = (input_kept _ _ c.args.input c.in_ok-value.ensures.keeps c.requires.input).valid

pub put_frame_best-requires-clause-eos : goal.put_frame_best-requires-clause-eos
put_frame_best-requires-clause-eos c = (input_kept _ _ c.args.input c.in_ok-value.ensures.keeps c.requires.input).eos

pub put_frame_best-requires-clause-width : goal.put_frame_best-requires-clause-width
put_frame_best-requires-clause-width c = c.in_ok-value.ensures.same_width ∙ ap width_of (sym c.kind_of_operand-kind.ensures)

pub put_frame_best-requires-clause-some : goal.put_frame_best-requires-clause-some
put_frame_best-requires-clause-some c =
    subst (λ (k : Kind). 1 ≤ width_of k) (sym c.kind_of_operand-kind.ensures) (kind_some _ (operand_kind c.args.input.source.kinds.now c.args.operand c.requires.kinds c.requires.fits))

pub returns : goal.returns
returns c =
    let input = c.args.input in
    let x = c.in_ok-value.value in
    let value = c.in_ok-value.ensures in
    let best = c.in_ok-best.ensures in
    let kind = kind_of_operand input.source.kinds.now c.args.operand in
    let k = c.kind_of_operand-kind.result in
    let is = c.kind_of_operand-kind.ensures in
    let back = c.args.back in
    let extreme = c.args.extreme in
    let wide = value.same_width in
    let levels = ap (cost_of_doublings 5 back 1 (back + 1)) wide in
    record {
      keeps = keeps_then _ c.put_operand.new.net _ value.keeps best.keeps;
      cost = record {
        nodes = omega (arith, value.cost.nodes, best.cost.nodes, ap (λ (e : Cost). e.nodes) levels);
        registers = omega (arith, value.cost.registers, best.cost.registers, ap (λ (e : Cost). e.registers) levels, wide);
        memories = omega (arith, value.cost.memories, best.cost.memories, ap (λ (e : Cost). e.memories) levels);
      };
      bus = best.bus;
      same_width = best.same_width ∙ wide;
      tells = λ run r.
          let v = value_in run.held c.args.operand in
          let at_value = best.keeps.runs run r in
          tells_as run input.lines (delay_of_extreme (Some back)) (λ rows. extreme_of extreme k (last_ones (suc back) (map v rows))) (total_over (extreme_of extreme kind) v (Some back) every) (rows_by run input)
          (carried_by run c.in_ok-best.best)
          (λ rows. total_through (extreme_of extreme k) back v rows ∙ ap (λ (n : Kind). total_over (extreme_of extreme n) v (Some back) every rows) is)
          (tells_made run input.lines (delay_of_extreme (Some back)) v (λ xs. extreme_of extreme k (last_ones (suc back) xs)) (rows_by run input) (carried_by run x) (carried_by run c.in_ok-best.best)
          (λ t. value.carries run at_value (suc t)) (λ d q. best.tells run r d q ∙ plain_best (record { extreme = extreme; kind = k; packed = false }) refl (suc back) (column_of run input.lines (carried_by run x) (suc d))));
    }
