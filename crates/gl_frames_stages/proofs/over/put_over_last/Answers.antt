use Rattle.std.proofs.Common.{◌≡◌, ℕ, ◌+◌, Some, arith, sym, subst}
use Rattle.std.specs.Prelude.{IfOk}
use Rattle.gl_algebra.specs.Columns.{FrameAggFits, kind_of_frame_agg, kind_of_operand}
use Rattle.gl_algebra.specs.Known.{FrameAggKnown}
use Rattle.gl_algebra.specs.Frames.{delay_over}
use Rattle.gl_algebra.specs.Results.{value_over}
use Rattle.gl_algebra.specs.Rings.{digits}
use Rattle.gl_algebra.specs.declared.node.PlanFrameAgg.{PlanFrameAgg}
use Rattle.gl_algebra.specs.declared.node.PlanFrameAgg.TheVariants.{Avg}
use Rattle.gl_values.specs.Kinds.{width_of}
use Rattle.gl_frames_stages.specs.Inputs.{IsItemIn}
use Rattle.gl_frames_stages.specs.ItemCosts.{cost_of_last_rows}
use Rattle.gl_wire.specs.Wire.{widths}
use Rattle.gl_frames_stages.proofs.over.put_over_last.Goals as goal

pub returns-in-Count : goal.returns-in-Count
returns-in-Count c =
    let kinds = c.args.input.source.kinds.now in
    subst (λ (a : PlanFrameAgg). IfOk c.put_count_of.result (IsItemIn c.args.net.now c.put_count_of.new.net (cost_of_last_rows kinds a c.args.filter c.args.back) (delay_over kinds a c.args.filter (Some c.args.back)) (width_of (kind_of_frame_agg kinds a)) (λ sets rows. value_over sets kinds c.args.filter (Some c.args.back) rows a) c.args.input))
    (sym c.in-Count.is) c.put_count_of.ensures

pub put_sum_item-requires-clause-fits : goal.put_sum_item-requires-clause-fits
put_sum_item-requires-clause-fits c = (subst (FrameAggFits c.args.input.source.kinds.now) c.in-Sum.is c.requires.agg).0

pub put_sum_item-requires-clause-known : goal.put_sum_item-requires-clause-known
put_sum_item-requires-clause-known c = subst (FrameAggKnown (widths c.args.input.source.words.now)) c.in-Sum.is c.requires.known

pub returns-in-Sum : goal.returns-in-Sum
returns-in-Sum c =
    let kinds = c.args.input.source.kinds.now in
    subst (λ (a : PlanFrameAgg). IfOk c.put_sum_item.result (IsItemIn c.args.net.now c.put_sum_item.new.net (cost_of_last_rows kinds a c.args.filter c.args.back) (delay_over kinds a c.args.filter (Some c.args.back)) (width_of (kind_of_frame_agg kinds a)) (λ sets rows. value_over sets kinds c.args.filter (Some c.args.back) rows a) c.args.input))
    (sym c.in-Sum.is) c.put_sum_item.ensures

pub put_extreme_of-requires-clause-fits : goal.put_extreme_of-requires-clause-fits
put_extreme_of-requires-clause-fits c = (subst (FrameAggFits c.args.input.source.kinds.now) c.in-Min.is c.requires.agg)

pub put_extreme_of-requires-clause-known : goal.put_extreme_of-requires-clause-known
put_extreme_of-requires-clause-known c = subst (FrameAggKnown (widths c.args.input.source.words.now)) c.in-Min.is c.requires.known

pub returns-in-Min : goal.returns-in-Min
returns-in-Min c =
    let kinds = c.args.input.source.kinds.now in
    subst (λ (a : PlanFrameAgg). IfOk c.put_extreme_of.result (IsItemIn c.args.net.now c.put_extreme_of.new.net (cost_of_last_rows kinds a c.args.filter c.args.back) (delay_over kinds a c.args.filter (Some c.args.back)) (width_of (kind_of_frame_agg kinds a)) (λ sets rows. value_over sets kinds c.args.filter (Some c.args.back) rows a) c.args.input))
    (sym c.in-Min.is) c.put_extreme_of.ensures

pub put_extreme_of-requires-in-Max-clause-fits : goal.put_extreme_of-requires-in-Max-clause-fits
put_extreme_of-requires-in-Max-clause-fits c = (subst (FrameAggFits c.args.input.source.kinds.now) c.in-Max.is c.requires.agg)

pub put_extreme_of-requires-in-Max-clause-known : goal.put_extreme_of-requires-in-Max-clause-known
put_extreme_of-requires-in-Max-clause-known c = subst (FrameAggKnown (widths c.args.input.source.words.now)) c.in-Max.is c.requires.known

pub returns-in-Max : goal.returns-in-Max
returns-in-Max c =
    let kinds = c.args.input.source.kinds.now in
    subst (λ (a : PlanFrameAgg). IfOk c.put_extreme_of-in-Max.result (IsItemIn c.args.net.now c.put_extreme_of-in-Max.new.net (cost_of_last_rows kinds a c.args.filter c.args.back) (delay_over kinds a c.args.filter (Some c.args.back)) (width_of (kind_of_frame_agg kinds a)) (λ sets rows. value_over sets kinds c.args.filter (Some c.args.back) rows a) c.args.input))
    (sym c.in-Max.is) c.put_extreme_of-in-Max.ensures

pub put_average_item-requires-clause-fits : goal.put_average_item-requires-clause-fits
put_average_item-requires-clause-fits c = (subst (FrameAggFits c.args.input.source.kinds.now) c.in-Avg.is c.requires.agg).0

pub put_average_item-requires-clause-known : goal.put_average_item-requires-clause-known
put_average_item-requires-clause-known c = subst (FrameAggKnown (widths c.args.input.source.words.now)) c.in-Avg.is c.requires.known

pub returns-in-Avg : goal.returns-in-Avg
returns-in-Avg c =
    let kinds = c.args.input.source.kinds.now in
    let late : width_of (kind_of_operand kinds c.in-Avg.operand) + digits (c.args.back + 1) + 4 ≡ delay_over kinds (Avg c.in-Avg.operand) c.args.filter (Some c.args.back) = omega arith in
    subst (λ (a : PlanFrameAgg). IfOk c.put_average_item.result (IsItemIn c.args.net.now c.put_average_item.new.net (cost_of_last_rows kinds a c.args.filter c.args.back) (delay_over kinds a c.args.filter (Some c.args.back)) (width_of (kind_of_frame_agg kinds a)) (λ sets rows. value_over sets kinds c.args.filter (Some c.args.back) rows a) c.args.input))
    (sym c.in-Avg.is)
    (subst (λ (n : ℕ). IfOk c.put_average_item.result (IsItemIn c.args.net.now c.put_average_item.new.net (cost_of_last_rows kinds (Avg c.in-Avg.operand) c.args.filter c.args.back) n
    (width_of (kind_of_operand kinds c.in-Avg.operand)) (λ sets rows. value_over sets kinds c.args.filter (Some c.args.back) rows (Avg c.in-Avg.operand)) c.args.input)) late c.put_average_item.ensures)

pub put_last_of-requires-clause-fits : goal.put_last_of-requires-clause-fits
put_last_of-requires-clause-fits c = (subst (FrameAggFits c.args.input.source.kinds.now) c.in-LastValue.is c.requires.agg)

pub put_last_of-requires-clause-known : goal.put_last_of-requires-clause-known
put_last_of-requires-clause-known c = subst (FrameAggKnown (widths c.args.input.source.words.now)) c.in-LastValue.is c.requires.known

pub returns-in-LastValue : goal.returns-in-LastValue
returns-in-LastValue c =
    let kinds = c.args.input.source.kinds.now in
    subst (λ (a : PlanFrameAgg). IfOk c.put_last_of.result (IsItemIn c.args.net.now c.put_last_of.new.net (cost_of_last_rows kinds a c.args.filter c.args.back) (delay_over kinds a c.args.filter (Some c.args.back)) (width_of (kind_of_frame_agg kinds a)) (λ sets rows. value_over sets kinds c.args.filter (Some c.args.back) rows a) c.args.input))
    (sym c.in-LastValue.is) c.put_last_of.ensures
