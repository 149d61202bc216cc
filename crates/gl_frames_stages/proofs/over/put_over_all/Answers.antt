use Rattle.std.proofs.Common.{◌≡◌, ℕ, ◌+◌, None, arith, sym, subst}
use Rattle.std.specs.Prelude.{IfOk}
use Rattle.gl_algebra.specs.Columns.{FrameAggFits, kind_of_frame_agg, kind_of_operand}
use Rattle.gl_algebra.specs.Known.{FrameAggKnown}
use Rattle.gl_algebra.specs.Frames.{delay_over}
use Rattle.gl_algebra.specs.Results.{value_over}
use Rattle.gl_algebra.specs.declared.node.PlanFrameAgg.{PlanFrameAgg}
use Rattle.gl_algebra.specs.declared.node.PlanFrameAgg.TheVariants.{Avg, Count}
use Rattle.gl_values.specs.Kinds.{width_of}
use Rattle.gl_frames_stages.specs.Inputs.{IsItemIn}
use Rattle.gl_frames_stages.specs.ItemCosts.{cost_of_all}
use Rattle.gl_frames_stages.specs.Wholes.{cost_of_all_count}
use Rattle.gl_frames_stages.proofs.CycleLemmas.{count_of_all}
use Rattle.gl_wire.specs.Wire.{widths}
use Rattle.gl_frames_stages.proofs.over.put_over_all.Goals as goal

pub returns-in-Count : goal.returns-in-Count
returns-in-Count c =
    let kinds = c.args.input.source.kinds.now in
    subst (λ (a : PlanFrameAgg). IfOk c.put_all_count.result (IsItemIn c.args.net.now c.put_all_count.new.net (cost_of_all kinds a) (delay_over kinds a c.args.filter None) (width_of (kind_of_frame_agg kinds a)) (λ sets rows. value_over sets kinds c.args.filter None rows a) c.args.input))
    (sym c.in-Count.is)
    (subst (λ (n : ℕ). IfOk c.put_all_count.result (IsItemIn c.args.net.now c.put_all_count.new.net cost_of_all_count n 32 (λ sets rows. value_over sets kinds c.args.filter None rows Count) c.args.input))
    (sym (count_of_all c.args.filter)) c.put_all_count.ensures)

pub put_all_sum-requires-clause-fits : goal.put_all_sum-requires-clause-fits
put_all_sum-requires-clause-fits c = (subst (FrameAggFits c.args.input.source.kinds.now) c.in-Sum.is c.requires.agg).0

pub put_all_sum-requires-clause-known : goal.put_all_sum-requires-clause-known
put_all_sum-requires-clause-known c = subst (FrameAggKnown (widths c.args.input.source.words.now)) c.in-Sum.is c.requires.known

pub returns-in-Sum : goal.returns-in-Sum
returns-in-Sum c =
    let kinds = c.args.input.source.kinds.now in
    subst (λ (a : PlanFrameAgg). IfOk c.put_all_sum.result (IsItemIn c.args.net.now c.put_all_sum.new.net (cost_of_all kinds a) (delay_over kinds a c.args.filter None) (width_of (kind_of_frame_agg kinds a)) (λ sets rows. value_over sets kinds c.args.filter None rows a) c.args.input))
    (sym c.in-Sum.is) c.put_all_sum.ensures

pub put_all_extreme-requires-clause-fits : goal.put_all_extreme-requires-clause-fits
put_all_extreme-requires-clause-fits c = (subst (FrameAggFits c.args.input.source.kinds.now) c.in-Min.is c.requires.agg)

pub put_all_extreme-requires-clause-known : goal.put_all_extreme-requires-clause-known
put_all_extreme-requires-clause-known c = subst (FrameAggKnown (widths c.args.input.source.words.now)) c.in-Min.is c.requires.known

pub returns-in-Min : goal.returns-in-Min
returns-in-Min c =
    let kinds = c.args.input.source.kinds.now in
    subst (λ (a : PlanFrameAgg). IfOk c.put_all_extreme.result (IsItemIn c.args.net.now c.put_all_extreme.new.net (cost_of_all kinds a) (delay_over kinds a c.args.filter None) (width_of (kind_of_frame_agg kinds a)) (λ sets rows. value_over sets kinds c.args.filter None rows a) c.args.input))
    (sym c.in-Min.is) c.put_all_extreme.ensures

pub put_all_extreme-requires-in-Max-clause-fits : goal.put_all_extreme-requires-in-Max-clause-fits
put_all_extreme-requires-in-Max-clause-fits c = (subst (FrameAggFits c.args.input.source.kinds.now) c.in-Max.is c.requires.agg)

pub put_all_extreme-requires-in-Max-clause-known : goal.put_all_extreme-requires-in-Max-clause-known
put_all_extreme-requires-in-Max-clause-known c = subst (FrameAggKnown (widths c.args.input.source.words.now)) c.in-Max.is c.requires.known

pub returns-in-Max : goal.returns-in-Max
returns-in-Max c =
    let kinds = c.args.input.source.kinds.now in
    subst (λ (a : PlanFrameAgg). IfOk c.put_all_extreme-in-Max.result (IsItemIn c.args.net.now c.put_all_extreme-in-Max.new.net (cost_of_all kinds a) (delay_over kinds a c.args.filter None) (width_of (kind_of_frame_agg kinds a)) (λ sets rows. value_over sets kinds c.args.filter None rows a) c.args.input))
    (sym c.in-Max.is) c.put_all_extreme-in-Max.ensures

pub put_all_average-requires-clause-fits : goal.put_all_average-requires-clause-fits
put_all_average-requires-clause-fits c = (subst (FrameAggFits c.args.input.source.kinds.now) c.in-Avg.is c.requires.agg).0

pub put_all_average-requires-clause-known : goal.put_all_average-requires-clause-known
put_all_average-requires-clause-known c = subst (FrameAggKnown (widths c.args.input.source.words.now)) c.in-Avg.is c.requires.known

pub returns-in-Avg : goal.returns-in-Avg
returns-in-Avg c =
    let kinds = c.args.input.source.kinds.now in
    let late : width_of (kind_of_operand kinds c.in-Avg.operand) + 34 ≡ delay_over kinds (Avg c.in-Avg.operand) c.args.filter None = omega arith in
    subst (λ (a : PlanFrameAgg). IfOk c.put_all_average.result (IsItemIn c.args.net.now c.put_all_average.new.net (cost_of_all kinds a) (delay_over kinds a c.args.filter None) (width_of (kind_of_frame_agg kinds a)) (λ sets rows. value_over sets kinds c.args.filter None rows a) c.args.input))
    (sym c.in-Avg.is)
    (subst (λ (n : ℕ). IfOk c.put_all_average.result (IsItemIn c.args.net.now c.put_all_average.new.net (cost_of_all kinds (Avg c.in-Avg.operand)) n (width_of (kind_of_operand kinds c.in-Avg.operand))
    (λ sets rows. value_over sets kinds c.args.filter None rows (Avg c.in-Avg.operand)) c.args.input)) late c.put_all_average.ensures)

pub put_all_last-requires-clause-fits : goal.put_all_last-requires-clause-fits
put_all_last-requires-clause-fits c = (subst (FrameAggFits c.args.input.source.kinds.now) c.in-LastValue.is c.requires.agg)

pub put_all_last-requires-clause-known : goal.put_all_last-requires-clause-known
put_all_last-requires-clause-known c = subst (FrameAggKnown (widths c.args.input.source.words.now)) c.in-LastValue.is c.requires.known

pub returns-in-LastValue : goal.returns-in-LastValue
returns-in-LastValue c =
    let kinds = c.args.input.source.kinds.now in
    subst (λ (a : PlanFrameAgg). IfOk c.put_all_last.result (IsItemIn c.args.net.now c.put_all_last.new.net (cost_of_all kinds a) (delay_over kinds a c.args.filter None) (width_of (kind_of_frame_agg kinds a)) (λ sets rows. value_over sets kinds c.args.filter None rows a) c.args.input))
    (sym c.in-LastValue.is) c.put_all_last.ensures
