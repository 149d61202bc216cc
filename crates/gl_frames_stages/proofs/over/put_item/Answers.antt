use Rattle.std.proofs.Common.{arith, sym, subst}
use Rattle.std.specs.Prelude.{IfOk}
use Rattle.gl_algebra.specs.Columns.{FrameFits, kind_of_frame}
use Rattle.gl_algebra.specs.Known.{FrameKnown}
use Rattle.gl_algebra.specs.Frames.{delay_of_frame}
use Rattle.gl_algebra.specs.Results.{value_of_frame}
use Rattle.gl_algebra.specs.declared.node.PlanFrame.{PlanFrame}
use Rattle.gl_values.specs.Kinds.{width_of}
use Rattle.gl_frames_stages.specs.Inputs.{IsItemIn}
use Rattle.gl_frames_stages.specs.ItemCosts.{cost_of_item}
use Rattle.gl_wire.specs.Wire.{widths}
use Rattle.gl_frames_stages.proofs.over.put_item.Goals as goal

pub put_own-requires-clause-fits : goal.put_own-requires-clause-fits
put_own-requires-clause-fits c = subst (FrameFits c.args.input.source.kinds.now) c.in-Own.is c.requires.item

pub put_own-requires-clause-known : goal.put_own-requires-clause-known
put_own-requires-clause-known c = subst (FrameKnown (widths c.args.input.source.words.now)) c.in-Own.is c.requires.known

pub put_lag_item-requires-clause-fits : goal.put_lag_item-requires-clause-fits
put_lag_item-requires-clause-fits c = (subst (FrameFits c.args.input.source.kinds.now) c.in-Lag.is c.requires.item).0

pub put_lag_item-requires-clause-known : goal.put_lag_item-requires-clause-known
put_lag_item-requires-clause-known c = subst (FrameKnown (widths c.args.input.source.words.now)) c.in-Lag.is c.requires.known

pub put_lag_item-requires-clause-some : goal.put_lag_item-requires-clause-some
put_lag_item-requires-clause-some c = (subst (FrameFits c.args.input.source.kinds.now) c.in-Lag.is c.requires.item).1

pub put_lag_item-requires-clause-most : goal.put_lag_item-requires-clause-most
put_lag_item-requires-clause-most c =
    let lt = (subst (FrameFits c.args.input.source.kinds.now) c.in-Lag.is c.requires.item).2 in
    omega (arith, lt)

pub put_over-requires-clause-filter : goal.put_over-requires-clause-filter
put_over-requires-clause-filter c = (subst (FrameFits c.args.input.source.kinds.now) c.in-Over.is c.requires.item).1

pub put_over-requires-clause-agg : goal.put_over-requires-clause-agg
put_over-requires-clause-agg c = (subst (FrameFits c.args.input.source.kinds.now) c.in-Over.is c.requires.item).0

pub put_over-requires-clause-known : goal.put_over-requires-clause-known
put_over-requires-clause-known c = subst (FrameKnown (widths c.args.input.source.words.now)) c.in-Over.is c.requires.known

pub put_over-requires-clause-back : goal.put_over-requires-clause-back
put_over-requires-clause-back c = (subst (FrameFits c.args.input.source.kinds.now) c.in-Over.is c.requires.item).2

pub returns-in-Own : goal.returns-in-Own
returns-in-Own c =
    let kinds = c.args.input.source.kinds.now in
    subst (λ (i : PlanFrame). IfOk c.put_own.result (IsItemIn c.args.net.now c.put_own.new.net (cost_of_item kinds i) (delay_of_frame kinds i) (width_of (kind_of_frame kinds i)) (λ sets rows. value_of_frame sets kinds rows i) c.args.input))
    (sym c.in-Own.is) c.put_own.ensures

pub returns-in-Lag : goal.returns-in-Lag
returns-in-Lag c =
    let kinds = c.args.input.source.kinds.now in
    subst (λ (i : PlanFrame). IfOk c.put_lag_item.result (IsItemIn c.args.net.now c.put_lag_item.new.net (cost_of_item kinds i) (delay_of_frame kinds i) (width_of (kind_of_frame kinds i)) (λ sets rows. value_of_frame sets kinds rows i) c.args.input))
    (sym c.in-Lag.is) c.put_lag_item.ensures

pub returns-in-Over : goal.returns-in-Over
returns-in-Over c =
    let kinds = c.args.input.source.kinds.now in
    subst (λ (i : PlanFrame). IfOk c.put_over.result (IsItemIn c.args.net.now c.put_over.new.net (cost_of_item kinds i) (delay_of_frame kinds i) (width_of (kind_of_frame kinds i)) (λ sets rows. value_of_frame sets kinds rows i) c.args.input))
    (sym c.in-Over.is) c.put_over.ensures
