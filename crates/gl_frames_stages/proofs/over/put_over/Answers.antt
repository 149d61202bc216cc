use Rattle.std.proofs.Common.{ℕ, Option, arith, sym, subst}
use Rattle.std.specs.Prelude.{IfOk}
use Rattle.gl_algebra.specs.Columns.{BackFits, kind_of_frame_agg}
use Rattle.gl_algebra.specs.Frames.{delay_over}
use Rattle.gl_algebra.specs.Results.{value_over}
use Rattle.gl_values.specs.Kinds.{width_of}
use Rattle.gl_frames_stages.specs.Inputs.{IsItemIn}
use Rattle.gl_frames_stages.specs.ItemCosts.{cost_of_frame}
use Rattle.gl_frames_stages.proofs.over.put_over.Goals as goal

pub put_over_last-requires-clause-back : goal.put_over_last-requires-clause-back
put_over_last-requires-clause-back c = let lt = subst BackFits c.in-Some.is c.requires.back in omega (arith, lt)

pub returns-in-Some : goal.returns-in-Some
returns-in-Some c =
    let kinds = c.args.input.source.kinds.now in
    let agg = c.args.agg in
    let by = c.args.filter in
    subst (λ (b : Option ℕ). IfOk c.put_over_last.result (IsItemIn c.args.net.now c.put_over_last.new.net (cost_of_frame kinds agg by b) (delay_over kinds agg by b)
    (width_of (kind_of_frame_agg kinds agg)) (λ sets rows. value_over sets kinds by b rows agg) c.args.input)) (sym c.in-Some.is) c.put_over_last.ensures

pub returns-in-None : goal.returns-in-None
returns-in-None c =
    let kinds = c.args.input.source.kinds.now in
    let agg = c.args.agg in
    let by = c.args.filter in
    subst (λ (b : Option ℕ). IfOk c.put_over_all.result (IsItemIn c.args.net.now c.put_over_all.new.net (cost_of_frame kinds agg by b) (delay_over kinds agg by b)
    (width_of (kind_of_frame_agg kinds agg)) (λ sets rows. value_over sets kinds by b rows agg) c.args.input)) (sym c.in-None.is) c.put_over_all.ensures
