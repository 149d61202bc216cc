use Rattle.std.proofs.Common.{ℕ, Option, Some, sym, subst}
use Rattle.std.specs.Prelude.{IfOk}
use Rattle.gl_algebra.specs.Columns.{ConditionFits}
use Rattle.gl_algebra.specs.Frames.{delay_of_count}
use Rattle.gl_algebra.specs.Results.{counts_in}
use Rattle.gl_values.specs.Totals.{count_of}
use Rattle.gl_frames.specs.Frames.{frame_of}
use Rattle.gl_frames_stages.specs.Inputs.{IsItemIn}
use Rattle.gl_frames_stages.specs.ItemCosts.{cost_of_count_by}
use Rattle.gl_frames_stages.proofs.over.put_count_of.Goals as goal

pub put_passing_count-requires-clause-filter : goal.put_passing_count-requires-clause-filter
put_passing_count-requires-clause-filter c = subst (ConditionFits c.args.input.source.kinds.now) c.in-Some.is c.requires.filter

pub returns-in-Some : goal.returns-in-Some
returns-in-Some c =
    let back = c.args.back in
    subst (λ (f : Option ℕ). IfOk c.put_passing_count.result (IsItemIn c.args.net.now c.put_passing_count.new.net (cost_of_count_by f back) (delay_of_count f (Some back)) 32
    (λ sets rows. count_of (frame_of (Some back) (counts_in f) rows)) c.args.input)) (sym c.in-Some.is) c.put_passing_count.ensures

pub returns-in-None : goal.returns-in-None
returns-in-None c =
    let back = c.args.back in
    subst (λ (f : Option ℕ). IfOk c.put_number_item.result (IsItemIn c.args.net.now c.put_number_item.new.net (cost_of_count_by f back) (delay_of_count f (Some back)) 32
    (λ sets rows. count_of (frame_of (Some back) (counts_in f) rows)) c.args.input)) (sym c.in-None.is) c.put_number_item.ensures
