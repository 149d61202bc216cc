use Rattle.std.proofs.Common.{ℕ, Option, Some, sym, subst}
use Rattle.std.specs.Prelude.{IfOk}
use Rattle.gl_algebra.specs.Frames.{delay_of_extreme}
use Rattle.gl_algebra.specs.Results.{counts_in}
use Rattle.gl_algebra.specs.Columns.{ConditionFits, kind_of_operand}
use Rattle.gl_values.specs.Kinds.{width_of}
use Rattle.gl_frames.specs.Frames.{total_over}
use Rattle.gl_totals.specs.Totals.{extreme_of}
use Rattle.gl_frames_stages.specs.Framing.{value_in}
use Rattle.gl_frames_stages.specs.Inputs.{IsItemIn}
use Rattle.gl_frames_stages.specs.ItemCosts.{cost_of_extreme_by}
use Rattle.gl_frames_stages.proofs.over.put_extreme_of.Goals as goal

pub put_filtered_item-requires-clause-filter : goal.put_filtered_item-requires-clause-filter
put_filtered_item-requires-clause-filter c = subst (ConditionFits c.args.input.source.kinds.now) c.in-Some.is c.requires.filter

pub returns-in-Some : goal.returns-in-Some
returns-in-Some c =
    let kind = kind_of_operand c.args.input.source.kinds.now c.args.operand in
    subst (λ (f : Option ℕ). IfOk c.put_filtered_item.result (IsItemIn c.args.net.now c.put_filtered_item.new.net (cost_of_extreme_by f (width_of kind) c.args.back) (delay_of_extreme (Some c.args.back)) (width_of kind)
    (λ sets. total_over (extreme_of c.args.extreme kind) (value_in sets c.args.operand) (Some c.args.back) (counts_in f)) c.args.input)) (sym c.in-Some.is) c.put_filtered_item.ensures

pub returns-in-None : goal.returns-in-None
returns-in-None c =
    let kind = kind_of_operand c.args.input.source.kinds.now c.args.operand in
    subst (λ (f : Option ℕ). IfOk c.put_extreme_item.result (IsItemIn c.args.net.now c.put_extreme_item.new.net (cost_of_extreme_by f (width_of kind) c.args.back) (delay_of_extreme (Some c.args.back)) (width_of kind)
    (λ sets. total_over (extreme_of c.args.extreme kind) (value_in sets c.args.operand) (Some c.args.back) (counts_in f)) c.args.input)) (sym c.in-None.is) c.put_extreme_item.ensures
