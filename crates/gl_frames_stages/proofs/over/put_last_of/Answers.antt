use Rattle.std.proofs.Common.{ℕ, Option, None, Some, arith, refl, sym, subst}
use Rattle.std.specs.Prelude.{IfOk}
use Rattle.std.proofs.lemmas.Result.{IfOk-weaker}
use Rattle.gl_algebra.specs.Values.{Sets}
use Rattle.gl_algebra.specs.Results.{counts_in}
use Rattle.gl_algebra.specs.Columns.{ConditionFits, kind_of_operand}
use Rattle.gl_values.specs.Kinds.{width_of}
use Rattle.gl_frames.specs.Frames.{last_value_of}
use Rattle.gl_frames_stages.specs.Framing.{cost_of_own, cost_of_recent, every, value_in}
use Rattle.gl_frames_stages.specs.Inputs.{IsItemIn}
use Rattle.gl_frames_stages.proofs.WholeNet.{item_as}
use Rattle.gl_frames_stages.proofs.over.put_last_of.Goals as goal

pub put_recent_item-requires-clause-filter : goal.put_recent_item-requires-clause-filter
put_recent_item-requires-clause-filter c = subst (ConditionFits c.args.input.source.kinds.now) c.in-Some.is c.requires.filter

pub returns-in-Some : goal.returns-in-Some
returns-in-Some c =
    let w = width_of (kind_of_operand c.args.input.source.kinds.now c.args.operand) in
    subst (λ (f : Option ℕ). IfOk c.put_recent_item.result (IsItemIn c.args.net.now c.put_recent_item.new.net (cost_of_recent w c.args.back) 1 w
    (λ sets. last_value_of (value_in sets c.args.operand) (Some c.args.back) (counts_in f)) c.args.input))
    (sym c.in-Some.is) c.put_recent_item.ensures

pub returns-in-None : goal.returns-in-None
returns-in-None c =
    let w = width_of (kind_of_operand c.args.input.source.kinds.now c.args.operand) in
    let v = λ (sets : Sets). value_in sets c.args.operand in
    let back = c.args.back in
    let old = c.args.net.now in
    let new = c.put_own_item.new.net in
    subst (λ (f : Option ℕ). IfOk c.put_own_item.result (IsItemIn old new (cost_of_recent w back) 1 w (λ sets. last_value_of (v sets) (Some back) (counts_in f)) c.args.input)) (sym c.in-None.is)
    (IfOk-weaker c.put_own_item.result (IsItemIn old new (cost_of_own w) 1 w (λ sets. last_value_of (v sets) (Some back) every) c.args.input)
    (IsItemIn old new (cost_of_recent w back) 1 w (λ sets. last_value_of (v sets) (Some back) (counts_in None)) c.args.input)
    (λ out. item_as old new (cost_of_own w) (cost_of_recent w back) 1 1 w w (λ sets. last_value_of (v sets) (Some back) every) (λ sets. last_value_of (v sets) (Some back) (counts_in None)) c.args.input out
    (omega arith) (omega arith) (omega arith) refl refl (λ sets rows. refl)) (c.put_own_item.ensures (Some back)))
