use Rattle.std.proofs.Common.{◌≡◌, ◌∙◌, List, [], ◌∷◌, ◌++◌, Bool, true, not, refl, sym, ap, subst, is_ok}
use Rattle.gl_verilog.specs.View.{assignment_of}
use Rattle.gl_verilog_check.specs.Orders.{meant}
use Rattle.gl_verilog_check.specs.Passes.{IsPlacing}
use Rattle.gl_verilog_check.proofs.Orders.{placing_placed}
use Rattle.gl_verilog_check.proofs.order.place.Goals as goal

pub returns-clause-kept : goal.returns-clause-kept
returns-clause-kept c =
    let as' = meant c.args.assignments.now in
    let done : is_ok c.push.result ≡ true = c.is_err.ensures.negation ∙ ap (λ (b : Bool). not b) c.if-is_err.false in
    let pushed : c.push.new.self.items ≡ c.args.order.now.items ++ c.args.k ∷ [] = c.push.ensures.items ∙ rw done refl in
    subst (IsPlacing as' c.clear.new.marks.items) (sym pushed)
    (subst (λ (ms : List Bool). IsPlacing as' ms (c.args.order.now.items ++ c.args.k ∷ [])) (sym c.if-not-clear.ensures.marks)
    (placing_placed as' c.args.marks.now.items c.args.order.now.items c.args.k (assignment_of c.args.assignment.now) c.requires.once c.requires.at (sym c.if-not-clear.ensures.found) c.requires.placing))
