use Rattle.std.proofs.Common.{ℕ, ◌∙◌, ◌+◌, sym, subst, arith}
use Rattle.gl_tuples.specs.Gaps.{plain_list}
use Rattle.gl_testbench.specs.Dues.{AreDue}
use Rattle.gl_testbench.proofs.Due.{taken_here, taken_later, taken_none}
use Rattle.gl_runner.proofs.Making.{get_below}
use Rattle.gl_runner.proofs.driving.due.Goals as goal

pub returns-then-from-cycle-clause-beat : goal.returns-then-from-cycle-clause-beat
returns-then-from-cycle-clause-beat c = (taken_later c.args.beats.now.list c.args.next.now c.args.cycle c.in-Some.beat c.requires (sym c.in-Some.is ∙ c.get.ensures) (λ e. c.if-from-cycle.true (c.from.ensures ∙ c.cycle.ensures ∙ e))).beat

pub returns-then-from-cycle-clause-due : goal.returns-then-from-cycle-clause-due
returns-then-from-cycle-clause-due c = (taken_later c.args.beats.now.list c.args.next.now c.args.cycle c.in-Some.beat c.requires (sym c.in-Some.is ∙ c.get.ensures) (λ e. c.if-from-cycle.true (c.from.ensures ∙ c.cycle.ensures ∙ e))).due

pub returns-clause-beat : goal.returns-clause-beat
returns-clause-beat c = (taken_here c.args.beats.now.list c.args.next.now c.args.cycle c.in-Some.beat c.requires (sym c.in-Some.is ∙ c.get.ensures) (sym (c.from.ensures ∙ c.cycle.ensures) ∙ c.if-from-cycle.false)).beat

pub returns-clause-due : goal.returns-clause-due
returns-clause-due c = subst (λ (k : ℕ). AreDue (plain_list c.args.beats.now.list) k (c.args.cycle + 1)) (sym c.behind.ensures) (taken_here c.args.beats.now.list c.args.next.now c.args.cycle c.in-Some.beat c.requires (sym c.in-Some.is ∙ c.get.ensures) (sym (c.from.ensures ∙ c.cycle.ensures) ∙ c.if-from-cycle.false)).due

pub returns-in_default-clause-beat : goal.returns-in_default-clause-beat
returns-in_default-clause-beat c = (taken_none c.args.beats.now.list c.args.next.now c.args.cycle c.requires (sym c.in_default.is ∙ c.get.ensures)).beat

pub returns-in_default-clause-due : goal.returns-in_default-clause-due
returns-in_default-clause-due c = (taken_none c.args.beats.now.list c.args.next.now c.args.cycle c.requires (sym c.in_default.is ∙ c.get.ensures)).due

pub behind-requires : goal.behind-requires
behind-requires c = omega (arith, get_below c.args.beats.now.list c.args.next.now c.in-Some.beat (sym c.in-Some.is ∙ c.get.ensures), c.len.ensures)
