use Rattle.std.proofs.Common.{sym, subst}
use Rattle.std.specs.Prelude.{IfOk}
use Rattle.gl_totals.specs.Folds.{IsFold}
use Rattle.gl_totals.specs.Open.{KeepFits}
use Rattle.gl_totals.specs.declared.rows.Keep.{Keep}
use Rattle.gl_totals.proofs.fold.put_fold.Goals as goal

pub returns-in-Register : goal.returns-in-Register
returns-in-Register c =
    let rows = c.args.rows in
    let first = c.args.first in
    subst (λ (k : Keep). IfOk c.put_register.result (IsFold c.args.net.now c.put_register.new.net first.width first.bits c.args.step
    (record { valid = rows.valid; eos = rows.eos; keep = k }))) (sym c.in-Register.is) c.put_register.ensures

pub returns-in-Slots : goal.returns-in-Slots
returns-in-Slots c =
    let rows = c.args.rows in
    let first = c.args.first in
    subst (λ (k : Keep). IfOk c.put_slots.result (IsFold c.args.net.now c.put_slots.new.net first.width first.bits c.args.step
    (record { valid = rows.valid; eos = rows.eos; keep = k }))) (sym c.in-Slots.is) (c.put_slots.ensures rows.eos)

pub put_slots-requires-clause-first : goal.put_slots-requires-clause-first
put_slots-requires-clause-first c = (subst (KeepFits c.args.net.now) c.in-Slots.is c.requires.keep).0

pub put_slots-requires-clause-begins : goal.put_slots-requires-clause-begins
put_slots-requires-clause-begins c = (subst (KeepFits c.args.net.now) c.in-Slots.is c.requires.keep).1

pub put_slots-requires-clause-slot : goal.put_slots-requires-clause-slot
put_slots-requires-clause-slot c = (subst (KeepFits c.args.net.now) c.in-Slots.is c.requires.keep).2

pub put_slots-requires-clause-next : goal.put_slots-requires-clause-next
put_slots-requires-clause-next c = (subst (KeepFits c.args.net.now) c.in-Slots.is c.requires.keep).3

pub put_slots-requires-clause-bits : goal.put_slots-requires-clause-bits
put_slots-requires-clause-bits c = (subst (KeepFits c.args.net.now) c.in-Slots.is c.requires.keep).4

pub put_slots-requires-clause-same_width : goal.put_slots-requires-clause-same_width
put_slots-requires-clause-same_width c = (subst (KeepFits c.args.net.now) c.in-Slots.is c.requires.keep).5
