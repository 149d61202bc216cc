use Rattle.std.proofs.Common.{sym, subst}
use Rattle.std.specs.Prelude.{IfOk}
use Rattle.gl_totals.specs.Slots.{IsNow}
use Rattle.gl_totals.specs.declared.fold.Step.{Step}
use Rattle.gl_totals.specs.declared.fold.Step.TheVariants.{Add, Set, Shift}
use Rattle.gl_totals.proofs.fold.put_now.Goals as goal

pub returns-in_ok-next-in-Add : goal.returns-in_ok-next-in-Add
returns-in_ok-next-in-Add c =
    let old = c.args.net.now in
    let new = c.put_stepped.new.net in
    subst (λ (s : Step). IfOk c.put_stepped.result (IsNow old new c.args.valid c.args.word s)) (sym c.in-Add.is)
    (c.put_stepped.ensures old (Add c.in-Add.value) c.in_ok-next-in-Add.ensures)

pub returns-in_ok-next-in-Shift : goal.returns-in_ok-next-in-Shift
returns-in_ok-next-in-Shift c =
    let old = c.args.net.now in
    let new = c.put_stepped-in-Shift.new.net in
    subst (λ (s : Step). IfOk c.put_stepped-in-Shift.result (IsNow old new c.args.valid c.args.word s)) (sym c.in-Shift.is)
    (c.put_stepped-in-Shift.ensures old Shift c.in_ok-next-in-Shift.ensures)

pub returns-in_ok-next-in-Set : goal.returns-in_ok-next-in-Set
returns-in_ok-next-in-Set c =
    let old = c.args.net.now in
    let new = c.put_stepped-in-Set.new.net in
    subst (λ (s : Step). IfOk c.put_stepped-in-Set.result (IsNow old new c.args.valid c.args.word s)) (sym c.in-Set.is)
    (c.put_stepped-in-Set.ensures old Set c.in_ok-next-in-Set.ensures)
