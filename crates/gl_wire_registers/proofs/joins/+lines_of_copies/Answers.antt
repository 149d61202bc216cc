use Rattle.std.proofs.Common.{List, subst, sym, arith, rules}
use Rattle.gl_wire.specs.declared.emitted.Emitted.{Emitted}
use Rattle.gl_wire.specs.declared.emitted.Faults.{Faults}
use Rattle.gl_wire_registers.specs.Joins.{HaveLines, JoinsAlone}
use Rattle.gl_wire_registers.proofs.HalfLemmas.{halves}
use Rattle.gl_wire_registers.proofs.JoinLemmas.{alone_both, alone_few, have_kept, have_part}
use Rattle.gl_wire_registers.proofs.joins.+lines_of_copies.Goals as goal

pub returns-then-copies-lt2 : goal.returns-then-copies-lt2
returns-then-copies-lt2 t c =
    subst (λ (f : Faults). JoinsAlone c.args.net.now c.args.net.now c.args.copies.now f) (sym c.lines_of_few-faults.ensures) (alone_few c.args.net.now c.args.copies.now c.requires (omega (arith, c.if-copies-lt2.true)))

pub lines_of_copies-requires : goal.lines_of_copies-requires
lines_of_copies-requires t c =
    let cut = halves c.args.copies.now c.split_at.result.0.now c.split_at.result.1.now (omega (arith, c.if-copies-lt2.false)) c.split_at.ensures.front c.split_at.ensures.back in
    (search rules, (have_part c.args.net.now c.split_at.result.0.now c.split_at.result.1.now (subst (HaveLines c.args.net.now) (sym cut.whole) c.requires)).0)

pub lines_of_copies-requires-2 : goal.lines_of_copies-requires-2
lines_of_copies-requires-2 t c =
    let cut = halves c.args.copies.now c.split_at.result.0.now c.split_at.result.1.now (omega (arith, c.if-copies-lt2.false)) c.split_at.ensures.front c.split_at.ensures.back in
    let part = have_part c.args.net.now c.split_at.result.0.now c.split_at.result.1.now (subst (HaveLines c.args.net.now) (sym cut.whole) c.requires) in
    (search rules, have_kept c.args.net.now c.lines_of_copies.new.net c.split_at.result.1.now c.in_ok-left.ensures.keeps part.1)

pub returns : goal.returns
returns t c =
    let cut = halves c.args.copies.now c.split_at.result.0.now c.split_at.result.1.now (omega (arith, c.if-copies-lt2.false)) c.split_at.ensures.front c.split_at.ensures.back in
    subst (λ (es : List Emitted). JoinsAlone c.args.net.now c.both_faults.new.net es c.in_ok-faults.faults) cut.whole
    (alone_both c.args.net.now c.lines_of_copies.new.net c.lines_of_copies-2.new.net c.both_faults.new.net c.split_at.result.0.now c.split_at.result.1.now c.in_ok-left.left c.in_ok-right.right c.in_ok-faults.faults
    cut.left cut.right c.in_ok-left.ensures c.in_ok-right.ensures c.in_ok-faults.ensures)
