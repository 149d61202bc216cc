use Rattle.std.proofs.lemmas.Option.{get_or_from_slice_get}
use Rattle.gl_figures.proofs.RootLemmas.{is_heavy}
use Rattle.gl_figures.proofs.weighed.weigh.Goals as goal

pub returns-then-weight-gt-MOST_WEIGHT-clause-err : goal.returns-then-weight-gt-MOST_WEIGHT-clause-err
returns-then-weight-gt-MOST_WEIGHT-clause-err c =
    is_heavy c.args.plan.now c.args.root c.weight_alone-weight.result c.requires.root c.weight_alone-weight.ensures c.if-weight-gt-MOST_WEIGHT.true

pub printed_alone-requires-clause-copies : goal.printed_alone-requires-clause-copies
printed_alone-requires-clause-copies c =
    get_or_from_slice_get c.count_copies.new.into c.number.result _ _
    (rw c.number.ensures (c.count_copies.ensures.each c.args.root c.requires.root))

pub printed_with-requires-clause-copies : goal.printed_with-requires-clause-copies
printed_with-requires-clause-copies c =
    get_or_from_slice_get c.count_copies.new.into c.number.result _ _
    (rw c.number.ensures (c.count_copies.ensures.each c.args.root c.requires.root))
