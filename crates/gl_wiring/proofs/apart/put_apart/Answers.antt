use Rattle.gl_wiring.proofs.SpacedLemmas.{none_put, spacer_put}
use Rattle.gl_wiring.proofs.apart.put_apart.Goals as goal

pub returns-else-needs_spacer : goal.returns-else-needs_spacer
returns-else-needs_spacer c =
    let none = c.if-needs_spacer.false in
    none_put c.laws_below.ensures c.args.net.now c.args.gap c.args.source c.args.below (rw c.needs_spacer.ensures at none) c.requires.sound c.requires.wire c.requires.lines

pub returns-in_ok-e : goal.returns-in_ok-e
returns-in_ok-e c =
    let needed = c.if-needs_spacer.true in
    spacer_put c.laws_below.ensures c.args.net.now c.emit.new.net c.args.gap c.args.source c.args.below c.in_ok-e.e (rw c.needs_spacer.ensures at needed) c.requires.narrow
    c.in_ok-e.ensures
