use Rattle.std.proofs.Common.{List, length, subst}
use Rattle.gl_net.specs.declared.node.Bit.{Bit}
use Rattle.gl_slots.specs.SlotLines.{AddsAsks}
use Rattle.gl_groups.proofs.FindingNet.{asked_are}
use Rattle.gl_groups.proofs.finding.ask_slots.Goals as goal

pub returns : goal.returns
returns c =
    let asks = subst (λ (bs : List Bit). AddsAsks c.args.net.now c.ask_each.new.net c.args.ask bs (length bs) c.in_ok-asked.asked) c.as_slice.ensures c.in_ok-asked.ensures in
    asked_are c.args.net.now c.ask_each.new.net c.pairwise.new.net c.but_not.new.net c.args.ask c.args.kept.now c.in_ok-asked.asked c.in_ok-nexts.nexts c.in_ok-room.room asks c.in_ok-nexts.ensures c.in_ok-room.ensures
