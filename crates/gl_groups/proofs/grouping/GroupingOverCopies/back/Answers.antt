use Rattle.std.proofs.Common.{◌∙◌, sym}
use Rattle.gl_slots.proofs.BackNet.{keys_are}
use Rattle.gl_groups.proofs.GroupedNet.{is_backed}
use Rattle.gl_groups.proofs.grouping.GroupingOverCopies.back.Goals as goal

pub join_all-requires-clause-keys : goal.join_all-requires-clause-keys
join_all-requires-clause-keys c = keys_are c.args.net.now c.args.self.now.slots c.args.self.now.key _ c.args.front.now.keys c.requires.numbers.some' c.requires.front.keys

pub join_all-requires-clause-keys_count : goal.join_all-requires-clause-keys_count
join_all-requires-clause-keys_count c = c.requires.front.keys.as_many ∙ sym c.requires.count

pub returns : goal.returns
returns c =
    is_backed c.groupings_serve.ensures c.args.net.now c.join_all.new.net c.args.self.now c.args.front.now c.args.copies.now c.in_ok-whole.whole c.requires.numbers c.requires.front c.requires.count c.in_ok-whole.ensures
