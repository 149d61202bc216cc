use Rattle.std.proofs.Common.{List, subst}
use Rattle.gl_net.specs.declared.node.Bus.{Bus}
use Rattle.gl_net.specs.Net.{Keeps}
use Rattle.gl_net.proofs.Determined.{keeps_then}
use Rattle.gl_wire.proofs.ColumnLemmas.{bit_kept}
use Rattle.gl_wire_registers.proofs.LineLemmas.{bits_kept}
use Rattle.gl_groups.specs.Finding.{AddsMet}
use Rattle.gl_groups.proofs.SoughtNet.{sought_are}
use Rattle.gl_groups.proofs.finding.seek_slots.Goals as goal

pub place_of-requires-clause-one : goal.place_of-requires-clause-one
place_of-requires-clause-one c =
    let passed : Keeps c.but_not.new.net c.count_used.new.net = keeps_then c.but_not.new.net c.but_not-2.new.net c.count_used.new.net c.in_ok-passes.ensures.keeps c.in_ok-many.ensures.keeps in
    let taken : Keeps c.find_one.new.net c.count_used.new.net = keeps_then c.find_one.new.net c.but_not.new.net c.count_used.new.net c.in_ok-new.ensures.keeps passed in
    bit_kept c.find_one.new.net c.count_used.new.net c.in_ok-one.one.one taken c.in_ok-one.ensures.one_bit

pub place_of-requires-clause-moved : goal.place_of-requires-clause-moved
place_of-requires-clause-moved c =
    let passed : Keeps c.but_not.new.net c.count_used.new.net = keeps_then c.but_not.new.net c.but_not-2.new.net c.count_used.new.net c.in_ok-passes.ensures.keeps c.in_ok-many.ensures.keeps in
    let taken : Keeps c.find_one.new.net c.count_used.new.net = keeps_then c.find_one.new.net c.but_not.new.net c.count_used.new.net c.in_ok-new.ensures.keeps passed in
    let found : Keeps c.put_moved.new.net c.count_used.new.net = keeps_then c.put_moved.new.net c.find_one.new.net c.count_used.new.net c.in_ok-one.ensures.keeps taken in
    bit_kept c.put_moved.new.net c.count_used.new.net c.in_ok-moved.moved found c.in_ok-moved.ensures.bit

pub place_of-requires-clause-hits : goal.place_of-requires-clause-hits
place_of-requires-clause-hits c =
    let passed : Keeps c.but_not.new.net c.count_used.new.net = keeps_then c.but_not.new.net c.but_not-2.new.net c.count_used.new.net c.in_ok-passes.ensures.keeps c.in_ok-many.ensures.keeps in
    let taken : Keeps c.find_one.new.net c.count_used.new.net = keeps_then c.find_one.new.net c.but_not.new.net c.count_used.new.net c.in_ok-new.ensures.keeps passed in
    let found : Keeps c.put_moved.new.net c.count_used.new.net = keeps_then c.put_moved.new.net c.find_one.new.net c.count_used.new.net c.in_ok-one.ensures.keeps taken in
    let moved : Keeps c.meet_each.new.net c.count_used.new.net = keeps_then c.meet_each.new.net c.put_moved.new.net c.count_used.new.net c.in_ok-moved.ensures.keeps found in
    bits_kept c.meet_each.new.net c.count_used.new.net c.in_ok-hits.hits moved c.in_ok-hits.ensures.bits

pub returns : goal.returns
returns c =
    let hits = subst (λ (bs : List Bus). AddsMet c.take_keys.new.net c.meet_each.new.net c.in_ok-kept.kept bs c.args.asking.now.here c.in_ok-hits.hits) c.as_slice.ensures c.in_ok-hits.ensures in
    sought_are c.args.net.now c.with_all.new.net c.ask_slots.new.net c.take_keys.new.net c.meet_each.new.net c.put_moved.new.net c.find_one.new.net c.but_not.new.net c.but_not-2.new.net c.count_used.new.net
    c.place_of.new.net c.args.asking.now c.args.used.now c.args.count c.args.width c.requires.count c.in_ok-kept.kept c.in_ok-hits.hits c.in_ok-asked.asked c.in_ok-keys.keys c.in_ok-moved.moved c.in_ok-one.one
    c.in_ok-new.new c.in_ok-passes.passes c.in_ok-many.many c.in_ok-place.place c.in_ok-kept.ensures c.in_ok-asked.ensures c.in_ok-keys.ensures hits c.in_ok-moved.ensures c.in_ok-one.ensures c.in_ok-new.ensures c.in_ok-passes.ensures
    c.in_ok-many.ensures c.in_ok-place.ensures
