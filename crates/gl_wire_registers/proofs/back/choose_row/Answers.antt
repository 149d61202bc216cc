use Rattle.std.proofs.Common.{◌<◌, length, arith, take}
use Rattle.std.specs.Prelude.{slice_index_or}
use Rattle.std.proofs.lemmas.List.{take_more}
use Rattle.std.proofs.lemmas.Option.{slice_get-get_or}
use Rattle.gl_net.specs.declared.node.Bus.{Bus}
use Rattle.gl_wire.proofs.ColumnLemmas.{bus_kept, same_length}
use Rattle.gl_wire_registers.proofs.BackLemmas.{chooses_more, width_at}
use Rattle.gl_wire_registers.proofs.back.choose_row.Goals as goal

pub choose-requires-clause-yes : goal.choose-requires-clause-yes
choose-requires-clause-yes c = bus_kept c.args.net.now c.loop-i.net _ c.loop-i.invariant.keeps (c.requires.first.each _ _ (slice_get-get_or _ _ _ c.loop-i-test.true))

pub choose-requires-clause-no : goal.choose-requires-clause-no
choose-requires-clause-no c =
    let more : c.loop-i.i < length c.args.second.now = omega (arith, c.loop-i-test.true, same_length c.args.second.now c.args.first.now c.requires.widths) in
    bus_kept c.args.net.now c.loop-i.net _ c.loop-i.invariant.keeps (c.requires.second.each _ _ (slice_get-get_or _ _ _ more))

pub choose-requires-clause-widths : goal.choose-requires-clause-widths
choose-requires-clause-widths c =
    let more : c.loop-i.i < length c.args.second.now = omega (arith, c.loop-i-test.true, same_length c.args.second.now c.args.first.now c.requires.widths) in
    width_at c.args.second.now c.args.first.now c.loop-i.i _ _ c.requires.widths (slice_get-get_or _ _ _ more) (slice_get-get_or _ _ _ c.loop-i-test.true)

pub loop-i-preserved : goal.loop-i-preserved
loop-i-preserved c =
    let d : Bus = record { node = 0; width = 0 } in
    let here = c.in_ok-chosen.ensures in
    let more : c.loop-i.i < length c.args.second.now = omega (arith, c.loop-i-test.true, same_length c.args.second.now c.args.first.now c.requires.widths) in
    rw (take_more c.args.first.now c.loop-i.i (record { node = 0; width = 0 }) c.loop-i-test.true, take_more c.args.second.now c.loop-i.i (record { node = 0; width = 0 }) more, c.in_ok-push.ensures.ok)
    (chooses_more c.args.net.now c.loop-i.net c.choose.new.self c.args.test (take c.loop-i.i c.args.first.now) (take c.loop-i.i c.args.second.now) c.loop-i.all (slice_index_or c.args.first.now c.loop-i.i d) (slice_index_or c.args.second.now c.loop-i.i d) c.in_ok-chosen.chosen
    c.loop-i.invariant here.keeps here.bus here.width (record { nodes = omega (arith, here.size); registers = omega (arith, here.register_bits); memories = omega (arith, here.memory_bits) }) here.value)
