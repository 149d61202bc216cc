use Rattle.std.proofs.Common.{◌≡◌, ◌<◌, [], length, sym, subst, arith}
use Rattle.std.proofs.lemmas.List.{take_more}
use Rattle.std.proofs.lemmas.Option.{slice_get-get_or}
use Rattle.gl_wire.proofs.ColumnLemmas.{bus_kept, same_length}
use Rattle.gl_queue.proofs.MergeLinesLemmas.{chosen_none, chosen_more, widths_at}
use Rattle.gl_queue.specs.MergeLines.{AreChosenOf}
use Rattle.gl_queue.proofs.merge.choose_all.Goals as goal

pub loop-i-init : goal.loop-i-init
loop-i-init c = subst (AreChosenOf c.args.net.now c.args.net.now c.args.test [] []) (sym c.new-all.ensures) (chosen_none c.args.net.now c.args.test)

pub choose-requires-clause-yes : goal.choose-requires-clause-yes
choose-requires-clause-yes c = bus_kept c.args.net.now c.loop-i.net _ c.loop-i.invariant.keeps (c.requires.yes.each _ _ (slice_get-get_or _ _ _ c.loop-i-test.true))

pub choose-requires-clause-no : goal.choose-requires-clause-no
choose-requires-clause-no c =
    let same : length c.args.yes.now ≡ length c.args.no.now = same_length c.args.yes.now c.args.no.now c.requires.widths in
    let less : c.loop-i.i < length c.args.no.now = omega arith in
    bus_kept c.args.net.now c.loop-i.net _ c.loop-i.invariant.keeps (c.requires.no.each _ _ (slice_get-get_or _ _ _ less))

pub choose-requires-clause-widths : goal.choose-requires-clause-widths
choose-requires-clause-widths c = widths_at c.args.yes.now c.args.no.now c.loop-i.i (record { node = 0; width = 0 }) c.requires.widths

pub loop-i-preserved : goal.loop-i-preserved
loop-i-preserved c =
    let here = c.in_ok-bus.ensures in
    let same : length c.args.yes.now ≡ length c.args.no.now = same_length c.args.yes.now c.args.no.now c.requires.widths in
    let less : c.loop-i.i < length c.args.no.now = omega arith in
    rw (take_more c.args.yes.now c.loop-i.i (record { node = 0; width = 0 }) c.loop-i-test.true, take_more c.args.no.now c.loop-i.i (record { node = 0; width = 0 }) less, c.in_ok-push.ensures.ok)
    (chosen_more c.args.net.now c.loop-i.net c.choose.new.self c.args.test _ _ _ _ _ _ c.loop-i.invariant here.keeps (record { nodes = here.size; registers = omega (arith, here.register_bits); memories = omega (arith, here.memory_bits) }) here.bus here.width here.value)
