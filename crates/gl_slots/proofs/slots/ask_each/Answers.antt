use Rattle.std.specs.Prelude.{slice_index_or}
use Rattle.std.proofs.lemmas.Option.{slice_get-get_or}
use Rattle.gl_net.specs.declared.node.Bit.{Bit}
use Rattle.gl_wire.proofs.ColumnLemmas.{bit_kept}
use Rattle.gl_slots.proofs.SlotNet.{asks_more, asks_none}
use Rattle.gl_slots.proofs.slots.ask_each.Goals as goal

pub loop-line-init : goal.loop-line-init
loop-line-init c = rw (c.new-asks.ensures) (asks_none c.args.net.now c.args.ask c.args.kept.now c.requires.ask)

pub both-requires-clause-left : goal.both-requires-clause-left
both-requires-clause-left c = bit_kept c.args.net.now c.loop-line.net _ c.loop-line.invariant.keeps c.requires.ask

pub both-requires-clause-right : goal.both-requires-clause-right
both-requires-clause-right c = bit_kept c.args.net.now c.loop-line.net _ c.loop-line.invariant.keeps (c.requires.kept.each c.loop-line.line-index _ (slice_get-get_or _ _ _ c.loop-line-test.true))

pub loop-line-preserved : goal.loop-line-preserved
loop-line-preserved c =
    let x : Bit = slice_index_or c.args.kept.now c.loop-line.line-index (record { node = 0 }) in
    rw (c.in_ok-push.ensures.ok)
    (asks_more c.args.net.now c.loop-line.net c.both.new.net c.args.ask c.args.kept.now c.loop-line.asks c.loop-line.line-index c.loop-line.passes x c.in_ok-passes.passes c.loop-line.invariant
    (slice_get-get_or _ _ _ c.loop-line-test.true) c.in_ok-passes.ensures)
