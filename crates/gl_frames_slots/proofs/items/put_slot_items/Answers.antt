use Rattle.std.proofs.Common.{◌≤◌, [], ap, length, take, arith, sym, subst}
use Rattle.std.proofs.lemmas.List.{length-take-le}
use Rattle.gl_algebra.specs.Frames.{delay_of_frame, delay_of_frames}
use Rattle.gl_algebra.specs.declared.node.PlanFrame.{PlanFrame}
use Rattle.gl_frames_stages.proofs.CycleLemmas.{item_within}
use Rattle.gl_bits.proofs.AllLists.{taken_next}
use Rattle.gl_frames_slots.specs.Items.{AreSlotItemsIn}
use Rattle.gl_frames_slots.proofs.ItemsNet.{input_kept, items_many, items_more, items_none, items_stand}
use Rattle.gl_frames_slots.proofs.items.put_slot_items.Goals as goal

pub loop-item-init : goal.loop-item-init
loop-item-init c = subst (AreSlotItemsIn c.args.net.now c.args.net.now c.args.input c.args.count c.args.cycles []) (sym c.new-all.ensures) (items_none c.args.net.now c.args.input c.args.count c.args.cycles)

pub put_slot_once-requires-clause-input : goal.put_slot_once-requires-clause-input
put_slot_once-requires-clause-input c = input_kept c.args.net.now c.loop-item.net c.args.input c.loop-item.invariant.keeps c.requires.input

pub put_slot_once-requires-clause-late : goal.put_slot_once-requires-clause-late
put_slot_once-requires-clause-late c =
    let kinds = c.args.input.source.kinds.now in
    let item : delay_of_frame kinds c.item-item.result ≤ delay_of_frames kinds c.args.items.now =
    subst (λ (i : PlanFrame). delay_of_frame kinds i ≤ delay_of_frames kinds c.args.items.now) (sym c.item-item.is)
    (item_within kinds c.args.items.now c.loop-item.item-index c.item-item.result c.loop-item-test.true) in
    omega (arith, item, c.requires.late)

pub put_slot_once-requires-clause-within : goal.put_slot_once-requires-clause-within
put_slot_once-requires-clause-within c =
    let many = items_many c.args.net.now c.loop-item.net c.args.input c.args.count c.args.cycles (take c.loop-item.item-index c.args.items.now) c.loop-item.all c.loop-item.invariant in
    let there = length-take-le c.loop-item.item-index c.args.items.now (omega (arith, c.loop-item-test.true)) in
    omega (arith, ap length c.as_slice.ensures, many, there, c.loop-item-test.true)

pub put_slot_once-requires-clause-made : goal.put_slot_once-requires-clause-made
put_slot_once-requires-clause-made c =
    let many = items_many c.args.net.now c.loop-item.net c.args.input c.args.count c.args.cycles (take c.loop-item.item-index c.args.items.now) c.loop-item.all c.loop-item.invariant in
    let there = length-take-le c.loop-item.item-index c.args.items.now (omega (arith, c.loop-item-test.true)) in
    rw (c.as_slice.ensures, many, there)
    (items_stand c.args.net.now c.loop-item.net c.args.input c.args.count c.args.cycles (take c.loop-item.item-index c.args.items.now) c.loop-item.all c.loop-item.invariant)

pub loop-item-preserved : goal.loop-item-preserved
loop-item-preserved c =
    rw (taken_next c.args.items.now c.loop-item.item-index c.item-item.result c.loop-item-test.true c.item-item.is, c.in_ok-push.ensures.ok)
    (items_more c.args.net.now c.loop-item.net c.put_slot_once.new.net c.args.input c.args.count c.args.cycles (take c.loop-item.item-index c.args.items.now) c.item-item.result c.loop-item.all
    c.in_ok-bus.bus c.loop-item.invariant c.in_ok-bus.ensures)
