use Rattle.std.proofs.Common.{ap, sym, subst, ◌∙◌}
use Rattle.gl_frames_slots.specs.KeyNets.{AreKeyFramesIn}
use Rattle.gl_frames_slots.specs.declared.keyed.Partition.{Partition}
use Rattle.gl_rows.proofs.MadeLemmas.{words_kept}
use Rattle.gl_frames_parted.proofs.FitLemmas.{IsTaken, partition_taken}
use Rattle.gl_frames_parted.proofs.LookUpLemmas.{over_all}
use Rattle.gl_frames_parted.proofs.parted.put_over_all.Goals as goal

taken : (c : goal.After-lane-2-1) → IsTaken c.partition_by-partition.result c.args.items.now
taken c =
    subst (λ (p : Partition). IsTaken p c.args.items.now) (sym c.partition_by-partition.ensures)
    (partition_taken c.args.scope.kinds.now c.args.by c.args.items.now c.requires.are_kinds c.requires.fit c.requires.key)

pub put_key_frames-requires-clause-width : goal.put_key_frames-requires-clause-width
put_key_frames-requires-clause-width c = (taken c).width

pub put_key_frames-requires-clause-bits : goal.put_key_frames-requires-clause-bits
put_key_frames-requires-clause-bits c = (taken c).bits

pub put_key_frames-requires-clause-address : goal.put_key_frames-requires-clause-address
put_key_frames-requires-clause-address c = (taken c).address

pub put_key_frames-requires-clause-slot_items : goal.put_key_frames-requires-clause-slot_items
put_key_frames-requires-clause-slot_items c = (taken c).slot_items

pub put_key_frames-requires-clause-wait : goal.put_key_frames-requires-clause-wait
put_key_frames-requires-clause-wait c = (taken c).wait

pub put_key_frames-requires-clause-kinds : goal.put_key_frames-requires-clause-kinds
put_key_frames-requires-clause-kinds c = c.in_ok-lane.ensures.has.same_widths ∙ c.requires.kinds

pub put_key_frames-requires-clause-words : goal.put_key_frames-requires-clause-words
put_key_frames-requires-clause-words c = words_kept c.args.net.now c.put_look_up.new.net c.args.scope.words.now c.in_ok-lane.ensures.keeps c.requires.words

pub put_key_frames-requires-clause-slot_width : goal.put_key_frames-requires-clause-slot_width
put_key_frames-requires-clause-slot_width c =
    c.in_ok-lane.ensures.has.slot_width ∙ sym (ap (λ (p : Partition). p.keys.width) c.partition_by-partition.ensures)

pub returns : goal.returns
returns c =
    let kinds = c.args.scope.kinds.now in
    let items = c.args.items.now in
    let look = c.in_ok-lane.ensures in
    let lane = c.in_ok-lane.lane in
    let frames = c.in_ok-frames.frames in
    let mid = c.put_look_up.new.net in
    let new = c.put_key_frames.new.net in
    over_all kinds c.args.by items c.args.wire.now lane frames c.args.net.now mid new (look.has.same_widths ∙ c.requires.kinds) look
    (subst (λ (p : Partition). AreKeyFramesIn mid new p kinds items lane frames) c.partition_by-partition.ensures c.in_ok-frames.ensures)
