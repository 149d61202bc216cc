use Rattle.std.proofs.Common.{◌≡◌, ◌∙◌, List, subst, sym, ap}
use Rattle.gl_net.specs.declared.node.Bus.{Bus}
use Rattle.gl_net.proofs.Determined.{keeps_then}
use Rattle.gl_wire.proofs.ColumnLemmas.{bit_kept}
use Rattle.gl_partition.specs.Fronts.{AddsFront, repeated}
use Rattle.gl_partition.proofs.FrontNet.{front_adds}
use Rattle.gl_partition.proofs.front.put_front.Goals as goal

pub put_looked-requires-clause-count : goal.put_looked-requires-clause-count
put_looked-requires-clause-count c = c.in_ok-look.ensures.dues_count ∙ sym c.in_ok-look.ensures.matches_count

pub copy_wires-requires-clause-count : goal.copy_wires-requires-clause-count
copy_wires-requires-clause-count c = c.in_ok-chosen.ensures.ends_count ∙ sym c.in_ok-chosen.ensures.takes_count

pub later_bit-requires : goal.later_bit-requires
later_bit-requires c =
    bit_kept c.look_at.new.net c.copy_wires.new.net c.in_ok-look.look.passes
    (keeps_then c.look_at.new.net c.put_looked.new.net c.copy_wires.new.net c.in_ok-chosen.ensures.keeps c.in_ok-wires.ensures.keeps) c.in_ok-look.ensures.passes

pub returns : goal.returns
returns c = rw c.note_bit.ensures (
    let look = c.in_ok-look.look in
    let keys : c.in_ok-keys.keys ≡ repeated c.args.numbers.sizes.copies look.keys = c.in_ok-keys.ensures ∙ ap (repeated c.args.numbers.sizes.copies) c.as_slice.ensures in
    subst (λ (bs : List Bus). AddsFront c.args.net.now c.later_bit.new.net c.args.numbers.key c.args.numbers.slots c.args.numbers.sizes.size c.args.numbers.sizes.advance c.args.numbers.sizes.copies c.args.numbers.stride c.args.numbers.width c.args.wire.now
    (record { wires = c.in_ok-wires.wires; keys = bs; further = c.in_ok-further.further })) (sym keys)
    (front_adds c.args.net.now c.look_at.new.net c.put_looked.new.net c.copy_wires.new.net c.later_bit.new.net c.args.wire.now c.args.numbers.key c.args.numbers.slots c.args.numbers.sizes.size c.args.numbers.sizes.advance c.args.numbers.sizes.copies c.args.numbers.stride c.args.numbers.width
    c.requires.size c.requires.advance c.requires.copies look c.in_ok-chosen.chosen c.in_ok-wires.wires c.in_ok-further.further c.in_ok-look.ensures c.in_ok-chosen.ensures c.in_ok-wires.ensures c.in_ok-further.ensures))
