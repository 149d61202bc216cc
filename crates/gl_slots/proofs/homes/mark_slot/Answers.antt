use Rattle.std.proofs.Common.{◌*◌, List, length, subst, sym, ap, arith, ◌∙◌}
use Rattle.gl_net.specs.declared.node.Bit.{Bit}
use Rattle.gl_net.proofs.Determined.{keeps_then}
use Rattle.gl_wire.proofs.ColumnLemmas.{bit_kept, bus_kept}
use Rattle.gl_wire_registers.specs.Lines.{AreBits}
use Rattle.gl_wire_registers.proofs.LineLemmas.{bits_kept}
use Rattle.gl_slots.specs.Picks.{PicksOne}
use Rattle.gl_slots.proofs.HomeNet.{mark_is}
use Rattle.gl_slots.proofs.PickLemmas.{alike_kept}
use Rattle.gl_slots.proofs.homes.mark_slot.Goals as goal

pub pick-requires-clause-lines : goal.pick-requires-clause-lines
pick-requires-clause-lines c = subst (AreBits c.args.net.now) (sym c.as_slice.ensures) c.requires.seen.found

pub pick-requires-clause-buses : goal.pick-requires-clause-buses
pick-requires-clause-buses c = c.requires.marks.alike

pub pick-requires-clause-count : goal.pick-requires-clause-count
pick-requires-clause-count c = sym (ap (λ (bs : List Bit). length bs) c.as_slice.ensures ∙ c.requires.seen.found_count)

pub pick-requires-clause-some : goal.pick-requires-clause-some
pick-requires-clause-some c = omega (arith, c.requires.some, ap (λ (bs : List Bit). length bs) c.as_slice.ensures, c.requires.seen.found_count)

pub pick-requires-2-clause-lines : goal.pick-requires-2-clause-lines
pick-requires-2-clause-lines c =
    subst (AreBits c.pick.new.net) (sym c.as_slice-2.ensures) (bits_kept c.args.net.now c.pick.new.net c.args.seen.now.nexts c.in_ok-has.ensures.keeps c.requires.seen.nexts)

pub pick-requires-2-clause-buses : goal.pick-requires-2-clause-buses
pick-requires-2-clause-buses c = alike_kept c.args.net.now c.pick.new.net c.args.width c.args.marks.now c.in_ok-has.ensures.keeps c.requires.marks.alike

pub pick-requires-2-clause-count : goal.pick-requires-2-clause-count
pick-requires-2-clause-count c = sym (ap (λ (bs : List Bit). length bs) c.as_slice-2.ensures ∙ c.requires.seen.nexts_count)

pub pick-requires-2-clause-some : goal.pick-requires-2-clause-some
pick-requires-2-clause-some c = omega (arith, c.requires.some, ap (λ (bs : List Bit). length bs) c.as_slice-2.ensures, c.requires.seen.nexts_count)

pub choose-requires-clause-test : goal.choose-requires-clause-test
choose-requires-clause-test c =
    bit_kept c.args.net.now c.pick-2.new.net c.args.seen.now.one (keeps_then c.args.net.now c.pick.new.net c.pick-2.new.net c.in_ok-has.ensures.keeps c.in_ok-next.ensures.keeps) c.requires.seen.one

pub choose-requires-clause-yes : goal.choose-requires-clause-yes
choose-requires-clause-yes c = bus_kept c.pick.new.net c.pick-2.new.net c.in_ok-has.has c.in_ok-next.ensures.keeps c.in_ok-has.ensures.bus

pub choose-requires-clause-widths : goal.choose-requires-clause-widths
choose-requires-clause-widths c = c.in_ok-has.ensures.same_width ∙ sym c.in_ok-next.ensures.same_width

pub returns : goal.returns
returns c =
    let has = subst (λ (ls : List Bit). PicksOne c.args.net.now c.pick.new.net ls c.args.marks.now c.args.width (length ls * 2) c.in_ok-has.has) c.as_slice.ensures c.in_ok-has.ensures in
    let next = subst (λ (ls : List Bit). PicksOne c.pick.new.net c.pick-2.new.net ls c.args.marks.now c.args.width (length ls * 2) c.in_ok-next.next) c.as_slice-2.ensures c.in_ok-next.ensures in
    let mark = c.in_ok-mark.ensures in
    mark_is c.args.net.now c.pick.new.net c.pick-2.new.net c.choose.new.self c.args.seen.now (length c.args.marks.now) c.args.width c.args.marks.now c.in_ok-has.has c.in_ok-next.next c.in_ok-mark.mark
    c.requires.seen c.requires.marks has next mark.keeps (record { nodes = omega (arith, mark.size); registers = omega (arith, mark.register_bits); memories = omega (arith, mark.memory_bits) }) mark.bus mark.width mark.value
