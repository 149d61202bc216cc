use Rattle.std.proofs.Common.{subst, sym, arith}
use Rattle.gl_wire_registers.proofs.LineLemmas.{bits_kept}
use Rattle.gl_slots.specs.Picks.{AreAlike}
use Rattle.gl_slots.proofs.PickLemmas.{alike_kept, carries_zero, first_wide, picks_all}
use Rattle.gl_slots.proofs.pick.pick.Goals as goal

pub number-requires-clause-width : goal.number-requires-clause-width
number-requires-clause-width c = first_wide c.args.net.now c.args.width c.args.buses.now c.requires.buses (omega (arith, c.requires.some, c.requires.count))

pub pick_of-requires-clause-lines : goal.pick_of-requires-clause-lines
pick_of-requires-clause-lines c = bits_kept c.args.net.now c.number.new.net c.args.lines.now c.in_ok-zero.ensures.keeps c.requires.lines

pub pick_of-requires-clause-buses : goal.pick_of-requires-clause-buses
pick_of-requires-clause-buses c =
    subst (λ w. AreAlike c.number.new.net w c.args.buses.now) (sym c.in_ok-zero.ensures.same_width)
    (alike_kept c.args.net.now c.number.new.net c.args.width c.args.buses.now c.in_ok-zero.ensures.keeps c.requires.buses)

pub pick_of-requires-clause-carries : goal.pick_of-requires-clause-carries
pick_of-requires-clause-carries c = carries_zero c.args.net.now c.number.new.net c.args.width c.in_ok-zero.zero c.in_ok-zero.ensures

pub returns : goal.returns
returns c =
    picks_all c.args.net.now c.number.new.net c.pick_of.new.net c.args.lines.now c.args.buses.now c.args.width c.in_ok-zero.zero c.in_ok-picked.picked c.requires.some c.in_ok-zero.ensures c.in_ok-picked.ensures
