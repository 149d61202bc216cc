use Rattle.std.proofs.Common.{◌<◌, ◌++◌, ◌-◌, ◌*◌, List, length, subst, sym, arith, rules}
use Rattle.std.proofs.lemmas.Option.{slice_get-get_or}
use Rattle.gl_net.specs.declared.node.Bit.{Bit}
use Rattle.gl_net.specs.declared.node.Bus.{Bus}
use Rattle.gl_wire.proofs.ColumnLemmas.{bus_kept}
use Rattle.gl_wire_registers.specs.Lines.{AreBits}
use Rattle.gl_wire_registers.proofs.LineLemmas.{bits_kept, bits_part}
use Rattle.gl_slots.specs.Picks.{AreAlike, PicksOne}
use Rattle.gl_slots.proofs.PickLemmas.{alike_kept, alike_part, cut_both, picks_both, picks_only}
use Rattle.gl_slots.proofs.pick.+pick_of.Goals as goal

pub mask-requires-clause-line : goal.mask-requires-clause-line
mask-requires-clause-line t c = c.requires.lines.each 0 _ (slice_get-get_or _ _ _ c.requires.some)

pub mask-requires-clause-bus : goal.mask-requires-clause-bus
mask-requires-clause-bus t c =
    let more : 0 < length c.args.buses.now = omega (arith, c.requires.some, c.requires.count) in
    c.requires.buses.each 0 _ (slice_get-get_or _ _ _ more)

pub mask-requires-clause-widths : goal.mask-requires-clause-widths
mask-requires-clause-widths t c =
    let more : 0 < length c.args.buses.now = omega (arith, c.requires.some, c.requires.count) in
    c.requires.buses.widths 0 _ (slice_get-get_or _ _ _ more)

pub returns-then-many-lt2 : goal.returns-then-many-lt2
returns-then-many-lt2 t c =
    let more : 0 < length c.args.buses.now = omega (arith, c.requires.some, c.requires.count) in
    picks_only c.args.net.now _ c.args.lines.now c.args.buses.now c.args.zero.width _ _ _ c.requires.buses (slice_get-get_or _ _ _ c.requires.some) (slice_get-get_or _ _ _ more)
    (omega (arith, c.if-many-lt2.true)) c.in_ok-only.ensures

pub pick_of-requires : goal.pick_of-requires
pick_of-requires t c =
    let cut =
    cut_both c.args.lines.now c.split_at.result.0.now c.split_at.result.1.now c.args.buses.now c.split_at-2.result.0.now c.split_at-2.result.1.now c.requires.count (omega (arith, c.if-many-lt2.false))
    c.split_at.ensures.front c.split_at.ensures.back c.split_at-2.ensures.front c.split_at-2.ensures.back in
    let lines = bits_part c.args.net.now c.split_at.result.0.now c.split_at.result.1.now (subst (AreBits c.args.net.now) (sym cut.0.whole) c.requires.lines) in
    let buses = alike_part c.args.net.now c.args.zero.width c.split_at-2.result.0.now c.split_at-2.result.1.now (subst (AreAlike c.args.net.now c.args.zero.width) (sym cut.1.whole) c.requires.buses) in
    (search rules, (lines.0, (buses.0, (c.requires.zero, (c.requires.carries, (cut.2, cut.0.left))))))

pub pick_of-requires-2 : goal.pick_of-requires-2
pick_of-requires-2 t c =
    let cut =
    cut_both c.args.lines.now c.split_at.result.0.now c.split_at.result.1.now c.args.buses.now c.split_at-2.result.0.now c.split_at-2.result.1.now c.requires.count (omega (arith, c.if-many-lt2.false))
    c.split_at.ensures.front c.split_at.ensures.back c.split_at-2.ensures.front c.split_at-2.ensures.back in
    let lines = bits_part c.args.net.now c.split_at.result.0.now c.split_at.result.1.now (subst (AreBits c.args.net.now) (sym cut.0.whole) c.requires.lines) in
    let buses = alike_part c.args.net.now c.args.zero.width c.split_at-2.result.0.now c.split_at-2.result.1.now (subst (AreAlike c.args.net.now c.args.zero.width) (sym cut.1.whole) c.requires.buses) in
    let keeps = c.in_ok-one.ensures.keeps in (
      search rules,
      (
        bits_kept c.args.net.now c.pick_of.new.net c.split_at.result.1.now keeps lines.1,
        (
          alike_kept c.args.net.now c.pick_of.new.net c.args.zero.width c.split_at-2.result.1.now keeps buses.1,
          (bus_kept c.args.net.now c.pick_of.new.net c.args.zero keeps c.requires.zero, ((λ run r u. c.requires.carries run (keeps.runs run r) u), (cut.3, cut.0.right))),
        ),
      ),
    )

pub merge-requires-clause-left : goal.merge-requires-clause-left
merge-requires-clause-left t c = bus_kept c.pick_of.new.net c.pick_of-2.new.net c.in_ok-one.one c.in_ok-other.ensures.keeps c.in_ok-one.ensures.bus

pub returns : goal.returns
returns t c =
    let cut =
    cut_both c.args.lines.now c.split_at.result.0.now c.split_at.result.1.now c.args.buses.now c.split_at-2.result.0.now c.split_at-2.result.1.now c.requires.count (omega (arith, c.if-many-lt2.false))
    c.split_at.ensures.front c.split_at.ensures.back c.split_at-2.ensures.front c.split_at-2.ensures.back in
    let both = picks_both c.args.net.now c.pick_of.new.net c.pick_of-2.new.net c.merge.new.net c.split_at.result.0.now c.split_at.result.1.now c.split_at-2.result.0.now c.split_at-2.result.1.now c.args.zero.width
    c.in_ok-one.one c.in_ok-other.other c.in_ok-picked.picked cut.2 cut.3 cut.0.left cut.0.right c.in_ok-one.ensures c.in_ok-other.ensures c.in_ok-picked.ensures in
    subst (λ (bs : List Bus). PicksOne c.args.net.now c.merge.new.net c.args.lines.now bs c.args.zero.width (length c.args.lines.now * 2 - 1) c.in_ok-picked.picked) cut.1.whole
    (subst (λ (ls : List Bit). PicksOne c.args.net.now c.merge.new.net ls (c.split_at-2.result.0.now ++ c.split_at-2.result.1.now) c.args.zero.width (length ls * 2 - 1) c.in_ok-picked.picked) cut.0.whole both)
