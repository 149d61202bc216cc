use Rattle.std.proofs.Common.{rules, ◌≡◌, ℕ, ◌+◌, ◌-◌, ◌<◌, ap, arith, subst, sym, ◌∙◌}
use Rattle.gl_wire.proofs.ColumnLemmas.{bus_kept}
use Rattle.gl_frames_wire.specs.Reaches.{place_bits}
use Rattle.gl_frames_stages.specs.DoublingNets.{AreWindows, gap_of}
use Rattle.gl_frames_slots.specs.BestNets.{IsSlotDoubledIn}
use Rattle.gl_frames_slots.proofs.BestNet.{doubled_more, doubled_none, gap_inside, places_grow}
use Rattle.gl_frames_slots.proofs.doubling.+put_slot_doubled.Goals as goal

pub put_slot_level-requires-clause-bits : goal.put_slot_level-requires-clause-bits
put_slot_level-requires-clause-bits t c =
    let w = c.args.windows in
    let gap : c.min-gap.result ≡ gap_of w.rows w.all = c.min-gap.ensures in
    let few = places_grow c.min-gap.result w.all (let le = gap_inside w.rows w.all in omega (arith, gap, le)) in
    let bits = c.new.ensures.bits in
    omega (arith, bits, few, c.requires.bits)

pub put_slot_level-requires-clause-address : goal.put_slot_level-requires-clause-address
put_slot_level-requires-clause-address t c =
    let w = c.args.windows in
    let gap : c.min-gap.result ≡ gap_of w.rows w.all = c.min-gap.ensures in
    let few = places_grow c.min-gap.result w.all (let le = gap_inside w.rows w.all in omega (arith, gap, le)) in
    let bits = c.new.ensures.bits in
    omega (arith, bits, few, c.requires.address)

pub put_slot_doubled-requires : goal.put_slot_doubled-requires
put_slot_doubled-requires t c =
    let w = c.args.windows in
    let gap : c.min-gap.result ≡ gap_of w.rows w.all = c.min-gap.ensures in
    let late = c.in_ok-late.ensures in
    let slots = late.same_slots in
    let count = late.same_count in
    let wide = c.in_ok-wide.ensures in
    let fits = c.requires.windows in
    let lt : w.rows < w.all = c.if-all-rows.false in
    let windows : AreWindows (c.args.more - 1) (record { rows = w.rows + c.min-gap.result; all = w.all }) =
    record { some' = omega (arith, fits.some'); inside = omega (arith, gap, lt); few = omega (arith, gap, lt, fits.some', fits.few); most = fits.most } in (
      search rules,
      (
        late.has,
        (
          late.count,
          (
            omega (arith, count, c.requires.few),
            (
              windows,
              (
                omega (arith, count, c.requires.bits),
                (
                  omega (arith, slots, c.requires.address),
                  (bus_kept _ _ c.in_ok-wide.wide late.keeps wide.bus, (wide.same_width ∙ c.requires.width, c.requires.some)),
                ),
              ),
            ),
          ),
        ),
      ),
    )

pub returns-then-all-rows : goal.returns-then-all-rows
returns-then-all-rows t c =
    doubled_none c.args.net.now c.args.counted c.args.more c.args.windows c.args.order c.args.value c.requires.value c.requires.windows c.if-all-rows.true

pub returns : goal.returns
returns t c =
    let w = c.args.windows in
    let gap : c.min-gap.result ≡ gap_of w.rows w.all = c.min-gap.ensures in
    let back : c.new.result.back ≡ gap_of w.rows w.all = c.new.ensures.back ∙ gap in
    doubled_more c.args.net.now c.put_slot_level.new.net c.put_counted_later.new.net c.put_slot_doubled.new.net c.args.counted c.in_ok-late.late c.args.more w c.args.order c.new.result c.args.value
    c.in_ok-wide.wide c.in_ok-out.out c.requires.few c.requires.windows c.if-all-rows.false back (c.new.ensures.bits ∙ ap place_bits (sym c.new.ensures.back))
    c.in_ok-wide.ensures c.in_ok-late.ensures
    (subst (λ (g : ℕ). IsSlotDoubledIn c.put_counted_later.new.net c.put_slot_doubled.new.net c.in_ok-late.late (c.args.more - 1) (record { rows = w.rows + g; all = w.all }) c.args.order c.in_ok-wide.wide c.in_ok-out.out) gap c.in_ok-out.ensures)
