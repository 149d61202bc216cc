use Rattle.std.proofs.Common.{◌≡◌, ℕ, ◌+◌, ◌-◌, ap, subst, sym, ◌∙◌}
use Rattle.gl_frames_wire.specs.Reaches.{place_bits}
use Rattle.gl_frames_stages.specs.DoublingNets.{IsDoubledIn, gap_of}
use Rattle.gl_frames_stages.proofs.DoublingNet.{doubled_more, doubled_none}
use Rattle.gl_frames_stages.proofs.doubling.+put_doubled.Goals as goal

pub returns-then-all-rows : goal.returns-then-all-rows
returns-then-all-rows t c =
    doubled_none c.args.net.now c.args.lines c.args.more c.args.windows c.args.order c.args.value c.requires.value c.requires.windows c.if-all-rows.true

pub returns : goal.returns
returns t c =
    let w = c.args.windows in
    let gap : c.min-gap.result ≡ gap_of w.rows w.all = c.min-gap.ensures in
    let back : c.new.result.back ≡ gap_of w.rows w.all = c.new.ensures.back ∙ gap in
    doubled_more c.args.net.now c.put_level.new.net c.delay_lines.new.net c.put_doubled.new.net c.args.lines c.in_ok-late.late c.args.more w c.args.order c.new.result c.args.value
    c.in_ok-wide.wide c.in_ok-out.out c.requires.windows c.if-all-rows.false back (c.new.ensures.bits ∙ ap place_bits (sym c.new.ensures.back))
    c.in_ok-wide.ensures c.in_ok-late.ensures
    (subst (λ (g : ℕ). IsDoubledIn c.delay_lines.new.net c.put_doubled.new.net c.in_ok-late.late (c.args.more - 1) (record { rows = w.rows + g; all = w.all }) c.args.order c.in_ok-wide.wide c.in_ok-out.out) gap c.in_ok-out.ensures)
