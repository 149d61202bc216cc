use Rattle.std.proofs.Common.{◌≡◌, ℕ, suc, Bool, Some, ap, arith, ◌∙◌}
use Rattle.std.specs.Prelude.{◌&&◌}
use Rattle.gl_frames.specs.Frames.{last_value_of}
use Rattle.gl_net.proofs.Determined.{keeps_then}
use Rattle.gl_wire.specs.Wire.{line_at}
use Rattle.gl_wire.proofs.ColumnLemmas.{bit_kept, bus_kept}
use Rattle.gl_frames_stages.specs.Columns.{carried_by}
use Rattle.gl_frames_stages.proofs.MeetLemmas.{tells_next}
use Rattle.gl_frames_stages.proofs.RecentNet.{recent_told}
use Rattle.gl_frames_stages.proofs.recent.put_recent.Goals as goal

pub put_young-requires-clause-passes : goal.put_young-requires-clause-passes
put_young-requires-clause-passes c =
    bit_kept _ _ c.args.passes (keeps_then _ c.both.new.net _ c.in_ok-takes.ensures.keeps (keeps_then _ c.put_last.new.net _ c.in_ok-last.ensures.keeps c.in_ok-old.ensures.keeps)) c.requires.passes

pub put_young-requires-clause-value : goal.put_young-requires-clause-value
put_young-requires-clause-value c =
    bus_kept _ _ c.args.value (keeps_then _ c.both.new.net _ c.in_ok-takes.ensures.keeps (keeps_then _ c.put_last.new.net _ c.in_ok-last.ensures.keeps c.in_ok-old.ensures.keeps)) c.requires.value

pub put_young-requires-clause-before : goal.put_young-requires-clause-before
put_young-requires-clause-before c = bus_kept _ _ c.in_ok-last.last.before c.in_ok-old.ensures.keeps c.in_ok-last.ensures.before

pub put_young-requires-clause-widths : goal.put_young-requires-clause-widths
put_young-requires-clause-widths c = c.in_ok-last.ensures.before_width

pub returns : goal.returns
returns c =
    let lines = c.args.lines in
    let value = c.args.value in
    let takes = c.in_ok-takes.ensures in
    let last = c.in_ok-last.ensures in
    let aged = c.in_ok-old.ensures in
    let now = c.in_ok-now.ensures in
    let out = c.in_ok-out.ensures in
    let f = c.in_ok-last.last in
    record {
      keeps = keeps_then _ c.both.new.net _ takes.keeps (keeps_then _ c.put_last.new.net _ last.keeps (keeps_then _ c.put_age.new.net _ aged.keeps (keeps_then _ c.put_young.new.net _ now.keeps out.keeps)));
      cost = record {
        nodes = omega (arith, takes.cost.nodes, last.cost.nodes, aged.cost.nodes, now.cost.nodes, out.cost.nodes);
        registers = omega (arith, takes.cost.registers, last.cost.registers, aged.cost.registers, now.cost.registers, out.cost.registers, now.same_width);
        memories = omega (arith, takes.cost.memories, last.cost.memories, aged.cost.memories, now.cost.memories, out.cost.memories);
      };
      bus = out.bus;
      same_width = out.same_width ∙ now.same_width;
      tells = λ run r p v row passes is.
          let at_now = out.keeps.runs run r in
          let at_aged = now.keeps.runs run at_now in
          let at_last = aged.keeps.runs run at_aged in
          let at_takes = last.keeps.runs run at_last in
          let line : (t : ℕ) → line_at run c.in_ok-takes.takes (suc t) ≡ (line_at run lines.valid (suc t) && p (row (suc t))) = (λ t. takes.line run at_takes (suc t) ∙ ap (λ (b : Bool). line_at run lines.valid (suc t) && b) (passes t)) in
          tells_next run lines 0 (last_value_of v (Some c.args.back) p) row (carried_by run c.in_ok-now.now) (carried_by run c.in_ok-out.out) (out.value run r)
          (recent_told run lines c.in_ok-takes.takes c.args.passes c.in_ok-old.old v p row (carried_by run value) (carried_by run f.before) (carried_by run f.now) (carried_by run c.in_ok-now.now) c.args.back
          (last.anew run at_last) (last.taken run at_last) line is passes (aged.ages run at_aged p row line) (now.chosen run at_now));
    }
