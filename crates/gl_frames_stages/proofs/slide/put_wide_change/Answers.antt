use Rattle.std.proofs.Common.{ℕ, suc, ap, arith, ◌∙◌, sym}
use Rattle.gl_bits.specs.Words.{difference_of}
use Rattle.gl_net.proofs.Determined.{keeps_then}
use Rattle.gl_wire.proofs.ColumnLemmas.{bus_kept}
use Rattle.gl_frames_stages.specs.SlideNets.{widened}
use Rattle.gl_frames_stages.proofs.slide.put_wide_change.Goals as goal

pub put_change-requires-clause-widths : goal.put_change-requires-clause-widths
put_change-requires-clause-widths c = c.in_ok-own.ensures.same_width ∙ sym c.in_ok-gone.ensures.same_width

pub put_change-requires-clause-own : goal.put_change-requires-clause-own
put_change-requires-clause-own c = bus_kept _ _ c.in_ok-own.own c.in_ok-gone.ensures.keeps c.in_ok-own.ensures.bus

pub returns : goal.returns
returns c =
    let slide = c.args.slide in
    let kind = c.args.kind in
    let w = c.args.width in
    let own = c.in_ok-own.ensures in
    let gone = c.in_ok-gone.ensures in
    let out = c.in_ok-out.ensures in
    let x = c.in_ok-own.own in
    let y = c.in_ok-gone.gone in
    record {
      keeps = keeps_then _ c.put_number.new.net _ own.keeps (keeps_then _ c.put_number-2.new.net _ gone.keeps out.keeps);
      cost = record {
        nodes = omega (arith, own.cost.nodes, gone.cost.nodes, out.cost.nodes);
        registers = omega (arith, own.cost.registers, gone.cost.registers, out.cost.registers, own.same_width);
        memories = omega (arith, own.cost.memories, gone.cost.memories, out.cost.memories);
      };
      bus = out.bus;
      same_width = out.same_width ∙ own.same_width;
      changes = λ run r t.
          let at_gone = out.keeps.runs run r in
          let at_own = gone.keeps.runs run at_gone in
          out.changes run r t
          ∙ ap (λ (n : ℕ). difference_of n (run.at (suc t) x.node) (run.at (suc t) y.node)) own.same_width
          ∙ ap (λ (n : ℕ). difference_of w n (run.at (suc t) y.node)) (own.carries run at_own (suc t))
          ∙ ap (difference_of w (widened kind w (run.at (suc t) slide.own.node))) (gone.carries run at_gone (suc t));
    }
