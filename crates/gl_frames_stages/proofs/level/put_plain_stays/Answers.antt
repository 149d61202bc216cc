use Rattle.std.proofs.Common.{Bool, suc, ◌+◌, ap, arith, ◌∙◌, sym}
use Rattle.std.specs.Prelude.{not, ◌&&◌, if◌then◌else◌}
use Rattle.gl_values.specs.Kinds.{width_of}
use Rattle.gl_net.proofs.Determined.{keeps_then}
use Rattle.gl_wire.specs.Wire.{line_at}
use Rattle.gl_wire.proofs.GateLemmas.{bit_of}
use Rattle.gl_totals.specs.Folds.{is_better}
use Rattle.gl_totals.proofs.FoldNet.{bit_line}
use Rattle.gl_frames_stages.proofs.LevelNet.{plain_stays}
use Rattle.gl_frames_stages.proofs.level.put_plain_stays.Goals as goal

pub put_better-requires-clause-best : goal.put_better-requires-clause-best
put_better-requires-clause-best c =
    let kind = c.args.order.kind in
    let wide = c.requires.word_width ∙ ap (λ (b : Bool). if b then width_of kind + 1 else width_of kind) c.requires.plain in
    record {
      counts = c.requires.some;
      value = c.requires.own;
      same_width = c.requires.own_width ∙ sym c.requires.word_width;
      kind = wide;
    }

pub but_not-requires-clause-right : goal.but_not-requires-clause-right
but_not-requires-clause-right c =
    let test = c.in_ok-better.ensures in
    bit_of c.put_better.new.net c.in_ok-better.better c.bit.result test.bus test.same_width c.bit.ensures

pub returns : goal.returns
returns c =
    let test = c.in_ok-better.ensures in
    let stays = c.in_ok-stays.ensures in
    let order = c.args.order in
    let found = c.args.found in
    record {
      keeps = keeps_then _ c.put_better.new.net _ test.keeps stays.keeps;
      cost = record {
        nodes = omega (arith, test.cost.nodes, stays.cost.nodes);
        registers = omega (arith, test.cost.registers, stays.cost.registers);
        memories = omega (arith, test.cost.memories, stays.cost.memories);
      };
      bit = stays.bit;
      line = λ run r t.
          stays.line run r (suc t)
          ∙ ap (λ (b : Bool). line_at run found.some (suc t) && not b)
          (bit_line run c.bit.result t (is_better order.extreme order.kind (run.at (suc t) found.word.node) (run.at (suc t) c.args.own.node))
          (ap (run.at (suc t)) c.bit.ensures ∙ test.carries run (stays.keeps.runs run r) (suc t)))
          ∙ ap (λ (b : Bool). line_at run found.some (suc t) && b) (plain_stays order c.requires.plain (run.at (suc t) found.word.node) (run.at (suc t) c.args.own.node));
    }
