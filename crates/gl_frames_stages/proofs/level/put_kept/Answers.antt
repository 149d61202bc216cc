use Rattle.std.proofs.Common.{ℕ, Bool, suc, ap, arith, ◌∙◌, sym}
use Rattle.std.specs.Prelude.{if◌then◌else◌}
use Rattle.gl_net.proofs.Determined.{keeps_then}
use Rattle.gl_wire.specs.Wire.{line_at}
use Rattle.gl_wire.proofs.ColumnLemmas.{bit_kept, bus_kept}
use Rattle.gl_wire.proofs.GateLemmas.{choose_line}
use Rattle.gl_frames_stages.proofs.level.put_kept.Goals as goal

pub later-requires : goal.later-requires
later-requires c = bus_kept _ _ c.args.word c.in_ok-late.ensures.keeps c.requires.word

pub later-requires-2 : goal.later-requires-2
later-requires-2 c = bus_kept _ _ c.args.own (keeps_then _ c.later_bit.new.net _ c.in_ok-late.ensures.keeps c.in_ok-first.ensures.keeps) c.requires.own

pub choose-requires-clause-test : goal.choose-requires-clause-test
choose-requires-clause-test c = bit_kept _ _ c.in_ok-late.late (keeps_then _ c.later.new.net _ c.in_ok-first.ensures.keeps c.in_ok-second.ensures.keeps) c.in_ok-late.ensures.bit

pub choose-requires-clause-yes : goal.choose-requires-clause-yes
choose-requires-clause-yes c = bus_kept _ _ c.in_ok-first.first c.in_ok-second.ensures.keeps c.in_ok-first.ensures.bus

pub choose-requires-clause-widths : goal.choose-requires-clause-widths
choose-requires-clause-widths c = c.in_ok-first.ensures.same_width ∙ c.requires.widths ∙ sym c.in_ok-second.ensures.same_width

pub returns : goal.returns
returns c =
    let late = c.in_ok-late.ensures in
    let first = c.in_ok-first.ensures in
    let second = c.in_ok-second.ensures in
    let out = c.in_ok-out.ensures in
    let x = c.in_ok-first.first in
    let y = c.in_ok-second.second in
    let line = c.in_ok-late.late in
    record {
      keeps = keeps_then _ c.later_bit.new.net _ late.keeps (keeps_then _ c.later.new.net _ first.keeps (keeps_then _ c.later-2.new.net _ second.keeps out.keeps));
      cost = record {
        nodes = omega (arith, late.cost.nodes, first.cost.nodes, second.cost.nodes, out.size);
        registers = omega (arith, late.cost.registers, first.cost.registers, second.cost.registers, out.register_bits);
        memories = omega (arith, late.cost.memories, first.cost.memories, second.cost.memories, out.memory_bits);
      };
      bus = out.bus;
      same_width = out.width ∙ first.same_width;
      chosen = λ run r t.
          let at_second = out.keeps.runs run r in
          let at_first = second.keeps.runs run at_second in
          let at_late = first.keeps.runs run at_first in
          out.value run r (suc (suc t)) ∙ choose_line run line (run.at (suc (suc t)) x.node) (run.at (suc (suc t)) y.node) (suc t)
          ∙ ap (λ (b : Bool). if b then run.at (suc (suc t)) x.node else run.at (suc (suc t)) y.node) (late.line run at_late (suc t))
          ∙ ap (λ (n : ℕ). if line_at run c.args.line (suc t) then n else run.at (suc (suc t)) y.node) (first.value run at_first t)
          ∙ ap (λ (n : ℕ). if line_at run c.args.line (suc t) then run.at (suc t) c.args.word.node else n) (second.value run at_second t);
    }
