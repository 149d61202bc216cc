use Rattle.std.proofs.Common.{ℕ, suc, ap, arith, ◌∙◌, sym}
use Rattle.std.specs.Prelude.{if◌then◌else◌}
use Rattle.gl_net.proofs.Determined.{keeps_then}
use Rattle.gl_wire.specs.Wire.{line_at}
use Rattle.gl_wire.proofs.ColumnLemmas.{bit_kept, bus_kept}
use Rattle.gl_wire.proofs.GateLemmas.{choose_line}
use Rattle.gl_frames_stages.proofs.recent.put_young.Goals as goal

pub choose-requires-clause-widths : goal.choose-requires-clause-widths
choose-requires-clause-widths c = c.in_ok-none.ensures.width ∙ c.small_word.ensures.width ∙ sym c.requires.widths

pub choose-requires-2-clause-widths : goal.choose-requires-2-clause-widths
choose-requires-2-clause-widths c = sym (c.in_ok-kept.ensures.width ∙ c.in_ok-none.ensures.width ∙ c.small_word.ensures.width)

pub choose-requires-2-clause-test : goal.choose-requires-2-clause-test
choose-requires-2-clause-test c = bit_kept _ _ c.args.passes (keeps_then _ c.constant.new.self _ c.in_ok-none.ensures.keeps c.in_ok-kept.ensures.keeps) c.requires.passes

pub choose-requires-2-clause-yes : goal.choose-requires-2-clause-yes
choose-requires-2-clause-yes c = bus_kept _ _ c.args.value (keeps_then _ c.constant.new.self _ c.in_ok-none.ensures.keeps c.in_ok-kept.ensures.keeps) c.requires.value

pub returns : goal.returns
returns c =
    let none = c.in_ok-none.ensures in
    let kept = c.in_ok-kept.ensures in
    let now = c.in_ok-now.ensures in
    let k = c.in_ok-kept.kept in
    let z = c.in_ok-none.none in
    let value = c.args.value in
    let before = c.args.before in
    record {
      keeps = keeps_then _ c.constant.new.self _ none.keeps (keeps_then _ c.choose.new.self _ kept.keeps now.keeps);
      cost = record {
        nodes = omega (arith, none.size, kept.size, now.size);
        registers = omega (arith, none.register_bits, kept.register_bits, now.register_bits);
        memories = omega (arith, none.memory_bits, kept.memory_bits, now.memory_bits);
      };
      bus = now.bus;
      same_width = now.width;
      chosen = λ run r t.
          let at_kept = now.keeps.runs run r in
          let at_none = kept.keeps.runs run at_kept in
          now.value run r (suc t) ∙ choose_line run c.args.passes (run.at (suc t) value.node) (run.at (suc t) k.node) t
          ∙ ap (λ (n : ℕ). if line_at run c.args.passes (suc t) then run.at (suc t) value.node else n)
          (kept.value run at_kept (suc t) ∙ choose_line run c.args.old (run.at (suc t) z.node) (run.at (suc t) before.node) t
          ∙ ap (λ (n : ℕ). if line_at run c.args.old (suc t) then n else run.at (suc t) before.node) (none.value run at_none (suc t) ∙ c.small_word.ensures.bits));
    }
