use Rattle.std.proofs.Common.{ℕ, Bool, true, false, suc, ap, sym, refl, arith, ◌≡◌, ◌∙◌}
use Rattle.std.specs.Prelude.{if◌then◌else◌}
use Rattle.gl_net.specs.Net.{Run}
use Rattle.gl_net.proofs.Determined.{keeps_then}
use Rattle.gl_wire.specs.Wire.{line_at}
use Rattle.gl_wire.proofs.ColumnLemmas.{bit_kept, bus_kept}
use Rattle.gl_wire.proofs.GateLemmas.{choose_line}
use Rattle.gl_frames_tree.specs.declared.parts.Parts.{Parts}
use Rattle.gl_frames_tree.specs.LevelNets.{digit_of, part_at}
use Rattle.gl_frames_tree.proofs.parts.pick_part.Goals as goal

-- the choice of a choice
picked : (run : Run) (p : Parts) (t : ℕ) (high low : Bool)
    → (if high then (if low then run.at t p.three.node else run.at t p.two.node) else (if low then run.at t p.one.node else run.at t p.zero.node)) ≡ part_at run p (digit_of high low) t
picked run p t true true = refl
picked run p t true false = refl
picked run p t false true = refl
picked run p t false false = refl

pub choose-requires-clause-widths : goal.choose-requires-clause-widths
choose-requires-clause-widths c = c.requires.parts.three_width ∙ sym c.requires.parts.two_width

pub choose-requires-2-clause-test : goal.choose-requires-2-clause-test
choose-requires-2-clause-test c = bit_kept c.args.net.now c.choose.new.self c.args.digit.low c.in_ok-upper.ensures.keeps c.requires.digit.low

pub choose-requires-2-clause-yes : goal.choose-requires-2-clause-yes
choose-requires-2-clause-yes c = bus_kept c.args.net.now c.choose.new.self c.args.parts.one c.in_ok-upper.ensures.keeps c.requires.parts.one'

pub choose-requires-2-clause-no : goal.choose-requires-2-clause-no
choose-requires-2-clause-no c = bus_kept c.args.net.now c.choose.new.self c.args.parts.zero c.in_ok-upper.ensures.keeps c.requires.parts.zero'

pub choose-requires-2-clause-widths : goal.choose-requires-2-clause-widths
choose-requires-2-clause-widths c = c.requires.parts.one_width ∙ sym c.requires.parts.zero_width

pub choose-requires-3-clause-test : goal.choose-requires-3-clause-test
choose-requires-3-clause-test c =
    bit_kept c.args.net.now c.choose-2.new.self c.args.digit.high (keeps_then c.args.net.now c.choose.new.self c.choose-2.new.self c.in_ok-upper.ensures.keeps c.in_ok-lower.ensures.keeps) c.requires.digit.high

pub choose-requires-3-clause-widths : goal.choose-requires-3-clause-widths
choose-requires-3-clause-widths c = c.in_ok-upper.ensures.width ∙ c.requires.parts.three_width ∙ sym (c.in_ok-lower.ensures.width ∙ c.requires.parts.one_width)

pub returns : goal.returns
returns c =
    let upper = c.in_ok-upper.ensures in
    let lower = c.in_ok-lower.ensures in
    let part = c.in_ok-part.ensures in
    let p = c.args.parts in
    let d = c.args.digit in
    record {
      keeps = keeps_then c.args.net.now c.choose.new.self c.choose-3.new.self upper.keeps (keeps_then c.choose.new.self c.choose-2.new.self c.choose-3.new.self lower.keeps part.keeps);
      cost = record {
        nodes = omega (arith, upper.size, lower.size, part.size);
        registers = omega (arith, upper.register_bits, lower.register_bits, part.register_bits);
        memories = omega (arith, upper.memory_bits, lower.memory_bits, part.memory_bits);
      };
      bus = part.bus;
      part_width = part.width ∙ upper.width ∙ c.requires.parts.three_width;
      value = λ run r t.
          let at_lower = part.keeps.runs run r in
          let at_upper = lower.keeps.runs run at_lower in
          let high = line_at run d.high (suc t) in
          let low = line_at run d.low (suc t) in
          part.value run r (suc t) ∙ choose_line run d.high (run.at (suc t) c.in_ok-upper.upper.node) (run.at (suc t) c.in_ok-lower.lower.node) t
          ∙ ap (λ (x : ℕ). if high then x else run.at (suc t) c.in_ok-lower.lower.node) (upper.value run at_upper (suc t) ∙ choose_line run d.low (run.at (suc t) p.three.node) (run.at (suc t) p.two.node) t)
          ∙ ap (λ (x : ℕ). if high then (if low then run.at (suc t) p.three.node else run.at (suc t) p.two.node) else x)
          (lower.value run at_lower (suc t) ∙ choose_line run d.low (run.at (suc t) p.one.node) (run.at (suc t) p.zero.node) t)
          ∙ picked run p (suc t) high low;
    }
