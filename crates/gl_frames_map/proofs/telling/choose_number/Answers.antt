use Rattle.std.proofs.Common.{ℕ, suc, ap, sym, arith, ◌∙◌}
use Rattle.std.specs.Prelude.{if◌then◌else◌}
use Rattle.gl_net.proofs.Determined.{keeps_then}
use Rattle.gl_wire.specs.Wire.{line_at}
use Rattle.gl_wire.proofs.ColumnLemmas.{bit_kept, bus_kept}
use Rattle.gl_wire.proofs.GateLemmas.{choose_line}
use Rattle.gl_frames_map.proofs.telling.choose_number.Goals as goal

pub choose-requires-clause-widths : goal.choose-requires-clause-widths
choose-requires-clause-widths c = c.requires.seen.recent.earlier_width ∙ sym c.requires.seen.used_width

pub choose-requires-2-clause-test : goal.choose-requires-2-clause-test
choose-requires-2-clause-test c = bit_kept c.args.net.now c.choose.new.self c.args.seen.recent.one c.in_ok-new.ensures.keeps c.requires.seen.recent.one

pub choose-requires-2-clause-yes : goal.choose-requires-2-clause-yes
choose-requires-2-clause-yes c = bus_kept c.args.net.now c.choose.new.self c.args.seen.recent.before c.in_ok-new.ensures.keeps c.requires.seen.recent.before

pub choose-requires-2-clause-widths : goal.choose-requires-2-clause-widths
choose-requires-2-clause-widths c = c.requires.seen.recent.before_width ∙ sym c.requires.seen.recent.earlier_width ∙ sym c.in_ok-new.ensures.width

pub choose-requires-3-clause-yes : goal.choose-requires-3-clause-yes
choose-requires-3-clause-yes c =
    bus_kept c.args.net.now c.choose-2.new.self c.args.seen.read.number
    (keeps_then c.args.net.now c.choose.new.self c.choose-2.new.self c.in_ok-new.ensures.keeps c.in_ok-near.ensures.keeps) c.requires.seen.number

pub choose-requires-3-clause-widths : goal.choose-requires-3-clause-widths
choose-requires-3-clause-widths c = c.requires.seen.number_width ∙ sym c.requires.seen.recent.before_width ∙ sym c.in_ok-near.ensures.width

pub returns : goal.returns
returns c =
    let new = c.in_ok-new.ensures in
    let near = c.in_ok-near.ensures in
    let number = c.in_ok-number.ensures in
    record {
      keeps = keeps_then c.args.net.now c.choose.new.self c.choose-3.new.self new.keeps (keeps_then c.choose.new.self c.choose-2.new.self c.choose-3.new.self near.keeps number.keeps);
      cost = record {
        nodes = omega (arith, new.size, near.size, number.size);
        registers = omega (arith, new.register_bits, near.register_bits, number.register_bits);
        memories = omega (arith, new.memory_bits, near.memory_bits, number.memory_bits);
      };
      bus = number.bus;
      width = number.width;
      value = λ run r t.
          let at_near = number.keeps.runs run r in
          let at_new = near.keeps.runs run at_near in
          let s = c.args.seen in
          let hit = line_at run c.args.hit (suc t) in
          let one = line_at run s.recent.one (suc t) in
          let read = run.at (suc t) s.read.number.node in
          let before = run.at (suc t) s.recent.before.node in
          let earlier = run.at (suc t) s.recent.earlier.node in
          let used = run.at (suc t) s.used.node in
          number.value run r (suc t) ∙ choose_line run c.args.hit read (run.at (suc t) c.in_ok-near.near.node) t
          ∙ ap (λ (x : ℕ). if hit then read else x) (near.value run at_near (suc t) ∙ choose_line run s.recent.one before (run.at (suc t) c.in_ok-new.new.node) t)
          ∙ ap (λ (x : ℕ). if hit then read else (if one then before else x)) (new.value run at_new (suc t) ∙ choose_line run s.recent.two earlier used t);
    }
