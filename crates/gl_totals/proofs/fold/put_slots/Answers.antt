use Rattle.std.proofs.Common.{◌≡◌, ℕ, suc, ◌*◌, ◌^◌, sym, subst, ap, arith, ◌∙◌}
use Rattle.std.specs.Prelude.{if◌then◌else◌}
use Rattle.gl_net.specs.declared.node.Bus.{Bus}
use Rattle.gl_net.specs.Net.{IsBus, Keeps}
use Rattle.gl_net.proofs.Determined.{keeps_then}
use Rattle.gl_net.proofs.Drive.{driven_keeps}
use Rattle.gl_wire.specs.Wire.{line_at}
use Rattle.gl_wire.proofs.ColumnLemmas.{bit_kept, bus_kept}
use Rattle.gl_wire.proofs.GateLemmas.{choose_line}
use Rattle.gl_totals.specs.Folds.{IsFolded, next_of}
use Rattle.gl_totals.specs.Open.{in_memory}
use Rattle.gl_totals.proofs.SlotLemmas.{slots_folded}
use Rattle.gl_totals.proofs.fold.put_slots.Goals as goal

pub choose-requires-clause-test : goal.choose-requires-clause-test
choose-requires-clause-test c =
    let passed : Keeps c.put_now.new.net c.constant.new.self = keeps_then c.put_now.new.net c.put_passing.new.net c.constant.new.self c.in_ok-ahead.ensures.keeps c.in_ok-again.ensures.keeps in
    bit_kept c.register.new.self c.constant.new.self c.args.slots.begins (keeps_then c.register.new.self c.put_now.new.net c.constant.new.self c.in_ok-fold.ensures.keeps passed)
    (record { there = c.in_ok-word.ensures.grows.shapes _ _ c.requires.begins.there })

pub returns : goal.returns
returns c = λ eos.
    let old = c.args.net.now in
    let new = c.drive.new.self in
    let slot = c.args.slots.slot in
    let word = c.in_ok-word.ensures in
    let w = c.in_ok-word.word in
    let f = c.in_ok-fold.fold in
    let fold = c.in_ok-fold.ensures in
    let ahead = c.in_ok-ahead.ensures in
    let again = c.in_ok-again.ensures in
    let state = c.in_ok-state.ensures in
    let drive = c.in_ok-drive.ensures in
    let cleared : Keeps c.put_passing.new.net c.choose.new.self = keeps_then c.put_passing.new.net c.constant.new.self c.choose.new.self again.keeps state.keeps in
    let passed : Keeps c.put_now.new.net c.choose.new.self = keeps_then c.put_now.new.net c.put_passing.new.net c.choose.new.self ahead.keeps cleared in
    let inner : Keeps c.register.new.self c.choose.new.self = keeps_then c.register.new.self c.put_now.new.net c.choose.new.self fold.keeps passed in
    let before = bus_kept c.register.new.self c.choose.new.self w inner word.bus in
    let now = bus_kept c.put_now.new.net c.choose.new.self f.now passed fold.now in
    let now_width : f.now.width ≡ c.args.initial.width = fold.now_width ∙ word.width ∙ c.width.ensures.value in
    let bits : 2 ^ slot.width * f.now.width ≡ 2 ^ slot.width * c.args.initial.width = ap (λ (n : ℕ). 2 ^ slot.width * n) now_width in
    record {
      keeps = driven_keeps old c.register.new.self c.choose.new.self new w.node word.grows word.ports word.name word.others word.fresh
          inner drive.grows drive.ports drive.name drive.others drive.driven;
      cost = record {
        nodes = omega (arith, word.size, fold.cost.nodes, ahead.cost.nodes, again.size, state.size, drive.size);
        registers = omega (arith, word.register_bits, fold.cost.registers, ahead.cost.registers, again.register_bits, state.register_bits, drive.register_bits, c.width.ensures.value);
        memories = omega (arith, word.memory_bits, fold.cost.memories, ahead.cost.memories, again.memory_bits, state.memory_bits, drive.memory_bits, bits);
      };
      before = subst (IsBus new) (sym fold.before) (record { there = drive.grows.shapes _ _ before.there; width = before.width });
      before_width = ap (λ (b : Bus). b.width) fold.before ∙ word.width ∙ c.width.ensures.value;
      now = record { there = drive.grows.shapes _ _ now.there; width = now.width };
      now_width = now_width;
      folded = λ run r led.
          let at_state = drive.grows.runs run r in
          let at_ahead = cleared.runs run at_state in
          let at_fold = ahead.keeps.runs run at_ahead in
          subst (λ (b : Bus). IsFolded run c.args.initial.width c.args.initial.bits c.args.step (in_memory c.args.valid eos c.args.slots.first c.args.slots.begins slot c.args.slots.next) b f.now) (sym fold.before)
          (slots_folded run c.args.valid c.args.slots.first slot c.args.slots.next f.now c.args.initial.width c.args.initial.bits c.args.step eos c.args.slots.begins w
          c.in_ok-ahead.ahead (ahead.past run at_ahead)
          (λ t. fold.with_row run at_fold t ∙ ap (λ (n : ℕ). if line_at run c.args.valid (suc t) then next_of c.args.step run n (suc t) (run.at (suc t) w.node) else run.at (suc t) w.node) (word.width ∙ c.width.ensures.value))
          (λ t. drive.value run r t ∙ state.value run at_state (suc t) ∙ choose_line run c.args.slots.begins (run.at (suc t) c.in_ok-again.again.node) (run.at (suc t) c.in_ok-ahead.ahead.node) t
          ∙ ap (λ (n : ℕ). if line_at run c.args.slots.begins (suc t) then n else run.at (suc t) c.in_ok-ahead.ahead.node) (again.value run (state.keeps.runs run at_state) (suc t))) led);
    }
