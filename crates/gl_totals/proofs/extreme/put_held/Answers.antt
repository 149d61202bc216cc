use Rattle.std.proofs.Common.{◌≡◌, Bool, false, suc, ap, arith, ◌∙◌}
use Rattle.std.specs.Prelude.{if◌then◌else◌, not, ◌&&◌, ◌||◌}
use Rattle.gl_net.specs.Net.{Keeps}
use Rattle.gl_net.proofs.Determined.{keeps_then}
use Rattle.gl_net.proofs.Drive.{driven_keeps}
use Rattle.gl_wire.specs.Wire.{line_at}
use Rattle.gl_totals.specs.Folds.{is_better}
use Rattle.gl_totals.proofs.ExtremeNet.{not_both, picked_is}
use Rattle.gl_totals.proofs.FoldNet.{bit_line}
use Rattle.gl_totals.proofs.extreme.put_held.Goals as goal

pub returns : goal.returns
returns c = rw c.note_bus.ensures (
    let old = c.args.net.now in
    let new = c.drive.new.self in
    let valid = c.args.valid in
    let best = c.args.best in
    let w = c.in_ok-word.word in
    let now = c.in_ok-now.now in
    let word = c.in_ok-word.ensures in
    let test = c.in_ok-better.ensures in
    let pick = c.in_ok-pick.ensures in
    let picked = c.in_ok-now.ensures in
    let drive = c.in_ok-drive.ensures in
    let middle : Keeps c.register.new.self c.put_picked.new.net = keeps_then _ c.put_better.new.net _ test.keeps (keeps_then _ c.put_pick.new.net _ pick.keeps picked.keeps) in
    record {
      keeps = driven_keeps old c.register.new.self c.put_picked.new.net new w.node word.grows word.ports word.name word.others word.fresh
          middle drive.grows drive.ports drive.name drive.others drive.driven;
      cost = record {
        nodes = omega (arith, word.size, test.cost.nodes, pick.cost.nodes, picked.cost.nodes, drive.size);
        registers = omega (arith, word.register_bits, test.cost.registers, pick.cost.registers, picked.cost.registers, drive.register_bits);
        memories = omega (arith, word.memory_bits, test.cost.memories, pick.cost.memories, picked.cost.memories, drive.memory_bits);
      };
      bus = record { there = drive.grows.shapes _ _ picked.bus.there; width = picked.bus.width };
      same_width = picked.same_width;
      held = λ run r.
          let at_now = drive.grows.runs run r in
          let at_pick = picked.keeps.runs run at_now in
          let at_test = pick.keeps.runs run at_pick in
          record {
            word = λ t. run.at t w.node;
            follows = drive.value run r;
            takes = λ t.
                let row = line_at run valid (suc t) in
                let counts = line_at run best.some (suc t) in
                let state = run.at (suc t) w.node in
                let value = run.at (suc t) best.value.node in
                let wins = is_better best.extreme best.kind state value in
                let won : line_at run c.bit.result (suc t) ≡ wins = bit_line run c.bit.result t wins (ap (run.at (suc t)) c.bit.ensures ∙ test.carries run at_test (suc t)) in
                let left : line_at run c.in_ok-pick.pick.value (suc t) ≡ (row && (wins || not counts)) =
                pick.takes run at_pick t ∙ ap (λ (b : Bool). row && (b || not counts)) won in
                let right : line_at run c.in_ok-pick.pick.word (suc t) ≡ (counts && not (row && wins)) =
                pick.holds run at_pick t ∙ ap (λ (b : Bool). counts && not (row && b)) won in
                let apart : (line_at run c.in_ok-pick.pick.value (suc t) && line_at run c.in_ok-pick.pick.word (suc t)) ≡ false =
                ap (λ (b : Bool). b && line_at run c.in_ok-pick.pick.word (suc t)) left ∙ ap (λ (b : Bool). (row && (wins || not counts)) && b) right ∙ not_both row wins counts in
                picked.carries run at_now t apart
                ∙ ap (λ (b : Bool). if b then value else if line_at run c.in_ok-pick.pick.word (suc t) then state else 0) left
                ∙ ap (λ (b : Bool). if row && (wins || not counts) then value else if b then state else 0) right
                ∙ picked_is row counts best.extreme best.kind state value;
          };
    })
