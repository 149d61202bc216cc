use Rattle.std.proofs.Common.{◌≡◌, ℕ, Bool, suc, refl, ap, arith, ◌∙◌}
use Rattle.std.specs.Prelude.{if◌then◌else◌, not, ◌&&◌}
use Rattle.gl_net.specs.Net.{Keeps}
use Rattle.gl_net.proofs.Determined.{keeps_then}
use Rattle.gl_wire.specs.Wire.{line_at}
use Rattle.gl_wire.proofs.ColumnLemmas.{bit_kept}
use Rattle.gl_wire.proofs.GateLemmas.{bit_of, choose_line}
use Rattle.gl_totals.specs.Folds.{is_better}
use Rattle.gl_totals.proofs.FoldNet.{best_is, bit_line}
use Rattle.gl_totals.proofs.fold.put_best.Goals as goal

pub choose-requires-3-clause-test : goal.choose-requires-3-clause-test
choose-requires-3-clause-test c =
    let mid = c.put_better.new.net in
    let new = c.choose-2.new.self in
    let test = c.in_ok-better.ensures in
    let behind : Keeps mid new = keeps_then _ c.choose.new.self _ c.in_ok-taken.ensures.keeps (keeps_then _ c.but_not.new.net _ c.in_ok-alone.ensures.keeps c.in_ok-begun.ensures.keeps) in
    bit_kept mid new c.bit.result behind (bit_of mid c.in_ok-better.better c.bit.result test.bus test.same_width c.bit.ensures)

pub returns : goal.returns
returns c =
    let new = c.choose-3.new.self in
    let best = c.args.best in
    let valid = c.args.valid in
    let test = c.in_ok-better.ensures in
    let taken = c.in_ok-taken.ensures in
    let alone = c.in_ok-alone.ensures in
    let begun = c.in_ok-begun.ensures in
    let now = c.in_ok-now.ensures in
    let behind : Keeps c.choose.new.self new = keeps_then _ c.but_not.new.net _ alone.keeps (keeps_then _ c.choose-2.new.self _ begun.keeps now.keeps) in
    record {
      keeps = keeps_then _ c.put_better.new.net new test.keeps (keeps_then _ c.choose.new.self new taken.keeps behind);
      cost = record {
        nodes = omega (arith, test.cost.nodes, taken.size, alone.cost.nodes, begun.size, now.size);
        registers = omega (arith, test.cost.registers, taken.register_bits, alone.cost.registers, begun.register_bits, now.register_bits);
        memories = omega (arith, test.cost.memories, taken.memory_bits, alone.cost.memories, begun.memory_bits, now.memory_bits);
      };
      before = refl;
      now = now.bus;
      now_width = now.width ∙ taken.width ∙ c.requires.best.same_width;
      with_row = λ run r t.
          let at_begun = now.keeps.runs run r in
          let at_alone = begun.keeps.runs run at_begun in
          let at_taken = behind.runs run r in
          let at_test = taken.keeps.runs run at_taken in
          let state = run.at (suc t) c.args.word.node in
          let value = run.at (suc t) best.value.node in
          let better = is_better best.extreme best.kind state value in
          let row = line_at run valid (suc t) in
          let first : run.at (suc t) c.in_ok-taken.taken.node ≡ (if row then value else state) = taken.value run at_taken (suc t) ∙ choose_line run valid value state t in
          let second : run.at (suc t) c.in_ok-begun.begun.node ≡ (if row && not (line_at run best.some (suc t)) then value else state) =
          begun.value run at_begun (suc t) ∙ choose_line run c.in_ok-alone.alone value state t ∙ ap (λ (b : Bool). if b then value else state) (alone.line run at_alone (suc t)) in
          now.value run r (suc t) ∙ choose_line run c.bit.result (run.at (suc t) c.in_ok-taken.taken.node) (run.at (suc t) c.in_ok-begun.begun.node) t
          ∙ ap (λ (b : Bool). if b then run.at (suc t) c.in_ok-taken.taken.node else run.at (suc t) c.in_ok-begun.begun.node)
          (bit_line run c.bit.result t better (ap (run.at (suc t)) c.bit.ensures ∙ test.carries run at_test (suc t)))
          ∙ ap (λ (n : ℕ). if better then n else run.at (suc t) c.in_ok-begun.begun.node) first
          ∙ ap (λ (n : ℕ). if better then (if row then value else state) else n) second
          ∙ best_is row (line_at run best.some (suc t)) best.extreme best.kind state value;
    }
