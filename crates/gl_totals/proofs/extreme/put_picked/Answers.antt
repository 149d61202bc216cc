use Rattle.std.proofs.Common.{◌≡◌, ℕ, suc, ap, arith, ◌∙◌}
use Rattle.std.specs.Prelude.{bit_or, if◌then◌else◌}
use Rattle.gl_net.specs.Net.{Keeps}
use Rattle.gl_net.proofs.Determined.{keeps_then}
use Rattle.gl_wire.specs.Wire.{line_at}
use Rattle.gl_wire.proofs.GateLemmas.{choose_line}
use Rattle.gl_totals.proofs.ExtremeNet.{or_picked}
use Rattle.gl_totals.proofs.extreme.put_picked.Goals as goal

pub returns : goal.returns
returns c =
    let new = c.binary.new.self in
    let pick = c.args.pick in
    let zero = c.in_ok-zero.ensures in
    let taken = c.in_ok-taken.ensures in
    let held = c.in_ok-held.ensures in
    let out = c.in_ok-out.ensures in
    let behind : Keeps c.choose.new.self new = keeps_then _ c.choose-2.new.self _ held.keeps out.keeps in
    let behind_zero : Keeps c.constant.new.self new = keeps_then _ c.choose.new.self new taken.keeps behind in
    record {
      keeps = keeps_then _ c.constant.new.self new zero.keeps behind_zero;
      cost = record {
        nodes = omega (arith, zero.size, taken.size, held.size, out.size);
        registers = omega (arith, zero.register_bits, taken.register_bits, held.register_bits, out.register_bits);
        memories = omega (arith, zero.memory_bits, taken.memory_bits, held.memory_bits, out.memory_bits);
      };
      bus = out.bus;
      same_width = out.width ∙ taken.width;
      carries = λ run r t apart.
          let at_held = out.keeps.runs run r in
          let at_taken = behind.runs run r in
          let at_zero = behind_zero.runs run r in
          let x = run.at (suc t) c.args.value.node in
          let y = run.at (suc t) c.args.word.node in
          let none : run.at (suc t) c.in_ok-zero.zero.node ≡ 0 = zero.value run at_zero (suc t) ∙ c.small_word.ensures.bits in
          let left : run.at (suc t) c.in_ok-taken.taken.node ≡ (if line_at run pick.value (suc t) then x else 0) =
          taken.value run at_taken (suc t) ∙ choose_line run pick.value x (run.at (suc t) c.in_ok-zero.zero.node) t ∙ ap (λ (n : ℕ). if line_at run pick.value (suc t) then x else n) none in
          let right : run.at (suc t) c.in_ok-held.held.node ≡ (if line_at run pick.word (suc t) then y else 0) =
          held.value run at_held (suc t) ∙ choose_line run pick.word y (run.at (suc t) c.in_ok-zero.zero.node) t ∙ ap (λ (n : ℕ). if line_at run pick.word (suc t) then y else n) none in
          out.value run r (suc t) ∙ ap (λ (n : ℕ). bit_or n (run.at (suc t) c.in_ok-held.held.node)) left ∙ ap (bit_or (if line_at run pick.value (suc t) then x else 0)) right
          ∙ or_picked (line_at run pick.value (suc t)) (line_at run pick.word (suc t)) x y apart;
    }
