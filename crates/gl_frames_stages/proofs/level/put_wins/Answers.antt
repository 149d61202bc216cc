use Rattle.std.proofs.Common.{◌≡◌, ℕ, ◌+◌, ◌-◌, ◌%◌, ◌^◌, Bool, suc, ap, arith, ◌∙◌}
use Rattle.std.specs.Prelude.{◌&&◌}
use Rattle.gl_bits.specs.Words.{cut_of}
use Rattle.gl_bits.proofs.Wrapping.{cut_low}
use Rattle.gl_values.specs.Kinds.{width_of}
use Rattle.gl_divide.specs.Division.{highest}
use Rattle.gl_net.proofs.Determined.{keeps_then}
use Rattle.gl_wire.specs.Wire.{line_at}
use Rattle.gl_wire.proofs.ColumnLemmas.{bit_kept, bus_kept}
use Rattle.gl_wire.proofs.GateLemmas.{bit_of}
use Rattle.gl_totals.specs.Folds.{is_better}
use Rattle.gl_totals.proofs.FoldNet.{bit_line}
use Rattle.gl_frames_stages.proofs.level.put_wins.Goals as goal

pub cut-requires-clause-arg : goal.cut-requires-clause-arg
cut-requires-clause-arg c = bus_kept _ _ c.args.word c.in_ok-has.ensures.keeps c.requires.word

pub cut-requires-clause-inside : goal.cut-requires-clause-inside
cut-requires-clause-inside c = let a = c.requires.own_width in let b = c.requires.word_width in let s = c.requires.width in omega (arith, a, b, s)

pub cut-requires-2-clause-arg : goal.cut-requires-2-clause-arg
cut-requires-2-clause-arg c = bus_kept _ _ c.args.own (keeps_then _ c.highest.new.net _ c.in_ok-has.ensures.keeps c.in_ok-earlier.ensures.keeps) c.requires.own

pub cut-requires-2-clause-inside : goal.cut-requires-2-clause-inside
cut-requires-2-clause-inside c = let a = c.requires.own_width in let s = c.requires.width in omega (arith, a, s)

pub put_better-requires-clause-state : goal.put_better-requires-clause-state
put_better-requires-clause-state c = bus_kept _ _ c.in_ok-earlier.earlier c.in_ok-value.ensures.keeps c.in_ok-earlier.ensures.bus

pub put_better-requires-clause-best : goal.put_better-requires-clause-best
put_better-requires-clause-best c =
    let a = c.requires.own_width in
    let s = c.requires.width in
    let x = c.in_ok-earlier.ensures.width in
    let y = c.in_ok-value.ensures.width in
    record {
      counts = bit_kept _ _ c.in_ok-has.has (keeps_then _ c.cut.new.self _ c.in_ok-earlier.ensures.keeps c.in_ok-value.ensures.keeps) c.in_ok-has.ensures.bit;
      value = c.in_ok-value.ensures.bus;
      same_width = omega (arith, x, y);
      kind = omega (arith, x, a, s);
    }

pub both-requires-clause-left : goal.both-requires-clause-left
both-requires-clause-left c =
    bit_kept _ _ c.in_ok-has.has (keeps_then _ c.cut.new.self _ c.in_ok-earlier.ensures.keeps (keeps_then _ c.cut-2.new.self _ c.in_ok-value.ensures.keeps c.in_ok-better.ensures.keeps)) c.in_ok-has.ensures.bit

pub both-requires-clause-right : goal.both-requires-clause-right
both-requires-clause-right c =
    let test = c.in_ok-better.ensures in
    bit_of c.put_better.new.net c.in_ok-better.better c.bit.result test.bus test.same_width c.bit.ensures

pub returns : goal.returns
returns c =
    let order = c.args.order in
    let w : ℕ = width_of order.kind in
    let has = c.in_ok-has.ensures in
    let earlier = c.in_ok-earlier.ensures in
    let value = c.in_ok-value.ensures in
    let test = c.in_ok-better.ensures in
    let wins = c.in_ok-wins.ensures in
    let x = c.in_ok-earlier.earlier in
    let y = c.in_ok-value.value in
    let top : c.args.own.width - 2 ≡ w - 1 = (let a = c.requires.own_width in omega (arith, a)) in
    record {
      keeps = keeps_then _ c.highest.new.net _ has.keeps (keeps_then _ c.cut.new.self _ earlier.keeps (keeps_then _ c.cut-2.new.self _ value.keeps (keeps_then _ c.put_better.new.net _ test.keeps wins.keeps)));
      cost = record {
        nodes = omega (arith, has.cost.nodes, earlier.size, value.size, test.cost.nodes, wins.cost.nodes);
        registers = omega (arith, has.cost.registers, earlier.register_bits, value.register_bits, test.cost.registers, wins.cost.registers);
        memories = omega (arith, has.cost.memories, earlier.memory_bits, value.memory_bits, test.cost.memories, wins.cost.memories);
      };
      bit = wins.bit;
      line = λ run r t.
          let at_test = wins.keeps.runs run r in
          let at_value = test.keeps.runs run at_test in
          let at_earlier = value.keeps.runs run at_value in
          let at_has = earlier.keeps.runs run at_earlier in
          let a = run.at (suc t) c.args.word.node in
          let b = run.at (suc t) c.args.own.node in
          let first : run.at (suc t) x.node ≡ a % 2 ^ w = earlier.value run at_earlier (suc t) ∙ ap (λ n. cut_of n 0 a) top ∙ cut_low w a c.requires.width in
          let second : run.at (suc t) y.node ≡ b % 2 ^ w = value.value run at_value (suc t) ∙ ap (λ n. cut_of n 0 b) top ∙ cut_low w b c.requires.width in
          wins.line run r (suc t)
          ∙ ap (λ (q : Bool). q && line_at run c.bit.result (suc t)) (has.line run at_has t ∙ ap (λ n. highest n b) c.requires.own_width)
          ∙ ap (λ (q : Bool). highest (w + 1) b && q)
          (bit_line run c.bit.result t (is_better order.extreme order.kind (run.at (suc t) x.node) (run.at (suc t) y.node)) (ap (run.at (suc t)) c.bit.ensures ∙ test.carries run at_test (suc t))
          ∙ ap (λ n. is_better order.extreme order.kind n (run.at (suc t) y.node)) first ∙ ap (is_better order.extreme order.kind (a % 2 ^ w)) second);
    }
