use Rattle.std.proofs.Common.{ℕ, ◌-◌, ap, arith, ◌∙◌, sym}
use Rattle.gl_bits.specs.Words.{cut_of, join_of}
use Rattle.gl_net.proofs.Determined.{keeps_then}
use Rattle.gl_net.proofs.Growth.{same_keeps}
use Rattle.gl_wire.proofs.ColumnLemmas.{bit_kept}
use Rattle.gl_divide.proofs.DigitNet.{bus_of, shifted_more, shifted_one}
use Rattle.gl_divide.proofs.digit.shift.Goals as goal

pub returns-then-bus-eq1 : goal.returns-then-bus-eq1
returns-then-bus-eq1 c =
    let net = c.args.net.now in
    record {
      keeps = same_keeps net;
      cost = record { nodes = omega arith; registers = omega arith; memories = omega arith };
      bus = bus_of net c.args.line c.bus.result c.requires.line c.bus.ensures.node c.bus.ensures.width;
      same_width = c.bus.ensures.width ∙ sym c.if-bus-eq1.true;
      value = λ run r. shifted_one net run r c.args.bus c.bus.result c.args.line c.requires.line c.if-bus-eq1.true (λ t. ap (run.at t) c.bus.ensures.node);
    }

pub returns : goal.returns
returns c =
    let old = c.args.net.now in
    let new = c.join.new.self in
    let low = c.in_ok-low.ensures in
    let joined = c.in_ok-joined.ensures in
    let keeps = keeps_then old c.cut.new.self new low.keeps joined.keeps in
    record {
      keeps = keeps;
      cost = record {
        nodes = omega (arith, low.size, joined.size);
        registers = omega (arith, low.register_bits, joined.register_bits);
        memories = omega (arith, low.memory_bits, joined.memory_bits);
      };
      bus = joined.bus;
      same_width = omega (arith, joined.width, low.width, c.bus-2.ensures.width, c.if-bus-eq1.false, c.requires.bus.width.some');
      value = λ run r.
          shifted_more new run r c.args.bus c.in_ok-joined.joined c.args.line (bit_kept old new c.args.line keeps c.requires.line)
          (omega (arith, c.if-bus-eq1.false, c.requires.bus.width.some'))
          (λ t. joined.value run r t ∙ ap (λ (w : ℕ). join_of w (run.at t c.in_ok-low.low.node) (run.at t c.bus-2.result.node)) c.bus-2.ensures.width
          ∙ ap (λ (n : ℕ). join_of 1 n (run.at t c.bus-2.result.node)) (low.value run (joined.keeps.runs run r) t)
          ∙ ap (λ (n : ℕ). join_of 1 (cut_of (c.args.bus.width - 2) 0 (run.at t c.args.bus.node)) (run.at t n)) c.bus-2.ensures.node);
    }
