use Rattle.std.proofs.Common.{ap, suc, sym, arith, ◌∙◌}
use Rattle.gl_net.proofs.Values.{bus_fits}
use Rattle.gl_wire.proofs.GateLemmas.{bit_of}
use Rattle.gl_frames_tree.proofs.PartLemmas.{no_bit_above, top_line}
use Rattle.gl_frames_tree.proofs.parts.put_bit.Goals as goal

pub returns-then-at-key : goal.returns-then-at-key
returns-then-at-key c =
    let bus = c.in_ok-bus.ensures in
    record {
      keeps = bus.keeps;
      cost = record { nodes = bus.size; registers = omega (arith, bus.register_bits); memories = omega (arith, bus.memory_bits) };
      bit = bit_of c.cut.new.self c.in_ok-bus.bus c.bit.result bus.bus (omega (arith, bus.width)) c.bit.ensures;
      line = λ run r t. top_line run c.bit.result c.args.at (run.at (suc t) c.args.key.node) t
          (ap (run.at (suc t)) c.bit.ensures ∙ bus.value run r (suc t));
    }

pub returns : goal.returns
returns c =
    let none = c.in_ok-none.ensures in
    record {
      keeps = none.keeps;
      cost = none.cost;
      bit = none.bit;
      line = λ run r t. none.line run r (suc t)
          ∙ sym (no_bit_above (run.at (suc t) c.args.key.node) c.args.key.width c.args.at
          (bus_fits c.args.net.now c.args.key run c.requires.key (none.keeps.runs run r) (suc t)) (omega (arith, c.if-at-key.false)));
    }
