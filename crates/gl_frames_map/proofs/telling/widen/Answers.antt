use Rattle.std.proofs.Common.{arith, ◌∙◌}
use Rattle.gl_net.proofs.Determined.{keeps_then}
use Rattle.gl_frames_map.proofs.SeenNet.{wide_is}
use Rattle.gl_frames_map.proofs.telling.widen.Goals as goal

pub join-requires-clause-widths : goal.join-requires-clause-widths
join-requires-clause-widths c = omega (arith, c.in_ok-zero.ensures.width, c.word.ensures.width, c.requires.room)

pub returns : goal.returns
returns c =
    let zero = c.in_ok-zero.ensures in
    let wide = c.in_ok-wide.ensures in
    record {
      keeps = keeps_then c.args.net.now c.constant.new.self c.join.new.self zero.keeps wide.keeps;
      cost = record {
        nodes = omega (arith, zero.size, wide.size);
        registers = omega (arith, zero.register_bits, wide.register_bits);
        memories = omega (arith, zero.memory_bits, wide.memory_bits);
      };
      bus = wide.bus;
      width = omega (arith, wide.width, zero.width, c.word.ensures.width);
      value = λ run r t. wide.value run r t
          ∙ wide_is c.args.bus.width (run.at t c.in_ok-zero.zero.node) (run.at t c.args.bus.node) (zero.value run (wide.keeps.runs run r) t ∙ c.word.ensures.bits);
    }
