use Rattle.std.proofs.Common.{ℕ, ap, arith, ◌∙◌}
use Rattle.gl_bits.specs.Words.{sum_of}
use Rattle.gl_net.proofs.Determined.{keeps_then}
use Rattle.gl_queue.proofs.PartLemmas.{meeting_is}
use Rattle.gl_queue.proofs.ring.put_meeting.Goals as goal

pub returns : goal.returns
returns c =
    let many = c.in_ok-many.ensures in
    let end = c.in_ok-end.ensures in
    let line = c.in_ok-line.ensures in
    record {
      keeps = keeps_then c.args.net.now c.constant.new.self c.same.new.net many.keeps (keeps_then c.constant.new.self c.binary.new.self c.same.new.net end.keeps line.keeps);
      cost = record {
        nodes = omega (arith, many.size, end.size, line.cost.nodes);
        registers = omega (arith, many.register_bits, end.register_bits, line.cost.registers);
        memories = omega (arith, many.memory_bits, end.memory_bits, line.cost.memories);
      };
      bit = line.bit;
      line = λ run r.
          let at_end = line.keeps.runs run r in
          let at_many = end.keeps.runs run at_end in
          meeting_is run c.args.bits c.args.number c.args.head c.args.tail c.in_ok-many.many c.in_ok-end.end c.in_ok-line.line
          (λ t. many.value run at_many t ∙ c.word.ensures.bits)
          (λ t. end.value run at_end t ∙ ap (λ (w : ℕ). sum_of w (run.at t c.args.head.node) (run.at t c.in_ok-many.many.node)) c.requires.head_width)
          (line.line run r);
    }
