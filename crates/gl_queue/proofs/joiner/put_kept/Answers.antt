use Rattle.std.proofs.Common.{arith}
use Rattle.std.proofs.lemmas.Grind.{common_steps}
use Rattle.gl_queue.proofs.JoinLinesLemmas.{kept_value}
use Rattle.gl_queue.proofs.joiner.put_kept.Goals as goal

pub returns : goal.returns
returns c =
    let register = c.in_ok-register.ensures in
    let next = c.in_ok-next.ensures in
    let drive = c.in_ok-drive.ensures in
    record {
      keeps = grind (arith, common_steps);
      cost = record {
        nodes = omega (arith, register.size, next.size, drive.size);
        registers = omega (arith, register.register_bits, next.register_bits, drive.register_bits);
        memories = omega (arith, register.memory_bits, next.memory_bits, drive.memory_bits);
      };
      bus = grind (arith, common_steps);
      same_width = register.width;
      value = λ run r.
          let at_next = drive.grows.runs run r in
          kept_value run c.args.valid c.args.column c.in_ok-register.register c.in_ok-next.next (λ t. drive.value run r t) (λ t. next.value run at_next t);
    }
