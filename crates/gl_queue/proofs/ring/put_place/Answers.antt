use Rattle.std.proofs.Common.{ℕ, ◌<◌, ◌^◌, ap, arith, ◌∙◌, subst}
use Rattle.std.proofs.lemmas.Grind.{common_steps}
use Rattle.gl_bits.specs.Words.{sum_of}
use Rattle.gl_bits.proofs.Wrapping.{one_fits}
use Rattle.gl_net.proofs.Values.{bus_fits}
use Rattle.gl_queue.proofs.PartLemmas.{pointer_is}
use Rattle.gl_queue.proofs.ring.put_place.Goals as goal

pub word-requires-clause-number : goal.word-requires-clause-number
word-requires-clause-number c = one_fits c.args.bits c.requires.bits.some'

pub returns : goal.returns
returns c =
    let one = c.in_ok-one.ensures in
    let place = c.in_ok-place.ensures in
    let more = c.in_ok-more.ensures in
    let next = c.in_ok-next.ensures in
    let drive = c.in_ok-drive.ensures in
    record {
      keeps = grind (arith, common_steps);
      cost = record {
        nodes = omega (arith, one.size, place.size, more.size, next.size, drive.size);
        registers = omega (arith, one.register_bits, place.register_bits, more.register_bits, next.register_bits, drive.register_bits);
        memories = omega (arith, one.memory_bits, place.memory_bits, more.memory_bits, next.memory_bits, drive.memory_bits);
      };
      bus = grind (arith, common_steps);
      width = place.width;
      pointer = λ run r.
          let at_next = drive.grows.runs run r in
          let at_more = next.keeps.runs run at_next in
          let at_place = more.keeps.runs run at_more in
          let at_one = place.grows.runs run at_place in
          pointer_is run c.args.bits c.args.step c.in_ok-one.one c.in_ok-place.place c.in_ok-more.more c.in_ok-next.next
          (place.start run at_place ∙ c.word-2.ensures.bits)
          (λ t. drive.value run r t)
          (λ t. next.value run at_next t)
          (λ t. more.value run at_more t ∙ ap (λ (w : ℕ). sum_of w (run.at t c.in_ok-place.place.node) (run.at t c.in_ok-one.one.node)) place.width)
          (λ t. one.value run at_one t ∙ c.word.ensures.bits)
          (λ t. subst (λ (w : ℕ). run.at t c.in_ok-place.place.node < 2 ^ w) place.width (bus_fits c.register.new.self c.in_ok-place.place run place.bus at_place t));
    }
