use Rattle.std.proofs.Common.{◌≡◌, ℕ, length, ap, arith, ◌∙◌}
use Rattle.std.proofs.Math.Nat.{div-one}
use Rattle.std.proofs.lemmas.List.{length-map}
use Rattle.gl_bits.specs.Words.{Word, bits_of, product_of}
use Rattle.gl_net.proofs.Determined.{keeps_then}
use Rattle.gl_rows.proofs.MultipleLemmas.{product_turned}
use Rattle.gl_totals.specs.Weighing.{among, picked}
use Rattle.gl_totals.proofs.WeighLemmas.{picked_among}
use Rattle.gl_totals.proofs.weighted.put_part.Goals as goal

pub returns-then-are_lean : goal.returns-then-are_lean
returns-then-are_lean c =
    let old = c.args.net.now in
    let mid = c.put_picked.new.net in
    let new = c.put_multiples.new.net in
    let ws = bits_of c.args.weights.now in
    let place = c.args.place in
    let value = c.args.value in
    let w = value.width in
    let weight = c.in_ok-weight.ensures in
    let part = c.in_ok-part.ensures in
    let many : length ws ≡ length c.args.weights.now = length-map c.args.weights.now (λ (x : Word). x.bits) in
    record {
      keeps = keeps_then old mid new weight.keeps part.keeps;
      cost = record {
        nodes = omega (arith, weight.cost.nodes, part.cost.nodes, many);
        registers = omega (arith, weight.cost.registers, part.cost.registers);
        memories = omega (arith, weight.cost.memories, part.cost.memories);
      };
      bus = part.bus;
      same_width = part.same_width;
      carries = λ run r u.
          let p = run.at u place.node in
          let v = run.at u value.node in
          part.carries run r u
          ∙ ap (λ (k : ℕ). product_of w v (among ws k)) (weight.carries run (part.keeps.runs run r) u ∙ ap (picked ws) (div-one p))
          ∙ ap (product_of w v) (picked_among ws p)
          ∙ product_turned w v (picked ws p);
    }
