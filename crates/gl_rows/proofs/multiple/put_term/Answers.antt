use Rattle.std.proofs.Common.{◌≡◌, ℕ, false, nat_eq, arith, refl, ap, ◌∙◌, sym}
use Rattle.std.proofs.lemmas.Bool.{ne_eqb}
use Rattle.gl_bits.specs.Words.{product_of}
use Rattle.gl_net.proofs.Determined.{keeps_then}
use Rattle.gl_net.proofs.Growth.{same_keeps}
use Rattle.gl_net.proofs.Values.{bus_fits}
use Rattle.gl_rows.proofs.MultipleLemmas.{product_one}
use Rattle.gl_rows.proofs.multiple.put_term.Goals as goal

pub returns-then-bits-eq1-clause-product : goal.returns-then-bits-eq1-clause-product
returns-then-bits-eq1-clause-product c =
    let net = c.args.net.now in
    let value = c.args.value in
    let one = sym c.bits.ensures.value ∙ c.if-bits-eq1.true in
    record {
      keeps = same_keeps net;
      cost = record { nodes = omega arith; registers = omega arith; memories = omega arith };
      bus = c.requires.value;
      same_width = refl;
      carries = λ run r t. product_one value.width (run.at t value.node) c.args.word.bits one (bus_fits net value run c.requires.value r t);
    }

pub returns-clause-product : goal.returns-clause-product
returns-clause-product c =
    let a = c.in_ok-factor.ensures in
    let b = c.in_ok-product.ensures in
    let value = c.args.value in
    let other : nat_eq c.args.word.bits 1 ≡ false = ne_eqb c.args.word.bits 1 (λ e. c.if-bits-eq1.false (c.bits.ensures.value ∙ e)) in
    record {
      keeps = keeps_then c.args.net.now c.constant.new.self c.binary.new.self a.keeps b.keeps;
      cost = rw other (record {
        nodes = omega (arith, a.size, b.size);
        registers = omega (arith, a.register_bits, b.register_bits);
        memories = omega (arith, a.memory_bits, b.memory_bits);
      });
      bus = b.bus;
      same_width = b.width;
      carries = λ run r t.
          b.value run r t ∙ ap (λ (n : ℕ). product_of value.width (run.at t value.node) n) (a.value run (b.keeps.runs run r) t);
    }
