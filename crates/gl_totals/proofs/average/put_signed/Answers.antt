use Rattle.std.proofs.Common.{◌≡◌, ℕ, suc, ◌+◌, ap, arith, subst, sym, ◌∙◌}
use Rattle.std.specs.Prelude.{Bool, if◌then◌else◌, pos}
use Rattle.gl_values.specs.Kinds.{word_of}
use Rattle.gl_values.specs.Totals.{quotient_of}
use Rattle.gl_bits.specs.Words.{difference_of}
use Rattle.gl_divide.specs.Division.{highest}
use Rattle.gl_net.proofs.Determined.{keeps_then}
use Rattle.gl_net.proofs.Values.{bus_fits}
use Rattle.gl_wire.specs.Costs.{CostsAtMost}
use Rattle.gl_wire.specs.Wire.{line_at}
use Rattle.gl_wire.proofs.ColumnLemmas.{bit_kept, bus_kept}
use Rattle.gl_totals.specs.Costs.{cost_of_divided}
use Rattle.gl_totals.proofs.AverageNet.{signed_is, size_of_top}
use Rattle.gl_totals.proofs.average.put_signed.Goals as goal

pub put_divided-requires-clause-bottom : goal.put_divided-requires-clause-bottom
put_divided-requires-clause-bottom c = bus_kept c.args.net.now c.put_magnitude.new.net c.args.fraction.bottom c.in_ok-top.ensures.keeps c.requires.bottom

pub put_divided-requires-clause-go : goal.put_divided-requires-clause-go
put_divided-requires-clause-go c = bit_kept c.args.net.now c.put_magnitude.new.net c.args.go c.in_ok-top.ensures.keeps c.requires.go

pub delay_bit-requires : goal.delay_bit-requires
delay_bit-requires c = bit_kept c.put_magnitude.new.net c.put_divided.new.net c.in_ok-top.top.sign c.in_ok-quotient.ensures.keeps c.in_ok-top.ensures.sign

pub put_negated-requires-clause-bus : goal.put_negated-requires-clause-bus
put_negated-requires-clause-bus c = bus_kept c.put_divided.new.net c.delay_bit.new.net c.in_ok-quotient.quotient c.in_ok-late.ensures.keeps c.in_ok-quotient.ensures.bus

pub returns : goal.returns
returns c =
    let old = c.args.net.now in
    let sized = c.put_magnitude.new.net in
    let divided = c.put_divided.new.net in
    let delayed = c.delay_bit.new.net in
    let new = c.put_negated.new.net in
    let f = c.args.fraction in
    let m = c.in_ok-top.top in
    let q = c.in_ok-quotient.quotient in
    let w = f.top.width in
    let top = c.in_ok-top.ensures in
    let quotient = c.in_ok-quotient.ensures in
    let late = c.in_ok-late.ensures in
    let out = c.in_ok-out.ensures in
    let divider : CostsAtMost sized divided (cost_of_divided w f.bottom.width) =
    subst (λ (n : ℕ). CostsAtMost sized divided (cost_of_divided n f.bottom.width)) top.same_width quotient.cost in
    let wide = quotient.same_width ∙ top.same_width in
    record {
      keeps = keeps_then old sized new top.keeps (keeps_then sized divided new quotient.keeps (keeps_then divided delayed new late.keeps out.keeps));
      cost = record {
        nodes = omega (arith, top.cost.nodes, divider.nodes, late.cost.nodes, out.cost.nodes);
        registers = omega (arith, top.cost.registers, divider.registers, late.cost.registers, out.cost.registers);
        memories = omega (arith, top.cost.memories, divider.memories, late.cost.memories, out.cost.memories);
      };
      bus = out.bus;
      same_width = out.same_width ∙ wide;
      value = λ run r t.
          let at_late = out.keeps.runs run r in
          let at_divided = late.keeps.runs run at_late in
          let at_sized = quotient.keeps.runs run at_divided in
          let s = run.at (suc t) f.top.node in
          let n = run.at (suc t) f.bottom.node in
          let behind : suc t + (w + 1) ≡ suc (t + (w + 1)) = omega arith in
          let there : suc t + (m.size.width + 1) ≡ suc (t + (w + 1)) = ap (λ (k : ℕ). suc t + (k + 1)) top.same_width ∙ behind in
          let line : line_at run c.in_ok-late.late (suc (t + (w + 1))) ≡ highest w s =
          ap (line_at run c.in_ok-late.late) (sym behind ∙ ap (λ (k : ℕ). suc t + (k + 1)) (sym c.from.ensures)) ∙ (late.line run at_late).line (suc t) ∙ top.line run at_sized t in
          let divides : run.at (suc (t + (w + 1))) q.node ≡ word_of w (quotient_of (pos (size_of_top w s)) n) =
          ap (λ (k : ℕ). run.at k q.node) (sym there) ∙ quotient.value run at_divided t
          ∙ ap (λ (k : ℕ). word_of k (quotient_of (pos (run.at (suc t) m.size.node)) n)) top.same_width
          ∙ ap (λ (k : ℕ). word_of w (quotient_of (pos k) n)) (top.value run at_sized t) in
          ap (λ (k : ℕ). run.at k c.in_ok-out.out.node) behind ∙ out.value run r (t + (w + 1))
          ∙ ap (λ (b : Bool). if b then difference_of q.width 0 (run.at (suc (t + (w + 1))) q.node) else run.at (suc (t + (w + 1))) q.node) line
          ∙ ap (λ (k : ℕ). if highest w s then difference_of k 0 (run.at (suc (t + (w + 1))) q.node) else run.at (suc (t + (w + 1))) q.node) wide
          ∙ ap (λ (k : ℕ). if highest w s then difference_of w 0 k else k) divides
          ∙ signed_is w s n c.requires.top.width.some' (bus_fits old f.top run c.requires.top (top.keeps.runs run at_sized) (suc t));
    }
