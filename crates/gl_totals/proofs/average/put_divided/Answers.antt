use Rattle.std.proofs.Common.{◌≡◌, ◌≢◌, ℕ, suc, ◌+◌, ◌/◌, ap, arith, subst, sym, ◌∙◌}
use Rattle.std.specs.Prelude.{if◌then◌else◌, nat_eq}
use Rattle.gl_divide.specs.Divider.{cost_of_stages}
use Rattle.gl_net.proofs.Determined.{keeps_then}
use Rattle.gl_net.proofs.Values.{bus_fits}
use Rattle.gl_wire.specs.Costs.{CostsAtMost}
use Rattle.gl_totals.proofs.AverageNet.{divided_is, guarded_some}
use Rattle.gl_totals.proofs.average.put_divided.Goals as goal

pub returns : goal.returns
returns c =
    let old = c.args.net.now in
    let mid = c.put_guarded.new.net in
    let new = c.divide.new.net in
    let f = c.args.fraction in
    let g = c.in_ok-guarded.guarded in
    let q = c.in_ok-quotient.quotient in
    let guarded = c.in_ok-guarded.ensures in
    let quotient = c.in_ok-quotient.ensures in
    let divider : CostsAtMost mid new (cost_of_stages f.top.width f.top.width f.bottom.width) =
    subst (λ (m : ℕ). CostsAtMost mid new (cost_of_stages f.top.width f.top.width m)) guarded.bottom_width
    (subst (λ (n : ℕ). CostsAtMost mid new (cost_of_stages n n g.bottom.width)) guarded.top_width quotient.cost) in
    record {
      keeps = keeps_then old mid new guarded.keeps quotient.keeps;
      cost = record {
        nodes = omega (arith, guarded.cost.nodes, divider.nodes);
        registers = omega (arith, guarded.cost.registers, divider.registers);
        memories = omega (arith, guarded.cost.memories, divider.memories);
      };
      bus = quotient.value;
      same_width = quotient.same_width ∙ guarded.top_width;
      value = λ run r t.
          let at_guarded = quotient.keeps.runs run r in
          let s = run.at (suc t) f.top.node in
          let n = run.at (suc t) f.bottom.node in
          let bottom = guarded.bottoms run at_guarded t in
          let some : run.at (suc t) g.bottom.node ≢ 0 = subst (λ (k : ℕ). k ≢ 0) (sym bottom) (guarded_some n) in
          let e : suc t + (f.top.width + 1) ≡ suc t + (g.top.width + 1) = ap (λ (w : ℕ). suc t + (w + 1)) (sym guarded.top_width) in
          ap (λ (k : ℕ). run.at k q.value.node) e ∙ quotient.quotient run r t some
          ∙ ap (λ (k : ℕ). k / run.at (suc t) g.bottom.node) (guarded.tops run at_guarded t)
          ∙ ap (λ (k : ℕ). (if nat_eq n 0 then 0 else s) / k) bottom
          ∙ divided_is f.top.width s n (bus_fits old f.top run c.requires.top (guarded.keeps.runs run at_guarded) (suc t));
    }
