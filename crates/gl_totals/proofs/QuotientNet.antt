-- Quotients, said otherwise.
use Rattle.std.proofs.Common.{◌≡◌, ℕ, suc, ap, arith, ◌∙◌}
use Rattle.std.specs.Prelude.{ℤ}
use Rattle.gl_values.specs.Kinds.{word_of}
use Rattle.gl_values.specs.Totals.{quotient_of}
use Rattle.gl_net.specs.declared.node.Bus.{Bus}
use Rattle.gl_net.specs.Net.{Net}
use Rattle.gl_wire.specs.Costs.{Cost}
use Rattle.gl_totals.specs.Averages.{IsQuotient}
use Rattle.gl_totals.specs.Costs.{cost_of_divided, cost_of_quotient}
use Rattle.gl_totals.specs.declared.average.Fraction.{Fraction}

-- the same number
pub number_as : (old new : Net) (most : Cost) (number other : ℕ → ℤ) (f : Fraction) (q : Bus) → ((x : ℕ) → number x ≡ other x) → IsQuotient old new most number f q
    → IsQuotient old new most other f q
number_as old new most number other f q same one = record {
  keeps = one.keeps;
  cost = one.cost;
  bus = one.bus;
  same_width = one.same_width;
  value = λ run r t.
      one.value run r t
      ∙ ap (λ (z : ℤ). word_of f.top.width (quotient_of z (run.at (suc t) f.bottom.node))) (same (run.at (suc t) f.top.node));
}

-- counted more loosely
pub quotient_within : (old new : Net) (number : ℕ → ℤ) (f : Fraction) (q : Bus) → IsQuotient old new (cost_of_divided f.top.width f.bottom.width) number f q
    → IsQuotient old new (cost_of_quotient f.top.width f.bottom.width) number f q
quotient_within old new number f q one = record {
  keeps = one.keeps;
  cost = record { nodes = omega (arith, one.cost.nodes); registers = omega (arith, one.cost.registers); memories = one.cost.memories };
  bus = one.bus;
  same_width = one.same_width;
  value = one.value;
}
