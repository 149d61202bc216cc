use Rattle.std.proofs.Common.{ℕ, ◌≤◌, ◌^◌, sym, subst}
use Rattle.gl_queue.proofs.DepthLemmas.{address_is, address_covers}
use Rattle.gl_queue.proofs.queue.address_bits.Goals as goal

pub returns-clause-value : goal.returns-clause-value
returns-clause-value c = address_is c.args.depth c.least_exponent.result c.least_exponent.ensures.value

pub returns-clause-enough : goal.returns-clause-enough
returns-clause-enough c = subst (λ (n : ℕ). c.args.depth ≤ 2 ^ n) (sym (returns-clause-value c)) (address_covers c.args.depth)
