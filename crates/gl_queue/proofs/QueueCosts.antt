-- What a queue costs, by its depth.
use Rattle.std.proofs.Common.{ℕ, ◌+◌, ◌*◌, ◌^◌, ◌≤◌, List, length, Bool, true, false, sym, subst, arith}
use Rattle.std.specs.Prelude.{if◌then◌else◌, nat_eq}
use Rattle.std.specs.List.{sum}
use Rattle.std.proofs.lemmas.Bool.{ne_eqb}
use Rattle.gl_algebra.specs.Cost.{ring}
use Rattle.gl_net.specs.Net.{Net}
use Rattle.gl_wire.specs.Costs.{Cost, Costs}
use Rattle.gl_queue.specs.Costs.{cost_of_place, cost_of_queue, cost_of_ring}
use Rattle.gl_queue.proofs.DepthLemmas.{address_low}

pub place_cost : (old new : Net) (columns : List ℕ) → Costs old new (cost_of_place columns) → Costs old new (cost_of_queue 1 columns)
unfolding cost_of_queue
place_cost old new columns h = h

pub ring_cost : (old new : Net) (depth : ℕ) (columns : List ℕ) → 2 ≤ depth → Costs old new (cost_of_ring depth columns) → Costs old new (cost_of_queue depth columns)
unfolding cost_of_queue
ring_cost old new depth columns more h =
    subst (λ (b : Bool). Costs old new (if b then cost_of_place columns else cost_of_ring depth columns)) (sym (ne_eqb depth 1 (λ e. omega (arith, e, more)))) h

-- what it is at most, whatever the depth
pub record IsLow (depth : ℕ) (columns : List ℕ) (cost : Cost) : Type 0 where
  pub nodes : cost.nodes ≤ 22 + 2 * length columns
  pub registers : cost.registers ≤ sum columns + 65
  pub memories : cost.memories ≤ ring depth * sum columns

pub queue_low : (depth : ℕ) (columns : List ℕ) → depth ≤ 2 ^ 32 → IsLow depth columns (cost_of_queue depth columns)
unfolding cost_of_queue
queue_low depth columns most = by (nat_eq depth 1)
  where
    by : (b : Bool) → IsLow depth columns (if b then cost_of_place columns else cost_of_ring depth columns)
    by true = record { nodes = omega arith; registers = omega arith; memories = omega arith }
    by false = record { nodes = omega arith; registers = omega (arith, address_low depth most); memories = omega arith }
