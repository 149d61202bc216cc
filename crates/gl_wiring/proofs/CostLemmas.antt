-- What blocks cost at most is within what a plan counts for their nodes.
use Rattle.std.proofs.Common.{◌≡◌, ℕ, ◌+◌, ◌*◌, ◌≤◌, List, length, All, arith}
use Rattle.std.specs.List.{sum}
use Rattle.std.proofs.lemmas.List.{length-map}
use Rattle.gl_values.specs.Kinds.{IsKind, width_of}
use Rattle.gl_values.specs.declared.kind.Kind.{Kind}
use Rattle.gl_algebra.specs.declared.node.PlanNode.{PlanNode}
use Rattle.gl_figures.specs.Reach.{keys_part, lean_part, store_part, weight_part}
use Rattle.gl_net.specs.Net.{Net}
use Rattle.gl_wire.specs.Counted.{IsCounted}
use Rattle.gl_rows.specs.Costs.{cost_of_items, cost_of_rows}
use Rattle.gl_wire.specs.Costs.{Cost, CostsAtMost}
use Rattle.gl_wire.proofs.CountLemmas.{narrow_kinds, narrow_sum}
use Rattle.gl_wiring.specs.Leaves.{widths_of}
use Rattle.gl_wiring.specs.Put.{own_cost}

-- a node's own part
pub record IsOwn (nodes : List PlanNode) (id weight lean store : ℕ) : Type 0 where
  pub weight' : weight_part nodes id ≡ weight
  pub lean' : 64 * lean_part nodes id + keys_part nodes id ≡ 64 * lean
  pub store' : store_part nodes id ≡ store

-- one block behind what was put
pub cost_behind : (nodes : List PlanNode) (id weight lean store : ℕ) (old new : Net) (most : Cost) → IsOwn nodes id weight lean store
    → CostsAtMost old new most → IsCounted most weight lean store → CostsAtMost old new (own_cost nodes id)
cost_behind nodes id weight lean store old new most s b c = record {
  nodes = omega (arith, b.nodes, c.nodes, s.weight');
  registers = omega (arith, b.registers, c.registers, s.lean');
  memories = omega (arith, b.memories, c.memories, s.store');
}

-- what was put in two steps
abbrev pub both_costs : Cost → Cost → Cost
both_costs p q = record { nodes = p.nodes + q.nodes; registers = p.registers + q.registers; memories = p.memories + q.memories }

pub costs_then : (old mid new : Net) (p q : Cost) → CostsAtMost old mid p → CostsAtMost mid new q → CostsAtMost old new (both_costs p q)
costs_then old mid new p q h i = record {
  nodes = omega (arith, h.nodes, i.nodes);
  registers = omega (arith, h.registers, i.registers);
  memories = omega (arith, h.memories, i.memories);
}

-- the bits of memories of all parts, and a cost that is within what is counted
pub stored_within : (bodies spacer : ℕ) → spacer + 0 + bodies + 0 ≤ bodies + spacer
stored_within bodies spacer = omega arith

pub at_most : (new old added counts : ℕ) → new ≤ old + added → added ≤ counts → new ≤ old + counts
at_most new old added counts h k = omega (arith, h, k)

-- ---- no column has more than 64 bits

pub bits_within : (kinds : List Kind) → All IsKind kinds → sum (widths_of kinds) ≤ 64 * length kinds
bits_within kinds h =
    let n : length (widths_of kinds) ≡ length kinds = length-map kinds width_of in
    omega (arith, narrow_sum (widths_of kinds) (narrow_kinds kinds h), n)

-- ---- operators of rows

pub rows_counted : (kinds : List Kind) (ops : ℕ) → All IsKind kinds
    → IsCounted (cost_of_rows (widths_of kinds) ops) (4 * (length kinds + 2 + ops)) (4 * (length kinds + 2 + ops)) 0
rows_counted kinds ops h =
    let n : length (widths_of kinds) ≡ length kinds = length-map kinds width_of in
    record {
      nodes = omega (arith, n);
      registers = omega (arith, bits_within kinds h);
      memories = omega arith;
    }

pub items_counted : (kinds : List Kind) → IsCounted (cost_of_items (widths_of kinds)) (4 * (length kinds + 2)) (4 * (length kinds + 2)) 0
items_counted kinds =
    let n : length (widths_of kinds) ≡ length kinds = length-map kinds width_of in
    record { nodes = omega (arith, n); registers = omega arith; memories = omega arith }

-- with no operation before the stage
pub selected_counted : (kinds : List Kind) → All IsKind kinds
    → IsCounted (cost_of_rows (widths_of kinds) 0) (4 * (length kinds + 2)) (4 * (length kinds + 2)) 0
selected_counted kinds h =
    let c = rows_counted kinds 0 h in
    record { nodes = omega (arith, c.nodes); registers = omega (arith, c.registers); memories = c.memories }
