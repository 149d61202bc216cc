-- The netlist of several statements is no larger than they may weigh together, and has at most 555 ports.
use Rattle.std.proofs.Common.{◌≡◌, ℕ, ◌+◌, ◌*◌, ◌≤◌, List, [], ◌∷◌, length, length-append, sym, subst, arith}
use Rattle.std.specs.List.{flat_map, sum_by}
use Rattle.std.proofs.lemmas.List.Elements.{All-from_recursion}
use Rattle.std.proofs.lemmas.List.Sums.{sum_by-cons}
use Rattle.gl_bits.specs.Limits.{most_weight}
use Rattle.gl_bits.proofs.AllLists.{length_map}
use Rattle.gl_schema.specs.declared.schema.Schema.{Schema}
use Rattle.gl_schema.specs.Profile.{output_ports}
use Rattle.gl_query.specs.declared.tree.Statement.{Statement}
use Rattle.gl_algebra.specs.declared.node.PlanNode.{PlanNode}
use Rattle.gl_algebra.specs.Fits.{IsPlan}
use Rattle.gl_algebra.specs.Roots.{output_part}
use Rattle.gl_algebra.specs.Weights.{weight_of}
use Rattle.gl_figures.specs.Reach.{OnceIsLess, weight_of_reached}
use Rattle.gl_elaborate.specs.Plans.{Several}
use Rattle.gl_plan.specs.declared.several.PlannedSeveral.{PlannedSeveral}
use Rattle.gl_plan.specs.Together.{ArePlanned, weight_together}
use Rattle.gl_net.specs.Net.{Net, size_of}
use Rattle.gl_wiring.specs.Many.{AreWired}
use Rattle.gl_testbench.specs.Emission.{TakesBeats}
use Rattle.gl_testbench.proofs.PortCounts.{outputs_many, ports_few}
use Rattle.gl_compiler.specs.Meets.{result_columns}
use Rattle.gl_many.specs.Meets.{outputs_among, port_among, take_ticks}
use Rattle.gl_many.specs.Roots.{CanStand, roots_of}
use Rattle.gl_many.proofs.Standing.{AllStand, Laws, ids_are, they_stand}

sums_add : (f g : ℕ → ℕ) (xs : List ℕ) → sum_by (λ x. f x + g x) xs ≡ sum_by f xs + sum_by g xs
sums_add f g [] = omega arith
sums_add f g (x ∷ xs) = omega (arith, sum_by-cons (λ y. f y + g y) x xs, sum_by-cons f x xs, sum_by-cons g x xs, sums_add f g xs)

-- a statement has at most 36 outputs
outputs_few : (nodes : List PlanNode) (schema : Schema) (ss : List Statement) (ids : List ℕ) → AllStand nodes schema ss ids
    → length (flat_map (outputs_among schema) ss) ≤ 36 * length ss
outputs_few nodes schema [] ids all = omega arith
outputs_few nodes schema (s ∷ ss) [] all = absurd all
outputs_few nodes schema (s ∷ ss) (id ∷ ids) all =
    omega (
      arith,
      length-append (outputs_among schema s) (flat_map (outputs_among schema) ss),
      length_map (port_among s.name.text) (output_ports (result_columns schema s)),
      outputs_many (result_columns schema s),
      all.0.known'.columns.most,
      outputs_few nodes schema ss ids all.1,
    )

module _ (laws : Laws) (schema : Schema) (ss : List Statement) (p : PlannedSeveral) (can : CanStand schema ss) (is : ArePlanned schema ss p) (net : Net) where
  -- what the roots reach, each node once, weighs no more than the roots do together
  pub light : OnceIsLess → AreWired schema p.plan (roots_of schema ss p.roots.items) net → size_of net ≤ most_weight
  light once wired =
      let ids = p.roots.items in
      let own = ids_are p.plan schema ss ids (they_stand laws schema ss p can is) in
      let size = subst (λ (xs : List ℕ). size_of net ≤ weight_of_reached p.plan xs + sum_by (output_part p.plan) xs) own wired.size in
      let plan : IsPlan p.plan = subst (λ (all : Several). IsPlan all.nodes) (sym is.at) (laws.several schema ss can.checked).plan in
      let less = (once p.plan ids plan (All-from_recursion _ ids is.within)).weight in
      let most = subst (λ (all : Several). weight_together all.nodes all.roots ≤ most_weight) (sym is.at) is.limits.light in
      omega (arith, size, less, most, sums_add (weight_of p.plan) (output_part p.plan) ids)

  pub few : TakesBeats (take_ticks ss) schema (flat_map (outputs_among schema) ss) net → length net.ports ≤ 3900
  few takes =
      let all = they_stand laws schema ss p can is in
      omega (arith, ports_few (take_ticks ss) schema (flat_map (outputs_among schema) ss) net can.of_schema takes, outputs_few p.plan schema ss p.roots.items all, can.few)
