-- The nodes after the call are those before it with the node inserted.
use Rattle.std.proofs.Common.{◌≡◌, List, length, ap, ◌∙◌, sym, subst}
use Rattle.gl_algebra.specs.declared.node.PlanNode.{PlanNode}
use Rattle.gl_algebra.specs.Added.{added, place_of, with_node}
use Rattle.gl_algebra.specs.Fits.{Fits}
use Rattle.gl_algebra.specs.Shapes.{kinds_over}
use Rattle.gl_algebra.proofs.PlanLemmas.{node_inserted, any_from_contains}
use Rattle.gl_algebra.proofs.CallerLemmas.{kinds-insert}
use Rattle.gl_algebra.proofs.plan.Plan.add.Goals as goal

pub invariant_of-self-2 : goal.invariant_of-self-2
invariant_of-self-2 c =
    let fits = subst (λ (nodes : List PlanNode). Fits nodes (length nodes) c.args.node) (sym c.self.view_is) c.requires in
    let own = subst (λ (nodes : List PlanNode). c.in_ok-kinds.kinds ≡ kinds_over nodes c.args.node)
    (sym c.self.view_is) c.in_ok-kinds.ensures in
    rw c.in_ok-place.ensures.keys
    (kinds-insert c.self.inside.nodes.keys c.args.node c.self.inside.columns.items c.in_ok-kinds.kinds c.put.new.all.items
    c.self.invariant.plan fits c.self.invariant.columns own c.in_ok-place.ensures.kinds)

pub returns-clause-added : goal.returns-clause-added
unfolding added
returns-clause-added c =
    let nodes : c.put.new.nodes.keys ≡ with_node c.args.self.now c.args.node =
    c.in_ok-place.ensures.keys ∙ ap (λ (nodes : List PlanNode). with_node nodes c.args.node) c.self.view_is in
    let root : c.of.result ≡ place_of c.args.self.now c.args.node =
    c.of.ensures ∙ c.in_ok-place.ensures.place ∙ ap (λ (nodes : List PlanNode). place_of nodes c.args.node) c.self.view_is in
    λ i. record { nodes = nodes i; root = root i }

pub returns-clause-number : goal.returns-clause-number
returns-clause-number c =
    rw (c.in_ok-place.ensures.keys, c.of.ensures, c.in_ok-place.ensures.place)
    (node_inserted c.self.inside.nodes.keys c.args.node).number

pub returns-clause-known : goal.returns-clause-known
returns-clause-known c known =
    c.in_ok-place.ensures.keys
    ∙ (node_inserted c.self.inside.nodes.keys c.args.node).known
    (any_from_contains c.self.inside.nodes.keys c.args.node (rw c.self.view_is known))
    ∙ c.self.view_is

pub returns-clause-plan : goal.returns-clause-plan
returns-clause-plan c = (invariant_of-self-2 c).plan
