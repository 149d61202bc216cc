use Rattle.std.proofs.Common.{◌∙◌, refl, sym, ap, slice_get, Some}
use Rattle.gl_algebra.specs.declared.node.PlanNode.TheVariants.{Stream, Body, Compute, Select, Project, Frames, Aggregate, Union, Merge, Beside}
use Rattle.gl_wiring.proofs.AboveLemmas.{none_if, none_once}
use Rattle.gl_wiring.proofs.LeafLemmas.{body_put, body_there, stream_put, stream_there}
use Rattle.gl_wiring.proofs.behind.put_behind.Goals as goal

pub leaf_of-requires : goal.leaf_of-requires
leaf_of-requires c =
    rw c.from.ensures (stream_there c.laws_below.ensures c.args.site.plan.now c.args.id c.args.net.now c.args.site.tick c.args.site.leaves.now c.node.ensures.plan c.requires.can.leaved
    c.in-Stream.number c.in-Stream.field-1 (c.node.ensures.node ∙ ap Some c.in-Stream.is))

pub leaf_of-requires-in-Body : goal.leaf_of-requires-in-Body
leaf_of-requires-in-Body c =
    body_there c.laws_below.ensures c.args.site.plan.now c.args.id c.args.net.now c.args.site.tick c.args.site.leaves.now c.node.ensures.plan c.requires.can.leaved
    c.in-Body.field-0 (c.node.ensures.node ∙ ap Some c.in-Body.is)

pub returns-in_ok-e-in-Stream-clause-put : goal.returns-in_ok-e-in-Stream-clause-put
returns-in_ok-e-in-Stream-clause-put c =
    stream_put c.laws_below.ensures c.args.site.plan.now c.args.id c.args.net.now c.args.site.tick c.args.site.leaves.now c.node.ensures.plan c.requires.can.leaved c.in_ok-e-in-Stream.e
    c.in-Stream.number c.in-Stream.field-1 (c.node.ensures.node ∙ ap Some c.in-Stream.is)
    (ap (slice_get c.args.site.leaves.now) (sym c.from.ensures) ∙ c.in_ok-e-in-Stream.ensures.wire) c.in_ok-e-in-Stream.ensures.faults

pub returns-in_ok-e-in-Body-clause-put : goal.returns-in_ok-e-in-Body-clause-put
returns-in_ok-e-in-Body-clause-put c =
    body_put c.laws_below.ensures c.args.site.plan.now c.args.id c.args.net.now c.args.site.tick c.args.site.leaves.now c.node.ensures.plan c.requires.can.leaved c.in_ok-e-in-Body.e
    c.in-Body.field-0 (c.node.ensures.node ∙ ap Some c.in-Body.is) c.in_ok-e-in-Body.ensures.wire c.in_ok-e-in-Body.ensures.faults

pub compute_node-requires-clause-there : goal.compute_node-requires-clause-there
compute_node-requires-clause-there c = (c.requires.children (Compute c.in-Compute.child c.in-Compute.ops) (c.node.ensures.node ∙ ap Some c.in-Compute.is)).0

pub select_node-requires-clause-there : goal.select_node-requires-clause-there
select_node-requires-clause-there c = (c.requires.children (Select c.in-Select.child c.in-Select.column) (c.node.ensures.node ∙ ap Some c.in-Select.is)).0

pub project_node-requires-clause-there : goal.project_node-requires-clause-there
project_node-requires-clause-there c = (c.requires.children (Project c.in-Project.child c.in-Project.items) (c.node.ensures.node ∙ ap Some c.in-Project.is)).0

pub frames_by-requires-clause-there : goal.frames_by-requires-clause-there
frames_by-requires-clause-there c = (c.requires.children (Frames c.in-Frames.child c.in-Frames.by c.in-Frames.items) (c.node.ensures.node ∙ ap Some c.in-Frames.is)).0

pub aggregate_node-requires-clause-there : goal.aggregate_node-requires-clause-there
aggregate_node-requires-clause-there c = (c.requires.children (Aggregate c.in-Aggregate.child c.in-Aggregate.aggs) (c.node.ensures.node ∙ ap Some c.in-Aggregate.is)).0

pub union_node-requires-clause-first : goal.union_node-requires-clause-first
union_node-requires-clause-first c = (c.requires.children (Union c.in-Union.left c.in-Union.right) (c.node.ensures.node ∙ ap Some c.in-Union.is)).0

pub union_node-requires-clause-second : goal.union_node-requires-clause-second
union_node-requires-clause-second c = (c.requires.children (Union c.in-Union.left c.in-Union.right) (c.node.ensures.node ∙ ap Some c.in-Union.is)).1.0

pub merge_node-requires-clause-within : goal.merge_node-requires-clause-within
merge_node-requires-clause-within c = c.requires.can.within

pub merge_node-requires-clause-first : goal.merge_node-requires-clause-first
merge_node-requires-clause-first c = (c.requires.children (Merge c.in-Merge.left c.in-Merge.right) (c.node.ensures.node ∙ ap Some c.in-Merge.is)).0

pub merge_node-requires-clause-second : goal.merge_node-requires-clause-second
merge_node-requires-clause-second c = (c.requires.children (Merge c.in-Merge.left c.in-Merge.right) (c.node.ensures.node ∙ ap Some c.in-Merge.is)).1.0

pub beside_node-requires-clause-first : goal.beside_node-requires-clause-first
beside_node-requires-clause-first c = (c.requires.children (Beside c.in-Beside.left c.in-Beside.right) (c.node.ensures.node ∙ ap Some c.in-Beside.is)).0

pub beside_node-requires-clause-second : goal.beside_node-requires-clause-second
beside_node-requires-clause-second c = (c.requires.children (Beside c.in-Beside.left c.in-Beside.right) (c.node.ensures.node ∙ ap Some c.in-Beside.is)).1.0

pub returns-in_ok-e-in-Stream-clause-once : goal.returns-in_ok-e-in-Stream-clause-once
returns-in_ok-e-in-Stream-clause-once c =
    none_once c.args.site.plan.now c.args.id (Stream c.in-Stream.number c.in-Stream.field-1) c.args.net.now c.args.site.tick c.args.site.leaves.now c.in_ok-e-in-Stream.e c.node.ensures.plan
    (c.node.ensures.node ∙ ap Some c.in-Stream.is) (λ f v. refl)

pub returns-in_ok-e-in-Body-clause-once : goal.returns-in_ok-e-in-Body-clause-once
returns-in_ok-e-in-Body-clause-once c =
    none_once c.args.site.plan.now c.args.id (Body c.in-Body.field-0) c.args.net.now c.args.site.tick c.args.site.leaves.now c.in_ok-e-in-Body.e c.node.ensures.plan
    (c.node.ensures.node ∙ ap Some c.in-Body.is) (λ f v. refl)

pub returns-in-Frames-clause-once : goal.returns-in-Frames-clause-once
returns-in-Frames-clause-once c =
    none_if c.args.site.plan.now c.args.id (Frames c.in-Frames.child c.in-Frames.by c.in-Frames.items) c.frames_by.new.net c.args.site.tick c.args.site.leaves.now c.frames_by.result c.node.ensures.plan
    (c.node.ensures.node ∙ ap Some c.in-Frames.is) (λ f v. refl)

pub returns-in-Aggregate-clause-once : goal.returns-in-Aggregate-clause-once
returns-in-Aggregate-clause-once c =
    none_if c.args.site.plan.now c.args.id (Aggregate c.in-Aggregate.child c.in-Aggregate.aggs) c.aggregate_node.new.net c.args.site.tick c.args.site.leaves.now c.aggregate_node.result c.node.ensures.plan
    (c.node.ensures.node ∙ ap Some c.in-Aggregate.is) (λ f v. refl)

pub returns-in-Union-clause-once : goal.returns-in-Union-clause-once
returns-in-Union-clause-once c =
    none_if c.args.site.plan.now c.args.id (Union c.in-Union.left c.in-Union.right) c.union_node.new.net c.args.site.tick c.args.site.leaves.now c.union_node.result c.node.ensures.plan
    (c.node.ensures.node ∙ ap Some c.in-Union.is) (λ f v. refl)

pub returns-in-Merge-clause-once : goal.returns-in-Merge-clause-once
returns-in-Merge-clause-once c =
    none_if c.args.site.plan.now c.args.id (Merge c.in-Merge.left c.in-Merge.right) c.merge_node.new.net c.args.site.tick c.args.site.leaves.now c.merge_node.result c.node.ensures.plan
    (c.node.ensures.node ∙ ap Some c.in-Merge.is) (λ f v. refl)

pub returns-in-Beside-clause-once : goal.returns-in-Beside-clause-once
returns-in-Beside-clause-once c =
    none_if c.args.site.plan.now c.args.id (Beside c.in-Beside.left c.in-Beside.right) c.beside_node.new.net c.args.site.tick c.args.site.leaves.now c.beside_node.result c.node.ensures.plan
    (c.node.ensures.node ∙ ap Some c.in-Beside.is) (λ f v. refl)
