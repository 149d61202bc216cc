use Rattle.std.proofs.Common.{Option, Some, ap, ◌∙◌}
use Rattle.gl_algebra.specs.declared.node.PlanKey.{PlanKey}
use Rattle.gl_algebra.specs.declared.node.PlanNode.TheVariants.{Frames}
use Rattle.gl_wiring.proofs.parted.frames_by.Goals as goal

pub frames_node-requires-clause-node : goal.frames_node-requires-clause-node
frames_node-requires-clause-node c = c.requires.node ∙ ap (λ (b : Option PlanKey). Some (Frames c.args.frames.child b c.args.items.now)) c.in-None.is

pub key_frames_node-requires-clause-node : goal.key_frames_node-requires-clause-node
key_frames_node-requires-clause-node c = c.requires.node ∙ ap (λ (b : Option PlanKey). Some (Frames c.args.frames.child b c.args.items.now)) c.in-Some.is
