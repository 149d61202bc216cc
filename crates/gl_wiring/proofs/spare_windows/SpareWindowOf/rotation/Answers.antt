use Rattle.gl_wiring.proofs.SpareLemmas.{in_body, rotates}
use Rattle.gl_wiring.proofs.spare_windows.SpareWindowOf.rotation.Goals as goal

pub figures_at-requires : goal.figures_at-requires
figures_at-requires c = in_body c.laws_below.ensures c.args.site.plan.now c.args.self.now c.args.site.planned c.requires.node

pub returns-clause-is : goal.returns-clause-is
returns-clause-is c = rw c.figures_at.ensures.value (rotates c.laws_below.ensures c.args.site.plan.now c.args.self.now c.args.site.planned c.requires.node).0
