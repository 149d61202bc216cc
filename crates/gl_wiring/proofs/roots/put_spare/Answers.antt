use Rattle.std.proofs.Common.{[], ◌∷◌, refl}
use Rattle.gl_algebra.specs.declared.node.PlanNode.TheVariants.{Window}
use Rattle.gl_wire.specs.Wire.{widths}
use Rattle.gl_wiring.proofs.CanLemmas.{can_child}
use Rattle.gl_wiring.proofs.SpareLemmas.{spare_put, spare_stands}
use Rattle.gl_wiring.proofs.WordLemmas.{have_words}
use Rattle.gl_wiring.proofs.roots.put_spare.Goals as goal

pub put_circuit-requires : goal.put_circuit-requires
put_circuit-requires c =
    let w = c.args.w.window in
    record {
      can = (can_child c.laws_below.ensures c.args.site.plan.now c.args.site.figures.now w.id (Window w.source w.body w.size w.advance) c.args.net.now c.args.site.tick c.args.site.leaves.now
          c.args.site.planned c.requires.node.window' c.requires.can w.source (w.body ∷ []) refl refl).can;
      words = c.requires.words;
    }

pub put_machine-requires : goal.put_machine-requires
put_machine-requires c =
    let x = c.in_ok-source.ensures.put.gives in
    record {
      numbers = c.rotation-rotation.ensures.is;
      wire = x.wire;
      lines = x.lines;
      key = tt;
      tick = tt;
      stands = spare_stands c.laws_below.ensures c.args.site.plan.now c.args.w c.args.site.planned c.requires.node c.args.site.figures.now c.args.net.now c.args.site.tick c.args.site.leaves.now
          (widths c.in_ok-source.source.wire.columns) c.requires.can x.same_widths;
      words = have_words c.args.site.plan.now c.args.net.now c.put_circuit.new.net c.args.site.words.now c.in_ok-source.ensures.put.keeps c.requires.words;
    }

pub returns : goal.returns
returns c =
    spare_put c.laws_below.ensures c.args.site.plan.now c.args.w c.args.site.planned c.requires.node c.args.net.now c.put_circuit.new.net c.put_machine.new.net c.args.site.tick
    c.args.site.leaves.now c.in_ok-source.source c.in_ok-e.e c.in_ok-source.ensures.put (rw c.rotation-rotation.ensures.value at c.in_ok-e.ensures)
