use Rattle.gl_wiring.proofs.AloneLemmas.{root_alone}
use Rattle.gl_wiring.proofs.roots.put_unspared.Goals as goal

pub returns : goal.returns
returns c =
    root_alone c.laws_below.ensures c.args.site.plan.now c.args.root c.args.net.now c.put_circuit.new.net c.args.site.tick c.args.site.leaves.now c.in_ok-e.e c.args.site.planned
    c.requires.can.within c.requires.none c.in_ok-e.ensures.put c.in_ok-e.ensures.once
