use Rattle.gl_wiring.proofs.ReachedLemmas.{all_marked, are_reached, rooted}
use Rattle.gl_wiring.proofs.circuits.put_reached.Goals as goal

pub marks_of-requires : goal.marks_of-requires
marks_of-requires c =
    rooted c.laws_below.ensures c.args.site.plan.now c.args.site.figures.now c.args.roots.now c.args.net.now c.args.site.tick c.args.site.leaves.now c.args.site.planned c.requires.can

pub put_marked-requires-clause-can : goal.put_marked-requires-clause-can
put_marked-requires-clause-can c =
    rw c.as_slice.ensures.value (all_marked c.laws_below.ensures c.args.site.plan.now c.args.site.figures.now c.args.roots.now c.args.net.now c.args.site.tick c.args.site.leaves.now
    c.args.site.planned c.requires.can c.in_ok-marks.marks.items c.in_ok-marks.ensures)

pub returns : goal.returns
returns c =
    are_reached c.args.site.plan.now c.args.roots.now
    (rooted c.laws_below.ensures c.args.site.plan.now c.args.site.figures.now c.args.roots.now c.args.net.now c.args.site.tick c.args.site.leaves.now c.args.site.planned c.requires.can)
    c.in_ok-marks.marks.items c.in_ok-marks.ensures c.len-limit.result c.len-limit.ensures.len c.args.net.now c.put_marked.new.net c.args.site.tick c.args.site.leaves.now
    c.in_ok-table.table.items (rw c.as_slice.ensures.value at c.in_ok-table.ensures)
