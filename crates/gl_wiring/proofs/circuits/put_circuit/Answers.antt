use Rattle.gl_wiring.proofs.ReachedLemmas.{one_once, one_reached, one_there}
use Rattle.gl_wiring.proofs.circuits.put_circuit.Goals as goal

pub put_reached-requires : goal.put_reached-requires
put_reached-requires c = record { can = rw c.from_ref.ensures.value (c.requires.can, tt); words = c.requires.words }

pub circuit_at-requires : goal.circuit_at-requires
circuit_at-requires c =
    rw c.as_slice.ensures.value (one_there c.laws_below.ensures c.args.site.plan.now c.args.site.planned c.args.id c.requires.can.within c.args.net.now c.put_reached.new.net c.args.site.tick
    c.args.site.leaves.now c.in_ok-table.table.items (rw c.from_ref.ensures.value at c.in_ok-table.ensures))

pub returns-clause-put : goal.returns-clause-put
returns-clause-put c =
    one_reached c.laws_below.ensures c.args.site.plan.now c.args.site.planned c.args.id c.requires.can.within c.args.net.now c.put_reached.new.net c.args.site.tick
    c.args.site.leaves.now c.in_ok-table.table.items (rw c.from_ref.ensures.value at c.in_ok-table.ensures) c.in_ok-e.e (rw c.as_slice.ensures.value at c.in_ok-e.ensures)

pub returns-clause-once : goal.returns-clause-once
returns-clause-once c =
    one_once c.laws_below.ensures c.args.site.plan.now c.args.site.planned c.args.id c.requires.can.within c.args.net.now c.put_reached.new.net c.args.site.tick
    c.args.site.leaves.now c.in_ok-table.table.items (rw c.from_ref.ensures.value at c.in_ok-table.ensures) c.in_ok-e.e (rw c.as_slice.ensures.value at c.in_ok-e.ensures)
