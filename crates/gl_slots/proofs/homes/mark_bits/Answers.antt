use Rattle.gl_slots.proofs.PickLemmas.{room_for_mark}
use Rattle.gl_slots.proofs.homes.mark_bits.Goals as goal

pub returns-clause-enough : goal.returns-clause-enough
returns-clause-enough c = room_for_mark c.args.slots c.slot_bits.result c.slot_bits.ensures.enough
