use Rattle.gl_slots.proofs.PartLemmas.{takes_of}
use Rattle.gl_slots.proofs.parts.take_rows.Goals as goal

pub returns : goal.returns
returns c = rw c.note_bits.ensures (
    takes_of c.args.net.now c.but_not.new.net c.with_all.new.net c.with_all-2.new.net c.pairwise.new.net c.args.comes.valid c.args.comes.eos c.args.comes.tail c.in_ok-alone.alone c.args.matches.now c.args.ends.now
    c.in_ok-last.last c.in_ok-may.may c.in_ok-takes.takes c.in_ok-alone.ensures c.requires.count c.in_ok-last.ensures c.in_ok-may.ensures c.in_ok-takes.ensures)
