use Rattle.std.proofs.Common.{List, length, subst}
use Rattle.gl_net.specs.declared.node.Bit.{Bit}
use Rattle.gl_net.proofs.Determined.{keeps_then}
use Rattle.gl_wire.proofs.ColumnLemmas.{bit_kept}
use Rattle.gl_wire_registers.proofs.LineLemmas.{bits_kept}
use Rattle.gl_slots.specs.SlotLines.{AddsAsks}
use Rattle.gl_slots.proofs.SeenNet.{seen_are}
use Rattle.gl_slots.proofs.slots.see_key.Goals as goal

pub pairwise-requires-clause-rights : goal.pairwise-requires-clause-rights
pairwise-requires-clause-rights c = bits_kept c.find_all.new.net c.ask_each.new.net c.in_ok-found.found.kept c.in_ok-asked.ensures.keeps c.in_ok-found.ensures.kept_bits

pub with_all-requires-clause-right : goal.with_all-requires-clause-right
with_all-requires-clause-right c =
    bit_kept c.find_all.new.net c.pairwise.new.net c.in_ok-found.found.one (keeps_then c.find_all.new.net c.ask_each.new.net c.pairwise.new.net c.in_ok-asked.ensures.keeps c.in_ok-nexts.ensures.keeps) c.in_ok-found.ensures.one_bit

pub pairwise-requires-2-clause-lefts : goal.pairwise-requires-2-clause-lefts
pairwise-requires-2-clause-lefts c =
    bits_kept c.find_all.new.net c.with_all.new.net c.in_ok-found.found.kept
    (keeps_then c.find_all.new.net c.ask_each.new.net c.with_all.new.net c.in_ok-asked.ensures.keeps (keeps_then c.ask_each.new.net c.pairwise.new.net c.with_all.new.net c.in_ok-nexts.ensures.keeps c.in_ok-takes.ensures.keeps))
    c.in_ok-found.ensures.kept_bits

pub but_not-requires-clause-left : goal.but_not-requires-clause-left
but_not-requires-clause-left c =
    bit_kept c.ask_each.new.net c.pairwise-2.new.net c.in_ok-asked.asked.passes
    (keeps_then c.ask_each.new.net c.pairwise.new.net c.pairwise-2.new.net c.in_ok-nexts.ensures.keeps (keeps_then c.pairwise.new.net c.with_all.new.net c.pairwise-2.new.net c.in_ok-takes.ensures.keeps c.in_ok-has.ensures.keeps))
    c.in_ok-asked.ensures.passes_bit

pub but_not-requires-clause-right : goal.but_not-requires-clause-right
but_not-requires-clause-right c =
    bit_kept c.find_all.new.net c.pairwise-2.new.net c.in_ok-found.found.one
    (keeps_then c.find_all.new.net c.ask_each.new.net c.pairwise-2.new.net c.in_ok-asked.ensures.keeps
    (keeps_then c.ask_each.new.net c.pairwise.new.net c.pairwise-2.new.net c.in_ok-nexts.ensures.keeps (keeps_then c.pairwise.new.net c.with_all.new.net c.pairwise-2.new.net c.in_ok-takes.ensures.keeps c.in_ok-has.ensures.keeps)))
    c.in_ok-found.ensures.one_bit

pub returns : goal.returns
returns c =
    seen_are c.args.net.now c.find_all.new.net c.ask_each.new.net c.pairwise.new.net c.with_all.new.net c.pairwise-2.new.net c.but_not.new.net c.args.used.now c.args.keys.now c.args.wanted.free c.args.wanted.ask c.args.wanted.here c.args.homes.now
    c.in_ok-found.found c.in_ok-asked.asked c.in_ok-nexts.nexts c.in_ok-takes.takes c.in_ok-has.has c.in_ok-passes.passes c.in_ok-found.ensures
    (subst (λ (bs : List Bit). AddsAsks c.find_all.new.net c.ask_each.new.net c.args.wanted.ask bs (length bs) c.in_ok-asked.asked) c.as_slice.ensures c.in_ok-asked.ensures)
    c.in_ok-nexts.ensures c.in_ok-takes.ensures c.in_ok-has.ensures c.in_ok-passes.ensures
