use Rattle.std.proofs.Common.{◌∙◌, List, length, subst, sym, ap}
use Rattle.gl_net.specs.declared.node.Bit.{Bit}
use Rattle.gl_wire_registers.specs.Lines.{AreBits}
use Rattle.gl_slots.specs.SlotLines.{AddsNexts}
use Rattle.gl_slots.proofs.SeenNet.{seek_is}
use Rattle.gl_slots.proofs.SlotNet.{keys_of_kept}
use Rattle.gl_slots.proofs.slots.seek_key.Goals as goal

pub key_each-requires-clause-nexts : goal.key_each-requires-clause-nexts
key_each-requires-clause-nexts c = subst (AreBits c.see_key.new.net) (sym c.as_slice.ensures) c.in_ok-seen.ensures.are.nexts

pub key_each-requires-clause-keys : goal.key_each-requires-clause-keys
key_each-requires-clause-keys c = keys_of_kept c.args.net.now c.see_key.new.net c.args.wanted.here c.args.keys.now c.in_ok-seen.ensures.keeps c.requires.keys

pub key_each-requires-clause-count : goal.key_each-requires-clause-count
key_each-requires-clause-count c = ap (λ (bs : List Bit). length bs) c.as_slice.ensures ∙ c.in_ok-seen.ensures.are.nexts_count ∙ sym c.requires.count

pub returns : goal.returns
returns c =
    seek_is c.args.net.now c.see_key.new.net c.key_each.new.net c.args.used.now c.args.keys.now c.args.wanted.free c.args.wanted.ask c.args.wanted.here c.args.homes.now c.in_ok-seen.seen c.in_ok-keys.keys c.requires.count c.in_ok-seen.ensures
    (subst (λ (bs : List Bit). AddsNexts c.see_key.new.net c.key_each.new.net bs c.args.wanted.here c.args.keys.now (length c.args.keys.now) c.in_ok-keys.keys) c.as_slice.ensures c.in_ok-keys.ensures)
