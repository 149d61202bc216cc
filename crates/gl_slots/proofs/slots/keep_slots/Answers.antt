use Rattle.std.proofs.Common.{◌≡◌, List, length, subst, sym, ap, ◌∙◌, map}
use Rattle.gl_bits.proofs.AllLists.{length_map}
use Rattle.gl_net.specs.declared.node.Bit.{Bit}
use Rattle.gl_net.specs.declared.node.Bus.{Bus}
use Rattle.gl_wire_registers.specs.Lines.{AreBits, to_bit, to_bus}
use Rattle.gl_wire_registers.specs.Registers.{AreOpen, DrivesAll, MayDrive}
use Rattle.gl_wire_registers.proofs.FlagLemmas.{flags_are, regs_count}
use Rattle.gl_slots.specs.SlotLines.{AddsKept, AddsKeys}
use Rattle.gl_slots.proofs.SeenNet.{slots_kept, slots_may}
use Rattle.gl_slots.proofs.SlotNet.{bits_opened}
use Rattle.gl_slots.proofs.slots.keep_slots.Goals as goal

pub keep_keys-requires-clause-used : goal.keep_keys-requires-clause-used
keep_keys-requires-clause-used c =
    let is_used : c.from_vec-used.result ≡ map to_bit c.in_ok-flags.flags = c.from_vec-used.ensures ∙ c.in_ok-lines_of.ensures ∙ ap (map to_bit) c.as_slice.ensures in
    subst (AreBits c.open_same.new.net) (sym is_used)
    (flags_are c.args.net.now c.open_same.new.net c.args.count c.word.result c.in_ok-flags.flags c.in_ok-flags.ensures c.word.ensures.width c.word.ensures.bits)

pub keep_keys-requires-clause-homes : goal.keep_keys-requires-clause-homes
keep_keys-requires-clause-homes c = bits_opened c.args.net.now c.open_same.new.net c.args.homes.now c.in_ok-flags.ensures.grows c.requires.homes

pub keep_keys-requires-clause-homes_count : goal.keep_keys-requires-clause-homes_count
keep_keys-requires-clause-homes_count c =
    let is_used : c.from_vec-used.result ≡ map to_bit c.in_ok-flags.flags = c.from_vec-used.ensures ∙ c.in_ok-lines_of.ensures ∙ ap (map to_bit) c.as_slice.ensures in
    let many : length c.from_vec-used.result ≡ c.args.count =
    ap length is_used ∙ length_map to_bit c.in_ok-flags.flags ∙ regs_count c.args.net.now c.open_same.new.net c.args.count c.word.result c.in_ok-flags.flags c.in_ok-flags.ensures in
    c.requires.homes_count ∙ sym many

pub drive_all-requires-clause-open : goal.drive_all-requires-clause-open
drive_all-requires-clause-open c =
    subst (AreOpen c.keep_keys.new.net) (sym c.as_slice-3.ensures)
    (record { undriven = λ k b e. c.in_ok-slots.ensures.keeps.undriven b.node ∙ c.in_ok-flags.ensures.still.undriven k b e; apart = c.in_ok-flags.ensures.still.apart })

pub drive_all-requires-clause-nexts : goal.drive_all-requires-clause-nexts
drive_all-requires-clause-nexts c =
    let is_used : c.from_vec-used.result ≡ map to_bit c.in_ok-flags.flags = c.from_vec-used.ensures ∙ c.in_ok-lines_of.ensures ∙ ap (map to_bit) c.as_slice.ensures in
    let is_nexts : c.as_slice-4.result.now ≡ map to_bus c.in_ok-slots.slots.seen.has = c.as_slice-4.ensures.value ∙ c.in_ok-nexts.ensures ∙ ap (map to_bus) c.as_slice-2.ensures in
    let slots = subst (λ (bs : List Bit). AddsKeys c.open_same.new.net c.keep_keys.new.net bs c.args.wanted.free c.args.wanted.ask c.args.wanted.here c.args.homes.now c.in_ok-slots.slots) is_used c.in_ok-slots.ensures in
    subst (λ (bs : List Bus). MayDrive c.keep_keys.new.net bs c.as_slice-4.result.now) (sym c.as_slice-3.ensures)
    (subst (λ (bs : List Bus). MayDrive c.keep_keys.new.net c.in_ok-flags.flags bs) (sym is_nexts)
    (slots_may c.args.net.now c.open_same.new.net c.keep_keys.new.net c.keep_keys.new.net c.args.count c.word.result c.args.wanted.free c.args.wanted.ask c.args.wanted.here c.args.homes.now c.in_ok-flags.flags c.in_ok-slots.slots c.word.ensures.width c.word.ensures.bits
    c.in_ok-flags.ensures slots))

pub returns : goal.returns
returns c = rw c.note_slots.ensures (
    let is_used : c.from_vec-used.result ≡ map to_bit c.in_ok-flags.flags = c.from_vec-used.ensures ∙ c.in_ok-lines_of.ensures ∙ ap (map to_bit) c.as_slice.ensures in
    let is_nexts : c.as_slice-4.result.now ≡ map to_bus c.in_ok-slots.slots.seen.has = c.as_slice-4.ensures.value ∙ c.in_ok-nexts.ensures ∙ ap (map to_bus) c.as_slice-2.ensures in
    let slots = subst (λ (bs : List Bit). AddsKeys c.open_same.new.net c.keep_keys.new.net bs c.args.wanted.free c.args.wanted.ask c.args.wanted.here c.args.homes.now c.in_ok-slots.slots) is_used c.in_ok-slots.ensures in
    let driven = subst (λ (bs : List Bus). DrivesAll c.keep_keys.new.net c.drive_all.new.net c.in_ok-flags.flags bs) is_nexts
    (subst (λ (bs : List Bus). DrivesAll c.keep_keys.new.net c.drive_all.new.net bs c.as_slice-4.result.now) c.as_slice-3.ensures c.in_ok-drive_all.ensures) in
    subst (λ (bs : List Bit). AddsKept c.args.net.now c.drive_all.new.net c.args.wanted.free c.args.wanted.ask c.args.wanted.here c.args.homes.now c.args.count
    (record { used = bs; keys = c.in_ok-slots.slots.keys; seen = c.in_ok-slots.slots.seen })) (sym is_used)
    (slots_kept c.args.net.now c.open_same.new.net c.keep_keys.new.net c.drive_all.new.net c.args.count c.word.result c.args.wanted.free c.args.wanted.ask c.args.wanted.here c.args.homes.now c.in_ok-flags.flags c.in_ok-slots.slots c.word.ensures.width c.word.ensures.bits
    c.in_ok-flags.ensures slots driven))
