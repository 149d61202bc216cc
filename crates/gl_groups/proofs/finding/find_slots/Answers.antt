use Rattle.std.proofs.Common.{◌≡◌, List, length, subst, sym, ap, ◌∙◌, map}
use Rattle.gl_bits.proofs.AllLists.{length_map}
use Rattle.gl_net.specs.declared.node.Bit.{Bit}
use Rattle.gl_net.specs.declared.node.Bus.{Bus}
use Rattle.gl_net.proofs.Determined.{keeps_then}
use Rattle.gl_wire_registers.specs.Lines.{AreBits, to_bit, to_bus}
use Rattle.gl_wire_registers.specs.Registers.{AreOpen, DrivesAll, MayDrive}
use Rattle.gl_wire_registers.proofs.FlagLemmas.{flags_are, regs_count}
use Rattle.gl_groups.specs.Finding.{AddsSlotsFound, AddsSought}
use Rattle.gl_groups.proofs.FoundNet.{found_may, slots_found}
use Rattle.gl_groups.proofs.finding.find_slots.Goals as goal

pub seek_slots-requires-clause-used : goal.seek_slots-requires-clause-used
seek_slots-requires-clause-used c =
    let is_used : c.from_vec-used.result ≡ map to_bit c.in_ok-flags.flags = c.from_vec-used.ensures ∙ c.in_ok-lines_of.ensures ∙ ap (map to_bit) c.as_slice.ensures in
    subst (AreBits c.open_same.new.net) (sym is_used)
    (flags_are c.args.net.now c.open_same.new.net c.args.count c.word.result c.in_ok-flags.flags c.in_ok-flags.ensures c.word.ensures.width c.word.ensures.bits)

pub seek_slots-requires-clause-count : goal.seek_slots-requires-clause-count
seek_slots-requires-clause-count c =
    let is_used : c.from_vec-used.result ≡ map to_bit c.in_ok-flags.flags = c.from_vec-used.ensures ∙ c.in_ok-lines_of.ensures ∙ ap (map to_bit) c.as_slice.ensures in
    ap length is_used ∙ length_map to_bit c.in_ok-flags.flags ∙ regs_count c.args.net.now c.open_same.new.net c.args.count c.word.result c.in_ok-flags.flags c.in_ok-flags.ensures

pub drive_all-requires-clause-open : goal.drive_all-requires-clause-open
drive_all-requires-clause-open c =
    let keeps = keeps_then c.open_same.new.net c.seek_slots.new.net c.stay_used.new.net c.in_ok-sought.ensures.keeps c.in_ok-has.ensures.keeps in
    subst (AreOpen c.stay_used.new.net) (sym c.as_slice-3.ensures)
    (record { undriven = λ k b e. keeps.undriven b.node ∙ c.in_ok-flags.ensures.still.undriven k b e; apart = c.in_ok-flags.ensures.still.apart })

pub drive_all-requires-clause-nexts : goal.drive_all-requires-clause-nexts
drive_all-requires-clause-nexts c =
    let is_used : c.from_vec-used.result ≡ map to_bit c.in_ok-flags.flags = c.from_vec-used.ensures ∙ c.in_ok-lines_of.ensures ∙ ap (map to_bit) c.as_slice.ensures in
    let is_nexts : c.as_slice-4.result.now ≡ map to_bus c.in_ok-has.has = c.as_slice-4.ensures.value ∙ c.in_ok-nexts.ensures ∙ ap (map to_bus) c.as_slice-2.ensures in
    let sought = subst (λ (bs : List Bit). AddsSought c.open_same.new.net c.seek_slots.new.net c.args.asking.now bs c.args.count c.args.width c.in_ok-sought.sought) is_used c.in_ok-sought.ensures in
    subst (λ (bs : List Bus). MayDrive c.stay_used.new.net bs c.as_slice-4.result.now) (sym c.as_slice-3.ensures)
    (subst (λ (bs : List Bus). MayDrive c.stay_used.new.net c.in_ok-flags.flags bs) (sym is_nexts)
    (found_may c.args.net.now c.open_same.new.net c.seek_slots.new.net c.stay_used.new.net c.stay_used.new.net c.args.asking.now c.args.count c.args.width c.requires.count c.requires.fits c.word.result c.in_ok-flags.flags c.in_ok-sought.sought
    c.in_ok-has.has c.word.ensures.width c.word.ensures.bits c.in_ok-flags.ensures sought c.in_ok-has.ensures))

pub returns : goal.returns
returns c = rw c.note_found.ensures (
    let is_used : c.from_vec-used.result ≡ map to_bit c.in_ok-flags.flags = c.from_vec-used.ensures ∙ c.in_ok-lines_of.ensures ∙ ap (map to_bit) c.as_slice.ensures in
    let is_nexts : c.as_slice-4.result.now ≡ map to_bus c.in_ok-has.has = c.as_slice-4.ensures.value ∙ c.in_ok-nexts.ensures ∙ ap (map to_bus) c.as_slice-2.ensures in
    let sought = subst (λ (bs : List Bit). AddsSought c.open_same.new.net c.seek_slots.new.net c.args.asking.now bs c.args.count c.args.width c.in_ok-sought.sought) is_used c.in_ok-sought.ensures in
    let driven = subst (λ (bs : List Bus). DrivesAll c.stay_used.new.net c.drive_all.new.net c.in_ok-flags.flags bs) is_nexts
    (subst (λ (bs : List Bus). DrivesAll c.stay_used.new.net c.drive_all.new.net bs c.as_slice-4.result.now) c.as_slice-3.ensures c.in_ok-drive_all.ensures) in
    subst (λ (bs : List Bit). AddsSlotsFound c.args.net.now c.drive_all.new.net c.args.asking.now c.args.count c.args.width (record { used = bs; sought = c.in_ok-sought.sought })) (sym is_used)
    (slots_found c.args.net.now c.open_same.new.net c.seek_slots.new.net c.stay_used.new.net c.drive_all.new.net c.args.asking.now c.args.count c.args.width c.requires.count c.requires.fits c.word.result c.in_ok-flags.flags c.in_ok-sought.sought
    c.in_ok-has.has c.word.ensures.width c.word.ensures.bits c.in_ok-flags.ensures sought c.in_ok-has.ensures driven))
