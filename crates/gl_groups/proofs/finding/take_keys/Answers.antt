use Rattle.std.proofs.Common.{ℕ, List, length, subst, sym, ap, ◌∙◌, replicate}
use Rattle.gl_net.specs.declared.node.Bus.{Bus}
use Rattle.gl_net.specs.declared.node.Bit.{Bit}
use Rattle.gl_wire_registers.specs.Lines.{AreBits}
use Rattle.gl_wire_registers.specs.Registers.{DrivesAll, MayDrive, Opens}
use Rattle.gl_slots.specs.SlotLines.{AddsNexts, AreKeysOf}
use Rattle.gl_groups.proofs.FindingKeys.{keys_taken, regs_taken, taken_count, taken_may}
use Rattle.gl_slots.proofs.SlotNet.{bits_opened}
use Rattle.gl_groups.proofs.finding.take_keys.Goals as goal

pub key_each-requires-clause-nexts : goal.key_each-requires-clause-nexts
key_each-requires-clause-nexts c =
    subst (λ (bs : List Bit). AreBits c.open_same.new.net bs) (sym c.as_slice.ensures) (bits_opened c.args.net.now c.open_same.new.net c.args.nexts.now c.in_ok-keys.ensures.grows c.requires.nexts)

pub key_each-requires-clause-keys : goal.key_each-requires-clause-keys
key_each-requires-clause-keys c =
    let o = subst (λ (n : ℕ). Opens c.args.net.now c.open_same.new.net (replicate n c.word.result) c.in_ok-keys.keys) c.len.ensures c.in_ok-keys.ensures in
    subst (AreKeysOf c.open_same.new.net c.args.last) (sym c.as_slice-2.ensures)
    (regs_taken c.args.net.now c.open_same.new.net c.args.nexts.now c.word.result c.args.last c.in_ok-keys.keys c.word.ensures.width c.word.ensures.bits o)

pub key_each-requires-clause-count : goal.key_each-requires-clause-count
key_each-requires-clause-count c =
    let o = subst (λ (n : ℕ). Opens c.args.net.now c.open_same.new.net (replicate n c.word.result) c.in_ok-keys.keys) c.len.ensures c.in_ok-keys.ensures in
    ap (λ (bs : List Bit). length bs) c.as_slice.ensures
    ∙ sym (ap (λ (bs : List Bus). length bs) c.as_slice-2.ensures ∙ taken_count c.args.net.now c.open_same.new.net c.args.nexts.now c.word.result c.args.last c.in_ok-keys.keys c.word.ensures.width c.word.ensures.bits o)

pub drive_all-requires-clause-nexts : goal.drive_all-requires-clause-nexts
drive_all-requires-clause-nexts c =
    let o = subst (λ (n : ℕ). Opens c.args.net.now c.open_same.new.net (replicate n c.word.result) c.in_ok-keys.keys) c.len.ensures c.in_ok-keys.ensures in
    let taken = subst (λ (bs : List Bus). AddsNexts c.open_same.new.net c.key_each.new.net c.args.nexts.now c.args.last bs (length bs) c.in_ok-taken.taken) c.as_slice-2.ensures
    (subst (λ (bs : List Bit). AddsNexts c.open_same.new.net c.key_each.new.net bs c.args.last c.as_slice-2.result.now (length c.as_slice-2.result.now) c.in_ok-taken.taken) c.as_slice.ensures c.in_ok-taken.ensures) in
    subst (λ (bs : List Bus). MayDrive c.key_each.new.net bs c.as_slice-4.result.now) (sym c.as_slice-3.ensures)
    (subst (λ (bs : List Bus). MayDrive c.key_each.new.net c.in_ok-keys.keys bs) (sym c.as_slice-4.ensures)
    (taken_may c.args.net.now c.open_same.new.net c.args.nexts.now c.word.result c.args.last c.in_ok-keys.keys c.word.ensures.width c.word.ensures.bits o c.key_each.new.net c.in_ok-taken.taken taken))

pub returns : goal.returns
returns c =
    let o = subst (λ (n : ℕ). Opens c.args.net.now c.open_same.new.net (replicate n c.word.result) c.in_ok-keys.keys) c.len.ensures c.in_ok-keys.ensures in
    let taken = subst (λ (bs : List Bus). AddsNexts c.open_same.new.net c.key_each.new.net c.args.nexts.now c.args.last bs (length bs) c.in_ok-taken.taken) c.as_slice-2.ensures
    (subst (λ (bs : List Bit). AddsNexts c.open_same.new.net c.key_each.new.net bs c.args.last c.as_slice-2.result.now (length c.as_slice-2.result.now) c.in_ok-taken.taken) c.as_slice.ensures c.in_ok-taken.ensures) in
    let driven = subst (λ (bs : List Bus). DrivesAll c.key_each.new.net c.drive_all.new.net c.in_ok-keys.keys bs) c.as_slice-4.ensures
    (subst (λ (bs : List Bus). DrivesAll c.key_each.new.net c.drive_all.new.net bs c.as_slice-4.result.now) c.as_slice-3.ensures c.in_ok-drive_all.ensures) in
    keys_taken c.args.net.now c.open_same.new.net c.args.nexts.now c.word.result c.args.last c.in_ok-keys.keys c.word.ensures.width c.word.ensures.bits o c.key_each.new.net c.in_ok-taken.taken taken
    c.drive_all.new.net driven
