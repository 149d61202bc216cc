use Rattle.std.proofs.Common.{ℕ, List, subst, sym, replicate}
use Rattle.gl_net.specs.declared.node.Bus.{Bus}
use Rattle.gl_wire_registers.specs.Registers.{DrivesAll, MayDrive, Opens}
use Rattle.gl_slots.specs.SlotLines.{AddsSeek, AreKeysOf}
use Rattle.gl_slots.proofs.SeenNet.{keys_add, keys_may, regs_are}
use Rattle.gl_slots.proofs.SlotNet.{bits_opened}
use Rattle.gl_slots.proofs.slots.keep_keys.Goals as goal

pub seek_key-requires-clause-used : goal.seek_key-requires-clause-used
seek_key-requires-clause-used c = bits_opened c.args.net.now c.open_same.new.net c.args.used.now c.in_ok-keys.ensures.grows c.requires.used

pub seek_key-requires-clause-keys : goal.seek_key-requires-clause-keys
seek_key-requires-clause-keys c =
    let o = subst (λ (n : ℕ). Opens c.args.net.now c.open_same.new.net (replicate n c.word.result) c.in_ok-keys.keys) c.len.ensures c.in_ok-keys.ensures in
    subst (AreKeysOf c.open_same.new.net c.args.wanted.here) (sym c.as_slice.ensures)
    (regs_are c.args.net.now c.open_same.new.net c.args.used.now c.word.result c.args.wanted.free c.args.wanted.ask c.args.wanted.here c.args.homes.now c.in_ok-keys.keys c.word.ensures.width c.word.ensures.bits o)

pub seek_key-requires-clause-homes : goal.seek_key-requires-clause-homes
seek_key-requires-clause-homes c = bits_opened c.args.net.now c.open_same.new.net c.args.homes.now c.in_ok-keys.ensures.grows c.requires.homes

pub drive_all-requires-clause-nexts : goal.drive_all-requires-clause-nexts
drive_all-requires-clause-nexts c =
    let o = subst (λ (n : ℕ). Opens c.args.net.now c.open_same.new.net (replicate n c.word.result) c.in_ok-keys.keys) c.len.ensures c.in_ok-keys.ensures in
    let seek = subst (λ (bs : List Bus). AddsSeek c.open_same.new.net c.seek_key.new.net c.args.used.now bs c.args.wanted.free c.args.wanted.ask c.args.wanted.here c.args.homes.now c.in_ok-seek.seek) c.as_slice.ensures c.in_ok-seek.ensures in
    subst (λ (bs : List Bus). MayDrive c.seek_key.new.net bs c.as_slice-3.result.now) (sym c.as_slice-2.ensures)
    (subst (λ (bs : List Bus). MayDrive c.seek_key.new.net c.in_ok-keys.keys bs) (sym c.as_slice-3.ensures)
    (keys_may c.args.net.now c.open_same.new.net c.args.used.now c.word.result c.args.wanted.free c.args.wanted.ask c.args.wanted.here c.args.homes.now c.in_ok-keys.keys c.word.ensures.width c.word.ensures.bits o c.seek_key.new.net c.in_ok-seek.seek seek))

pub returns : goal.returns
returns c =
    let o = subst (λ (n : ℕ). Opens c.args.net.now c.open_same.new.net (replicate n c.word.result) c.in_ok-keys.keys) c.len.ensures c.in_ok-keys.ensures in
    let seek = subst (λ (bs : List Bus). AddsSeek c.open_same.new.net c.seek_key.new.net c.args.used.now bs c.args.wanted.free c.args.wanted.ask c.args.wanted.here c.args.homes.now c.in_ok-seek.seek) c.as_slice.ensures c.in_ok-seek.ensures in
    let driven = subst (λ (bs : List Bus). DrivesAll c.seek_key.new.net c.drive_all.new.net c.in_ok-keys.keys bs) c.as_slice-3.ensures
    (subst (λ (bs : List Bus). DrivesAll c.seek_key.new.net c.drive_all.new.net bs c.as_slice-3.result.now) c.as_slice-2.ensures c.in_ok-drive_all.ensures) in
    keys_add c.args.net.now c.open_same.new.net c.args.used.now c.word.result c.args.wanted.free c.args.wanted.ask c.args.wanted.here c.args.homes.now c.in_ok-keys.keys c.word.ensures.width c.word.ensures.bits o c.seek_key.new.net c.in_ok-seek.seek seek
    c.drive_all.new.net driven
