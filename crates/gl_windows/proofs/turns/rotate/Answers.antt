use Rattle.std.proofs.Common.{◌≡◌, ℕ, ◌≤◌, ◌^◌, ◌++◌, List, [], ◌∷◌, subst, sym, ap, ◌∙◌, take, drop, Some}
use Rattle.std.specs.Prelude.{map, slice_index_or, slice_get}
use Rattle.gl_bits.specs.Words.{Word}
use Rattle.gl_net.specs.declared.node.Bit.{Bit}
use Rattle.gl_net.specs.declared.node.Bus.{Bus}
use Rattle.gl_wire_registers.specs.Lines.{AreBits, to_bit, to_bus}
use Rattle.gl_wire_registers.specs.Registers.{AreOpen, Opens, MayDrive, DrivesAll}
use Rattle.gl_windows.specs.Turns.{Turns, AddsRotation}
use Rattle.gl_windows.proofs.TurnLemmas.{oldest_at, flags_are, oldest_is, may_drive, rotation_adds}
use Rattle.gl_windows.proofs.turns.rotate.Goals as goal

pub take_turn-requires-clause-flags : goal.take_turn-requires-clause-flags
take_turn-requires-clause-flags c =
    let o = subst (λ (ws : List Word). Opens c.args.net.now c.open_all.new.net ws c.in_ok-registers.registers) (c.as_slice.ensures.value ∙ c.in_ok-resets.ensures) c.in_ok-registers.ensures in
    subst (AreBits c.open_all.new.net) (sym (c.from_vec-flags.ensures ∙ (c.in_ok-lines_of.ensures ∙ ap (map to_bit) (c.split_at.ensures.front ∙ ap (take c.args.count) c.as_slice-2.ensures)))) (flags_are c.args.net.now c.open_all.new.net c.args.count c.args.last c.args.first c.requires.some_copy c.requires.first c.word.result c.word-flag.result c.word-pointer.result c.in_ok-registers.registers c.args.moves.opened c.word.ensures.bits c.word.ensures.width (c.word-flag.ensures.bits ∙ c.from.ensures) c.word-flag.ensures.width (c.word-pointer.ensures.bits ∙ c.from-2.ensures) c.word-pointer.ensures.width o)

pub take_turn-requires-clause-oldest : goal.take_turn-requires-clause-oldest
take_turn-requires-clause-oldest c =
    let o = subst (λ (ws : List Word). Opens c.args.net.now c.open_all.new.net ws c.in_ok-registers.registers) (c.as_slice.ensures.value ∙ c.in_ok-resets.ensures) c.in_ok-registers.ensures in
    let old : Bus = slice_index_or c.split_at.result.1.now 0 (record { node = 0; width = 0 }) in
    let has : slice_get c.in_ok-registers.registers c.args.count ≡ Some old = oldest_at c.args.net.now c.open_all.new.net c.args.count c.word.result c.word-flag.result c.word-pointer.result c.in_ok-registers.registers c.split_at.result.1.now (record { node = 0; width = 0 }) c.requires.some_copy o (c.split_at.ensures.back ∙ ap (drop c.args.count) c.as_slice-2.ensures) in
    (oldest_is c.args.net.now c.open_all.new.net c.args.count c.args.last c.args.first c.requires.some_copy c.requires.first c.word.result c.word-flag.result c.word-pointer.result c.in_ok-registers.registers c.args.moves.opened c.word.ensures.bits c.word.ensures.width (c.word-flag.ensures.bits ∙ c.from.ensures) c.word-flag.ensures.width (c.word-pointer.ensures.bits ∙ c.from-2.ensures) c.word-pointer.ensures.width o old has).0

pub take_turn-requires-clause-oldest_fits : goal.take_turn-requires-clause-oldest_fits
take_turn-requires-clause-oldest_fits c =
    let o = subst (λ (ws : List Word). Opens c.args.net.now c.open_all.new.net ws c.in_ok-registers.registers) (c.as_slice.ensures.value ∙ c.in_ok-resets.ensures) c.in_ok-registers.ensures in
    let old : Bus = slice_index_or c.split_at.result.1.now 0 (record { node = 0; width = 0 }) in
    let has : slice_get c.in_ok-registers.registers c.args.count ≡ Some old = oldest_at c.args.net.now c.open_all.new.net c.args.count c.word.result c.word-flag.result c.word-pointer.result c.in_ok-registers.registers c.split_at.result.1.now (record { node = 0; width = 0 }) c.requires.some_copy o (c.split_at.ensures.back ∙ ap (drop c.args.count) c.as_slice-2.ensures) in
    subst (λ (n : ℕ). c.args.count ≤ 2 ^ n) (sym ((oldest_is c.args.net.now c.open_all.new.net c.args.count c.args.last c.args.first c.requires.some_copy c.requires.first c.word.result c.word-flag.result c.word-pointer.result c.in_ok-registers.registers c.args.moves.opened c.word.ensures.bits c.word.ensures.width (c.word-flag.ensures.bits ∙ c.from.ensures) c.word-flag.ensures.width (c.word-pointer.ensures.bits ∙ c.from-2.ensures) c.word-pointer.ensures.width o old has).1)) c.requires.opened_fits

pub drive_all-requires-clause-open : goal.drive_all-requires-clause-open
drive_all-requires-clause-open c =
    subst (AreOpen c.take_turn.new.net) (sym c.as_slice-4.ensures)
    (record { undriven = λ k b e. c.in_ok-turn.ensures.keeps.undriven b.node ∙ c.in_ok-registers.ensures.still.undriven k b e; apart = c.in_ok-registers.ensures.still.apart })

pub drive_all-requires-clause-nexts : goal.drive_all-requires-clause-nexts
drive_all-requires-clause-nexts c =
    let o = subst (λ (ws : List Word). Opens c.args.net.now c.open_all.new.net ws c.in_ok-registers.registers) (c.as_slice.ensures.value ∙ c.in_ok-resets.ensures) c.in_ok-registers.ensures in
    let old : Bus = slice_index_or c.split_at.result.1.now 0 (record { node = 0; width = 0 }) in
    let has : slice_get c.in_ok-registers.registers c.args.count ≡ Some old = oldest_at c.args.net.now c.open_all.new.net c.args.count c.word.result c.word-flag.result c.word-pointer.result c.in_ok-registers.registers c.split_at.result.1.now (record { node = 0; width = 0 }) c.requires.some_copy o (c.split_at.ensures.back ∙ ap (drop c.args.count) c.as_slice-2.ensures) in
    let turns = subst (λ (fs : List Bit). Turns c.open_all.new.net c.take_turn.new.net c.args.count c.args.moves.opens c.args.moves.opened c.args.moves.trigger fs old c.in_ok-turn.turn) (c.from_vec-flags.ensures ∙ (c.in_ok-lines_of.ensures ∙ ap (map to_bit) (c.split_at.ensures.front ∙ ap (take c.args.count) c.as_slice-2.ensures))) c.in_ok-turn.ensures in
    subst (λ (bs : List Bus). MayDrive c.take_turn.new.net bs c.as_slice-5.result.now) (sym c.as_slice-4.ensures) (subst (λ (ns : List Bus). MayDrive c.take_turn.new.net c.in_ok-registers.registers ns) (sym (c.as_slice-5.ensures ∙ c.in_ok-nexts.ensures ∙ ap (λ (xs : List Bit). map to_bus xs ++ c.in_ok-turn.turn.next ∷ []) c.as_slice-3.ensures)) (may_drive c.args.net.now c.open_all.new.net c.args.count c.args.last c.args.first c.requires.some_copy c.requires.first c.word.result c.word-flag.result c.word-pointer.result c.in_ok-registers.registers c.args.moves.opened c.word.ensures.bits c.word.ensures.width (c.word-flag.ensures.bits ∙ c.from.ensures) c.word-flag.ensures.width (c.word-pointer.ensures.bits ∙ c.from-2.ensures) c.word-pointer.ensures.width o c.take_turn.new.net c.args.moves.opens c.args.moves.trigger old c.in_ok-turn.turn has turns))

pub returns : goal.returns
returns c = rw c.note_open.ensures (
    let o = subst (λ (ws : List Word). Opens c.args.net.now c.open_all.new.net ws c.in_ok-registers.registers) (c.as_slice.ensures.value ∙ c.in_ok-resets.ensures) c.in_ok-registers.ensures in
    let old : Bus = slice_index_or c.split_at.result.1.now 0 (record { node = 0; width = 0 }) in
    let has : slice_get c.in_ok-registers.registers c.args.count ≡ Some old = oldest_at c.args.net.now c.open_all.new.net c.args.count c.word.result c.word-flag.result c.word-pointer.result c.in_ok-registers.registers c.split_at.result.1.now (record { node = 0; width = 0 }) c.requires.some_copy o (c.split_at.ensures.back ∙ ap (drop c.args.count) c.as_slice-2.ensures) in
    let turns = subst (λ (fs : List Bit). Turns c.open_all.new.net c.take_turn.new.net c.args.count c.args.moves.opens c.args.moves.opened c.args.moves.trigger fs old c.in_ok-turn.turn) (c.from_vec-flags.ensures ∙ (c.in_ok-lines_of.ensures ∙ ap (map to_bit) (c.split_at.ensures.front ∙ ap (take c.args.count) c.as_slice-2.ensures))) c.in_ok-turn.ensures in
    let d = subst (λ (ns : List Bus). DrivesAll c.take_turn.new.net c.drive_all.new.net c.in_ok-registers.registers ns) (c.as_slice-5.ensures ∙ c.in_ok-nexts.ensures ∙ ap (λ (xs : List Bit). map to_bus xs ++ c.in_ok-turn.turn.next ∷ []) c.as_slice-3.ensures) (subst (λ (bs : List Bus). DrivesAll c.take_turn.new.net c.drive_all.new.net bs c.as_slice-5.result.now) c.as_slice-4.ensures c.in_ok-drive_all.ensures) in
    subst (λ (fs : List Bit). AddsRotation c.args.net.now c.drive_all.new.net c.args.count c.args.last c.args.first c.args.moves.opens c.args.moves.opened c.args.moves.trigger (record { flags = fs; oldest = old; mids = c.in_ok-turn.turn.mids; ends = c.in_ok-turn.turn.ends })) (sym (c.from_vec-flags.ensures ∙ (c.in_ok-lines_of.ensures ∙ ap (map to_bit) (c.split_at.ensures.front ∙ ap (take c.args.count) c.as_slice-2.ensures)))) (rotation_adds c.args.net.now c.open_all.new.net c.args.count c.args.last c.args.first c.requires.some_copy c.requires.first c.word.result c.word-flag.result c.word-pointer.result c.in_ok-registers.registers c.args.moves.opened c.word.ensures.bits c.word.ensures.width (c.word-flag.ensures.bits ∙ c.from.ensures) c.word-flag.ensures.width (c.word-pointer.ensures.bits ∙ c.from-2.ensures) c.word-pointer.ensures.width o c.take_turn.new.net c.args.moves.opens c.args.moves.trigger old c.in_ok-turn.turn has turns c.drive_all.new.net d))
