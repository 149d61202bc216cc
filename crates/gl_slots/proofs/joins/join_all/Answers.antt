use Rattle.std.proofs.Common.{◌≡◌, List, ◌∷◌, Some, ap, sym, subst, arith, ◌∙◌, ◌<◌, length}
use Rattle.std.specs.Prelude.{slice_get, slice_index_or}
use Rattle.std.proofs.lemmas.Option.{slice_get-get_or}
use Rattle.gl_net.specs.declared.node.Bus.{Bus}
use Rattle.gl_wire.specs.declared.emitted.Emitted.{Emitted}
use Rattle.gl_wire.specs.declared.wire.Wire.{Wire}
use Rattle.gl_slots.specs.Joins.{AreKeyBuses, AreKeyed, JoinsAll}
use Rattle.gl_slots.proofs.JoinLemmas.{columns_there, joins_all, wires_there}
use Rattle.gl_slots.proofs.joins.join_all.Goals as goal

pub join_copies-requires-clause-wires : goal.join_copies-requires-clause-wires
join_copies-requires-clause-wires c =
    let e : Emitted = slice_index_or c.args.copies.now 0 c.index-copies-0.result in
    let same_count : length c.as_slice-keys.result.now ≡ length c.args.copies.now = ap (λ (bs : List Bus). length bs) c.as_slice-keys.ensures ∙ c.requires.keys_count in
    let b : Bus = slice_index_or c.as_slice-keys.result.now 0 (record { node = 0; width = 0 }) in
    let has : slice_get c.args.copies.now 0 ≡ Some e = slice_get-get_or _ _ _ c.requires.some_copy in
    let more : 0 < length c.as_slice-keys.result.now = omega (arith, c.requires.some_copy, same_count) in
    let has_key : slice_get c.as_slice-keys.result.now 0 ≡ Some b = slice_get-get_or _ _ _ more in
    let is_bs : c.as_slice-3.result.now ≡ b ∷ e.wire.columns = c.as_slice-3.ensures ∙ c.in_ok-columns.ensures ∙ ap (λ (l : List Bus). b ∷ l) c.as_slice.ensures in
    let keyed = subst (λ (x : List Wire). AreKeyed c.args.copies.now c.as_slice-keys.result.now (length c.args.copies.now) x) (sym c.as_slice-2.ensures) c.in_ok-wires.ensures in
    wires_there c.args.copies.now c.as_slice-keys.result.now c.as_slice-3.result.now e b has has_key is_bs c.as_slice-2.result.now same_count keyed c.args.net.now c.join_faults.new.net c.in_ok-faults.ensures.keeps
    c.requires.copies (subst (AreKeyBuses c.args.net.now) (sym c.as_slice-keys.ensures) c.requires.keys)

pub join_copies-requires-clause-columns : goal.join_copies-requires-clause-columns
join_copies-requires-clause-columns c =
    let e : Emitted = slice_index_or c.args.copies.now 0 c.index-copies-0.result in
    let same_count : length c.as_slice-keys.result.now ≡ length c.args.copies.now = ap (λ (bs : List Bus). length bs) c.as_slice-keys.ensures ∙ c.requires.keys_count in
    let b : Bus = slice_index_or c.as_slice-keys.result.now 0 (record { node = 0; width = 0 }) in
    let has : slice_get c.args.copies.now 0 ≡ Some e = slice_get-get_or _ _ _ c.requires.some_copy in
    let more : 0 < length c.as_slice-keys.result.now = omega (arith, c.requires.some_copy, same_count) in
    let has_key : slice_get c.as_slice-keys.result.now 0 ≡ Some b = slice_get-get_or _ _ _ more in
    let is_bs : c.as_slice-3.result.now ≡ b ∷ e.wire.columns = c.as_slice-3.ensures ∙ c.in_ok-columns.ensures ∙ ap (λ (l : List Bus). b ∷ l) c.as_slice.ensures in
    columns_there c.args.copies.now c.as_slice-keys.result.now c.as_slice-3.result.now e b has has_key is_bs c.args.net.now c.join_faults.new.net c.in_ok-faults.ensures.keeps c.requires.copies (subst (AreKeyBuses c.args.net.now) (sym c.as_slice-keys.ensures) c.requires.keys)

pub returns : goal.returns
returns c =
    let e : Emitted = slice_index_or c.args.copies.now 0 c.index-copies-0.result in
    let same_count : length c.as_slice-keys.result.now ≡ length c.args.copies.now = ap (λ (bs : List Bus). length bs) c.as_slice-keys.ensures ∙ c.requires.keys_count in
    let b : Bus = slice_index_or c.as_slice-keys.result.now 0 (record { node = 0; width = 0 }) in
    let has : slice_get c.args.copies.now 0 ≡ Some e = slice_get-get_or _ _ _ c.requires.some_copy in
    let more : 0 < length c.as_slice-keys.result.now = omega (arith, c.requires.some_copy, same_count) in
    let has_key : slice_get c.as_slice-keys.result.now 0 ≡ Some b = slice_get-get_or _ _ _ more in
    let is_bs : c.as_slice-3.result.now ≡ b ∷ e.wire.columns = c.as_slice-3.ensures ∙ c.in_ok-columns.ensures ∙ ap (λ (l : List Bus). b ∷ l) c.as_slice.ensures in
    let keyed = subst (λ (x : List Wire). AreKeyed c.args.copies.now c.as_slice-keys.result.now (length c.args.copies.now) x) (sym c.as_slice-2.ensures) c.in_ok-wires.ensures in
    subst (λ (x : List Bus). JoinsAll c.args.net.now c.join_copies.new.net c.args.front.now.source.faults c.args.front.now.further c.args.front.now.close x c.args.copies.now (record { wire = c.in_ok-wire.wire; faults = c.in_ok-faults.faults })) c.as_slice-keys.ensures
    (joins_all c.args.copies.now c.as_slice-keys.result.now c.as_slice-3.result.now e b has has_key is_bs c.as_slice-2.result.now same_count keyed c.args.net.now c.join_faults.new.net c.join_copies.new.net
    c.args.front.now.source.faults c.in_ok-faults.faults c.args.front.now.further c.args.front.now.close c.in_ok-wire.wire c.in_ok-faults.ensures c.in_ok-wire.ensures)
