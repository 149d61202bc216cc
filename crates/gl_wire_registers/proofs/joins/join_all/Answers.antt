use Rattle.std.proofs.Common.{◌≡◌, Some, ◌∙◌}
use Rattle.std.specs.Prelude.{slice_get, slice_index_or}
use Rattle.std.proofs.lemmas.Option.{slice_get-get_or}
use Rattle.gl_wire.specs.declared.emitted.Emitted.{Emitted}
use Rattle.gl_wire_registers.proofs.JoinLemmas.{columns_there, joins_all, wires_there}
use Rattle.gl_wire_registers.proofs.joins.join_all.Goals as goal

pub join_copies-requires-clause-wires : goal.join_copies-requires-clause-wires
join_copies-requires-clause-wires c =
    let e : Emitted = slice_index_or c.args.copies.now 0 c.index-copies-0.result in
    let has : slice_get c.args.copies.now 0 ≡ Some e = slice_get-get_or _ _ _ c.requires.some_copy in
    wires_there c.args.net.now c.join_lines.new.net c.args.copies.now e c.as_slice.result.now c.as_slice-columns.result.now c.in_ok-faults.ensures.keeps c.requires.copies has
    (c.as_slice.ensures ∙ c.in_ok-wires.ensures) c.as_slice-columns.ensures

pub join_copies-requires-clause-columns : goal.join_copies-requires-clause-columns
join_copies-requires-clause-columns c =
    let e : Emitted = slice_index_or c.args.copies.now 0 c.index-copies-0.result in
    let has : slice_get c.args.copies.now 0 ≡ Some e = slice_get-get_or _ _ _ c.requires.some_copy in
    columns_there c.args.net.now c.join_lines.new.net c.args.copies.now e c.as_slice-columns.result.now c.in_ok-faults.ensures.keeps c.requires.copies has c.as_slice-columns.ensures

pub returns : goal.returns
returns c =
    let e : Emitted = slice_index_or c.args.copies.now 0 c.index-copies-0.result in
    let has : slice_get c.args.copies.now 0 ≡ Some e = slice_get-get_or _ _ _ c.requires.some_copy in
    joins_all c.args.net.now c.join_lines.new.net c.join_copies.new.net c.args.source c.in_ok-faults.faults c.args.close c.args.copies.now e c.as_slice.result.now c.as_slice-columns.result.now
    c.in_ok-wire.wire has (c.as_slice.ensures ∙ c.in_ok-wires.ensures) c.as_slice-columns.ensures c.in_ok-faults.ensures c.in_ok-wire.ensures
