use Rattle.std.proofs.Common.{◌≡◌, Some}
use Rattle.std.specs.Prelude.{slice_get, slice_index_or}
use Rattle.gl_net.specs.declared.node.Bus.{Bus}
use Rattle.gl_wire.proofs.ColumnLemmas.{buses_kept}
use Rattle.gl_slots.proofs.PartLemmas.{column_is, column_there, lookup_is}
use Rattle.gl_slots.proofs.front.look_up.Goals as goal

pub returns : goal.returns
returns c =
    let here : Bus = slice_index_or c.as_slice.result.now c.args.key (record { node = 0; width = 0 }) in
    let has_here : slice_get c.args.wire.now.columns c.args.key ≡ Some here = column_is c.args.wire.now.columns c.as_slice.result.now c.args.key (record { node = 0; width = 0 }) c.as_slice.ensures c.requires.key in
    lookup_is c.args.net.now c.hold_all.new.net c.args.wire.now c.args.key c.in_ok-row.row here c.in_ok-row.ensures has_here
    (column_there c.hold_all.new.net c.args.wire.now.columns c.as_slice.result.now c.args.key (record { node = 0; width = 0 })
    (buses_kept c.args.net.now c.hold_all.new.net c.args.wire.now.columns c.in_ok-row.ensures.keeps c.requires.wire.columns) c.as_slice.ensures c.requires.key)
