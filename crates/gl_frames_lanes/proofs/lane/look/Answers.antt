use Rattle.std.specs.Prelude.{slice_index_or}
use Rattle.gl_net.specs.declared.node.Bus.{Bus}
use Rattle.gl_wire.proofs.ColumnLemmas.{bus_kept}
use Rattle.gl_slots.proofs.PartLemmas.{column_is, column_there}
use Rattle.gl_frames_lanes.proofs.LookNet.{looking_is}
use Rattle.gl_frames_lanes.proofs.lane.look.Goals as goal

pub hold-requires-clause-bus : goal.hold-requires-clause-bus
hold-requires-clause-bus c =
    let none : Bus = record { node = 0; width = 0 } in
    bus_kept c.args.net.now c.later_wire.new.net _ c.in_ok-late.ensures.keeps
    (column_there c.args.net.now c.args.wire.now.columns c.as_slice.result.now c.args.column none c.requires.wire.columns c.as_slice.ensures c.requires.column)

pub returns : goal.returns
returns c =
    let none : Bus = record { node = 0; width = 0 } in
    looking_is c.args.net.now c.later_wire.new.net c.hold.new.net c.later_bit.new.net c.args.wire.now c.in_ok-late.late c.args.column
    (slice_index_or c.as_slice.result.now c.args.column none) c.in_ok-last.last c.in_ok-free.free
    (column_is c.args.wire.now.columns c.as_slice.result.now c.args.column none c.as_slice.ensures c.requires.column)
    c.requires.wire c.in_ok-late.ensures c.in_ok-last.ensures c.in_ok-free.ensures
