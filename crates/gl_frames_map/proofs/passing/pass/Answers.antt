use Rattle.std.proofs.Common.{refl, sym, ◌∙◌}
use Rattle.std.specs.Prelude.{slice_index_or}
use Rattle.gl_net.specs.declared.node.Bus.{Bus}
use Rattle.gl_net.proofs.Determined.{keeps_then}
use Rattle.gl_wire.proofs.ColumnLemmas.{bus_kept}
use Rattle.gl_frames_map.proofs.PassNet.{bus_at, bus_there, bus_width, passing_is}
use Rattle.gl_frames_map.proofs.passing.pass.Goals as goal

pub put_near-requires-clause-next : goal.put_near-requires-clause-next
put_near-requires-clause-next c =
    let none : Bus = record { node = 0; width = 0 } in
    let after = c.in_ok-after.ensures in
    bus_kept c.later_wire.new.net c.later_wire-2.new.net _ c.in_ok-late.ensures.keeps
    (bus_there c.args.wire.now.columns c.in_ok-after.after.columns c.as_slice-2.result.now c.args.column none after.same_widths c.as_slice-2.ensures c.requires.column
    c.later_wire.new.net after.wire.columns)

pub put_near-requires-clause-last : goal.put_near-requires-clause-last
put_near-requires-clause-last c =
    let none : Bus = record { node = 0; width = 0 } in
    let late = c.in_ok-late.ensures in
    bus_there c.args.wire.now.columns c.in_ok-late.late.columns c.as_slice-3.result.now c.args.column none (late.same_widths ∙ c.in_ok-after.ensures.same_widths) c.as_slice-3.ensures c.requires.column
    c.later_wire-2.new.net late.wire.columns

pub put_near-requires-clause-widths : goal.put_near-requires-clause-widths
put_near-requires-clause-widths c =
    let none : Bus = record { node = 0; width = 0 } in
    let after = c.in_ok-after.ensures in
    let late = c.in_ok-late.ensures in
    bus_width c.args.wire.now.columns c.in_ok-after.after.columns c.as_slice-2.result.now c.args.column none after.same_widths c.as_slice-2.ensures c.requires.column
    ∙ sym (bus_width c.args.wire.now.columns c.in_ok-late.late.columns c.as_slice-3.result.now c.args.column none (late.same_widths ∙ after.same_widths) c.as_slice-3.ensures c.requires.column)

pub put_far-requires-clause-next : goal.put_far-requires-clause-next
put_far-requires-clause-next c =
    let none : Bus = record { node = 0; width = 0 } in
    let after = c.in_ok-after.ensures in
    bus_kept c.later_wire.new.net c.put_near.new.net _ (keeps_then c.later_wire.new.net c.later_wire-2.new.net c.put_near.new.net c.in_ok-late.ensures.keeps c.in_ok-near.ensures.keeps)
    (bus_there c.args.wire.now.columns c.in_ok-after.after.columns c.as_slice-2.result.now c.args.column none after.same_widths c.as_slice-2.ensures c.requires.column
    c.later_wire.new.net after.wire.columns)

pub put_far-requires-clause-last : goal.put_far-requires-clause-last
put_far-requires-clause-last c =
    let none : Bus = record { node = 0; width = 0 } in
    let late = c.in_ok-late.ensures in
    bus_kept c.later_wire-2.new.net c.put_near.new.net _ c.in_ok-near.ensures.keeps
    (bus_there c.args.wire.now.columns c.in_ok-late.late.columns c.as_slice-3.result.now c.args.column none (late.same_widths ∙ c.in_ok-after.ensures.same_widths) c.as_slice-3.ensures c.requires.column
    c.later_wire-2.new.net late.wire.columns)

pub put_far-requires-clause-widths : goal.put_far-requires-clause-widths
put_far-requires-clause-widths c =
    let none : Bus = record { node = 0; width = 0 } in
    let after = c.in_ok-after.ensures in
    let late = c.in_ok-late.ensures in
    bus_width c.args.wire.now.columns c.in_ok-after.after.columns c.as_slice-2.result.now c.args.column none after.same_widths c.as_slice-2.ensures c.requires.column
    ∙ sym (bus_width c.args.wire.now.columns c.in_ok-late.late.columns c.as_slice-3.result.now c.args.column none (late.same_widths ∙ after.same_widths) c.as_slice-3.ensures c.requires.column)

pub returns : goal.returns
returns c =
    let none : Bus = record { node = 0; width = 0 } in
    let source = c.args.wire.now.columns in
    let after = c.in_ok-after.ensures in
    let late = c.in_ok-late.ensures in
    passing_is c.args.net.now c.later_wire.new.net c.later_wire-2.new.net c.put_near.new.net c.put_far.new.net c.args.wire.now c.in_ok-after.after c.in_ok-late.late c.args.column
    (slice_index_or c.as_slice.result.now c.args.column none) (slice_index_or c.as_slice-2.result.now c.args.column none) (slice_index_or c.as_slice-3.result.now c.args.column none)
    c.in_ok-near.near c.in_ok-far.far
    (bus_at source source c.as_slice.result.now c.args.column none refl c.as_slice.ensures c.requires.column)
    (bus_at source c.in_ok-after.after.columns c.as_slice-2.result.now c.args.column none after.same_widths c.as_slice-2.ensures c.requires.column)
    (bus_at source c.in_ok-late.late.columns c.as_slice-3.result.now c.args.column none (late.same_widths ∙ after.same_widths) c.as_slice-3.ensures c.requires.column)
    c.requires.wire after late c.in_ok-near.ensures c.in_ok-far.ensures
