use Rattle.std.proofs.Common.{ap, subst, sym, ◌∙◌}
use Rattle.std.specs.Prelude.{slice_index, slice_index_or}
use Rattle.gl_net.specs.declared.node.Bus.{Bus}
use Rattle.gl_net.proofs.Determined.{keeps_then}
use Rattle.gl_wire.proofs.ColumnLemmas.{bit_kept, bus_kept, wire_kept}
use Rattle.gl_groups.specs.Lanes.{AddsLane}
use Rattle.gl_groups.proofs.LanesAre.{columns_as_many, lanes_are}
use Rattle.gl_slots.proofs.PartLemmas.{column_is, column_there, width_there}
use Rattle.gl_groups.proofs.lane.put_lane.Goals as goal

pub find_slots-requires-clause-asking : goal.find_slots-requires-clause-asking
find_slots-requires-clause-asking c =
    let late = c.in_ok-late.ensures in
    let k_end = keeps_then c.count_flush.new.net c.hold_end.new.net c.count_over.new.net c.in_ok-end.ensures.keeps c.in_ok-over.ensures.keeps in
    let k_late = keeps_then c.hold_wire.new.net c.count_flush.new.net c.count_over.new.net c.in_ok-flush.ensures.keeps k_end in
    let k_all = keeps_then c.args.net.now c.hold_wire.new.net c.count_over.new.net late.keeps k_late in
    let many = columns_as_many c.args.wire.now.columns c.in_ok-late.late.columns c.args.numbers.key late.same_widths c.requires.key in
    let none : Bus = record { node = 0; width = 0 } in
    let last = column_is c.in_ok-late.late.columns c.as_slice.result.now c.args.numbers.key none c.as_slice.ensures many in
    let here = column_is c.args.wire.now.columns c.as_slice-2.result.now c.args.numbers.key none c.as_slice-2.ensures c.requires.key in
    record {
      free = bit_kept c.count_flush.new.net c.count_over.new.net c.in_ok-flush.flush.free k_end c.in_ok-flush.ensures.free;
      ask = bit_kept c.hold_wire.new.net c.count_over.new.net c.in_ok-late.late.valid k_late late.wire.valid;
      last = bus_kept c.hold_wire.new.net c.count_over.new.net _ k_late (column_there c.hold_wire.new.net c.in_ok-late.late.columns c.as_slice.result.now c.args.numbers.key none late.wire.columns c.as_slice.ensures many);
      come = bit_kept c.args.net.now c.count_over.new.net c.args.wire.now.valid k_all c.requires.wire.valid;
      here = bus_kept c.args.net.now c.count_over.new.net _ k_all (column_there c.args.net.now c.args.wire.now.columns c.as_slice-2.result.now c.args.numbers.key none c.requires.wire.columns c.as_slice-2.ensures c.requires.key);
      same_width = width_there c.args.wire.now.columns c.args.numbers.key _ here ∙ sym (ap (λ ws. slice_index ws c.args.numbers.key) late.same_widths) ∙ sym (width_there c.in_ok-late.late.columns c.args.numbers.key _ last);
    }

pub tell_lane-requires-clause-late : goal.tell_lane-requires-clause-late
tell_lane-requires-clause-late c =
    let k_over = keeps_then c.hold_end.new.net c.count_over.new.net c.find_slots.new.net c.in_ok-over.ensures.keeps c.in_ok-found.ensures.keeps in
    let k_end = keeps_then c.count_flush.new.net c.hold_end.new.net c.find_slots.new.net c.in_ok-end.ensures.keeps k_over in
    let k_late = keeps_then c.hold_wire.new.net c.count_flush.new.net c.find_slots.new.net c.in_ok-flush.ensures.keeps k_end in
    wire_kept c.hold_wire.new.net c.find_slots.new.net c.in_ok-late.late k_late c.in_ok-late.ensures.wire

pub tell_lane-requires-clause-turns : goal.tell_lane-requires-clause-turns
tell_lane-requires-clause-turns c =
    let found = c.in_ok-found.ensures in
    let k_over = keeps_then c.hold_end.new.net c.count_over.new.net c.find_slots.new.net c.in_ok-over.ensures.keeps found.keeps in
    let k_end = keeps_then c.count_flush.new.net c.hold_end.new.net c.find_slots.new.net c.in_ok-end.ensures.keeps k_over in
    record {
      due = bit_kept c.count_flush.new.net c.find_slots.new.net c.in_ok-flush.flush.due k_end c.in_ok-flush.ensures.due;
      with_end = bit_kept c.hold_end.new.net c.find_slots.new.net c.in_ok-end.end.with_end k_over c.in_ok-end.ensures.with_end_bit;
      held = bit_kept c.hold_end.new.net c.find_slots.new.net c.in_ok-end.end.held k_over c.in_ok-end.ensures.held_bit;
      over = bus_kept c.count_over.new.net c.find_slots.new.net c.in_ok-over.over.over found.keeps c.in_ok-over.ensures.over_bus;
    }

pub returns : goal.returns
returns c =
    let none : Bus = record { node = 0; width = 0 } in
    let many = columns_as_many c.args.wire.now.columns c.in_ok-late.late.columns c.args.numbers.key c.in_ok-late.ensures.same_widths c.requires.key in
    let lines = c.in_ok-lines.ensures in
    subst (AddsLane c.args.net.now c.tell_lane.new.net c.args.numbers.key c.args.numbers.slots c.args.numbers.stride c.args.numbers.width c.args.wire.now) (sym lines.lines)
    (lanes_are c.args.net.now c.hold_wire.new.net c.count_flush.new.net c.hold_end.new.net c.count_over.new.net c.find_slots.new.net c.tell_lane.new.net c.args.wire.now c.in_ok-late.late c.args.numbers.key c.args.numbers.slots c.args.numbers.stride c.args.numbers.width
    c.requires.count c.requires.stride c.requires.fits c.in_ok-flush.flush c.in_ok-end.end c.in_ok-over.over (slice_index_or c.as_slice.result.now c.args.numbers.key none) (slice_index_or c.as_slice-2.result.now c.args.numbers.key none)
    c.in_ok-found.found lines.told
    (column_is c.in_ok-late.late.columns c.as_slice.result.now c.args.numbers.key none c.as_slice.ensures many) (column_is c.args.wire.now.columns c.as_slice-2.result.now c.args.numbers.key none c.as_slice-2.ensures c.requires.key)
    c.in_ok-late.ensures c.in_ok-flush.ensures c.in_ok-end.ensures c.in_ok-over.ensures c.in_ok-found.ensures lines.adds)
