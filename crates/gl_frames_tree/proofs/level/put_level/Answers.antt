use Rattle.std.proofs.Common.{arith}
use Rattle.std.specs.Prelude.{slice_index_or}
use Rattle.gl_net.specs.declared.node.Bus.{Bus}
use Rattle.gl_net.proofs.Determined.{keeps_then}
use Rattle.gl_wire.proofs.ColumnLemmas.{bit_kept, bus_kept, wire_kept}
use Rattle.gl_slots.proofs.PartLemmas.{column_is, column_there}
use Rattle.gl_frames_tree.proofs.ClimbNet.{climbs}
use Rattle.gl_frames_tree.proofs.level.put_level.Goals as goal

pub put_digit-requires-clause-key : goal.put_digit-requires-clause-key
put_digit-requires-clause-key c =
    let none : Bus = record { node = 0; width = 0 } in
    column_there c.args.net.now c.args.climb.now.wire.columns c.as_slice.result.now c.args.keys.column none c.requires.climb.wire.columns c.as_slice.ensures c.requires.column

pub count_children-requires-clause-stand : goal.count_children-requires-clause-stand
count_children-requires-clause-stand c =
    let k = c.in_ok-digit.ensures.keeps in
    let h = c.requires.climb in
    let climb = c.args.climb.now in
    record {
      valid = bit_kept c.args.net.now c.put_digit.new.net climb.wire.valid k h.wire.valid;
      ends = bit_kept c.args.net.now c.put_digit.new.net climb.wire.eos k h.wire.eos;
      fresh = bit_kept c.args.net.now c.put_digit.new.net climb.fresh k h.fresh;
      node = bus_kept c.args.net.now c.put_digit.new.net climb.node k h.node;
      node_width = h.node_width;
      next = bus_kept c.args.net.now c.put_digit.new.net climb.next k h.next;
      next_width = h.next_width;
      digit = c.in_ok-digit.ensures.has;
    }

pub put_stage-requires-clause-climb : goal.put_stage-requires-clause-climb
put_stage-requires-clause-climb c =
    let k = keeps_then c.args.net.now c.put_digit.new.net c.count_children.new.net c.in_ok-digit.ensures.keeps c.in_ok-told.ensures.keeps in
    let h = c.requires.climb in
    let climb = c.args.climb.now in
    record {
      wire = wire_kept c.args.net.now c.count_children.new.net climb.wire k h.wire;
      same_widths = h.same_widths;
      node = bus_kept c.args.net.now c.count_children.new.net climb.node k h.node;
      node_width = h.node_width;
      next = bus_kept c.args.net.now c.count_children.new.net climb.next k h.next;
      next_width = h.next_width;
      fresh = bit_kept c.args.net.now c.count_children.new.net climb.fresh k h.fresh;
      lost = bit_kept c.args.net.now c.count_children.new.net climb.lost k h.lost;
    }

pub put_stage-requires-clause-told : goal.put_stage-requires-clause-told
put_stage-requires-clause-told c = c.in_ok-told.ensures.has

pub returns : goal.returns
returns c =
    let none : Bus = record { node = 0; width = 0 } in
    let digit = c.in_ok-digit.ensures in
    let told = c.in_ok-told.ensures in
    let up = c.in_ok-up.ensures in
    let keys = c.args.keys in
    let climb = c.args.climb.now in
    let key = slice_index_or c.as_slice.result.now keys.column none in
    record {
      keeps = keeps_then c.args.net.now c.put_digit.new.net c.put_stage.new.net digit.keeps (keeps_then c.put_digit.new.net c.count_children.new.net c.put_stage.new.net told.keeps up.keeps);
      cost = record {
        nodes = omega (arith, digit.cost.nodes, told.cost.nodes, up.cost.nodes);
        registers = omega (arith, digit.cost.registers, told.cost.registers, up.cost.registers);
        memories = omega (arith, digit.cost.memories, told.cost.memories, up.cost.memories);
      };
      has = up.has;
      law = λ run r source levels h.
          let at_told = up.keeps.runs run r in
          let at_digit = told.keeps.runs run at_told in
          climbs run keys c.requires.width.some' c.requires.fits source levels c.args.rest climb c.in_ok-up.up c.in_ok-digit.digit c.in_ok-told.told key
          (column_is climb.wire.columns c.as_slice.result.now keys.column none c.as_slice.ensures c.requires.column)
          (digit.high run at_digit) (digit.low run at_digit) (told.law run at_told) (up.law run r) up.same_next h;
    }
