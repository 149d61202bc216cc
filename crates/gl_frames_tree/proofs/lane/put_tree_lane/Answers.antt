use Rattle.std.proofs.Common.{ℕ, ◌+◌, ◌-◌, ◌*◌, ◌/◌, ◌^◌, ap, arith, length, refl, subst, ◌≡◌, ◌∙◌}
use Rattle.std.specs.Prelude.{slice_index, slice_index_or}
use Rattle.std.specs.List.{sum}
use Rattle.gl_net.specs.declared.node.Bus.{Bus}
use Rattle.gl_net.proofs.Determined.{keeps_then}
use Rattle.gl_wire.specs.Wire.{widths}
use Rattle.gl_wire.proofs.ColumnLemmas.{same_length}
use Rattle.gl_frames_lanes.specs.LaneNets.{IsLaneBehind}
use Rattle.gl_slots.proofs.PartLemmas.{column_is, column_there, width_there}
use Rattle.gl_frames_tree.specs.TreeNets.{IsClimb}
use Rattle.gl_frames_tree.proofs.RaiseNet.{levels_enough}
use Rattle.gl_frames_tree.proofs.TreeNet.{lane_is}
use Rattle.gl_frames_tree.proofs.lane.put_tree_lane.Goals as goal

pub put_levels-requires-clause-column : goal.put_levels-requires-clause-column
put_levels-requires-clause-column c = omega (arith, c.requires.column, same_length c.in_ok-root.root.wire.columns c.args.wire.now.columns c.in_ok-root.ensures.has.same_widths)

pub overflow_add-key : goal.overflow_add-key
overflow_add-key c =
    let none : Bus = record { node = 0; width = 0 } in
    let bus = column_there c.args.net.now c.args.wire.now.columns c.as_slice.result.now c.args.keys.column none c.requires.wire.columns c.as_slice.ensures c.requires.column in
    omega (arith, bus.width.most)

pub put_levels-requires-clause-levels : goal.put_levels-requires-clause-levels
put_levels-requires-clause-levels c =
    let none : Bus = record { node = 0; width = 0 } in
    let bus = column_there c.args.net.now c.args.wire.now.columns c.as_slice.result.now c.args.keys.column none c.requires.wire.columns c.as_slice.ensures c.requires.column in
    omega (arith, bus.width.most)

pub put_levels-requires-clause-root : goal.put_levels-requires-clause-root
put_levels-requires-clause-root c = record {
  wire = c.in_ok-root.ensures.has.wire;
  same_widths = refl;
  node = c.in_ok-root.ensures.has.node;
  node_width = c.in_ok-root.ensures.has.node_width;
  next = c.in_ok-root.ensures.has.next;
  next_width = c.in_ok-root.ensures.has.next_width;
  fresh = c.in_ok-root.ensures.has.fresh;
  lost = c.in_ok-root.ensures.has.lost;
}

pub returns : goal.returns
returns c = rw (c.note_bit.ensures, c.note_bus.ensures) (
    let none : Bus = record { node = 0; width = 0 } in
    let root = c.in_ok-root.ensures in
    let raised = c.in_ok-climb.ensures in
    let keys = c.args.keys in
    let source = c.args.wire.now in
    let key = slice_index_or c.as_slice.result.now keys.column none in
    let wide : key.width ≡ slice_index (widths source.columns) keys.column = width_there source.columns keys.column key (column_is source.columns c.as_slice.result.now keys.column none c.as_slice.ensures c.requires.column) in
    let levels = (key.width + 1) / 2 in
    let all : levels ≡ (slice_index (widths source.columns) keys.column + 1) / 2 = ap (λ (k : ℕ). (k + 1) / 2) wide in
    let count = ap length root.has.same_widths in
    let bits = ap sum root.has.same_widths in
    let nodes_are = ap (λ (x : ℕ). x * (length (widths c.in_ok-root.root.wire.columns) + 62)) all ∙ ap (λ (x : ℕ). (slice_index (widths source.columns) keys.column + 1) / 2 * (x + 62)) count in
    let registers_are = ap (λ (x : ℕ). x * (sum (widths c.in_ok-root.root.wire.columns) + keys.width * 6 + 9)) all
    ∙ ap (λ (x : ℕ). (slice_index (widths source.columns) keys.column + 1) / 2 * (x + keys.width * 6 + 9)) bits in
    let memories_are = ap (λ (x : ℕ). x * (2 ^ keys.width * (4 * (keys.width + 1)))) all in
    record {
      keeps = keeps_then c.args.net.now c.put_root.new.net c.put_levels.new.net root.keeps raised.keeps;
      cost = record {
        nodes = omega (arith, root.cost.nodes, raised.cost.nodes, nodes_are);
        registers = omega (arith, root.cost.registers, raised.cost.registers, registers_are);
        memories = omega (arith, root.cost.memories, raised.cost.memories, memories_are);
      };
      has = record {
        wire = raised.has.wire;
        same_widths = raised.has.same_widths ∙ root.has.same_widths;
        slot = raised.has.node;
        slot_width = raised.has.node_width;
        first = raised.has.fresh;
        further = raised.has.lost;
      };
      law = λ run r.
          let begun = root.law run (raised.keeps.runs run r) keys levels c.requires.some c.requires.column (omega (arith, levels_enough key.width, wide)) in
          let none_left : levels - levels ≡ 0 = omega arith in
          subst (λ (k : ℕ). IsLaneBehind k run keys source (record { wire = c.in_ok-climb.climb.wire; slot = c.in_ok-climb.climb.node; first = c.in_ok-climb.climb.fresh; further = c.in_ok-climb.climb.lost })) all
          (lane_is run keys source levels c.in_ok-climb.climb
          (subst (λ (k : ℕ). IsClimb levels k run keys source c.in_ok-climb.climb) none_left (raised.law run r source begun)));
    })
