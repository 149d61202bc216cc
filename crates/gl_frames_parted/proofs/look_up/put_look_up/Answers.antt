use Rattle.std.proofs.Common.{◌≤◌, ◌^◌, ap, arith, sym, subst, ◌∙◌}
use Rattle.std.specs.Prelude.{slice_index}
use Rattle.gl_bits.specs.Words.{IsWidth}
use Rattle.gl_frames_lanes.specs.LaneNets.{IsKeyLaneIn}
use Rattle.gl_frames_lanes.specs.declared.lane.Keys.{Keys}
use Rattle.gl_frames_map.specs.MapNets.{IsMapLaneIn}
use Rattle.gl_frames_tree.specs.TreeNets.{IsTreeLaneIn}
use Rattle.gl_wire.specs.Wire.{widths}
use Rattle.gl_frames_parted.proofs.LookUpLemmas.{by_map, by_slots, by_tree, map_narrow}
use Rattle.gl_frames_parted.proofs.PartedLemmas.{slot_few, slot_width, slots_fit}
use Rattle.gl_frames_parted.proofs.look_up.put_look_up.Goals as goal

pub put_map_lane-requires-clause-narrow : goal.put_map_lane-requires-clause-narrow
put_map_lane-requires-clause-narrow c =
    let columns = widths c.args.wire.now.columns in
    subst (λ (k : Keys). slice_index columns k.column ≤ 32) (sym c.keys_by-keys.ensures)
    (map_narrow c.args.kinds.now c.args.by columns c.requires.key.0 c.requires.kinds (sym c.has_map.ensures ∙ c.if-has_map.true))

pub put_map_lane-requires-clause-width : goal.put_map_lane-requires-clause-width
put_map_lane-requires-clause-width c = subst (λ (k : Keys). IsWidth k.width) (sym c.keys_by-keys.ensures) (slot_width c.args.by.groups c.requires.key.1.most)

pub put_map_lane-requires-clause-few : goal.put_map_lane-requires-clause-few
put_map_lane-requires-clause-few c =
    let few = slot_few c.args.by.groups c.requires.key.1.most in
    let same = ap (λ (k : Keys). k.width) c.keys_by-keys.ensures in
    omega (arith, few, same)

pub put_map_lane-requires-clause-fits : goal.put_map_lane-requires-clause-fits
put_map_lane-requires-clause-fits c = subst (λ (k : Keys). k.groups ≤ 2 ^ k.width) (sym c.keys_by-keys.ensures) (slots_fit c.args.by.groups)

pub put_tree_lane-requires-clause-width : goal.put_tree_lane-requires-clause-width
put_tree_lane-requires-clause-width c = subst (λ (k : Keys). IsWidth k.width) (sym c.keys_by-keys.ensures) (slot_width c.args.by.groups c.requires.key.1.most)

pub put_tree_lane-requires-clause-few : goal.put_tree_lane-requires-clause-few
put_tree_lane-requires-clause-few c =
    let few = slot_few c.args.by.groups c.requires.key.1.most in
    let same = ap (λ (k : Keys). k.width) c.keys_by-keys.ensures in
    omega (arith, few, same)

pub put_tree_lane-requires-clause-fits : goal.put_tree_lane-requires-clause-fits
put_tree_lane-requires-clause-fits c = subst (λ (k : Keys). k.groups ≤ 2 ^ k.width) (sym c.keys_by-keys.ensures) (slots_fit c.args.by.groups)

pub put_key_lane-requires-clause-width : goal.put_key_lane-requires-clause-width
put_key_lane-requires-clause-width c = subst (λ (k : Keys). IsWidth k.width) (sym c.keys_by-keys.ensures) (slot_width c.args.by.groups c.requires.key.1.most)

pub put_key_lane-requires-clause-few : goal.put_key_lane-requires-clause-few
put_key_lane-requires-clause-few c =
    let few = slot_few c.args.by.groups c.requires.key.1.most in
    let same = ap (λ (k : Keys). k.width) c.keys_by-keys.ensures in
    omega (arith, few, same)

pub put_key_lane-requires-clause-fits : goal.put_key_lane-requires-clause-fits
put_key_lane-requires-clause-fits c = subst (λ (k : Keys). k.groups ≤ 2 ^ k.width) (sym c.keys_by-keys.ensures) (slots_fit c.args.by.groups)

pub returns-then-has_map : goal.returns-then-has_map
returns-then-has_map c =
    by_map c.args.kinds.now c.args.by c.args.wire.now c.requires.kinds c.args.net.now c.put_map_lane.new.net c.in_ok-lane.lane (sym c.has_map.ensures ∙ c.if-has_map.true)
    (subst (λ (k : Keys). IsMapLaneIn c.args.net.now c.put_map_lane.new.net k c.args.wire.now c.in_ok-lane.lane) c.keys_by-keys.ensures c.in_ok-lane.ensures)

pub returns-then-has_tree : goal.returns-then-has_tree
returns-then-has_tree c =
    by_tree c.args.kinds.now c.args.by c.args.wire.now c.requires.kinds c.args.net.now c.put_tree_lane.new.net c.in_ok-lane-2.lane c.requires.key.0 (sym c.has_map.ensures ∙ c.if-has_map.false)
    (sym c.has_tree.ensures ∙ c.if-has_tree.true)
    (subst (λ (k : Keys). IsTreeLaneIn c.args.net.now c.put_tree_lane.new.net k c.args.wire.now c.in_ok-lane-2.lane) c.keys_by-keys.ensures c.in_ok-lane-2.ensures)

pub returns : goal.returns
returns c =
    by_slots c.args.kinds.now c.args.by c.args.wire.now c.requires.kinds c.args.net.now c.put_key_lane.new.net c.in_ok-lane-3.lane (sym c.has_map.ensures ∙ c.if-has_map.false)
    (sym c.has_tree.ensures ∙ c.if-has_tree.false)
    (subst (λ (k : Keys). IsKeyLaneIn c.args.net.now c.put_key_lane.new.net k c.args.wire.now c.in_ok-lane-3.lane) c.keys_by-keys.ensures c.in_ok-lane-3.ensures)
