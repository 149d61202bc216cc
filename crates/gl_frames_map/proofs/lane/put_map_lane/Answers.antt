use Rattle.std.proofs.Common.{ℕ, arith, ap, length, subst, sym, ◌+◌, ◌*◌, ◌^◌, ◌∙◌}
use Rattle.std.specs.List.{sum}
use Rattle.gl_net.proofs.Determined.{keeps_then}
use Rattle.gl_wire.proofs.ColumnLemmas.{wire_kept}
use Rattle.gl_frames_map.specs.MapNets.{HasAsked}
use Rattle.gl_frames_map.proofs.MapNet.{lane_is}
use Rattle.gl_frames_map.proofs.lane.put_map_lane.Goals as goal

pub put_late-requires-clause-late : goal.put_late-requires-clause-late
put_late-requires-clause-late c =
    wire_kept c.pass.new.net c.count_keys.new.net c.in_ok-passing.passing.late c.in_ok-told.ensures.keeps c.in_ok-passing.ensures.late

pub count_keys-requires-clause-asked : goal.count_keys-requires-clause-asked
count_keys-requires-clause-asked c =
    subst (λ (w : ℕ). HasAsked c.pass.new.net w c.in_ok-passing.passing.asked) (sym c.in_ok-passing.ensures.asked.last_width) c.in_ok-passing.ensures.asked

pub count_keys-requires-clause-narrow : goal.count_keys-requires-clause-narrow
count_keys-requires-clause-narrow c = omega (arith, c.in_ok-passing.ensures.asked.last_width, c.requires.narrow)

pub put_late-requires-clause-row : goal.put_late-requires-clause-row
put_late-requires-clause-row c = c.in_ok-told.ensures.has.row

pub put_late-requires-clause-first : goal.put_late-requires-clause-first
put_late-requires-clause-first c = c.in_ok-told.ensures.has.first

pub put_late-requires-clause-further : goal.put_late-requires-clause-further
put_late-requires-clause-further c = c.in_ok-told.ensures.has.further

pub put_late-requires-clause-slot : goal.put_late-requires-clause-slot
put_late-requires-clause-slot c = c.in_ok-told.ensures.has.slot

pub returns : goal.returns
returns c =
    let pass = c.in_ok-passing.ensures in
    let told = c.in_ok-told.ensures in
    let lane = c.in_ok-lane.ensures in
    let keys = c.args.keys in
    let as_many = ap length pass.same_widths in
    let as_wide = ap sum pass.same_widths in
    let words = ap (λ (w : ℕ). 2 ^ w * keys.width + 2 ^ keys.width * w) pass.asked.last_width in
    record {
      keeps = keeps_then c.args.net.now c.pass.new.net c.put_late.new.net pass.keeps (keeps_then c.pass.new.net c.count_keys.new.net c.put_late.new.net told.keeps lane.keeps);
      cost = record {
        nodes = omega (arith, pass.cost.nodes, told.cost.nodes, lane.cost.nodes, as_many);
        registers = omega (arith, pass.cost.registers, told.cost.registers, lane.cost.registers, as_wide, pass.asked.last_width, told.has.slot_width);
        memories = omega (arith, pass.cost.memories, told.cost.memories, lane.cost.memories, words);
      };
      has = record {
        wire = lane.has.wire;
        same_widths = lane.has.same_widths ∙ pass.same_widths;
        slot = lane.has.slot;
        slot_width = lane.has.slot_width ∙ told.has.slot_width;
        first = lane.has.first;
        further = lane.has.further;
      };
      law = λ run r.
          let at_told = lane.keeps.runs run r in
          let at_pass = told.keeps.runs run at_told in
          lane_is run keys c.requires.width.some' c.requires.fits c.args.wire.now c.in_ok-passing.passing c.in_ok-told.told
          (pass.law run at_pass) pass.same_valid pass.same_ends (told.law run at_told) c.in_ok-lane.lane (lane.law run r);
    }
