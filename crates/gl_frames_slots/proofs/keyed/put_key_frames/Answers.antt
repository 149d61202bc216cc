use Rattle.std.proofs.Common.{arith, ap, ◌∙◌}
use Rattle.gl_net.proofs.Determined.{keeps_then}
use Rattle.gl_rows.proofs.MadeLemmas.{words_kept}
use Rattle.gl_wire.proofs.ColumnLemmas.{bit_kept, wire_kept}
use Rattle.gl_wire.specs.Costs.{Cost}
use Rattle.gl_frames_slots.specs.KeyNets.{cost_of_key_items, items_delay}
use Rattle.gl_frames_slots.proofs.KeyNet.{ends, frames_are, told}
use Rattle.gl_frames_slots.proofs.keyed.put_key_frames.Goals as goal

pub put_key_items-requires-clause-words : goal.put_key_items-requires-clause-words
put_key_items-requires-clause-words c = words_kept c.args.net.now c.put_key_rows.new.net c.args.scope.words.now c.in_ok-late.ensures.keeps c.requires.words

pub put_late_line-requires-clause-line : goal.put_late_line-requires-clause-line
put_late_line-requires-clause-line c =
    bit_kept c.args.net.now c.put_key_items.new.net c.args.lane.now.further
    (keeps_then c.args.net.now c.put_key_rows.new.net c.put_key_items.new.net c.in_ok-late.ensures.keeps c.in_ok-out.ensures.keeps) c.requires.further

pub returns : goal.returns
returns c =
    let late = c.in_ok-late.ensures in
    let out = c.in_ok-out.ensures in
    let line = c.in_ok-further.ensures in
    let kinds = c.args.scope.kinds.now in
    let items = c.args.items.now in
    let keys = c.args.partition.keys in
    let wait = c.args.partition.wait in
    let items_net = c.put_key_items.new.net in
    let new = c.put_late_line.new.net in
    let l = c.args.lane.now in
    let r = c.in_ok-late.late in
    let slot = late.same_width ∙ c.requires.slot_width in
    let most = ap (λ w. cost_of_key_items w c.args.partition.bits kinds (items_delay wait kinds items) items) slot in
    record {
      keeps = keeps_then c.args.net.now items_net new (keeps_then c.args.net.now c.put_key_rows.new.net items_net late.keeps out.keeps) line.keeps;
      cost = record {
        nodes = omega (arith, late.cost.nodes, out.cost.nodes, line.cost.nodes, ap (λ (k : Cost). k.nodes) most);
        registers = omega (arith, late.cost.registers, out.cost.registers, line.cost.registers, c.requires.slot_width, ap (λ (k : Cost). k.registers) most);
        memories = omega (arith, late.cost.memories, out.cost.memories, line.cost.memories, ap (λ (k : Cost). k.memories) most);
      };
      wire = wire_kept items_net new c.in_ok-out.out line.keeps out.wire;
      same_widths = out.same_widths;
      further = line.bit;
      law = λ run z cycles source some is_lane.
          let at_items = line.keeps.runs run z in
          let at_late = out.keeps.runs run at_items in
          let is_late = late.law run at_late in
          frames_are run cycles some keys source l r is_lane late.same_line late.same_begins late.same_next is_late wait kinds items c.in_ok-out.out
          c.in_ok-further.further
          (out.law run at_items (ends run cycles some keys source l r is_lane late.same_line late.same_begins late.same_next is_late) (told run cycles some keys source l r is_lane late.same_line late.same_begins late.same_next is_late))
          (line.line run z);
    }
