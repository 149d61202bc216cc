use Rattle.std.proofs.Common.{◌≡◌, ℕ, ◌+◌, ◌-◌, List, ap, arith, sym, subst}
use Rattle.std.specs.Prelude.{All}
use Rattle.gl_net.specs.declared.node.Bus.{Bus}
use Rattle.gl_net.proofs.Determined.{keeps_then}
use Rattle.gl_algebra.specs.Results.{row_of_frames}
use Rattle.gl_wire.specs.Wire.{row_at}
use Rattle.gl_wire.proofs.ColumnLemmas.{bit_kept, bus_kept, wire_kept}
use Rattle.gl_rows.specs.Made.{IsSource}
use Rattle.gl_rows.proofs.MadeLemmas.{words_kept}
use Rattle.gl_rows.specs.declared.operand.Source.{Source}
use Rattle.gl_frames_stages.specs.DelayNets.{AreLinesLate}
use Rattle.gl_frames_stages.specs.declared.lines.Lines.{Lines}
use Rattle.gl_frames_stages.proofs.CycleLemmas.{items_few}
use Rattle.gl_frames_stages.proofs.FramesNet.{frames_delayed}
use Rattle.gl_frames_slots.specs.Items.{AreSlotItemsIn, IsSlotItem}
use Rattle.gl_frames_slots.specs.KeyNets.{items_delay}
use Rattle.gl_frames_slots.specs.declared.items.SlotInput.{SlotInput}
use Rattle.gl_frames_slots.specs.Rows.{TellsBySlot}
use Rattle.gl_frames_slots.proofs.ItemsNet.{rows_kept}
use Rattle.gl_frames_slots.proofs.keyed.put_key_items.Goals as goal

pub put_late_lines-requires-clause-valid : goal.put_late_lines-requires-clause-valid
put_late_lines-requires-clause-valid c = bit_kept c.args.net.now c.put_slot_count.new.net c.args.late.now.wire.valid c.in_ok-count.ensures.keeps c.requires.wire.valid

pub put_late_lines-requires-clause-eos : goal.put_late_lines-requires-clause-eos
put_late_lines-requires-clause-eos c = bit_kept c.args.net.now c.put_slot_count.new.net c.args.late.now.wire.eos c.in_ok-count.ensures.keeps c.requires.wire.eos

pub overflow_add-cycles : goal.overflow_add-cycles
overflow_add-cycles c =
    let few = items_few c.args.scope.kinds.now c.args.items.now c.requires.are_kinds c.requires.fit in
    let is = c.delay_of_frames.ensures in
    omega (arith, few, is, c.requires.wait)

pub put_late_lines-requires-clause-most : goal.put_late_lines-requires-clause-most
put_late_lines-requires-clause-most c =
    let few = items_few c.args.scope.kinds.now c.args.items.now c.requires.are_kinds c.requires.fit in
    let is = c.delay_of_frames.ensures in
    omega (arith, few, is, c.requires.wait)

pub put_slot_items-requires-clause-most : goal.put_slot_items-requires-clause-most
put_slot_items-requires-clause-most c =
    let few = items_few c.args.scope.kinds.now c.args.items.now c.requires.are_kinds c.requires.fit in
    let is = c.delay_of_frames.ensures in
    omega (arith, few, is, c.requires.wait)

pub put_slot_items-requires-clause-late : goal.put_slot_items-requires-clause-late
put_slot_items-requires-clause-late c = let is = c.delay_of_frames.ensures in omega (arith, is)

pub put_slot_items-requires-clause-input : goal.put_slot_items-requires-clause-input
put_slot_items-requires-clause-input c =
    let all = keeps_then c.args.net.now c.put_slot_count.new.net c.put_late_lines.new.net c.in_ok-count.ensures.keeps c.in_ok-out.ensures.keeps in
    let late = c.args.late.now in
    record {
      rows = rows_kept c.args.net.now c.put_late_lines.new.net late.rows all c.requires.rows;
      source = subst (λ (bs : List Bus). IsSource c.put_late_lines.new.net bs c.args.scope.kinds.now c.args.scope.words.now) (sym c.as_slice.ensures)
          (record { buses = (wire_kept c.args.net.now c.put_late_lines.new.net late.wire all c.requires.wire).columns; same_widths = c.requires.kinds; held = words_kept c.args.net.now c.put_late_lines.new.net c.args.scope.words.now all c.requires.words });
    }

pub put_slot_items-requires-clause-count : goal.put_slot_items-requires-clause-count
put_slot_items-requires-clause-count c = bus_kept c.put_slot_count.new.net c.put_late_lines.new.net c.in_ok-count.count c.in_ok-out.ensures.keeps c.in_ok-count.ensures.bus

pub put_slot_items-requires-clause-slot_items : goal.put_slot_items-requires-clause-slot_items
put_slot_items-requires-clause-slot_items c =
    let w = c.in_ok-count.ensures.width in
    let low : c.args.partition.bits ≡ c.in_ok-count.count.width - 1 = omega (arith, w) in
    subst (λ (n : ℕ). All (IsSlotItem n) c.args.items.now) low c.requires.slot_items

pub put_slot_items-requires-clause-some : goal.put_slot_items-requires-clause-some
put_slot_items-requires-clause-some c = let w = c.in_ok-count.ensures.width in omega (arith, w)

pub put_slot_items-requires-clause-few : goal.put_slot_items-requires-clause-few
put_slot_items-requires-clause-few c = let w = c.in_ok-count.ensures.width in let most = c.requires.bits.most in omega (arith, w, most)

pub put_slot_items-requires-clause-address : goal.put_slot_items-requires-clause-address
put_slot_items-requires-clause-address c = let w = c.in_ok-count.ensures.width in omega (arith, w, c.requires.address)

pub returns : goal.returns
returns c =
    let late = c.args.late.now in
    let kinds = c.args.scope.kinds.now in
    let items = c.args.items.now in
    let mid = c.put_late_lines.new.net in
    let new = c.put_slot_items.new.net in
    let lines : Lines = record { valid = late.wire.valid; eos = late.wire.eos } in
    let source : Source = record { columns = c.as_slice.result; kinds = c.args.scope.kinds; words = c.args.scope.words } in
    let input : SlotInput = record { rows = late.rows; source = source } in
    let count = c.in_ok-count.ensures in
    let is = ap (λ n. c.args.partition.wait + n) c.delay_of_frames.ensures in
    let out = subst (λ (m : ℕ). AreLinesLate c.put_slot_count.new.net mid m lines c.in_ok-out.out) is c.in_ok-out.ensures in
    let all = subst (λ (m : ℕ). AreSlotItemsIn mid new input c.in_ok-count.count m items c.in_ok-columns.columns) is c.in_ok-columns.ensures in
    record {
      keeps = keeps_then c.args.net.now c.put_slot_count.new.net new count.keeps (keeps_then c.put_slot_count.new.net mid new out.keeps all.keeps);
      cost = record {
        nodes = omega (arith, count.cost.nodes, out.cost.nodes, all.cost.nodes);
        registers = omega (arith, count.cost.registers, out.cost.registers, all.cost.registers);
        memories = omega (arith, count.cost.memories, out.cost.memories, all.cost.memories);
      };
      wire = record {
        valid = bit_kept mid new c.in_ok-out.out.valid all.keeps out.row_line;
        eos = bit_kept mid new c.in_ok-out.out.eos all.keeps out.end_line;
        columns = all.buses;
      };
      same_widths = all.same_widths;
      law = λ run r ends told.
          let in_out = all.keeps.runs run r in
          let in_count = out.keeps.runs run in_out in
          let m : ℕ = items_delay c.args.partition.wait kinds items in
          record {
            delayed = frames_delayed run late.wire c.in_ok-out.out c.in_ok-columns.columns m (out.behind run in_out);
            tells = subst (λ (bs : List Bus). TellsBySlot run late.rows ends m (row_of_frames run.held kinds items) (λ t. row_at run t bs) (λ t. row_at run t c.in_ok-columns.columns)) c.as_slice.ensures
                (all.row run r ends told (count.counts run in_count ends told));
          };
    }
