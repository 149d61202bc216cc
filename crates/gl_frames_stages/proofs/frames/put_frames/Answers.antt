use Rattle.std.proofs.Common.{ℕ, List, arith, sym, subst}
use Rattle.gl_net.specs.declared.node.Bus.{Bus}
use Rattle.gl_rows.specs.Made.{IsSource}
use Rattle.gl_rows.specs.declared.operand.Source.{Source}
use Rattle.gl_frames_stages.specs.DelayNets.{AreLinesLate}
use Rattle.gl_frames_stages.specs.FramesNets.{AreItemsIn}
use Rattle.gl_frames_stages.specs.declared.input.Input.{Input}
use Rattle.gl_frames_stages.specs.declared.lines.Lines.{Lines}
use Rattle.gl_frames_stages.proofs.CycleLemmas.{items_few}
use Rattle.gl_frames_stages.proofs.FramesNet.{frames_behind}
use Rattle.gl_frames_stages.proofs.frames.put_frames.Goals as goal

pub put_items-requires-clause-input : goal.put_items-requires-clause-input
put_items-requires-clause-input c = record {
  valid = c.requires.wire.valid;
  eos = c.requires.wire.eos;
  source = subst (λ (bs : List Bus). IsSource c.args.net.now bs c.args.kinds.now c.args.words.now) (sym c.as_slice.ensures) (record { buses = c.requires.wire.columns; same_widths = c.requires.kinds; held = c.requires.words });
}

pub put_items-requires-clause-most : goal.put_items-requires-clause-most
put_items-requires-clause-most c =
    let few = items_few c.args.kinds.now c.args.items.now c.requires.are_kinds c.requires.items in
    let is = c.delay_of_frames-cycles.ensures in
    omega (arith, few, is)

pub put_late_lines-requires-clause-most : goal.put_late_lines-requires-clause-most
put_late_lines-requires-clause-most c =
    let few = items_few c.args.kinds.now c.args.items.now c.requires.are_kinds c.requires.items in
    let is = c.delay_of_frames-cycles.ensures in
    omega (arith, few, is)

pub put_items-requires-clause-late : goal.put_items-requires-clause-late
put_items-requires-clause-late c = let is = c.delay_of_frames-cycles.ensures in omega (arith, is)

pub returns : goal.returns
returns c =
    let mid = c.put_items.new.net in
    let new = c.put_late_lines.new.net in
    let wire = c.args.below.wire in
    let lines : Lines = record { valid = wire.valid; eos = wire.eos } in
    let source : Source = record { columns = c.as_slice.result; kinds = c.args.kinds; words = c.args.words } in
    let input : Input = record { lines = lines; source = source } in
    frames_behind c.running_serves.ensures.streams c.args.net.now mid new c.args.below c.args.items.now source c.in_ok-columns.columns c.in_ok-late.late c.as_slice.ensures
    (subst (λ (m : ℕ). AreItemsIn c.args.net.now mid m input c.args.items.now c.in_ok-columns.columns) c.delay_of_frames-cycles.ensures c.in_ok-columns.ensures)
    (subst (λ (m : ℕ). AreLinesLate mid new m lines c.in_ok-late.late) c.delay_of_frames-cycles.ensures c.in_ok-late.ensures)
