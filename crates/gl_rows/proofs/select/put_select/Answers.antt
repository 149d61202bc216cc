use Rattle.std.proofs.Common.{◌≡◌, List, refl, sym, ap, arith, ◌∙◌, subst}
use Rattle.std.specs.Prelude.{slice_index_or}
use Rattle.std.proofs.lemmas.Option.{get_or_from_slice_get}
use Rattle.gl_net.specs.declared.node.Bus.{Bus}
use Rattle.gl_net.proofs.Determined.{keeps_then}
use Rattle.gl_wire.specs.Stages.{IsPad}
use Rattle.gl_wire.specs.Wire.{AreBuses, wire_of}
use Rattle.gl_wire.proofs.ColumnLemmas.{buses_kept, column_at}
use Rattle.gl_rows.proofs.RowLemmas.{select_steady}
use Rattle.gl_rows.proofs.select.put_select.Goals as goal

pub stage-requires-clause-columns : goal.stage-requires-clause-columns
stage-requires-clause-columns c =
    subst (AreBuses c.both.new.net) (sym c.as_slice-2.ensures)
    (buses_kept c.args.net.now c.both.new.net c.args.below.wire.columns c.in_ok-keep.ensures.keeps c.requires.wire.columns)

pub returns : goal.returns
returns c = rw c.note_bit.ensures (
    let old = c.args.net.now in
    let mid = c.both.new.net in
    let new = c.stage.new.net in
    let wire = c.args.below.wire in
    let keep = c.in_ok-keep.ensures in
    let staged : IsPad mid new 1 (wire_of c.in_ok-keep.keep wire.eos wire.columns) c.in_ok-wire.wire =
    subst (λ (bs : List Bus). IsPad mid new 1 (wire_of c.in_ok-keep.keep wire.eos bs) c.in_ok-wire.wire) c.as_slice-2.ensures c.in_ok-wire.ensures in
    let b = column_at wire.columns c.args.column 1 c.requires.column in
    let none : Bus = record { node = 0; width = 0 } in
    let same : slice_index_or c.as_slice.result.now c.args.column none ≡ b.0 = ap (λ (bs : List Bus). slice_index_or bs c.args.column none) c.as_slice.ensures ∙ get_or_from_slice_get wire.columns c.args.column b.0 none b.1 in
    record {
      keeps = keeps_then old mid new keep.keeps staged.keeps;
      cost = record {
        nodes = omega (arith, keep.cost.nodes, staged.cost.nodes);
        registers = omega (arith, keep.cost.registers, staged.cost.registers);
        memories = omega (arith, keep.cost.memories, staged.cost.memories);
      };
      wire = staged.wire;
      same_widths = staged.same_widths;
      faults = refl;
      shape = λ run r.
          select_steady run wire c.in_ok-keep.keep c.bit.result b.0 c.args.column b.1 (c.bit.ensures ∙ ap (λ (x : Bus). x.node) same)
          (keep.line run (staged.keeps.runs run r)) c.in_ok-wire.wire (staged.delayed run r);
    })
