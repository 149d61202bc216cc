use Rattle.std.proofs.Common.{◌≡◌, List, ◌++◌, ap, sym, subst, ◌∙◌}
use Rattle.gl_net.specs.declared.node.Bus.{Bus}
use Rattle.gl_wire.specs.Stages.{IsPad}
use Rattle.gl_wire.specs.Wire.{AreBuses, wire_of}
use Rattle.gl_wire.proofs.ColumnLemmas.{AreBuses-append, buses_kept}
use Rattle.gl_rows.specs.Made.{AreOperations, IsSource}
use Rattle.gl_rows.proofs.ComputeBehind.{compute_behind}
use Rattle.gl_rows.proofs.compute.put_compute.Goals as goal

pub put_operations-requires-clause-source : goal.put_operations-requires-clause-source
put_operations-requires-clause-source c =
    subst (λ (bs : List Bus). IsSource c.args.net.now bs c.args.kinds.now c.args.words.now) (sym c.as_slice.ensures)
    (record { buses = c.requires.wire.columns; same_widths = c.requires.kinds; held = c.requires.words })

pub stage-requires-clause-columns : goal.stage-requires-clause-columns
stage-requires-clause-columns c =
    let old = c.args.net.now in
    let mid = c.put_operations.new.net in
    let columns = c.args.below.wire.columns in
    let is : c.as_slice-4.result.now ≡ columns ++ c.in_ok-made.made =
    c.as_slice-4.ensures ∙ c.in_ok-columns.ensures ∙ ap (λ (bs : List Bus). bs ++ c.as_slice-3.result.now) c.as_slice-2.ensures
    ∙ ap (λ (bs : List Bus). columns ++ bs) c.as_slice-3.ensures in
    subst (AreBuses mid) (sym is)
    (AreBuses-append mid columns c.in_ok-made.made (buses_kept old mid columns c.in_ok-made.ensures.keeps c.requires.wire.columns) c.in_ok-made.ensures.buses)

pub returns : goal.returns
returns c =
    let old = c.args.net.now in
    let mid = c.put_operations.new.net in
    let wire = c.args.below.wire in
    let all = c.in_ok-columns.columns in
    let is : all ≡ wire.columns ++ c.in_ok-made.made =
    c.in_ok-columns.ensures ∙ ap (λ (bs : List Bus). bs ++ c.as_slice-3.result.now) c.as_slice-2.ensures
    ∙ ap (λ (bs : List Bus). wire.columns ++ bs) c.as_slice-3.ensures in
    compute_behind old mid c.stage.new.net c.args.below c.args.kinds.now c.args.ops.now c.in_ok-made.made all is c.requires.kinds
    (subst (λ (bs : List Bus). AreOperations old mid bs c.args.kinds.now c.args.ops.now c.in_ok-made.made) c.as_slice.ensures c.in_ok-made.ensures)
    c.in_ok-wire.wire
    (subst (λ (bs : List Bus). IsPad mid c.stage.new.net 1 (wire_of wire.valid wire.eos bs) c.in_ok-wire.wire) c.as_slice-4.ensures c.in_ok-wire.ensures)
