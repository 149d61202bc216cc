use Rattle.std.proofs.Common.{ap, arith, sym, subst, ◌∙◌}
use Rattle.gl_algebra.specs.Columns.{SortFits, kind_of_operand}
use Rattle.gl_algebra.specs.Values.{value_of_operand}
use Rattle.gl_values.specs.Kinds.{width_of}
use Rattle.gl_values.specs.Operators.{operate, result_kind, sort_of}
use Rattle.gl_values.specs.declared.kind.Kind.{Kind}
use Rattle.gl_wire.specs.Wire.{row_at}
use Rattle.gl_wire.proofs.ColumnLemmas.{bus_kept}
use Rattle.gl_rows.specs.Made.{IsOperated}
use Rattle.gl_rows.proofs.MadeLemmas.{carries_then2, carries_within, source_kept}
use Rattle.gl_rows.proofs.operation.put_binary.Goals as goal

pub put_operand-requires-2 : goal.put_operand-requires-2
put_operand-requires-2 c = record {
  source = source_kept c.args.net.now c.put_operand.new.net c.args.source.columns.now c.args.source.kinds.now c.args.source.words.now c.in_ok-first.ensures.keeps c.requires.source;
  fits = c.requires.fits.1;
  known = c.requires.known.1;
}

pub put_operator-requires : goal.put_operator-requires
put_operator-requires c = record {
  left = bus_kept c.put_operand.new.net c.put_operand-2.new.net c.in_ok-first.first c.in_ok-second.ensures.keeps c.in_ok-first.ensures.bus;
  right = c.in_ok-second.ensures.bus;
  left_width = c.in_ok-first.ensures.same_width ∙ ap width_of (sym c.kind_of_operand-kind.ensures);
  right_width = c.in_ok-second.ensures.same_width ∙ ap width_of (sym c.requires.fits.2 ∙ sym c.kind_of_operand-kind.ensures);
  fits = subst (SortFits (sort_of c.args.op)) (sym c.kind_of_operand-kind.ensures) c.requires.fits.3;
  still = c.requires.still;
}

pub returns : goal.returns
returns c =
    let columns = c.args.source.columns.now in
    let kinds = c.args.source.kinds.now in
    let kind = kind_of_operand kinds c.args.left in
    carries_within c.args.net.now c.put_operator.new.net 6 7 (width_of (result_kind (sort_of c.args.op) kind))
    (λ run t. operate c.args.op kind (value_of_operand run.held (row_at run t columns) c.args.left) (value_of_operand run.held (row_at run t columns) c.args.right))
    c.in_ok-bus.bus (omega arith)
    (carries_then2 c.args.net.now c.put_operand.new.net c.put_operand-2.new.net c.put_operator.new.net 1 1 4 (width_of kind)
    (width_of (kind_of_operand kinds c.args.right)) (width_of (result_kind (sort_of c.args.op) kind))
    (λ run t. value_of_operand run.held (row_at run t columns) c.args.left) (λ run t. value_of_operand run.held (row_at run t columns) c.args.right) (operate c.args.op kind)
    c.in_ok-first.first c.in_ok-second.second c.in_ok-bus.bus c.in_ok-first.ensures c.in_ok-second.ensures
    (subst (λ (k : Kind). IsOperated c.put_operand-2.new.net c.put_operator.new.net c.args.op k c.in_ok-first.first c.in_ok-second.second c.in_ok-bus.bus)
    c.kind_of_operand-kind.ensures c.in_ok-bus.ensures))
