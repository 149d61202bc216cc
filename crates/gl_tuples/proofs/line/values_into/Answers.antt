use Rattle.std.proofs.Common.{sym, ◌∙◌, arith}
use Rattle.gl_values.specs.declared.kind.Kind.TheVariants.{Unsigned}
use Rattle.gl_tuples.proofs.LineLemmas.{width_at, row_long, none_at, line_grows}
use Rattle.gl_tuples.proofs.line.values_into.Goals as goal
use Rattle.gl_tuples.proofs.line.values_into.Goals.{in-Some, in_default}

pub put_column-end-requires-clause-width : goal.put_column-end-requires-clause-width
put_column-end-requires-clause-width c = width_at c.args.row.now c.args.kinds.now c.loop-column.column c.in-Some.word (Unsigned 0) c.requires.widths (sym c.get.ensures ∙ c.in-Some.is) (omega arith)

pub loop-column-preserved : goal.loop-column-preserved
loop-column-preserved c = elim c.match-get.branch [
  | in-Some w ↦ record {
    room = omega arith;
    written = rw (w.end-is, w.into-is) (line_grows c.args.row.now c.args.kinds.now c.loop-column.column w.in-Some.word (Unsigned 0) _ _ _ (sym c.get.ensures ∙ w.in-Some.is) (omega arith) w.put_column-end.ensures.written c.loop-column.invariant.written);
  }
  | in_default w ↦ absurd (omega (arith, none_at c.args.row.now c.loop-column.column (sym c.get.ensures ∙ w.in_default.is), row_long c.args.row.now c.args.kinds.now c.requires.widths))
]
