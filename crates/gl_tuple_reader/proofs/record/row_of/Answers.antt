use Rattle.std.proofs.Common.{◌∙◌, sym, arith}
use Rattle.gl_tuple_reader.proofs.Fields.{row_grows, row_stops, no_row}
use Rattle.gl_tuple_reader.proofs.record.row_of.Goals as goal

pub returns-in_default : goal.returns-in_default
returns-in_default c = no_row c.args.number c.args.columns.now _ (omega arith)
    (row_stops c.args.columns.now _ c.loop-at.at c.index-columns-at.result c.loop-at.row _ (omega arith) c.index-columns-at.is (sym c.in_default.is ∙ c.word_at.ensures) c.loop-at.invariant)

pub loop-at-preserved : goal.loop-at-preserved
loop-at-preserved c = row_grows c.args.columns.now _ c.loop-at.at c.index-columns-at.result c.loop-at.row c.push.new.self c.in-Some.word _ (omega arith) c.index-columns-at.is (sym c.in-Some.is ∙ c.word_at.ensures) c.in_ok-push.ensures.ok c.loop-at.invariant
