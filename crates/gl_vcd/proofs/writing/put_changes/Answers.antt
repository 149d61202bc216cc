use Rattle.std.proofs.Common.{option_map, arith}
use Rattle.gl_vcd.proofs.Changes.{changes_end, changes_next}
use Rattle.gl_tuples.proofs.Puts.{failed}
use Rattle.gl_vcd.proofs.OnWay.{way_cut, way_done, way_first, way_next}
use Rattle.gl_vcd.proofs.writing.put_changes.Goals as goal

pub loop-number-init : goal.loop-number-init
loop-number-init g c = way_first _ _

pub returns-in_err-put_change : goal.returns-in_err-put_change
returns-in_err-put_change g c =
    let before = option_map (λ r. r.now) c.args.before in
    failed _ _ _ _ c.from_residual.result c.from_residual.ensures.1
    (way_cut _ _ _ _ _ _ _ (changes_next before c.args.row.now c.loop-number.number c.word_at-word.result c.is_new.result c.word_at-word.ensures c.is_new.ensures)
    c.loop-number.invariant c.in_err-put_change.ensures)

pub loop-number-preserved : goal.loop-number-preserved
loop-number-preserved g c =
    let before = option_map (λ r. r.now) c.args.before in
    way_next _ _ _ _ _ _ _ (changes_next before c.args.row.now c.loop-number.number c.word_at-word.result c.is_new.result c.word_at-word.ensures c.is_new.ensures)
    c.loop-number.invariant c.in_ok-put_change.ensures

pub returns : goal.returns
returns g c =
    let before = option_map (λ r. r.now) c.args.before in
    way_done _ _ _ _ (changes_end before c.args.row.now c.loop-number.number (omega (arith, c.loop-number-test.false, c.len-number-end.ensures))) c.loop-number.invariant
