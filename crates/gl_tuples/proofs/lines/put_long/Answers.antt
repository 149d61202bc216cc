use Rattle.std.proofs.Common.{[], ◌∷◌, ◌++◌}
use Rattle.gl_outside.proofs.Takes.{broke_more, broke_then, wrote_then}
use Rattle.gl_tuples.proofs.Puts.{failed}
use Rattle.gl_tuples.proofs.lines.put_long.Goals as goal

pub returns-in_err-write_all_of : goal.returns-in_err-write_all_of
returns-in_err-write_all_of g c =
    failed _ _ _ _ c.from_residual.result c.from_residual.ensures.1 (broke_more _ _ c.args.digits.now (44 ∷ (c.args.name.now ++ c.args.told.now)) c.in_err-write_all_of.ensures)

pub returns-in_err-write_all_of-2 : goal.returns-in_err-write_all_of-2
returns-in_err-write_all_of-2 g c =
    failed _ _ _ _ c.from_residual-in_err-write_all_of-2.result c.from_residual-in_err-write_all_of-2.ensures.1
    (broke_then _ _ _ c.args.digits.now (44 ∷ (c.args.name.now ++ c.args.told.now)) c.in_ok-write_all_of.ensures
    (broke_more _ _ (44 ∷ []) (c.args.name.now ++ c.args.told.now) c.in_err-write_all_of-2.ensures))

pub returns-in_err-write_all_of-3 : goal.returns-in_err-write_all_of-3
returns-in_err-write_all_of-3 g c =
    failed _ _ _ _ c.from_residual-in_err-write_all_of-3.result c.from_residual-in_err-write_all_of-3.ensures.1
    (broke_then _ _ _ c.args.digits.now (44 ∷ (c.args.name.now ++ c.args.told.now)) c.in_ok-write_all_of.ensures
    (broke_then _ _ _ (44 ∷ []) (c.args.name.now ++ c.args.told.now) c.in_ok-write_all_of-2.ensures
    (broke_more _ _ c.args.name.now c.args.told.now c.in_err-write_all_of-3.ensures)))

pub returns : goal.returns
returns g c =
    wrote_then _ _ _ c.args.digits.now (44 ∷ (c.args.name.now ++ c.args.told.now)) c.write_all_of-4.result c.in_ok-write_all_of.ensures
    (wrote_then _ _ _ (44 ∷ []) (c.args.name.now ++ c.args.told.now) c.write_all_of-4.result c.in_ok-write_all_of-2.ensures
    (wrote_then _ _ _ c.args.name.now c.args.told.now c.write_all_of-4.result c.in_ok-write_all_of-3.ensures c.write_all_of-4.ensures))
