use Rattle.std.proofs.Common.{◌++◌}
use Rattle.std.specs.Prelude.{decimal}
use Rattle.gl_outside.proofs.Takes.{took_then, wrote_then, broke_more, broke_then}
use Rattle.gl_top_status.specs.Refusals.{line}
use Rattle.gl_top_status.proofs.Noting.{broke_off}
use Rattle.gl_top_status.proofs.notes.put_kind.Goals as goal

pub returns-in_err-write_all_of : goal.returns-in_err-write_all_of
returns-in_err-write_all_of g c =
    broke_off _ _ _ (c.args.head.now ++ c.args.kind.now) (line c.args.middle.now (decimal c.args.number)) c.from_residual.result c.from_residual.ensures.1
    (broke_more _ _ c.args.head.now c.args.kind.now c.in_err-write_all_of.ensures)

pub returns-in_err-write_all_of-2 : goal.returns-in_err-write_all_of-2
returns-in_err-write_all_of-2 g c =
    broke_off _ _ _ (c.args.head.now ++ c.args.kind.now) (line c.args.middle.now (decimal c.args.number)) c.from_residual-in_err-write_all_of-2.result c.from_residual-in_err-write_all_of-2.ensures.1
    (broke_then _ _ _ c.args.head.now c.args.kind.now c.in_ok-write_all_of.ensures c.in_err-write_all_of-2.ensures)

pub returns : goal.returns
returns g c =
    wrote_then _ _ _ (c.args.head.now ++ c.args.kind.now) _ c.put_number.result
    (took_then _ _ _ c.args.head.now c.args.kind.now c.in_ok-write_all_of.ensures c.in_ok-write_all_of-2.ensures) c.put_number.ensures
