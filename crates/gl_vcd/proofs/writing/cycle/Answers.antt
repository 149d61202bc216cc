use Rattle.std.proofs.Common.{option_map, subst}
use Rattle.gl_outside.proofs.Takes.{broke_more, wrote_same, wrote_then}
use Rattle.gl_outside.specs.States.{Broke}
use Rattle.gl_verilog.specs.View.{module_of}
use Rattle.gl_vcd.specs.Written.{changes, ports_of}
use Rattle.gl_vcd.proofs.Changes.{cycle_is, row_few}
use Rattle.gl_tuples.proofs.Puts.{failed}
use Rattle.gl_vcd.proofs.writing.cycle.Goals as goal

pub put_changes-requires : goal.put_changes-requires
put_changes-requires g c = row_few c.args.now.now (ports_of (module_of c.args.module.now)) c.requires.row c.requires.few

pub returns-in_err-put_time : goal.returns-in_err-put_time
returns-in_err-put_time g c =
    let before = option_map (λ r. r.now) c.args.before in
    failed _ _ _ _ c.from_residual.result c.from_residual.ensures.1
    (subst (Broke _ _) (cycle_is c.args.at before c.args.now.now c.is_told.result c.is_told.ensures)
    (broke_more _ _ _ (changes before 0 c.args.now.now) c.in_err-put_time.ensures))

pub returns : goal.returns
returns g c =
    let before = option_map (λ r. r.now) c.args.before in
    wrote_same _ _ _ _ c.put_changes.result (cycle_is c.args.at before c.args.now.now c.is_told.result c.is_told.ensures)
    (wrote_then _ _ _ _ _ c.put_changes.result c.in_ok-put_time.ensures c.put_changes.ensures)
