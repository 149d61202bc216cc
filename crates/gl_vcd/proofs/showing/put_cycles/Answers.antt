use Rattle.std.proofs.Common.{◌-◌, ap, sym, ◌∙◌}
use Rattle.gl_bits.specs.Words.{bits_of}
use Rattle.gl_schema.specs.Seen.{lines_after}
use Rattle.gl_vcd.specs.Showings.{told_after}
use Rattle.gl_tuples.proofs.Puts.{failed}
use Rattle.gl_vcd.proofs.OnWay.{way_cut, way_done, way_next}
use Rattle.gl_vcd.proofs.Shown.{next_cycle, silent_lines, silent_told}
use Rattle.gl_vcd.proofs.showing.put_cycles.Goals as goal

pub returns-then-is_silent-clause-wrote : goal.returns-then-is_silent-clause-wrote
returns-then-is_silent-clause-wrote g c =
    let n = c.loop-cycle.cycle in
    way_done _ _ _ _
    (silent_lines c.args.shown.sample c.loop-cycle.told (sym c.is_silent.ensures ∙ c.if-is_silent.true) c.args.kinds.now (bits_of c.args.shown.row.now) n (c.args.to - n)) c.loop-cycle.invariant.way

pub returns-then-is_silent-clause-told : goal.returns-then-is_silent-clause-told
returns-then-is_silent-clause-told g c =
    let n = c.loop-cycle.cycle in
    sym (silent_told c.args.shown.sample c.loop-cycle.told (sym c.is_silent.ensures ∙ c.if-is_silent.true) (bits_of c.args.shown.row.now) n (c.args.to - n)) ∙ c.loop-cycle.invariant.told

pub returns-in_err-put_cycle-clause-wrote : goal.returns-in_err-put_cycle-clause-wrote
returns-in_err-put_cycle-clause-wrote g c =
    let n = c.loop-cycle.cycle in
    failed _ _ _ _ c.from_residual.result c.from_residual.ensures.1
    (way_cut _ _ _ _ _ _ _ (ap (lines_after c.loop-cycle.told c.args.kinds.now) (next_cycle c.args.shown.sample (bits_of c.args.shown.row.now) n c.args.to c.loop-cycle-test.true))
    c.loop-cycle.invariant.way c.in_err-put_cycle.ensures)

pub loop-cycle-preserved : goal.loop-cycle-preserved
loop-cycle-preserved g c =
    let n = c.loop-cycle.cycle in
    let next = next_cycle c.args.shown.sample (bits_of c.args.shown.row.now) n c.args.to c.loop-cycle-test.true in
    record {
      way = way_next _ _ _ _ _ _ _ (ap (lines_after c.loop-cycle.told c.args.kinds.now) next) c.loop-cycle.invariant.way c.in_ok-put_cycle.ensures;
      told = sym (ap (told_after c.loop-cycle.told) next) ∙ c.loop-cycle.invariant.told;
    }
