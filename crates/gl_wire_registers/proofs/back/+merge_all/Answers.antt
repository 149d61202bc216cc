use Rattle.std.proofs.Common.{List, subst, sym, arith, rules}
use Rattle.gl_wire.specs.declared.wire.Wire.{Wire}
use Rattle.gl_wire.specs.Wire.{widths}
use Rattle.gl_wire.proofs.ColumnLemmas.{buses_kept}
use Rattle.gl_wire_registers.specs.Backs.{AreWires, Merges}
use Rattle.gl_wire_registers.proofs.BackLemmas.{merges_both, wires_kept, wires_part}
use Rattle.gl_wire_registers.proofs.HalfLemmas.{halves}
use Rattle.gl_wire_registers.proofs.back.+merge_all.Goals as goal

pub merge_all-requires : goal.merge_all-requires
merge_all-requires t c =
    let cut = halves c.args.wires.now c.split_at.result.0.now c.split_at.result.1.now (omega (arith, c.if-wires-lt2.false)) c.split_at.ensures.front c.split_at.ensures.back in
    let part =
    wires_part c.args.net.now c.split_at.result.0.now c.split_at.result.1.now (widths c.args.columns.now) (subst (λ (ws : List Wire). AreWires c.args.net.now ws (widths c.args.columns.now)) (sym cut.whole) c.requires.wires) in
    (search rules, (part.0, c.requires.columns))

pub merge_all-requires-2 : goal.merge_all-requires-2
merge_all-requires-2 t c =
    let cut = halves c.args.wires.now c.split_at.result.0.now c.split_at.result.1.now (omega (arith, c.if-wires-lt2.false)) c.split_at.ensures.front c.split_at.ensures.back in
    let part =
    wires_part c.args.net.now c.split_at.result.0.now c.split_at.result.1.now (widths c.args.columns.now) (subst (λ (ws : List Wire). AreWires c.args.net.now ws (widths c.args.columns.now)) (sym cut.whole) c.requires.wires) in
    let keeps = c.in_ok-left.ensures.keeps in
    (search rules, (wires_kept c.args.net.now c.merge_all.new.net c.split_at.result.1.now (widths c.args.columns.now) keeps part.1, buses_kept c.args.net.now c.merge_all.new.net c.args.columns.now keeps c.requires.columns))

pub merge_two-requires-clause-first_columns : goal.merge_two-requires-clause-first_columns
merge_two-requires-clause-first_columns t c = buses_kept c.merge_all.new.net c.merge_all-2.new.net c.in_ok-left.left.columns c.in_ok-right.ensures.keeps c.in_ok-left.ensures.buses

pub returns : goal.returns
returns t c =
    let cut = halves c.args.wires.now c.split_at.result.0.now c.split_at.result.1.now (omega (arith, c.if-wires-lt2.false)) c.split_at.ensures.front c.split_at.ensures.back in
    subst (λ (ws : List Wire). Merges c.args.net.now c.merge_two.new.net ws (widths c.args.columns.now) c.in_ok-merged-2.merged) cut.whole
    (merges_both c.args.net.now c.merge_all.new.net c.merge_all-2.new.net c.merge_two.new.net c.split_at.result.0.now c.split_at.result.1.now (widths c.args.columns.now) c.in_ok-left.left c.in_ok-right.right c.in_ok-merged-2.merged
    cut.left cut.right c.in_ok-left.ensures c.in_ok-right.ensures c.in_ok-merged-2.ensures)
