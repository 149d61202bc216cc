use Rattle.std.proofs.Common.{refl, subst, sym, List}
use Rattle.gl_net.specs.declared.node.Bus.{Bus}
use Rattle.gl_net.proofs.Determined.{keeps_then}
use Rattle.gl_wire.specs.Wire.{AreBuses}
use Rattle.gl_wire.proofs.ColumnLemmas.{buses_kept}
use Rattle.gl_wire_registers.specs.Backs.{ChoosesRow}
use Rattle.gl_spare.proofs.LateNet.{late_adds}
use Rattle.gl_spare.proofs.late.late_ends.Goals as goal

pub hold_all-requires-clause-columns : goal.hold_all-requires-clause-columns
hold_all-requires-clause-columns c =
    buses_kept c.args.net.now c.latch.new.net c.args.wire.now.columns
    (keeps_then c.args.net.now c.close_line.new.net c.latch.new.net c.in_ok-fired.ensures.keeps (keeps_then c.close_line.new.net c.but_not.new.net c.latch.new.net c.in_ok-alone.ensures.keeps
    (keeps_then c.but_not.new.net c.both.new.net c.latch.new.net c.in_ok-with_end.ensures.keeps c.in_ok-had.ensures.keeps)))
    c.requires.wire.columns

pub choose_row-requires-clause-first : goal.choose_row-requires-clause-first
choose_row-requires-clause-first c =
    subst (AreBuses c.either.new.net) (sym c.as_slice.ensures)
    (buses_kept c.hold_all.new.net c.either.new.net c.in_ok-held.held (keeps_then c.hold_all.new.net c.both-2.new.net c.either.new.net c.in_ok-last.ensures.keeps c.in_ok-valid.ensures.keeps) c.in_ok-held.ensures.buses)

pub choose_row-requires-clause-second : goal.choose_row-requires-clause-second
choose_row-requires-clause-second c =
    subst (AreBuses c.either.new.net) (sym c.as_slice-2.ensures)
    (buses_kept c.args.net.now c.either.new.net c.args.wire.now.columns
    (keeps_then c.args.net.now c.close_line.new.net c.either.new.net c.in_ok-fired.ensures.keeps (keeps_then c.close_line.new.net c.but_not.new.net c.either.new.net c.in_ok-alone.ensures.keeps
    (keeps_then c.but_not.new.net c.both.new.net c.either.new.net c.in_ok-with_end.ensures.keeps (keeps_then c.both.new.net c.latch.new.net c.either.new.net c.in_ok-had.ensures.keeps
    (keeps_then c.latch.new.net c.hold_all.new.net c.either.new.net c.in_ok-held.ensures.keeps (keeps_then c.hold_all.new.net c.both-2.new.net c.either.new.net c.in_ok-last.ensures.keeps c.in_ok-valid.ensures.keeps))))))
    c.requires.wire.columns)

pub returns : goal.returns
returns c = rw c.note_late.ensures (
    let chosen : ChoosesRow c.either.new.net c.choose_row.new.net c.in_ok-fired.fired c.in_ok-held.held c.args.wire.now.columns c.in_ok-columns.columns =
    subst (λ (bs : List Bus). ChoosesRow c.either.new.net c.choose_row.new.net c.in_ok-fired.fired bs c.args.wire.now.columns c.in_ok-columns.columns) c.as_slice.ensures
    (subst (λ (bs : List Bus). ChoosesRow c.either.new.net c.choose_row.new.net c.in_ok-fired.fired c.as_slice.result.now bs c.in_ok-columns.columns) c.as_slice-2.ensures c.in_ok-columns.ensures)
    in
    late_adds c.args.net.now c.close_line.new.net c.but_not.new.net c.both.new.net c.latch.new.net c.hold_all.new.net c.both-2.new.net c.either.new.net c.choose_row.new.net
    c.args.wire.now c.args.shift _ c.requires.shift refl c.requires.wire
    c.in_ok-fired.fired c.in_ok-alone.alone c.in_ok-with_end.with_end c.in_ok-had.had c.in_ok-last.last c.in_ok-valid.valid c.in_ok-held.held c.in_ok-columns.columns
    c.in_ok-fired.ensures c.in_ok-alone.ensures c.in_ok-with_end.ensures c.in_ok-had.ensures c.in_ok-held.ensures c.in_ok-last.ensures c.in_ok-valid.ensures chosen)
