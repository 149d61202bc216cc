use Rattle.std.proofs.Common.{List, sym, ap, ◌∙◌, subst}
use Rattle.gl_net.specs.declared.node.Bus.{Bus}
use Rattle.gl_wire.specs.Stages.{IsPad}
use Rattle.gl_wire.specs.Wire.{AreBuses, widths, wire_of}
use Rattle.gl_wire.proofs.ColumnLemmas.{buses_kept}
use Rattle.gl_queue.specs.MergeLines.{AreChosenOf}
use Rattle.gl_turns.proofs.TurnNet.{turn_is}
use Rattle.gl_turns.proofs.turns.put_turn.Goals as goal

pub choose_all-requires-clause-yes : goal.choose_all-requires-clause-yes
choose_all-requires-clause-yes c = subst (AreBuses c.either.new.net) (sym c.as_slice.ensures) (buses_kept _ _ _ c.in_ok-valid.ensures.keeps c.requires.left.columns)

pub choose_all-requires-clause-no : goal.choose_all-requires-clause-no
choose_all-requires-clause-no c = subst (AreBuses c.either.new.net) (sym c.as_slice-2.ensures) (buses_kept _ _ _ c.in_ok-valid.ensures.keeps c.requires.right.columns)

pub choose_all-requires-clause-widths : goal.choose_all-requires-clause-widths
choose_all-requires-clause-widths c = ap widths c.as_slice.ensures ∙ c.requires.widths ∙ sym (ap widths c.as_slice-2.ensures)

pub stage-requires-clause-columns : goal.stage-requires-clause-columns
stage-requires-clause-columns c = subst (AreBuses c.choose_all.new.net) (sym c.as_slice-3.ensures) c.in_ok-columns.ensures.buses

pub returns : goal.returns
returns c =
    let left = c.args.left.now in
    let right = c.args.right.now in
    let valid = c.in_ok-valid.valid in
    let columns = c.in_ok-columns.columns in
    let out = c.in_ok-wire.wire in
    let chosen : AreChosenOf c.either.new.net c.choose_all.new.net left.valid left.columns right.columns columns =
    subst (λ (bs : List Bus). AreChosenOf c.either.new.net c.choose_all.new.net left.valid bs right.columns columns) c.as_slice.ensures
    (subst (λ (bs : List Bus). AreChosenOf c.either.new.net c.choose_all.new.net left.valid c.as_slice.result.now bs columns) c.as_slice-2.ensures c.in_ok-columns.ensures) in
    let pad : IsPad c.choose_all.new.net c.stage.new.net 1 (wire_of valid right.eos columns) out =
    subst (λ (bs : List Bus). IsPad c.choose_all.new.net c.stage.new.net 1 (wire_of valid right.eos bs) out) c.as_slice-3.ensures c.in_ok-wire.ensures in
    turn_is c.args.net.now c.either.new.net c.choose_all.new.net c.stage.new.net left right out valid columns c.in_ok-valid.ensures chosen pad
