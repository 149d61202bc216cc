use Rattle.std.proofs.Common.{◌≡◌, ◌∷◌, List, subst, sym, ap, ◌∙◌}
use Rattle.gl_net.specs.declared.node.Bus.{Bus}
use Rattle.gl_wire.specs.Wire.{AreBuses}
use Rattle.gl_wire.proofs.ColumnLemmas.{bit_kept, buses_kept}
use Rattle.gl_slots.proofs.JoinLemmas.{first_then}
use Rattle.gl_groups.proofs.LanedNet.{is_gathered}
use Rattle.gl_groups.proofs.grouping.Grouping.gather.Goals as goal

pub stage-requires-clause-valid : goal.stage-requires-clause-valid
stage-requires-clause-valid c = bit_kept c.args.net.now c.slot_key.new.net c.args.out.now.wire.valid c.in_ok-key.ensures.keeps c.requires.wire.valid

pub stage-requires-clause-eos : goal.stage-requires-clause-eos
stage-requires-clause-eos c = bit_kept c.args.net.now c.slot_key.new.net c.args.lane.now.close c.in_ok-key.ensures.keeps c.requires.close

pub stage-requires-clause-columns : goal.stage-requires-clause-columns
stage-requires-clause-columns c =
    let are : c.as_slice-2.result.now ≡ c.in_ok-key.key ∷ c.args.out.now.wire.columns =
    c.as_slice-2.ensures ∙ c.in_ok-columns.ensures ∙ ap (λ (l : List Bus). c.in_ok-key.key ∷ l) c.as_slice.ensures in
    subst (AreBuses c.slot_key.new.net) (sym are)
    (first_then c.slot_key.new.net c.in_ok-key.key c.args.out.now.wire.columns c.in_ok-key.ensures.bus
    (buses_kept c.args.net.now c.slot_key.new.net c.args.out.now.wire.columns c.in_ok-key.ensures.keeps c.requires.wire.columns))

pub returns : goal.returns
returns c =
    let are : c.as_slice-2.result.now ≡ c.in_ok-key.key ∷ c.args.out.now.wire.columns =
    c.as_slice-2.ensures ∙ c.in_ok-columns.ensures ∙ ap (λ (l : List Bus). c.in_ok-key.key ∷ l) c.as_slice.ensures in
    is_gathered c.args.net.now c.slot_key.new.net c.stage.new.net c.args.self.now c.args.lane.now c.args.out.now c.args.stored c.in_ok-key.key c.as_slice-2.result.now c.in_ok-wire.wire
    c.in_ok-key.ensures are c.in_ok-wire.ensures
