use Rattle.gl_wire.proofs.ColumnLemmas.{buses_kept}
use Rattle.gl_wire.proofs.StageLemmas.{stage_is}
use Rattle.gl_wire.proofs.stages.stage.Goals as goal

pub later_all-requires : goal.later_all-requires
later_all-requires c =
    buses_kept c.later_bit.new.net c.later_bit-2.new.net c.args.columns.now c.in_ok-eos.ensures.keeps
    (buses_kept c.args.net.now c.later_bit.new.net c.args.columns.now c.in_ok-valid.ensures.keeps c.requires.columns)

pub returns : goal.returns
returns c =
    stage_is c.args.net.now c.later_bit.new.net c.later_bit-2.new.net c.later_all.new.net c.args.valid c.args.eos c.in_ok-valid.valid c.in_ok-eos.eos c.args.columns.now
    c.in_ok-columns.columns c.in_ok-valid.ensures c.in_ok-eos.ensures c.in_ok-columns.ensures
