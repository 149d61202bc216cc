use Rattle.gl_slots.proofs.JoinLemmas.{faults_are}
use Rattle.gl_slots.proofs.joins.join_faults.Goals as goal

pub returns : goal.returns
returns c =
    faults_are c.args.net.now c.join_lines.new.net c.both_faults.new.net c.args.source c.in_ok-faults.faults c.in_ok-all.all c.args.further c.args.copies.now c.in_ok-faults.ensures c.in_ok-all.ensures
