use Rattle.std.proofs.Common.{List, subst}
use Rattle.gl_net.specs.declared.node.Bus.{Bus}
use Rattle.gl_wire_registers.specs.Backs.{ChoosesRow}
use Rattle.gl_wire_registers.proofs.BackLemmas.{merges_two}
use Rattle.gl_wire_registers.proofs.back.merge_two.Goals as goal

pub returns : goal.returns
returns c = rw c.note_merged.ensures (
    let left = subst (λ (bs : List Bus). ChoosesRow c.args.net.now c.choose_row.new.net c.args.first.now.valid bs c.as_slice-right.result.now c.in_ok-columns.columns) c.as_slice-left.ensures c.in_ok-columns.ensures in
    let both = subst (λ (bs : List Bus). ChoosesRow c.args.net.now c.choose_row.new.net c.args.first.now.valid c.args.first.now.columns bs c.in_ok-columns.columns) c.as_slice-right.ensures left in
    merges_two c.args.net.now c.choose_row.new.net c.either.new.net c.args.first.now c.args.second.now c.in_ok-columns.columns c.in_ok-valid.valid both c.in_ok-valid.ensures)
