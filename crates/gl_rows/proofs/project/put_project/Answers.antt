use Rattle.std.proofs.Common.{List, sym, subst}
use Rattle.gl_net.specs.declared.node.Bus.{Bus}
use Rattle.gl_rows.specs.Made.{AreOperands, IsSource}
use Rattle.gl_rows.proofs.BehindLemmas.{project_behind}
use Rattle.gl_rows.proofs.project.put_project.Goals as goal

pub put_operands-requires-clause-source : goal.put_operands-requires-clause-source
put_operands-requires-clause-source c =
    subst (λ (bs : List Bus). IsSource c.args.net.now bs c.args.kinds.now c.args.words.now) (sym c.as_slice.ensures)
    (record { buses = c.requires.wire.columns; same_widths = c.requires.kinds; held = c.requires.words })

pub returns : goal.returns
returns c =
    project_behind c.args.net.now c.put_operands.new.net c.args.below c.args.kinds.now c.args.items.now c.in_ok-columns.columns c.requires.wire
    (subst (λ (bs : List Bus). AreOperands c.args.net.now c.put_operands.new.net bs c.args.kinds.now c.args.items.now c.in_ok-columns.columns)
    c.as_slice.ensures c.in_ok-columns.ensures)
