use Rattle.std.proofs.Common.{length, eqb-true, sym, ◌∙◌}
use Rattle.gl_wire_registers.proofs.JoinLemmas.{lines_joined, lines_none, some_copies}
use Rattle.gl_wire_registers.proofs.joins.join_lines.Goals as goal

pub returns-then-is_empty : goal.returns-then-is_empty
returns-then-is_empty c = lines_none c.args.net.now c.args.source c.args.copies.now c.requires.source (eqb-true (length c.args.copies.now) 0 (sym c.is_empty.ensures ∙ c.if-is_empty.true))

pub returns : goal.returns
returns c =
    lines_joined c.args.net.now c.lines_of_copies.new.net c.both_faults.new.net c.args.source c.in_ok-own.own c.in_ok-faults.faults c.args.copies.now
    (some_copies (length c.args.copies.now) (sym c.is_empty.ensures ∙ c.if-is_empty.false))
    c.in_ok-own.ensures c.in_ok-faults.ensures
