use Rattle.std.proofs.Common.{sym}
use Rattle.gl_totals.proofs.ValueLemmas.{value_at_once, value_later}
use Rattle.gl_totals.proofs.total.put_value.Goals as goal

pub returns-in-Register : goal.returns-in-Register
returns-in-Register c =
    value_at_once c.args.net.now c.put_operand.new.net c.args.stream c.args.operand c.in_ok-value.value c.in_ok-value.ensures (sym c.in-Register.is)

pub returns-in_ok-held-in-Slots : goal.returns-in_ok-held-in-Slots
returns-in_ok-held-in-Slots c =
    value_later c.args.net.now c.put_operand.new.net c.later.new.net c.args.stream c.args.operand c.in_ok-value.value c.in_ok-held-in-Slots.held _ _ _ _
    c.in_ok-value.ensures c.in_ok-held-in-Slots.ensures (sym c.in-Slots.is)
