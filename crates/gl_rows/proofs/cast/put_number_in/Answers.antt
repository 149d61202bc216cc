use Rattle.std.proofs.Common.{sym, ◌∙◌}
use Rattle.std.proofs.lemmas.Result.{IfOk-weaker}
use Rattle.gl_rows.specs.Made.{AreLow, IsExtended, IsNumberIn}
use Rattle.gl_rows.proofs.CastNet.{number_in_plain, number_in_signed}
use Rattle.gl_rows.proofs.cast.put_number_in.Goals as goal

pub returns-then-is_signed : goal.returns-then-is_signed
returns-then-is_signed c =
    let old = c.args.net.now in
    let new = c.put_signed.new.net in
    IfOk-weaker c.put_signed.result (IsExtended old new c.args.width c.args.bus) (IsNumberIn old new c.args.kind c.args.width c.args.bus)
    (λ b. number_in_signed old new c.args.kind c.args.width c.args.bus b (sym c.is_signed.ensures ∙ c.if-is_signed.true)) c.put_signed.ensures

pub returns : goal.returns
returns c =
    let old = c.args.net.now in
    let new = c.low_bits.new.net in
    IfOk-weaker c.low_bits.result (AreLow old new c.args.width c.args.bus) (IsNumberIn old new c.args.kind c.args.width c.args.bus)
    (λ b. number_in_plain old new c.args.kind c.args.width c.args.bus b (sym c.is_signed.ensures ∙ c.if-is_signed.false)) c.low_bits.ensures
