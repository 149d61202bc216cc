use Rattle.std.proofs.lemmas.Result.{IfOk-weaker}
use Rattle.gl_rows.specs.Made.{AreLow, IsExtended}
use Rattle.gl_rows.proofs.CastNet.{sign_lowest}
use Rattle.gl_rows.proofs.cast.put_signed.Goals as goal

pub returns : goal.returns
returns c =
    let old = c.args.net.now in
    let new = c.low_bits.new.net in
    IfOk-weaker c.low_bits.result (AreLow old new c.args.width c.args.bus) (IsExtended old new c.args.width c.args.bus)
    (λ b. sign_lowest old new c.args.width c.args.bus b c.if-bus-width.false) c.low_bits.ensures
