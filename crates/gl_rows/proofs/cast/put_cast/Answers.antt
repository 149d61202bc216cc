use Rattle.std.proofs.Common.{sym, ◌∙◌}
use Rattle.std.proofs.lemmas.Result.{IfOk-weaker}
use Rattle.gl_rows.specs.Made.{AreHigh, IsCast, IsNumber}
use Rattle.gl_rows.proofs.CastNet.{high_casts, number_casts}
use Rattle.gl_rows.proofs.cast.put_cast.Goals as goal

pub returns-in-Numbers : goal.returns-in-Numbers
returns-in-Numbers c =
    let old = c.args.net.now in
    let new = c.put_number.new.net in
    let width = c.width.result in
    IfOk-weaker c.put_number.result (IsNumber old new c.args.from width c.args.bus) (IsCast old new c.args.from c.args.to c.args.bus)
    (λ b. number_casts old new c.args.bus b c.args.from c.args.to width c.width.ensures (sym c.family.ensures ∙ c.in-Numbers.is)) c.put_number.ensures

pub returns-in-Texts : goal.returns-in-Texts
returns-in-Texts c =
    let old = c.args.net.now in
    let new = c.high_bits.new.net in
    let width = c.width-in-Texts.result in
    IfOk-weaker c.high_bits.result (AreHigh old new width c.args.bus) (IsCast old new c.args.from c.args.to c.args.bus)
    (λ b. high_casts old new c.args.bus b c.args.from c.args.to width c.width-in-Texts.ensures (sym c.family.ensures ∙ c.in-Texts.is) c.requires.width) c.high_bits.ensures
