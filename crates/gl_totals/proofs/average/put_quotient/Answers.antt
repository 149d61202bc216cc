use Rattle.std.proofs.Common.{ap, sym, ◌∙◌}
use Rattle.std.specs.Prelude.{Bool, if◌then◌else◌, pos}
use Rattle.std.proofs.lemmas.Result.{IfOk-weaker}
use Rattle.gl_values.specs.Kinds.{number_in, signed_number}
use Rattle.gl_totals.specs.Averages.{IsQuotient}
use Rattle.gl_totals.specs.Costs.{cost_of_divided, cost_of_quotient}
use Rattle.gl_totals.proofs.QuotientNet.{number_as, quotient_within}
use Rattle.gl_totals.proofs.average.put_quotient.Goals as goal

pub returns-then-is_signed : goal.returns-then-is_signed
returns-then-is_signed c =
    let f = c.args.fraction in
    let most = cost_of_quotient f.top.width f.bottom.width in
    IfOk-weaker c.put_signed.result (IsQuotient c.args.net.now c.put_signed.new.net most (signed_number f.top.width) f)
    (IsQuotient c.args.net.now c.put_signed.new.net most (number_in c.args.kind f.top.width) f)
    (λ q. number_as c.args.net.now c.put_signed.new.net most (signed_number f.top.width) (number_in c.args.kind f.top.width) f q
    (λ x. sym (ap (λ (b : Bool). if b then signed_number f.top.width x else pos x) (sym c.is_signed.ensures ∙ c.if-is_signed.true)))) c.put_signed.ensures

pub returns : goal.returns
returns c =
    let f = c.args.fraction in
    IfOk-weaker c.put_divided.result (IsQuotient c.args.net.now c.put_divided.new.net (cost_of_divided f.top.width f.bottom.width) pos f)
    (IsQuotient c.args.net.now c.put_divided.new.net (cost_of_quotient f.top.width f.bottom.width) (number_in c.args.kind f.top.width) f)
    (λ q h. number_as c.args.net.now c.put_divided.new.net (cost_of_quotient f.top.width f.bottom.width) pos (number_in c.args.kind f.top.width) f q
    (λ x. sym (ap (λ (b : Bool). if b then signed_number f.top.width x else pos x) (sym c.is_signed.ensures ∙ c.if-is_signed.false)))
    (quotient_within c.args.net.now c.put_divided.new.net pos f q h)) c.put_divided.ensures
