use Rattle.std.proofs.Common.{◌∙◌, refl, sym, subst}
use Rattle.gl_vcd.specs.Lexing.{token_of}
use Rattle.gl_vcd.specs.Reading.{Step}
use Rattle.gl_vcd.specs.Standing.{Changed}
use Rattle.gl_vcd.proofs.Kept.{begun_by}
use Rattle.gl_vcd.proofs.changing.Changing.begin.Goals as goal

pub returns-in-Some-clause-reads : goal.returns-in-Some-clause-reads
returns-in-Some-clause-reads c = λ r k among.
    let t = token_of c.args.token in
    subst (λ (said : Step). Changed said c.begin_with.new.self c.begin_with.result)
    (sym (begun_by r t c.in-Some.first.now c.in-Some.rest.now (sym c.is_comment.ensures ∙ c.if-is_comment.false) (sym c.is_mark.ensures ∙ c.if-is_mark.false) c.in-Some.ensures.cases.0))
    (c.begin_with.ensures.reads r t refl k)
