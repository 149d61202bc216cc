use Rattle.std.proofs.Common.{◌∙◌, sym, ap, subst}
use Rattle.gl_vcd.specs.Lexing.{token_of}
use Rattle.gl_vcd.specs.Reading.{Changes, Comment, Step, Vector}
use Rattle.gl_vcd.specs.Standing.{Changed, KeepsNext, waiting_of}
use Rattle.gl_vcd.proofs.Kept.{next_among}
use Rattle.gl_vcd.proofs.changing.Changing.take.Goals as goal

pub returns-in-Change-clause-reads : goal.returns-in-Change-clause-reads
returns-in-Change-clause-reads c = λ r k.
    let stage = k.stage' ∙ ap waiting_of c.in-Change.is in
    subst (λ (said : Step). Changed said c.begin.new.self c.begin.result) (sym (next_among r (token_of c.args.token) Changes stage)) (c.begin.ensures.reads r k stage)

pub returns-in-Comment-clause-reads : goal.returns-in-Comment-clause-reads
returns-in-Comment-clause-reads c = λ r k.
    let stage = k.stage' ∙ ap waiting_of c.in-Comment.is in
    subst (λ (said : Step). KeepsNext said c.pass.new.self) (sym (next_among r (token_of c.args.token) Comment stage)) (c.pass.ensures.reads r k stage)

pub returns-in-Code-clause-reads : goal.returns-in-Code-clause-reads
returns-in-Code-clause-reads c = λ r k.
    let stage = k.stage' ∙ ap waiting_of c.in-Code.is in
    subst (λ (said : Step). Changed said c.give.new.self c.give.result) (sym (next_among r (token_of c.args.token) (Vector c.in-Code.at c.in-Code.digits.now) stage)) (c.give.ensures.reads r k.holds)
