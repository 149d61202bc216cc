-- A token that cannot stand there, one that passes a limit, and one that is taken.
use Rattle.std.proofs.Common.{refl, sym, ◌∙◌}
use Rattle.std.proofs.lemmas.Bool.{MatchBool-at_true, MatchBool-at_false}
use Rattle.gl_verilog_tokens.specs.View.{token_of}
use Rattle.gl_verilog_grammar.specs.View.{view}
use Rattle.gl_verilog_grammar.specs.Counting.{counts_of}
use Rattle.gl_verilog_grammar.specs.Answers.{stand}
use Rattle.gl_verilog_grammar.proofs.Runs.{goes, stops, passes}
use Rattle.gl_verilog_grammar.proofs.reading.Reading.advance.Goals as goal

pub returns-then-not-branch-clause-stops : goal.returns-then-not-branch-clause-stops
returns-then-not-branch-clause-stops c = λ at ts. (refl, stops (stand c.args.self.now c.args.counter.now) (token_of c.args.lexeme.token) (MatchBool-at_false _ _ c.if-not-branch.true c.in_ok-take.ensures) at ts)

pub returns-then-passes-clause-stops : goal.returns-then-passes-clause-stops
returns-then-passes-clause-stops c = λ at ts. (refl, passes (stand c.args.self.now c.args.counter.now) (view c.take.new.self) (counts_of c.passes.new.self) (token_of c.args.lexeme.token) (MatchBool-at_true _ _ c.if-not-branch.false c.in_ok-take.ensures) c.passes.ensures.counts (sym c.passes.ensures.is ∙ c.if-passes.true) at ts)

pub returns-clause-next : goal.returns-clause-next
returns-clause-next c = goes (stand c.args.self.now c.args.counter.now) (stand c.take.new.self c.passes.new.self) (token_of c.args.lexeme.token) (MatchBool-at_true _ _ c.if-not-branch.false c.in_ok-take.ensures) c.passes.ensures.place c.passes.ensures.counts (sym c.passes.ensures.is ∙ c.if-passes.false)
