-- The stage is taken out, and every step puts another in its place.
use Rattle.std.proofs.Common.{Option, ap, subst, ◌∙◌}
use Rattle.gl_verilog_tokens.specs.View.{token_of}
use Rattle.gl_verilog_grammar.specs.declared.stage.Stage.{Stage}
use Rattle.gl_verilog_grammar.specs.Machine as machine
use Rattle.gl_verilog_grammar.specs.View.{view, stage_of, Moves}
use Rattle.gl_verilog_grammar.proofs.StageAside.{stage_aside}
use Rattle.gl_verilog_grammar.proofs.reading.Reading.take.Goals as goal

pub returns : goal.returns
unfolding view machine.step
returns c =
    let s : machine.State = view c.args.self.now in
    subst (λ (o : Option machine.State). Moves c.take_at.result o (view c.take_at.new.self))
    (ap (λ (x : Stage). machine.step_at (stage_of x) (record s { stage = stage_of c.replace-stage.new.dest }) (token_of c.args.lexeme.token)) c.replace-stage.ensures.value
    ∙ stage_aside (stage_of c.replace-stage.new.dest) (stage_of c.args.self.now.stage) s (token_of c.args.lexeme.token))
    c.take_at.ensures
