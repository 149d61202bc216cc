use Rattle.std.proofs.Common.{◌∙◌, ap}
use Rattle.std.specs.List.{list_all}
use Rattle.gl_runner.specs.declared.naming.NamedResult.{NamedResult}
use Rattle.gl_runner.proofs.Named.{all_over}
use Rattle.gl_runner.proofs.naming.NamedLinesWatch.is_over.Goals as goal

pub returns : goal.returns
returns c = λ m port n stands.
    c.are_over.ensures ∙ ap (list_all (λ (r : NamedResult). r.ended)) c.as_slice.ensures.value ∙ all_over c.args.self.now.last port n c.args.self.now.faces.now c.args.self.now.results.items stands
