use Rattle.std.proofs.Common.{List, subst}
use Rattle.std.specs.List.{AllZip}
use Rattle.gl_outside.specs.States.{Wrote}
use Rattle.gl_runner.specs.declared.naming.NamedResult.{NamedResult}
use Rattle.gl_runner.specs.Naming.{StandsNamed}
use Rattle.gl_runner.specs.Several.{all_lines}
use Rattle.gl_runner.proofs.naming.NamedLinesWatch.cycle.Goals as goal

pub returns-clause-wrote : goal.returns-clause-wrote
returns-clause-wrote g c = λ port made stands.
    let faces = c.args.self.now.faces.now in
    let last = c.args.self.now.last in
    let n = c.args.made.now.cycle in
    subst (λ (x : List NamedResult). AllZip (StandsNamed last port n) faces x → Wrote (g.K.Sink.state c.args.out.now) (g.K.Sink.state c.put_all.new.out) (all_lines faces port n) c.put_all.result) c.as_mut_slice.ensures.value
    (c.put_all.ensures.wrote port made) stands
