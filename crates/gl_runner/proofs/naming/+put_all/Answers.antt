use Rattle.gl_runner.specs.Naming.{StandsNamed}
use Rattle.gl_runner.proofs.Named.{first_broke, others_wrote, zip_parts}
use Rattle.gl_tuples.proofs.Puts.{failed}
use Rattle.gl_runner.proofs.naming.+put_all.Goals as goal

pub returns-in_err-put-clause-wrote : goal.returns-in_err-put-clause-wrote
returns-in_err-put-clause-wrote g t c = λ port made stands.
    let n = c.args.made.now.cycle in
    let parts = zip_parts (StandsNamed c.args.last port n) c.args.faces.now c.in-Some.others.now c.args.results.now c.in-Some-split_first_mut.rest.now c.in-Some.face.now c.in-Some-split_first_mut.first.now c.in-Some.ensures.cases.0 c.in-Some-split_first_mut.ensures.cases.0 stands in
    failed _ _ _ _ c.from_residual.result c.from_residual.ensures.1
    (first_broke port n c.args.faces.now c.in-Some.others.now c.in-Some.face.now (g.K.Sink.state c.args.out.now) (g.K.Sink.state c.put.new.out) c.in-Some.ensures.cases.0 (c.in_err-put.ensures.wrote port made parts.0))

pub returns-clause-wrote : goal.returns-clause-wrote
returns-clause-wrote g t c = λ port made stands.
    let n = c.args.made.now.cycle in
    let parts = zip_parts (StandsNamed c.args.last port n) c.args.faces.now c.in-Some.others.now c.args.results.now c.in-Some-split_first_mut.rest.now c.in-Some.face.now c.in-Some-split_first_mut.first.now c.in-Some.ensures.cases.0 c.in-Some-split_first_mut.ensures.cases.0 stands in
    others_wrote port n c.args.faces.now c.in-Some.others.now c.in-Some.face.now (g.K.Sink.state c.args.out.now) (g.K.Sink.state c.put.new.out) (g.K.Sink.state c.put_all.new.out) c.put_all.result
    c.in-Some.ensures.cases.0 (c.in_ok-put.ensures.wrote port made parts.0) (c.put_all.ensures.wrote port made parts.1)
