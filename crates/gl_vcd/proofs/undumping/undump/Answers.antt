use Rattle.std.proofs.Common.{◌∙◌}
use Rattle.gl_vcd.proofs.Went.{err_undumps, judged_ok, ok_there, shows_undumps}
use Rattle.gl_vcd.proofs.undumping.undump.Goals as goal

pub returns-in-Err-judge : goal.returns-in-Err-judge
returns-in-Err-judge g c =
    let d = c.in-Ok.ensures in
    err_undumps c.args.text.now (g.K.Sink.state c.args.out.now) _ c.in-Err-judge.stop c.stopped-in-Err-judge.result d.same (c.in-Err-judge.ensures d.read d.behind) c.stopped-in-Err-judge.ensures

pub returns : goal.returns
returns g c =
    let d = c.in-Ok.ensures in
    let told = ok_there _ (judged_ok _ c.judge.result c.in_default.not-Err (c.judge.ensures d.read d.behind)) in
    shows_undumps c.args.text.now told.0 (g.K.Sink.state c.args.out.now) (g.K.Sink.state c.show.new.out) c.show.result (d.same ∙ told.1) (c.show.ensures d.read told.0 d.behind told.1)
