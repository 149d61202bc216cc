use Rattle.std.proofs.lemmas.Result.{err_from_is_err_and}
use Rattle.gl_top_inputs.proofs.Texts.{kept_ok, kept_close, kept_bad}
use Rattle.gl_top_inputs.proofs.judging.beats_of.Goals as goal

pub returns-in_err-beats-clause-exact : goal.returns-in_err-beats-clause-exact
returns-in_err-beats-clause-exact c =
    let p = err_from_is_err_and c.from_residual.result c.from_residual.ensures.1 in
    rw (p.1, p.2) (kept_bad c.args.schema.now c.args.gaps c.args.text.now _ c.in_err-beats.ensures.exact)

pub returns-in_err-keep-clause-exact : goal.returns-in_err-keep-clause-exact
returns-in_err-keep-clause-exact c =
    let p = err_from_is_err_and c.from_residual-in_err-keep.result c.from_residual-in_err-keep.ensures.1 in
    rw (p.1, p.2) (kept_close c.args.schema.now c.args.gaps c.args.text.now c.in_ok-beats.beats _ c.in_ok-beats.ensures.exact c.in_err-keep.ensures.exact)

pub returns-clause-exact : goal.returns-clause-exact
returns-clause-exact c = kept_ok c.args.schema.now c.args.gaps c.args.text.now c.in_ok-beats.beats c.in_ok-beats.ensures.exact c.in_ok-keep.ensures.exact
