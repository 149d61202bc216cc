use Rattle.std.proofs.Common.{◌≡◌, sym, subst}
use Rattle.std.specs.Prelude.{IfOk}
use Rattle.gl_query_reader.specs.Machine as machine
use Rattle.gl_query_reader.specs.Trees.{frames_of, leads}
use Rattle.gl_query_reader.proofs.terms.have_term.Goals as goal

pub returns : goal.returns
returns c = subst (λ (r : machine.Joined). IfOk c.after_query.result (λ o. leads o (frames_of c.after_query.new.frames.items) ≡ machine.after_query r.0 r.1 c.args.token.now)) (sym c.in_ok-query.ensures) c.after_query.ensures
