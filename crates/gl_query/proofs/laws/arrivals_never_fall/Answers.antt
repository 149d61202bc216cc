use Rattle.gl_query.proofs.Rising.{never_falling, sources_never_fall}
use Rattle.gl_query.proofs.laws.arrivals_never_fall.Goals as goal

pub returns-clause-sources : goal.returns-clause-sources
returns-clause-sources c = sources_never_fall

pub returns-clause-results : goal.returns-clause-results
returns-clause-results c = never_falling
