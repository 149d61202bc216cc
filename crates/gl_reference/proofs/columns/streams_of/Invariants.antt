use Rattle.std.proofs.Common.{◌≡◌, take}
use Rattle.gl_query.specs.Results.{streams_of}
use Rattle.gl_reference.specs.Sources.{env_view}
use Rattle.gl_reference.proofs.columns.streams_of.Given as goal

abbrev pub invariant-loop-source : goal.invariant-loop-source
invariant-loop-source l = l.out ≡ streams_of (env_view (take l.source-index l.sources))
