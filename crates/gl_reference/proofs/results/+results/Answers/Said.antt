-- What is said of a query and of an answer over sources.
use Rattle.std.proofs.Common.{List, Bool}
use Rattle.gl_query.specs.declared.tree.Query.{Query}
use Rattle.gl_query.specs.Shapes.{query_shape}
use Rattle.gl_query.specs.Accepted.{IsAcceptedOver}
use Rattle.gl_query.specs.Laws.{scope_of}
use Rattle.gl_query.specs.Results.{IsResultIn}
use Rattle.gl_reference.specs.declared.answers.Answer.{Answer}
use Rattle.gl_reference.specs.Sources.{env_view}
use Rattle.gl_reference.specs.declared.columns.Source.{Source as Given}

-- a query is accepted over sources, and an answer is a result of a query over them
abbrev pub Accepted : List Given → Bool → Query → Type 0
Accepted sources timed q = IsAcceptedOver (scope_of (env_view sources) timed) (query_shape q)

abbrev pub Gives : List Given → Answer → Query → Type 0
Gives sources a q = IsResultIn (query_shape q) (env_view sources) a.rows a.spill
