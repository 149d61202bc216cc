-- What a load leaves: the text of its query, and what is told of that text's run.
use Rattle.std.specs.Prelude.{◌≡◌, ℕ, List}
use Rattle.gl_schema.specs.Schemas.{kinds_of}
use Rattle.gl_schema.specs.Beats.{inputs_of}
use Rattle.gl_schema.specs.Ports.{PortValues}
use Rattle.gl_schema.specs.Seen.{rows_of, seen, shown}
use Rattle.gl_query.specs.declared.tree.Statement.{Statement}
use Rattle.gl_query.specs.Results.{IsResult}
use Rattle.gl_verilog.specs.declared.start.Start.TheVariants.{Zero}
use Rattle.gl_compiler.specs.Built.{gaps_of, latency_of}
use Rattle.gl_compiler.specs.Queries.{IsQuery}
use Rattle.gl_compiler.specs.Meets.{Meets, result_columns}
use Rattle.gl_runner.specs.Prints.{IsEnd, OfEachRun}
use Rattle.gl_load.specs.Query.{load_schema, query_text}
use Rattle.gl_load.specs.Tuples.{load_beats}
use Rattle.gl_load.specs.Told.{summary_of}

-- in a run over n tuples the rows up to the cycle of its end are a result of the statement, and the summary tells of
-- them
pub record TellsRun (statement : Statement) (n : ℕ) (summary : List ℕ) (outs : List (List ℕ)) (port : PortValues)
    : Type 0 where
  pub ended : ℕ
  pub is : IsEnd (load_beats n) outs port ended
  pub result : IsResult load_schema statement (inputs_of (load_beats n)) (rows_of (seen port outs ended))
      (shown port outs ended).group
  pub told : summary ≡ summary_of n (kinds_of (result_columns load_schema statement)) (seen port outs ended) ended

-- the text meets the statement of the query, and the summary tells of each of its runs over n tuples, from registers
-- and words of 0
pub record IsLoad (n : ℕ) (summary text : List ℕ) : Type 0 where
  pub statement : Statement
  pub query' : IsQuery load_schema query_text statement
  pub meets : Meets load_schema statement (latency_of load_schema statement) (gaps_of load_schema statement) text
  pub told : OfEachRun text load_schema (load_beats n) Zero (TellsRun statement n summary)
