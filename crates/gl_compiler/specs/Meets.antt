-- What a compiled text is: a module of the statement's name with the ports of the schema and of the result. Every run
-- of it is right for the statement: in any order of events, over any beats that keep the gaps, from any start. Its
-- overflow line says what has come by each cycle.
use Rattle.std.specs.Prelude.{◌≡◌, ◌≤◌, ℕ, ◌++◌, Bool, List, codes, length}
use Rattle.gl_outside.specs.declared.shelf.TheConstants.{TEXT_LIMIT}
use Rattle.gl_schema.specs.declared.schema.Column.{Column}
use Rattle.gl_gaps.specs.declared.Gaps.{Gaps}
use Rattle.gl_schema.specs.declared.schema.Schema.{Schema}
use Rattle.gl_schema.specs.Beats.{Beats}
use Rattle.gl_schema.specs.Ports.{PortValues}
use Rattle.gl_schema.specs.Right.{IsRight}
use Rattle.gl_query.specs.declared.tree.Statement.{Statement}
use Rattle.gl_query.specs.Shapes.{query_shape}
use Rattle.gl_query.specs.Columns.{columns_of, sources_of}
use Rattle.gl_query.specs.Windows.{has_time}
use Rattle.gl_query.specs.Accepted.{IsAccepted}
use Rattle.gl_query.specs.Results.{IsResult}
use Rattle.gl_verilog.specs.Module.{Module, Nets, Memories}
use Rattle.gl_verilog.specs.Run.{port_of}
use Rattle.gl_verilog.specs.Text.{HasModule}
use Rattle.gl_verilog_ports.specs.Profile.{HasProfile, result_names}
use Rattle.gl_testbench.specs.Runs.{HasRunsOver}
use Rattle.gl_testbench.specs.Driven.{Drives}
use Rattle.gl_testbench.specs.Overflow.{TellsGroup}

-- the columns of a statement's result
abbrev pub result_columns : Schema → Statement → List Column
result_columns schema statement = columns_of (sources_of schema) (query_shape statement.query)

-- the circuit of a statement takes ticks where the statement has a window of time
abbrev pub takes_ticks : Statement → Bool
takes_ticks statement = has_time (query_shape statement.query)

-- a fact holds of the beats and of what is seen on the result's columns, whatever drives the module
abbrev pub WhereDriven : Module → Schema → Gaps → (Beats → List (List ℕ) → PortValues → Type 0) → Type 0
WhereDriven m schema gaps P = (beats : Beats) (value : ℕ → Nets) (word : ℕ → Memories)
    → Drives m schema gaps beats value word → P beats (result_names m) (port_of m value)

-- the text has a module of the statement's name, whose ports are in order the clock, the inputs of the schema, the tick
-- where the statement has a window of time, and the outputs of the result; there is a run of it from any start over any
-- beats of the schema, and whatever drives it, what is seen is right for the statement, within the latency, and the
-- overflow line never falls, and is 1 only where what has come has a result that spills; it is no longer than a text that
-- is read may be
pub record Meets (schema : Schema) (statement : Statement) (latency : ℕ) (gaps : Gaps) (text : List ℕ) : Type 0 where
  pub accepted : IsAccepted schema statement
  pub design : Module
  pub has : HasModule text design
  pub fits : length text ≤ TEXT_LIMIT
  pub name : design.name ≡ codes "q__" ++ statement.name.text
  pub face : HasProfile (takes_ticks statement) design schema (result_columns schema statement)
  pub runs : HasRunsOver design schema
  pub right : WhereDriven design schema gaps (IsRight (IsResult schema statement) latency)
  pub group : WhereDriven design schema gaps (TellsGroup (IsResult schema statement))
