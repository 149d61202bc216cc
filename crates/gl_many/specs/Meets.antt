-- What the text of several statements is: one module with the ports of the schema and of each result. Every run of it is
-- right for each statement as if it stood alone: in any order of events, over any beats that keep the gaps, from any
-- start. Each result has its own latency and its own overflow line.
use Rattle.std.specs.Prelude.{◌≡◌, ℕ, ◌+◌, ◌*◌, ◌≤◌, ◌∷◌, ◌++◌, max, List, [], length, map, Option, Some, None, Bool, codes, is_some, unwrap_or, if◌then◌else◌}
use Rattle.std.specs.List.{AllByRecursion, flat_map, list_any, sum_by}
use Rattle.gl_outside.specs.declared.shelf.TheConstants.{TEXT_LIMIT}
use Rattle.gl_schema.specs.declared.schema.Column.{Column}
use Rattle.gl_gaps.specs.declared.Gaps.{Gaps}
use Rattle.gl_schema.specs.declared.schema.Schema.{Schema}
use Rattle.gl_gaps.specs.Keeps.{gaps_with}
use Rattle.gl_schema.specs.Ports.{out_column}
use Rattle.gl_schema.specs.Profile.{ProfilePort, clk, input, input_ports, output_ports}
use Rattle.gl_schema.specs.Right.{IsRight}
use Rattle.gl_query.specs.declared.tree.Statement.{Statement}
use Rattle.gl_query.specs.Accepted.{IsAccepted}
use Rattle.gl_query.specs.Columns.{sources_of}
use Rattle.gl_query.specs.Results.{IsResult}
use Rattle.gl_query.specs.Shapes.{query_shape}
use Rattle.gl_algebra.specs.declared.figures.Figures.{Figures}
use Rattle.gl_algebra.specs.Roots.{output_part}
use Rattle.gl_figures.specs.Reach.{keys_of_reached, lean_of_reached, store_of_reached}
use Rattle.gl_elaborate.specs.Figures.{query_figures}
use Rattle.gl_elaborate.specs.Plans.{Several, plans_of}
use Rattle.gl_elaborate.specs.Whole.{statement_ticks}
use Rattle.gl_root_gaps.specs.Roots.{gap_with, ticks_with}
use Rattle.gl_verilog.specs.Cost.{memory_bits, register_bits}
use Rattle.gl_verilog.specs.Module.{Module}
use Rattle.gl_verilog.specs.Text.{HasModule}
use Rattle.gl_verilog_ports.specs.Profile.{declared, ports_of}
use Rattle.gl_testbench.specs.Runs.{HasRunsOver}
use Rattle.gl_testbench.specs.Driven.{OverRuns}
use Rattle.gl_testbench.specs.Overflow.{TellsGroup}
use Rattle.gl_testbench.specs.Views.{seen_as, within}
use Rattle.gl_compiler.specs.Meets.{result_columns, takes_ticks}

-- ---- figures

-- the figures of a statement among others: those of its query, form by form, since no root has spare copies here
abbrev pub own_figures : Schema → Statement → Figures
own_figures schema statement = query_figures (sources_of schema) (query_shape statement.query)

-- the cycles from the last beat to the end of a statement's result, whatever stands beside it
abbrev pub own_latency : Schema → Statement → ℕ
own_latency schema statement = (own_figures schema statement).le + 1

-- the longest of several
abbrev pub longest : Schema → List Statement → ℕ
longest schema [] = 0
longest schema (s ∷ ss) = max (own_latency schema s) (longest schema ss)

-- the cycles from a beat to the next, at least, for one of them: its figures', or those from tuple to tuple where ticks
-- are farther apart
abbrev pub own_gap : Schema → Statement → ℕ
own_gap schema statement = gap_with (statement_ticks schema statement) (own_figures schema statement).gt

-- and from a tick to the next one and to the end
abbrev pub own_tick_gap : Schema → Statement → ℕ
own_tick_gap schema statement =
    unwrap_or (ticks_with (statement_ticks schema statement)) (own_gap schema statement)

-- the greatest of these for all of them
abbrev pub shared_gap : Schema → List Statement → ℕ
shared_gap schema [] = 0
shared_gap schema (s ∷ ss) = max (own_gap schema s) (shared_gap schema ss)

abbrev pub shared_tick_gap : Schema → List Statement → ℕ
shared_tick_gap schema [] = 0
shared_tick_gap schema (s ∷ ss) = max (own_tick_gap schema s) (shared_tick_gap schema ss)

-- that of ticks is another one where ticks of some statement are farther apart than tuples
abbrev pub shared_ticks : Schema → List Statement → Option ℕ
shared_ticks schema ss =
    if list_any (λ s. is_some (statement_ticks schema s)) ss then Some (shared_tick_gap schema ss) else None

-- how far apart beats and ticks are to be for all of them
abbrev pub shared_gaps : Schema → List Statement → Gaps
shared_gaps schema ss = gaps_with (shared_gap schema ss) (shared_ticks schema ss)

-- ---- bits

-- the most register bits, and the most memory bits, of the circuit of a joint plan: what it counts once for each node
-- that some root reaches, and for each output
abbrev pub most_registers_of_all : Several → ℕ
most_registers_of_all all =
    64 * (lean_of_reached all.nodes all.roots + sum_by (output_part all.nodes) all.roots)
    + keys_of_reached all.nodes all.roots

abbrev pub most_memory_of_all : Several → ℕ
most_memory_of_all all = store_of_reached all.nodes all.roots

-- ---- ports

-- the circuit takes ticks where some statement has a window of time
abbrev pub take_ticks : List Statement → Bool
take_ticks statements = list_any takes_ticks statements

-- the ports of a statement's columns, by the names that they have where it stands alone
abbrev pub outs_of : Schema → Statement → List (List ℕ)
outs_of schema statement = map (λ (c : Column). out_column c.name) (result_columns schema statement)

-- a port of a result that stands beside others
abbrev pub port_among : List ℕ → ProfilePort → ProfilePort
port_among result p = record { direction = p.direction; name = within result p.name; width = p.width }

-- the outputs of a statement: those that it has where it stands alone, with its name in theirs
abbrev pub outputs_among : Schema → Statement → List ProfilePort
outputs_among schema statement = map (port_among statement.name.text) (output_ports (result_columns schema statement))

-- all ports but the clock: the inputs of the schema, with the tick where it is taken, and the outputs of each statement
abbrev pub profile_of_all : Schema → List Statement → List ProfilePort
profile_of_all schema statements =
    input_ports (take_ticks statements) schema ++ flat_map (outputs_among schema) statements

-- ---- the text

-- over beats that keep the gaps, and whatever drives the module, what is seen on the ports of a statement is right for
-- it, within its own latency, and its overflow line never falls, and is 1 only where what has come has a result of this
-- statement that spills
pub record IsRightAmong (schema : Schema) (gaps : Gaps) (design : Module) (statement : Statement) : Type 0 where
  pub right : OverRuns design schema gaps (λ beats port.
      IsRight (IsResult schema statement) (own_latency schema statement) beats (outs_of schema statement)
      (seen_as statement.name.text port))
  pub group : OverRuns design schema gaps (λ beats port.
      TellsGroup (IsResult schema statement) beats (outs_of schema statement) (seen_as statement.name.text port))

-- the text has one module, whose ports are in order the clock, the inputs of the schema and the outputs of each
-- statement, and which declares no more bits than their joint plan counts; there is a run of it from any start over any
-- beats of the schema, and it is right for each statement; it is no longer than a text that is read may be
pub record MeetTogether (schema : Schema) (statements : List Statement) (gaps : Gaps) (text : List ℕ) : Type 0 where
  pub accepted : AllByRecursion (IsAccepted schema) statements
  pub design : Module
  pub has : HasModule text design
  pub fits : length text ≤ TEXT_LIMIT
  pub name : design.name ≡ codes "q__many"
  pub face : ports_of design ≡ map declared (input clk 1 ∷ profile_of_all schema statements)
  pub few_registers : register_bits design ≤ most_registers_of_all (plans_of [] schema statements)
  pub few_memories : memory_bits design ≤ most_memory_of_all (plans_of [] schema statements)
  pub runs : HasRunsOver design schema
  pub each : AllByRecursion (IsRightAmong schema gaps design) statements
