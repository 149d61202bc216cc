-- What running a module that shows several results writes: in each cycle the lines of each, in their order, as where it
-- stands alone, with its name behind the cycle's number; up to the first cycle by which the end of each was seen.
use Rattle.std.specs.Prelude.{◌≡◌, ℕ, zero, suc, Bool, false, ◌&&◌, ◌||◌, not, nat_le, List, [], ◌∷◌, ◌++◌, map, Option, None, Some, codes, decimal, if◌then◌else◌}
use Rattle.std.specs.List.{AllByRecursion, flat_map, list_all}
use Rattle.gl_values.specs.declared.kind.Kind.{Kind}
use Rattle.gl_outside.specs.Counts.{Rose}
use Rattle.gl_outside.specs.States.{SinkState, Appends, AppendsFront}
use Rattle.gl_schema.specs.declared.schema.Column.{Column}
use Rattle.gl_schema.specs.declared.schema.Schema.{Schema}
use Rattle.gl_schema.specs.Beats.{Beats, last_cycle}
use Rattle.gl_schema.specs.Ports.{PortValues, out_column}
use Rattle.gl_schema.specs.Schemas.{kinds_of}
use Rattle.gl_schema.specs.Seen.{Shown, shown, values_text}
use Rattle.gl_vcd.specs.Signals.{seen_below}
use Rattle.gl_testbench.specs.Views.{seen_as}
use Rattle.gl_verilog.specs.Module.{Module, Nets, Memories}
use Rattle.gl_verilog.specs.Run.{port_of}
use Rattle.gl_verilog.specs.declared.start.Start.{Start}
use Rattle.gl_runner.specs.declared.executing.Outcome.{Outcome}
use Rattle.gl_runner.specs.declared.executing.Outcome.TheVariants.{Done, WriteFault, Memory}
use Rattle.gl_runner.specs.declared.faces.Face.{Face}
use Rattle.gl_runner.specs.Ends.{IsFirstEnd}
use Rattle.gl_runner.specs.Prints.{EndsWithin, IsRunOver}
use Rattle.gl_runner.specs.Watches.{has_group}

-- ---- one of the results

-- the names of its columns' ports where it stands alone
abbrev pub outs_of : Face → List (List ℕ)
outs_of f = map (λ (c : Column). out_column c.name) f.columns

-- what it shows in a cycle of the file
abbrev pub shown_by : Face → PortValues → ℕ → Shown
shown_by f port n = shown (seen_as f.name port) (outs_of f) n

-- whether that a further group came was told before a cycle
abbrev pub told_by : Face → PortValues → ℕ → Bool
told_by f port n = has_group (seen_below (seen_as f.name port) (outs_of f) n)

-- ---- lines with a name

-- a line: the cycle, the name, and what is told
abbrev pub line_as : List ℕ → ℕ → List ℕ → List ℕ
line_as name cycle told = decimal cycle ++ 44 ∷ (name ++ told)

-- the line of a result's row under the result's name, if a row is shown
abbrev pub row_as : List ℕ → List Kind → ℕ → Option (List ℕ) → List ℕ
row_as name kinds cycle None = []
row_as name kinds cycle (Some row) = line_as name cycle (values_text kinds row ++ 10 ∷ [])

-- the lines of a cycle: overflow where it is told for the first time, then the row, then the end
abbrev pub lines_as : List ℕ → List Kind → Bool → Shown → List ℕ
lines_as name kinds told s =
    (if s.group && not told then line_as name s.cycle (codes ",overflow\n") else [])
    ++ (row_as name kinds s.cycle s.row ++ (if s.end then line_as name s.cycle (codes ",end\n") else []))

-- the lines of one result in a cycle
abbrev pub lines_in : PortValues → ℕ → Face → List ℕ
lines_in port n f = lines_as f.name (kinds_of f.columns) (told_by f port n) (shown_by f port n)

-- the lines of all results in one cycle, in their order
abbrev pub all_lines : List Face → PortValues → ℕ → List ℕ
all_lines faces port n = flat_map (lines_in port n) faces

-- the lines of all results from the first cycle through this one
abbrev pub lines_through : List Face → PortValues → ℕ → List ℕ
lines_through faces port zero = all_lines faces port 0
lines_through faces port (suc n) = lines_through faces port n ++ all_lines faces port (suc n)

-- ---- the end

-- the end was seen in one of the cycles before this one, from the last beat's on
abbrev pub ended_before : ℕ → (ℕ → Bool) → ℕ → Bool
ended_before last ends zero = false
ended_before last ends (suc n) = ended_before last ends n || (nat_le last n && ends n)

-- the end of each result was seen, in this cycle or in an earlier one
abbrev pub all_ended : List Face → ℕ → PortValues → ℕ → Bool
all_ended faces last port n = list_all (λ f. ended_before last (λ k. (shown_by f port k).end) (suc n)) faces

-- ---- what was written

-- the lines of all results were written, through the cycle by which each result has ended
pub record WritesAll (faces : List Face) (beats : Beats) (port : PortValues) (old new : Option (List ℕ)) : Type 0
  where
    pub ended : ℕ
    pub is : IsFirstEnd beats (all_ended faces (last_cycle beats) port) ended
    pub taken : Appends old new (lines_through faces port ended)

-- the first bytes of all results' lines were written, perhaps none and perhaps all
pub record WritesAllFront (faces : List Face) (beats : Beats) (port : PortValues) (old new : Option (List ℕ))
    : Type 0 where
  pub ended : ℕ
  pub is : IsFirstEnd beats (all_ended faces (last_cycle beats) port) ended
  pub taken : AppendsFront old new (lines_through faces port ended)

-- the end of each result is seen in a cycle from the last beat's on, at most so many cycles after it
abbrev pub AllEndWithin : ℕ → Beats → List Face → PortValues → Type 0
AllEndWithin latency beats faces port =
    AllByRecursion (λ f. EndsWithin latency beats (outs_of f) (seen_as f.name port)) faces

-- a fact of the ports in each run of a module from this start over these beats in which the ends come in time
abbrev pub OfTimelyFaces : ℕ → Module → Schema → Beats → Start → List Face → (PortValues → Type 0) → Type 0
OfTimelyFaces latency m schema beats start faces P =
    (value : ℕ → Nets) (word : ℕ → Memories) → IsRunOver m schema beats start value word
    → AllEndWithin latency beats faces (port_of m value) → P (port_of m value)

-- how a run ended: the lines of each run were written and nothing failed, or the sink failed behind a front of them, or
-- memory ran out and nothing was put
abbrev pub RanAll : ((PortValues → Type 0) → Type 0) → List Face → Beats → SinkState → SinkState → Outcome → Type 0
RanAll OfRuns faces beats old new Done =
    (new.faults ≡ old.faults) × OfRuns (λ port. WritesAll faces beats port old.taken new.taken)
RanAll OfRuns faces beats old new WriteFault =
    Rose old.faults new.faults × OfRuns (λ port. WritesAllFront faces beats port old.taken new.taken)
RanAll OfRuns faces beats old new Memory = new ≡ old
