-- Which texts of several statements can be run, and over which runs of them something is said.
use Rattle.std.specs.Prelude.{◌≡◌, ℕ, ◌≤◌, ◌^◌, max, List, [], ◌∷◌, map}
use Rattle.std.specs.List.{AllByRecursion}
use Rattle.gl_schema.specs.declared.schema.Schema.{Schema}
use Rattle.gl_schema.specs.Beats.{Beats}
use Rattle.gl_schema.specs.Ports.{PortValues}
use Rattle.gl_schema.specs.Schemas.{IsSchema}
use Rattle.gl_query.specs.declared.tree.Statement.{Statement}
use Rattle.gl_verilog.specs.Module.{Module, Nets, Memories}
use Rattle.gl_verilog.specs.Run.{port_of}
use Rattle.gl_verilog.specs.Text.{HasModule}
use Rattle.gl_verilog.specs.declared.start.Start.{Start}
use Rattle.gl_compiler.specs.Meets.{result_columns}
use Rattle.gl_runner.specs.Cycles.{CanDrive}
use Rattle.gl_runner.specs.Faces.{HasFace}
use Rattle.gl_runner.specs.Prints.{IsRunOver}
use Rattle.gl_runner.specs.Several.{AllEndWithin}
use Rattle.gl_runner.specs.declared.faces.Face.{Face}
use Rattle.gl_many.specs.Compiles.{statements_in}
use Rattle.gl_many.specs.Meets.{MeetTogether, own_latency, shared_gap, shared_gaps, shared_ticks}
use Rattle.gl_many.specs.declared.compiling.Many.{Many}

-- where a statement's result is shown: its name, and its columns
abbrev pub face_of : Schema → Statement → Face
face_of schema s = record { name = s.name.text; columns = result_columns schema s }

-- what each statement shows as its result, in the order of the statements
abbrev pub faces_of : Schema → List Statement → List Face
faces_of schema statements = map (face_of schema) statements

-- the greatest of several numbers, or 0 where there is none
abbrev pub greatest : List ℕ → ℕ
greatest [] = 0
greatest (n ∷ ns) = max n (greatest ns)

-- a fact about the ports in each run of the text's module from this start over these beats
abbrev pub OfAllRuns : List ℕ → Schema → Beats → Start → (PortValues → Type 0) → Type 0
OfAllRuns text schema beats start P =
    (m : Module) (value : ℕ → Nets) (word : ℕ → Memories) → HasModule text m → IsRunOver m schema beats start value word
    → P (port_of m value)

-- the text has a module that these beats can drive and that has the ports of each result, and in each of its runs from this
-- start over these beats the end of each comes in time
pub record CanRunAll (text : List ℕ) (schema : Schema) (faces : List Face) (beats : Beats) (latency : ℕ)
    (start : Start) : Type 0 where
  pub design : Module
  pub has : HasModule text design
  pub drive : CanDrive design schema beats
  pub faces' : AllByRecursion (HasFace design) faces
  pub short : latency ≤ 2 ^ 32
  pub end : (value : ℕ → Nets) (word : ℕ → Memories) → IsRunOver design schema beats start value word
      → AllEndWithin latency beats faces (port_of design value)

-- the text meets its statements, within the latencies and the gaps that are printed
pub record AreRunnable (m : Many) : Type 0 where
  pub fine : IsSchema m.schema
  pub meets : MeetTogether m.schema (statements_in m) (shared_gaps m.schema (statements_in m)) m.text.items
  pub latencies : m.planned.latencies.items ≡ map (own_latency m.schema) (statements_in m)
  pub gap : m.planned.gap ≡ shared_gap m.schema (statements_in m)
  pub ticks : m.planned.ticks ≡ shared_ticks m.schema (statements_in m)
  pub short : AllByRecursion (λ latency. latency ≤ 2 ^ 32) m.planned.latencies.items
