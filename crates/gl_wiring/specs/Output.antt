-- The output of a plan's circuit: a stage behind its wire, two lines that never fall behind its lines, and ports that
-- show them.
use Rattle.std.specs.Prelude.{ℕ, ◌+◌, Bool, true, false, List, [], ◌∷◌, ◌++◌, length}
use Rattle.std.specs.List.{AllZip, sum}
use Rattle.gl_values.specs.declared.kind.Kind.{Kind}
use Rattle.gl_net.specs.Net.{Net, Run, IsBit, IsPort, IsRun, Keeps}
use Rattle.gl_net.specs.PortValues.{PortShape}
use Rattle.gl_net.specs.declared.node.Bit.{Bit}
use Rattle.gl_net.specs.declared.node.Bus.{Bus}
use Rattle.gl_net.specs.declared.node.Direction.TheVariants.{Out}
use Rattle.gl_wiring.specs.Leaves.{widths_of}
use Rattle.gl_schema.specs.Ports.{rst, eos, tick, out_valid, out_column, out_eos, fault_group, fault_queue}
use Rattle.gl_schema.specs.declared.schema.Column.{Column}
use Rattle.gl_schema.specs.declared.schema.Schema.{Schema}
use Rattle.gl_wire.specs.Costs.{Cost, CostsAtMost}
use Rattle.gl_wire.specs.Faults.{line_of}
use Rattle.gl_wire.specs.Shapes.{IsDelayed}
use Rattle.gl_wire.specs.Wire.{carried, line_at}
use Rattle.gl_wire.specs.declared.emitted.Emitted.{Emitted}
use Rattle.gl_wire.specs.declared.wire.Wire.{Wire}
use Rattle.gl_wiring.specs.EmittedPorts.{input, output, parameter_inputs, streams_inputs}
use Rattle.gl_wiring.specs.Naming.{Naming, plain}
use Rattle.gl_wiring.specs.Root.{IsSticky, later_line}

-- ---- ports

-- an output for each column, with these bits
abbrev pub column_outputs : Naming → List ℕ → List (List ℕ) → List PortShape
column_outputs naming [] names = []
column_outputs naming (w ∷ widths) [] = []
column_outputs naming (w ∷ widths) (n ∷ names) =
    output (naming (out_column n)) w ∷ column_outputs naming widths names

-- the outputs of a result whose columns have these bits and names
abbrev pub result_outputs : Naming → List ℕ → List (List ℕ) → List PortShape
result_outputs naming widths names =
    output (naming out_valid) 1
    ∷ (column_outputs naming widths names ++ output (naming out_eos) 1 ∷ output (naming fault_group) 1
    ∷ output (naming fault_queue) 1 ∷ [])

-- and where it stands alone
abbrev pub named_outputs : List ℕ → List (List ℕ) → List PortShape
named_outputs = column_outputs plain

abbrev pub output_ports : List ℕ → List (List ℕ) → List PortShape
output_ports = result_outputs plain

-- the tick, where it is asked for
abbrev pub tick_input : Bool → List PortShape
tick_input true = input tick 1 ∷ []
tick_input false = []

-- the inputs of a schema from the reset to the end
abbrev pub early_inputs : Schema → List PortShape
early_inputs schema = input rst 1 ∷ (streams_inputs schema.streams ++ input eos 1 ∷ [])

-- those behind the end: the tick where it is asked for, and the parameters
abbrev pub late_inputs : Bool → List Column → List PortShape
late_inputs ticks parameters = tick_input ticks ++ parameter_inputs parameters

-- all inputs of a schema
abbrev pub input_ports : Bool → Schema → List PortShape
input_ports ticks schema =
    input rst 1 ∷ (streams_inputs schema.streams ++ input eos 1 ∷ late_inputs ticks schema.parameters)

-- all ports of a module for a schema and a result whose columns have these kinds and names
abbrev pub plan_ports : Bool → Schema → List Kind → List (List ℕ) → List PortShape
plan_ports ticks schema kinds names = input_ports ticks schema ++ output_ports (widths_of kinds) names

-- ---- lines that never fall

-- such a line behind another in each run, and what it costs at most
pub record IsFault (old new : Net) (most : Cost) (line : Run → ℕ → Bool) (fault : Bit) : Type 0 where
  pub keeps : Keeps old new
  pub cost : CostsAtMost old new most
  pub bit : IsBit new fault
  pub sticky : (run : Run) → IsRun new run → IsSticky (line run) (line_at run fault)

-- a register and a gate; and a register before them
abbrev pub group_cost : Cost
group_cost = record { nodes = 2; registers = 1; memories = 0 }

abbrev pub queue_cost : Cost
queue_cost = record { nodes = 3; registers = 2; memories = 0 }

-- ---- the output

-- a port for each column
abbrev pub AreShown : Naming → Net → List (List ℕ) → List Bus → Type 0
AreShown naming net names columns = AllZip (λ name b. IsPort net Out (naming (out_column name)) b.node) names columns

-- the ports that show a wire and two lines
pub record Shows (naming : Naming) (net : Net) (names : List (List ℕ)) (wire : Wire) (group queue : Bit) : Type 0 where
  pub valid : IsPort net Out (naming out_valid) wire.valid.node
  pub columns : AreShown naming net names wire.columns
  pub end : IsPort net Out (naming out_eos) wire.eos.node
  pub group' : IsPort net Out (naming fault_group) group.node
  pub queue' : IsPort net Out (naming fault_queue) queue.node

-- a stage behind the wire of a circuit, a line behind its line of further groups, and one a cycle later behind that of
-- its queues
pub record IsOutput (naming : Naming) (net : Net) (names : List (List ℕ)) (e : Emitted) : Type 0 where
  pub wire : Wire
  pub group : Bit
  pub queue : Bit
  pub shows : Shows naming net names wire group queue
  pub delayed : (run : Run) → IsRun net run → IsDelayed 1 (carried run e.wire) (carried run wire)
  pub group_line : (run : Run) → IsRun net run → IsSticky (line_of run e.faults.further) (line_at run group)
  pub queue_line : (run : Run) → IsRun net run → IsSticky (later_line (line_of run e.faults.passed)) (line_at run queue)

-- what an output costs at most, behind columns of these bits
abbrev pub output_cost : List ℕ → Cost
output_cost columns = record { nodes = length columns + 7; registers = sum columns + 5; memories = 0 }
