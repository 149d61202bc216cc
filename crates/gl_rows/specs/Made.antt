-- What is made of columns: buses that carry values of a run, in every cycle.
use Rattle.std.specs.Prelude.{◌≡◌, ℕ, ◌-◌, ◌*◌, ◌/◌, ◌%◌, ◌^◌, List, Some, length, map, slice_get}
use Rattle.gl_values.specs.Kinds.{number_in, number_of, shifted_down, signed_number, width_of, word_of}
use Rattle.gl_values.specs.Results.{Row}
use Rattle.gl_values.specs.declared.kind.Kind.{Kind}
use Rattle.gl_algebra.specs.declared.node.ColOp.{ColOp}
use Rattle.gl_algebra.specs.declared.node.Operand.{Operand}
use Rattle.gl_algebra.specs.Columns.{kind_of_op, kind_of_operand}
use Rattle.gl_algebra.specs.Values.{Sets, value_of_op, value_of_operand}
use Rattle.gl_values.specs.declared.op.Op.{Op}
use Rattle.gl_values.specs.Operators.{cast_of, operate, result_kind, sort_of}
use Rattle.gl_net.specs.declared.node.Bus.{Bus}
use Rattle.gl_net.specs.Builds.{IsHeldBus}
use Rattle.gl_net.specs.Net.{Net, Run, IsRun, IsBus, Keeps, binary_width}
use Rattle.gl_rows.specs.Gates.{gate_of, gated, top_turned}
use Rattle.gl_wire.specs.Costs.{CostsAtMost, nodes_alone}
use Rattle.gl_wire.specs.Wire.{AreBuses, row_at, widths}

-- the buses of the parameters, in the order of their numbers
pub record AreHeldBuses (net : Net) (words : List Bus) : Type 0 where
  pub each : (number : ℕ) (b : Bus) → slice_get words number ≡ Some b → IsHeldBus net number b

-- columns of these kinds, beside the buses of the parameters
pub record IsSource (net : Net) (columns : List Bus) (kinds : List Kind) (words : List Bus) : Type 0 where
  pub buses : AreBuses net columns
  pub same_widths : widths columns ≡ map width_of kinds
  pub held : AreHeldBuses net words

-- a bus of a width that carries this value in every cycle of every run, and at most so many nodes for it
pub record Carries (old new : Net) (most width : ℕ) (value : Run → ℕ → ℕ) (b : Bus) : Type 0 where
  pub keeps : Keeps old new
  pub cost : CostsAtMost old new (nodes_alone most)
  pub bus : IsBus new b
  pub same_width : b.width ≡ width
  pub carries : (run : Run) → IsRun new run → (t : ℕ) → run.at t b.node ≡ value run t

-- a bus for each item, of its kind, which carries its value of the row, and at most so many nodes for each
pub record AreMade {Item : Type 0} (old new : Net) (most : ℕ) (columns : List Bus) (kind_of : Item → Kind)
    (value_of : Sets → Row → Item → ℕ)
    (items : List Item) (bs : List Bus) : Type 0 where
  pub keeps : Keeps old new
  pub cost : CostsAtMost old new (nodes_alone (most * length items))
  pub buses : AreBuses new bs
  pub same_widths : widths bs ≡ map width_of (map kind_of items)
  pub row : (run : Run) → IsRun new run → (t : ℕ)
      → row_at run t bs ≡ map (value_of run.held (row_at run t columns)) items

-- the value of an operand, for a node at most
abbrev pub IsOperand : Net → Net → List Bus → List Kind → Operand → Bus → Type 0
IsOperand old new columns kinds operand b =
    Carries old new 1 (width_of (kind_of_operand kinds operand))
    (λ run t. value_of_operand run.held (row_at run t columns) operand) b

-- a bus for each operand, with the operand's kind and its value of the row, for one node at most
abbrev pub AreOperands : Net → Net → List Bus → List Kind → List Operand → List Bus → Type 0
AreOperands old new columns kinds operands bs =
    AreMade old new 1 columns (kind_of_operand kinds) value_of_operand operands bs

-- the value of an operation, for seven nodes at most: a literal, and what a shift of a number with a sign takes
abbrev pub IsOperation : Net → Net → List Bus → List Kind → ColOp → Bus → Type 0
IsOperation old new columns kinds op b =
    Carries old new 7 (width_of (kind_of_op kinds op)) (λ run t. value_of_op run.held kinds (row_at run t columns) op) b

-- a bus for each operation, with its kind and its value of the row, for seven nodes at most
abbrev pub AreOperations : Net → Net → List Bus → List Kind → List ColOp → List Bus → Type 0
AreOperations old new columns kinds ops bs =
    AreMade old new 7 columns (kind_of_op kinds) (λ sets. value_of_op sets kinds) ops bs

-- the bus's value as another kind, for five nodes at most
abbrev pub IsCast : Net → Net → Kind → Kind → Bus → Bus → Type 0
IsCast old new from to bus b = Carries old new 5 (width_of to) (λ run t. cast_of from to (run.at t bus.node)) b

-- what an operator gives of two buses of a kind, for four nodes at most
abbrev pub IsOperated : Net → Net → Op → Kind → Bus → Bus → Bus → Type 0
IsOperated old new op kind left right b =
    Carries old new 4 (width_of (result_kind (sort_of op) kind))
    (λ run t. operate op kind (run.at t left.node) (run.at t right.node)) b

-- what an operator's gate gives of two buses
abbrev pub IsGated : Net → Net → Op → Bus → Bus → Bus → Type 0
IsGated old new op left right b =
    Carries old new 1 (binary_width (gate_of op) left.width)
    (λ run t. gated op left.width (run.at t left.node) (run.at t right.node)) b

-- a bus carries what an operator's gate makes of two others whose highest bits are turned
abbrev pub IsGatedTurned : Net → Net → Op → Bus → Bus → Bus → Type 0
IsGatedTurned old new op left right b =
    Carries old new 4 (binary_width (gate_of op) left.width)
    (λ run t. gated op left.width (top_turned left.width (run.at t left.node)) (top_turned left.width (run.at t right.node))) b

-- the word of a width that stands for a bus's number in two's complement
abbrev pub IsExtended : Net → Net → ℕ → Bus → Bus → Type 0
IsExtended old new width bus b =
    Carries old new 5 width (λ run t. word_of width (signed_number bus.width (run.at t bus.node))) b

-- the word of a width that stands for a bus's number, where a kind says whether it has a sign
abbrev pub IsNumber : Net → Net → Kind → ℕ → Bus → Bus → Type 0
IsNumber old new kind width bus b =
    Carries old new 5 width (λ run t. word_of width (number_of kind (run.at t bus.node))) b

-- the lowest bits of a bus, or all of them with zero bits above
abbrev pub AreLow : Net → Net → ℕ → Bus → Bus → Type 0
AreLow old new width bus b = Carries old new 2 width (λ run t. run.at t bus.node % 2 ^ width) b

-- the highest bits of a bus, or all of them with zero bits below
abbrev pub AreHigh : Net → Net → ℕ → Bus → Bus → Type 0
AreHigh old new width bus b =
    Carries old new 2 width (λ run t. run.at t bus.node / 2 ^ (bus.width - width) * 2 ^ (width - bus.width)) b

-- the word of a width that stands for the number of all bits of a bus, where a kind says whether it has a sign
abbrev pub IsNumberIn : Net → Net → Kind → ℕ → Bus → Bus → Type 0
IsNumberIn old new kind width bus b =
    Carries old new 5 width (λ run t. word_of width (number_in kind bus.width (run.at t bus.node))) b

-- a bus's bits from a place on, in their own width, for six nodes at most
abbrev pub IsShiftedDown : Net → Net → Kind → ℕ → Bus → Bus → Type 0
IsShiftedDown old new kind by bus b =
    Carries old new 6 (width_of kind) (λ run t. shifted_down kind (run.at t bus.node) by) b
