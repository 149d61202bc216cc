-- Copies behind slots, and what joins them.
use Rattle.std.specs.Prelude.{◌≡◌, ℕ, ◌+◌, ◌*◌, ◌<◌, List, [], ◌∷◌, length, Option, Some, slice_get}
use Rattle.gl_net.specs.declared.node.Bus.{Bus}
use Rattle.gl_net.specs.declared.node.Bit.{Bit}
use Rattle.gl_net.specs.Net.{Net, Run, IsRun, IsBus, Keeps}
use Rattle.gl_wire.specs.declared.emitted.Emitted.{Emitted}
use Rattle.gl_wire.specs.declared.emitted.Faults.{Faults}
use Rattle.gl_wire.specs.declared.wire.Wire.{Wire}
use Rattle.gl_wire.specs.Costs.{CostsAtMost, nodes_alone}
use Rattle.gl_wire.specs.Faults.{AreLines, line_of, lines_of}
use Rattle.gl_wire.specs.Shapes.{IsDelayed}
use Rattle.gl_wire.specs.Spills.{Lines, SameLines, both_lines}
use Rattle.gl_wire.specs.Wire.{IsWire, carried, line_at, widths}
use Rattle.gl_wire.specs.Lift.{tuple_of_any}
use Rattle.gl_wire.specs.Rotates.{lines_of_all}
use Rattle.gl_wire_registers.specs.Joins.{columns_of, gives_of, told_of}
use Rattle.gl_wire_registers.specs.Lines.{held_of}
use Rattle.gl_slots.specs.Costs.{cost_of_back}
use Rattle.gl_slots.specs.Keys.{line_of_further, with_keys}

-- the width of keys, that of the first one
abbrev pub width_of_keys : List Bus → ℕ
width_of_keys [] = 0
width_of_keys (b ∷ bs) = b.width

-- keys of the same width are in the netlist
pub record AreKeyBuses (net : Net) (keys : List Bus) : Type 0 where
  pub each : (k : ℕ) (b : Bus) → slice_get keys k ≡ Some b → IsBus net b
  pub same_width : (k : ℕ) (b : Bus) → slice_get keys k ≡ Some b → b.width ≡ width_of_keys keys

-- a wire with a bus in front of its columns
abbrev pub keyed_wire : Bus → Wire → Wire
keyed_wire key w = record { valid = w.valid; eos = w.eos; columns = key ∷ w.columns }

-- the wires of the first n copies, each with its key
pub record AreKeyed (copies : List Emitted) (keys : List Bus) (n : ℕ) (ws : List Wire) : Type 0 where
  pub count : length ws ≡ n
  pub each : (k : ℕ) (e : Emitted) (b : Bus) → k < n → slice_get copies k ≡ Some e → slice_get keys k ≡ Some b
      → slice_get ws k ≡ Some (keyed_wire b e.wire)

-- the lines of a source, of all copies, and that of further keys
abbrev pub all_lines : Run → Faults → Option Bit → List Emitted → Lines
all_lines run source further copies =
    both_lines (lines_of run source) (both_lines (lines_of_all (told_of run copies) (length copies))
    (line_of_further (line_of run further)))

pub record JoinsFaults (old new : Net) (source : Faults) (further : Option Bit) (copies : List Emitted) (faults : Faults)
    : Type 0 where
  pub keeps : Keeps old new
  pub cost : CostsAtMost old new (nodes_alone (length copies * 2 + 2))
  pub are : AreLines new faults
  pub told : (run : Run) → IsRun new run → SameLines (lines_of run faults) (all_lines run source further copies)

-- a wire behind copies, with the keys in front, and all lines
pub record JoinsAll (old new : Net) (source : Faults) (further : Option Bit) (close : Bit) (keys : List Bus)
    (copies : List Emitted) (e : Emitted) : Type 0 where
  pub keeps : Keeps old new
  pub cost : CostsAtMost old new (cost_of_back (length copies) (width_of_keys keys ∷ columns_of copies))
  pub wire : IsWire new e.wire
  pub same_widths : widths e.wire.columns ≡ width_of_keys keys ∷ columns_of copies
  pub lines : AreLines new e.faults
  pub told : (run : Run) → IsRun new run → SameLines (lines_of run e.faults) (all_lines run source further copies)
  pub delayed : (run : Run) → IsRun new run
      → IsDelayed 1 (record {
        tuple = tuple_of_any (with_keys (held_of run keys) (gives_of run copies)) (length copies);
        ends = line_at run close;
      }) (carried run e.wire)
