-- Columns made of a wire's columns, as an operator behind it.
use Rattle.std.proofs.Common.{List, map, Some, refl, arith}
use Rattle.std.proofs.lemmas.List.{length-map}
use Rattle.gl_values.specs.Kinds.{width_of}
use Rattle.gl_values.specs.declared.kind.Kind.{Kind}
use Rattle.gl_algebra.specs.declared.node.Operand.{Operand}
use Rattle.gl_algebra.specs.Columns.{kind_of_operand}
use Rattle.gl_algebra.specs.Results.{projected}
use Rattle.gl_net.specs.declared.node.Bus.{Bus}
use Rattle.gl_net.specs.Net.{Net}
use Rattle.gl_wire.specs.declared.emitted.Emitted.{Emitted}
use Rattle.gl_wire.specs.Blocks.{IsBehind}
use Rattle.gl_wire.specs.Shapes.{Steady}
use Rattle.gl_wire.specs.Wire.{IsWire, wire_of}
use Rattle.gl_rows.specs.Costs.{cost_of_items, projected_widths}
use Rattle.gl_rows.specs.Made.{AreOperands}
use Rattle.gl_rows.proofs.RowLemmas.{changed_now}

pub project_behind : (old new : Net) (a : Emitted) (kinds : List Kind) (items : List Operand) (bs : List Bus) → IsWire old a.wire
    → AreOperands old new a.wire.columns kinds items bs
    → IsBehind old new (λ sets. Steady 0 (λ row. Some (projected sets items row))) (projected_widths kinds items) (cost_of_items (projected_widths kinds items)) a (record { wire = wire_of a.wire.valid a.wire.eos bs; faults = a.faults })
project_behind old new a kinds items bs wire made = record {
  keeps = made.keeps;
  cost = record {
    nodes = omega (arith, made.cost.nodes, length-map (map (kind_of_operand kinds) items) width_of, length-map items (kind_of_operand kinds));
    registers = omega (arith, made.cost.registers);
    memories = omega (arith, made.cost.memories);
  };
  wire = record {
    valid = record { there = made.keeps.shapes a.wire.valid.node _ wire.valid.there };
    eos = record { there = made.keeps.shapes a.wire.eos.node _ wire.eos.there };
    columns = made.buses;
  };
  same_widths = made.same_widths;
  faults = refl;
  shape = λ run r. changed_now run a.wire bs (projected run.held items) (made.row run r);
}
