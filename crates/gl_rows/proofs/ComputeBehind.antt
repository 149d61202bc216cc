-- A wire's columns and the operations over them, behind a stage.
use Rattle.std.proofs.Common.{◌≡◌, ℕ, ◌+◌, List, ◌++◌, map, length, length-append, Some, refl, sym, ap, ◌∙◌, arith}
use Rattle.std.specs.List.{sum}
use Rattle.std.proofs.lemmas.List.{length-map, map-append}
use Rattle.gl_values.specs.Kinds.{width_of}
use Rattle.gl_values.specs.declared.kind.Kind.{Kind}
use Rattle.gl_algebra.specs.declared.node.ColOp.{ColOp}
use Rattle.gl_algebra.specs.Columns.{kind_of_op}
use Rattle.gl_algebra.specs.Results.{computed}
use Rattle.gl_net.specs.declared.node.Bus.{Bus}
use Rattle.gl_net.specs.Net.{Net, Run, IsRun}
use Rattle.gl_net.proofs.Determined.{keeps_then}
use Rattle.gl_wire.specs.declared.emitted.Emitted.{Emitted}
use Rattle.gl_wire.specs.declared.wire.Wire.{Wire}
use Rattle.gl_wire.specs.Blocks.{IsBehind}
use Rattle.gl_wire.specs.Shapes.{Steady}
use Rattle.gl_wire.specs.Stages.{IsPad}
use Rattle.gl_wire.specs.Wire.{row_at, widths, wire_of}
use Rattle.gl_wire.proofs.ColumnLemmas.{row_at-append, widths-append}
use Rattle.gl_rows.specs.Costs.{computed_widths, cost_of_rows}
use Rattle.gl_rows.specs.Made.{AreOperations}
use Rattle.gl_rows.proofs.RowLemmas.{changed_later}

module _ (old mid new : Net) (a : Emitted) (kinds : List Kind) (ops : List ColOp) (made columns : List Bus) (is : columns ≡ a.wire.columns ++ made)
    (given : widths a.wire.columns ≡ map width_of kinds) (all : AreOperations old mid a.wire.columns kinds ops made) where
  out_widths : widths columns ≡ computed_widths kinds ops
  out_widths =
      ap widths is ∙ widths-append a.wire.columns made ∙ ap (λ l. l ++ widths made) given ∙ ap (λ l. map width_of kinds ++ l) all.same_widths
      ∙ sym (map-append width_of kinds (map (kind_of_op kinds) ops))

  -- each operation makes a column
  many : length (computed_widths kinds ops) ≡ length kinds + length ops
  many =
      length-map (kinds ++ map (kind_of_op kinds) ops) width_of ∙ length-append kinds (map (kind_of_op kinds) ops)
      ∙ ap (λ (n : ℕ). length kinds + n) (length-map ops (kind_of_op kinds))

  out_row : (run : Run) → IsRun mid run → (t : ℕ) → row_at run t columns ≡ computed run.held kinds ops (row_at run t a.wire.columns)
  out_row run r t =
      ap (row_at run t) is ∙ row_at-append run t a.wire.columns made ∙ ap (λ l. row_at run t a.wire.columns ++ l) (all.row run r t)

  pub compute_behind : (w : Wire) → IsPad mid new 1 (wire_of a.wire.valid a.wire.eos columns) w
      → IsBehind old new (λ sets. Steady 1 (λ row. Some (computed sets kinds ops row))) (computed_widths kinds ops) (cost_of_rows (computed_widths kinds ops) (length ops)) a (record { wire = w; faults = a.faults })
  compute_behind w staged = record {
    keeps = keeps_then old mid new all.keeps staged.keeps;
    cost = record {
      nodes = omega (arith, all.cost.nodes, staged.cost.nodes, ap length out_widths, many);
      registers = omega (arith, all.cost.registers, staged.cost.registers, ap sum out_widths);
      memories = omega (arith, all.cost.memories, staged.cost.memories);
    };
    wire = staged.wire;
    same_widths = staged.same_widths ∙ out_widths;
    faults = refl;
    shape = λ run r. changed_later run a.wire columns (computed run.held kinds ops) (out_row run (staged.keeps.runs run r)) w (staged.delayed run r);
  }
