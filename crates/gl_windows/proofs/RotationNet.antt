-- A front and a back in a netlist, from their parts, and what they serve.
use Rattle.std.proofs.Common.{◌≡◌, ℕ, ◌+◌, List, length, None, refl, subst, arith}
use Rattle.gl_algebra.specs.declared.figures.Figures.{Figures}
use Rattle.gl_algebra.specs.FigureTable.{IsSound, stride_of}
use Rattle.gl_net.specs.declared.node.Bit.{Bit}
use Rattle.gl_net.specs.declared.node.Bus.{Bus}
use Rattle.gl_net.specs.Net.{Net, Run, IsRun}
use Rattle.gl_net.proofs.Determined.{keeps_then}
use Rattle.gl_wire.specs.declared.emitted.Emitted.{Emitted}
use Rattle.gl_wire.specs.declared.wire.Wire.{Wire}
use Rattle.gl_wire.specs.Faults.{AreLines}
use Rattle.gl_wire.specs.Shapes.{IsDelayed}
use Rattle.gl_wire.specs.Wire.{IsWire, carried, line_at}
use Rattle.gl_wire.proofs.ColumnLemmas.{wire_kept}
use Rattle.gl_wire.proofs.FaultLemmas.{lines_kept}
use Rattle.gl_wire.specs.Lift.{tuple_of_any}
use Rattle.gl_wire.specs.Rotates.{flush_of}
use Rattle.gl_wire_registers.specs.declared.front.Front.{Front}
use Rattle.gl_wire_registers.specs.Fronts.{Fronts, IsBacked, IsFronted}
use Rattle.gl_wire_registers.specs.Lines.{carried_of}
use Rattle.gl_wire_registers.specs.Timers.{IsClose, IsCloseLine}
use Rattle.gl_windows.specs.declared.rotation.Rotation.{Rotation}
use Rattle.gl_windows.specs.Front.{IsFront}
use Rattle.gl_windows.specs.Rotations.{AreFronts, IsRotation, ServesWindows, rotation_machine}
use Rattle.gl_wire_registers.specs.Joins.{gives_of, JoinsAll, told_of}
use Rattle.gl_wire_registers.proofs.FrontLemmas.{keyless_backed}
use Rattle.gl_windows.specs.Laws.{RotationsServe}

-- wires of a front and a line of ends behind it
pub is_fronted : (old mid new : Net) (r : Rotation) (source : Emitted) (ws : List Wire) (keys : List Bus) (close : Bit) (stride flush : ℕ) → stride ≡ stride_of r.body → flush ≡ flush_of r.copies r.body
    → IsWire old source.wire → AreLines old source.faults → AreFronts old mid r.size r.advance r.copies stride source.wire ws → IsCloseLine mid new flush r.body.a source.wire.eos close
    → IsFronted old new (rotation_machine r) source (record { source = source; wires = ws; keys = keys; further = None; close = close })
is_fronted old mid new r source ws keys close stride flush is_stride is_flush wire lines f c = record {
  keeps = keeps_then old mid new f.keeps c.keeps;
  cost = record {
    nodes = omega (arith, f.cost.nodes, c.cost.nodes);
    registers = omega (arith, f.cost.registers, c.cost.registers, c.few);
    memories = omega (arith, f.cost.memories, c.cost.memories);
  };
  same = refl;
  fronts = record {
    source = wire_kept old new source.wire (keeps_then old mid new f.keeps c.keeps) wire;
    lines = lines_kept old new source.faults (keeps_then old mid new f.keeps c.keeps) lines;
    column = tt;
    ticks = tt;
    as_many = f.as_many;
    wires = λ k w h. let x = f.wires k w h in (wire_kept mid new w c.keeps x.0, x.1);
    keys = tt;
    further = tt;
    close = c.bit;
    feeds = λ run run_new. record {
      front = subst (λ (n : ℕ). IsFront r.size r.advance r.copies n (carried run source.wire) (carried_of run ws)) is_stride (f.front run (c.keeps.runs run run_new));
      closes = subst (λ (n : ℕ). IsClose n (n + 1 + r.body.a) (line_at run source.wire.eos) (line_at run close)) is_flush (c.close run run_new);
    };
  };
}

-- a back behind copies of a front
pub is_backed : RotationsServe → (old new : Net) (r : Rotation) (f : Front) (copies : List Emitted) (e : Emitted) → IsRotation r → Fronts old (rotation_machine r) f → length copies ≡ r.copies
    → JoinsAll old new f.source.faults f.close copies e → IsBacked old new (rotation_machine r) f copies e
is_backed rotations_serve old new r f copies e is h many j = keyless_backed old new r.copies None _ _ _ f copies e many j serving
  where
    serving : (run : Run) → IsRun new run → IsDelayed 1 (record { tuple = tuple_of_any (gives_of run copies) r.copies; ends = line_at run f.close }) (carried run e.wire)
        → (source : Figures) → IsSound source → ServesWindows r source (carried run f.source.wire) (carried_of run f.wires) (gives_of run copies) (told_of run copies) (carried run e.wire)
    serving run z delayed source sound =
        let fed = h.feeds run (j.keeps.runs run z) in
        rotations_serve r source (carried run f.source.wire) (carried run e.wire) (carried_of run f.wires) (gives_of run copies) (line_at run f.close) (told_of run copies) is sound fed.front fed.closes delayed
