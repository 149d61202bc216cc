-- A front and a back of windows of time, and what they serve over all beats, and over one stream.
use Rattle.std.proofs.Common.{◌≡◌, List, length, Some}
use Rattle.gl_net.specs.Net.{Net, Run, IsRun}
use Rattle.gl_wire.specs.declared.emitted.Emitted.{Emitted}
use Rattle.gl_wire.specs.Lift.{tuple_of_any}
use Rattle.gl_wire.specs.Shapes.{IsDelayed}
use Rattle.gl_wire.specs.Faults.{line_of}
use Rattle.gl_wire.specs.Wire.{carried, line_at}
use Rattle.gl_wire_registers.specs.declared.front.Front.{Front}
use Rattle.gl_wire_registers.specs.Fronts.{Fronts, IsBacked, IsFronted}
use Rattle.gl_wire_registers.specs.Joins.{gives_of, JoinsAll, told_of}
use Rattle.gl_wire_registers.specs.Lines.{carried_of}
use Rattle.gl_wire_registers.proofs.FrontLemmas.{keyless_backed}
use Rattle.gl_windows.specs.declared.times.Ticked.{Ticked}
use Rattle.gl_windows.specs.TimeRotations.{IsTimeRotation, copies_of, ticked_machine}
use Rattle.gl_windows.proofs.TimeRotationNet.{is_time_backed}
use Rattle.gl_ticks.specs.Once.{ServesBoth, root_machine}
use Rattle.gl_ticks.proofs.ServeLemmas.{times_serve_once}
use Rattle.gl_ticks.proofs.StreamLemmas.{has_room}

-- the front is that of windows of time
pub is_root_fronted : (old new : Net) (t : Ticked) (source : Emitted) (f : Front) → IsFronted old new (ticked_machine t) source f → IsFronted old new (root_machine (record { ticked = t })) source f
is_root_fronted old new t source f h =
    let fronts = h.fronts in
    record {
      keeps = h.keeps;
      cost = h.cost;
      same = h.same;
      fronts = record {
        source = fronts.source;
        lines = fronts.lines;
        column = fronts.column;
        ticks = fronts.ticks;
        as_many = fronts.as_many;
        wires = fronts.wires;
        keys = fronts.keys;
        further = fronts.further;
        close = fronts.close;
        feeds = fronts.feeds;
      };
    }

-- and the other way round
as_ticked : (net : Net) (t : Ticked) (f : Front) → Fronts net (root_machine (record { ticked = t })) f → Fronts net (ticked_machine t) f
as_ticked net t f h = record {
  source = h.source;
  lines = h.lines;
  column = h.column;
  ticks = h.ticks;
  as_many = h.as_many;
  wires = h.wires;
  keys = h.keys;
  further = h.further;
  close = h.close;
  feeds = h.feeds;
}

-- a back behind copies of a front
pub is_root_backed : (old new : Net) (t : Ticked) (f : Front) (copies : List Emitted) (e : Emitted) → IsTimeRotation t.rotation → Fronts old (root_machine (record { ticked = t })) f
    → length copies ≡ copies_of t.rotation → JoinsAll old new f.source.faults f.close copies e → IsBacked old new (root_machine (record { ticked = t })) f copies e
is_root_backed old new t f copies e is h many j = keyless_backed old new (copies_of t.rotation) (Some t.tick) _ _ _ f copies e many j serving
  where
    serving : (run : Run) → IsRun new run → IsDelayed 1 (record { tuple = tuple_of_any (gives_of run copies) (copies_of t.rotation); ends = line_at run f.close }) (carried run e.wire)
        → ServesBoth t.rotation (line_of run (Some t.tick)) (carried run f.source.wire) (carried_of run f.wires) (gives_of run copies) (told_of run copies) (carried run e.wire)
    serving run z delayed = record {
      each = (is_time_backed old new t f copies e is (as_ticked old t f h) many j).serves run z;
      once = λ g ticks n sets nodes body beats last one spaced fits at apart served.
          let fed = h.feeds run (j.keeps.runs run z) in
          times_serve_once t.rotation (line_at run t.tick) (carried run f.source.wire) (carried run e.wire) (carried_of run f.wires) (gives_of run copies) (line_at run f.close) (told_of run copies)
          is (fed.front (has_room t.rotation is (line_at run t.tick) (carried run f.source.wire) beats last one fits at)) fed.closes delayed g ticks n sets nodes body beats last one spaced fits at apart served;
    }
