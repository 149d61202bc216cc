-- The front and the back of windows of time in a netlist, from their parts.
use Rattle.std.proofs.Common.{◌≡◌, ℕ, suc, ◌+◌, ◌-◌, ◌*◌, ◌≤◌, List, length, Some, None, refl, sym, ap, ◌∙◌, subst, arith}
use Rattle.std.specs.List.{sum}
use Rattle.std.specs.Prelude.{◌&&◌, ◌||◌, not}
use Rattle.gl_algebra.specs.FigureTable.{stride_of}
use Rattle.gl_net.specs.declared.node.Bit.{Bit}
use Rattle.gl_net.specs.declared.node.Bus.{Bus}
use Rattle.gl_net.specs.Net.{Net, Run, IsRun, IsBit, Keeps}
use Rattle.gl_net.proofs.Determined.{keeps_then}
use Rattle.gl_wire.specs.declared.emitted.Emitted.{Emitted}
use Rattle.gl_wire.specs.declared.wire.Wire.{Wire}
use Rattle.gl_wire.specs.Costs.{CostsAtMost}
use Rattle.gl_wire.specs.Faults.{AreLines, line_of}
use Rattle.gl_wire.specs.Gates.{IsGate}
use Rattle.gl_wire.specs.Shapes.{IsDelayed}
use Rattle.gl_wire.specs.Wire.{IsWire, carried, line_at, widths}
use Rattle.gl_wire.proofs.ColumnLemmas.{wire_kept, bit_kept}
use Rattle.gl_wire.proofs.FaultLemmas.{lines_kept}
use Rattle.gl_wire.specs.Lift.{tuple_of_any}
use Rattle.gl_wire.specs.Rotates.{flush_of, turns_of}
use Rattle.gl_wire_registers.specs.Counters.{IsPointer}
use Rattle.gl_wire_registers.specs.declared.front.Front.{Front}
use Rattle.gl_wire_registers.specs.Fronts.{Fronts, IsBacked, IsFronted}
use Rattle.gl_wire_registers.specs.Held.{held_at, turned, with_registers}
use Rattle.gl_wire_registers.specs.Joins.{gives_of, JoinsAll, told_of}
use Rattle.gl_wire_registers.proofs.FrontLemmas.{keyless_backed}
use Rattle.gl_wire_registers.specs.declared.lines.LineOp.TheVariants.{ButNot}
use Rattle.gl_wire_registers.specs.Lines.{AddsLines, carried_of, pairs}
use Rattle.gl_wire_registers.specs.Rows.{AddsWires, HoldsRow}
use Rattle.gl_wire_registers.specs.Timers.{IsClose, IsCloseLine, IsTimer}
use Rattle.gl_windows.specs.declared.parts.Opening.{Opening}
use Rattle.gl_windows.specs.declared.parts.Flush.{Flush}
use Rattle.gl_windows.specs.declared.parts.Trigger.{Trigger}
use Rattle.gl_windows.specs.declared.parts.Tail.{Tail}
use Rattle.gl_windows.specs.declared.times.Ticked.{Ticked}
use Rattle.gl_windows.specs.declared.times.TimeRotation.{TimeRotation}
use Rattle.gl_windows.specs.declared.turns.OpenCopies.{OpenCopies}
use Rattle.gl_windows.specs.Parts.{AddsOpening, AddsFlush, AddsTrigger, AddsTail, TakesOf}
use Rattle.gl_windows.specs.TimeFront.{HasRoom, IsTimeFront}
use Rattle.gl_windows.specs.TimeRotations.{AreTimeFronts, IsTimeRotation, ServesTimes, copies_of, ticked_machine}
use Rattle.gl_windows.specs.Turns.{AddsRotation, Rotating}
use Rattle.gl_windows.proofs.TimeNet.{time_front_is}
use Rattle.gl_windows.proofs.TimeRoom.{has_room}
use Rattle.gl_windows.proofs.TimeTheorem.{times_serve}

-- what a netlist keeps through the parts up to the copies
pub keeps_on : {n0 n1 n2 n3 n4 n5 n6 n7 n8 n9 n10 n11 n12 : Net} → Keeps n0 n1 → Keeps n1 n2 → Keeps n2 n3 → Keeps n3 n4 → Keeps n4 n5 → Keeps n5 n6 → Keeps n6 n7 → Keeps n7 n8 → Keeps n8 n9 → Keeps n9 n10 → Keeps n10 n11 → Keeps n11 n12 → Keeps n0 n12
keeps_on {n0} {n1} {n2} {n3} {n4} {n5} {n6} {n7} {n8} {n9} {n10} {n11} {n12} k0 k1 k2 k3 k4 k5 k6 k7 k8 k9 k10 k11 =
    keeps_then n0 n1 n12 k0 (keeps_then n1 n2 n12 k1 (keeps_then n2 n3 n12 k2 (keeps_then n3 n4 n12 k3 (keeps_then n4 n5 n12 k4 (keeps_then n5 n6 n12 k5 (keeps_then n6 n7 n12 k6 (keeps_then n7 n8 n12 k7 (keeps_then n8 n9 n12 k8 (keeps_then n9 n10 n12 k9 (keeps_then n10 n11 n12 k10 k11))))))))))

-- one after another the parts are a front
module _ (n0 n1 n2 n3 n4 n5 n6 n7 n8 n9 n10 n11 n12 n13 n14 n15 : Net) (r : TimeRotation) (w : Wire) (tick : Bit) (count stride turns bits last first : ℕ) (few : bits ≤ 32) (hc : 1 ≤ count)
    (count_is : count ≡ copies_of r) (stride_is : stride ≡ stride_of r.body) (turns_is : turns ≡ turns_of (copies_of r) r.body) (last_is : last ≡ count - 1) (first_is : first ≡ count - 1)
    (rearm brings busy opening tail : Bit) (o : Opening) (f : Flush) (g : Trigger) (h : Tail) (opened : Bus) (t : OpenCopies) (stay takes : List Bit) (row : List Bus) (ws : List Wire)
    (is_rearm : IsTimer n0 n1 w.eos turns rearm) (is_brings : IsGate n1 n2 (λ p q. p || q) tick w.valid brings) (is_busy : IsGate n2 n3 (λ p q. p || q) brings rearm busy)
    (is_o : AddsOpening n3 n4 tick w.eos (r.advance - 1) r.advance o) (is_opening : IsGate n4 n5 (λ p q. p || q) o.opens rearm opening)
    (is_f : AddsFlush n5 n6 busy w.eos stride f) (is_g : AddsTrigger n6 n7 tick w.eos f.due r.size r.advance g) (is_h : AddsTail n7 n8 w.valid w.eos f.idle h)
    (is_tail : IsGate n8 n9 (λ p q. p && not q) h.tail g.last tail) (is_p : IsPointer n9 n10 opening bits last opened) (is_t : AddsRotation n10 n11 count 1 first opening opened g.trigger t)
    (is_stay : AddsLines n11 n12 (length t.mids) 1 stay (pairs ButNot t.mids t.ends)) (is_takes : TakesOf n12 n13 w.valid w.eos tail stay t.ends takes)
    (is_row : HoldsRow n13 n14 w.valid w.columns row) (is_w : AddsWires n14 n15 (length takes) takes t.ends row ws) where
  k13 : Keeps n13 n15
  k13 = keeps_then n13 n14 n15 is_row.keeps is_w.keeps

  k12 : Keeps n12 n15
  k12 = keeps_then n12 n13 n15 is_takes.keeps k13

  k11 : Keeps n11 n15
  k11 = keeps_then n11 n12 n15 is_stay.keeps k12

  k10 : Keeps n10 n15
  k10 = keeps_then n10 n11 n15 is_t.keeps k11

  k9 : Keeps n9 n15
  k9 = keeps_then n9 n10 n15 is_p.keeps k10

  k8 : Keeps n8 n15
  k8 = keeps_then n8 n9 n15 is_tail.keeps k9

  k7 : Keeps n7 n15
  k7 = keeps_then n7 n8 n15 is_h.keeps k8

  k6 : Keeps n6 n15
  k6 = keeps_then n6 n7 n15 is_g.keeps k7

  k5 : Keeps n5 n15
  k5 = keeps_then n5 n6 n15 is_f.keeps k6

  k4 : Keeps n4 n15
  k4 = keeps_then n4 n5 n15 is_opening.keeps k5

  k3 : Keeps n3 n15
  k3 = keeps_then n3 n4 n15 is_o.keeps k4

  k2 : Keeps n2 n15
  k2 = keeps_then n2 n3 n15 is_busy.keeps k3

  k1 : Keeps n1 n15
  k1 = keeps_then n1 n2 n15 is_brings.keeps k2

  stay_count : length stay ≡ count
  stay_count = is_stay.count ∙ is_t.mids_count

  takes_count : length takes ≡ count
  takes_count = is_takes.count ∙ stay_count

  -- behind the machine with these numbers
  abbrev Behind : Run → ℕ → ℕ → Type 0
  Behind run n d =
      HasRoom (record { size = r.size; advance = r.advance; count = n; stride = d; tick = line_at run tick; a = carried run w })
      → IsTimeFront (record { size = r.size; advance = r.advance; count = n; stride = d; tick = line_at run tick; a = carried run w }) (carried_of run ws)

  all_are : (run : Run) → IsRun n15 run → Behind run count stride
  unfolding pairs
  all_are run r15 =
      time_front_is run w tick r.size r.advance count stride turns hc (turns_is ∙ ap (λ n. (n - 1) * stride_of r.body) (sym count_is) ∙ ap (λ n. (count - 1) * n) (sym stride_is))
      rearm brings busy opening tail o f g h opened t stay takes row ws
      (is_rearm.line run (k1.runs run r15)) (is_brings.line run (k2.runs run r15)) (is_busy.line run (k3.runs run r15)) (is_o.law run (k4.runs run r15)) (is_opening.line run (k5.runs run r15))
      (is_f.law run (k6.runs run r15)) (is_g.law run (k7.runs run r15)) (is_h.law run (k8.runs run r15)) (is_tail.line run (k9.runs run r15))
      (subst (λ (n : ℕ). (c : ℕ) → (held_at 0 run opened c ≤ n) × (held_at 0 run opened (suc c) ≡ turned n (line_at run opening c) (held_at 0 run opened c))) last_is (is_p.next run (k10.runs run r15)))
      (subst (λ (n : ℕ). Rotating run count 1 n opening opened g.trigger t) first_is (is_t.rotating run (k11.runs run r15)))
      (λ k c l. is_stay.line run (k12.runs run r15) k c (omega (arith, l, is_t.mids_count)))
      (λ k c l. is_takes.line run (k13.runs run r15) k c (omega (arith, l, stay_count)))
      (is_row.row run (is_w.keeps.runs run r15))
      (λ k l. is_w.first_tuple run r15 k (omega (arith, l, takes_count)))
      (λ k l. is_w.first_end run r15 k (omega (arith, l, takes_count)))
      (λ k c l. is_w.tuple run r15 k c (omega (arith, l, takes_count)))
      (λ k c l. is_w.end run r15 k c (omega (arith, l, takes_count)))

  pub time_fronts_are : AreTimeFronts n0 n15 r tick w ws
  time_fronts_are = record {
    keeps = keeps_then n0 n1 n15 is_rearm.keeps k1;
    cost = subst (λ (n : ℕ). CostsAtMost n0 n15 (with_registers (n * 17 + length (widths w.columns) * 2 + 92) (n * 3 + sum (widths w.columns) + 195))) count_is (record {
      nodes = omega (arith, is_rearm.cost.nodes, is_brings.cost.nodes, is_busy.cost.nodes, is_o.cost.nodes, is_opening.cost.nodes, is_f.cost.nodes, is_g.cost.nodes, is_h.cost.nodes, is_tail.cost.nodes, is_p.cost.nodes, is_t.cost.nodes, is_stay.cost.nodes, is_takes.cost.nodes, is_row.cost.nodes, is_w.cost.nodes, is_t.mids_count, stay_count, takes_count);
      registers = omega (
        arith,
        is_rearm.cost.registers,
        is_brings.cost.registers,
        is_busy.cost.registers,
        is_o.cost.registers,
        is_opening.cost.registers,
        is_f.cost.registers,
        is_g.cost.registers,
        is_h.cost.registers,
        is_tail.cost.registers,
        is_p.cost.registers,
        is_t.cost.registers,
        is_stay.cost.registers,
        is_takes.cost.registers,
        is_row.cost.registers,
        is_w.cost.registers,
        takes_count,
        is_rearm.few,
        is_o.few,
        is_f.few,
        is_g.few,
        is_p.width,
        few,
      );
      memories = omega (arith, is_rearm.cost.memories, is_brings.cost.memories, is_busy.cost.memories, is_o.cost.memories, is_opening.cost.memories, is_f.cost.memories, is_g.cost.memories, is_h.cost.memories, is_tail.cost.memories, is_p.cost.memories, is_t.cost.memories, is_stay.cost.memories, is_takes.cost.memories, is_row.cost.memories, is_w.cost.memories);
    });
    as_many = is_w.count ∙ takes_count ∙ count_is;
    wires = λ k x e. (is_w.wires k x e, ap widths (is_w.columns k x e) ∙ is_row.same_widths);
    front = λ run r15. subst (λ (n : ℕ). Behind run n (stride_of r.body)) count_is (subst (λ (d : ℕ). Behind run count d) stride_is (all_are run r15));
  }

-- wires of a front and a line of ends behind it
pub is_time_fronted : (old mid new : Net) (t : Ticked) (source : Emitted) (ws : List Wire) (keys : List Bus) (close : Bit) (flush : ℕ) → flush ≡ flush_of (copies_of t.rotation) t.rotation.body
    → IsWire old source.wire → AreLines old source.faults → IsBit old t.tick → AreTimeFronts old mid t.rotation t.tick source.wire ws → IsCloseLine mid new flush t.rotation.body.a source.wire.eos close
    → IsFronted old new (ticked_machine t) source (record { source = source; wires = ws; keys = keys; further = None; close = close })
is_time_fronted old mid new t source ws keys close flush is_flush wire lines ticks f c = record {
  keeps = keeps_then old mid new f.keeps c.keeps;
  cost = record {
    nodes = omega (arith, f.cost.nodes, c.cost.nodes);
    registers = omega (arith, f.cost.registers, c.cost.registers, c.few);
    memories = omega (arith, f.cost.memories, c.cost.memories);
  };
  same = refl;
  fronts = record {
    source = wire_kept old new source.wire (keeps_then old mid new f.keeps c.keeps) wire;
    lines = lines_kept old new source.faults (keeps_then old mid new f.keeps c.keeps) lines;
    column = tt;
    ticks = bit_kept old new t.tick (keeps_then old mid new f.keeps c.keeps) ticks;
    as_many = f.as_many;
    wires = λ k w h. let x = f.wires k w h in (wire_kept mid new w c.keeps x.0, x.1);
    keys = tt;
    further = tt;
    close = c.bit;
    feeds = λ run run_new. record {
      front = f.front run (c.keeps.runs run run_new);
      closes = subst (λ (n : ℕ). IsClose n (n + 1 + t.rotation.body.a) (line_at run source.wire.eos) (line_at run close)) is_flush (c.close run run_new);
    };
  };
}

-- a back behind copies of a front
pub is_time_backed : (old new : Net) (t : Ticked) (f : Front) (copies : List Emitted) (e : Emitted) → IsTimeRotation t.rotation → Fronts old (ticked_machine t) f
    → length copies ≡ copies_of t.rotation → JoinsAll old new f.source.faults f.close copies e → IsBacked old new (ticked_machine t) f copies e
is_time_backed old new t f copies e is h many j = keyless_backed old new (copies_of t.rotation) (Some t.tick) _ _ _ f copies e many j serving
  where
    serving : (run : Run) → IsRun new run → IsDelayed 1 (record { tuple = tuple_of_any (gives_of run copies) (copies_of t.rotation); ends = line_at run f.close }) (carried run e.wire)
        → ServesTimes t.rotation (line_of run (Some t.tick)) (carried run f.source.wire) (carried_of run f.wires) (gives_of run copies) (told_of run copies) (carried run e.wire)
    serving run z delayed sets nodes body beats spaced fits at served =
        let fed = h.feeds run (j.keeps.runs run z) in
        times_serve t.rotation (line_at run t.tick) (carried run f.source.wire) (carried run e.wire) (carried_of run f.wires) (gives_of run copies) (line_at run f.close) (told_of run copies)
        is (fed.front (has_room t.rotation (line_at run t.tick) (carried run f.source.wire) beats is spaced fits at)) fed.closes delayed sets nodes body beats spaced fits at served
