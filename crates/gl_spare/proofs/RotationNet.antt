-- A front and a back of windows with spare copies, from their parts, and what they serve.
use Rattle.std.proofs.Common.{◌≡◌, ℕ, ◌+◌, ◌≤◌, List, length, None, Bool, true, false, refl, ap, ◌∙◌, subst, arith}
use Rattle.std.specs.List.{sum}
use Rattle.gl_algebra.specs.declared.figures.Figures.{Figures}
use Rattle.gl_algebra.specs.FigureTable.{IsSound, stride_of}
use Rattle.gl_algebra.specs.Results.{IsPlanResult}
use Rattle.gl_values.specs.Results.{Results}
use Rattle.gl_net.specs.declared.node.Bit.{Bit}
use Rattle.gl_net.specs.declared.node.Bus.{Bus}
use Rattle.gl_net.specs.Net.{Net, Run, IsRun}
use Rattle.gl_net.proofs.Determined.{keeps_then}
use Rattle.gl_wire.specs.declared.emitted.Emitted.{Emitted}
use Rattle.gl_wire.specs.declared.wire.Wire.{Wire}
use Rattle.gl_wire.specs.Beats.{Beats, last}
use Rattle.gl_wire.specs.Faults.{AreLines}
use Rattle.gl_wire.specs.Serving.{Serving}
use Rattle.gl_wire.specs.Shapes.{IsDelayed}
use Rattle.gl_wire.specs.Spills.{Lines}
use Rattle.gl_wire.specs.Wire.{Carried, IsWire, carried, line_at, widths}
use Rattle.gl_wire.proofs.ApartLemmas.{carried_beat}
use Rattle.gl_wire.proofs.ColumnLemmas.{wire_kept}
use Rattle.gl_wire.proofs.FaultLemmas.{lines_kept}
use Rattle.gl_wire.specs.Lift.{tuple_of_any}
use Rattle.gl_wire.specs.Rotates.{flush_of}
use Rattle.gl_wire_registers.specs.declared.front.Front.{Front}
use Rattle.gl_wire_registers.specs.Fronts.{Fronts, IsBacked, IsFronted}
use Rattle.gl_wire_registers.specs.Joins.{gives_of, JoinsAll, told_of}
use Rattle.gl_wire_registers.proofs.FrontLemmas.{keyless_backed}
use Rattle.gl_wire_registers.specs.Lines.{carried_of}
use Rattle.gl_wire_registers.specs.Timers.{IsClose, IsCloseLine}
use Rattle.gl_windows.specs.Front.{IsFront}
use Rattle.gl_windows.specs.Rotations.{AreFronts}
use Rattle.gl_wire.specs.Once.{OneStream}
use Rattle.gl_spare.proofs.ServeLemmas.{spares_serve}
use Rattle.gl_spare.specs.declared.rotation.SpareRotation.{SpareRotation}
use Rattle.gl_spare.specs.LateWires.{HasLate}
use Rattle.gl_spare.specs.LateEnds.{IsQuiet}
use Rattle.gl_spare.specs.Rotations.{IsRotation, ServesSpare, spare_machine, turns_in}

pub is_fronted : (n0 n1 n2 n3 : Net) (r : SpareRotation) (source : Emitted) (late : Wire) (ws : List Wire) (keys : List Bus) (close : Bit) (stride flush : ℕ) → stride ≡ stride_of r.body → flush ≡ flush_of (turns_in r) r.body
    → IsWire n0 source.wire → AreLines n0 source.faults → HasLate n0 n1 r.spare.shift source.wire late → AreFronts n1 n2 r.size r.advance r.spare.copies stride late ws → IsCloseLine n2 n3 flush r.body.a late.eos close
    → IsFronted n0 n3 (spare_machine r) source (record { source = source; wires = ws; keys = keys; further = None; close = close })
is_fronted n0 n1 n2 n3 r source late ws keys close stride flush is_stride is_flush wire lines l f c =
    let k13 = keeps_then n1 n2 n3 f.keeps c.keeps in
    let k03 = keeps_then n0 n1 n3 l.keeps k13 in
    let same_length : length (widths late.columns) ≡ length (widths source.wire.columns) = ap length l.same_widths in
    let same_sum = ap sum l.same_widths in
    record {
      keeps = k03;
      cost = record {
        nodes = omega (arith, l.cost.nodes, f.cost.nodes, c.cost.nodes, same_length);
        registers = omega (arith, l.cost.registers, f.cost.registers, c.cost.registers, same_sum);
        memories = omega (arith, l.cost.memories, f.cost.memories, c.cost.memories);
      };
      same = refl;
      fronts = record {
        source = wire_kept n0 n3 source.wire k03 wire;
        lines = lines_kept n0 n3 source.faults k03 lines;
        column = tt;
        ticks = tt;
        as_many = f.as_many;
        wires = λ k w h. let x = f.wires k w h in (wire_kept n2 n3 w c.keeps x.0, x.1 ∙ l.same_widths);
        keys = tt;
        further = tt;
        close = c.bit;
        feeds = λ run r3. record {
          late = carried run late;
          is_late = λ quiet. l.late' run (k13.runs run r3) quiet;
          front = subst (λ (n : ℕ). IsFront r.size r.advance r.spare.copies n (carried run late) (carried_of run ws)) is_stride (f.front run (c.keeps.runs run r3));
          closes = subst (λ (n : ℕ). IsClose n (n + 1 + r.body.a) (line_at run late.eos) (line_at run close)) is_flush (c.close run r3);
        };
      };
    }

-- over one stream nothing comes after the end
stream_quiet : (shift : ℕ) (f : Figures) (means : ℕ → Results) (before : Lines) (beats : Beats) (end : ℕ) (a : Carried) → f.a ≡ f.le → IsSound f → OneStream beats end → Serving f means before beats a → IsQuiet shift a
stream_quiet shift f means before beats end a exact sound one x u d p k l =
    let q = x.fits.ends u p in
    let e = one.only q.beat q.is in
    let r = carried_beat f beats a x.fits d k in
    let low = one.until r.beat r.end r.is in
    absurd (omega (arith, q.low, e, r.high, low, last_low r.end, exact, l))
  where
    last_low : (b : Bool) → last f b ≤ f.le
    last_low true = omega arith
    last_low false = sound.end_last

pub is_backed : (old new : Net) (r : SpareRotation) (f : Front) (copies : List Emitted) (e : Emitted) → IsRotation r → Fronts old (spare_machine r) f → length copies ≡ r.spare.copies
    → JoinsAll old new f.source.faults f.close copies e → IsBacked old new (spare_machine r) f copies e
is_backed old new r f copies e is h many j = keyless_backed old new r.spare.copies None _ _ _ f copies e many j serving
  where
    serving : (run : Run) → IsRun new run → IsDelayed 1 (record { tuple = tuple_of_any (gives_of run copies) r.spare.copies; ends = line_at run f.close }) (carried run e.wire)
        → ServesSpare r (carried run f.source.wire) (carried_of run f.wires) (gives_of run copies) (told_of run copies) (carried run e.wire)
    serving run z delayed s sound n sets nodes source body inputs before beats end one spaced x served =
        let fed = h.feeds run (j.keeps.runs run z) in
        spares_serve s r.body r.size r.advance (turns_in r) r.spare.copies r.spare.gap r.spare.shift (carried run f.source.wire) fed.late (carried run e.wire) (carried_of run f.wires) (gives_of run copies)
        (line_at run f.close) (told_of run copies) n sound is.sound is.closing
        (fed.is_late (stream_quiet r.spare.shift s (λ t. IsPlanResult nodes source (inputs t)) before beats end (carried run f.source.wire) n.at_once sound one x)) fed.front fed.closes delayed
        sets nodes source body inputs before beats end one spaced x served
