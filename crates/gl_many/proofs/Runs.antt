-- A text that meets its statements can be run over beats that keep the gaps.
use Rattle.std.proofs.Common.{◌≡◌, ℕ, ◌≤◌, ◌^◌, List, [], ◌∷◌, map, max, sym, subst, arith}
use Rattle.std.specs.List.{AllByRecursion}
use Rattle.gl_bits.proofs.AllLists.{all_of_mapped, all_weaker}
use Rattle.gl_gaps.specs.declared.Gaps.{Gaps}
use Rattle.gl_schema.specs.declared.schema.Schema.{Schema}
use Rattle.gl_schema.specs.Beats.{Beats, AreBeats}
use Rattle.gl_gaps.specs.Keeps.{KeepsGaps, gaps_with}
use Rattle.gl_schema.specs.Schemas.{IsSchema}
use Rattle.gl_query.specs.declared.tree.Statement.{Statement}
use Rattle.gl_query.specs.Laws.{AcceptedHaveRealColumns}
use Rattle.gl_verilog.specs.Module.{Module, Nets, Memories}
use Rattle.gl_verilog.specs.Run.{port_of}
use Rattle.gl_verilog.specs.Text.{HasModule}
use Rattle.gl_verilog.specs.declared.start.Start.{Start}
use Rattle.gl_verilog_ports.specs.Profile.{HasInputPorts}
use Rattle.gl_testbench.specs.Driven.{Drives}
use Rattle.gl_testbench.specs.Views.{seen_as}
use Rattle.gl_outside.specs.States.{SinkState}
use Rattle.gl_runner.specs.declared.executing.Outcome.{Outcome}
use Rattle.gl_runner.specs.declared.faces.Face.{Face}
use Rattle.gl_runner.specs.Prints.{EndsWithin}
use Rattle.gl_runner.specs.Several.{AllEndWithin, RanAll, outs_of}
use Rattle.gl_many.specs.Compiles.{AreCompiled, planned_gaps, statements_in}
use Rattle.gl_many.specs.Meets.{IsRightAmong, MeetTogether, own_latency, shared_gap, shared_gaps, shared_ticks}
use Rattle.gl_many.specs.declared.compiling.Many.{Many}
use Rattle.gl_many.specs.Runs.{AreRunnable, CanRunAll, OfAllRuns, face_of, faces_of, greatest}
use Rattle.gl_many.proofs.Shown.{have_faces, takes_schema}

-- ---- the longest latency

none_longer : (ns : List ℕ) → AllByRecursion (λ n. n ≤ greatest ns) ns
none_longer [] = tt
none_longer (n ∷ ns) =
    let own : n ≤ max n (greatest ns) = omega arith in
    (own, all_weaker (λ k. k ≤ greatest ns) (λ k. k ≤ max n (greatest ns)) (λ k h. omega (arith, h)) ns (none_longer ns))

greatest_within : (ns : List ℕ) (most : ℕ) → AllByRecursion (λ n. n ≤ most) ns → greatest ns ≤ most
greatest_within [] most h = omega arith
greatest_within (n ∷ ns) most h = omega (arith, h.0, greatest_within ns most h.1)

-- ---- the ends

all_end : (schema : Schema) (statements : List Statement) (gaps : Gaps) (latency : ℕ) (design : Module) (beats : Beats) (value : ℕ → Nets) (word : ℕ → Memories)
    → AllByRecursion (IsRightAmong schema gaps design) statements → AllByRecursion (λ s. own_latency schema s ≤ latency) statements → Drives design schema gaps beats value word
    → AllEndWithin latency beats (faces_of schema statements) (port_of design value)
all_end schema [] gaps latency design beats value word each long driven = tt
all_end schema (s ∷ ss) gaps latency design beats value word each long driven =
    let right = each.0.right beats value word driven in
    let first : EndsWithin latency beats (outs_of (face_of schema s)) (seen_as s.name.text (port_of design value)) =
    record { ended = right.ended; soonest = right.soonest; in_time = omega (arith, right.in_time, long.0); ends = right.ends } in
    (first, all_end schema ss gaps latency design beats value word each.1 long.1 driven)

-- by the law of ports
can_run : AcceptedHaveRealColumns → (are_ports : (text : List ℕ) (m : Module) → HasModule text m → HasInputPorts m) (m : Many) (beats : Beats) (start : Start) → AreRunnable m → AreBeats m.schema beats → KeepsGaps (planned_gaps m) beats
    → CanRunAll m.text.items m.schema (faces_of m.schema (statements_in m)) beats (greatest m.planned.latencies.items) start
can_run real_columns are_ports m beats start is are keep =
    let meets = is.meets in
    let design = meets.design in
    let latency = greatest m.planned.latencies.items in
    let shared : Gaps = shared_gaps m.schema (statements_in m) in
    let planned : planned_gaps m ≡ shared = λ i. gaps_with (is.gap i) (is.ticks i) in
    let keeps : KeepsGaps shared beats = subst (λ (g : Gaps). KeepsGaps g beats) planned keep in
    let long : AllByRecursion (λ s. own_latency m.schema s ≤ latency) (statements_in m) =
    all_of_mapped (λ n. n ≤ latency) (own_latency m.schema) (statements_in m) (subst (AllByRecursion (λ n. n ≤ latency)) is.latencies (none_longer m.planned.latencies.items)) in
    record {
      design = design;
      has = meets.has;
      drive = record {
        valid = meets.has.valid;
        inputs = are_ports m.text.items design meets.has;
        takes = takes_schema design m.schema (statements_in m) meets.has.valid.names meets.face;
        beats' = are;
      };
      faces' = have_faces design m.schema (statements_in m) meets.has.valid.names meets.face real_columns is.fine meets.accepted;
      short = greatest_within m.planned.latencies.items (2 ^ 32) is.short;
      end = λ value word over.
          all_end m.schema (statements_in m) shared latency design beats value word meets.each long (record { are = are; keep = keeps; run = over.run; stimulus = over.stimulus });
    }

-- the text of several compiled queries, with their schema, their faces and the longest of their latencies
pub can_run_many : AcceptedHaveRealColumns → (are_ports : (text : List ℕ) (m : Module) → HasModule text m → HasInputPorts m) (m : Many) (beats : Beats) (text : List ℕ) (schema : Schema) (faces : List Face) (latency : ℕ) (start : Start) → AreRunnable m → AreBeats m.schema beats → KeepsGaps (planned_gaps m) beats
    → text ≡ m.text.items → schema ≡ m.schema → faces ≡ faces_of m.schema (statements_in m) → latency ≡ greatest m.planned.latencies.items
    → CanRunAll text schema faces beats latency start
can_run_many real_columns are_ports m beats text schema faces latency start is are keep a b d e =
    subst (λ (x : List ℕ). CanRunAll x schema faces beats latency start) (sym a) (
    subst (λ (x : Schema). CanRunAll m.text.items x faces beats latency start) (sym b) (
    subst (λ (x : List Face). CanRunAll m.text.items m.schema x beats latency start) (sym d) (
    subst (λ (x : ℕ). CanRunAll m.text.items m.schema (faces_of m.schema (statements_in m)) beats x start) (sym e) (can_run real_columns are_ports m beats start is are keep))))

-- how its run ended
pub ran_many : (m : Many) (beats : Beats) (text : List ℕ) (schema : Schema) (faces : List Face) (start : Start) (old new : SinkState) (r : Outcome)
    → text ≡ m.text.items → schema ≡ m.schema → faces ≡ faces_of m.schema (statements_in m)
    → RanAll (OfAllRuns text schema beats start) faces beats old new r
    → RanAll (OfAllRuns m.text.items m.schema beats start) (faces_of m.schema (statements_in m)) beats old new r
ran_many m beats text schema faces start old new r a b d h =
    subst (λ (x : List ℕ). RanAll (OfAllRuns x m.schema beats start) (faces_of m.schema (statements_in m)) beats old new r) a (
    subst (λ (x : Schema). RanAll (OfAllRuns text x beats start) (faces_of m.schema (statements_in m)) beats old new r) b (
    subst (λ (x : List Face). RanAll (OfAllRuns text schema beats start) x beats old new r) d h))

-- what is compiled of a text of several queries can be run
pub runnable : (schema : Schema) (text : List ℕ) (m : Many) → IsSchema schema → AreCompiled schema text m → AreRunnable m
runnable schema text m fine is = record {
  fine = subst IsSchema (sym is.schema') fine;
  meets = subst (λ (x : Schema). MeetTogether x (statements_in m) (shared_gaps x (statements_in m)) m.text.items) (sym is.schema') is.meets;
  latencies = subst (λ (x : Schema). m.planned.latencies.items ≡ map (own_latency x) (statements_in m)) (sym is.schema') is.latencies;
  gap = subst (λ (x : Schema). m.planned.gap ≡ shared_gap x (statements_in m)) (sym is.schema') is.gap;
  ticks = subst (λ (x : Schema). m.planned.ticks ≡ shared_ticks x (statements_in m)) (sym is.schema') is.ticks;
  short = is.short;
}
