-- A dump from its parts: what stands in front, the cycles, and the time behind the last.
use Rattle.std.proofs.Common.{◌≡◌, ℕ, suc, inl, inr, List, ◌++◌, Option, Result, Ok, Err, refl, sym, ◌∙◌, subst, arith}
use Rattle.gl_outside.specs.declared.writing.WriteFault.{WriteFault as Failure}
use Rattle.gl_outside.specs.States.{Appends, AppendsFront, Broke, SinkState, Took, Wrote}
use Rattle.gl_outside.proofs.Takes.{appends_then, front_more, front_then}
use Rattle.gl_schema.specs.Beats.{Beats}
use Rattle.gl_schema.specs.Ports.{PortValues}
use Rattle.gl_vcd.specs.Written.{header, ports_of, time_line}
use Rattle.gl_verilog.specs.Module.{Module}
use Rattle.gl_verilog_ports.specs.Profile.{result_names}
use Rattle.gl_outside.specs.Counts.{Rose}
use Rattle.gl_schema.specs.declared.schema.Schema.{Schema}
use Rattle.gl_verilog.specs.Run.{port_of}
use Rattle.gl_verilog.specs.declared.start.Start.{Start}
use Rattle.gl_runner.specs.declared.executing.Outcome.{Outcome}
use Rattle.gl_runner.specs.declared.executing.Outcome.TheVariants.{Done, WriteFault, Memory}
use Rattle.gl_runner.specs.declared.tracing.Ending.{Ending}
use Rattle.gl_runner.specs.declared.tracing.Ending.TheVariants as ending
use Rattle.gl_runner.specs.Cycles.{Driven, IsStarted, design_of}
use Rattle.gl_runner.specs.Dumping.{OfTimelyDriven, StandsDumped, outcome_in}
use Rattle.gl_runner.specs.Dumps.{Dumped, DumpsFront, DumpsWhole, IsDumpOf, OfTimelyPorts}
use Rattle.gl_runner.specs.declared.dumping.DumpLines.{DumpLines}
use Rattle.gl_runner.specs.Prints.{EndsWithin, IsEnd}
use Rattle.gl_runner.specs.Watches.{OfDrivenPorts, Watched, WatchesFront, WatchesToEnd, bytes_to, dump_of_cycle, end_of_cycle}
use Rattle.gl_runner.proofs.DumpRows.{dump_is}
use Rattle.gl_runner.proofs.Each.{end_is, not_out, out_is}
use Rattle.gl_runner.proofs.Running.{last_from}

-- what stands in front of the first time
abbrev pub front_of : Module → List ℕ
front_of m = header m.name (ports_of m)

abbrev pub cycles_of : Module → PortValues → ℕ → List ℕ
cycles_of m port n = bytes_to dump_of_cycle m port n

-- the dump of a run that ends there
dump_to : (m : Module) (beats : Beats) (port : PortValues) (n : ℕ) → IsEnd beats (result_names m) port n → IsDumpOf m beats port (front_of m ++ (cycles_of m port n ++ time_line (suc n)))
dump_to m beats port n is = record { ended = n; is = is; all = sym (dump_is m port n) }

record IsEndIn (m : Module) (beats : Beats) (port : PortValues) (extra : ℕ) : Type 0 where
  place : ℕ
  is : IsEnd beats (result_names m) port place

-- a run that ends in time ends somewhere first
first_of : (m : Module) (beats : Beats) (port : PortValues) (extra : ℕ) → EndsWithin extra beats (result_names m) port → IsEndIn m beats port extra
first_of m beats port extra ends =
    let last = last_from beats (end_of_cycle m port) extra 0 (λ k le lt. absurd (omega arith)) (omega arith) in
    (elim last.is [
      | inl e ↦ record { place = last.place; is = end_is m beats port last.place e.is }
      | inr out ↦ not_out beats (result_names m) port extra last.place (out_is m beats port extra last.place out) ends
    ])

-- the sink failed in front of the cycles
pub cut_in_front : (m : Module) (beats : Beats) (port : PortValues) (extra : ℕ) (old new : Option (List ℕ)) → EndsWithin extra beats (result_names m) port → AppendsFront old new (front_of m) → DumpsFront m beats port old new
cut_in_front m beats port extra old new ends taken =
    let e = first_of m beats port extra ends in
    record {
      bytes = front_of m ++ (cycles_of m port e.place ++ time_line (suc e.place));
      are = dump_to m beats port e.place e.is;
      taken = front_more old new (front_of m) (cycles_of m port e.place ++ time_line (suc e.place)) taken;
    }

-- among them
pub cut_among : (m : Module) (beats : Beats) (port : PortValues) (extra : ℕ) (old mid new : Option (List ℕ)) → EndsWithin extra beats (result_names m) port → Appends old mid (front_of m) → WatchesFront dump_of_cycle end_of_cycle beats extra m port mid new → DumpsFront m beats port old new
cut_among m beats port extra old mid new ends before w = (elim w.is [
  | inl e ↦ record {
    bytes = front_of m ++ (cycles_of m port w.last ++ time_line (suc w.last));
    are = dump_to m beats port w.last (end_is m beats port w.last e.is);
    taken = front_then old mid new (front_of m) (cycles_of m port w.last ++ time_line (suc w.last)) before (front_more mid new (cycles_of m port w.last) (time_line (suc w.last)) w.taken);
  }
  | inr out ↦ not_out beats (result_names m) port extra w.last (out_is m beats port extra w.last out) ends
])

-- behind them
pub cut_behind : (m : Module) (lines : DumpLines) (beats : Beats) (port : PortValues) (extra : ℕ) (old mid late new : Option (List ℕ)) → Appends old mid (front_of m) → WatchesToEnd dump_of_cycle end_of_cycle (StandsDumped lines) beats extra m port mid late → AppendsFront late new (time_line lines.next) → DumpsFront m beats port old new
cut_behind m lines beats port extra old mid late new before w taken =
    let taken' : AppendsFront late new (time_line (suc w.last)) = subst (λ (n : ℕ). AppendsFront late new (time_line n)) w.watched.behind.next' taken in
    record {
      bytes = front_of m ++ (cycles_of m port w.last ++ time_line (suc w.last));
      are = dump_to m beats port w.last (end_is m beats port w.last w.is.is);
      taken = front_then old mid new (front_of m) (cycles_of m port w.last ++ time_line (suc w.last)) before (front_then mid late new (cycles_of m port w.last) (time_line (suc w.last)) w.watched.taken taken');
    }

-- all was taken
pub dumped_whole : (m : Module) (lines : DumpLines) (beats : Beats) (port : PortValues) (extra : ℕ) (old mid late new : Option (List ℕ)) → Appends old mid (front_of m) → WatchesToEnd dump_of_cycle end_of_cycle (StandsDumped lines) beats extra m port mid late → Appends late new (time_line lines.next) → DumpsWhole m beats port old new
dumped_whole m lines beats port extra old mid late new before w taken =
    let taken' : Appends late new (time_line (suc w.last)) = subst (λ (n : ℕ). Appends late new (time_line n)) w.watched.behind.next' taken in
    record {
      bytes = front_of m ++ (cycles_of m port w.last ++ time_line (suc w.last));
      are = dump_to m beats port w.last (end_is m beats port w.last w.is.is);
      taken = appends_then old mid new (front_of m) (cycles_of m port w.last ++ time_line (suc w.last)) before (appends_then mid late new (cycles_of m port w.last) (time_line (suc w.last)) w.watched.taken taken');
    }

-- ---- how dumping ended, by how its parts did

-- in front of the cycles
pub dump_cut_in_front : (d : Driven) (old new : SinkState) → Broke old new (front_of (design_of d)) → Dumped (OfTimelyDriven d) d.beats old new WriteFault
dump_cut_in_front d old new broke = (broke.cause, λ value word before ends. cut_in_front (design_of d) d.beats (port_of (design_of d) value) d.extra old.taken new.taken ends broke.front)

pub dump_cut_among : (d : Driven) (lines : DumpLines) (old mid new : SinkState) (r : Ending) → r ≡ ending.WriteFault → Took old mid (front_of (design_of d)) → Watched (OfDrivenPorts d) dump_of_cycle end_of_cycle (StandsDumped lines) d.beats d.extra mid new r → Dumped (OfTimelyDriven d) d.beats old new WriteFault
dump_cut_among d lines old mid new ending.Done is front' h = absurd cc
dump_cut_among d lines old mid new (ending.NoEnd cycle) is front' h = absurd cc
dump_cut_among d lines old mid new ending.WriteFault is front' h = (
  subst (λ (n : ℕ). Rose n new.faults) front'.calm h.0,
  λ value word before ends.
      cut_among (design_of d) d.beats (port_of (design_of d) value) d.extra old.taken mid.taken new.taken ends front'.all (h.1 value word before),
)
dump_cut_among d lines old mid new ending.Memory is front' h = absurd h

-- behind a watcher that came through, nothing failed, and each run that ends in time came to its end
pub record IsCalmEnd (d : Driven) (lines : DumpLines) (mid late : SinkState) : Type 0 where
  pub calm : late.faults ≡ mid.faults
  pub each : OfTimelyDriven d (λ m port. WatchesToEnd dump_of_cycle end_of_cycle (StandsDumped lines) d.beats d.extra m port mid.taken late.taken)

pub came_through : (d : Driven) (lines : DumpLines) (mid late : SinkState) (r : Ending) → (r ≡ ending.WriteFault → ⊥) → Watched (OfDrivenPorts d) dump_of_cycle end_of_cycle (StandsDumped lines) d.beats d.extra mid late r → IsCalmEnd d lines mid late
came_through d lines mid late ending.Done not' h = record { calm = h.0; each = λ value word before ends. h.1 value word before }
came_through d lines mid late (ending.NoEnd cycle) not' h = record { calm = h.0; each = λ value word before ends. not_out d.beats (result_names (design_of d)) (port_of (design_of d) value) d.extra cycle (out_is (design_of d) d.beats (port_of (design_of d) value) d.extra cycle (h.1 value word before).is) ends }
came_through d lines mid late ending.WriteFault not' h = absurd (not' refl)
came_through d lines mid late ending.Memory not' h = absurd h

pub dump_done : (d : Driven) (lines : DumpLines) (old mid late new : SinkState) → Took old mid (front_of (design_of d)) → IsCalmEnd d lines mid late → Took late new (time_line lines.next) → Dumped (OfTimelyDriven d) d.beats old new Done
dump_done d lines old mid late new front' through took = (
  took.calm ∙ through.calm ∙ front'.calm,
  λ value word before ends.
      dumped_whole (design_of d) lines d.beats (port_of (design_of d) value) d.extra old.taken mid.taken late.taken new.taken front'.all (through.each value word before ends) took.all,
)

pub dump_cut_behind : (d : Driven) (lines : DumpLines) (old mid late new : SinkState) → Took old mid (front_of (design_of d)) → IsCalmEnd d lines mid late → Broke late new (time_line lines.next) → Dumped (OfTimelyDriven d) d.beats old new WriteFault
dump_cut_behind d lines old mid late new front' through broke = (
  subst (λ (n : ℕ). Rose n new.faults) (through.calm ∙ front'.calm) broke.cause,
  λ value word before ends.
      cut_behind (design_of d) lines d.beats (port_of (design_of d) value) d.extra old.taken mid.taken late.taken new.taken front'.all (through.each value word before ends) broke.front,
)

pub dump_written : (d : Driven) (lines : DumpLines) (old mid late new : SinkState) (r : Result (Unit {0}) Failure) → Took old mid (front_of (design_of d)) → IsCalmEnd d lines mid late → Wrote late new (time_line lines.next) r → Dumped (OfTimelyDriven d) d.beats old new (outcome_in r)
dump_written d lines old mid late new (Ok u) front' through wrote = dump_done d lines old mid late new front' through wrote
dump_written d lines old mid late new (Err e) front' through wrote = dump_cut_behind d lines old mid late new front' through wrote

-- ---- from what is driven to each run

of_timely : (m : Module) (schema : Schema) (beats : Beats) (start : Start) (extra : ℕ) (d : Driven) (P : Beats → Module → PortValues → Type 0) → IsStarted m schema beats start extra d → OfTimelyDriven d (P d.beats) → OfTimelyPorts extra m schema beats start (P beats)
of_timely m schema beats start extra d P is h = λ value word over ends.
    let ends' : EndsWithin d.extra d.beats (result_names (design_of d)) (port_of (design_of d) value) =
    subst (λ (x : Module). EndsWithin d.extra d.beats (result_names x) (port_of x value)) (sym is.design')
    (subst (λ (x : Beats). EndsWithin d.extra x (result_names m) (port_of m value)) (sym is.beats')
    (subst (λ (x : ℕ). EndsWithin x beats (result_names m) (port_of m value)) (sym is.extra') ends)) in
    subst (λ (x : Beats). P x m (port_of m value)) is.beats'
    (subst (λ (x : Module). P d.beats x (port_of x value)) is.design' (h value word (is.before value word over) ends'))

pub dumped_started : (m : Module) (schema : Schema) (beats : Beats) (start : Start) (extra : ℕ) (d : Driven) (old new : SinkState) (r : Outcome) → IsStarted m schema beats start extra d → Dumped (OfTimelyDriven d) d.beats old new r → Dumped (OfTimelyPorts extra m schema beats start) beats old new r
dumped_started m schema beats start extra d old new Done is h = (h.0, of_timely m schema beats start extra d (λ bs m' port. DumpsWhole m' bs port old.taken new.taken) is h.1)
dumped_started m schema beats start extra d old new WriteFault is h = (h.0, of_timely m schema beats start extra d (λ bs m' port. DumpsFront m' bs port old.taken new.taken) is h.1)
dumped_started m schema beats start extra d old new Memory is h = h
