-- From the runs that what drives a module is before to each run of the module.
use Rattle.std.proofs.Common.{◌≡◌, ℕ, inl, inr, true, false, List, Option, Ok, refl, sym, subst}
use Rattle.std.specs.Prelude.{IsOk}
use Rattle.gl_values.specs.declared.kind.Kind.{Kind}
use Rattle.gl_schema.specs.declared.schema.Schema.{Schema}
use Rattle.gl_schema.specs.Beats.{Beats, AreBeats}
use Rattle.gl_schema.specs.Ports.{PortValues, IsStimulus}
use Rattle.gl_schema.specs.Seen.{shown, seen, lines}
use Rattle.gl_verilog.specs.Module.{Module, Nets, Memories}
use Rattle.gl_verilog.specs.declared.module.Module.{Module as Rust}
use Rattle.gl_verilog.specs.Run.{IsRun, port_of, input_values}
use Rattle.gl_verilog.specs.Laws.{EventRunsAreRuns}
use Rattle.gl_verilog.specs.View.{module_of}
use Rattle.gl_sim.specs.Simulation.{Simulation, IsAt}
use Rattle.gl_sim.specs.Starts.{StartsFrom}
use Rattle.gl_verilog.specs.declared.start.Start.{Start}
use Rattle.gl_outside.specs.States.{Appends, AppendsFront, SinkState}
use Rattle.gl_runner.specs.declared.tracing.Ending.{Ending}
use Rattle.gl_runner.specs.declared.tracing.Ending.TheVariants as ending
use Rattle.gl_runner.specs.Cycles.{Driven, IsFollowed, IsStarted, OfDriven, OfTimely, design_of, outcome_of}
use Rattle.gl_runner.specs.Ends.{EndsBy, IsFirstEnd, IsLastCycle, NeverEnds}
use Rattle.gl_runner.specs.Prints.{EndsWithin, HasRunOver, IsEnd, IsRunOver, Ran, Writes, WritesFront}
use Rattle.gl_runner.specs.Traces.{EndsIn, IsLastRun, OfRunsOf, RunsOut, Traced, TracesFront, TracesOut, TracesToEnd, WritesTo}
use Rattle.gl_runner.specs.Watches.{OfDrivenPorts, Watched, bytes_to, end_of_cycle, lines_of_cycle}
use Rattle.gl_runner.proofs.Running.{lines_to}
use Rattle.gl_testbench.specs.Runs.{HasStartedRuns}
use Rattle.gl_verilog_ports.specs.declared.fitting.Ports.{Ports}
use Rattle.gl_verilog_ports.specs.Fit.{fit_of}
use Rattle.gl_verilog_ports.specs.Profile.{result_names}

-- what holds of each run of one sort holds of each of the other, so the trace is one of these too
traced_from : (OfOne OfOther : (List (List ℕ) → PortValues → Type 0) → Type 0) (kinds : List Kind) (beats : Beats) (extra : ℕ) (old new : SinkState) (r : Ending) → ((P : List (List ℕ) → PortValues → Type 0) → OfOne P → OfOther P) → Traced OfOne kinds beats extra old new r → Traced OfOther kinds beats extra old new r
traced_from OfOne OfOther kinds beats extra old new ending.Done f h = (h.0, f (λ outs port. TracesToEnd kinds beats extra outs port old.taken new.taken) h.1)
traced_from OfOne OfOther kinds beats extra old new (ending.NoEnd cycle) f h = (h.0, f (λ outs port. TracesOut kinds beats extra cycle outs port old.taken new.taken) h.1)
traced_from OfOne OfOther kinds beats extra old new ending.WriteFault f h = (h.0, f (λ outs port. TracesFront kinds beats extra outs port old.taken new.taken) h.1)
traced_from OfOne OfOther kinds beats extra old new ending.Memory f h = h

-- each run from the start is one in which it is before the first cycle
of_started : (m : Module) (schema : Schema) (beats : Beats) (start : Start) (extra : ℕ) (d : Driven) (P : List (List ℕ) → PortValues → Type 0) → IsStarted m schema beats start extra d → OfDriven d P → OfRunsOf m schema beats start P
of_started m schema beats start extra d P is h = λ value word over. subst (λ (x : Module). P (result_names x) (port_of x value)) is.design' (h value word (is.before value word over))

pub traced_started : (m : Module) (schema : Schema) (kinds : List Kind) (beats : Beats) (start : Start) (extra : ℕ) (d : Driven) (old new : SinkState) (r : Ending) → IsStarted m schema beats start extra d
    → Traced (OfDriven d) kinds d.beats d.extra old new r → Traced (OfRunsOf m schema beats start) kinds beats extra old new r
traced_started m schema kinds beats start extra d old new r is h =
    subst (λ (x : Beats). Traced (OfRunsOf m schema beats start) kinds x extra old new r) is.beats' (
    subst (λ (x : ℕ). Traced (OfRunsOf m schema beats start) kinds d.beats x old new r) is.extra' (
    traced_from (OfDriven d) (OfRunsOf m schema beats start) kinds d.beats d.extra old new r (λ P. of_started m schema beats start extra d P is) h))

-- where the end of one result is waited for
pub end_is : (m : Module) (beats : Beats) (port : PortValues) (n : ℕ) → IsFirstEnd beats (end_of_cycle m port) n → IsEnd beats (result_names m) port n
end_is m beats port n e = record { soonest = e.soonest; ends = e.holds; first = e.first }

pub out_is : (m : Module) (beats : Beats) (port : PortValues) (extra n : ℕ) → NeverEnds beats (end_of_cycle m port) extra n → RunsOut beats (result_names m) port extra n
out_is m beats port extra n e = record { last = e.last; none = e.none }

ends_in : (m : Module) (beats : Beats) (port : PortValues) (extra n : ℕ) → EndsBy beats (end_of_cycle m port) extra n → EndsIn beats (result_names m) port extra n
ends_in m beats port extra n e = record { is = end_is m beats port n e.is; in_time = e.in_time }

last_is : (m : Module) (beats : Beats) (port : PortValues) (extra n : ℕ) → IsLastCycle beats (end_of_cycle m port) extra n → IsLastRun beats (result_names m) port extra n
last_is m beats port extra n is = (elim is [
  | inl e ↦ inl (ends_in m beats port extra n e)
  | inr e ↦ inr (out_is m beats port extra n e)
])

-- what was watched of a result is its trace
lines_taken : (kinds : List Kind) (m : Module) (port : PortValues) (n : ℕ) (old new : Option (List ℕ)) → Appends old new (bytes_to (lines_of_cycle kinds) m port n) → WritesTo kinds (result_names m) port n old new
lines_taken kinds m port n old new h = subst (Appends old new) (lines_to kinds m port n) h

pub traced_of : (d : Driven) (stands : Module → PortValues → ℕ → Type 0) (kinds : List Kind) (beats : Beats) (extra : ℕ) (old new : SinkState) (r : Ending) → Watched (OfDrivenPorts d) (lines_of_cycle kinds) end_of_cycle stands beats extra old new r → Traced (OfDriven d) kinds beats extra old new r
traced_of d stands kinds beats extra old new ending.Done h = (
  h.0,
  λ value word before.
      let w = h.1 value word before in
      record { last = w.last; ends = ends_in (design_of d) beats (port_of (design_of d) value) extra w.last w.is; taken = lines_taken kinds (design_of d) (port_of (design_of d) value) w.last old.taken new.taken w.watched.taken },
)
traced_of d stands kinds beats extra old new (ending.NoEnd cycle) h = (
  h.0,
  λ value word before.
      let w = h.1 value word before in
      record { out = out_is (design_of d) beats (port_of (design_of d) value) extra cycle w.is; taken = lines_taken kinds (design_of d) (port_of (design_of d) value) cycle old.taken new.taken w.watched.taken },
)
traced_of d stands kinds beats extra old new ending.WriteFault h = (
  h.0,
  λ value word before.
      let w = h.1 value word before in
      record {
        last = w.last;
        is = last_is (design_of d) beats (port_of (design_of d) value) extra w.last w.is;
        taken = subst (AppendsFront old.taken new.taken) (lines_to kinds (design_of d) (port_of (design_of d) value) w.last) w.taken;
      },
)
traced_of d stands kinds beats extra old new ending.Memory h = absurd h

-- before the reset each run from the start is followed
pub followed_first : (s : Simulation) (schema : Schema) (beats : Beats) (start : Start) (d : Rust) (value : ℕ → Nets) (word : ℕ → Memories) → EventRunsAreRuns (module_of d) → s.design ≡ d
    → ((value : ℕ → Nets) (word : ℕ → Memories) → StartsFrom start (module_of d) value word → IsAt s value word 0) → IsRunOver (module_of d) schema beats start value word → IsFollowed s schema beats value word 0
followed_first s schema beats start d value word runs same started over = record {
  run = subst (λ (e : Rust). IsRun (module_of e) value word) (sym same) (runs value word over.run);
  stimulus = subst (λ (e : Rust). IsStimulus schema beats (input_values (module_of e) value)) (sym same) over.stimulus;
  at = started value word over.starts;
}

-- there is such a run where the ports are found
pub run_there : (m : Module) (schema : Schema) (ports : Ports) (beats : Beats) (start : Start) → (IsOk (fit_of m schema) → HasStartedRuns m schema) → fit_of m schema ≡ Ok ports → AreBeats schema beats → HasRunOver m schema beats start
run_there m schema ports beats start runs fit are =
    let r = runs (subst IsOk (sym fit) refl) beats start are in
    record { value = r.value; word = r.word; over = record { run = r.run; starts = r.starts; stimulus = r.stimulus } }

-- ---- runs that end in time

-- such a run is not one that is waited for in vain
pub not_out : {P : Type 0} (beats : Beats) (outs : List (List ℕ)) (port : PortValues) (extra n : ℕ) → RunsOut beats outs port extra n → EndsWithin extra beats outs port → P
not_out beats outs port extra n out e =
    let no' : (shown port outs e.ended).end ≡ false = out.none e.ended e.soonest e.in_time in
    let yes' : (shown port outs e.ended).end ≡ true = e.ends in
    absurd cc

writes_end : (kinds : List Kind) (beats : Beats) (extra : ℕ) (outs : List (List ℕ)) (port : PortValues) (old new : Option (List ℕ)) → TracesToEnd kinds beats extra outs port old new → Writes kinds beats outs port old new
writes_end kinds beats extra outs port old new t = record {
  bytes = lines kinds (seen port outs t.last);
  are = record { ended = t.last; is = t.ends.is; all = refl };
  taken = t.taken;
}

writes_front : (kinds : List Kind) (beats : Beats) (extra : ℕ) (outs : List (List ℕ)) (port : PortValues) (old new : Option (List ℕ)) → TracesFront kinds beats extra outs port old new → EndsWithin extra beats outs port → WritesFront kinds beats outs port old new
writes_front kinds beats extra outs port old new t e = (elim t.is [
  | inl in' ↦ record {
    bytes = lines kinds (seen port outs t.last);
    are = record { ended = t.last; is = in'.is; all = refl };
    taken = t.taken;
  }
  | inr out ↦ not_out beats outs port extra t.last out e
])

-- of these a trace writes the lines up to the end
pub ran_timely : (m : Module) (schema : Schema) (kinds : List Kind) (beats : Beats) (latency : ℕ) (start : Start) (old new : SinkState) (r : Ending)
    → Traced (OfRunsOf m schema beats start) kinds beats latency old new r → Ran (OfTimely latency m schema beats start) kinds beats old new (outcome_of r)
ran_timely m schema kinds beats latency start old new ending.Done h = (h.0, λ value word over e. writes_end kinds beats latency (result_names m) (port_of m value) old.taken new.taken (h.1 value word over))
ran_timely m schema kinds beats latency start old new (ending.NoEnd cycle) h = (h.0, λ value word over e. not_out beats (result_names m) (port_of m value) latency cycle (h.1 value word over).out e)
ran_timely m schema kinds beats latency start old new ending.WriteFault h = (h.0, λ value word over e. writes_front kinds beats latency (result_names m) (port_of m value) old.taken new.taken (h.1 value word over) e)
ran_timely m schema kinds beats latency start old new ending.Memory h = h
