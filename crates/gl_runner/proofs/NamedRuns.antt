-- From what was watched of several results to what each run of the module shows.
use Rattle.std.proofs.Common.{◌≡◌, ℕ, zero, suc, ◌+◌, ◌<◌, ◌≤◌, inl, inr, Bool, true, false, ◌||◌, ◌&&◌, List, [], ◌∷◌, ◌++◌, refl, ap, ◌∙◌, subst, arith, le-leb}
use Rattle.std.specs.Prelude.{nat_le}
use Rattle.std.proofs.lemmas.Bool.{cases_eq}
use Rattle.gl_bits.proofs.Bools.{or_right}
use Rattle.gl_outside.specs.States.{Appends, AppendsFront, SinkState}
use Rattle.gl_schema.specs.declared.schema.Schema.{Schema}
use Rattle.gl_schema.specs.Beats.{Beats, last_cycle}
use Rattle.gl_schema.specs.Ports.{PortValues}
use Rattle.gl_verilog.specs.Module.{Module, Nets, Memories}
use Rattle.gl_verilog.specs.Run.{port_of}
use Rattle.gl_verilog.specs.declared.start.Start.{Start}
use Rattle.gl_runner.specs.declared.faces.Face.{Face}
use Rattle.gl_runner.specs.declared.tracing.Ending.{Ending}
use Rattle.gl_runner.specs.declared.tracing.Ending.TheVariants as ending
use Rattle.gl_runner.specs.Cycles.{Driven, IsStarted, outcome_of}
use Rattle.gl_runner.specs.Ends.{NeverEnds}
use Rattle.gl_runner.specs.Prints.{IsRunOver}
use Rattle.gl_runner.specs.Several.{AllEndWithin, OfTimelyFaces, RanAll, all_ended, all_lines, ended_before, lines_through, shown_by}
use Rattle.gl_runner.specs.Watches.{OfDrivenPorts, Watched, WatchesFront, WatchesOut, WatchesToEnd, bytes_to}

-- ---- the end in time

-- an end that was seen was seen before any later cycle
seen_before : (last : ℕ) (ends : ℕ → Bool) (e n : ℕ) → nat_le last e ≡ true → ends e ≡ true → e < n → ended_before last ends n ≡ true
seen_before last ends e zero late is lt = absurd (omega arith)
seen_before last ends e (suc n) late is lt = (elim (cases_eq e n) [
  | inl same ↦
      let here : (nat_le last e && ends e) ≡ true = ap (λ (b : Bool). b && ends e) late ∙ is in
      subst (λ (k : ℕ). ended_before last ends (suc k) ≡ true) same (or_right (ended_before last ends e) (nat_le last e && ends e) here)
  | inr other ↦ ap (λ (b : Bool). b || (nat_le last n && ends n)) (seen_before last ends e n late is (omega (arith, lt, other)))
])

-- so all were seen by the last cycle that is waited for
all_in_time : (latency : ℕ) (beats : Beats) (faces : List Face) (port : PortValues) → AllEndWithin latency beats faces port → all_ended faces (last_cycle beats) port (last_cycle beats + latency) ≡ true
all_in_time latency beats [] port h = refl
all_in_time latency beats (f ∷ fs) port h =
    let e = h.0 in
    let soon : e.ended < suc (last_cycle beats + latency) = omega (arith, e.in_time) in
    let here : ended_before (last_cycle beats) (λ k. (shown_by f port k).end) (suc (last_cycle beats + latency)) ≡ true =
    seen_before (last_cycle beats) (λ k. (shown_by f port k).end) e.ended (suc (last_cycle beats + latency)) (le-leb (last_cycle beats) e.ended e.soonest) e.ends soon in
    ap (λ (b : Bool). b && all_ended fs (last_cycle beats) port (last_cycle beats + latency)) here ∙ all_in_time latency beats fs port h.1

-- such a run is not one that is waited for in vain
not_never : {P : Type 0} (latency n : ℕ) (beats : Beats) (faces : List Face) (port : PortValues) → NeverEnds beats (all_ended faces (last_cycle beats) port) latency n → AllEndWithin latency beats faces port → P
not_never latency n beats faces port out h =
    let last : ℕ = last_cycle beats in
    let low : last ≤ last + latency = omega arith in
    let high : last + latency ≤ last + latency = omega arith in
    let no' : all_ended faces last port (last + latency) ≡ false = out.none (last + latency) low high in
    let yes' : all_ended faces last port (last + latency) ≡ true = all_in_time latency beats faces port h in
    absurd cc

-- ---- the lines

-- of the cycles up to one, cycle by cycle
lines_are : (faces : List Face) (m : Module) (port : PortValues) (n : ℕ) → bytes_to (λ x. all_lines faces) m port n ≡ lines_through faces port n
lines_are faces m port zero = refl
lines_are faces m port (suc n) = ap (λ (x : List ℕ). x ++ all_lines faces port (suc n)) (lines_are faces m port n)

-- ---- each run

of_runs : (m : Module) (schema : Schema) (beats : Beats) (start : Start) (extra : ℕ) (d : Driven) (P : Module → PortValues → Type 0) → IsStarted m schema beats start extra d → OfDrivenPorts d P → (value : ℕ → Nets) (word : ℕ → Memories) → IsRunOver m schema beats start value word → P m (port_of m value)
of_runs m schema beats start extra d P is h value word over = subst (λ (x : Module). P x (port_of x value)) is.design' (h value word (is.before value word over))

ran_by : (m : Module) (schema : Schema) (beats : Beats) (start : Start) (extra : ℕ) (faces : List Face) (stands : Module → PortValues → ℕ → Type 0) (d : Driven) (old new : SinkState) (r : Ending) → IsStarted m schema beats start extra d
    → Watched (OfDrivenPorts d) (λ x. all_lines faces) (λ x. all_ended faces (last_cycle beats)) stands beats extra old new r → RanAll (OfTimelyFaces extra m schema beats start faces) faces beats old new (outcome_of r)
ran_by m schema beats start extra faces stands d old new ending.Done is h = (
  h.0,
  λ value word over ends.
      let w = of_runs m schema beats start extra d (λ x port. WatchesToEnd (λ y. all_lines faces) (λ y. all_ended faces (last_cycle beats)) stands beats extra x port old.taken new.taken) is h.1 value word over in
      record { ended = w.last; is = w.is.is; taken = subst (Appends old.taken new.taken) (lines_are faces m (port_of m value) w.last) w.watched.taken },
)
ran_by m schema beats start extra faces stands d old new (ending.NoEnd cycle) is h = (
  h.0,
  λ value word over ends.
      let w = of_runs m schema beats start extra d (λ x port. WatchesOut (λ y. all_lines faces) (λ y. all_ended faces (last_cycle beats)) stands beats extra cycle x port old.taken new.taken) is h.1 value word over in
      not_never extra cycle beats faces (port_of m value) w.is ends,
)
ran_by m schema beats start extra faces stands d old new ending.WriteFault is h = (
  h.0,
  λ value word over ends.
      let w = of_runs m schema beats start extra d (λ x port. WatchesFront (λ y. all_lines faces) (λ y. all_ended faces (last_cycle beats)) beats extra x port old.taken new.taken) is h.1 value word over in
      (elim w.is [
        | inl e ↦ record { ended = w.last; is = e.is; taken = subst (AppendsFront old.taken new.taken) (lines_are faces m (port_of m value) w.last) w.taken }
        | inr out ↦ not_never extra w.last beats faces (port_of m value) out ends
      ]),
)
ran_by m schema beats start extra faces stands d old new ending.Memory is h = absurd h

pub ran_all : (m : Module) (schema : Schema) (beats : Beats) (start : Start) (extra last : ℕ) (faces faces' : List Face) (stands : Module → PortValues → ℕ → Type 0) (d : Driven) (old new : SinkState) (r : Ending) → IsStarted m schema beats start extra d → last ≡ last_cycle beats → faces' ≡ faces
    → Watched (OfDrivenPorts d) (λ x. all_lines faces') (λ x. all_ended faces' last) stands d.beats d.extra old new r → RanAll (OfTimelyFaces extra m schema beats start faces) faces beats old new (outcome_of r)
ran_all m schema beats start extra last faces faces' stands d old new r is late same h =
    ran_by m schema beats start extra faces stands d old new r is
    (subst (λ (x : ℕ). Watched (OfDrivenPorts d) (λ y. all_lines faces) (λ y. all_ended faces x) stands beats extra old new r) late
    (subst (λ (x : List Face). Watched (OfDrivenPorts d) (λ y. all_lines x) (λ y. all_ended x last) stands beats extra old new r) same
    (subst (λ (x : ℕ). Watched (OfDrivenPorts d) (λ y. all_lines faces') (λ y. all_ended faces' last) stands beats x old new r) is.extra'
    (subst (λ (x : Beats). Watched (OfDrivenPorts d) (λ y. all_lines faces') (λ y. all_ended faces' last) stands x d.extra old new r) is.beats' h))))
