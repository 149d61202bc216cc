-- Runs in any order of events.
use mathlib.Core.Path.{fun_ext}
use Rattle.std.proofs.Common.{◌≡◌, ℕ, zero, suc, ◌+◌, ◌^◌, ◌<◌, inl, Bool, true, false, cond, List, [], ◌∷◌, map, Some, refl, sym, ap, ◌∙◌, subst, arith, add-one, unwrap_or}
use Rattle.std.specs.Prelude.{slice_get, ◌&&◌, not}
use Rattle.std.specs.List.{AllByRecursion, AllZip}
use Rattle.gl_verilog.specs.Module.{Module, Declaration, Input, Nets, Memories, assigned_by, written_by}
use Rattle.gl_verilog.specs.Run.{Fit, IsRun}
use Rattle.gl_verilog.specs.Widths.{is_clock, width_at}
use Rattle.gl_verilog.specs.Valid.{IsValid}
use Rattle.gl_verilog.specs.Runnable.{IsRunnable, RunsAgree, is_input, inputs_from, inputs_of, FitInputs, HasInputs, SameState}
use Rattle.gl_verilog.proofs.Fits.{found_in, width_at-found}
use Rattle.gl_verilog.specs.Events.{State, evaluations, at_edge, inputs_take, IsStart, StandsBefore, IsEventRun}
use Rattle.gl_verilog.specs.Laws.{Rests, IsTwoPhase, EventRunsAreRuns, EventRunsOf, HasEventRunsOf, HasEventRuns, RunsAreSeen}
use Rattle.gl_verilog.proofs.Acyclic.{chosen}
use Rattle.gl_verilog.proofs.Rests.{rests}
use Rattle.gl_verilog.proofs.Cycle.{IsPort, ports, cycles_are_two_phase}

-- ---- a run in any order of events is a run

module _ (m : Module) (v : IsValid m) (value : ℕ → Nets) (word : ℕ → Memories) (run : IsEventRun m value word) where
  stands_at : (t : ℕ) → StandsBefore m (run.before t)
  stands_at zero = inl run.start
  stands_at (suc t) = (cycles_are_two_phase m v (run.inputs t) (run.before t) (run.seen t) (run.before (suc t)) (stands_at t) (run.cycles t)).1

  phases : (t : ℕ) → IsTwoPhase m (run.inputs t) (run.before t).nets (run.before t).words (run.seen t).nets (run.seen t).words (run.before (suc t)).nets (run.before (suc t)).words
  phases t = (cycles_are_two_phase m v (run.inputs t) (run.before t) (run.seen t) (run.before (suc t)) (stands_at t) (run.cycles t)).0

  seen_run : IsRun m (λ t. (run.seen t).nets) (λ t. (run.seen t).words)
  seen_run = record {
    settled = λ t. (phases t).settled;
    registers = λ t n d e r. subst (λ u. (run.seen u).nets n ≡ unwrap_or (assigned_by (run.seen t).nets (run.seen t).words m.blocks n) ((run.seen t).nets n)) (sym (add-one t))
        (sym ((phases (suc t)).held n d e r) ∙ (phases t).registers n d e r);
    memories = λ t k at. subst (λ u. (run.seen u).words k at ≡ unwrap_or (written_by (run.seen t).nets (run.seen t).words m.blocks k at) ((run.seen t).words k at)) (sym (add-one t))
        (sym ((phases (suc t)).kept k at) ∙ (phases t).memories k at);
    fits = λ t. (phases t).fits;
  }

  pub is_run : IsRun m value word
  is_run = subst (λ (x : ℕ → Nets). IsRun m x word) (sym (fun_ext run.values)) (subst (λ (y : ℕ → Memories). IsRun m (λ t. (run.seen t).nets) y) (sym (fun_ext run.words)) seen_run)

  pub run_inputs : (t : ℕ) → HasInputs m (value t) (run.inputs t)
  run_inputs t = subst (λ (x : Nets). HasInputs m x (run.inputs t)) (sym (run.values t)) (phases t).inputs'

  pub run_starts : SameState m.declarations (run.before 0).nets (run.before 0).words (value 0) (word 0)
  run_starts = record {
    registers = λ n d e r. (phases 0).held n d e r ∙ ap (λ (x : Nets). x n) (sym (run.values 0));
    words = λ k d at e lt. (phases 0).kept k at ∙ ap (λ (x : Memories). x k at) (sym (run.words 0));
  }

pub event_runs_are_runs : (m : Module) → IsValid m → EventRunsAreRuns m
event_runs_are_runs m v = λ value word run. is_run m v value word run

-- ---- there is one

module _ (m : Module) (v : IsValid m) (start : State) (inputs : ℕ → List ℕ) where
  pub before_at : ℕ → State
  before_at zero = start
  before_at (suc t) = (rests m v (at_edge m (rests m v (inputs_take m (before_at t) (inputs_of m) (inputs t))).last)).last

  pub settling : (t : ℕ) → Rests m (inputs_take m (before_at t) (inputs_of m) (inputs t))
  settling t = rests m v (inputs_take m (before_at t) (inputs_of m) (inputs t))

  made : IsStart m start → ((t : ℕ) → FitInputs m (inputs t)) → EventRunsOf m start inputs
  unfolding before_at settling
  made h fit = record {
    value = λ t. (settling t).last.nets;
    word = λ t. (settling t).last.words;
    is = record {
      before = before_at;
      inputs = inputs;
      seen = λ t. (settling t).last;
      start = h;
      cycles = λ t. record {
        fit = fit t;
        settles = (settling t).steps;
        settled = (settling t).rest;
        updates = (rests m v (at_edge m (settling t).last)).steps;
        updated = (rests m v (at_edge m (settling t).last)).rest;
      };
      values = λ t. refl;
      words = λ t. refl;
    };
    begins = refl;
    takes = λ t. refl;
  }

pub has_event_runs_of : (m : Module) → IsValid m → HasEventRunsOf m
has_event_runs_of m v = λ start inputs h fit. made m v start inputs h fit

-- ---- in the words of two-phase runs

-- what holds of all ports holds of each
at_port : (P : ℕ → Type 0) (k : ℕ) (ds : List Declaration) (i : ℕ) (d : Declaration) → slice_get ds i ≡ Some d → d.kind ≡ Input → is_clock d ≡ false → AllByRecursion P (inputs_from k ds) → P (k + i)
at_port P k [] i d e is clock h = absurd cc
at_port P k (c ∷ ds) zero d e is clock h =
    let same : c ≡ d = cc in
    let test : (is_input c.kind && not (is_clock c)) ≡ true = rw (same, is, clock) refl in
    subst P (let z : k ≡ k + 0 = omega arith in z) (here (is_input c.kind && not (is_clock c)) test h)
  where
    here : (b : Bool) → b ≡ true → AllByRecursion P (cond b (k ∷ inputs_from (k + 1) ds) (inputs_from (k + 1) ds)) → P k
    here true e h = h.0
    here false e h = absurd cc
at_port P k (c ∷ ds) (suc i) d e is clock h =
    subst P (let z : k + 1 + i ≡ k + suc i = omega arith in z) (at_port P (k + 1) ds i d e is clock
    (chosen (λ l. AllByRecursion P l → AllByRecursion P (inputs_from (k + 1) ds)) (is_input c.kind && not (is_clock c)) (k ∷ inputs_from (k + 1) ds) (inputs_from (k + 1) ds) (λ t g. g.1) (λ t g. g) h))

rows_fit : (m : Module) (v : Nets) (w : Memories) (ns : List ℕ) → Fit m.declarations v w → AllByRecursion (IsPort m) ns → AllZip (λ n x. x < 2 ^ width_at m.declarations n) ns (map v ns)
rows_fit m v w [] f p = tt
rows_fit m v w (n ∷ ns) f p =
    let c = found_in (slice_get m.declarations n) (λ d. is_input d.kind ≡ true) p.0 in
    (subst (λ b. v n < 2 ^ b) (sym (width_at-found m.declarations n c.item c.is)) (f n c.item c.is).0, rows_fit m v w ns f p.1)

rows_same : (v v' : Nets) (ns : List ℕ) → AllZip (λ n x. v' n ≡ x) ns (map v ns) → AllByRecursion (λ n. v n ≡ v' n) ns
rows_same v v' [] h = tt
rows_same v v' (n ∷ ns) h = (sym h.0, rows_same v v' ns h.1)

pub has_event_runs : (m : Module) → IsValid m → HasEventRuns m
has_event_runs m v = λ start words inputs fit fits.
    let begin : State = record { nets = start; words = words; active = evaluations (λ e. true) 0 m.assignments; waiting = [] } in
    let rows : ℕ → List ℕ = λ t. map (inputs t) (inputs_of m) in
    let run = has_event_runs_of m v begin rows (record { fits = fit; all = refl; empty = refl }) (λ t. rows_fit m (inputs t) words (inputs_of m) (fits t) (ports m)) in
    record {
      value = run.value;
      word = run.word;
      is = run.is;
      starts = subst (λ (s : State). SameState m.declarations s.nets s.words (run.value 0) (run.word 0)) run.begins (run_starts m v run.value run.word run.is);
      takes = λ t n d e is clock.
          subst (λ i. inputs t i ≡ run.value t i) (let z : 0 + n ≡ n = omega arith in z)
          (at_port (λ i. inputs t i ≡ run.value t i) 0 m.declarations n d e is clock
          (rows_same (inputs t) (run.value t) (inputs_of m) (subst (λ xs. HasInputs m (run.value t) xs) (run.takes t) (run_inputs m v run.value run.word run.is t))));
    }

-- ---- and the two-phase run is seen in some order

pub runs_are_seen : ((m : Module) → IsValid m → IsRunnable m) → ((m : Module) → IsRunnable m → RunsAgree m)
    → (m : Module) → IsValid m → RunsAreSeen m
runs_are_seen runnable runs_agree m v = λ value word run.
    let other = has_event_runs m v (value 0) (word 0) value (run.fits 0) (λ t n d e. ((run.fits t n d e).0, (run.fits 0 n d e).1)) in
    record {
      value' = other.value;
      word' = other.word;
      is = other.is;
      same = runs_agree m (runnable m v) value other.value word other.word run (event_runs_are_runs m v other.value other.word other.is) other.starts other.takes;
    }
