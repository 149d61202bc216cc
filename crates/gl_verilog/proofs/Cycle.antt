-- A cycle in any order of events is the two-phase cycle.
use Rattle.std.proofs.Common.{◌≡◌, ◌≢◌, ℕ, suc, ◌+◌, ◌^◌, ◌<◌, inl, inr, true, List, [], ◌∷◌, Some, refl, sym, ap, ◌∙◌, subst, arith}
use Rattle.std.specs.Prelude.{slice_get, IsSomeAnd, ◌&&◌, not}
use Rattle.std.specs.List.{AllByRecursion, AllZip}
use Rattle.gl_bits.proofs.Bools.{and_left}
use Rattle.gl_bits.proofs.AllLists.{all_at}
use Rattle.gl_verilog.specs.Module.{Module, Declaration, Kind, Input, OutputWire, OutputRegister, Wire, Register, Memory, Assignment, Nets, Memories, value_of}
use Rattle.gl_verilog.specs.Run.{IsRegister, IsSettled}
use Rattle.gl_verilog.specs.Widths.{IsDriven, is_clock, width_at}
use Rattle.gl_verilog.specs.Valid.{IsValid, mentions}
use Rattle.gl_verilog.specs.Runnable.{is_input, inputs_from, inputs_of}
use Rattle.gl_verilog.proofs.Fits.{found_in, width_at-found}
use Rattle.gl_verilog.proofs.Stores.{same_item}
use Rattle.gl_verilog.proofs.Settles.{with_net-same, with_net-other}
use Rattle.gl_verilog.proofs.Runs.{register_undriven}
use Rattle.gl_verilog.specs.Events.{Event, Evaluates, State, IsAtRest, evaluations, net_takes, at_edge, inputs_take, IsCycle, IsStart, IsSettledRest, StandsBefore}
use Rattle.gl_verilog.specs.Laws.{IsTwoPhase, CyclesAreTwoPhase}
use Rattle.gl_verilog.proofs.Among.{IsAmong, IsEvaluation, evaluations_has, evaluations_only, executions_only}
use Rattle.gl_verilog.proofs.Aware.{not_target, net_takes-cases, aware_net}
use Rattle.gl_verilog.proofs.Good.{IsFine, IsGood, good_net, good_steps, settled_at_rest}
use Rattle.gl_verilog.proofs.Phases.{IsSettling, settling_schedule, evaluations_woken, begins_behind, behind_steps, stepped_at_rest}
use Rattle.gl_verilog.proofs.Acyclic.{chosen}

-- ---- before a cycle

-- good, and only assignments are active
pub record IsReady (m : Module) (s : State) : Type 0 where
  pub good : IsGood m s
  pub waiting : s.waiting ≡ []
  pub active : (e : Event) → IsAmong e s.active → IsEvaluation e

evaluations_fine : (ds : List Declaration) (e : Event) → IsEvaluation e → IsFine ds e
evaluations_fine ds e v = subst (IsFine ds) (sym v.is) tt

settled_at : (as' : List Assignment) (v : Nets) (w : Memories) (j : ℕ) (a : Assignment) → IsSettled as' v w → slice_get as' j ≡ Some a → v a.target ≡ value_of v w a.value
settled_at as' v w j a h e = all_at (λ a. v a.target ≡ value_of v w a.value) as' j a e h

pub ready : (m : Module) (s : State) → StandsBefore m s → IsReady m s
ready m s h = elim h [ inl start ↦ ready_start start | inr rest ↦ ready_rest rest ]
  where
    ready_start : IsStart m s → IsReady m s
    ready_start h =
        let only : (e : Event) → IsAmong e s.active → IsEvaluation e = λ e i. evaluations_only (λ e. true) 0 m.assignments e (subst (IsAmong e) h.all i) in
        record {
          good = record {
            fits = h.fits;
            fine = λ e i. evaluations_fine m.declarations e (only e i);
            waits = λ e i. absurd (subst (IsAmong e) h.empty i);
            aware = λ j a e. inr (subst (IsAmong (Evaluates j)) (sym h.all)
                (subst (λ i. IsAmong (Evaluates i) (evaluations (λ e. true) 0 m.assignments)) (let z : 0 + j ≡ j = omega arith in z) (evaluations_has (λ e. true) 0 m.assignments j a e refl)));
          };
          waiting = h.empty;
          active = only;
        }

    ready_rest : IsSettledRest m s → IsReady m s
    ready_rest h = record {
      good = record {
        fits = h.fits;
        fine = λ e i. absurd (subst (IsAmong e) h.rest.still i);
        waits = λ e i. absurd (subst (IsAmong e) h.rest.empty i);
        aware = λ j a e. inl (settled_at m.assignments s.nets s.words j a h.settled e);
      };
      waiting = h.rest.empty;
      active = λ e i. absurd (subst (IsAmong e) h.rest.still i);
    }

pub stands : (m : Module) (s : State) → IsGood m s → IsAtRest s → StandsBefore m s
stands m s g r = inr (record { fits = g.fits; rest = r; settled = settled_at_rest m s g.aware r.still })

-- ---- the input ports

-- the number of an input port
abbrev pub IsPort : Module → ℕ → Type 0
IsPort m n = IsSomeAnd (slice_get m.declarations n) (λ d. is_input d.kind ≡ true)

input_undriven : (k : Kind) → is_input k ≡ true → IsDriven k → ⊥
input_undriven Input e h = h
input_undriven OutputWire e h = absurd cc
input_undriven OutputRegister e h = h
input_undriven Wire e h = absurd cc
input_undriven Register e h = h
input_undriven (Memory bits) e h = h

input_register : (k : Kind) → is_input k ≡ true → IsRegister k → ⊥
input_register Input e h = h
input_register OutputWire e h = h
input_register OutputRegister e h = absurd cc
input_register Wire e h = h
input_register Register e h = absurd cc
input_register (Memory bits) e h = h

-- what holds of each port holds of all that are counted
each_port : (P : ℕ → Type 0) (k : ℕ) (ds : List Declaration) → ((i : ℕ) (d : Declaration) → slice_get ds i ≡ Some d → is_input d.kind ≡ true → P (k + i)) → AllByRecursion P (inputs_from k ds)
each_port P k [] h = tt
each_port P k (d ∷ ds) h =
    let rest = each_port P (k + 1) ds (λ i c e t. subst P (let z : k + suc i ≡ k + 1 + i = omega arith in z) (h (suc i) c e t)) in
    chosen (AllByRecursion P) (is_input d.kind && not (is_clock d)) (k ∷ inputs_from (k + 1) ds) (inputs_from (k + 1) ds)
    (λ t. (subst P (let z : k + 0 ≡ k = omega arith in z) (h 0 d refl (and_left (is_input d.kind) (not (is_clock d)) t)), rest))
    (λ t. rest)

pub ports : (m : Module) → AllByRecursion (IsPort m) (inputs_of m)
ports m = each_port (IsPort m) 0 m.declarations (λ i d e t. subst (IsPort m) (let z : i ≡ 0 + i = omega arith in z) (rw e t))

-- none twice
abbrev pub AreApart : List ℕ → Type 0
AreApart [] = Unit {0}
AreApart (n ∷ ns) = AllByRecursion (λ k. k ≢ n) ns × AreApart ns

apart_from : (k : ℕ) (ds : List Declaration) → AreApart (inputs_from k ds)
apart_from k [] = tt
apart_from k (d ∷ ds) = chosen AreApart (is_input d.kind && not (is_clock d)) (k ∷ inputs_from (k + 1) ds) (inputs_from (k + 1) ds)
    (λ t. (each_port (λ i. i ≢ k) (k + 1) ds (λ i c e u q. (absurd (omega (arith, q)))), apart_from (k + 1) ds))
    (λ t. apart_from (k + 1) ds)

-- ---- the inputs are taken

takes_at : (m : Module) (s : State) (n x : ℕ) → (net_takes m s n x).nets n ≡ x
takes_at m s n x = net_takes-cases (λ t. t.nets n ≡ x) m s n x (λ same. same) (λ other. with_net-same s.nets n x)

takes_other : (m : Module) (s : State) (n x k : ℕ) → n ≢ k → (net_takes m s n x).nets k ≡ s.nets k
takes_other m s n x k ne = net_takes-cases (λ t. t.nets k ≡ s.nets k) m s n x (λ same. refl) (λ other. with_net-other s.nets n x k ne)

takes_words : (m : Module) (s : State) (n x : ℕ) → (net_takes m s n x).words ≡ s.words
takes_words m s n x = net_takes-cases (λ t. t.words ≡ s.words) m s n x (λ same. refl) (λ other. refl)

ready_net : (m : Module) → IsValid m → (s : State) (n x : ℕ) → IsPort m n → x < 2 ^ width_at m.declarations n → IsReady m s → IsReady m (net_takes m s n x)
ready_net m v s n x port lt h =
    let c = found_in (slice_get m.declarations n) (λ d. is_input d.kind ≡ true) port in
    record {
      good = good_net m s n x h.good.fits h.good.fine h.good.waits
          (λ d e. subst (λ w. x < 2 ^ w) (width_at-found m.declarations n d e) lt)
          (aware_net m s n x (λ j a e. inr (h.good.aware j a e)) (λ j a e q. absurd (not_target m v j a n c.item e c.is (input_undriven c.item.kind c.fact) q)));
      waiting = net_takes-cases (λ t. t.waiting ≡ []) m s n x (λ same. h.waiting) (λ other. h.waiting);
      active = net_takes-cases (λ t. (e : Event) → IsAmong e t.active → IsEvaluation e) m s n x (λ same. h.active) (λ other. evaluations_woken s.active (λ e. mentions e n) m.assignments h.active);
    }

inputs_ready : (m : Module) → IsValid m → (s : State) (ns xs : List ℕ) → AllByRecursion (IsPort m) ns → AllZip (λ n x. x < 2 ^ width_at m.declarations n) ns xs → IsReady m s → IsReady m (inputs_take m s ns xs)
inputs_ready m v s [] xs p f h = h
inputs_ready m v s (n ∷ ns) [] p f h = h
inputs_ready m v s (n ∷ ns) (x ∷ xs) p f h = inputs_ready m v (net_takes m s n x) ns xs p.1 f.1 (ready_net m v s n x p.0 f.0 h)

inputs_other : (m : Module) (s : State) (ns xs : List ℕ) (k : ℕ) → AllByRecursion (λ n. n ≢ k) ns → (inputs_take m s ns xs).nets k ≡ s.nets k
inputs_other m s [] xs k h = refl
inputs_other m s (n ∷ ns) [] k h = refl
inputs_other m s (n ∷ ns) (x ∷ xs) k h = inputs_other m (net_takes m s n x) ns xs k h.1 ∙ takes_other m s n x k h.0

inputs_words : (m : Module) (s : State) (ns xs : List ℕ) → (inputs_take m s ns xs).words ≡ s.words
inputs_words m s [] xs = refl
inputs_words m s (n ∷ ns) [] = refl
inputs_words m s (n ∷ ns) (x ∷ xs) = inputs_words m (net_takes m s n x) ns xs ∙ takes_words m s n x

inputs_there : (m : Module) (s : State) (ns xs : List ℕ) → AreApart ns → AllZip (λ n x. x < 2 ^ width_at m.declarations n) ns xs → AllZip (λ n x. (inputs_take m s ns xs).nets n ≡ x) ns xs
inputs_there m s [] [] a f = tt
inputs_there m s [] (x ∷ xs) a f = f
inputs_there m s (n ∷ ns) [] a f = f
inputs_there m s (n ∷ ns) (x ∷ xs) a f = (inputs_other m (net_takes m s n x) ns xs n a.0 ∙ takes_at m s n x, inputs_there m (net_takes m s n x) ns xs a.1 f.1)

-- a register is no port
register_apart : (m : Module) (r : ℕ) (d : Declaration) (ns : List ℕ) → slice_get m.declarations r ≡ Some d → IsRegister d.kind → AllByRecursion (IsPort m) ns → AllByRecursion (λ n. n ≢ r) ns
register_apart m r d [] e reg p = tt
register_apart m r d (n ∷ ns) e reg p =
    let c = found_in (slice_get m.declarations n) (λ d. is_input d.kind ≡ true) p.0 in
    ((λ q. input_register c.item.kind c.fact (subst (λ (i : Declaration). IsRegister i.kind) (sym (same_item m.declarations r c.item d (subst (λ i. slice_get m.declarations i ≡ Some c.item) q c.is) e)) reg)), register_apart m r d ns e reg p.1)

-- the ports keep their values while assignments settle
inputs_keep : (m : Module) (v v' : Nets) (ns xs : List ℕ) → AllByRecursion (IsPort m) ns → ((n : ℕ) (d : Declaration) → slice_get m.declarations n ≡ Some d → (IsDriven d.kind → ⊥) → v' n ≡ v n) → AllZip (λ n x. v n ≡ x) ns xs → AllZip (λ n x. v' n ≡ x) ns xs
inputs_keep m v v' [] [] p h z = tt
inputs_keep m v v' [] (x ∷ xs) p h z = z
inputs_keep m v v' (n ∷ ns) [] p h z = z
inputs_keep m v v' (n ∷ ns) (x ∷ xs) p h z =
    let c = found_in (slice_get m.declarations n) (λ d. is_input d.kind ≡ true) p.0 in
    (h n c.item c.is (input_undriven c.item.kind c.fact) ∙ z.0, inputs_keep m v v' ns xs p.1 h z.1)

-- ---- a cycle

pub edge_good : (m : Module) (s : State) → IsGood m s → IsAtRest s → IsGood m (at_edge m s)
edge_good m s g r = record {
  fits = g.fits;
  fine = λ e i. (let x = executions_only 0 m.blocks e i in subst (IsFine m.declarations) (sym x.is) tt);
  waits = g.waits;
  aware = λ j a e. inl (settled_at m.assignments s.nets s.words j a (settled_at_rest m s g.aware r.still) e);
}

pub cycles_are_two_phase : (m : Module) → IsValid m → CyclesAreTwoPhase m
cycles_are_two_phase m v = λ inputs before seen after' stands' cycle. cycle_by inputs before seen after' (ready m before stands') cycle
  where
    cycle_by : (inputs : List ℕ) (before seen after' : State) → IsReady m before → IsCycle m inputs before seen after' → IsTwoPhase m inputs before.nets before.words seen.nets seen.words after'.nets after'.words × StandsBefore m after'
    cycle_by inputs before seen after' h cycle =
        let set = inputs_take m before (inputs_of m) inputs in
        let begun = inputs_ready m v before (inputs_of m) inputs (ports m) cycle.fit h in
        let first : IsSettling m set.nets set.words set = record { waiting = begun.waiting; active = begun.active; nets = λ n d e no'. refl; words = refl } in
        let settling = settling_schedule m v set.nets set.words set seen first cycle.settles in
        let good = good_steps m v set seen begun.good cycle.settles in
        let good_edge = edge_good m seen good cycle.settled in
        let good_after = good_steps m v (at_edge m seen) after' good_edge cycle.updates in
        let behind = behind_steps m v seen.nets seen.words (at_edge m seen) after' good_edge (begins_behind m seen cycle.settled.empty) cycle.updates in
        let stepped = stepped_at_rest m v seen.nets seen.words after' good_after behind cycle.updated in (
          record {
            fits = good.fits;
            inputs' = inputs_keep m set.nets seen.nets (inputs_of m) inputs (ports m) settling.nets (inputs_there m before (inputs_of m) inputs (apart_from 0 m.declarations) cycle.fit);
            held = λ r d e reg. sym (settling.nets r d e (register_undriven d.kind reg) ∙ inputs_other m before (inputs_of m) inputs r (register_apart m r d (inputs_of m) e reg (ports m)));
            kept = λ k at. sym (ap (λ (w : Memories). w k at) (settling.words ∙ inputs_words m before (inputs_of m) inputs));
            settled = settled_at_rest m seen good.aware cycle.settled.still;
            registers = stepped.registers;
            memories = stepped.words;
          },
          stands m after' good_after cycle.updated,
        )
