-- Laws of runs.
use Rattle.std.proofs.Common.{◌≡◌, ℕ, zero, suc, ◌+◌, ◌^◌, ◌<◌, ◌≤◌, arith, Bool, true, false, List, [], ◌∷◌, Option, Some, None, refl, sym, ◌∙◌, subst, unwrap_or, nat_eq, cond, inl, inr, add-one}
use Rattle.std.specs.Prelude.{slice_get}
use Rattle.std.specs.List.{AllByRecursion}
use Rattle.std.proofs.lemmas.Bool.Decides.{eqb_tells}
use Rattle.std.proofs.lemmas.List.Sorted.{IsPermutation-sym}
use Rattle.gl_verilog.specs.Module.{Declaration, Kind, Input, OutputWire, OutputRegister, Wire, Register, Memory, Assignment, Module, Nets, Memories, Statement, Nothing, Put, Write, Both, If, value_of, assigned, assigned_by, written_by}
use Rattle.gl_verilog.specs.Run.{Fit, IsRun, IsRegister}
use Rattle.gl_verilog.specs.Widths.{IsDriven, KeepsWidth, width_of}
use Rattle.gl_verilog.specs.Order.{IsUndriven, evaluated}
use Rattle.gl_verilog.specs.Runnable.{IsRunnable, SameState, SameInputs, RunsAgree, RunsAreCausal, SettlesSomeWay, RunsFrom, HasRuns, LeavesAlone, KeepsStart}
use Rattle.gl_verilog.proofs.Fits.{found_in}
use Rattle.gl_verilog.proofs.Stores.{same_item}
use Rattle.gl_verilog.proofs.Edges.{Alike, unwrap_fits, assigned_by-alike, written_by-alike, assigned_by_fits, written_by_fits, none_either}
use Rattle.gl_verilog.proofs.Settles.{settles_one_way, each_in_order, evaluated-undriven, evaluated-fits, evaluated-settled}

-- ---- two runs agree

-- the state behind the edge of two cycles that are alike
pub state_alike : (m : Module) (value value' : ℕ → Nets) (word word' : ℕ → Memories) (t : ℕ) → IsRunnable m → IsRun m value word → IsRun m value' word' → Alike m.declarations (value t) (value' t) (word t) (word' t) → SameState m.declarations (value t) (word t) (value' t) (word' t) → SameState m.declarations (value (t + 1)) (word (t + 1)) (value' (t + 1)) (word' (t + 1))
state_alike m value value' word word' t h run run' a s = record {
  registers = λ n d e r. run.registers t n d e r ∙ rw (assigned_by-alike m.declarations (value t) (value' t) (word t) (word' t) m.blocks n a h.blocks, s.registers n d e r) (sym (run'.registers t n d e r));
  words = λ k d at e lt. run.memories t k at ∙ rw (written_by-alike m.declarations (value t) (value' t) (word t) (word' t) m.blocks k at a h.blocks, s.words k d at e lt) (sym (run'.memories t k at));
}

states_agree : (m : Module) (value value' : ℕ → Nets) (word word' : ℕ → Memories) → IsRunnable m → IsRun m value word → IsRun m value' word' → SameState m.declarations (value 0) (word 0) (value' 0) (word' 0) → (c : ℕ) → ((t : ℕ) → t ≤ c → SameInputs m.declarations (value t) (value' t)) → (t : ℕ) → t ≤ c → SameState m.declarations (value t) (word t) (value' t) (word' t)
states_agree m value value' word word' h run run' start c inputs zero l = start
states_agree m value value' word word' h run run' start c inputs (suc t) l =
    let l' : t ≤ c = omega arith in
    let before = states_agree m value value' word word' h run run' start c inputs t l' in
    let nets = settles_one_way m h (value t) (value' t) (word t) (word' t) (run.fits t) (run.settled t) (run'.settled t) (inputs t l') before in
    subst (λ u. SameState m.declarations (value u) (word u) (value' u) (word' u)) (add-one t)
    (state_alike m value value' word word' t h run run' (record { fits = run.fits t; nets = nets; words = before.words }) before)

pub runs_are_causal : (m : Module) → IsRunnable m → RunsAreCausal m
runs_are_causal m h = λ value value' word word' run run' start c inputs t l.
    let states = states_agree m value value' word word' h run run' start c inputs t l in
    (settles_one_way m h (value t) (value' t) (word t) (word' t) (run.fits t) (run.settled t) (run'.settled t) (inputs t l) states, states)

pub runs_agree : (m : Module) → IsRunnable m → RunsAgree m
runs_agree m h = λ value value' word word' run run' start inputs t.
    runs_are_causal m h value value' word word' run run' start t (λ u l. inputs u) t (omega arith)

-- ---- a register that no block assigns

left_alone : (v : Nets) (m : Memories) (s : Statement) (r : ℕ) → LeavesAlone r s → assigned v m s r ≡ None
left_alone v m Nothing r h = refl
left_alone v m (Put register value) r h = elim (eqb_tells register r) [ inl same ↦ absurd (h same.1) | inr other ↦ rw other.0 refl ]
left_alone v m (Write memory address value) r h = refl
left_alone v m (Both first second) r h = rw (left_alone v m second r h.1, left_alone v m first r h.0) refl
left_alone v m (If test yes' no') r h = rw (left_alone v m yes' r h.0, left_alone v m no' r h.1) (none_either (nat_eq (value_of v m test) 1))

left_alone_by : (v : Nets) (m : Memories) (bs : List Statement) (r : ℕ) → AllByRecursion (LeavesAlone r) bs → assigned_by v m bs r ≡ None
left_alone_by v m [] r h = refl
left_alone_by v m (b ∷ bs) r h = rw (left_alone_by v m bs r h.1, left_alone v m b r h.0) refl

pub keeps_start : (m : Module) → KeepsStart m
keeps_start m = λ value word run r d e reg alone t. steps value word run r d e reg alone t
  where
    steps : (value : ℕ → Nets) (word : ℕ → Memories) → IsRun m value word → (r : ℕ) (d : Declaration) → slice_get m.declarations r ≡ Some d → IsRegister d.kind → AllByRecursion (LeavesAlone r) m.blocks → (t : ℕ) → value t r ≡ value 0 r
    steps value word run r d e reg alone zero = refl
    steps value word run r d e reg alone (suc t) =
        subst (λ u. value u r ≡ value 0 r) (add-one t)
        (run.registers t r d e reg ∙ rw (left_alone_by (value t) (word t) m.blocks r alone) (steps value word run r d e reg alone t))

-- ---- a run from any start and any inputs

-- whether the net is a register
abbrev pub is_register : Kind → Bool
is_register OutputRegister = true
is_register Register = true
is_register _ = false

abbrev pub holds_register : Option Declaration → Bool
holds_register None = false
holds_register (Some d) = is_register d.kind

-- registers as they are, all else from the inputs
abbrev pub set_with : List Declaration → Nets → Nets → Nets
set_with ds registers inputs = λ n. cond (holds_register (slice_get ds n)) (registers n) (inputs n)

-- what registers and words hold, cycle by cycle
pub record Held : Type 0 where
  pub registers : Nets
  pub words : Memories

-- the settled nets of a cycle
abbrev settled_with : Module → List Assignment → Nets → Held → Nets
settled_with m order inputs h = evaluated order h.words (set_with m.declarations h.registers inputs)

-- what is held behind the edge
abbrev clocked : Module → List Assignment → Nets → Held → Held
clocked m order inputs h = record {
  registers = λ n. unwrap_or (assigned_by (settled_with m order inputs h) h.words m.blocks n) (settled_with m order inputs h n);
  words = λ k at. unwrap_or (written_by (settled_with m order inputs h) h.words m.blocks k at) (h.words k at);
}

abbrev held_at : Module → List Assignment → Held → (ℕ → Nets) → ℕ → Held
held_at m order start inputs zero = start
held_at m order start inputs (suc t) = clocked m order (inputs t) (held_at m order start inputs t)

set_with-register : (ds : List Declaration) (regs ins : Nets) (n : ℕ) (d : Declaration) → slice_get ds n ≡ Some d → IsRegister d.kind → set_with ds regs ins n ≡ regs n
set_with-register ds regs ins n d e r = rw e (by_kind d.kind r)
  where
    by_kind : (k : Kind) → IsRegister k → cond (is_register k) (regs n) (ins n) ≡ regs n
    by_kind OutputRegister r = refl
    by_kind Register r = refl
    by_kind Input r = absurd r
    by_kind OutputWire r = absurd r
    by_kind Wire r = absurd r
    by_kind (Memory bits) r = absurd r

set_with-input : (ds : List Declaration) (regs ins : Nets) (n : ℕ) (d : Declaration) → slice_get ds n ≡ Some d → d.kind ≡ Input → set_with ds regs ins n ≡ ins n
set_with-input ds regs ins n d e is = rw (e, is) refl

set_with-fits : (ds : List Declaration) (regs ins : Nets) (m m' : Memories) → Fit ds regs m → Fit ds ins m' → Fit ds (set_with ds regs ins) m
set_with-fits ds regs ins m m' f g = λ n d e. (either n d (holds_register (slice_get ds n)) (f n d e).0 (g n d e).0, (f n d e).1)
  where
    either : (n : ℕ) (d : Declaration) (b : Bool) → regs n < 2 ^ d.width → ins n < 2 ^ d.width → cond b (regs n) (ins n) < 2 ^ d.width
    either n d true p q = p
    either n d false p q = q

-- what is no wire is driven by no assignment
pub undriven : (ds : List Declaration) (o : List Assignment) (n : ℕ) (d : Declaration) → AllByRecursion (KeepsWidth ds) o → slice_get ds n ≡ Some d → (IsDriven d.kind → ⊥) → IsUndriven o n
undriven ds [] n d h e no' = tt
undriven ds (a ∷ rest) n d h e no' =
    let c = found_in (slice_get ds a.target) (λ d. IsDriven d.kind × (width_of ds a.value ≡ d.width)) h.0.0 in
    ((λ same. no' (subst (λ (x : Declaration). IsDriven x.kind) (same_item ds n c.item d (subst (λ i. slice_get ds i ≡ Some c.item) same c.is) e) c.fact.0)), undriven ds rest n d h.1 e no')

pub register_undriven : (k : Kind) → IsRegister k → IsDriven k → ⊥
register_undriven OutputRegister r d = d
register_undriven Register r d = d
register_undriven Input r d = d
register_undriven OutputWire r d = r
register_undriven Wire r d = r
register_undriven (Memory bits) r d = d

-- ---- a cycle settles

pub settles_some_way : (m : Module) → IsRunnable m → SettlesSomeWay m
settles_some_way m h = λ v words f.
    let kept : AllByRecursion (KeepsWidth m.declarations) h.ordered.order = each_in_order (KeepsWidth m.declarations) m.assignments h.ordered.order h.ordered.same h.assignments in
    record {
      nets = evaluated h.ordered.order words v;
      settled = each_in_order (λ a. evaluated h.ordered.order words v a.target ≡ value_of (evaluated h.ordered.order words v) words a.value) h.ordered.order m.assignments (IsPermutation-sym m.assignments h.ordered.order h.ordered.same)
          (evaluated-settled m.declarations h.ordered.order words v f kept h.ordered.ordered);
      fits = evaluated-fits m.declarations h.ordered.order words v f kept;
      inputs = λ n d e is clock. sym (evaluated-undriven h.ordered.order words v n (undriven m.declarations h.ordered.order n d kept e (λ (driven : IsDriven d.kind). subst IsDriven is driven)));
      state = record {
        registers = λ n d e r. sym (evaluated-undriven h.ordered.order words v n (undriven m.declarations h.ordered.order n d kept e (register_undriven d.kind r)));
        words = λ k d at e lt. refl;
      };
    }

-- ---- a run

pub has_runs : (m : Module) → IsRunnable m → HasRuns m
has_runs m h = λ start words inputs fit fits. from_start start words inputs fit fits
  where
    order : List Assignment
    order = h.ordered.order

    kept : AllByRecursion (KeepsWidth m.declarations) h.ordered.order
    kept = each_in_order (KeepsWidth m.declarations) m.assignments h.ordered.order h.ordered.same h.assignments

    held_fits : (start : Held) (inputs : ℕ → Nets) → Fit m.declarations start.registers start.words → ((t : ℕ) → Fit m.declarations (inputs t) start.words) → (t : ℕ) → let s = held_at m h.ordered.order start inputs t in Fit m.declarations s.registers s.words × Fit m.declarations (settled_with m h.ordered.order (inputs t) s) s.words
    held_fits start inputs f g zero = (f, evaluated-fits m.declarations h.ordered.order start.words (set_with m.declarations start.registers (inputs 0)) (set_with-fits m.declarations start.registers (inputs 0) start.words start.words f (g 0)) kept)
    held_fits start inputs f g (suc t) =
        let s = held_at m h.ordered.order start inputs t in
        let v = settled_with m h.ordered.order (inputs t) s in
        let before = held_fits start inputs f g t in
        let next = clocked m h.ordered.order (inputs t) s in
        let fit : Fit m.declarations next.registers next.words = λ n d e. (
          unwrap_fits d.width (assigned_by v s.words m.blocks n) (v n) (assigned_by_fits m.declarations v s.words m.blocks n d before.1 h.blocks e) (before.1 n d e).0,
          λ at. unwrap_fits d.width (written_by v s.words m.blocks n at) (s.words n at) (written_by_fits m.declarations v s.words m.blocks n at d before.1 h.blocks e) ((before.1 n d e).1 at),
        ) in
        (fit, evaluated-fits m.declarations h.ordered.order next.words (set_with m.declarations next.registers (inputs (suc t))) (set_with-fits m.declarations next.registers (inputs (suc t)) next.words start.words fit (g (suc t))) kept)

    from_start : (start : Nets) (words : Memories) (inputs : ℕ → Nets) → Fit m.declarations start words → ((t : ℕ) → Fit m.declarations (inputs t) words) → RunsFrom m start words inputs
    from_start start words inputs fit fits =
        let s : ℕ → Held = λ t. held_at m h.ordered.order (record { registers = start; words = words }) inputs t in
        let value : ℕ → Nets = λ t. settled_with m h.ordered.order (inputs t) (s t) in
        let good = held_fits (record { registers = start; words = words }) inputs fit fits in
        let at_register : (t n : ℕ) (d : Declaration) → slice_get m.declarations n ≡ Some d → IsRegister d.kind → value t n ≡ (s t).registers n =
        λ t n d e r. evaluated-undriven h.ordered.order (s t).words (set_with m.declarations (s t).registers (inputs t)) n (undriven m.declarations h.ordered.order n d kept e (register_undriven d.kind r)) ∙ set_with-register m.declarations (s t).registers (inputs t) n d e r in
        record {
          value = value;
          word = λ t. (s t).words;
          is = record {
            settled = λ t. each_in_order (λ a. value t a.target ≡ value_of (value t) (s t).words a.value) h.ordered.order m.assignments (IsPermutation-sym m.assignments h.ordered.order h.ordered.same)
                (evaluated-settled m.declarations h.ordered.order (s t).words (set_with m.declarations (s t).registers (inputs t)) (set_with-fits m.declarations (s t).registers (inputs t) (s t).words words (good t).0 (fits t)) kept h.ordered.ordered);
            registers = λ t n d e r. subst (λ u. value u n ≡ unwrap_or (assigned_by (value t) (s t).words m.blocks n) (value t n)) (sym (add-one t)) (at_register (suc t) n d e r);
            memories = λ t k at. subst (λ u. (s u).words k at ≡ unwrap_or (written_by (value t) (s t).words m.blocks k at) ((s t).words k at)) (sym (add-one t)) refl;
            fits = λ t. (good t).1;
          };
          starts = record {
            registers = λ n d e r. sym (at_register 0 n d e r);
            words = λ k d at e lt. refl;
          };
          takes = λ t n d e is clock. sym (evaluated-undriven h.ordered.order (s t).words (set_with m.declarations (s t).registers (inputs t)) n (undriven m.declarations h.ordered.order n d kept e (λ (driven : IsDriven d.kind). subst IsDriven is driven)) ∙ set_with-input m.declarations (s t).registers (inputs t) n d e is);
        }
