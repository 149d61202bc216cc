-- A run from any start with any inputs.
use Rattle.std.proofs.Common.{◌≡◌, ℕ, ◌+◌, ◌*◌, ◌^◌, ◌<◌, ◌≤◌, Bool, true, false, not, ◌&&◌, List, [], ◌∷◌, refl, sym, ◌∙◌, ap, subst, arith, inl, inr}
use Rattle.std.specs.Prelude.{if◌then◌else◌}
use Rattle.std.specs.List.{AllByRecursion, AllZip}
use Rattle.std.proofs.lemmas.Bool.Decides.{eqb_tells}
use Rattle.std.proofs.lemmas.Nat.{pow_pos}
use Rattle.gl_verilog.specs.Module.{Module, Declaration, Kind, Input, OutputWire, OutputRegister, Wire, Register, Memory, Nets, Memories}
use Rattle.gl_verilog.specs.Run.{Fit}
use Rattle.gl_verilog.specs.Widths.{is_clock, width_at}
use Rattle.gl_verilog.specs.Order.{with_net}
use Rattle.gl_verilog.specs.Runnable.{HasRuns, IsRunnable, is_input, inputs_from, inputs_of, FitInputs, SameInputs, RunsFrom}
use Rattle.gl_verilog.proofs.Fits.{width_at-found}
use Rattle.gl_verilog.proofs.Settles.{with_net-same, with_net-other}
use Rattle.gl_verilog.specs.declared.start.Start.{Start}
use Rattle.gl_verilog.specs.declared.start.Start.TheVariants.{Zero, Drawn}
use Rattle.gl_sim.specs.Starts.{register_at, word_at, draws_before, RunsWith}
use Rattle.gl_sim.specs.Inputs.{with_inputs}
use Rattle.gl_sim.proofs.Draws.{word_drawn-fits}
use Rattle.gl_sim.proofs.Settling.{IsInputPort, inputs_of-ports}

-- ---- the start fits

start_fits : (start : Start) (ds : List Declaration) → Fit ds (register_at start ds) (word_at start ds)
start_fits Zero ds = λ n d e. (pow_pos d.width, λ at. pow_pos d.width)
start_fits (Drawn seed) ds = λ n d e. (
  subst (λ w. register_at (Drawn seed) ds n < 2 ^ w) (width_at-found ds n d e) (word_drawn-fits seed (draws_before ds n) (width_at ds n)),
  λ at. subst (λ w. word_at (Drawn seed) ds n at < 2 ^ w) (width_at-found ds n d e) (word_drawn-fits seed (draws_before ds n + 2 * at) (width_at ds n)),
)

-- ---- the ports are in rising order

AreFrom : ℕ → List ℕ → Type 0
AreFrom from [] = Unit {0}
AreFrom from (p ∷ ports) = (from ≤ p) × AreFrom (p + 1) ports

from_less : (i j : ℕ) (ports : List ℕ) → i ≤ j → AreFrom j ports → AreFrom i ports
unfolding AreFrom
from_less i j [] le h = tt
from_less i j (p ∷ ports) le h = (omega (arith, h.0), h.1)

inputs_from-rise : (ds : List Declaration) (from : ℕ) → AreFrom from (inputs_from from ds)
unfolding AreFrom
inputs_from-rise [] from = tt
inputs_from-rise (d ∷ ds) from = pick (is_input d.kind && not (is_clock d)) (inputs_from-rise ds (from + 1))
  where
    pick : (b : Bool) → AreFrom (from + 1) (inputs_from (from + 1) ds) → AreFrom from (if b then from ∷ inputs_from (from + 1) ds else inputs_from (from + 1) ds)
    pick true h = (omega arith, h)
    pick false h = from_less from (from + 1) (inputs_from (from + 1) ds) (omega arith) h

-- a net below all ports is as before
with_inputs-below : (ports row : List ℕ) (v : Nets) (from n : ℕ) → AreFrom from ports → n < from → with_inputs ports row v n ≡ v n
unfolding AreFrom
with_inputs-below [] row v from n h lt = refl
with_inputs-below (p ∷ ports) [] v from n h lt = refl
with_inputs-below (p ∷ ports) (x ∷ row) v from n h lt =
    with_inputs-below ports row (with_net v p x) (p + 1) n h.1 (omega (arith, h.0)) ∙ with_net-other v p x n (λ same. absurd (omega (arith, h.0, same)))

-- each port has its input
with_inputs-each : (R : ℕ → ℕ → Type 0) (ports row : List ℕ) (v : Nets) (from : ℕ) → AreFrom from ports → AllZip R ports row → AllZip (λ n x. with_inputs ports row v n ≡ x) ports row
unfolding AreFrom
with_inputs-each R [] [] v from h z = tt
with_inputs-each R [] (x ∷ row) v from h z = absurd z
with_inputs-each R (p ∷ ports) [] v from h z = absurd z
with_inputs-each R (p ∷ ports) (x ∷ row) v from h z =
    (with_inputs-below ports row (with_net v p x) (p + 1) p h.1 (omega arith) ∙ with_net-same v p x, with_inputs-each R ports row (with_net v p x) (p + 1) h.1 z.1)

-- ---- the inputs fit

with_inputs-fits : (ds : List Declaration) (ports row : List ℕ) (v : Nets) (m : Memories) → Fit ds v m → AllZip (λ n x. x < 2 ^ width_at ds n) ports row → Fit ds (with_inputs ports row v) m
with_inputs-fits ds [] row v m f z = f
with_inputs-fits ds (p ∷ ports) [] v m f z = f
with_inputs-fits ds (p ∷ ports) (x ∷ row) v m f z =
    with_inputs-fits ds ports row (with_net v p x) m
    (λ n d e. (
      elim (eqb_tells p n) [
        | inl same ↦ rw same.0 (subst (λ w. x < 2 ^ w) (ap (width_at ds) same.1 ∙ width_at-found ds n d e) z.0)
        | inr other ↦ rw other.0 (f n d e).0
      ],
      (f n d e).1,
    )) z.1

-- ---- from the inputs of nets to the rows

rows_in : (ds : List Declaration) (ports row : List ℕ) (v w : Nets) → AllByRecursion (IsInputPort ds) ports → SameInputs ds v w → AllZip (λ n x. v n ≡ x) ports row → AllZip (λ n x. w n ≡ x) ports row
rows_in ds [] [] v w h s z = tt
rows_in ds [] (x ∷ row) v w h s z = absurd z
rows_in ds (p ∷ ports) [] v w h s z = absurd z
rows_in ds (p ∷ ports) (x ∷ row) v w h s z =
    (sym (s p h.0.declaration h.0.is (kind_of_input h.0.declaration.kind h.0.input) h.0.no_clock) ∙ z.0, rows_in ds ports row v w h.1 s z.1)
  where
    kind_of_input : (k : Kind) → is_input k ≡ true → k ≡ Input
    kind_of_input Input e = refl
    kind_of_input OutputWire e = absurd cc
    kind_of_input OutputRegister e = absurd cc
    kind_of_input Wire e = absurd cc
    kind_of_input Register e = absurd cc
    kind_of_input (Memory bits) e = absurd cc

none : Nets
none = λ n. 0

none_fits : (ds : List Declaration) (m : Memories) (v : Nets) → Fit ds v m → Fit ds none m
unfolding none
none_fits ds m v f = λ n d e. (pow_pos d.width, (f n d e).1)

pub a_run_is_there : ((m : Module) → IsRunnable m → HasRuns m) → (m : Module) (start : Start) (rows : ℕ → List ℕ) → IsRunnable m → ((t : ℕ) → FitInputs m (rows t)) → RunsWith start m rows
a_run_is_there has_runs m start rows h fit =
    let ds = m.declarations in
    let inputs : ℕ → Nets = λ t. with_inputs (inputs_of m) (rows t) none in
    let run : RunsFrom m (register_at start ds) (word_at start ds) inputs =
    has_runs m h (register_at start ds) (word_at start ds) inputs (start_fits start ds)
    (λ t. with_inputs-fits ds (inputs_of m) (rows t) none (word_at start ds) (none_fits ds (word_at start ds) (register_at start ds) (start_fits start ds)) (fit t)) in
    record {
      value = run.value;
      word = run.word;
      is = run.is;
      starts = run.starts;
      inputs = λ t. rows_in ds (inputs_of m) (rows t) (inputs t) (run.value t) (inputs_of-ports m) (run.takes t)
          (with_inputs-each (λ n x. x < 2 ^ width_at ds n) (inputs_of m) (rows t) none 0 (inputs_from-rise ds 0) (fit t));
    }
