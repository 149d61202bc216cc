-- A cycle of the simulator follows every run that holds the same.
use Rattle.std.proofs.Common.{◌≡◌, ◌≢◌, ℕ, zero, suc, ◌+◌, Bool, true, false, not, ◌&&◌, List, [], ◌∷◌, Option, Some, None, refl, sym, ◌∙◌, ap, subst, arith, unwrap_or, slice_index, inl, inr, ◌⊎◌}
use Rattle.std.specs.Prelude.{slice_get, if◌then◌else◌}
use Rattle.std.specs.List.{AllByRecursion, AllZip, cons_option}
use Rattle.std.proofs.lemmas.Bool.Decides.{eqb_tells}
use Rattle.gl_bits.proofs.AllLists.{all_at}
use Rattle.gl_verilog.specs.Module.{Module, Declaration, Input, Assignment, Nets, Memories, value_of, assigned_by, written_by}
use Rattle.gl_verilog.specs.Run.{IsSettled, IsRegister}
use Rattle.gl_verilog.specs.Widths.{KeepsWidth, is_clock}
use Rattle.gl_verilog.specs.Order.{evaluated, with_net}
use Rattle.gl_verilog.specs.Evaluate.{IsStore, nets_of, memories_of}
use Rattle.gl_verilog.specs.Runnable.{IsRunnable, is_input, inputs_from, inputs_of, HasInputs, SameInputs, SameState, SameNets}
use Rattle.gl_verilog.proofs.Edges.{Alike, assigned_by-alike, written_by-alike}
use Rattle.gl_verilog.proofs.Settles.{SameUndriven, settle_same, undriven_same, evaluated-undriven, evaluated-settled, with_net-other}
use Rattle.gl_verilog.proofs.Runs.{undriven, register_undriven}
use Rattle.gl_verilog_check.proofs.Orders.{order_whole}
use Rattle.gl_sim.specs.Inputs.{with_inputs}
use Rattle.gl_verilog_check.specs.Orders.{IsOrderOf, picked}

-- ---- inputs

-- behind the inputs a net has what w has, or it is no port and has what it had
with_inputs-or : (ports inputs : List ℕ) (v w : Nets) (n : ℕ) → AllZip (λ p x. w p ≡ x) ports inputs → (with_inputs ports inputs v n ≡ w n) ⊎ ((with_inputs ports inputs v n ≡ v n) × AllByRecursion (λ p. p ≢ n) ports)
with_inputs-or [] [] v w n h = inr (refl, tt)
with_inputs-or [] (x ∷ inputs) v w n h = absurd h
with_inputs-or (p ∷ ports) [] v w n h = absurd h
with_inputs-or (p ∷ ports) (x ∷ inputs) v w n h = elim (with_inputs-or ports inputs (with_net v p x) w n h.1) [
  | inl same ↦ inl same
  | inr kept ↦ elim (eqb_tells p n) [
    | inl here ↦ inl (kept.0 ∙ rw here.0 (sym h.0 ∙ ap w here.1))
    | inr other ↦ inr (kept.0 ∙ with_net-other v p x n other.1, (other.1, kept.1))
  ]
]

-- every input port but the clock is among them
inputs_from-all : (ds : List Declaration) (from n : ℕ) (d : Declaration) → slice_get ds n ≡ Some d → d.kind ≡ Input → is_clock d ≡ false → AllByRecursion (λ p. p ≢ from + n) (inputs_from from ds) → ⊥
inputs_from-all [] from n d e is clock h = absurd cc
inputs_from-all (c ∷ ds) from zero d e is clock h =
    let same : c ≡ d = cc in
    let test : (is_input c.kind && not (is_clock c)) ≡ true = rw (same, is, clock) refl in
    here (is_input c.kind && not (is_clock c)) test h
  where
    here : (b : Bool) → b ≡ true → AllByRecursion (λ p. p ≢ from + 0) (if b then from ∷ inputs_from (from + 1) ds else inputs_from (from + 1) ds) → ⊥
    here true e h = h.0 (omega arith)
    here false e h = absurd cc
inputs_from-all (c ∷ ds) from (suc n) d e is clock h =
    inputs_from-all ds (from + 1) n d e is clock (subst (λ k. AllByRecursion (λ p. p ≢ k) (inputs_from (from + 1) ds)) (omega arith) (later (is_input c.kind && not (is_clock c)) h))
  where
    later : (b : Bool) → AllByRecursion (λ p. p ≢ from + suc n) (if b then from ∷ inputs_from (from + 1) ds else inputs_from (from + 1) ds) → AllByRecursion (λ p. p ≢ from + suc n) (inputs_from (from + 1) ds)
    later true h = h.1
    later false h = h

inputs_of-all : (m : Module) (n : ℕ) (d : Declaration) → slice_get m.declarations n ≡ Some d → d.kind ≡ Input → is_clock d ≡ false → AllByRecursion (λ p. p ≢ n) (inputs_of m) → ⊥
inputs_of-all m n d e is clock h = inputs_from-all m.declarations 0 n d e is clock (subst (λ k. AllByRecursion (λ p. p ≢ k) (inputs_of m)) (omega arith) h)

-- ---- the assignments that are picked

each_picked : (P : Assignment → Type 0) (as' : List Assignment) (order : List ℕ) → AllByRecursion P as' → AllByRecursion P (picked as' order)
each_picked P as' [] h = tt
each_picked P as' (k ∷ ks) h = first (slice_get as' k) refl (picked as' ks) (each_picked P as' ks h)
  where
    first : (o : Option Assignment) → slice_get as' k ≡ o → (xs : List Assignment) → AllByRecursion P xs → AllByRecursion P (cons_option o xs)
    first None e xs g = g
    first (Some a) e xs g = (all_at P as' k a e h, g)

-- ---- a cycle

-- one cycle of a run, and what registers and words hold behind it
pub record IsOneCycle (m : Module) (value : Nets) (word : Memories) (value' : Nets) (word' : Memories) : Type 0 where
  pub settled : IsSettled m.assignments value word
  pub registers : (r : ℕ) (d : Declaration) → slice_get m.declarations r ≡ Some d → IsRegister d.kind → value' r ≡ unwrap_or (assigned_by value word m.blocks r) (value r)
  pub memories : (k at : ℕ) → word' k at ≡ unwrap_or (written_by value word m.blocks k at) (word k at)

pub record IsStepped (m : Module) (order inputs v0 v1 v2 v3 : List ℕ) (bs bs' : List (List ℕ)) : Type 0 where
  pub runnable : IsRunnable m
  pub in_order : IsOrderOf m.assignments order
  pub set : nets_of v1 ≡ with_inputs (inputs_of m) inputs (nets_of v0)
  pub first : IsStore m.declarations v1 bs
  pub settled : nets_of v2 ≡ evaluated (picked m.assignments order) (memories_of bs) (nets_of v1)
  pub second : IsStore m.declarations v2 bs
  pub registers : (r : ℕ) → slice_index v3 r ≡ unwrap_or (assigned_by (nets_of v2) (memories_of bs) m.blocks r) (slice_index v2 r)
  pub words : (k at : ℕ) → memories_of bs' k at ≡ unwrap_or (written_by (nets_of v2) (memories_of bs) m.blocks k at) (memories_of bs k at)

module _ (m : Module) (order inputs v0 v1 v2 v3 : List ℕ) (bs bs' : List (List ℕ)) (s : IsStepped m order inputs v0 v1 v2 v3 bs bs') (value : Nets) (word : Memories) (value' : Nets) (word' : Memories) (run : IsOneCycle m value word value' word') (state : SameState m.declarations (nets_of v0) (memories_of bs) value word) (has : HasInputs m value inputs) where
  set_or : (n : ℕ) → (nets_of v1 n ≡ value n) ⊎ ((nets_of v1 n ≡ nets_of v0 n) × AllByRecursion (λ p. p ≢ n) (inputs_of m))
  set_or n = subst (λ (v : Nets). (v n ≡ value n) ⊎ ((v n ≡ nets_of v0 n) × AllByRecursion (λ p. p ≢ n) (inputs_of m))) (sym s.set) (with_inputs-or (inputs_of m) inputs (nets_of v0) value n has)

  set_inputs : SameInputs m.declarations (nets_of v1) value
  set_inputs = λ n d e is clock. elim (set_or n) [ inl same ↦ same | inr kept ↦ absurd (inputs_of-all m n d e is clock kept.1) ]

  set_state : SameState m.declarations (nets_of v1) (memories_of bs) value word
  set_state = record {
    registers = λ n d e r. elim (set_or n) [ inl same ↦ same | inr kept ↦ kept.0 ∙ state.registers n d e r ];
    words = state.words;
  }

  register_same : (n : ℕ) (d : Declaration) → slice_get m.declarations n ≡ Some d → IsRegister d.kind → nets_of v2 n ≡ value n
  register_same n d e r =
      ap (λ (v : Nets). v n) s.settled
      ∙ evaluated-undriven (picked m.assignments order) (memories_of bs) (nets_of v1) n (undriven m.declarations (picked m.assignments order) n d (each_picked (KeepsWidth m.declarations) m.assignments order s.runnable.assignments) e (register_undriven d.kind r))
      ∙ set_state.registers n d e r

  same_undriven : SameUndriven m.declarations (picked m.assignments order) (nets_of v2) value
  same_undriven = λ n d e r u.
      ap (λ (v : Nets). v n) s.settled ∙ evaluated-undriven (picked m.assignments order) (memories_of bs) (nets_of v1) n u
      ∙ undriven_same m (nets_of v1) value (memories_of bs) word (picked m.assignments order) s.runnable (order_whole m.assignments order s.in_order) set_inputs set_state n d e r u

  pub nets_follow : SameNets m.declarations (nets_of v2) value
  nets_follow = λ n d e r.
      settle_same m.declarations (nets_of v2) value (memories_of bs) word (picked m.assignments order) s.second.fits state.words
      (each_picked (KeepsWidth m.declarations) m.assignments order s.runnable.assignments) s.in_order.ordered
      (subst (λ (v : Nets). IsSettled (picked m.assignments order) v (memories_of bs)) (sym s.settled)
      (evaluated-settled m.declarations (picked m.assignments order) (memories_of bs) (nets_of v1) s.first.fits (each_picked (KeepsWidth m.declarations) m.assignments order s.runnable.assignments) s.in_order.ordered))
      (each_picked (λ a. value a.target ≡ value_of value word a.value) m.assignments order (run.settled))
      same_undriven n d e r tt

  alike : Alike m.declarations (nets_of v2) value (memories_of bs) word
  alike = record { fits = s.second.fits; nets = nets_follow; words = state.words }

  pub state_follows : SameState m.declarations (nets_of v3) (memories_of bs') value' word'
  state_follows = record {
    registers = λ n d e r.
        s.registers n ∙ rw (assigned_by-alike m.declarations (nets_of v2) value (memories_of bs) word m.blocks n alike s.runnable.blocks, register_same n d e r) (sym (run.registers n d e r));
    words = λ k d at e lt.
        s.words k at ∙ rw (written_by-alike m.declarations (nets_of v2) value (memories_of bs) word m.blocks k at alike s.runnable.blocks, state.words k d at e lt) (sym (run.memories k at));
  }
