-- One assignment, one input, one word after another.
use Rattle.std.proofs.Common.{◌≡◌, ℕ, zero, suc, ◌+◌, ◌^◌, ◌<◌, ◌≤◌, List, [], ◌∷◌, Some, Bool, true, false, map, refl, sym, ◌∙◌, ap, subst, arith, length, drop, get_or, drop-cons, add-one, slice_index, inl, inr}
use Rattle.std.specs.Prelude.{if◌then◌else◌, ◌&&◌, not, slice_get, slice_set}
use Rattle.std.specs.List.{AllByRecursion, AllZip}
use Rattle.std.proofs.lemmas.List.{drop_all}
use Rattle.gl_verilog.specs.Module as spec
use Rattle.gl_verilog.specs.Module.{Nets, Memories, Module, Declaration, value_of}
use Rattle.gl_verilog.specs.declared.module.Assignment.{Assignment}
use Rattle.gl_verilog.specs.View.{assignment_of}
use Rattle.gl_verilog.specs.Widths.{is_clock, width_at, IsDriven, width_of, KeepsWidth}
use Rattle.gl_verilog.specs.Evaluate.{IsStore, nets_of, memories_of}
use Rattle.gl_verilog.specs.Runnable.{IsRunnable, is_input, inputs_from, inputs_of, FitInputs}
use Rattle.gl_verilog.specs.Order.{with_net, evaluated}
use Rattle.gl_sim.specs.Inputs.{with_inputs}
use Rattle.std.proofs.lemmas.Bool.Decides.{eqb_tells}
use Rattle.std.proofs.lemmas.List.{get_or-set_same, get_or-set_other}
use mathlib.Core.Path.{fun_ext}
use Rattle.gl_bits.proofs.AllLists.{get_mapped, all_weaker, get_below, all_at}
use Rattle.gl_verilog_check.specs.Orders.{picked}
use Rattle.gl_verilog.proofs.Fits.{found_in, width_at-found, value_fits}
use Rattle.gl_verilog.proofs.Stores.{store_put}

pub slice_get-at : {T : Type 0} (xs : List T) (n : ℕ) (x : T) → n < length xs → x ≡ get_or xs n x → slice_get xs n ≡ Some x
slice_get-at [] n x lt e = absurd (omega arith)
slice_get-at (y ∷ xs) zero x lt e = ap (λ z. Some z) (sym e)
slice_get-at (y ∷ xs) (suc n) x lt e = slice_get-at xs n x (omega arith) e

-- the assignment at a place keeps its width
pub assignment_at : (m : Module) (as' : List Assignment) (k : ℕ) (a : Assignment) → IsRunnable m → m.assignments ≡ map assignment_of as' → k < length as' → a ≡ get_or as' k a → KeepsWidth m.declarations (assignment_of a)
assignment_at m as' k a runnable same lt e =
    all_at (KeepsWidth m.declarations) (map assignment_of as') k (assignment_of a) (get_mapped assignment_of as' k a (slice_get-at as' k a lt e))
    (subst (λ xs. AllByRecursion (KeepsWidth m.declarations) xs) same runnable.assignments)

-- the store with the target of an assignment put
pub store_assigned : (ds : List Declaration) (vs : List ℕ) (bs : List (List ℕ)) (a : spec.Assignment) → IsStore ds vs bs → KeepsWidth ds a → IsStore ds (slice_set vs a.target (value_of (nets_of vs) (memories_of bs) a.value)) bs
store_assigned ds vs bs a st h =
    let d = found_in (slice_get ds a.target) (λ d. IsDriven d.kind × (width_of ds a.value ≡ d.width)) h.0 in
    store_put ds vs bs a.target _ d.item st d.is (subst (λ w. value_of (nets_of vs) (memories_of bs) a.value < 2 ^ w) d.fact.1 (value_fits ds (nets_of vs) (memories_of bs) a.value st.fits h.1))

pub target_in : (ds : List Declaration) (vs : List ℕ) (bs : List (List ℕ)) (a : spec.Assignment) → IsStore ds vs bs → KeepsWidth ds a → a.target < length vs
target_in ds vs bs a st h =
    let d = found_in (slice_get ds a.target) (λ d. IsDriven d.kind × (width_of ds a.value ≡ d.width)) h.0 in
    let lt : a.target < length ds = get_below ds a.target d.item d.is in
    omega (arith, st.nets)

pub all_get : {T : Type 0} (P : T → Type 0) (xs : List T) (i : ℕ) (d : T) → AllByRecursion P xs → i < length xs → P (get_or xs i d)
all_get P [] i d h lt = absurd (omega arith)
all_get P (x ∷ xs) zero d h lt = h.0
all_get P (x ∷ xs) (suc i) d h lt = all_get P xs i d h.1 (omega arith)

pub zip_length : {A B : Type 0} (R : A → B → Type 0) (xs : List A) (ys : List B) → AllZip R xs ys → length xs ≡ length ys
zip_length R [] [] h = refl
zip_length R [] (y ∷ ys) h = absurd h
zip_length R (x ∷ xs) [] h = absurd h
zip_length R (x ∷ xs) (y ∷ ys) h = let e = zip_length R xs ys h.1 in ap (λ n. suc n) e

pub zip_at : {A B : Type 0} (R : A → B → Type 0) (xs : List A) (ys : List B) (i : ℕ) (d : A) (e : B) → AllZip R xs ys → i < length xs → R (get_or xs i d) (get_or ys i e)
zip_at R [] ys i d e h lt = absurd (omega arith)
zip_at R (x ∷ xs) [] i d e h lt = absurd h
zip_at R (x ∷ xs) (y ∷ ys) zero d e h lt = h.0
zip_at R (x ∷ xs) (y ∷ ys) (suc i) d e h lt = zip_at R xs ys i d e h.1 (omega arith)

-- ---- input ports

pub record IsInputPort (ds : List Declaration) (n : ℕ) : Type 0 where
  pub declaration : Declaration
  pub is : slice_get ds n ≡ Some declaration
  pub input : is_input declaration.kind ≡ true
  pub no_clock : is_clock declaration ≡ false

-- the same, counted from a number
record IsInputFrom (ds : List Declaration) (from n : ℕ) : Type 0 where
  at : ℕ
  same : n ≡ from + at
  port : IsInputPort ds at

inputs_from-more : (ds : List Declaration) (d : Declaration) (from : ℕ) → AllByRecursion (IsInputFrom ds (from + 1)) (inputs_from (from + 1) ds) → (a b : Bool) → is_input d.kind ≡ a → is_clock d ≡ b → AllByRecursion (IsInputFrom (d ∷ ds) from) (if (a && not b) then from ∷ inputs_from (from + 1) ds else inputs_from (from + 1) ds)
inputs_from-more ds d from h = pick
  where
    later : AllByRecursion (IsInputFrom (d ∷ ds) from) (inputs_from (from + 1) ds)
    later = all_weaker (IsInputFrom ds (from + 1)) (IsInputFrom (d ∷ ds) from)
        (λ n h. record { at = suc h.at; same = omega (arith, h.same); port = record { declaration = h.port.declaration; is = h.port.is; input = h.port.input; no_clock = h.port.no_clock } })
        (inputs_from (from + 1) ds) h

    pick : (a b : Bool) → is_input d.kind ≡ a → is_clock d ≡ b → AllByRecursion (IsInputFrom (d ∷ ds) from) (if (a && not b) then from ∷ inputs_from (from + 1) ds else inputs_from (from + 1) ds)
    pick true false p q = (record { at = 0; same = omega arith; port = record { declaration = d; is = refl; input = p; no_clock = q } }, later)
    pick true true p q = later
    pick false b p q = later

inputs_from-ports : (ds : List Declaration) (from : ℕ) → AllByRecursion (IsInputFrom ds from) (inputs_from from ds)
inputs_from-ports [] from = tt
inputs_from-ports (d ∷ ds) from = inputs_from-more ds d from (inputs_from-ports ds (from + 1)) (is_input d.kind) (is_clock d) refl refl

pub inputs_of-ports : (m : Module) → AllByRecursion (IsInputPort m.declarations) (inputs_of m)
inputs_of-ports m = all_weaker (IsInputFrom m.declarations 0) (IsInputPort m.declarations)
    (λ n h. let e : h.at ≡ n = omega (arith, h.same) in subst (IsInputPort m.declarations) e h.port)
    (inputs_of m) (inputs_from-ports m.declarations 0)

-- an input that fits, put into the store
pub port_in : (m : Module) (vs : List ℕ) (bs : List (List ℕ)) (i : ℕ) → IsStore m.declarations vs bs → i < length (inputs_of m) → get_or (inputs_of m) i 0 < length vs
port_in m vs bs i st lt =
    let port = all_get (IsInputPort m.declarations) (inputs_of m) i 0 (inputs_of-ports m) lt in
    let within : get_or (inputs_of m) i 0 < length m.declarations = get_below m.declarations (get_or (inputs_of m) i 0) port.declaration port.is in
    omega (arith, st.nets)

pub store_input : (m : Module) (vs inputs : List ℕ) (bs : List (List ℕ)) (i : ℕ) → IsStore m.declarations vs bs → FitInputs m inputs → i < length (inputs_of m) → IsStore m.declarations (slice_set vs (get_or (inputs_of m) i 0) (get_or inputs i 0)) bs
store_input m vs inputs bs i st fit lt =
    let port = all_get (IsInputPort m.declarations) (inputs_of m) i 0 (inputs_of-ports m) lt in
    let fits = zip_at (λ n x. x < 2 ^ width_at m.declarations n) (inputs_of m) inputs i 0 0 fit lt in
    store_put m.declarations vs bs (get_or (inputs_of m) i 0) (get_or inputs i 0) port.declaration st port.is
    (subst (λ w. get_or inputs i 0 < 2 ^ w) (width_at-found m.declarations (get_or (inputs_of m) i 0) port.declaration port.is) fits)

pub below_mapped : {S T : Type 0} (f : S → T) (xs : List S) (n : ℕ) → n < length (map f xs) → n < length xs
below_mapped f [] n lt = lt
below_mapped f (x ∷ xs) zero lt = omega arith
below_mapped f (x ∷ xs) (suc n) lt = let h : n < length xs = below_mapped f xs n (omega arith) in omega arith

-- the list from a place on
pub drop_here : {T : Type 0} (xs : List T) (i : ℕ) (x : T) → slice_get xs i ≡ Some x → drop i xs ≡ x ∷ drop (i + 1) xs
drop_here [] i x e = absurd cc
drop_here (y ∷ xs) zero x e = let same : y ≡ x = cc in rw same refl
drop_here (y ∷ xs) (suc i) x e =
    let n : suc i + 1 ≡ suc (i + 1) = omega arith in
    subst (λ k. drop i xs ≡ x ∷ drop k (y ∷ xs)) (sym n) (drop_here xs i x e)

-- ---- as functions of the nets

-- a value put into the list is a net's new value
pub nets_of-set : (vs : List ℕ) (t x : ℕ) → t < length vs → nets_of (slice_set vs t x) ≡ with_net (nets_of vs) t x
nets_of-set vs t x lt = fun_ext (λ n. elim (eqb_tells t n) [
  | inl same ↦ rw same.0 (subst (λ i. slice_index (slice_set vs t x) i ≡ x) same.1 (get_or-set_same vs t x 0 lt))
  | inr other ↦ rw other.0 (get_or-set_other vs t n x 0 (λ q. other.1 (sym q)))
])

pub picked-here : (as' : List spec.Assignment) (order : List ℕ) (i : ℕ) (a : spec.Assignment) → i < length order → slice_get as' (get_or order i 0) ≡ Some a → picked as' (drop i order) ≡ a ∷ picked as' (drop (i + 1) order)
picked-here as' order i a lt e = ap (λ (ks : List ℕ). picked as' ks) (rw_here order i lt) ∙ rw e refl
  where
    rw_here : (xs : List ℕ) (i : ℕ) → i < length xs → drop i xs ≡ get_or xs i 0 ∷ drop (i + 1) xs
    rw_here xs i lt = rw add-one (drop-cons xs i 0 lt)

-- one assignment more
pub settled_more : (as' : List spec.Assignment) (order : List ℕ) (m : Memories) (v v' : Nets) (i : ℕ) (a : spec.Assignment) → i < length order → slice_get as' (get_or order i 0) ≡ Some a → v' ≡ with_net v a.target (value_of v m a.value) → evaluated (picked as' (drop (i + 1) order)) m v' ≡ evaluated (picked as' (drop i order)) m v
settled_more as' order m v v' i a lt e is =
    ap (λ (w : Nets). evaluated (picked as' (drop (i + 1) order)) m w) is ∙ ap (λ (xs : List spec.Assignment). evaluated xs m v) (sym (picked-here as' order i a lt e))

pub settled_end : (as' : List spec.Assignment) (order : List ℕ) (m : Memories) (v : Nets) (i : ℕ) → length order ≤ i → evaluated (picked as' (drop i order)) m v ≡ v
settled_end as' order m v i le = ap (λ (ks : List ℕ). evaluated (picked as' ks) m v) (drop_all i order le)

-- one input more
pub inputs_more : (ports inputs : List ℕ) (v v' : Nets) (i : ℕ) → i < length ports → i < length inputs → v' ≡ with_net v (get_or ports i 0) (get_or inputs i 0) → with_inputs (drop (i + 1) ports) (drop (i + 1) inputs) v' ≡ with_inputs (drop i ports) (drop i inputs) v
inputs_more [] inputs v v' i lt lt' is = absurd (omega arith)
inputs_more (p ∷ ports) [] v v' i lt lt' is = absurd (omega arith)
inputs_more (p ∷ ports) (x ∷ inputs) v v' zero lt lt' is = ap (λ (w : Nets). with_inputs ports inputs w) is
inputs_more (p ∷ ports) (x ∷ inputs) v v' (suc i) lt lt' is =
    let n : suc i + 1 ≡ suc (i + 1) = omega arith in
    subst (λ k. with_inputs (drop k (p ∷ ports)) (drop k (x ∷ inputs)) v' ≡ with_inputs (drop i ports) (drop i inputs) v) (sym n) (inputs_more ports inputs v v' i (omega arith) (omega arith) is)

pub inputs_end : (ports inputs : List ℕ) (v : Nets) (i : ℕ) → length ports ≤ i → with_inputs (drop i ports) (drop i inputs) v ≡ v
inputs_end ports inputs v i le = ap (λ (ps : List ℕ). with_inputs ps (drop i inputs) v) (drop_all i ports le)
