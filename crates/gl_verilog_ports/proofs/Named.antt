-- Ports by their names, of those that go one way or of all.
use Rattle.std.proofs.Common.{◌≡◌, ℕ, zero, suc, ◌+◌, Bool, true, false, List, [], ◌∷◌, Option, Some, None, refl, sym, ap, ◌∙◌, subst, add-one}
use Rattle.std.specs.Prelude.{◌&&◌, find, slice_get, option_map, bytes_eq, if◌then◌else◌}
use Rattle.gl_bits.proofs.Bools.{bytes_same, bytes_own, else_false, not_both}
use Rattle.gl_bits.proofs.Options.{not_some, some_same, map_some}
use Rattle.gl_verilog.specs.Module.{Declaration, Kind, number_of}
use Rattle.gl_verilog.specs.Run.{is_input}
use Rattle.gl_verilog.specs.Valid.{AreDistinct}
use Rattle.gl_verilog_ports.specs.Fit.{input_at, output_at}
use Rattle.gl_verilog_ports.specs.Profile.{is_output}
use Rattle.gl_verilog_ports.proofs.Declared.{number_at}

pub eq_flip : (xs ys : List ℕ) (b : Bool) → bytes_eq xs ys ≡ b → bytes_eq ys xs ≡ b
eq_flip xs ys true h = subst (λ (zs : List ℕ). bytes_eq ys zs ≡ true) (sym (bytes_same xs ys h)) (bytes_own ys)
eq_flip xs ys false h = else_false (bytes_eq ys xs) (λ e. not_both (bytes_eq xs ys) (subst (λ (zs : List ℕ). bytes_eq xs zs ≡ true) (sym (bytes_same ys xs e)) (bytes_own xs)) h)

-- the number of the first port of a name that goes this way
abbrev pub port_at : (Kind → Bool) → List Declaration → List ℕ → Option ℕ
port_at goes [] name = None
port_at goes (d ∷ ds) name = if goes d.kind && bytes_eq d.name name then Some 0 else option_map (λ n. n + 1) (port_at goes ds name)

pub inputs_so : (ds : List Declaration) (name : List ℕ) → input_at ds name ≡ port_at is_input ds name
inputs_so [] name = refl
inputs_so (d ∷ ds) name = ap (λ (o : Option ℕ). if is_input d.kind && bytes_eq d.name name then Some 0 else option_map (λ n. n + 1) o) (inputs_so ds name)

pub outputs_so : (ds : List Declaration) (name : List ℕ) → output_at ds name ≡ port_at is_output ds name
outputs_so [] name = refl
outputs_so (d ∷ ds) name = ap (λ (o : Option ℕ). if is_output d.kind && bytes_eq d.name name then Some 0 else option_map (λ n. n + 1) o) (outputs_so ds name)

-- a port that goes this way and has this name stands here
pub record IsPort (goes : Kind → Bool) (ds : List Declaration) (name : List ℕ) (n : ℕ) : Type 0 where
  pub d : Declaration
  pub there : slice_get ds n ≡ Some d
  pub way : goes d.kind ≡ true
  pub named : bytes_eq d.name name ≡ true

later : (goes : Kind → Bool) (x : Declaration) (ds : List Declaration) (name : List ℕ) (n : ℕ) → IsPort goes ds name n → IsPort goes (x ∷ ds) name (n + 1)
later goes x ds name n p = subst (IsPort goes (x ∷ ds) name) (sym (add-one n)) (record { d = p.d; there = p.there; way = p.way; named = p.named })

pub found_port : (goes : Kind → Bool) (ds : List Declaration) (name : List ℕ) (n : ℕ) → port_at goes ds name ≡ Some n → IsPort goes ds name n
found_port goes [] name n e = absurd (not_some n e)
found_port goes (d ∷ ds) name n e = pick (goes d.kind) (bytes_eq d.name name) refl refl e (found_port goes ds name)
  where
    behind : option_map (λ k. k + 1) (port_at goes ds name) ≡ Some n → ((k : ℕ) → port_at goes ds name ≡ Some k → IsPort goes ds name k) → IsPort goes (d ∷ ds) name n
    behind e more =
        let f = map_some (λ (k : ℕ). k + 1) (port_at goes ds name) n e in
        subst (IsPort goes (d ∷ ds) name) (sym f.2) (later goes d ds name f.0 (more f.0 f.1))

    pick : (w b : Bool) → goes d.kind ≡ w → bytes_eq d.name name ≡ b → (if w && b then Some 0 else option_map (λ k. k + 1) (port_at goes ds name)) ≡ Some n → ((k : ℕ) → port_at goes ds name ≡ Some k → IsPort goes ds name k) → IsPort goes (d ∷ ds) name n
    pick true true way named e more = subst (IsPort goes (d ∷ ds) name) (some_same 0 n e) (record { d = d; there = refl; way = way; named = named })
    pick true false way named e more = behind e more
    pick false b way named e more = behind e more

-- a number is there
pub port_there : (goes : Kind → Bool) (ds : List Declaration) (name : List ℕ) (n : ℕ) → IsPort goes ds name n → (k : ℕ) × (port_at goes ds name ≡ Some k)
port_there goes [] name n p = absurd (not_some p.d p.there)
port_there goes (x ∷ ds) name zero p =
    let same : x ≡ p.d = some_same x p.d p.there in
    pick (goes x.kind) (bytes_eq x.name name) (ap (λ (y : Declaration). goes y.kind) same ∙ p.way) (ap (λ (y : Declaration). bytes_eq y.name name) same ∙ p.named)
  where
    pick : (w b : Bool) → w ≡ true → b ≡ true → (k : ℕ) × ((if w && b then Some 0 else option_map (λ k. k + 1) (port_at goes ds name)) ≡ Some k)
    pick true true e f = (0, refl)
    pick true false e f = absurd cc
    pick false b e f = absurd cc
port_there goes (x ∷ ds) name (suc n) p =
    pick (goes x.kind && bytes_eq x.name name) (port_there goes ds name n (record { d = p.d; there = p.there; way = p.way; named = p.named }))
  where
    pick : (b : Bool) → (k : ℕ) × (port_at goes ds name ≡ Some k) → (k : ℕ) × ((if b then Some 0 else option_map (λ k. k + 1) (port_at goes ds name)) ≡ Some k)
    pick true more = (0, refl)
    pick false more = (more.0 + 1, ap (option_map (λ (k : ℕ). k + 1)) more.1)

-- ---- the first of a name

abbrev pub first_named : List Declaration → List ℕ → Option Declaration
first_named ds name = find (λ (d : Declaration). bytes_eq d.name name) ds

-- it stands somewhere
pub record IsNamed (ds : List Declaration) (name : List ℕ) (d : Declaration) : Type 0 where
  pub n : ℕ
  pub there : slice_get ds n ≡ Some d
  pub named : bytes_eq d.name name ≡ true

pub where_named : (ds : List Declaration) (name : List ℕ) (d : Declaration) → first_named ds name ≡ Some d → IsNamed ds name d
where_named [] name d e = absurd (not_some d e)
where_named (x ∷ ds) name d e = pick (bytes_eq x.name name) refl e (where_named ds name d)
  where
    pick : (b : Bool) → bytes_eq x.name name ≡ b → (if b then Some x else first_named ds name) ≡ Some d → (first_named ds name ≡ Some d → IsNamed ds name d) → IsNamed (x ∷ ds) name d
    pick true named e more = subst (IsNamed (x ∷ ds) name) (some_same x d e) (record { n = 0; there = refl; named = named })
    pick false named e more = let r = more e in record { n = suc r.n; there = r.there; named = r.named }

pub has_named : (ds : List Declaration) (name : List ℕ) (n : ℕ) (d : Declaration) → slice_get ds n ≡ Some d → bytes_eq d.name name ≡ true → (x : Declaration) × (first_named ds name ≡ Some x)
has_named [] name n d e named = absurd (not_some d e)
has_named (x ∷ ds) name zero d e named =
    let same : x ≡ d = some_same x d e in
    pick (bytes_eq x.name name) (ap (λ (y : Declaration). bytes_eq y.name name) same ∙ named)
  where
    pick : (b : Bool) → b ≡ true → (y : Declaration) × ((if b then Some x else first_named ds name) ≡ Some y)
    pick true e = (x, refl)
    pick false e = absurd cc
has_named (x ∷ ds) name (suc n) d e named = pick (bytes_eq x.name name) (has_named ds name n d e named)
  where
    pick : (b : Bool) → (y : Declaration) × (first_named ds name ≡ Some y) → (y : Declaration) × ((if b then Some x else first_named ds name) ≡ Some y)
    pick true more = (x, refl)
    pick false more = more

-- where names are distinct, two of one name are one
pub same_named : (ds : List Declaration) (name : List ℕ) (n k : ℕ) (d e : Declaration) → AreDistinct ds → slice_get ds n ≡ Some d → slice_get ds k ≡ Some e → bytes_eq d.name name ≡ true → bytes_eq e.name name ≡ true → d ≡ e
same_named ds name n k d e distinct at at' named named' =
    let names : d.name ≡ e.name = bytes_same d.name name named ∙ sym (bytes_same e.name name named') in
    let places : n ≡ k = some_same n k (sym (number_at ds n d distinct at) ∙ ap (number_of ds) names ∙ number_at ds k e distinct at') in
    some_same d e (sym at ∙ ap (slice_get ds) places ∙ at')

-- ---- numbers by names alone

-- where each port of a name is an output, the first of the name is the first such output
pub outputs_numbered : (ds : List Declaration) (name : List ℕ) → ((n : ℕ) (d : Declaration) → slice_get ds n ≡ Some d → bytes_eq d.name name ≡ true → is_output d.kind ≡ true) → number_of ds name ≡ output_at ds name
outputs_numbered [] name each = refl
outputs_numbered (d ∷ ds) name each = pick (is_output d.kind) (bytes_eq d.name name) (each 0 d refl) (outputs_numbered ds name (λ n x e. each (suc n) x e))
  where
    pick : (w b : Bool) → (b ≡ true → w ≡ true) → number_of ds name ≡ output_at ds name → (if b then Some 0 else option_map (λ n. n + 1) (number_of ds name)) ≡ (if w && b then Some 0 else option_map (λ n. n + 1) (output_at ds name))
    pick true true h more = refl
    pick true false h more = ap (option_map (λ (n : ℕ). n + 1)) more
    pick false true h more = let bad : false ≡ true = h refl in absurd cc
    pick false false h more = ap (option_map (λ (n : ℕ). n + 1)) more
