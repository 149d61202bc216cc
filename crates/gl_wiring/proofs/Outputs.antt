-- What the ports of a netlist carry.
use Rattle.std.proofs.Common.{◌≡◌, ℕ, zero, suc, Bool, true, false, List, [], ◌∷◌, Some, refl, ap, arith}
use Rattle.std.specs.Prelude.{slice_get, find, option_map, bytes_eq}
use Rattle.std.proofs.lemmas.Slice.Eq.{bytes_eq-Decides}
use Rattle.gl_schema.specs.Seen.{value_at}
use Rattle.gl_net.specs.declared.node.Port.{Port}
use Rattle.gl_net.specs.declared.node.Direction.{Direction}
use Rattle.gl_net.specs.declared.node.Direction.TheVariants.{In}
use Rattle.gl_net.specs.Net.{Net, Run, IsPort}
use Rattle.gl_net.specs.PortValues.{port_values, input_values}
use Rattle.gl_wiring.specs.Emitted.{HasPort}

-- ---- the values of the ports

-- the first element that passes is the only one that does
find_at : {A : Type 0} (test : A → Bool) (xs : List A) (i : ℕ) (x : A) → slice_get xs i ≡ Some x → test x ≡ true → ((j : ℕ) (y : A) → slice_get xs j ≡ Some y → test y ≡ true → j ≡ i) → find test xs ≡ Some x
find_at test [] i x there pass only = absurd cc
find_at test (y ∷ ys) zero x there pass only = let same : y ≡ x = cc in let p : test y ≡ true = rw same pass in rw p there
find_at {A} test (y ∷ ys) (suc i) x there pass only =
    by (find_at test ys i x there pass (λ j z at p. let n : suc j ≡ suc i = only (suc j) z at p in omega arith)) (test y) refl
  where
    by : find test ys ≡ Some x → (b : Bool) → test y ≡ b → find test (y ∷ ys) ≡ Some x
    by rest true e = absurd (let z : 0 ≡ suc i = only 0 y refl e in cc)
    by rest false e = rw e rest

-- no two ports have one name
abbrev pub AreApart : Net → Type 0
AreApart net = (i j : ℕ) (p q : Port) → slice_get net.ports i ≡ Some p → slice_get net.ports j ≡ Some q → p.name ≡ q.name → i ≡ j

-- a port carries the value of its node
port_found : (net : Net) (d : Direction) (name : List ℕ) (n : ℕ) → AreApart net → IsPort net d name n
    → find (λ (q : Port). bytes_eq q.name name) net.ports ≡ Some (record { direction = d; name = name; node = n })
port_found net d name n apart p =
    let port : Port = record { direction = d; name = name; node = n } in
    find_at (λ (q : Port). bytes_eq q.name name) net.ports p.place port p.there ((bytes_eq-Decides name name).1 refl)
    (λ j q at e. apart j p.place q port at p.there ((bytes_eq-Decides q.name name).0 e))

port_value : (net : Net) (run : Run) (t : ℕ) (d : Direction) (name : List ℕ) (n : ℕ) → AreApart net → IsPort net d name n → port_values net run t name ≡ Some (run.at t n)
port_value net run t d name n apart p = ap (option_map (λ (q : Port). run.at t q.node)) (port_found net d name n apart p)

-- and so does an input port
input_value : (net : Net) (run : Run) (t : ℕ) (name : List ℕ) (n : ℕ) → AreApart net → IsPort net In name n → input_values net run t name ≡ Some (run.at t n)
input_value net run t name n apart p = rw (port_found net In name n apart p) refl

pub input_is : (net : Net) (run : Run) (t : ℕ) (name : List ℕ) (n : ℕ) → AreApart net → IsPort net In name n → value_at (input_values net run) t name ≡ run.at t n
input_is net run t name n apart p = rw (input_value net run t name n apart p) refl

pub has_input : (net : Net) (run : Run) (name : List ℕ) (n : ℕ) → AreApart net → IsPort net In name n → HasPort (input_values net run) name
has_input net run name n apart p = λ t. (run.at t n, input_value net run t name n apart p)

pub port_at : (net : Net) (run : Run) (t : ℕ) (d : Direction) (name : List ℕ) (n : ℕ) → AreApart net → IsPort net d name n → value_at (port_values net run) t name ≡ run.at t n
port_at net run t d name n apart p = rw (port_value net run t d name n apart p) refl

-- ---- the whole
