-- A netlist with the ports of an emitted module can be finished.
use Rattle.std.proofs.Common.{◌≡◌, ℕ, zero, suc, Bool, true, false, List, [], ◌∷◌, ◌++◌, Some, None, refl, sym, ap, subst, ◌∙◌, codes}
use Rattle.std.specs.Prelude.{map, slice_get, bytes_eq}
use Rattle.std.specs.List.{AllByRecursion, IsDistinct}
use Rattle.std.proofs.lemmas.Slice.Eq.{bytes_eq-Decides}
use Rattle.gl_schema.specs.declared.schema.Schema.{Schema}
use Rattle.gl_schema.specs.Names as schema
use Rattle.gl_schema.specs.Schemas.{IsSchema}
use Rattle.gl_net.specs.declared.node.Port.{Port}
use Rattle.gl_net.specs.Net.{Net, open_at}
use Rattle.gl_net.specs.Finished.{HasReset, IsFinished, IsName, clock_name}
use Rattle.gl_wiring.specs.PortNames.{port_names}
use Rattle.gl_wiring.specs.Emitted.{names_of}
use Rattle.gl_schema.proofs.InputNames.{Apart, AreApart, apart_distinct}
use Rattle.gl_wiring.proofs.PortNames.{port_names-distinct}
use Rattle.gl_wiring.proofs.VerilogNames.{IsPortName, ports_named, module_name-name}

-- what holds of each name holds of each port's name
port_is : (P : List ℕ → Type 0) (ports : List Port) (i : ℕ) (p : Port) → AllByRecursion P (map (λ (p : Port). p.name) ports) → slice_get ports i ≡ Some p → P p.name
port_is P [] i p all at = absurd cc
port_is P (q ∷ qs) zero p all at = let same : q ≡ p = cc in subst (λ (x : Port). P x.name) same all.0
port_is P (q ∷ qs) (suc i) p all at = port_is P qs i p all.1 at

-- a port behind others has another name than they
names_differ : (n : List ℕ) (ports : List Port) (i : ℕ) (p : Port) → Apart n (map (λ (p : Port). p.name) ports) → slice_get ports i ≡ Some p → n ≡ p.name → ⊥
names_differ n ports i p apart at e = port_is (λ m. n ≡ m → ⊥) ports i p apart at e

-- ports of one name stand at one place
ports_apart : (ports : List Port) (i j : ℕ) (p q : Port) → AreApart (map (λ (p : Port). p.name) ports) → slice_get ports i ≡ Some p → slice_get ports j ≡ Some q → p.name ≡ q.name → i ≡ j
ports_apart [] i j p q apart at there e = absurd cc
ports_apart (r ∷ rs) zero zero p q apart at there e = refl
ports_apart (r ∷ rs) zero (suc j) p q apart at there e = let same : r ≡ p = cc in absurd (names_differ r.name rs j q apart.0 there (ap (λ (x : Port). x.name) same ∙ e))
ports_apart (r ∷ rs) (suc i) zero p q apart at there e = let same : r ≡ q = cc in absurd (names_differ r.name rs i p apart.0 at (ap (λ (x : Port). x.name) same ∙ sym e))
ports_apart (r ∷ rs) (suc i) (suc j) p q apart at there e = ap suc (ports_apart rs i j p q apart.1 at there e)

clock_differs : (n : List ℕ) → bytes_eq n clock_name ≡ false → n ≡ clock_name → ⊥
clock_differs n h e = let t = (bytes_eq-Decides n clock_name).1 e in let f : true ≡ false = sym t ∙ h in cc

-- no two ports of a netlist whose ports have these names have one name
pub apart_in : (names : List (List ℕ)) (net : Net) → IsDistinct bytes_eq names → names_of net ≡ names → (i j : ℕ) (p q : Port)
    → slice_get net.ports i ≡ Some p → slice_get net.ports j ≡ Some q → p.name ≡ q.name → i ≡ j
apart_in names net distinct are i j p q at there e = ports_apart net.ports i j p q (subst AreApart (sym are) (apart_distinct names distinct)) at there e

pub apart : (ticks : Bool) (s : Schema) (cs : List (List ℕ)) (net : Net) → IsSchema s → AllByRecursion schema.IsName cs → IsDistinct bytes_eq cs → names_of net ≡ port_names ticks s cs → (i j : ℕ) (p q : Port) → slice_get net.ports i ≡ Some p → slice_get net.ports j ≡ Some q → p.name ≡ q.name → i ≡ j
apart ticks s cs net is all distinct names i j p q at there e = apart_in (port_names ticks s cs) net (port_names-distinct ticks s cs is all distinct) names i j p q at there e

-- such a netlist, with names of the subset, can be finished
pub finished_in : (names : List (List ℕ)) (title : List ℕ) (net : Net) → IsDistinct bytes_eq names → AllByRecursion IsPortName names → IsName title
    → names_of net ≡ names → net.name ≡ Some title → ((n : ℕ) → open_at net n ≡ None) → HasReset net → IsFinished net
finished_in names title net distinct all titled are name driven reset =
    let each : AllByRecursion IsPortName (names_of net) = subst (AllByRecursion IsPortName) (sym are) all in
    record {
      driven = driven;
      module_name = rw name titled;
      port_names = λ place p at. (port_is IsPortName net.ports place p each at).name;
      no_clock = λ place p at. clock_differs p.name (port_is IsPortName net.ports place p each at).clock;
      distinct = apart_in names net distinct are;
      reset = λ needs. reset;
    }

pub finished : (ticks : Bool) (s : Schema) (cs : List (List ℕ)) (into : List ℕ) (net : Net) → IsSchema s → AllByRecursion schema.IsName cs → IsDistinct bytes_eq cs → schema.IsName into → names_of net ≡ port_names ticks s cs → net.name ≡ Some (codes "q__" ++ into) → ((n : ℕ) → open_at net n ≡ None) → HasReset net → IsFinished net
finished ticks s cs into net is all distinct named names name driven reset =
    finished_in (port_names ticks s cs) (codes "q__" ++ into) net (port_names-distinct ticks s cs is all distinct) (ports_named ticks s cs is all)
    (module_name-name into named) names name driven reset
