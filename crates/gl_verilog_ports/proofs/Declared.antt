-- Where declarations stand, by their names, and which of them are ports.
use Rattle.std.proofs.Common.{◌≡◌, ℕ, zero, suc, ◌+◌, true, false, List, [], ◌∷◌, ◌++◌, length, take, map, Option, Some, None, refl, sym, ap, ◌∙◌, subst, append_assoc, take_at}
use Rattle.std.specs.Prelude.{slice_get, option_and_then}
use Rattle.std.specs.List.{AllByRecursion}
use Rattle.std.proofs.lemmas.List.{append-nil}
use Rattle.gl_bits.proofs.AllLists.{all_append, all_at, length_map}
use Rattle.gl_bits.proofs.Options.{map_found}
use Rattle.gl_verilog.specs.Module.{Module, Declaration, Kind, Wire, Register, Memory, number_of}
use Rattle.gl_verilog.specs.Resolve.{Resolved, resolve_items, resolve_expr, resolve_statement, module_from, declare, declare_port, three, with_assignment, with_block, clocked, address_bits_of, decimal_number}
use Rattle.gl_verilog.specs.Runnable.{is_input}
use Rattle.gl_verilog.specs.Text.{HasModule}
use Rattle.gl_verilog.specs.Valid.{AreDistinct, Differs}
use Rattle.gl_verilog.specs.Written.{WrittenItem, Range, Wires, Registers, MemoryOf, Assign, Always}
pub use Rattle.gl_verilog.proofs.Distinct.{number_at}
use Rattle.gl_verilog_ports.specs.Profile.{HasInputPorts, ports_of}

-- ---- names

differs_take : (p : ℕ) (x : Declaration) (ds : List Declaration) → Differs x ds → Differs x (take p ds)
differs_take zero x ds h = tt
differs_take (suc p) x [] h = tt
differs_take (suc p) x (d ∷ ds) h = (h.0, differs_take p x ds h.1)

pub distinct_take : (p : ℕ) (ds : List Declaration) → AreDistinct ds → AreDistinct (take p ds)
distinct_take zero ds h = tt
distinct_take (suc p) [] h = tt
distinct_take (suc p) (d ∷ ds) h = (differs_take p d ds h.0, distinct_take p ds h.1)

pub get_take : {T : Type 0} (p : ℕ) (xs : List T) (n : ℕ) (x : T) → slice_get (take p xs) n ≡ Some x → slice_get xs n ≡ Some x
get_take zero xs n x e = absurd cc
get_take (suc p) [] n x e = absurd cc
get_take (suc p) (y ∷ xs) zero x e = e
get_take (suc p) (y ∷ xs) (suc n) x e = get_take p xs n x e

-- ---- a declaration behind the ports is no input

NoInput : Declaration → Type 0
NoInput d = is_input d.kind ≡ false

-- what is declared behind these declarations
record Declares (front all : List Declaration) : Type 0 where
  more : List Declaration
  same : all ≡ front ++ more
  none : AllByRecursion NoInput more

further : (front new all : List Declaration) → AllByRecursion NoInput new → Declares (front ++ new) all → Declares front all
further front new all h d = record { more = new ++ d.more; same = d.same ∙ append_assoc front new d.more; none = all_append NoInput new d.more h d.none }

no_inputs : (kind : Kind) (range : Range) (names : List (List ℕ)) → is_input kind ≡ false → AllByRecursion NoInput (map (declare kind range) names)
unfolding NoInput
no_inputs kind range [] h = tt
no_inputs kind None (n ∷ names) h = (h, no_inputs kind None names h)
no_inputs kind (Some high) (n ∷ names) h = (h, no_inputs kind (Some high) names h)

-- an option of three is there where each is
record AllThree {A B C D : Type 0} (f : A → B → C → D) (a : Option A) (b : Option B) (c : Option C) (r : D) : Type 0 where
  first : A
  second : B
  third : C
  last : c ≡ Some third
  is : f first second third ≡ r

three_some : {A B C D : Type 0} (f : A → B → C → D) (a : Option A) (b : Option B) (c : Option C) (r : D) → three f a b c ≡ Some r → AllThree f a b c r
three_some f None b c r e = absurd cc
three_some f (Some x) None c r e = absurd cc
three_some f (Some x) (Some y) None r e = absurd cc
three_some f (Some x) (Some y) (Some z) r e = record { first = x; second = y; third = z; last = refl; is = cc }

record Sound {A B : Type 0} (f : A → Option B) (o : Option A) (r : B) : Type 0 where
  found : A
  is : f found ≡ Some r

and_then_some : {A B : Type 0} (f : A → Option B) (o : Option A) (r : B) → option_and_then f o ≡ Some r → Sound f o r
and_then_some f None r e = absurd cc
and_then_some f (Some x) r e = record { found = x; is = e }

items_declare : (ds : List Declaration) (items : List WrittenItem) (r : Resolved) → resolve_items ds items ≡ Some r → Declares ds r.declarations
unfolding NoInput
items_declare ds [] r e =
    let same : ds ≡ r.declarations = cc in
    record { more = []; same = sym same ∙ sym (append-nil ds); none = tt }
items_declare ds (Wires range names ∷ is) r e = further ds (map (declare Wire range) names) r.declarations (no_inputs Wire range names refl) (items_declare (ds ++ map (declare Wire range) names) is r e)
items_declare ds (Registers range names ∷ is) r e = further ds (map (declare Register range) names) r.declarations (no_inputs Register range names refl) (items_declare (ds ++ map (declare Register range) names) is r e)
items_declare ds (MemoryOf range name last ∷ is) r e =
    let found = and_then_some (λ (j : ℕ). resolve_items (ds ++ declare (Memory j) range name ∷ []) is) (address_bits_of (decimal_number last + 1)) r e in
    further ds (declare (Memory found.found) range name ∷ []) r.declarations (no_inputs (Memory found.found) range (name ∷ []) refl) (items_declare (ds ++ declare (Memory found.found) range name ∷ []) is r found.is)
items_declare ds (Assign target value ∷ is) r e =
    let all = three_some with_assignment (number_of ds target) (resolve_expr ds value) (resolve_items ds is) r e in
    let same : all.third.declarations ≡ r.declarations = ap (λ (x : Resolved). x.declarations) all.is in
    subst (Declares ds) same (items_declare ds is all.third all.last)
items_declare ds (Always clock body ∷ is) r e =
    let all = three_some with_block (clocked ds clock) (resolve_statement ds body) (resolve_items ds is) r e in
    let same : all.third.declarations ≡ r.declarations = ap (λ (x : Resolved). x.declarations) all.is in
    subst (Declares ds) same (items_declare ds is all.third all.last)

in_front : (front more : List Declaration) (n : ℕ) (d : Declaration) → AllByRecursion NoInput more → slice_get (front ++ more) n ≡ Some d → is_input d.kind ≡ true → slice_get front n ≡ Some d
unfolding NoInput
in_front [] more n d h e i = let other : is_input d.kind ≡ false = all_at NoInput more n d e h in absurd cc
in_front (x ∷ front) more zero d h e i = e
in_front (x ∷ front) more (suc n) d h e i = in_front front more n d h e i

-- in the module of a text an input is a port
pub inputs_are_ports : (text : List ℕ) (m : Module) → HasModule text m → HasInputPorts m
inputs_are_ports text m h = λ n d e i.
    let w = h.written in
    let r = map_found (module_from w) (resolve_items (map declare_port w.ports) w.items) m h.resolved in
    let declared = items_declare (map declare_port w.ports) w.items r.found r.there in
    let ports : length w.ports ≡ m.ports = ap (λ (x : Module). x.ports) r.is in
    let all : r.found.declarations ≡ m.declarations = ap (λ (x : Module). x.declarations) r.is in
    let size : m.ports ≡ length (map declare_port w.ports) = sym ports ∙ sym (length_map declare_port w.ports) in
    let front : take m.ports m.declarations ≡ map declare_port w.ports =
    ap (λ (xs : List Declaration). take m.ports xs) (sym all ∙ declared.same) ∙ ap (λ (k : ℕ). take k (map declare_port w.ports ++ declared.more)) size ∙ take_at (map declare_port w.ports) declared.more (length (map declare_port w.ports)) refl in
    subst (λ (xs : List Declaration). slice_get xs n ≡ Some d) (sym front)
    (in_front (map declare_port w.ports) declared.more n d declared.none (subst (λ (xs : List Declaration). slice_get xs n ≡ Some d) (sym all ∙ declared.same) e) i)

-- so its number is found by its name among the ports
pub input_number : (m : Module) (n : ℕ) (d : Declaration) → AreDistinct m.declarations → HasInputPorts m → slice_get m.declarations n ≡ Some d → is_input d.kind ≡ true → number_of (ports_of m) d.name ≡ Some n
input_number m n d distinct h e i = number_at (ports_of m) n d (distinct_take m.ports m.declarations distinct) (h n d e i)
