-- What the output ports of a module show: read by their numbers, found by their names.
use Rattle.std.proofs.Common.{◌≡◌, ℕ, zero, suc, ◌+◌, ◌^◌, ◌<◌, ◌≤◌, Bool, true, false, not, ◌&&◌, List, [], ◌∷◌, map, take, length, Option, Some, None, refl, sym, ap, ◌∙◌, subst, arith, add-one}
use Rattle.std.specs.Prelude.{slice_get, bytes_eq, find, codes, filter, unwrap_or, if◌then◌else◌, IfSome}
use Rattle.std.specs.Option.{option_map}
use Rattle.std.specs.List.{AllByRecursion, AllZip}
use Rattle.gl_schema.specs.declared.schema.Schema.{Schema}
use Rattle.gl_schema.specs.Ports.{out_valid, out_eos, fault_group, fault_queue}
use Rattle.gl_schema.specs.Seen.{shown}
use Rattle.gl_verilog.specs.Module.{Module, Declaration, Kind, Input, OutputWire, OutputRegister, Wire, Register, Memory, Nets, Memories, number_of}
use Rattle.gl_verilog.specs.Run.{Fit, port_of}
use Rattle.gl_verilog.specs.Runnable.{SameNets}
use Rattle.gl_verilog.specs.Text.{HasModule}
use Rattle.gl_verilog.specs.Valid.{IsValid}
use Rattle.gl_verilog.specs.Widths.{IsNet, IsReadable, is_clock, width_at}
use Rattle.gl_verilog.proofs.Fits.{in_range, width_at-found}
use Rattle.gl_testbench.specs.declared.pins.Shows.{Shows}
use Rattle.gl_testbench.specs.Benches.{columns_from, AreShows}
use Rattle.gl_verilog_ports.specs.Profile.{FitsSchema, IsLine, is_output, shows_column, ports_of, port_named, result_names, result_widths}
use Rattle.gl_verilog_ports.proofs.Fits.{line_named}
use Rattle.gl_verilog_ports.proofs.Declared.{number_at, distinct_take, get_take}
use Rattle.gl_bits.proofs.AllLists.{map_map}
use Rattle.gl_bits.proofs.Bools.{bytes_same}

-- ---- lines

-- the number of a name is that of the declaration of the name
pub record IsNamed (ds : List Declaration) (name : List ℕ) (P : Declaration → Type 0) (k : ℕ) : Type 0 where
  pub d : Declaration
  pub there : slice_get ds k ≡ Some d
  pub is : P d
  pub same : bytes_eq d.name name ≡ true

later_number : (x : Declaration) (ds : List Declaration) (name : List ℕ) (P : Declaration → Type 0) (o : Option ℕ) → IfSome o (IsNamed ds name P) → IfSome (option_map (λ n. n + 1) o) (IsNamed (x ∷ ds) name P)
later_number x ds name P None h = tt
later_number x ds name P (Some k) h = record { d = h.d; there = rw (add-one k) h.there; is = h.is; same = h.same }

pub named : (ds : List Declaration) (name : List ℕ) (P : Declaration → Type 0) → IfSome (find (λ (d : Declaration). bytes_eq d.name name) ds) P → IfSome (number_of ds name) (IsNamed ds name P)
named [] name P h = tt
named (d ∷ ds) name P h = pick (bytes_eq d.name name) refl h (named ds name P)
  where
    pick : (b : Bool) → bytes_eq d.name name ≡ b → IfSome (if b then Some d else find (λ (x : Declaration). bytes_eq x.name name) ds) P
        → (IfSome (find (λ (x : Declaration). bytes_eq x.name name) ds) P → IfSome (number_of ds name) (IsNamed ds name P))
        → IfSome (if b then Some 0 else option_map (λ n. n + 1) (number_of ds name)) (IsNamed (d ∷ ds) name P)
    pick true e h later = record { d = d; there = refl; is = h; same = e }
    pick false e h later = later_number d ds name P (number_of ds name) (later h)

pub output_is_net : (k : Kind) → is_output k ≡ true → IsNet k
output_is_net Input e = absurd cc
output_is_net OutputWire e = tt
output_is_net OutputRegister e = tt
output_is_net Wire e = absurd cc
output_is_net Register e = absurd cc
output_is_net (Memory bits) e = absurd cc

pub line_readable : (name : List ℕ) (d : Declaration) → bytes_eq name (codes "clk") ≡ false → IsLine d → bytes_eq d.name name ≡ true → IsReadable d
line_readable name d other line e = (output_is_net d.kind line.output, subst (λ (n : List ℕ). bytes_eq n (codes "clk") ≡ false) (sym (bytes_same d.name name e)) other)

some_same : (v v' : Nets) (o : Option ℕ) → IfSome o (λ k. v k ≡ v' k) → option_map v o ≡ option_map v' o
some_same v v' None h = refl
some_same v v' (Some k) h = ap (λ (x : ℕ). Some x) h

-- a line has the same in two cycles that have the same nets
line_same : (m : Module) (v v' : Nets) (name : List ℕ) → bytes_eq name (codes "clk") ≡ false → IfSome (port_named m name) IsLine → SameNets m.declarations v v' → option_map v (number_of (ports_of m) name) ≡ option_map v' (number_of (ports_of m) name)
line_same m v v' name other line same = some_same v v' (number_of (ports_of m) name) (each (number_of (ports_of m) name) (named (ports_of m) name IsLine line))
  where
    each : (o : Option ℕ) → IfSome o (IsNamed (ports_of m) name IsLine) → IfSome o (λ k. v k ≡ v' k)
    each None h = tt
    each (Some k) h = same k h.d (get_take m.ports m.declarations k h.d h.there) (line_readable name h.d other h.is h.same)

-- a number that is found is one of a declaration
number_in : (ds : List Declaration) (name : List ℕ) → IfSome (number_of ds name) (λ k. k < length ds)
number_in [] name = tt
number_in (d ∷ ds) name = pick (bytes_eq d.name name) (later (number_of ds name) (number_in ds name))
  where
    later : (o : Option ℕ) → IfSome o (λ k. k < length ds) → IfSome (option_map (λ n. n + 1) o) (λ k. k < length (d ∷ ds))
    later None h = tt
    later (Some k) h = omega (arith, h)

    pick : (b : Bool) → IfSome (option_map (λ n. n + 1) (number_of ds name)) (λ k. k < length (d ∷ ds)) → IfSome (if b then Some 0 else option_map (λ n. n + 1) (number_of ds name)) (λ k. k < length (d ∷ ds))
    pick true h = omega arith
    pick false h = h

length_take : {T : Type 0} (p : ℕ) (xs : List T) → length (take p xs) ≤ length xs
length_take zero xs = omega arith
length_take (suc p) [] = omega arith
length_take (suc p) (x ∷ xs) = let h : length (take p xs) ≤ length xs = length_take p xs in omega arith

pub line_inside : (m : Module) (name : List ℕ) (o : Option ℕ) → o ≡ number_of (ports_of m) name → IfSome o (λ k. k < length m.declarations)
line_inside m name o e = subst (λ (x : Option ℕ). IfSome x (λ k. k < length m.declarations)) (sym e) (wide (number_of (ports_of m) name) (number_in (ports_of m) name))
  where
    wide : (x : Option ℕ) → IfSome x (λ k. k < length (ports_of m)) → IfSome x (λ k. k < length m.declarations)
    wide None h = tt
    wide (Some k) h = omega (arith, h, length_take m.ports m.declarations)

pub shows_inside : (m : Module) (shows : Shows) → AreShows m shows → IfSome shows.valid (λ k. k < length m.declarations) × IfSome shows.end (λ k. k < length m.declarations) × IfSome shows.group (λ k. k < length m.declarations)
shows_inside m shows h = (line_inside m out_valid shows.valid h.valid', line_inside m out_eos shows.end h.end', line_inside m fault_group shows.group h.group')

-- ---- columns

-- what a function gives at the numbers of the columns
pub columns_are : {A : Type 0} (f : ℕ → A) (g : Declaration → A) (from : ℕ) (ds : List Declaration) → ((n : ℕ) (d : Declaration) → slice_get ds n ≡ Some d → f (from + n) ≡ g d) → map f (columns_from from ds) ≡ map g (filter shows_column ds)
columns_are f g from [] h = refl
columns_are {A} f g from (d ∷ ds) h =
    pick (shows_column d)
    (columns_are f g (from + 1) ds (λ n x e. let same : from + 1 + n ≡ from + suc n = omega arith in rw same (h (suc n) x e)))
  where
    pick : (b : Bool) → map f (columns_from (from + 1) ds) ≡ map g (filter shows_column ds) → map f (if b then from ∷ columns_from (from + 1) ds else columns_from (from + 1) ds) ≡ map g (if b then d ∷ filter shows_column ds else filter shows_column ds)
    pick true later = let none : from + 0 ≡ from = omega arith in let here : f from ≡ g d = rw none at (h 0 d refl) in cc
    pick false later = later

-- a fact of each of their declarations
pub columns_each : (Q : ℕ → Type 0) (from : ℕ) (ds : List Declaration) → ((n : ℕ) (d : Declaration) → slice_get ds n ≡ Some d → shows_column d ≡ true → Q (from + n)) → AllByRecursion Q (columns_from from ds)
columns_each Q from [] h = tt
columns_each Q from (d ∷ ds) h =
    pick (shows_column d) refl
    (columns_each Q (from + 1) ds (λ n x e s. let same : from + suc n ≡ from + 1 + n = omega arith in subst Q same (h (suc n) x e s)))
  where
    pick : (b : Bool) → shows_column d ≡ b → AllByRecursion Q (columns_from (from + 1) ds) → AllByRecursion Q (if b then from ∷ columns_from (from + 1) ds else columns_from (from + 1) ds)
    pick true e later = let none : from + 0 ≡ from = omega arith in (subst Q none (h 0 d refl e), later)
    pick false e later = later

-- the values of the columns are those at their names
pub columns_read : (m : Module) (v : Nets) → IsValid m → map v (columns_from 0 (ports_of m)) ≡ map (λ name. unwrap_or (option_map v (number_of (ports_of m) name)) 0) (result_names m)
columns_read m v valid =
    columns_are v (λ (d : Declaration). unwrap_or (option_map v (number_of (ports_of m) d.name)) 0) 0 (ports_of m)
    (λ n d e.
    let number : number_of (ports_of m) d.name ≡ Some n = number_at (ports_of m) n d (distinct_take m.ports m.declarations valid.names) e in
    let same : 0 + n ≡ n = omega arith in
    rw (number, same) refl)
    ∙ sym (map_map (λ name. unwrap_or (option_map v (number_of (ports_of m) name)) 0) (λ (d : Declaration). d.name) (filter shows_column (ports_of m)))

pub columns_widths : (m : Module) → map (width_at m.declarations) (columns_from 0 (ports_of m)) ≡ result_widths m
columns_widths m = columns_are (width_at m.declarations) (λ (d : Declaration). d.width) 0 (ports_of m)
    (λ n d e. let same : 0 + n ≡ n = omega arith in rw same (width_at-found m.declarations n d (get_take m.ports m.declarations n d e)))

-- a column is read of a declared net
pub record IsColumnPort (m : Module) (k : ℕ) : Type 0 where
  pub d : Declaration
  pub there : slice_get m.declarations k ≡ Some d
  pub readable : IsReadable d

none_of : (b c d : Bool) → (b && false && c && d) ≡ true → ⊥
none_of true c d h = cc
none_of false c d h = cc

pub clock_no_column : (d : Declaration) → shows_column d ≡ true → is_clock d ≡ false
clock_no_column d e = pick (is_clock d) refl
  where
    no_column : (k : Kind) (name : List ℕ) → name ≡ codes "clk" → (is_output k && bytes_eq (take 5 name) (codes "out__") && not (bytes_eq name out_valid) && not (bytes_eq name out_eos)) ≡ true → ⊥
    no_column k name same h = none_of (is_output k) (not (bytes_eq (codes "clk") out_valid)) (not (bytes_eq (codes "clk") out_eos)) (rw same at h)

    pick : (b : Bool) → is_clock d ≡ b → b ≡ false
    pick true c =
        let name : d.name ≡ codes "clk" = bytes_same d.name (codes "clk") c in
        absurd (no_column d.kind d.name name e)
    pick false c = refl

pub column_output : (d : Declaration) → shows_column d ≡ true → is_output d.kind ≡ true
column_output d e = pick (is_output d.kind) refl e
  where
    pick : (b : Bool) → is_output d.kind ≡ b → (b && bytes_eq (take 5 d.name) (codes "out__") && not (bytes_eq d.name out_valid) && not (bytes_eq d.name out_eos)) ≡ true → b ≡ true
    pick true c h = refl
    pick false c h = absurd cc

pub columns_ports : (m : Module) → AllByRecursion (IsColumnPort m) (columns_from 0 (ports_of m))
columns_ports m = columns_each (IsColumnPort m) 0 (ports_of m)
    (λ n d e s. let same : n ≡ 0 + n = omega arith in
    subst (IsColumnPort m) same (record { d = d; there = get_take m.ports m.declarations n d e; readable = (output_is_net d.kind (column_output d s), clock_no_column d s) }))

pub columns_inside : (m : Module) (columns : List ℕ) → columns ≡ columns_from 0 (ports_of m) → AllByRecursion (λ k. k < length m.declarations) columns
columns_inside m columns e = subst (AllByRecursion (λ k. k < length m.declarations)) (sym e) (each (columns_from 0 (ports_of m)) (columns_ports m))
  where
    each : (ks : List ℕ) → AllByRecursion (IsColumnPort m) ks → AllByRecursion (λ k. k < length m.declarations) ks
    each [] h = tt
    each (k ∷ ks) h = (in_range m.declarations k h.0.d h.0.there, each ks h.1)

-- ---- what is shown

valid_is_no_clock : bytes_eq out_valid (codes "clk") ≡ false
unfolding out_valid
valid_is_no_clock = refl

ends_is_no_clock : bytes_eq out_eos (codes "clk") ≡ false
unfolding out_eos
ends_is_no_clock = refl

group_is_no_clock : bytes_eq fault_group (codes "clk") ≡ false
unfolding fault_group
group_is_no_clock = refl

queue_is_no_clock : bytes_eq fault_queue (codes "clk") ≡ false
unfolding fault_queue
queue_is_no_clock = refl

columns_same : (m : Module) (v v' : Nets) (ks : List ℕ) → SameNets m.declarations v v' → AllByRecursion (IsColumnPort m) ks → map v ks ≡ map v' ks
columns_same m v v' [] same h = refl
columns_same m v v' (k ∷ ks) same h =
    let here : v k ≡ v' k = same k h.0.d h.0.there h.0.readable in
    let later : map v ks ≡ map v' ks = columns_same m v v' ks same h.1 in
    cc

-- two cycles that have the same nets show the same
pub same_shown : (schema : Schema) (m : Module) (v : Nets) (value : ℕ → Nets) (n : ℕ) → IsValid m → FitsSchema m schema → SameNets m.declarations v (value (suc n)) → shown (port_of m (λ t. v)) (result_names m) n ≡ shown (port_of m value) (result_names m) n
unfolding shown
same_shown schema m v value n valid fits same =
    let v' : Nets = value (suc n) in
    let comes : option_map v (number_of (ports_of m) out_valid) ≡ option_map v' (number_of (ports_of m) out_valid) = line_same m v v' out_valid valid_is_no_clock (line_named m out_valid fits.valid) same in
    let ends : option_map v (number_of (ports_of m) out_eos) ≡ option_map v' (number_of (ports_of m) out_eos) = line_same m v v' out_eos ends_is_no_clock (line_named m out_eos fits.end) same in
    let group : option_map v (number_of (ports_of m) fault_group) ≡ option_map v' (number_of (ports_of m) fault_group) = line_same m v v' fault_group group_is_no_clock fits.group same in
    let queue : option_map v (number_of (ports_of m) fault_queue) ≡ option_map v' (number_of (ports_of m) fault_queue) = line_same m v v' fault_queue queue_is_no_clock fits.queue same in
    let columns : map (λ name. unwrap_or (option_map v (number_of (ports_of m) name)) 0) (result_names m) ≡ map (λ name. unwrap_or (option_map v' (number_of (ports_of m) name)) 0) (result_names m) =
    sym (columns_read m v valid) ∙ columns_same m v v' (columns_from 0 (ports_of m)) same (columns_ports m) ∙ columns_read m v' valid in
    rw (comes, ends, group, queue, columns) refl

pub shown_same : (text : List ℕ) (schema : Schema) (m : Module) (v : Nets) (value : ℕ → Nets) (n : ℕ) → HasModule text m → FitsSchema m schema → SameNets m.declarations v (value (suc n)) → shown (port_of m (λ t. v)) (result_names m) n ≡ shown (port_of m value) (result_names m) n
shown_same text schema m v value n has fits same = same_shown schema m v value n has.valid fits same

-- in a run each column fits its width
pub columns_fit : (m : Module) (v v' : Nets) (words : Memories) → Fit m.declarations v' words → SameNets m.declarations v v' → AllZip (λ n width. v n < 2 ^ width) (columns_from 0 (ports_of m)) (result_widths m)
columns_fit m v v' words fit same =
    subst (AllZip (λ n width. v n < 2 ^ width) (columns_from 0 (ports_of m))) (columns_widths m) (each (columns_from 0 (ports_of m)) (columns_ports m))
  where
    each : (ks : List ℕ) → AllByRecursion (IsColumnPort m) ks → AllZip (λ n width. v n < 2 ^ width) ks (map (width_at m.declarations) ks)
    each [] h = tt
    each (k ∷ ks) h =
        let equal : v k ≡ v' k = same k h.0.d h.0.there h.0.readable in
        let small : v' k < 2 ^ h.0.d.width = (fit k h.0.d h.0.there).0 in
        (rw (equal, width_at-found m.declarations k h.0.d h.0.there) small, each ks h.1)
