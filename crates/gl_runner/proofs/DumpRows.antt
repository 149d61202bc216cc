-- The numbers of the ports that are dumped, and the row that they have in a cycle.
use Rattle.std.proofs.Common.{◌≡◌, ℕ, zero, suc, ◌+◌, ◌^◌, ◌<◌, ◌≤◌, Bool, true, false, List, [], ◌∷◌, ◌++◌, Option, Some, None, map, take, drop, get_or, length, refl, sym, ap, ◌∙◌, subst, arith, add-one, eqb-true}
use Rattle.std.proofs.lemmas.Bool.{cond-false}
use Rattle.gl_bits.proofs.AllLists.{length_map}
use Rattle.gl_bits.proofs.Bools.{by_cases}
use Rattle.std.specs.Prelude.{bytes_eq, nat_eq, slice_get, slice_index, if◌then◌else◌}
use Rattle.std.specs.List.{AllByRecursion, AllZip}
use Rattle.std.proofs.lemmas.List.{append-nil, drop_all, take-map}
use Rattle.std.proofs.Common.{append_assoc}
use Rattle.gl_bits.specs.Words.{IsWidth, Word, bits_of, widths_of}
use Rattle.gl_schema.specs.Ports.{PortValues}
use Rattle.gl_schema.specs.Profile.{clk}
use Rattle.gl_schema.specs.Seen.{value_at}
use Rattle.gl_sim.specs.Simulation.{Simulation}
use Rattle.gl_verilog.specs.Module.{Declaration, Module}
use Rattle.gl_verilog.specs.declared.module.Declaration.{Declaration as Here}
use Rattle.gl_verilog.specs.declared.module.Module.{Module as Rust}
use Rattle.gl_verilog.specs.View.{declaration_of, module_of}
use Rattle.gl_verilog.specs.Widths.{HasSize, is_clock}
use Rattle.gl_verilog.proofs.Fits.{in_range}
use Rattle.gl_verilog_ports.proofs.Declared.{get_take}
use Rattle.gl_tuples.proofs.Rows.{widths_length}
use Rattle.gl_vcd.specs.Dumped.{Port}
use Rattle.gl_vcd.specs.Written.{cycle, cycles, dump_text, header, port_declared, ports_among, ports_of, time_line}
use Rattle.gl_runner.specs.Cycles.{HasPlainPorts, HasOnPorts}
use Rattle.gl_runner.specs.Dumping.{numbers_from, numbers_of, widths_in}
use Rattle.gl_runner.specs.Watches.{bytes_to, dump_of_cycle, row_before, row_in, rows_to}

-- ---- the numbers

-- what holds of each port but the clock holds of its number
numbers_each : (Q : ℕ → Type 0) (from : ℕ) (ds : List Declaration) → ((n : ℕ) (d : Declaration) → slice_get ds n ≡ Some d → bytes_eq d.name clk ≡ false → Q (from + n)) → AllByRecursion Q (numbers_from from ds)
numbers_each Q from [] h = tt
numbers_each Q from (d ∷ ds) h = pick (bytes_eq d.name clk) refl (numbers_each Q (from + 1) ds (λ n x e s. let same : from + suc n ≡ from + 1 + n = omega arith in subst Q same (h (suc n) x e s)))
  where
    pick : (b : Bool) → bytes_eq d.name clk ≡ b → AllByRecursion Q (numbers_from (from + 1) ds) → AllByRecursion Q (if b then numbers_from (from + 1) ds else from ∷ numbers_from (from + 1) ds)
    pick true e later = later
    pick false e later = let none : from + 0 ≡ from = omega arith in (subst Q none (h 0 d refl e), later)

pub numbers_inside : (m : Module) → AllByRecursion (λ n. n < length m.declarations) (numbers_of m)
numbers_inside m = numbers_each (λ n. n < length m.declarations) 0 (take m.ports m.declarations) (λ n d e s. let none : n ≡ 0 + n = omega arith in subst (λ (k : ℕ). k < length m.declarations) none (in_range m.declarations n d (get_take m.ports m.declarations n d e)))

numbers_length : (from : ℕ) (ds : List Declaration) → length (numbers_from from ds) ≡ length (ports_among ds)
numbers_length from [] = refl
numbers_length from (d ∷ ds) = pick (bytes_eq d.name clk) (numbers_length (from + 1) ds)
  where
    pick : (b : Bool) → length (numbers_from (from + 1) ds) ≡ length (ports_among ds) → length (if b then numbers_from (from + 1) ds else from ∷ numbers_from (from + 1) ds) ≡ length (if b then ports_among ds else port_declared d ∷ ports_among ds)
    pick true later = later
    pick false later = ap (λ (n : ℕ). suc n) later

-- as many as the row has places
pub numbers_many : (m : Module) (row : List Word) → widths_of row ≡ widths_in m → length (numbers_of m) ≡ length row
numbers_many m row e = numbers_length 0 (take m.ports m.declarations) ∙ sym (length_map (λ (p : Port). p.width) (ports_of m)) ∙ ap length (sym e) ∙ widths_length row

-- ---- what they have

abbrev AtNumber : List ℕ → PortValues → ℕ → ℕ → Declaration → Type 0
AtNumber have port t k d = (slice_index have k ≡ value_at port t d.name) × (slice_index have k < 2 ^ d.width)

AreHad : List ℕ → PortValues → ℕ → ℕ → List Declaration → Type 0
AreHad have port t from ds = (n : ℕ) (d : Declaration) → slice_get ds n ≡ Some d → bytes_eq d.name clk ≡ false → AtNumber have port t (from + n) d

record AreShown (have : List ℕ) (port : PortValues) (t : ℕ) (numbers : List ℕ) (ports : List Port) : Type 0 where
  fit : AllZip (λ n width. slice_index have n < 2 ^ width) numbers (map (λ (p : Port). p.width) ports)
  bits : map (slice_index have) numbers ≡ map (λ (p : Port). value_at port t p.name) ports

had : (have : List ℕ) (port : PortValues) (t from : ℕ) (ds : List Declaration) → AreHad have port t from ds → AreShown have port t (numbers_from from ds) (ports_among ds)
unfolding AreHad
had have port t from [] h = record { fit = tt; bits = refl }
had have port t from (d ∷ ds) h = pick (bytes_eq d.name clk) refl (had have port t (from + 1) ds (λ n x e s. let same : from + suc n ≡ from + 1 + n = omega arith in subst (λ (k : ℕ). AtNumber have port t k x) same (h (suc n) x e s)))
  where
    pick : (b : Bool) → bytes_eq d.name clk ≡ b → AreShown have port t (numbers_from (from + 1) ds) (ports_among ds)
        → AreShown have port t (if b then numbers_from (from + 1) ds else from ∷ numbers_from (from + 1) ds) (if b then ports_among ds else port_declared d ∷ ports_among ds)
    pick true e later = later
    pick false e later =
        let none : from + 0 ≡ from = omega arith in
        let at : AtNumber have port t from d = subst (λ (k : ℕ). AtNumber have port t k d) none (h 0 d refl e) in
        let first : slice_index have from ≡ value_at port t d.name = at.0 in
        let rest : map (slice_index have) (numbers_from (from + 1) ds) ≡ map (λ (p : Port). value_at port t p.name) (ports_among ds) = later.bits in
        record { fit = (at.1, later.fit); bits = cc }

no_clock : (d : Declaration) → bytes_eq d.name clk ≡ false → is_clock d ≡ false
unfolding clk
no_clock d e = e

-- a row by its widths and its bits
row_by : (row : List Word) (ports : List Port) (f : List ℕ → ℕ) → widths_of row ≡ map (λ (p : Port). p.width) ports → bits_of row ≡ map (λ (p : Port). f p.name) ports → row ≡ map (λ (p : Port). record { bits = f p.name; width = p.width }) ports
row_by [] [] f wide bits = refl
row_by [] (p ∷ ports) f wide bits = absurd cc
row_by (w ∷ row) [] f wide bits = absurd cc
row_by (w ∷ row) (p ∷ ports) f wide bits =
    let width : w.width ≡ p.width = cc in
    let widths : widths_of row ≡ map (λ (x : Port). x.width) ports = cc in
    let bit : w.bits ≡ f p.name = cc in
    let rest : bits_of row ≡ map (λ (x : Port). f x.name) ports = cc in
    let here : w ≡ record { bits = f p.name; width = p.width } = rw (← width, ← bit) refl in
    let later : row ≡ map (λ (x : Port). record { bits = f x.name; width = x.width }) ports = row_by row ports f widths rest in
    cc

-- the row that is set is that of the ports
pub row_made : (m : Module) (s : Simulation) (port : PortValues) (n : ℕ) (numbers : List ℕ) (old new : List Word) → HasPlainPorts m → HasOnPorts m s port (suc n) → numbers ≡ numbers_of m → widths_of old ≡ widths_in m → widths_of new ≡ widths_of old
    → (AllZip (λ k width. slice_index s.shown k < 2 ^ width) numbers (widths_of old) → bits_of new ≡ map (slice_index s.shown) numbers) → new ≡ row_in (ports_of m) port n
unfolding AreHad
row_made m s port n numbers old new plain have same wide kept set =
    let of = had s.shown port (suc n) 0 (take m.ports m.declarations) (λ k d e c. let none : k ≡ 0 + k = omega arith in subst (λ (x : ℕ). AtNumber s.shown port (suc n) x d) none (have k d e (plain.nets k d e, no_clock d c))) in
    let fit : AllZip (λ k width. slice_index s.shown k < 2 ^ width) numbers (widths_of old) = rw (same, wide) of.fit in
    row_by new (ports_of m) (value_at port (suc n)) (kept ∙ wide) (set fit ∙ ap (map (slice_index s.shown)) same ∙ of.bits)

-- ---- one cycle behind the other

before_is : (ports : List Port) (port : PortValues) (n : ℕ) (before : List Word) → ((k : ℕ) → n ≡ suc k → before ≡ row_in ports port k) → (if nat_eq n 0 then None else Some before) ≡ row_before ports port n
before_is ports port zero before h = refl
before_is ports port (suc n) before h = by_cases (nat_eq (suc n) 0)
    (λ e. absurd (let none : suc n ≡ 0 = eqb-true (suc n) 0 e in omega (arith, none)))
    (λ e. cond-false (nat_eq (suc n) 0) None (Some before) e ∙ ap (λ (r : List Word). Some r) (h n refl))

-- what is written of a cycle
pub cycle_is : (m : Module) (port : PortValues) (n : ℕ) (before : Option (List Word)) (kept now : List Word) → ((k : ℕ) → n ≡ suc k → kept ≡ row_in (ports_of m) port k) → before ≡ (if nat_eq n 0 then None else Some kept) → now ≡ row_in (ports_of m) port n → cycle n before now ≡ dump_of_cycle m port n
cycle_is m port n before kept now h e same =
    ap (λ (b : Option (List Word)). cycle n b now) (e ∙ before_is (ports_of m) port n kept h) ∙ ap (cycle n (row_before (ports_of m) port n)) same

pub row_kept : (ports : List Port) (port : PortValues) (n : ℕ) (now : List Word) → now ≡ row_in ports port n → (k : ℕ) → n + 1 ≡ suc k → now ≡ row_in ports port k
row_kept ports port n now e k same =
    let place : n ≡ k = omega (arith, same) in
    e ∙ ap (row_in ports port) place

-- rows behind a row
cycles_then : (at : ℕ) (before : Option (List Word)) (rows : List (List Word)) (last : List Word) (written : List ℕ) (kept : Option (List Word)) (end' : ℕ)
    → ((more : List (List Word)) → cycles at before (rows ++ more) ≡ written ++ cycles end' kept more) → (more : List (List Word)) → cycles at before ((rows ++ last ∷ []) ++ more) ≡ (written ++ cycle end' kept last) ++ cycles (end' + 1) (Some last) more
cycles_then at before rows last written kept end' h more =
    ap (cycles at before) (append_assoc rows (last ∷ []) more) ∙ h (last ∷ more) ∙ sym (append_assoc written (cycle end' kept last) (cycles (end' + 1) (Some last) more))

cycles_to : (m : Module) (port : PortValues) (n : ℕ) (more : List (List Word)) → cycles 0 None (rows_to (ports_of m) port n ++ more) ≡ bytes_to dump_of_cycle m port n ++ cycles (suc n) (Some (row_in (ports_of m) port n)) more
cycles_to m port zero more = refl
cycles_to m port (suc n) more =
    let next : suc n + 1 ≡ suc (suc n) = add-one (suc n) in
    let ports : List Port = ports_of m in
    cycles_then 0 None (rows_to ports port n) (row_in ports port (suc n)) (bytes_to dump_of_cycle m port n) (Some (row_in ports port n)) (suc n) (cycles_to m port n) more
    ∙ ap (λ (k : ℕ). bytes_to dump_of_cycle m port (suc n) ++ cycles k (Some (row_in ports port (suc n))) more) next

-- a dump is what stands in front, the cycles, and the time behind the last
pub dump_is : (m : Module) (port : PortValues) (n : ℕ) → dump_text m.name (ports_of m) (rows_to (ports_of m) port n) ≡ header m.name (ports_of m) ++ (bytes_to dump_of_cycle m port n ++ time_line (suc n))
unfolding dump_text
dump_is m port n =
    ap (λ (x : List ℕ). header m.name (ports_of m) ++ x) (ap (cycles 0 None) (sym (append-nil (rows_to (ports_of m) port n))) ∙ cycles_to m port n [])

-- ---- behind the last port

-- each port has 1 to 128 bits
pub sizes_at : (p : ℕ) (ds : List Here) (n : ℕ) (d : Here) → AllByRecursion HasSize (map declaration_of ds) → n < length (take p ds) → d ≡ get_or (take p ds) n d → IsWidth d.width
sizes_at zero ds n d h lt is = absurd (omega arith)
sizes_at (suc p) [] n d h lt is = absurd (omega arith)
sizes_at (suc p) (x ∷ ds) zero d h lt is = rw is h.0.0
sizes_at (suc p) (x ∷ ds) (suc n) d h lt is = sizes_at p ds n d h.1 (omega (arith, lt)) is

pub numbers_all : (face : Rust) (ds : List Here) (done : List ℕ) (n : ℕ) → ds ≡ face.declarations → length (take face.ports ds) ≤ n → done ++ numbers_from n (map declaration_of (drop n (take face.ports ds))) ≡ numbers_from 0 (map declaration_of (take face.ports ds)) → done ≡ numbers_of (module_of face)
numbers_all face ds done n same le e =
    let all : numbers_from n (map declaration_of (drop n (take face.ports ds))) ≡ [] = ap (λ (x : List Here). numbers_from n (map declaration_of x)) (drop_all n (take face.ports ds) le) in
    sym (append-nil done) ∙ ap (λ (x : List ℕ). done ++ x) (sym all) ∙ e ∙ ap (numbers_from 0) (sym (take-map declaration_of face.ports ds)) ∙ ap (λ (x : List Here). numbers_from 0 (take face.ports (map declaration_of x))) same

pub widths_all : (face : Rust) (ds : List Here) (done : List ℕ) (n : ℕ) → ds ≡ face.declarations → length (take face.ports ds) ≤ n → done ++ map (λ (p : Port). p.width) (ports_among (map declaration_of (drop n (take face.ports ds)))) ≡ map (λ (p : Port). p.width) (ports_among (map declaration_of (take face.ports ds))) → done ≡ widths_in (module_of face)
widths_all face ds done n same le e =
    let all : map (λ (p : Port). p.width) (ports_among (map declaration_of (drop n (take face.ports ds)))) ≡ [] = ap (λ (x : List Here). map (λ (p : Port). p.width) (ports_among (map declaration_of x))) (drop_all n (take face.ports ds) le) in
    sym (append-nil done) ∙ ap (λ (x : List ℕ). done ++ x) (sym all) ∙ e ∙ ap (λ (x : List Declaration). map (λ (p : Port). p.width) (ports_among x)) (sym (take-map declaration_of face.ports ds)) ∙ ap (λ (x : List Here). map (λ (p : Port). p.width) (ports_among (take face.ports (map declaration_of x)))) same
