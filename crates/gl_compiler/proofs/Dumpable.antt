-- A dump can tell the module of every compiled query.
use Rattle.std.proofs.Common.{◌≡◌, ℕ, zero, suc, ◌≤◌, Bool, true, false, List, [], ◌∷◌, length, map, take, refl, ap, ◌∙◌, subst, arith, length-append}
use Rattle.std.specs.Prelude.{bytes_eq, if◌then◌else◌}
use Rattle.std.specs.List.{AllByRecursion, list_any}
use Rattle.gl_bits.proofs.AllLists.{all_mapped, all_weaker, length_map}
use Rattle.gl_bits.proofs.Bools.{bytes_own, bytes_turned, neither}
use Rattle.gl_values.specs.Kinds.{IsKind}
use Rattle.gl_bits.specs.Limits.{most_ports}
use Rattle.gl_bits.specs.Words.{IsWidth}
use Rattle.gl_schema.specs.declared.schema.Column.{Column}
use Rattle.gl_gaps.specs.declared.Gaps.{Gaps}
use Rattle.gl_schema.specs.declared.schema.Schema.{Schema}
use Rattle.gl_schema.specs.Schemas.{IsSchema, kinds_of}
use Rattle.gl_schema.specs.Profile.{ProfilePort, clk, input, input_ports, output_ports, profile}
use Rattle.gl_query.specs.declared.tree.Statement.{Statement}
use Rattle.gl_query.specs.Laws.{AcceptedHaveRealColumns}
use Rattle.gl_query.specs.Shapes.{query_shape}
use Rattle.gl_verilog.specs.Module.{Module, Declaration}
use Rattle.gl_verilog.specs.Text.{HasModule}
use Rattle.gl_verilog.specs.Valid.{AreDistinct, Differs}
use Rattle.gl_verilog.specs.Widths.{HasSize}
use Rattle.gl_verilog_ports.specs.Profile.{HasProfile, declared}
use Rattle.gl_verilog_ports.proofs.Declared.{distinct_take}
use Rattle.gl_testbench.proofs.PortCounts.{inputs_few, outputs_many}
use Rattle.gl_vcd.specs.Dumped.{Port}
use Rattle.gl_vcd.specs.RoundTrip.{AreApart, is_named, names_of, signals_from}
use Rattle.gl_vcd.specs.Signals.{show_none}
use Rattle.gl_vcd.specs.Written.{port_declared, ports_among, ports_of}
use Rattle.gl_compiler.specs.Built.{printed_gaps}
use Rattle.gl_compiler.specs.declared.compiling.Compiled.{Compiled}
use Rattle.gl_compiler.specs.Meets.{Meets, result_columns}
use Rattle.gl_compiler.proofs.KnownOf.{all_kinds}
use Rattle.gl_compiler.specs.Dumpable.{IsDumpable}
use Rattle.gl_compiler.specs.Runnable.{IsRunnable}
use Rattle.gl_compiler.proofs.Shows.{port_in, profile_shows}
use Rattle.gl_compiler.proofs.Spelled.{module_named, ports_named}

-- a text has one module at most
abbrev pub OneModule : Type 0
OneModule = (text : List ℕ) (m n : Module) → HasModule text m → HasModule text n → m ≡ n

-- ---- the ports besides the clock

apart_from : (d : Declaration) (ds : List Declaration) → Differs d ds → list_any (bytes_eq d.name) (names_of (ports_among ds)) ≡ false
apart_from d [] h = refl
apart_from d (e ∷ es) h = by (bytes_eq e.name clk) (apart_from d es h.1)
  where
    by : (b : Bool) → list_any (bytes_eq d.name) (names_of (ports_among es)) ≡ false → list_any (bytes_eq d.name) (names_of (if b then ports_among es else port_declared e ∷ ports_among es)) ≡ false
    by true rest = rest
    by false rest = neither (bytes_eq d.name e.name) (list_any (bytes_eq d.name) (names_of (ports_among es))) h.0 rest

ports_apart : (ds : List Declaration) → AreDistinct ds → AreApart (names_of (ports_among ds))
ports_apart [] h = tt
ports_apart (d ∷ ds) h = by (bytes_eq d.name clk) (apart_from d ds h.0) (ports_apart ds h.1)
  where
    by : (b : Bool) → list_any (bytes_eq d.name) (names_of (ports_among ds)) ≡ false → AreApart (names_of (ports_among ds)) → AreApart (names_of (if b then ports_among ds else port_declared d ∷ ports_among ds))
    by true one rest = rest
    by false one rest = (one, rest)

pub all_among : (P : Port → Type 0) (ds : List Declaration) → AllByRecursion (λ (d : Declaration). P (port_declared d)) ds → AllByRecursion P (ports_among ds)
all_among P [] h = tt
all_among P (d ∷ ds) h = by (bytes_eq d.name clk) (all_among P ds h.1)
  where
    by : (b : Bool) → AllByRecursion P (ports_among ds) → AllByRecursion P (if b then ports_among ds else port_declared d ∷ ports_among ds)
    by true rest = rest
    by false rest = (h.0, rest)

all_take : {A : Type 0} (P : A → Type 0) (n : ℕ) (xs : List A) → AllByRecursion P xs → AllByRecursion P (take n xs)
all_take P zero xs h = tt
all_take P (suc n) [] h = tt
all_take P (suc n) (x ∷ xs) h = (h.0, all_take P n xs h.1)

-- ---- of a module with a profile they are those of the profile

differ_clock : (ps : List ProfilePort) → Differs (declared (input clk 1)) (map declared ps) → AllByRecursion (λ (p : ProfilePort). bytes_eq p.name clk ≡ false) ps
differ_clock [] h = tt
differ_clock (p ∷ ps) h = (bytes_turned clk p.name h.0, differ_clock ps h.1)

among_profile : (ps : List ProfilePort) → AllByRecursion (λ (p : ProfilePort). bytes_eq p.name clk ≡ false) ps → ports_among (map declared ps) ≡ map port_in ps
among_profile [] h = refl
among_profile (p ∷ ps) h = rw h.0 (ap (λ (xs : List Port). port_in p ∷ xs) (among_profile ps h.1))

behind_clock : (ps : List ProfilePort) → AreDistinct (map declared (input clk 1 ∷ ps)) → ports_among (map declared (input clk 1 ∷ ps)) ≡ map port_in ps
behind_clock ps h = rw (bytes_own clk) (among_profile ps (differ_clock ps h.0))

pub ports_are : (ticks : Bool) (m : Module) (schema : Schema) (columns : List Column) → AreDistinct m.declarations → HasProfile ticks m schema columns
    → ports_of m ≡ map port_in (profile ticks schema columns)
ports_are ticks m schema columns distinct face = ap ports_among face ∙ behind_clock (profile ticks schema columns) (subst AreDistinct face (distinct_take m.ports m.declarations distinct))

-- ---- how many they are

profile_many : (ticks : Bool) (schema : Schema) (columns : List Column) → IsSchema schema → length columns ≤ 32 → length (profile ticks schema columns) ≤ most_ports
profile_many ticks schema columns fine few =
    omega (arith, length-append (input_ports ticks schema) (output_ports columns), inputs_few ticks schema fine, outputs_many columns, few)

-- ---- a dump can tell them

dumpable_text : (ticks : Bool) (text : List ℕ) (m : Module) (schema : Schema) (columns : List Column) → HasModule text m → HasProfile ticks m schema columns → IsSchema schema → length columns ≤ 32 → AllByRecursion IsKind (kinds_of columns) → IsDumpable m
dumpable_text ticks text m schema columns has face fine few kinds =
    let are : ports_of m ≡ map port_in (profile ticks schema columns) = ports_are ticks m schema columns has.valid.names face in
    record {
      named = module_named text m has;
      names = all_mapped (λ (n : List ℕ). is_named n ≡ true) (λ (p : Port). p.name) (ports_of m) (all_among (λ (p : Port). is_named p.name ≡ true) (take m.ports m.declarations) (ports_named text m has));
      apart = ports_apart (take m.ports m.declarations) (distinct_take m.ports m.declarations has.valid.names);
      widths = all_among (λ (p : Port). IsWidth p.width) (take m.ports m.declarations) (all_take (λ (d : Declaration). IsWidth d.width) m.ports m.declarations (all_weaker HasSize (λ (d : Declaration). IsWidth d.width) (λ d h. h.0) m.declarations has.valid.sizes));
      few = omega (arith, ap length are, length_map port_in (profile ticks schema columns), profile_many ticks schema columns fine few);
      shows = ap (λ (ps : List Port). show_none (signals_from 0 ps)) are ∙ profile_shows ticks schema columns few kinds;
    }

-- a dump can tell the module of a text that meets a statement
pub dumpable_where_met : AcceptedHaveRealColumns → OneModule → (schema : Schema) (statement : Statement) (latency : ℕ) (gaps : Gaps) (text : List ℕ) (m : Module) → IsSchema schema → Meets schema statement latency gaps text → HasModule text m → IsDumpable m
dumpable_where_met real_columns one_module schema statement latency gaps text m fine meets has =
    let real = real_columns schema (query_shape statement.query) fine meets.accepted in
    let columns = result_columns schema statement in
    let same : meets.design ≡ m = one_module text meets.design m meets.has has in
    subst IsDumpable same (dumpable_text _ text meets.design schema columns meets.has meets.face fine real.result.most (all_kinds columns real.kinds))

-- so of that of a compiled query
pub dumpable : AcceptedHaveRealColumns → OneModule → (c : Compiled) (m : Module) → IsRunnable c → HasModule c.text.items m → IsDumpable m
dumpable real_columns one_module c m is has = dumpable_where_met real_columns one_module c.schema c.statement c.printed.latency (printed_gaps c.printed) c.text.items m is.fine is.meets has
