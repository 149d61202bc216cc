-- The dump of a run of a module that a dump can tell is read back as a dump of that run.
use Rattle.std.proofs.Common.{◌≡◌, ℕ, zero, suc, ◌+◌, ◌<◌, ◌≤◌, ◌^◌, Bool, true, false, List, [], ◌∷◌, length, map, take, Option, Some, None, refl, sym, ap, ◌∙◌, subst, arith, inl, inr}
use Rattle.std.specs.Prelude.{bytes_eq, is_some, option_map, slice_get, unwrap_or, if◌then◌else◌, ◌||◌}
use Rattle.std.specs.List.{AllByRecursion, list_any}
use Rattle.std.proofs.lemmas.Bool.{cases_lt}
use Rattle.std.proofs.lemmas.List.{length_push}
use Rattle.gl_bits.proofs.AllLists.{all_append, all_at, all_by_place, all_of_mapped, get_below, get_front, get_last}
use Rattle.gl_bits.proofs.Bools.{bytes_same, bytes_turned, neither, not_both}
use Rattle.gl_bits.specs.Limits.{latest_time}
use Rattle.gl_bits.specs.Words.{IsWidth, IsWord, Word, widths_of}
use Rattle.gl_schema.specs.Ports.{PortValues}
use Rattle.gl_schema.specs.Profile.{clk}
use Rattle.gl_schema.specs.Seen.{value_at}
use Rattle.gl_verilog.specs.Module.{Module, Declaration, Nets, Memories, number_of}
use Rattle.gl_verilog.specs.Run.{Fit, port_of}
use Rattle.gl_verilog.specs.Text.{HasModule}
use Rattle.gl_verilog.specs.Valid.{AreDistinct}
use Rattle.gl_verilog.proofs.Distinct.{number_at}
use Rattle.gl_verilog.specs.Events.{IsEventRun}
use Rattle.gl_verilog.proofs.EventRuns.{is_run}
use Rattle.gl_verilog_ports.proofs.Declared.{distinct_take, get_take}
use Rattle.gl_vcd.specs.Dumped.{IsDumped, Port}
use Rattle.gl_vcd.specs.Dumped as dumped
use Rattle.gl_vcd.specs.RoundTrip.{CanDump, DumpsReadBack, IsRow, IsRunOver, ReadsBack, value_named}
use Rattle.gl_vcd.specs.Signals.{Signal}
use Rattle.gl_vcd.specs.Written.{dump_text, port_declared, ports_among, ports_of}
use Rattle.gl_runner.specs.Watches.{row_in, rows_to}
use Rattle.gl_compiler.specs.Dumpable.{IsDumpable}
use Rattle.gl_compiler.proofs.Dumpable.{all_among}

-- ---- the rows of a run

rows_many : (ports : List Port) (port : PortValues) (n : ℕ) → length (rows_to ports port n) ≡ n + 1
rows_many ports port zero = refl
rows_many ports port (suc n) = omega (arith, length_push (rows_to ports port n) (row_in ports port (suc n)), rows_many ports port n)

row_there : (ports : List Port) (port : PortValues) (n k : ℕ) → k ≤ n → slice_get (rows_to ports port n) k ≡ Some (row_in ports port k)
row_there ports port zero k h =
    let none : k ≡ 0 = omega (arith, h) in
    ap (λ (i : ℕ). slice_get (rows_to ports port 0) i) none ∙ ap (λ (i : ℕ). Some (row_in ports port i)) (sym none)
row_there ports port (suc n) k h = elim (cases_lt k (suc n)) [
  | inl below ↦ get_front (rows_to ports port n) (row_in ports port (suc n) ∷ []) k (row_in ports port k) (row_there ports port n k (omega (arith, below)))
  | inr last ↦
      (let at : k ≡ suc n = omega (arith, h, last) in
      let size : length (rows_to ports port n) ≡ k = omega (arith, rows_many ports port n, at) in
      ap (λ (i : ℕ). slice_get (rows_to ports port (suc n)) i) (sym size) ∙ get_last (rows_to ports port n) (row_in ports port (suc n)) ∙ ap (λ (i : ℕ). Some (row_in ports port i)) (sym at))
]

-- ---- a port's value by its name, the clock aside

abbrev pub without_clock : PortValues → PortValues
without_clock port t name = if bytes_eq clk name then None else port t name

abbrev is_of : List ℕ → Port → Bool
is_of name p = bytes_eq p.name name

named_value : (ps : List Port) (port : PortValues) (n : ℕ) (name : List ℕ) → value_named ps (row_in ps port n) name ≡ (if list_any (is_of name) ps then Some (value_at port (suc n) name) else None)
named_value [] port n name = refl
named_value (p ∷ ps) port n name = by (bytes_eq p.name name) refl (named_value ps port n name)
  where
    by : (b : Bool) → bytes_eq p.name name ≡ b → value_named ps (row_in ps port n) name ≡ (if list_any (is_of name) ps then Some (value_at port (suc n) name) else None)
        → (if b then Some (value_at port (suc n) p.name) else value_named ps (row_in ps port n) name) ≡ (if b || list_any (is_of name) ps then Some (value_at port (suc n) name) else None)
    by true e rest = ap (λ (x : List ℕ). Some (value_at port (suc n) x)) (bytes_same p.name name e)
    by false e rest = rest

some_map : (f : ℕ → ℕ) (o : Option ℕ) → is_some (option_map f o) ≡ is_some o
some_map f None = refl
some_map f (Some x) = refl

number_there : (ds : List Declaration) (name : List ℕ) → bytes_eq clk name ≡ false → list_any (is_of name) (ports_among ds) ≡ is_some (number_of ds name)
number_there [] name other = refl
number_there (d ∷ ds) name other = by (bytes_eq d.name clk) (bytes_eq d.name name) refl refl (number_there ds name other)
  where
    by : (b c : Bool) → bytes_eq d.name clk ≡ b → bytes_eq d.name name ≡ c → list_any (is_of name) (ports_among ds) ≡ is_some (number_of ds name)
        → list_any (is_of name) (if b then ports_among ds else port_declared d ∷ ports_among ds) ≡ is_some (if c then Some 0 else option_map (λ n. n + 1) (number_of ds name))
    by true true eb ec rest = absurd (not_both (bytes_eq d.name name) ec (ap (λ (x : List ℕ). bytes_eq x name) (bytes_same d.name clk eb) ∙ other))
    by true false eb ec rest = rest ∙ sym (some_map (λ n. n + 1) (number_of ds name))
    by false true eb ec rest = rw ec refl
    by false false eb ec rest = rw ec (rest ∙ sym (some_map (λ n. n + 1) (number_of ds name)))

pub other_names : (ds : List Declaration) → AllByRecursion (λ (p : Port). bytes_eq clk p.name ≡ false) (ports_among ds)
other_names [] = tt
other_names (d ∷ ds) = by (bytes_eq d.name clk) refl (other_names ds)
  where
    by : (b : Bool) → bytes_eq d.name clk ≡ b → AllByRecursion (λ (p : Port). bytes_eq clk p.name ≡ false) (ports_among ds) → AllByRecursion (λ (p : Port). bytes_eq clk p.name ≡ false) (if b then ports_among ds else port_declared d ∷ ports_among ds)
    by true e rest = rest
    by false e rest = (bytes_turned d.name clk e, rest)

no_clock : (ps : List Port) → AllByRecursion (λ (p : Port). bytes_eq clk p.name ≡ false) ps → list_any (is_of clk) ps ≡ false
no_clock [] h = refl
no_clock (p ∷ ps) h = neither (bytes_eq p.name clk) (list_any (is_of clk) ps) (bytes_turned clk p.name h.0) (no_clock ps h.1)

filled : (f : ℕ → ℕ) (o : Option ℕ) → option_map f o ≡ (if is_some o then Some (unwrap_or (option_map f o) 0) else None)
filled f None = refl
filled f (Some x) = refl

module _ (m : Module) (value : ℕ → Nets) where
  abbrev ports : List Port
  ports = ports_of m

  abbrev port : PortValues
  port = port_of m value

  value_there : (n : ℕ) (name : List ℕ) → bytes_eq clk name ≡ false → port (suc n) name ≡ value_named ports (row_in ports port n) name
  value_there n name other =
      let o = number_of (take m.ports m.declarations) name in
      filled (value (suc n)) o
      ∙ ap (λ (b : Bool). if b then Some (value_at port (suc n) name) else None) (sym (number_there (take m.ports m.declarations) name other))
      ∙ sym (named_value ports port n name)

  clock_none : (n : ℕ) (name : List ℕ) → bytes_eq clk name ≡ true → None ≡ value_named ports (row_in ports port n) name
  clock_none n name is =
      let none : list_any (is_of name) ports ≡ false = subst (λ (x : List ℕ). list_any (is_of x) ports ≡ false) (bytes_same clk name is) (no_clock ports (other_names (take m.ports m.declarations))) in
      ap (λ (b : Bool). if b then Some (value_at port (suc n) name) else None) (sym none) ∙ sym (named_value ports port n name)

  run_value : (n : ℕ) (name : List ℕ) → without_clock port (suc n) name ≡ value_named ports (row_in ports port n) name
  run_value n name = by (bytes_eq clk name) refl
    where
      by : (b : Bool) → bytes_eq clk name ≡ b → (if b then None else port (suc n) name) ≡ value_named ports (row_in ports port n) name
      by true e = clock_none n name e
      by false e = value_there n name e

  run_over : (n : ℕ) → IsRunOver ports (rows_to ports port n) (without_clock port)
  run_over n = λ k row at name.
      let below : k ≤ n = omega (arith, get_below (rows_to ports port n) k row at, rows_many ports port n) in
      let same : row ≡ row_in ports port k = (let there = row_there ports port n k below in cc) in
      run_value k name ∙ ap (λ (r : List Word). value_named ports r name) (sym same)

  -- ---- the rows

  row_widths : (ps : List Port) (n : ℕ) → widths_of (row_in ps port n) ≡ map (λ (p : Port). p.width) ps
  row_widths [] n = refl
  row_widths (p ∷ ps) n = ap (λ (ws : List ℕ). p.width ∷ ws) (row_widths ps n)

  abbrev IsFit : ℕ → Port → Type 0
  IsFit n p = value_at port (suc n) p.name < 2 ^ p.width

  row_words : (ps : List Port) (n : ℕ) → AllByRecursion (λ (p : Port). IsWidth p.width) ps → AllByRecursion (IsFit n) ps → AllByRecursion IsWord (row_in ps port n)
  row_words [] n w h = tt
  row_words (p ∷ ps) n w h = (record { width = w.0; fits = h.0 }, row_words ps n w.1 h.1)

  ports_fit : (word : ℕ → Memories) → AreDistinct m.declarations → ((t : ℕ) → Fit m.declarations (value t) (word t)) → (n : ℕ) → AllByRecursion (IsFit n) ports
  ports_fit word distinct fits n =
      let ds = take m.ports m.declarations in
      all_among (IsFit n) ds (all_by_place (λ (d : Declaration). IsFit n (port_declared d)) ds (λ i d at.
      let found : number_of ds d.name ≡ Some i = number_at ds i d (distinct_take m.ports m.declarations distinct) at in
      let is : value_at port (suc n) d.name ≡ value (suc n) i = ap (λ (o : Option ℕ). unwrap_or (option_map (value (suc n)) o) 0) found in
      subst (λ (x : ℕ). x < 2 ^ d.width) (sym is) (fits (suc n) i d (get_take m.ports m.declarations i d at)).0))

  all_rows : ((n : ℕ) → IsRow ports (row_in ports port n)) → (n : ℕ) → AllByRecursion (IsRow ports) (rows_to ports port n)
  all_rows each zero = (each 0, tt)
  all_rows each (suc n) = all_append (IsRow ports) (rows_to ports port n) (row_in ports port (suc n) ∷ []) (all_rows each n) (each (suc n), tt)

  can_dump : (word : ℕ → Memories) → IsDumpable m → AreDistinct m.declarations → ((t : ℕ) → Fit m.declarations (value t) (word t)) → (n : ℕ) → n + 1 ≤ latest_time → CanDump m.name ports (rows_to ports port n)
  can_dump word is distinct fits n short = record {
    named = is.named;
    names = is.names;
    apart = is.apart;
    widths = is.widths;
    few = is.few;
    shows = is.shows;
    rows' = all_rows (λ k. record { widths = row_widths ports k; words = row_words ports k is.widths (ports_fit word distinct fits k) }) n;
    some' = omega (arith, rows_many ports port n);
    short = omega (arith, rows_many ports port n, short);
  }

  pub read_rows : DumpsReadBack → (word : ℕ → Memories) → IsDumpable m → AreDistinct m.declarations → ((t : ℕ) → Fit m.declarations (value t) (word t)) → (n : ℕ) → n + 1 ≤ latest_time → ReadsBack (dump_text m.name ports (rows_to ports port n)) ports (n + 1) (without_clock port)
  read_rows reads_back word is distinct fits n short =
      subst (λ (k : ℕ). ReadsBack (dump_text m.name ports (rows_to ports port n)) ports k (without_clock port)) (rows_many ports port n)
      (reads_back m.name ports (rows_to ports port n) (without_clock port) (can_dump word is distinct fits n short) (run_over n))

  -- ---- the clock is no port of the dump

  pub with_clock : (text : List ℕ) (cycles : ℕ) → IsDumped text ports cycles (without_clock port) → IsDumped text ports cycles port
  with_clock text cycles d =
      let others = all_of_mapped (λ (p : Port). bytes_eq clk p.name ≡ false) dumped.port_of d.dump.signals (subst (AllByRecursion (λ (p : Port). bytes_eq clk p.name ≡ false)) (sym d.declares) (other_names (take m.ports m.declarations))) in
      record {
        dump = d.dump;
        reads = d.reads;
        declares = d.declares;
        lasts = d.lasts;
        values = λ n i s below at.
            let other : bytes_eq clk s.name ≡ false = all_at (λ (x : Signal). bytes_eq clk x.name ≡ false) d.dump.signals i s at others in
            let same : port (suc n) s.name ≡ without_clock port (suc n) s.name = rw other refl in
            same ∙ d.values n i s below at;
      }

  -- the dump of a run to a cycle is a dump of that run
  pub read_back : DumpsReadBack → (text : List ℕ) (word : ℕ → Memories) → HasModule text m → IsDumpable m → IsEventRun m value word → (n : ℕ) → n + 1 ≤ latest_time
      → IsDumped (dump_text m.name ports (rows_to ports port n)) ports (n + 1) port
  read_back reads_back text word has is run n short =
      with_clock (dump_text m.name ports (rows_to ports port n)) (n + 1) (read_rows reads_back word is has.valid.names (is_run m has.valid value word run).fits n short).dumped
