-- The lines that the dump of a run shows are those of the run.
use Rattle.std.proofs.Common.{◌≡◌, ℕ, zero, suc, ◌+◌, Bool, true, false, cond, List, [], ◌∷◌, ◌++◌, map, take, Option, Some, None, refl, sym, ap, ◌∙◌, subst, add-one}
use Rattle.std.specs.Prelude.{bytes_eq, filter, ◌==◌, if◌then◌else◌}
use Rattle.std.specs.List.{AllByRecursion}
use Rattle.gl_values.specs.declared.kind.Kind.{Kind}
use Rattle.gl_values.specs.declared.kind.Kind.TheVariants.{Unsigned}
use Rattle.gl_schema.specs.declared.schema.Column.{Column}
use Rattle.gl_schema.specs.declared.schema.Schema.{Schema}
use Rattle.gl_schema.specs.Ports.{PortValues, out_valid, out_eos, fault_group, fault_queue}
use Rattle.gl_schema.specs.Profile.{In, Out, ProfilePort, clk, column_outputs, input_ports, output, output_ports, profile}
use Rattle.gl_schema.specs.Seen.{Shown, is_high, lines, row_shown, seen, shown, value_at}
use Rattle.gl_verilog.specs.Module.{Module, Declaration}
use Rattle.gl_verilog.specs.Valid.{AreDistinct}
use Rattle.gl_verilog_ports.specs.Profile.{HasProfile, declared, result_names, result_widths}
use Rattle.gl_verilog_ports.specs.Profile as face
use Rattle.gl_verilog_ports.proofs.Profiled.{inputs_in}
use Rattle.gl_vcd.specs.Dumped.{Port}
use Rattle.gl_vcd.specs.RoundTrip.{lines_over, signal_at, signals_from}
use Rattle.gl_vcd.specs.Signals.{Signal, columns_of, kind_of, seen_below, shows_column}
use Rattle.gl_vcd.specs.Written.{ports_of}
use Rattle.gl_compiler.proofs.Dumpable.{ports_are}
use Rattle.gl_compiler.proofs.ReadBack.{other_names, without_clock}
use Rattle.gl_compiler.proofs.Shows.{IsAside, inputs_aside, port_in}

-- ---- without the clock the same is seen

abbrev AreOther : List (List ℕ) → Type 0
AreOther names = AllByRecursion (λ n. bytes_eq clk n ≡ false) names

one_same : (port : PortValues) (t : ℕ) (name : List ℕ) → bytes_eq clk name ≡ false → value_at (without_clock port) t name ≡ value_at port t name
one_same port t name other = rw other refl

all_same : (port : PortValues) (t : ℕ) (names : List (List ℕ)) → AreOther names → map (value_at (without_clock port) t) names ≡ map (value_at port t) names
all_same port t [] h = refl
all_same port t (name ∷ names) h =
    ap (λ (v : ℕ). v ∷ map (value_at (without_clock port) t) names) (one_same port t name h.0) ∙ ap (λ (vs : List ℕ). value_at port t name ∷ vs) (all_same port t names h.1)

line_same : (port : PortValues) (t : ℕ) (name : List ℕ) → bytes_eq clk name ≡ false → is_high (without_clock port) t name ≡ is_high port t name
line_same port t name other = ap (λ (v : ℕ). v == 1) (one_same port t name other)

abbrev shown_of : ℕ → Option (List ℕ) → Bool → Bool → Bool → Shown
shown_of n row end' group queue = record { cycle = n; row = row; end = end'; group = group; queue = queue }

shown_same : (port : PortValues) (outs : List (List ℕ)) (n : ℕ) → AreOther outs → shown (without_clock port) outs n ≡ shown port outs n
unfolding shown clk out_valid out_eos fault_group fault_queue
shown_same port outs n h =
    let bare = without_clock port in
    let row : row_shown bare outs (suc n) ≡ row_shown port outs (suc n) =
    ap (λ (b : Bool). if b then Some (map (value_at bare (suc n)) outs) else None) (line_same port (suc n) out_valid refl)
    ∙ ap (λ (vs : List ℕ). if is_high port (suc n) out_valid then Some vs else None) (all_same port (suc n) outs h) in
    ap (λ (x : Option (List ℕ)). shown_of n x (is_high bare (suc n) out_eos) (is_high bare (suc n) fault_group) (is_high bare (suc n) fault_queue)) row
    ∙ ap (λ (x : Bool). shown_of n (row_shown port outs (suc n)) x (is_high bare (suc n) fault_group) (is_high bare (suc n) fault_queue)) (line_same port (suc n) out_eos refl)
    ∙ ap (λ (x : Bool). shown_of n (row_shown port outs (suc n)) (is_high port (suc n) out_eos) x (is_high bare (suc n) fault_queue)) (line_same port (suc n) fault_group refl)
    ∙ ap (λ (x : Bool). shown_of n (row_shown port outs (suc n)) (is_high port (suc n) out_eos) (is_high port (suc n) fault_group) x) (line_same port (suc n) fault_queue refl)

seen_same : (port : PortValues) (outs : List (List ℕ)) (n : ℕ) → AreOther outs → seen (without_clock port) outs n ≡ seen port outs n
seen_same port outs zero h = ap (λ (s : Shown). s ∷ []) (shown_same port outs 0 h)
seen_same port outs (suc n) h =
    ap (λ (all : List Shown). all ++ shown (without_clock port) outs (suc n) ∷ []) (seen_same port outs n h) ∙ ap (λ (s : Shown). seen port outs n ++ s ∷ []) (shown_same port outs (suc n) h)

-- ---- the columns of a dump are those of the result

abbrev signals : ℕ → List ProfilePort → List Signal
signals i ps = signals_from i (map port_in ps)

abbrev shown_names : List Signal → List (List ℕ)
shown_names all = map (λ s. s.name) (columns_of all)

abbrev shown_kinds : List Signal → List Kind
shown_kinds all = map kind_of (columns_of all)

abbrev result_in : List ProfilePort → List Declaration
result_in ps = filter face.shows_column (map declared ps)

-- signals show the same columns as the ports
record AreShown (i : ℕ) (ps : List ProfilePort) : Type 0 where
  names : shown_names (signals i ps) ≡ map (λ (d : Declaration). d.name) (result_in ps)
  kinds : shown_kinds (signals i ps) ≡ map Unsigned (map (λ (d : Declaration). d.width) (result_in ps))

outputs_shown : (ps : List ProfilePort) (i : ℕ) → AllByRecursion (λ (p : ProfilePort). p.direction ≡ Out) ps → AreShown i ps
outputs_shown [] i h = record { names = refl; kinds = refl }
outputs_shown (p ∷ ps) i h = by (shows_column (signal_at i (port_in p))) refl (outputs_shown ps (i + 1) h.1)
  where
    by : (b : Bool) → shows_column (signal_at i (port_in p)) ≡ b → AreShown (i + 1) ps → AreShown i (p ∷ ps)
    by true e rest = record {
      names = rw (h.0, e) (ap (λ (x : List (List ℕ)). p.name ∷ x) rest.names);
      kinds = rw (h.0, e) (ap (λ (x : List Kind). Unsigned p.width ∷ x) rest.kinds);
    }
    by false e rest = record { names = rw (h.0, e) rest.names; kinds = rw (h.0, e) rest.kinds }

inputs_shown : (ps : List ProfilePort) → ((j : ℕ) → AreShown j ps) → (front : List ProfilePort) (i : ℕ) → AllByRecursion IsAside front → AllByRecursion (λ (p : ProfilePort). p.direction ≡ In) front → AreShown i (front ++ ps)
inputs_shown ps k [] i h d = k i
inputs_shown ps k (p ∷ front) i h d =
    let rest = inputs_shown ps k front (i + 1) h.1 d.1 in
    record { names = rw (d.0, h.0.0) rest.names; kinds = rw (d.0, h.0.0) rest.kinds }

outputs_out : (cs : List Column) → AllByRecursion (λ (p : ProfilePort). p.direction ≡ Out) (column_outputs cs ++ output out_eos 1 ∷ output fault_group 1 ∷ output fault_queue 1 ∷ [])
outputs_out [] = (refl, (refl, (refl, tt)))
outputs_out (c ∷ cs) = (refl, outputs_out cs)

profile_shown : (ticks : Bool) (schema : Schema) (columns : List Column) → AreShown 0 (profile ticks schema columns)
profile_shown ticks schema columns =
    inputs_shown (output_ports columns) (λ j. outputs_shown (output_ports columns) j (refl, outputs_out columns)) (input_ports ticks schema) 0 (inputs_aside ticks schema) (inputs_in ticks schema)

others_shown : (ps : List Port) (i : ℕ) → AllByRecursion (λ (p : Port). bytes_eq clk p.name ≡ false) ps → AreOther (shown_names (signals_from i ps))
others_shown [] i h = tt
others_shown (p ∷ ps) i h = by (shows_column (signal_at i p)) (others_shown ps (i + 1) h.1)
  where
    by : (b : Bool) → AreOther (shown_names (signals_from (i + 1) ps)) → AreOther (map (λ (s : Signal). s.name) (cond b (signal_at i p ∷ columns_of (signals_from (i + 1) ps)) (columns_of (signals_from (i + 1) ps))))
    by true rest = (h.0, rest)
    by false rest = rest

module _ (ticks : Bool) (m : Module) (schema : Schema) (columns : List Column) (distinct : AreDistinct m.declarations)
    (has : HasProfile ticks m schema columns) where
  abbrev all : List Signal
  all = signals_from 0 (ports_of m)

  are : ports_of m ≡ map port_in (profile ticks schema columns)
  are = ports_are ticks m schema columns distinct has

  names_are : shown_names all ≡ result_names m
  names_are =
      ap (λ (ps : List Port). shown_names (signals_from 0 ps)) are ∙ (profile_shown ticks schema columns).names
      ∙ sym (ap (λ (ds : List Declaration). map (λ (d : Declaration). d.name) (filter face.shows_column ds)) has)

  kinds_are : shown_kinds all ≡ map Unsigned (result_widths m)
  kinds_are =
      ap (λ (ps : List Port). shown_kinds (signals_from 0 ps)) are ∙ (profile_shown ticks schema columns).kinds
      ∙ sym (ap (λ (ds : List Declaration). map Unsigned (map (λ (d : Declaration). d.width) (filter face.shows_column ds))) has)

  others : AreOther (result_names m)
  others = subst AreOther names_are (others_shown (ports_of m) 0 (other_names (take m.ports m.declarations)))

  -- the lines to a cycle
  pub lines_are : (port : PortValues) (n : ℕ) → lines_over (ports_of m) (without_clock port) (n + 1) ≡ lines (map Unsigned (result_widths m)) (seen port (result_names m) n)
  lines_are port n =
      ap (λ (kinds : List Kind). lines kinds (seen_below (without_clock port) (shown_names all) (n + 1))) kinds_are
      ∙ ap (λ (names : List (List ℕ)). lines (map Unsigned (result_widths m)) (seen_below (without_clock port) names (n + 1))) names_are
      ∙ ap (λ (k : ℕ). lines (map Unsigned (result_widths m)) (seen_below (without_clock port) (result_names m) k)) (add-one n)
      ∙ ap (lines (map Unsigned (result_widths m))) (seen_same port (result_names m) n others)
