-- A module whose ports are those of the profile, no two of one name: it fits the schema, and shows the columns of the result.
use Rattle.std.proofs.Common.{◌≡◌, ℕ, zero, suc, ◌≤◌, true, false, List, [], ◌∷◌, ◌++◌, length, map, take, Option, Some, None, inl, inr, refl, sym, ap, subst, ◌∙◌, arith, codes, append_assoc, Bool}
use Rattle.std.specs.Prelude.{bytes_eq, find, filter, option_map, slice_get, if◌then◌else◌}
use Rattle.std.specs.List.{AllByRecursion, IsDistinct}
use Rattle.std.specs.Option.{option_or}
use Rattle.std.proofs.lemmas.Bool.{cases_Bool}
use Rattle.std.proofs.lemmas.List.{append-nil, map-append}
use Rattle.std.proofs.lemmas.List.Folds.{find-append}
use Rattle.std.proofs.lemmas.Slice.Eq.{bytes_eq-Decides}
use Rattle.gl_bits.proofs.AllLists.{all_append, all_at, all_back, all_front, get_unmapped, length_map}
use Rattle.gl_bits.proofs.Bools.{bytes_same, bytes_turned}
use Rattle.gl_values.specs.declared.kind.Kind as bits
use Rattle.gl_values.specs.Kinds.{IsKind, width_of}
use Rattle.gl_schema.specs.declared.schema.Column.{Column}
use Rattle.gl_schema.specs.declared.schema.Stream.{Stream}
use Rattle.gl_schema.specs.declared.schema.Schema.{Schema}
use Rattle.gl_schema.specs.Schemas.{column_names, kinds_of}
use Rattle.gl_schema.proofs.InputNames.{first_byte, parameter_first, tick_differs}
use Rattle.gl_schema.specs.Ports.{rst, eos, tick, in_parameter, out_valid, out_column, out_eos, fault_group, fault_queue}
use Rattle.gl_schema.specs.Profile.{In, Out, ProfilePort, clk, column_inputs, column_outputs, input, input_ports, output, output_ports, port_names, profile, stream_inputs, streams_inputs, parameter_inputs, tick_input, last_inputs}
use Rattle.gl_verilog.specs.Module.{Module, Declaration, Input}
use Rattle.gl_verilog.specs.Text.{HasModule}
use Rattle.gl_verilog.specs.Valid.{AreDistinct, Differs}
use Rattle.gl_verilog.specs.Widths.{is_clock}
use Rattle.gl_verilog_ports.specs.Profile.{FitsSchema, HasClock, HasProfile, IsLine, declared, declared_kind, input_width, port_named, ports_of, result_names, result_ports, result_widths, shows_column}
use Rattle.gl_verilog_ports.proofs.Declared.{distinct_take, inputs_are_ports}

-- ---- no two ports have one name

differs_named : (x : ProfilePort) (ps : List ProfilePort) → Differs (declared x) (map declared ps) → AllByRecursion (λ n. bytes_eq x.name n ≡ false) (port_names ps)
differs_named x [] h = tt
differs_named x (p ∷ ps) h = (h.0, differs_named x ps h.1)

names_distinct : (ps : List ProfilePort) → AreDistinct (map declared ps) → IsDistinct bytes_eq (port_names ps)
unfolding IsDistinct
names_distinct [] h = tt
names_distinct (p ∷ ps) h = (differs_named p ps h.0, names_distinct ps h.1)

distinct_front : (xs ys : List (List ℕ)) → IsDistinct bytes_eq (xs ++ ys) → IsDistinct bytes_eq xs
unfolding IsDistinct
distinct_front [] ys h = tt
distinct_front (x ∷ xs) ys h = (all_front (λ n. bytes_eq x n ≡ false) xs ys h.0, distinct_front xs ys h.1)

distinct_back : (xs ys : List (List ℕ)) → IsDistinct bytes_eq (xs ++ ys) → IsDistinct bytes_eq ys
unfolding IsDistinct
distinct_back [] ys h = h
distinct_back (x ∷ xs) ys h = distinct_back xs ys h.1

-- each name of the front is another than the first one behind
others_front : (xs : List (List ℕ)) (y : List ℕ) (ys : List (List ℕ)) → IsDistinct bytes_eq (xs ++ y ∷ ys) → AllByRecursion (λ x. bytes_eq x y ≡ false) xs
unfolding IsDistinct
others_front [] y ys h = tt
others_front (x ∷ xs) y ys h = ((all_back (λ n. bytes_eq x n ≡ false) xs (y ∷ ys) h.0).0, others_front xs y ys h.1)

-- ---- a port by its name

name_at : (P : List ℕ → Type 0) (ps : List ProfilePort) (i : ℕ) (p : ProfilePort) → AllByRecursion P (port_names ps) → slice_get ps i ≡ Some p → P p.name
name_at P [] i p all h = absurd cc
name_at P (x ∷ ps) zero p all h = let same : x ≡ p = cc in subst (λ (y : ProfilePort). P y.name) same all.0
name_at P (x ∷ ps) (suc i) p all h = name_at P ps i p all.1 h

-- what stands for a port is found by the port's name
found_named : {A : Type 0} (called : A → List ℕ) (f : ProfilePort → A) → ((p : ProfilePort) → called (f p) ≡ p.name) → (ps : List ProfilePort) (i : ℕ) (p : ProfilePort) → IsDistinct bytes_eq (port_names ps) → slice_get ps i ≡ Some p → find (λ (a : A). bytes_eq (called a) p.name) (map f ps) ≡ Some (f p)
unfolding IsDistinct
found_named called f names [] i p distinct h = absurd cc
found_named {A} called f names (x ∷ ps) zero p distinct h =
    let same : x ≡ p = cc in
    let e : bytes_eq (called (f x)) p.name ≡ true = (bytes_eq-Decides (called (f x)) p.name).1 (names x ∙ ap (λ (y : ProfilePort). y.name) same) in
    rw e (ap (λ (y : ProfilePort). Some (f y)) same)
found_named {A} called f names (x ∷ ps) (suc i) p distinct h =
    let e : bytes_eq (called (f x)) p.name ≡ false = ap (λ (n : List ℕ). bytes_eq n p.name) (names x) ∙ name_at (λ n. bytes_eq x.name n ≡ false) ps i p distinct.0 h in
    rw e (found_named called f names ps i p distinct.1 h)

-- the port stands among these
record Stands (p : ProfilePort) (ps : List ProfilePort) : Type 0 where
  place : ℕ
  there : slice_get ps place ≡ Some p

stands_next : (p x : ProfilePort) (ps : List ProfilePort) → Stands p ps → Stands p (x ∷ ps)
stands_next p x ps h = record { place = suc h.place; there = h.there }

stands_behind : (p : ProfilePort) (xs ps : List ProfilePort) → Stands p ps → Stands p (xs ++ ps)
stands_behind p [] ps h = h
stands_behind p (x ∷ xs) ps h = stands_next p x (xs ++ ps) (stands_behind p xs ps h)

-- ---- which way ports go

abbrev IsIn : ProfilePort → Type 0
IsIn p = p.direction ≡ In

abbrev IsOut : ProfilePort → Type 0
IsOut p = p.direction ≡ Out

columns_in : (s : List ℕ) (cs : List Column) → AllByRecursion IsIn (column_inputs s cs)
columns_in s [] = tt
columns_in s (c ∷ cs) = (refl, columns_in s cs)

streams_in : (ss : List Stream) → AllByRecursion IsIn (streams_inputs ss)
streams_in [] = tt
streams_in (s ∷ ss) = all_append IsIn (stream_inputs s) (streams_inputs ss) (refl, columns_in s.name s.columns) (streams_in ss)

tick_in : (ticks : Bool) → AllByRecursion IsIn (tick_input ticks)
tick_in true = (refl, tt)
tick_in false = tt

parameters_in : (ps : List Column) → AllByRecursion IsIn (parameter_inputs ps)
parameters_in [] = tt
parameters_in (p ∷ ps) = (refl, parameters_in ps)

pub inputs_in : (ticks : Bool) (schema : Schema) → AllByRecursion (λ (p : ProfilePort). p.direction ≡ In) (input_ports ticks schema)
inputs_in ticks schema = (
  refl,
  all_append IsIn (streams_inputs schema.streams) (last_inputs ticks schema) (streams_in schema.streams)
      (refl, all_append IsIn (tick_input ticks) (parameter_inputs schema.parameters) (tick_in ticks) (parameters_in schema.parameters)),
)

abbrev tail : List ProfilePort
tail = output out_eos 1 ∷ output fault_group 1 ∷ output fault_queue 1 ∷ []

columns_out : (cs : List Column) → AllByRecursion IsOut (column_outputs cs ++ tail)
columns_out [] = (refl, (refl, (refl, tt)))
columns_out (c ∷ cs) = (refl, columns_out cs)

pub outputs_out : (cs : List Column) → AllByRecursion (λ (p : ProfilePort). p.direction ≡ Out) (output_ports cs)
outputs_out cs = (refl, columns_out cs)

out_differs : (p : ProfilePort) → IsOut p → declared_kind p.direction ≡ Input → ⊥
out_differs p o e = let z = ap declared_kind (sym o) ∙ e in absurd cc

-- an input among ports stands before the outputs
in_front : (xs ys : List ProfilePort) (i : ℕ) (p : ProfilePort) → AllByRecursion IsOut ys → slice_get (xs ++ ys) i ≡ Some p → declared_kind p.direction ≡ Input → slice_get xs i ≡ Some p
in_front [] ys i p all h e = absurd (out_differs p (all_at IsOut ys i p h all) e)
in_front (x ∷ xs) ys zero p all h e = h
in_front (x ∷ xs) ys (suc i) p all h e = in_front xs ys i p all h e

-- the inputs in front of the tick: the parameters alone stand behind it
abbrev early_inputs : Schema → List ProfilePort
early_inputs schema = input rst 1 ∷ (streams_inputs schema.streams ++ input eos 1 ∷ [])

without_tick : (schema : Schema) → input_ports false schema ≡ early_inputs schema ++ parameter_inputs schema.parameters
without_tick schema = ap (λ (ps : List ProfilePort). input rst 1 ∷ ps) (sym (append_assoc (streams_inputs schema.streams) (input eos 1 ∷ []) (parameter_inputs schema.parameters)))

with_tick : (schema : Schema) → input_ports true schema ≡ early_inputs schema ++ input tick 1 ∷ parameter_inputs schema.parameters
with_tick schema = ap (λ (ps : List ProfilePort). input rst 1 ∷ ps) (sym (append_assoc (streams_inputs schema.streams) (input eos 1 ∷ []) (input tick 1 ∷ parameter_inputs schema.parameters)))

-- what is found among parameters is called as one
found_first : (ps : List Column) (test : ProfilePort → Bool) (p : ProfilePort) → find test (parameter_inputs ps) ≡ Some p → first_byte p.name ≡ 115
found_first [] test p e = absurd cc
found_first (x ∷ ps) test p e = pick (test (input (in_parameter x.name) (width_of x.kind))) (found_first ps test p) e
  where
    pick : (b : Bool) → (find test (parameter_inputs ps) ≡ Some p → first_byte p.name ≡ 115)
        → (if b then Some (input (in_parameter x.name) (width_of x.kind)) else find test (parameter_inputs ps)) ≡ Some p → first_byte p.name ≡ 115
    pick true later h = let same : input (in_parameter x.name) (width_of x.kind) ≡ p = cc in ap (λ (q : ProfilePort). first_byte q.name) (sym same) ∙ parameter_first x.name
    pick false later h = later h

no_tick : (name : List ℕ) → first_byte name ≡ 115 → bytes_eq tick name ≡ false
no_tick name e = elim (cases_Bool (bytes_eq tick name)) [
  | inl t ↦ absurd (tick_differs.1 (ap first_byte (bytes_same tick name t) ∙ e))
  | inr f ↦ f
]

-- what is found by its name without the tick is found with it
find_asked : (ticks : Bool) (schema : Schema) (p : ProfilePort) → find (λ (q : ProfilePort). bytes_eq q.name p.name) (input_ports ticks schema) ≡ Some p
    → find (λ (q : ProfilePort). bytes_eq q.name p.name) (input_ports true schema) ≡ Some p
find_asked true schema p e = e
find_asked false schema p e =
    let test : ProfilePort → Bool = λ q. bytes_eq q.name p.name in
    let front = early_inputs schema in
    let parameters = parameter_inputs schema.parameters in
    let here : option_or (find test front) (find test parameters) ≡ Some p = sym (find-append test front parameters) ∙ ap (find test) (sym (without_tick schema)) ∙ e in
    ap (find test) (with_tick schema) ∙ find-append test front (input tick 1 ∷ parameters) ∙ pick (find test front) here
  where
    behind_tick : find (λ (q : ProfilePort). bytes_eq q.name p.name) (parameter_inputs schema.parameters) ≡ Some p → find (λ (q : ProfilePort). bytes_eq q.name p.name) (input tick 1 ∷ parameter_inputs schema.parameters) ≡ Some p
    behind_tick h = ap (λ (b : Bool). if b then Some (input tick 1) else find (λ (q : ProfilePort). bytes_eq q.name p.name) (parameter_inputs schema.parameters)) (no_tick p.name (found_first schema.parameters (λ q. bytes_eq q.name p.name) p h)) ∙ h

    pick : (o : Option ProfilePort) → option_or o (find (λ (q : ProfilePort). bytes_eq q.name p.name) (parameter_inputs schema.parameters)) ≡ Some p
        → option_or o (find (λ (q : ProfilePort). bytes_eq q.name p.name) (input tick 1 ∷ parameter_inputs schema.parameters)) ≡ Some p
    pick (Some x) h = h
    pick None h = behind_tick h

-- ---- which ports show columns

abbrev Hidden : List ProfilePort → Type 0
Hidden ps = AllByRecursion (λ (p : ProfilePort). shows_column (declared p) ≡ false) ps

abbrev Seen : List ProfilePort → Type 0
Seen ps = AllByRecursion (λ (p : ProfilePort). shows_column (declared p) ≡ true) ps

filter_hidden : (xs ys : List ProfilePort) → Hidden xs → filter shows_column (map declared (xs ++ ys)) ≡ filter shows_column (map declared ys)
filter_hidden [] ys h = refl
filter_hidden (x ∷ xs) ys h = rw h.0 (filter_hidden xs ys h.1)

filter_seen : (xs ys : List ProfilePort) → Seen xs → filter shows_column (map declared (xs ++ ys)) ≡ map declared xs ++ filter shows_column (map declared ys)
filter_seen [] ys h = refl
filter_seen (x ∷ xs) ys h = rw h.0 (ap (λ (t : List Declaration). declared x ∷ t) (filter_seen xs ys h.1))

in_hidden : (ps : List ProfilePort) → AllByRecursion IsIn ps → Hidden ps
in_hidden [] h = tt
in_hidden (p ∷ ps) h = (rw h.0 refl, in_hidden ps h.1)

valid_hidden : shows_column (declared (output out_valid 1)) ≡ false
unfolding out_valid out_eos
valid_hidden = refl

tail_hidden : Hidden tail
unfolding out_valid out_eos fault_group fault_queue
tail_hidden = (refl, (refl, (refl, tt)))

begins_out : (n : List ℕ) → bytes_eq (take 5 (out_column n)) (codes "out__") ≡ true
unfolding out_column
begins_out n = refl

columns_seen : (cs : List Column) → AllByRecursion (λ n. bytes_eq out_valid n ≡ false) (port_names (column_outputs cs)) → AllByRecursion (λ n. bytes_eq n out_eos ≡ false) (port_names (column_outputs cs)) → Seen (column_outputs cs)
columns_seen [] v e = tt
columns_seen (c ∷ cs) v e = (rw (begins_out c.name, bytes_turned out_valid (out_column c.name) v.0, e.0) refl, columns_seen cs v.1 e.1)

-- ---- the columns

names_of : (cs : List Column) → map (λ (d : Declaration). d.name) (map declared (column_outputs cs)) ≡ map out_column (column_names cs)
names_of [] = refl
names_of (c ∷ cs) = ap (λ (x : List (List ℕ)). out_column c.name ∷ x) (names_of cs)

widths_of : (cs : List Column) → map (λ (d : Declaration). d.width) (map declared (column_outputs cs)) ≡ map width_of (kinds_of cs)
widths_of [] = refl
widths_of (c ∷ cs) = ap (λ (x : List ℕ). width_of c.kind ∷ x) (widths_of cs)

kinds_narrow : (ks : List bits.Kind) → AllByRecursion IsKind ks → AllByRecursion (λ w. w ≤ 64) (map width_of ks)
kinds_narrow [] h = tt
kinds_narrow (k ∷ ks) h = (h.0.1, kinds_narrow ks h.1)

-- ---- the inputs of a schema, and outputs alone behind them

module _ (ticks : Bool) (m : Module) (schema : Schema) (outs : List ProfilePort) (out : AllByRecursion (λ (p : ProfilePort). p.direction ≡ Out) outs)
    (distinct : AreDistinct m.declarations) (face : ports_of m ≡ map declared (input clk 1 ∷ input_ports ticks schema ++ outs)) where
  abbrev behind : List ProfilePort
  behind = input_ports ticks schema ++ outs

  all_distinct : IsDistinct bytes_eq (port_names (input clk 1 ∷ behind))
  all_distinct = names_distinct (input clk 1 ∷ behind) (subst AreDistinct face (distinct_take m.ports m.declarations distinct))

  parts_named : IsDistinct bytes_eq (port_names (input_ports ticks schema) ++ port_names outs)
  unfolding IsDistinct
  parts_named = subst (λ (x : List (List ℕ)). IsDistinct bytes_eq x) (map-append (λ (p : ProfilePort). p.name) (input_ports ticks schema) outs) all_distinct.1

  asked_width : (i : ℕ) (p : ProfilePort) → slice_get (input_ports ticks schema) i ≡ Some p → input_width schema p.name ≡ Some p.width
  asked_width i p h =
      let own = distinct_front (port_names (input_ports ticks schema)) (port_names outs) parts_named in
      let is_named : ProfilePort → Bool = λ q. bytes_eq q.name p.name in
      let here : find is_named (input_ports ticks schema) ≡ Some p =
      ap (find is_named) (sym (map_same (input_ports ticks schema)))
      ∙ found_named {A = ProfilePort} (λ q. q.name) (λ q. q) (λ x. refl) (input_ports ticks schema) i p own h in
      ap (option_map (λ (q : ProfilePort). q.width)) (find_asked ticks schema p here)
    where
      map_same : (ps : List ProfilePort) → map (λ (q : ProfilePort). q) ps ≡ ps
      map_same [] = refl
      map_same (q ∷ ps) = ap (λ (x : List ProfilePort). q ∷ x) (map_same ps)

  input_fits : (n : ℕ) (d : Declaration) → slice_get (map declared (input clk 1 ∷ behind)) n ≡ Some d → d.kind ≡ Input → is_clock d ≡ false → input_width schema d.name ≡ Some d.width
  unfolding clk
  input_fits zero d h is other =
      let same : declared (input clk 1) ≡ d = cc in
      let z : true ≡ false = ap is_clock same ∙ other in
      absurd (let y : true ≡ false = z in cc)
  input_fits (suc i) d h is other =
      let p = get_unmapped declared behind i d h in
      let kind : declared_kind p.0.direction ≡ Input = ap (λ (x : Declaration). x.kind) p.2 ∙ is in
      let front = in_front (input_ports ticks schema) outs i p.0 out p.1 kind in
      subst (λ (x : Declaration). input_width schema x.name ≡ Some x.width) p.2 (asked_width i p.0 front)

  -- each input but the clock is the schema's
  pub inputs_asked : (n : ℕ) (d : Declaration) → slice_get (ports_of m) n ≡ Some d → d.kind ≡ Input → is_clock d ≡ false → input_width schema d.name ≡ Some d.width
  inputs_asked n d at is other = input_fits n d (ap (λ (ds : List Declaration). slice_get ds n) (sym face) ∙ at) is other

  -- and the clock is there
  pub clock_there : HasClock m
  unfolding clk
  clock_there = record { port = declared (input clk 1); there = ap (find (λ (d : Declaration). bytes_eq d.name clk)) face; input = refl; bit = refl }

-- ---- the module

module _ (ticks : Bool) (m : Module) (schema : Schema) (columns : List Column) (distinct : AreDistinct m.declarations)
    (face : HasProfile ticks m schema columns) where
  ports_named : IsDistinct bytes_eq (port_names (input clk 1 ∷ profile ticks schema columns))
  ports_named = all_distinct ticks m schema (output_ports columns) (outputs_out columns) distinct face

  outputs_named : IsDistinct bytes_eq (out_valid ∷ (port_names (column_outputs columns) ++ port_names tail))
  outputs_named =
      subst (λ (x : List (List ℕ)). IsDistinct bytes_eq (out_valid ∷ x)) (map-append (λ (p : ProfilePort). p.name) (column_outputs columns) tail)
      (distinct_back (port_names (input_ports ticks schema)) (port_names (output_ports columns)) (parts_named ticks m schema (output_ports columns) (outputs_out columns) distinct face))

  all_seen : Seen (column_outputs columns)
  unfolding IsDistinct
  all_seen =
      columns_seen columns (all_front (λ n. bytes_eq out_valid n ≡ false) (port_names (column_outputs columns)) (port_names tail) outputs_named.0)
      (others_front (port_names (column_outputs columns)) out_eos (fault_group ∷ fault_queue ∷ []) outputs_named.1)

  columns_shown : result_ports m ≡ map declared (column_outputs columns)
  columns_shown =
      let none : filter shows_column (map declared (tail ++ [])) ≡ [] = filter_hidden tail [] tail_hidden in
      ap (filter shows_column) face
      ∙ filter_hidden (input_ports ticks schema) (output_ports columns) (in_hidden (input_ports ticks schema) (inputs_in ticks schema))
      ∙ filter_hidden (output out_valid 1 ∷ []) (column_outputs columns ++ tail) (valid_hidden, tt)
      ∙ filter_seen (column_outputs columns) tail all_seen
      ∙ ap (λ (x : List Declaration). map declared (column_outputs columns) ++ x) none ∙ append-nil (map declared (column_outputs columns))

  pub names_shown : result_names m ≡ map out_column (column_names columns)
  names_shown = ap (map (λ (d : Declaration). d.name)) columns_shown ∙ names_of columns

  pub widths_shown : result_widths m ≡ map width_of (kinds_of columns)
  widths_shown = ap (map (λ (d : Declaration). d.width)) columns_shown ∙ widths_of columns

  count_is : length (result_ports m) ≡ length columns
  count_is = ap length columns_shown ∙ length_map declared (column_outputs columns) ∙ length_map (λ (c : Column). output (out_column c.name) (width_of c.kind)) columns

  -- a line of the result
  line_there : (name : List ℕ) → Stands (output name 1) (output_ports columns) → port_named m name ≡ Some (declared (output name 1))
  line_there name s =
      let all = stands_next (output name 1) (input clk 1) (profile ticks schema columns) (stands_behind (output name 1) (input_ports ticks schema) (output_ports columns) s) in
      ap (find (λ (d : Declaration). bytes_eq d.name name)) face
      ∙ found_named {A = Declaration} (λ d. d.name) declared (λ x. refl) (input clk 1 ∷ profile ticks schema columns) all.place (output name 1) ports_named all.there

  tail_stands : (p : ProfilePort) → Stands p tail → Stands p (output_ports columns)
  tail_stands p s = stands_next p (output out_valid 1) (column_outputs columns ++ tail) (stands_behind p (column_outputs columns) tail s)

  line_is : (name : List ℕ) → IsLine (declared (output name 1))
  line_is name = record { output = refl; bit = refl }

  -- the schema is fitted by the module of a text, where the columns are as few and as narrow as those of a result
  pub fits : (text : List ℕ) → HasModule text m → length columns ≤ 32 → AllByRecursion IsKind (kinds_of columns) → FitsSchema m schema
  fits text has few kinds = record {
    clock = clock_there ticks m schema (output_ports columns) (outputs_out columns) distinct face;
    inputs = λ n d at is other. inputs_asked ticks m schema (output_ports columns) (outputs_out columns) distinct face n d (inputs_are_ports text m has n d at (rw is refl)) is other;
    valid = record { port = declared (output out_valid 1); there = line_there out_valid (record { place = 0; there = refl }); line = line_is out_valid };
    end = record { port = declared (output out_eos 1); there = line_there out_eos (tail_stands (output out_eos 1) (record { place = 0; there = refl })); line = line_is out_eos };
    group = rw (line_there fault_group (tail_stands (output fault_group 1) (record { place = 1; there = refl }))) (line_is fault_group);
    queue = rw (line_there fault_queue (tail_stands (output fault_queue 1) (record { place = 2; there = refl }))) (line_is fault_queue);
    many = omega (arith, count_is, few);
    narrow = subst (AllByRecursion (λ w. w ≤ 64)) (sym widths_shown) (kinds_narrow (kinds_of columns) kinds);
  }
