-- What the signals of a profile show: the lines of the result and its columns, at most 32 of at most 64 bits.
use Rattle.std.proofs.Common.{◌≡◌, ℕ, suc, ◌+◌, ◌≤◌, Bool, true, false, cond, List, [], ◌∷◌, ◌++◌, length, map, refl, arith, le-leb, le-ltb}
use Rattle.std.specs.Prelude.{◌&&◌, ◌==◌, bytes_eq, nat_le, nat_lt}
use Rattle.std.specs.List.{AllByRecursion, list_any}
use Rattle.gl_bits.proofs.AllLists.{all_append}
use Rattle.gl_bits.proofs.Bools.{bytes_own, neither, or_right}
use Rattle.gl_values.specs.Kinds.{IsKind, width_of}
use Rattle.gl_schema.specs.declared.schema.Column.{Column}
use Rattle.gl_schema.specs.declared.schema.Stream.{Stream}
use Rattle.gl_schema.specs.declared.schema.Schema.{Schema}
use Rattle.gl_schema.specs.Schemas.{kinds_of}
use Rattle.gl_schema.specs.Ports.{rst, eos, tick, in_valid, in_column, in_parameter, out_valid, out_column, out_eos, fault_group, fault_queue}
use Rattle.gl_schema.specs.Profile.{ProfilePort, column_inputs, column_outputs, input, input_ports, last_inputs, output, output_ports, parameter_inputs, profile, stream_inputs, streams_inputs, tick_input}
use Rattle.gl_vcd.specs.Dumped.{Port}
use Rattle.gl_vcd.specs.RoundTrip.{signal_at, signals_from}
use Rattle.gl_vcd.specs.Signals.{Signal, are_columns, columns_of, has_line, has_wide, show_none, shows_column}

-- a port of the profile as one of a dump
abbrev pub port_in : ProfilePort → Port
port_in p = record { name = p.name; width = p.width }

abbrev signals : ℕ → List ProfilePort → List Signal
signals i ps = signals_from i (map port_in ps)

-- ---- lines

line_here : (name : List ℕ) (ps : List ProfilePort) (i : ℕ) → has_line (signals i (output name 1 ∷ ps)) name ≡ true
line_here name ps i = rw (bytes_own name) refl

line_behind : (name : List ℕ) (ps : List ProfilePort) → ((j : ℕ) → has_line (signals j ps) name ≡ true) → (front : List ProfilePort) (i : ℕ) → has_line (signals i (front ++ ps)) name ≡ true
line_behind name ps h [] i = h i
line_behind name ps h (x ∷ front) i = or_right (bytes_eq x.name name && (x.width == 1)) (has_line (signals (i + 1) (front ++ ps)) name) (line_behind name ps h front (i + 1))

-- ---- ports that are no column, and no fault of more bits

abbrev pub IsHidden : ProfilePort → Type 0
IsHidden p = shows_column (signal_at 0 (port_in p)) ≡ false

abbrev pub IsNarrow : ProfilePort → Type 0
IsNarrow p = (bytes_eq p.name fault_group && nat_lt 1 p.width) ≡ false

abbrev pub IsAside : ProfilePort → Type 0
IsAside p = IsHidden p × IsNarrow p

valid_aside : (s : List ℕ) → IsAside (input (in_valid s) 1)
unfolding in_valid fault_group out_valid out_eos
valid_aside s = (refl, refl)

column_aside : (s c : List ℕ) (width : ℕ) → IsAside (input (in_column s c) width)
unfolding in_column fault_group out_valid out_eos
column_aside s c width = (refl, refl)

columns_aside : (s : List ℕ) (cs : List Column) → AllByRecursion IsAside (column_inputs s cs)
columns_aside s [] = tt
columns_aside s (c ∷ cs) = (column_aside s c.name (width_of c.kind), columns_aside s cs)

streams_aside : (ss : List Stream) → AllByRecursion IsAside (streams_inputs ss)
streams_aside [] = tt
streams_aside (s ∷ ss) = all_append IsAside (stream_inputs s) (streams_inputs ss) (valid_aside s.name, columns_aside s.name s.columns) (streams_aside ss)

rst_aside : IsAside (input rst 1)
unfolding rst fault_group out_valid out_eos
rst_aside = (refl, refl)

eos_aside : IsAside (input eos 1)
unfolding eos fault_group out_valid out_eos
eos_aside = (refl, refl)

tick_aside : (ticks : Bool) → AllByRecursion IsAside (tick_input ticks)
unfolding tick fault_group out_valid out_eos
tick_aside true = ((refl, refl), tt)
tick_aside false = tt

parameter_aside : (p : List ℕ) (width : ℕ) → IsAside (input (in_parameter p) width)
unfolding in_parameter fault_group out_valid out_eos
parameter_aside p width = (refl, refl)

parameters_aside : (ps : List Column) → AllByRecursion IsAside (parameter_inputs ps)
parameters_aside [] = tt
parameters_aside (p ∷ ps) = (parameter_aside p.name (width_of p.kind), parameters_aside ps)

last_aside : (ticks : Bool) (schema : Schema) → AllByRecursion IsAside (last_inputs ticks schema)
last_aside ticks schema =
    (eos_aside, all_append IsAside (tick_input ticks) (parameter_inputs schema.parameters) (tick_aside ticks) (parameters_aside schema.parameters))

pub inputs_aside : (ticks : Bool) (schema : Schema) → AllByRecursion IsAside (input_ports ticks schema)
inputs_aside ticks schema =
    (rst_aside, all_append IsAside (streams_inputs schema.streams) (last_inputs ticks schema) (streams_aside schema.streams) (last_aside ticks schema))

valid_out : IsAside (output out_valid 1)
unfolding fault_group out_valid out_eos
valid_out = (refl, refl)

abbrev tail : List ProfilePort
tail = output out_eos 1 ∷ output fault_group 1 ∷ output fault_queue 1 ∷ []

tail_aside : AllByRecursion IsAside tail
unfolding fault_group fault_queue out_valid out_eos
tail_aside = ((refl, refl), ((refl, refl), ((refl, refl), tt)))

-- ---- no fault line has more bits

column_narrow : (c : List ℕ) (width : ℕ) → IsNarrow (output (out_column c) width)
unfolding out_column fault_group
column_narrow c width = refl

none_wide : (ps : List ProfilePort) → ((j : ℕ) → has_wide (signals j ps) fault_group ≡ false) → (front : List ProfilePort) (i : ℕ) → AllByRecursion IsAside front → has_wide (signals i (front ++ ps)) fault_group ≡ false
none_wide ps k [] i h = k i
none_wide ps k (x ∷ front) i h = neither (bytes_eq x.name fault_group && nat_lt 1 x.width) (has_wide (signals (i + 1) (front ++ ps)) fault_group) h.0.1 (none_wide ps k front (i + 1) h.1)

nothing_wide : (j : ℕ) → has_wide (signals j []) fault_group ≡ false
nothing_wide j = refl

outputs_wide : (cs : List Column) (i : ℕ) → has_wide (signals i (column_outputs cs ++ tail)) fault_group ≡ false
outputs_wide [] i = none_wide [] nothing_wide tail i tail_aside
outputs_wide (c ∷ cs) i =
    neither (bytes_eq (out_column c.name) fault_group && nat_lt 1 (width_of c.kind)) (has_wide (signals (i + 1) (column_outputs cs ++ tail)) fault_group) (column_narrow c.name (width_of c.kind)) (outputs_wide cs (i + 1))

-- ---- the columns

-- signals that show at most so many columns, none of more than 64 bits
record AreFew (n : ℕ) (all : List Signal) : Type 0 where
  few : length (columns_of all) ≤ n
  narrow : list_any (λ (s : Signal). nat_lt 64 s.width) (columns_of all) ≡ false

few_behind : (n : ℕ) (ps : List ProfilePort) → ((j : ℕ) → AreFew n (signals j ps)) → (front : List ProfilePort) (i : ℕ) → AllByRecursion IsAside front → AreFew n (signals i (front ++ ps))
few_behind n ps k [] i h = k i
few_behind n ps k (x ∷ front) i h =
    let rest = few_behind n ps k front (i + 1) h.1 in
    record { few = rw h.0.0 rest.few; narrow = rw h.0.0 rest.narrow }

none_few : (j : ℕ) → AreFew 0 (signals j [])
none_few j = record { few = omega arith; narrow = refl }

one_few : (b : Bool) (s : Signal) (n : ℕ) (rest : List Signal) → nat_lt 64 s.width ≡ false → length rest ≤ n → list_any (λ (x : Signal). nat_lt 64 x.width) rest ≡ false
    → (length (cond b (s ∷ rest) rest) ≤ suc n) × (list_any (λ (x : Signal). nat_lt 64 x.width) (cond b (s ∷ rest) rest) ≡ false)
one_few true s n rest w few narrow = (omega (arith, few), neither (nat_lt 64 s.width) (list_any (λ (x : Signal). nat_lt 64 x.width) rest) w narrow)
one_few false s n rest w few narrow = (omega (arith, few), narrow)

outputs_few : (cs : List Column) (i : ℕ) → AllByRecursion IsKind (kinds_of cs) → AreFew (length cs) (signals i (column_outputs cs ++ tail))
outputs_few [] i h = few_behind 0 [] none_few tail i tail_aside
outputs_few (c ∷ cs) i h =
    let rest = outputs_few cs (i + 1) h.1 in
    let here : Signal = signal_at i (port_in (output (out_column c.name) (width_of c.kind))) in
    let both = one_few (shows_column here) here (length cs) (columns_of (signals (i + 1) (column_outputs cs ++ tail))) (le-ltb 64 (width_of c.kind) h.0.1) rest.few rest.narrow in
    record { few = both.0; narrow = both.1 }

-- the profile shows a result
pub profile_shows : (ticks : Bool) (schema : Schema) (columns : List Column) → length columns ≤ 32 → AllByRecursion IsKind (kinds_of columns) → show_none (signals_from 0 (map port_in (profile ticks schema columns))) ≡ false
unfolding show_none
profile_shows ticks schema columns few kinds =
    let all = signals 0 (profile ticks schema columns) in
    let valid : has_line all out_valid ≡ true = line_behind out_valid (output_ports columns) (λ j. line_here out_valid (column_outputs columns ++ tail) j) (input_ports ticks schema) 0 in
    let end : has_line all out_eos ≡ true =
    line_behind out_eos (output_ports columns)
    (λ j. or_right (bytes_eq out_valid out_eos && true) (has_line (signals (j + 1) (column_outputs columns ++ tail)) out_eos) (line_behind out_eos tail (λ k. line_here out_eos (output fault_group 1 ∷ output fault_queue 1 ∷ []) k) (column_outputs columns) (j + 1)))
    (input_ports ticks schema) 0 in
    let wide : has_wide all fault_group ≡ false =
    none_wide (output_ports columns) (λ j. none_wide (column_outputs columns ++ tail) (outputs_wide columns) (output out_valid 1 ∷ []) j (valid_out, tt)) (input_ports ticks schema) 0 (inputs_aside ticks schema) in
    let fine : AreFew (length columns) all =
    few_behind (length columns) (output_ports columns)
    (λ j. few_behind (length columns) (column_outputs columns ++ tail) (λ k. outputs_few columns k kinds) (output out_valid 1 ∷ []) j (valid_out, tt)) (input_ports ticks schema) 0 (inputs_aside ticks schema) in
    let many : nat_le (length (columns_of all)) 32 ≡ true = le-leb (length (columns_of all)) 32 (omega (arith, fine.few, few)) in
    let shown : are_columns all ≡ true = rw (many, fine.narrow) refl in
    rw (valid, end, wide, shown) refl
