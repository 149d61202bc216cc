-- What the input ports of a module carry: that which the schema's ports of their names carry.
use Rattle.std.proofs.Common.{◌≡◌, ℕ, zero, suc, ◌+◌, ◌^◌, ◌<◌, ◌⊎◌, inl, inr, Bool, true, false, List, [], ◌∷◌, ◌++◌, drop, Option, Some, refl, sym, ap, ◌∙◌, subst, append_assoc, add-one}
use Rattle.std.specs.Prelude.{slice_index, unwrap_or, is_some, bytes_eq, find, if◌then◌else◌}
use Rattle.std.specs.Option.{option_map}
use Rattle.std.specs.List.{AllByRecursion, AllZip}
use Rattle.gl_bits.proofs.Bools.{bytes_same}
use Rattle.gl_values.specs.Kinds.{width_of}
use Rattle.gl_bits.specs.Words.{bit}
use Rattle.gl_schema.specs.declared.schema.Column.{Column}
use Rattle.gl_schema.specs.declared.schema.Stream.{Stream}
use Rattle.gl_schema.specs.declared.schema.Schema.{Schema}
use Rattle.gl_schema.specs.Ports.{rst, eos, tick, in_valid, in_column, in_parameter, Pin, pin, column_pins, stream_pins, streams_pins, parameter_pins}
use Rattle.gl_testbench.specs.declared.pins.Pin.{Pin as Carried}
use Rattle.gl_testbench.specs.declared.pins.Pin.TheVariants as is
use Rattle.gl_testbench.specs.Carried.{first_known, column_pin, stream_pin, parameter_pin, pin_named, row_among, carried}
use Rattle.gl_schema.specs.Profile.{ProfilePort, input, column_inputs, streams_inputs, parameter_inputs, input_ports}
use Rattle.gl_verilog_ports.specs.Profile.{input_width}

-- ---- the search for a name, and the values at the same places

-- a fact of the bits, the name and the value of a port
abbrev pub Fact : Type 1
Fact = ℕ → List ℕ → ℕ → Type 0

abbrev pub OfBoth : Fact → ProfilePort → Pin → Type 0
OfBoth R i p = R i.width p.name p.value

abbrev width_in : List ℕ → List ProfilePort → Option ℕ
width_in name ips = option_map (λ (p : ProfilePort). p.width) (find (λ (p : ProfilePort). bytes_eq p.name name) ips)

abbrev IsKnown : Carried → Type 0
IsKnown q = (other : Carried) → first_known q other ≡ q

-- the port is found, or the search goes on behind a front
abbrev Finds : Fact → List ℕ → ℕ → ℕ → Carried → List ProfilePort → List Pin → Type 0
Finds R name w v q ips ps = (IsKnown q × R w name v) ⊎ ((q ≡ is.Unknown) × AllZip (OfBoth R) ips ps × (width_in name ips ≡ Some w))

column_pins-at : (stream : List ℕ) (x : Column) (xs : List Column) (row : List ℕ) (c : ℕ) → column_pins stream (x ∷ xs) (drop c row) ≡ pin (in_column stream x.name) (slice_index row c) ∷ column_pins stream xs (drop (suc c) row)
column_pins-at stream x xs [] zero = refl
column_pins-at stream x xs [] (suc c) = refl
column_pins-at stream x xs (n ∷ row) zero = refl
column_pins-at stream x xs (n ∷ row) (suc c) = column_pins-at stream x xs row c

-- one port of the search: it is the one, or the search goes on
pick_found : (R : Fact) (name n : List ℕ) (width value w : ℕ) (f : Carried → ℕ) (here later : Carried) (ips : List ProfilePort) (ps : List Pin) (ips' : List ProfilePort) (ps' : List Pin) (b : Bool)
    → bytes_eq n name ≡ b → IsKnown here → f here ≡ value → R width n value → AllZip (OfBoth R) ips' ps' → width_in name (input n width ∷ ips') ≡ Some w
    → (AllZip (OfBoth R) ips' ps' → width_in name ips' ≡ Some w → Finds R name w (f later) later ips ps)
    → Finds R name w (f (if b then here else later)) (if b then here else later) ips ps
pick_found R name n width value w f here later ips ps ips' ps' true q known same r z e go =
    let wide : width ≡ w = cc (rw q at e) in
    inl (known, subst (R w name) (sym same) (subst (λ (m : List ℕ). R w m value) (bytes_same n name q) (subst (λ (u : ℕ). R u n value) wide r)))
pick_found R name n width value w f here later ips ps ips' ps' false q known same r z e go = go z (rw q at e)

-- one search behind another
or_found : (R : Fact) (name : List ℕ) (w : ℕ) (f : Carried → ℕ) (a b : Carried) (ips : List ProfilePort) (ps : List Pin) (ips' : List ProfilePort) (ps' : List Pin)
    → Finds R name w (f a) a ips' ps' → (AllZip (OfBoth R) ips' ps' → width_in name ips' ≡ Some w → Finds R name w (f b) b ips ps)
    → Finds R name w (f (first_known a b)) (first_known a b) ips ps
or_found R name w f a b ips ps ips' ps' (inl found) go = subst (λ (q : Carried). Finds R name w (f q) q ips ps) (sym (found.0 b)) (inl found)
or_found R name w f a b ips ps ips' ps' (inr behind) go = subst (λ (q : Carried). Finds R name w (f (first_known q b)) (first_known q b) ips ps) (sym behind.0) (go behind.1 behind.2)

found_column : (R : Fact) (name stream : List ℕ) (reset : ℕ) (rows : List (Option (List ℕ))) (ends ticks : Bool) (sets : List ℕ) (k c : ℕ) (xs : List Column) (ips : List ProfilePort) (ps : List Pin) (w : ℕ)
    → AllZip (OfBoth R) (column_inputs stream xs ++ ips) (column_pins stream xs (drop c (unwrap_or (row_among rows k) [])) ++ ps)
    → width_in name (column_inputs stream xs ++ ips) ≡ Some w
    → Finds R name w (carried reset rows ends ticks sets (column_pin name stream k c xs)) (column_pin name stream k c xs) ips ps
found_column R name stream reset rows ends ticks sets k c [] ips ps w z e = inr (refl, z, e)
found_column R name stream reset rows ends ticks sets k c (x ∷ xs) ips ps w z e =
    let row : List ℕ = unwrap_or (row_among rows k) [] in
    let both : AllZip (OfBoth R) (column_inputs stream (x ∷ xs) ++ ips) ((pin (in_column stream x.name) (slice_index row c) ∷ column_pins stream xs (drop (suc c) row)) ++ ps) =
    subst (λ (ps' : List Pin). AllZip (OfBoth R) (column_inputs stream (x ∷ xs) ++ ips) (ps' ++ ps)) (column_pins-at stream x xs row c) z in
    pick_found R name (in_column stream x.name) (width_of x.kind) (slice_index row c) w (carried reset rows ends ticks sets) (is.Column k c) (column_pin name stream k (c + 1) xs) ips ps
    (column_inputs stream xs ++ ips) (column_pins stream xs (drop (suc c) row) ++ ps) (bytes_eq (in_column stream x.name) name) refl (λ other. refl) refl both.0 both.1 e
    (λ z' e'. found_column R name stream reset rows ends ticks sets k (c + 1) xs ips ps w (subst (λ (j : ℕ). AllZip (OfBoth R) (column_inputs stream xs ++ ips) (column_pins stream xs (drop j row) ++ ps)) (sym (add-one c)) z') e')

streams_pins-at : (s : Stream) (ss : List Stream) (rows : List (Option (List ℕ))) (k : ℕ) → streams_pins (s ∷ ss) (drop k rows) ≡ stream_pins s (row_among rows k) ++ streams_pins ss (drop (suc k) rows)
streams_pins-at s ss [] zero = refl
streams_pins-at s ss [] (suc k) = refl
streams_pins-at s ss (r ∷ rows) zero = refl
streams_pins-at s ss (r ∷ rows) (suc k) = streams_pins-at s ss rows k

found_stream : (R : Fact) (name : List ℕ) (reset : ℕ) (rows : List (Option (List ℕ))) (ends ticks : Bool) (sets : List ℕ) (k : ℕ) (ss : List Stream) (ips : List ProfilePort) (ps : List Pin) (w : ℕ)
    → AllZip (OfBoth R) (streams_inputs ss ++ ips) (streams_pins ss (drop k rows) ++ ps)
    → width_in name (streams_inputs ss ++ ips) ≡ Some w
    → Finds R name w (carried reset rows ends ticks sets (stream_pin name k ss)) (stream_pin name k ss) ips ps
found_stream R name reset rows ends ticks sets k [] ips ps w z e = inr (refl, z, e)
found_stream R name reset rows ends ticks sets k (s ∷ ss) ips ps w z e =
    let row : Option (List ℕ) = row_among rows k in
    let inputs : List ProfilePort = column_inputs s.name s.columns in
    let values : List Pin = column_pins s.name s.columns (unwrap_or row []) in
    let inputs' : List ProfilePort = streams_inputs ss ++ ips in
    let values' : List Pin = streams_pins ss (drop (suc k) rows) ++ ps in
    let valid : ProfilePort = input (in_valid s.name) 1 in
    let comes : Pin = pin (in_valid s.name) (bit (is_some row)) in
    let same_inputs : ((valid ∷ inputs) ++ streams_inputs ss) ++ ips ≡ valid ∷ (inputs ++ inputs') = append_assoc (valid ∷ inputs) (streams_inputs ss) ips in
    let same_values : streams_pins (s ∷ ss) (drop k rows) ++ ps ≡ comes ∷ (values ++ values') = ap (λ (xs : List Pin). xs ++ ps) (streams_pins-at s ss rows k) ∙ append_assoc (comes ∷ values) (streams_pins ss (drop (suc k) rows)) ps in
    let both : AllZip (OfBoth R) (valid ∷ (inputs ++ inputs')) (comes ∷ (values ++ values')) =
    subst (λ (xs : List ProfilePort). AllZip (OfBoth R) xs (comes ∷ (values ++ values'))) same_inputs (subst (λ (xs : List Pin). AllZip (OfBoth R) (((valid ∷ inputs) ++ streams_inputs ss) ++ ips) xs) same_values z) in
    let width : width_in name (valid ∷ (inputs ++ inputs')) ≡ Some w = subst (λ (xs : List ProfilePort). width_in name xs ≡ Some w) same_inputs e in
    pick_found R name (in_valid s.name) 1 (bit (is_some row)) w (carried reset rows ends ticks sets) (is.Valid k) (first_known (column_pin name s.name k 0 s.columns) (stream_pin name (k + 1) ss)) ips ps
    (inputs ++ inputs') (values ++ values') (bytes_eq (in_valid s.name) name) refl (λ other. refl) refl both.0 both.1 width
    (λ z' e'. or_found R name w (carried reset rows ends ticks sets) (column_pin name s.name k 0 s.columns) (stream_pin name (k + 1) ss) ips ps inputs' values'
    (found_column R name s.name reset rows ends ticks sets k 0 s.columns inputs' values' w z' e')
    (λ z'' e''. found_stream R name reset rows ends ticks sets (k + 1) ss ips ps w (subst (λ (j : ℕ). AllZip (OfBoth R) (streams_inputs ss ++ ips) (streams_pins ss (drop j rows) ++ ps)) (sym (add-one k)) z'') e''))

parameter_pins-at : (p : Column) (ps : List Column) (sets : List ℕ) (k : ℕ) → parameter_pins (p ∷ ps) (drop k sets) ≡ pin (in_parameter p.name) (slice_index sets k) ∷ parameter_pins ps (drop (suc k) sets)
parameter_pins-at p ps [] zero = refl
parameter_pins-at p ps [] (suc k) = refl
parameter_pins-at p ps (n ∷ sets) zero = refl
parameter_pins-at p ps (n ∷ sets) (suc k) = parameter_pins-at p ps sets k

found_parameter : (R : Fact) (name : List ℕ) (reset : ℕ) (rows : List (Option (List ℕ))) (ends ticks : Bool) (sets : List ℕ) (k : ℕ) (qs : List Column) (w : ℕ)
    → AllZip (OfBoth R) (parameter_inputs qs) (parameter_pins qs (drop k sets)) → width_in name (parameter_inputs qs) ≡ Some w
    → Finds R name w (carried reset rows ends ticks sets (parameter_pin name k qs)) (parameter_pin name k qs) [] []
found_parameter R name reset rows ends ticks sets k [] w z e = inr (refl, tt, e)
found_parameter R name reset rows ends ticks sets k (q ∷ qs) w z e =
    let both : AllZip (OfBoth R) (parameter_inputs (q ∷ qs)) (pin (in_parameter q.name) (slice_index sets k) ∷ parameter_pins qs (drop (suc k) sets)) =
    subst (λ (ps : List Pin). AllZip (OfBoth R) (parameter_inputs (q ∷ qs)) ps) (parameter_pins-at q qs sets k) z in
    pick_found R name (in_parameter q.name) (width_of q.kind) (slice_index sets k) w (carried reset rows ends ticks sets) (is.Parameter k) (parameter_pin name (k + 1) qs) [] []
    (parameter_inputs qs) (parameter_pins qs (drop (suc k) sets)) (bytes_eq (in_parameter q.name) name) refl (λ other. refl) refl both.0 both.1 e
    (λ z' e'. found_parameter R name reset rows ends ticks sets (k + 1) qs w (subst (λ (j : ℕ). AllZip (OfBoth R) (parameter_inputs qs) (parameter_pins qs (drop j sets))) (sym (add-one k)) z') e')

-- all input ports but the clock with these on them
abbrev pub pins_with : Schema → ℕ → List (Option (List ℕ)) → Bool → Bool → List ℕ → List Pin
pins_with schema reset rows ends ticks sets = pin rst reset ∷ (streams_pins schema.streams rows ++ pin eos (bit ends) ∷ pin tick (bit ticks) ∷ parameter_pins schema.parameters sets)

pub found : (R : Fact) (schema : Schema) (name : List ℕ) (reset : ℕ) (rows : List (Option (List ℕ))) (ends ticks : Bool) (sets : List ℕ) (w : ℕ)
    → AllZip (OfBoth R) (input_ports true schema) (pins_with schema reset rows ends ticks sets) → input_width schema name ≡ Some w
    → R w name (carried reset rows ends ticks sets (pin_named schema name))
found R schema name reset rows ends ticks sets w z e =
    known (pick_found R name rst 1 reset w (carried reset rows ends ticks sets) is.Reset (first_known (stream_pin name 0 schema.streams) last) [] []
    (streams_inputs schema.streams ++ last_inputs) (streams_pins schema.streams rows ++ last_pins) (bytes_eq rst name) refl (λ other. refl) refl z.0 z.1 e
    (λ z' e'. or_found R name w (carried reset rows ends ticks sets) (stream_pin name 0 schema.streams) last [] [] last_inputs last_pins
    (found_stream R name reset rows ends ticks sets 0 schema.streams last_inputs last_pins w z' e')
    (λ z'' e''. pick_found R name eos 1 (bit ends) w (carried reset rows ends ticks sets) is.End tick_pin [] [] (input tick 1 ∷ parameter_inputs schema.parameters) (pin tick (bit ticks) ∷ parameter_pins schema.parameters sets) (bytes_eq eos name) refl (λ other. refl) refl z''.0 z''.1 e''
    (λ z3 e3. pick_found R name tick 1 (bit ticks) w (carried reset rows ends ticks sets) is.Tick (parameter_pin name 0 schema.parameters) [] [] (parameter_inputs schema.parameters) (parameter_pins schema.parameters sets) (bytes_eq tick name) refl (λ other. refl) refl z3.0 z3.1 e3
    (λ z4 e4. found_parameter R name reset rows ends ticks sets 0 schema.parameters w z4 e4)))))
  where
    tick_pin : Carried
    tick_pin = if bytes_eq tick name then is.Tick else parameter_pin name 0 schema.parameters

    last : Carried
    last = if bytes_eq eos name then is.End else tick_pin

    last_inputs : List ProfilePort
    last_inputs = input eos 1 ∷ input tick 1 ∷ parameter_inputs schema.parameters

    last_pins : List Pin
    last_pins = pin eos (bit ends) ∷ pin tick (bit ticks) ∷ parameter_pins schema.parameters sets

    known : Finds R name w (carried reset rows ends ticks sets (pin_named schema name)) (pin_named schema name) [] [] → R w name (carried reset rows ends ticks sets (pin_named schema name))
    known (inl h) = h.1
    known (inr h) = let none : width_in name [] ≡ Some w = h.2 in absurd cc

-- ---- the values fit

abbrev pub IsNarrow : Fact
IsNarrow w name v = v < 2 ^ w

pub zip_all : {A B : Type 0} (R : A → B → Type 0) (P : B → Type 0) (xs : List A) (ys : List B) → AllZip R xs ys → AllByRecursion P ys → AllZip (λ (x : A) (y : B). P y) xs ys
zip_all R P [] [] z h = tt
zip_all R P [] (y ∷ ys) z h = absurd z
zip_all R P (x ∷ xs) [] z h = absurd z
zip_all R P (x ∷ xs) (y ∷ ys) z h = (h.0, zip_all R P xs ys z.1 h.1)
