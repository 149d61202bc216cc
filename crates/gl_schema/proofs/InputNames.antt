-- The inputs of a schema have names that are apart: no two have one name, and none is called as the clock.
use Rattle.std.proofs.Common.{◌≡◌, ℕ, true, false, not, ◌&&◌, List, [], ◌∷◌, ◌++◌, length, codes, refl, sym, ap, ◌∙◌, subst, drop, append_assoc, arith}
use Rattle.std.specs.Prelude.{nat_le, bytes_eq, ◌==◌, if◌then◌else◌}
use Rattle.std.specs.List.{AllByRecursion, IsDistinct, list_any}
use Rattle.std.proofs.lemmas.List.{append_cancel_left, map-append}
use Rattle.gl_bits.proofs.AllLists.{all_append, all_weaker}
use Rattle.gl_bits.proofs.Bools.{neither_left, neither_right, not_both, and_left, and_right, not_true, bytes_differ}
use Rattle.gl_schema.specs.declared.schema.Column.{Column}
use Rattle.gl_schema.specs.declared.schema.Stream.{Stream}
use Rattle.gl_schema.specs.declared.schema.Schema.{Schema}
use Rattle.gl_schema.specs.Names.{IsName, is_name, is_taken, reserved, keywords, has_loose_underscore, begins_with_letter, has_name_bytes}
use Rattle.gl_schema.specs.Schemas.{IsColumn, IsStream, IsSchema, column_names, stream_names}
use Rattle.gl_schema.specs.Ports.{rst, eos, tick, in_valid, in_column, in_parameter}
use Rattle.gl_schema.specs.Profile.{ProfilePort, clk, column_inputs, stream_inputs, streams_inputs, parameter_inputs, last_inputs, input_ports, port_names}

-- ---- lists of names

-- none of the names is this one
abbrev pub Apart : List ℕ → List (List ℕ) → Type 0
Apart n names = AllByRecursion (λ m. n ≡ m → ⊥) names

-- each name is apart from all later ones
abbrev pub AreApart : List (List ℕ) → Type 0
AreApart [] = Unit {0}
AreApart (n ∷ ns) = Apart n ns × AreApart ns

pub both_apart : (xs ys : List (List ℕ)) → AreApart xs → AreApart ys → AllByRecursion (λ x. Apart x ys) xs → AreApart (xs ++ ys)
both_apart [] ys h k across = k
both_apart (x ∷ xs) ys h k across = (all_append (λ m. x ≡ m → ⊥) xs ys h.0 across.0, both_apart xs ys h.1 k across.1)

pub apart_all : (names : List (List ℕ)) (n : List ℕ) → AllByRecursion (λ m. bytes_eq n m ≡ false) names → Apart n names
apart_all [] n absent = tt
apart_all (m ∷ ms) n absent = (bytes_differ n m absent.0, apart_all ms n absent.1)

pub apart_distinct : (names : List (List ℕ)) → IsDistinct bytes_eq names → AreApart names
unfolding IsDistinct
apart_distinct [] h = tt
apart_distinct (n ∷ ns) h = (apart_all ns n h.0, apart_distinct ns h.1)

-- ---- what tells one name from another

abbrev pub first_byte : List ℕ → ℕ
first_byte [] = 0
first_byte (b ∷ bs) = b

-- the bytes in front of the first double underscore
pub before_double : List ℕ → List ℕ
before_double [] = []
before_double (a ∷ []) = a ∷ []
before_double (a ∷ b ∷ bs) = if (a == 95) && (b == 95) then [] else a ∷ before_double (b ∷ bs)

-- the stream that an input is of
stream_of : List ℕ → List ℕ
stream_of name = before_double (drop 4 name)

pub before_name : (s rest : List ℕ) → has_loose_underscore s ≡ false → before_double (s ++ 95 ∷ 95 ∷ rest) ≡ s
unfolding before_double has_loose_underscore
before_name [] rest h = refl
before_name (a ∷ []) rest h = rw h refl
before_name (a ∷ b ∷ bs) rest h =
    rw (neither_left ((a == 95) && (b == 95)) (has_loose_underscore (b ∷ bs)) h) (ap (λ t. a ∷ t) (before_name (b ∷ bs) rest (neither_right ((a == 95) && (b == 95)) (has_loose_underscore (b ∷ bs)) h)))

pub single : (n : List ℕ) → IsName n → has_loose_underscore n ≡ false
unfolding is_name
single n h =
    let front = nat_le (length n) 32 && begins_with_letter n && has_name_bytes n in
    not_true (has_loose_underscore n) (and_right front (not (has_loose_underscore n)) (and_left (front && not (has_loose_underscore n)) (not (is_taken n)) h))

-- a reserved word is no name
pub is_reserved : (n m : List ℕ) → IsName n → list_any (bytes_eq m) reserved ≡ true → m ≡ n → ⊥
unfolding is_name is_taken
is_reserved n m h taken e =
    let front = nat_le (length n) 32 && begins_with_letter n && has_name_bytes n && not (has_loose_underscore n) in
    let free : list_any (bytes_eq n) reserved ≡ false = neither_right (list_any (bytes_eq n) keywords) (list_any (bytes_eq n) reserved) (not_true (is_taken n) (and_right front (not (is_taken n)) h)) in
    not_both (list_any (bytes_eq n) reserved) (subst (λ (k : List ℕ). list_any (bytes_eq k) reserved ≡ true) e taken) free

pub no_valid : (n : List ℕ) → IsName n → codes "valid" ≡ n → ⊥
unfolding reserved
no_valid n h e = is_reserved n (codes "valid") h refl e

-- ---- the inputs of one stream

valid_first : (s : List ℕ) → first_byte (in_valid s) ≡ 105
unfolding in_valid
valid_first s = refl

column_first : (s c : List ℕ) → first_byte (in_column s c) ≡ 105
unfolding in_column
column_first s c = refl

valid_stream : (s : List ℕ) → has_loose_underscore s ≡ false → stream_of (in_valid s) ≡ s
unfolding in_valid stream_of
valid_stream s h = before_name s (codes "valid") h

column_stream : (s c : List ℕ) → has_loose_underscore s ≡ false → stream_of (in_column s c) ≡ s
unfolding in_column stream_of
column_stream s c h = rw (append_assoc s (95 ∷ 95 ∷ []) c) (before_name s c h)

same_column : (s c d : List ℕ) → in_column s c ≡ in_column s d → c ≡ d
unfolding in_column
same_column s c d e = append_cancel_left (codes "in__" ++ s ++ codes "__") c d e

valid_column : (s c : List ℕ) → in_valid s ≡ in_column s c → codes "valid" ≡ c
unfolding in_valid in_column
valid_column s c e = append_cancel_left (codes "in__" ++ s ++ codes "__") (codes "valid") c (append_assoc (codes "in__" ++ s) (codes "__") (codes "valid") ∙ e)

record IsOf (s n : List ℕ) : Type 0 where
  first : first_byte n ≡ 105
  stream : stream_of n ≡ s

columns_of : (s : List ℕ) (cs : List Column) → has_loose_underscore s ≡ false → AllByRecursion (IsOf s) (port_names (column_inputs s cs))
columns_of s [] h = tt
columns_of s (c ∷ cs) h = (record { first = column_first s c.name; stream = column_stream s c.name h }, columns_of s cs h)

inputs_of : (s : Stream) → IsStream s → AllByRecursion (IsOf s.name) (port_names (stream_inputs s))
inputs_of s h =
    let one = single s.name h.name in
    (record { first = valid_first s.name; stream = valid_stream s.name one }, columns_of s.name s.columns one)

column_apart : (s n : List ℕ) (cs : List Column) → Apart n (column_names cs) → Apart (in_column s n) (port_names (column_inputs s cs))
column_apart s n [] h = tt
column_apart s n (c ∷ cs) h = (λ e. h.0 (same_column s n c.name e), column_apart s n cs h.1)

columns_apart : (s : List ℕ) (cs : List Column) → AreApart (column_names cs) → AreApart (port_names (column_inputs s cs))
columns_apart s [] h = tt
columns_apart s (c ∷ cs) h = (column_apart s c.name cs h.0, columns_apart s cs h.1)

valid_apart : (s : List ℕ) (cs : List Column) → AllByRecursion IsColumn cs → Apart (in_valid s) (port_names (column_inputs s cs))
valid_apart s [] h = tt
valid_apart s (c ∷ cs) h = (λ e. no_valid c.name h.0.name (valid_column s c.name e), valid_apart s cs h.1)

-- ---- of all streams

names_after : (s : Stream) (ss : List Stream) → port_names (streams_inputs (s ∷ ss)) ≡ port_names (stream_inputs s) ++ port_names (streams_inputs ss)
names_after s ss = map-append (λ (p : ProfilePort). p.name) (stream_inputs s) (streams_inputs ss)

-- an input of one stream is none of streams with other names
other_apart : (n : List ℕ) (s : List ℕ) (ss : List Stream) → IsOf s n → Apart s (stream_names ss) → AllByRecursion IsStream ss → Apart n (port_names (streams_inputs ss))
other_apart n s [] of apart all = tt
other_apart n s (r ∷ rs) of apart all = subst (Apart n) (sym (names_after r rs))
    (all_append (λ m. n ≡ m → ⊥) (port_names (stream_inputs r)) (port_names (streams_inputs rs))
    (all_weaker (IsOf r.name) (λ m. n ≡ m → ⊥) (λ m is e. apart.0 (sym of.stream ∙ ap stream_of e ∙ is.stream)) (port_names (stream_inputs r)) (inputs_of r all.0))
    (other_apart n s rs of apart.1 all.1))

pub streams_apart : (ss : List Stream) → AllByRecursion IsStream ss → AreApart (stream_names ss) → AreApart (port_names (streams_inputs ss))
streams_apart [] all h = tt
streams_apart (s ∷ ss) all h = subst AreApart (sym (names_after s ss))
    (both_apart (port_names (stream_inputs s)) (port_names (streams_inputs ss))
    (valid_apart s.name s.columns all.0.columns, columns_apart s.name s.columns (apart_distinct (column_names s.columns) all.0.distinct))
    (streams_apart ss all.1 h.1)
    (all_weaker (IsOf s.name) (λ n. Apart n (port_names (streams_inputs ss))) (λ n is. other_apart n s.name ss is h.0 all.1) (port_names (stream_inputs s)) (inputs_of s all.0)))

pub streams_first : (ss : List Stream) → AllByRecursion IsStream ss → AllByRecursion (λ n. first_byte n ≡ 105) (port_names (streams_inputs ss))
streams_first [] all = tt
streams_first (s ∷ ss) all = subst (AllByRecursion (λ n. first_byte n ≡ 105)) (sym (names_after s ss))
    (all_append (λ n. first_byte n ≡ 105) (port_names (stream_inputs s)) (port_names (streams_inputs ss))
    (all_weaker (IsOf s.name) (λ n. first_byte n ≡ 105) (λ n is. is.first) (port_names (stream_inputs s)) (inputs_of s all.0))
    (streams_first ss all.1))

-- ---- of the parameters

pub parameter_first : (n : List ℕ) → first_byte (in_parameter n) ≡ 115
unfolding in_parameter
parameter_first n = refl

same_parameter : (n m : List ℕ) → in_parameter n ≡ in_parameter m → n ≡ m
unfolding in_parameter
same_parameter n m e = append_cancel_left (codes "set__") n m e

pub parameters_first : (ps : List Column) → AllByRecursion (λ n. first_byte n ≡ 115) (port_names (parameter_inputs ps))
parameters_first [] = tt
parameters_first (p ∷ ps) = (parameter_first p.name, parameters_first ps)

parameter_apart : (n : List ℕ) (ps : List Column) → Apart n (column_names ps) → Apart (in_parameter n) (port_names (parameter_inputs ps))
parameter_apart n [] h = tt
parameter_apart n (p ∷ ps) h = (λ e. h.0 (same_parameter n p.name e), parameter_apart n ps h.1)

pub parameters_apart : (ps : List Column) → AreApart (column_names ps) → AreApart (port_names (parameter_inputs ps))
parameters_apart [] h = tt
parameters_apart (p ∷ ps) h = (parameter_apart p.name ps h.0, parameters_apart ps h.1)

-- a name with another first byte is none of theirs
no_parameter : (n : List ℕ) (ps : List Column) → (first_byte n ≡ 115 → ⊥) → Apart n (port_names (parameter_inputs ps))
no_parameter n ps other = all_weaker (λ m. first_byte m ≡ 115) (λ m. n ≡ m → ⊥) (λ m h e. other (ap first_byte e ∙ h)) (port_names (parameter_inputs ps)) (parameters_first ps)

-- ---- all inputs, the clock before them

-- the names behind those of the streams
abbrev last_names : List Column → List (List ℕ)
last_names ps = eos ∷ tick ∷ port_names (parameter_inputs ps)

names_are : (schema : Schema) → port_names (input_ports true schema) ≡ rst ∷ (port_names (streams_inputs schema.streams) ++ last_names schema.parameters)
names_are schema = ap (λ (ns : List (List ℕ)). rst ∷ ns) (map-append (λ (p : ProfilePort). p.name) (streams_inputs schema.streams) (last_inputs true schema))

-- what tells a name from the inputs behind the reset: it begins otherwise, and is neither that of the end nor of the tick
record Differs (n : List ℕ) : Type 0 where
  streams : first_byte n ≡ 105 → ⊥
  end : n ≡ eos → ⊥
  last : n ≡ tick → ⊥
  parameters : first_byte n ≡ 115 → ⊥

front_apart : (n : List ℕ) (ss : List Stream) (ps : List Column) → AllByRecursion IsStream ss → Differs n → Apart n (port_names (streams_inputs ss) ++ last_names ps)
front_apart n ss ps all other =
    all_append (λ m. n ≡ m → ⊥) (port_names (streams_inputs ss)) (last_names ps)
    (all_weaker (λ m. first_byte m ≡ 105) (λ m. n ≡ m → ⊥) (λ m h e. other.streams (ap first_byte e ∙ h)) (port_names (streams_inputs ss)) (streams_first ss all))
    (other.end, (other.last, no_parameter n ps other.parameters))

rst_differs : Differs rst
unfolding rst eos tick
rst_differs = record {
  streams = λ e. absurd (omega (arith, e));
  end = bytes_differ rst eos refl;
  last = bytes_differ rst tick refl;
  parameters = λ e. absurd (omega (arith, e));
}

clk_differs : Differs clk
unfolding clk eos tick
clk_differs = record {
  streams = λ e. absurd (omega (arith, e));
  end = bytes_differ clk eos refl;
  last = bytes_differ clk tick refl;
  parameters = λ e. absurd (omega (arith, e));
}

clk_not_rst : clk ≡ rst → ⊥
unfolding clk rst
clk_not_rst = bytes_differ clk rst refl

eos_differs : (first_byte eos ≡ 105 → ⊥) × (eos ≡ tick → ⊥) × (first_byte eos ≡ 115 → ⊥)
unfolding eos tick
eos_differs = (λ e. absurd (omega (arith, e)), bytes_differ eos tick refl, λ e. absurd (omega (arith, e)))

pub tick_differs : (first_byte tick ≡ 105 → ⊥) × (first_byte tick ≡ 115 → ⊥)
unfolding tick
tick_differs = (λ e. absurd (omega (arith, e)), λ e. absurd (omega (arith, e)))

-- the end, the tick and the parameters are apart
last_apart : (ps : List Column) → AreApart (column_names ps) → AreApart (last_names ps)
last_apart ps apart = ((eos_differs.1, no_parameter eos ps eos_differs.2), (no_parameter tick ps tick_differs.1, parameters_apart ps apart))

no_both : (a : ℕ) → a ≡ 105 → a ≡ 115 → ⊥
no_both a h e = absurd (omega (arith, h, e))

-- and an input of a stream is none of them
stream_not_last : (n : List ℕ) (ps : List Column) → first_byte n ≡ 105 → Apart n (last_names ps)
stream_not_last n ps h = (λ e. eos_differs.0 (sym (ap first_byte e) ∙ h), (λ e. tick_differs.0 (sym (ap first_byte e) ∙ h), no_parameter n ps (no_both (first_byte n) h)))

pub names_apart : (schema : Schema) → IsSchema schema → AreApart (clk ∷ port_names (input_ports true schema))
names_apart schema is =
    let streams = port_names (streams_inputs schema.streams) in
    let others = last_names schema.parameters in
    subst (λ (ns : List (List ℕ)). AreApart (clk ∷ ns)) (sym (names_are schema)) (
      (clk_not_rst, front_apart clk schema.streams schema.parameters is.streams clk_differs),
      (
        front_apart rst schema.streams schema.parameters is.streams rst_differs,
        both_apart streams others (streams_apart schema.streams is.streams (apart_distinct (stream_names schema.streams) is.distinct))
            (last_apart schema.parameters (apart_distinct (column_names schema.parameters) is.declared.distinct))
            (all_weaker (λ m. first_byte m ≡ 105) (λ m. Apart m others) (λ m h. stream_not_last m schema.parameters h) streams (streams_first schema.streams is.streams)),
      ),
    )
