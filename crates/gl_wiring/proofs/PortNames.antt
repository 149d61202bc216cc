-- No two ports of an emitted module have one name.
use Rattle.std.proofs.Common.{◌≡◌, ℕ, Bool, true, false, List, [], ◌∷◌, ◌++◌, map, codes, refl, sym, ap, ◌∙◌, subst, ◌⊎◌, inl, inr, arith}
use Rattle.std.specs.Prelude.{bytes_eq}
use Rattle.std.specs.List.{AllByRecursion, IsDistinct, list_any}
use Rattle.std.proofs.lemmas.List.{append_cancel_left, map-append}
use Rattle.gl_bits.proofs.AllLists.{all_append, all_weaker}
use Rattle.gl_bits.proofs.Bools.{bytes_other, bytes_differ}
use Rattle.gl_schema.specs.declared.schema.Column.{Column}
use Rattle.gl_schema.specs.declared.schema.Stream.{Stream}
use Rattle.gl_schema.specs.declared.schema.Schema.{Schema}
use Rattle.gl_schema.specs.Names.{IsName, reserved}
use Rattle.gl_schema.specs.Schemas.{IsStream, IsSchema, column_names, stream_names}
use Rattle.gl_schema.specs.Ports.{rst, eos, tick, in_valid, in_column, in_parameter, out_valid, out_column, out_eos, fault_group, fault_queue}
use Rattle.gl_schema.specs.Profile.{ProfilePort, column_inputs, stream_inputs, streams_inputs, parameter_inputs, port_names as profile_names}
use Rattle.gl_schema.proofs.InputNames.{Apart, AreApart, apart_distinct, both_apart, first_byte, is_reserved, no_valid}
use Rattle.gl_schema.proofs.InputNames as inputs
use Rattle.gl_wiring.specs.PortNames.{column_ports, stream_ports, streams_ports, result_ports, parameter_ports, late_ports, module_names, port_names}

-- ---- lists of names

pub all_apart : (names : List (List ℕ)) (n : List ℕ) → Apart n names → AllByRecursion (λ m. bytes_eq n m ≡ false) names
all_apart [] n apart = tt
all_apart (m ∷ ms) n apart = (bytes_other n m apart.0, all_apart ms n apart.1)

pub distinct_apart : (names : List (List ℕ)) → AreApart names → IsDistinct bytes_eq names
unfolding IsDistinct
distinct_apart [] h = tt
distinct_apart (n ∷ ns) h = (all_apart ns n h.0, distinct_apart ns h.1)

-- ---- the ports of all streams are the inputs of the schema behind the reset

columns_are : (s : List ℕ) (cs : List Column) → profile_names (column_inputs s cs) ≡ column_ports s cs
columns_are s [] = refl
columns_are s (c ∷ cs) = ap (λ (ns : List (List ℕ)). in_column s c.name ∷ ns) (columns_are s cs)

streams_are : (ss : List Stream) → profile_names (streams_inputs ss) ≡ streams_ports ss
streams_are [] = refl
streams_are (s ∷ ss) =
    map-append (λ (p : ProfilePort). p.name) (stream_inputs s) (streams_inputs ss)
    ∙ ap (λ (ns : List (List ℕ)). in_valid s.name ∷ (ns ++ profile_names (streams_inputs ss))) (columns_are s.name s.columns)
    ∙ ap (λ (ns : List (List ℕ)). stream_ports s ++ ns) (streams_are ss)

streams_apart : (ss : List Stream) → AllByRecursion IsStream ss → AreApart (stream_names ss) → AreApart (streams_ports ss)
streams_apart ss all h = subst AreApart (streams_are ss) (inputs.streams_apart ss all h)

streams_first : (ss : List Stream) → AllByRecursion IsStream ss → AllByRecursion (λ n. first_byte n ≡ 105) (streams_ports ss)
streams_first ss all = subst (AllByRecursion (λ n. first_byte n ≡ 105)) (streams_are ss) (inputs.streams_first ss all)

-- ---- and so are those of the parameters

parameters_are : (ps : List Column) → profile_names (parameter_inputs ps) ≡ parameter_ports ps
parameters_are [] = refl
parameters_are (p ∷ ps) = ap (λ (ns : List (List ℕ)). in_parameter p.name ∷ ns) (parameters_are ps)

parameters_apart : (ps : List Column) → AreApart (column_names ps) → AreApart (parameter_ports ps)
parameters_apart ps h = subst AreApart (parameters_are ps) (inputs.parameters_apart ps h)

parameters_first : (ps : List Column) → AllByRecursion (λ n. first_byte n ≡ 115) (parameter_ports ps)
parameters_first ps = subst (AllByRecursion (λ n. first_byte n ≡ 115)) (parameters_are ps) (inputs.parameters_first ps)

-- ---- the ports of the result

out_column-first : (c : List ℕ) → first_byte (out_column c) ≡ 111
unfolding out_column
out_column-first c = refl

out_column-inj : (c d : List ℕ) → out_column c ≡ out_column d → c ≡ d
unfolding out_column
out_column-inj c d e = append_cancel_left (codes "out__") c d e

eos_is_reserved : list_any (bytes_eq (codes "eos")) reserved ≡ true
unfolding reserved
eos_is_reserved = refl

pub out_valid-column : (c : List ℕ) → out_valid ≡ out_column c → codes "valid" ≡ c
unfolding out_valid out_column
out_valid-column c e = append_cancel_left (codes "out__") (codes "valid") c e

out_eos-column : (c : List ℕ) → out_eos ≡ out_column c → codes "eos" ≡ c
unfolding out_eos out_column
out_eos-column c e = append_cancel_left (codes "out__") (codes "eos") c e

-- names whose first bytes differ are apart
first_apart : (n m : List ℕ) → first_byte n ≡ 111 → first_byte m ≡ 102 → n ≡ m → ⊥
first_apart n m h k e = let same = ap first_byte e in absurd (omega (arith, h, k, same))

-- none of the lines behind the columns is a column's port
pub tail_apart : (c : List ℕ) → IsName c → Apart (out_column c) (out_eos ∷ fault_group ∷ fault_queue ∷ [])
unfolding fault_group fault_queue
tail_apart c h = (
  λ e. is_reserved c (codes "eos") h eos_is_reserved (out_eos-column c (sym e)),
  (
    λ e. first_apart (out_column c) fault_group (out_column-first c) refl e,
    (λ e. first_apart (out_column c) fault_queue (out_column-first c) refl e, tt),
  ),
)

outs_apart : (n : List ℕ) (cs : List (List ℕ)) → Apart n cs → Apart (out_column n) (map out_column cs)
outs_apart n [] h = tt
outs_apart n (c ∷ cs) h = (λ e. h.0 (out_column-inj n c e), outs_apart n cs h.1)

columns_are_apart : (cs : List (List ℕ)) → AreApart cs → AreApart (map out_column cs)
columns_are_apart [] h = tt
columns_are_apart (c ∷ cs) h = (outs_apart c cs h.0, columns_are_apart cs h.1)

columns_tail : (cs : List (List ℕ)) → AllByRecursion IsName cs → AllByRecursion (λ n. Apart n (out_eos ∷ fault_group ∷ fault_queue ∷ [])) (map out_column cs)
columns_tail [] h = tt
columns_tail (c ∷ cs) h = (tail_apart c h.0, columns_tail cs h.1)

tail_are_apart : AreApart (out_eos ∷ fault_group ∷ fault_queue ∷ [])
unfolding out_eos fault_group fault_queue
tail_are_apart = ((bytes_differ out_eos fault_group refl, (bytes_differ out_eos fault_queue refl, tt)), ((bytes_differ fault_group fault_queue refl, tt), (tt, tt)))

valid_tail : Apart out_valid (out_eos ∷ fault_group ∷ fault_queue ∷ [])
unfolding out_valid out_eos fault_group fault_queue
valid_tail = (bytes_differ out_valid out_eos refl, (bytes_differ out_valid fault_group refl, (bytes_differ out_valid fault_queue refl, tt)))

valid_columns : (cs : List (List ℕ)) → AllByRecursion IsName cs → Apart out_valid (map out_column cs)
valid_columns [] h = tt
valid_columns (c ∷ cs) h = (λ e. no_valid c h.0 (out_valid-column c e), valid_columns cs h.1)

pub result_apart : (cs : List (List ℕ)) → AllByRecursion IsName cs → AreApart cs → AreApart (result_ports cs)
result_apart cs all h = (
  all_append (λ m. out_valid ≡ m → ⊥) (map out_column cs) (out_eos ∷ fault_group ∷ fault_queue ∷ []) (valid_columns cs all) valid_tail,
  both_apart (map out_column cs) (out_eos ∷ fault_group ∷ fault_queue ∷ []) (columns_are_apart cs h) tail_are_apart (columns_tail cs all),
)

-- the first byte of a port of the result is an o or an f
abbrev pub IsResultByte : ℕ → Type 0
IsResultByte b = (b ≡ 111) ⊎ (b ≡ 102)

outs_first : (cs : List (List ℕ)) → AllByRecursion (λ n. IsResultByte (first_byte n)) (map out_column cs)
outs_first [] = tt
outs_first (c ∷ cs) = (inl (out_column-first c), outs_first cs)

result_first : (cs : List (List ℕ)) → AllByRecursion (λ n. IsResultByte (first_byte n)) (result_ports cs)
unfolding out_valid out_eos fault_group fault_queue
result_first cs =
    (inl refl, all_append (λ n. IsResultByte (first_byte n)) (map out_column cs) (out_eos ∷ fault_group ∷ fault_queue ∷ []) (outs_first cs) (inl refl, (inr refl, (inr refl, tt))))

-- ---- all ports

no_byte : (b : ℕ) → (b ≡ 105 → ⊥) → (n m : List ℕ) → first_byte n ≡ b → first_byte m ≡ 105 → n ≡ m → ⊥
no_byte b differ n m h k e = differ (sym h ∙ ap first_byte e ∙ k)

-- the first byte of a port behind the tick is an s, or one of the result
abbrev IsHeldByte : ℕ → Type 0
IsHeldByte b = IsResultByte b ⊎ (b ≡ 115)

-- the first byte of a port behind the end of the input is a t, or one of those
abbrev IsLaterByte : ℕ → Type 0
IsLaterByte b = IsHeldByte b ⊎ (b ≡ 116)

no_later : (b : ℕ) → (IsLaterByte b → ⊥) → (n m : List ℕ) → first_byte n ≡ b → IsLaterByte (first_byte m) → n ≡ m → ⊥
no_later b differ n m h k e = differ (subst IsLaterByte (sym (ap first_byte e) ∙ h) k)

rst_first : first_byte rst ≡ 114
unfolding rst
rst_first = refl

eos_first : first_byte eos ≡ 101
unfolding eos
eos_first = refl

tick_first : first_byte tick ≡ 116
unfolding tick
tick_first = refl

differ-114 : IsLaterByte 114 → ⊥
differ-114 (inl (inl (inl e))) = absurd (omega arith)
differ-114 (inl (inl (inr e))) = absurd (omega arith)
differ-114 (inl (inr e)) = absurd (omega arith)
differ-114 (inr e) = absurd (omega arith)

differ-101 : IsLaterByte 101 → ⊥
differ-101 (inl (inl (inl e))) = absurd (omega arith)
differ-101 (inl (inl (inr e))) = absurd (omega arith)
differ-101 (inl (inr e)) = absurd (omega arith)
differ-101 (inr e) = absurd (omega arith)

differ-105 : IsLaterByte 105 → ⊥
differ-105 (inl (inl (inl e))) = absurd (omega arith)
differ-105 (inl (inl (inr e))) = absurd (omega arith)
differ-105 (inl (inr e)) = absurd (omega arith)
differ-105 (inr e) = absurd (omega arith)

differ-116 : IsHeldByte 116 → ⊥
differ-116 (inl (inl e)) = absurd (omega arith)
differ-116 (inl (inr e)) = absurd (omega arith)
differ-116 (inr e) = absurd (omega arith)

differ-115 : IsResultByte 115 → ⊥
differ-115 (inl e) = absurd (omega arith)
differ-115 (inr e) = absurd (omega arith)

rst_eos : rst ≡ eos → ⊥
unfolding rst eos
rst_eos e = bytes_differ rst eos refl e

-- the ports behind the tick: the parameters, and the outputs of results
module _ (ps : List Column) (outs : List (List ℕ)) (first : AllByRecursion (λ n. IsResultByte (first_byte n)) outs) where
  abbrev held : List (List ℕ)
  held = parameter_ports ps ++ outs

  held_first : AllByRecursion (λ n. IsHeldByte (first_byte n)) held
  held_first =
      all_append (λ n. IsHeldByte (first_byte n)) (parameter_ports ps) outs
      (all_weaker (λ n. first_byte n ≡ 115) (λ n. IsHeldByte (first_byte n)) (λ n k. inr k) (parameter_ports ps) (parameters_first ps))
      (all_weaker (λ n. IsResultByte (first_byte n)) (λ n. IsHeldByte (first_byte n)) (λ n k. inl k) outs first)

  no_output : (n : List ℕ) → first_byte n ≡ 115 → Apart n outs
  no_output n h =
      all_weaker (λ m. IsResultByte (first_byte m)) (λ m. n ≡ m → ⊥) (λ m k e. differ-115 (subst IsResultByte (sym (ap first_byte e) ∙ h) k)) outs first

  held_apart : AreApart (column_names ps) → AreApart outs → AreApart held
  held_apart declared apart =
      both_apart (parameter_ports ps) outs (parameters_apart ps declared) apart
      (all_weaker (λ n. first_byte n ≡ 115) (λ n. Apart n outs) no_output (parameter_ports ps) (parameters_first ps))

  tick_apart : Apart tick held
  tick_apart =
      all_weaker (λ n. IsHeldByte (first_byte n)) (λ m. tick ≡ m → ⊥) (λ m k e. differ-116 (subst IsHeldByte (sym (ap first_byte e) ∙ tick_first) k)) held held_first

  later_first : (ticks : Bool) → AllByRecursion (λ n. IsLaterByte (first_byte n)) (late_ports ticks ps ++ outs)
  later_first true = (inr tick_first, all_weaker (λ n. IsHeldByte (first_byte n)) (λ n. IsLaterByte (first_byte n)) (λ n k. inl k) held held_first)
  later_first false = all_weaker (λ n. IsHeldByte (first_byte n)) (λ n. IsLaterByte (first_byte n)) (λ n k. inl k) held held_first

  later_apart : (ticks : Bool) → AreApart (column_names ps) → AreApart outs → AreApart (late_ports ticks ps ++ outs)
  later_apart true declared apart = (tick_apart, held_apart declared apart)
  later_apart false declared apart = held_apart declared apart

-- the ports behind the end of the input: the tick, where it is asked for, and those
module _ (ticks : Bool) (outs : List (List ℕ)) (first : AllByRecursion (λ n. IsResultByte (first_byte n)) outs) (schema : Schema) where
  abbrev later : List (List ℕ)
  later = late_ports ticks schema.parameters ++ outs

  bytes : AllByRecursion (λ n. IsLaterByte (first_byte n)) later
  bytes = later_first schema.parameters outs first ticks

  -- in front of these ports stands the end of the input
  eos_apart : Apart eos later
  eos_apart = all_weaker (λ n. IsLaterByte (first_byte n)) (λ m. eos ≡ m → ⊥) (λ m k. no_later 101 differ-101 eos m eos_first k) later bytes

  rst_apart : Apart rst later
  rst_apart = all_weaker (λ n. IsLaterByte (first_byte n)) (λ m. rst ≡ m → ⊥) (λ m k. no_later 114 differ-114 rst m rst_first k) later bytes

  inputs_apart : (ss : List Stream) → AllByRecursion IsStream ss → AllByRecursion (λ n. Apart n (eos ∷ later)) (streams_ports ss)
  inputs_apart ss all =
      all_weaker (λ n. first_byte n ≡ 105) (λ n. Apart n (eos ∷ later))
      (λ n h. (
        λ e. no_byte 101 (λ k. absurd (omega arith)) eos n eos_first h (sym e),
        all_weaker (λ m. IsLaterByte (first_byte m)) (λ m. n ≡ m → ⊥) (λ m k. no_later 105 differ-105 n m h k) later bytes,
      ))
      (streams_ports ss) (streams_first ss all)

  -- no two ports of a module with these outputs have one name
  pub module_names-distinct : IsSchema schema → AreApart outs → IsDistinct bytes_eq (module_names ticks schema outs)
  module_names-distinct is apart =
      let streams = streams_ports schema.streams in
      distinct_apart (module_names ticks schema outs) (
        all_append (λ m. rst ≡ m → ⊥) streams (eos ∷ later)
            (all_weaker (λ n. first_byte n ≡ 105) (λ m. rst ≡ m → ⊥) (λ m k. no_byte 114 (λ j. absurd (omega arith)) rst m rst_first k) streams (streams_first schema.streams is.streams))
            (rst_eos, rst_apart),
        both_apart streams (eos ∷ later) (streams_apart schema.streams is.streams (apart_distinct (stream_names schema.streams) is.distinct))
            (eos_apart, later_apart schema.parameters outs first ticks (apart_distinct (column_names schema.parameters) is.declared.distinct) apart)
            (inputs_apart schema.streams is.streams),
      )

-- no two ports of an emitted module have one name
pub port_names-distinct : (ticks : Bool) (schema : Schema) (cs : List (List ℕ)) → IsSchema schema → AllByRecursion IsName cs → IsDistinct bytes_eq cs
    → IsDistinct bytes_eq (port_names ticks schema cs)
port_names-distinct ticks schema cs is all distinct =
    module_names-distinct ticks (result_ports cs) (result_first cs) schema is (result_apart cs all (apart_distinct cs distinct))
