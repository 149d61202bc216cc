-- The ports of an emitted module have names of the Verilog subset, and none is the clock's.
use Rattle.std.proofs.Common.{◌≡◌, ℕ, ◌≤◌, Bool, true, false, not, ◌&&◌, ◌||◌, List, [], ◌∷◌, ◌++◌, length, refl, arith, codes, length-append}
use Rattle.std.specs.Prelude.{map, bytes_eq, nat_le, ◌==◌}
use Rattle.std.specs.List.{AllByRecursion, list_all}
use Rattle.std.proofs.lemmas.List.Folds.{list_all-append}
use Rattle.gl_schema.specs.declared.schema.Column.{Column}
use Rattle.gl_schema.specs.declared.schema.Stream.{Stream}
use Rattle.gl_schema.specs.declared.schema.Schema.{Schema}
use Rattle.gl_schema.specs.Names as schema
use Rattle.gl_schema.specs.Names.{is_lower, is_name_byte, is_name, has_loose_underscore, begins_with_letter, has_name_bytes, is_taken}
use Rattle.gl_schema.specs.Schemas.{IsColumn, IsStream, IsSchema}
use Rattle.gl_schema.specs.Ports.{rst, eos, tick, in_valid, in_column, in_parameter, out_valid, out_column, out_eos, fault_group, fault_queue}
use Rattle.gl_net.specs.Finished as net
use Rattle.gl_net.specs.Finished.{IsName, is_letter, clock_name}
use Rattle.std.proofs.lemmas.Bool.{leb-true}
use Rattle.gl_bits.proofs.Bools.{and_left, and_right, and_both}
use Rattle.gl_wiring.specs.PortNames.{column_ports, stream_ports, streams_ports, result_ports, tick_port, parameter_ports, late_ports, module_names, port_names}

-- a letter or a digit of the Verilog subset
abbrev pub is_word_byte : ℕ → Bool
is_word_byte c = is_letter c || net.is_digit c

-- what a name of the query language is made of
pub record Plain (n : List ℕ) : Type 0 where
  pub bytes : list_all is_word_byte n ≡ true
  pub short : length n ≤ 32

byte_by : (capital small digit bar : Bool) → (small || digit || bar) ≡ true → (((capital || small) || bar) || digit) ≡ true
byte_by true small digit bar h = refl
byte_by false true digit bar h = refl
byte_by false false true true h = refl
byte_by false false true false h = refl
byte_by false false false true h = refl
byte_by false false false false h = h

word_byte : (c : ℕ) → is_name_byte c ≡ true → is_word_byte c ≡ true
word_byte c h = byte_by (nat_le 65 c && nat_le c 90) (is_lower c) (schema.is_digit c) (c == 95) h

word_bytes : (n : List ℕ) → list_all is_name_byte n ≡ true → list_all is_word_byte n ≡ true
word_bytes [] h = refl
word_bytes (c ∷ cs) h = and_both (is_word_byte c) (list_all is_word_byte cs) (word_byte c (and_left (is_name_byte c) (list_all is_name_byte cs) h)) (word_bytes cs (and_right (is_name_byte c) (list_all is_name_byte cs) h))

pub plain : (n : List ℕ) → schema.IsName n → Plain n
unfolding is_name has_name_bytes
plain n h =
    let to3 = and_left (nat_le (length n) 32 && begins_with_letter n && has_name_bytes n && not (has_loose_underscore n)) (not (is_taken n)) h in
    let to2 = and_left (nat_le (length n) 32 && begins_with_letter n && has_name_bytes n) (not (has_loose_underscore n)) to3 in
    record {
      bytes = word_bytes n (and_right (nat_le (length n) 32 && begins_with_letter n) (has_name_bytes n) to2);
      short = leb-true (length n) 32 (and_left (nat_le (length n) 32) (begins_with_letter n) (and_left (nat_le (length n) 32 && begins_with_letter n) (has_name_bytes n) to2));
    }

-- a name in front of which these bytes stand, and behind it those
pub around : (a n b : List ℕ) → list_all is_word_byte a ≡ true → list_all is_word_byte n ≡ true → list_all is_word_byte b ≡ true → list_all is_word_byte (a ++ n ++ b) ≡ true
around a n b h k l =
    rw (list_all-append is_word_byte (a ++ n) b, list_all-append is_word_byte a n) (and_both (list_all is_word_byte a && list_all is_word_byte n) (list_all is_word_byte b) (and_both (list_all is_word_byte a) (list_all is_word_byte n) h k) l)

pub behind : (a n : List ℕ) → list_all is_word_byte a ≡ true → list_all is_word_byte n ≡ true → list_all is_word_byte (a ++ n) ≡ true
behind a n h k = rw (list_all-append is_word_byte a n) (and_both (list_all is_word_byte a) (list_all is_word_byte n) h k)

-- a port's name: one of the subset, and not the clock's
pub record IsPortName (n : List ℕ) : Type 0 where
  pub name : IsName n
  pub clock : bytes_eq n clock_name ≡ false

in_valid-name : (s : List ℕ) → schema.IsName s → IsPortName (in_valid s)
unfolding in_valid
in_valid-name s h = record {
  name = record {
    first = refl;
    each = around (codes "in__") s (codes "__valid") refl (plain s h).bytes refl;
    short = omega (arith, length-append (codes "in__" ++ s) (codes "__valid"), length-append (codes "in__") s, (plain s h).short);
    free = refl;
  };
  clock = refl;
}

in_column-name : (s c : List ℕ) → schema.IsName s → schema.IsName c → IsPortName (in_column s c)
unfolding in_column
in_column-name s c h k = record {
  name = record {
    first = refl;
    each = behind (codes "in__" ++ s ++ codes "__") c (around (codes "in__") s (codes "__") refl (plain s h).bytes refl) (plain c k).bytes;
    short = omega (arith, length-append (codes "in__" ++ s ++ codes "__") c, length-append (codes "in__" ++ s) (codes "__"), length-append (codes "in__") s, (plain s h).short, (plain c k).short);
    free = refl;
  };
  clock = refl;
}

in_parameter-name : (p : List ℕ) → schema.IsName p → IsPortName (in_parameter p)
unfolding in_parameter
in_parameter-name p h = record {
  name = record {
    first = refl;
    each = behind (codes "set__") p refl (plain p h).bytes;
    short = omega (arith, length-append (codes "set__") p, (plain p h).short);
    free = refl;
  };
  clock = refl;
}

out_column-name : (c : List ℕ) → schema.IsName c → IsPortName (out_column c)
unfolding out_column
out_column-name c k = record {
  name = record {
    first = refl;
    each = behind (codes "out__") c refl (plain c k).bytes;
    short = omega (arith, length-append (codes "out__") c, (plain c k).short);
    free = refl;
  };
  clock = refl;
}

-- the module's name
pub module_name-name : (into : List ℕ) → schema.IsName into → IsName (codes "q__" ++ into)
module_name-name into h = record {
  first = refl;
  each = behind (codes "q__") into refl (plain into h).bytes;
  short = omega (arith, length-append (codes "q__") into, (plain into h).short);
  free = refl;
}

rst-name : IsPortName rst
unfolding rst
rst-name = record { name = record { first = refl; each = refl; short = omega arith; free = refl }; clock = refl }

eos-name : IsPortName eos
unfolding eos
eos-name = record { name = record { first = refl; each = refl; short = omega arith; free = refl }; clock = refl }

tick-name : IsPortName tick
unfolding tick
tick-name = record { name = record { first = refl; each = refl; short = omega arith; free = refl }; clock = refl }

ticks_named : (ticks : Bool) → AllByRecursion IsPortName (tick_port ticks)
ticks_named true = (tick-name, tt)
ticks_named false = tt

out_valid-name : IsPortName out_valid
unfolding out_valid
out_valid-name = record { name = record { first = refl; each = refl; short = omega arith; free = refl }; clock = refl }

out_eos-name : IsPortName out_eos
unfolding out_eos
out_eos-name = record { name = record { first = refl; each = refl; short = omega arith; free = refl }; clock = refl }

fault_group-name : IsPortName fault_group
unfolding fault_group
fault_group-name = record { name = record { first = refl; each = refl; short = omega arith; free = refl }; clock = refl }

fault_queue-name : IsPortName fault_queue
unfolding fault_queue
fault_queue-name = record { name = record { first = refl; each = refl; short = omega arith; free = refl }; clock = refl }

pub All-append : (P : List ℕ → Type 0) (xs ys : List (List ℕ)) → AllByRecursion P xs → AllByRecursion P ys → AllByRecursion P (xs ++ ys)
All-append P [] ys h k = k
All-append P (x ∷ xs) ys h k = (h.0, All-append P xs ys h.1 k)

columns_named : (s : List ℕ) (cs : List Column) → schema.IsName s → AllByRecursion IsColumn cs → AllByRecursion IsPortName (column_ports s cs)
columns_named s [] h all = tt
columns_named s (c ∷ cs) h all = (in_column-name s c.name h all.0.name, columns_named s cs h all.1)

streams_named : (ss : List Stream) → AllByRecursion IsStream ss → AllByRecursion IsPortName (streams_ports ss)
streams_named [] all = tt
streams_named (s ∷ ss) all =
    All-append IsPortName (stream_ports s) (streams_ports ss) (in_valid-name s.name all.0.name, columns_named s.name s.columns all.0.name all.0.columns) (streams_named ss all.1)

parameters_named : (ps : List Column) → AllByRecursion IsColumn ps → AllByRecursion IsPortName (parameter_ports ps)
parameters_named [] all = tt
parameters_named (p ∷ ps) all = (in_parameter-name p.name all.0.name, parameters_named ps all.1)

late_named : (ticks : Bool) (ps : List Column) → AllByRecursion IsColumn ps → AllByRecursion IsPortName (late_ports ticks ps)
late_named ticks ps all = All-append IsPortName (tick_port ticks) (parameter_ports ps) (ticks_named ticks) (parameters_named ps all)

outs_named : (cs : List (List ℕ)) → AllByRecursion schema.IsName cs → AllByRecursion IsPortName (map out_column cs)
outs_named [] all = tt
outs_named (c ∷ cs) all = (out_column-name c all.0, outs_named cs all.1)

result_named : (cs : List (List ℕ)) → AllByRecursion schema.IsName cs → AllByRecursion IsPortName (result_ports cs)
result_named cs all =
    (out_valid-name, All-append IsPortName (map out_column cs) (out_eos ∷ fault_group ∷ fault_queue ∷ []) (outs_named cs all) (out_eos-name, (fault_group-name, (fault_queue-name, tt))))

-- all ports of a module with outputs of such names have names of the subset
pub modules_named : (ticks : Bool) (s : Schema) (outs : List (List ℕ)) → IsSchema s → AllByRecursion IsPortName outs
    → AllByRecursion IsPortName (module_names ticks s outs)
modules_named ticks s outs is all = (
  rst-name,
  All-append IsPortName (streams_ports s.streams) (eos ∷ (late_ports ticks s.parameters ++ outs)) (streams_named s.streams is.streams)
      (eos-name, All-append IsPortName (late_ports ticks s.parameters) outs (late_named ticks s.parameters is.declared.each) all),
)

pub ports_named : (ticks : Bool) (s : Schema) (cs : List (List ℕ)) → IsSchema s → AllByRecursion schema.IsName cs
    → AllByRecursion IsPortName (port_names ticks s cs)
ports_named ticks s cs is all = modules_named ticks s (result_ports cs) is (result_named cs all)
