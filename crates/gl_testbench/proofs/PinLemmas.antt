-- No port by which beats come, or a result is shown, has the clock's name.
use Rattle.std.proofs.Common.{◌≡◌, ℕ, zero, suc, false, List, [], ◌∷◌, ◌++◌, map, Option, Some, None, refl, codes}
use Rattle.std.specs.Prelude.{bytes_eq}
use Rattle.std.specs.List.{AllByRecursion}
use Rattle.gl_schema.specs.declared.schema.Column.{Column}
use Rattle.gl_schema.specs.declared.schema.Stream.{Stream}
use Rattle.gl_schema.specs.declared.schema.Schema.{Schema}
use Rattle.gl_schema.specs.Beats.{Beats, rows_at}
use Rattle.gl_schema.specs.Ports.{Pin, pins, column_pins, stream_pins, streams_pins, parameter_pins, rst, eos, tick, in_valid, in_column, in_parameter, out_column}
use Rattle.gl_testbench.proofs.Showing.{NoClock}

-- ---- what beats put on ports

abbrev IsOther : Pin → Type 0
IsOther p = bytes_eq p.name (codes "clk") ≡ false

Other-join : (xs ys : List Pin) → AllByRecursion IsOther xs → AllByRecursion IsOther ys → AllByRecursion IsOther (xs ++ ys)
Other-join [] ys h k = k
Other-join (x ∷ xs) ys h k = (h.0, Other-join xs ys h.1 k)

valid_other : (s : List ℕ) → bytes_eq (in_valid s) (codes "clk") ≡ false
unfolding in_valid
valid_other s = refl

column_other : (s c : List ℕ) → bytes_eq (in_column s c) (codes "clk") ≡ false
unfolding in_column
column_other s c = refl

columns_other : (s : List ℕ) (cs : List Column) (row : List ℕ) → AllByRecursion IsOther (column_pins s cs row)
columns_other s [] row = tt
columns_other s (c ∷ cs) [] = (column_other s c.name, columns_other s cs [])
columns_other s (c ∷ cs) (n ∷ ns) = (column_other s c.name, columns_other s cs ns)

stream_other : (s : Stream) (row : Option (List ℕ)) → AllByRecursion IsOther (stream_pins s row)
stream_other s None = (valid_other s.name, columns_other s.name s.columns [])
stream_other s (Some row) = (valid_other s.name, columns_other s.name s.columns row)

streams_other : (ss : List Stream) (rows : List (Option (List ℕ))) → AllByRecursion IsOther (streams_pins ss rows)
streams_other [] rows = tt
streams_other (s ∷ ss) [] = Other-join (stream_pins s None) (streams_pins ss []) (stream_other s None) (streams_other ss [])
streams_other (s ∷ ss) (r ∷ rows) = Other-join (stream_pins s r) (streams_pins ss rows) (stream_other s r) (streams_other ss rows)

parameter_other : (p : List ℕ) → bytes_eq (in_parameter p) (codes "clk") ≡ false
unfolding in_parameter
parameter_other p = refl

parameters_other : (ps : List Column) (sets : List ℕ) → AllByRecursion IsOther (parameter_pins ps sets)
parameters_other [] sets = tt
parameters_other (p ∷ ps) [] = (parameter_other p.name, parameters_other ps [])
parameters_other (p ∷ ps) (n ∷ ns) = (parameter_other p.name, parameters_other ps ns)

pub pins_other : (schema : Schema) (beats : Beats) (t : ℕ) → AllByRecursion IsOther (pins schema beats t)
unfolding rst eos tick
pins_other schema beats zero = (refl, Other-join (streams_pins schema.streams []) _ (streams_other schema.streams []) (refl, (refl, parameters_other schema.parameters beats.sets)))
pins_other schema beats (suc n) = (refl, Other-join (streams_pins schema.streams (rows_at beats.list n)) _ (streams_other schema.streams (rows_at beats.list n)) (refl, (refl, parameters_other schema.parameters beats.sets)))

-- ---- the columns of a result

pub outs_other : (ns : List (List ℕ)) → NoClock (map out_column ns)
unfolding out_column
outs_other [] = tt
outs_other (n ∷ ns) = (refl, outs_other ns)
