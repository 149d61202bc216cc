-- What beats put on the input ports goes by the profile.
use Rattle.std.proofs.Common.{◌≡◌, ℕ, zero, suc, ◌^◌, ◌<◌, Bool, true, false, List, [], ◌∷◌, ◌++◌, Option, Some, None, refl, ap, ◌∙◌, arith, cond, sym}
use Rattle.std.specs.Prelude.{unwrap_or, IfSome, ◌==◌}
use Rattle.std.specs.Option.{option_map_or}
use Rattle.std.specs.List.{AllByRecursion, AllZip}
use Rattle.std.proofs.lemmas.Nat.{pow_pos}
use Rattle.std.proofs.lemmas.List.{map-append}
use Rattle.gl_bits.proofs.Bools.{bit_fits}
use Rattle.gl_bits.proofs.AllLists.{zip_append}
use Rattle.gl_values.specs.Kinds.{width_of}
use Rattle.gl_bits.specs.Words.{bit}
use Rattle.gl_schema.specs.declared.schema.Column.{Column}
use Rattle.gl_schema.specs.declared.schema.Stream.{Stream}
use Rattle.gl_schema.specs.declared.schema.Schema.{Schema}
use Rattle.gl_schema.specs.Schemas.{IsRowOf}
use Rattle.gl_schema.specs.Beats.{Beat, Beats, AreBeats, AreRowsOf, IsBeat, beat_at, rows_at, ends_at, ticks_at}
use Rattle.gl_schema.specs.Ports.{rst, eos, tick, in_valid, in_column, in_parameter, Pin, pin, pin_names, column_pins, stream_pins, streams_pins, parameter_pins, pins}
use Rattle.gl_schema.specs.Profile.{ProfilePort, column_inputs, stream_inputs, streams_inputs, parameter_inputs, last_inputs, input_ports, port_names, CanCarry}

-- ---- the names

columns_named : (stream : List ℕ) (cs : List Column) (row : List ℕ) → pin_names (column_pins stream cs row) ≡ port_names (column_inputs stream cs)
columns_named stream [] row = refl
columns_named stream (c ∷ cs) [] = ap (λ (x : List (List ℕ)). in_column stream c.name ∷ x) (columns_named stream cs [])
columns_named stream (c ∷ cs) (n ∷ ns) = ap (λ (x : List (List ℕ)). in_column stream c.name ∷ x) (columns_named stream cs ns)

stream_named : (s : Stream) (row : Option (List ℕ)) → pin_names (stream_pins s row) ≡ port_names (stream_inputs s)
stream_named s row = ap (λ (x : List (List ℕ)). in_valid s.name ∷ x) (columns_named s.name s.columns (unwrap_or row []))

-- two names lists behind one another
both_named : (as' bs : List Pin) (ps qs : List ProfilePort) → pin_names as' ≡ port_names ps → pin_names bs ≡ port_names qs → pin_names (as' ++ bs) ≡ port_names (ps ++ qs)
both_named as' bs ps qs h k = map-append (λ (p : Pin). p.name) as' bs ∙ ap (λ (x : List (List ℕ)). x ++ pin_names bs) h ∙ ap (λ (x : List (List ℕ)). port_names ps ++ x) k
    ∙ sym (map-append (λ (p : ProfilePort). p.name) ps qs)

streams_named : (ss : List Stream) (rows : List (Option (List ℕ))) → pin_names (streams_pins ss rows) ≡ port_names (streams_inputs ss)
streams_named [] rows = refl
streams_named (s ∷ ss) [] = both_named (stream_pins s None) (streams_pins ss []) (stream_inputs s) (streams_inputs ss) (stream_named s None) (streams_named ss [])
streams_named (s ∷ ss) (r ∷ rs) = both_named (stream_pins s r) (streams_pins ss rs) (stream_inputs s) (streams_inputs ss) (stream_named s r) (streams_named ss rs)

parameters_named : (ps : List Column) (sets : List ℕ) → pin_names (parameter_pins ps sets) ≡ port_names (parameter_inputs ps)
parameters_named [] sets = refl
parameters_named (p ∷ ps) [] = ap (λ (x : List (List ℕ)). in_parameter p.name ∷ x) (parameters_named ps [])
parameters_named (p ∷ ps) (n ∷ ns) = ap (λ (x : List (List ℕ)). in_parameter p.name ∷ x) (parameters_named ps ns)

whole_named : (schema : Schema) (reset : ℕ) (rows : List (Option (List ℕ))) (end ticked : ℕ) (sets : List ℕ)
    → pin_names (pin rst reset ∷ (streams_pins schema.streams rows ++ pin eos end ∷ pin tick ticked ∷ parameter_pins schema.parameters sets)) ≡ port_names (input_ports true schema)
whole_named schema reset rows end ticked sets =
    ap (λ (x : List (List ℕ)). rst ∷ x)
    (both_named (streams_pins schema.streams rows) (pin eos end ∷ pin tick ticked ∷ parameter_pins schema.parameters sets) (streams_inputs schema.streams) (last_inputs true schema)
    (streams_named schema.streams rows) (ap (λ (x : List (List ℕ)). eos ∷ tick ∷ x) (parameters_named schema.parameters sets)))

pub pins_named : (schema : Schema) (beats : Beats) (t : ℕ) → pin_names (pins schema beats t) ≡ port_names (input_ports true schema)
pins_named schema beats zero = whole_named schema 1 [] 0 0 beats.sets
pins_named schema beats (suc n) = whole_named schema 0 (rows_at beats.list n) (bit (ends_at beats.list n)) (bit (ticks_at beats.list n)) beats.sets

-- ---- the values

no_columns : (stream : List ℕ) (cs : List Column) → AllZip CanCarry (column_inputs stream cs) (column_pins stream cs [])
no_columns stream [] = tt
no_columns stream (c ∷ cs) = (pow_pos (width_of c.kind), no_columns stream cs)

columns_fit : (stream : List ℕ) (cs : List Column) (row : List ℕ) → IsRowOf cs row → AllZip CanCarry (column_inputs stream cs) (column_pins stream cs row)
columns_fit stream [] row h = tt
columns_fit stream (c ∷ cs) [] h = absurd h
columns_fit stream (c ∷ cs) (n ∷ ns) h = (h.0, columns_fit stream cs ns h.1)

stream_fits : (s : Stream) (row : Option (List ℕ)) → IfSome row (IsRowOf s.columns) → AllZip CanCarry (stream_inputs s) (stream_pins s row)
stream_fits s None h = (bit_fits false, no_columns s.name s.columns)
stream_fits s (Some row) h = (bit_fits true, columns_fit s.name s.columns row h)

no_streams : (ss : List Stream) → AllZip CanCarry (streams_inputs ss) (streams_pins ss [])
no_streams [] = tt
no_streams (s ∷ ss) = zip_append CanCarry (stream_inputs s) (streams_inputs ss) (stream_pins s None) (streams_pins ss []) (stream_fits s None tt) (no_streams ss)

streams_fit : (ss : List Stream) (rows : List (Option (List ℕ))) → AreRowsOf ss rows → AllZip CanCarry (streams_inputs ss) (streams_pins ss rows)
streams_fit [] rows h = tt
streams_fit (s ∷ ss) [] h = absurd h
streams_fit (s ∷ ss) (r ∷ rs) h = zip_append CanCarry (stream_inputs s) (streams_inputs ss) (stream_pins s r) (streams_pins ss rs) (stream_fits s r h.0) (streams_fit ss rs h.1)

parameters_fit : (ps : List Column) (sets : List ℕ) → IsRowOf ps sets → AllZip CanCarry (parameter_inputs ps) (parameter_pins ps sets)
parameters_fit [] sets h = tt
parameters_fit (p ∷ ps) [] h = absurd h
parameters_fit (p ∷ ps) (n ∷ ns) h = (h.0, parameters_fit ps ns h.1)

whole_fits : (schema : Schema) (reset : ℕ) (rows : List (Option (List ℕ))) (ends ticks : Bool) (sets : List ℕ) → reset < 2 ^ 1 → AllZip CanCarry (streams_inputs schema.streams) (streams_pins schema.streams rows) → IsRowOf schema.parameters sets
    → AllZip CanCarry (input_ports true schema) (pin rst reset ∷ (streams_pins schema.streams rows ++ pin eos (bit ends) ∷ pin tick (bit ticks) ∷ parameter_pins schema.parameters sets))
whole_fits schema reset rows ends ticks sets small h held = (
  small,
  zip_append CanCarry (streams_inputs schema.streams) (last_inputs true schema) (streams_pins schema.streams rows) (pin eos (bit ends) ∷ pin tick (bit ticks) ∷ parameter_pins schema.parameters sets) h
      (bit_fits ends, (bit_fits ticks, parameters_fit schema.parameters sets held)),
)

-- what holds of each beat holds of the one of a cycle
found_beat : (P : Beat → Type 0) (beats : List Beat) (n : ℕ) → AllByRecursion P beats → IfSome (beat_at beats n) P
found_beat P [] n h = tt
found_beat P (b ∷ beats) n h = pick (b.cycle == n) (found_beat P beats n h.1)
  where
    pick : (c : Bool) → IfSome (beat_at beats n) P → IfSome (cond c (Some b) (beat_at beats n)) P
    pick true later = h.0
    pick false later = later

cycle_fits : (schema : Schema) (beat : Option Beat) (sets : List ℕ) → IfSome beat (IsBeat schema) → IsRowOf schema.parameters sets
    → AllZip CanCarry (input_ports true schema) (pin rst 0 ∷ (streams_pins schema.streams (option_map_or (λ (b : Beat). b.rows) beat []) ++ pin eos (bit (option_map_or (λ (b : Beat). b.end) beat false)) ∷ pin tick (bit (option_map_or (λ (b : Beat). b.tick) beat false)) ∷ parameter_pins schema.parameters sets))
cycle_fits schema None sets h held = whole_fits schema 0 [] false false sets (omega arith) (no_streams schema.streams) held
cycle_fits schema (Some b) sets h held = whole_fits schema 0 b.rows b.end b.tick sets (omega arith) (streams_fit schema.streams b.rows h.rows) held

pub pins_fit : (schema : Schema) (beats : Beats) (t : ℕ) → AreBeats schema beats → AllZip CanCarry (input_ports true schema) (pins schema beats t)
pins_fit schema beats zero h = whole_fits schema 1 [] false false beats.sets (omega arith) (no_streams schema.streams) h.held
pins_fit schema beats (suc n) h = cycle_fits schema (beat_at beats.list n) beats.sets (found_beat (IsBeat schema) beats.list n h.each) h.held
