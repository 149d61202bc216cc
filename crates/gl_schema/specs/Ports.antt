-- What beats put on the input ports of a module. Simulation cycle 0 is reset, and file cycle n is simulation cycle n +
-- 1.
use Rattle.std.specs.Prelude.{◌≡◌, ℕ, zero, suc, List, [], ◌∷◌, ◌++◌, map, Option, None, codes, is_some, unwrap_or, IfSome}
use Rattle.std.specs.List.{AllByRecursion}
use Rattle.gl_bits.specs.Words.{bit}
use Rattle.gl_schema.specs.declared.schema.Column.{Column}
use Rattle.gl_schema.specs.declared.schema.Stream.{Stream}
use Rattle.gl_schema.specs.declared.schema.Schema.{Schema}
use Rattle.gl_schema.specs.Beats.{Beats, rows_at, ends_at, ticks_at}

-- the input port of the reset
unfoldable pub rst : List ℕ
rst = codes "rst"

-- the input port on which the end comes
unfoldable pub eos : List ℕ
eos = codes "eos"

-- the input port on which a tick comes
unfoldable pub tick : List ℕ
tick = codes "tick"

-- the input port that says whether a tuple of a stream comes
unfoldable pub in_valid : List ℕ → List ℕ
in_valid stream = codes "in__" ++ stream ++ codes "__valid"

-- the input port of a column of a stream
unfoldable pub in_column : List ℕ → List ℕ → List ℕ
in_column stream column = codes "in__" ++ stream ++ codes "__" ++ column

-- the input port of a parameter
unfoldable pub in_parameter : List ℕ → List ℕ
in_parameter name = codes "set__" ++ name

-- the output port that says whether a row of the result leaves
unfoldable pub out_valid : List ℕ
out_valid = codes "out__valid"

-- the output port of a column of the result
unfoldable pub out_column : List ℕ → List ℕ
out_column column = codes "out__" ++ column

-- the output port that shows the end of the result
unfoldable pub out_eos : List ℕ
out_eos = codes "out__eos"

-- the output port that shows that a further group came
unfoldable pub fault_group : List ℕ
fault_group = codes "fault__group"

-- the output port that shows that a queue overflowed
unfoldable pub fault_queue : List ℕ
fault_queue = codes "fault__queue"

-- a port and the value put on it
pub record Pin : Type 0 where
  pub name : List ℕ
  pub value : ℕ

-- a port by its name, with the value that it takes
abbrev pub pin : List ℕ → ℕ → Pin
pin name value = record { name = name; value = value }

-- a row on the columns of a stream, 0 on each column that it has no word for
abbrev pub column_pins : List ℕ → List Column → List ℕ → List Pin
column_pins stream [] row = []
column_pins stream (c ∷ cs) [] = pin (in_column stream c.name) 0 ∷ column_pins stream cs []
column_pins stream (c ∷ cs) (n ∷ ns) = pin (in_column stream c.name) n ∷ column_pins stream cs ns

-- a stream with a tuple: valid is 1 and the row is on its columns; without one all its ports are 0
abbrev pub stream_pins : Stream → Option (List ℕ) → List Pin
stream_pins s row = pin (in_valid s.name) (bit (is_some row)) ∷ column_pins s.name s.columns (unwrap_or row [])

-- all streams, with one entry each, or with none
abbrev pub streams_pins : List Stream → List (Option (List ℕ)) → List Pin
streams_pins [] rows = []
streams_pins (s ∷ ss) [] = stream_pins s None ++ streams_pins ss []
streams_pins (s ∷ ss) (r ∷ rs) = stream_pins s r ++ streams_pins ss rs

-- the parameters with their words, 0 on each that has no word
abbrev pub parameter_pins : List Column → List ℕ → List Pin
parameter_pins [] sets = []
parameter_pins (p ∷ ps) [] = pin (in_parameter p.name) 0 ∷ parameter_pins ps []
parameter_pins (p ∷ ps) (n ∷ ns) = pin (in_parameter p.name) n ∷ parameter_pins ps ns

-- all input ports but the clock, with their values in a simulation cycle: in reset rst is 1 and nothing comes, and the
-- parameters have their words in every cycle
abbrev pub pins : Schema → Beats → ℕ → List Pin
pins schema beats zero =
    pin rst 1 ∷ (streams_pins schema.streams [] ++ pin eos 0 ∷ pin tick 0 ∷ parameter_pins schema.parameters beats.sets)
pins schema beats (suc n) =
    pin rst 0 ∷ (streams_pins schema.streams (rows_at beats.list n) ++ pin eos (bit (ends_at beats.list n)) ∷ pin tick
    (bit (ticks_at beats.list n))
    ∷ parameter_pins schema.parameters beats.sets)

-- the names of ports with values, in their order
abbrev pub pin_names : List Pin → List (List ℕ)
pin_names ps = map (λ p. p.name) ps

-- the ports of a module in a run: the value in a simulation cycle of the port of a name, None where the module lacks it
abbrev pub PortValues : Type 0
PortValues = ℕ → List ℕ → Option ℕ

-- in every cycle each of these ports that the module has carries its value
pub record IsStimulus (schema : Schema) (beats : Beats) (port : PortValues) : Type 0 where
  pub carries : (t : ℕ) → AllByRecursion (λ p. IfSome (port t p.name) (λ v. v ≡ p.value)) (pins schema beats t)
