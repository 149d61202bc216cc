-- Worked beats of two streams, with a value for a parameter, and what stands on the ports of a module.
use Rattle.std.specs.Prelude.{ℕ, true, false, List, [], ◌∷◌, Some, None, codes}
use Rattle.gl_values.specs.declared.kind.Kind.TheVariants.{Unsigned}
use Rattle.gl_schema.specs.declared.schema.Column.{Column}
use Rattle.gl_schema.specs.declared.schema.Schema.{Schema}
use Rattle.gl_schema.specs.Beats.{Beats}
use Rattle.gl_schema.specs.Ports.{Pin, pin}

-- a column of eight bits, or a parameter
abbrev pub byte : List ℕ → Column
byte name = record { name = name; kind = Unsigned 8 }

-- two streams of one column, and a parameter
abbrev pub schema : Schema
schema = record {
  streams = record { name = codes "s"; columns = byte (codes "v") ∷ [] }
      ∷ record { name = codes "t"; columns = byte (codes "w") ∷ [] } ∷ [];
  parameters = byte (codes "floor") ∷ [];
}

-- a tuple of the first stream in file cycle 0, a tick with the end in file cycle 2, and 5 for the parameter
abbrev pub beats : Beats
beats = record {
  list = record { cycle = 0; rows = Some (7 ∷ []) ∷ None ∷ []; tick = false; end = false }
      ∷ record { cycle = 2; rows = None ∷ None ∷ []; tick = true; end = true } ∷ [];
  sets = 5 ∷ [];
}

-- the ports of both streams, without a tuple of the second one
abbrev pub two_streams : ℕ → ℕ → List Pin → List Pin
two_streams valid value others =
    pin (codes "in__s__valid") valid ∷ pin (codes "in__s__v") value ∷ pin (codes "in__t__valid") 0
    ∷ pin (codes "in__t__w") 0 ∷ others

-- the ports behind them, the parameter's too, which has its value in each cycle
abbrev pub others : ℕ → ℕ → List Pin
others end ticks = pin (codes "eos") end ∷ pin (codes "tick") ticks ∷ pin (codes "set__floor") 5 ∷ []
