-- Worked records that set a parameter, and the beats behind them.
use Rattle.std.specs.Prelude.{ℕ, List, [], ◌∷◌, codes}
use Rattle.gl_values.specs.declared.kind.Kind.TheVariants.{Unsigned}
use Rattle.gl_schema.specs.declared.schema.Schema.{Schema}

-- a stream and a parameter
abbrev pub schema : Schema
schema = record {
  streams = record { name = codes "s"; columns = record { name = codes "v"; kind = Unsigned 8 } ∷ [] } ∷ [];
  parameters = record { name = codes "floor"; kind = Unsigned 8 } ∷ [];
}

-- a record that gives the parameter this value
abbrev pub set_record : List ℕ → List (List ℕ)
set_record value = codes "set" ∷ codes "floor" ∷ value ∷ []

-- a tuple of cycle 0
abbrev pub row_record : List (List ℕ)
row_record = codes "0" ∷ codes "s" ∷ codes "7" ∷ []
