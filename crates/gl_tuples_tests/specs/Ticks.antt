-- Worked beats with ticks, and records that say some.
use Rattle.std.specs.Prelude.{ℕ, Bool, true, false, List, [], ◌∷◌, Option, Some, None, codes}
use Rattle.gl_values.specs.declared.kind.Kind.TheVariants.{Unsigned}
use Rattle.gl_schema.specs.declared.schema.Schema.{Schema}
use Rattle.gl_schema.specs.Beats.{Beat}

-- a beat of one stream
abbrev pub beat : ℕ → Option (List ℕ) → Bool → Bool → Beat
beat cycle row ticks ends = record { cycle = cycle; rows = row ∷ []; tick = ticks; end = ends }

-- a row without a tick, one with a tick, a tick alone, a further row, and a tick with the end
abbrev pub ticking : List Beat
ticking =
    beat 0 (Some (7 ∷ [])) false false ∷ beat 1 (Some (8 ∷ [])) true false ∷ beat 3 None true false ∷ beat 4
    (Some (9 ∷ [])) false false
    ∷ beat 5 None true true ∷ []

-- a stream with one column
abbrev pub schema : Schema
schema = record {
  streams = record { name = codes "s"; columns = record { name = codes "v"; kind = Unsigned 8 } ∷ [] } ∷ [];
  parameters = [];
}

-- a record that says a tick of cycle 0, with these fields behind
abbrev pub tick_record : List (List ℕ) → List (List ℕ)
tick_record behind = codes "0" ∷ codes "tick" ∷ behind
