-- What a query may read, as code has it.
-- A middle layer, proved equal to `Columns`: no promise rests on it.
use Rattle.std.specs.Prelude.{◌∷◌, true, false}
use Rattle.gl_query.specs.Columns.{parameter_stream, variable}
use Rattle.gl_query.specs.Accepted.{Scope}
use Rattle.gl_query.specs.declared.columns.Sources.{Sources}
use Rattle.gl_query.specs.declared.columns.Sources.TheVariants.{Schema, Variable}

-- the scope that code holds: the parameters, and a schema's streams, with times, or one variable, without
abbrev pub scope_of : Sources → Scope
scope_of (Schema streams parameters) =
    record { sources = parameter_stream parameters.now ∷ streams.now; timed = true }
scope_of (Variable name columns parameters) =
    record { sources = parameter_stream parameters.now ∷ variable name.now columns.now; timed = false }
