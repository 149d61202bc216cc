-- The same, as it is looked for: a name is compared piece by piece, and no name is made.
-- A middle layer, proved equal to `Fit`: no promise rests on it.
use Rattle.std.specs.Prelude.{ℕ, Bool, false, List, [], ◌∷◌, Option, None, Some, codes, bytes_eq, nat_eq, ◌==◌, unwrap_or, if◌then◌else◌}
use Rattle.std.specs.Option.{option_map_or, option_or}
use Rattle.gl_values.specs.Kinds.{width_of}
use Rattle.gl_schema.specs.declared.schema.Column.{Column}
use Rattle.gl_schema.specs.declared.schema.Stream.{Stream}
use Rattle.gl_schema.specs.declared.schema.Schema.{Schema}
use Rattle.gl_schema.specs.Ports.{rst, eos, tick}
use Rattle.gl_schema.specs.Profile.{clk}

-- what stands in a name behind this front
abbrev pub behind : List ℕ → List ℕ → Option (List ℕ)
behind [] name = Some name
behind (x ∷ front) [] = None
behind (x ∷ front) (y ∷ name) = if x == y then behind front name else None

-- a name is `in__`, a stream, and `__valid`
abbrev pub is_valid_name : List ℕ → List ℕ → Bool
is_valid_name stream name =
    option_map_or (λ rest. option_map_or (λ last. bytes_eq (codes "__valid") last) (behind stream rest) false)
    (behind (codes "in__") name) false

-- a name is `in__`, a stream, `__` and a column
abbrev pub is_column_name : List ℕ → List ℕ → List ℕ → Bool
is_column_name stream column name =
    option_map_or (λ rest. option_map_or (λ more. option_map_or (λ last. bytes_eq column last)
    (behind (codes "__") more) false) (behind stream rest) false) (behind (codes "in__") name) false

-- of the first port of a name, whether it has so many bits; None where none has the name
abbrev pub among_columns : List ℕ → List Column → List ℕ → ℕ → Option Bool
among_columns stream [] name width = None
among_columns stream (c ∷ cs) name width =
    if is_column_name stream c.name name then Some (nat_eq (width_of c.kind) width)
    else among_columns stream cs name width

-- whether a name of a stream's port has this width; nothing where the stream has no such port
abbrev pub among_stream : Stream → List ℕ → ℕ → Option Bool
among_stream s name width =
    if is_valid_name s.name name then Some (nat_eq 1 width) else among_columns s.name s.columns name width

-- whether a name of some stream's port has this width; nothing where no stream has such a port
abbrev pub among_streams : List Stream → List ℕ → ℕ → Option Bool
among_streams [] name width = None
among_streams (s ∷ ss) name width = option_or (among_stream s name width) (among_streams ss name width)

-- a name is `set__` and a parameter
abbrev pub is_parameter_name : List ℕ → List ℕ → Bool
is_parameter_name parameter name =
    option_map_or (λ last. bytes_eq parameter last) (behind (codes "set__") name) false

-- of the parameter of a name, whether it has so many bits; None where none has the name
abbrev pub among_parameters : List Column → List ℕ → ℕ → Option Bool
among_parameters [] name width = None
among_parameters (p ∷ ps) name width =
    if is_parameter_name p.name name then Some (nat_eq (width_of p.kind) width) else among_parameters ps name width

-- of the end, the tick and the parameters, which stand behind the streams
abbrev pub is_last_input : List Column → List ℕ → ℕ → Bool
is_last_input parameters name width =
    if bytes_eq eos name then nat_eq 1 width else if bytes_eq tick name then nat_eq 1 width
    else unwrap_or (among_parameters parameters name width) false

-- a name and a width are those of the clock, the reset, a stream's port, the end, the tick or a parameter
abbrev pub is_asked : Schema → List ℕ → ℕ → Bool
is_asked schema name width =
    if bytes_eq clk name then nat_eq 1 width else if bytes_eq rst name then nat_eq 1 width
    else unwrap_or (among_streams schema.streams name width) (is_last_input schema.parameters name width)
