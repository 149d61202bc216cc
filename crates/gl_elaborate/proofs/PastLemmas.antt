-- Streams behind the source of the parameters.
use Rattle.std.proofs.Common.{◌≡◌, ℕ, true, false, List, ◌∷◌, refl}
use Rattle.std.specs.Prelude.{bytes_eq, not}
use Rattle.gl_bits.proofs.Bools.{and_parts, by_cases}
use Rattle.gl_schema.specs.declared.schema.Column.{Column}
use Rattle.gl_schema.specs.declared.schema.Stream.{Stream}
use Rattle.gl_schema.specs.Schemas.{has_stream}
use Rattle.gl_query.specs.Accepted.{can_read}
use Rattle.gl_query.specs.Columns.{colon, parameter_stream, source_columns}

pub past_parameters : (parameters : List Column) (streams : List Stream) (name : List ℕ) → bytes_eq name colon ≡ false
    → source_columns (parameter_stream parameters ∷ streams) name ≡ source_columns streams name
past_parameters parameters streams name e = rw e refl

-- a source that a query may read is not that of the parameters
pub no_colon : (sources : List Stream) (name : List ℕ) → can_read sources name ≡ true → bytes_eq name colon ≡ false
no_colon sources name h =
    let parts = and_parts (not (bytes_eq name colon)) (has_stream sources name) h in
    by_cases (bytes_eq name colon) (λ e. absurd (let lost = rw e at parts.0 in cc)) (λ e. e)

-- and it is there
pub is_there : (sources : List Stream) (name : List ℕ) → can_read sources name ≡ true → has_stream sources name ≡ true
is_there sources name h = (and_parts (not (bytes_eq name colon)) (has_stream sources name) h).1

-- so it is one of the streams
pub among_streams : (parameters : List Column) (streams : List Stream) (name : List ℕ)
    → can_read (parameter_stream parameters ∷ streams) name ≡ true → has_stream streams name ≡ true
unfolding has_stream
among_streams parameters streams name h =
    let e = no_colon (parameter_stream parameters ∷ streams) name h in
    let there = is_there (parameter_stream parameters ∷ streams) name h in
    rw e at there
