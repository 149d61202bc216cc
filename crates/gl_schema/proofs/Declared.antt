-- One more declaration behind others.
use Rattle.std.proofs.Common.{◌≡◌, List, [], ◌∷◌, ◌++◌, ap, ◌∙◌}
use Rattle.std.specs.Prelude.{filter_map}
use Rattle.std.proofs.lemmas.List.{append-nil}
use Rattle.std.proofs.lemmas.List.Elements.{filter_map-append}
use Rattle.gl_schema.specs.declared.schema.Column.{Column}
use Rattle.gl_schema.specs.declared.schema.Stream.{Stream}
use Rattle.gl_schema.specs.declared.schema.Schema.{Schema}
use Rattle.gl_schema.specs.SchemaText.{Declaration, OfStream, OfParameter, stream_in, parameter_in, schema_in}
use Rattle.gl_schema.specs.SchemaFaults.{with_stream, with_parameter}

-- a schema of these parts
abbrev parts : List Stream → List Column → Schema
parts streams parameters = record { streams = streams; parameters = parameters }

-- a stream behind declarations
pub one_stream : (all : List Declaration) (schema : Schema) (s : Stream) → schema_in all ≡ schema → schema_in (all ++ OfStream s ∷ []) ≡ with_stream schema s
one_stream all schema s same =
    ap (λ (x : List Stream). parts x (filter_map parameter_in (all ++ OfStream s ∷ []))) (filter_map-append stream_in all (OfStream s ∷ []) ∙ ap (λ (x : Schema). x.streams ++ s ∷ []) same)
    ∙ ap (λ (y : List Column). parts (schema.streams ++ s ∷ []) y) (filter_map-append parameter_in all (OfStream s ∷ []) ∙ append-nil (filter_map parameter_in all) ∙ ap (λ (x : Schema). x.parameters) same)

-- a parameter behind declarations
pub one_parameter : (all : List Declaration) (schema : Schema) (p : Column) → schema_in all ≡ schema → schema_in (all ++ OfParameter p ∷ []) ≡ with_parameter schema p
one_parameter all schema p same =
    ap (λ (x : List Stream). parts x (filter_map parameter_in (all ++ OfParameter p ∷ []))) (filter_map-append stream_in all (OfParameter p ∷ []) ∙ append-nil (filter_map stream_in all) ∙ ap (λ (x : Schema). x.streams) same)
    ∙ ap (λ (y : List Column). parts schema.streams y) (filter_map-append parameter_in all (OfParameter p ∷ []) ∙ ap (λ (x : Schema). x.parameters ++ p ∷ []) same)
