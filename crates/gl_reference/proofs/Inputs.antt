-- The sources of a schema, one stream more.
use Rattle.std.proofs.Common.{◌≡◌, ℕ, zero, suc, ◌+◌, ◌<◌, List, [], ◌∷◌, ◌++◌, length, take, get_or, refl, sym, ap, ◌∙◌, arith}
use Rattle.gl_schema.specs.declared.schema.Stream.{Stream}
use Rattle.gl_values.specs.Results.{Row}
use Rattle.gl_schema.specs.Beats.{Inputs}
use Rattle.gl_query.specs.Results.{Source, numbered}
use Rattle.std.specs.Prelude.{slice_get, unwrap_or}
use Rattle.gl_reference.specs.declared.columns.Source.{Source as Given}
use Rattle.gl_reference.specs.Sources.{env_view, source_of}

pub input_is : {A : Type 0} (inputs : List (List A)) (i : ℕ) (rows : List A) → i < length inputs → rows ≡ get_or inputs i rows → rows ≡ unwrap_or (slice_get inputs i) []
input_is [] i rows lt is = absurd (omega arith)
input_is (x ∷ xs) zero rows lt is = is
input_is (x ∷ xs) (suc i) rows lt is = input_is xs i rows (omega arith) is

pub numbered_more : (k : ℕ) (streams : List Stream) (inputs : Inputs) (i : ℕ) (s : Stream) (rows : List Row) (places times : List ℕ) → i < length streams → s ≡ get_or streams i s
    → rows ≡ inputs.rows (k + i) → places ≡ inputs.places (k + i) → times ≡ inputs.times (k + i)
    → numbered k (take (i + 1) streams) inputs ≡ numbered k (take i streams) inputs ++ record { stream = s; rows = rows; places = places; times = times; ticks = inputs.ticks } ∷ []
numbered_more k [] inputs i s rows places times lt is from put at = absurd (omega arith)
numbered_more k (x ∷ xs) inputs zero s rows places times lt is from put at =
    let place : k + 0 ≡ k = omega arith in
    let one : Stream → List Row → List ℕ → List ℕ → Source = λ z r q t. record { stream = z; rows = r; places = q; times = t; ticks = inputs.ticks } in
    (λ j. one (sym is j) (sym (from ∙ ap inputs.rows place) j) (sym (put ∙ ap inputs.places place) j) (sym (at ∙ ap inputs.times place) j) ∷ [])
numbered_more k (x ∷ xs) inputs (suc i) s rows places times lt is from put at =
    let next : suc i + 1 ≡ suc (i + 1) = omega arith in
    let place : k + suc i ≡ k + 1 + i = omega arith in
    ap (λ n. numbered k (take n (x ∷ xs)) inputs) next
    ∙ ap (λ l. record { stream = x; rows = inputs.rows k; places = inputs.places k; times = inputs.times k; ticks = inputs.ticks } ∷ l)
    (numbered_more (k + 1) xs inputs i s rows places times (omega arith) is (from ∙ ap inputs.rows place) (put ∙ ap inputs.places place) (at ∙ ap inputs.times place))

pub env_push : (sources : List Given) (y : Given) → env_view (sources ++ y ∷ []) ≡ env_view sources ++ source_of y ∷ []
env_push [] y = refl
env_push (x ∷ xs) y = ap (λ l. source_of x ∷ l) (env_push xs y)
