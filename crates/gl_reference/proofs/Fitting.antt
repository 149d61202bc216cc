-- What the parts of an accepted query see over sources whose rows fit, and that their results fit.
use Rattle.std.proofs.Common.{◌≡◌, ℕ, zero, suc, ◌+◌, ◌<◌, Bool, true, false, List, [], ◌∷◌, length, refl, sym, ap, subst, ◌∙◌, map, take, nat_eq, get_or, arith}
use Rattle.std.specs.Prelude.{slice_index, Option}
use Rattle.std.specs.List.{AllByRecursion}
use Rattle.gl_values.specs.Lists.{Group as GroupOf}
use Rattle.gl_values.specs.Lists.{groups, keys_of, rows_with}
use Rattle.gl_values.specs.Tables.{keyed_groups}
use Rattle.gl_values.specs.Results.{Row}
use Rattle.gl_values.specs.declared.lists.Group.{Group}
use Rattle.gl_schema.specs.declared.schema.Column.{Column}
use Rattle.gl_schema.specs.declared.schema.Schema.{Schema}
use Rattle.gl_schema.specs.declared.schema.Stream.{Stream}
use Rattle.gl_schema.specs.Beats.{Inputs}
use Rattle.gl_schema.specs.Schemas.{IsRowOf}
use Rattle.gl_query.specs.declared.tree.Statement.{Statement}
use Rattle.gl_query.specs.Shapes.{QueryShape, query_shape}
use Rattle.gl_query.specs.Columns.{Pace, pace_of, parameters_in}
use Rattle.gl_query.specs.Accepted.{IsAcceptedOver, KeepPace, Scope, body_scope, schema_scope}
use Rattle.gl_query.specs.Results.{Env, IsResultIn, Source, columns_in, env_of, numbered, only, parameter_source, streams_of, variable_source, words_in}
use Rattle.gl_query.specs.Laws.{HoldsIn, ResultsFit, scope_of}
use Rattle.gl_query.proofs.Existing.{IsPaced, paced, one_pace}
use Rattle.gl_query.proofs.Real.{IsScope, body_is, real, schema_is}
use Rattle.gl_reference.specs.Fits.{AreRows, AreSources, IsBody, IsFit}
use Rattle.gl_reference.specs.Sources.{given_inputs}
use Rattle.gl_query.proofs.Holding.{all_filter, holds_within}

-- ---- sources

pub scope_is : (env : Env) (timed : Bool) → AreSources env → IsScope (scope_of env timed)
scope_is env timed s = record { columns = s.columns; kinds = s.kinds }

-- the columns of an accepted query are real, and the rows of its results fit them
pub rows_fit : ResultsFit → (env : Env) (timed : Bool) (q : QueryShape) (out : List Row) (spill : Bool) → AreSources env → IsAcceptedOver (scope_of env timed) q → IsResultIn q env out spill
    → AreRows (columns_in env q) out
rows_fit fitting env timed q out spill s a is = record { kinds = (real q (scope_of env timed) (scope_is env timed s) a).kinds; fit = fitting q env timed out spill a s.rows is }

-- a body over the columns of an accepted query
pub body_fits : (env : Env) (timed : Bool) (var : List ℕ) (source body : QueryShape) → AreSources env → IsAcceptedOver (scope_of env timed) source
    → IsAcceptedOver (body_scope (scope_of env timed) var (columns_in env source)) body → IsBody env var (columns_in env source) body
body_fits env timed var source body s a b =
    let r = real source (scope_of env timed) (scope_is env timed s) a in
    record { result = r.result; kinds = r.kinds; accepted = b }

-- what it sees
pub inside_fits : (env : Env) (var : List ℕ) (columns : List Column) (body : QueryShape) (rows : List Row) → AreSources env → IsBody env var columns body
    → AllByRecursion (IsRowOf columns) rows → AreSources (only env var columns rows)
inside_fits env var columns body rows s b h =
    let scope = body_is (scope_of env false) (scope_is env false s) var columns b.result b.kinds in
    record { columns = scope.columns; kinds = scope.kinds; rows = holds_within IsRowOf env s.rows var columns rows h }

-- a body over a part, with the parameters seen another way
pub body_passes : (env : Env) (var : List ℕ) (columns : List Column) (body : QueryShape) (rows : List Row) (outer : Source) (Passed : Type 0) → AreSources env
    → IsBody env var columns body → AllByRecursion (IsRowOf columns) rows → outer ≡ parameter_source (parameters_in (streams_of env)) (words_in env)
    → (AreSources (outer ∷ variable_source var columns rows ∷ [])
    → IsAcceptedOver (scope_of (outer ∷ variable_source var columns rows ∷ []) false) body → Passed) → Passed
body_passes env var columns body rows outer Passed s b h is f =
    let inner : Source = variable_source var columns rows in
    f (subst (λ (x : Source). AreSources (x ∷ inner ∷ [])) (sym is) (inside_fits env var columns body rows s b h))
    (subst (λ (x : Source). IsAcceptedOver (scope_of (x ∷ inner ∷ []) false) body) (sym is) b.accepted)

-- ---- parts of a list

pub all_place : {A : Type 0} (P : A → Type 0) (xs : List A) (i : ℕ) (x : A) → i < length xs → x ≡ get_or xs i x → AllByRecursion P xs → P x
all_place P [] i x lt is h = absurd (omega arith)
all_place P (y ∷ xs) zero x lt is h = subst P (sym is) h.0
all_place P (y ∷ xs) (suc i) x lt is h = all_place P xs i x (omega arith) is h.1

all_groups_at : (P : Row → Type 0) (key_of : Row → ℕ) (rows : List Row) (keys : List ℕ) → AllByRecursion P rows
    → AllByRecursion (λ (g : Group). AllByRecursion P g.rows) (map (λ (g : GroupOf Row). record { key = g.key; rows = g.rows }) (map (λ (key : ℕ). record { key = key; rows = rows_with key_of rows key }) keys))
all_groups_at P key_of rows [] h = tt
all_groups_at P key_of rows (key ∷ keys) h = (all_filter P (λ x. nat_eq (key_of x) key) rows h, all_groups_at P key_of rows keys h)

pub all_groups : (P : Row → Type 0) (n column : ℕ) (rows : List Row) → AllByRecursion P rows
    → AllByRecursion (λ (g : Group). AllByRecursion P g.rows) (keyed_groups n column rows)
unfolding groups
all_groups P n column rows h =
    let key_of : Row → ℕ = λ r. slice_index r column in
    all_groups_at P key_of rows (take n (keys_of key_of rows)) h

-- ---- pace

-- sides that keep pace have results of one length
pub one_length : (env : Env) (l r : QueryShape) (xs ys : List Row) (p q : Bool) → KeepPace l r → IsResultIn l env xs p → IsResultIn r env ys q → length xs ≡ length ys
one_length env l r xs ys p q k is is' =
    one_pace env (pace_of l) xs ys k.paced (paced l env xs p is) (subst (λ (pace : Option Pace). IsPaced env pace ys) (sym k.same) (paced r env ys q is'))

-- ---- schemas

numbered_streams : (k : ℕ) (streams : List Stream) (inputs : Inputs) → streams_of (numbered k streams inputs) ≡ streams
numbered_streams k [] inputs = refl
numbered_streams k (s ∷ streams) inputs = ap (λ l. s ∷ l) (numbered_streams (k + 1) streams inputs)

-- a statement that is accepted over a schema, over rows that fit it
pub statement_fits : (schema : Schema) (statement : Statement) (tables : List (List Row)) (places times : List (List ℕ)) (ticks : ℕ) (words : Row) (env : Env)
    → IsFit schema statement tables places times ticks words → env ≡ env_of schema (given_inputs tables places times ticks words)
    → AreSources env × IsAcceptedOver (scope_of env true) (query_shape statement.query)
statement_fits schema statement tables places times ticks words env fit e =
    let given = ap (λ (z : Env). scope_of z true) e in
    let named = ap (λ (l : List Stream). schema_scope (record { streams = l; parameters = schema.parameters })) (numbered_streams 0 schema.streams (given_inputs tables places times ticks words)) in
    let scope : scope_of env true ≡ schema_scope schema = given ∙ named in
    let is = subst IsScope (sym scope) (schema_is schema fit.of_schema) in (
      record { columns = is.columns; kinds = is.kinds; rows = subst (HoldsIn IsRowOf) (sym e) fit.rows },
      subst (λ (x : Scope). IsAcceptedOver x (query_shape statement.query)) (sym scope) fit.accepted,
    )
