-- What passes an error on has none but want of memory, where what it comes from has none.
use Rattle.std.proofs.Common.{◌≡◌, ℕ, Bool, List, sym, subst}
use Rattle.std.specs.Prelude.{Result}
use Rattle.std.specs.List.{AllByRecursion}
use Rattle.std.specs.Result.{IsErrAnd}
use Rattle.std.proofs.lemmas.Result.{err_from_is_err_and}
use Rattle.gl_values.specs.Tables.{keyed_groups}
use Rattle.gl_values.specs.Results.{Row}
use Rattle.gl_values.specs.declared.lists.Group.{Group}
use Rattle.gl_schema.specs.declared.schema.Column.{Column}
use Rattle.gl_schema.specs.Schemas.{IsRowOf}
use Rattle.gl_query.specs.declared.tree.Measure.{Measure}
use Rattle.gl_query.specs.Shapes.{QueryShape}
use Rattle.gl_query.specs.Shapes as shape
use Rattle.gl_query.specs.Accepted.{IsAcceptedOver}
use Rattle.gl_query.specs.Results.{Env, IsResultIn, columns_in, ticks_in, times_in}
use Rattle.gl_query.specs.Windows.{parts_of}
use Rattle.gl_query.specs.Laws.{ResultsFit, scope_of}
use Rattle.gl_reference.specs.declared.rows.Fault.{Fault}
use Rattle.gl_reference.specs.declared.rows.Fault.TheVariants.{Memory}
use Rattle.gl_reference.specs.Fits.{AreSources, IsBody, IsOrMemory}
use Rattle.gl_reference.specs.Partitions.{table_parts}
use Rattle.gl_reference.proofs.Fitting.{all_groups, body_fits, rows_fit}
use Rattle.gl_reference.proofs.Partitioning.{all_windows}
use Rattle.gl_query.proofs.Holding.{all_parts}

pub passes : {T : Type 0} {Q : Fault → Type 0} (r : Result T Fault) → IsErrAnd r Q → ((fault : Fault) → Q fault → fault ≡ Memory) → IsOrMemory r
passes r is f = let p = err_from_is_err_and r is in rw (p.1) (f p.0 p.2)

named_body : (env : Env) (var named : List ℕ) (columns seen_columns : List Column) (body seen : QueryShape) → seen ≡ body → named ≡ var → seen_columns ≡ columns
    → IsBody env var columns body → IsBody env named seen_columns seen
named_body env var named columns seen_columns body seen eb ev ec b =
    let inner = subst (λ (k : List Column). IsBody env var k body) (sym ec) b in
    let called = subst (λ (v : List ℕ). IsBody env v seen_columns body) (sym ev) inner in
    subst (λ (q : QueryShape). IsBody env named seen_columns q) (sym eb) called

pub each_passes : ResultsFit → (measure : Measure) (env : Env) (timed : Bool) (var : List ℕ) (source : QueryShape) (size advance : ℕ) (body : QueryShape) (from : List Row) (before : Bool) (seen : QueryShape) (named : List ℕ) (columns : List Column) (parts : List (List Row)) (Passed : Type 0)
    → AreSources env → IsAcceptedOver (scope_of env timed) (shape.Each measure var source size advance body) → IsResultIn source env from before
    → seen ≡ body → named ≡ var → columns ≡ columns_in env source → parts ≡ parts_of measure size advance (times_in env source) (ticks_in env source) from
    → (IsBody env named columns seen → AllByRecursion (AllByRecursion (IsRowOf columns)) parts → Passed) → Passed
each_passes fitting measure env timed var source size advance body from before seen named columns parts Passed s a is eb ev ec ep f =
    let inner = named_body env var named (columns_in env source) columns body seen eb ev ec (body_fits env timed var source body s a.0 a.2) in
    let all = all_parts (IsRowOf (columns_in env source)) measure size advance (times_in env source) (ticks_in env source) from (rows_fit fitting env timed source from before s a.0 is).fit in
    let lined = subst (λ (k : List Column). AllByRecursion (AllByRecursion (IsRowOf k)) (parts_of measure size advance (times_in env source) (ticks_in env source) from)) (sym ec) all in
    f inner (subst (AllByRecursion (AllByRecursion (IsRowOf columns))) (sym ep) lined)

pub groups_pass : ResultsFit → (env : Env) (timed : Bool) (var : List ℕ) (source : QueryShape) (key : List ℕ) (n : ℕ) (body : QueryShape) (from : List Row) (before : Bool) (seen : QueryShape) (named : List ℕ) (columns : List Column) (most column : ℕ) (parts : List Group) (Passed : Type 0)
    → AreSources env → IsAcceptedOver (scope_of env timed) (shape.PerGroup var source key n body) → IsResultIn source env from before
    → seen ≡ body → named ≡ var → columns ≡ columns_in env source → parts ≡ keyed_groups most column from
    → (IsBody env named columns seen → AllByRecursion (λ (g : Group). AllByRecursion (IsRowOf columns) g.rows) parts → Passed) → Passed
groups_pass fitting env timed var source key n body from before seen named columns most column parts Passed s a is eb ev ec ep f =
    let inner = named_body env var named (columns_in env source) columns body seen eb ev ec (body_fits env timed var source body s a.0 a.2) in
    let all = all_groups (IsRowOf (columns_in env source)) most column from (rows_fit fitting env timed source from before s a.0 is).fit in
    let lined = subst (λ (k : List Column). AllByRecursion (λ (g : Group). AllByRecursion (IsRowOf k) g.rows) (keyed_groups most column from)) (sym ec) all in
    f inner (subst (AllByRecursion (λ (g : Group). AllByRecursion (IsRowOf columns) g.rows)) (sym ep) lined)

pub partitions_pass : ResultsFit → (env : Env) (timed : Bool) (var : List ℕ) (source : QueryShape) (key : List ℕ) (n size advance : ℕ) (body : QueryShape) (from : List Row) (before : Bool) (seen : QueryShape) (named : List ℕ) (columns : List Column) (most column : ℕ) (parts : List Group) (Passed : Type 0)
    → AreSources env → IsAcceptedOver (scope_of env timed) (shape.Partition var source key n size advance body) → IsResultIn source env from before
    → seen ≡ body → named ≡ var → columns ≡ columns_in env source → parts ≡ table_parts most column size advance from
    → (IsBody env named columns seen → AllByRecursion (λ (g : Group). AllByRecursion (IsRowOf columns) g.rows) parts → Passed) → Passed
partitions_pass fitting env timed var source key n size advance body from before seen named columns most column parts Passed s a is eb ev ec ep f =
    let inner = named_body env var named (columns_in env source) columns body seen eb ev ec (body_fits env timed var source body s a.0 a.2) in
    let all = all_windows (IsRowOf (columns_in env source)) most column size advance from (rows_fit fitting env timed source from before s a.0 is).fit in
    let lined = subst (λ (k : List Column). AllByRecursion (λ (g : Group). AllByRecursion (IsRowOf k) g.rows) (table_parts most column size advance from)) (sym ec) all in
    f inner (subst (AllByRecursion (λ (g : Group). AllByRecursion (IsRowOf columns) g.rows)) (sym ep) lined)
