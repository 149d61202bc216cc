-- A query without UNION, but for those by arrival, has at most one result.
use Rattle.std.proofs.Common.{Some, None}
use Rattle.gl_query.specs.Shapes as shape
use Rattle.gl_values.proofs.Unique.{one_input, one_changed, one_of_parts, one_of_both}
use Rattle.gl_frames.proofs.ResultLemmas.{one_in_part}
use Rattle.gl_arrival.specs.Results.{IsByArrival}
use Rattle.gl_arrival.proofs.ResultLemmas.{one_without}
use Rattle.gl_query.specs.Results.{ArrivesIn, IsAsOf, IsResultIn, columns_in, join_by, rows_of}
use Rattle.gl_query.specs.Laws.{HasOneResult}
use Rattle.gl_query.proofs.Arriving.{one_in_place}

pub unique : HasOneResult
unique (shape.Read name) none env = one_input (rows_of env name)
unique (shape.Rows pick filter source) none env = one_changed (IsResultIn source env) _ (unique source none env)
unique (shape.Total aggs source) none env = one_changed (IsResultIn source env) _ (unique source none env)
unique (shape.Frames items filter None source) none env = one_changed (IsResultIn source env) _ (unique source none env)
unique (shape.Frames items filter (Some s) source) none env = one_in_part (IsResultIn source env) _ _ (unique source none env)
unique (shape.Each measure var source size advance body) none env =
    one_of_parts (IsResultIn source env) _ _ _ (unique source none.0 env) (λ rows. unique body none.1 _)
unique (shape.PerGroup var source key n body) none env =
    one_of_parts (IsResultIn source env) _ _ _ (unique source none.0 env) (λ g. one_changed _ _ (unique body none.1 _))
unique (shape.Partition var source key n size advance body) none env =
    one_of_parts (IsResultIn source env) _ _ _ (unique source none.0 env) (λ g. one_changed _ _ (unique body none.1 _))
unique (shape.Union l r) none env = absurd none
unique (shape.ByArrival l r) none env = one_without (IsByArrival (ArrivesIn l env) (ArrivesIn r env)) (one_in_place (shape.ByArrival l r) env)
unique (shape.AsOf l r slots) none env =
    one_without (IsAsOf (join_by (columns_in env l) (columns_in env r) slots) (ArrivesIn l env) (ArrivesIn r env)) (one_in_place (shape.AsOf l r slots) env)
unique (shape.Concat l r) none env = one_of_both (IsResultIn l env) (IsResultIn r env) (unique l none.0 env) (unique r none.1 env)
