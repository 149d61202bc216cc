-- An accepted query has a result.
use Rattle.std.proofs.Common.{◌≡◌, suc, List, [], ◌∷◌, ◌++◌, Bool, true, false, length, refl, sym, ap, subst, ◌∙◌}
use Rattle.std.specs.Prelude.{◌||◌, Option, Some, None, IsSome, filter}
use Rattle.std.proofs.lemmas.List.{length-map}
use Rattle.gl_bits.proofs.Bools.{and_parts}
use Rattle.gl_values.specs.Lists.{IsInterleaving, nothing, from_first, from_second}
use Rattle.gl_arrival.specs.Places as arrival
use Rattle.gl_arrival.specs.Arrival.{by_arrival}
use Rattle.gl_arrival.specs.Results.{Arrivals, IsByArrival}
use Rattle.gl_asof.specs.AsOf.{JoinBy, as_of, more_keys}
use Rattle.gl_frames.proofs.ListLemmas.{each_length}
use Rattle.gl_query.specs.Shapes.{QueryShape}
use Rattle.gl_query.specs.Shapes as shape
use Rattle.gl_query.specs.Columns.{Pace, Once, Step, arrives, pace_of}
use Rattle.gl_values.specs.Results.{Row, Results, IsChanged, AreJoined, IsOfParts, IsOfBoth, AreBeside, beside}
use Rattle.gl_query.specs.Results.{ArrivesIn, Env, IsAsOf, IsChangedInPart, IsResultIn, IsWithoutPlaces, columns_in, join_by, rows_of, reach_in, reached_row}
use Rattle.gl_query.specs.Accepted.{IsAcceptedOver}
use Rattle.gl_query.specs.Laws.{AcceptedHaveResults, scope_of}
use Rattle.gl_query.proofs.Arriving.{with_places}

-- as many rows as the pace says
abbrev pub IsPaced : Env → Option Pace → List Row → Type 0
IsPaced env None out = Unit {0}
IsPaced env (Some Once) out = length out ≡ 1
IsPaced env (Some (Step name)) out = length out ≡ length (rows_of env name)

paced_alike : (env : Env) (pace : Option Pace) (xs ys : List Row) → length ys ≡ length xs → IsPaced env pace xs → IsPaced env pace ys
paced_alike env None xs ys e p = tt
paced_alike env (Some Once) xs ys e p = e ∙ p
paced_alike env (Some (Step name)) xs ys e p = e ∙ p

pub one_pace : (env : Env) (pace : Option Pace) (xs ys : List Row) → IsSome pace → IsPaced env pace xs → IsPaced env pace ys → length xs ≡ length ys
one_pace env None xs ys some p q = cc
one_pace env (Some Once) xs ys some p q = p ∙ sym q
one_pace env (Some (Step name)) xs ys some p q = p ∙ sym q

all_kept : {A : Type 0} (xs : List A) → filter (λ x. true) xs ≡ xs
all_kept [] = refl
all_kept (x ∷ xs) = ap (λ l. x ∷ l) (all_kept xs)

length_beside : (ls rs : List Row) → length ls ≡ length rs → length (beside ls rs) ≡ length ls
length_beside [] rs e = refl
length_beside (l ∷ ls) [] e = sym e
length_beside (l ∷ ls) (r ∷ rs) e = let less : length ls ≡ length rs = cc in ap suc (length_beside ls rs less)

-- a result has as many rows as its pace says
pub paced : (q : QueryShape) (env : Env) (out : List Row) (spill : Bool) → IsResultIn q env out spill → IsPaced env (pace_of q) out
paced (shape.Read name) env out spill r = ap length r.rows
paced (shape.Rows pick (Some e) source) env out spill r = tt
paced (shape.Rows pick None source) env out spill r =
    let same = ap length r.changed ∙ length-map _ _ ∙ ap length (all_kept r.rows) in
    paced_alike env (pace_of source) r.rows out same (paced source env r.rows spill r.of_source)
paced (shape.Total aggs source) env out spill r = ap length r.changed
paced (shape.Frames items (Some e) slots source) env out spill r = tt
paced (shape.Frames items None (Some s) source) env out spill r = tt
paced (shape.Frames items None None source) env out spill r =
    let same = ap length r.changed ∙ each_length (reached_row (reach_in env source) items) [] _ ∙ ap length (all_kept r.rows) in
    paced_alike env (pace_of source) r.rows out same (paced source env r.rows spill r.of_source)
paced (shape.Each measure var source size advance body) env out spill r = tt
paced (shape.PerGroup var source key n body) env out spill r = tt
paced (shape.Partition var source key n size advance body) env out spill r = tt
paced (shape.Union l r) env out spill both = tt
paced (shape.ByArrival l r) env out spill both = tt
paced (shape.AsOf l r slots) env out spill both = tt
paced (shape.Concat l r) env out spill both =
    let same = ap length both.join.rows ∙ length_beside both.left both.right both.join.paired in
    paced_alike env (pace_of l) both.left out same (paced l env both.left both.left_spill both.of_left)

-- one side before the other
pub first_then_second : {A : Type 0} (xs ys : List A) → IsInterleaving xs ys (xs ++ ys)
first_then_second [] [] = nothing
first_then_second [] (y ∷ ys) = from_second y [] ys ys (first_then_second [] ys)
first_then_second (x ∷ xs) ys = from_first x xs ys (xs ++ ys) (first_then_second xs ys)

-- a set of results that has one
record HasSome (results : Results) : Type 0 where
  pub rows : List Row
  pub spill : Bool
  pub is : results rows spill

some_joined : {A : Type 0} (body : A → Results) → ((x : A) → HasSome (body x)) → (parts : List A) → HasSome (AreJoined body parts)
some_joined body some [] = record { rows = []; spill = false; is = (refl, refl) }
some_joined body some (part ∷ parts) =
    let first = some part in
    let later = some_joined body some parts in
    record {
      rows = first.rows ++ later.rows;
      spill = first.spill || later.spill;
      is = (first.rows, later.rows, first.spill, later.spill, first.is, later.is, refl, refl);
    }

some_of_parts : {A : Type 0} (source : Results) (parts : List Row → List A) (body : A → Results) (further : List Row → Bool)
    → HasSome source → ((x : A) → HasSome (body x)) → HasSome (IsOfParts source parts body further)
some_of_parts source parts body further one each =
    let inside = some_joined body each (parts one.rows) in
    record {
      rows = inside.rows;
      spill = one.spill || inside.spill || further one.rows;
      is = record {
        rows = one.rows;
        source_spill = one.spill;
        parts_spill = inside.spill;
        of_source = one.is;
        of_parts = inside.is;
        any = refl;
      };
    }

some_changed : (source : Results) (change : List Row → List Row) → HasSome source → HasSome (IsChanged source change)
some_changed source change one =
    record { rows = change one.rows; spill = one.spill; is = record { rows = one.rows; of_source = one.is; changed = refl } }

some_in_part : (source : Results) (change : List Row → List Row) (further : List Row → Bool) → HasSome source
    → HasSome (IsChangedInPart source change further)
some_in_part source change further one = record {
  rows = change one.rows;
  spill = one.spill || further one.rows;
  is = record { rows = one.rows; source_spill = one.spill; of_source = one.is; changed = refl; any = refl };
}

some_of_both : (left right : Results) (Join : List Row → List Row → List Row → Type 0) (x : HasSome left) (y : HasSome right)
    (rows : List Row) → Join x.rows y.rows rows → HasSome (IsOfBoth left right Join)
some_of_both left right Join x y rows join = record {
  rows = rows;
  spill = x.spill || y.spill;
  is = record {
    left = x.rows;
    right = y.rows;
    left_spill = x.spill;
    right_spill = y.spill;
    of_left = x.is;
    of_right = y.is;
    join = join;
    either = refl;
  };
}

some_by_arrival : (Left Right : Arrivals) (xs ys : List Row) (p q : Bool) → IsWithoutPlaces Left xs p → IsWithoutPlaces Right ys q
    → HasSome (IsWithoutPlaces (IsByArrival Left Right))
some_by_arrival Left Right xs ys p q x y =
    let rows = by_arrival x.rows y.rows in
    record {
      rows = arrival.rows_of rows;
      spill = p || q;
      is = record {
        rows = rows;
        of_source = record {
          left = x.rows;
          right = y.rows;
          left_spill = p;
          right_spill = q;
          of_left = x.of_source;
          of_right = y.of_source;
          in_order = refl;
          either = refl;
        };
        without = refl;
      };
    }

some_as_of : (by : JoinBy Row Row Row) (Left Right : Arrivals) (xs ys : List Row) (p q : Bool) → IsWithoutPlaces Left xs p → IsWithoutPlaces Right ys q
    → HasSome (IsWithoutPlaces (IsAsOf by Left Right))
some_as_of by Left Right xs ys p q x y =
    let rows = as_of by x.rows y.rows in
    record {
      rows = arrival.rows_of rows;
      spill = (q || p) || more_keys by x.rows y.rows;
      is = record {
        rows = rows;
        of_source = record {
          left = x.rows;
          right = y.rows;
          left_spill = p;
          right_spill = q;
          of_left = x.of_source;
          of_right = y.of_source;
          joined = refl;
          any = refl;
        };
        without = refl;
      };
    }

some_result : (q : QueryShape) (env : Env) (timed : Bool) → IsAcceptedOver (scope_of env timed) q → HasSome (IsResultIn q env)
some_result (shape.Read name) env timed a = record { rows = rows_of env name; spill = false; is = record { rows = refl; kept = refl } }
some_result (shape.Rows pick filter source) env timed a = some_changed (IsResultIn source env) _ (some_result source env timed a.0)
some_result (shape.Total aggs source) env timed a = some_changed (IsResultIn source env) _ (some_result source env timed a.0)
some_result (shape.Frames items filter None source) env timed a = some_changed (IsResultIn source env) _ (some_result source env timed a.0)
some_result (shape.Frames items filter (Some s) source) env timed a = some_in_part (IsResultIn source env) _ _ (some_result source env timed a.0)
some_result (shape.Each measure var source size advance body) env timed a =
    some_of_parts (IsResultIn source env) _ _ _ (some_result source env timed a.0) (λ rows. some_result body _ false a.2)
some_result (shape.PerGroup var source key n body) env timed a =
    some_of_parts (IsResultIn source env) _ _ _ (some_result source env timed a.0) (λ g. some_changed _ _ (some_result body _ false a.2))
some_result (shape.Partition var source key n size advance body) env timed a =
    some_of_parts (IsResultIn source env) _ _ _ (some_result source env timed a.0) (λ g. some_changed _ _ (some_result body _ false a.2))
some_result (shape.Union l r) env timed a =
    let x = some_result l env timed a.0 in
    let y = some_result r env timed a.1 in
    some_of_both (IsResultIn l env) (IsResultIn r env) IsInterleaving x y (x.rows ++ y.rows) (first_then_second x.rows y.rows)
some_result (shape.ByArrival l r) env timed a =
    let come = and_parts (arrives l) (arrives r) a.2 in
    let x = some_result l env timed a.0 in
    let y = some_result r env timed a.1 in
    some_by_arrival (ArrivesIn l env) (ArrivesIn r env) x.rows y.rows x.spill y.spill (with_places l come.0 env x.rows x.spill x.is)
    (with_places r come.1 env y.rows y.spill y.is)
some_result (shape.AsOf l r slots) env timed a =
    let come = and_parts (arrives l) (arrives r) a.2 in
    let x = some_result l env timed a.0 in
    let y = some_result r env timed a.1 in
    some_as_of (join_by (columns_in env l) (columns_in env r) slots) (ArrivesIn l env) (ArrivesIn r env) x.rows y.rows x.spill y.spill
    (with_places l come.0 env x.rows x.spill x.is) (with_places r come.1 env y.rows y.spill y.is)
some_result (shape.Concat l r) env timed a =
    let x = some_result l env timed a.0 in
    let y = some_result r env timed a.1 in
    let at_left = paced l env x.rows x.spill x.is in
    let at_right = subst (λ pace. IsPaced env pace y.rows) (sym a.2.same) (paced r env y.rows y.spill y.is) in
    let same = one_pace env (pace_of l) x.rows y.rows a.2.paced at_left at_right in
    some_of_both (IsResultIn l env) (IsResultIn r env) AreBeside x y (beside x.rows y.rows) (record { paired = same; rows = refl })

pub existing : AcceptedHaveResults
existing q env timed a = let r = some_result q env timed a in record { rows = r.rows; spill = r.spill; is = r.is }
