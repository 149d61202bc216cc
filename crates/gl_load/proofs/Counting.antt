-- Each row of a result of the load's query begins with a count, and its columns are numbers.
use Rattle.std.proofs.Common.{◌≡◌, ℕ, ◌%◌, ◌^◌, ◌<◌, List, [], ◌∷◌, length, Bool, refl, sym, ap, subst, arith}
use Rattle.std.specs.List.{AllByRecursion}
use Rattle.std.proofs.Math.Nat.{mod-lt}
use Rattle.gl_values.specs.declared.kind.Kind.TheVariants.{Unsigned}
use Rattle.gl_values.specs.Results.{AreJoined, Results, Row}
use Rattle.gl_values.specs.Totals.{count_of}
use Rattle.gl_bits.proofs.AllLists.{all_append}
use Rattle.gl_schema.specs.Schemas.{kinds_of}
use Rattle.gl_query.specs.Alike.{query_alike}
use Rattle.gl_query.specs.Columns.{columns_of, sources_of}
use Rattle.gl_query.specs.Results.{Env, IsResultIn}
use Rattle.gl_query.specs.Shapes.{QueryShape}
use Rattle.gl_load.specs.Query.{load_schema}
use Rattle.gl_load.proofs.Constants.{load_tree}
use Rattle.gl_load.proofs.Telling.{IsCounted}

-- what holds of each row of each part holds of all rows
all_joined : {Part : Type 0} (P : Row → Type 0) (OfPart : Part → Results) → ((part : Part) (out : List Row) (spill : Bool) → OfPart part out spill → AllByRecursion P out)
    → (parts : List Part) (out : List Row) (spill : Bool) → AreJoined OfPart parts out spill → AllByRecursion P out
all_joined P OfPart each [] out spill h = subst (AllByRecursion P) (sym h.0) tt
all_joined P OfPart each (part ∷ parts) out spill h =
    subst (AllByRecursion P) (sym h.6) (all_append P h.0 h.1 (each part h.0 h.2 h.4) (all_joined P OfPart each parts h.1 h.3 h.5))

small_count : {A : Type 0} (xs : List A) → count_of xs < 2 ^ 64
unfolding count_of
small_count xs = let l : length xs % 2 ^ 32 < 2 ^ 32 = mod-lt (length xs) (omega arith) in omega (arith, l)

one_counted : (rows : List Row) (second : ℕ) (rest : List ℕ) (out : List Row) → out ≡ (count_of rows ∷ second ∷ rest) ∷ [] → AllByRecursion IsCounted out
one_counted rows second rest out e =
    subst (AllByRecursion IsCounted) (sym e) (record { count = count_of rows; second = second; rest = rest; is = refl; small' = small_count rows }, tt)

pub are_counted : (q : QueryShape) (env : Env) (rows : List Row) (spill : Bool) → q ≡ query_alike load_tree.query → IsResultIn q env rows spill → AllByRecursion IsCounted rows
are_counted q env rows spill e is =
    let r = subst (λ (x : QueryShape). IsResultIn x env rows spill) e is in
    all_joined IsCounted _ (λ part out s h. one_counted _ _ _ out h.changed) _ rows r.parts_spill r.of_parts

pub are_numbers : (q : QueryShape) → q ≡ query_alike load_tree.query → kinds_of (columns_of (sources_of load_schema) q) ≡ Unsigned 32 ∷ Unsigned 32 ∷ Unsigned 32 ∷ []
are_numbers q e = ap (λ (x : QueryShape). kinds_of (columns_of (sources_of load_schema) x)) e
