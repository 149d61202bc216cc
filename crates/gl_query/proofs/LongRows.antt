-- The rows of a stream in beats are as long as its columns are many.
use Rattle.std.proofs.Common.{◌≡◌, ℕ, zero, suc, List, [], ◌∷◌, Option, Some, None, refl, ap, subst}
use Rattle.std.specs.Prelude.{IfSome, slice_get, unwrap_or}
use Rattle.std.specs.List.{AllByRecursion, cons_option}
use Rattle.gl_schema.specs.declared.schema.Column.{Column}
use Rattle.gl_schema.specs.declared.schema.Stream.{Stream}
use Rattle.gl_schema.specs.declared.schema.Schema.{Schema}
use Rattle.gl_schema.specs.Beats.{AreRowsOf, Beat, IsBeat, input_of, row_in}
use Rattle.gl_schema.specs.Schemas.{IsRowOf}
use Rattle.gl_query.specs.Laws.{IsLongAs}

row_long : (columns : List Column) (row : List ℕ) → IsRowOf columns row → IsLongAs columns row
row_long [] [] h = refl
row_long [] (n ∷ row) h = absurd h
row_long (c ∷ columns) [] h = absurd h
row_long (c ∷ columns) (n ∷ row) h = ap suc (row_long columns row h.1)

-- what stands at a place of the rows is a row of the stream there
row_there : (ss : List Stream) (rows : List (Option (List ℕ))) (k : ℕ) (s : Stream) → AreRowsOf ss rows → slice_get ss k ≡ Some s → IfSome (unwrap_or (slice_get rows k) None) (IsLongAs s.columns)
row_there [] [] k s h e = absurd cc
row_there [] (r ∷ rows) k s h e = absurd h
row_there (x ∷ ss) [] k s h e = absurd h
row_there (x ∷ ss) (None ∷ rows) zero s h e = tt
row_there (x ∷ ss) (Some r ∷ rows) zero s h e = let same : x ≡ s = cc in subst (λ (y : Stream). IsLongAs y.columns r) same (row_long x.columns r h.0)
row_there (x ∷ ss) (r ∷ rows) (suc k) s h e = row_there ss rows k s h.1 e

pub rows_long : (schema : Schema) (beats : List Beat) (k : ℕ) (s : Stream) → AllByRecursion (IsBeat schema) beats → slice_get schema.streams k ≡ Some s → AllByRecursion (IsLongAs s.columns) (input_of k beats)
rows_long schema [] k s h e = tt
rows_long schema (b ∷ beats) k s h e = by (row_in k b) (row_there schema.streams b.rows k s h.0.rows e) (rows_long schema beats k s h.1 e)
  where
    by : (o : Option (List ℕ)) → IfSome o (IsLongAs s.columns) → AllByRecursion (IsLongAs s.columns) (input_of k beats)
        → AllByRecursion (IsLongAs s.columns) (cons_option o (input_of k beats))
    by None h later = later
    by (Some r) h later = (h, later)
