-- Columns of at most 64 bits, and the rows that have them.
use Rattle.std.proofs.Common.{◌≡◌, ℕ, zero, suc, ◌+◌, ◌<◌, ◌≤◌, List, [], ◌∷◌, ◌++◌, map, length, take, Some, None, sym, ap, ◌∙◌, subst, arith, add-one, append_assoc}
use Rattle.std.specs.Prelude.{slice_get}
use Rattle.std.specs.List.{AllByRecursion}
use Rattle.std.proofs.lemmas.List.{length-map, take_all}
use Rattle.gl_values.specs.Kinds.{width_of}
use Rattle.gl_bits.specs.Words.{Word, bits_of, widths_of}
use Rattle.gl_schema.specs.declared.schema.Column.{Column}
use Rattle.gl_schema.specs.declared.schema.Stream.{Stream}
use Rattle.gl_schema.specs.declared.schema.Schema.{Schema}
use Rattle.gl_schema.specs.Schemas.{IsColumn, IsSchema, IsStream}
use Rattle.gl_schema.proofs.KindTable.{written_is}
use Rattle.gl_tuples.proofs.Flats.{bits_long}
use Rattle.gl_tuples.specs.Growing.{AreNarrow, IsNarrow, columns_of, shape_of}

-- ---- a place of a row

pub narrow_at : (row : List Word) (at : ℕ) (w : Word) → AllByRecursion IsNarrow (widths_of row) → slice_get row at ≡ Some w → w.width ≤ 64
narrow_at [] at w h e = absurd cc
narrow_at (v ∷ vs) zero w h e = let same : v ≡ w = cc in subst (λ (x : Word). x.width ≤ 64) same h.0
narrow_at (v ∷ vs) (suc at) w h e = narrow_at vs at w h.1 e

pub bits_at : (row : List Word) (at : ℕ) (w : Word) → slice_get row at ≡ Some w → slice_get (bits_of row) at ≡ Some w.bits
bits_at [] at w e = absurd cc
bits_at (v ∷ vs) zero w e = let same : v ≡ w = cc in ap (λ (x : Word). Some x.bits) same
bits_at (v ∷ vs) (suc at) w e = bits_at vs at w e

pub place_missing : (row : List Word) (at : ℕ) → at < length row → slice_get row at ≡ None → ⊥
place_missing [] at lt e = absurd (omega arith)
place_missing (w ∷ ws) zero lt e = absurd cc
place_missing (w ∷ ws) (suc at) lt e = place_missing ws at (omega arith) e

pub ruleset place_steps = (narrow_at, bits_at, place_missing)

-- ---- the columns of a schema

widths_narrow : (cs : List Column) → AllByRecursion IsColumn cs → AllByRecursion IsNarrow (map (λ c. width_of c.kind) cs)
widths_narrow [] h = tt
widths_narrow (c ∷ cs) h = ((written_is c.kind h.0.kind).1, widths_narrow cs h.1)

streams_narrow : (ss : List Stream) → AllByRecursion IsStream ss → AreNarrow (map columns_of ss)
streams_narrow [] h = tt
streams_narrow (s ∷ ss) h = (widths_narrow s.columns h.0.columns, streams_narrow ss h.1)

pub schema_narrow : (schema : Schema) (shape : List (List ℕ)) → IsSchema schema → shape ≡ shape_of schema → AreNarrow shape
schema_narrow schema shape is e = subst AreNarrow (sym e) (streams_narrow schema.streams is.streams)

pub schema_few : (schema : Schema) (shape : List (List ℕ)) → IsSchema schema → shape ≡ shape_of schema → length shape ≤ 8
schema_few schema shape is e = let n = ap length e ∙ length-map schema.streams columns_of in let most = is.most in omega (arith, n, most)

pub ruleset columns_narrow = (schema_narrow, schema_few)

-- ---- what is added

-- numbers up to a place, and one more
pub bits_more : (ns old so_far new : List ℕ) (at n : ℕ) → slice_get ns at ≡ Some n → so_far ≡ old ++ take at ns → new ≡ so_far ++ n ∷ [] → new ≡ old ++ take (at + 1) ns
bits_more ns old so_far new at n e is more =
    more ∙ ap (λ (xs : List ℕ). xs ++ n ∷ []) is ∙ append_assoc old (take at ns) (n ∷ []) ∙ ap (λ (xs : List ℕ). old ++ xs) (sym (rw (add-one at) (one_more ns at e)))
  where
    one_more : (ns : List ℕ) (at : ℕ) → slice_get ns at ≡ Some n → take (suc at) ns ≡ take at ns ++ n ∷ []
    one_more [] at e = absurd cc
    one_more (m ∷ ns) zero e = let same : m ≡ n = cc in ap (λ (x : ℕ). x ∷ []) same
    one_more (m ∷ ns) (suc at) e = ap (λ (xs : List ℕ). m ∷ xs) (one_more ns at e)

-- all of them
pub bits_whole : (row : List Word) (old new : List ℕ) (at : ℕ) → length row ≤ at → new ≡ old ++ take at (bits_of row) → new ≡ old ++ bits_of row
bits_whole row old new at le is = is ∙ ap (λ (ns : List ℕ). old ++ ns) (take_all at (bits_of row) (omega (arith, bits_long row, le)))

pub narrow_row : (row : List Word) (columns : List ℕ) → widths_of row ≡ columns → AllByRecursion IsNarrow columns → AllByRecursion IsNarrow (widths_of row)
narrow_row row columns e h = subst (AllByRecursion IsNarrow) (sym e) h
