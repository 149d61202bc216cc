-- The beats of the load are beats of its schema, one in each cycle.
use Rattle.std.proofs.Common.{◌≡◌, ℕ, zero, suc, ◌+◌, ◌*◌, ◌%◌, ◌^◌, ◌<◌, ◌≤◌, List, [], ◌∷◌, ◌++◌, map, refl, sym, ap, ◌∙◌, arith, eq-eqb, ne_eqb}
use Rattle.std.specs.List.{AllByRecursion, range_with_len}
use Rattle.std.proofs.lemmas.Bool.{ltb-true}
use Rattle.std.proofs.Math.Nat.{mod-lt}
use Rattle.std.proofs.lemmas.List.{map-append}
use Rattle.std.proofs.lemmas.List.FromFn.{map-range_with_len_more}
use Rattle.gl_schema.specs.Schemas.{IsRowOf, text_word}
use Rattle.gl_tuples.specs.declared.beats.Beat as files
use Rattle.gl_tuples.specs.Gaps.{plain_beat, plain_list}
use Rattle.gl_schema.specs.Beats.{Beat, AreBeats, AreInOrder, AreSpaced, IsBeat}
use Rattle.gl_gaps.specs.Keeps.{KeepsGaps, even_gaps}
use Rattle.gl_gaps.proofs.EvenGaps.{keeps_even}
use Rattle.gl_load.specs.Query.{load_columns, load_schema}
use Rattle.gl_load.specs.Tuples.{load_beat, load_beats, load_row, symbol_at}

symbol_small : (k : ℕ) → text_word 4 (symbol_at k) < 2 ^ 32
unfolding text_word
symbol_small zero = ltb-true _ _ refl
symbol_small (suc zero) = ltb-true _ _ refl
symbol_small (suc (suc zero)) = ltb-true _ _ refl
symbol_small (suc (suc (suc k))) = ltb-true _ _ refl

row_fits : (i : ℕ) → IsRowOf load_columns (load_row i)
row_fits i =
    let price : (7 * i) % 1000 < 1000 = mod-lt (7 * i) (omega arith) in
    let volume : i % 100 < 100 = mod-lt i (omega arith) in
    (symbol_small (i % 4), (omega (arith, price), (omega (arith, volume), tt)))

is_beat : (n i : ℕ) → IsBeat load_schema (load_beat n i)
is_beat n i = record { rows = (row_fits i, tt); some' = λ none still. refl }

each : (n i k : ℕ) → AllByRecursion (IsBeat load_schema) (map (load_beat n) (range_with_len i k))
each n i zero = tt
each n i (suc k) = (is_beat n i, each n (i + 1) k)

order : (n i k : ℕ) → i + suc k ≡ n → AreInOrder (map (load_beat n) (range_with_len i (suc k)))
order n i zero e = eq-eqb (i + 1) n (omega (arith, e))
order n i (suc k) e = (ne_eqb (i + 1) n (λ same. omega (arith, e, same)), omega arith, order n (i + 1) k (omega (arith, e)))

keeps : (n i k : ℕ) → AreSpaced 1 (map (load_beat n) (range_with_len i k))
keeps n i zero = tt
keeps n i (suc zero) = tt
keeps n i (suc (suc k)) = (omega arith, keeps n (i + 1) (suc k))

-- one beat more
pub more_beats : (n i : ℕ) (old new : List files.Beat) (b : files.Beat) → plain_list old ≡ map (load_beat n) (range_with_len 0 i) → plain_beat b ≡ load_beat n i → new ≡ old ++ b ∷ []
    → plain_list new ≡ map (load_beat n) (range_with_len 0 (i + 1))
more_beats n i old new b before is more =
    ap plain_list more ∙ map-append plain_beat old (b ∷ []) ∙ ap (λ (xs : List Beat). xs ++ plain_beat b ∷ []) before
    ∙ ap (λ (x : Beat). map (load_beat n) (range_with_len 0 i) ++ x ∷ []) is ∙ sym (map-range_with_len_more (load_beat n) 0 i i (omega arith))

pub are_beats : (n : ℕ) → 1 ≤ n → AreBeats load_schema (load_beats n)
are_beats zero some = absurd (omega arith)
are_beats (suc k) some = record { each = each (suc k) 0 (suc k); order = order (suc k) 0 k (omega arith); held = tt }

pub keep_gaps : (n : ℕ) → KeepsGaps (even_gaps 1) (load_beats n)
keep_gaps n = keeps_even 1 (load_beats n) (keeps n 0 n)
