-- Words that are put into rows.
use Rattle.std.proofs.Common.{◌≡◌, ℕ, zero, suc, ◌+◌, ◌<◌, ◌^◌, List, [], ◌∷◌, ◌++◌, Some, refl, ap, map, take, get_or, length, arith, add-one}
use Rattle.std.specs.List.{AllZip}
use Rattle.std.proofs.Math.Seq.{take-suc}
use Rattle.std.proofs.lemmas.List.{take_more_set, map-append}
use Rattle.std.specs.Prelude.{slice_get, slice_set, slice_index}
use Rattle.gl_bits.specs.Words.{Word, widths_of, bits_of}

-- a word of the width that stood there leaves the widths as they were
pub widths_stay : (row : List Word) (place : ℕ) (old new : Word) → slice_get row place ≡ Some old → new.width ≡ old.width → widths_of (slice_set row place new) ≡ widths_of row
widths_stay [] place old new is same = refl
widths_stay (w ∷ row) zero old new is same = cc
widths_stay (w ∷ row) (suc place) old new is same = let rest : widths_of (slice_set row place new) ≡ widths_of row = widths_stay row place old new is same in cc

pub bits_set : (row : List Word) (place : ℕ) (new : Word) → bits_of (slice_set row place new) ≡ slice_set (bits_of row) place new.bits
bits_set [] place new = refl
bits_set (w ∷ row) zero new = refl
bits_set (w ∷ row) (suc place) new = ap (λ (ns : List ℕ). w.bits ∷ ns) (bits_set row place new)

-- the width at a place
pub width_here : (row : List Word) (place : ℕ) (old : Word) → slice_get row place ≡ Some old → slice_index (widths_of row) place ≡ old.width
width_here [] place old e = absurd cc
width_here (w ∷ row) zero old e = let same : w ≡ old = cc in ap (λ (x : Word). x.width) same
width_here (w ∷ row) (suc place) old e = width_here row place old e

pub ruleset row_steps = (widths_stay, bits_set, width_here)

bits_length : (row : List Word) → length (bits_of row) ≡ length (widths_of row)
bits_length [] = refl
bits_length (w ∷ row) = ap (λ n. suc n) (bits_length row)

-- a fact of the items of two lists, place by place
zip_at : {X Y : Type 0} (R : X → Y → Type 0) (xs : List X) (ys : List Y) (i : ℕ) (d : X) (e : Y) → AllZip R xs ys → i < length xs → R (get_or xs i d) (get_or ys i e)
zip_at R [] ys i d e h lt = absurd (omega arith)
zip_at R (x ∷ xs) [] i d e h lt = absurd h
zip_at R (x ∷ xs) (y ∷ ys) zero d e h lt = h.0
zip_at R (x ∷ xs) (y ∷ ys) (suc i) d e h lt = zip_at R xs ys i d e h.1 (omega arith)

-- one more value put into a row
pub row_more : {X : Type 0} (row row' : List Word) (widths : List ℕ) (columns : List X) (f : X → ℕ) (place v : ℕ) (d : X) → place < length columns → length columns ≡ length widths
    → AllZip (λ x w. f x < 2 ^ w) columns widths → widths_of row ≡ widths → v ≡ f (get_or columns place d)
    → (v < 2 ^ slice_index (widths_of row) place → bits_of row' ≡ slice_set (bits_of row) place v)
    → take place (bits_of row) ≡ map f (take place columns) → take (place + 1) (bits_of row') ≡ map f (take (place + 1) columns)
row_more row row' widths columns f place v d lt size fit same value set before =
    let small : f (get_or columns place d) < 2 ^ get_or widths place 0 = zip_at (λ x w. f x < 2 ^ w) columns widths place d 0 fit lt in
    let fits : v < 2 ^ slice_index (widths_of row) place = rw (value, same) small in
    let room : place < length (bits_of row) = omega (arith, bits_length row, ap length same, size) in
    let next : take (place + 1) columns ≡ take place columns ++ get_or columns place d ∷ [] = rw (add-one place) (take-suc columns place d lt) in
    rw (set fits, take_more_set (bits_of row) place v room, before, next, map-append f (take place columns) (get_or columns place d ∷ []), value) refl

pub widths_length : (row : List Word) → length (widths_of row) ≡ length row
widths_length [] = refl
widths_length (w ∷ row) = ap (λ n. suc n) (widths_length row)
