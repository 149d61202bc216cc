-- With a row more a select of frames has one row more, and with PARTITION what its key's rows make.
use Rattle.std.proofs.Common.{◌≡◌, ℕ, zero, suc, ◌+◌, ◌<◌, List, [], ◌∷◌, ◌++◌, length, take, get_or, refl, sym, ap, ◌∙◌, arith, append_assoc}
use Rattle.std.specs.Prelude.{Option, Some, option_to_list}
use Rattle.gl_bits.proofs.AllLists.{taken_next}
use Rattle.gl_values.specs.Results.{Row}
use Rattle.gl_frames.specs.Frames.{by_key, each_of, framed, framed_by_key, if_has_key}
use Rattle.gl_frames.proofs.LastLemmas.{ends_with}
use Rattle.gl_frames.proofs.ListLemmas.{each_more}

each_next : (f : List Row → Row) (seen rows : List Row) (n : ℕ) → n < length rows
    → each_of (λ xs. Some (f xs)) seen (take (suc n) rows) ≡ each_of (λ xs. Some (f xs)) seen (take n rows) ++ f (seen ++ take (suc n) rows) ∷ []
each_next f seen [] n lt = absurd (omega (arith, lt))
each_next f seen (x ∷ rows) zero lt = refl
each_next f seen (x ∷ rows) (suc n) lt =
    ap (λ l. f (seen ++ x ∷ []) ∷ l) (each_next f (seen ++ x ∷ []) rows n (omega (arith, lt)) ∙ ap (λ l. each_of (λ xs. Some (f xs)) (seen ++ x ∷ []) (take n rows) ++ f l ∷ []) (append_assoc seen (x ∷ []) (take (suc n) rows)))

pub framed_next : (f : List Row → Row) (rows : List Row) (n : ℕ) → n < length rows
    → framed f (take (n + 1) rows) ≡ framed f (take n rows) ++ f (take (n + 1) rows) ∷ []
framed_next f rows n lt =
    let e : n + 1 ≡ suc n = omega arith in
    ap (λ k. framed f (take k rows)) e ∙ each_next f [] rows n lt ∙ ap (λ k. framed f (take n rows) ++ f (take k rows) ∷ []) (sym e)

pub keyed_next : (n : ℕ) (key_of : Row → ℕ) (f : List Row → Row) (rows : List Row) (i : ℕ) (row : Row) → i < length rows → row ≡ get_or rows i row
    → framed_by_key n key_of f (take (i + 1) rows) ≡ framed_by_key n key_of f (take i rows) ++ option_to_list (if_has_key n key_of f (take (i + 1) rows) (Some row))
keyed_next n key_of f rows i row lt is =
    let next : take (i + 1) rows ≡ take i rows ++ row ∷ [] = taken_next rows i row lt is in
    let before : List Row = framed_by_key n key_of f (take i rows) in
    ap (λ (l : List Row). framed_by_key n key_of f l) next ∙ each_more (by_key n key_of f) [] (take i rows) row
    ∙ ap (λ (o : Option Row). before ++ option_to_list (if_has_key n key_of f (take i rows ++ row ∷ []) o)) (ends_with (take i rows) row)
    ∙ ap (λ (l : List Row). before ++ option_to_list (if_has_key n key_of f l (Some row))) (sym next)
