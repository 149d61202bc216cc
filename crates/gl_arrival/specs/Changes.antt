-- What selects make of rows at places: each row that they give is at the place of the row that it is for.
use Rattle.std.specs.Prelude.{ℕ, Bool, List, [], ◌∷◌, ◌++◌, Option, Some, map, filter, filter_map, option_map}
use Rattle.std.specs.List.{cons_option}
use Rattle.gl_frames.specs.Frames.{by_key}
use Rattle.gl_arrival.specs.Places.{Placed, at_place}

-- WHERE: the rows that pass
abbrev pub kept_at : {A : Type 0} → (A → Bool) → List (Placed A) → List (Placed A)
kept_at {A = A} passes xs = filter (λ (x : Placed A). passes x.row) xs

-- the items of a select: each row changed
abbrev pub mapped_at : {A B : Type 0} → (A → B) → List (Placed A) → List (Placed B)
mapped_at {A = A} f xs = map (λ (x : Placed A). at_place (f x.row) x.place) xs

-- each row changed or left out by a step
abbrev pub stepped_at : {A B : Type 0} → (A → Option B) → List (Placed A) → List (Placed B)
stepped_at {A = A} step xs = filter_map (λ (x : Placed A). option_map (λ y. at_place y x.place) (step x.row)) xs

-- the places of rows changed
abbrev pub moved : {A : Type 0} → (ℕ → ℕ) → List (Placed A) → List (Placed A)
moved {A = A} g xs = map (λ (x : Placed A). at_place x.row (g x.place)) xs

-- for each row, behind those seen, what is made of the rows up to it, at its place; or nothing
abbrev pub each_at : {A B : Type 0} → (List A → Option B) → List A → List (Placed A) → List (Placed B)
each_at f seen [] = []
each_at f seen (x ∷ xs) =
    cons_option (option_map (λ y. at_place y x.place) (f (seen ++ x.row ∷ []))) (each_at f (seen ++ x.row ∷ []) xs)

-- a select of frames: for each row what f makes of the rows up to it
abbrev pub framed_at : {A B : Type 0} → (List A → B) → List (Placed A) → List (Placed B)
framed_at f xs = each_at (λ seen. Some (f seen)) [] xs

-- a select of frames with PARTITION: for each row of the first n keys what f makes of its key's rows up to it; the
-- place of a row of a further key is left out with it
abbrev pub framed_by_key_at : {A B : Type 0} → ℕ → (A → ℕ) → (List A → B) → List (Placed A) → List (Placed B)
framed_by_key_at n key_of f xs = each_at (by_key n key_of f) [] xs
