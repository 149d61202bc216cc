-- The first line of a text ends at its first line feed.
use Rattle.std.proofs.Common.{◌≡◌, ℕ, suc, ◌+◌, ◌-◌, ◌<◌, ◌≤◌, Bool, true, false, List, [], ◌∷◌, length, take, drop, Some, None, nat_lt, refl, sym, ap, subst, ◌∙◌, arith, length-drop}
use Rattle.std.specs.Prelude.{◌==◌}
use Rattle.std.specs.List.{position, position_or_len}
use Rattle.std.proofs.lemmas.List.{take_all}
use Rattle.std.proofs.lemmas.Bool.{ltb-false, ltb-true}
use Rattle.gl_load.specs.Tallies.{in_front, lines_of}

abbrev pub is_feed : ℕ → Bool
is_feed b = b == 10

found : (text : List ℕ) (k : ℕ) → position_or_len is_feed text ≡ k → k < length text → lines_of text ≡ take k text ∷ lines_of (drop (k + 1) text)
found [] k e lt = absurd (omega arith)
found (b ∷ bs) k e lt = by (b == 10) refl (found bs (position_or_len is_feed bs) refl)
  where
    by : (s : Bool) → (b == 10) ≡ s
        → (position_or_len is_feed bs < length bs → lines_of bs ≡ take (position_or_len is_feed bs) bs ∷ lines_of (drop (position_or_len is_feed bs + 1) bs))
        → lines_of (b ∷ bs) ≡ take k (b ∷ bs) ∷ lines_of (drop (k + 1) (b ∷ bs))
    by true h rest =
        let z : 0 ≡ k = rw h at e in
        subst (λ (i : ℕ). lines_of (b ∷ bs) ≡ take i (b ∷ bs) ∷ lines_of (drop (i + 1) (b ∷ bs))) z (rw h refl)
    by false h rest =
        let j = position_or_len is_feed bs in
        let y : 1 + j ≡ k = rw h at e in
        let z : suc j ≡ k = omega (arith, y) in
        let behind = rest (omega (arith, z, lt)) in
        let place : suc j + 1 ≡ suc (j + 1) = omega arith in
        subst (λ (i : ℕ). lines_of (b ∷ bs) ≡ take i (b ∷ bs) ∷ lines_of (drop (i + 1) (b ∷ bs))) z
        (rw h (ap (in_front b) behind ∙ ap (λ (i : ℕ). (b ∷ take j bs) ∷ lines_of (drop i (b ∷ bs))) (sym place)))

missed : (text : List ℕ) → length text ≤ position_or_len is_feed text → lines_of text ≡ []
missed [] le = refl
missed (b ∷ bs) le = by (b == 10) refl (missed bs)
  where
    by : (s : Bool) → (b == 10) ≡ s → (length bs ≤ position_or_len is_feed bs → lines_of bs ≡ []) → lines_of (b ∷ bs) ≡ []
    by true h rest = absurd (let z : suc (length bs) ≤ 0 = rw h at le in omega (arith, z))
    by false h rest =
        let z : suc (length bs) ≤ 1 + position_or_len is_feed bs = rw h at le in
        rw h (ap (in_front b) (rest (omega (arith, z))))

line_at : (text : List ℕ) (k : ℕ) → position is_feed text ≡ Some k → lines_of text ≡ take k text ∷ lines_of (drop (k + 1) text)
line_at text k e = by (nat_lt (position_or_len is_feed text) (length text)) refl
  where
    by : (s : Bool) → nat_lt (position_or_len is_feed text) (length text) ≡ s → lines_of text ≡ take k text ∷ lines_of (drop (k + 1) text)
    by true h =
        let f : Some (position_or_len is_feed text) ≡ Some k = rw h at e in
        let same : position_or_len is_feed text ≡ k = cc in
        found text k same (subst (λ (i : ℕ). i < length text) same (ltb-true _ _ h))
    by false h = absurd (let f : None ≡ Some k = rw h at e in cc)

-- the line up to a line feed, and the text behind it
pub line_found : (text : List ℕ) (k : ℕ) → position is_feed text ≡ Some k → lines_of text ≡ take k text ∷ lines_of (take (length text - (k + 1)) (drop (k + 1) text))
line_found text k e =
    let all = take_all (length text - (k + 1)) (drop (k + 1) text) (omega (arith, length-drop (k + 1) text)) in
    line_at text k e ∙ ap (λ (rest : List ℕ). take k text ∷ lines_of rest) (sym all)

pub line_missed : (text : List ℕ) → position is_feed text ≡ None → lines_of text ≡ []
line_missed text e = by (nat_lt (position_or_len is_feed text) (length text)) refl
  where
    by : (s : Bool) → nat_lt (position_or_len is_feed text) (length text) ≡ s → lines_of text ≡ []
    by true h = absurd (let f : Some (position_or_len is_feed text) ≡ None = rw h at e in cc)
    by false h = missed text (let le = ltb-false _ _ h in omega (arith, le))
