-- Pieces, token by token.
use Rattle.std.proofs.Common.{◌≡◌, ℕ, ◌≤◌, true, false, List, [], ◌∷◌, ◌++◌, length, reverse, refl, sym, ap, ◌∙◌, arith}
use Rattle.std.proofs.lemmas.List.{length-reverse, nil_from_length}
use Rattle.gl_query_tokens.specs.declared.token.Lexeme.{Lexeme}
use Rattle.gl_query_reader.proofs.Loop.{left-push}
use Rattle.gl_query_texts.specs.Pieces.{is_semicolon, piece, pieces_behind, pieces_left}

pub ends_here : (begun : List Lexeme) (l : Lexeme) (ls : List Lexeme) (end : ℕ) → is_semicolon l.token ≡ true → pieces_behind begun (l ∷ ls) end ≡ piece begun l.at ∷ pieces_left ls end
unfolding pieces_behind
ends_here begun l ls end e = rw e refl

pub goes_on : (begun : List Lexeme) (l : Lexeme) (ls : List Lexeme) (end : ℕ) → is_semicolon l.token ≡ false → pieces_behind begun (l ∷ ls) end ≡ pieces_behind (begun ++ l ∷ []) ls end
unfolding pieces_behind
goes_on begun l ls end e = rw e refl

pub ends_last : (begun : List Lexeme) (end : ℕ) → pieces_behind begun [] end ≡ piece begun end ∷ pieces_left [] end
unfolding pieces_behind
ends_last begun end = refl

pub ruleset piece_steps = (left-push, ends_here, goes_on, ends_last)

none_some : 1 ≤ 0 → ⊥
none_some h = let z : 1 ≤ 0 = h in omega arith

-- what is left begins a piece
some_left : (ls : List Lexeme) (end : ℕ) → 1 ≤ length ls → pieces_left ls end ≡ pieces_behind [] ls end
some_left [] end h = absurd (none_some h)
some_left (l ∷ ls) end h = refl

-- ---- tokens in reverse, of which there are so many

pub no_more : (ls : List Lexeme) (n end : ℕ) → n ≡ length ls → n ≡ 0 → pieces_left (reverse ls) end ≡ []
no_more ls n end e z = ap (λ (x : List Lexeme). pieces_left (reverse x) end) (nil_from_length ls (sym e ∙ z))

pub some_more : (ls : List Lexeme) (n end : ℕ) → n ≡ length ls → 1 ≤ n → pieces_left (reverse ls) end ≡ pieces_behind [] (reverse ls) end
some_more ls n end e h = some_left (reverse ls) end (let l : length (reverse ls) ≡ length ls = length-reverse ls in omega arith)
