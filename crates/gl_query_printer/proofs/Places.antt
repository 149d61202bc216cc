-- Tokens without their places, and at other places.
use Rattle.std.proofs.Common.{◌≡◌, ℕ, List, [], ◌∷◌, ◌++◌, map, refl, sym, ap, ◌∙◌}
use Rattle.gl_query_tokens.specs.declared.token.Token.{Token}
use Rattle.gl_query_tokens.specs.declared.token.Token.TheVariants as token
use Rattle.gl_query_printer.specs.Canonical.{name_of, num_of}
use Rattle.gl_bits.proofs.AllLists.{heads, tails}

-- at place 0
abbrev pub placeless : Token → Token
placeless (token.Name name) = token.Name (name_of name.text)
placeless (token.Number n) = token.Number (num_of n.value)
placeless (token.Letters text at) = token.Letters text 0
placeless (token.Operator o at) = token.Operator o 0
placeless (token.Open at) = token.Open 0
placeless (token.Colon at) = token.Colon 0
placeless (token.Tilde at) = token.Tilde 0
placeless (token.Not at) = token.Not 0
placeless (token.Cast at) = token.Cast 0
placeless (token.Count at) = token.Count 0
placeless (token.Wsum at) = token.Wsum 0
placeless (token.Fold f at) = token.Fold f 0
placeless (token.Join j at) = token.Join j 0
placeless (token.Each at) = token.Each 0
placeless (token.By at) = token.By 0
placeless (token.Size at) = token.Size 0
placeless (token.Word w at) = token.Word w 0
placeless (token.Plain p) = token.Plain p
placeless token.Stray = token.Stray

-- at another place
abbrev pub placed : ℕ → Token → Token
placed at (token.Name name) = token.Name (record { text = name.text; at = at })
placed at (token.Number n) = token.Number (record { value = n.value; at = at })
placed at (token.Letters text b) = token.Letters text at
placed at (token.Operator o b) = token.Operator o at
placed at (token.Open b) = token.Open at
placed at (token.Colon b) = token.Colon at
placed at (token.Tilde b) = token.Tilde at
placed at (token.Not b) = token.Not at
placed at (token.Cast b) = token.Cast at
placed at (token.Count b) = token.Count at
placed at (token.Wsum b) = token.Wsum at
placed at (token.Fold f b) = token.Fold f at
placed at (token.Join j b) = token.Join j at
placed at (token.Each b) = token.Each at
placed at (token.By b) = token.By at
placed at (token.Size b) = token.Size at
placed at (token.Word w b) = token.Word w at
placed at (token.Plain p) = token.Plain p
placed at token.Stray = token.Stray

abbrev place_of : Token → ℕ
place_of (token.Name name) = name.at
place_of (token.Number n) = n.at
place_of (token.Letters text at) = at
place_of (token.Operator o at) = at
place_of (token.Open at) = at
place_of (token.Colon at) = at
place_of (token.Tilde at) = at
place_of (token.Not at) = at
place_of (token.Cast at) = at
place_of (token.Count at) = at
place_of (token.Wsum at) = at
place_of (token.Fold f at) = at
place_of (token.Join j at) = at
place_of (token.Each at) = at
place_of (token.By at) = at
place_of (token.Size at) = at
place_of (token.Word w at) = at
place_of (token.Plain p) = 0
place_of token.Stray = 0

placed_back : (u : Token) → placed (place_of u) (placeless u) ≡ u
placed_back (token.Name name) = refl
placed_back (token.Number n) = refl
placed_back (token.Letters text at) = refl
placed_back (token.Operator o at) = refl
placed_back (token.Open at) = refl
placed_back (token.Colon at) = refl
placed_back (token.Tilde at) = refl
placed_back (token.Not at) = refl
placed_back (token.Cast at) = refl
placed_back (token.Count at) = refl
placed_back (token.Wsum at) = refl
placed_back (token.Fold f at) = refl
placed_back (token.Join j at) = refl
placed_back (token.Each at) = refl
placed_back (token.By at) = refl
placed_back (token.Size at) = refl
placed_back (token.Word w at) = refl
placed_back (token.Plain p) = refl
placed_back token.Stray = refl

-- tokens whose beginning and end are known but for their places
pub record Parts (us xs ys : List Token) : Type 0 where
  pub front : List Token
  pub back : List Token
  pub whole : us ≡ front ++ back
  pub front_is : map placeless front ≡ xs
  pub back_is : map placeless back ≡ ys

pub none_some : {A : Type 0} (x : A) (xs : List A) → [] ≡ x ∷ xs → ⊥
none_some x xs h = absurd (cc)

pub parts : (us xs ys : List Token) → map placeless us ≡ xs ++ ys → Parts us xs ys
parts us [] ys h = record { front = []; back = us; whole = refl; front_is = refl; back_is = h }
parts [] (x ∷ xs) ys h = absurd (none_some x (xs ++ ys) h)
parts (u ∷ us) (x ∷ xs) ys h =
    let p = parts us xs ys (tails (placeless u) x (map placeless us) (xs ++ ys) h) in
    let e = heads (placeless u) x (map placeless us) (xs ++ ys) h in
    let f = p.front_is in
    record { front = u ∷ p.front; back = p.back; whole = ap (λ (ts : List Token). u ∷ ts) p.whole; front_is = cc (e, f); back_is = p.back_is }

-- the first token is known but for its place
pub record First (us : List Token) (t : Token) (ys : List Token) : Type 0 where
  pub at : ℕ
  pub rest : List Token
  pub whole : us ≡ placed at t ∷ rest
  pub rest_is : map placeless rest ≡ ys

pub first : (us : List Token) (t : Token) (ys : List Token) → map placeless us ≡ t ∷ ys → First us t ys
first [] t ys h = absurd (none_some t ys h)
first (u ∷ us) t ys h = record {
  at = place_of u;
  rest = us;
  whole = ap (λ (x : Token). x ∷ us) (sym (placed_back u) ∙ ap (placed (place_of u)) (heads (placeless u) t (map placeless us) ys h));
  rest_is = tails (placeless u) t (map placeless us) ys h;
}

pub nothing : (us : List Token) → map placeless us ≡ [] → us ≡ []
nothing [] h = refl
nothing (u ∷ us) h = absurd (none_some (placeless u) (map placeless us) (sym h))

-- one token alone
pub record Alone (us : List Token) (t : Token) : Type 0 where
  pub at : ℕ
  pub whole : us ≡ placed at t ∷ []

pub alone : (us : List Token) (t : Token) → map placeless us ≡ t ∷ [] → Alone us t
alone us t h = let f = first us t [] h in record { at = f.at; whole = f.whole ∙ ap (λ (ts : List Token). placed f.at t ∷ ts) (nothing f.rest f.rest_is) }
