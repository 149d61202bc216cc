-- Where an option with its value may stand among three names, and what clap makes of each layout.
use Rattle.std.proofs.Common.{◌≡◌, inl, inr, false, List, [], ◌∷◌, ◌++◌, length, Some, sym, subst}
use Rattle.clap.specs.Words.{App, Text}
use Rattle.gl_top_forms.specs.Forms.{is_dashed, option_front}
use Rattle.gl_top_matches.proofs.Ends.{Given}
use Rattle.gl_top_matches.proofs.Laid.{AreNames, Placed, parted}

-- three names behind a word or several
abbrev pub OfNames : (Text → Text → Text → Type 0) → Type 0
OfNames P = (s q t : Text) → is_dashed s ≡ false → is_dashed q ≡ false → is_dashed t ≡ false → P s q t

-- the eight layouts: the value behind the option, or both in one word, at each of four places
pub record Layouts (a : App) (option : Text) : Type 0 where
  pub apart_0 : (v : Text) → is_dashed v ≡ false → OfNames (λ s q t. Given a (option ∷ v ∷ s ∷ q ∷ t ∷ []) (s ∷ q ∷ t ∷ []) (Some v))
  pub apart_1 : (v : Text) → is_dashed v ≡ false → OfNames (λ s q t. Given a (s ∷ option ∷ v ∷ q ∷ t ∷ []) (s ∷ q ∷ t ∷ []) (Some v))
  pub apart_2 : (v : Text) → is_dashed v ≡ false → OfNames (λ s q t. Given a (s ∷ q ∷ option ∷ v ∷ t ∷ []) (s ∷ q ∷ t ∷ []) (Some v))
  pub apart_3 : (v : Text) → is_dashed v ≡ false → OfNames (λ s q t. Given a (s ∷ q ∷ t ∷ option ∷ v ∷ []) (s ∷ q ∷ t ∷ []) (Some v))
  pub joined_0 : (v : Text) → OfNames (λ s q t. Given a ((option_front option ++ v) ∷ s ∷ q ∷ t ∷ []) (s ∷ q ∷ t ∷ []) (Some v))
  pub joined_1 : (v : Text) → OfNames (λ s q t. Given a (s ∷ (option_front option ++ v) ∷ q ∷ t ∷ []) (s ∷ q ∷ t ∷ []) (Some v))
  pub joined_2 : (v : Text) → OfNames (λ s q t. Given a (s ∷ q ∷ (option_front option ++ v) ∷ t ∷ []) (s ∷ q ∷ t ∷ []) (Some v))
  pub joined_3 : (v : Text) → OfNames (λ s q t. Given a (s ∷ q ∷ t ∷ (option_front option ++ v) ∷ []) (s ∷ q ∷ t ∷ []) (Some v))

-- what clap makes of words with names, the option with its value, and names
module _ (a : App) (option : Text) (all : Layouts a option) where
  apart : (v : Text) → is_dashed v ≡ false → (before behind : List Text) → AreNames before → AreNames behind → length (before ++ behind) ≡ 3
      → Given a (before ++ (option ∷ v ∷ behind)) (before ++ behind) (Some v)
  apart v p = parted (λ x y. Given a (x ++ (option ∷ v ∷ y)) (x ++ y) (Some v)) (all.apart_0 v p) (all.apart_1 v p) (all.apart_2 v p) (all.apart_3 v p)

  joined : (v : Text) → (before behind : List Text) → AreNames before → AreNames behind → length (before ++ behind) ≡ 3
      → Given a (before ++ ((option_front option ++ v) ∷ behind)) (before ++ behind) (Some v)
  joined v = parted (λ x y. Given a (x ++ ((option_front option ++ v) ∷ y)) (x ++ y) (Some v)) (all.joined_0 v) (all.joined_1 v) (all.joined_2 v) (all.joined_3 v)

  pub laid : (v : Text) → is_dashed v ≡ false → (ws : List Text) (p : Placed option v ws) → length (p.before ++ p.behind) ≡ 3 → Given a ws (p.before ++ p.behind) (Some v)
  laid v plain ws p many = elim p.is [
    | inl e ↦ subst (λ (l : List Text). Given a l (p.before ++ p.behind) (Some v)) (sym e) (apart v plain p.before p.behind p.names_before p.names_behind many)
    | inr e ↦ subst (λ (l : List Text). Given a l (p.before ++ p.behind) (Some v)) (sym e) (joined v p.before p.behind p.names_before p.names_behind many)
  ]
