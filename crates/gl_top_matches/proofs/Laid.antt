-- How the words behind a command stand: the names, and between them at most one option, in one word or in two.
use Rattle.std.proofs.Common.{◌≡◌, ◌∙◌, ◌⊎◌, inl, inr, ℕ, Bool, true, false, List, [], ◌∷◌, ◌++◌, length, drop, Some, None, refl, sym, ap, ap₂, arith}
use Rattle.std.specs.Prelude.{bytes_eq, ◌==◌}
use Rattle.std.specs.List.{starts_with}
use Rattle.std.proofs.lemmas.Bool.{eqb-true}
use Rattle.gl_bits.proofs.Bools.{and_left, and_right, bytes_same}
use Rattle.gl_top_forms.specs.Forms.{is_dashed, names_in, option_front, values_in}

-- each word is a name
abbrev pub AreNames : List (List ℕ) → Type 0
AreNames [] = Unit {0}
AreNames (w ∷ ws) = (is_dashed w ≡ false) × AreNames ws

-- ---- without a value

some_value : (o : List ℕ) (ws : List (List ℕ)) → values_in o true ws ≡ [] → ⊥
some_value o [] e = absurd cc
some_value o (w ∷ ws) e = absurd cc

bare_here : (o w : List ℕ) (ws : List (List ℕ)) → (values_in o false ws ≡ [] → AreNames ws × (names_in o false ws ≡ ws)) → values_in o false (w ∷ ws) ≡ []
    → AreNames (w ∷ ws) × (names_in o false (w ∷ ws) ≡ w ∷ ws)
bare_here o w ws rest e = by (bytes_eq w o) (starts_with ◌==◌ w (option_front o)) (is_dashed w) refl refl refl
  where
    by : (s f d : Bool) → bytes_eq w o ≡ s → starts_with ◌==◌ w (option_front o) ≡ f → is_dashed w ≡ d
        → AreNames (w ∷ ws) × (names_in o false (w ∷ ws) ≡ w ∷ ws)
    by true f d p q r = absurd (some_value o ws (rw p at e))
    by false true d p q r = let z : Some (drop (length (option_front o)) w) ∷ values_in o false ws ≡ [] = rw (p, q) at e in absurd cc
    by false false true p q r = let z : None ∷ values_in o false ws ≡ [] = rw (p, q, r) at e in absurd cc
    by false false false p q r =
        let z : values_in o false ws ≡ [] = rw (p, q, r) at e in
        let more = rest z in
        ((r, more.0), rw (p, r) (ap (λ (l : List (List ℕ)). w ∷ l) more.1))

pub bare : (o : List ℕ) (ws : List (List ℕ)) → values_in o false ws ≡ [] → AreNames ws × (names_in o false ws ≡ ws)
bare o [] e = (tt, refl)
bare o (w ∷ ws) e = bare_here o w ws (bare o ws) e

-- ---- with one

-- names, the option with its value, and names
pub record Placed (o v : List ℕ) (ws : List (List ℕ)) : Type 0 where
  pub before : List (List ℕ)
  pub behind : List (List ℕ)
  pub names_before : AreNames before
  pub names_behind : AreNames behind
  pub names : names_in o false ws ≡ before ++ behind
  pub is : (ws ≡ before ++ (o ∷ v ∷ behind)) ⊎ (ws ≡ before ++ ((option_front o ++ v) ∷ behind))

front_is : (front w : List ℕ) → starts_with ◌==◌ w front ≡ true → w ≡ front ++ drop (length front) w
front_is [] w h = refl
front_is (x ∷ front) [] h = absurd cc
front_is (x ∷ front) (y ∷ w) h =
    let same : y ≡ x = sym (eqb-true x y (and_left (x == y) (starts_with ◌==◌ w front) h)) in
    ap₂ (λ (a : ℕ) (l : List ℕ). a ∷ l) same (front_is front w (and_right (x == y) (starts_with ◌==◌ w front) h))

front_dashed : (o v : List ℕ) → is_dashed o ≡ true → is_dashed (option_front o ++ v) ≡ true
front_dashed [] v h = absurd cc
front_dashed (x ∷ o) v h = h

-- the option and its value are two words
two_words : (o v w : List ℕ) (ws : List (List ℕ)) → w ≡ o → values_in o true ws ≡ Some v ∷ [] → names_in o false (w ∷ ws) ≡ names_in o true ws
    → Placed o v (w ∷ ws)
two_words o v w [] same e names = absurd cc
two_words o v w (x ∷ ws) same e names =
    let value : x ≡ v = cc in
    let none : values_in o false ws ≡ [] = cc in
    let rest = bare o ws none in
    record {
      before = [];
      behind = ws;
      names_before = tt;
      names_behind = rest.0;
      names = names ∙ rest.1;
      is = inl (ap₂ (λ (a b : List ℕ). a ∷ b ∷ ws) same value);
    }

-- or one
one_word : (o v w : List ℕ) (ws : List (List ℕ)) → w ≡ option_front o ++ v → values_in o false ws ≡ [] → names_in o false (w ∷ ws) ≡ names_in o false ws
    → Placed o v (w ∷ ws)
one_word o v w ws same none names =
    let rest = bare o ws none in
    record {
      before = [];
      behind = ws;
      names_before = tt;
      names_behind = rest.0;
      names = names ∙ rest.1;
      is = inr (ap (λ (a : List ℕ). a ∷ ws) same);
    }

-- behind a name
more : (o v w : List ℕ) (ws : List (List ℕ)) → is_dashed w ≡ false → names_in o false (w ∷ ws) ≡ w ∷ names_in o false ws → Placed o v ws → Placed o v (w ∷ ws)
more o v w ws d names rest = record {
  before = w ∷ rest.before;
  behind = rest.behind;
  names_before = (d, rest.names_before);
  names_behind = rest.names_behind;
  names = names ∙ ap (λ (l : List (List ℕ)). w ∷ l) rest.names;
  is = elim rest.is [
    | inl e ↦ inl (ap (λ (l : List (List ℕ)). w ∷ l) e)
    | inr e ↦ inr (ap (λ (l : List (List ℕ)). w ∷ l) e)
  ];
}

placed_here : (o v : List ℕ) → is_dashed o ≡ true → (w : List ℕ) (ws : List (List ℕ)) → (values_in o false ws ≡ Some v ∷ [] → Placed o v ws)
    → values_in o false (w ∷ ws) ≡ Some v ∷ [] → Placed o v (w ∷ ws)
placed_here o v dashed w ws rest e = by (bytes_eq w o) (starts_with ◌==◌ w (option_front o)) (is_dashed w) refl refl refl
  where
    by : (s f d : Bool) → bytes_eq w o ≡ s → starts_with ◌==◌ w (option_front o) ≡ f → is_dashed w ≡ d → Placed o v (w ∷ ws)
    by true f d p q r = two_words o v w ws (bytes_same w o p) (rw p at e) (rw p refl)
    by false true d p q r =
        let z : Some (drop (length (option_front o)) w) ∷ values_in o false ws ≡ Some v ∷ [] = rw (p, q) at e in
        let value : drop (length (option_front o)) w ≡ v = cc in
        let none : values_in o false ws ≡ [] = cc in
        let same = front_is (option_front o) w q ∙ ap (λ (l : List ℕ). option_front o ++ l) value in
        let d' : is_dashed w ≡ true = ap is_dashed same ∙ front_dashed o v dashed in
        one_word o v w ws same none (rw (p, d') refl)
    by false false true p q r = let z : None ∷ values_in o false ws ≡ Some v ∷ [] = rw (p, q, r) at e in absurd cc
    by false false false p q r = more o v w ws r (rw (p, r) refl) (rest (rw (p, q, r) at e))

pub placed : (o v : List ℕ) → is_dashed o ≡ true → (ws : List (List ℕ)) → values_in o false ws ≡ Some v ∷ [] → Placed o v ws
placed o v dashed [] e = absurd cc
placed o v dashed (w ∷ ws) e = placed_here o v dashed w ws (placed o v dashed ws) e

-- ---- three names, and a place between them

pub three : (P : List (List ℕ) → Type 0) → ((s q t : List ℕ) → is_dashed s ≡ false → is_dashed q ≡ false → is_dashed t ≡ false → P (s ∷ q ∷ t ∷ []))
    → (ws : List (List ℕ)) → AreNames ws → length ws ≡ 3 → P ws
three P p [] n e = absurd (omega (arith, e))
three P p (s ∷ []) n e = absurd (omega (arith, e))
three P p (s ∷ q ∷ []) n e = absurd (omega (arith, e))
three P p (s ∷ q ∷ t ∷ []) n e = p s q t n.0 n.1.0 n.1.1.0
three P p (s ∷ q ∷ t ∷ u ∷ ws) n e = absurd (omega (arith, e))

module _ (P : List (List ℕ) → List (List ℕ) → Type 0)
    (p0 : (s q t : List ℕ) → is_dashed s ≡ false → is_dashed q ≡ false → is_dashed t ≡ false → P [] (s ∷ q ∷ t ∷ []))
    (p1 : (s q t : List ℕ) → is_dashed s ≡ false → is_dashed q ≡ false → is_dashed t ≡ false → P (s ∷ []) (q ∷ t ∷ []))
    (p2 : (s q t : List ℕ) → is_dashed s ≡ false → is_dashed q ≡ false → is_dashed t ≡ false → P (s ∷ q ∷ []) (t ∷ []))
    (p3 : (s q t : List ℕ) → is_dashed s ≡ false → is_dashed q ≡ false → is_dashed t ≡ false → P (s ∷ q ∷ t ∷ []) []) where
  pub parted : (before behind : List (List ℕ)) → AreNames before → AreNames behind → length (before ++ behind) ≡ 3 → P before behind
  parted [] behind n m e = three (λ ws. P [] ws) p0 behind m e
  parted (s ∷ []) [] n m e = absurd (omega (arith, e))
  parted (s ∷ []) (q ∷ []) n m e = absurd (omega (arith, e))
  parted (s ∷ []) (q ∷ t ∷ []) n m e = p1 s q t n.0 m.0 m.1.0
  parted (s ∷ []) (q ∷ t ∷ u ∷ ws) n m e = absurd (omega (arith, e))
  parted (s ∷ q ∷ []) [] n m e = absurd (omega (arith, e))
  parted (s ∷ q ∷ []) (t ∷ []) n m e = p2 s q t n.0 n.1.0 m.0
  parted (s ∷ q ∷ []) (t ∷ u ∷ ws) n m e = absurd (omega (arith, e))
  parted (s ∷ q ∷ t ∷ []) [] n m e = p3 s q t n.0 n.1.0 n.1.1.0
  parted (s ∷ q ∷ t ∷ []) (u ∷ ws) n m e = absurd (omega (arith, e))
  parted (s ∷ q ∷ t ∷ u ∷ ws) behind n m e = absurd (omega (arith, e))
