-- What one word adds to the names and to the values of the words.
use Rattle.std.proofs.Common.{◌≡◌, ◌≢◌, ℕ, zero, suc, ◌+◌, ◌-◌, ◌∙◌, Bool, true, false, List, [], ◌∷◌, ◌++◌, length, take, drop, Option, Some, None, refl, sym, ap, subst, arith, length-drop}
use Rattle.std.specs.Prelude.{slice_get, bytes_eq, ◌==◌, ◌&&◌, codes, if◌then◌else◌}
use Rattle.std.specs.List.{starts_with}
use Rattle.std.proofs.lemmas.List.{take_all}
use Rattle.gl_bits.proofs.Bools.{bytes_same, not_both}
use Rattle.gl_top_forms.specs.Forms.{first_word, option_front, option_word, is_dashed, names_in, values_in}
use Rattle.gl_top_forms.specs.Steps.{behind, is_option, is_name, is_strange, value_in}
use Rattle.gl_top_forms.specs.Wrong.{strange_in}

-- ---- the option

-- what stands behind a front
pub front_gone : (front w : List ℕ) → starts_with ◌==◌ w front ≡ true → Some (take (length w - length front) (drop (length front) w)) ≡ behind front w
front_gone front w h = rw h (ap Some (take_all (length w - length front) (drop (length front) w) (omega (arith, length-drop (length front) w))))

-- what stands behind two fronts, where the first stands there
front_same : (b : Bool) (o p w rest : List ℕ) → (if b && starts_with ◌==◌ w o then Some (drop (length o) w) else None) ≡ Some rest
    → (behind o w ≡ Some rest → behind (o ++ p) w ≡ behind p rest) → (if b && starts_with ◌==◌ w (o ++ p) then Some (drop (length (o ++ p)) w) else None) ≡ behind p rest
front_same true o p w rest e more = more e
front_same false o p w rest e more = absurd cc

pub front_here : (o p w rest : List ℕ) → behind o w ≡ Some rest → behind (o ++ p) w ≡ behind p rest
front_here [] p w rest e = let same : w ≡ rest = cc in ap (behind p) same
front_here (x ∷ o) p [] rest e = absurd cc
front_here (x ∷ o) p (y ∷ w) rest e = front_same (x == y) o p w rest e (front_here o p w rest)

-- and where it does not
front_other : (b : Bool) (o p w : List ℕ) → (if b && starts_with ◌==◌ w o then Some (drop (length o) w) else None) ≡ None
    → (behind o w ≡ None → behind (o ++ p) w ≡ None) → (if b && starts_with ◌==◌ w (o ++ p) then Some (drop (length (o ++ p)) w) else None) ≡ None
front_other true o p w e more = more e
front_other false o p w e more = refl

pub front_none : (o p w : List ℕ) → behind o w ≡ None → behind (o ++ p) w ≡ None
front_none [] p w e = absurd cc
front_none (x ∷ o) p [] e = refl
front_none (x ∷ o) p (y ∷ w) e = front_other (x == y) o p w e (front_none o p w)

-- it begins with `-`
pub option_dashed : (words : List (List ℕ)) → is_dashed (option_word words) ≡ true
unfolding option_word
option_dashed words = by (bytes_eq (first_word words) (codes "sim"))
  where
    by : (b : Bool) → is_dashed (if b then codes "--extra" else codes "--start") ≡ true
    by true = refl
    by false = refl

word_dashed : (o w : List ℕ) → is_dashed o ≡ true → bytes_eq w o ≡ true → is_dashed w ≡ true
word_dashed o w d h = subst (λ (x : List ℕ). is_dashed x ≡ true) (sym (bytes_same w o h)) d

-- ---- the words from a place on

pub from_here : (ws : List (List ℕ)) (k : ℕ) (w : List ℕ) → slice_get ws k ≡ Some w → drop k ws ≡ w ∷ drop (k + 1) ws
from_here [] k w e = absurd cc
from_here (x ∷ ws) zero w e = let same : x ≡ w = cc in ap (λ y. y ∷ ws) same
from_here (x ∷ ws) (suc k) w e =
    let place : suc k + 1 ≡ suc (k + 1) = omega arith in
    from_here ws k w e ∙ ap (λ n. w ∷ drop n (x ∷ ws)) (sym place)

-- ---- names

module _ (o : List ℕ) (dashed : is_dashed o ≡ true) where
  named : (v : Bool) (w : List ℕ) (ws : List (List ℕ)) → is_name v w ≡ true → names_in o v (w ∷ ws) ≡ w ∷ names_in o (is_option o v w) ws
  named true w ws h = absurd cc
  named false w ws h = by (is_dashed w) (bytes_eq w o) refl refl
    where
      by : (d s : Bool) → is_dashed w ≡ d → bytes_eq w o ≡ s → names_in o false (w ∷ ws) ≡ w ∷ names_in o (is_option o false w) ws
      by true s p q = absurd cc
      by false true p q = absurd (not_both _ (word_dashed o w dashed q) p)
      by false false p q = rw (q, p) refl

  unnamed : (v : Bool) (w : List ℕ) (ws : List (List ℕ)) → is_name v w ≡ false → names_in o v (w ∷ ws) ≡ names_in o (is_option o v w) ws
  unnamed true w ws h = refl
  unnamed false w ws h = by (is_dashed w) (bytes_eq w o) refl refl
    where
      by : (d s : Bool) → is_dashed w ≡ d → bytes_eq w o ≡ s → names_in o false (w ∷ ws) ≡ names_in o (is_option o false w) ws
      by false s p q = absurd cc
      by true true p q = rw q refl
      by true false p q = rw (q, p) refl

  pub name_found : (v : Bool) (ws : List (List ℕ)) (k : ℕ) (w : List ℕ) → slice_get ws k ≡ Some w → is_name v w ≡ true
      → slice_get (names_in o v (drop k ws)) 0 ≡ Some w
  name_found v ws k w e h = ap (λ l. slice_get (names_in o v l) 0) (from_here ws k w e) ∙ ap (λ l. slice_get l 0) (named v w (drop (k + 1) ws) h)

  pub name_passed : (v u : Bool) (ws : List (List ℕ)) (k : ℕ) (w : List ℕ) (n m : ℕ) → slice_get ws k ≡ Some w → is_name v w ≡ true → n ≢ 0
      → u ≡ is_option o v w → m ≡ n - 1 → slice_get (names_in o v (drop k ws)) n ≡ slice_get (names_in o u (drop (k + 1) ws)) m
  name_passed v u ws k w zero m e h some next less = absurd (some refl)
  name_passed v u ws k w (suc n) m e h some next less =
      let back : m ≡ n = omega arith in
      ap (λ l. slice_get (names_in o v l) (suc n)) (from_here ws k w e) ∙ ap (λ l. slice_get l (suc n)) (named v w (drop (k + 1) ws) h)
      ∙ ap (λ b. slice_get (names_in o b (drop (k + 1) ws)) n) (sym next) ∙ ap (λ i. slice_get (names_in o u (drop (k + 1) ws)) i) (sym back)

  pub name_none : (v u : Bool) (ws : List (List ℕ)) (k : ℕ) (w : List ℕ) (n m : ℕ) → slice_get ws k ≡ Some w → is_name v w ≡ false
      → u ≡ is_option o v w → m ≡ n → slice_get (names_in o v (drop k ws)) n ≡ slice_get (names_in o u (drop (k + 1) ws)) m
  name_none v u ws k w n m e h next same =
      ap (λ l. slice_get (names_in o v l) n) (from_here ws k w e) ∙ ap (λ l. slice_get l n) (unnamed v w (drop (k + 1) ws) h)
      ∙ ap (λ b. slice_get (names_in o b (drop (k + 1) ws)) n) (sym next) ∙ ap (λ i. slice_get (names_in o u (drop (k + 1) ws)) i) (sym same)

-- ---- values

module _ (o : List ℕ) where
  valued : (v : Bool) (w : List ℕ) (ws : List (List ℕ)) (x : Option (List ℕ)) → value_in o v w ≡ Some x
      → values_in o v (w ∷ ws) ≡ x ∷ values_in o (is_option o v w) ws
  valued true w ws x h = let same : Some w ≡ x = cc in ap (λ y. y ∷ values_in o false ws) same
  valued false w ws x h = by (bytes_eq w o) (starts_with ◌==◌ w (option_front o)) (is_dashed w) refl refl refl
    where
      by : (s f d : Bool) → bytes_eq w o ≡ s → starts_with ◌==◌ w (option_front o) ≡ f → is_dashed w ≡ d
          → values_in o false (w ∷ ws) ≡ x ∷ values_in o (is_option o false w) ws
      by true f d p q r = let z : None ≡ Some x = rw p at h in absurd cc
      by false true d p q r =
          let z : Some (Some (drop (length (option_front o)) w)) ≡ Some x = rw (p, q) at h in
          let same : Some (drop (length (option_front o)) w) ≡ x = cc in
          rw (p, q) (ap (λ y. y ∷ values_in o false ws) same)
      by false false true p q r =
          let z : Some None ≡ Some x = rw (p, q, r) at h in
          let same : None ≡ x = cc in
          rw (p, q, r) (ap (λ y. y ∷ values_in o false ws) same)
      by false false false p q r = let z : None ≡ Some x = rw (p, q, r) at h in absurd cc

  unvalued : (v : Bool) (w : List ℕ) (ws : List (List ℕ)) → value_in o v w ≡ None → values_in o v (w ∷ ws) ≡ values_in o (is_option o v w) ws
  unvalued true w ws h = absurd cc
  unvalued false w ws h = by (bytes_eq w o) (starts_with ◌==◌ w (option_front o)) (is_dashed w) refl refl refl
    where
      by : (s f d : Bool) → bytes_eq w o ≡ s → starts_with ◌==◌ w (option_front o) ≡ f → is_dashed w ≡ d
          → values_in o false (w ∷ ws) ≡ values_in o (is_option o false w) ws
      by true f d p q r = rw p refl
      by false true d p q r = let z : Some (Some (drop (length (option_front o)) w)) ≡ None = rw (p, q) at h in absurd cc
      by false false true p q r = let z : Some None ≡ None = rw (p, q, r) at h in absurd cc
      by false false false p q r = rw (p, q, r) refl

  pub value_found : (v : Bool) (ws : List (List ℕ)) (k : ℕ) (w : List ℕ) (x : Option (List ℕ)) → slice_get ws k ≡ Some w
      → value_in o v w ≡ Some x → slice_get (values_in o v (drop k ws)) 0 ≡ Some x
  value_found v ws k w x e h =
      ap (λ l. slice_get (values_in o v l) 0) (from_here ws k w e) ∙ ap (λ l. slice_get l 0) (valued v w (drop (k + 1) ws) x h)

  pub value_passed : (v u : Bool) (ws : List (List ℕ)) (k : ℕ) (w : List ℕ) (x : Option (List ℕ)) (n m : ℕ) → slice_get ws k ≡ Some w
      → value_in o v w ≡ Some x → n ≢ 0 → u ≡ is_option o v w → m ≡ n - 1 → slice_get (values_in o v (drop k ws)) n ≡ slice_get (values_in o u (drop (k + 1) ws)) m
  value_passed v u ws k w x zero m e h some next less = absurd (some refl)
  value_passed v u ws k w x (suc n) m e h some next less =
      let back : m ≡ n = omega arith in
      ap (λ l. slice_get (values_in o v l) (suc n)) (from_here ws k w e) ∙ ap (λ l. slice_get l (suc n)) (valued v w (drop (k + 1) ws) x h)
      ∙ ap (λ b. slice_get (values_in o b (drop (k + 1) ws)) n) (sym next) ∙ ap (λ i. slice_get (values_in o u (drop (k + 1) ws)) i) (sym back)

  pub value_none : (v u : Bool) (ws : List (List ℕ)) (k : ℕ) (w : List ℕ) (n m : ℕ) → slice_get ws k ≡ Some w → value_in o v w ≡ None
      → u ≡ is_option o v w → m ≡ n → slice_get (values_in o v (drop k ws)) n ≡ slice_get (values_in o u (drop (k + 1) ws)) m
  value_none v u ws k w n m e h next same =
      ap (λ l. slice_get (values_in o v l) n) (from_here ws k w e) ∙ ap (λ l. slice_get l n) (unvalued v w (drop (k + 1) ws) h)
      ∙ ap (λ b. slice_get (values_in o b (drop (k + 1) ws)) n) (sym next) ∙ ap (λ i. slice_get (values_in o u (drop (k + 1) ws)) i) (sym same)

-- ---- words that are none of these

module _ (o : List ℕ) where
  strange : (v : Bool) (w : List ℕ) (ws : List (List ℕ)) → is_strange o v w ≡ true → strange_in o v (w ∷ ws) ≡ Some w
  strange true w ws h = absurd cc
  strange false w ws h = by (bytes_eq w o) (starts_with ◌==◌ w (option_front o)) (is_dashed w) refl refl refl
    where
      by : (s f d : Bool) → bytes_eq w o ≡ s → starts_with ◌==◌ w (option_front o) ≡ f → is_dashed w ≡ d → strange_in o false (w ∷ ws) ≡ Some w
      by true f d p q r = absurd (let z : false ≡ true = rw p at h in cc)
      by false true d p q r = absurd (let z : false ≡ true = rw (p, q) at h in cc)
      by false false true p q r = rw (p, q, r) refl
      by false false false p q r = absurd (let z : false ≡ true = rw (p, q, r) at h in cc)

  plain : (v : Bool) (w : List ℕ) (ws : List (List ℕ)) → is_strange o v w ≡ false → strange_in o v (w ∷ ws) ≡ strange_in o (is_option o v w) ws
  plain true w ws h = refl
  plain false w ws h = by (bytes_eq w o) (starts_with ◌==◌ w (option_front o)) (is_dashed w) refl refl refl
    where
      by : (s f d : Bool) → bytes_eq w o ≡ s → starts_with ◌==◌ w (option_front o) ≡ f → is_dashed w ≡ d
          → strange_in o false (w ∷ ws) ≡ strange_in o (is_option o false w) ws
      by true f d p q r = rw p refl
      by false true d p q r = rw (p, q) refl
      by false false true p q r = absurd (let z : true ≡ false = rw (p, q, r) at h in cc)
      by false false false p q r = rw (p, q, r) refl

  pub strange_found : (v : Bool) (ws : List (List ℕ)) (k : ℕ) (w : List ℕ) → slice_get ws k ≡ Some w → is_strange o v w ≡ true
      → strange_in o v (drop k ws) ≡ Some w
  strange_found v ws k w e h = ap (λ l. strange_in o v l) (from_here ws k w e) ∙ strange v w (drop (k + 1) ws) h

  pub strange_none : (v u : Bool) (ws : List (List ℕ)) (k : ℕ) (w : List ℕ) → slice_get ws k ≡ Some w → is_strange o v w ≡ false
      → u ≡ is_option o v w → strange_in o v (drop k ws) ≡ strange_in o u (drop (k + 1) ws)
  strange_none v u ws k w e h next =
      ap (λ l. strange_in o v l) (from_here ws k w e) ∙ plain v w (drop (k + 1) ws) h
      ∙ ap (λ b. strange_in o b (drop (k + 1) ws)) (sym next)
