-- A sum of so few numbers of a kind stands in so many bits more.
use Rattle.std.proofs.Common.{◌≡◌, ℕ, ◌+◌, ◌-◌, ◌*◌, ◌%◌, ◌^◌, ◌<◌, ◌≤◌, List, [], ◌∷◌, ◌++◌, map, length, Bool, true, false, refl, sym, ap, ◌∙◌, arith, inl, inr, mul-le-mul_right, length-append}
use Rattle.std.specs.Prelude.{ℤ, pos, ◌+ℤ◌, ◌-ℤ◌, if◌then◌else◌}
use Rattle.std.specs.Int.{int_rem_euclid}
use Rattle.std.proofs.Math.Nat.{mod-eq_of_lt, mod-lt}
use Rattle.std.proofs.lemmas.Bool.{cases_lt, le-ltb, lt-ltb}
use Rattle.std.proofs.lemmas.Int.{ints}
use Rattle.std.proofs.lemmas.List.{map-append}
use Rattle.std.proofs.lemmas.List.Sums.{fold-append}
use Rattle.std.proofs.lemmas.Nat.{pow-add, pow_pos}
use Rattle.gl_values.proofs.Signs.{half_of, high_number, low_number}
use Rattle.gl_values.specs.Kinds.{is_signed, lowest, number_of, width_of, wrapped}
use Rattle.gl_values.specs.Totals.{sum_of_numbers}
use Rattle.gl_values.specs.declared.kind.Kind.{Kind}
use Rattle.gl_values.specs.declared.kind.Kind.TheVariants.{Unsigned, Signed, Text}
use Rattle.gl_frames_stages.proofs.ChangeLemmas.{by_rows}

-- how far below 0 the numbers of so many bits begin
abbrev shift : Kind → ℕ → ℕ
shift kind bits = if is_signed kind then 2 ^ (bits - 1) else 0

lowest_is : (kind : Kind) (bits : ℕ) → lowest kind bits ≡ pos 0 -ℤ pos (shift kind bits)
lowest_is kind bits = by (is_signed kind)
  where
    by : (b : Bool) → (if b then pos 0 -ℤ pos (2 ^ (bits - 1)) else pos 0) ≡ pos 0 -ℤ pos (if b then 2 ^ (bits - 1) else 0)
    by true = refl
    by false = refl

-- a number of a kind, from there on
number_from : (kind : Kind) (x : ℕ) → 1 ≤ width_of kind → x < 2 ^ width_of kind
    → (y : ℕ) × (number_of kind x ≡ pos y -ℤ pos (shift kind (width_of kind))) × (y < 2 ^ width_of kind)
number_from (Unsigned w) x some fits = (x, (let e : pos x ≡ pos x -ℤ pos 0 = omega (arith, ints) in e), fits)
number_from (Text n) x some fits = (x, (let e : pos x ≡ pos x -ℤ pos 0 = omega (arith, ints) in e), fits)
number_from (Signed w) x some fits = elim (cases_lt x (2 ^ (w - 1))) [
  | inl lt ↦ (
      let half = half_of w some in
      let e : pos x ≡ pos (x + 2 ^ (w - 1)) -ℤ pos (2 ^ (w - 1)) = omega (arith, ints) in
      (x + 2 ^ (w - 1), low_number w x (lt-ltb x (2 ^ (w - 1)) lt) ∙ e, omega (arith, lt, half))
      )
  | inr ge ↦ (
      let half = half_of w some in
      let e : pos x -ℤ pos (2 ^ w) ≡ pos (x - 2 ^ (w - 1)) -ℤ pos (2 ^ (w - 1)) = omega (arith, ints, ge, half) in
      (x - 2 ^ (w - 1), high_number w x (le-ltb x (2 ^ (w - 1)) ge) ∙ e, omega (arith, fits))
      )
]

module _ {B : Type 0} (kind : Kind) (some : 1 ≤ width_of kind) (v : B → ℕ) where
  abbrev w : ℕ
  w = width_of kind

  abbrev rests : List B → List ℕ
  rests rows = map (λ r. v r % 2 ^ w) rows

  abbrev From : List B → Type 0
  From rows = (p : ℕ) × (sum_of_numbers kind (rests rows) ≡ pos p -ℤ pos (length rows * shift kind w)) × (p ≤ length rows * 2 ^ w)

  sum_more : (rows : List B) (r : B) → sum_of_numbers kind (rests (rows ++ r ∷ [])) ≡ sum_of_numbers kind (rests rows) +ℤ number_of kind (v r % 2 ^ w)
  sum_more rows r =
      ap (sum_of_numbers kind) (map-append (λ z. v z % 2 ^ w) rows (r ∷ []))
      ∙ fold-append (λ a x. a +ℤ number_of kind x) (pos 0) (rests rows) (v r % 2 ^ w ∷ [])

  one_more : (rows : List B) (r : B) → From rows → From (rows ++ r ∷ [])
  one_more rows r h =
      let n = number_from kind (v r % 2 ^ w) some (mod-lt (v r) (pow_pos w)) in
      let c : ℕ = shift kind w in
      let long : length (rows ++ r ∷ []) ≡ length rows + 1 = (let e = length-append rows (r ∷ []) in omega (arith, e)) in
      let shifts : length (rows ++ r ∷ []) * c ≡ length rows * c + c = ap (λ k. k * c) long ∙ omega arith in
      let sizes : length (rows ++ r ∷ []) * 2 ^ w ≡ length rows * 2 ^ w + 2 ^ w = ap (λ k. k * 2 ^ w) long ∙ omega arith in
      let p : ℕ = h.0 in
      let y : ℕ = n.0 in
      let before = h.1 in
      let own = n.1 in
      let few = h.2 in
      let less = n.2 in
      let value : (pos p -ℤ pos (length rows * c)) +ℤ (pos y -ℤ pos c) ≡ pos (p + y) -ℤ pos (length (rows ++ r ∷ []) * c) = omega (arith, ints, shifts) in (
        p + y,
        sum_more rows r ∙ ap (λ z. z +ℤ number_of kind (v r % 2 ^ w)) before ∙ ap (λ z. (pos p -ℤ pos (length rows * c)) +ℤ z) own ∙ value,
        omega (arith, few, less, sizes),
      )

  sum_from : (rows : List B) → From rows
  sum_from rows =
      by_rows From ((0, (let e : pos 0 ≡ pos 0 -ℤ pos (0 * shift kind w) = omega (arith, ints) in e), omega arith)) one_more rows

-- what stands in the range of so many bits is no other there
wrapped_within : (kind : Kind) (bits p : ℕ) (z : ℤ) → z ≡ pos p -ℤ pos (shift kind bits) → p < 2 ^ bits → wrapped kind bits z ≡ z
wrapped_within kind bits p z is lt =
    let low = lowest_is kind bits in
    let from : z -ℤ lowest kind bits ≡ pos p = ap (λ k. k -ℤ lowest kind bits) is ∙ ap (λ k. (pos p -ℤ pos (shift kind bits)) -ℤ k) low ∙ omega (arith, ints) in
    let back : (pos 0 -ℤ pos (shift kind bits)) +ℤ pos p ≡ pos p -ℤ pos (shift kind bits) = omega (arith, ints) in
    ap (λ k. lowest kind bits +ℤ int_rem_euclid k (pos (2 ^ bits))) from ∙ ap (λ k. lowest kind bits +ℤ pos k) (mod-eq_of_lt lt)
    ∙ ap (λ k. k +ℤ pos p) low ∙ back ∙ sym is

-- in truth values: whether a kind has a sign
within : (signed : Bool) (w b n p : ℕ) (z : ℤ) → 1 ≤ w → 1 ≤ b → n < 2 ^ b → p ≤ n * 2 ^ w → z ≡ pos p -ℤ pos (n * (if signed then 2 ^ (w - 1) else 0))
    → (q : ℕ) × (z ≡ pos q -ℤ pos (if signed then 2 ^ (w + b - 1) else 0)) × (q < 2 ^ (w + b))
within false w b n p z some more lt few is =
    let whole : 2 ^ (w + b) ≡ 2 ^ w * 2 ^ b = pow-add 2 w b in
    let room : (n + 1) * 2 ^ w ≤ 2 ^ b * 2 ^ w = mul-le-mul_right (2 ^ w) (let e : n + 1 ≤ 2 ^ b = omega (arith, lt) in e) in
    let spread : (n + 1) * 2 ^ w ≡ n * 2 ^ w + 2 ^ w = omega arith in
    let turned : 2 ^ b * 2 ^ w ≡ 2 ^ w * 2 ^ b = omega arith in
    let one : 1 ≤ 2 ^ w = pow_pos w in
    let none : pos p -ℤ pos (n * 0) ≡ pos p -ℤ pos 0 = omega (arith, ints) in
    (p, is ∙ none, omega (arith, whole, room, spread, turned, one, few))
within true w b n p z some more lt few is =
    let h : ℕ = 2 ^ (w - 1) in
    let k : ℕ = 2 ^ b in
    let half : h + h ≡ 2 ^ w = half_of w some in
    let sum : 2 ^ (w + b - 1) + 2 ^ (w + b - 1) ≡ 2 ^ (w + b) = half_of (w + b) (omega (arith, some)) in
    let place : w + b - 1 ≡ w - 1 + b = omega (arith, some) in
    let top : 2 ^ (w + b - 1) ≡ h * k = ap (λ (m : ℕ). 2 ^ m) place ∙ pow-add 2 (w - 1) b in
    let room : (n + 1) * h ≤ k * h = mul-le-mul_right h (let e : n + 1 ≤ k = omega (arith, lt) in e) in
    let spread : (n + 1) * h ≡ n * h + h = omega arith in
    let turned : k * h ≡ h * k = omega arith in
    let one : 1 ≤ h = pow_pos (w - 1) in
    let sizes : n * 2 ^ w ≡ n * h + n * h = ap (λ m. n * m) (sym half) ∙ omega arith in
    let value : pos p -ℤ pos (n * h) ≡ pos (p + h * k - n * h) -ℤ pos (h * k) = omega (arith, ints, room, spread, turned) in (
      p + h * k - n * h,
      is ∙ value ∙ ap (λ m. pos (p + h * k - n * h) -ℤ pos m) (sym top),
      omega (arith, sum, top, room, spread, turned, one, sizes, few),
    )

pub sum_within : {B : Type 0} (kind : Kind) (b : ℕ) (v : B → ℕ) (rows : List B) → 1 ≤ width_of kind → 1 ≤ b → length rows < 2 ^ b
    → wrapped kind (width_of kind + b) (sum_of_numbers kind (map (λ r. v r % 2 ^ width_of kind) rows)) ≡ sum_of_numbers kind (map (λ r. v r % 2 ^ width_of kind) rows)
sum_within kind b v rows some more lt =
    let h = sum_from kind some v rows in
    let q = within (is_signed kind) (width_of kind) b (length rows) h.0 (sum_of_numbers kind (map (λ r. v r % 2 ^ width_of kind) rows)) some more lt h.2 h.1 in
    wrapped_within kind (width_of kind + b) q.0 (sum_of_numbers kind (map (λ r. v r % 2 ^ width_of kind) rows)) q.1 q.2
