-- The root is one node, which begins with the first row of a stream.
use Rattle.std.proofs.Common.{◌≡◌, ℕ, zero, suc, ◌≤◌, List, [], ◌∷◌, Bool, true, false, refl, sym, ap, ◌∙◌, arith, lt-ltb}
use Rattle.std.specs.Prelude.{not, ◌&&◌, ◌||◌, if◌then◌else◌, nat_eq, nat_lt, slice_get}
use Rattle.std.specs.List.{list_any}
use Rattle.gl_values.specs.Tables.{with_key}
use Rattle.gl_frames_map.proofs.PlaceLemmas.{added_is, is_added}
use Rattle.gl_frames_tree.specs.Growing.{Numbered, Numbers, nodes_before}
use Rattle.gl_frames_tree.proofs.NameLemmas.{known_same}

module _ (n : ℕ) (some : 1 ≤ n) (asks ends begun : ℕ → Bool) (start : begun 0 ≡ false)
    (next : (c : ℕ) → begun (suc c) ≡ ((asks c && not (ends c)) || (begun c && not (ends c)))) where
  abbrev pub root : Numbered
  root = record { asks = asks; name = λ c. 0; ends = ends; valid = asks; fresh = λ c. asks c && not (begun c); number = λ c. 0 }

  abbrev one : Bool → List ℕ
  one b = if b then 0 ∷ [] else []

  room : nat_lt 0 n ≡ true
  room = lt-ltb 0 n (omega (arith, some))

  with_root : (b : Bool) → with_key n (one b) 0 ≡ 0 ∷ []
  with_root true = known_same n (0 ∷ []) 0 refl
  with_root false = added_is n [] 0 (ap (λ (b : Bool). b && true) room)

  added_root : (b : Bool) → is_added n (one b) 0 ≡ not b
  added_root true = by (nat_lt 1 n)
    where
      by : (b : Bool) → (b && false) ≡ false
      by true = refl
      by false = refl
  added_root false = ap (λ (b : Bool). b && true) room

  nodes_are : (c : ℕ) → nodes_before n asks (λ t. 0) ends c ≡ one (begun c)
  nodes_are zero = sym (ap one start)
  nodes_are (suc c) =
      ap (λ (xs : List ℕ). if ends c then [] else (if asks c then with_key n xs 0 else xs)) (nodes_are c)
      ∙ by (ends c) (asks c) (begun c) ∙ sym (ap one (next c))
    where
      by : (e s b : Bool) → (if e then [] else (if s then with_key n (one b) 0 else one b)) ≡ one ((s && not e) || (b && not e))
      by true true true = refl
      by true true false = refl
      by true false true = refl
      by true false false = refl
      by false true b = with_root b
      by false false true = refl
      by false false false = refl

  joined : (c : ℕ) → with_key n (nodes_before n asks (λ t. 0) ends c) 0 ≡ 0 ∷ []
  joined c = ap (λ xs. with_key n xs 0) (nodes_are c) ∙ with_root (begun c)

  pub root_numbered : Numbers n root
  root_numbered = record {
    valid = λ c. sym (ap (λ xs. asks c && list_any (nat_eq 0) xs) (joined c) ∙ by (asks c));
    fresh = λ c. sym (ap (λ xs. asks c && is_added n xs 0) (nodes_are c) ∙ ap (λ b. asks c && b) (added_root (begun c)));
    number = λ c e. ap (λ xs. slice_get xs 0) (joined c);
  }
    where
      by : (b : Bool) → (b && true) ≡ b
      by true = refl
      by false = refl
