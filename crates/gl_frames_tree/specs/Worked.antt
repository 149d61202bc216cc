-- Worked rows of a tree of two levels for keys of 4 bits, with room for 2: the keys 4, 5, 12, 4 and 9, one in each cycle.
-- Above 12 begins a node and below it finds no room; 9 finds none above.
use Rattle.std.specs.Prelude.{◌≡◌, ℕ, ◌/◌, List, [], ◌∷◌, Some, true, false, not, nat_eq, slice_get, slice_index}
use Rattle.std.specs.List.{list_any}
use Rattle.gl_values.specs.Tables.{with_key}
use Rattle.gl_frames_tree.specs.Growing.{nodes_before}

-- the key in a cycle, and its two higher bits
abbrev pub key_of : ℕ → ℕ
key_of c = slice_index (4 ∷ 5 ∷ 12 ∷ 4 ∷ 9 ∷ []) c

abbrev pub upper_of : ℕ → ℕ
upper_of c = key_of c / 4

-- the nodes above before a cycle: each row asks there, and no stream ends
abbrev pub above : ℕ → List ℕ
above c = nodes_before 2 (λ t. true) upper_of (λ t. false) c

-- those below: the row of cycle 4 was lost above
abbrev pub below : ℕ → List ℕ
below c = nodes_before 2 (λ t. not (nat_eq t 4)) key_of (λ t. false) c

pub record WorkedTree : Type 0 where
  -- two keys with the same higher bits have one node above
  pub together : above 2 ≡ 1 ∷ []
  pub apart : below 2 ≡ 4 ∷ 5 ∷ []
  -- the further key 12 begins a node above, and is lost below
  pub half : above 3 ≡ 1 ∷ 3 ∷ []
  pub lost : list_any (nat_eq 12) (with_key 2 (below 2) 12) ≡ false
  pub still : below 3 ≡ 4 ∷ 5 ∷ []
  -- 4 is where it was, in both
  pub node : slice_get (above 3) 0 ≡ Some 1
  pub slot : slice_get (below 3) 0 ≡ Some 4
  -- 9 is lost above, where there is no room any more
  pub full : list_any (nat_eq 2) (with_key 2 (above 4) 2) ≡ false
  pub last : below 5 ≡ 4 ∷ 5 ∷ []
  -- an end frees all
  pub ended : nodes_before 2 (λ t. true) upper_of (λ t. nat_eq t 2) 3 ≡ []
