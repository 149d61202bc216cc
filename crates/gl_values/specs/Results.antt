-- Results of queries and of plans: rows, and whether rows of further keys were left out; and how results are made of
-- results. After the operators of Mueller, Teubner and Alonso, Streams on Wires, PVLDB 2(1), 2009.
use Rattle.std.specs.Prelude.{ℕ, ◌≡◌, Bool, false, ◌||◌, List, [], ◌∷◌, ◌++◌, map, length}
use Rattle.gl_values.specs.Lists.{Group}

-- a row: the numbers of its words, in the order of the columns
abbrev pub Row : Type 0
Row = List ℕ

-- a set of results: rows, and whether rows of further keys were left out
abbrev pub Results : Type 1
Results = List Row → Bool → Type 0

-- two results are one
pub record AreSame (out out' : List Row) (spill spill' : Bool) : Type 0 where
  pub rows : out ≡ out'
  pub spills : spill ≡ spill'

-- rows that come in, none of which was left out
pub record IsInput (given out : List Row) (spill : Bool) : Type 0 where
  pub rows : out ≡ given
  pub kept : spill ≡ false

-- what a change makes of a result
pub record IsChanged (Source : Results) (change : List Row → List Row) (out : List Row) (spill : Bool) : Type 0 where
  pub rows : List Row
  pub of_source : Source rows spill
  pub changed : out ≡ change rows

-- what two results make together
pub record IsOfBoth (Left Right : Results) (Join : List Row → List Row → List Row → Type 0) (out : List Row)
    (spill : Bool) : Type 0 where
  pub left : List Row
  pub right : List Row
  pub left_spill : Bool
  pub right_spill : Bool
  pub of_left : Left left left_spill
  pub of_right : Right right right_spill
  pub join : Join left right out
  pub either : spill ≡ (left_spill || right_spill)

-- two lists of rows side by side
abbrev pub beside : List Row → List Row → List Row
beside [] rs = []
beside (l ∷ ls) [] = []
beside (l ∷ ls) (r ∷ rs) = (l ++ r) ∷ beside ls rs

-- both sides have equally many rows, and each row of the result is one of the left with one of the right
pub record AreBeside (left right out : List Row) : Type 0 where
  pub paired : length left ≡ length right
  pub rows : out ≡ beside left right

-- results for each part, joined in order; the whole spills where a part does
abbrev pub AreJoined : {Part : Type 0} → (Part → Results) → List Part → Results
AreJoined OfPart [] out spill = (out ≡ []) × (spill ≡ false)
AreJoined OfPart (part ∷ parts) out spill =
    (first : List Row) × (rest : List Row) × (first_spill : Bool) × (rest_spill : Bool)
    × OfPart part first first_spill × AreJoined OfPart parts rest rest_spill
    × (out ≡ first ++ rest) × (spill ≡ (first_spill || rest_spill))

-- what a body makes of each part of a source's rows; some of these may be in no part
pub record IsOfParts {Part : Type 0} (Source : Results) (parts : List Row → List Part) (OfPart : Part → Results)
    (further : List Row → Bool) (out : List Row) (spill : Bool) : Type 0 where
  pub rows : List Row
  pub source_spill : Bool
  pub parts_spill : Bool
  pub of_source : Source rows source_spill
  pub of_parts : AreJoined OfPart (parts rows) out parts_spill
  pub any : spill ≡ (source_spill || parts_spill || further rows)

-- the results of a body for a group: the key stands first in each row
abbrev pub IsOfGroup : (List Row → Results) → Group Row → Results
IsOfGroup OfBody group = IsChanged (OfBody group.rows) (map (λ row. group.key ∷ row))
