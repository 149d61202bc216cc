-- What holds of the columns that are asked for, and that a node over these alone is the node over all.
use Rattle.std.specs.Prelude.{◌≡◌, ℕ, ◌+◌, ◌*◌, ◌<◌, ◌≤◌, All, List, Some, length, map, slice_get, slice_index, sum_by}
use Rattle.gl_values.specs.Kinds.{IsKind, width_of}
use Rattle.gl_values.specs.Lists.{has_further, keys_of}
use Rattle.gl_values.specs.Results.{Row}
use Rattle.gl_values.specs.declared.kind.Kind.{Kind}
use Rattle.gl_frames.specs.Frames.{by_key, framed_by_key}
use Rattle.gl_algebra.specs.Columns.{FrameFits, kind_of_frame}
use Rattle.gl_algebra.specs.Cost.{store_by_key}
use Rattle.gl_algebra.specs.Fits.{KeyFits}
use Rattle.gl_algebra.specs.Frames.{delay_of_frame, delay_of_frames, digits_of_frame, frames_in, rings_of_frame, words_of_frame}
use Rattle.gl_algebra.specs.Keys.{delay_by_key, width_of_key}
use Rattle.gl_algebra.specs.Results.{row_of_frames}
use Rattle.gl_algebra.specs.Values.{Sets}
use Rattle.gl_algebra.specs.Weights.{weight_by_key, weight_of_frame}
use Rattle.gl_algebra.specs.declared.node.PlanFrame.{PlanFrame}
use Rattle.gl_algebra.specs.declared.node.PlanKey.{PlanKey}
use Rattle.gl_frames_asked.specs.Among.{pick, pick_kinds, place_among, renumber, renumber_key}
use Rattle.gl_frames_asked.specs.Asked.{asked_columns, asks}

-- ---- the columns

-- a column stands at its place among those that are asked for
pub record IsFound (asked : List ℕ) (column : ℕ) : Type 0 where
  pub within : place_among asked column < length asked
  pub there : slice_get asked (place_among asked column) ≡ Some column

-- of so many columns these are asked for: one for the key and two for an item at most, each of them there, and the
-- key's and each item's among them
pub record AskedColumns (count key : ℕ) (items : List PlanFrame) (asked : List ℕ) : Type 0 where
  pub few : length asked ≤ 1 + 2 * length items
  pub there : All (λ column. column < count) asked
  pub key_found : IsFound asked key
  pub items_found : All (λ item. All (IsFound asked) (asks item)) items

-- the columns that the key and items that fit ask for
abbrev pub ColumnsAreAsked : Type 0
ColumnsAreAsked =
    (kinds : List Kind) (key : ℕ) (items : List PlanFrame) → key < length kinds → All (FrameFits kinds) items
    → AskedColumns (length kinds) key items (asked_columns (length kinds) key items)

-- ---- an item

-- an item over these columns alone fits them, and is what it was over all
pub record IsSameItem (kinds : List Kind) (asked : List ℕ) (item : PlanFrame) : Type 0 where
  pub fits : FrameFits (pick_kinds asked kinds) (renumber asked item)
  pub kind : kind_of_frame (pick_kinds asked kinds) (renumber asked item) ≡ kind_of_frame kinds item
  pub delay : delay_of_frame (pick_kinds asked kinds) (renumber asked item) ≡ delay_of_frame kinds item
  pub digits : digits_of_frame (pick_kinds asked kinds) (renumber asked item) ≡ digits_of_frame kinds item
  pub weight : weight_of_frame (pick_kinds asked kinds) (renumber asked item) ≡ weight_of_frame kinds item
  pub frames : frames_in (renumber asked item) ≡ frames_in item
  pub rings : rings_of_frame (renumber asked item) ≡ rings_of_frame item
  pub words : words_of_frame (renumber asked item) ≡ words_of_frame item

-- each item of a node that fits is
abbrev pub ItemsAreSame : Type 0
ItemsAreSame =
    (kinds : List Kind) (key : ℕ) (items : List PlanFrame) → key < length kinds → All (FrameFits kinds) items
    → All (IsSameItem kinds (asked_columns (length kinds) key items)) items

-- ---- the node

-- a node's items and key over these columns alone fit them, and the node has the kinds, cycles, weight and bits that it
-- had over all
pub record IsSameNode (kinds : List Kind) (by : PlanKey) (items : List PlanFrame) (asked : List ℕ) : Type 0 where
  pub are_kinds : All IsKind kinds → All IsKind (pick_kinds asked kinds)
  pub widths : map width_of (pick_kinds asked kinds) ≡ pick asked (map width_of kinds)
  pub items_fit : All (FrameFits (pick_kinds asked kinds)) (map (renumber asked) items)
  pub key_fits : KeyFits kinds (Some by) → KeyFits (pick_kinds asked kinds) (Some (renumber_key asked by))
  pub made : map (kind_of_frame (pick_kinds asked kinds)) (map (renumber asked) items) ≡ map (kind_of_frame kinds) items
  pub key_width : width_of_key (pick_kinds asked kinds) (renumber_key asked by) ≡ width_of_key kinds by
  pub delay : delay_of_frames (pick_kinds asked kinds) (map (renumber asked) items) ≡ delay_of_frames kinds items
  pub frames : sum_by frames_in (map (renumber asked) items) ≡ sum_by frames_in items
  pub delay_by_key : delay_by_key (pick_kinds asked kinds) (Some (renumber_key asked by)) (map (renumber asked) items)
      ≡ delay_by_key kinds (Some by) items
  pub weight : (lines : ℕ)
      → weight_by_key (pick_kinds asked kinds) lines (Some (renumber_key asked by)) (map (renumber asked) items)
      ≡ weight_by_key kinds lines (Some by) items
  pub store : (lines : ℕ)
      → store_by_key (pick_kinds asked kinds) lines (Some (renumber_key asked by)) (map (renumber asked) items)
      ≡ store_by_key kinds lines (Some by) items

-- it is for all nodes whose key and items fit
abbrev pub NodesAreSame : Type 0
NodesAreSame =
    (kinds : List Kind) (by : PlanKey) (items : List PlanFrame) → by.key < length kinds → All (FrameFits kinds) items
    → IsSameNode kinds by items (asked_columns (length kinds) by.key items)

-- ---- rows

-- what a node makes of rows of these columns alone is what it makes of the rows, whatever the words of the parameters
pub record MakesSame (kinds : List Kind) (by : PlanKey) (items : List PlanFrame) (asked : List ℕ) : Type 0 where
  pub key : (row : Row) → slice_index (pick asked row) (place_among asked by.key) ≡ slice_index row by.key
  pub row : (sets : Sets) (rows : List Row)
      → row_of_frames sets (pick_kinds asked kinds) (map (renumber asked) items) (map (pick asked) rows)
      ≡ row_of_frames sets kinds items rows

abbrev pub NodesMakeSame : Type 0
NodesMakeSame =
    (kinds : List Kind) (by : PlanKey) (items : List PlanFrame) → by.key < length kinds → All (FrameFits kinds) items
    → MakesSame kinds by items (asked_columns (length kinds) by.key items)

-- ---- lists of rows

-- where rows of another form have the same keys, and the same is made of them, the same is made of those of each key
pub record AreSameByKey {A B C : Type 0} (f : A → B) (key : A → ℕ) (key' : B → ℕ) (of : List A → C)
    (of' : List B → C) : Type 0 where
  pub keys : (rows : List A) → keys_of key' (map f rows) ≡ keys_of key rows
  pub now : (groups : ℕ) (rows : List A) → by_key groups key' of' (map f rows) ≡ by_key groups key of rows
  pub framed : (groups : ℕ) (rows : List A)
      → framed_by_key groups key' of' (map f rows) ≡ framed_by_key groups key of rows
  pub further : (groups : ℕ) (rows : List A) → has_further groups key' (map f rows) ≡ has_further groups key rows

abbrev pub FormsAreSameByKey : Type 0 → Type 0 → Type 0 → Type 0
FormsAreSameByKey A B C =
    (f : A → B) (key : A → ℕ) (key' : B → ℕ) (of : List A → C) (of' : List B → C)
    → ((x : A) → key' (f x) ≡ key x) → ((rows : List A) → of' (map f rows) ≡ of rows)
    → AreSameByKey f key key' of of'
