-- Which items may stand in one select.
use Rattle.std.specs.Prelude.{ℕ, Bool, true, false, not, ◌&&◌, List, [], ◌∷◌, Option, Some, None, option_and_then, bytes_eq, nat_eq, nat_le, if◌then◌else◌}
use Rattle.gl_query.specs.declared.tree.Name.{Name}
use Rattle.gl_query_reader.specs.declared.written.Grouping.{Grouping}
use Rattle.gl_query_reader.specs.declared.written.Part.{Part}
use Rattle.gl_query_reader.specs.Written.{Expr, Column, Number, Minus, Letters, Brackets, Cast, Flip, Not, Binary, Agg, Count, Fold', Wsum, OverHead, LagOf, Ranged, Over, OverOf, Item, Bare, Named, Total, Framed, Pick, All, Items, Query, Stream, InBrackets, Select, Windows, Groups, AsOf', Join', Parameter}
use Rattle.gl_query_reader.specs.Meaning.{first_over, is_total, over_agg_at, part_in, part_of, spelled_at}

-- the place of an expression's first token
abbrev pub first_at : Expr → ℕ
first_at (Column name) = name.at
first_at (Number n) = n.at
first_at (Minus at n) = at
first_at (Parameter at name) = at
first_at (Letters text at) = at
first_at (Brackets at e) = at
first_at (Cast at open' e word kind) = at
first_at (Flip at e) = at
first_at (Not at e) = at
first_at (Binary o at l r) = first_at l

-- the place of an aggregate's keyword
abbrev pub agg_at : Agg → ℕ
agg_at (Count at open') = at
agg_at (Fold' fold at open' e) = at
agg_at (Wsum at open' e ns) = at

-- the place of what stands before OVER
abbrev pub head_at : OverHead → ℕ
head_at (LagOf w open' e back) = spelled_at w
head_at (Ranged agg filter) = over_agg_at agg

-- the place of the function of an OVER
abbrev pub over_at : Over → ℕ
over_at (OverOf head w open' part rows) = head_at head

-- the place at which an item begins
abbrev pub item_at : Item → ℕ
item_at (Bare name) = name.at
item_at (Named e name) = first_at e
item_at (Total agg name) = agg_at agg
item_at (Framed over name) = over_at over

-- two truth values agree
abbrev pub same : Bool → Bool → Bool
same true b = b
same false b = not b

-- the first item that is not of this sort
abbrev pub first_other : Bool → List Item → Option ℕ
first_other sort [] = None
first_other sort (i ∷ is) = if same sort (is_total i) then first_other sort is else Some (item_at i)

-- an item is the key of the groups, named alone
abbrev pub is_key : Name → Item → Bool
is_key key (Bare name) = bytes_eq name.text key.text
is_key key (Named e name) = false
is_key key (Total agg name) = false
is_key key (Framed over name) = false

-- behind the key stands at least one item, and all are aggregates without OVER
abbrev pub behind_key : Grouping → List Item → Option ℕ
behind_key g [] = Some g.at
behind_key g (i ∷ is) = first_other true (i ∷ is)

-- two PARTITIONs have one key and one number, or neither is there
abbrev pub same_part : Option Part → Option Part → Bool
same_part None None = true
same_part None (Some q) = false
same_part (Some p) None = false
same_part (Some p) (Some q) =
    bytes_eq p.grouping.key.text q.grouping.key.text && nat_eq p.grouping.groups.value q.grouping.groups.value

-- an item has this PARTITION, or no OVER
abbrev pub has_part : Option Part → Item → Bool
has_part part (Bare name) = true
has_part part (Named e name) = true
has_part part (Total agg name) = true
has_part part (Framed over name) = same_part part (part_of over)

-- the first item with OVER and another PARTITION than this
abbrev pub other_part : Option Part → List Item → Option ℕ
other_part part [] = None
other_part part (i ∷ is) = if has_part part i then other_part part is else Some (item_at i)

-- the first item with OVER that has not the PARTITION of the first of them
abbrev pub mixed_parts : List Item → Option ℕ
mixed_parts items = option_and_then (λ i. other_part (part_in i) items) (first_over items)

-- the smaller of two places
abbrev pub least : Option ℕ → Option ℕ → Option ℕ
least None b = b
least (Some a) None = Some a
least (Some a) (Some b) = if nat_le a b then Some a else Some b

-- without groups all items are of the first one's sort, and all with OVER have one PARTITION: the first item in the
-- text that breaks either
abbrev pub mixed_plain : List Item → Option ℕ
mixed_plain [] = None
mixed_plain (i ∷ is) = least (first_other (is_total i) is) (mixed_parts (i ∷ is))

-- with groups the first item is the key alone
abbrev pub mixed_groups : List Item → Grouping → Option ℕ
mixed_groups [] g = Some g.at
mixed_groups (i ∷ is) g = if is_key g.key i then behind_key g is else Some (item_at i)

-- the item that shows that a select's items do not go together
abbrev pub mixed_pick : Pick → Option Grouping → Option ℕ
mixed_pick (All at) None = None
mixed_pick (All at) (Some g) = Some at
mixed_pick (Items items) None = mixed_plain items
mixed_pick (Items items) (Some g) = mixed_groups items g

-- the first such item in the text
abbrev pub mixed_in : Query → Option ℕ
mixed_in (Stream name) = None
mixed_in (InBrackets at q) = mixed_in q
mixed_in (Select pick source window filter grouping) = least (mixed_pick pick grouping) (mixed_in source)
mixed_in (Windows at var source window open' body) = least (mixed_in source) (mixed_in body)
mixed_in (Groups at var source grouping window open' body) = least (mixed_in source) (mixed_in body)
mixed_in (AsOf' w l r grouping) = least (mixed_in l) (mixed_in r)
mixed_in (Join' join at l r) = least (mixed_in l) (mixed_in r)
