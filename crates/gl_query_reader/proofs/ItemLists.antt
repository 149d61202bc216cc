-- Items one after the other, as loops go over them.
use Rattle.std.proofs.Common.{◌≡◌, ℕ, ◌+◌, ◌<◌, ◌≤◌, Bool, true, false, List, [], ◌∷◌, ◌++◌, length, drop, get_or, reverse, Option, Some, None, refl, sym, ap, ◌∙◌, append_assoc, add-one, drop-cons}
use Rattle.std.specs.Prelude.{map}
use Rattle.std.proofs.lemmas.List.{reverse-append, append-nil, drop_all, map-append}
use Rattle.gl_query.specs.declared.tree.Item.{Item}
use Rattle.gl_query.specs.declared.tree.AggItem.{AggItem}
use Rattle.gl_query.specs.declared.tree.FrameItem.{FrameItem}
use Rattle.gl_query_reader.specs.declared.written.WrittenItem.{WrittenItem}
use Rattle.gl_query_reader.specs.declared.written.Part.{Part}
use Rattle.gl_query_reader.specs.Written as written
use Rattle.gl_query_reader.specs.Written.{Bare, Named, Total, Framed}
use Rattle.gl_query_reader.specs.Trees.{item_of, items_of}
use Rattle.gl_query_reader.specs.Meaning.{plain_items, agg_items, frame_items, is_total, is_framed, has_over, first_over}
use Rattle.gl_query.specs.Trees.{ItemTree, AggItemTree, FrameItemTree, item_tree, agg_item_tree, frame_item_tree}
use Rattle.gl_query_reader.specs.Mixed.{same, first_other, item_at, has_part, other_part}

pub items-push : (xs : List WrittenItem) (x : WrittenItem) → items_of (xs ++ x ∷ []) ≡ items_of xs ++ item_of x ∷ []
items-push xs x = map-append item_of xs (x ∷ [])

pub items-left : (xs : List WrittenItem) (x : WrittenItem) → items_of (reverse (xs ++ x ∷ [])) ≡ item_of x ∷ items_of (reverse xs)
items-left xs x = ap items_of (reverse-append xs (x ∷ []))

pub trees-push : (xs : List Item) (x : Item) → map item_tree (xs ++ x ∷ []) ≡ map item_tree xs ++ item_tree x ∷ []
trees-push xs x = map-append item_tree xs (x ∷ [])

pub agg_trees-push : (xs : List AggItem) (x : AggItem) → map agg_item_tree (xs ++ x ∷ []) ≡ map agg_item_tree xs ++ agg_item_tree x ∷ []
agg_trees-push xs x = map-append agg_item_tree xs (x ∷ [])

pub frame_trees-push : (xs : List FrameItem) (x : FrameItem) → map frame_item_tree (xs ++ x ∷ []) ≡ map frame_item_tree xs ++ frame_item_tree x ∷ []
frame_trees-push xs x = map-append frame_item_tree xs (x ∷ [])

plain-cons : (i : written.Item) (is : List written.Item) → plain_items (i ∷ is) ≡ plain_items (i ∷ []) ++ plain_items is
plain-cons (Bare name) is = refl
plain-cons (Named e name) is = refl
plain-cons (Total a name) is = refl
plain-cons (Framed o name) is = refl

agg-cons : (i : written.Item) (is : List written.Item) → agg_items (i ∷ is) ≡ agg_items (i ∷ []) ++ agg_items is
agg-cons (Bare name) is = refl
agg-cons (Named e name) is = refl
agg-cons (Total a name) is = refl
agg-cons (Framed o name) is = refl

frame-cons : (i : written.Item) (is : List written.Item) → frame_items (i ∷ is) ≡ frame_items (i ∷ []) ++ frame_items is
frame-cons (Bare name) is = refl
frame-cons (Named e name) is = refl
frame-cons (Total a name) is = refl
frame-cons (Framed o name) is = refl

pub plain_step : (out new : List ItemTree) (i : written.Item) (is : List written.Item) (total : List ItemTree) → new ≡ out ++ plain_items (i ∷ []) → out ++ plain_items (i ∷ is) ≡ total → new ++ plain_items is ≡ total
plain_step out new i is total e f = rw e (append_assoc out (plain_items (i ∷ [])) (plain_items is) ∙ ap (λ x. out ++ x) (sym (plain-cons i is)) ∙ f)

pub agg_step : (out new : List AggItemTree) (i : written.Item) (is : List written.Item) (total : List AggItemTree) → new ≡ out ++ agg_items (i ∷ []) → out ++ agg_items (i ∷ is) ≡ total → new ++ agg_items is ≡ total
agg_step out new i is total e f = rw e (append_assoc out (agg_items (i ∷ [])) (agg_items is) ∙ ap (λ x. out ++ x) (sym (agg-cons i is)) ∙ f)

pub frame_step : (out new : List FrameItemTree) (i : written.Item) (is : List written.Item) (total : List FrameItemTree) → new ≡ out ++ frame_items (i ∷ []) → out ++ frame_items (i ∷ is) ≡ total → new ++ frame_items is ≡ total
frame_step out new i is total e f = rw e (append_assoc out (frame_items (i ∷ [])) (frame_items is) ∙ ap (λ x. out ++ x) (sym (frame-cons i is)) ∙ f)

pub over_step : (items : List WrittenItem) (i : ℕ) (d : WrittenItem) → i < length items → is_framed (item_of (get_or items i d)) ≡ false → has_over (items_of (drop i items)) ≡ has_over (items_of (drop (i + 1) items))
over_step items i d lt e = rw (drop-cons items i d lt, e, add-one) refl

pub over_here : (items : List WrittenItem) (i : ℕ) (d : WrittenItem) → i < length items → is_framed (item_of (get_or items i d)) ≡ true → has_over (items_of (drop i items)) ≡ true
over_here items i d lt e = rw (drop-cons items i d lt, e) refl

pub over_end : (items : List WrittenItem) (i : ℕ) → length items ≤ i → has_over (items_of (drop i items)) ≡ false
over_end items i le = rw (drop_all i items le) refl

pub first_step : (items : List WrittenItem) (i : ℕ) (d : WrittenItem) → i < length items → is_framed (item_of (get_or items i d)) ≡ false → first_over (items_of (drop i items)) ≡ first_over (items_of (drop (i + 1) items))
first_step items i d lt e = rw (drop-cons items i d lt, e, add-one) refl

pub first_here : (items : List WrittenItem) (i : ℕ) (d : WrittenItem) → i < length items → is_framed (item_of (get_or items i d)) ≡ true → first_over (items_of (drop i items)) ≡ Some (item_of (get_or items i d))
first_here items i d lt e = rw (drop-cons items i d lt, e) refl

pub first_end : (items : List WrittenItem) (i : ℕ) → length items ≤ i → first_over (items_of (drop i items)) ≡ None
first_end items i le = rw (drop_all i items le) refl

pub part_step : (part : Option Part) (items : List WrittenItem) (i : ℕ) (d : WrittenItem) → i < length items → has_part part (item_of (get_or items i d)) ≡ true → other_part part (items_of (drop i items)) ≡ other_part part (items_of (drop (i + 1) items))
part_step part items i d lt e = rw (drop-cons items i d lt, e, add-one) refl

pub part_here : (part : Option Part) (items : List WrittenItem) (i : ℕ) (d : WrittenItem) → i < length items → has_part part (item_of (get_or items i d)) ≡ false → other_part part (items_of (drop i items)) ≡ Some (item_at (item_of (get_or items i d)))
part_here part items i d lt e = rw (drop-cons items i d lt, e) refl

pub part_end : (part : Option Part) (items : List WrittenItem) (i : ℕ) → length items ≤ i → other_part part (items_of (drop i items)) ≡ None
part_end part items i le = rw (drop_all i items le) refl

pub other_step : (sort : Bool) (items : List WrittenItem) (i : ℕ) (d : WrittenItem) → i < length items → same sort (is_total (item_of (get_or items i d))) ≡ true → first_other sort (items_of (drop i items)) ≡ first_other sort (items_of (drop (i + 1) items))
other_step sort items i d lt e = rw (drop-cons items i d lt, e, add-one) refl

pub other_here : (sort : Bool) (items : List WrittenItem) (i : ℕ) (d : WrittenItem) → i < length items → same sort (is_total (item_of (get_or items i d))) ≡ false → first_other sort (items_of (drop i items)) ≡ Some (item_at (item_of (get_or items i d)))
other_here sort items i d lt e = rw (drop-cons items i d lt, e) refl

pub other_end : (sort : Bool) (items : List WrittenItem) (i : ℕ) → length items ≤ i → first_other sort (items_of (drop i items)) ≡ None
other_end sort items i le = rw (drop_all i items le) refl

pub ruleset item_steps = (items-push, items-left, trees-push, agg_trees-push, frame_trees-push, plain_step, agg_step, frame_step, over_step, over_here, over_end, first_step, first_here, first_end, part_step, part_here, part_end, other_step, other_here, other_end, append-nil)
