-- What is left to write in a loop.
use Rattle.std.proofs.Common.{◌≡◌, ℕ, ◌+◌, ◌<◌, List, [], ◌∷◌, ◌++◌, length, drop, get_or, Option, refl, sym, ap, ◌∙◌, append_assoc, add-one, drop-cons, append-nil, ◌≤◌, map}
use Rattle.std.proofs.lemmas.List.{drop_all}
use Rattle.gl_query.specs.declared.tree.Num.{Num}
use Rattle.gl_query.specs.declared.tree.Item.{Item}
use Rattle.gl_query.specs.declared.tree.AggItem.{AggItem}
use Rattle.gl_query.specs.declared.tree.FrameItem.{FrameItem}
use Rattle.gl_query.specs.Shapes.{item_shape, agg_item_shape, frame_item_shape}
use Rattle.gl_query_tokens.specs.declared.token.Plain.TheVariants as plain
use Rattle.gl_query_tokens.specs.declared.token.Token.TheVariants as token
use Rattle.gl_query_reader.specs.Written.{spell_item, spell_items, spell_numbers}
use Rattle.gl_query_reader.specs.declared.written.Part.{Part}
use Rattle.gl_query_printer.specs.Canonical.{num_of, item_of, agg_item_of, frame_item_of}
use Rattle.gl_query_tokens.specs.declared.token.Token.{Token}
use Rattle.gl_query_printer.specs.declared.text.Behind.{Behind}
use Rattle.gl_query_printer.specs.Spaced.{place_behind, gap, needs_space, token_text, spaced}

-- the text of the tokens from a place on
pub spaced_next : (b : Behind) (ts : List Token) (at : ℕ) (d : Token) → at < length ts → spaced b (drop at ts) ≡ (gap (needs_space b (get_or ts at d)) ++ token_text (get_or ts at d)) ++ spaced (place_behind b (get_or ts at d)) (drop (at + 1) ts)
spaced_next b ts at d lt = rw (drop-cons ts at d lt, add-one) refl

-- what stands behind the first of a list with a comma between each two
abbrev pub behind_commas : {A : Type 0} → (A → List Token) → List A → List Token
behind_commas f [] = []
behind_commas f (x ∷ xs) = (token.Plain plain.Comma ∷ f x) ++ behind_commas f xs

commas_next : {A : Type 0} (f : A → List Token) (xs : List A) (at : ℕ) (d : A) → at < length xs → behind_commas f (drop at xs) ≡ (token.Plain plain.Comma ∷ f (get_or xs at d)) ++ behind_commas f (drop (at + 1) xs)
commas_next f xs at d lt = rw (drop-cons xs at d lt, add-one) refl

abbrev pub number_tokens : Num → List Token
number_tokens n = token.Number (num_of n.value) ∷ []

abbrev pub item_tokens : Item → List Token
item_tokens i = spell_item (item_of (item_shape i))

abbrev pub agg_tokens : AggItem → List Token
agg_tokens i = spell_item (agg_item_of (agg_item_shape i))

abbrev pub frame_tokens : Option Part → FrameItem → List Token
frame_tokens part i = spell_item (frame_item_of part (frame_item_shape i))

pub frames_next : (part : Option Part) (xs : List FrameItem) (at : ℕ) (d : FrameItem) → at < length xs → behind_commas (frame_tokens part) (drop at xs) ≡ (token.Plain plain.Comma ∷ frame_tokens part (get_or xs at d)) ++ behind_commas (frame_tokens part) (drop (at + 1) xs)
frames_next part xs at d lt = commas_next (frame_tokens part) xs at d lt

pub frames_first : (part : Option Part) (x : FrameItem) (xs : List FrameItem) → spell_items (map (frame_item_of part) (map frame_item_shape (x ∷ xs))) ≡ frame_tokens part x ++ behind_commas (frame_tokens part) xs
frames_first part x [] = sym (append-nil (frame_tokens part x))
frames_first part x (y ∷ xs) = ap (λ ts. frame_tokens part x ++ token.Plain plain.Comma ∷ ts) (frames_first part y xs)

pub numbers_next : (xs : List Num) (at : ℕ) (d : Num) → at < length xs → behind_commas number_tokens (drop at xs) ≡ (token.Plain plain.Comma ∷ number_tokens (get_or xs at d)) ++ behind_commas number_tokens (drop (at + 1) xs)
numbers_next xs at d lt = commas_next number_tokens xs at d lt

pub items_next : (xs : List Item) (at : ℕ) (d : Item) → at < length xs → behind_commas item_tokens (drop at xs) ≡ (token.Plain plain.Comma ∷ item_tokens (get_or xs at d)) ++ behind_commas item_tokens (drop (at + 1) xs)
items_next xs at d lt = commas_next item_tokens xs at d lt

pub aggs_next : (xs : List AggItem) (at : ℕ) (d : AggItem) → at < length xs → behind_commas agg_tokens (drop at xs) ≡ (token.Plain plain.Comma ∷ agg_tokens (get_or xs at d)) ++ behind_commas agg_tokens (drop (at + 1) xs)
aggs_next xs at d lt = commas_next agg_tokens xs at d lt

pub numbers_first : (x : Num) (xs : List Num) → spell_numbers (map num_of (map (λ n. n.value) (x ∷ xs))) ≡ number_tokens x ++ behind_commas number_tokens xs
numbers_first x [] = refl
numbers_first x (y ∷ xs) = ap (λ ts. token.Number (num_of x.value) ∷ token.Plain plain.Comma ∷ ts) (numbers_first y xs)

pub items_first : (x : Item) (xs : List Item) → spell_items (map item_of (map item_shape (x ∷ xs))) ≡ item_tokens x ++ behind_commas item_tokens xs
items_first x [] = sym (append-nil (item_tokens x))
items_first x (y ∷ xs) = ap (λ ts. item_tokens x ++ token.Plain plain.Comma ∷ ts) (items_first y xs)

pub aggs_first : (x : AggItem) (xs : List AggItem) → spell_items (map agg_item_of (map agg_item_shape (x ∷ xs))) ≡ agg_tokens x ++ behind_commas agg_tokens xs
aggs_first x [] = sym (append-nil (agg_tokens x))
aggs_first x (y ∷ xs) = ap (λ ts. agg_tokens x ++ token.Plain plain.Comma ∷ ts) (aggs_first y xs)

-- at the end of a loop nothing is left
ended : (A : Type 0) (f : A → List Token) (rest : List A) (at : ℕ) (out start : List Token) → length rest ≤ at → out ++ behind_commas f (drop at rest) ≡ start → out ≡ start
ended A f rest at out start le h = sym (append-nil out) ∙ ap (λ (xs : List A). out ++ behind_commas f xs) (sym (drop_all at rest le)) ∙ h

pub numbers_end : (xs : List Num) (x : Num) (rest : List Num) (at : ℕ) (out start : List Token) → xs ≡ x ∷ rest → length rest ≤ at
    → out ++ behind_commas number_tokens (drop at rest) ≡ (start ++ number_tokens x) ++ behind_commas number_tokens rest → out ≡ start ++ spell_numbers (map num_of (map (λ n. n.value) xs))
numbers_end xs x rest at out start e le h =
    ended Num number_tokens rest at out _ le h ∙ append_assoc start (number_tokens x) (behind_commas number_tokens rest)
    ∙ ap (λ (ts : List Token). start ++ ts) (sym (numbers_first x rest) ∙ ap (λ (ys : List Num). spell_numbers (map num_of (map (λ n. n.value) ys))) (sym e))

pub items_end : (xs : List Item) (x : Item) (rest : List Item) (at : ℕ) (out start : List Token) → xs ≡ x ∷ rest → length rest ≤ at
    → out ++ behind_commas item_tokens (drop at rest) ≡ (start ++ item_tokens x) ++ behind_commas item_tokens rest → out ≡ start ++ spell_items (map item_of (map item_shape xs))
items_end xs x rest at out start e le h =
    ended Item item_tokens rest at out _ le h ∙ append_assoc start (item_tokens x) (behind_commas item_tokens rest)
    ∙ ap (λ (ts : List Token). start ++ ts) (sym (items_first x rest) ∙ ap (λ (ys : List Item). spell_items (map item_of (map item_shape ys))) (sym e))

pub aggs_end : (xs : List AggItem) (x : AggItem) (rest : List AggItem) (at : ℕ) (out start : List Token) → xs ≡ x ∷ rest → length rest ≤ at
    → out ++ behind_commas agg_tokens (drop at rest) ≡ (start ++ agg_tokens x) ++ behind_commas agg_tokens rest → out ≡ start ++ spell_items (map agg_item_of (map agg_item_shape xs))
aggs_end xs x rest at out start e le h =
    ended AggItem agg_tokens rest at out _ le h ∙ append_assoc start (agg_tokens x) (behind_commas agg_tokens rest)
    ∙ ap (λ (ts : List Token). start ++ ts) (sym (aggs_first x rest) ∙ ap (λ (ys : List AggItem). spell_items (map agg_item_of (map agg_item_shape ys))) (sym e))

pub frames_end : (part : Option Part) (xs : List FrameItem) (x : FrameItem) (rest : List FrameItem) (at : ℕ) (out start : List Token) → xs ≡ x ∷ rest → length rest ≤ at
    → out ++ behind_commas (frame_tokens part) (drop at rest) ≡ (start ++ frame_tokens part x) ++ behind_commas (frame_tokens part) rest → out ≡ start ++ spell_items (map (frame_item_of part) (map frame_item_shape xs))
frames_end part xs x rest at out start e le h =
    ended FrameItem (frame_tokens part) rest at out _ le h ∙ append_assoc start (frame_tokens part x) (behind_commas (frame_tokens part) rest)
    ∙ ap (λ (ts : List Token). start ++ ts) (sym (frames_first part x rest) ∙ ap (λ (ys : List FrameItem). spell_items (map (frame_item_of part) (map frame_item_shape ys))) (sym e))

pub ruleset number_steps = (numbers_next, numbers_first)

pub ruleset item_steps = (items_next, items_first)

pub ruleset agg_steps = (aggs_next, aggs_first)

pub ruleset frame_steps = (frames_next, frames_first)
