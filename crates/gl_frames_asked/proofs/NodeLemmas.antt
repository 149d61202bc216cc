-- A node over the columns that are asked for alone has the kinds, cycles, weight and bits that it had.
use Rattle.std.proofs.Common.{◌≡◌, ℕ, ◌+◌, ◌*◌, ◌/◌, ◌<◌, max, min, List, [], ◌∷◌, Some, length, refl, sym, ap, ◌∙◌, arith}
use Rattle.std.specs.Prelude.{All, map, slice_index, sum_by}
use Rattle.std.specs.List.{AllByRecursion}
use Rattle.std.proofs.lemmas.List.Elements.{All-from_recursion}
use Rattle.std.proofs.lemmas.List.Sums.{sum_by-cons}
use Rattle.std.proofs.lemmas.Option.{get_or_from_slice_get}
use Rattle.gl_bits.proofs.AllLists.{all_mapped, all_weaker, get_mapped, get_there, length_map}
use Rattle.gl_values.specs.Kinds.{IsKind, width_of}
use Rattle.gl_values.specs.declared.kind.Kind.{Kind}
use Rattle.gl_algebra.specs.Columns.{FrameFits, bit_kind, kind_of_column, kind_of_frame}
use Rattle.gl_algebra.specs.Cost.{ring, store_by_key}
use Rattle.gl_algebra.specs.Frames.{delay_of_frame, delay_of_frames, frames_in, words_of_frame}
use Rattle.gl_algebra.specs.Keys.{cycles_of_look_up, delay_by_key, store_of_look_up, weight_of_look_up, width_of_key, words_of_look_up}
use Rattle.gl_algebra.specs.Weights.{weight_by_key, weight_of_frame, words_of_frames}
use Rattle.gl_algebra.specs.declared.node.PlanFrame.{PlanFrame}
use Rattle.gl_algebra.specs.declared.node.PlanKey.{PlanKey}
use Rattle.gl_frames_asked.specs.Among.{pick, pick_kinds, renumber, renumber_key}
use Rattle.gl_frames_asked.specs.Asked.{asked_columns, is_asked}
use Rattle.gl_frames_asked.specs.Laws.{IsFound, IsSameItem, IsSameNode, NodesAreSame}
use Rattle.gl_frames_asked.proofs.AskedLemmas.{key_found}
use Rattle.gl_frames_asked.proofs.BelowLemmas.{below_within}
use Rattle.gl_frames_asked.proofs.SameLemmas.{items_same_each, made_at}

-- ---- lists

maps_same : {A B C : Type 0} (f : B → C) (g : A → C) (r : A → B) (xs : List A) → AllByRecursion (λ x. f (r x) ≡ g x) xs → map f (map r xs) ≡ map g xs
maps_same f g r [] same = refl
maps_same f g r (x ∷ xs) same = ap (λ y. y ∷ map f (map r xs)) same.0 ∙ ap (λ l. g x ∷ l) (maps_same f g r xs same.1)

sums_same : {A B : Type 0} (f : B → ℕ) (g : A → ℕ) (r : A → B) (xs : List A) → AllByRecursion (λ x. f (r x) ≡ g x) xs → sum_by f (map r xs) ≡ sum_by g xs
sums_same f g r [] same = refl
sums_same f g r (x ∷ xs) same =
    sum_by-cons f (r x) (map r xs) ∙ ap (λ (n : ℕ). n + sum_by f (map r xs)) same.0
    ∙ ap (λ (n : ℕ). g x + n) (sums_same f g r xs same.1) ∙ sym (sum_by-cons g x xs)

-- ---- kinds

module _ (kinds : List Kind) where
  picked_kinds : (asked : List ℕ) → AllByRecursion (λ x. x < length kinds) asked → All IsKind kinds → AllByRecursion IsKind (pick_kinds asked kinds)
  picked_kinds [] within are = tt
  picked_kinds (column ∷ asked) within are = (are column bit_kind within.0, picked_kinds asked within.1 are)

  width_there : (column : ℕ) → column < length kinds → width_of (kind_of_column kinds column) ≡ slice_index (map width_of kinds) column
  width_there column lt =
      let there = get_there kinds column lt in
      ap width_of (get_or_from_slice_get kinds column there.0 bit_kind there.1)
      ∙ sym (get_or_from_slice_get (map width_of kinds) column (width_of there.0) 0 (get_mapped width_of kinds column there.0 there.1))

  picked_widths : (asked : List ℕ) → AllByRecursion (λ x. x < length kinds) asked → map width_of (pick_kinds asked kinds) ≡ pick asked (map width_of kinds)
  picked_widths asked within =
      maps_same width_of (slice_index (map width_of kinds)) (kind_of_column kinds) asked
      (all_weaker (λ x. x < length kinds) (λ x. width_of (kind_of_column kinds x) ≡ slice_index (map width_of kinds) x) width_there asked within)

-- ---- the node

module _ (kinds : List Kind) (by : PlanKey) (items : List PlanFrame) (asked : List ℕ) (found : IsFound asked by.key) (same : AllByRecursion (IsSameItem kinds asked) items) where
  each : (P : PlanFrame → Type 0) → ((item : PlanFrame) → IsSameItem kinds asked item → P item) → AllByRecursion P items
  each P tells = all_weaker (IsSameItem kinds asked) P tells items same

  items_fit : All (FrameFits (pick_kinds asked kinds)) (map (renumber asked) items)
  items_fit = All-from_recursion (FrameFits (pick_kinds asked kinds)) (map (renumber asked) items)
      (all_mapped (FrameFits (pick_kinds asked kinds)) (renumber asked) items (each (λ item. FrameFits (pick_kinds asked kinds) (renumber asked item)) (λ item is. is.fits)))

  made : map (kind_of_frame (pick_kinds asked kinds)) (map (renumber asked) items) ≡ map (kind_of_frame kinds) items
  made = maps_same (kind_of_frame (pick_kinds asked kinds)) (kind_of_frame kinds) (renumber asked) items
      (each (λ item. kind_of_frame (pick_kinds asked kinds) (renumber asked item) ≡ kind_of_frame kinds item) (λ item is. is.kind))

  key_width : width_of_key (pick_kinds asked kinds) (renumber_key asked by) ≡ width_of_key kinds by
  key_width = ap width_of (made_at (kind_of_column kinds) asked by.key bit_kind found)

  frames : sum_by frames_in (map (renumber asked) items) ≡ sum_by frames_in items
  frames = sums_same frames_in frames_in (renumber asked) items (each (λ item. frames_in (renumber asked item) ≡ frames_in item) (λ item is. is.frames))

  weights : sum_by (weight_of_frame (pick_kinds asked kinds)) (map (renumber asked) items) ≡ sum_by (weight_of_frame kinds) items
  weights = sums_same (weight_of_frame (pick_kinds asked kinds)) (weight_of_frame kinds) (renumber asked) items
      (each (λ item. weight_of_frame (pick_kinds asked kinds) (renumber asked item) ≡ weight_of_frame kinds item) (λ item is. is.weight))

  words : words_of_frames (map (renumber asked) items) ≡ words_of_frames items
  words = ap (λ (n : ℕ). 1 + n) (sums_same (λ item. 2 * frames_in item + words_of_frame item) (λ item. 2 * frames_in item + words_of_frame item) (renumber asked) items
      (each (λ item. 2 * frames_in (renumber asked item) + words_of_frame (renumber asked item) ≡ 2 * frames_in item + words_of_frame item)
      (λ item is. ap (λ (n : ℕ). 2 * n + words_of_frame (renumber asked item)) is.frames ∙ ap (λ (n : ℕ). 2 * frames_in item + n) is.words)))

  bits : sum_by (λ item. 128 * frames_in item + 65 * words_of_frame item) (map (renumber asked) items) ≡ sum_by (λ item. 128 * frames_in item + 65 * words_of_frame item) items
  bits = sums_same (λ item. 128 * frames_in item + 65 * words_of_frame item) (λ item. 128 * frames_in item + 65 * words_of_frame item) (renumber asked) items
      (each (λ item. 128 * frames_in (renumber asked item) + 65 * words_of_frame (renumber asked item) ≡ 128 * frames_in item + 65 * words_of_frame item)
      (λ item is. ap (λ (n : ℕ). 128 * n + 65 * words_of_frame (renumber asked item)) is.frames ∙ ap (λ (n : ℕ). 128 * frames_in item + 65 * n) is.words))

  delays : (xs : List PlanFrame) → AllByRecursion (IsSameItem kinds asked) xs → delay_of_frames (pick_kinds asked kinds) (map (renumber asked) xs) ≡ delay_of_frames kinds xs
  delays [] is = refl
  delays (x ∷ xs) is =
      ap (λ (n : ℕ). max n (delay_of_frames (pick_kinds asked kinds) (map (renumber asked) xs))) is.0.delay
      ∙ ap (λ (n : ℕ). max (delay_of_frame kinds x) n) (delays xs is.1)

  delay : delay_of_frames (pick_kinds asked kinds) (map (renumber asked) items) ≡ delay_of_frames kinds items
  delay = delays items same

  by_key : delay_by_key (pick_kinds asked kinds) (Some (renumber_key asked by)) (map (renumber asked) items) ≡ delay_by_key kinds (Some by) items
  by_key =
      ap (λ (n : ℕ). n + cycles_of_look_up (width_of_key (pick_kinds asked kinds) (renumber_key asked by)) by.groups + 1) delay
      ∙ ap (λ (width : ℕ). delay_of_frames kinds items + cycles_of_look_up width by.groups + 1) key_width

  -- the weight as a function of what is the same
  weight_made : ℕ → ℕ → ℕ → ℕ → ℕ → ℕ
  weight_made lines later total width many =
      4 * lines * (min later 4 + 4) + 32 + total + weight_of_look_up width by.groups + (ring by.groups * many + words_of_look_up width by.groups) / 16

  weight : (lines : ℕ) → weight_by_key (pick_kinds asked kinds) lines (Some (renumber_key asked by)) (map (renumber asked) items) ≡ weight_by_key kinds lines (Some by) items
  unfolding weight_made
  weight lines =
      ap (λ (n : ℕ). weight_made lines n (sum_by (weight_of_frame (pick_kinds asked kinds)) (map (renumber asked) items))
      (width_of_key (pick_kinds asked kinds) (renumber_key asked by)) (words_of_frames (map (renumber asked) items))) by_key
      ∙ ap (λ (n : ℕ). weight_made lines (delay_by_key kinds (Some by) items) n
      (width_of_key (pick_kinds asked kinds) (renumber_key asked by)) (words_of_frames (map (renumber asked) items))) weights
      ∙ ap (λ (n : ℕ). weight_made lines (delay_by_key kinds (Some by) items) (sum_by (weight_of_frame kinds) items) n (words_of_frames (map (renumber asked) items))) key_width
      ∙ ap (weight_made lines (delay_by_key kinds (Some by) items) (sum_by (weight_of_frame kinds) items) (width_of_key kinds by)) words

  -- and the bits
  store_made : ℕ → ℕ → ℕ → ℕ → ℕ → ℕ
  store_made lines many later total width =
      64 * (lines + 2 * many) * ring later + ring by.groups * (32 + total) + store_of_look_up width by.groups

  store : (lines : ℕ) → store_by_key (pick_kinds asked kinds) lines (Some (renumber_key asked by)) (map (renumber asked) items) ≡ store_by_key kinds lines (Some by) items
  unfolding store_made
  store lines =
      ap (λ (n : ℕ). store_made lines n (delay_by_key (pick_kinds asked kinds) (Some (renumber_key asked by)) (map (renumber asked) items))
      (sum_by (λ item. 128 * frames_in item + 65 * words_of_frame item) (map (renumber asked) items)) (width_of_key (pick_kinds asked kinds) (renumber_key asked by))) frames
      ∙ ap (λ (n : ℕ). store_made lines (sum_by frames_in items) n
      (sum_by (λ item. 128 * frames_in item + 65 * words_of_frame item) (map (renumber asked) items)) (width_of_key (pick_kinds asked kinds) (renumber_key asked by))) by_key
      ∙ ap (λ (n : ℕ). store_made lines (sum_by frames_in items) (delay_by_key kinds (Some by) items) n (width_of_key (pick_kinds asked kinds) (renumber_key asked by))) bits
      ∙ ap (store_made lines (sum_by frames_in items) (delay_by_key kinds (Some by) items) (sum_by (λ item. 128 * frames_in item + 65 * words_of_frame item) items)) key_width

  pub node_same : AllByRecursion (λ x. x < length kinds) asked → IsSameNode kinds by items asked
  node_same within = record {
    are_kinds = λ are. All-from_recursion IsKind (pick_kinds asked kinds) (picked_kinds kinds asked within are);
    widths = picked_widths kinds asked within;
    items_fit = items_fit;
    key_fits = λ fits. (let long = length_map (kind_of_column kinds) asked in let below = found.within in omega (arith, long, below), fits.1);
    made = made;
    key_width = key_width;
    delay = delay;
    frames = frames;
    delay_by_key = by_key;
    weight = weight;
    store = store;
  }

pub nodes_same : NodesAreSame
nodes_same kinds by items key_there fit =
    node_same kinds by items (asked_columns (length kinds) by.key items) (key_found kinds by.key items key_there fit)
    (items_same_each kinds by.key items key_there fit) (below_within (is_asked by.key items) (length kinds))
