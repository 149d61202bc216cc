-- The best word of a slot so far, and what it is of the values that pass.
use Rattle.std.proofs.Common.{◌≡◌, ℕ, suc, ◌+◌, ◌-◌, ◌%◌, ◌^◌, ◌≤◌, List, [], ◌∷◌, map, Bool, true, false, length, refl, sym, ap, ◌∙◌, arith}
use Rattle.std.specs.Prelude.{drop, filter, fold, not, ◌&&◌, if◌then◌else◌}
use Rattle.std.proofs.lemmas.List.{length-map}
use Rattle.std.proofs.lemmas.Nat.{pow_pos}
use Rattle.gl_divide.proofs.BitLemmas.{highest_none}
use Rattle.gl_values.specs.Kinds.{width_of}
use Rattle.gl_values.specs.declared.kind.Kind.{Kind}
use Rattle.gl_net.specs.declared.node.Bit.{Bit}
use Rattle.gl_net.specs.Net.{Run}
use Rattle.gl_wire.specs.Wire.{line_at}
use Rattle.gl_wire_lanes.specs.Keeping.{IsKept}
use Rattle.gl_frames.specs.Frames.{best_of, last_ones, number_or}
use Rattle.gl_frames_wire.specs.Since.{all_ends}
use Rattle.gl_frames_wire.proofs.SinceLemmas.{slots_fold}
use Rattle.gl_totals.specs.Totals.{extreme_of}
use Rattle.gl_totals.specs.declared.fold.Extreme.{Extreme}
use Rattle.gl_frames_stages.specs.FilteredNets.{if_passes, pack}
use Rattle.gl_frames_stages.specs.Laws.{best_in, itself}
use Rattle.gl_frames_stages.specs.LevelNets.{better_in, nodes_of_stays, stays_in, wins}
use Rattle.gl_frames_stages.specs.declared.level.Order.{Order}
use Rattle.gl_frames_stages.proofs.PackLemmas.{filtered_best}
use Rattle.gl_frames_slots.specs.Extremes.{best_from_none}
use Rattle.gl_frames_slots.specs.Rows.{AreTold, TellsBySlot, lane_at}
use Rattle.gl_frames_slots.specs.declared.rows.SlotRows.{SlotRows}

-- ---- in cycles

pub most_gates : (order : Order) → order.packed ≡ true → nodes_of_stays order ≡ 12
most_gates order packed = ap (λ (b : Bool). if b then 12 else 5) packed

-- over truth values: whether a row comes, and whether the word stays
taken_or_kept : (v s : Bool) (x b : ℕ) → (if v && not (v && s) then x else b) ≡ (if v then (if s then b else x) else b)
taken_or_kept false s x b = refl
taken_or_kept true true x b = refl
taken_or_kept true false x b = refl

pub best_told : (run : Run) (rows : SlotRows) (ends : ℕ → Bool) (order : Order) (value before now : ℕ → ℕ) (stays takes : Bit) → AreTold run rows ends
    → IsKept 0 (lane_at run rows ends) before now
    → ((t : ℕ) → line_at run stays (suc t) ≡ (line_at run rows.valid (suc t) && stays_in order (before (suc t)) (value (suc t))))
    → ((t : ℕ) → line_at run takes (suc t) ≡ (line_at run rows.valid (suc t) && not (line_at run stays (suc t))))
    → ((t : ℕ) → now (suc t) ≡ (if line_at run takes (suc t) then value (suc t) else before (suc t)))
    → TellsBySlot run rows ends 0 (best_from_none (better_in order)) value now
best_told run rows ends order value before now stays takes told kept stay take is c v =
    let e : suc c + 0 ≡ suc c = omega arith in
    ap now e
    ∙ (slots_fold (better_in order) 0 (all_ends (lane_at run rows ends)) (lane_at run rows ends) value before now told.opens kept with_row c v).here
  where
    with_row : (t : ℕ) → now (suc t) ≡ (if line_at run rows.valid (suc t) then better_in order (before (suc t)) (value (suc t)) else before (suc t))
    with_row t =
        is t ∙ ap (λ (b : Bool). if b then value (suc t) else before (suc t)) (take t ∙ ap (λ (b : Bool). line_at run rows.valid (suc t) && not b) (stay t))
        ∙ taken_or_kept (line_at run rows.valid (suc t)) (stays_in order (before (suc t)) (value (suc t))) (value (suc t)) (before (suc t))

-- ---- of words with a bit above the value

-- the last ones of no more are all
pub all_ones : {B : Type 0} (n : ℕ) (xs : List B) → length xs ≤ n → last_ones n xs ≡ xs
all_ones n xs le = let none : length xs - n ≡ 0 = omega (arith, le) in ap (λ k. drop k xs) none

module _ (extreme : Extreme) (kind : Kind) where
  abbrev w : ℕ
  w = width_of kind

  abbrev op : ℕ → ℕ → ℕ
  op = better_in (record { extreme = extreme; kind = kind; packed = true })

  -- 0 has no value, and is not kept
  first : (y : ℕ) → op 0 y ≡ y
  first y =
      let e : w + 1 ≡ suc w = omega arith in
      ap (λ (b : Bool). if b && not (wins extreme kind 0 y) then 0 else y) (highest_none (w + 1) w 0 e (pow_pos w))

  from_none : (xs : List ℕ) → best_from_none op xs ≡ best_in op (length xs) xs
  from_none [] = refl
  from_none (x ∷ xs) =
      ap (λ n. fold op n xs) (first x)
      ∙ sym (ap (λ l. number_or itself (best_of op l)) (all_ones (length (x ∷ xs)) (x ∷ xs) (omega arith)))

  module _ {B : Type 0} (p : B → Bool) (v : B → ℕ) where
    abbrev packed : B → ℕ
    packed z = pack w (if_passes w p v z)

    pub all_packed : (rows : List B) → best_from_none op (map packed rows) % 2 ^ w ≡ extreme_of extreme kind (map (λ z. v z % 2 ^ w) (filter p rows))
    all_packed rows =
        ap (λ n. n % 2 ^ w) (from_none (map packed rows) ∙ ap (λ n. best_in op n (map packed rows)) (length-map rows packed))
        ∙ filtered_best extreme kind p v (length rows) rows
        ∙ ap (λ zs. extreme_of extreme kind (map (λ z. v z % 2 ^ w) (filter p zs))) (all_ones (length rows) rows (omega arith))
