-- The best of words with a bit above the value is the best of the values that are there.
use Rattle.std.proofs.Common.{◌≡◌, ℕ, suc, ◌+◌, ◌%◌, ◌^◌, ◌<◌, List, [], ◌∷◌, Option, Some, None, Bool, true, false, map, refl, sym, ap, ◌∙◌, subst, arith}
use Rattle.std.specs.Prelude.{⊤, filter, fold, not, ◌&&◌, if◌then◌else◌}
use Rattle.std.proofs.Math.Nat.{add-mod_left, mod-eq_of_lt, mod-lt, zero-mod}
use Rattle.std.proofs.lemmas.Nat.{pow_pos}
use Rattle.gl_divide.specs.Division.{highest}
use Rattle.gl_divide.proofs.BitLemmas.{highest_none, highest_some}
use Rattle.gl_values.specs.Kinds.{width_of}
use Rattle.gl_values.specs.declared.kind.Kind.{Kind}
use Rattle.gl_frames.specs.Frames.{IsChoice, best_of, better_of, last_ones, number_or}
use Rattle.gl_frames.proofs.BestLemmas.{best_append, extremes}
use Rattle.gl_frames.proofs.SumLemmas.{last_map}
use Rattle.gl_totals.specs.Folds.{better, is_better}
use Rattle.gl_totals.specs.Totals.{extreme_of}
use Rattle.gl_totals.specs.declared.fold.Extreme.{Extreme}
use Rattle.gl_totals.specs.declared.fold.Extreme.TheVariants.{Least, Greatest}
use Rattle.gl_totals.proofs.FoldNet.{better_is}
use Rattle.gl_frames_stages.specs.FilteredNets.{if_passes, pack}
use Rattle.gl_frames_stages.specs.LevelNets.{better_in, wins}
use Rattle.gl_frames_stages.specs.Laws.{best_in, itself}
use Rattle.gl_frames_stages.proofs.DoublingNet.{extreme_best}

-- a value that is there fits
abbrev Fits : ℕ → Option ℕ → Type 0
Fits w None = ⊤
Fits w (Some x) = x < 2 ^ w

-- the better by a kind is a choice
kind_chooses : (extreme : Extreme) (kind : Kind) → IsChoice (better extreme kind)
kind_chooses Least kind = let h = extremes.lesser_chooses kind in record { together = h.together; once = h.once }
kind_chooses Greatest kind = let h = extremes.greater_chooses kind in record { together = h.together; once = h.once }

module _ (extreme : Extreme) (kind : Kind) where
  abbrev w : ℕ
  w = width_of kind

  abbrev op : ℕ → ℕ → ℕ
  op = better_in (record { extreme = extreme; kind = kind; packed = true })

  abbrev by_kind : ℕ → ℕ → ℕ
  by_kind = better extreme kind

  has_none : highest (w + 1) 0 ≡ false
  has_none = let e : w + 1 ≡ suc w = omega arith in highest_none (w + 1) w 0 e (pow_pos w)

  has_some : (x : ℕ) → x < 2 ^ w → highest (w + 1) (2 ^ w + x) ≡ true
  has_some x lt = let e : w + 1 ≡ suc w = omega arith in highest_some (w + 1) w (2 ^ w + x) x e refl lt

  low : (x : ℕ) → x < 2 ^ w → (2 ^ w + x) % 2 ^ w ≡ x
  low x lt = add-mod_left (2 ^ w) x ∙ mod-eq_of_lt lt

  -- an earlier word without a value is not kept
  none_first : (y : ℕ) → op 0 y ≡ y
  none_first y = ap (λ (b : Bool). if b && not (wins extreme kind 0 y) then 0 else y) has_none

  -- and one with a value is, before a word without
  none_second : (x : ℕ) → x < 2 ^ w → op (2 ^ w + x) 0 ≡ 2 ^ w + x
  none_second x lt =
      ap (λ (b : Bool). if b && not (wins extreme kind (2 ^ w + x) 0) then 2 ^ w + x else 0) (has_some x lt)
      ∙ ap (λ (b : Bool). if not (b && is_better extreme kind ((2 ^ w + x) % 2 ^ w) (0 % 2 ^ w)) then 2 ^ w + x else 0) has_none

  chosen : (b : Bool) (x y : ℕ) → (if not b then 2 ^ w + x else 2 ^ w + y) ≡ 2 ^ w + (if b then y else x)
  chosen true x y = refl
  chosen false x y = refl

  both_there : (x y : ℕ) → x < 2 ^ w → y < 2 ^ w → op (2 ^ w + x) (2 ^ w + y) ≡ 2 ^ w + by_kind x y
  both_there x y lt less =
      ap (λ (b : Bool). if b && not (wins extreme kind (2 ^ w + x) (2 ^ w + y)) then 2 ^ w + x else 2 ^ w + y) (has_some x lt)
      ∙ ap (λ (b : Bool). if not (b && is_better extreme kind ((2 ^ w + x) % 2 ^ w) ((2 ^ w + y) % 2 ^ w)) then 2 ^ w + x else 2 ^ w + y) (has_some y less)
      ∙ ap (λ (n : ℕ). if not (is_better extreme kind n ((2 ^ w + y) % 2 ^ w)) then 2 ^ w + x else 2 ^ w + y) (low x lt)
      ∙ ap (λ (n : ℕ). if not (is_better extreme kind x n) then 2 ^ w + x else 2 ^ w + y) (low y less)
      ∙ chosen (is_better extreme kind x y) x y ∙ ap (λ (n : ℕ). 2 ^ w + n) (better_is extreme kind x y)

  one_step : (o q : Option ℕ) → Fits w o → Fits w q → op (pack w o) (pack w q) ≡ pack w (better_of by_kind o q)
  one_step None q f g = none_first (pack w q)
  one_step (Some x) None f g = none_second x f
  one_step (Some x) (Some y) f g = both_there x y f g

  picked_fits : (b : Bool) (x y : ℕ) → x < 2 ^ w → y < 2 ^ w → (if b then y else x) < 2 ^ w
  picked_fits true x y f g = g
  picked_fits false x y f g = f

  step_fits : (o q : Option ℕ) → Fits w o → Fits w q → Fits w (better_of by_kind o q)
  step_fits None q f g = g
  step_fits (Some x) None f g = f
  step_fits (Some x) (Some y) f g = subst (λ (n : ℕ). n < 2 ^ w) (better_is extreme kind x y) (picked_fits (is_better extreme kind x y) x y f g)

  joined : (x y z : Option ℕ) → better_of by_kind (better_of by_kind x y) z ≡ better_of by_kind x (better_of by_kind y z)
  joined None y z = refl
  joined (Some x) None z = refl
  joined (Some x) (Some y) None = refl
  joined (Some x) (Some y) (Some z) = ap Some ((kind_chooses extreme kind).together x y z)

  nothing_more : (o : Option ℕ) → o ≡ better_of by_kind o None
  nothing_more None = refl
  nothing_more (Some x) = refl

  module _ {B : Type 0} (p : B → Bool) (v : B → ℕ) where
    abbrev there : B → Option ℕ
    there = if_passes w p v

    abbrev kept : List B → List ℕ
    kept zs = map (λ z. v z % 2 ^ w) (filter p zs)

    there_by : (b : Bool) (x : ℕ) → Fits w (if b then Some (x % 2 ^ w) else None)
    there_by true x = mod-lt x (pow_pos w)
    there_by false x = tt

    there_fits : (z : B) → Fits w (there z)
    there_fits z = there_by (p z) (v z)

    best_more : (z : B) (zs : List B) → better_of by_kind (there z) (best_of by_kind (kept zs)) ≡ best_of by_kind (kept (z ∷ zs))
    best_more z zs = by (p z)
      where
        by : (b : Bool) → better_of by_kind (if b then Some (v z % 2 ^ w) else None) (best_of by_kind (map (λ y. v y % 2 ^ w) (filter p zs)))
            ≡ best_of by_kind (map (λ y. v y % 2 ^ w) (if b then z ∷ filter p zs else filter p zs))
        by true = sym (best_append (better extreme kind) (kind_chooses extreme kind) (v z % 2 ^ w ∷ []) (map (λ y. v y % 2 ^ w) (filter p zs)))
        by false = refl

    folded : (o : Option ℕ) → Fits w o → (zs : List B) → fold op (pack w o) (map (λ z. pack w (there z)) zs) ≡ pack w (better_of by_kind o (best_of by_kind (kept zs)))
    folded o f [] = ap (pack w) (nothing_more o)
    folded o f (z ∷ zs) =
        ap (λ n. fold op n (map (λ y. pack w (there y)) zs)) (one_step o (there z) f (there_fits z))
        ∙ folded (better_of by_kind o (there z)) (step_fits o (there z) f (there_fits z)) zs
        ∙ ap (pack w) (joined o (there z) (best_of by_kind (kept zs)) ∙ ap (better_of by_kind o) (best_more z zs))

    best_packed : (zs : List B) → number_or itself (best_of op (map (λ z. pack w (there z)) zs)) ≡ pack w (best_of by_kind (kept zs))
    best_packed [] = refl
    best_packed (z ∷ zs) = folded (there z) (there_fits z) zs ∙ ap (pack w) (best_more z zs)

    best_fits : (zs : List B) → Fits w (best_of by_kind (kept zs))
    best_fits [] = tt
    best_fits (z ∷ zs) = subst (Fits w) (best_more z zs) (step_fits (there z) (best_of by_kind (kept zs)) (there_fits z) (best_fits zs))

    unpacked : (o : Option ℕ) → Fits w o → pack w o % 2 ^ w ≡ number_or itself o
    unpacked None f = zero-mod (2 ^ w)
    unpacked (Some x) f = low x f

    pub filtered_best : (n : ℕ) (rows : List B) → best_in op n (map (λ z. pack w (there z)) rows) % 2 ^ w ≡ extreme_of extreme kind (kept (last_ones n rows))
    filtered_best n rows =
        ap (λ l. number_or itself (best_of op l) % 2 ^ w) (last_map n (λ z. pack w (there z)) rows)
        ∙ ap (λ k. k % 2 ^ w) (best_packed (last_ones n rows))
        ∙ unpacked (best_of by_kind (kept (last_ones n rows))) (best_fits (last_ones n rows))
        ∙ extreme_best extreme kind (kept (last_ones n rows))

-- values that are the same for all rows are so for those that pass
pub same_passed : {B : Type 0} (p : B → Bool) (f g : B → ℕ) (zs : List B) → map f zs ≡ map g zs → map f (filter p zs) ≡ map g (filter p zs)
same_passed p f g [] e = refl
same_passed p f g (z ∷ zs) e = by (p z) (let h : f z ≡ g z = cc in h) (same_passed p f g zs (let t : map f zs ≡ map g zs = cc in t))
  where
    by : (b : Bool) → f z ≡ g z → map f (filter p zs) ≡ map g (filter p zs) → map f (if b then z ∷ filter p zs else filter p zs) ≡ map g (if b then z ∷ filter p zs else filter p zs)
    by true h t = ap (λ n. n ∷ map f (filter p zs)) h ∙ ap (λ l. g z ∷ l) t
    by false h t = t
