-- A count of each slot that begins anew behind each row that passes is the age of its last value.
use Rattle.std.proofs.Common.{◌≡◌, ℕ, zero, suc, ◌+◌, ◌≤◌, List, [], ◌∷◌, ◌++◌, None, Some, Bool, true, false, length, refl, sym, ap, ◌∙◌, arith}
use Rattle.std.specs.Prelude.{◌&&◌, fold, if◌then◌else◌, nat_le}
use Rattle.std.proofs.lemmas.List.{length-append}
use Rattle.std.proofs.lemmas.List.Sums.{fold-append}
use Rattle.gl_net.specs.declared.node.Bit.{Bit}
use Rattle.gl_net.specs.Net.{Run}
use Rattle.gl_wire.specs.Wire.{line_at}
use Rattle.gl_wire_lanes.specs.Keeping.{IsKept}
use Rattle.gl_values.specs.Results.{Row}
use Rattle.gl_frames.specs.Frames.{last_value_of}
use Rattle.gl_frames.proofs.LastLemmas.{last_values_stay}
use Rattle.gl_frames_wire.specs.Rings.{wind, wound}
use Rattle.gl_frames_wire.specs.Since.{all_ends}
use Rattle.gl_frames_wire.proofs.RingLemmas.{one_in}
use Rattle.gl_frames_wire.proofs.SinceLemmas.{slots_fold}
use Rattle.gl_frames_wire.proofs.WindLemmas.{counts_from}
use Rattle.gl_frames_stages.specs.RecentNets.{age}
use Rattle.gl_frames_stages.proofs.RecentLemmas.{recent_value}
use Rattle.gl_frames_stages.proofs.RecentNet.{old_told}
use Rattle.gl_frames_slots.specs.Rows.{AreTold, TellsBySlot, lane_at, slot_past}
use Rattle.gl_frames_slots.specs.RecentNets.{TakesBySlot}
use Rattle.gl_frames_slots.specs.declared.rows.SlotRows.{SlotRows}

-- so many rows
some_rows : ℕ → List ℕ
some_rows zero = []
some_rows (suc n) = some_rows n ++ 0 ∷ []

many_rows : (n : ℕ) → length (some_rows n) ≡ n
unfolding some_rows
many_rows zero = refl
many_rows (suc n) = let e = length-append (some_rows n) (0 ∷ []) in let h = many_rows n in omega (arith, e, h)

module _ (size : ℕ) (some : 1 ≤ size) where
  wound_of : (n : ℕ) → fold (λ (k : ℕ) (x : ℕ). wind size k) 0 (some_rows n) ≡ wound size n
  wound_of n = counts_from size some (some_rows n) ∙ ap (wound size) (many_rows n)

  none_yet : 0 ≡ wound size 0
  unfolding some_rows
  none_yet = wound_of 0

  wound_next : (n : ℕ) → wind size (wound size n) ≡ wound size (suc n)
  unfolding some_rows
  wound_next n = ap (wind size) (sym (wound_of n)) ∙ sym (fold-append (λ (k : ℕ) (x : ℕ). wind size k) 0 (some_rows n) (0 ∷ [])) ∙ wound_of (suc n)

  module _ {B : Type 0} (p : B → Bool) where
    abbrev step : ℕ → B → ℕ
    step n x = if p x then 0 else wind size n

    wound_from : (m : ℕ) (xs : List B) → fold step (wound size m) xs ≡ wound size (fold (λ (n : ℕ) (x : B). if p x then 0 else suc n) m xs)
    wound_from m [] = refl
    wound_from m (x ∷ xs) = by (p x) (wound_from 0 xs) (wound_from (suc m) xs)
      where
        by : (b : Bool) → fold step (wound size 0) xs ≡ wound size (fold (λ (n : ℕ) (y : B). if p y then 0 else suc n) 0 xs)
            → fold step (wound size (suc m)) xs ≡ wound size (fold (λ (n : ℕ) (y : B). if p y then 0 else suc n) (suc m) xs)
            → fold step (if b then 0 else wind size (wound size m)) xs ≡ wound size (fold (λ (n : ℕ) (y : B). if p y then 0 else suc n) (if b then 0 else suc m) xs)
        by true again more = ap (λ n. fold step n xs) none_yet ∙ again
        by false again more = ap (λ n. fold step n xs) (wound_next m) ∙ more

    pub age_wound : (xs : List B) → fold step 0 xs ≡ wound size (age p xs)
    age_wound xs = ap (λ n. fold step n xs) none_yet ∙ wound_from 0 xs

-- whether a count is so many tells whether the age is
pub wound_old : (size k n a : ℕ) → 1 ≤ size → k ≤ size → n ≡ wound size a → nat_le k n ≡ nat_le k a
wound_old size k n a some few is =
    old_told size k n (some_rows a) some few (is ∙ ap (wound size) (sym (many_rows a))) ∙ ap (nat_le k) (many_rows a)

-- one cycle, over truth values: whether a row comes, and whether it passes
anew : (v q : Bool) (m b : ℕ) → (if v && q then 0 else (if v then m else b)) ≡ (if v then (if q then 0 else m) else b)
anew true true m b = refl
anew true false m b = refl
anew false q m b = refl

pub since_told : (run : Run) (rows : SlotRows) (ends : ℕ → Bool) (size : ℕ) (takes : Bit) (p : Row → Bool) (row : ℕ → Row) (before more now : ℕ → ℕ) → 1 ≤ size → AreTold run rows ends
    → IsKept 0 (lane_at run rows ends) before now → TakesBySlot run rows takes p row
    → ((t : ℕ) → more (suc t) ≡ (if line_at run rows.valid (suc t) then wind size (before (suc t)) else before (suc t)))
    → ((t : ℕ) → now (suc t) ≡ (if line_at run takes (suc t) then 0 else more (suc t)))
    → (c : ℕ) → line_at run rows.valid (suc c) ≡ true → before (suc c) ≡ wound size (age p (slot_past run rows ends row (suc c)))
since_told run rows ends size takes p row before more now some told kept take wound' is c v =
    (slots_fold (λ (n : ℕ) (x : Row). if p x then 0 else wind size n) 0 (all_ends (lane_at run rows ends)) (lane_at run rows ends) row before now told.opens kept with_row c v).past
    ∙ age_wound size some p (slot_past run rows ends row (suc c))
  where
    with_row : (t : ℕ) → now (suc t) ≡ (if line_at run rows.valid (suc t) then (if p (row (suc t)) then 0 else wind size (before (suc t))) else before (suc t))
    with_row t =
        is t ∙ ap (λ (b : Bool). if b then 0 else more (suc t)) (take t)
        ∙ ap (λ (n : ℕ). if line_at run rows.valid (suc t) && p (row (suc t)) then 0 else n) (wound' t)
        ∙ anew (line_at run rows.valid (suc t)) (p (row (suc t))) (wind size (before (suc t))) (before (suc t))

-- the value of a row that passes is the last one too
turned : (b o : Bool) (x l : ℕ) → (if b then x else if o then 0 else (if b then x else l)) ≡ (if b then x else if o then 0 else l)
turned true o x l = refl
turned false o x l = refl

pub recent_told : (run : Run) (rows : SlotRows) (ends : ℕ → Bool) (passes aged : Bit) (v : Row → ℕ) (p : Row → Bool) (row : ℕ → Row) (value last out : ℕ → ℕ) (k : ℕ)
    → TellsBySlot run rows ends 0 (last_value_of v None p) row last
    → ((t : ℕ) → value (suc t) ≡ v (row (suc t))) → ((t : ℕ) → line_at run passes (suc t) ≡ p (row (suc t)))
    → ((c : ℕ) → line_at run rows.valid (suc c) ≡ true → line_at run aged (suc c) ≡ nat_le k (age p (slot_past run rows ends row (suc c))))
    → ((t : ℕ) → out (suc t) ≡ (if line_at run passes (suc t) then value (suc t) else if line_at run aged (suc t) then 0 else last (suc t)))
    → TellsBySlot run rows ends 0 (last_value_of v (Some k) p) row out
recent_told run rows ends passes aged v p row value last out k lasts is bit ages young c w =
    let e : suc c + 0 ≡ suc c = omega arith in
    let i : suc c ≡ suc c + 0 = omega arith in
    let xs = slot_past run rows ends row (suc c) in
    let x : Row = row (suc c) in
    let old : Bool = nat_le k (age p xs) in
    let mine = one_in (line_at run rows.valid (suc c)) x w in
    ap out e ∙ young c
    ∙ ap (λ (b : Bool). if b then value (suc c) else if line_at run aged (suc c) then 0 else last (suc c)) (bit c)
    ∙ ap (λ (n : ℕ). if p x then n else if line_at run aged (suc c) then 0 else last (suc c)) (is c)
    ∙ ap (λ (b : Bool). if p x then v x else if b then 0 else last (suc c)) (ages c w)
    ∙ ap (λ (n : ℕ). if p x then v x else if old then 0 else n)
    (ap last i ∙ lasts c w ∙ ap (λ own. last_value_of v None p (xs ++ own)) mine ∙ last_values_stay v p xs x)
    ∙ turned (p x) old (v x) (last_value_of v None p xs)
    ∙ sym (recent_value v p k xs x)
    ∙ ap (λ own. last_value_of v (Some k) p (xs ++ own)) (sym mine)
