-- The rows of a wire in some cycles.
use Rattle.std.proofs.Common.{◌≡◌, ℕ, zero, suc, ◌+◌, ◌-◌, ◌<◌, ◌≤◌, [], ◌++◌, length, Some, None, false, refl, sym, ap, ◌∙◌, arith, append_assoc, length-append}
use Rattle.std.specs.Prelude.{option_to_list}
use Rattle.std.proofs.lemmas.List.{append-nil}
use Rattle.gl_values.specs.Results.{Row}
use Rattle.gl_wire.specs.Wire.{Carried, pending, rows}

pub rows-split : (s : Carried) (m n c : ℕ) → rows s c (m + n) ≡ rows s c m ++ rows s (c + m) n
rows-split s zero n c = let e : zero + n ≡ n = omega arith in let d : c ≡ c + zero = omega arith in rw e (ap (λ k. rows s k n) d)
rows-split s (suc m) n c =
    let e : suc m + n ≡ suc (m + n) = omega arith in
    let d : suc c + m ≡ c + suc m = omega arith in
    rw (e, rows-split s m n (suc c), d) (sym (append_assoc (option_to_list (s.tuple c)) (rows s (suc c) m) (rows s (c + suc m) n)))

pub rows-quiet : (s : Carried) (n c : ℕ) → ((k : ℕ) → c ≤ k → k < c + n → s.tuple k ≡ None) → rows s c n ≡ []
rows-quiet s zero c h = refl
rows-quiet s (suc n) c h = rw (h c (omega arith) (omega arith)) (rows-quiet s n (suc c) (λ k l m. h k (omega arith) (omega arith)))

-- where no end comes, the pending tuples grow by those that come
pub pending-rows : (s : Carried) (n c : ℕ) → ((k : ℕ) → c ≤ k → k < c + n → s.ends k ≡ false) → pending s (c + n) ≡ pending s c ++ rows s c n
pending-rows s zero c h = let e : c + zero ≡ c = omega arith in rw e (sym (append-nil (pending s c)))
pending-rows s (suc n) c h =
    let e : c + suc n ≡ suc c + n = omega arith in
    rw (e, pending-rows s n (suc c) (λ k l m. h k (omega arith) (omega arith)), h c (omega arith) (omega arith)) (append_assoc (pending s c) (option_to_list (s.tuple c)) (rows s (suc c) n))

-- the first of some cycles have no more tuples than all of them
pub rows_fewer : (s : Carried) (m n c : ℕ) → length (rows s c m) ≤ length (rows s c (m + n))
rows_fewer s m n c = rw (rows-split s m n c, length-append (rows s c m) (rows s (c + m) n)) (omega arith)

pub rows-same : (s r : Carried) (n c : ℕ) → ((k : ℕ) → c ≤ k → k < c + n → s.tuple k ≡ r.tuple k) → rows s c n ≡ rows r c n
rows-same s r zero c h = refl
rows-same s r (suc n) c h = rw (h c (omega arith) (omega arith), rows-same s r n (suc c) (λ k l m. h k (omega arith) (omega arith)))

pub rows-part : (s : Carried) (lo n x m : ℕ) → lo ≤ x → x + m ≤ lo + n → length (rows s x m) ≤ length (rows s lo n)
rows-part s lo n x m l h =
    let e : n ≡ (x - lo) + (m + (lo + n - (x + m))) = omega (arith, l, h) in
    let at : lo + (x - lo) ≡ x = omega (arith, l) in
    let one : rows s lo n ≡ rows s lo (x - lo) ++ rows s (lo + (x - lo)) (m + (lo + n - (x + m))) = ap (rows s lo) e ∙ rows-split s (x - lo) (m + (lo + n - (x + m))) lo in
    let two : rows s (lo + (x - lo)) (m + (lo + n - (x + m))) ≡ rows s x m ++ rows s (x + m) (lo + n - (x + m)) = ap (λ i. rows s i (m + (lo + n - (x + m)))) at ∙ rows-split s m (lo + n - (x + m)) x in
    let three : length (rows s lo n) ≡ length (rows s lo (x - lo)) + length (rows s (lo + (x - lo)) (m + (lo + n - (x + m)))) = ap length one ∙ length-append (rows s lo (x - lo)) (rows s (lo + (x - lo)) (m + (lo + n - (x + m)))) in
    let four : length (rows s (lo + (x - lo)) (m + (lo + n - (x + m)))) ≡ length (rows s x m) + length (rows s (x + m) (lo + n - (x + m))) = ap length two ∙ length-append (rows s x m) (rows s (x + m) (lo + n - (x + m))) in
    omega (arith, three, four)

pub rows-one : (s : Carried) (c : ℕ) (r : Row) → s.tuple c ≡ Some r → length (rows s c 1) ≡ 1
rows-one s c r h = rw h refl
