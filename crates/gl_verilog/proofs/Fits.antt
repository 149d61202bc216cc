-- The value of an expression fits its width.
use Rattle.std.proofs.Common.{◌≡◌, ℕ, ◌+◌, ◌-◌, ◌*◌, ◌/◌, ◌^◌, ◌<◌, ◌≤◌, Bool, true, false, cond, List, [], Option, Some, None, nat_eq, nat_lt, nat_le, refl, sym, ◌∙◌, ap, subst, arith, length}
use Rattle.std.specs.Prelude.{slice_get, slice_index_or, IsSomeAnd, IsTrue}
use Rattle.std.specs.List.{AllByRecursion}
use Rattle.std.proofs.lemmas.Nat.{pow_pos, pow-add, mod_below, and_le_l, or_lt, xor_lt, mul-add-lt}
use Rattle.std.proofs.Math.Nat.{pow-le-pow_right}
use Rattle.gl_bits.specs.Words.{IsWidth, sum_of, difference_of, product_of, not_of, cut_of, eq_of, lt_of, le_of, bit, choose_of}
use Rattle.gl_verilog.specs.Module.{Declaration, Kind, Memory, BinaryOp, Add, Sub, Mul, And, Xor, Or, Eq, Ne, Lt, Le, Gt, Ge, Expr, Net, Literal, Invert, Binary, Choose, Join, Select, Read, Nets, Memories, value_of, binary_of}
use Rattle.gl_verilog.specs.Run.{Fit}
use Rattle.gl_verilog.specs.Widths.{HasSize, IsReadable, IsMemory, words_in, width_at, width_after, width_of, KeepsWidths}
use Rattle.gl_verilog.specs.Evaluate.{CanEvaluate, IsStore, nets_of, memories_of}
use Rattle.gl_bits.proofs.Bools.{bit_fits}
pub use Rattle.gl_bits.proofs.AllLists.{get_below as in_range}
use Rattle.gl_bits.proofs.AllLists.{all_at, get_below}
use Rattle.gl_bits.proofs.Wrapping.{join_fits}

-- what is there, with its fact
pub record Found {T : Type 0} (o : Option T) (P : T → Type 0) : Type 0 where
  pub item : T
  pub is : o ≡ Some item
  pub fact : P item

pub found_in : {T : Type 0} (o : Option T) (P : T → Type 0) → IsSomeAnd o P → Found o P
found_in None P h = absurd h
found_in (Some x) P h = record { item = x; is = refl; fact = h }

pub width_at-found : (ds : List Declaration) (n : ℕ) (d : Declaration) → slice_get ds n ≡ Some d → width_at ds n ≡ d.width
width_at-found ds n d e = rw e refl

-- ---- what the operators give

pub not_fits : (w x : ℕ) → not_of w x < 2 ^ w
unfolding not_of
not_fits w x = omega (arith, pow_pos w)

pub cut_fits : (high low x : ℕ) → cut_of high low x < 2 ^ (high + 1 - low)
unfolding cut_of
cut_fits high low x = mod_below (x / 2 ^ low) (2 ^ (high + 1 - low)) (pow_pos (high + 1 - low))

pub choose_fits : (test x y n : ℕ) → x < n → y < n → choose_of test x y < n
unfolding choose_of
choose_fits test x y n p q = pick (nat_eq test 1)
  where
    pick : (b : Bool) → cond b x y < n
    pick true = p
    pick false = q

pub binary_fits : (op : BinaryOp) (w x y : ℕ) → x < 2 ^ w → y < 2 ^ w → binary_of op w x y < 2 ^ width_after op w
unfolding sum_of difference_of product_of eq_of lt_of le_of
binary_fits Add w x y p q = mod_below (x + y) (2 ^ w) (pow_pos w)
binary_fits Sub w x y p q = mod_below (x + (2 ^ w - y)) (2 ^ w) (pow_pos w)
binary_fits Mul w x y p q = mod_below (x * y) (2 ^ w) (pow_pos w)
binary_fits And w x y p q = omega (arith, and_le_l x y)
binary_fits Xor w x y p q = xor_lt w x y p q
binary_fits Or w x y p q = or_lt w x y p q
binary_fits Eq w x y p q = bit_fits (nat_eq x y)
binary_fits Ne w x y p q = not_fits 1 (bit (nat_eq x y))
binary_fits Lt w x y p q = bit_fits (nat_lt x y)
binary_fits Le w x y p q = bit_fits (nat_le x y)
binary_fits Gt w x y p q = bit_fits (nat_lt y x)
binary_fits Ge w x y p q = bit_fits (nat_le y x)

-- ---- expressions

pub value_fits : (ds : List Declaration) (v : Nets) (m : Memories) (e : Expr) → Fit ds v m → KeepsWidths ds e → value_of v m e < 2 ^ width_of ds e
value_fits ds v m (Net n) f h =
    let d = found_in (slice_get ds n) IsReadable h in
    subst (λ w. v n < 2 ^ w) (sym (width_at-found ds n d.item d.is)) (f n d.item d.is).0
value_fits ds v m (Literal value width) f h = h.1
value_fits ds v m (Invert width arg) f h = not_fits width (value_of v m arg)
value_fits ds v m (Binary op width left right) f h =
    binary_fits op width (value_of v m left) (value_of v m right) (rw (← h.0) (value_fits ds v m left f h.2)) (rw (← h.1) (value_fits ds v m right f h.3))
value_fits ds v m (Choose test yes' no') f h =
    choose_fits (value_of v m test) (value_of v m yes') (value_of v m no') (2 ^ width_of ds yes') (value_fits ds v m yes' f h.3) (rw (← h.1) (value_fits ds v m no' f h.4))
value_fits ds v m (Join low_width high low) f h =
    join_fits (value_of v m high) (value_of v m low) (width_of ds high) low_width (value_fits ds v m high f h.2) (rw (← h.0) (value_fits ds v m low f h.3))
value_fits ds v m (Select high low n) f h = cut_fits high low (v n)
value_fits ds v m (Read memory address) f h =
    let d = found_in (slice_get ds memory) (λ d. IsMemory d.kind (width_of ds address)) h.0 in
    subst (λ w. m memory (value_of v m address) < 2 ^ w) (sym (width_at-found ds memory d.item d.is)) ((f memory d.item d.is).1 (value_of v m address))

pub is_width : (ds : List Declaration) (e : Expr) → AllByRecursion HasSize ds → KeepsWidths ds e → IsWidth (width_of ds e)
is_width ds (Net n) s h =
    let d = found_in (slice_get ds n) IsReadable h in
    subst IsWidth (sym (width_at-found ds n d.item d.is)) (all_at HasSize ds n d.item d.is s).0
is_width ds (Literal value width) s h = h.0
is_width ds (Invert width arg) s h = subst IsWidth h.0 (is_width ds arg s h.1)
is_width ds (Binary op width left right) s h = after op (subst IsWidth h.0 (is_width ds left s h.2))
  where
    one : IsWidth 1
    one = record { some' = omega arith; most = omega arith }

    after : (op : BinaryOp) → IsWidth width → IsWidth (width_after op width)
    after Add w = w
    after Sub w = w
    after Mul w = w
    after And w = w
    after Xor w = w
    after Or w = w
    after _ w = one
is_width ds (Choose test yes' no') s h = is_width ds yes' s h.3
is_width ds (Join low_width high low) s h = let a = is_width ds high s h.2 in record { some' = omega (arith, a.some'); most = h.1 }
is_width ds (Select high low n) s h =
    let d = found_in (slice_get ds n) (λ d. IsReadable d × IsTrue d.is_vector × (high < d.width)) h.0 in
    let w = (all_at HasSize ds n d.item d.is s).0 in
    record { some' = omega (arith, h.1); most = omega (arith, w.most, d.fact.2) }
is_width ds (Read memory address) s h =
    let d = found_in (slice_get ds memory) (λ d. IsMemory d.kind (width_of ds address)) h.0 in
    subst IsWidth (sym (width_at-found ds memory d.item d.is)) (all_at HasSize ds memory d.item d.is s).0

-- ---- where expressions can be evaluated

pub memory_words : (k : Kind) (bits : ℕ) → IsMemory k bits → words_in k ≡ 2 ^ bits
memory_words (Memory b) bits h = ap (λ (n : ℕ). 2 ^ n) h
memory_words _ bits h = absurd h

pub pow_within : (i j : ℕ) → i ≤ j → 2 ^ i ≤ 2 ^ j
pow_within i j le = let two : 0 < 2 = omega arith in pow-le-pow_right two le

pub can_evaluate : (ds : List Declaration) (vs : List ℕ) (bs : List (List ℕ)) (e : Expr) → AllByRecursion HasSize ds → IsStore ds vs bs → KeepsWidths ds e → CanEvaluate vs bs e
can_evaluate ds vs bs (Net n) s st h =
    let d = found_in (slice_get ds n) IsReadable h in
    let lt : n < length ds = get_below ds n d.item d.is in
    omega (arith, st.nets)
can_evaluate ds vs bs (Literal value width) s st h = tt
can_evaluate ds vs bs (Invert width arg) s st h =
    ((is_width ds (Invert width arg) s h).most, rw (← h.0) (value_fits ds (nets_of vs) (memories_of bs) arg st.fits h.1), can_evaluate ds vs bs arg s st h.1)
can_evaluate ds vs bs (Binary op width left right) s st h =
    let w : IsWidth width = subst IsWidth h.0 (is_width ds left s h.2) in
    (w.most, subst (λ w. value_of (nets_of vs) (memories_of bs) left < 2 ^ w) h.0 (value_fits ds (nets_of vs) (memories_of bs) left st.fits h.2), subst (λ w. value_of (nets_of vs) (memories_of bs) right < 2 ^ w) h.1 (value_fits ds (nets_of vs) (memories_of bs) right st.fits h.3), can_evaluate ds vs bs left s st h.2, can_evaluate ds vs bs right s st h.3)
can_evaluate ds vs bs (Choose test yes' no') s st h = (can_evaluate ds vs bs test s st h.2, can_evaluate ds vs bs yes' s st h.3, can_evaluate ds vs bs no' s st h.4)
can_evaluate ds vs bs (Join low_width high low) s st h =
    let a = is_width ds high s h.2 in
    let x = value_of (nets_of vs) (memories_of bs) high in
    let y = value_of (nets_of vs) (memories_of bs) low in
    let y_fits : y < 2 ^ low_width = subst (λ w. y < 2 ^ w) h.0 (value_fits ds (nets_of vs) (memories_of bs) low st.fits h.3) in
    let joined = mul-add-lt x (2 ^ low_width) y (2 ^ width_of ds high) (value_fits ds (nets_of vs) (memories_of bs) high st.fits h.2) y_fits in
    (omega (arith, a.some', h.1), omega (arith, joined, pow-add 2 low_width (width_of ds high), pow_within (low_width + width_of ds high) 128 (omega (arith, h.1))), can_evaluate ds vs bs high s st h.2, can_evaluate ds vs bs low s st h.3)
can_evaluate ds vs bs (Select high low n) s st h =
    let d = found_in (slice_get ds n) (λ d. IsReadable d × IsTrue d.is_vector × (high < d.width)) h.0 in
    let w = (all_at HasSize ds n d.item d.is s).0 in
    let lt : n < length ds = get_below ds n d.item d.is in
    (omega (arith, st.nets), h.1, omega (arith, w.most, d.fact.2))
can_evaluate ds vs bs (Read memory address) s st h =
    let d = found_in (slice_get ds memory) (λ d. IsMemory d.kind (width_of ds address)) h.0 in
    let lt : memory < length ds = get_below ds memory d.item d.is in
    let size : length (slice_index_or bs memory []) ≡ 2 ^ width_of ds address = st.words memory d.item d.is ∙ memory_words d.item.kind (width_of ds address) d.fact in
    let bits = (all_at HasSize ds memory d.item d.is s).1 (width_of ds address) d.fact in
    let at : value_of (nets_of vs) (memories_of bs) address < 2 ^ width_of ds address = value_fits ds (nets_of vs) (memories_of bs) address st.fits h.1 in
    let small : 2 ^ width_of ds address ≤ 2 ^ 64 = pow_within (width_of ds address) 64 (omega (arith, bits.1)) in
    (omega (arith, st.memories), omega arith, omega arith, can_evaluate ds vs bs address s st h.1)
