-- The updates of the blocks are what the two-phase step assigns and writes.
use Rattle.std.proofs.Common.{◌≡◌, ℕ, zero, suc, ◌+◌, ◌≤◌, ◌⊎◌, inl, inr, Bool, true, false, cond, List, [], ◌∷◌, Option, Some, None, nat_eq, refl, sym, ap, subst, arith}
use Rattle.std.specs.Prelude.{◌||◌, ◌&&◌, slice_get}
use Rattle.std.specs.List.{AllByRecursion}
use Rattle.std.proofs.lemmas.Bool.{eq-eqb}
use Rattle.std.proofs.lemmas.Bool.Decides.{eqb_tells}
use Rattle.gl_bits.proofs.Bools.{neither_left, neither_right, or_left, or_right}
use Rattle.gl_verilog.specs.Module.{Statement, Nothing, Put, Write, Both, If, Nets, Memories, value_of, later_or, assigned, written, assigned_by, written_by}
use Rattle.gl_verilog.specs.Valid.{assigns, AssignsOnce, blocks_of, writes_in, writes_of}
use Rattle.gl_verilog.specs.Events.{Event, Executes, Puts, Writes, updates_of}
use Rattle.gl_verilog.proofs.Among.{IsAmong, among_left, among_right, among_cases}
use Rattle.gl_verilog.proofs.Acyclic.{chosen}
use Rattle.gl_verilog.proofs.Edges.{none_either}

both_chosen : {A B : Type 0} (P : A → B → Type 0) (b : Bool) (x y : A) (x' y' : B) → P x x' → P y y' → P (cond b x y) (cond b x' y')
both_chosen P true x y x' y' p q = p
both_chosen P false x y x' y' p q = q

-- no update is an execution
pub no_executions : (v : Nets) (w : Memories) (s : Statement) (j : ℕ) → IsAmong (Executes j) (updates_of v w s) → ⊥
no_executions v w Nothing j i = i
no_executions v w (Put register value) j i = elim i [ inl q ↦ absurd cc | inr n ↦ n ]
no_executions v w (Write memory address value) j i = elim i [ inl q ↦ absurd cc | inr n ↦ n ]
no_executions v w (Both first second) j i = elim (among_cases (Executes j) (updates_of v w first) (updates_of v w second) i) [ inl a ↦ no_executions v w first j a | inr b ↦ no_executions v w second j b ]
no_executions v w (If test yes' no') j i = chosen (λ l. IsAmong (Executes j) l → ⊥) (nat_eq (value_of v w test) 1) (updates_of v w yes') (updates_of v w no') (λ t. no_executions v w yes' j) (λ t. no_executions v w no' j) i

-- ---- registers, one statement

puts_assigns : (v : Nets) (w : Memories) (s : Statement) (r x : ℕ) → IsAmong (Puts r x) (updates_of v w s) → assigns s r ≡ true
puts_assigns v w Nothing r x i = absurd i
puts_assigns v w (Put register value) r x i = elim i [ inl q ↦ eq-eqb register r (cc) | inr n ↦ absurd n ]
puts_assigns v w (Write memory address value) r x i = elim i [ inl q ↦ absurd cc | inr n ↦ absurd n ]
puts_assigns v w (Both first second) r x i = elim (among_cases (Puts r x) (updates_of v w first) (updates_of v w second) i) [
  | inl a ↦ or_left (assigns first r) (assigns second r) (puts_assigns v w first r x a)
  | inr b ↦ or_right (assigns first r) (assigns second r) (puts_assigns v w second r x b)
]
puts_assigns v w (If test yes' no') r x i = pick (nat_eq (value_of v w test) 1) (puts_assigns v w yes' r x) (puts_assigns v w no' r x) i
  where
    pick : (b : Bool) → (IsAmong (Puts r x) (updates_of v w yes') → assigns yes' r ≡ true) → (IsAmong (Puts r x) (updates_of v w no') → assigns no' r ≡ true) → IsAmong (Puts r x) (cond b (updates_of v w yes') (updates_of v w no')) → (assigns yes' r || assigns no' r) ≡ true
    pick true f g i = or_left (assigns yes' r) (assigns no' r) (f i)
    pick false f g i = or_right (assigns yes' r) (assigns no' r) (g i)

and_false : (a b : Bool) → a ≡ true → (a && b) ≡ false → b ≡ false
and_false true b e f = f
and_false false b e f = absurd cc

not_assigned : (v : Nets) (w : Memories) (s : Statement) (r : ℕ) → assigns s r ≡ false → assigned v w s r ≡ None
not_assigned v w Nothing r e = refl
not_assigned v w (Put register value) r e = rw e refl
not_assigned v w (Write memory address value) r e = refl
not_assigned v w (Both first second) r e = rw (not_assigned v w second r (neither_right (assigns first r) (assigns second r) e), not_assigned v w first r (neither_left (assigns first r) (assigns second r) e)) refl
not_assigned v w (If test yes' no') r e = rw (not_assigned v w yes' r (neither_left (assigns yes' r) (assigns no' r) e), not_assigned v w no' r (neither_right (assigns yes' r) (assigns no' r) e)) (none_either (nat_eq (value_of v w test) 1))

puts_assigned : (v : Nets) (w : Memories) (s : Statement) (r x : ℕ) → AssignsOnce r s → IsAmong (Puts r x) (updates_of v w s) → assigned v w s r ≡ Some x
puts_assigned v w Nothing r x o i = absurd i
puts_assigned v w (Put register value) r x o i = elim i [
  | inl q ↦ (let same : register ≡ r = cc in let is : value_of v w value ≡ x = cc in rw (eq-eqb register r same) (ap {B = Option ℕ} Some is))
  | inr n ↦ absurd n
]
puts_assigned v w (Write memory address value) r x o i = elim i [ inl q ↦ absurd cc | inr n ↦ absurd n ]
puts_assigned v w (Both first second) r x o i = elim (among_cases (Puts r x) (updates_of v w first) (updates_of v w second) i) [
  | inl a ↦ rw (not_assigned v w second r (and_false (assigns first r) (assigns second r) (puts_assigns v w first r x a) o.0)) (puts_assigned v w first r x o.1 a)
  | inr b ↦ rw (puts_assigned v w second r x o.2 b) refl
]
puts_assigned v w (If test yes' no') r x o i = both_chosen (λ l a. IsAmong (Puts r x) l → a ≡ Some x) (nat_eq (value_of v w test) 1) (updates_of v w yes') (updates_of v w no') (assigned v w yes' r) (assigned v w no' r)
    (puts_assigned v w yes' r x o.0)
    (puts_assigned v w no' r x o.1)
    i

later_cases : (a b : Option ℕ) (x : ℕ) → later_or a b ≡ Some x → (a ≡ Some x) ⊎ (b ≡ Some x)
later_cases None b x e = inr e
later_cases (Some y) b x e = inl e

assigned_puts : (v : Nets) (w : Memories) (s : Statement) (r x : ℕ) → assigned v w s r ≡ Some x → IsAmong (Puts r x) (updates_of v w s)
assigned_puts v w Nothing r x e = absurd cc
assigned_puts v w (Put register value) r x e = elim (eqb_tells register r) [
  | inl same ↦ (let is : Some (value_of v w value) ≡ Some x = rw same.0 at e in let here : value_of v w value ≡ x = cc in inl (rw (same.1, here) refl))
  | inr other ↦ (let is : ◌≡◌ {A = Option ℕ} None (Some x) = rw other.0 at e in absurd cc)
]
assigned_puts v w (Write memory address value) r x e = absurd cc
assigned_puts v w (Both first second) r x e = elim (later_cases (assigned v w second r) (assigned v w first r) x e) [
  | inl b ↦ among_right (Puts r x) (updates_of v w first) (updates_of v w second) (assigned_puts v w second r x b)
  | inr a ↦ among_left (Puts r x) (updates_of v w first) (updates_of v w second) (assigned_puts v w first r x a)
]
assigned_puts v w (If test yes' no') r x e = both_chosen (λ l a. a ≡ Some x → IsAmong (Puts r x) l) (nat_eq (value_of v w test) 1) (updates_of v w yes') (updates_of v w no') (assigned v w yes' r) (assigned v w no' r)
    (assigned_puts v w yes' r x)
    (assigned_puts v w no' r x)
    e

-- ---- registers, all blocks

-- a block whose updates have this one
pub record HasUpdate (v : Nets) (w : Memories) (bs : List Statement) (e : Event) : Type 0 where
  pub number : ℕ
  pub block : Statement
  pub is : slice_get bs number ≡ Some block
  pub among : IsAmong e (updates_of v w block)

no_blocks : (v : Nets) (w : Memories) (bs : List Statement) (r : ℕ) → blocks_of bs r ≡ 0 → assigned_by v w bs r ≡ None
no_blocks v w [] r e = refl
no_blocks v w (b ∷ bs) r e = by (assigns b r) refl e (no_blocks v w bs r)
  where
    by : (t : Bool) → assigns b r ≡ t → (let n : ℕ = cond t 1 0 in n + blocks_of bs r ≡ 0) → (blocks_of bs r ≡ 0 → assigned_by v w bs r ≡ None) → assigned_by v w (b ∷ bs) r ≡ None
    by true q e f = absurd (omega (arith, e))
    by false q e f = rw (f (omega (arith, e)), not_assigned v w b r q) refl

pub put_is_assigned : (v : Nets) (w : Memories) (bs : List Statement) (r x : ℕ) → blocks_of bs r ≤ 1 → AllByRecursion (AssignsOnce r) bs → (j : ℕ) (b : Statement) → slice_get bs j ≡ Some b → IsAmong (Puts r x) (updates_of v w b) → assigned_by v w bs r ≡ Some x
put_is_assigned v w [] r x n o j b e i = absurd cc
put_is_assigned v w (c ∷ bs) r x n o zero b e i =
    let same : c ≡ b = cc in
    let here = subst (λ s. IsAmong (Puts r x) (updates_of v w s)) (sym same) i in
    let counts = puts_assigns v w c r x here in
    let m : 1 + blocks_of bs r ≤ 1 = rw counts at n in
    rw (no_blocks v w bs r (omega (arith, m))) (puts_assigned v w c r x o.0 here)
put_is_assigned v w (c ∷ bs) r x n o (suc j) b e i = rw (put_is_assigned v w bs r x (omega (arith, n)) o.1 j b e i) refl

pub assigned_is_put : (v : Nets) (w : Memories) (bs : List Statement) (r x : ℕ) → assigned_by v w bs r ≡ Some x → HasUpdate v w bs (Puts r x)
assigned_is_put v w [] r x e = absurd cc
assigned_is_put v w (b ∷ bs) r x e = elim (later_cases (assigned_by v w bs r) (assigned v w b r) x e) [
  | inl k ↦ (let h = assigned_is_put v w bs r x k in record { number = suc h.number; block = h.block; is = h.is; among = h.among })
  | inr k ↦ record { number = 0; block = b; is = refl; among = assigned_puts v w b r x k }
]

-- ---- words, one statement

writes_count : (v : Nets) (w : Memories) (s : Statement) (k at x : ℕ) → IsAmong (Writes k at x) (updates_of v w s) → 1 ≤ writes_in s k
writes_count v w Nothing k at x i = absurd i
writes_count v w (Put register value) k at x i = elim i [ inl q ↦ absurd cc | inr n ↦ absurd n ]
writes_count v w (Write memory address value) k at x i = elim i [ inl q ↦ (let same : memory ≡ k = cc in rw (eq-eqb memory k same) (omega arith)) | inr n ↦ absurd n ]
writes_count v w (Both first second) k at x i = elim (among_cases (Writes k at x) (updates_of v w first) (updates_of v w second) i) [
  | inl a ↦ (let h = writes_count v w first k at x a in omega (arith, h))
  | inr b ↦ (let h = writes_count v w second k at x b in omega (arith, h))
]
writes_count v w (If test yes' no') k at x i = chosen (λ l. IsAmong (Writes k at x) l → 1 ≤ writes_in yes' k + writes_in no' k) (nat_eq (value_of v w test) 1) (updates_of v w yes') (updates_of v w no')
    (λ t j. (let h = writes_count v w yes' k at x j in omega (arith, h)))
    (λ t j. (let h = writes_count v w no' k at x j in omega (arith, h)))
    i

not_written : (v : Nets) (w : Memories) (s : Statement) (k at : ℕ) → writes_in s k ≡ 0 → written v w s k at ≡ None
not_written v w Nothing k at e = refl
not_written v w (Put register value) k at e = refl
not_written v w (Write memory address value) k at e = elim (eqb_tells memory k) [
  | inl same ↦ (let g : 1 ≡ 0 = rw same.0 at e in absurd (omega (arith, g)))
  | inr other ↦ rw other.0 refl
]
not_written v w (Both first second) k at e = rw (not_written v w second k at (omega (arith, e)), not_written v w first k at (omega (arith, e))) refl
not_written v w (If test yes' no') k at e = rw (not_written v w yes' k at (omega (arith, e)), not_written v w no' k at (omega (arith, e))) (none_either (nat_eq (value_of v w test) 1))

writes_written : (v : Nets) (w : Memories) (s : Statement) (k at x : ℕ) → writes_in s k ≤ 1 → IsAmong (Writes k at x) (updates_of v w s) → written v w s k at ≡ Some x
writes_written v w Nothing k at x o i = absurd i
writes_written v w (Put register value) k at x o i = elim i [ inl q ↦ absurd cc | inr n ↦ absurd n ]
writes_written v w (Write memory address value) k at x o i = elim i [
  | inl q ↦
      let same : memory ≡ k = cc in
      let here : value_of v w address ≡ at = cc in
      let is : value_of v w value ≡ x = cc in
      rw (eq-eqb memory k same, eq-eqb (value_of v w address) at here) (ap {B = Option ℕ} Some is)
  | inr n ↦ absurd n
]
writes_written v w (Both first second) k at x o i = elim (among_cases (Writes k at x) (updates_of v w first) (updates_of v w second) i) [
  | inl a ↦ (let h = writes_count v w first k at x a in rw (not_written v w second k at (omega (arith, o, h))) (writes_written v w first k at x (omega (arith, o)) a))
  | inr b ↦ rw (writes_written v w second k at x (omega (arith, o)) b) refl
]
writes_written v w (If test yes' no') k at x o i = both_chosen (λ l a. IsAmong (Writes k at x) l → a ≡ Some x) (nat_eq (value_of v w test) 1) (updates_of v w yes') (updates_of v w no') (written v w yes' k at) (written v w no' k at)
    (writes_written v w yes' k at x (omega (arith, o)))
    (writes_written v w no' k at x (omega (arith, o)))
    i

written_writes : (v : Nets) (w : Memories) (s : Statement) (k at x : ℕ) → written v w s k at ≡ Some x → IsAmong (Writes k at x) (updates_of v w s)
written_writes v w Nothing k at x e = absurd cc
written_writes v w (Put register value) k at x e = absurd cc
written_writes v w (Write memory address value) k at x e = elim (eqb_tells memory k) [
  | inl same ↦ elim (eqb_tells (value_of v w address) at) [
    | inl here ↦ (let is : Some (value_of v w value) ≡ Some x = rw (same.0, here.0) at e in let same' : value_of v w value ≡ x = cc in inl (rw (same.1, here.1, same') refl))
    | inr there ↦ (let is : ◌≡◌ {A = Option ℕ} None (Some x) = rw (same.0, there.0) at e in absurd cc)
  ]
  | inr other ↦ (let is : ◌≡◌ {A = Option ℕ} None (Some x) = rw other.0 at e in absurd cc)
]
written_writes v w (Both first second) k at x e = elim (later_cases (written v w second k at) (written v w first k at) x e) [
  | inl b ↦ among_right (Writes k at x) (updates_of v w first) (updates_of v w second) (written_writes v w second k at x b)
  | inr a ↦ among_left (Writes k at x) (updates_of v w first) (updates_of v w second) (written_writes v w first k at x a)
]
written_writes v w (If test yes' no') k at x e = both_chosen (λ l a. a ≡ Some x → IsAmong (Writes k at x) l) (nat_eq (value_of v w test) 1) (updates_of v w yes') (updates_of v w no') (written v w yes' k at) (written v w no' k at)
    (written_writes v w yes' k at x)
    (written_writes v w no' k at x)
    e

-- ---- words, all blocks

no_writes : (v : Nets) (w : Memories) (bs : List Statement) (k at : ℕ) → writes_of bs k ≡ 0 → written_by v w bs k at ≡ None
no_writes v w [] k at e = refl
no_writes v w (b ∷ bs) k at e = rw (no_writes v w bs k at (omega (arith, e)), not_written v w b k at (omega (arith, e))) refl

pub write_is_written : (v : Nets) (w : Memories) (bs : List Statement) (k at x : ℕ) → writes_of bs k ≤ 1 → (j : ℕ) (b : Statement) → slice_get bs j ≡ Some b → IsAmong (Writes k at x) (updates_of v w b) → written_by v w bs k at ≡ Some x
write_is_written v w [] k at x n j b e i = absurd cc
write_is_written v w (c ∷ bs) k at x n zero b e i =
    let same : c ≡ b = cc in
    let here = subst (λ s. IsAmong (Writes k at x) (updates_of v w s)) (sym same) i in
    let counts = writes_count v w c k at x here in
    rw (no_writes v w bs k at (omega (arith, n, counts))) (writes_written v w c k at x (omega (arith, n)) here)
write_is_written v w (c ∷ bs) k at x n (suc j) b e i = rw (write_is_written v w bs k at x (omega (arith, n)) j b e i) refl

pub written_is_write : (v : Nets) (w : Memories) (bs : List Statement) (k at x : ℕ) → written_by v w bs k at ≡ Some x → HasUpdate v w bs (Writes k at x)
written_is_write v w [] k at x e = absurd cc
written_is_write v w (b ∷ bs) k at x e = elim (later_cases (written_by v w bs k at) (written v w b k at) x e) [
  | inl h ↦ (let u = written_is_write v w bs k at x h in record { number = suc u.number; block = u.block; is = u.is; among = u.among })
  | inr h ↦ record { number = 0; block = b; is = refl; among = written_writes v w b k at x h }
]
