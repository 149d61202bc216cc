-- The invariant of every schedule: what differs from its expression is active.
use Rattle.std.proofs.Common.{◌≡◌, ◌≢◌, ℕ, zero, suc, ◌+◌, ◌≤◌, ◌⊎◌, inl, inr, true, false, List, [], ◌∷◌, Option, Some, None, nat_eq, eqb, refl, sym, ap, ◌∙◌, subst, arith}
use Rattle.std.specs.Prelude.{◌||◌, slice_get}
use Rattle.std.specs.Option.{option_map_or}
use Rattle.std.proofs.lemmas.Bool.{eq-eqb}
use Rattle.std.proofs.lemmas.Bool.Decides.{eqb_tells}
use Rattle.gl_bits.proofs.Bools.{or_left, or_right, true_or_false}
use Rattle.gl_bits.proofs.AllLists.{all_at}
use Rattle.gl_bits.specs.Words.{not_of, cut_of}
use Rattle.gl_verilog.specs.Module.{Module, Declaration, Kind, Input, OutputWire, OutputRegister, Wire, Register, Memory, Assignment, Expr, Net, Literal, Invert, Binary, Choose, Join, Select, Read, Nets, Memories, value_of}
use Rattle.gl_verilog.specs.Order.{with_net}
use Rattle.gl_verilog.specs.Widths.{IsDriven, width_of, KeepsWidth}
use Rattle.gl_verilog.specs.Valid.{IsValid, mentions, drivers_of, HasDriver}
use Rattle.gl_verilog.proofs.Fits.{Found, found_in}
use Rattle.gl_verilog.proofs.Stores.{same_item}
use Rattle.gl_verilog.proofs.Settles.{with_net-same, with_net-other}
use Rattle.gl_verilog.specs.Events.{Evaluates, State, reads_memory, evaluations, woken, net_takes, with_word, word_takes}
use Rattle.gl_verilog.proofs.Among.{IsAmong, woken_keeps, woken_adds, evaluations_has}

-- ---- tests

-- an option's two cases
pub mapped : {A B : Type 0} (P : B → Type 0) (f : A → B) (o : Option A) (d : B) → (o ≡ None → P d) → ((a : A) → o ≡ Some a → P (f a)) → P (option_map_or f o d)
mapped P f None d g h = g refl
mapped P f (Some a) d g h = h a refl

-- ---- an expression's value depends on what it reads

pub value_of-by : (v v' : Nets) (m m' : Memories) (e : Expr) → ((k : ℕ) → mentions e k ≡ true → v k ≡ v' k) → ((k at : ℕ) → reads_memory e k ≡ true → m k at ≡ m' k at) → value_of v m e ≡ value_of v' m' e
value_of-by v v' m m' (Net n) f g = f n (eq-eqb n n refl)
value_of-by v v' m m' (Literal value width) f g = refl
value_of-by v v' m m' (Invert width arg) f g = ap (not_of width) (value_of-by v v' m m' arg f g)
value_of-by v v' m m' (Binary op width l r) f g = rw (
  value_of-by v v' m m' l (λ k e. f k (or_left (mentions l k) (mentions r k) e)) (λ k at e. g k at (or_left (reads_memory l k) (reads_memory r k) e)),
  value_of-by v v' m m' r (λ k e. f k (or_right (mentions l k) (mentions r k) e)) (λ k at e. g k at (or_right (reads_memory l k) (reads_memory r k) e)),
) refl
value_of-by v v' m m' (Choose c x y) f g = rw (
  value_of-by v v' m m' c (λ k e. f k (or_left (mentions c k) (mentions x k || mentions y k) e)) (λ k at e. g k at (or_left (reads_memory c k) (reads_memory x k || reads_memory y k) e)),
  value_of-by v v' m m' x (λ k e. f k (or_right (mentions c k) (mentions x k || mentions y k) (or_left (mentions x k) (mentions y k) e))) (λ k at e. g k at (or_right (reads_memory c k) (reads_memory x k || reads_memory y k) (or_left (reads_memory x k) (reads_memory y k) e))),
  value_of-by v v' m m' y (λ k e. f k (or_right (mentions c k) (mentions x k || mentions y k) (or_right (mentions x k) (mentions y k) e))) (λ k at e. g k at (or_right (reads_memory c k) (reads_memory x k || reads_memory y k) (or_right (reads_memory x k) (reads_memory y k) e))),
) refl
value_of-by v v' m m' (Join low_width x y) f g = rw (
  value_of-by v v' m m' x (λ k e. f k (or_left (mentions x k) (mentions y k) e)) (λ k at e. g k at (or_left (reads_memory x k) (reads_memory y k) e)),
  value_of-by v v' m m' y (λ k e. f k (or_right (mentions x k) (mentions y k) e)) (λ k at e. g k at (or_right (reads_memory x k) (reads_memory y k) e)),
) refl
value_of-by v v' m m' (Select high low n) f g = ap (cut_of high low) (f n (eq-eqb n n refl))
value_of-by v v' m m' (Read memory address) f g =
    g memory (value_of v m address) (or_left (nat_eq memory memory) (reads_memory address memory) (eq-eqb memory memory refl))
    ∙ ap (m' memory) (value_of-by v v' m m' address f (λ k at e. g k at (or_right (nat_eq memory k) (reads_memory address k) e)))

-- ---- what a valid module has

driven_some : (as' : List Assignment) (j : ℕ) (a : Assignment) (n : ℕ) → slice_get as' j ≡ Some a → a.target ≡ n → 1 ≤ drivers_of as' n
driven_some [] j a n e q = absurd cc
driven_some (c ∷ as') zero a n e q =
    let same : c ≡ a = cc in
    let is : eqb c.target n ≡ true = eq-eqb c.target n (ap (λ (x : Assignment). x.target) same ∙ q) in
    rw is (omega arith)
driven_some (c ∷ as') (suc j) a n e q = let h = driven_some as' j a n e q in omega (arith, h)

-- one assignment at most drives a net
pub one_driver : (as' : List Assignment) (i j : ℕ) (a b : Assignment) (n : ℕ) → slice_get as' i ≡ Some a → slice_get as' j ≡ Some b → a.target ≡ n → b.target ≡ n → drivers_of as' n ≤ 1 → i ≡ j
one_driver [] i j a b n e f p q h = absurd cc
one_driver (c ∷ as') zero zero a b n e f p q h = refl
one_driver (c ∷ as') zero (suc j) a b n e f p q h =
    let same : c ≡ a = cc in
    let is : eqb c.target n ≡ true = eq-eqb c.target n (ap (λ (x : Assignment). x.target) same ∙ p) in
    let other = driven_some as' j b n f q in
    let twice : 1 + drivers_of as' n ≤ 1 = rw is at h in
    absurd (omega (arith, other, twice))
one_driver (c ∷ as') (suc i) zero a b n e f p q h =
    let same : c ≡ b = cc in
    let is : eqb c.target n ≡ true = eq-eqb c.target n (ap (λ (x : Assignment). x.target) same ∙ q) in
    let other = driven_some as' i a n e p in
    let twice : 1 + drivers_of as' n ≤ 1 = rw is at h in
    absurd (omega (arith, other, twice))
one_driver (c ∷ as') (suc i) (suc j) a b n e f p q h = ap (λ (x : ℕ). suc x) (one_driver as' i j a b n e f p q (omega (arith, h)))

driven-once : (m : Module) (n : ℕ) (kind : Kind) → IsDriven kind → HasDriver m n kind → drivers_of m.assignments n ≡ 1
driven-once m n Input k h = absurd k
driven-once m n OutputWire k h = h
driven-once m n OutputRegister k h = absurd k
driven-once m n Wire k h = h
driven-once m n Register k h = absurd k
driven-once m n (Memory bits) k h = absurd k

-- the declaration of what an assignment drives
pub target_of : (m : Module) → IsValid m → (j : ℕ) (a : Assignment) → slice_get m.assignments j ≡ Some a → Found (slice_get m.declarations a.target) (λ d. IsDriven d.kind × (width_of m.declarations a.value ≡ d.width))
target_of m v j a e = found_in (slice_get m.declarations a.target) (λ d. IsDriven d.kind × (width_of m.declarations a.value ≡ d.width)) (all_at (KeepsWidth m.declarations) m.assignments j a e v.assignments).0

pub same_driver : (m : Module) → IsValid m → (i j : ℕ) (a b : Assignment) → slice_get m.assignments i ≡ Some a → slice_get m.assignments j ≡ Some b → b.target ≡ a.target → i ≡ j
same_driver m v i j a b e f q =
    let d = target_of m v i a e in
    let one' : drivers_of m.assignments a.target ≡ 1 = driven-once m a.target d.item.kind d.fact.0 (v.driven a.target d.item d.is) in
    one_driver m.assignments i j a b a.target e f refl q (omega (arith, one'))

pub not_target : (m : Module) → IsValid m → (j : ℕ) (a : Assignment) (n : ℕ) (d : Declaration) → slice_get m.assignments j ≡ Some a → slice_get m.declarations n ≡ Some d → (IsDriven d.kind → ⊥) → a.target ≡ n → ⊥
not_target m v j a n d e f no' q =
    let c = target_of m v j a e in
    no' (subst (λ (x : Declaration). IsDriven x.kind) (same_item m.declarations n c.item d (subst (λ i. slice_get m.declarations i ≡ Some c.item) q c.is) f) c.fact.0)

-- ---- a net takes a value

-- the state with a net changed
abbrev pub changed : Module → State → ℕ → ℕ → State
changed m s n x = record s { nets = with_net s.nets n x; active = woken s.active (evaluations (λ e. mentions e n) 0 m.assignments) }

pub net_takes-cases : (P : State → Type 0) (m : Module) (s : State) (n x : ℕ) → (s.nets n ≡ x → P s) → (s.nets n ≢ x → P (changed m s n x)) → P (net_takes m s n x)
net_takes-cases P m s n x f g = elim (eqb_tells (s.nets n) x) [ inl same ↦ rw same.0 (f same.1) | inr other ↦ rw other.0 (g other.1) ]

abbrev pub rewritten : Module → State → ℕ → ℕ → ℕ → State
rewritten m s k at x = record s { words = with_word s.words k at x; active = woken s.active (evaluations (λ e. reads_memory e k) 0 m.assignments) }

pub word_takes-cases : (P : State → Type 0) (m : Module) (s : State) (k at x : ℕ) → (s.words k at ≡ x → P s) → (s.words k at ≢ x → P (rewritten m s k at x)) → P (word_takes m s k at x)
word_takes-cases P m s k at x f g = elim (eqb_tells (s.words k at) x) [ inl same ↦ rw same.0 (f same.1) | inr other ↦ rw other.0 (g other.1) ]

-- ---- aware: each net that differs from its expression has its assignment active

-- the assignment's net has the value of its expression
abbrev pub Holds : State → Assignment → Type 0
Holds s a = s.nets a.target ≡ value_of s.nets s.words a.value

abbrev pub IsAware : Module → State → Type 0
IsAware m s = (j : ℕ) (a : Assignment) → slice_get m.assignments j ≡ Some a → Holds s a ⊎ IsAmong (Evaluates j) s.active

-- but those that drive this net
abbrev pub IsAwareBut : Module → State → ℕ → Type 0
IsAwareBut m s n = (j : ℕ) (a : Assignment) → slice_get m.assignments j ≡ Some a → (a.target ≡ n) ⊎ Holds s a ⊎ IsAmong (Evaluates j) s.active

-- what drives the net has this value
abbrev pub Drives : Module → State → ℕ → ℕ → Type 0
Drives m s n x = (j : ℕ) (a : Assignment) → slice_get m.assignments j ≡ Some a → a.target ≡ n → x ≡ value_of s.nets s.words a.value

pub value_but : (v : Nets) (m : Memories) (n x : ℕ) (e : Expr) → mentions e n ≡ false → value_of v m e ≡ value_of (with_net v n x) m e
value_but v m n x e no' = value_of-by v (with_net v n x) m m e
    (λ k has. sym (with_net-other v n x k (λ q. (let t : mentions e n ≡ true = ap (mentions e) q ∙ has in absurd cc))))
    (λ k at has. refl)

pub aware_net : (m : Module) (s : State) (n x : ℕ) → IsAwareBut m s n → Drives m s n x → IsAware m (net_takes m s n x)
aware_net m s n x h d = net_takes-cases (IsAware m) m s n x
    (λ same j a e. elim (h j a e) [
      | inl q ↦ inl (ap s.nets q ∙ same ∙ d j a e q)
      | inr k ↦ k
    ])
    (λ other j a e. elim (true_or_false (mentions a.value n)) [
      | inl reads ↦ inr (woken_adds j s.active (evaluations (λ e. mentions e n) 0 m.assignments)
          (subst (λ i. IsAmong (Evaluates i) (evaluations (λ e. mentions e n) 0 m.assignments)) (let z : 0 + j ≡ j = omega arith in z) (evaluations_has (λ e. mentions e n) 0 m.assignments j a e reads)))
      | inr not' ↦
          let keeps : value_of s.nets s.words a.value ≡ value_of (with_net s.nets n x) s.words a.value = value_but s.nets s.words n x a.value not' in
          elim (eqb_tells n a.target) [
            | inl same ↦ inl (subst (λ i. with_net s.nets n x i ≡ value_of (with_net s.nets n x) s.words a.value) same.1
                (with_net-same s.nets n x ∙ d j a e (sym same.1) ∙ keeps))
            | inr apart ↦ elim (h j a e) [
              | inl q ↦ absurd (apart.1 (sym q))
              | inr k ↦ elim k [
                | inl holds ↦ inl (with_net-other s.nets n x a.target apart.1 ∙ holds ∙ keeps)
                | inr there ↦ inr (woken_keeps (Evaluates j) s.active (evaluations (λ e. mentions e n) 0 m.assignments) there)
              ]
            ]
          ]
    ])

pub with_word-other : (w : Memories) (k at x j i : ℕ) → k ≢ j → with_word w k at x j i ≡ w j i
with_word-other w k at x j i ne = elim (eqb_tells k j) [ inl same ↦ absurd (ne same.1) | inr other ↦ rw other.0 refl ]

pub aware_word : (m : Module) (s : State) (k at x : ℕ) → IsAware m s → IsAware m (word_takes m s k at x)
aware_word m s k at x h = word_takes-cases (IsAware m) m s k at x
    (λ same. h)
    (λ other j a e. elim (true_or_false (reads_memory a.value k)) [
      | inl reads ↦ inr (woken_adds j s.active (evaluations (λ e. reads_memory e k) 0 m.assignments)
          (subst (λ i. IsAmong (Evaluates i) (evaluations (λ e. reads_memory e k) 0 m.assignments)) (let z : 0 + j ≡ j = omega arith in z) (evaluations_has (λ e. reads_memory e k) 0 m.assignments j a e reads)))
      | inr not' ↦ elim (h j a e) [
        | inl holds ↦ inl (holds ∙ value_of-by s.nets s.nets s.words (with_word s.words k at x) a.value (λ i has. refl)
            (λ i at' has. sym (with_word-other s.words k at x i at' (λ q. (let t : reads_memory a.value k ≡ true = ap (reads_memory a.value) q ∙ has in absurd cc)))))
        | inr there ↦ inr (woken_keeps (Evaluates j) s.active (evaluations (λ e. reads_memory e k) 0 m.assignments) there)
      ]
    ])
