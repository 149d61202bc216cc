-- An order is found pass by pass, or none is there.
use Rattle.std.proofs.Common.{◌≡◌, ◌≢◌, ℕ, zero, suc, ◌+◌, ◌<◌, ◌≤◌, ◌⊎◌, inl, inr, Bool, true, false, not, ◌||◌, List, [], ◌∷◌, ◌++◌, Option, Some, None, length, length-set, append_assoc, append-nil, refl, sym, ap, subst, ◌∙◌, arith, Vec}
use Rattle.std.specs.Prelude.{slice_get, slice_set, unwrap_or, IfSome, is_some}
use Rattle.std.specs.List.{AllByRecursion, list_any, cons_option}
use Rattle.std.specs.List.Sorted.{IsPermutation}
use Rattle.std.proofs.lemmas.List.Sorted.{IsPermutation-refl, IsPermutation-cons, IsPermutation-trans, IsPermutation-middle, IsPermutation-sym, IsPermutation-append}
use Rattle.gl_bits.proofs.Bools.{neither_left, neither_right, by_cases, and_left, and_right, and_so, not_true}
use Rattle.gl_verilog.specs.Module.{Assignment, Expr, Net, Literal, Invert, Binary, Choose, Join, Select, Read}
use Rattle.gl_verilog.specs.Order.{EachRead, IsUndriven, IsOrdered, CanBeOrdered}
use Rattle.gl_verilog.proofs.Settles.{each_in_order, reads_and, reads_both}
use Rattle.gl_verilog_check.specs.Kept.{reads, AreMarks, AreNets}
use Rattle.gl_verilog_check.specs.Orders.{picked, IsOrderOf, IsMissing}
use Rattle.gl_verilog_check.specs.Passes.{AreOnce, waits, is_ready, placed, passed, finds, keep, left, IsPlacing}
use Rattle.gl_verilog_check.proofs.Marks.{unmarked}

-- ---- what is read

or_false : (a b : Bool) → a ≡ false → (a || b) ≡ true → b ≡ true
or_false true b e h = absurd cc
or_false false b e h = h

known : (o : Option Bool) → unwrap_or o true ≡ false → o ≡ Some false
known None e = absurd cc
known (Some true) e = absurd cc
known (Some false) e = refl

-- where an expression reads no mark, no net that it reads is marked
reads_none : (marks : List Bool) (e : Expr) → reads marks e ≡ false → EachRead (λ n. slice_get marks n ≡ Some false) e
reads_none marks (Net n) h = known (slice_get marks n) h
reads_none marks (Literal value width) h = tt
reads_none marks (Invert width arg) h = reads_none marks arg h
reads_none marks (Binary op width left right) h = (reads_none marks left (neither_left (reads marks left) (reads marks right) h), reads_none marks right (neither_right (reads marks left) (reads marks right) h))
reads_none marks (Choose test yes' no') h =
    let rest = neither_right (reads marks test) (reads marks yes' || reads marks no') h in (
      reads_none marks test (neither_left (reads marks test) (reads marks yes' || reads marks no') h),
      reads_none marks yes' (neither_left (reads marks yes') (reads marks no') rest),
      reads_none marks no' (neither_right (reads marks yes') (reads marks no') rest),
    )
reads_none marks (Join low_width high low) h = (reads_none marks high (neither_left (reads marks high) (reads marks low) h), reads_none marks low (neither_right (reads marks high) (reads marks low) h))
reads_none marks (Select high low n) h = known (slice_get marks n) h
reads_none marks (Read memory address) h = reads_none marks address h

reads_nothing : (marks : List Bool) (e : Expr) → EachRead (λ n. slice_get marks n ≡ Some false) e → reads marks e ≡ false
reads_nothing marks (Net n) h = rw h refl
reads_nothing marks (Literal value width) h = refl
reads_nothing marks (Invert width arg) h = reads_nothing marks arg h
reads_nothing marks (Binary op width left right) h = rw (reads_nothing marks left h.0, reads_nothing marks right h.1) refl
reads_nothing marks (Choose test yes' no') h = rw (reads_nothing marks test h.0, reads_nothing marks yes' h.1, reads_nothing marks no' h.2) refl
reads_nothing marks (Join low_width high low) h = rw (reads_nothing marks high h.0, reads_nothing marks low h.1) refl
reads_nothing marks (Select high low n) h = rw h refl
reads_nothing marks (Read memory address) h = reads_nothing marks address h

-- ---- marks

waiting : (o : Option Bool) → unwrap_or o false ≡ true → o ≡ Some true
waiting None e = absurd cc
waiting (Some true) e = refl
waiting (Some false) e = absurd cc

cleared : (marks : List Bool) (t : ℕ) → slice_get marks t ≡ Some true → slice_get (slice_set marks t false) t ≡ Some false
cleared [] t h = absurd cc
cleared (m ∷ ms) zero h = refl
cleared (m ∷ ms) (suc t) h = cleared ms t h

not_cleared : (marks : List Bool) (t n : ℕ) → n ≢ t → slice_get (slice_set marks t false) n ≡ slice_get marks n
not_cleared [] t n h = refl
not_cleared (m ∷ ms) zero zero h = absurd (h refl)
not_cleared (m ∷ ms) zero (suc n) h = refl
not_cleared (m ∷ ms) (suc t) zero h = refl
not_cleared (m ∷ ms) (suc t) (suc n) h = not_cleared ms t n (λ e. h (ap suc e))

-- what waits when one is placed, waited
waited : (marks : List Bool) (t n : ℕ) → slice_get (slice_set marks t false) n ≡ Some true → slice_get marks n ≡ Some true
waited [] t n h = h
waited (m ∷ ms) zero zero h = absurd cc
waited (m ∷ ms) zero (suc n) h = h
waited (m ∷ ms) (suc t) zero h = h
waited (m ∷ ms) (suc t) (suc n) h = waited ms t n h

-- how many nets wait
abbrev pub count : List Bool → ℕ
count [] = 0
count (true ∷ ms) = count ms + 1
count (false ∷ ms) = count ms

fewer : (marks : List Bool) (t : ℕ) → slice_get marks t ≡ Some true → count (slice_set marks t false) < count marks
fewer [] t h = absurd cc
fewer (true ∷ ms) zero h = omega arith
fewer (false ∷ ms) zero h = absurd cc
fewer (true ∷ ms) (suc t) h = (let lt = fewer ms t h in omega (arith, lt))
fewer (false ∷ ms) (suc t) h = fewer ms t h

-- ---- the assignments that wait

-- all of them, where each target is marked
left_all : (marks : List Bool) (as' : List Assignment) → AllByRecursion (λ a. slice_get marks a.target ≡ Some true) as' → left marks as' ≡ as'
left_all marks [] h = refl
left_all marks (a ∷ rest) h = rw h.0 (ap (λ (xs : List Assignment). a ∷ xs) (left_all marks rest h.1))

-- none of them, where no net waits
left_none : (marks : List Bool) (as' : List Assignment) → ((n : ℕ) → waits marks n ≡ false) → left marks as' ≡ []
left_none marks [] h = refl
left_none marks (a ∷ rest) h = rw (h a.target) (left_none marks rest h)

-- no net that does not wait is driven by one that does
left_undriven : (marks : List Bool) (as' : List Assignment) (n : ℕ) → slice_get marks n ≡ Some false → IsUndriven (left marks as') n
left_undriven marks [] n h = tt
left_undriven marks (a ∷ rest) n h = by (waits marks a.target) refl (left_undriven marks rest n h)
  where
    by : (b : Bool) → waits marks a.target ≡ b → IsUndriven (left marks rest) n → IsUndriven (keep b a (left marks rest)) n
    by true e u = ((λ same. absurd (let f : slice_get marks a.target ≡ Some true = waiting (slice_get marks a.target) e in let g : slice_get marks a.target ≡ Some false = ap (λ (i : ℕ). slice_get marks i) same ∙ h in cc)), u)
    by false e u = u

-- a net that no assignment drives is no matter
left_same : (marks : List Bool) (rest : List Assignment) (t : ℕ) → IsUndriven rest t → left (slice_set marks t false) rest ≡ left marks rest
left_same marks [] t u = refl
left_same marks (b ∷ rest) t u =
    let here : slice_get (slice_set marks t false) b.target ≡ slice_get marks b.target = not_cleared marks t b.target u.0 in
    ap (λ (o : Option Bool). keep (unwrap_or o false) b (left (slice_set marks t false) rest)) here
    ∙ ap (λ (xs : List Assignment). keep (waits marks b.target) b xs) (left_same marks rest t u.1)

-- ---- members

abbrev pub IsIn : Assignment → List Assignment → Type 0
IsIn a [] = ⊥
IsIn a (b ∷ bs) = (b ≡ a) ⊎ IsIn a bs

undriven_in : (bs : List Assignment) (n : ℕ) (a : Assignment) → IsUndriven bs n → IsIn a bs → a.target ≢ n
undriven_in [] n a u i = absurd i
undriven_in (b ∷ bs) n a u i = elim i [ inl e ↦ subst (λ (x : Assignment). x.target ≢ n) e u.0 | inr j ↦ undriven_in bs n a u.1 j ]

-- ---- one that is placed, stands before those that still wait

moved_keep : (w : Bool) (a b : Assignment) (xs ys : List Assignment) → IsPermutation xs (a ∷ ys) → IsPermutation (keep w b xs) (a ∷ keep w b ys)
moved_keep true a b xs ys p = IsPermutation-trans (b ∷ xs) (b ∷ a ∷ ys) (a ∷ b ∷ ys) (IsPermutation-cons b xs (a ∷ ys) p) (IsPermutation-middle (b ∷ []) a ys)
moved_keep false a b xs ys p = p

moved : (marks : List Bool) (as' : List Assignment) (a : Assignment) → AreOnce as' → IsIn a as' → slice_get marks a.target ≡ Some true → IsPermutation (left marks as') (a ∷ left (slice_set marks a.target false) as')
moved marks [] a o i w = absurd i
moved marks (b ∷ rest) a o i w = elim i [
  | inl e ↦ subst (λ (x : Assignment). IsPermutation (left marks (x ∷ rest)) (a ∷ left (slice_set marks a.target false) (x ∷ rest))) (sym e) (first (subst (λ (x : Assignment). IsUndriven rest x.target) e o.0))
  | inr j ↦ (
      let apart : a.target ≢ b.target = undriven_in rest b.target a o.0 j in
      let here : slice_get (slice_set marks a.target false) b.target ≡ slice_get marks b.target = not_cleared marks a.target b.target (λ same. apart (sym same)) in
      subst (λ (q : Option Bool). IsPermutation (keep (waits marks b.target) b (left marks rest)) (a ∷ keep (unwrap_or q false) b (left (slice_set marks a.target false) rest))) (sym here)
      (moved_keep (waits marks b.target) a b (left marks rest) (left (slice_set marks a.target false) rest) (moved marks rest a o.1 j w))
      )
]
  where
    first : IsUndriven rest a.target → IsPermutation (left marks (a ∷ rest)) (a ∷ left (slice_set marks a.target false) (a ∷ rest))
    first u = rw (w, cleared marks a.target w, left_same marks rest a.target u) (IsPermutation-refl (a ∷ left marks rest))

-- one that is ready stands before any order of those that wait then
ready_first : (marks : List Bool) (as' : List Assignment) (a : Assignment) → AreOnce as' → IsIn a as' → is_ready marks a ≡ true → (rest : List Assignment) → IsPermutation (left (slice_set marks a.target false) as') rest → IsOrdered rest → IsPermutation (left marks as') (a ∷ rest) × IsOrdered (a ∷ rest)
ready_first marks as' a o i ready rest p ordered =
    let w : slice_get marks a.target ≡ Some true = waiting (slice_get marks a.target) (and_left (waits marks a.target) (not (reads marks a.value)) ready) in
    let none : reads marks a.value ≡ false = not_true (reads marks a.value) (and_right (waits marks a.target) (not (reads marks a.value)) ready) in
    let ms = slice_set marks a.target false in
    let same : IsPermutation (left marks as') (a ∷ rest) =
    IsPermutation-trans (left marks as') (a ∷ left ms as') (a ∷ rest) (moved marks as' a o i w) (IsPermutation-cons a (left ms as') rest p) in (
      same,
      (
        reads_and (λ n. slice_get marks n ≡ Some false) (IsUndriven (a ∷ rest)) a.value (λ n h. each_in_order (λ b. b.target ≢ n) (left marks as') (a ∷ rest) same (left_undriven marks as' n h)) (reads_none marks a.value none),
        each_in_order (λ b. b.target ≢ a.target) (left ms as') rest p (left_undriven ms as' a.target (cleared marks a.target w)),
        ordered,
      ),
    )

-- ---- passes

pub placing_first : (as' : List Assignment) (marks : List Bool) → AreMarks as' marks → IsPlacing as' marks []
placing_first as' marks m =
    let all : left marks as' ≡ as' = left_all marks as' m.targets in
    record {
      in_range = tt;
      same = subst (IsPermutation as') (sym all) (IsPermutation-refl as');
      ordered = λ rest p o. o;
      driven = m.driven;
    }

-- whether it is ready, and what is left of the marks
by_ready : (P : List Bool → Type 0) (marks : List Bool) (a : Assignment) (b : Bool) → is_ready marks a ≡ b → (is_ready marks a ≡ true → P (slice_set marks a.target false)) → P marks → P (placed marks a)
by_ready P marks a true e f p = rw e (f e)
by_ready P marks a false e f p = rw e p

picked-push : (as' : List Assignment) (o : List ℕ) (k : ℕ) (a : Assignment) → slice_get as' k ≡ Some a → picked as' (o ++ k ∷ []) ≡ picked as' o ++ a ∷ []
picked-push as' [] k a e = rw e refl
picked-push as' (j ∷ o) k a e = first (slice_get as' j) (picked as' (o ++ k ∷ [])) (picked as' o) (picked-push as' o k a e)
  where
    first : (x : Option Assignment) (xs ys : List Assignment) → xs ≡ ys ++ a ∷ [] → cons_option x xs ≡ cons_option x ys ++ a ∷ []
    first None xs ys same = same
    first (Some x) xs ys same = ap (λ (zs : List Assignment). x ∷ zs) same

all-push : (P : ℕ → Type 0) (xs : List ℕ) (x : ℕ) → AllByRecursion P xs → P x → AllByRecursion P (xs ++ x ∷ [])
all-push P [] x h p = (p, tt)
all-push P (y ∷ xs) x h p = (h.0, all-push P xs x h.1 p)

in_at : (as' : List Assignment) (k : ℕ) (a : Assignment) → slice_get as' k ≡ Some a → IsIn a as' × (k < length as')
in_at [] k a e = absurd cc
in_at (b ∷ as') zero a e = (inl (let same : b ≡ a = cc in same), omega arith)
in_at (b ∷ as') (suc k) a e = let r = in_at as' k a e in (inr r.0, (let lt = r.1 in omega (arith, lt)))

-- the assignment has its place
placing_ready : (as' : List Assignment) (marks : List Bool) (o : List ℕ) (k : ℕ) (a : Assignment) → AreOnce as' → slice_get as' k ≡ Some a → is_ready marks a ≡ true → IsPlacing as' marks o → IsPlacing as' (slice_set marks a.target false) (o ++ k ∷ [])
placing_ready as' marks o k a once at ready p =
    let is = in_at as' k a at in
    let ms = slice_set marks a.target false in
    let w : slice_get marks a.target ≡ Some true = waiting (slice_get marks a.target) (and_left (waits marks a.target) (not (reads marks a.value)) ready) in
    let more : (rest : List Assignment) → picked as' (o ++ k ∷ []) ++ rest ≡ picked as' o ++ a ∷ rest = λ rest. ap (λ (xs : List Assignment). xs ++ rest) (picked-push as' o k a at) ∙ append_assoc (picked as' o) (a ∷ []) rest in
    record {
      in_range = all-push (λ j. j < length as') o k p.in_range is.1;
      same = subst (IsPermutation as') (sym (more (left ms as')))
          (IsPermutation-trans as' (picked as' o ++ left marks as') (picked as' o ++ a ∷ left ms as') p.same
          (IsPermutation-append (picked as' o) (picked as' o) (left marks as') (a ∷ left ms as') (IsPermutation-refl (picked as' o)) (moved marks as' a once is.0 w)));
      ordered = λ rest q ord. let f = ready_first marks as' a once is.0 ready rest q ord in subst IsOrdered (sym (more rest)) (p.ordered (a ∷ rest) f.0 f.1);
      driven = λ n h u. p.driven n (waited marks a.target n h) u;
    }

pub placing_placed : (as' : List Assignment) (marks : List Bool) (o : List ℕ) (k : ℕ) (a : Assignment) → AreOnce as' → slice_get as' k ≡ Some a → is_ready marks a ≡ true → IsPlacing as' marks o → IsPlacing as' (placed marks a) (o ++ k ∷ [])
placing_placed as' marks o k a once at ready p = rw ready (placing_ready as' marks o k a once at ready p)

pub placed_size : (marks : List Bool) (a : Assignment) → length (placed marks a) ≡ length marks
placed_size marks a = by_ready (λ ms. length ms ≡ length marks) marks a (is_ready marks a) refl (λ e. length-set marks a.target false) refl

pub passed_size : (marks : List Bool) (bs : List Assignment) → length (passed marks bs) ≡ length marks
passed_size marks [] = refl
passed_size marks (b ∷ bs) = passed_size (placed marks b) bs ∙ placed_size marks b

most : (marks : List Bool) (a : Assignment) → count (placed marks a) ≤ count marks
most marks a = by_ready (λ ms. count ms ≤ count marks) marks a (is_ready marks a) refl
    (λ e. let lt = fewer marks a.target (waiting (slice_get marks a.target) (and_left (waits marks a.target) (not (reads marks a.value)) e)) in omega (arith, lt)) (omega arith)

less : (marks : List Bool) (a : Assignment) → is_ready marks a ≡ true → count (placed marks a) < count marks
less marks a e = rw e (fewer marks a.target (waiting (slice_get marks a.target) (and_left (waits marks a.target) (not (reads marks a.value)) e)))

passed_most : (marks : List Bool) (bs : List Assignment) → count (passed marks bs) ≤ count marks
passed_most marks [] = omega arith
passed_most marks (b ∷ bs) = (let l = passed_most (placed marks b) bs in let m = most marks b in omega (arith, l, m))

-- a pass that finds one leaves fewer
pub passed_fewer : (marks : List Bool) (bs : List Assignment) → finds marks bs ≡ true → count (passed marks bs) < count marks
passed_fewer marks [] e = absurd cc
passed_fewer marks (b ∷ bs) e = by (is_ready marks b) refl (λ f. passed_fewer (placed marks b) bs (or_false (is_ready marks b) (finds (placed marks b) bs) f e))
  where
    by : (r : Bool) → is_ready marks b ≡ r → (is_ready marks b ≡ false → count (passed (placed marks b) bs) < count (placed marks b)) → count (passed (placed marks b) bs) < count marks
    by true f ih = (let l = passed_most (placed marks b) bs in let m = less marks b f in omega (arith, l, m))
    by false f ih = (let l = ih f in let m = most marks b in omega (arith, l, m))

-- ---- no order

-- where a pass finds none, none is ready
none_ready : (marks : List Bool) (bs : List Assignment) → finds marks bs ≡ false → AllByRecursion (λ b. is_ready marks b ≡ false) bs
none_ready marks [] e = tt
none_ready marks (b ∷ bs) e =
    let here : is_ready marks b ≡ false = neither_left (is_ready marks b) (finds (placed marks b) bs) e in
    let same : placed marks b ≡ marks = rw here refl in
    (here, none_ready marks bs (subst (λ (ms : List Bool). finds ms bs ≡ false) same (neither_right (is_ready marks b) (finds (placed marks b) bs) e)))

never_stuck : (o : List Assignment) (marks : List Bool) → IsOrdered o → AllByRecursion (λ b. is_ready marks b ≡ false) o → AreNets (length marks) o → ((n : ℕ) → slice_get marks n ≡ Some true → IsUndriven o n → ⊥) → (n : ℕ) → slice_get marks n ≡ Some true → ⊥
never_stuck [] marks i h r d n w = d n w tt
never_stuck (a ∷ rest) marks i h r d n w = by_cases (waits marks a.target)
    (λ e. absurd (let none : reads marks a.value ≡ false = reads_nothing marks a.value
    (reads_and (λ k. (k < length marks) × IsUndriven (a ∷ rest) k) (λ k. slice_get marks k ≡ Some false) a.value (λ k p. unmarked marks k p.0 (λ f. d k f p.1)) (reads_both (λ k. k < length marks) (IsUndriven (a ∷ rest)) a.value r.0.1 i.0)) in
    let some : reads marks a.value ≡ true = and_so (waits marks a.target) (reads marks a.value) h.0 e in cc))
    (λ e. never_stuck rest marks i.2 h.1 r.1
    (λ k f u. d k f ((λ same. absurd (let g : slice_get marks a.target ≡ Some true = ap (λ (j : ℕ). slice_get marks j) same ∙ f in let t : waits marks a.target ≡ true = rw g refl in cc)), u)) n w)

some_waits : (marks : List Bool) → list_any (λ w. w) marks ≡ true → (n : ℕ) × (slice_get marks n ≡ Some true)
some_waits [] e = absurd cc
some_waits (true ∷ ms) e = (0, refl)
some_waits (false ∷ ms) e = let r = some_waits ms e in (suc r.0, r.1)

none_waits : (marks : List Bool) → list_any (λ w. w) marks ≡ false → (n : ℕ) → waits marks n ≡ false
none_waits [] e n = refl
none_waits (true ∷ ms) e n = absurd cc
none_waits (false ∷ ms) e zero = refl
none_waits (false ∷ ms) e (suc n) = none_waits ms e n

-- where some net waits and a pass finds none, there is no order
pub no_order : (as' : List Assignment) (marks : List Bool) (o : List ℕ) → IsPlacing as' marks o → list_any (λ w. w) marks ≡ true → finds marks as' ≡ false → AreNets (length marks) as' → CanBeOrdered as' → ⊥
no_order as' marks o k any e r c =
    let n = some_waits marks any in
    never_stuck c.order marks c.ordered
    (each_in_order (λ b. is_ready marks b ≡ false) as' c.order c.same (none_ready marks as' e))
    (each_in_order (λ a. (a.target < length marks) × EachRead (λ i. i < length marks) a.value) as' c.order c.same r)
    (λ i w u. k.driven i w (each_in_order (λ b. b.target ≢ i) c.order as' (IsPermutation-sym as' c.order c.same) u))
    n.0 n.1

-- where none waits, all have their place
pub an_order : (as' : List Assignment) (marks : List Bool) (o : List ℕ) → IsPlacing as' marks o → list_any (λ w. w) marks ≡ false → IsOrderOf as' o
an_order as' marks o p none =
    let gone : left marks as' ≡ [] = left_none marks as' (none_waits marks none) in
    let all : picked as' o ++ [] ≡ picked as' o = append-nil (picked as' o) in
    record {
      in_range = p.in_range;
      same = subst (IsPermutation as') (ap (λ (xs : List Assignment). picked as' o ++ xs) gone ∙ all) p.same;
      ordered = subst IsOrdered all (p.ordered [] (subst (λ (xs : List Assignment). IsPermutation xs []) (sym gone) (IsPermutation-refl [])) tt);
    }

-- an order shows that there is one, and leaves no net out
pub can_be_ordered : (as' : List Assignment) (o : List ℕ) → IsOrderOf as' o → CanBeOrdered as'
can_be_ordered as' o h = record { order = picked as' o; same = h.same; ordered = h.ordered }

pub order_whole : (as' : List Assignment) (o : List ℕ) → IsOrderOf as' o → (n : ℕ) → IsUndriven (picked as' o) n → IsUndriven as' n
order_whole as' o h n u = each_in_order (λ a. a.target ≢ n) (picked as' o) as' (IsPermutation-sym as' (picked as' o) h.same) u

pub some_order : {A : Type 0} (as' : List Assignment) (o : Option (Vec ℕ A)) → IfSome o (λ v. IsOrderOf as' v.items) → is_some o ≡ true → CanBeOrdered as'
some_order as' None h e = absurd cc
some_order as' (Some v) h e = can_be_ordered as' v.items h

pub not_missing : {A : Type 0} (nets : ℕ) (as' : List Assignment) (o : Option A) → IsMissing nets as' o → AreNets nets as' → CanBeOrdered as' → is_some o ≡ true
not_missing nets as' None h n c = absurd (h n refl c)
not_missing nets as' (Some v) h n c = refl
