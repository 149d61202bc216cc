-- Assignments in order settle in exactly one way.
use Rattle.std.proofs.Common.{◌≡◌, ◌≢◌, ℕ, ◌^◌, ◌<◌, List, [], ◌∷◌, Option, Some, None, All, refl, sym, ◌∙◌, ap, subst, inl, inr}
use Rattle.std.specs.Prelude.{slice_get, IsSomeAnd, IsTrue}
use Rattle.std.specs.List.{AllByRecursion}
use Rattle.std.specs.List.Sorted.{IsPermutation}
use Rattle.std.proofs.lemmas.Bool.Decides.{eqb_tells}
use Rattle.std.proofs.lemmas.List.Elements.{All-nil, All-cons, All-head, All-tail}
use Rattle.std.proofs.lemmas.List.Sorted.{All-permutation, IsPermutation-sym}
use Rattle.gl_verilog.specs.Module.{Declaration, Kind, Input, OutputWire, OutputRegister, Wire, Register, Memory, Assignment, Module, Nets, Memories, Expr, Net, Literal, Invert, Binary, Choose, Join, Select, Read, value_of}
use Rattle.gl_verilog.specs.Run.{Fit, IsRegister, IsSettled}
use Rattle.gl_verilog.specs.Widths.{IsNet, IsDriven, IsReadable, width_of, KeepsWidths, KeepsWidth}
use Rattle.gl_verilog.specs.Order.{EachRead, IsUndriven, IsOrdered, with_net, evaluated}
use Rattle.gl_verilog.specs.Runnable.{IsRunnable, SameState, SameInputs, SettlesOneWay}
use Rattle.gl_verilog.proofs.Fits.{found_in, value_fits}
use Rattle.gl_verilog.proofs.Stores.{same_item}
use Rattle.gl_verilog.proofs.Edges.{SameWords, value_of-same}

-- ---- what holds of each holds in any order

to_All : {X : Type 0} (P : X → Type 0) (xs : List X) → AllByRecursion P xs → All P xs
to_All P [] h = All-nil P
to_All P (x ∷ xs) h = All-cons P x xs h.0 (to_All P xs h.1)

from_All : {X : Type 0} (P : X → Type 0) (xs : List X) → All P xs → AllByRecursion P xs
from_All P [] h = tt
from_All P (x ∷ xs) h = (All-head P x xs h, from_All P xs (All-tail P x xs h))

pub each_in_order : {X : Type 0} (P : X → Type 0) (xs ys : List X) → IsPermutation xs ys → AllByRecursion P xs → AllByRecursion P ys
each_in_order P xs ys p h = from_All P ys (All-permutation P xs ys p (to_All P xs h))

-- ---- each read of an expression

pub reads_and : (P Q : ℕ → Type 0) (e : Expr) → ((n : ℕ) → P n → Q n) → EachRead P e → EachRead Q e
reads_and P Q (Net n) f h = f n h
reads_and P Q (Literal value width) f h = tt
reads_and P Q (Invert width arg) f h = reads_and P Q arg f h
reads_and P Q (Binary op width left right) f h = (reads_and P Q left f h.0, reads_and P Q right f h.1)
reads_and P Q (Choose test yes' no') f h = (reads_and P Q test f h.0, reads_and P Q yes' f h.1, reads_and P Q no' f h.2)
reads_and P Q (Join low_width high low) f h = (reads_and P Q high f h.0, reads_and P Q low f h.1)
reads_and P Q (Select high low n) f h = f n h
reads_and P Q (Read memory address) f h = reads_and P Q address f h

pub reads_both : (P Q : ℕ → Type 0) (e : Expr) → EachRead P e → EachRead Q e → EachRead (λ n. P n × Q n) e
reads_both P Q (Net n) g h = (g, h)
reads_both P Q (Literal value width) g h = tt
reads_both P Q (Invert width arg) g h = reads_both P Q arg g h
reads_both P Q (Binary op width left right) g h = (reads_both P Q left g.0 h.0, reads_both P Q right g.1 h.1)
reads_both P Q (Choose test yes' no') g h = (reads_both P Q test g.0 h.0, reads_both P Q yes' g.1 h.1, reads_both P Q no' g.2 h.2)
reads_both P Q (Join low_width high low) g h = (reads_both P Q high g.0 h.0, reads_both P Q low g.1 h.1)
reads_both P Q (Select high low n) g h = (g, h)
reads_both P Q (Read memory address) g h = reads_both P Q address g h

-- the declarations of what an expression reads
pub reads_readable : (ds : List Declaration) (e : Expr) → KeepsWidths ds e → EachRead (λ n. IsSomeAnd (slice_get ds n) IsReadable) e
reads_readable ds (Net n) h = h
reads_readable ds (Literal value width) h = tt
reads_readable ds (Invert width arg) h = reads_readable ds arg h.1
reads_readable ds (Binary op width left right) h = (reads_readable ds left h.2, reads_readable ds right h.3)
reads_readable ds (Choose test yes' no') h = (reads_readable ds test h.2, reads_readable ds yes' h.3, reads_readable ds no' h.4)
reads_readable ds (Join low_width high low) h = (reads_readable ds high h.2, reads_readable ds low h.3)
reads_readable ds (Select high low n) h = weaker (slice_get ds n) h.0
  where
    weaker : (o : Option Declaration) → IsSomeAnd o (λ d. IsReadable d × IsTrue d.is_vector × (high < d.width)) → IsSomeAnd o IsReadable
    weaker None p = p
    weaker (Some d) p = p.0
reads_readable ds (Read memory address) h = reads_readable ds address h.1

-- ---- one way at most

-- the same where no assignment of the list drives
abbrev pub SameUndriven : List Declaration → List Assignment → Nets → Nets → Type 0
SameUndriven ds rest v v' = (n : ℕ) (d : Declaration) → slice_get ds n ≡ Some d → IsReadable d → IsUndriven rest n → v n ≡ v' n

-- so an expression that reads nothing driven has one value
pub value_undriven : (ds : List Declaration) (v v' : Nets) (m m' : Memories) (e : Expr) (rest : List Assignment) → Fit ds v m → SameWords ds m m' → SameUndriven ds rest v v' → KeepsWidths ds e → EachRead (IsUndriven rest) e → value_of v m e ≡ value_of v' m' e
value_undriven ds v v' m m' e rest f w s h r =
    value_of-same ds v v' m m' e f w h
    (reads_and (λ n. IsSomeAnd (slice_get ds n) IsReadable × IsUndriven rest n) (λ n. v n ≡ v' n) e
    (λ n p. let d = found_in (slice_get ds n) IsReadable p.0 in s n d.item d.is d.fact p.1)
    (reads_both (λ n. IsSomeAnd (slice_get ds n) IsReadable) (IsUndriven rest) e (reads_readable ds e h) r))

-- one assignment more is settled in both
pub same_more : (ds : List Declaration) (v v' : Nets) (a : Assignment) (rest : List Assignment) → v a.target ≡ v' a.target → SameUndriven ds (a ∷ rest) v v' → SameUndriven ds rest v v'
same_more ds v v' a rest here s = λ n d e r u. elim (eqb_tells a.target n) [
  | inl same ↦ subst (λ i. v i ≡ v' i) same.1 here
  | inr other ↦ s n d e r (other.1, u)
]

pub settle_same : (ds : List Declaration) (v v' : Nets) (m m' : Memories) (o : List Assignment) → Fit ds v m → SameWords ds m m' → AllByRecursion (KeepsWidth ds) o → IsOrdered o → IsSettled o v m → IsSettled o v' m' → SameUndriven ds o v v' → SameUndriven ds [] v v'
settle_same ds v v' m m' [] f w h i s s' u = u
settle_same ds v v' m m' (a ∷ rest) f w h i s s' u =
    settle_same ds v v' m m' rest f w h.1 i.2 s.1 s'.1
    (same_more ds v v' a rest (s.0 ∙ value_undriven ds v v' m m' a.value (a ∷ rest) f w u h.0.1 i.0 ∙ sym s'.0) u)

-- ---- what is not driven by assignments is an input or a register

pub undriven_same : (m : Module) (v v' : Nets) (words words' : Memories) (o : List Assignment) → IsRunnable m → ((n : ℕ) → IsUndriven o n → IsUndriven m.assignments n) → SameInputs m.declarations v v' → SameState m.declarations v words v' words' → SameUndriven m.declarations o v v'
undriven_same m v v' words words' o h whole inputs state = λ n d e r u. by_kind n d e r u d.kind refl
  where
    by_kind : (n : ℕ) (d : Declaration) → slice_get m.declarations n ≡ Some d → IsReadable d → IsUndriven o n → (k : Kind) → d.kind ≡ k → v n ≡ v' n
    by_kind n d e r u Input is = inputs n d e is r.1
    by_kind n d e r u OutputWire is = absurd (h.driven n d e (subst IsDriven (sym is) tt) (whole n u))
    by_kind n d e r u OutputRegister is = state.registers n d e (subst IsRegister (sym is) tt)
    by_kind n d e r u Wire is = absurd (h.driven n d e (subst IsDriven (sym is) tt) (whole n u))
    by_kind n d e r u Register is = state.registers n d e (subst IsRegister (sym is) tt)
    by_kind n d e r u (Memory bits) is = absurd (subst IsNet is r.0)

pub settles_one_way : (m : Module) → IsRunnable m → SettlesOneWay m
settles_one_way m h = λ v v' words words' fit s s' inputs state n d e r.
    settle_same m.declarations v v' words words' h.ordered.order fit state.words
    (each_in_order (KeepsWidth m.declarations) m.assignments h.ordered.order h.ordered.same h.assignments)
    h.ordered.ordered
    (each_in_order (λ a. v a.target ≡ value_of v words a.value) m.assignments h.ordered.order h.ordered.same s)
    (each_in_order (λ a. v' a.target ≡ value_of v' words' a.value) m.assignments h.ordered.order h.ordered.same s')
    (undriven_same m v v' words words' h.ordered.order h (λ n. each_in_order (λ a. a.target ≢ n) h.ordered.order m.assignments (IsPermutation-sym m.assignments h.ordered.order h.ordered.same)) inputs state)
    n d e r tt

-- ---- one way at least

pub with_net-same : (v : Nets) (t x : ℕ) → with_net v t x t ≡ x
with_net-same v t x = elim (eqb_tells t t) [ inl same ↦ rw same.0 refl | inr other ↦ absurd (other.1 refl) ]

pub with_net-other : (v : Nets) (t x n : ℕ) → t ≢ n → with_net v t x n ≡ v n
with_net-other v t x n ne = elim (eqb_tells t n) [ inl same ↦ absurd (ne same.1) | inr other ↦ rw other.0 refl ]

pub evaluated-undriven : (o : List Assignment) (m : Memories) (v : Nets) (n : ℕ) → IsUndriven o n → evaluated o m v n ≡ v n
evaluated-undriven [] m v n u = refl
evaluated-undriven (a ∷ rest) m v n u = evaluated-undriven rest m (with_net v a.target (value_of v m a.value)) n u.1 ∙ with_net-other v a.target (value_of v m a.value) n u.0

pub with_net-fits : (ds : List Declaration) (v : Nets) (m : Memories) (a : Assignment) → Fit ds v m → KeepsWidth ds a → Fit ds (with_net v a.target (value_of v m a.value)) m
with_net-fits ds v m a f h = λ n d e. (
  elim (eqb_tells a.target n) [
    | inl same ↦
        let c = found_in (slice_get ds a.target) (λ d. IsDriven d.kind × (width_of ds a.value ≡ d.width)) h.0 in
        let is : c.item ≡ d = same_item ds n c.item d (subst (λ i. slice_get ds i ≡ Some c.item) same.1 c.is) e in
        rw same.0 (subst (λ w. value_of v m a.value < 2 ^ w) (c.fact.1 ∙ ap (λ (x : Declaration). x.width) is) (value_fits ds v m a.value f h.1))
    | inr other ↦ rw other.0 (f n d e).0
  ],
  (f n d e).1,
)

pub evaluated-fits : (ds : List Declaration) (o : List Assignment) (m : Memories) (v : Nets) → Fit ds v m → AllByRecursion (KeepsWidth ds) o → Fit ds (evaluated o m v) m
evaluated-fits ds [] m v f h = f
evaluated-fits ds (a ∷ rest) m v f h = evaluated-fits ds rest m (with_net v a.target (value_of v m a.value)) (with_net-fits ds v m a f h.0) h.1

pub evaluated-settled : (ds : List Declaration) (o : List Assignment) (m : Memories) (v : Nets) → Fit ds v m → AllByRecursion (KeepsWidth ds) o → IsOrdered o → IsSettled o (evaluated o m v) m
evaluated-settled ds [] m v f h i = tt
evaluated-settled ds (a ∷ rest) m v f h i =
    let x = value_of v m a.value in
    let w = evaluated rest m (with_net v a.target x) in
    let kept : SameUndriven ds (a ∷ rest) v w = λ n d e r u. sym (evaluated-undriven rest m (with_net v a.target x) n u.1 ∙ with_net-other v a.target x n u.0) in (
      evaluated-undriven rest m (with_net v a.target x) a.target i.1 ∙ with_net-same v a.target x
          ∙ value_undriven ds v w m m a.value (a ∷ rest) f (λ k d at e lt. refl) kept h.0.1 i.0,
      evaluated-settled ds rest m (with_net v a.target x) (with_net-fits ds v m a f h.0) h.1 i.2,
    )
