-- Where targets rise along a list of assignments, operands are driven before they are read.
use Rattle.std.proofs.Common.{◌≡◌, ℕ, suc, ◌+◌, ◌<◌, true, List, [], ◌∷◌, ◌++◌, Option, Some, None, IfSome, refl, ap, subst, arith}
use Rattle.std.specs.Prelude.{slice_get}
use Rattle.std.specs.List.{AllByRecursion}
use Rattle.gl_bits.proofs.AllLists.{all_append}
use Rattle.gl_verilog.specs.Module.{Assignment}
use Rattle.gl_verilog.specs.Valid.{mentions}
use Rattle.gl_verilog.specs.Order.{IsUndriven, IsOrdered}
use Rattle.gl_verilog_writer.specs.Design.{with_option, numbered}
use Rattle.gl_verilog_writer.proofs.Lists.{numbered-all}
use Rattle.gl_verilog.proofs.Acyclic.{each_read}

-- what an assignment mentions comes before its target
abbrev pub Descends : (ℕ → ℕ) → Assignment → Type 0
Descends r a = (n : ℕ) → mentions a.value n ≡ true → r n < r a.target

-- ---- a list whose targets rise

-- each target stands above this rank
abbrev pub Above : (ℕ → ℕ) → ℕ → List Assignment → Type 0
Above r k as' = AllByRecursion (λ a. k < r a.target) as'

abbrev pub Rises : (ℕ → ℕ) → List Assignment → Type 0
Rises r [] = Unit {0}
Rises r (a ∷ as') = Above r (r a.target) as' × Rises r as'

above-more : (r : ℕ → ℕ) (k m : ℕ) (as' : List Assignment) → k < m → Above r m as' → Above r k as'
above-more r k m [] l h = tt
above-more r k m (a ∷ as') l h = (let b = h.0 in let q : k < r a.target = omega (arith, l, b) in q, above-more r k m as' l h.1)

undriven : (r : ℕ → ℕ) (n : ℕ) (as' : List Assignment) → Above r (r n) as' → IsUndriven as' n
undriven r n [] h = tt
undriven r n (a ∷ as') h = ((λ e. (let f : r a.target ≡ r n = ap r e in let b = h.0 in omega (arith, f, b))), undriven r n as' h.1)

-- where targets rise, and what is read stands below its target, operands are driven before they are read
pub in-order : (r : ℕ → ℕ) (as' : List Assignment) → Rises r as' → AllByRecursion (Descends r) as' → IsOrdered as'
in-order r [] h d = tt
in-order r (a ∷ as') h d = (
  each_read (IsUndriven (a ∷ as')) a.value (λ n e. undriven r n (a ∷ as') (d.0 n e, above-more r (r n) (r a.target) as' (d.0 n e) h.0)),
  undriven r a.target as' h.0,
  in-order r as' h.1 d.1,
)

pub rises-append : (r : ℕ → ℕ) (as' bs : List Assignment) → Rises r as' → Rises r bs → AllByRecursion (λ a. Above r (r a.target) bs) as' → Rises r (as' ++ bs)
rises-append r [] bs h g all = g
rises-append r (a ∷ as') bs h g all = (all_append (λ b. r a.target < r b.target) as' bs h.0 all.0, rises-append r as' bs h.1 g all.1)

rises-with : (r : ℕ → ℕ) (o : Option Assignment) (as' : List Assignment) → IfSome o (λ a. Above r (r a.target) as') → Rises r as' → Rises r (with_option o as')
rises-with r None as' h g = g
rises-with r (Some a) as' h g = (h, g)

pub if_some : {A : Type 0} {P Q : A → Type 0} (o : Option A) → ((a : A) → P a → Q a) → IfSome o P → IfSome o Q
if_some None f h = tt
if_some (Some a) f h = f a h

-- the n-th element's target has the rank at + n
abbrev pub Counts : {A : Type 0} → (ℕ → ℕ) → (ℕ → A → Option Assignment) → ℕ → ℕ → List A → Type 0
Counts {A} r f at n xs = (k : ℕ) (x : A) → slice_get xs k ≡ Some x → IfSome (f (n + k) x) (λ a. r a.target ≡ at + (n + k))

pub rises-numbered : {A : Type 0} (r : ℕ → ℕ) (f : ℕ → A → Option Assignment) (at n : ℕ) (xs : List A) → Counts r f at n xs → Rises r (numbered f n xs)
rises-numbered r f at n [] h = tt
rises-numbered {A} r f at n (x ∷ xs) h =
    let next : Counts r f at (n + 1) xs = λ k y e. (let q : n + suc k ≡ n + 1 + k = omega arith in subst (λ (m : ℕ). IfSome (f m y) (λ a. r a.target ≡ at + m)) q (h (suc k) y e)) in
    let z : n + 0 ≡ n = omega arith in
    let first : IfSome (f n x) (λ a. r a.target ≡ at + n) = subst (λ (m : ℕ). IfSome (f m x) (λ a. r a.target ≡ at + m)) z (h 0 x refl) in
    rises-with r (f n x) (numbered f (n + 1) xs)
    (if_some (f n x) (λ a e. numbered-all (λ b. r a.target < r b.target) f (n + 1) xs (λ k y g. if_some (f (n + 1 + k) y) (λ b i. (let q : r a.target < r b.target = omega (arith, e, i) in q)) (next k y g))) first)
    (rises-numbered r f at (n + 1) xs next)
