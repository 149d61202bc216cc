-- Marks on nets that assignments drive, and modules that can run.
use Rattle.std.proofs.Common.{◌≡◌, ◌≢◌, ℕ, zero, suc, ◌+◌, ◌<◌, Bool, true, false, not, ◌||◌, List, [], ◌∷◌, Option, Some, None, refl, sym, ap, subst, ◌∙◌, arith, length, drop, get_or, drop-cons, inl, inr}
use Rattle.std.specs.Prelude.{slice_get, slice_set, unwrap_or, map, IsSomeAnd, IsTrue}
use Rattle.std.specs.List.{AllByRecursion}
use Rattle.std.proofs.lemmas.Bool.{cases_eq}
use Rattle.gl_bits.proofs.Bools.{and_both, and_left, and_right}
use Rattle.gl_bits.proofs.AllLists.{get_below}
use Rattle.gl_verilog.specs.Module.{Module, Declaration, Statement, Expr, Net, Literal, Invert, Binary, Choose, Join, Select, Read, Assignment}
use Rattle.gl_verilog.specs.Order.{EachRead, CanBeOrdered}
use Rattle.gl_verilog.specs.Widths.{IsDriven, IsReadable, KeepsWidths, KeepsWidth, width_of}
use Rattle.gl_verilog.specs.Runnable.{IsRunnable}
use Rattle.gl_verilog_check.specs.Kept.{is_driven, AreMarks, Marked, AreNets, driver_there, all_driven, all_sized, all_kept, blocks_kept, module_with}
use Rattle.gl_verilog_check.specs.Passes.{AreOnce}
use Rattle.gl_verilog_check.proofs.Keeping.{kind_driven, driven_kind}
use Rattle.gl_verilog_check.proofs.Complete.{sized-all, kept-all, kept-blocks}

-- ---- marks

set_same : (marks : List Bool) (t : ℕ) → slice_get marks t ≡ Some false → slice_get (slice_set marks t true) t ≡ Some true
set_same [] t h = absurd cc
set_same (m ∷ ms) zero h = refl
set_same (m ∷ ms) (suc t) h = set_same ms t h

set_other : (marks : List Bool) (t n : ℕ) → n ≢ t → slice_get (slice_set marks t true) n ≡ slice_get marks n
set_other [] t n h = refl
set_other (m ∷ ms) zero zero h = absurd (h refl)
set_other (m ∷ ms) zero (suc n) h = refl
set_other (m ∷ ms) (suc t) zero h = refl
set_other (m ∷ ms) (suc t) (suc n) h = set_other ms t n (λ e. h (ap suc e))

set_stays : (marks : List Bool) (t n : ℕ) → slice_get marks n ≡ Some true → slice_get (slice_set marks t true) n ≡ Some true
set_stays [] t n h = h
set_stays (m ∷ ms) zero zero h = refl
set_stays (m ∷ ms) zero (suc n) h = h
set_stays (m ∷ ms) (suc t) zero h = h
set_stays (m ∷ ms) (suc t) (suc n) h = set_stays ms t n h

still_marked : (bs : List Assignment) (old : List Bool) (t : ℕ) → AllByRecursion (λ b. slice_get old b.target ≡ Some true) bs → AllByRecursion (λ b. slice_get (slice_set old t true) b.target ≡ Some true) bs
still_marked [] old t h = tt
still_marked (b ∷ bs) old t h = (set_stays old t b.target h.0, still_marked bs old t h.1)

-- one assignment more in front
pub marks_next : (rest : List Assignment) (a : Assignment) (old new : List Bool) → AreMarks rest old → Marked old new a.target → AreMarks (a ∷ rest) new
marks_next rest a old new m k = record {
  targets = subst (λ (ms : List Bool). AllByRecursion (λ b. slice_get ms b.target ≡ Some true) (a ∷ rest)) (sym k.set) (set_same old a.target k.fresh, still_marked rest old a.target m.targets);
  undriven = λ n h. elim (cases_eq n a.target) [
    | inl e ↦ absurd (let one : slice_get new n ≡ Some true = rw (k.set, e) (set_same old a.target k.fresh) in cc)
    | inr ne ↦ ((λ e. ne (sym e)), m.undriven n (sym (set_other old a.target n ne) ∙ ap (λ (ms : List Bool). slice_get ms n) (sym k.set) ∙ h))
  ];
  driven = λ n h u. elim (cases_eq n a.target) [
    | inl e ↦ u.0 (sym e)
    | inr ne ↦ m.driven n (sym (set_other old a.target n ne) ∙ ap (λ (ms : List Bool). slice_get ms n) (sym k.set) ∙ h) u.1
  ];
}

pub once_next : (rest : List Assignment) (a : Assignment) (old new : List Bool) → AreMarks rest old → Marked old new a.target → AreOnce rest → AreOnce (a ∷ rest)
once_next rest a old new m k o = (m.undriven a.target k.fresh, o)

-- the assignments from a place on
pub from_place : {A B : Type 0} (f : A → B) (xs : List A) (i : ℕ) (x : A) → i < length xs → x ≡ get_or xs i x → map f (drop i xs) ≡ f x ∷ map f (drop (i + 1) xs)
from_place {A} f xs i x lt e =
    let one : suc i ≡ i + 1 = omega arith in
    ap (map f) (drop-cons xs i x lt ∙ ap (λ (y : A). y ∷ drop (suc i) xs) (sym e) ∙ ap (λ (j : ℕ). x ∷ drop j xs) one)

-- ---- what is marked

-- a net in range that is not marked
pub unmarked : (marks : List Bool) (n : ℕ) → n < length marks → (slice_get marks n ≡ Some true → ⊥) → slice_get marks n ≡ Some false
unmarked [] n lt h = absurd (omega (arith, lt))
unmarked (true ∷ ms) zero lt h = absurd (h refl)
unmarked (false ∷ ms) zero lt h = refl
unmarked (m ∷ ms) (suc n) lt h = unmarked ms n (omega (arith, lt)) h

-- the net of one assignment more is marked, where each drives another
pub marked_there : (rest : List Assignment) (a : Assignment) (old : List Bool) → AreMarks rest old → a.target < length old → AreOnce (a ∷ rest) → Marked old (slice_set old a.target true) a.target
marked_there rest a old m within o = record { fresh = unmarked old a.target within (λ h. m.driven a.target h o.0); set = refl }

pub once_from : {A : Type 0} (f : A → Assignment) (xs : List A) (i : ℕ) → AreOnce (map f xs) → AreOnce (map f (drop i xs))
once_from f [] zero h = h
once_from f [] (suc i) h = h
once_from f (x ∷ xs) zero h = h
once_from f (x ∷ xs) (suc i) h = once_from f xs i h.1

-- ---- every net is a declared one

within_of : (ds : List Declaration) (n : ℕ) (P : Declaration → Type 0) → IsSomeAnd (slice_get ds n) P → n < length ds
within_of [] n P h = absurd h
within_of (d ∷ ds) zero P h = omega arith
within_of (d ∷ ds) (suc n) P h = (let lt = within_of ds n P h in omega (arith, lt))

reads_within : (ds : List Declaration) (e : Expr) → KeepsWidths ds e → EachRead (λ n. n < length ds) e
reads_within ds (Net n) h = within_of ds n IsReadable h
reads_within ds (Literal value width) h = tt
reads_within ds (Invert width arg) h = reads_within ds arg h.1
reads_within ds (Binary op width left right) h = (reads_within ds left h.2, reads_within ds right h.3)
reads_within ds (Choose test yes' no') h = (reads_within ds test h.2, reads_within ds yes' h.3, reads_within ds no' h.4)
reads_within ds (Join low_width high low) h = (reads_within ds high h.2, reads_within ds low h.3)
reads_within ds (Select high low n) h = within_of ds n (λ d. IsReadable d × IsTrue d.is_vector × (high < d.width)) h.0
reads_within ds (Read memory address) h = reads_within ds address h.1

pub are_nets : (ds : List Declaration) (as' : List Assignment) → AllByRecursion (KeepsWidth ds) as' → AreNets (length ds) as'
are_nets ds [] h = tt
are_nets ds (a ∷ as') h = ((within_of ds a.target (λ d. IsDriven d.kind × (width_of ds a.value ≡ d.width)) h.0.0, reads_within ds a.value h.0.1), are_nets ds as' h.1)

-- ---- nets that want a driver

or_there : (a : Bool) (o : Option Bool) → (not a || unwrap_or o false) ≡ true → a ≡ true → o ≡ Some true
or_there true None h e = absurd cc
or_there true (Some true) h e = refl
or_there true (Some false) h e = absurd cc
or_there false o h e = absurd cc

there_or : (a : Bool) (o : Option Bool) → (a ≡ true → o ≡ Some true) → (not a || unwrap_or o false) ≡ true
there_or true o h = rw (h refl) refl
there_or false o h = refl

driven-there : (marks : List Bool) (from : ℕ) (ds : List Declaration) → all_driven marks from ds ≡ true → (n : ℕ) (d : Declaration) → slice_get ds n ≡ Some d → is_driven d.kind ≡ true → slice_get marks (from + n) ≡ Some true
driven-there marks from [] h n d at k = absurd cc
driven-there marks from (c ∷ ds) h zero d at k =
    let e : c ≡ d = cc in
    or_there (is_driven d.kind) (slice_get marks (from + 0)) (subst (λ (x : Declaration). driver_there marks (from + 0) x ≡ true) e (subst (λ (i : ℕ). driver_there marks i c ≡ true) (omega arith) (and_left (driver_there marks from c) (all_driven marks (from + 1) ds) h))) k
driven-there marks from (c ∷ ds) h (suc n) d at k =
    let same : (from + 1) + n ≡ from + suc n = omega arith in
    ap (λ (i : ℕ). slice_get marks i) (sym same) ∙ driven-there marks (from + 1) ds (and_right (driver_there marks from c) (all_driven marks (from + 1) ds) h) n d at k

there-driven : (marks : List Bool) (from : ℕ) (ds : List Declaration) → ((n : ℕ) (d : Declaration) → slice_get ds n ≡ Some d → is_driven d.kind ≡ true → slice_get marks (from + n) ≡ Some true) → all_driven marks from ds ≡ true
there-driven marks from [] h = refl
there-driven marks from (d ∷ ds) h =
    let here : from + 0 ≡ from = omega arith in
    and_both (driver_there marks from d) (all_driven marks (from + 1) ds)
    (there_or (is_driven d.kind) (slice_get marks from) (λ k. ap (λ (i : ℕ). slice_get marks i) (sym here) ∙ h 0 d refl k))
    (there-driven marks (from + 1) ds (λ n c at k. let same : (from + 1) + n ≡ from + suc n = omega arith in ap (λ (i : ℕ). slice_get marks i) same ∙ h (suc n) c at k))

-- ---- all of it

-- what passes the tests can run
pub runs : (ds : List Declaration) (as' : List Assignment) (bs : List Statement) (marks : List Bool) → all_sized ds ≡ true → all_kept ds as' ≡ true → blocks_kept ds bs ≡ true → AreMarks as' marks → CanBeOrdered as' → all_driven marks 0 ds ≡ true → IsRunnable (module_with ds as' bs)
runs ds as' bs marks sizes kept blocks m ordered driven = record {
  sizes = sized-all ds sizes;
  assignments = kept-all ds as' kept;
  blocks = kept-blocks ds bs blocks;
  driven = λ n d at k u. m.driven n (let zeroth : 0 + n ≡ n = omega arith in ap (λ (i : ℕ). slice_get marks i) (sym zeroth) ∙ driven-there marks 0 ds driven n d at (kind_driven d.kind k)) u;
  ordered = ordered;
}

-- a net of a declaration has a mark or none
marked_or : (marks : List Bool) (n : ℕ) → n < length marks → (slice_get marks n ≡ Some false → ⊥) → slice_get marks n ≡ Some true
marked_or [] n lt h = absurd (omega (arith, lt))
marked_or (true ∷ ms) zero lt h = refl
marked_or (false ∷ ms) zero lt h = absurd (h refl)
marked_or (m ∷ ms) (suc n) lt h = marked_or ms n (omega (arith, lt)) h

-- where every net that wants a driver has one, every such net is marked
pub driven_all : (ds : List Declaration) (as' : List Assignment) (bs : List Statement) (marks : List Bool) → IsRunnable (module_with ds as' bs) → AreMarks as' marks → length marks ≡ length ds → all_driven marks 0 ds ≡ true
driven_all ds as' bs marks r m size = there-driven marks 0 ds (λ n d at k.
    let zeroth : n ≡ 0 + n = omega arith in
    let within : n < length marks = (let lt = get_below ds n d at in omega (arith, lt, size)) in
    ap (λ (i : ℕ). slice_get marks i) (sym zeroth) ∙ marked_or marks n within (λ e. r.driven n d at (driven_kind d.kind k) (m.undriven n e)))

-- the name and the ports of a module are no matter
with_parts : (m : Module) → IsRunnable (module_with m.declarations m.assignments m.blocks) → IsRunnable m
with_parts m r = record { sizes = r.sizes; assignments = r.assignments; blocks = r.blocks; driven = r.driven; ordered = r.ordered }

of_parts : (m : Module) → IsRunnable m → IsRunnable (module_with m.declarations m.assignments m.blocks)
of_parts m r = record { sizes = r.sizes; assignments = r.assignments; blocks = r.blocks; driven = r.driven; ordered = r.ordered }

pub runnable : (m : Module) (ds : List Declaration) (as' : List Assignment) (bs : List Statement) (b : Bool) → ds ≡ m.declarations → as' ≡ m.assignments → bs ≡ m.blocks → (b ≡ true → IsRunnable (module_with ds as' bs)) → b ≡ true → IsRunnable m
runnable m ds as' bs b e f g h t = with_parts m (subst (λ x. IsRunnable (module_with x m.assignments m.blocks)) e (subst (λ x. IsRunnable (module_with ds x m.blocks)) f (subst (λ x. IsRunnable (module_with ds as' x)) g (h t))))

pub not_runnable : (m : Module) (ds : List Declaration) (as' : List Assignment) (bs : List Statement) (b : Bool) → ds ≡ m.declarations → as' ≡ m.assignments → bs ≡ m.blocks → (IsRunnable (module_with ds as' bs) → b ≡ true) → b ≡ false → IsRunnable m → ⊥
not_runnable m ds as' bs b e f g h t r =
    let parts = subst (λ x. IsRunnable (module_with x as' bs)) (sym e) (subst (λ x. IsRunnable (module_with m.declarations x bs)) (sym f) (subst (λ x. IsRunnable (module_with m.declarations m.assignments x)) (sym g) (of_parts m r))) in
    absurd (let k : false ≡ true = sym t ∙ h parts in cc)
