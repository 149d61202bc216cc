-- Counts of drivers, names that differ, and valid modules.
use Rattle.std.proofs.Common.{◌≡◌, ◌≢◌, ℕ, zero, suc, ◌+◌, ◌≤◌, Bool, true, false, cond, List, [], ◌∷◌, eqb, Option, Some, None, refl, sym, ap, subst, ◌∙◌, arith}
use Rattle.std.specs.Prelude.{slice_get, ◌&&◌, ◌||◌, option_and_then, option_map}
use Rattle.std.specs.List.{AllByRecursion, sum_by}
use Rattle.std.specs.List.Sorted.{IsPermutation}
use Rattle.std.proofs.lemmas.List.Sorted.{IsPermutation-sym, sum_by-IsPermutation}
use Rattle.std.proofs.lemmas.List.Sums.{sum_by-cons}
use Rattle.std.proofs.lemmas.Bool.{eqb-true, eq-eqb}
use Rattle.gl_bits.proofs.Bools.{neither_parts, and_both, and_left, and_right}
use Rattle.gl_bits.proofs.Options.{then_some, map_some}
use Rattle.gl_verilog.specs.Module.{Module, Kind, Input, OutputWire, OutputRegister, Wire, Register, Memory, Declaration, Assignment, Statement, Nothing, Put, Write, Both, If}
use Rattle.gl_verilog.specs.Order.{IsUndriven, IsOrdered, CanBeOrdered}
use Rattle.gl_verilog.specs.Widths.{IsDriven}
use Rattle.gl_verilog.specs.Runnable.{IsRunnable}
use Rattle.gl_verilog.specs.Valid.{assigns, blocks_of, writes_of, AssignsOnce, HasDriver, IsValid, drivers_of, mentions, depends, IsChain, HasNoLoop}
use Rattle.gl_verilog.proofs.Settles.{each_in_order}
use Rattle.gl_verilog_check.specs.Kept.{is_one, module_with}
use Rattle.gl_verilog_check.specs.Passes.{AreOnce}
use Rattle.gl_verilog_check.specs.Tests.{are_new, one_of, assigns_once, blocks_once, is_assigned, all_assigned}
use Rattle.gl_verilog_check.proofs.Names.{new_distinct}
use Rattle.gl_verilog_check.proofs.Ranks.{no_loop, driven_once}
use Rattle.gl_verilog.proofs.Acyclic.{one_if, undriven-zero, undriven-none}

-- ---- registers

one_of_is : (a b v : Bool) → one_of a b ≡ Some v → (v ≡ (a || b)) × ((a && b) ≡ false)
one_of_is true true v e = absurd cc
one_of_is true false v e = (cc, refl)
one_of_is false b v e = (cc, refl)

is_one_of : (a b : Bool) → (a && b) ≡ false → one_of a b ≡ Some (a || b)
is_one_of true true e = absurd cc
is_one_of true false e = refl
is_one_of false b e = refl

once-is : (r : ℕ) (s : Statement) (b : Bool) → assigns_once r s ≡ Some b → (b ≡ assigns s r) × AssignsOnce r s
once-is r Nothing b e = (cc, tt)
once-is r (Put register value) b e = (cc, tt)
once-is r (Write memory address value) b e = (cc, tt)
once-is r (Both first second) b e =
    let x = then_some (λ a. option_and_then (one_of a) (assigns_once r second)) (assigns_once r first) b e in
    let y = then_some (one_of x.0) (assigns_once r second) b x.2 in
    let p = once-is r first x.0 x.1 in let q = once-is r second y.0 y.1 in
    let v = one_of_is x.0 y.0 b y.2 in
    (v.0 ∙ ap (λ a. a || y.0) p.0 ∙ ap (λ a. assigns first r || a) q.0, (ap (λ a. assigns first r && a) (sym q.0) ∙ ap (λ a. a && y.0) (sym p.0) ∙ v.1, p.1, q.1))
once-is r (If test yes' no') b e =
    let x = then_some (λ a. option_map (λ b. a || b) (assigns_once r no')) (assigns_once r yes') b e in
    let y = map_some (λ b. x.0 || b) (assigns_once r no') b x.2 in
    let p = once-is r yes' x.0 x.1 in let q = once-is r no' y.0 y.1 in
    (y.2 ∙ ap (λ a. a || y.0) p.0 ∙ ap (λ a. assigns yes' r || a) q.0, (p.1, q.1))

is-once : (r : ℕ) (s : Statement) → AssignsOnce r s → assigns_once r s ≡ Some (assigns s r)
is-once r Nothing h = refl
is-once r (Put register value) h = refl
is-once r (Write memory address value) h = refl
is-once r (Both first second) h = rw (is-once r first h.1, is-once r second h.2) (is_one_of (assigns first r) (assigns second r) h.0)
is-once r (If test yes' no') h = rw (is-once r yes' h.0, is-once r no' h.1) refl

blocks-is : (r : ℕ) (bs : List Statement) (n : ℕ) → blocks_once r bs ≡ Some n → (n ≡ blocks_of bs r) × AllByRecursion (AssignsOnce r) bs
blocks-is r [] n e = (cc, tt)
blocks-is r (b ∷ bs) n e =
    let x = then_some (λ a. option_map (λ (n : ℕ). cond a 1 0 + n) (blocks_once r bs)) (assigns_once r b) n e in
    let y = map_some (λ (n : ℕ). cond x.0 1 0 + n) (blocks_once r bs) n x.2 in
    let p = once-is r b x.0 x.1 in let q = blocks-is r bs y.0 y.1 in
    (y.2 ∙ ap (λ a. cond a 1 0 + y.0) p.0 ∙ ap (λ (n : ℕ). cond (assigns b r) 1 0 + n) q.0, (p.1, q.1))

is-blocks : (r : ℕ) (bs : List Statement) → AllByRecursion (AssignsOnce r) bs → blocks_once r bs ≡ Some (blocks_of bs r)
is-blocks r [] h = refl
is-blocks r (b ∷ bs) h = rw (is-once r b h.0, is-blocks r bs h.1) refl

pub one_is : (o : Option ℕ) → is_one o ≡ true → o ≡ Some 1
one_is None e = absurd cc
one_is (Some w) e = ap Some (eqb-true w 1 e)

-- ---- drivers

register_is : (bs : List Statement) (n : ℕ) → is_one (blocks_once n bs) ≡ true → (blocks_of bs n ≡ 1) × AllByRecursion (AssignsOnce n) bs
register_is bs n e = let p = blocks-is n bs 1 (one_is (blocks_once n bs) e) in (sym p.0, p.1)

is_register : (bs : List Statement) (n : ℕ) → (blocks_of bs n ≡ 1) × AllByRecursion (AssignsOnce n) bs → is_one (blocks_once n bs) ≡ true
is_register bs n h = rw (is-blocks n bs h.1) (eq-eqb (blocks_of bs n) 1 h.0)

driver_of : (m : Module) (n : ℕ) (k : Kind) → (IsDriven k → drivers_of m.assignments n ≡ 1) → is_assigned m.blocks n k ≡ true → HasDriver m n k
driver_of m n Input w h = tt
driver_of m n OutputWire w h = w tt
driver_of m n Wire w h = w tt
driver_of m n OutputRegister w h = register_is m.blocks n h
driver_of m n Register w h = register_is m.blocks n h
driver_of m n (Memory bits) w h = eqb-true (writes_of m.blocks n) 1 h

of_driver : (m : Module) (n : ℕ) (k : Kind) → HasDriver m n k → is_assigned m.blocks n k ≡ true
of_driver m n Input h = refl
of_driver m n OutputWire h = refl
of_driver m n Wire h = refl
of_driver m n OutputRegister h = is_register m.blocks n h
of_driver m n Register h = is_register m.blocks n h
of_driver m n (Memory bits) h = eq-eqb (writes_of m.blocks n) 1 h

assigned-there : (bs : List Statement) (from : ℕ) (ds : List Declaration) → all_assigned bs from ds ≡ true → (n : ℕ) (d : Declaration) → slice_get ds n ≡ Some d → is_assigned bs (from + n) d.kind ≡ true
assigned-there bs from [] h n d at = absurd cc
assigned-there bs from (c ∷ ds) h zero d at =
    let e : c ≡ d = cc in
    subst (λ (x : Declaration). is_assigned bs (from + 0) x.kind ≡ true) e (subst (λ (i : ℕ). is_assigned bs i c.kind ≡ true) (omega arith) (and_left (is_assigned bs from c.kind) (all_assigned bs (from + 1) ds) h))
assigned-there bs from (c ∷ ds) h (suc n) d at =
    let same : (from + 1) + n ≡ from + suc n = omega arith in
    subst (λ (i : ℕ). is_assigned bs i d.kind ≡ true) same (assigned-there bs (from + 1) ds (and_right (is_assigned bs from c.kind) (all_assigned bs (from + 1) ds) h) n d at)

there-assigned : (bs : List Statement) (from : ℕ) (ds : List Declaration) → ((n : ℕ) (d : Declaration) → slice_get ds n ≡ Some d → is_assigned bs (from + n) d.kind ≡ true) → all_assigned bs from ds ≡ true
there-assigned bs from [] h = refl
there-assigned bs from (d ∷ ds) h =
    let here : from + 0 ≡ from = omega arith in
    and_both (is_assigned bs from d.kind) (all_assigned bs (from + 1) ds)
    (subst (λ (i : ℕ). is_assigned bs i d.kind ≡ true) here (h 0 d refl))
    (there-assigned bs (from + 1) ds (λ n c at. let same : from + suc n ≡ (from + 1) + n = omega arith in subst (λ (i : ℕ). is_assigned bs i c.kind ≡ true) same (h (suc n) c at)))

-- ---- in another order

counts_of : (as' : List Assignment) (n : ℕ) → drivers_of as' n ≡ sum_by (λ a. cond (eqb a.target n) 1 0) as'
counts_of [] n = refl
counts_of (a ∷ as') n = ap (λ (k : ℕ). cond (eqb a.target n) 1 0 + k) (counts_of as' n) ∙ sym (sum_by-cons (λ (b : Assignment). cond (eqb b.target n) 1 0) a as')

-- it depends on it by no assignment
abbrev IsApart : ℕ → ℕ → Assignment → Type 0
IsApart t n a = (eqb a.target t && mentions a.value n) ≡ false

all_apart : (as' : List Assignment) (t n : ℕ) → depends as' t n ≡ false → AllByRecursion (IsApart t n) as'
all_apart [] t n e = tt
all_apart (a ∷ as') t n e = let p = neither_parts (eqb a.target t && mentions a.value n) (depends as' t n) e in (p.0, all_apart as' t n p.1)

none_depends : (as' : List Assignment) (t n : ℕ) → AllByRecursion (IsApart t n) as' → depends as' t n ≡ false
none_depends [] t n h = refl
none_depends (a ∷ as') t n h = rw (h.0, none_depends as' t n h.1) refl

still_depends : (as' order : List Assignment) → IsPermutation as' order → (t n : ℕ) → depends as' t n ≡ true → depends order t n ≡ true
still_depends as' order same t n e = by (depends order t n) refl
  where
    by : (b : Bool) → depends order t n ≡ b → b ≡ true
    by true f = refl
    by false f = absurd (let g = none_depends as' t n (each_in_order (IsApart t n) order as' (IsPermutation-sym as' order same) (all_apart order t n f)) in cc)

still_chain : (as' order : List Assignment) → IsPermutation as' order → (x : ℕ) (us : List ℕ) (y : ℕ) → IsChain (depends as') x us y → IsChain (depends order) x us y
still_chain as' order same x [] y c = still_depends as' order same x y c
still_chain as' order same x (u ∷ us) y c = (still_depends as' order same x u c.0, still_chain as' order same u us y c.1)

can_no_loop : (as' : List Assignment) → CanBeOrdered as' → HasNoLoop as'
can_no_loop as' o n us c = no_loop o.order o.ordered n us (still_chain as' o.order o.same n us n c)

can_once : (as' : List Assignment) (n : ℕ) → CanBeOrdered as' → (IsUndriven as' n → ⊥) → drivers_of as' n ≡ 1
can_once as' n o d =
    counts_of as' n ∙ sym (sum_by-IsPermutation (λ a. cond (eqb a.target n) 1 0) as' o.order o.same) ∙ sym (counts_of o.order n)
    ∙ driven_once o.order n o.ordered (λ u. d (each_in_order (λ a. a.target ≢ n) o.order as' (IsPermutation-sym as' o.order o.same) u))

-- ---- nets that are driven once

most_once : (as' : List Assignment) (n : ℕ) → IsOrdered as' → drivers_of as' n ≤ 1
most_once [] n o = omega arith
most_once (a ∷ rest) n o = by (eqb a.target n) refl (most_once rest n o.2)
  where
    by : (t : Bool) → eqb a.target n ≡ t → drivers_of rest n ≤ 1 → drivers_of (a ∷ rest) n ≤ 1
    by true e ih = (let z = undriven-none rest n (subst (IsUndriven rest) (eqb-true a.target n e) o.1) in rw e (omega (arith, z)))
    by false e ih = rw e (omega (arith, ih))

once_each : (as' : List Assignment) → ((n : ℕ) → drivers_of as' n ≤ 1) → AreOnce as'
once_each [] h = tt
once_each (a ∷ rest) h = (
  undriven-zero rest a.target (let most = h a.target in let g = one_if (eqb a.target a.target) (eq-eqb a.target a.target refl) in omega (arith, most, g)),
  once_each rest (λ n. let most = h n in omega (arith, most)),
)

pub can_once_each : (as' : List Assignment) → CanBeOrdered as' → AreOnce as'
can_once_each as' o = once_each as' (λ n.
    let same : drivers_of as' n ≡ drivers_of o.order n = counts_of as' n ∙ sym (sum_by-IsPermutation (λ a. cond (eqb a.target n) 1 0) as' o.order o.same) ∙ sym (counts_of o.order n) in
    let most = most_once o.order n o.ordered in
    omega (arith, same, most))

-- ---- all of it

pub valid_parts : (ds : List Declaration) (as' : List Assignment) (bs : List Statement) → are_new [] ds ≡ true → IsRunnable (module_with ds as' bs) → all_assigned bs 0 ds ≡ true → IsValid (module_with ds as' bs)
valid_parts ds as' bs names r assigned = record {
  names = new_distinct ds names;
  sizes = r.sizes;
  assignments = r.assignments;
  blocks = r.blocks;
  driven = λ n d at. driver_of (module_with ds as' bs) n d.kind (λ k. can_once as' n r.ordered (r.driven n d at k))
      (let zeroth : 0 + n ≡ n = omega arith in subst (λ (i : ℕ). is_assigned bs i d.kind ≡ true) zeroth (assigned-there bs 0 ds assigned n d at));
  acyclic = can_no_loop as' r.ordered;
}

pub assigned_parts : (ds : List Declaration) (as' : List Assignment) (bs : List Statement) → IsValid (module_with ds as' bs) → all_assigned bs 0 ds ≡ true
assigned_parts ds as' bs v = there-assigned bs 0 ds (λ n d at.
    let zeroth : n ≡ 0 + n = omega arith in subst (λ (i : ℕ). is_assigned bs i d.kind ≡ true) zeroth (of_driver (module_with ds as' bs) n d.kind (v.driven n d at)))

driver_again : (m w : Module) (n : ℕ) (k : Kind) → m.assignments ≡ w.assignments → m.blocks ≡ w.blocks → HasDriver m n k → HasDriver w n k
driver_again m w n Input e f h = tt
driver_again m w n OutputWire e f h = subst (λ (as' : List Assignment). drivers_of as' n ≡ 1) e h
driver_again m w n Wire e f h = subst (λ (as' : List Assignment). drivers_of as' n ≡ 1) e h
driver_again m w n OutputRegister e f h = subst (λ (bs : List Statement). (blocks_of bs n ≡ 1) × AllByRecursion (AssignsOnce n) bs) f h
driver_again m w n Register e f h = subst (λ (bs : List Statement). (blocks_of bs n ≡ 1) × AllByRecursion (AssignsOnce n) bs) f h
driver_again m w n (Memory bits) e f h = subst (λ (bs : List Statement). writes_of bs n ≡ 1) f h

-- the name and the ports of a module are no matter
with_parts : (m : Module) → IsValid (module_with m.declarations m.assignments m.blocks) → IsValid m
with_parts m v = record { names = v.names; sizes = v.sizes; assignments = v.assignments; blocks = v.blocks; driven = λ n d at. driver_again (module_with m.declarations m.assignments m.blocks) m n d.kind refl refl (v.driven n d at); acyclic = v.acyclic }

of_parts : (m : Module) → IsValid m → IsValid (module_with m.declarations m.assignments m.blocks)
of_parts m v = record { names = v.names; sizes = v.sizes; assignments = v.assignments; blocks = v.blocks; driven = λ n d at. driver_again m (module_with m.declarations m.assignments m.blocks) n d.kind refl refl (v.driven n d at); acyclic = v.acyclic }

pub valid : (m : Module) (ds : List Declaration) (as' : List Assignment) (bs : List Statement) (b : Bool) → ds ≡ m.declarations → as' ≡ m.assignments → bs ≡ m.blocks → (b ≡ true → IsValid (module_with ds as' bs)) → b ≡ true → IsValid m
valid m ds as' bs b e f g h t = with_parts m (subst (λ x. IsValid (module_with x m.assignments m.blocks)) e (subst (λ x. IsValid (module_with ds x m.blocks)) f (subst (λ x. IsValid (module_with ds as' x)) g (h t))))

pub not_valid : (m : Module) (ds : List Declaration) (as' : List Assignment) (bs : List Statement) (b : Bool) → ds ≡ m.declarations → as' ≡ m.assignments → bs ≡ m.blocks → (IsValid (module_with ds as' bs) → b ≡ true) → b ≡ false → IsValid m → ⊥
not_valid m ds as' bs b e f g h t v =
    let parts = subst (λ x. IsValid (module_with x as' bs)) (sym e) (subst (λ x. IsValid (module_with m.declarations x bs)) (sym f) (subst (λ x. IsValid (module_with m.declarations m.assignments x)) (sym g) (of_parts m v))) in
    absurd (let k : false ≡ true = sym t ∙ h parts in cc)
