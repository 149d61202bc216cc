-- An expression that keeps its widths has its width, and what keeps its widths passes the tests.
use Rattle.std.proofs.Common.{◌≡◌, ℕ, ◌+◌, ◌-◌, ◌^◌, ◌<◌, ◌≤◌, Bool, true, false, not, ◌&&◌, List, [], ◌∷◌, Option, Some, None, refl, sym, ◌∙◌}
use Rattle.std.specs.Prelude.{slice_get, option_and_then, nat_eq, nat_le, nat_lt, IsSomeAnd, IsTrue}
use Rattle.std.specs.Option.{option_map_or, is_some}
use Rattle.std.specs.List.{AllByRecursion}
use Rattle.std.proofs.lemmas.Bool.{eq-eqb, le-leb, lt-ltb}
use Rattle.gl_bits.proofs.Bools.{and_both, and_left, and_right, not_false}
use Rattle.gl_bits.proofs.Options.{some_there}
use Rattle.gl_bits.specs.Words.{IsWidth}
use Rattle.gl_verilog.specs.Module.{Kind, Input, OutputWire, OutputRegister, Wire, Register, Memory, Declaration, Expr, Net, Literal, Invert, Binary, Choose, Join, Select, Read, Statement, Nothing, Put, Write, Both, If, Assignment}
use Rattle.gl_verilog.specs.Run.{IsRegister}
use Rattle.gl_verilog.specs.Widths.{IsNet, IsDriven, IsMemory, IsReadable, HasSize, is_clock, width_of, width_after, KeepsWidths, KeepsWidth, KeepsWidthsIn}
use Rattle.gl_verilog_check.specs.Kept.{is_memory, is_width, only, net_width, part_width, has_address, word_width, invert_width, choose_width, join_width, both_width, kept, is_driven, is_register, takes, assigned_width, put_width, takes_word, write_width, memory_fits, has_size, is_one, test_kept, statement_kept, all_kept, blocks_kept, all_sized}
use Rattle.gl_verilog_check.proofs.Keeping.{kept-keeps, assignment_keeps, put_keeps, write_keeps, size_of, kind_driven}
use Rattle.gl_verilog_check.proofs.Drives.{one_is}

-- ---- tests

only_is : (b : Bool) (w : ℕ) → b ≡ true → only b w ≡ Some w
only_is b w e = rw e refl

and_then_is : {A : Type 0} (f : A → Option ℕ) (o : Option A) (x : A) → o ≡ Some x → option_and_then f o ≡ f x
and_then_is f o x e = rw e refl

some_is : (o : Option ℕ) (w : ℕ) → o ≡ Some w → is_some o ≡ true
some_is o w e = rw e refl

-- ---- kinds

no_memory : (k : Kind) → IsNet k → is_memory k ≡ false
no_memory Input h = refl
no_memory OutputWire h = refl
no_memory OutputRegister h = refl
no_memory Wire h = refl
no_memory Register h = refl
no_memory (Memory bits) h = absurd h

memory_has : (k : Kind) (a : ℕ) → IsMemory k a → has_address k a ≡ true
memory_has Input a h = absurd h
memory_has OutputWire a h = absurd h
memory_has OutputRegister a h = absurd h
memory_has Wire a h = absurd h
memory_has Register a h = absurd h
memory_has (Memory bits) a h = eq-eqb bits a h

kind_register : (k : Kind) → IsRegister k → is_register k ≡ true
kind_register Input h = absurd h
kind_register OutputWire h = absurd h
kind_register OutputRegister h = refl
kind_register Wire h = absurd h
kind_register Register h = refl
kind_register (Memory bits) h = absurd h

memory_small : (k : Kind) → ((bits : ℕ) → IsMemory k bits → (1 ≤ bits) × (bits ≤ 32)) → memory_fits k ≡ true
memory_small Input h = refl
memory_small OutputWire h = refl
memory_small OutputRegister h = refl
memory_small Wire h = refl
memory_small Register h = refl
memory_small (Memory bits) h = let p = h bits refl in and_both (nat_le 1 bits) (nat_le bits 32) (le-leb 1 bits p.0) (le-leb bits 32 p.1)

width_is : (w : ℕ) → IsWidth w → is_width w ≡ true
width_is w h = and_both (nat_le 1 w) (nat_le w 128) (le-leb 1 w h.some') (le-leb w 128 h.most)

-- ---- expressions

readable_is : (d : Declaration) → IsReadable d → (not (is_memory d.kind) && not (is_clock d)) ≡ true
readable_is d h = and_both (not (is_memory d.kind)) (not (is_clock d)) (not_false (is_memory d.kind) (no_memory d.kind h.0)) (not_false (is_clock d) h.1)

net_there : (o : Option Declaration) → IsSomeAnd o IsReadable → option_and_then net_width o ≡ Some (option_map_or (λ d. d.width) o 0)
net_there None h = absurd h
net_there (Some d) h = only_is (not (is_memory d.kind) && not (is_clock d)) d.width (readable_is d h)

part_there : (high low : ℕ) (o : Option Declaration) → IsSomeAnd o (λ d. IsReadable d × IsTrue d.is_vector × (high < d.width)) → low ≤ high → option_and_then (part_width high low) o ≡ Some (high + 1 - low)
part_there high low None h le = absurd h
part_there high low (Some d) h le = only_is (not (is_memory d.kind) && not (is_clock d) && d.is_vector && nat_lt high d.width && nat_le low high) (high + 1 - low)
    (and_both (not (is_memory d.kind) && not (is_clock d) && d.is_vector && nat_lt high d.width) (nat_le low high)
    (and_both (not (is_memory d.kind) && not (is_clock d) && d.is_vector) (nat_lt high d.width)
    (and_both (not (is_memory d.kind) && not (is_clock d)) d.is_vector (readable_is d h.0) h.1)
    (lt-ltb high d.width h.2))
    (le-leb low high le))

word_there : (a : ℕ) (o : Option Declaration) → IsSomeAnd o (λ d. IsMemory d.kind a) → option_and_then (word_width a) o ≡ Some (option_map_or (λ d. d.width) o 0)
word_there a None h = absurd h
word_there a (Some d) h = only_is (has_address d.kind a) d.width (memory_has d.kind a h)

pub keeps-kept : (ds : List Declaration) (e : Expr) → KeepsWidths ds e → kept ds e ≡ Some (width_of ds e)
keeps-kept ds (Net n) h = net_there (slice_get ds n) h
keeps-kept ds (Literal value width) h = only_is (is_width width && nat_lt value (2 ^ width)) width (and_both (is_width width) (nat_lt value (2 ^ width)) (width_is width h.0) (lt-ltb value (2 ^ width) h.1))
keeps-kept ds (Invert width arg) h =
    and_then_is (invert_width width) (kept ds arg) (width_of ds arg) (keeps-kept ds arg h.1)
    ∙ only_is (nat_eq (width_of ds arg) width) width (eq-eqb (width_of ds arg) width h.0)
keeps-kept ds (Binary op width left right) h =
    let x = width_of ds left in let y = width_of ds right in
    and_then_is (λ x. option_and_then (λ y. both_width op width x y) (kept ds right)) (kept ds left) x (keeps-kept ds left h.2)
    ∙ and_then_is (λ y. both_width op width x y) (kept ds right) y (keeps-kept ds right h.3)
    ∙ only_is (nat_eq x width && nat_eq y width) (width_after op width) (and_both (nat_eq x width) (nat_eq y width) (eq-eqb x width h.0) (eq-eqb y width h.1))
keeps-kept ds (Choose test yes' no') h =
    let t = width_of ds test in let a = width_of ds yes' in let b = width_of ds no' in
    and_then_is (λ t. option_and_then (λ a. option_and_then (λ b. choose_width t a b) (kept ds no')) (kept ds yes')) (kept ds test) t (keeps-kept ds test h.2)
    ∙ and_then_is (λ a. option_and_then (λ b. choose_width t a b) (kept ds no')) (kept ds yes') a (keeps-kept ds yes' h.3)
    ∙ and_then_is (λ b. choose_width t a b) (kept ds no') b (keeps-kept ds no' h.4)
    ∙ only_is (nat_eq t 1 && nat_eq b a) a (and_both (nat_eq t 1) (nat_eq b a) (eq-eqb t 1 h.0) (eq-eqb b a h.1))
keeps-kept ds (Join low_width high low) h =
    let x = width_of ds high in let y = width_of ds low in
    and_then_is (λ h. option_and_then (λ l. join_width low_width h l) (kept ds low)) (kept ds high) x (keeps-kept ds high h.2)
    ∙ and_then_is (λ l. join_width low_width x l) (kept ds low) y (keeps-kept ds low h.3)
    ∙ only_is (nat_eq y low_width && nat_le (x + low_width) 128) (x + low_width) (and_both (nat_eq y low_width) (nat_le (x + low_width) 128) (eq-eqb y low_width h.0) (le-leb (x + low_width) 128 h.1))
keeps-kept ds (Select high low n) h = part_there high low (slice_get ds n) h.0 h.1
keeps-kept ds (Read memory address) h =
    let a = width_of ds address in
    and_then_is (λ w. option_and_then (word_width w) (slice_get ds memory)) (kept ds address) a (keeps-kept ds address h.1)
    ∙ word_there a (slice_get ds memory) h.0

-- ---- assignments and updates

takes_there : (may : Kind → Bool) (P : Kind → Type 0) (w : ℕ) (o : Option Declaration) → ((k : Kind) → P k → may k ≡ true) → IsSomeAnd o (λ d. P d.kind × (w ≡ d.width)) → option_and_then (takes may w) o ≡ Some w
takes_there may P w None f h = absurd h
takes_there may P w (Some d) f h = only_is (may d.kind && nat_eq w d.width) w (and_both (may d.kind) (nat_eq w d.width) (f d.kind h.0) (eq-eqb w d.width h.1))

takes_word_there : (a w : ℕ) (o : Option Declaration) → IsSomeAnd o (λ d. IsMemory d.kind a × (w ≡ d.width)) → option_and_then (takes_word a w) o ≡ Some w
takes_word_there a w None h = absurd h
takes_word_there a w (Some d) h = only_is (has_address d.kind a && nat_eq w d.width) w (and_both (has_address d.kind a) (nat_eq w d.width) (memory_has d.kind a h.0) (eq-eqb w d.width h.1))

assigned_is : (ds : List Declaration) (a : Assignment) → KeepsWidth ds a → assigned_width ds a ≡ Some (width_of ds a.value)
assigned_is ds a h =
    and_then_is (λ w. option_and_then (takes is_driven w) (slice_get ds a.target)) (kept ds a.value) (width_of ds a.value) (keeps-kept ds a.value h.1)
    ∙ takes_there is_driven IsDriven (width_of ds a.value) (slice_get ds a.target) kind_driven h.0

put_is : (ds : List Declaration) (r : ℕ) (value : Expr) → KeepsWidthsIn ds (Put r value) → put_width ds r value ≡ Some (width_of ds value)
put_is ds r value h =
    and_then_is (λ w. option_and_then (takes is_register w) (slice_get ds r)) (kept ds value) (width_of ds value) (keeps-kept ds value h.1)
    ∙ takes_there is_register IsRegister (width_of ds value) (slice_get ds r) kind_register h.0

write_is : (ds : List Declaration) (m : ℕ) (address value : Expr) → KeepsWidthsIn ds (Write m address value) → write_width ds m address value ≡ Some (width_of ds value)
write_is ds m address value h =
    let a = width_of ds address in let w = width_of ds value in
    and_then_is (λ a. option_and_then (λ w. option_and_then (takes_word a w) (slice_get ds m)) (kept ds value)) (kept ds address) a (keeps-kept ds address h.1)
    ∙ and_then_is (λ w. option_and_then (takes_word a w) (slice_get ds m)) (kept ds value) w (keeps-kept ds value h.2)
    ∙ takes_word_there a w (slice_get ds m) h.0

is_one_of : (o : Option ℕ) (w : ℕ) → o ≡ Some w → w ≡ 1 → is_one o ≡ true
is_one_of o w e f = rw (e, f) refl

pub statement-keeps : (ds : List Declaration) (s : Statement) → statement_kept ds s ≡ true → KeepsWidthsIn ds s
statement-keeps ds Nothing h = tt
statement-keeps ds (Put register value) h = let w = some_there (put_width ds register value) h in put_keeps ds register value w.0 w.1
statement-keeps ds (Write memory address value) h = let w = some_there (write_width ds memory address value) h in write_keeps ds memory address value w.0 w.1
statement-keeps ds (Both first second) h = (statement-keeps ds first (and_left (statement_kept ds first) (statement_kept ds second) h), statement-keeps ds second (and_right (statement_kept ds first) (statement_kept ds second) h))
statement-keeps ds (If test yes' no') h =
    let rest = and_right (test_kept ds test) (statement_kept ds yes' && statement_kept ds no') h in
    let k = kept-keeps ds test 1 (one_is (kept ds test) (and_left (test_kept ds test) (statement_kept ds yes' && statement_kept ds no') h)) in
    (sym k.1, k.0, statement-keeps ds yes' (and_left (statement_kept ds yes') (statement_kept ds no') rest), statement-keeps ds no' (and_right (statement_kept ds yes') (statement_kept ds no') rest))

pub keeps-statement : (ds : List Declaration) (s : Statement) → KeepsWidthsIn ds s → statement_kept ds s ≡ true
keeps-statement ds Nothing h = refl
keeps-statement ds (Put register value) h = some_is (put_width ds register value) (width_of ds value) (put_is ds register value h)
keeps-statement ds (Write memory address value) h = some_is (write_width ds memory address value) (width_of ds value) (write_is ds memory address value h)
keeps-statement ds (Both first second) h = and_both (statement_kept ds first) (statement_kept ds second) (keeps-statement ds first h.0) (keeps-statement ds second h.1)
keeps-statement ds (If test yes' no') h =
    and_both (test_kept ds test) (statement_kept ds yes' && statement_kept ds no') (is_one_of (kept ds test) (width_of ds test) (keeps-kept ds test h.1) h.0)
    (and_both (statement_kept ds yes') (statement_kept ds no') (keeps-statement ds yes' h.2) (keeps-statement ds no' h.3))

-- ---- all of them

pub kept-all : (ds : List Declaration) (as' : List Assignment) → all_kept ds as' ≡ true → AllByRecursion (KeepsWidth ds) as'
kept-all ds [] h = tt
kept-all ds (a ∷ as') h =
    let w = some_there (assigned_width ds a) (and_left (is_some (assigned_width ds a)) (all_kept ds as') h) in
    (assignment_keeps ds a w.0 w.1, kept-all ds as' (and_right (is_some (assigned_width ds a)) (all_kept ds as') h))

pub all-kept : (ds : List Declaration) (as' : List Assignment) → AllByRecursion (KeepsWidth ds) as' → all_kept ds as' ≡ true
all-kept ds [] h = refl
all-kept ds (a ∷ as') h = and_both (is_some (assigned_width ds a)) (all_kept ds as') (some_is (assigned_width ds a) (width_of ds a.value) (assigned_is ds a h.0)) (all-kept ds as' h.1)

pub kept-blocks : (ds : List Declaration) (bs : List Statement) → blocks_kept ds bs ≡ true → AllByRecursion (KeepsWidthsIn ds) bs
kept-blocks ds [] h = tt
kept-blocks ds (b ∷ bs) h = (statement-keeps ds b (and_left (statement_kept ds b) (blocks_kept ds bs) h), kept-blocks ds bs (and_right (statement_kept ds b) (blocks_kept ds bs) h))

pub blocks-kept : (ds : List Declaration) (bs : List Statement) → AllByRecursion (KeepsWidthsIn ds) bs → blocks_kept ds bs ≡ true
blocks-kept ds [] h = refl
blocks-kept ds (b ∷ bs) h = and_both (statement_kept ds b) (blocks_kept ds bs) (keeps-statement ds b h.0) (blocks-kept ds bs h.1)

pub sized-all : (ds : List Declaration) → all_sized ds ≡ true → AllByRecursion HasSize ds
sized-all [] h = tt
sized-all (d ∷ ds) h = (size_of d (and_left (has_size d) (all_sized ds) h), sized-all ds (and_right (has_size d) (all_sized ds) h))

pub all-sized : (ds : List Declaration) → AllByRecursion HasSize ds → all_sized ds ≡ true
all-sized [] h = refl
all-sized (d ∷ ds) h = and_both (has_size d) (all_sized ds) (and_both (is_width d.width) (memory_fits d.kind) (width_is d.width h.0.0) (memory_small d.kind h.0.1)) (all-sized ds h.1)
