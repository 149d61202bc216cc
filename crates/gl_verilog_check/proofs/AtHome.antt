-- Where each block is the home of all that it assigns, no other block assigns it.
use Rattle.std.proofs.Common.{◌≡◌, ◌≢◌, ℕ, zero, suc, ◌+◌, ◌<◌, ◌≤◌, Bool, true, false, cond, List, [], ◌∷◌, Option, Some, None, ltb, length, get_or, map, refl, sym, ap, subst, ◌∙◌, arith}
use Rattle.std.specs.Prelude.{slice_get, nat_eq, option_and_then, option_map}
use Rattle.std.specs.Option.{option_map_or}
use Rattle.std.proofs.lemmas.Bool.{eqb-true, ltb-true, ltb-false}
use Rattle.gl_bits.proofs.AllLists.{get_mapped, length_map, get_past}
use Rattle.gl_bits.proofs.Bools.{and_left, and_right, not_both, else_false}
use Rattle.gl_verilog.specs.Module.{Kind, Input, OutputWire, OutputRegister, Wire, Register, Memory, Declaration, Statement, Nothing, Put, Write, Both, If}
use Rattle.gl_verilog.specs.View.{statement_of}
use Rattle.gl_verilog.specs.Valid.{writes_in, writes_of}
use Rattle.gl_verilog.specs.declared.module.Statement as block
use Rattle.gl_verilog_check.specs.Kept.{is_one}
use Rattle.gl_verilog_check.specs.Tests.{assigns_once, blocks_once, is_assigned, all_assigned}
use Rattle.gl_verilog_check.specs.Homes.{is_home, keeps_home, keep_homes, alone, home_of, all_at_home}

-- the statement assigns nothing of this number
record IsQuiet (n : ℕ) (s : Statement) : Type 0 where
  register : assigns_once n s ≡ Some false
  memory : writes_in s n ≡ 0

other : (homes : List ℕ) (block n k : ℕ) → is_home homes k block ≡ true → is_home homes n block ≡ false → nat_eq k n ≡ false
other homes block n k here there = else_false (nat_eq k n) (λ e. not_both (is_home homes n block) (subst (λ i. is_home homes i block ≡ true) (eqb-true k n e) here) there)

quiet : (homes : List ℕ) (block n : ℕ) (s : Statement) → keeps_home homes block s ≡ true → is_home homes n block ≡ false → IsQuiet n s
quiet homes block n Nothing h o = record { register = refl; memory = refl }
quiet homes block n (Put register value) h o = record { register = ap (λ (b : Bool). Some b) (other homes block n register h o); memory = refl }
quiet homes block n (Write memory address value) h o = record { register = refl; memory = ap (λ (b : Bool). cond b 1 0) (other homes block n memory h o) }
quiet homes block n (Both first second) h o =
    let p = quiet homes block n first (and_left (keeps_home homes block first) (keeps_home homes block second) h) o in
    let q = quiet homes block n second (and_right (keeps_home homes block first) (keeps_home homes block second) h) o in
    record { register = rw (p.register, q.register) refl; memory = rw (p.memory, q.memory) refl }
quiet homes block n (If test yes' no') h o =
    let p = quiet homes block n yes' (and_left (keeps_home homes block yes') (keeps_home homes block no') h) o in
    let q = quiet homes block n no' (and_right (keeps_home homes block yes') (keeps_home homes block no') h) o in
    record { register = rw (p.register, q.register) refl; memory = rw (p.memory, q.memory) refl }

none_added : (o : Option ℕ) → option_map (λ m. 0 + m) o ≡ o
none_added None = refl
none_added (Some m) = ap (λ (k : ℕ). Some k) (let z : 0 + m ≡ m = omega arith in z)

-- a block that is quiet is no matter
skipped : (n : ℕ) (b : Statement) (bs : List Statement) → IsQuiet n b → (blocks_once n (b ∷ bs) ≡ blocks_once n bs) × (writes_of (b ∷ bs) n ≡ writes_of bs n)
skipped n b bs q = (
  ap (option_and_then (λ (a : Bool). option_map (λ m. cond a 1 0 + m) (blocks_once n bs))) q.register ∙ none_added (blocks_once n bs),
  (let z = q.memory in omega (arith, z)),
)

none_home : (homes : List ℕ) (block n : ℕ) (bs : List Statement) → keep_homes homes block bs ≡ true → ((k : ℕ) → block ≤ k → is_home homes n k ≡ false) → (blocks_once n bs ≡ Some 0) × (writes_of bs n ≡ 0)
none_home homes block n [] h o = (refl, refl)
none_home homes block n (b ∷ bs) h o =
    let s = skipped n b bs (quiet homes block n b (and_left (keeps_home homes block b) (keep_homes homes (block + 1) bs) h) (o block (omega arith))) in
    let r = none_home homes (block + 1) n bs (and_right (keeps_home homes block b) (keep_homes homes (block + 1) bs) h) (λ k le. o k (omega (arith, le))) in
    (s.0 ∙ r.0, s.1 ∙ r.1)

elsewhere : (homes : List ℕ) (n home k : ℕ) → slice_get homes n ≡ Some home → home ≢ k → is_home homes n k ≡ false
elsewhere homes n home k at apart = rw at (else_false (nat_eq home k) (λ e. apart (eqb-true home k e)))

one_home : (homes : List ℕ) (block n : ℕ) (bs : List Statement) (i : ℕ) → keep_homes homes block bs ≡ true → slice_get homes n ≡ Some (block + i) → (blocks_once n bs ≡ blocks_once n (alone (slice_get bs i))) × (writes_of bs n ≡ writes_of (alone (slice_get bs i)) n)
one_home homes block n [] i h at = (refl, refl)
one_home homes block n (b ∷ bs) zero h at =
    let r = none_home homes (block + 1) n bs (and_right (keeps_home homes block b) (keep_homes homes (block + 1) bs) h) (λ k le. elsewhere homes n (block + 0) k at (λ e. absurd (omega (arith, e, le)))) in (
      ap (λ (o : Option ℕ). option_and_then (λ (a : Bool). option_map (λ m. cond a 1 0 + m) o) (assigns_once n b)) r.0,
      ap (λ (m : ℕ). writes_in b n + m) r.1,
    )
one_home homes block n (b ∷ bs) (suc i) h at =
    let s = skipped n b bs (quiet homes block n b (and_left (keeps_home homes block b) (keep_homes homes (block + 1) bs) h) (elsewhere homes n (block + suc i) block at (λ e. absurd (omega (arith, e))))) in
    let place : block + suc i ≡ (block + 1) + i = omega arith in
    let r = one_home homes (block + 1) n bs i (and_right (keeps_home homes block b) (keep_homes homes (block + 1) bs) h) (at ∙ ap (λ (k : ℕ). Some k) place) in
    (s.0 ∙ r.0, s.1 ∙ r.1)

-- what its home says is what all blocks say
at_home : (homes : List ℕ) (bs : List Statement) (n : ℕ) → keep_homes homes 0 bs ≡ true → (blocks_once n bs ≡ blocks_once n (home_of homes bs n)) × (writes_of bs n ≡ writes_of (home_of homes bs n) n)
at_home homes bs n h = by (slice_get homes n) refl
  where
    by : (o : Option ℕ) → slice_get homes n ≡ o → (blocks_once n bs ≡ blocks_once n (home_of homes bs n)) × (writes_of bs n ≡ writes_of (home_of homes bs n) n)
    by None e = let r = none_home homes 0 n bs h (λ k le. rw e refl) in rw e r
    by (Some home) e = let r = one_home homes 0 n bs home h (e ∙ ap (λ (k : ℕ). Some k) (let z : home ≡ 0 + home = omega arith in z)) in rw e r

assigned_at_home : (homes : List ℕ) (bs : List Statement) (n : ℕ) (k : Kind) → keep_homes homes 0 bs ≡ true → is_assigned (home_of homes bs n) n k ≡ is_assigned bs n k
assigned_at_home homes bs n Input h = refl
assigned_at_home homes bs n OutputWire h = refl
assigned_at_home homes bs n Wire h = refl
assigned_at_home homes bs n OutputRegister h = ap is_one (sym (at_home homes bs n h).0)
assigned_at_home homes bs n Register h = ap is_one (sym (at_home homes bs n h).0)
assigned_at_home homes bs n (Memory address_bits) h = ap (λ (m : ℕ). nat_eq m 1) (sym (at_home homes bs n h).1)

pub all_assigned_at_home : (homes : List ℕ) (bs : List Statement) (n : ℕ) (ds : List Declaration) → keep_homes homes 0 bs ≡ true → all_at_home homes bs n ds ≡ all_assigned bs n ds
all_assigned_at_home homes bs n [] h = refl
all_assigned_at_home homes bs n (d ∷ ds) h = rw (assigned_at_home homes bs n d.kind h, all_assigned_at_home homes bs (n + 1) ds h) refl

-- ---- what a list has at a place

get_there : {A : Type 0} (xs : List A) (i : ℕ) (x d : A) → i < length xs → x ≡ get_or xs i d → slice_get xs i ≡ Some x
get_there [] i x d lt f = absurd (omega (arith, lt))
get_there (y ∷ xs) zero x d lt f = ap (λ z. Some z) (sym f)
get_there (y ∷ xs) (suc i) x d lt f = get_there xs i x d (omega (arith, lt)) f

pub home_there : (homes : List ℕ) (blocks : List block.Statement) (n home d : ℕ) (s e : block.Statement) → true ≡ ltb n (length homes) → home ≡ get_or homes n d → true ≡ ltb home (length blocks) → s ≡ get_or blocks home e → home_of homes (map statement_of blocks) n ≡ statement_of s ∷ []
home_there homes blocks n home d s e lt is lt' is' =
    ap (λ (o : Option ℕ). option_map_or (λ h. alone (slice_get (map statement_of blocks) h)) o []) (get_there homes n home d (ltb-true n (length homes) (sym lt)) is)
    ∙ ap alone (get_mapped statement_of blocks home s (get_there blocks home s e (ltb-true home (length blocks) (sym lt')) is'))

pub home_past : (homes : List ℕ) (blocks : List block.Statement) (n home d : ℕ) → true ≡ ltb n (length homes) → home ≡ get_or homes n d → false ≡ ltb home (length blocks) → home_of homes (map statement_of blocks) n ≡ []
home_past homes blocks n home d lt is past =
    ap (λ (o : Option ℕ). option_map_or (λ h. alone (slice_get (map statement_of blocks) h)) o []) (get_there homes n home d (ltb-true n (length homes) (sym lt)) is)
    ∙ ap alone (get_past (map statement_of blocks) home (let le = ltb-false home (length blocks) (sym past) in let same = length_map statement_of blocks in omega (arith, le, same)))
