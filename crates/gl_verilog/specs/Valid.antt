-- Which modules are valid: names, widths, kinds, drivers, and no loop.
-- After IEEE 1364-2005, clauses 4 to 6 and 9, with the subset's own rule that all operands have equal widths.
use Rattle.std.specs.Prelude.{◌≡◌, ℕ, ◌+◌, Bool, true, false, List, [], ◌∷◌, Some, slice_get, nat_eq, ◌&&◌, ◌||◌, if◌then◌else◌}
use Rattle.std.specs.List.{AllByRecursion}
use Rattle.std.specs.Str.{bytes_eq}
use Rattle.gl_verilog.specs.Module.{Module, Declaration, Assignment, Kind, Input, OutputWire, OutputRegister, Wire, Register, Memory, Expr, Net, Literal, Invert, Binary, Choose, Join, Select, Read, Statement, Nothing, Put, Write, Both, If}
use Rattle.gl_verilog.specs.Widths.{HasSize, KeepsWidth, KeepsWidthsIn}

-- ---- names

-- a declaration's name is none of the others
abbrev pub Differs : Declaration → List Declaration → Type 0
Differs d [] = Unit {0}
Differs d (e ∷ es) = (bytes_eq d.name e.name ≡ false) × Differs d es

-- no name is declared twice
abbrev pub AreDistinct : List Declaration → Type 0
AreDistinct [] = Unit {0}
AreDistinct (d ∷ ds) = Differs d ds × AreDistinct ds

-- ---- drivers

-- how many assignments drive a net
abbrev pub drivers_of : List Assignment → ℕ → ℕ
drivers_of [] n = 0
drivers_of (a ∷ as') n = (if nat_eq a.target n then 1 else 0) + drivers_of as' n

-- whether a statement assigns a register, under some condition or none
abbrev pub assigns : Statement → ℕ → Bool
assigns Nothing r = false
assigns (Put register value) r = nat_eq register r
assigns (Write memory address value) r = false
assigns (Both first second) r = assigns first r || assigns second r
assigns (If test yes' no') r = assigns yes' r || assigns no' r

-- no two statements of one `begin .. end` list assign the register
abbrev pub AssignsOnce : ℕ → Statement → Type 0
AssignsOnce r (Both first second) =
    (assigns first r && assigns second r ≡ false) × AssignsOnce r first × AssignsOnce r second
AssignsOnce r (If test yes' no') = AssignsOnce r yes' × AssignsOnce r no'
AssignsOnce r s = Unit {0}

-- how many blocks assign a register
abbrev pub blocks_of : List Statement → ℕ → ℕ
blocks_of [] r = 0
blocks_of (b ∷ bs) r = (if assigns b r then 1 else 0) + blocks_of bs r

-- how many writes to a memory stand in a statement
abbrev pub writes_in : Statement → ℕ → ℕ
writes_in Nothing k = 0
writes_in (Put register value) k = 0
writes_in (Write memory address value) k = if nat_eq memory k then 1 else 0
writes_in (Both first second) k = writes_in first k + writes_in second k
writes_in (If test yes' no') k = writes_in yes' k + writes_in no' k

-- how many times all blocks assign a register or write a memory
abbrev pub writes_of : List Statement → ℕ → ℕ
writes_of [] k = 0
writes_of (b ∷ bs) k = writes_in b k + writes_of bs k

-- a wire has one assignment, a register one block that assigns it once in each list, a memory one write
abbrev pub HasDriver : Module → ℕ → Kind → Type 0
HasDriver m n Input = Unit {0}
HasDriver m n OutputWire = drivers_of m.assignments n ≡ 1
HasDriver m n Wire = drivers_of m.assignments n ≡ 1
HasDriver m n OutputRegister = (blocks_of m.blocks n ≡ 1) × AllByRecursion (AssignsOnce n) m.blocks
HasDriver m n Register = (blocks_of m.blocks n ≡ 1) × AllByRecursion (AssignsOnce n) m.blocks
HasDriver m n (Memory address_bits) = writes_of m.blocks n ≡ 1

-- ---- loops

-- whether a net stands in an expression, in a memory's address too
abbrev pub mentions : Expr → ℕ → Bool
mentions (Net k) n = nat_eq k n
mentions (Literal value width) n = false
mentions (Invert width arg) n = mentions arg n
mentions (Binary op width left right) n = mentions left n || mentions right n
mentions (Choose test yes' no') n = mentions test n || (mentions yes' n || mentions no' n)
mentions (Join low_width high low) n = mentions high n || mentions low n
mentions (Select high low k) n = nat_eq k n
mentions (Read memory address) n = mentions address n

-- whether some assignment to a net mentions another
abbrev pub depends : List Assignment → ℕ → ℕ → Bool
depends [] t n = false
depends (a ∷ as') t n = (nat_eq a.target t && mentions a.value n) || depends as' t n

-- one is related to another by way of these
abbrev pub IsChain : (ℕ → ℕ → Bool) → ℕ → List ℕ → ℕ → Type 0
IsChain related x [] y = related x y ≡ true
IsChain related x (u ∷ us) y = (related x u ≡ true) × IsChain related u us y

-- none is related to itself by way of any
abbrev pub HasNoCycle : (ℕ → ℕ → Bool) → Type 0
HasNoCycle related = (n : ℕ) (by_way : List ℕ) → IsChain related n by_way n → ⊥

-- no net depends on itself through assignments
abbrev pub HasNoLoop : List Assignment → Type 0
HasNoLoop assignments = HasNoCycle (depends assignments)

-- ---- all of it

-- a valid module: distinct names, sizes within bounds, matching widths, each net driven as its kind wants, and no loop
pub record IsValid (m : Module) : Type 0 where
  pub names : AreDistinct m.declarations
  pub sizes : AllByRecursion HasSize m.declarations
  pub assignments : AllByRecursion (KeepsWidth m.declarations) m.assignments
  pub blocks : AllByRecursion (KeepsWidthsIn m.declarations) m.blocks
  pub driven : (n : ℕ) (d : Declaration) → slice_get m.declarations n ≡ Some d → HasDriver m n d.kind
  pub acyclic : HasNoLoop m.assignments
