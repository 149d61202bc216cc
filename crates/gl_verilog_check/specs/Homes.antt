-- The block in which each register and memory is assigned.
use Rattle.std.specs.Prelude.{ℕ, ◌+◌, Bool, true, false, ◌&&◌, List, [], ◌∷◌, Option, slice_get, nat_eq}
use Rattle.std.specs.Option.{option_map_or}
use Rattle.gl_verilog.specs.Module.{Declaration, Statement, Nothing, Put, Write, Both, If}
use Rattle.gl_verilog_check.specs.Tests.{is_assigned}

-- whether the home of a register or memory is this block
abbrev pub is_home : List ℕ → ℕ → ℕ → Bool
is_home homes n block = option_map_or (λ home. nat_eq home block) (slice_get homes n) false

-- whether this block is the home of all that a statement assigns
abbrev pub keeps_home : List ℕ → ℕ → Statement → Bool
keeps_home homes block Nothing = true
keeps_home homes block (Put register value) = is_home homes register block
keeps_home homes block (Write memory address value) = is_home homes memory block
keeps_home homes block (Both first second) = keeps_home homes block first && keeps_home homes block second
keeps_home homes block (If test yes' no') = keeps_home homes block yes' && keeps_home homes block no'

-- whether each block is the home of all that it assigns, counted from a number
abbrev pub keep_homes : List ℕ → ℕ → List Statement → Bool
keep_homes homes block [] = true
keep_homes homes block (b ∷ bs) = keeps_home homes block b && keep_homes homes (block + 1) bs

-- a list of it alone
abbrev pub alone : Option Statement → List Statement
alone o = option_map_or (λ b. b ∷ []) o []

-- the home of a register or memory alone
abbrev pub home_of : List ℕ → List Statement → ℕ → List Statement
home_of homes bs n = option_map_or (λ home. alone (slice_get bs home)) (slice_get homes n) []

-- whether every register and memory from a number on has a driver in its home
abbrev pub all_at_home : List ℕ → List Statement → ℕ → List Declaration → Bool
all_at_home homes bs n [] = true
all_at_home homes bs n (d ∷ ds) = is_assigned (home_of homes bs n) n d.kind && all_at_home homes bs (n + 1) ds
