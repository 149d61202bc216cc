-- Tests of drivers and of names, and what they show.
use Rattle.std.specs.Prelude.{ℕ, ◌+◌, min, Bool, true, false, not, ◌&&◌, ◌||◌, List, [], ◌∷◌, ◌++◌, Option, Some, None, option_and_then, option_map, nat_eq, bytes_eq, if◌then◌else◌}
use Rattle.std.specs.List.{list_any}
use Rattle.gl_verilog.specs.Module.{Kind, OutputRegister, Register, Memory, Declaration, Statement, Nothing, Put, Write, Both, If}
use Rattle.gl_verilog.specs.Valid.{writes_of}
use Rattle.gl_verilog_check.specs.Kept.{is_one}

-- no name is declared twice, and none is one of these
abbrev pub are_new : List (List ℕ) → List Declaration → Bool
are_new names [] = true
are_new names (d ∷ ds) = not (list_any (bytes_eq d.name) names) && are_new (names ++ d.name ∷ []) ds

-- whether one of two is so, where not both are
abbrev pub one_of : Bool → Bool → Option Bool
one_of true true = None
one_of true false = Some true
one_of false b = Some b

-- whether a statement assigns a register, where no two of one list do
abbrev pub assigns_once : ℕ → Statement → Option Bool
assigns_once r Nothing = Some false
assigns_once r (Put register value) = Some (nat_eq register r)
assigns_once r (Write memory address value) = Some false
assigns_once r (Both first second) =
    option_and_then (λ a. option_and_then (one_of a) (assigns_once r second)) (assigns_once r first)
assigns_once r (If test yes' no') =
    option_and_then (λ a. option_map (λ b. a || b) (assigns_once r no')) (assigns_once r yes')

-- how many blocks assign a register, where no two of one list do
abbrev pub blocks_once : ℕ → List Statement → Option ℕ
blocks_once r [] = Some 0
blocks_once r (b ∷ bs) =
    option_and_then (λ a. option_map (λ n. (if a then 1 else 0) + n) (blocks_once r bs)) (assigns_once r b)

-- a count as far as one is told from more
abbrev pub at_most_two : ℕ → ℕ
at_most_two n = min n 2

-- whether a register is assigned in one block and once in each list, and a memory is written once
abbrev pub is_assigned : List Statement → ℕ → Kind → Bool
is_assigned bs n OutputRegister = is_one (blocks_once n bs)
is_assigned bs n Register = is_one (blocks_once n bs)
is_assigned bs n (Memory address_bits) = nat_eq (writes_of bs n) 1
is_assigned bs n _ = true

-- whether it is so for all declarations from a number on
abbrev pub all_assigned : List Statement → ℕ → List Declaration → Bool
all_assigned bs n [] = true
all_assigned bs n (d ∷ ds) = is_assigned bs n d.kind && all_assigned bs (n + 1) ds
