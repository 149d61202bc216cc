-- Tests of a module: the width of an expression whose operators keep their widths, or nothing.
use Rattle.std.specs.Prelude.{◌≡◌, ◌||◌, unwrap_or, slice_set, ℕ, ◌+◌, ◌-◌, ◌^◌, ◌<◌, Bool, true, false, not, ◌&&◌, List, [], ◌∷◌, Option, Some, None, slice_get, option_and_then, map, nat_eq, nat_le, nat_lt}
use Rattle.gl_verilog.specs.Module.{Module, Kind, OutputWire, OutputRegister, Wire, Register, Memory, Declaration, BinaryOp, Expr, Net, Literal, Invert, Binary, Choose, Join, Select, Read, Statement, Nothing, Put, Write, Both, If, Assignment}
use Rattle.gl_verilog.specs.declared.module.Declaration as code
use Rattle.gl_verilog.specs.declared.module.Assignment as coded
use Rattle.gl_verilog.specs.declared.module.Statement as codes
use Rattle.gl_verilog.specs.View.{declaration_of, assignment_of, statement_of}
use Rattle.gl_verilog.specs.Runnable.{IsRunnable}
use Rattle.gl_verilog.specs.Valid.{IsValid}
use Rattle.gl_verilog.specs.Order.{EachRead, IsUndriven}
use Rattle.gl_verilog.specs.Widths.{is_clock, width_after}
use Rattle.std.specs.List.{AllByRecursion}
use Rattle.std.specs.Option.{is_some}

-- what is declared is the clock
abbrev pub clock_test : Declaration → Bool
clock_test d = is_clock d

-- the kind of a declaration is that of a memory
abbrev pub is_memory : Kind → Bool
is_memory (Memory bits) = true
is_memory _ = false

-- a width of 1 to 128 bits
abbrev pub is_width : ℕ → Bool
is_width w = nat_le 1 w && nat_le w 128

-- the width, where the test holds
abbrev pub only : Bool → ℕ → Option ℕ
only true w = Some w
only false w = None

-- the width of a net or register that may be read
abbrev pub net_width : Declaration → Option ℕ
net_width d = only (not (is_memory d.kind) && not (is_clock d)) d.width

-- the width of a part of a vector
abbrev pub part_width : ℕ → ℕ → Declaration → Option ℕ
part_width high low d =
    only (not (is_memory d.kind) && not (is_clock d) && d.is_vector && nat_lt high d.width && nat_le low high)
    (high + 1 - low)

-- a memory whose addresses have this many bits
abbrev pub has_address : Kind → ℕ → Bool
has_address (Memory bits) address = nat_eq bits address
has_address _ address = false

-- the width of a memory's words, where its addresses have this width
abbrev pub word_width : ℕ → Declaration → Option ℕ
word_width address d = only (has_address d.kind address) d.width

-- the width of an inversion, where its operand has the width that it names
abbrev pub invert_width : ℕ → ℕ → Option ℕ
invert_width width w = only (nat_eq w width) width

-- the width of a choice, where its test is one bit and both sides are equally wide
abbrev pub choose_width : ℕ → ℕ → ℕ → Option ℕ
choose_width test a b = only (nat_eq test 1 && nat_eq b a) a

-- the width of two parts together, where the low one is as wide as named and both have at most 128 bits
abbrev pub join_width : ℕ → ℕ → ℕ → Option ℕ
join_width low_width high low = only (nat_eq low low_width && nat_le (high + low_width) 128) (high + low_width)

-- the width of a literal, where it is allowed and the value fits into it
abbrev pub literal_width : ℕ → ℕ → Option ℕ
literal_width value width = only (is_width width && nat_lt value (2 ^ width)) width

-- the width of an operator's result, where both operands have the width that it names
abbrev pub both_width : BinaryOp → ℕ → ℕ → ℕ → Option ℕ
both_width op width x y = only (nat_eq x width && nat_eq y width) (width_after op width)

-- the width of an expression, where it keeps all widths
abbrev pub kept : List Declaration → Expr → Option ℕ
kept ds (Net n) = option_and_then net_width (slice_get ds n)
kept ds (Literal value width) = literal_width value width
kept ds (Invert width arg) = option_and_then (invert_width width) (kept ds arg)
kept ds (Binary op width left right) =
    option_and_then (λ x. option_and_then (λ y. both_width op width x y) (kept ds right)) (kept ds left)
kept ds (Choose test yes' no') =
    option_and_then (λ t. option_and_then (λ a. option_and_then (λ b. choose_width t a b) (kept ds no')) (kept ds yes'))
    (kept ds test)
kept ds (Join low_width high low) =
    option_and_then (λ h. option_and_then (λ l. join_width low_width h l) (kept ds low)) (kept ds high)
kept ds (Select high low n) = option_and_then (part_width high low) (slice_get ds n)
kept ds (Read memory address) =
    option_and_then (λ w. option_and_then (word_width w) (slice_get ds memory)) (kept ds address)

-- a wire or an output that is no register, which an assignment drives
abbrev pub is_driven : Kind → Bool
is_driven OutputWire = true
is_driven Wire = true
is_driven _ = false

-- a register or an output register
abbrev pub is_register : Kind → Bool
is_register OutputRegister = true
is_register Register = true
is_register _ = false

-- a value of this width may be assigned to the declaration
abbrev pub takes : (Kind → Bool) → ℕ → Declaration → Option ℕ
takes may w d = only (may d.kind && nat_eq w d.width) w

-- the width of a value, where its target may take it and is as wide
abbrev pub only_taken : Bool → ℕ → Declaration → Option ℕ
only_taken may w d = only (may && nat_eq w d.width) w

-- the width of an assignment to a net
abbrev pub assigned_width : List Declaration → Assignment → Option ℕ
assigned_width ds a =
    option_and_then (λ w. option_and_then (takes is_driven w) (slice_get ds a.target)) (kept ds a.value)

-- the width of what a register takes
abbrev pub put_width : List Declaration → ℕ → Expr → Option ℕ
put_width ds r value = option_and_then (λ w. option_and_then (takes is_register w) (slice_get ds r)) (kept ds value)

-- a memory of this address width, and of this width
abbrev pub takes_word : ℕ → ℕ → Declaration → Option ℕ
takes_word address w d = only (has_address d.kind address && nat_eq w d.width) w

-- the width of what a word of a memory takes
abbrev pub write_width : List Declaration → ℕ → Expr → Expr → Option ℕ
write_width ds memory address value =
    option_and_then (λ a. option_and_then (λ w. option_and_then (takes_word a w) (slice_get ds memory)) (kept ds value))
    (kept ds address)

-- the number is there, and is 1
abbrev pub is_one : Option ℕ → Bool
is_one None = false
is_one (Some width) = nat_eq width 1

-- a test keeps its widths and has one bit
abbrev pub test_kept : List Declaration → Expr → Bool
test_kept ds e = is_one (kept ds e)

-- whether a statement keeps its widths
abbrev pub statement_kept : List Declaration → Statement → Bool
statement_kept ds Nothing = true
statement_kept ds (Put register value) = is_some (put_width ds register value)
statement_kept ds (Write memory address value) = is_some (write_width ds memory address value)
statement_kept ds (Both first second) = statement_kept ds first && statement_kept ds second
statement_kept ds (If test yes' no') = test_kept ds test && (statement_kept ds yes' && statement_kept ds no')

-- whether each assignment keeps its widths
abbrev pub all_kept : List Declaration → List Assignment → Bool
all_kept ds [] = true
all_kept ds (a ∷ as') = is_some (assigned_width ds a) && all_kept ds as'

-- whether each block keeps its widths
abbrev pub blocks_kept : List Declaration → List Statement → Bool
blocks_kept ds [] = true
blocks_kept ds (b ∷ bs) = statement_kept ds b && blocks_kept ds bs

-- a memory has 1 to 32 address bits; other kinds have none to keep
abbrev pub memory_fits : Kind → Bool
memory_fits (Memory bits) = nat_le 1 bits && nat_le bits 32
memory_fits _ = true

-- 1 to 128 bits, and for a memory 1 to 32 address bits
abbrev pub has_size : Declaration → Bool
has_size d = is_width d.width && memory_fits d.kind

-- whether each declaration has such a size
abbrev pub all_sized : List Declaration → Bool
all_sized [] = true
all_sized (d ∷ ds) = has_size d && all_sized ds

-- whether an expression reads a net that is marked, or one past the marks
abbrev pub reads : List Bool → Expr → Bool
reads marks (Net n) = unwrap_or (slice_get marks n) true
reads marks (Literal value width) = false
reads marks (Invert width arg) = reads marks arg
reads marks (Binary op width left right) = reads marks left || reads marks right
reads marks (Choose test yes' no') = reads marks test || (reads marks yes' || reads marks no')
reads marks (Join low_width high low) = reads marks high || reads marks low
reads marks (Select high low n) = unwrap_or (slice_get marks n) true
reads marks (Read memory address) = reads marks address

-- exactly the nets that these assignments drive are marked
pub record AreMarks (assignments : List Assignment) (marks : List Bool) : Type 0 where
  pub targets : AllByRecursion (λ a. slice_get marks a.target ≡ Some true) assignments
  pub undriven : (n : ℕ) → slice_get marks n ≡ Some false → IsUndriven assignments n
  pub driven : (n : ℕ) → slice_get marks n ≡ Some true → IsUndriven assignments n → ⊥

-- one more net is marked, which no mark was on
pub record Marked (old new : List Bool) (net : ℕ) : Type 0 where
  pub fresh : slice_get old net ≡ Some false
  pub set : new ≡ slice_set old net true

-- there is no such net, or it is marked
abbrev pub CannotMark : List Bool → ℕ → Type 0
CannotMark marks net = Marked marks (slice_set marks net true) net → ⊥

-- whether the net of this declaration, of this number, is marked where it wants a driver
abbrev pub driver_there : List Bool → ℕ → Declaration → Bool
driver_there marks n d = not (is_driven d.kind) || unwrap_or (slice_get marks n) false

-- whether every net of the declarations from a number on is marked where it wants a driver
abbrev pub all_driven : List Bool → ℕ → List Declaration → Bool
all_driven marks n [] = true
all_driven marks n (d ∷ ds) = driver_there marks n d && all_driven marks (n + 1) ds

-- every net of an assignment is one of so many
abbrev pub AreNets : ℕ → List Assignment → Type 0
AreNets nets assignments = AllByRecursion (λ a. (a.target < nets) × EachRead (λ n. n < nets) a.value) assignments

-- a module of these parts
abbrev pub module_with : List Declaration → List Assignment → List Statement → Module
module_with ds as' bs = record { name = []; ports = 0; declarations = ds; assignments = as'; blocks = bs }

-- what declarations and blocks in code mean
abbrev pub scope_of : List code.Declaration → List Declaration
scope_of ds = map declaration_of ds

-- the statements that boxed ones stand for
abbrev pub statements_of : List codes.Statement → List Statement
statements_of bs = map statement_of bs

-- a module of these parts in code can run, or is valid
abbrev pub CanRun : List code.Declaration → List coded.Assignment → List codes.Statement → Type 0
CanRun ds as' bs = IsRunnable (module_with (map declaration_of ds) (map assignment_of as') (map statement_of bs))

-- declarations, assignments and blocks that make a valid module
abbrev pub AreValid : List code.Declaration → List coded.Assignment → List codes.Statement → Type 0
AreValid ds as' bs = IsValid (module_with (map declaration_of ds) (map assignment_of as') (map statement_of bs))
