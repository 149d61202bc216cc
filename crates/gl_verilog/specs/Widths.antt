-- The widths of expressions, and the expressions, statements and assignments that keep them: the operands of an
-- operator have one width, so no rule of extension arises. After IEEE 1364-2005, clause 5.4 (expression bit lengths).
use Rattle.std.specs.Prelude.{◌≡◌, ℕ, ◌+◌, ◌-◌, ◌^◌, ◌<◌, ◌≤◌, Bool, false, List, IsSomeAnd, slice_get, codes, IsTrue}
use Rattle.std.specs.Option.{option_map_or}
use Rattle.std.specs.Str.{bytes_eq}
use Rattle.gl_bits.specs.Words.{IsWidth}
use Rattle.gl_verilog.specs.Module.{Kind, OutputWire, Wire, Memory, Declaration, BinaryOp, Add, Sub, Mul, And, Xor, Or, Expr, Net, Literal, Invert, Binary, Choose, Join, Select, Read, Statement, Nothing, Put, Write, Both, If, Assignment}
use Rattle.gl_verilog.specs.Run.{IsRegister}

-- a kind with one value
abbrev pub IsNet : Kind → Type 0
IsNet (Memory bits) = ⊥
IsNet _ = Unit {0}

-- a kind that an assignment drives
abbrev pub IsDriven : Kind → Type 0
IsDriven OutputWire = Unit {0}
IsDriven Wire = Unit {0}
IsDriven _ = ⊥

-- a memory with addresses of so many bits
abbrev pub IsMemory : Kind → ℕ → Type 0
IsMemory (Memory bits) address = bits ≡ address
IsMemory _ address = ⊥

-- the words of a memory
abbrev pub words_in : Kind → ℕ
words_in (Memory bits) = 2 ^ bits
words_in _ = 0

-- whether the declaration is that of the clock
abbrev pub is_clock : Declaration → Bool
is_clock d = bytes_eq d.name (codes "clk")

-- a net or register that expressions may read: any but the clock
abbrev pub IsReadable : Declaration → Type 0
IsReadable d = IsNet d.kind × (is_clock d ≡ false)

-- a width of 1 to 128 bits, and for a memory 1 to 32 address bits
abbrev pub HasSize : Declaration → Type 0
HasSize d = IsWidth d.width × ((bits : ℕ) → IsMemory d.kind bits → (1 ≤ bits) × (bits ≤ 32))

-- the width of the declaration with this number; 0 where there is none
abbrev pub width_at : List Declaration → ℕ → ℕ
width_at ds n = option_map_or (λ d. d.width) (slice_get ds n) 0

-- the width of what an operator gives, by that of its operands
abbrev pub width_after : BinaryOp → ℕ → ℕ
width_after Add w = w
width_after Sub w = w
width_after Mul w = w
width_after And w = w
width_after Xor w = w
width_after Or w = w
width_after _ w = 1

-- the width of an expression
abbrev pub width_of : List Declaration → Expr → ℕ
width_of ds (Net n) = width_at ds n
width_of ds (Literal value width) = width
width_of ds (Invert width arg) = width
width_of ds (Binary op width left right) = width_after op width
width_of ds (Choose test yes' no') = width_of ds yes'
width_of ds (Join low_width high low) = width_of ds high + low_width
width_of ds (Select high low n) = high + 1 - low
width_of ds (Read memory address) = width_at ds memory

-- every operator has operands of its width, and every name stands where its kind may
abbrev pub KeepsWidths : List Declaration → Expr → Type 0
KeepsWidths ds (Net n) = IsSomeAnd (slice_get ds n) IsReadable
KeepsWidths ds (Literal value width) = IsWidth width × (value < 2 ^ width)
KeepsWidths ds (Invert width arg) = (width_of ds arg ≡ width) × KeepsWidths ds arg
KeepsWidths ds (Binary op width left right) =
    (width_of ds left ≡ width) × (width_of ds right ≡ width) × KeepsWidths ds left × KeepsWidths ds right
KeepsWidths ds (Choose test yes' no') =
    (width_of ds test ≡ 1) × (width_of ds no' ≡ width_of ds yes') × KeepsWidths ds test × KeepsWidths ds yes'
    × KeepsWidths ds no'
KeepsWidths ds (Join low_width high low) =
    (width_of ds low ≡ low_width) × (width_of ds high + low_width ≤ 128) × KeepsWidths ds high × KeepsWidths ds low
KeepsWidths ds (Select high low n) =
    IsSomeAnd (slice_get ds n) (λ d. IsReadable d × IsTrue d.is_vector × (high < d.width)) × (low ≤ high)
KeepsWidths ds (Read memory address) =
    IsSomeAnd (slice_get ds memory) (λ d. IsMemory d.kind (width_of ds address)) × KeepsWidths ds address

-- what is assigned to a net has its width, and an assignment drives it
abbrev pub KeepsWidth : List Declaration → Assignment → Type 0
KeepsWidth ds a =
    IsSomeAnd (slice_get ds a.target) (λ d. IsDriven d.kind × (width_of ds a.value ≡ d.width)) × KeepsWidths ds a.value

-- what a register or a word takes has its width, an address as many bits as the memory's, and a test one bit
abbrev pub KeepsWidthsIn : List Declaration → Statement → Type 0
KeepsWidthsIn ds Nothing = Unit {0}
KeepsWidthsIn ds (Put register value) =
    IsSomeAnd (slice_get ds register) (λ d. IsRegister d.kind × (width_of ds value ≡ d.width)) × KeepsWidths ds value
KeepsWidthsIn ds (Write memory address value) =
    IsSomeAnd (slice_get ds memory) (λ d. IsMemory d.kind (width_of ds address) × (width_of ds value ≡ d.width))
    × KeepsWidths ds address × KeepsWidths ds value
KeepsWidthsIn ds (Both first second) = KeepsWidthsIn ds first × KeepsWidthsIn ds second
KeepsWidthsIn ds (If test yes' no') =
    (width_of ds test ≡ 1) × KeepsWidths ds test × KeepsWidthsIn ds yes' × KeepsWidthsIn ds no'
