-- A module of the Verilog subset with its names resolved: a net is the number of its declaration.
-- After IEEE 1364-2005: clause 4 (nets, registers, memories), 5 (expressions), 6 (continuous assignments), 9 (always).
use Rattle.std.specs.Prelude.{ℕ, ◌+◌, Bool, List, [], ◌∷◌, Option, Some, None, nat_eq, bit_and, bit_or, bit_xor, if◌then◌else◌}
use Rattle.std.specs.Option.{option_map}
use Rattle.std.specs.Str.{bytes_eq}
use Rattle.gl_bits.specs.Words.{sum_of, difference_of, product_of, not_of, eq_of, lt_of, le_of, join_of, cut_of, choose_of}

-- what a declared name is; a memory has 2 ^ address_bits words
pub data Kind : Type 0 where
  Input : Kind
  OutputWire : Kind
  OutputRegister : Kind
  Wire : Kind
  Register : Kind
  Memory : (address_bits : ℕ) → Kind

-- a declaration, of a scalar or of a vector of so many bits; the ports come first, in their order
pub record Declaration : Type 0 where
  pub name : List ℕ
  pub width : ℕ
  pub is_vector : Bool
  pub kind : Kind

-- the operators between two words: arithmetic modulo the width, bitwise operators, and comparisons of unsigned numbers
pub data BinaryOp : Type 0 where
  Add : BinaryOp
  Sub : BinaryOp
  Mul : BinaryOp
  And : BinaryOp
  Xor : BinaryOp
  Or : BinaryOp
  Eq : BinaryOp
  Ne : BinaryOp
  Lt : BinaryOp
  Le : BinaryOp
  Gt : BinaryOp
  Ge : BinaryOp

-- an expression; an operator keeps the width of its operands, a concatenation that of its lower part
pub data Expr : Type 0 where
  Net : (n : ℕ) → Expr
  Literal : (value width : ℕ) → Expr
  Invert : (width : ℕ) (arg : Expr) → Expr
  Binary : (op : BinaryOp) (width : ℕ) (left right : Expr) → Expr
  Choose : (test yes' no' : Expr) → Expr
  Join : (low_width : ℕ) (high low : Expr) → Expr
  Select : (high low n : ℕ) → Expr
  Read : (memory : ℕ) (address : Expr) → Expr

-- what a clocked block does at an edge
pub data Statement : Type 0 where
  Nothing : Statement
  Put : (register : ℕ) (value : Expr) → Statement
  Write : (memory : ℕ) (address value : Expr) → Statement
  Both : (first second : Statement) → Statement
  If : (test : Expr) (yes' no' : Statement) → Statement

-- a continuous assignment
pub record Assignment : Type 0 where
  pub target : ℕ
  pub value : Expr

-- a module: the first declarations are its ports, assignments drive wires, and blocks run at the clock's edge
pub record Module : Type 0 where
  pub name : List ℕ
  pub ports : ℕ
  pub declarations : List Declaration
  pub assignments : List Assignment
  pub blocks : List Statement

-- the number of the declaration of a name
abbrev pub number_of : List Declaration → List ℕ → Option ℕ
number_of [] name = None
number_of (d ∷ ds) name = if bytes_eq d.name name then Some 0 else option_map (λ n. n + 1) (number_of ds name)

-- what each net holds, by the net's number
abbrev pub Nets : Type 0
Nets = ℕ → ℕ

-- what memories hold: a word for each memory's number and each address
abbrev pub Memories : Type 0
Memories = ℕ → ℕ → ℕ

-- what a binary operator gives for two operands of one width
abbrev pub binary_of : BinaryOp → ℕ → ℕ → ℕ → ℕ
binary_of Add w x y = sum_of w x y
binary_of Sub w x y = difference_of w x y
binary_of Mul w x y = product_of w x y
binary_of And w x y = bit_and x y
binary_of Xor w x y = bit_xor x y
binary_of Or w x y = bit_or x y
binary_of Eq w x y = eq_of x y
binary_of Ne w x y = not_of 1 (eq_of x y)
binary_of Lt w x y = lt_of x y
binary_of Le w x y = le_of x y
binary_of Gt w x y = lt_of y x
binary_of Ge w x y = le_of y x

-- the value of an expression, given what the nets and the memories hold
abbrev pub value_of : Nets → Memories → Expr → ℕ
value_of v m (Net n) = v n
value_of v m (Literal value width) = value
value_of v m (Invert width arg) = not_of width (value_of v m arg)
value_of v m (Binary op width left right) = binary_of op width (value_of v m left) (value_of v m right)
value_of v m (Choose test yes' no') = choose_of (value_of v m test) (value_of v m yes') (value_of v m no')
value_of v m (Join low_width high low) = join_of low_width (value_of v m high) (value_of v m low)
value_of v m (Select high low n) = cut_of high low (v n)
value_of v m (Read memory address) = m memory (value_of v m address)

-- the later of two assignments to one register counts
abbrev pub later_or : Option ℕ → Option ℕ → Option ℕ
later_or None earlier = earlier
later_or (Some x) earlier = Some x

-- one of two, by a test of one bit
abbrev pub taken : {A : Type 0} → ℕ → A → A → A
taken test a b = if nat_eq test 1 then a else b

-- what a statement assigns to a register under these values, if it assigns it
abbrev pub assigned : Nets → Memories → Statement → ℕ → Option ℕ
assigned v m Nothing r = None
assigned v m (Put register value) r = if nat_eq register r then Some (value_of v m value) else None
assigned v m (Write memory address value) r = None
assigned v m (Both first second) r = later_or (assigned v m second r) (assigned v m first r)
assigned v m (If test yes' no') r = taken (value_of v m test) (assigned v m yes' r) (assigned v m no' r)

-- what a statement writes to a word of a memory under these values, if it writes it
abbrev pub written : Nets → Memories → Statement → ℕ → ℕ → Option ℕ
written v m Nothing k at = None
written v m (Put register value) k at = None
written v m (Write memory address value) k at =
    if nat_eq memory k then (if nat_eq (value_of v m address) at then Some (value_of v m value) else None) else None
written v m (Both first second) k at = later_or (written v m second k at) (written v m first k at)
written v m (If test yes' no') k at = taken (value_of v m test) (written v m yes' k at) (written v m no' k at)

-- what all blocks assign to a register at an edge, if any does; no two blocks of a valid module assign one
abbrev pub assigned_by : Nets → Memories → List Statement → ℕ → Option ℕ
assigned_by v m [] r = None
assigned_by v m (b ∷ bs) r = later_or (assigned_by v m bs r) (assigned v m b r)

-- the word that blocks write to an address of a memory at an edge, if any; the last write wins
abbrev pub written_by : Nets → Memories → List Statement → ℕ → ℕ → Option ℕ
written_by v m [] k at = None
written_by v m (b ∷ bs) k at = later_or (written_by v m bs k at) (written v m b k at)
