-- What options, kinds and operators of resolved expressions say, apart from names.
use Rattle.std.proofs.Common.{◌≡◌, ℕ, ◌-◌, ◌≤◌, Bool, true, false, List, Option, Some, None, eqb, refl, sym, arith}
use Rattle.std.specs.Prelude.{◌||◌, not, if◌then◌else◌}
use Rattle.std.proofs.lemmas.Bool.{eq-eqb, eqb-true}
use Rattle.gl_verilog.specs.Written.{InfixOp, Times, Added, Subtracted, Below, AtMost, Above, AtLeast, Equal, NotEqual, BitAnd, BitXor, BitOr, LogicalAnd, LogicalOr, looseness}
use Rattle.gl_verilog.specs.Module.{Declaration, Kind, Input, OutputWire, OutputRegister, Wire, Register, Memory, BinaryOp, Add, Sub, Mul, And, Xor, Or, Eq, Ne, Lt, Le, Gt, Ge, Expr, Binary}
use Rattle.gl_verilog.specs.Widths.{IsNet, IsMemory, width_after, width_of}
use Rattle.gl_verilog.specs.Resolve.{both, three, infixed, is_memory_kind}
use Rattle.gl_verilog_faults.specs.Demands.{address_kind, gives_bit, takes_bits}
use Rattle.gl_bits.proofs.Options.{map_some}

-- ---- options

pub both_some : {A B C : Type 0} (f : A → B → C) (o : Option A) (p : Option B) (y : C) → both f o p ≡ Some y → (a : A) × (b : B) × (o ≡ Some a) × (p ≡ Some b) × (y ≡ f a b)
both_some f None p y e = absurd cc
both_some f (Some a) p y e = let m = map_some (f a) p y e in (a, m.0, refl, m.1, m.2)

pub three_some : {A B C D : Type 0} (f : A → B → C → D) (o : Option A) (p : Option B) (q : Option C) (y : D) → three f o p q ≡ Some y → (a : A) × (b : B) × (c : C) × (o ≡ Some a) × (p ≡ Some b) × (q ≡ Some c) × (y ≡ f a b c)
three_some f None p q y e = absurd cc
three_some f (Some a) p q y e = let m = both_some (f a) p q y e in (a, m.0, m.1, refl, m.2, m.3, m.4)

-- ---- kinds

pub net_kind : (k : Kind) → not (is_memory_kind k) ≡ true → IsNet k
net_kind Input h = tt
net_kind OutputWire h = tt
net_kind OutputRegister h = tt
net_kind Wire h = tt
net_kind Register h = tt
net_kind (Memory bits) h = absurd cc

pub kind_net : (k : Kind) → IsNet k → not (is_memory_kind k) ≡ true
kind_net Input h = refl
kind_net OutputWire h = refl
kind_net OutputRegister h = refl
kind_net Wire h = refl
kind_net Register h = refl
kind_net (Memory bits) h = absurd h

pub memory_kind : (k : Kind) (a : ℕ) → is_memory_kind k ≡ true → address_kind k ≡ a → IsMemory k a
memory_kind Input a h e = absurd cc
memory_kind OutputWire a h e = absurd cc
memory_kind OutputRegister a h e = absurd cc
memory_kind Wire a h e = absurd cc
memory_kind Register a h e = absurd cc
memory_kind (Memory bits) a h e = e

pub kind_memory : (k : Kind) (a : ℕ) → IsMemory k a → (is_memory_kind k ≡ true) × (address_kind k ≡ a)
kind_memory Input a h = absurd h
kind_memory OutputWire a h = absurd h
kind_memory OutputRegister a h = absurd h
kind_memory Wire a h = absurd h
kind_memory Register a h = absurd h
kind_memory (Memory bits) a h = (refl, h)

-- ---- operators

abbrev pub op_of : InfixOp → BinaryOp
op_of Times = Mul
op_of Added = Add
op_of Subtracted = Sub
op_of Below = Lt
op_of AtMost = Le
op_of Above = Gt
op_of AtLeast = Ge
op_of Equal = Eq
op_of NotEqual = Ne
op_of BitAnd = And
op_of BitXor = Xor
op_of BitOr = Or
op_of LogicalAnd = And
op_of LogicalOr = Or

abbrev pub width_taken : List Declaration → InfixOp → Expr → ℕ
width_taken ds op x = if takes_bits op then 1 else width_of ds x

pub infixed-is : (ds : List Declaration) (op : InfixOp) (x y : Expr) → infixed ds op x y ≡ Binary (op_of op) (width_taken ds op x) x y
infixed-is ds Times x y = refl
infixed-is ds Added x y = refl
infixed-is ds Subtracted x y = refl
infixed-is ds Below x y = refl
infixed-is ds AtMost x y = refl
infixed-is ds Above x y = refl
infixed-is ds AtLeast x y = refl
infixed-is ds Equal x y = refl
infixed-is ds NotEqual x y = refl
infixed-is ds BitAnd x y = refl
infixed-is ds BitXor x y = refl
infixed-is ds BitOr x y = refl
infixed-is ds LogicalAnd x y = refl
infixed-is ds LogicalOr x y = refl

pub after-is : (op : InfixOp) (w : ℕ) → width_after (op_of op) w ≡ (if gives_bit op then 1 else w)
after-is Times w = refl
after-is Added w = refl
after-is Subtracted w = refl
after-is Below w = refl
after-is AtMost w = refl
after-is Above w = refl
after-is AtLeast w = refl
after-is Equal w = refl
after-is NotEqual w = refl
after-is BitAnd w = refl
after-is BitXor w = refl
after-is BitOr w = refl
after-is LogicalAnd w = refl
after-is LogicalOr w = refl

pub taken-is : (b : Bool) (w l : ℕ) → w ≡ l → (not b || eqb l 1) ≡ true → (if b then 1 else w) ≡ l
taken-is true w l e h = sym (eqb-true l 1 h)
taken-is false w l e h = e

pub taken-met : (b : Bool) (w l : ℕ) → l ≡ (if b then 1 else w) → (not b || eqb l 1) ≡ true
taken-met true w l e = eq-eqb l 1 e
taken-met false w l e = refl

pub bit_small : (b : Bool) (w : ℕ) → w ≤ 128 → (if b then 1 else w) ≤ 128
bit_small true w h = omega arith
bit_small false w h = h

pub loose : (op : InfixOp) → looseness op ≤ 11
loose Times = omega arith
loose Added = omega arith
loose Subtracted = omega arith
loose Below = omega arith
loose AtMost = omega arith
loose Above = omega arith
loose AtLeast = omega arith
loose Equal = omega arith
loose NotEqual = omega arith
loose BitAnd = omega arith
loose BitXor = omega arith
loose BitOr = omega arith
loose LogicalAnd = omega arith
loose LogicalOr = omega arith
