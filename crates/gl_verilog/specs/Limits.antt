-- How deep and how long a written module may be.
use Rattle.std.specs.Prelude.{ℕ, ◌+◌, ◌≤◌, max}
use Rattle.std.specs.List.{AllByRecursion}
use Rattle.gl_verilog.specs.Written.{WrittenExpr, Named, Constant, BitOf, PartOf, WordOf, Braces, Parts, Parens, Prefix, Infix, Conditional, WrittenStatement, Update, UpdateWord, IfThen, IfElse, Block, Listed, Ended, WrittenItem, Wires, Registers, MemoryOf, Assign, Always, WrittenModule}

-- how many of `( [ {` are open at once in an expression
abbrev pub depth_of : WrittenExpr → ℕ
depth_of (Named name) = 0
depth_of (Constant size radix digits) = 0
depth_of (BitOf name place) = 1
depth_of (PartOf name high low) = 1
depth_of (WordOf name address) = depth_of address + 1
depth_of (Braces parts) = depth_of parts + 1
depth_of (Parts first rest) = max (depth_of first) (depth_of rest)
depth_of (Parens inner) = depth_of inner + 1
depth_of (Prefix op arg) = depth_of arg
depth_of (Infix op left right) = max (depth_of left) (depth_of right)
depth_of (Conditional test yes' no') = max (depth_of test) (max (depth_of yes') (depth_of no'))

-- how many operators, `?` included, stand in an expression
abbrev pub operators_of : WrittenExpr → ℕ
operators_of (Named name) = 0
operators_of (Constant size radix digits) = 0
operators_of (BitOf name place) = 0
operators_of (PartOf name high low) = 0
operators_of (WordOf name address) = operators_of address
operators_of (Braces parts) = operators_of parts
operators_of (Parts first rest) = operators_of first + operators_of rest
operators_of (Parens inner) = operators_of inner
operators_of (Prefix op arg) = operators_of arg + 1
operators_of (Infix op left right) = operators_of left + operators_of right + 1
operators_of (Conditional test yes' no') = operators_of test + operators_of yes' + operators_of no' + 1

-- a whole expression has at most 1,024 operators
abbrev pub IsShort : WrittenExpr → Type 0
IsShort e = operators_of e ≤ 1024

-- how many of `( [ {` and `begin` are open at once in a statement
abbrev pub depth_in : WrittenStatement → ℕ
depth_in (Update target value) = depth_of value
depth_in (UpdateWord target address value) = max (depth_of address + 1) (depth_of value)
depth_in (IfThen test yes') = max (depth_of test + 1) (depth_in yes')
depth_in (IfElse test yes' no') = max (depth_of test + 1) (max (depth_in yes') (depth_in no'))
depth_in (Block statements) = depth_in statements + 1
depth_in (Listed first rest) = max (depth_in first) (depth_in rest)
depth_in Ended = 0

-- how many `if` stand in a statement
abbrev pub ifs_in : WrittenStatement → ℕ
ifs_in (Update target value) = 0
ifs_in (UpdateWord target address value) = 0
ifs_in (IfThen test yes') = ifs_in yes' + 1
ifs_in (IfElse test yes' no') = ifs_in yes' + ifs_in no' + 1
ifs_in (Block statements) = ifs_in statements
ifs_in (Listed first rest) = ifs_in first + ifs_in rest
ifs_in Ended = 0

-- each whole expression of a statement is short
abbrev pub AreShort : WrittenStatement → Type 0
AreShort (Update target value) = IsShort value
AreShort (UpdateWord target address value) = IsShort address × IsShort value
AreShort (IfThen test yes') = IsShort test × AreShort yes'
AreShort (IfElse test yes' no') = IsShort test × AreShort yes' × AreShort no'
AreShort (Block statements) = AreShort statements
AreShort (Listed first rest) = AreShort first × AreShort rest
AreShort Ended = Unit {0}

-- an item has at most 64 brackets and `begin` open at once and at most 1,024 `if`; of every other item
-- one bracket at most is open at once
abbrev pub KeepsLimits : WrittenItem → Type 0
KeepsLimits (Wires range names) = Unit {0}
KeepsLimits (Registers range names) = Unit {0}
KeepsLimits (MemoryOf range name last) = Unit {0}
KeepsLimits (Assign target value) = (depth_of value ≤ 64) × IsShort value
KeepsLimits (Always clock body) = (depth_in body ≤ 64) × (ifs_in body ≤ 1024) × AreShort body

-- every item of a module keeps the limits of depth and length
abbrev pub IsWithinLimits : WrittenModule → Type 0
IsWithinLimits m = AllByRecursion KeepsLimits m.items
