-- How a written module is judged and resolved by one pass from left to right, with an exit at the first demand that is
-- not met.
use Rattle.std.specs.Prelude.{ℕ, ◌+◌, ◌-◌, ◌^◌, Bool, true, false, not, ◌&&◌, ◌||◌, List, [], ◌∷◌, ◌++◌, drop, length, fold, Option, Some, None, option_map, option_and_then, Result, Ok, Err, slice_get, nat_eq, nat_le, nat_lt, if◌then◌else◌}
use Rattle.gl_verilog.specs.Tokens.{number_in}
use Rattle.gl_verilog.specs.Module.{Declaration, Kind, BinaryOp, Add, Sub, Mul, And, Xor, Or, Eq, Ne, Lt, Le, Gt, Ge, Expr, Net, Literal, Invert, Binary, Choose, Join, Select, Read, Statement, Nothing, Put, Write, Both, If, number_of}
use Rattle.gl_verilog.specs.Written.{PrefixOp, InfixOp, Times, Added, Subtracted, Below, AtMost, Above, AtLeast, Equal, NotEqual, BitAnd, BitXor, BitOr, LogicalAnd, LogicalOr, WrittenExpr, Named, Constant, BitOf, PartOf, WordOf, Braces, Parts, Parens, Prefix, Infix, Conditional, WrittenStatement, Update, UpdateWord, IfThen, IfElse, Block, Listed, Ended}
use Rattle.gl_verilog.specs.Resolve.{is_memory_kind, decimal_number}
use Rattle.gl_verilog_faults.specs.Demands.{Rule, Undeclared, TwiceDriven, WidthsDiffer, BadMemory, ClockRead, TooWide, BadTarget, address_kind, is_clocked_kind, is_clock_name, is_among, gives_bit, takes_bits, takes_prefix}

-- ---- what is broken, and going on where nothing is

-- a rule, and the number of the token that shows it
pub record Broken : Type 0 where
  pub rule : Rule
  pub token : ℕ

-- a rule is broken at this token
abbrev pub breaks : {A : Type 0} → Rule → ℕ → Result A Broken
breaks rule token = Err (record { rule = rule; token = token })

-- goes on with a result where no rule is broken
abbrev pub then' : {A B : Type 0} → Result A Broken → (A → Result B Broken) → Result B Broken
then' (Ok x) next = next x
then' (Err b) next = Err b

-- goes on where a demand is met
abbrev pub asks : {A : Type 0} → Rule → ℕ → Bool → Result A Broken → Result A Broken
asks rule token true next = next
asks rule token false next = breaks rule token

-- ---- names

-- the number of a declaration, and what it says but its name
pub record Known : Type 0 where
  pub number : ℕ
  pub width : ℕ
  pub is_vector : Bool
  pub kind : Kind

-- what a declaration of this number says but its name
abbrev pub known_as : ℕ → Declaration → Known
known_as n d = record { number = n; width = d.width; is_vector = d.is_vector; kind = d.kind }

-- what the declaration of this number says, if there is one
abbrev pub known_at : List Declaration → ℕ → Option Known
known_at ds n = option_map (known_as n) (slice_get ds n)

-- what is declared under a name, if anything is
abbrev pub known : List Declaration → List ℕ → Option Known
known ds name = option_and_then (known_at ds) (number_of ds name)

-- what is there, or else a rule that is broken at this token
abbrev pub or_breaks : {A : Type 0} → Rule → ℕ → Option A → Result A Broken
or_breaks rule token None = breaks rule token
or_breaks rule token (Some x) = Ok x

-- a name at a target or at a clock is declared
abbrev pub named : List Declaration → ℕ → List ℕ → Result Known Broken
named ds k name = or_breaks Undeclared k (known ds name)

-- a name that an expression reads is declared and is not the clock
abbrev pub read : List Declaration → ℕ → List ℕ → Result Known Broken
read ds k name = then' (named ds k name) (λ d. asks ClockRead k (not (is_clock_name name)) (Ok d))

-- ---- expressions

-- what an expression means, its width, and the number of the token behind it
pub record Typed : Type 0 where
  pub expr : Expr
  pub width : ℕ
  pub end : ℕ

-- an expression of this width that ends before this token
abbrev pub typed : Expr → ℕ → ℕ → Typed
typed expr width end = record { expr = expr; width = width; end = end }

-- one token more is behind it
abbrev pub closed : Typed → Typed
closed t = typed t.expr t.width (t.end + 1)

-- a name in an expression is a net that may be read, and no memory
abbrev pub judged_net : List Declaration → ℕ → List ℕ → Result Typed Broken
judged_net ds k name =
    then' (read ds k name) (λ d. asks BadMemory k (not (is_memory_kind d.kind))
    (Ok (typed (Net d.number) d.width (k + 1))))

-- a literal has at least one bit, its value fits, and it has at most 128 bits
abbrev pub judged_literal : ℕ → List ℕ → ℕ → List ℕ → Result Typed Broken
judged_literal k size radix digits =
    asks WidthsDiffer k (nat_le 1 (decimal_number size) && nat_lt (number_in radix digits) (2 ^ decimal_number size))
    (asks TooWide k (nat_le (decimal_number size) 128)
    (Ok (typed (Literal (number_in radix digits) (decimal_number size)) (decimal_number size) (k + 1))))

-- bits of a declared vector that is no memory, within its width
abbrev pub judged_select : List Declaration → ℕ → List ℕ → ℕ → ℕ → ℕ → Result Typed Broken
judged_select ds k name high low end =
    then' (read ds k name) (λ d. asks BadMemory k (not (is_memory_kind d.kind))
    (asks WidthsDiffer k (d.is_vector && (nat_le low high && nat_lt high d.width))
    (Ok (typed (Select high low d.number) (high + 1 - low) end))))

-- a name that is read as a memory is one
abbrev pub judged_memory : List Declaration → ℕ → List ℕ → Result Known Broken
judged_memory ds k name = then' (read ds k name) (λ d. asks BadMemory k (is_memory_kind d.kind) (Ok d))

-- a word of a memory, where the address is as wide as its addresses
abbrev pub judged_word : ℕ → Known → Typed → Result Typed Broken
judged_word k d a =
    asks BadMemory k (nat_eq (address_kind d.kind) a.width) (Ok (typed (Read d.number a.expr) d.width (a.end + 1)))

-- parts in braces have at most 128 bits together
abbrev pub judged_braces : ℕ → Typed → Result Typed Broken
judged_braces k t = asks TooWide k (nat_le t.width 128) (Ok (closed t))

-- the first of two parts above the second
abbrev pub joined : Typed → Typed → Typed
joined a b = typed (Join b.width a.expr b.expr) (a.width + b.width) b.end

-- a prefix operator takes an operand of this width and keeps the width
abbrev pub judged_prefix : ℕ → PrefixOp → Typed → Result Typed Broken
judged_prefix k op a = asks WidthsDiffer k (takes_prefix op a.width) (Ok (typed (Invert a.width a.expr) a.width a.end))

-- the operator that is meant
abbrev pub op_meant : InfixOp → BinaryOp
op_meant Times = Mul
op_meant Added = Add
op_meant Subtracted = Sub
op_meant Below = Lt
op_meant AtMost = Le
op_meant Above = Gt
op_meant AtLeast = Ge
op_meant Equal = Eq
op_meant NotEqual = Ne
op_meant BitAnd = And
op_meant BitXor = Xor
op_meant BitOr = Or
op_meant LogicalAnd = And
op_meant LogicalOr = Or

-- comparisons give one bit, all other operators the width of their operands
abbrev pub infix_width : InfixOp → ℕ → ℕ
infix_width op w = if gives_bit op then 1 else w

-- both operands are equally wide, and of one bit where the operator is logical
abbrev pub judged_infix : InfixOp → Typed → Typed → Result Typed Broken
judged_infix op a b =
    asks WidthsDiffer a.end (nat_eq a.width b.width && (not (takes_bits op) || nat_eq a.width 1))
    (Ok (typed (Binary (op_meant op) a.width a.expr b.expr) (infix_width op a.width) b.end))

-- the test is one bit, and both sides are equally wide
abbrev pub judged_choice : Typed → Typed → Typed → Result Typed Broken
judged_choice t a b =
    asks WidthsDiffer t.end (nat_eq t.width 1 && nat_eq a.width b.width)
    (Ok (typed (Choose t.expr a.expr b.expr) a.width b.end))

-- an expression whose first token has the number k
abbrev pub judged_expr : List Declaration → ℕ → WrittenExpr → Result Typed Broken
judged_expr ds k (Named name) = judged_net ds k name
judged_expr ds k (Constant size radix digits) = judged_literal k size radix digits
judged_expr ds k (BitOf name place) = judged_select ds k name (decimal_number place) (decimal_number place) (k + 4)
judged_expr ds k (PartOf name high low) = judged_select ds k name (decimal_number high) (decimal_number low) (k + 6)
judged_expr ds k (WordOf name address) =
    then' (judged_memory ds k name) (λ d. then' (judged_expr ds (k + 2) address) (judged_word k d))
judged_expr ds k (Braces parts) = then' (judged_expr ds (k + 1) parts) (judged_braces k)
judged_expr ds k (Parts first rest) =
    then' (judged_expr ds k first) (λ a. then' (judged_expr ds (a.end + 1) rest) (λ b. Ok (joined a b)))
judged_expr ds k (Parens inner) = then' (judged_expr ds (k + 1) inner) (λ t. Ok (closed t))
judged_expr ds k (Prefix op arg) = then' (judged_expr ds (k + 1) arg) (judged_prefix k op)
judged_expr ds k (Infix op left right) =
    then' (judged_expr ds k left) (λ a. then' (judged_expr ds (a.end + 1) right) (judged_infix op a))
judged_expr ds k (Conditional test yes' no') =
    then' (judged_expr ds k test) (λ t. then' (judged_expr ds (t.end + 1) yes')
    (λ a. then' (judged_expr ds (a.end + 1) no') (judged_choice t a)))

-- the parts in braces, one after another; the first has the number k
abbrev pub judged_parts : List Declaration → ℕ → List WrittenExpr → Result (List Typed) Broken
judged_parts ds k [] = Ok []
judged_parts ds k (p ∷ ps) =
    then' (judged_expr ds k p) (λ t. then' (judged_parts ds (t.end + 1) ps) (λ ts. Ok (t ∷ ts)))

-- the bits of parts together
abbrev pub widths_of : List Typed → ℕ
widths_of [] = 0
widths_of (t ∷ ts) = t.width + widths_of ts

-- parts above a last one
abbrev pub joined_on : List Typed → Typed → Typed
joined_on [] last = last
joined_on (t ∷ ts) last = joined t (joined_on ts last)

-- ---- statements

-- the names that have a driver: of earlier items, of this block too, of earlier statements of the lists that are open
-- (sets); and those of this block, in the order of the text
pub record Drivers : Type 0 where
  pub done : List (List ℕ)
  pub all : List (List ℕ)
  pub beside : List (List ℕ)
  pub before : List (List ℕ)

-- nothing is driven yet
abbrev pub no_drivers : Drivers
no_drivers = record { done = []; all = []; beside = []; before = [] }

-- a set with one name more
abbrev pub with_name : List (List ℕ) → List ℕ → List (List ℕ)
with_name names n = if is_among n names then names else names ++ n ∷ []

-- one name more has a driver in this block
abbrev pub driven : Drivers → List ℕ → Drivers
driven v n = record v { all = with_name v.all n; before = v.before ++ n ∷ [] }

-- a statement of a list stands beside those behind it
abbrev pub passed_by : ℕ → Drivers → Drivers
passed_by from v = record v { beside = fold with_name v.beside (drop from v.before) }

-- a list is closed
abbrev pub left_list : List (List ℕ) → Drivers → Drivers
left_list beside v = record v { beside = beside }

-- what a statement means, the number of the token behind it, and what has a driver then
pub record Stated : Type 0 where
  pub statement : Statement
  pub end : ℕ
  pub drivers : Drivers

-- a statement that ends before this token, and what is driven behind it
abbrev pub stated : Statement → ℕ → Drivers → Stated
stated statement end drivers = record { statement = statement; end = end; drivers = drivers }

-- the number of a register that a block drives, at a token, for a value of this width
abbrev pub put_target : List Declaration → Drivers → ℕ → List ℕ → ℕ → Result ℕ Broken
put_target ds v k target width =
    then' (named ds k target) (λ d. asks BadTarget k (is_clocked_kind d.kind)
    (asks BadMemory k (not (is_memory_kind d.kind))
    (asks TwiceDriven k (not (is_among target v.done) && not (is_among target v.beside))
    (asks WidthsDiffer k (nat_eq d.width width) (Ok d.number)))))

-- a memory may be written here at an address of this width, with words of this width
abbrev pub write_target : List Declaration → Drivers → ℕ → List ℕ → ℕ → ℕ → Result ℕ Broken
write_target ds v k target address width =
    then' (named ds k target) (λ d. asks BadTarget k (is_clocked_kind d.kind)
    (asks BadMemory k (is_memory_kind d.kind && nat_eq (address_kind d.kind) address)
    (asks TwiceDriven k (not (is_among target v.all)) (asks WidthsDiffer k (nat_eq d.width width) (Ok d.number)))))

-- a value is assigned to a register, where it may be
abbrev pub judged_put : List Declaration → Drivers → ℕ → List ℕ → Typed → Result Stated Broken
judged_put ds v k target t =
    then' (put_target ds v k target t.width) (λ n. Ok (stated (Put n t.expr) (t.end + 1) (driven v target)))

-- a value is written to a word of a memory, where it may be
abbrev pub judged_write : List Declaration → Drivers → ℕ → List ℕ → Typed → Typed → Result Stated Broken
judged_write ds v k target a t =
    then' (write_target ds v k target a.width t.width)
    (λ n. Ok (stated (Write n a.expr t.expr) (t.end + 1) (driven v target)))

-- the condition of an `if`, which has the number k
abbrev pub judged_test : List Declaration → ℕ → WrittenExpr → Result Typed Broken
judged_test ds k test = then' (judged_expr ds (k + 2) test) (λ t. asks WidthsDiffer k (nat_eq t.width 1) (Ok t))

-- a statement whose first token has the number k
abbrev pub judged_in : List Declaration → Drivers → ℕ → WrittenStatement → Result Stated Broken
judged_in ds v k (Update target value) = then' (judged_expr ds (k + 2) value) (judged_put ds v k target)
judged_in ds v k (UpdateWord target address value) =
    then' (judged_expr ds (k + 2) address) (λ a. then' (judged_expr ds (a.end + 2) value)
    (judged_write ds v k target a))
judged_in ds v k (IfThen test yes') =
    then' (judged_test ds k test) (λ t. then' (judged_in ds v (t.end + 1) yes')
    (λ a. Ok (stated (If t.expr a.statement Nothing) a.end a.drivers)))
judged_in ds v k (IfElse test yes' no') =
    then' (judged_test ds k test) (λ t. then' (judged_in ds v (t.end + 1) yes')
    (λ a. then' (judged_in ds a.drivers (a.end + 1) no')
    (λ b. Ok (stated (If t.expr a.statement b.statement) b.end b.drivers))))
judged_in ds v k (Block statements) =
    then' (judged_in ds v (k + 1) statements) (λ a. Ok (stated a.statement (a.end + 1) (left_list v.beside a.drivers)))
judged_in ds v k (Listed first rest) =
    then' (judged_in ds v k first) (λ a. then' (judged_in ds (passed_by (length v.before) a.drivers) a.end rest)
    (λ b. Ok (stated (Both a.statement b.statement) b.end b.drivers)))
judged_in ds v k Ended = Ok (stated Nothing k v)
