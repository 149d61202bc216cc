-- A module as it is written: names, brackets, ranges and order included; and how it is spelled in tokens.
-- After IEEE 1364-2005, annex A (formal syntax definition), cut down to the subset.
use Rattle.std.specs.Prelude.{◌≡◌, ℕ, ◌<◌, ◌≤◌, Bool, true, false, List, [], ◌∷◌, ◌++◌, Option, Some, None, codes}
use Rattle.std.specs.List.{AllByRecursion}
use Rattle.gl_verilog.specs.Tokens.{Token, Reserved, Name, Number, Sized, Mark, ModuleWord, EndModuleWord, InputWord, OutputWord, WireWord, RegWord, AssignWord, AlwaysWord, PosedgeWord, BeginWord, EndWord, IfWord, ElseWord, OpenParen, CloseParen, OpenBracket, CloseBracket, OpenBrace, CloseBrace, Semicolon, Comma, Colon, Question, At, Equals, Tilde, Exclamation, Star, Plus, Minus, Less, Greater, Ampersand, Caret, Bar, LessEquals, GreaterEquals, EqualsEquals, ExclamationEquals, AmpersandAmpersand, BarBar}

-- ---- expressions

-- ~ and !
pub data PrefixOp : Type 0 where
  BitNot : PrefixOp
  LogicalNot : PrefixOp

-- * + - < <= > >= == != & ^ | && ||
pub data InfixOp : Type 0 where
  Times : InfixOp
  Added : InfixOp
  Subtracted : InfixOp
  Below : InfixOp
  AtMost : InfixOp
  Above : InfixOp
  AtLeast : InfixOp
  Equal : InfixOp
  NotEqual : InfixOp
  BitAnd : InfixOp
  BitXor : InfixOp
  BitOr : InfixOp
  LogicalAnd : InfixOp
  LogicalOr : InfixOp

-- an expression; `Parts first rest` stands inside braces alone, where the parts of a concatenation are listed
pub data WrittenExpr : Type 0 where
  Named : (name : List ℕ) → WrittenExpr
  Constant : (size : List ℕ) (radix : ℕ) (digits : List ℕ) → WrittenExpr
  BitOf : (name place : List ℕ) → WrittenExpr
  PartOf : (name high low : List ℕ) → WrittenExpr
  WordOf : (name : List ℕ) (address : WrittenExpr) → WrittenExpr
  Braces : (parts : WrittenExpr) → WrittenExpr
  Parts : (first rest : WrittenExpr) → WrittenExpr
  Parens : (inner : WrittenExpr) → WrittenExpr
  Prefix : (op : PrefixOp) (arg : WrittenExpr) → WrittenExpr
  Infix : (op : InfixOp) (left right : WrittenExpr) → WrittenExpr
  Conditional : (test yes' no' : WrittenExpr) → WrittenExpr

-- how loosely a binary operator binds; a prefix operator is at 1, the conditional at 11, a list of parts at 12
abbrev pub looseness : InfixOp → ℕ
looseness Times = 2
looseness Added = 3
looseness Subtracted = 3
looseness Below = 4
looseness AtMost = 4
looseness Above = 4
looseness AtLeast = 4
looseness Equal = 5
looseness NotEqual = 5
looseness BitAnd = 6
looseness BitXor = 7
looseness BitOr = 8
looseness LogicalAnd = 9
looseness LogicalOr = 10

-- how loosely an expression binds, from 0 for what stands alone to 12 for a list of parts
abbrev pub level : WrittenExpr → ℕ
level (Named name) = 0
level (Constant size radix digits) = 0
level (BitOf name place) = 0
level (PartOf name high low) = 0
level (WordOf name address) = 0
level (Braces parts) = 0
level (Parts first rest) = 12
level (Parens inner) = 0
level (Prefix op arg) = 1
level (Infix op left right) = looseness op
level (Conditional test yes' no') = 11

-- the grammar: binary operators associate to the left, the conditional to the right
abbrev pub IsGrouped : WrittenExpr → Type 0
IsGrouped (Named name) = Unit {0}
IsGrouped (Constant size radix digits) = Unit {0}
IsGrouped (BitOf name place) = Unit {0}
IsGrouped (PartOf name high low) = Unit {0}
IsGrouped (WordOf name address) = (level address ≤ 11) × IsGrouped address
IsGrouped (Braces parts) = IsGrouped parts
IsGrouped (Parts first rest) = (level first ≤ 11) × IsGrouped first × IsGrouped rest
IsGrouped (Parens inner) = (level inner ≤ 11) × IsGrouped inner
IsGrouped (Prefix op arg) = (level arg ≤ 1) × IsGrouped arg
IsGrouped (Infix op left right) =
    (level left ≤ looseness op) × (level right < looseness op) × IsGrouped left × IsGrouped right
IsGrouped (Conditional test yes' no') =
    (level test ≤ 10) × (level yes' ≤ 11) × (level no' ≤ 11) × IsGrouped test × IsGrouped yes' × IsGrouped no'

-- a whole expression
abbrev pub IsExpr : WrittenExpr → Type 0
IsExpr e = (level e ≤ 11) × IsGrouped e

-- the sign of a prefix operator
abbrev pub prefix_token : PrefixOp → Token
prefix_token BitNot = Mark Tilde
prefix_token LogicalNot = Mark Exclamation

-- the sign that an operator between two operands is written with
abbrev pub infix_token : InfixOp → Token
infix_token Times = Mark Star
infix_token Added = Mark Plus
infix_token Subtracted = Mark Minus
infix_token Below = Mark Less
infix_token AtMost = Mark LessEquals
infix_token Above = Mark Greater
infix_token AtLeast = Mark GreaterEquals
infix_token Equal = Mark EqualsEquals
infix_token NotEqual = Mark ExclamationEquals
infix_token BitAnd = Mark Ampersand
infix_token BitXor = Mark Caret
infix_token BitOr = Mark Bar
infix_token LogicalAnd = Mark AmpersandAmpersand
infix_token LogicalOr = Mark BarBar

-- the tokens of an expression, with the brackets that it is written with and no others
abbrev pub spell_expr : WrittenExpr → List Token
spell_expr (Named name) = Name name ∷ []
spell_expr (Constant size radix digits) = Sized size radix digits ∷ []
spell_expr (BitOf name place) = Name name ∷ Mark OpenBracket ∷ Number place ∷ Mark CloseBracket ∷ []
spell_expr (PartOf name high low) =
    Name name ∷ Mark OpenBracket ∷ Number high ∷ Mark Colon ∷ Number low ∷ Mark CloseBracket ∷ []
spell_expr (WordOf name address) = Name name ∷ Mark OpenBracket ∷ (spell_expr address ++ Mark CloseBracket ∷ [])
spell_expr (Braces parts) = Mark OpenBrace ∷ (spell_expr parts ++ Mark CloseBrace ∷ [])
spell_expr (Parts first rest) = spell_expr first ++ Mark Comma ∷ spell_expr rest
spell_expr (Parens inner) = Mark OpenParen ∷ (spell_expr inner ++ Mark CloseParen ∷ [])
spell_expr (Prefix op arg) = prefix_token op ∷ spell_expr arg
spell_expr (Infix op left right) = spell_expr left ++ infix_token op ∷ spell_expr right
spell_expr (Conditional test yes' no') =
    spell_expr test ++ Mark Question ∷ (spell_expr yes' ++ Mark Colon ∷ spell_expr no')

-- ---- statements

-- a statement; `Listed first rest` and `Ended` stand inside `begin .. end` alone
pub data WrittenStatement : Type 0 where
  Update : (target : List ℕ) (value : WrittenExpr) → WrittenStatement
  UpdateWord : (target : List ℕ) (address value : WrittenExpr) → WrittenStatement
  IfThen : (test : WrittenExpr) (yes' : WrittenStatement) → WrittenStatement
  IfElse : (test : WrittenExpr) (yes' no' : WrittenStatement) → WrittenStatement
  Block : (statements : WrittenStatement) → WrittenStatement
  Listed : (first rest : WrittenStatement) → WrittenStatement
  Ended : WrittenStatement

-- the list of these statements
abbrev pub listed : List WrittenStatement → WrittenStatement
listed [] = Ended
listed (s ∷ ss) = Listed s (listed ss)

-- whether it ends with an `if` to which a further `else` would belong
abbrev pub ends_open : WrittenStatement → Bool
ends_open (Update target value) = false
ends_open (UpdateWord target address value) = false
ends_open (IfThen test yes') = true
ends_open (IfElse test yes' no') = ends_open no'
ends_open (Block statements) = false
ends_open (Listed first rest) = false
ends_open Ended = false

-- one statement, or the list inside a block
pub data Place : Type 0 where
  Single : Place
  InBlock : Place

-- the grammar; an `else` belongs to the nearest `if`
abbrev pub IsStatementAt : Place → WrittenStatement → Type 0
IsStatementAt Single (Update target value) = IsExpr value
IsStatementAt Single (UpdateWord target address value) = IsExpr address × IsExpr value
IsStatementAt Single (IfThen test yes') = IsExpr test × IsStatementAt Single yes'
IsStatementAt Single (IfElse test yes' no') =
    IsExpr test × (ends_open yes' ≡ false) × IsStatementAt Single yes' × IsStatementAt Single no'
IsStatementAt Single (Block statements) = IsStatementAt InBlock statements
IsStatementAt Single (Listed first rest) = ⊥
IsStatementAt Single Ended = ⊥
IsStatementAt InBlock (Listed first rest) = IsStatementAt Single first × IsStatementAt InBlock rest
IsStatementAt InBlock Ended = Unit {0}
IsStatementAt InBlock (Update target value) = ⊥
IsStatementAt InBlock (UpdateWord target address value) = ⊥
IsStatementAt InBlock (IfThen test yes') = ⊥
IsStatementAt InBlock (IfElse test yes' no') = ⊥
IsStatementAt InBlock (Block statements) = ⊥

-- a statement written by the grammar that stands for itself and not for a list
abbrev pub IsStatement : WrittenStatement → Type 0
IsStatement s = IsStatementAt Single s

-- the tokens of a statement: targets, `<=`, conditions, branches, and `begin` and `end` around lists
abbrev pub spell_statement : WrittenStatement → List Token
spell_statement (Update target value) = Name target ∷ Mark LessEquals ∷ (spell_expr value ++ Mark Semicolon ∷ [])
spell_statement (UpdateWord target address value) =
    Name target ∷ Mark OpenBracket ∷ (spell_expr address ++ Mark CloseBracket ∷ Mark LessEquals
    ∷ (spell_expr value ++ Mark Semicolon ∷ []))
spell_statement (IfThen test yes') =
    Reserved IfWord ∷ Mark OpenParen ∷ (spell_expr test ++ Mark CloseParen ∷ spell_statement yes')
spell_statement (IfElse test yes' no') =
    Reserved IfWord ∷ Mark OpenParen ∷ (spell_expr test ++ Mark CloseParen
    ∷ (spell_statement yes' ++ Reserved ElseWord ∷ spell_statement no'))
spell_statement (Block statements) = Reserved BeginWord ∷ (spell_statement statements ++ Reserved EndWord ∷ [])
spell_statement (Listed first rest) = spell_statement first ++ spell_statement rest
spell_statement Ended = []

-- ---- ports and items

-- input, input wire, output, output wire, output reg
pub data Direction : Type 0 where
  In : Direction
  InWire : Direction
  Out : Direction
  OutWire : Direction
  OutReg : Direction

-- the highest bit of a range `[h:0]`, in digits; None where there is no range
abbrev pub Range : Type 0
Range = Option (List ℕ)

-- a port of the header: its direction, its range if it is a vector, and its name
pub record WrittenPort : Type 0 where
  pub direction : Direction
  pub range : Range
  pub name : List ℕ

-- an item of a module: wires, registers, a memory up to its last address, an assignment, or a clocked block
pub data WrittenItem : Type 0 where
  Wires : (range : Range) (names : List (List ℕ)) → WrittenItem
  Registers : (range : Range) (names : List (List ℕ)) → WrittenItem
  MemoryOf : (range : Range) (name last : List ℕ) → WrittenItem
  Assign : (target : List ℕ) (value : WrittenExpr) → WrittenItem
  Always : (clock : List ℕ) (body : WrittenStatement) → WrittenItem

-- a module as it is written: its name, its ports in order, and its items in order
pub record WrittenModule : Type 0 where
  pub name : List ℕ
  pub ports : List WrittenPort
  pub items : List WrittenItem

-- the words of a port's direction, `wire` or `reg` included where they are written
abbrev pub spell_direction : Direction → List Token
spell_direction In = Reserved InputWord ∷ []
spell_direction InWire = Reserved InputWord ∷ Reserved WireWord ∷ []
spell_direction Out = Reserved OutputWord ∷ []
spell_direction OutWire = Reserved OutputWord ∷ Reserved WireWord ∷ []
spell_direction OutReg = Reserved OutputWord ∷ Reserved RegWord ∷ []

-- the digit 0, which ends every range
abbrev pub zero_digit : List ℕ
zero_digit = codes "0"

-- a range in brackets from its high bit to 0, or nothing for a single bit
abbrev pub spell_range : Range → List Token
spell_range None = []
spell_range (Some high) = Mark OpenBracket ∷ Number high ∷ Mark Colon ∷ Number zero_digit ∷ Mark CloseBracket ∷ []

-- the tokens of a port: direction, range and name
abbrev pub spell_port : WrittenPort → List Token
spell_port p = spell_direction p.direction ++ (spell_range p.range ++ Name p.name ∷ [])

-- ports with a comma between each two; those behind the first have it before them
abbrev pub spell_more_ports : List WrittenPort → List Token
spell_more_ports [] = []
spell_more_ports (p ∷ ps) = Mark Comma ∷ (spell_port p ++ spell_more_ports ps)

-- the tokens of a header's ports, with commas between
abbrev pub spell_ports : List WrittenPort → List Token
spell_ports [] = []
spell_ports (p ∷ ps) = spell_port p ++ spell_more_ports ps

-- the tokens of further names, each behind a comma
abbrev pub spell_more_names : List (List ℕ) → List Token
spell_more_names [] = []
spell_more_names (n ∷ ns) = Mark Comma ∷ Name n ∷ spell_more_names ns

-- the tokens of the names of one declaration, with commas between
abbrev pub spell_names : List (List ℕ) → List Token
spell_names [] = []
spell_names (n ∷ ns) = Name n ∷ spell_more_names ns

-- the tokens of an item, from its keyword to its semicolon or the end of its body
abbrev pub spell_item : WrittenItem → List Token
spell_item (Wires range names) = Reserved WireWord ∷ (spell_range range ++ (spell_names names ++ Mark Semicolon ∷ []))
spell_item (Registers range names) =
    Reserved RegWord ∷ (spell_range range ++ (spell_names names ++ Mark Semicolon ∷ []))
spell_item (MemoryOf range name last) =
    Reserved RegWord ∷ (spell_range range ++ Name name ∷ Mark OpenBracket ∷ Number zero_digit ∷ Mark Colon ∷ Number last
    ∷ Mark CloseBracket ∷ Mark Semicolon ∷ [])
spell_item (Assign target value) =
    Reserved AssignWord ∷ Name target ∷ Mark Equals ∷ (spell_expr value ++ Mark Semicolon ∷ [])
spell_item (Always clock body) =
    Reserved AlwaysWord ∷ Mark At ∷ Mark OpenParen ∷ Reserved PosedgeWord ∷ Name clock ∷ Mark CloseParen
    ∷ spell_statement body

-- the tokens of all items, one behind the other
abbrev pub spell_items : List WrittenItem → List Token
spell_items [] = []
spell_items (i ∷ is) = spell_item i ++ spell_items is

-- the tokens of a whole module, from `module` to `endmodule`
abbrev pub spell : WrittenModule → List Token
spell m =
    Reserved ModuleWord ∷ Name m.name ∷ Mark OpenParen
    ∷ (spell_ports m.ports ++ Mark CloseParen ∷ Mark Semicolon ∷ (spell_items m.items ++ Reserved EndModuleWord ∷ []))

-- one or more
abbrev pub IsNonempty : {A : Type 0} → List A → Type 0
IsNonempty [] = ⊥
IsNonempty (x ∷ xs) = Unit {0}

-- the grammar of an item
abbrev pub IsItem : WrittenItem → Type 0
IsItem (Wires range names) = IsNonempty names
IsItem (Registers range names) = IsNonempty names
IsItem (MemoryOf range name last) = Unit {0}
IsItem (Assign target value) = IsExpr value
IsItem (Always clock body) = IsStatement body

-- expressions and statements are grouped as the grammar groups them, and lists of names and of ports are not empty; the
-- rest of the grammar is in the spelling
pub record IsWritten (m : WrittenModule) : Type 0 where
  pub ports : IsNonempty m.ports
  pub items : AllByRecursion IsItem m.items
