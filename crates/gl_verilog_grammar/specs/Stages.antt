-- Where the reading of a module stands, what is open on a stack, top first, and what a token or an operand makes of
-- both.
use Rattle.std.specs.Prelude.{ℕ, ◌+◌, Bool, true, false, List, [], ◌∷◌, ◌++◌, Option, Some, None, option_map, nat_eq, nat_le, if◌then◌else◌}
use Rattle.std.specs.Str.{bytes_eq}
use Rattle.gl_verilog.specs.Tokens.{Token, Reserved, Name, Number, Mark, Keyword, ModuleWord, EndModuleWord, InputWord, OutputWord, WireWord, RegWord, AssignWord, AlwaysWord, PosedgeWord, BeginWord, EndWord, IfWord, ElseWord, Sign, OpenParen, CloseParen, OpenBracket, CloseBracket, OpenBrace, CloseBrace, Semicolon, Comma, Colon, Question, At, Equals, Tilde, Exclamation, Star, Plus, Minus, Less, Greater, Ampersand, Caret, Bar, LessEquals, GreaterEquals, EqualsEquals, ExclamationEquals, AmpersandAmpersand, BarBar}
use Rattle.gl_verilog.specs.Written.{PrefixOp, InfixOp, Times, Added, Subtracted, Below, AtMost, Above, AtLeast, Equal, NotEqual, BitAnd, BitXor, BitOr, LogicalAnd, LogicalOr, WrittenExpr, Named, WordOf, Braces, Parts, Parens, Prefix, Infix, Conditional, looseness, WrittenStatement, Update, UpdateWord, IfThen, IfElse, Block, Direction, In, InWire, Out, OutWire, OutReg, Range, WrittenItem, Wires, Registers, Assign, Always, zero_digit, listed}

-- what is open: brackets, operators that wait for their right side, the beginnings of items and statements
pub data Frame : Type 0 where
  InParens : Frame
  InBraces : (parts : List WrittenExpr) → Frame
  InIndex : (name : List ℕ) → Frame
  PrefixOf : (op : PrefixOp) → Frame
  InfixOf : (op : InfixOp) (left : WrittenExpr) → Frame
  TestOf : (test : WrittenExpr) → Frame
  ColonOf : (test yes' : WrittenExpr) → Frame
  AssignTo : (target : List ℕ) → Frame
  UpdateTo : (target : List ℕ) → Frame
  AddressFor : (target : List ℕ) → Frame
  UpdateWordTo : (target : List ℕ) (address : WrittenExpr) → Frame
  IfTest : Frame
  ThenOf : (test : WrittenExpr) → Frame
  ElseOf : (test : WrittenExpr) (yes' : WrittenStatement) → Frame
  InBegin : (done : List WrittenStatement) → Frame
  BodyOf : (clock : List ℕ) → Frame

-- what a list of names declares
pub data Sort : Type 0 where
  WireSort : Sort
  RegisterSort : Sort

-- what a range and a name belong to
pub data Owner : Type 0 where
  OfPort : (direction : Direction) → Owner
  OfItem : (sort : Sort) → Owner

-- what was read last, or is wanted next
pub data Stage : Type 0 where
  WantModule : Stage
  WantTitle : Stage
  WantPorts : Stage
  WantPort : Stage
  Declaring : (owner : Owner) → Stage
  WantHigh : (owner : Owner) → Stage
  WantColon : (owner : Owner) (high : List ℕ) → Stage
  WantZero : (owner : Owner) (high : List ℕ) → Stage
  WantClose : (owner : Owner) (high : List ℕ) → Stage
  WantName : (owner : Owner) (range : Range) → Stage
  AfterPort : Stage
  AfterPorts : Stage
  AfterName : (sort : Sort) (range : Range) (names : List (List ℕ)) → Stage
  WantMore : (sort : Sort) (range : Range) (names : List (List ℕ)) → Stage
  WantFirst : (range : Range) (name : List ℕ) → Stage
  WantMemoryColon : (range : Range) (name : List ℕ) → Stage
  WantLast : (range : Range) (name : List ℕ) → Stage
  WantMemoryClose : (range : Range) (name last : List ℕ) → Stage
  WantMemoryEnd : (range : Range) (name last : List ℕ) → Stage
  WantItem : Stage
  WantAssigned : Stage
  WantEquals : (target : List ℕ) → Stage
  WantAt : Stage
  WantEdge : Stage
  WantPosedge : Stage
  WantClock : Stage
  WantEdgeEnd : (clock : List ℕ) → Stage
  WantStatement : Stage
  AfterTarget : (target : List ℕ) → Stage
  WantArrow : (target : List ℕ) (address : WrittenExpr) → Stage
  WantTest : Stage
  HaveStatement : (s : WrittenStatement) → Stage
  WantOperand : Stage
  HaveOperand : (e : WrittenExpr) → Stage
  AtIndex : (name : List ℕ) → Stage
  AtPlace : (name place : List ℕ) → Stage
  WantLow : (name high : List ℕ) → Stage
  AtPart : (name high low : List ℕ) → Stage
  Complete : Stage

-- ---- tests of tokens

-- the number of a sign, and of a reserved word, in the order of their declarations
abbrev pub sign_number : Sign → ℕ
sign_number OpenParen = 0
sign_number CloseParen = 1
sign_number OpenBracket = 2
sign_number CloseBracket = 3
sign_number OpenBrace = 4
sign_number CloseBrace = 5
sign_number Semicolon = 6
sign_number Comma = 7
sign_number Colon = 8
sign_number Question = 9
sign_number At = 10
sign_number Equals = 11
sign_number Tilde = 12
sign_number Exclamation = 13
sign_number Star = 14
sign_number Plus = 15
sign_number Minus = 16
sign_number Less = 17
sign_number Greater = 18
sign_number Ampersand = 19
sign_number Caret = 20
sign_number Bar = 21
sign_number LessEquals = 22
sign_number GreaterEquals = 23
sign_number EqualsEquals = 24
sign_number ExclamationEquals = 25
sign_number AmpersandAmpersand = 26
sign_number BarBar = 27

abbrev pub word_number : Keyword → ℕ
word_number ModuleWord = 0
word_number EndModuleWord = 1
word_number InputWord = 2
word_number OutputWord = 3
word_number WireWord = 4
word_number RegWord = 5
word_number AssignWord = 6
word_number AlwaysWord = 7
word_number PosedgeWord = 8
word_number BeginWord = 9
word_number EndWord = 10
word_number IfWord = 11
word_number ElseWord = 12

abbrev pub is_mark : Sign → Token → Bool
is_mark sign (Mark found) = nat_eq (sign_number found) (sign_number sign)
is_mark sign t = false

abbrev pub is_word : Keyword → Token → Bool
is_word word (Reserved found) = nat_eq (word_number found) (word_number word)
is_word word t = false

abbrev pub name_in : Token → Option (List ℕ)
name_in (Name n) = Some n
name_in t = None

abbrev pub digits_in : Token → Option (List ℕ)
digits_in (Number digits) = Some digits
digits_in t = None

-- the text `0`
abbrev pub is_zero : Token → Bool
is_zero (Number digits) = bytes_eq digits zero_digit
is_zero t = false

-- ---- stages

-- the next stage, where the token is the one that is wanted
abbrev pub expect : Bool → Stage → Option Stage
expect true next = Some next
expect false next = None

-- one stage or another, by the token
abbrev pub either : Option Stage → Option Stage → Option Stage
either None other = other
either (Some next) other = Some next

-- `wire` or `reg` behind a direction
abbrev pub with_word : Owner → Keyword → Option Owner
with_word (OfPort In) WireWord = Some (OfPort InWire)
with_word (OfPort Out) WireWord = Some (OfPort OutWire)
with_word (OfPort Out) RegWord = Some (OfPort OutReg)
with_word owner word = None

abbrev pub item_stage : Token → Option Stage
item_stage t =
    either (expect (is_word WireWord t) (Declaring (OfItem WireSort)))
    (either (expect (is_word RegWord t) (Declaring (OfItem RegisterSort)))
    (either (expect (is_word AssignWord t) WantAssigned)
    (either (expect (is_word AlwaysWord t) WantAt)
    (expect (is_word EndModuleWord t) Complete))))

-- a register alone may be a memory
abbrev pub memory_stage : Sort → Range → List (List ℕ) → Option Stage
memory_stage RegisterSort range (n ∷ []) = Some (WantFirst range n)
memory_stage sort range names = None

-- the next stage, where a token changes nothing else
abbrev pub next_stage : Stage → Token → Option Stage
next_stage WantModule t = expect (is_word ModuleWord t) WantTitle
next_stage WantPorts t = expect (is_mark OpenParen t) WantPort
next_stage WantPort t =
    either (expect (is_word InputWord t) (Declaring (OfPort In)))
    (expect (is_word OutputWord t) (Declaring (OfPort Out)))
next_stage (WantHigh o) t = option_map (WantColon o) (digits_in t)
next_stage (WantColon o high) t = expect (is_mark Colon t) (WantZero o high)
next_stage (WantZero o high) t = expect (is_zero t) (WantClose o high)
next_stage (WantClose o high) t = expect (is_mark CloseBracket t) (WantName o (Some high))
next_stage AfterPort t = either (expect (is_mark Comma t) WantPort) (expect (is_mark CloseParen t) AfterPorts)
next_stage AfterPorts t = expect (is_mark Semicolon t) WantItem
next_stage (WantFirst range name) t = expect (is_zero t) (WantMemoryColon range name)
next_stage (WantMemoryColon range name) t = expect (is_mark Colon t) (WantLast range name)
next_stage (WantLast range name) t = option_map (WantMemoryClose range name) (digits_in t)
next_stage (WantMemoryClose range name last) t = expect (is_mark CloseBracket t) (WantMemoryEnd range name last)
next_stage WantItem t = item_stage t
next_stage WantAssigned t = option_map WantEquals (name_in t)
next_stage WantAt t = expect (is_mark At t) WantEdge
next_stage WantEdge t = expect (is_mark OpenParen t) WantPosedge
next_stage WantPosedge t = expect (is_word PosedgeWord t) WantClock
next_stage WantClock t = option_map WantEdgeEnd (name_in t)
next_stage (WantLow n high) t = option_map (AtPart n high) (digits_in t)
next_stage stage t = None

abbrev pub item_of : Sort → Range → List (List ℕ) → WrittenItem
item_of WireSort range names = Wires range names
item_of RegisterSort range names = Registers range names

abbrev pub Open : Type 0 → Type 0
Open A = List Frame × A

abbrev pub is_if : Frame → Bool
is_if (ThenOf test) = true
is_if (ElseOf test yes') = true
is_if f = false

-- a statement is the last part of the `if` that it stands in
abbrev pub if_of : Frame → WrittenStatement → WrittenStatement
if_of (ThenOf test) st = IfThen test st
if_of (ElseOf test yes') st = IfElse test yes' st
if_of f st = st

abbrev pub else_at : Frame → List Frame → WrittenStatement → Option (List Frame) → Option (List Frame)
else_at (ThenOf test) fs st more = Some (ElseOf test st ∷ fs)
else_at (ElseOf test yes') fs st more = more
else_at f fs st more = None

-- what is open on top
abbrev pub top_is_if : List Frame → Bool
top_is_if [] = false
top_is_if (f ∷ fs) = is_if f

abbrev pub is_else : Frame → Bool
is_else (ElseOf test yes') = true
is_else f = false

abbrev pub top_is_else : List Frame → Bool
top_is_else [] = false
top_is_else (f ∷ fs) = is_else f

-- the `if` on top ends
abbrev pub end_top : List Frame → WrittenStatement → Open WrittenStatement
end_top [] st = ([], st)
end_top (f ∷ fs) st = (fs, if_of f st)

-- the `if` on top gets an `else`
abbrev pub else_on_top : List Frame → WrittenStatement → Option (List Frame)
else_on_top [] st = None
else_on_top (f ∷ fs) st = else_at f fs st None

-- an `else` goes to the nearest `if` that has none
unfoldable pub at_else : List Frame → WrittenStatement → Option (List Frame)
at_else [] st = None
at_else (f ∷ fs) st = else_at f fs st (at_else fs (if_of f st))

-- what is behind a statement ends the `if` that it stands in
unfoldable pub at_end : List Frame → WrittenStatement → Open WrittenStatement
at_end [] st = ([], st)
at_end (f ∷ fs) st = if is_if f then at_end fs (if_of f st) else (f ∷ fs, st)

-- whether a frame is a block
abbrev pub is_block : Frame → Bool
is_block (InBegin done) = true
is_block f = false

-- the statements of a block
abbrev pub block_of : Frame → Option WrittenStatement
block_of (InBegin done) = Some (Block (listed done))
block_of f = None

-- what a whole statement goes to: the list of its block, or the item that it is the body of
pub data Stated : Type 0 where
  InList : (done : List WrittenStatement) → Stated
  AsBody : (item : WrittenItem) → Stated
  Nowhere : Stated

abbrev pub stated : Frame → WrittenStatement → Stated
stated (InBegin done) st = InList (done ++ st ∷ [])
stated (BodyOf clock) st = AsBody (Always clock st)
stated f st = Nowhere

-- whether a frame is an operator that binds at least as tight as the level
abbrev pub binds : ℕ → Frame → Bool
binds p (PrefixOf op) = true
binds p (InfixOf op l) = nat_le (looseness op) p
binds p (ColonOf c x) = nat_le 11 p
binds p f = false

abbrev pub applied : Frame → WrittenExpr → WrittenExpr
applied (PrefixOf op) e = Prefix op e
applied (InfixOf op l) e = Infix op l e
applied (ColonOf c x) e = Conditional c x e
applied f e = e

abbrev pub top_binds : ℕ → List Frame → Bool
top_binds p [] = false
top_binds p (f ∷ fs) = binds p f

-- applies the operator on top
abbrev pub apply_top : List Frame → WrittenExpr → Open WrittenExpr
apply_top [] e = ([], e)
apply_top (f ∷ fs) e = (fs, applied f e)

-- applies what binds at least as tight as the level
unfoldable pub reduce : ℕ → List Frame → WrittenExpr → Open WrittenExpr
reduce p [] e = ([], e)
reduce p (f ∷ fs) e = if binds p f then reduce p fs (applied f e) else (f ∷ fs, e)

-- the parts of a concatenation
abbrev pub parts_of : List WrittenExpr → WrittenExpr → WrittenExpr
parts_of [] e = e
parts_of (p ∷ ps) e = Parts p (parts_of ps e)

-- what a sign does behind an operand
pub data Role : Type 0 where
  IsInfix : (op : InfixOp) → Role
  IsQuestion : Role
  IsColon : Role
  IsComma : Role
  IsBrace : Role
  IsParen : Role
  IsBracket : Role
  IsSemicolon : Role
  IsIndex : Role
  IsOther : Role

abbrev pub role_of : Sign → Role
role_of Star = IsInfix Times
role_of Plus = IsInfix Added
role_of Minus = IsInfix Subtracted
role_of Less = IsInfix Below
role_of LessEquals = IsInfix AtMost
role_of Greater = IsInfix Above
role_of GreaterEquals = IsInfix AtLeast
role_of EqualsEquals = IsInfix Equal
role_of ExclamationEquals = IsInfix NotEqual
role_of Ampersand = IsInfix BitAnd
role_of Caret = IsInfix BitXor
role_of Bar = IsInfix BitOr
role_of AmpersandAmpersand = IsInfix LogicalAnd
role_of BarBar = IsInfix LogicalOr
role_of Question = IsQuestion
role_of Colon = IsColon
role_of Comma = IsComma
role_of CloseBrace = IsBrace
role_of CloseParen = IsParen
role_of CloseBracket = IsBracket
role_of Semicolon = IsSemicolon
role_of OpenBracket = IsIndex
role_of _ = IsOther

-- what a sign closes: an operand, the condition of an `if`, the address of a word that takes a value, an item, a
-- statement; or what it opens in its place
pub data Closed : Type 0 where
  AnOperand : (e : WrittenExpr) → Closed
  ATest : (test : WrittenExpr) → Closed
  AnAddress : (target : List ℕ) (address : WrittenExpr) → Closed
  AnItem : (item : WrittenItem) → Closed
  AStatement : (statement : WrittenStatement) → Closed
  Further : (frame : Frame) → Closed
  Unclosed : Closed

-- whether a frame holds no tree that goes on behind what closes it
abbrev pub is_bare : Frame → Bool
is_bare (InBraces parts) = false
is_bare (TestOf test) = false
is_bare (UpdateWordTo target address) = false
is_bare f = true

abbrev pub closed : Role → Frame → WrittenExpr → Closed
closed IsColon (TestOf test) e = Further (ColonOf test e)
closed IsComma (InBraces parts) e = Further (InBraces (parts ++ e ∷ []))
closed IsBrace (InBraces parts) e = AnOperand (Braces (parts_of parts e))
closed IsParen InParens e = AnOperand (Parens e)
closed IsParen IfTest e = ATest e
closed IsBracket (InIndex n) e = AnOperand (WordOf n e)
closed IsBracket (AddressFor target) e = AnAddress target e
closed IsSemicolon (AssignTo target) e = AnItem (Assign target e)
closed IsSemicolon (UpdateTo target) e = AStatement (Update target e)
closed IsSemicolon (UpdateWordTo target address) e = AStatement (UpdateWord target address e)
closed role f e = Unclosed

-- the sign closes what is open on top
abbrev pub close_top : Role → Open WrittenExpr → Open Closed
close_top role ([], e) = ([], Unclosed)
close_top role (f ∷ fs, e) = (fs, closed role f e)

-- a name alone may be indexed
abbrev pub alone : WrittenExpr → Option (List ℕ)
alone (Named n) = Some n
alone e = None
