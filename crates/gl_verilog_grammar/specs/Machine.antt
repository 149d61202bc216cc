-- Reading tokens from left to right: one step for each token.
-- A middle layer, proved equal to the spelling of gl_verilog (`Written`) and gl_verilog_faults: no promise rests on it.
use Rattle.std.specs.Prelude.{ℕ, Bool, true, false, List, [], ◌∷◌, ◌++◌, Option, Some, None, option_map, option_and_then, if◌then◌else◌}
use Rattle.gl_verilog.specs.Tokens.{Token, Reserved, Name, Number, Sized, Mark, IfWord, BeginWord, EndWord, ElseWord, OpenParen, CloseParen, OpenBracket, CloseBracket, OpenBrace, Semicolon, Comma, Colon, Equals, Tilde, Exclamation, LessEquals}
use Rattle.gl_verilog.specs.Written.{BitNot, LogicalNot, InfixOp, looseness, WrittenExpr, Named, Constant, BitOf, PartOf, WrittenStatement, Range, WrittenPort, WrittenItem, MemoryOf, WrittenModule}
pub use Rattle.gl_verilog_grammar.specs.Stages.{Frame, InParens, InBraces, InIndex, PrefixOf, InfixOf, TestOf, ColonOf, AssignTo, UpdateTo, AddressFor, UpdateWordTo, IfTest, ThenOf, ElseOf, InBegin, BodyOf, Sort, WireSort, RegisterSort, Owner, OfPort, OfItem, Stage, WantModule, WantTitle, WantPorts, WantPort, Declaring, WantHigh, WantColon, WantZero, WantClose, WantName, AfterPort, AfterPorts, AfterName, WantMore, WantFirst, WantMemoryColon, WantLast, WantMemoryClose, WantMemoryEnd, WantItem, WantAssigned, WantEquals, WantAt, WantEdge, WantPosedge, WantClock, WantEdgeEnd, WantStatement, AfterTarget, WantArrow, WantTest, HaveStatement, WantOperand, HaveOperand, AtIndex, AtPlace, WantLow, AtPart, Complete, sign_number, word_number, is_mark, is_word, name_in, digits_in, is_zero, expect, either, with_word, item_stage, memory_stage, next_stage, item_of, Open, is_if, if_of, else_at, block_of, Stated, InList, AsBody, Nowhere, stated, binds, applied, parts_of, Role, IsInfix, IsQuestion, IsColon, IsComma, IsBrace, IsParen, IsBracket, IsSemicolon, IsIndex, IsOther, role_of, Closed, AnOperand, ATest, AnAddress, AnItem, AStatement, Further, Unclosed, closed, close_top, alone}
unfoldable pub use Rattle.gl_verilog_grammar.specs.Stages.{at_else, at_end, reduce}

-- what was read: the name, the ports and the items that are complete, the stage, and what is open
pub record State : Type 0 where
  pub name : List ℕ
  pub ports : List WrittenPort
  pub items : List WrittenItem
  pub stage : Stage
  pub frames : List Frame

-- reading begins where `module` is wanted, with nothing read and nothing open
abbrev pub start : State
start = record { name = []; ports = []; items = []; stage = WantModule; frames = [] }

-- reading goes on with another thing wanted or read
abbrev pub goto : State → Stage → Option State
goto s stage = Some (record s { stage = stage })

-- a frame more, and an operand is wanted
abbrev pub push : State → Frame → Option State
push s f = Some (record s { stage = WantOperand; frames = f ∷ s.frames })

-- an operand is complete
abbrev pub close : State → WrittenExpr → Option State
close s e = goto s (HaveOperand e)

-- the next stage, where there is one
abbrev pub go : Option Stage → State → Option State
go None s = None
go (Some next) s = goto s next

-- ---- the header and declarations

-- behind `module` stands the name of the module
abbrev pub titled : State → List ℕ → Option State
titled s n = Some (record s { name = n; stage = WantPorts })

-- a name makes a port, or begins the list of names of an item
abbrev pub named : Owner → Range → List ℕ → State → Option State
named (OfPort d) range n s =
    Some (record s { ports = s.ports ++ record { direction = d; range = range; name = n } ∷ []; stage = AfterPort })
named (OfItem sort) range n s = goto s (AfterName sort range (n ∷ []))

-- the token must be a name, which makes a port or begins a list
abbrev pub named_in : Owner → Range → State → Token → Option State
named_in o range s t = option_and_then (λ n. named o range n s) (name_in t)

-- where something is declared stands another word of its kind, its name, or a range
abbrev pub declaring : Owner → State → Token → Option State
declaring o s (Reserved w) = go (option_map Declaring (with_word o w)) s
declaring o s (Name n) = named o None n s
declaring o s t = go (expect (is_mark OpenBracket t) (WantHigh o)) s

-- one item more, behind which another may begin
abbrev pub with_item : State → WrittenItem → State
with_item s i = record s { items = s.items ++ i ∷ []; stage = WantItem }

-- an item is complete if its last token stands there
abbrev pub item_if : Bool → WrittenItem → State → Option State
item_if true i s = Some (with_item s i)
item_if false i s = None

-- behind a name come another name, a memory's last address, or the end of the item
abbrev pub after_name : Sort → Range → List (List ℕ) → State → Token → Option State
after_name sort range names s t =
    if is_mark Comma t then goto s (WantMore sort range names) else (
    if is_mark OpenBracket t then go (memory_stage sort range names) s else
    item_if (is_mark Semicolon t) (item_of sort range names) s)

-- behind the comma of a list stands another name
abbrev pub want_more : Sort → Range → List (List ℕ) → State → Token → Option State
want_more sort range names s t = option_and_then (λ n. goto s (AfterName sort range (names ++ n ∷ []))) (name_in t)

-- ---- items

-- something is opened if the token for it stands there
abbrev pub push_if : Bool → Frame → State → Option State
push_if true f s = push s f
push_if false f s = None

-- ---- statements

-- the body of a block begins if the bracket behind its clock is closed
abbrev pub body_if : Bool → List ℕ → State → Option State
body_if true clock s = Some (record s { stage = WantStatement; frames = BodyOf clock ∷ s.frames })
body_if false clock s = None

-- a block that has ended is a statement
abbrev pub block_if : Option WrittenStatement → State → Option State
block_if None s = None
block_if (Some st) s = goto s (HaveStatement st)

-- `end` closes the innermost list of statements
abbrev pub end_block : List Frame → State → Option State
end_block [] s = None
end_block (f ∷ fs) s = block_if (block_of f) (record s { frames = fs })

-- `begin` opens a list of statements
abbrev pub begun : State → Option State
begun s = Some (record s { stage = WantStatement; frames = InBegin [] ∷ s.frames })

-- a word that begins a statement, or ends a block
abbrev pub at_word : State → Token → Option State
at_word s t =
    if is_word IfWord t then goto s WantTest else (
    if is_word BeginWord t then begun s else (
    if is_word EndWord t then end_block s.frames s else None))

-- a statement begins with its target's name or with a word
abbrev pub want_statement : State → Token → Option State
want_statement s (Name n) = goto s (AfterTarget n)
want_statement s t = at_word s t

-- behind a target stands `<=` or the bracket of an address
abbrev pub after_target : List ℕ → State → Token → Option State
after_target target s t =
    if is_mark LessEquals t then push s (UpdateTo target) else push_if (is_mark OpenBracket t) (AddressFor target) s

-- `else` leads to the other branch of the nearest `if` that has none
abbrev pub after_else : State → Option (List Frame) → Option State
after_else s None = None
after_else s (Some fs) = Some (record s { stage = WantStatement; frames = fs })

-- behind a finished statement another of its list begins, or an item behind the body of a block
abbrev pub after_stated : State → List Frame → Stated → Token → Option State
after_stated s fs (InList done) t = want_statement (record s { frames = InBegin done ∷ fs }) t
after_stated s fs (AsBody item) t = go (item_stage t) (record s { items = s.items ++ item ∷ []; frames = fs })
after_stated s fs Nowhere t = None

-- a statement is complete, and the next token begins what follows it
abbrev pub after_statement : State → List Frame → WrittenStatement → Token → Option State
after_statement s [] st t = None
after_statement s (f ∷ fs) st t = after_stated s fs (stated f st) t

-- the token behind a statement that has ended everything that it can end
abbrev pub settled : State → Open WrittenStatement → Token → Option State
settled s r t = after_statement s r.0 r.1 t

-- behind a statement stands its `else`, or what follows once every open `if` is ended
abbrev pub have_statement : WrittenStatement → State → Token → Option State
have_statement st s t =
    if is_word ElseWord t then after_else s (at_else s.frames st) else settled s (at_end s.frames st) t

-- ---- expressions

-- what begins an operand that is more than a token
abbrev pub at_opening : State → Token → Option State
at_opening s t =
    if is_mark OpenParen t then push s InParens else (
    if is_mark OpenBrace t then push s (InBraces []) else (
    if is_mark Tilde t then push s (PrefixOf BitNot) else (
    if is_mark Exclamation t then push s (PrefixOf LogicalNot) else None)))

-- an operand is a name, a literal, or something that a sign opens
abbrev pub want_operand : State → Token → Option State
want_operand s (Name n) = goto s (HaveOperand (Named n))
want_operand s (Sized size radix digits) = goto s (HaveOperand (Constant size radix digits))
want_operand s t = at_opening s t

-- an operator takes what was read as its left operand
abbrev pub at_infix : State → InfixOp → Open WrittenExpr → Option State
at_infix s op r = push (record s { frames = r.0 }) (InfixOf op r.1)

-- `?` takes what was read as its test
abbrev pub at_question : State → Open WrittenExpr → Option State
at_question s r = push (record s { frames = r.0 }) (TestOf r.1)

-- the condition of an `if` is complete
abbrev pub tested : State → WrittenExpr → State
tested s e = record s { stage = WantStatement; frames = ThenOf e ∷ s.frames }

-- what a closed bracket or a semicolon made: an operand, a test, an address, an item, or a statement
abbrev pub after_close : State → Open Closed → Option State
after_close s (fs, AnOperand e) = close (record s { frames = fs }) e
after_close s (fs, ATest e) = Some (tested (record s { frames = fs }) e)
after_close s (fs, AnAddress target address) = Some (record s { stage = WantArrow target address; frames = fs })
after_close s (fs, AnItem item) = Some (with_item (record s { frames = fs }) item)
after_close s (fs, AStatement st) = Some (record s { stage = HaveStatement st; frames = fs })
after_close s (fs, Further f) = push (record s { frames = fs }) f
after_close s (fs, Unclosed) = None

-- a sign behind a whole expression
abbrev pub at_close : Role → State → List Frame → WrittenExpr → Option State
at_close role s fs e = after_close s (close_top role (fs, e))

-- an opening bracket indexes a name, and nothing else
abbrev pub indexed_as : Option (List ℕ) → State → Option State
indexed_as None s = None
indexed_as (Some n) s = Some (record s { stage = AtIndex n })

-- an opening bracket behind an expression, which must be a name alone
abbrev pub indexed : State → WrittenExpr → Option State
indexed s e = indexed_as (alone e) s

-- what stands behind an operand does by its role: it operates, asks, indexes, or closes
abbrev pub have_operand_by : Role → WrittenExpr → State → Option State
have_operand_by (IsInfix op) e s = at_infix s op (reduce (looseness op) s.frames e)
have_operand_by IsQuestion e s = at_question s (reduce 10 s.frames e)
have_operand_by IsIndex e s = indexed s e
have_operand_by IsOther e s = None
have_operand_by role e s = after_close s (close_top role (reduce 11 s.frames e))

-- only a sign may stand behind an operand
abbrev pub have_operand : WrittenExpr → State → Token → Option State
have_operand e s (Mark sign) = have_operand_by (role_of sign) e s
have_operand e s t = None

-- an index is a number, or else an expression
abbrev pub at_index : List ℕ → State → Token → Option State
at_index n s (Number place) = goto s (AtPlace n place)
at_index n s t = want_operand (record s { frames = InIndex n ∷ s.frames }) t

-- an operand is complete if its closing bracket stands there
abbrev pub close_if : Bool → WrittenExpr → State → Option State
close_if true e s = close s e
close_if false e s = None

-- behind the first number of an index stands a colon, or the bracket that ends a single bit
abbrev pub at_place : List ℕ → List ℕ → State → Token → Option State
at_place n place s t =
    if is_mark Colon t then goto s (WantLow n place) else close_if (is_mark CloseBracket t) (BitOf n place) s

-- ---- one token, and all of them

-- what may follow at each stage, and where it leads
abbrev pub step_at : Stage → State → Token → Option State
step_at WantTitle s t = option_and_then (titled s) (name_in t)
step_at (Declaring o) s t = declaring o s t
step_at (WantName o range) s t = named_in o range s t
step_at (AfterName sort range names) s t = after_name sort range names s t
step_at (WantMore sort range names) s t = want_more sort range names s t
step_at (WantMemoryEnd range name last) s t = item_if (is_mark Semicolon t) (MemoryOf range name last) s
step_at (WantEquals target) s t = push_if (is_mark Equals t) (AssignTo target) s
step_at (WantEdgeEnd clock) s t = body_if (is_mark CloseParen t) clock s
step_at WantStatement s t = want_statement s t
step_at (AfterTarget target) s t = after_target target s t
step_at (WantArrow target address) s t = push_if (is_mark LessEquals t) (UpdateWordTo target address) s
step_at WantTest s t = push_if (is_mark OpenParen t) IfTest s
step_at (HaveStatement st) s t = have_statement st s t
step_at WantOperand s t = want_operand s t
step_at (HaveOperand e) s t = have_operand e s t
step_at (AtIndex n) s t = at_index n s t
step_at (AtPlace n place) s t = at_place n place s t
step_at (AtPart n high low) s t = close_if (is_mark CloseBracket t) (PartOf n high low) s
step_at stage s t = go (next_stage stage t) s

-- the state after a token that can stand there
unfoldable pub step : State → Token → Option State
step s t = step_at s.stage s t

-- behind `endmodule` the module is complete
abbrev pub complete : Stage → State → Option WrittenModule
complete Complete s = Some (record { name = s.name; ports = s.ports; items = s.items })
complete stage s = None

-- the module, where the text may end here
abbrev pub finish : State → Option WrittenModule
finish s = complete s.stage s
