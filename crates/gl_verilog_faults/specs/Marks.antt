-- The role of a token, by the tokens before it: a second, one-way definition, which needs no tree.
use Rattle.std.specs.Prelude.{ℕ, zero, suc, List, [], ◌∷◌}
use Rattle.gl_verilog.specs.Tokens.{Token, Reserved, Name, Mark, Keyword, EndModuleWord, WireWord, RegWord, AssignWord, AlwaysWord, BeginWord, EndWord, IfWord, Sign, OpenParen, CloseParen, OpenBracket, CloseBracket, OpenBrace, CloseBrace, Semicolon, Comma, Colon, At, Equals, LessEquals}
use Rattle.gl_verilog_faults.specs.Counts.{Role, Opens, Closes, Operates, Starts, OpensWhole, Tests, Begins, Plain}

-- where the reader stands
pub data State : Type 0 where
  Header : State  -- up to the `;` behind the ports
  Ground : State  -- before an item or a statement
  Declares : State  -- in a declaration, or before the `=` of an assignment
  Clocks : State  -- in `@ ( posedge clk )`
  Asks : State  -- behind `if`
  Aims : State  -- behind a statement's target
  Index : (open' : ℕ) → State  -- in a target's index, with so many brackets open in it
  Test : (open' : ℕ) → State  -- in a condition
  Value : State  -- in what is assigned, up to its `;`

-- what a token does in an expression
pub data Turn : Type 0 where
  Opening : Turn
  Closing : Turn
  Operating : Turn
  Ending : Turn
  Going : Turn

-- what a sign does in an expression: brackets open and close, a semicolon ends, and all but a few others operate
abbrev pub sign_turn : Sign → Turn
sign_turn OpenParen = Opening
sign_turn OpenBracket = Opening
sign_turn OpenBrace = Opening
sign_turn CloseParen = Closing
sign_turn CloseBracket = Closing
sign_turn CloseBrace = Closing
sign_turn Semicolon = Ending
sign_turn Comma = Going
sign_turn Colon = Going
sign_turn At = Going
sign_turn Equals = Going
sign_turn _ = Operating

-- what a token does in an expression; names, numbers and words do nothing but go on
abbrev pub turn : Token → Turn
turn (Mark sign) = sign_turn sign
turn _ = Going

-- what counts in an expression: an open bracket, a closed one, or an operator
abbrev pub turn_role : Turn → Role
turn_role Opening = Opens
turn_role Closing = Closes
turn_role Operating = Operates
turn_role Ending = Plain
turn_role Going = Plain

-- brackets of an expression inside brackets of its own
abbrev pub inside : (ℕ → State) → State → ℕ → Turn → State
inside here out d Opening = here (suc d)
inside here out zero Closing = out
inside here out (suc d) Closing = here d
inside here out d Operating = here d
inside here out d Ending = here d
inside here out d Going = here d

-- an assigned value goes on up to its semicolon
abbrev pub in_value : Turn → State
in_value Ending = Ground
in_value _ = Value

-- what a reserved word before an item or statement counts for
abbrev pub word_role : Keyword → Role
word_role WireWord = Begins
word_role RegWord = Begins
word_role AssignWord = Begins
word_role AlwaysWord = Begins
word_role EndModuleWord = Begins
word_role IfWord = Tests
word_role BeginWord = Opens
word_role EndWord = Closes
word_role _ = Plain

-- where a reserved word leads: into a declaration, to the clock of a block, or to a condition
abbrev pub word_next : Keyword → State
word_next WireWord = Declares
word_next RegWord = Declares
word_next AssignWord = Declares
word_next AlwaysWord = Clocks
word_next IfWord = Asks
word_next _ = Ground

-- what a token before an item or statement counts for: only reserved words count
abbrev pub ground_role : Token → Role
ground_role (Reserved word) = word_role word
ground_role _ = Plain

-- where a token before an item or statement leads; a name is a statement's target
abbrev pub ground_next : Token → State
ground_next (Reserved word) = word_next word
ground_next (Name bytes) = Aims
ground_next _ = Ground

-- behind a target, a bracket opens an index, and `<=` begins the value
abbrev pub aim_role : Token → Role
aim_role (Mark OpenBracket) = OpensWhole
aim_role (Mark LessEquals) = Starts
aim_role _ = Plain

-- behind a target comes an index or a value; anything else leads back before a statement
abbrev pub aim_next : Token → State
aim_next (Mark OpenBracket) = Index 0
aim_next (Mark LessEquals) = Value
aim_next _ = Ground

-- `=` begins the value of an assignment; nothing else counts in a declaration
abbrev pub declare_role : Token → Role
declare_role (Mark Equals) = Starts
declare_role _ = Plain

-- a declaration goes on up to its semicolon, or to `=` and a value
abbrev pub declare_next : Token → State
declare_next (Mark Equals) = Value
declare_next (Mark Semicolon) = Ground
declare_next _ = Declares

-- what stands in a block's clock goes on up to its closing bracket
abbrev pub clock_next : Token → State
clock_next (Mark CloseParen) = Ground
clock_next _ = Clocks

-- the header goes on up to its first semicolon
abbrev pub header_next : Token → State
header_next (Mark Semicolon) = Ground
header_next _ = Header

-- what a token counts for where the reader stands
abbrev pub role_at : State → Token → Role
role_at Header t = Plain
role_at Ground t = ground_role t
role_at Declares t = declare_role t
role_at Clocks t = Plain
role_at Asks t = OpensWhole
role_at Aims t = aim_role t
role_at (Index d) t = turn_role (turn t)
role_at (Test d) t = turn_role (turn t)
role_at Value t = turn_role (turn t)

-- where the reader stands behind a token
abbrev pub next : State → Token → State
next Header t = header_next t
next Ground t = ground_next t
next Declares t = declare_next t
next Clocks t = clock_next t
next Asks t = Test 0
next Aims t = aim_next t
next (Index d) t = inside Index Aims d (turn t)
next (Test d) t = inside Test Ground d (turn t)
next Value t = in_value (turn t)

-- the roles of tokens, where the reader stands in this state before them
abbrev pub marks : State → List Token → List Role
marks s [] = []
marks s (t ∷ ts) = role_at s t ∷ marks (next s t) ts

-- where the reader stands behind a list of tokens
abbrev pub behind : State → List Token → State
behind s [] = s
behind s (t ∷ ts) = behind (next s t) ts
