-- From every state that the machine reaches, some tokens complete a module. Limits aside.
use Rattle.std.proofs.Common.{◌≡◌, ℕ, ◌+◌, ◌-◌, ◌≤◌, true, List, [], ◌∷◌, ◌++◌, Option, Some, None, leb, refl, ap, ◌∙◌, arith}
use Rattle.std.proofs.lemmas.Bool.{le-leb}
use Rattle.gl_verilog.specs.Tokens.{Token, Reserved, Name, Number, Mark, ModuleWord, EndModuleWord, InputWord, PosedgeWord, EndWord, OpenParen, CloseParen, CloseBracket, CloseBrace, Semicolon, Colon, At, Equals, LessEquals}
use Rattle.gl_verilog.specs.Written.{WrittenExpr, Named, BitOf, PartOf, WordOf, Parens, Prefix, Infix, Conditional, InfixOp, looseness, WrittenStatement, Update, UpdateWord, IfThen, IfElse, Range, Wires, Registers, MemoryOf, Assign, Always, In, zero_digit}
use Rattle.gl_verilog_grammar.specs.Machine.{Frame, InParens, InBraces, InIndex, PrefixOf, InfixOf, TestOf, ColonOf, AssignTo, UpdateTo, AddressFor, UpdateWordTo, IfTest, ThenOf, ElseOf, InBegin, BodyOf, Sort, WireSort, RegisterSort, Owner, OfPort, OfItem, Stage, WantModule, WantTitle, WantPorts, WantPort, Declaring, WantHigh, WantColon, WantZero, WantClose, WantName, AfterPort, AfterPorts, AfterName, WantMore, WantFirst, WantMemoryColon, WantLast, WantMemoryClose, WantMemoryEnd, WantItem, WantAssigned, WantEquals, WantAt, WantEdge, WantPosedge, WantClock, WantEdgeEnd, WantStatement, AfterTarget, WantArrow, WantTest, HaveStatement, WantOperand, HaveOperand, AtIndex, AtPlace, WantLow, AtPart, Complete, State, Open, IsColon, IsBrace, IsParen, IsBracket, IsSemicolon, close_top, after_close, reduce, at_end, settled, step}
use Rattle.gl_verilog_grammar.proofs.Steps.{steps, is-machine}
use Rattle.gl_verilog_grammar.proofs.OpenTexts.{OnStatement, OnExpr, loose-range}
use Rattle.gl_verilog_grammar.proofs.Told.{fine_at}

abbrev pub Finishes : State → Type 0
Finishes s = (more : List Token) × (s' : State) × (steps s more ≡ Some s') × (s'.stage ≡ Complete)

goes : (s s1 : State) (t : Token) → step s t ≡ Some s1 → Finishes s1 → Finishes s
goes s s1 t e f = (t ∷ f.0, f.1, is-machine.goes s s1 t f.0 e ∙ f.2, f.3)

abbrev at : State → Stage → State
at s stage = record s { stage = stage }

-- some name
abbrev a_name : List ℕ
a_name = 97 ∷ []

done : (s : State) → Finishes (at s Complete)
done s = ([], at s Complete, is-machine.none_left (at s Complete), refl)

item : (s : State) → Finishes (at s WantItem)
unfolding step
item s = goes (at s WantItem) (at s Complete) (Reserved EndModuleWord) refl (done s)

-- ---- expressions

data Closer : Type 0 where
  AtColon : Closer
  AtBrace : Closer
  AtParen : Closer
  AtBracket : Closer
  AtSemicolon : Closer

abbrev closer_token : Closer → Token
closer_token AtColon = Mark Colon
closer_token AtBrace = Mark CloseBrace
closer_token AtParen = Mark CloseParen
closer_token AtBracket = Mark CloseBracket
closer_token AtSemicolon = Mark Semicolon

abbrev close_by : Closer → State → Open WrittenExpr → Option State
close_by AtColon s r = after_close s (close_top IsColon r)
close_by AtBrace s r = after_close s (close_top IsBrace r)
close_by AtParen s r = after_close s (close_top IsParen r)
close_by AtBracket s r = after_close s (close_top IsBracket r)
close_by AtSemicolon s r = after_close s (close_top IsSemicolon r)

step_close : (c : Closer) (s : State) (e : WrittenExpr) → step (at s (HaveOperand e)) (closer_token c) ≡ close_by c (at s (HaveOperand e)) (reduce 11 s.frames e)
unfolding step
step_close AtColon s e = refl
step_close AtBrace s e = refl
step_close AtParen s e = refl
step_close AtBracket s e = refl
step_close AtSemicolon s e = refl

abbrev EndsExpr : List Frame → Type 0
EndsExpr fs = (s : State) (e : WrittenExpr) → (c : Closer) × (s1 : State) × (close_by c s (reduce 11 fs e) ≡ Some s1) × Finishes s1

operand : (s : State) (e : WrittenExpr) → EndsExpr s.frames → Finishes (at s (HaveOperand e))
operand s e ends = let r = ends (at s (HaveOperand e)) e in goes (at s (HaveOperand e)) r.1 (closer_token r.0) (step_close r.0 s e ∙ r.2) r.3

wanted : (s : State) → EndsExpr s.frames → Finishes (at s WantOperand)
unfolding step
wanted s ends = goes (at s WantOperand) (at s (HaveOperand (Named a_name))) (Name a_name) refl (operand s (Named a_name) ends)

-- ---- statements

data Stop : Type 0 where
  AtEnd : Stop
  AtLast : Stop

abbrev stop_token : Stop → Token
stop_token AtEnd = Reserved EndWord
stop_token AtLast = Reserved EndModuleWord

abbrev EndsStatement : List Frame → Type 0
EndsStatement fs = (s : State) (st : WrittenStatement) → (c : Stop) × (s1 : State) × (settled s (at_end fs st) (stop_token c) ≡ Some s1) × Finishes s1

step_stop : (c : Stop) (s : State) (st : WrittenStatement) → step (at s (HaveStatement st)) (stop_token c) ≡ settled (at s (HaveStatement st)) (at_end s.frames st) (stop_token c)
unfolding step
step_stop AtEnd s st = refl
step_stop AtLast s st = refl

statement : (s : State) (st : WrittenStatement) → EndsStatement s.frames → Finishes (at s (HaveStatement st))
statement s st ends = let r = ends (at s (HaveStatement st)) st in goes (at s (HaveStatement st)) r.1 (stop_token r.0) (step_stop r.0 s st ∙ r.2) r.3

statement_ends : (fs : List Frame) → OnStatement fs → EndsStatement fs
unfolding at_end
statement_ends [] on s st = absurd on
statement_ends (InParens ∷ fs) on s st = absurd on
statement_ends (InBraces parts ∷ fs) on s st = absurd on
statement_ends (InIndex n ∷ fs) on s st = absurd on
statement_ends (PrefixOf op ∷ fs) on s st = absurd on
statement_ends (InfixOf op l ∷ fs) on s st = absurd on
statement_ends (TestOf c ∷ fs) on s st = absurd on
statement_ends (ColonOf c x ∷ fs) on s st = absurd on
statement_ends (AssignTo n ∷ fs) on s st = absurd on
statement_ends (UpdateTo n ∷ fs) on s st = absurd on
statement_ends (AddressFor n ∷ fs) on s st = absurd on
statement_ends (UpdateWordTo n a ∷ fs) on s st = absurd on
statement_ends (IfTest ∷ fs) on s st = absurd on
statement_ends (ThenOf c ∷ fs) on s st = statement_ends fs on.1 s (IfThen c st)
statement_ends (ElseOf c y ∷ fs) on s st = statement_ends fs on.3 s (IfElse c y st)
statement_ends (InBegin ss ∷ fs) on s st = (AtEnd, _, refl, statement (record s { frames = fs }) _ (statement_ends fs on.1))
statement_ends (BodyOf clock ∷ fs) on s st = (AtLast, _, refl, done (record s { items = s.items ++ Always clock st ∷ []; frames = fs }))

update_ends : (n : List ℕ) (fs : List Frame) → EndsStatement fs → EndsExpr (UpdateTo n ∷ fs)
unfolding reduce
update_ends n fs ends s e = (AtSemicolon, _, refl, statement (record s { frames = fs }) (Update n e) ends)

word_ends : (n : List ℕ) (a : WrittenExpr) (fs : List Frame) → EndsStatement fs → EndsExpr (UpdateWordTo n a ∷ fs)
unfolding reduce
word_ends n a fs ends s e = (AtSemicolon, _, refl, statement (record s { frames = fs }) (UpdateWord n a e) ends)

target : (s : State) (n : List ℕ) → EndsStatement s.frames → Finishes (at s (AfterTarget n))
unfolding step
target s n ends = goes (at s (AfterTarget n)) (record s { stage = WantOperand; frames = UpdateTo n ∷ s.frames }) (Mark LessEquals) refl (wanted (record s { frames = UpdateTo n ∷ s.frames }) (update_ends n s.frames ends))

wanted_statement : (s : State) → EndsStatement s.frames → Finishes (at s WantStatement)
unfolding step
wanted_statement s ends = goes (at s WantStatement) (at s (AfterTarget a_name)) (Name a_name) refl (target s a_name ends)

arrow : (s : State) (n : List ℕ) (a : WrittenExpr) → EndsStatement s.frames → Finishes (at s (WantArrow n a))
unfolding step
arrow s n a ends = goes (at s (WantArrow n a)) (record s { stage = WantOperand; frames = UpdateWordTo n a ∷ s.frames }) (Mark LessEquals) refl (wanted (record s { frames = UpdateWordTo n a ∷ s.frames }) (word_ends n a s.frames ends))

then_ends : (c : WrittenExpr) (fs : List Frame) → EndsStatement fs → EndsStatement (ThenOf c ∷ fs)
unfolding at_end
then_ends c fs ends s st = ends s (IfThen c st)

-- ---- what ends an expression

reduce-infix : (op : InfixOp) (l : WrittenExpr) (fs : List Frame) (e : WrittenExpr) → reduce 11 (InfixOf op l ∷ fs) e ≡ reduce 11 fs (Infix op l e)
unfolding reduce
reduce-infix op l fs e = let b : leb (looseness op) 11 ≡ true = le-leb (looseness op) 11 (let q : looseness op ≤ 10 = (loose-range op).1 in omega arith) in rw b refl

colon_ends : (c x : WrittenExpr) (fs : List Frame) → EndsExpr fs → EndsExpr (ColonOf c x ∷ fs)
unfolding reduce
colon_ends c x fs ends s e = ends s (Conditional c x e)

expr_ends : (fs : List Frame) → OnExpr fs → EndsExpr fs
unfolding reduce
expr_ends [] on s e = absurd on
expr_ends (InParens ∷ fs) on s e = (AtParen, _, refl, operand (record s { frames = fs }) (Parens e) (expr_ends fs on))
expr_ends (InBraces parts ∷ fs) on s e = (AtBrace, _, refl, operand (record s { frames = fs }) _ (expr_ends fs on.1))
expr_ends (InIndex n ∷ fs) on s e = (AtBracket, _, refl, operand (record s { frames = fs }) (WordOf n e) (expr_ends fs on))
expr_ends (PrefixOf op ∷ fs) on s e = expr_ends fs on s (Prefix op e)
expr_ends (InfixOf op l ∷ fs) on s e = let r = expr_ends fs on.3 s (Infix op l e) in (r.0, r.1, ap (close_by r.0 s) (reduce-infix op l fs e) ∙ r.2, r.3)
expr_ends (TestOf c ∷ fs) on s e = (AtColon, _, refl, wanted (record s { frames = ColonOf c e ∷ fs }) (colon_ends c e fs (expr_ends fs on.3)))
expr_ends (ColonOf c x ∷ fs) on s e = expr_ends fs on.5 s (Conditional c x e)
expr_ends (AssignTo n ∷ fs) on s e = (AtSemicolon, _, refl, item (record s { items = s.items ++ Assign n e ∷ []; frames = fs }))
expr_ends (UpdateTo n ∷ fs) on s e = (AtSemicolon, _, refl, statement (record s { frames = fs }) (Update n e) (statement_ends fs on))
expr_ends (AddressFor n ∷ fs) on s e = (AtBracket, _, refl, arrow (record s { frames = fs }) n e (statement_ends fs on))
expr_ends (UpdateWordTo n a ∷ fs) on s e = (AtSemicolon, _, refl, statement (record s { frames = fs }) (UpdateWord n a e) (statement_ends fs on.1))
expr_ends (IfTest ∷ fs) on s e = (AtParen, _, refl, wanted_statement (record s { frames = ThenOf e ∷ fs }) (then_ends e fs (statement_ends fs on)))
expr_ends (ThenOf c ∷ fs) on s e = absurd on
expr_ends (ElseOf c y ∷ fs) on s e = absurd on
expr_ends (InBegin ss ∷ fs) on s e = absurd on
expr_ends (BodyOf clock ∷ fs) on s e = absurd on

-- ---- all stages

after_ports : (s : State) → Finishes (at s AfterPorts)
unfolding step
after_ports s = goes (at s AfterPorts) (at s WantItem) (Mark Semicolon) refl (item s)

after_port : (s : State) → Finishes (at s AfterPort)
unfolding step
after_port s = goes (at s AfterPort) (at s AfterPorts) (Mark CloseParen) refl (after_ports s)

after_name : (sort : Sort) (range : Range) (names : List (List ℕ)) (s : State) → Finishes (at s (AfterName sort range names))
unfolding step
after_name WireSort range names s = goes (at s (AfterName WireSort range names)) _ (Mark Semicolon) refl (item (record s { items = s.items ++ Wires range names ∷ [] }))
after_name RegisterSort range names s = goes (at s (AfterName RegisterSort range names)) _ (Mark Semicolon) refl (item (record s { items = s.items ++ Registers range names ∷ [] }))

declaring : (o : Owner) (s : State) → Finishes (at s (Declaring o))
unfolding step
declaring (OfPort d) s = goes (at s (Declaring (OfPort d))) _ (Name a_name) refl (after_port (record s { ports = s.ports ++ record { direction = d; range = None; name = a_name } ∷ [] }))
declaring (OfItem sort) s = goes (at s (Declaring (OfItem sort))) (at s (AfterName sort None (a_name ∷ []))) (Name a_name) refl (after_name sort None (a_name ∷ []) s)

want_name : (o : Owner) (range : Range) (s : State) → Finishes (at s (WantName o range))
unfolding step
want_name (OfPort d) range s = goes (at s (WantName (OfPort d) range)) _ (Name a_name) refl (after_port (record s { ports = s.ports ++ record { direction = d; range = range; name = a_name } ∷ [] }))
want_name (OfItem sort) range s = goes (at s (WantName (OfItem sort) range)) (at s (AfterName sort range (a_name ∷ []))) (Name a_name) refl (after_name sort range (a_name ∷ []) s)

want_close : (o : Owner) (high : List ℕ) (s : State) → Finishes (at s (WantClose o high))
unfolding step
want_close o high s = goes (at s (WantClose o high)) (at s (WantName o (Some high))) (Mark CloseBracket) refl (want_name o (Some high) s)

want_zero : (o : Owner) (high : List ℕ) (s : State) → Finishes (at s (WantZero o high))
unfolding step
want_zero o high s = goes (at s (WantZero o high)) (at s (WantClose o high)) (Number zero_digit) refl (want_close o high s)

want_colon : (o : Owner) (high : List ℕ) (s : State) → Finishes (at s (WantColon o high))
unfolding step
want_colon o high s = goes (at s (WantColon o high)) (at s (WantZero o high)) (Mark Colon) refl (want_zero o high s)

want_port : (s : State) → Finishes (at s WantPort)
unfolding step
want_port s = goes (at s WantPort) (at s (Declaring (OfPort In))) (Reserved InputWord) refl (declaring (OfPort In) s)

want_ports : (s : State) → Finishes (at s WantPorts)
unfolding step
want_ports s = goes (at s WantPorts) (at s WantPort) (Mark OpenParen) refl (want_port s)

want_title : (s : State) → Finishes (at s WantTitle)
unfolding step
want_title s = goes (at s WantTitle) (record s { name = a_name; stage = WantPorts }) (Name a_name) refl (want_ports (record s { name = a_name }))

memory_end : (range : Range) (n last : List ℕ) (s : State) → Finishes (at s (WantMemoryEnd range n last))
unfolding step
memory_end range n last s = goes (at s (WantMemoryEnd range n last)) _ (Mark Semicolon) refl (item (record s { items = s.items ++ MemoryOf range n last ∷ [] }))

memory_close : (range : Range) (n last : List ℕ) (s : State) → Finishes (at s (WantMemoryClose range n last))
unfolding step
memory_close range n last s = goes (at s (WantMemoryClose range n last)) (at s (WantMemoryEnd range n last)) (Mark CloseBracket) refl (memory_end range n last s)

want_last : (range : Range) (n : List ℕ) (s : State) → Finishes (at s (WantLast range n))
unfolding step
want_last range n s = goes (at s (WantLast range n)) (at s (WantMemoryClose range n zero_digit)) (Number zero_digit) refl (memory_close range n zero_digit s)

memory_colon : (range : Range) (n : List ℕ) (s : State) → Finishes (at s (WantMemoryColon range n))
unfolding step
memory_colon range n s = goes (at s (WantMemoryColon range n)) (at s (WantLast range n)) (Mark Colon) refl (want_last range n s)

edge_end : (clock : List ℕ) (s : State) → s.frames ≡ [] → Finishes (at s (WantEdgeEnd clock))
unfolding step
edge_end clock s e = goes (at s (WantEdgeEnd clock)) (record s { stage = WantStatement; frames = BodyOf clock ∷ s.frames }) (Mark CloseParen) refl (wanted_statement (record s { frames = BodyOf clock ∷ s.frames }) (statement_ends (BodyOf clock ∷ s.frames) e))

want_clock : (s : State) → s.frames ≡ [] → Finishes (at s WantClock)
unfolding step
want_clock s e = goes (at s WantClock) (at s (WantEdgeEnd a_name)) (Name a_name) refl (edge_end a_name s e)

want_posedge : (s : State) → s.frames ≡ [] → Finishes (at s WantPosedge)
unfolding step
want_posedge s e = goes (at s WantPosedge) (at s WantClock) (Reserved PosedgeWord) refl (want_clock s e)

want_edge : (s : State) → s.frames ≡ [] → Finishes (at s WantEdge)
unfolding step
want_edge s e = goes (at s WantEdge) (at s WantPosedge) (Mark OpenParen) refl (want_posedge s e)

want_equals : (n : List ℕ) (s : State) → s.frames ≡ [] → Finishes (at s (WantEquals n))
unfolding step
want_equals n s e = goes (at s (WantEquals n)) (record s { stage = WantOperand; frames = AssignTo n ∷ s.frames }) (Mark Equals) refl (wanted (record s { frames = AssignTo n ∷ s.frames }) (expr_ends (AssignTo n ∷ s.frames) e))

part_end : (n h l : List ℕ) (s : State) → EndsExpr s.frames → Finishes (at s (AtPart n h l))
unfolding step
part_end n h l s ends = goes (at s (AtPart n h l)) _ (Mark CloseBracket) refl (operand s (PartOf n h l) ends)

place_end : (n p : List ℕ) (s : State) → EndsExpr s.frames → Finishes (at s (AtPlace n p))
unfolding step
place_end n p s ends = goes (at s (AtPlace n p)) _ (Mark CloseBracket) refl (operand s (BitOf n p) ends)

pub finishes : (stage : Stage) (s : State) → fine_at stage s → Finishes (at s stage)
unfolding step
finishes WantModule s f = goes (at s WantModule) (at s WantTitle) (Reserved ModuleWord) refl (want_title s)
finishes WantTitle s f = want_title s
finishes WantPorts s f = want_ports s
finishes WantPort s f = want_port s
finishes (Declaring o) s f = declaring o s
finishes (WantHigh o) s f = goes (at s (WantHigh o)) (at s (WantColon o zero_digit)) (Number zero_digit) refl (want_colon o zero_digit s)
finishes (WantColon o high) s f = want_colon o high s
finishes (WantZero o high) s f = want_zero o high s
finishes (WantClose o high) s f = want_close o high s
finishes (WantName o range) s f = want_name o range s
finishes AfterPort s f = after_port s
finishes AfterPorts s f = after_ports s
finishes (AfterName sort range names) s f = after_name sort range names s
finishes (WantMore sort range names) s f = goes (at s (WantMore sort range names)) (at s (AfterName sort range (names ++ a_name ∷ []))) (Name a_name) refl (after_name sort range (names ++ a_name ∷ []) s)
finishes (WantFirst range n) s f = goes (at s (WantFirst range n)) (at s (WantMemoryColon range n)) (Number zero_digit) refl (memory_colon range n s)
finishes (WantMemoryColon range n) s f = memory_colon range n s
finishes (WantLast range n) s f = want_last range n s
finishes (WantMemoryClose range n last) s f = memory_close range n last s
finishes (WantMemoryEnd range n last) s f = memory_end range n last s
finishes WantItem s f = item s
finishes WantAssigned s f = goes (at s WantAssigned) (at s (WantEquals a_name)) (Name a_name) refl (want_equals a_name s f.1)
finishes (WantEquals n) s f = want_equals n s f.1
finishes WantAt s f = goes (at s WantAt) (at s WantEdge) (Mark At) refl (want_edge s f.1)
finishes WantEdge s f = want_edge s f.1
finishes WantPosedge s f = want_posedge s f.1
finishes WantClock s f = want_clock s f.1
finishes (WantEdgeEnd n) s f = edge_end n s f.1
finishes WantStatement s f = wanted_statement s (statement_ends s.frames f.1)
finishes (AfterTarget n) s f = target s n (statement_ends s.frames f.1)
finishes (WantArrow n a) s f = arrow s n a (statement_ends s.frames f.0.1)
finishes WantTest s f = goes (at s WantTest) (record s { stage = WantOperand; frames = IfTest ∷ s.frames }) (Mark OpenParen) refl (wanted (record s { frames = IfTest ∷ s.frames }) (expr_ends (IfTest ∷ s.frames) f.1))
finishes (HaveStatement st) s f = statement s st (statement_ends s.frames f.1.stands)
finishes WantOperand s f = wanted s (expr_ends s.frames f.1)
finishes (HaveOperand e) s f = operand s e (expr_ends s.frames f.1.stands)
finishes (AtIndex n) s f = goes (at s (AtIndex n)) (at s (AtPlace n zero_digit)) (Number zero_digit) refl (place_end n zero_digit s (expr_ends s.frames f.1))
finishes (AtPlace n p) s f = place_end n p s (expr_ends s.frames f.1)
finishes (WantLow n h) s f = goes (at s (WantLow n h)) (at s (AtPart n h zero_digit)) (Number zero_digit) refl (part_end n h zero_digit s (expr_ends s.frames f.1))
finishes (AtPart n h l) s f = part_end n h l s (expr_ends s.frames f.1)
finishes Complete s f = done s
