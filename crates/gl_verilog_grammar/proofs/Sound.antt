-- After each token the machine's state tells the tokens that were read.
use Rattle.std.proofs.Common.{◌≡◌, ℕ, ◌+◌, ◌-◌, ◌≤◌, List, [], ◌∷◌, ◌++◌, Option, Some, refl, sym, ap, ◌∙◌, append_assoc, arith}
use Rattle.gl_verilog.specs.Tokens.{Token, Reserved, Name, Number, Sized, Mark, EndModuleWord, RegWord, AssignWord, IfWord, OpenParen, CloseParen, OpenBracket, CloseBracket, OpenBrace, CloseBrace, Semicolon, Comma, Colon, Question, Equals, Tilde, Exclamation, Star, Plus, Minus, Less, Greater, Ampersand, Caret, Bar, LessEquals, GreaterEquals, EqualsEquals, ExclamationEquals, AmpersandAmpersand, BarBar}
use Rattle.gl_verilog.specs.Written.{InfixOp, Times, Added, Subtracted, Below, AtMost, Above, AtLeast, Equal, NotEqual, BitAnd, BitXor, BitOr, LogicalAnd, LogicalOr, WrittenExpr, Named, looseness, level, infix_token, spell_expr, WrittenPort, WrittenItem, Assign, spell_range, spell_ports, spell_items, spell, zero_digit}
use Rattle.gl_verilog_grammar.specs.Machine.{State, Frame, InParens, InBraces, InIndex, TestOf, AssignTo, UpdateTo, AddressFor, UpdateWordTo, IfTest, Stage, WantModule, WantTitle, WantPorts, WantPort, Declaring, WantHigh, WantColon, WantZero, WantClose, WantName, AfterPort, AfterPorts, AfterName, WantMore, WantFirst, WantMemoryColon, WantLast, WantMemoryClose, WantMemoryEnd, WantItem, WantAssigned, WantEquals, WantAt, WantEdge, WantPosedge, WantClock, WantEdgeEnd, WantStatement, AfterTarget, WantArrow, WantTest, HaveStatement, WantOperand, HaveOperand, AtIndex, AtPlace, WantLow, AtPart, Complete, reduce, Open, at_infix, at_question, indexed, want_operand, have_operand, at_index, at_place, step, step_at, at_close, IsColon, IsComma, IsBrace, IsParen, IsBracket, IsSemicolon}
use Rattle.gl_verilog_grammar.proofs.OpenTexts.{with_commas, text_of, room, loose-range, room-some, room-wide, Reduced, reduces, parts-more, commas-more, joins}
use Rattle.gl_verilog_grammar.proofs.Told.{opening, base, owner_text, told_at, AreGood, OnOperand, fine_at, Means, moved, means, retold}
use Rattle.gl_verilog_grammar.proofs.SoundStatements.{at_want_module, at_want_title, at_want_ports, at_want_port, at_declaring, at_want_high, at_want_colon, at_want_close, at_want_zero, at_want_name, at_after_port, at_after_ports, base-more, good-more, at_after_name, at_want_more, memory-goes, at_want_last, at_want_memory_end, at_want_item, at_want_assigned, at_want_equals, at_want_at, at_want_edge, at_want_posedge, at_want_clock, at_want_edge_end, open-more, open-next, at_want_statement, at_after_target, at_want_arrow, at_want_test, at_have_statement, item-goes}

-- ---- expressions

at_want_operand : (t : Token) (s s' : State) → fine_at WantOperand s → want_operand s t ≡ Some s' → Means s' (told_at WantOperand s ++ t ∷ [])
at_want_operand (Name n) s s' f e =
    moved e (means _ _ (open-more (base s.name s.ports s.items) (text_of s.frames) (Name n ∷ []))
    (f.0, record { stands = f.1; operand = tt }, refl))
at_want_operand (Sized size radix digits) s s' f e =
    moved e (means _ _ (open-more (base s.name s.ports s.items) (text_of s.frames) (Sized size radix digits ∷ []))
    (f.0, record { stands = f.1; operand = tt }, refl))
at_want_operand (Mark OpenParen) s s' f e =
    moved e (means _ _ (open-more (base s.name s.ports s.items) (text_of s.frames) (Mark OpenParen ∷ []))
    (f.0, f.1))
at_want_operand (Mark OpenBrace) s s' f e =
    moved e (means _ _ (open-more (base s.name s.ports s.items) (text_of s.frames) (Mark OpenBrace ∷ []))
    (f.0, (tt, f.1)))
at_want_operand (Mark Tilde) s s' f e =
    moved e (means _ _ (open-more (base s.name s.ports s.items) (text_of s.frames) (Mark Tilde ∷ []))
    (f.0, f.1))
at_want_operand (Mark Exclamation) s s' f e =
    moved e (means _ _ (open-more (base s.name s.ports s.items) (text_of s.frames) (Mark Exclamation ∷ []))
    (f.0, f.1))
at_want_operand t s s' f e = absurd cc

-- the text of an operand and the frames below it, and a token
taken : (b a c d x t : List Token) → a ++ c ≡ d ++ x → b ++ (a ++ (c ++ t)) ≡ (b ++ (d ++ x)) ++ t
taken b a c d x t e =
    ap (λ (y : List Token). b ++ y) (sym (append_assoc a c t) ∙ ap (λ (y : List Token). y ++ t) e) ∙ sym (append_assoc b (d ++ x) t)

abbrev reduced : ℕ → State → WrittenExpr → Open WrittenExpr
reduced p s e = reduce p s.frames e

reduction : (p : ℕ) (e : WrittenExpr) (s : State) → 2 ≤ p → p ≤ 11 → fine_at (HaveOperand e) s → Reduced p s.frames e (reduced p s e)
reduction p e s lo hi f = reduces s.frames p e lo hi f.1.stands f.1.operand (omega (arith, f.2, room-some s.frames)) (omega (arith, f.2))

infix-goes : (op : InfixOp) (e : WrittenExpr) (s s' : State) → fine_at (HaveOperand e) s → at_infix s op (reduced (looseness op) s e) ≡ Some s' → Means s' (told_at (HaveOperand e) s ++ infix_token op ∷ [])
infix-goes op e s s' f q =
    let r = reduction (looseness op) e s (loose-range op).0 (omega (arith, loose-range op)) f in
    moved q (means _ _ (taken (base s.name s.ports s.items) (text_of (reduced (looseness op) s e).0) (spell_expr (reduced (looseness op) s e).1) (text_of s.frames) (spell_expr e) (infix_token op ∷ []) r.text)
    (f.0, (r.operand, r.tight, r.wide, r.stands)))

question-goes : (e : WrittenExpr) (s s' : State) → fine_at (HaveOperand e) s → at_question s (reduced 10 s e) ≡ Some s' → Means s' (told_at (HaveOperand e) s ++ Mark Question ∷ [])
question-goes e s s' f q =
    let r = reduction 10 e s (omega arith) (omega arith) f in
    moved q (means _ _ (taken (base s.name s.ports s.items) (text_of (reduced 10 s e).0) (spell_expr (reduced 10 s e).1) (text_of s.frames) (spell_expr e) (Mark Question ∷ []) r.text)
    (f.0, (r.operand, r.tight, room-wide (reduced 10 s e).0 r.wide, r.stands)))

-- behind a whole expression, on these frames
abbrev Behind : (List Frame → WrittenExpr → Option State) → Token → State → State → Type 0
Behind next t s s' = (fs : List Frame) (e : WrittenExpr) → AreGood s.ports s.items → OnOperand fs e → level e ≤ 11 → next fs e ≡ Some s' → Means s' ((base s.name s.ports s.items ++ (text_of fs ++ spell_expr e)) ++ t ∷ [])

whole-goes : (next : List Frame → WrittenExpr → Option State) (t : Token) (e : WrittenExpr) (s s' : State) → Behind next t s s' → fine_at (HaveOperand e) s → next (reduced 11 s e).0 (reduced 11 s e).1 ≡ Some s' → Means s' (told_at (HaveOperand e) s ++ t ∷ [])
whole-goes next t e s s' behind f q =
    let r = reduction 11 e s (omega arith) (omega arith) f in
    retold s' _ _ (ap (λ (x : List Token). (base s.name s.ports s.items ++ x) ++ t ∷ []) r.text)
    (behind (reduced 11 s e).0 (reduced 11 s e).1 f.0 (record { stands = r.stands; operand = r.operand }) r.tight q)

colon-told : (b f c e : List Token) → b ++ (f ++ (c ++ Mark Question ∷ (e ++ Mark Colon ∷ []))) ≡ (b ++ ((f ++ (c ++ Mark Question ∷ [])) ++ e)) ++ Mark Colon ∷ []
colon-told b f c e = simp append_assoc

colon-goes : (s s' : State) → Behind (at_close IsColon s) (Mark Colon) s s'
colon-goes s s' (TestOf c ∷ fs) e g f le q =
    moved q (means _ _ (colon-told (base s.name s.ports s.items) (text_of fs) (spell_expr c) (spell_expr e))
    (g, (f.stands.0, f.stands.1, f.operand, le, f.stands.2, f.stands.3)))
colon-goes s s' fs e g f le q = absurd cc

comma-told : (b f d e : List Token) → b ++ (f ++ (Mark OpenBrace ∷ (d ++ (e ++ Mark Comma ∷ [])))) ≡ (b ++ ((f ++ (Mark OpenBrace ∷ d)) ++ e)) ++ Mark Comma ∷ []
comma-told b f d e = simp append_assoc

comma-next : (s s' : State) → Behind (at_close IsComma s) (Mark Comma) s s'
comma-next s s' (InBraces parts ∷ fs) e g f le q =
    moved q (means _ _
    (ap (λ (x : List Token). base s.name s.ports s.items ++ (text_of fs ++ (Mark OpenBrace ∷ x))) (commas-more parts e) ∙ comma-told (base s.name s.ports s.items) (text_of fs) (with_commas parts) (spell_expr e))
    (g, (parts-more parts e f.stands.0 le f.operand, f.stands.1)))
comma-next s s' fs e g f le q = absurd cc

brace-told : (b f d e : List Token) → b ++ (f ++ (Mark OpenBrace ∷ ((d ++ e) ++ Mark CloseBrace ∷ []))) ≡ (b ++ ((f ++ (Mark OpenBrace ∷ d)) ++ e)) ++ Mark CloseBrace ∷ []
brace-told b f d e = simp append_assoc

brace-goes : (s s' : State) → Behind (at_close IsBrace s) (Mark CloseBrace) s s'
brace-goes s s' (InBraces parts ∷ fs) e g f le q =
    let j = joins parts e f.stands.0 f.operand in
    moved q (means _ _
    (ap (λ (x : List Token). base s.name s.ports s.items ++ (text_of fs ++ (Mark OpenBrace ∷ (x ++ Mark CloseBrace ∷ [])))) j.text ∙ brace-told (base s.name s.ports s.items) (text_of fs) (with_commas parts) (spell_expr e))
    (g, record { stands = f.stands.1; operand = j.grouped }, refl))
brace-goes s s' fs e g f le q = absurd cc

bracketed : (b f o e : List Token) (c : Token) → b ++ (f ++ (o ++ (e ++ c ∷ []))) ≡ (b ++ ((f ++ o) ++ e)) ++ c ∷ []
bracketed b f o e c = simp append_assoc

paren-goes : (s s' : State) → Behind (at_close IsParen s) (Mark CloseParen) s s'
paren-goes s s' (InParens ∷ fs) e g f le q =
    moved q (means _ _ (bracketed (base s.name s.ports s.items) (text_of fs) (Mark OpenParen ∷ []) (spell_expr e) (Mark CloseParen))
    (g, record { stands = f.stands; operand = (le, f.operand) }, refl))
paren-goes s s' (IfTest ∷ fs) e g f le q =
    moved q (means _ _ (bracketed (base s.name s.ports s.items) (text_of fs) (Reserved IfWord ∷ Mark OpenParen ∷ []) (spell_expr e) (Mark CloseParen))
    (g, ((le, f.operand), f.stands)))
paren-goes s s' fs e g f le q = absurd cc

bracket-goes : (s s' : State) → Behind (at_close IsBracket s) (Mark CloseBracket) s s'
bracket-goes s s' (InIndex n ∷ fs) e g f le q =
    moved q (means _ _ (bracketed (base s.name s.ports s.items) (text_of fs) (Name n ∷ Mark OpenBracket ∷ []) (spell_expr e) (Mark CloseBracket))
    (g, record { stands = f.stands; operand = (le, f.operand) }, refl))
bracket-goes s s' (AddressFor n ∷ fs) e g f le q =
    moved q (means _ _ (bracketed (base s.name s.ports s.items) (text_of fs) (Name n ∷ Mark OpenBracket ∷ []) (spell_expr e) (Mark CloseBracket))
    ((g, f.stands), (le, f.operand)))
bracket-goes s s' fs e g f le q = absurd cc

assign-told : (b : List Token) (fs : List Frame) (o e : List Token) → fs ≡ [] → b ++ (o ++ (e ++ Mark Semicolon ∷ [])) ≡ (b ++ ((text_of fs ++ o) ++ e)) ++ Mark Semicolon ∷ []
assign-told b fs o e q = plain b o e ∙ ap (λ (gs : List Frame). (b ++ ((text_of gs ++ o) ++ e)) ++ Mark Semicolon ∷ []) (sym q)
  where
    plain : (b o e : List Token) → b ++ (o ++ (e ++ Mark Semicolon ∷ [])) ≡ (b ++ (o ++ e)) ++ Mark Semicolon ∷ []
    plain b o e = simp append_assoc

word-told : (b f a e : List Token) (n : List ℕ) → b ++ (f ++ (Name n ∷ Mark OpenBracket ∷ (a ++ Mark CloseBracket ∷ Mark LessEquals ∷ (e ++ Mark Semicolon ∷ [])))) ≡ (b ++ ((f ++ (Name n ∷ Mark OpenBracket ∷ (a ++ Mark CloseBracket ∷ Mark LessEquals ∷ []))) ++ e)) ++ Mark Semicolon ∷ []
word-told b f a e n = simp append_assoc

semicolon-goes : (s s' : State) → Behind (at_close IsSemicolon s) (Mark Semicolon) s s'
semicolon-goes s s' (AssignTo n ∷ fs) e g f le q =
    moved q (means _ _
    (base-more s.name s.ports s.items (Assign n e) ∙ assign-told (base s.name s.ports s.items) fs (Reserved AssignWord ∷ Name n ∷ Mark Equals ∷ []) (spell_expr e) f.stands)
    (good-more s.ports s.items (Assign n e) g (le, f.operand), f.stands))
semicolon-goes s s' (UpdateTo n ∷ fs) e g f le q =
    moved q (means _ _ (bracketed (base s.name s.ports s.items) (text_of fs) (Name n ∷ Mark LessEquals ∷ []) (spell_expr e) (Mark Semicolon))
    (g, record { stands = f.stands; done = (le, f.operand) }, refl))
semicolon-goes s s' (UpdateWordTo n a ∷ fs) e g f le q =
    moved q (means _ _ (word-told (base s.name s.ports s.items) (text_of fs) (spell_expr a) (spell_expr e) n)
    (g, record { stands = f.stands.1; done = (f.stands.0, (le, f.operand)) }, refl))
semicolon-goes s s' fs e g f le q = absurd cc

index-goes : (e : WrittenExpr) (s s' : State) → fine_at (HaveOperand e) s → indexed s e ≡ Some s' → Means s' (told_at (HaveOperand e) s ++ Mark OpenBracket ∷ [])
index-goes (Named n) s s' f q =
    moved q (means _ _ (open-next (base s.name s.ports s.items) (text_of s.frames) (Name n ∷ []) (Mark OpenBracket))
    (f.0, f.1.stands))
index-goes e s s' f q = absurd cc

at_have_operand : (t : Token) (e : WrittenExpr) (s s' : State) → fine_at (HaveOperand e) s → have_operand e s t ≡ Some s' → Means s' (told_at (HaveOperand e) s ++ t ∷ [])
at_have_operand (Mark Star) e s s' f q = infix-goes Times e s s' f q
at_have_operand (Mark Plus) e s s' f q = infix-goes Added e s s' f q
at_have_operand (Mark Minus) e s s' f q = infix-goes Subtracted e s s' f q
at_have_operand (Mark Less) e s s' f q = infix-goes Below e s s' f q
at_have_operand (Mark LessEquals) e s s' f q = infix-goes AtMost e s s' f q
at_have_operand (Mark Greater) e s s' f q = infix-goes Above e s s' f q
at_have_operand (Mark GreaterEquals) e s s' f q = infix-goes AtLeast e s s' f q
at_have_operand (Mark EqualsEquals) e s s' f q = infix-goes Equal e s s' f q
at_have_operand (Mark ExclamationEquals) e s s' f q = infix-goes NotEqual e s s' f q
at_have_operand (Mark Ampersand) e s s' f q = infix-goes BitAnd e s s' f q
at_have_operand (Mark Caret) e s s' f q = infix-goes BitXor e s s' f q
at_have_operand (Mark Bar) e s s' f q = infix-goes BitOr e s s' f q
at_have_operand (Mark AmpersandAmpersand) e s s' f q = infix-goes LogicalAnd e s s' f q
at_have_operand (Mark BarBar) e s s' f q = infix-goes LogicalOr e s s' f q
at_have_operand (Mark Question) e s s' f q = question-goes e s s' f q
at_have_operand (Mark Colon) e s s' f q = whole-goes (at_close IsColon s) (Mark Colon) e s s' (colon-goes s s') f q
at_have_operand (Mark Comma) e s s' f q = whole-goes (at_close IsComma s) (Mark Comma) e s s' (comma-next s s') f q
at_have_operand (Mark CloseBrace) e s s' f q = whole-goes (at_close IsBrace s) (Mark CloseBrace) e s s' (brace-goes s s') f q
at_have_operand (Mark CloseParen) e s s' f q = whole-goes (at_close IsParen s) (Mark CloseParen) e s s' (paren-goes s s') f q
at_have_operand (Mark CloseBracket) e s s' f q = whole-goes (at_close IsBracket s) (Mark CloseBracket) e s s' (bracket-goes s s') f q
at_have_operand (Mark Semicolon) e s s' f q = whole-goes (at_close IsSemicolon s) (Mark Semicolon) e s s' (semicolon-goes s s') f q
at_have_operand (Mark OpenBracket) e s s' f q = index-goes e s s' f q
at_have_operand t e s s' f q = absurd cc

index-operand : (t : Token) (n : List ℕ) (s s' : State) → fine_at (AtIndex n) s → want_operand (record s { frames = InIndex n ∷ s.frames }) t ≡ Some s' → Means s' (told_at (AtIndex n) s ++ t ∷ [])
index-operand t n s s' f e =
    at_want_operand t (record s { frames = InIndex n ∷ s.frames }) s'
    (f.0, f.1) e

at_at_index : (t : Token) (n : List ℕ) (s s' : State) → fine_at (AtIndex n) s → at_index n s t ≡ Some s' → Means s' (told_at (AtIndex n) s ++ t ∷ [])
at_at_index (Number p) n s s' f e = moved e (means _ _ (open-next (base s.name s.ports s.items) (text_of s.frames) (Name n ∷ Mark OpenBracket ∷ []) (Number p)) f)
at_at_index t n s s' f e = index-operand t n s s' f e

at_at_place : (t : Token) (n p : List ℕ) (s s' : State) → fine_at (AtPlace n p) s → at_place n p s t ≡ Some s' → Means s' (told_at (AtPlace n p) s ++ t ∷ [])
at_at_place (Mark CloseBracket) n p s s' f e =
    moved e (means _ _ (open-next (base s.name s.ports s.items) (text_of s.frames) (Name n ∷ Mark OpenBracket ∷ Number p ∷ []) (Mark CloseBracket))
    (f.0, record { stands = f.1; operand = tt }, refl))
at_at_place (Mark Colon) n p s s' f e = moved e (means _ _ (open-next (base s.name s.ports s.items) (text_of s.frames) (Name n ∷ Mark OpenBracket ∷ Number p ∷ []) (Mark Colon)) f)
at_at_place t n p s s' f e = absurd cc

at_want_low : (t : Token) (n h : List ℕ) (s s' : State) → fine_at (WantLow n h) s → step_at (WantLow n h) s t ≡ Some s' → Means s' (told_at (WantLow n h) s ++ t ∷ [])
at_want_low (Number l) n h s s' f e = moved e (means _ _ (open-next (base s.name s.ports s.items) (text_of s.frames) (Name n ∷ Mark OpenBracket ∷ Number h ∷ Mark Colon ∷ []) (Number l)) f)
at_want_low t n h s s' f e = absurd cc

at_at_part : (t : Token) (n h l : List ℕ) (s s' : State) → fine_at (AtPart n h l) s → step_at (AtPart n h l) s t ≡ Some s' → Means s' (told_at (AtPart n h l) s ++ t ∷ [])
at_at_part (Mark CloseBracket) n h l s s' f e =
    moved e (means _ _ (open-next (base s.name s.ports s.items) (text_of s.frames) (Name n ∷ Mark OpenBracket ∷ Number h ∷ Mark Colon ∷ Number l ∷ []) (Mark CloseBracket))
    (f.0, record { stands = f.1; operand = tt }, refl))
at_at_part t n h l s s' f e = absurd cc

-- ---- one token, and all of them

at_stage : (stage : Stage) (t : Token) (s s' : State) → fine_at stage s → step_at stage s t ≡ Some s' → Means s' (told_at stage s ++ t ∷ [])
at_stage WantModule t s s' f e = at_want_module t s s' f e
at_stage WantTitle t s s' f e = at_want_title t s s' f e
at_stage WantPorts t s s' f e = at_want_ports t s s' f e
at_stage WantPort t s s' f e = at_want_port t s s' f e
at_stage (Declaring o) t s s' f e = at_declaring t o s s' f e
at_stage (WantHigh o) t s s' f e = at_want_high t o s s' f e
at_stage (WantColon o h) t s s' f e = at_want_colon t (WantZero o h) s s' (told_at (WantColon o h) s) f (item-goes (owner_text o s) (Mark OpenBracket ∷ Number h ∷ []) (Mark Colon)) e
at_stage (WantZero o h) t s s' f e = at_want_zero t (WantClose o h) s s' (told_at (WantZero o h) s) f (item-goes (owner_text o s) (Mark OpenBracket ∷ Number h ∷ Mark Colon ∷ []) (Number zero_digit)) e
at_stage (WantClose o h) t s s' f e = at_want_close t (WantName o (Some h)) s s' (told_at (WantClose o h) s) f (item-goes (owner_text o s) (Mark OpenBracket ∷ Number h ∷ Mark Colon ∷ Number zero_digit ∷ []) (Mark CloseBracket)) e
at_stage (WantName o range) t s s' f e = at_want_name t o range s s' f e
at_stage AfterPort t s s' f e = at_after_port t s s' f e
at_stage AfterPorts t s s' f e = at_after_ports t s s' f e
at_stage (AfterName sort range names) t s s' f e = at_after_name t sort range names s s' f e
at_stage (WantMore sort range names) t s s' f e = at_want_more t sort range names s s' f e
at_stage (WantFirst range n) t s s' f e = at_want_zero t (WantMemoryColon range n) s s' (told_at (WantFirst range n) s) f (memory-goes (base s.name s.ports s.items) (spell_range range) (Name n ∷ Mark OpenBracket ∷ []) (Reserved RegWord) (Number zero_digit)) e
at_stage (WantMemoryColon range n) t s s' f e = at_want_colon t (WantLast range n) s s' (told_at (WantMemoryColon range n) s) f (memory-goes (base s.name s.ports s.items) (spell_range range) (Name n ∷ Mark OpenBracket ∷ Number zero_digit ∷ []) (Reserved RegWord) (Mark Colon)) e
at_stage (WantLast range n) t s s' f e = at_want_last t range n s s' f e
at_stage (WantMemoryClose range n last) t s s' f e = at_want_close t (WantMemoryEnd range n last) s s' (told_at (WantMemoryClose range n last) s) f (memory-goes (base s.name s.ports s.items) (spell_range range) (Name n ∷ Mark OpenBracket ∷ Number zero_digit ∷ Mark Colon ∷ Number last ∷ []) (Reserved RegWord) (Mark CloseBracket)) e
at_stage (WantMemoryEnd range n last) t s s' f e = at_want_memory_end t range n last s s' f e
at_stage WantItem t s s' f e = at_want_item t s s' f e
at_stage WantAssigned t s s' f e = at_want_assigned t s s' f e
at_stage (WantEquals n) t s s' f e = at_want_equals t n s s' f e
at_stage WantAt t s s' f e = at_want_at t s s' f e
at_stage WantEdge t s s' f e = at_want_edge t s s' f e
at_stage WantPosedge t s s' f e = at_want_posedge t s s' f e
at_stage WantClock t s s' f e = at_want_clock t s s' f e
at_stage (WantEdgeEnd n) t s s' f e = at_want_edge_end t n s s' f e
at_stage WantStatement t s s' f e = at_want_statement t s s' f e
at_stage (AfterTarget n) t s s' f e = at_after_target t n s s' f e
at_stage (WantArrow n a) t s s' f e = at_want_arrow t n a s s' f e
at_stage WantTest t s s' f e = at_want_test t s s' f e
at_stage (HaveStatement st) t s s' f e = at_have_statement t st s s' f e
at_stage WantOperand t s s' f e = at_want_operand t s s' f e
at_stage (HaveOperand x) t s s' f e = at_have_operand t x s s' f e
at_stage (AtIndex n) t s s' f e = at_at_index t n s s' f e
at_stage (AtPlace n p) t s s' f e = at_at_place t n p s s' f e
at_stage (WantLow n h) t s s' f e = at_want_low t n h s s' f e
at_stage (AtPart n h l) t s s' f e = at_at_part t n h l s s' f e
at_stage Complete t s s' f e = absurd cc

pub stepped : (t : Token) (s s' : State) (ts : List Token) → Means s ts → step s t ≡ Some s' → Means s' (ts ++ t ∷ [])
unfolding step
stepped t s s' ts m e = retold s' _ _ (ap (λ (x : List Token). x ++ t ∷ []) m.told) (at_stage s.stage t s s' m.fine e)

pub base-ends : (n : List ℕ) (ps : List WrittenPort) (is : List WrittenItem) → base n ps is ++ Reserved EndModuleWord ∷ [] ≡ spell (record { name = n; ports = ps; items = is })
unfolding base
base-ends n ps is = ap (opening n) (append_assoc (spell_ports ps) (Mark CloseParen ∷ Mark Semicolon ∷ spell_items is) (Reserved EndModuleWord ∷ []))
