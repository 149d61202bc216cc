-- The text of what is open while tokens are read, and what makes it the beginning of a module.
use Rattle.std.proofs.Common.{◌≡◌, ℕ, ◌+◌, ◌-◌, ◌<◌, ◌≤◌, Bool, true, false, cond, leb, List, [], ◌∷◌, ◌++◌, Some, refl, sym, ap, ◌∙◌, append_assoc, arith}
use Rattle.std.proofs.lemmas.Bool.{leb-true, leb-false}
use Rattle.std.proofs.lemmas.List.{append-nil}
use Rattle.gl_verilog.specs.Tokens.{Token, Reserved, Name, Mark, AssignWord, AlwaysWord, PosedgeWord, BeginWord, IfWord, ElseWord, OpenParen, CloseParen, OpenBracket, CloseBracket, OpenBrace, Comma, Colon, Question, At, Equals, LessEquals}
use Rattle.gl_verilog.specs.Written.{InfixOp, Times, Added, Subtracted, Below, AtMost, Above, AtLeast, Equal, NotEqual, BitAnd, BitXor, BitOr, LogicalAnd, LogicalOr, WrittenExpr, Prefix, Infix, Conditional, looseness, level, IsGrouped, IsExpr, prefix_token, infix_token, spell_expr, WrittenStatement, IfThen, IfElse, ends_open, InBlock, IsStatementAt, IsStatement, spell_statement, listed}
use Rattle.gl_verilog_grammar.specs.Machine.{Frame, InParens, InBraces, InIndex, PrefixOf, InfixOf, TestOf, ColonOf, AssignTo, UpdateTo, AddressFor, UpdateWordTo, IfTest, ThenOf, ElseOf, InBegin, BodyOf, Open, reduce, parts_of, at_else, at_end}
use Rattle.gl_bits.proofs.Options.{some_fact}

-- ---- texts

-- expressions with a comma behind each
abbrev pub with_commas : List WrittenExpr → List Token
with_commas [] = []
with_commas (p ∷ ps) = spell_expr p ++ Mark Comma ∷ with_commas ps

-- statements one after the other
abbrev pub spell_all : List WrittenStatement → List Token
spell_all [] = []
spell_all (s ∷ ss) = spell_statement s ++ spell_all ss

abbrev pub frame_text : Frame → List Token
frame_text InParens = Mark OpenParen ∷ []
frame_text (InBraces parts) = Mark OpenBrace ∷ with_commas parts
frame_text (InIndex n) = Name n ∷ Mark OpenBracket ∷ []
frame_text (PrefixOf op) = prefix_token op ∷ []
frame_text (InfixOf op l) = spell_expr l ++ infix_token op ∷ []
frame_text (TestOf c) = spell_expr c ++ Mark Question ∷ []
frame_text (ColonOf c x) = spell_expr c ++ Mark Question ∷ (spell_expr x ++ Mark Colon ∷ [])
frame_text (AssignTo n) = Reserved AssignWord ∷ Name n ∷ Mark Equals ∷ []
frame_text (UpdateTo n) = Name n ∷ Mark LessEquals ∷ []
frame_text (AddressFor n) = Name n ∷ Mark OpenBracket ∷ []
frame_text (UpdateWordTo n a) = Name n ∷ Mark OpenBracket ∷ (spell_expr a ++ Mark CloseBracket ∷ Mark LessEquals ∷ [])
frame_text IfTest = Reserved IfWord ∷ Mark OpenParen ∷ []
frame_text (ThenOf c) = Reserved IfWord ∷ Mark OpenParen ∷ (spell_expr c ++ Mark CloseParen ∷ [])
frame_text (ElseOf c y) = Reserved IfWord ∷ Mark OpenParen ∷ (spell_expr c ++ Mark CloseParen ∷ (spell_statement y ++ Reserved ElseWord ∷ []))
frame_text (InBegin done) = Reserved BeginWord ∷ spell_all done
frame_text (BodyOf clock) = Reserved AlwaysWord ∷ Mark At ∷ Mark OpenParen ∷ Reserved PosedgeWord ∷ Name clock ∷ Mark CloseParen ∷ []

-- the text of a stack, whose top was read last
abbrev pub text_of : List Frame → List Token
text_of [] = []
text_of (f ∷ fs) = text_of fs ++ frame_text f

-- ---- what may stand on what

-- what the level of an operand on these frames has to be below
abbrev pub room : List Frame → ℕ
room [] = 12
room (InParens ∷ fs) = 12
room (InBraces parts ∷ fs) = 12
room (InIndex n ∷ fs) = 12
room (PrefixOf op ∷ fs) = 2
room (InfixOf op l ∷ fs) = looseness op
room (TestOf c ∷ fs) = 12
room (ColonOf c x ∷ fs) = 12
room (AssignTo n ∷ fs) = 12
room (UpdateTo n ∷ fs) = 12
room (AddressFor n ∷ fs) = 12
room (UpdateWordTo n a ∷ fs) = 12
room (IfTest ∷ fs) = 12
room (ThenOf c ∷ fs) = 12
room (ElseOf c y ∷ fs) = 12
room (InBegin done ∷ fs) = 12
room (BodyOf clock ∷ fs) = 12

abbrev pub AreParts : List WrittenExpr → Type 0
AreParts [] = Unit {0}
AreParts (p ∷ ps) = (level p ≤ 11) × IsGrouped p × AreParts ps

abbrev pub AreDone : List WrittenStatement → Type 0
AreDone [] = Unit {0}
AreDone (s ∷ ss) = IsStatement s × AreDone ss

-- a statement may stand on these frames
abbrev pub OnStatement : List Frame → Type 0
OnStatement [] = ⊥
OnStatement (InParens ∷ fs) = ⊥
OnStatement (InBraces parts ∷ fs) = ⊥
OnStatement (InIndex n ∷ fs) = ⊥
OnStatement (PrefixOf op ∷ fs) = ⊥
OnStatement (InfixOf op l ∷ fs) = ⊥
OnStatement (TestOf c ∷ fs) = ⊥
OnStatement (ColonOf c x ∷ fs) = ⊥
OnStatement (AssignTo n ∷ fs) = ⊥
OnStatement (UpdateTo n ∷ fs) = ⊥
OnStatement (AddressFor n ∷ fs) = ⊥
OnStatement (UpdateWordTo n a ∷ fs) = ⊥
OnStatement (IfTest ∷ fs) = ⊥
OnStatement (ThenOf c ∷ fs) = IsExpr c × OnStatement fs
OnStatement (ElseOf c y ∷ fs) = IsExpr c × IsStatement y × (ends_open y ≡ false) × OnStatement fs
OnStatement (InBegin done ∷ fs) = AreDone done × OnStatement fs
OnStatement (BodyOf clock ∷ fs) = fs ≡ []

-- an operand may stand on these frames
abbrev pub OnExpr : List Frame → Type 0
OnExpr [] = ⊥
OnExpr (InParens ∷ fs) = OnExpr fs
OnExpr (InBraces parts ∷ fs) = AreParts parts × OnExpr fs
OnExpr (InIndex n ∷ fs) = OnExpr fs
OnExpr (PrefixOf op ∷ fs) = OnExpr fs
OnExpr (InfixOf op l ∷ fs) = IsGrouped l × (level l ≤ looseness op) × (looseness op < room fs) × OnExpr fs
OnExpr (TestOf c ∷ fs) = IsGrouped c × (level c ≤ 10) × (11 < room fs) × OnExpr fs
OnExpr (ColonOf c x ∷ fs) = IsGrouped c × (level c ≤ 10) × IsGrouped x × (level x ≤ 11) × (11 < room fs) × OnExpr fs
OnExpr (AssignTo n ∷ fs) = fs ≡ []
OnExpr (UpdateTo n ∷ fs) = OnStatement fs
OnExpr (AddressFor n ∷ fs) = OnStatement fs
OnExpr (UpdateWordTo n a ∷ fs) = IsExpr a × OnStatement fs
OnExpr (IfTest ∷ fs) = OnStatement fs
OnExpr (ThenOf c ∷ fs) = ⊥
OnExpr (ElseOf c y ∷ fs) = ⊥
OnExpr (InBegin done ∷ fs) = ⊥
OnExpr (BodyOf clock ∷ fs) = ⊥

pub loose-range : (op : InfixOp) → (2 ≤ looseness op) × (looseness op ≤ 10)
loose-range Times = (omega arith, omega arith)
loose-range Added = (omega arith, omega arith)
loose-range Subtracted = (omega arith, omega arith)
loose-range Below = (omega arith, omega arith)
loose-range AtMost = (omega arith, omega arith)
loose-range Above = (omega arith, omega arith)
loose-range AtLeast = (omega arith, omega arith)
loose-range Equal = (omega arith, omega arith)
loose-range NotEqual = (omega arith, omega arith)
loose-range BitAnd = (omega arith, omega arith)
loose-range BitXor = (omega arith, omega arith)
loose-range BitOr = (omega arith, omega arith)
loose-range LogicalAnd = (omega arith, omega arith)
loose-range LogicalOr = (omega arith, omega arith)

pub room-some : (fs : List Frame) → 1 < room fs
room-some (InfixOf op l ∷ fs) = omega (arith, loose-range op)
room-some fs = omega arith

-- what is looser than every binary operator has room for a conditional
pub room-wide : (fs : List Frame) → 10 < room fs → 11 < room fs
room-wide (InfixOf op l ∷ fs) h = absurd (omega (arith, loose-range op))
room-wide fs h = omega arith

-- ---- applying operators

pub record Reduced (p : ℕ) (fs : List Frame) (e : WrittenExpr) (r : Open WrittenExpr) : Type 0 where
  pub text : text_of r.0 ++ spell_expr r.1 ≡ text_of fs ++ spell_expr e
  pub stands : OnExpr r.0
  pub operand : IsGrouped r.1
  pub tight : level r.1 ≤ p
  pub wide : p < room r.0

abbrev opened : List Frame → WrittenExpr → Open WrittenExpr
opened fs e = (fs, e)

stays : (p : ℕ) (fs : List Frame) (e : WrittenExpr) → OnExpr fs → IsGrouped e → level e ≤ p → p < room fs → Reduced p fs e (opened fs e)
stays p fs e on x le lt = record { text = refl; stands = on; operand = x; tight = le; wide = lt }

again : (p : ℕ) (fs gs : List Frame) (d e : WrittenExpr) (r : Open WrittenExpr) → text_of fs ++ spell_expr d ≡ text_of gs ++ spell_expr e → Reduced p fs d r → Reduced p gs e r
again p fs gs d e r t h = record { text = h.text ∙ t; stands = h.stands; operand = h.operand; tight = h.tight; wide = h.wide }

pick : (b : Bool) (p : ℕ) (fs : List Frame) (e : WrittenExpr) (x y : Open WrittenExpr) → (b ≡ true → Reduced p fs e x) → (b ≡ false → Reduced p fs e y) → Reduced p fs e (cond b x y)
pick true p fs e x y f g = f refl
pick false p fs e x y f g = g refl

pub reduces : (fs : List Frame) (p : ℕ) (e : WrittenExpr) → 2 ≤ p → p ≤ 11 → OnExpr fs → IsGrouped e → level e < room fs → level e ≤ p → Reduced p fs e (reduce p fs e)
unfolding reduce
reduces [] p e lo hi on x lt le = absurd on
reduces (InParens ∷ fs) p e lo hi on x lt le = stays p (InParens ∷ fs) e on x le (omega arith)
reduces (InBraces parts ∷ fs) p e lo hi on x lt le = stays p (InBraces parts ∷ fs) e on x le (omega arith)
reduces (InIndex n ∷ fs) p e lo hi on x lt le = stays p (InIndex n ∷ fs) e on x le (omega arith)
reduces (PrefixOf op ∷ fs) p e lo hi on x lt le =
    again p fs (PrefixOf op ∷ fs) (Prefix op e) e _ (sym (append_assoc (text_of fs) (prefix_token op ∷ []) (spell_expr e)))
    (reduces fs p (Prefix op e) lo hi on (omega arith, x) (room-some fs) (omega arith))
reduces (InfixOf op l ∷ fs) p e lo hi on x lt le =
    pick (leb (looseness op) p) p (InfixOf op l ∷ fs) e (reduce p fs (Infix op l e)) (opened (InfixOf op l ∷ fs) e)
    (λ b. again p fs (InfixOf op l ∷ fs) (Infix op l e) e _ (sym (append_assoc (text_of fs) (spell_expr l ++ infix_token op ∷ []) (spell_expr e) ∙ ap (λ (t : List Token). text_of fs ++ t) (append_assoc (spell_expr l) (infix_token op ∷ []) (spell_expr e))))
    (reduces fs p (Infix op l e) lo hi on.3 (on.1, lt, on.0, x) on.2 (leb-true _ _ b)))
    (λ b. stays p (InfixOf op l ∷ fs) e on x le (leb-false _ _ b))
reduces (TestOf c ∷ fs) p e lo hi on x lt le = stays p (TestOf c ∷ fs) e on x le (omega arith)
reduces (ColonOf c y ∷ fs) p e lo hi on x lt le =
    pick (leb 11 p) p (ColonOf c y ∷ fs) e (reduce p fs (Conditional c y e)) (opened (ColonOf c y ∷ fs) e)
    (λ b. again p fs (ColonOf c y ∷ fs) (Conditional c y e) e _ (colon-text (text_of fs) (spell_expr c) (spell_expr y) (spell_expr e))
    (reduces fs p (Conditional c y e) lo hi on.5 (on.1, on.3, omega arith, on.0, on.2, x) on.4 (leb-true _ _ b)))
    (λ b. stays p (ColonOf c y ∷ fs) e on x le (omega arith))
  where
    colon-text : (b c y e : List Token) → b ++ (c ++ Mark Question ∷ (y ++ Mark Colon ∷ e)) ≡ (b ++ (c ++ Mark Question ∷ (y ++ Mark Colon ∷ []))) ++ e
    colon-text b c y e = simp append_assoc
reduces (AssignTo n ∷ fs) p e lo hi on x lt le = stays p (AssignTo n ∷ fs) e on x le (omega arith)
reduces (UpdateTo n ∷ fs) p e lo hi on x lt le = stays p (UpdateTo n ∷ fs) e on x le (omega arith)
reduces (AddressFor n ∷ fs) p e lo hi on x lt le = stays p (AddressFor n ∷ fs) e on x le (omega arith)
reduces (UpdateWordTo n a ∷ fs) p e lo hi on x lt le = stays p (UpdateWordTo n a ∷ fs) e on x le (omega arith)
reduces (IfTest ∷ fs) p e lo hi on x lt le = stays p (IfTest ∷ fs) e on x le (omega arith)
reduces (ThenOf c ∷ fs) p e lo hi on x lt le = absurd on
reduces (ElseOf c y ∷ fs) p e lo hi on x lt le = absurd on
reduces (InBegin done ∷ fs) p e lo hi on x lt le = absurd on
reduces (BodyOf clock ∷ fs) p e lo hi on x lt le = absurd on

-- ---- ending statements

pub record Settled (fs : List Frame) (s : WrittenStatement) (r : Open WrittenStatement) : Type 0 where
  pub text : text_of r.0 ++ spell_statement r.1 ≡ text_of fs ++ spell_statement s
  pub stands : OnStatement r.0
  pub done : IsStatement r.1

then-text : (b c s : List Token) → b ++ (Reserved IfWord ∷ Mark OpenParen ∷ (c ++ Mark CloseParen ∷ s)) ≡ (b ++ (Reserved IfWord ∷ Mark OpenParen ∷ (c ++ Mark CloseParen ∷ []))) ++ s
then-text b c s = simp append_assoc

else-text : (b c y s : List Token) → b ++ (Reserved IfWord ∷ Mark OpenParen ∷ (c ++ Mark CloseParen ∷ (y ++ Reserved ElseWord ∷ s))) ≡ (b ++ (Reserved IfWord ∷ Mark OpenParen ∷ (c ++ Mark CloseParen ∷ (y ++ Reserved ElseWord ∷ [])))) ++ s
else-text b c y s = simp append_assoc

abbrev settled : List Frame → WrittenStatement → Open WrittenStatement
settled fs s = (fs, s)

further : (fs gs : List Frame) (d s : WrittenStatement) (r : Open WrittenStatement) → text_of fs ++ spell_statement d ≡ text_of gs ++ spell_statement s → Settled fs d r → Settled gs s r
further fs gs d s r t h = record { text = h.text ∙ t; stands = h.stands; done = h.done }

pub ends : (fs : List Frame) (s : WrittenStatement) → OnStatement fs → IsStatement s → Settled fs s (at_end fs s)
unfolding at_end
ends (ThenOf c ∷ fs) s on d =
    further fs (ThenOf c ∷ fs) (IfThen c s) s _ (then-text (text_of fs) (spell_expr c) (spell_statement s)) (ends fs (IfThen c s) on.1 (on.0, d))
ends (ElseOf c y ∷ fs) s on d =
    further fs (ElseOf c y ∷ fs) (IfElse c y s) s _ (else-text (text_of fs) (spell_expr c) (spell_statement y) (spell_statement s)) (ends fs (IfElse c y s) on.3 (on.0, on.2, on.1, d))
ends (InBegin done ∷ fs) s on d = record { text = refl; stands = on; done = d }
ends (BodyOf clock ∷ fs) s on d = record { text = refl; stands = on; done = d }
ends fs s on d = absurd on

pub record Continued (fs : List Frame) (s : WrittenStatement) (gs : List Frame) : Type 0 where
  pub text : text_of gs ≡ text_of fs ++ (spell_statement s ++ Reserved ElseWord ∷ [])
  pub stands : OnStatement gs

then-else : (b c s : List Token) → b ++ (Reserved IfWord ∷ Mark OpenParen ∷ (c ++ Mark CloseParen ∷ (s ++ Reserved ElseWord ∷ []))) ≡ (b ++ (Reserved IfWord ∷ Mark OpenParen ∷ (c ++ Mark CloseParen ∷ []))) ++ (s ++ Reserved ElseWord ∷ [])
then-else b c s = simp append_assoc

else-else : (b c y s : List Token) → b ++ ((Reserved IfWord ∷ Mark OpenParen ∷ (c ++ Mark CloseParen ∷ (y ++ Reserved ElseWord ∷ s))) ++ Reserved ElseWord ∷ []) ≡ (b ++ (Reserved IfWord ∷ Mark OpenParen ∷ (c ++ Mark CloseParen ∷ (y ++ Reserved ElseWord ∷ [])))) ++ (s ++ Reserved ElseWord ∷ [])
else-else b c y s = simp append_assoc

pub elses : (fs : List Frame) (s : WrittenStatement) (gs : List Frame) → OnStatement fs → IsStatement s → ends_open s ≡ false → at_else fs s ≡ Some gs → Continued fs s gs
unfolding at_else
elses (ThenOf c ∷ fs) s gs on d o e =
    some_fact (Continued (ThenOf c ∷ fs) s) (ElseOf c s ∷ fs) gs e (record { text = then-else (text_of fs) (spell_expr c) (spell_statement s); stands = (on.0, d, o, on.1) })
elses (ElseOf c y ∷ fs) s gs on d o e =
    let h = elses fs (IfElse c y s) gs on.3 (on.0, on.2, on.1, d) o e in
    record { text = h.text ∙ else-else (text_of fs) (spell_expr c) (spell_statement y) (spell_statement s); stands = h.stands }
elses (InBegin done ∷ fs) s gs on d o e = absurd cc
elses (BodyOf clock ∷ fs) s gs on d o e = absurd cc
elses fs s gs on d o e = absurd on

-- ---- lists

pub parts-more : (ps : List WrittenExpr) (e : WrittenExpr) → AreParts ps → level e ≤ 11 → IsGrouped e → AreParts (ps ++ e ∷ [])
parts-more [] e h le x = (le, x, tt)
parts-more (p ∷ ps) e h le x = (h.0, h.1, parts-more ps e h.2 le x)

pub commas-more : (ps : List WrittenExpr) (e : WrittenExpr) → with_commas (ps ++ e ∷ []) ≡ with_commas ps ++ (spell_expr e ++ Mark Comma ∷ [])
commas-more [] e = refl
commas-more (p ∷ ps) e = ap (λ (t : List Token). spell_expr p ++ Mark Comma ∷ t) (commas-more ps e) ∙ sym (append_assoc (spell_expr p) (Mark Comma ∷ with_commas ps) (spell_expr e ++ Mark Comma ∷ []))

-- the parts of a concatenation, the last behind the others
pub record IsJoined (ps : List WrittenExpr) (e : WrittenExpr) : Type 0 where
  pub grouped : IsGrouped (parts_of ps e)
  pub text : spell_expr (parts_of ps e) ≡ with_commas ps ++ spell_expr e

pub joins : (ps : List WrittenExpr) (e : WrittenExpr) → AreParts ps → IsGrouped e → IsJoined ps e
joins [] e h x = record { grouped = x; text = refl }
joins (p ∷ ps) e h x =
    let j = joins ps e h.2 x in
    record {
      grouped = (h.0, h.1, j.grouped);
      text = ap (λ (t : List Token). spell_expr p ++ Mark Comma ∷ t) j.text ∙ sym (append_assoc (spell_expr p) (Mark Comma ∷ with_commas ps) (spell_expr e));
    }

pub done-more : (ss : List WrittenStatement) (s : WrittenStatement) → AreDone ss → IsStatement s → AreDone (ss ++ s ∷ [])
done-more [] s h d = (d, tt)
done-more (x ∷ ss) s h d = (h.0, done-more ss s h.1 d)

pub all-more : (ss : List WrittenStatement) (s : WrittenStatement) → spell_all (ss ++ s ∷ []) ≡ spell_all ss ++ spell_statement s
all-more [] s = append-nil (spell_statement s)
all-more (x ∷ ss) s = ap (λ (t : List Token). spell_statement x ++ t) (all-more ss s) ∙ sym (append_assoc (spell_statement x) (spell_all ss) (spell_statement s))

-- the statements of a block
pub record IsListed (ss : List WrittenStatement) : Type 0 where
  pub is : IsStatementAt InBlock (listed ss)
  pub text : spell_statement (listed ss) ≡ spell_all ss

pub lists : (ss : List WrittenStatement) → AreDone ss → IsListed ss
lists [] h = record { is = tt; text = refl }
lists (s ∷ ss) h =
    let l = lists ss h.1 in
    record {
      is = (h.0, l.is);
      text = ap (λ (t : List Token). spell_statement s ++ t) l.text;
    }
