-- What the reader's state tells of the tokens that were read, and what is known of it at each stage.
use Rattle.std.proofs.Common.{◌≡◌, ℕ, ◌+◌, false, List, [], ◌∷◌, ◌++◌, Some, subst, ◌∙◌}
use Rattle.std.specs.List.{AllByRecursion}
use Rattle.gl_verilog.specs.Tokens.{Token, Reserved, Name, Number, Mark, ModuleWord, EndModuleWord, WireWord, RegWord, AssignWord, AlwaysWord, PosedgeWord, IfWord, OpenParen, CloseParen, OpenBracket, CloseBracket, Semicolon, Comma, Colon, At}
use Rattle.gl_verilog.specs.Written.{WrittenExpr, level, IsGrouped, IsExpr, IsStatement, spell_expr, WrittenStatement, ends_open, spell_statement, WrittenPort, WrittenItem, spell_direction, spell_range, spell_ports, spell_names, spell_items, IsNonempty, IsItem, zero_digit}
use Rattle.gl_verilog_grammar.specs.Machine.{State, Frame, Sort, WireSort, RegisterSort, Owner, OfPort, OfItem, Stage, WantModule, WantTitle, WantPorts, WantPort, Declaring, WantHigh, WantColon, WantZero, WantClose, WantName, AfterPort, AfterPorts, AfterName, WantMore, WantFirst, WantMemoryColon, WantLast, WantMemoryClose, WantMemoryEnd, WantItem, WantAssigned, WantEquals, WantAt, WantEdge, WantPosedge, WantClock, WantEdgeEnd, WantStatement, AfterTarget, WantArrow, WantTest, HaveStatement, WantOperand, HaveOperand, AtIndex, AtPlace, WantLow, AtPart, Complete}
use Rattle.gl_verilog_grammar.proofs.OpenTexts.{text_of, OnStatement, OnExpr}

-- ---- texts

-- the ports that were read, with a comma where more are wanted
abbrev pub ports_ahead : List WrittenPort → List Token
ports_ahead [] = []
ports_ahead (p ∷ ps) = spell_ports (p ∷ ps) ++ Mark Comma ∷ []

abbrev pub opening : List ℕ → List Token → List Token
opening n ts = Reserved ModuleWord ∷ Name n ∷ Mark OpenParen ∷ ts

-- the header and the items that were read
unfoldable pub base : List ℕ → List WrittenPort → List WrittenItem → List Token
base n ps is = Reserved ModuleWord ∷ Name n ∷ Mark OpenParen ∷ (spell_ports ps ++ Mark CloseParen ∷ Mark Semicolon ∷ spell_items is)

abbrev pub sort_word : Sort → Token
sort_word WireSort = Reserved WireWord
sort_word RegisterSort = Reserved RegWord

abbrev pub owner_words : Owner → List ℕ → List WrittenPort → List WrittenItem → List Token
owner_words (OfPort d) n ps is = opening n (ports_ahead ps ++ spell_direction d)
owner_words (OfItem sort) n ps is = base n ps is ++ sort_word sort ∷ []

abbrev pub owner_text : Owner → State → List Token
owner_text o s = owner_words o s.name s.ports s.items

abbrev pub on_base : State → List Token → List Token
on_base s ts = base s.name s.ports s.items ++ ts

-- on what is open, too
abbrev pub on_open : State → List Token → List Token
on_open s ts = base s.name s.ports s.items ++ (text_of s.frames ++ ts)

-- the tokens that were read, told by the state
abbrev pub told_at : Stage → State → List Token
told_at WantModule s = []
told_at WantTitle s = Reserved ModuleWord ∷ []
told_at WantPorts s = Reserved ModuleWord ∷ Name s.name ∷ []
told_at WantPort s = opening s.name (ports_ahead s.ports)
told_at (Declaring o) s = owner_text o s
told_at (WantHigh o) s = owner_text o s ++ Mark OpenBracket ∷ []
told_at (WantColon o high) s = owner_text o s ++ Mark OpenBracket ∷ Number high ∷ []
told_at (WantZero o high) s = owner_text o s ++ Mark OpenBracket ∷ Number high ∷ Mark Colon ∷ []
told_at (WantClose o high) s = owner_text o s ++ Mark OpenBracket ∷ Number high ∷ Mark Colon ∷ Number zero_digit ∷ []
told_at (WantName o range) s = owner_text o s ++ spell_range range
told_at AfterPort s = opening s.name (spell_ports s.ports)
told_at AfterPorts s = opening s.name (spell_ports s.ports ++ Mark CloseParen ∷ [])
told_at (AfterName sort range names) s = on_base s (sort_word sort ∷ (spell_range range ++ spell_names names))
told_at (WantMore sort range names) s = on_base s (sort_word sort ∷ (spell_range range ++ (spell_names names ++ Mark Comma ∷ [])))
told_at (WantFirst range n) s = on_base s (Reserved RegWord ∷ (spell_range range ++ Name n ∷ Mark OpenBracket ∷ []))
told_at (WantMemoryColon range n) s = on_base s (Reserved RegWord ∷ (spell_range range ++ Name n ∷ Mark OpenBracket ∷ Number zero_digit ∷ []))
told_at (WantLast range n) s = on_base s (Reserved RegWord ∷ (spell_range range ++ Name n ∷ Mark OpenBracket ∷ Number zero_digit ∷ Mark Colon ∷ []))
told_at (WantMemoryClose range n last) s = on_base s (Reserved RegWord ∷ (spell_range range ++ Name n ∷ Mark OpenBracket ∷ Number zero_digit ∷ Mark Colon ∷ Number last ∷ []))
told_at (WantMemoryEnd range n last) s = on_base s (Reserved RegWord ∷ (spell_range range ++ Name n ∷ Mark OpenBracket ∷ Number zero_digit ∷ Mark Colon ∷ Number last ∷ Mark CloseBracket ∷ []))
told_at WantItem s = base s.name s.ports s.items
told_at WantAssigned s = on_base s (Reserved AssignWord ∷ [])
told_at (WantEquals n) s = on_base s (Reserved AssignWord ∷ Name n ∷ [])
told_at WantAt s = on_base s (Reserved AlwaysWord ∷ [])
told_at WantEdge s = on_base s (Reserved AlwaysWord ∷ Mark At ∷ [])
told_at WantPosedge s = on_base s (Reserved AlwaysWord ∷ Mark At ∷ Mark OpenParen ∷ [])
told_at WantClock s = on_base s (Reserved AlwaysWord ∷ Mark At ∷ Mark OpenParen ∷ Reserved PosedgeWord ∷ [])
told_at (WantEdgeEnd n) s = on_base s (Reserved AlwaysWord ∷ Mark At ∷ Mark OpenParen ∷ Reserved PosedgeWord ∷ Name n ∷ [])
told_at WantStatement s = base s.name s.ports s.items ++ text_of s.frames
told_at (AfterTarget n) s = on_open s (Name n ∷ [])
told_at (WantArrow n a) s = on_open s (Name n ∷ Mark OpenBracket ∷ (spell_expr a ++ Mark CloseBracket ∷ []))
told_at WantTest s = on_open s (Reserved IfWord ∷ [])
told_at (HaveStatement st) s = on_open s (spell_statement st)
told_at WantOperand s = base s.name s.ports s.items ++ text_of s.frames
told_at (HaveOperand e) s = on_open s (spell_expr e)
told_at (AtIndex n) s = on_open s (Name n ∷ Mark OpenBracket ∷ [])
told_at (AtPlace n p) s = on_open s (Name n ∷ Mark OpenBracket ∷ Number p ∷ [])
told_at (WantLow n h) s = on_open s (Name n ∷ Mark OpenBracket ∷ Number h ∷ Mark Colon ∷ [])
told_at (AtPart n h l) s = on_open s (Name n ∷ Mark OpenBracket ∷ Number h ∷ Mark Colon ∷ Number l ∷ [])
told_at Complete s = on_base s (Reserved EndModuleWord ∷ [])

-- ---- what is known at each stage

-- the ports and the items that are complete
pub record AreGood (ps : List WrittenPort) (is : List WrittenItem) : Type 0 where
  pub some' : IsNonempty ps
  pub items : AllByRecursion IsItem is

-- in the header
pub record InHeader (is : List WrittenItem) (fs : List Frame) : Type 0 where
  pub none : is ≡ []
  pub closed : fs ≡ []

-- behind an operand, or behind a whole expression up to what is open below it
pub record OnOperand (fs : List Frame) (e : WrittenExpr) : Type 0 where
  pub stands : OnExpr fs
  pub operand : IsGrouped e

pub record OnDone (fs : List Frame) (st : WrittenStatement) : Type 0 where
  pub stands : OnStatement fs
  pub done : IsStatement st

abbrev pub OutsideOf : State → Type 0
OutsideOf s = AreGood s.ports s.items × (s.frames ≡ [])

abbrev pub owner_known : Owner → List WrittenPort → List WrittenItem → List Frame → Type 0
owner_known (OfPort d) ps is fs = InHeader is fs
owner_known (OfItem sort) ps is fs = AreGood ps is × (fs ≡ [])

abbrev pub owner_fine : Owner → State → Type 0
owner_fine o s = owner_known o s.ports s.items s.frames

abbrev pub InBlockOf : State → Type 0
InBlockOf s = AreGood s.ports s.items × OnStatement s.frames

abbrev pub InExprOf : State → Type 0
InExprOf s = AreGood s.ports s.items × OnExpr s.frames

abbrev pub fine_at : Stage → State → Type 0
fine_at WantModule s = (s.ports ≡ []) × InHeader s.items s.frames
fine_at WantTitle s = (s.ports ≡ []) × InHeader s.items s.frames
fine_at WantPorts s = (s.ports ≡ []) × InHeader s.items s.frames
fine_at WantPort s = InHeader s.items s.frames
fine_at (Declaring o) s = owner_fine o s
fine_at (WantHigh o) s = owner_fine o s
fine_at (WantColon o high) s = owner_fine o s
fine_at (WantZero o high) s = owner_fine o s
fine_at (WantClose o high) s = owner_fine o s
fine_at (WantName o range) s = owner_fine o s
fine_at AfterPort s = IsNonempty s.ports × InHeader s.items s.frames
fine_at AfterPorts s = IsNonempty s.ports × InHeader s.items s.frames
fine_at (AfterName sort range names) s = IsNonempty names × OutsideOf s
fine_at (WantMore sort range names) s = IsNonempty names × OutsideOf s
fine_at (WantFirst range n) s = OutsideOf s
fine_at (WantMemoryColon range n) s = OutsideOf s
fine_at (WantLast range n) s = OutsideOf s
fine_at (WantMemoryClose range n last) s = OutsideOf s
fine_at (WantMemoryEnd range n last) s = OutsideOf s
fine_at WantItem s = OutsideOf s
fine_at WantAssigned s = OutsideOf s
fine_at (WantEquals n) s = OutsideOf s
fine_at WantAt s = OutsideOf s
fine_at WantEdge s = OutsideOf s
fine_at WantPosedge s = OutsideOf s
fine_at WantClock s = OutsideOf s
fine_at (WantEdgeEnd n) s = OutsideOf s
fine_at WantStatement s = InBlockOf s
fine_at (AfterTarget n) s = InBlockOf s
fine_at (WantArrow n a) s = InBlockOf s × IsExpr a
fine_at WantTest s = InBlockOf s
fine_at (HaveStatement st) s = AreGood s.ports s.items × OnDone s.frames st × (ends_open st ≡ false)
fine_at WantOperand s = InExprOf s
fine_at (HaveOperand e) s = AreGood s.ports s.items × OnOperand s.frames e × (level e ≡ 0)
fine_at (AtIndex n) s = InExprOf s
fine_at (AtPlace n p) s = InExprOf s
fine_at (WantLow n h) s = InExprOf s
fine_at (AtPart n h l) s = InExprOf s
fine_at Complete s = OutsideOf s

pub record Means (s : State) (ts : List Token) : Type 0 where
  pub told : told_at s.stage s ≡ ts
  pub fine : fine_at s.stage s

pub moved : {x s : State} {ts : List Token} → Some x ≡ Some s → Means x ts → Means s ts
moved {x} {s} {ts} e m = let q : x ≡ s = cc in subst (λ (y : State). Means y ts) q m

pub means : (s : State) (ts : List Token) → told_at s.stage s ≡ ts → fine_at s.stage s → Means s ts
means s ts t f = record { told = t; fine = f }

pub retold : (s : State) (ts us : List Token) → ts ≡ us → Means s ts → Means s us
retold s ts us e m = record { told = m.told ∙ e; fine = m.fine }
