-- Reading items and statements keeps what the state tells of the tokens.
use Rattle.std.proofs.Common.{◌≡◌, ℕ, ◌+◌, ◌-◌, Bool, true, false, List, [], ◌∷◌, ◌++◌, Option, Some, None, refl, sym, ap, subst, ◌∙◌, append_assoc}
use Rattle.std.specs.List.{AllByRecursion}
use Rattle.std.specs.Str.{bytes_eq}
use Rattle.std.specs.Prelude.{option_map}
use Rattle.std.proofs.lemmas.List.{append-nil}
use Rattle.std.proofs.lemmas.Slice.Eq.{bytes_eq-Decides}
use Rattle.gl_verilog.specs.Tokens.{Token, Reserved, Name, Number, Mark, ModuleWord, EndModuleWord, InputWord, OutputWord, WireWord, RegWord, AssignWord, AlwaysWord, PosedgeWord, BeginWord, EndWord, IfWord, ElseWord, Keyword, OpenParen, CloseParen, OpenBracket, CloseBracket, Semicolon, Comma, Colon, At, Equals, LessEquals}
use Rattle.gl_verilog.specs.Written.{WrittenExpr, spell_expr, WrittenStatement, spell_statement, In, Out, Range, WrittenPort, WrittenItem, Wires, Registers, MemoryOf, Always, spell_direction, spell_range, spell_port, spell_ports, spell_more_ports, spell_names, spell_more_names, spell_item, spell_items, IsNonempty, IsItem, zero_digit}
use Rattle.gl_verilog_grammar.specs.Machine.{State, Frame, InBegin, BodyOf, Sort, WireSort, RegisterSort, Owner, OfPort, OfItem, Stage, WantModule, WantTitle, WantPorts, WantPort, Declaring, WantHigh, WantName, AfterPort, AfterPorts, AfterName, WantMore, WantLast, WantMemoryEnd, WantItem, WantAssigned, WantEquals, WantAt, WantEdge, WantPosedge, WantClock, WantEdgeEnd, WantStatement, AfterTarget, WantArrow, WantTest, HaveStatement, item_of, end_block, at_else, at_end, after_else, after_statement, named, declaring, after_name, want_more, want_statement, after_target, have_statement, step_at, go, expect, is_mark, is_zero, with_word, memory_stage}
use Rattle.gl_verilog_grammar.proofs.OpenTexts.{spell_all, text_of, OnStatement, ends, elses, done-more, all-more, lists}
use Rattle.gl_verilog_grammar.proofs.Told.{ports_ahead, opening, base, sort_word, owner_text, on_base, told_at, AreGood, OnDone, OutsideOf, owner_fine, fine_at, Means, moved, means, retold}

-- ---- the header and declarations

pub at_want_module : (t : Token) (s s' : State) → fine_at WantModule s → step_at WantModule s t ≡ Some s' → Means s' (told_at WantModule s ++ t ∷ [])
at_want_module (Reserved ModuleWord) s s' f e = moved e (means _ _ refl f)
at_want_module t s s' f e = absurd cc

pub at_want_title : (t : Token) (s s' : State) → fine_at WantTitle s → step_at WantTitle s t ≡ Some s' → Means s' (told_at WantTitle s ++ t ∷ [])
at_want_title (Name n) s s' f e = moved e (means _ _ refl f)
at_want_title t s s' f e = absurd cc

pub at_want_ports : (t : Token) (s s' : State) → fine_at WantPorts s → step_at WantPorts s t ≡ Some s' → Means s' (told_at WantPorts s ++ t ∷ [])
at_want_ports (Mark OpenParen) s s' f e = moved e (means _ _ (ap (λ (ps : List WrittenPort). opening s.name (ports_ahead ps)) f.0) f.1)
at_want_ports t s s' f e = absurd cc

pub at_want_port : (t : Token) (s s' : State) → fine_at WantPort s → step_at WantPort s t ≡ Some s' → Means s' (told_at WantPort s ++ t ∷ [])
at_want_port (Reserved InputWord) s s' f e = moved e (means _ _ refl f)
at_want_port (Reserved OutputWord) s s' f e = moved e (means _ _ refl f)
at_want_port t s s' f e = absurd cc

more-ports : (ps : List WrittenPort) (p : WrittenPort) → spell_more_ports (ps ++ p ∷ []) ≡ spell_more_ports ps ++ Mark Comma ∷ spell_port p
more-ports [] p = ap (λ (x : List Token). Mark Comma ∷ x) (append-nil (spell_port p))
more-ports (q ∷ ps) p = ap (λ (x : List Token). Mark Comma ∷ (spell_port q ++ x)) (more-ports ps p) ∙ ap (λ (x : List Token). Mark Comma ∷ x) (sym (append_assoc (spell_port q) (spell_more_ports ps) (Mark Comma ∷ spell_port p)))

ports-more : (ps : List WrittenPort) (p : WrittenPort) → spell_ports (ps ++ p ∷ []) ≡ ports_ahead ps ++ spell_port p
ports-more [] p = append-nil (spell_port p)
ports-more (q ∷ ps) p =
    ap (λ (x : List Token). spell_port q ++ x) (more-ports ps p)
    ∙ (let z : spell_port q ++ (spell_more_ports ps ++ Mark Comma ∷ spell_port p) ≡ ((spell_port q ++ spell_more_ports ps) ++ Mark Comma ∷ []) ++ spell_port p = simp append_assoc in z)

nonempty-more : {A : Type 0} (xs : List A) (x : A) → IsNonempty (xs ++ x ∷ [])
nonempty-more [] x = tt
nonempty-more (y ∷ ys) x = tt

port-named : (a d r : List Token) (n : List ℕ) → a ++ (d ++ (r ++ Name n ∷ [])) ≡ ((a ++ d) ++ r) ++ Name n ∷ []
port-named a d r n = simp append_assoc

item-named : (b r : List Token) (w : Token) (n : List ℕ) → b ++ (w ∷ (r ++ Name n ∷ [])) ≡ ((b ++ w ∷ []) ++ r) ++ Name n ∷ []
item-named b r w n = simp append_assoc

at_named : (o : Owner) (range : Range) (n : List ℕ) (s s' : State) (ts : List Token) → owner_fine o s → ts ≡ owner_text o s ++ spell_range range → named o range n s ≡ Some s' → Means s' (ts ++ Name n ∷ [])
at_named (OfPort d) range n s s' ts f q e =
    moved e (means _ _
    (ap (opening s.name) (ports-more s.ports (record { direction = d; range = range; name = n }) ∙ port-named (ports_ahead s.ports) (spell_direction d) (spell_range range) n) ∙ ap (λ (x : List Token). x ++ Name n ∷ []) (sym q))
    (nonempty-more s.ports (record { direction = d; range = range; name = n }), f))
at_named (OfItem sort) range n s s' ts f q e =
    moved e (means _ _ (item-named (base s.name s.ports s.items) (spell_range range) (sort_word sort) n ∙ ap (λ (x : List Token). x ++ Name n ∷ []) (sym q)) (tt, f))

direction-goes : (a : List Token) (w v : Token) → a ++ w ∷ v ∷ [] ≡ (a ++ w ∷ []) ++ v ∷ []
direction-goes a w v = sym (append_assoc a (w ∷ []) (v ∷ []))

at_in_words : (o : Owner) (w : Keyword) (s s' : State) → owner_fine o s → go (option_map Declaring (with_word o w)) s ≡ Some s' → Means s' (owner_text o s ++ Reserved w ∷ [])
at_in_words (OfPort In) WireWord s s' f e = moved e (means _ _ (ap (opening s.name) (direction-goes (ports_ahead s.ports) (Reserved InputWord) (Reserved WireWord))) f)
at_in_words (OfPort Out) WireWord s s' f e = moved e (means _ _ (ap (opening s.name) (direction-goes (ports_ahead s.ports) (Reserved OutputWord) (Reserved WireWord))) f)
at_in_words (OfPort Out) RegWord s s' f e = moved e (means _ _ (ap (opening s.name) (direction-goes (ports_ahead s.ports) (Reserved OutputWord) (Reserved RegWord))) f)
at_in_words o w s s' f e = absurd cc

pub at_declaring : (t : Token) (o : Owner) (s s' : State) → owner_fine o s → declaring o s t ≡ Some s' → Means s' (owner_text o s ++ t ∷ [])
at_declaring (Reserved w) o s s' f e = at_in_words o w s s' f e
at_declaring (Mark OpenBracket) o s s' f e = moved e (means _ _ refl f)
at_declaring (Name n) o s s' f e = at_named o None n s s' (owner_text o s) f (sym (append-nil (owner_text o s))) e
at_declaring t o s s' f e = absurd cc

pub at_want_high : (t : Token) (o : Owner) (s s' : State) → owner_fine o s → step_at (WantHigh o) s t ≡ Some s' → Means s' (told_at (WantHigh o) s ++ t ∷ [])
at_want_high (Number h) o s s' f e = moved e (means _ _ (sym (append_assoc (owner_text o s) (Mark OpenBracket ∷ []) (Number h ∷ []))) f)
at_want_high t o s s' f e = absurd cc

abbrev staged : State → Stage → State
staged s stage = record s { stage = stage }

pub at_want_colon : (t : Token) (next : Stage) (s s' : State) (ts : List Token) → fine_at next (staged s next) → told_at next (staged s next) ≡ ts ++ Mark Colon ∷ [] → go (expect (is_mark Colon t) next) s ≡ Some s' → Means s' (ts ++ t ∷ [])
at_want_colon (Mark Colon) next s s' ts f q e = moved e (means _ _ q f)
at_want_colon t next s s' ts f q e = absurd cc

pub at_want_close : (t : Token) (next : Stage) (s s' : State) (ts : List Token) → fine_at next (staged s next) → told_at next (staged s next) ≡ ts ++ Mark CloseBracket ∷ [] → go (expect (is_mark CloseBracket t) next) s ≡ Some s' → Means s' (ts ++ t ∷ [])
at_want_close (Mark CloseBracket) next s s' ts f q e = moved e (means _ _ q f)
at_want_close t next s s' ts f q e = absurd cc

zero-goes : (b : Bool) (n : List ℕ) (next : Stage) (s s' : State) (ts : List Token) → bytes_eq n zero_digit ≡ b → fine_at next (staged s next) → told_at next (staged s next) ≡ ts ++ Number zero_digit ∷ [] → go (expect b next) s ≡ Some s' → Means s' (ts ++ Number n ∷ [])
zero-goes true n next s s' ts z f q e = moved e (means _ _ (q ∙ ap (λ (x : List ℕ). ts ++ Number x ∷ []) (sym ((bytes_eq-Decides n zero_digit).0 z))) f)
zero-goes false n next s s' ts z f q e = absurd cc

pub at_want_zero : (t : Token) (next : Stage) (s s' : State) (ts : List Token) → fine_at next (staged s next) → told_at next (staged s next) ≡ ts ++ Number zero_digit ∷ [] → go (expect (is_zero t) next) s ≡ Some s' → Means s' (ts ++ t ∷ [])
at_want_zero (Number n) next s s' ts f q e = zero-goes (bytes_eq n zero_digit) n next s s' ts refl f q e
at_want_zero t next s s' ts f q e = absurd cc

pub at_want_name : (t : Token) (o : Owner) (range : Range) (s s' : State) → owner_fine o s → step_at (WantName o range) s t ≡ Some s' → Means s' (told_at (WantName o range) s ++ t ∷ [])
at_want_name (Name n) o range s s' f e = at_named o range n s s' (told_at (WantName o range) s) f refl e
at_want_name t o range s s' f e = absurd cc

comma-goes : (n : List ℕ) (ps : List WrittenPort) → IsNonempty ps → opening n (ports_ahead ps) ≡ opening n (spell_ports ps) ++ Mark Comma ∷ []
comma-goes n [] h = absurd h
comma-goes n (p ∷ ps) h = refl

pub at_after_port : (t : Token) (s s' : State) → fine_at AfterPort s → step_at AfterPort s t ≡ Some s' → Means s' (told_at AfterPort s ++ t ∷ [])
at_after_port (Mark Comma) s s' f e = moved e (means _ _ (comma-goes s.name s.ports f.0) f.1)
at_after_port (Mark CloseParen) s s' f e = moved e (means _ _ refl f)
at_after_port t s s' f e = absurd cc

pub at_after_ports : (t : Token) (s s' : State) → fine_at AfterPorts s → step_at AfterPorts s t ≡ Some s' → Means s' (told_at AfterPorts s ++ t ∷ [])
unfolding base
at_after_ports (Mark Semicolon) s s' f e =
    moved e (means _ _
    (ap (opening s.name) (ap (λ (is : List WrittenItem). spell_ports s.ports ++ Mark CloseParen ∷ Mark Semicolon ∷ spell_items is) f.1.none ∙ sym (append_assoc (spell_ports s.ports) (Mark CloseParen ∷ []) (Mark Semicolon ∷ []))))
    (record { some' = f.0; items = subst (AllByRecursion IsItem) (sym f.1.none) tt }, f.1.closed))
at_after_ports t s s' f e = absurd cc

-- an item more
items-more : (is : List WrittenItem) (i : WrittenItem) → spell_items (is ++ i ∷ []) ≡ spell_items is ++ spell_item i
items-more [] i = append-nil (spell_item i)
items-more (j ∷ is) i = ap (λ (x : List Token). spell_item j ++ x) (items-more is i) ∙ sym (append_assoc (spell_item j) (spell_items is) (spell_item i))

pub base-more : (n : List ℕ) (ps : List WrittenPort) (is : List WrittenItem) (i : WrittenItem) → base n ps (is ++ i ∷ []) ≡ base n ps is ++ spell_item i
unfolding base
base-more n ps is i =
    ap (opening n) (ap (λ (x : List Token). spell_ports ps ++ Mark CloseParen ∷ Mark Semicolon ∷ x) (items-more is i) ∙ sym (append_assoc (spell_ports ps) (Mark CloseParen ∷ Mark Semicolon ∷ spell_items is) (spell_item i)))

all-items : (P : WrittenItem → Type 0) (is : List WrittenItem) (i : WrittenItem) → AllByRecursion P is → P i → AllByRecursion P (is ++ i ∷ [])
all-items P [] i h p = (p, tt)
all-items P (j ∷ is) i h p = (h.0, all-items P is i h.1 p)

pub good-more : (ps : List WrittenPort) (is : List WrittenItem) (i : WrittenItem) → AreGood ps is → IsItem i → AreGood ps (is ++ i ∷ [])
good-more ps is i g a = record { some' = g.some'; items = all-items IsItem is i g.items a }

names-more : (ns : List (List ℕ)) (n : List ℕ) → IsNonempty ns → spell_names (ns ++ n ∷ []) ≡ (spell_names ns ++ Mark Comma ∷ []) ++ Name n ∷ []
names-more [] n h = absurd h
names-more (m ∷ ns) n h = ap (λ (x : List Token). Name m ∷ x) (others ns n)
  where
    others : (ns : List (List ℕ)) (n : List ℕ) → spell_more_names (ns ++ n ∷ []) ≡ (spell_more_names ns ++ Mark Comma ∷ []) ++ Name n ∷ []
    others [] n = refl
    others (k ∷ ns) n = ap (λ (x : List Token). Mark Comma ∷ Name k ∷ x) (others ns n)

name-comma : (b r ns : List Token) (w : Token) → b ++ (w ∷ (r ++ (ns ++ Mark Comma ∷ []))) ≡ (b ++ (w ∷ (r ++ ns))) ++ Mark Comma ∷ []
name-comma b r ns w = simp append_assoc

name-end : (b r ns : List Token) (w : Token) → b ++ (w ∷ (r ++ (ns ++ Mark Semicolon ∷ []))) ≡ (b ++ (w ∷ (r ++ ns))) ++ Mark Semicolon ∷ []
name-end b r ns w = simp append_assoc

name-next : (b r ns : List Token) (w t : Token) → b ++ (w ∷ (r ++ ((ns ++ Mark Comma ∷ []) ++ t ∷ []))) ≡ (b ++ (w ∷ (r ++ (ns ++ Mark Comma ∷ [])))) ++ t ∷ []
name-next b r ns w t = simp append_assoc

name-index : (b r : List Token) (w : Token) (n : List ℕ) → b ++ (w ∷ (r ++ Name n ∷ Mark OpenBracket ∷ [])) ≡ (b ++ (w ∷ (r ++ Name n ∷ []))) ++ Mark OpenBracket ∷ []
name-index b r w n = simp append_assoc

at_memory_of : (sort : Sort) (range : Range) (names : List (List ℕ)) (s s' : State) → OutsideOf s → go (memory_stage sort range names) s ≡ Some s' → Means s' (told_at (AfterName sort range names) s ++ Mark OpenBracket ∷ [])
at_memory_of RegisterSort range (n ∷ []) s s' f e = moved e (means _ _ (name-index (base s.name s.ports s.items) (spell_range range) (Reserved RegWord) n) f)
at_memory_of sort range names s s' f e = absurd cc

list-end : (sort : Sort) (range : Range) (names : List (List ℕ)) (s : State) → IsNonempty names → OutsideOf s → Means (record s { items = s.items ++ item_of sort range names ∷ []; stage = WantItem }) (told_at (AfterName sort range names) s ++ Mark Semicolon ∷ [])
list-end WireSort range names s h f = means _ _ (base-more s.name s.ports s.items (Wires range names) ∙ name-end (base s.name s.ports s.items) (spell_range range) (spell_names names) (Reserved WireWord)) (good-more s.ports s.items (Wires range names) f.0 h, f.1)
list-end RegisterSort range names s h f = means _ _ (base-more s.name s.ports s.items (Registers range names) ∙ name-end (base s.name s.ports s.items) (spell_range range) (spell_names names) (Reserved RegWord)) (good-more s.ports s.items (Registers range names) f.0 h, f.1)

pub at_after_name : (t : Token) (sort : Sort) (range : Range) (names : List (List ℕ)) (s s' : State) → fine_at (AfterName sort range names) s → after_name sort range names s t ≡ Some s' → Means s' (told_at (AfterName sort range names) s ++ t ∷ [])
at_after_name (Mark Comma) sort range names s s' f e = moved e (means _ _ (name-comma (base s.name s.ports s.items) (spell_range range) (spell_names names) (sort_word sort)) f)
at_after_name (Mark Semicolon) sort range names s s' f e = moved e (list-end sort range names s f.0 f.1)
at_after_name (Mark OpenBracket) sort range names s s' f e = at_memory_of sort range names s s' f.1 e
at_after_name t sort range names s s' f e = absurd cc

pub at_want_more : (t : Token) (sort : Sort) (range : Range) (names : List (List ℕ)) (s s' : State) → fine_at (WantMore sort range names) s → want_more sort range names s t ≡ Some s' → Means s' (told_at (WantMore sort range names) s ++ t ∷ [])
at_want_more (Name n) sort range names s s' f e =
    moved e (means _ _
    (ap (λ (x : List Token). on_base s (sort_word sort ∷ (spell_range range ++ x))) (names-more names n f.0) ∙ name-next (base s.name s.ports s.items) (spell_range range) (spell_names names) (sort_word sort) (Name n))
    (nonempty-more names n, f.1))
at_want_more t sort range names s s' f e = absurd cc

pub memory-goes : (b r ts : List Token) (w t : Token) → b ++ (w ∷ (r ++ (ts ++ t ∷ []))) ≡ (b ++ (w ∷ (r ++ ts))) ++ t ∷ []
memory-goes b r ts w t = simp append_assoc

pub at_want_last : (t : Token) (range : Range) (n : List ℕ) (s s' : State) → fine_at (WantLast range n) s → step_at (WantLast range n) s t ≡ Some s' → Means s' (told_at (WantLast range n) s ++ t ∷ [])
at_want_last (Number last) range n s s' f e = moved e (means _ _ (memory-goes (base s.name s.ports s.items) (spell_range range) (Name n ∷ Mark OpenBracket ∷ Number zero_digit ∷ Mark Colon ∷ []) (Reserved RegWord) (Number last)) f)
at_want_last t range n s s' f e = absurd cc

pub at_want_memory_end : (t : Token) (range : Range) (n last : List ℕ) (s s' : State) → fine_at (WantMemoryEnd range n last) s → step_at (WantMemoryEnd range n last) s t ≡ Some s' → Means s' (told_at (WantMemoryEnd range n last) s ++ t ∷ [])
at_want_memory_end (Mark Semicolon) range n last s s' f e =
    moved e (means _ _
    (base-more s.name s.ports s.items (MemoryOf range n last) ∙ memory-goes (base s.name s.ports s.items) (spell_range range) (Name n ∷ Mark OpenBracket ∷ Number zero_digit ∷ Mark Colon ∷ Number last ∷ Mark CloseBracket ∷ []) (Reserved RegWord) (Mark Semicolon))
    (good-more s.ports s.items (MemoryOf range n last) f.0 tt, f.1))
at_want_memory_end t range n last s s' f e = absurd cc

-- ---- items

pub item-goes : (b ts : List Token) (t : Token) → b ++ (ts ++ t ∷ []) ≡ (b ++ ts) ++ t ∷ []
item-goes b ts t = sym (append_assoc b ts (t ∷ []))

pub at_want_item : (t : Token) (s s' : State) → fine_at WantItem s → step_at WantItem s t ≡ Some s' → Means s' (told_at WantItem s ++ t ∷ [])
at_want_item (Reserved WireWord) s s' f e = moved e (means _ _ refl f)
at_want_item (Reserved RegWord) s s' f e = moved e (means _ _ refl f)
at_want_item (Reserved AssignWord) s s' f e = moved e (means _ _ refl f)
at_want_item (Reserved AlwaysWord) s s' f e = moved e (means _ _ refl f)
at_want_item (Reserved EndModuleWord) s s' f e = moved e (means _ _ refl f)
at_want_item t s s' f e = absurd cc

pub at_want_assigned : (t : Token) (s s' : State) → fine_at WantAssigned s → step_at WantAssigned s t ≡ Some s' → Means s' (told_at WantAssigned s ++ t ∷ [])
at_want_assigned (Name n) s s' f e = moved e (means _ _ (item-goes (base s.name s.ports s.items) (Reserved AssignWord ∷ []) (Name n)) f)
at_want_assigned t s s' f e = absurd cc

-- nothing is open outside of items
no-text : (b ts : List Token) (fs : List Frame) → fs ≡ [] → b ++ (text_of fs ++ ts) ≡ b ++ ts
no-text b ts fs e = ap (λ (x : List Frame). b ++ (text_of x ++ ts)) e

pub at_want_equals : (t : Token) (n : List ℕ) (s s' : State) → fine_at (WantEquals n) s → step_at (WantEquals n) s t ≡ Some s' → Means s' (told_at (WantEquals n) s ++ t ∷ [])
at_want_equals (Mark Equals) n s s' f e =
    moved e (means _ _
    (no-text (base s.name s.ports s.items) (Reserved AssignWord ∷ Name n ∷ Mark Equals ∷ []) s.frames f.1 ∙ item-goes (base s.name s.ports s.items) (Reserved AssignWord ∷ Name n ∷ []) (Mark Equals))
    (f.0, f.1))
at_want_equals t n s s' f e = absurd cc

pub at_want_at : (t : Token) (s s' : State) → fine_at WantAt s → step_at WantAt s t ≡ Some s' → Means s' (told_at WantAt s ++ t ∷ [])
at_want_at (Mark At) s s' f e = moved e (means _ _ (item-goes (base s.name s.ports s.items) (Reserved AlwaysWord ∷ []) (Mark At)) f)
at_want_at t s s' f e = absurd cc

pub at_want_edge : (t : Token) (s s' : State) → fine_at WantEdge s → step_at WantEdge s t ≡ Some s' → Means s' (told_at WantEdge s ++ t ∷ [])
at_want_edge (Mark OpenParen) s s' f e = moved e (means _ _ (item-goes (base s.name s.ports s.items) (Reserved AlwaysWord ∷ Mark At ∷ []) (Mark OpenParen)) f)
at_want_edge t s s' f e = absurd cc

pub at_want_posedge : (t : Token) (s s' : State) → fine_at WantPosedge s → step_at WantPosedge s t ≡ Some s' → Means s' (told_at WantPosedge s ++ t ∷ [])
at_want_posedge (Reserved PosedgeWord) s s' f e = moved e (means _ _ (item-goes (base s.name s.ports s.items) (Reserved AlwaysWord ∷ Mark At ∷ Mark OpenParen ∷ []) (Reserved PosedgeWord)) f)
at_want_posedge t s s' f e = absurd cc

pub at_want_clock : (t : Token) (s s' : State) → fine_at WantClock s → step_at WantClock s t ≡ Some s' → Means s' (told_at WantClock s ++ t ∷ [])
at_want_clock (Name n) s s' f e = moved e (means _ _ (item-goes (base s.name s.ports s.items) (Reserved AlwaysWord ∷ Mark At ∷ Mark OpenParen ∷ Reserved PosedgeWord ∷ []) (Name n)) f)
at_want_clock t s s' f e = absurd cc

open-goes : (b a f : List Token) → a ≡ [] → b ++ (a ++ f) ≡ b ++ f
open-goes b a f e = ap (λ (x : List Token). b ++ (x ++ f)) e

pub at_want_edge_end : (t : Token) (n : List ℕ) (s s' : State) → fine_at (WantEdgeEnd n) s → step_at (WantEdgeEnd n) s t ≡ Some s' → Means s' (told_at (WantEdgeEnd n) s ++ t ∷ [])
at_want_edge_end (Mark CloseParen) n s s' f e =
    moved e (means _ _
    (no-text (base s.name s.ports s.items) (Reserved AlwaysWord ∷ Mark At ∷ Mark OpenParen ∷ Reserved PosedgeWord ∷ Name n ∷ Mark CloseParen ∷ []) s.frames f.1 ∙ item-goes (base s.name s.ports s.items) (Reserved AlwaysWord ∷ Mark At ∷ Mark OpenParen ∷ Reserved PosedgeWord ∷ Name n ∷ []) (Mark CloseParen))
    (f.0, f.1))
at_want_edge_end t n s s' f e = absurd cc

-- ---- statements

pub open-more : (b a f : List Token) → b ++ (a ++ f) ≡ (b ++ a) ++ f
open-more b a f = sym (append_assoc b a f)

pub open-next : (b a ts : List Token) (t : Token) → b ++ (a ++ (ts ++ t ∷ [])) ≡ (b ++ (a ++ ts)) ++ t ∷ []
open-next b a ts t = simp append_assoc

block-told : (b f d : List Token) (t u : Token) → b ++ (f ++ (t ∷ (d ++ u ∷ []))) ≡ (b ++ (f ++ (t ∷ d))) ++ u ∷ []
block-told b f d t u = simp append_assoc

at_end_block : (fs : List Frame) (s s' : State) → AreGood s.ports s.items → OnStatement fs → end_block fs s ≡ Some s' → Means s' ((base s.name s.ports s.items ++ text_of fs) ++ Reserved EndWord ∷ [])
at_end_block (InBegin done ∷ fs) s s' g f e =
    let l = lists done f.0 in
    moved e (means _ _
    (ap (λ (x : List Token). base s.name s.ports s.items ++ (text_of fs ++ (Reserved BeginWord ∷ (x ++ Reserved EndWord ∷ [])))) l.text ∙ block-told (base s.name s.ports s.items) (text_of fs) (spell_all done) (Reserved BeginWord) (Reserved EndWord))
    (g, record { stands = f.1; done = l.is }, refl))
at_end_block [] s s' g f e = absurd cc
at_end_block (f' ∷ fs) s s' g f e = absurd cc

pub at_want_statement : (t : Token) (s s' : State) → fine_at WantStatement s → want_statement s t ≡ Some s' → Means s' (told_at WantStatement s ++ t ∷ [])
at_want_statement (Name n) s s' f e = moved e (means _ _ (open-more (base s.name s.ports s.items) (text_of s.frames) (Name n ∷ [])) f)
at_want_statement (Reserved IfWord) s s' f e =
    moved e (means _ _ (open-more (base s.name s.ports s.items) (text_of s.frames) (Reserved IfWord ∷ []))
    (f.0, f.1))
at_want_statement (Reserved BeginWord) s s' f e =
    moved e (means _ _ (open-more (base s.name s.ports s.items) (text_of s.frames) (Reserved BeginWord ∷ []))
    (f.0, (tt, f.1)))
at_want_statement (Reserved EndWord) s s' f e = at_end_block s.frames s s' f.0 f.1 e
at_want_statement t s s' f e = absurd cc

pub at_after_target : (t : Token) (n : List ℕ) (s s' : State) → fine_at (AfterTarget n) s → after_target n s t ≡ Some s' → Means s' (told_at (AfterTarget n) s ++ t ∷ [])
at_after_target (Mark LessEquals) n s s' f e =
    moved e (means _ _ (open-next (base s.name s.ports s.items) (text_of s.frames) (Name n ∷ []) (Mark LessEquals))
    (f.0, f.1))
at_after_target (Mark OpenBracket) n s s' f e =
    moved e (means _ _ (open-next (base s.name s.ports s.items) (text_of s.frames) (Name n ∷ []) (Mark OpenBracket))
    (f.0, f.1))
at_after_target t n s s' f e = absurd cc

arrow-told : (b f a : List Token) (n : List ℕ) → b ++ (f ++ (Name n ∷ Mark OpenBracket ∷ (a ++ Mark CloseBracket ∷ Mark LessEquals ∷ []))) ≡ (b ++ (f ++ (Name n ∷ Mark OpenBracket ∷ (a ++ Mark CloseBracket ∷ [])))) ++ Mark LessEquals ∷ []
arrow-told b f a n = simp append_assoc

pub at_want_arrow : (t : Token) (n : List ℕ) (a : WrittenExpr) (s s' : State) → fine_at (WantArrow n a) s → step_at (WantArrow n a) s t ≡ Some s' → Means s' (told_at (WantArrow n a) s ++ t ∷ [])
at_want_arrow (Mark LessEquals) n a s s' f e =
    moved e (means _ _ (arrow-told (base s.name s.ports s.items) (text_of s.frames) (spell_expr a) n)
    (f.0.0, (f.1, f.0.1)))
at_want_arrow t n a s s' f e = absurd cc

pub at_want_test : (t : Token) (s s' : State) → fine_at WantTest s → step_at WantTest s t ≡ Some s' → Means s' (told_at WantTest s ++ t ∷ [])
at_want_test (Mark OpenParen) s s' f e =
    moved e (means _ _ (open-next (base s.name s.ports s.items) (text_of s.frames) (Reserved IfWord ∷ []) (Mark OpenParen))
    (f.0, f.1))
at_want_test t s s' f e = absurd cc

else-goes : (o : Option (List Frame)) (st : WrittenStatement) (s s' : State) → fine_at (HaveStatement st) s → at_else s.frames st ≡ o → after_else s o ≡ Some s' → Means s' (told_at (HaveStatement st) s ++ Reserved ElseWord ∷ [])
else-goes None st s s' f q e = absurd cc
else-goes (Some gs) st s s' f q e =
    let c = elses s.frames st gs f.1.stands f.1.done f.2 q in
    moved e (means _ _
    (ap (λ (x : List Token). base s.name s.ports s.items ++ x) c.text ∙ open-next (base s.name s.ports s.items) (text_of s.frames) (spell_statement st) (Reserved ElseWord))
    (f.0, c.stands))

begin-told : (b f d x : List Token) (t : Token) → b ++ (f ++ (t ∷ (d ++ x))) ≡ b ++ ((f ++ (t ∷ d)) ++ x)
begin-told b f d x t = simp append_assoc

at_after_statement : (fs : List Frame) (st : WrittenStatement) (t : Token) (s s' : State) → AreGood s.ports s.items → OnDone fs st → after_statement s fs st t ≡ Some s' → Means s' ((base s.name s.ports s.items ++ (text_of fs ++ spell_statement st)) ++ t ∷ [])
at_after_statement (InBegin done ∷ fs) st t s s' g f e =
    retold s' _ _
    (ap (λ (x : List Token). x ++ t ∷ []) (ap (λ (x : List Token). base s.name s.ports s.items ++ (text_of fs ++ (Reserved BeginWord ∷ x))) (all-more done st) ∙ begin-told (base s.name s.ports s.items) (text_of fs) (spell_all done) (spell_statement st) (Reserved BeginWord)))
    (at_want_statement t (record s { frames = InBegin (done ++ st ∷ []) ∷ fs }) s'
    (g, (done-more done st f.stands.0 f.done, f.stands.1))
    e)
at_after_statement (BodyOf clock ∷ fs) st t s s' g f e =
    retold s' _ _
    (ap (λ (x : List Token). x ++ t ∷ [])
    (base-more s.name s.ports s.items (Always clock st) ∙ sym (body-told (base s.name s.ports s.items) fs (spell_statement st) f.stands)))
    (at_want_item t (record s { items = s.items ++ Always clock st ∷ []; frames = fs }) s'
    (good-more s.ports s.items (Always clock st) g f.done, f.stands) e)
  where
    body-told : (b : List Token) (fs : List Frame) (x : List Token) → fs ≡ [] → b ++ ((text_of fs ++ Reserved AlwaysWord ∷ Mark At ∷ Mark OpenParen ∷ Reserved PosedgeWord ∷ Name clock ∷ Mark CloseParen ∷ []) ++ x) ≡ b ++ (Reserved AlwaysWord ∷ Mark At ∷ Mark OpenParen ∷ Reserved PosedgeWord ∷ Name clock ∷ Mark CloseParen ∷ x)
    body-told b fs x q = ap (λ (gs : List Frame). b ++ ((text_of gs ++ Reserved AlwaysWord ∷ Mark At ∷ Mark OpenParen ∷ Reserved PosedgeWord ∷ Name clock ∷ Mark CloseParen ∷ []) ++ x)) q
at_after_statement fs st t s s' g f e = absurd cc

statement-goes : (t : Token) (st : WrittenStatement) (s s' : State) → fine_at (HaveStatement st) s → after_statement s (at_end s.frames st).0 (at_end s.frames st).1 t ≡ Some s' → Means s' (told_at (HaveStatement st) s ++ t ∷ [])
statement-goes t st s s' f e =
    let r = ends s.frames st f.1.stands f.1.done in
    retold s' _ _ (ap (λ (x : List Token). (base s.name s.ports s.items ++ x) ++ t ∷ []) r.text)
    (at_after_statement (at_end s.frames st).0 (at_end s.frames st).1 t s s' f.0
    (record { stands = r.stands; done = r.done }) e)

pub at_have_statement : (t : Token) (st : WrittenStatement) (s s' : State) → fine_at (HaveStatement st) s → have_statement st s t ≡ Some s' → Means s' (told_at (HaveStatement st) s ++ t ∷ [])
at_have_statement (Reserved ElseWord) st s s' f e = else-goes (at_else s.frames st) st s s' f refl e
at_have_statement t st s s' f e = statement-goes t st s s' f e
