-- A module that is spelled is read again, so no text has two modules.
use Rattle.std.proofs.Common.{◌≡◌, ℕ, ◌+◌, List, [], ◌∷◌, ◌++◌, Option, Some, None, refl, sym, ap, ◌∙◌, append_assoc}
use Rattle.std.specs.List.{AllByRecursion}
use Rattle.std.proofs.lemmas.List.{append-nil}
use Rattle.gl_verilog.specs.Tokens.{Token, Reserved, Name, Number, Mark, ModuleWord, EndModuleWord, WireWord, RegWord, AssignWord, AlwaysWord, PosedgeWord, OpenParen, CloseParen, OpenBracket, CloseBracket, Semicolon, Comma, Colon, At, Equals}
use Rattle.gl_verilog.specs.Written.{WrittenExpr, IsExpr, spell_expr, WrittenStatement, spell_statement, Direction, In, InWire, Out, OutWire, OutReg, Range, WrittenPort, WrittenItem, Wires, Registers, MemoryOf, Assign, Always, WrittenModule, spell_range, spell_port, spell_ports, spell_more_ports, spell_more_names, spell_item, spell_items, spell, IsNonempty, IsItem, IsWritten, zero_digit}
use Rattle.gl_verilog_grammar.specs.Machine.{State, Frame, AssignTo, BodyOf, Sort, WireSort, RegisterSort, Stage, WantPort, AfterPort, AfterName, WantItem, Complete, step, reduce, item_of, at_end, start, finish}
use Rattle.gl_verilog_grammar.proofs.Steps.{steps, wanting, having, is-machine}
use Rattle.gl_verilog_grammar.proofs.ReadExpressions.{waits, last_of, opened, reduce-waits, reads}
use Rattle.gl_verilog_grammar.proofs.ReadStatements.{holds, final_of, settled_at, end-holds, stating, stated, reads_statement}
use Rattle.gl_verilog.specs.Module.{Module}
use Rattle.gl_verilog.specs.Resolve.{resolve}
use Rattle.gl_verilog.specs.Text.{HasModule}
use Rattle.gl_bits.proofs.Machines.{machine-same}

-- outside of expressions and blocks
abbrev pub between : List ℕ → List WrittenPort → List WrittenItem → Stage → State
between n ps is stage = record { name = n; ports = ps; items = is; stage = stage; frames = [] }

-- ---- ports

port-parts : (d : Direction) (r : Range) (m n : List ℕ) (ps : List WrittenPort) (rest : List Token) → steps (between n ps [] WantPort) (spell_port (record { direction = d; range = r; name = m }) ++ rest) ≡ steps (between n (ps ++ record { direction = d; range = r; name = m } ∷ []) [] AfterPort) rest
unfolding steps step
port-parts In None m n ps rest = refl
port-parts In (Some h) m n ps rest = refl
port-parts InWire None m n ps rest = refl
port-parts InWire (Some h) m n ps rest = refl
port-parts Out None m n ps rest = refl
port-parts Out (Some h) m n ps rest = refl
port-parts OutWire None m n ps rest = refl
port-parts OutWire (Some h) m n ps rest = refl
port-parts OutReg None m n ps rest = refl
port-parts OutReg (Some h) m n ps rest = refl

read-port : (p : WrittenPort) (n : List ℕ) (ps : List WrittenPort) (rest : List Token) → steps (between n ps [] WantPort) (spell_port p ++ rest) ≡ steps (between n (ps ++ p ∷ []) [] AfterPort) rest
read-port p n ps rest = port-parts p.direction p.range p.name n ps rest

port-comma : (n : List ℕ) (ps : List WrittenPort) (rest : List Token) → steps (between n ps [] AfterPort) (Mark Comma ∷ rest) ≡ steps (between n ps [] WantPort) rest
unfolding steps step
port-comma n ps rest = refl

read-more-ports : (more : List WrittenPort) (n : List ℕ) (ps : List WrittenPort) (rest : List Token) → steps (between n ps [] AfterPort) (spell_more_ports more ++ rest) ≡ steps (between n (ps ++ more) [] AfterPort) rest
read-more-ports [] n ps rest = ap (λ (x : List WrittenPort). steps (between n x [] AfterPort) rest) (sym (append-nil ps))
read-more-ports (p ∷ more) n ps rest =
    port-comma n ps ((spell_port p ++ spell_more_ports more) ++ rest)
    ∙ ap (steps (between n ps [] WantPort)) (append_assoc (spell_port p) (spell_more_ports more) rest)
    ∙ read-port p n ps (spell_more_ports more ++ rest)
    ∙ read-more-ports more n (ps ++ p ∷ []) rest
    ∙ ap (λ (x : List WrittenPort). steps (between n x [] AfterPort) rest) (append_assoc ps (p ∷ []) more)

read-ports : (ports : List WrittenPort) (n : List ℕ) (rest : List Token) → IsNonempty ports → steps (between n [] [] WantPort) (spell_ports ports ++ rest) ≡ steps (between n ports [] AfterPort) rest
read-ports [] n rest h = absurd h
read-ports (p ∷ more) n rest h =
    ap (steps (between n [] [] WantPort)) (append_assoc (spell_port p) (spell_more_ports more) rest)
    ∙ read-port p n [] (spell_more_ports more ++ rest)
    ∙ read-more-ports more n (p ∷ []) rest

-- ---- names

name-more : (sort : Sort) (r : Range) (n : List ℕ) (ps : List WrittenPort) (is : List WrittenItem) (names : List (List ℕ)) (m : List ℕ) (rest : List Token) → steps (between n ps is (AfterName sort r names)) (Mark Comma ∷ Name m ∷ rest) ≡ steps (between n ps is (AfterName sort r (names ++ m ∷ []))) rest
unfolding steps step
name-more sort r n ps is names m rest = refl

name-end : (sort : Sort) (r : Range) (n : List ℕ) (ps : List WrittenPort) (is : List WrittenItem) (names : List (List ℕ)) (rest : List Token) → steps (between n ps is (AfterName sort r names)) (Mark Semicolon ∷ rest) ≡ steps (between n ps (is ++ item_of sort r names ∷ []) WantItem) rest
unfolding steps step
name-end sort r n ps is names rest = refl

read-more-names : (more : List (List ℕ)) (sort : Sort) (r : Range) (n : List ℕ) (ps : List WrittenPort) (is : List WrittenItem) (names : List (List ℕ)) (rest : List Token) → steps (between n ps is (AfterName sort r names)) (spell_more_names more ++ rest) ≡ steps (between n ps is (AfterName sort r (names ++ more))) rest
read-more-names [] sort r n ps is names rest = ap (λ (x : List (List ℕ)). steps (between n ps is (AfterName sort r x)) rest) (sym (append-nil names))
read-more-names (m ∷ more) sort r n ps is names rest =
    name-more sort r n ps is names m (spell_more_names more ++ rest)
    ∙ read-more-names more sort r n ps is (names ++ m ∷ []) rest
    ∙ ap (λ (x : List (List ℕ)). steps (between n ps is (AfterName sort r x)) rest) (append_assoc names (m ∷ []) more)

-- ---- items

wire-begins : (r : Range) (n : List ℕ) (ps : List WrittenPort) (is : List WrittenItem) (m : List ℕ) (rest : List Token) → steps (between n ps is WantItem) (Reserved WireWord ∷ (spell_range r ++ Name m ∷ rest)) ≡ steps (between n ps is (AfterName WireSort r (m ∷ []))) rest
unfolding steps step
wire-begins None n ps is m rest = refl
wire-begins (Some h) n ps is m rest = refl

reg-begins : (r : Range) (n : List ℕ) (ps : List WrittenPort) (is : List WrittenItem) (m : List ℕ) (rest : List Token) → steps (between n ps is WantItem) (Reserved RegWord ∷ (spell_range r ++ Name m ∷ rest)) ≡ steps (between n ps is (AfterName RegisterSort r (m ∷ []))) rest
unfolding steps step
reg-begins None n ps is m rest = refl
reg-begins (Some h) n ps is m rest = refl

memory-ends : (r : Range) (n : List ℕ) (ps : List WrittenPort) (is : List WrittenItem) (m last : List ℕ) (rest : List Token) → steps (between n ps is (AfterName RegisterSort r (m ∷ []))) (Mark OpenBracket ∷ Number zero_digit ∷ Mark Colon ∷ Number last ∷ Mark CloseBracket ∷ Mark Semicolon ∷ rest) ≡ steps (between n ps (is ++ MemoryOf r m last ∷ []) WantItem) rest
unfolding steps step
memory-ends r n ps is m last rest = refl

assign-begins : (n : List ℕ) (ps : List WrittenPort) (is : List WrittenItem) (target : List ℕ) (rest : List Token) → steps (between n ps is WantItem) (Reserved AssignWord ∷ Name target ∷ Mark Equals ∷ rest) ≡ steps (wanting (between n ps is WantItem) (AssignTo target ∷ [])) rest
unfolding steps step
assign-begins n ps is target rest = refl

reduce-assign : (target : List ℕ) (fs : List Frame) (e : WrittenExpr) → reduce 11 (AssignTo target ∷ fs) e ≡ opened (AssignTo target ∷ fs) e
unfolding reduce
reduce-assign target fs e = refl

assign-ends : (n : List ℕ) (ps : List WrittenPort) (is : List WrittenItem) (target : List ℕ) (fs0 : List Frame) (e0 e : WrittenExpr) → reduce 11 fs0 e0 ≡ opened (AssignTo target ∷ []) e → step (having (between n ps is WantItem) fs0 e0) (Mark Semicolon) ≡ Some (between n ps (is ++ Assign target e ∷ []) WantItem)
unfolding step
assign-ends n ps is target fs0 e0 e h = rw h refl

always-begins : (n : List ℕ) (ps : List WrittenPort) (is : List WrittenItem) (clock : List ℕ) (rest : List Token) → steps (between n ps is WantItem) (Reserved AlwaysWord ∷ Mark At ∷ Mark OpenParen ∷ Reserved PosedgeWord ∷ Name clock ∷ Mark CloseParen ∷ rest) ≡ steps (stating (between n ps is WantItem) (BodyOf clock ∷ [])) rest
unfolding steps step
always-begins n ps is clock rest = refl

end-body : (clock : List ℕ) (fs : List Frame) (st : WrittenStatement) → at_end (BodyOf clock ∷ fs) st ≡ settled_at (BodyOf clock ∷ fs) st
unfolding at_end
end-body clock fs st = refl

-- behind a block's statement what goes on behind an item
always-ends : (n : List ℕ) (ps : List WrittenPort) (is : List WrittenItem) (clock : List ℕ) (fs0 : List Frame) (st0 st : WrittenStatement) → at_end fs0 st0 ≡ settled_at (BodyOf clock ∷ []) st
    → (step (stated (between n ps is WantItem) fs0 st0) (Reserved WireWord) ≡ step (between n ps (is ++ Always clock st ∷ []) WantItem) (Reserved WireWord))
    × (step (stated (between n ps is WantItem) fs0 st0) (Reserved RegWord) ≡ step (between n ps (is ++ Always clock st ∷ []) WantItem) (Reserved RegWord))
    × (step (stated (between n ps is WantItem) fs0 st0) (Reserved AssignWord) ≡ step (between n ps (is ++ Always clock st ∷ []) WantItem) (Reserved AssignWord))
    × (step (stated (between n ps is WantItem) fs0 st0) (Reserved AlwaysWord) ≡ step (between n ps (is ++ Always clock st ∷ []) WantItem) (Reserved AlwaysWord))
    × (step (stated (between n ps is WantItem) fs0 st0) (Reserved EndModuleWord) ≡ step (between n ps (is ++ Always clock st ∷ []) WantItem) (Reserved EndModuleWord))
unfolding step
always-ends n ps is clock fs0 st0 st h = (rw h refl, rw h refl, rw h refl, rw h refl, rw h refl)

items-begin : (items : List WrittenItem) (x y : State) (rest : List Token) → step x (Reserved WireWord) ≡ step y (Reserved WireWord) → step x (Reserved RegWord) ≡ step y (Reserved RegWord) → step x (Reserved AssignWord) ≡ step y (Reserved AssignWord) → step x (Reserved AlwaysWord) ≡ step y (Reserved AlwaysWord) → step x (Reserved EndModuleWord) ≡ step y (Reserved EndModuleWord)
    → steps x (spell_items items ++ Reserved EndModuleWord ∷ rest) ≡ steps y (spell_items items ++ Reserved EndModuleWord ∷ rest)
items-begin [] x y rest w r a b e = machine-same step steps is-machine x y (Reserved EndModuleWord) rest e
items-begin (Wires range names ∷ is) x y rest w r a b e = machine-same step steps is-machine x y (Reserved WireWord) _ w
items-begin (Registers range names ∷ is) x y rest w r a b e = machine-same step steps is-machine x y (Reserved RegWord) _ r
items-begin (MemoryOf range m last ∷ is) x y rest w r a b e = machine-same step steps is-machine x y (Reserved RegWord) _ r
items-begin (Assign target value ∷ is) x y rest w r a b e = machine-same step steps is-machine x y (Reserved AssignWord) _ a
items-begin (Always clock body ∷ is) x y rest w r a b e = machine-same step steps is-machine x y (Reserved AlwaysWord) _ b

-- names of wires, and of registers
read-wires : (r : Range) (names : List (List ℕ)) (n : List ℕ) (ps : List WrittenPort) (is : List WrittenItem) (rest : List Token) → IsNonempty names → steps (between n ps is WantItem) (spell_item (Wires r names) ++ rest) ≡ steps (between n ps (is ++ Wires r names ∷ []) WantItem) rest
read-wires r [] n ps is rest h = absurd h
read-wires r (m ∷ more) n ps is rest h =
    ap (λ (x : List Token). steps (between n ps is WantItem) (Reserved WireWord ∷ x)) (append_assoc (spell_range r) (Name m ∷ (spell_more_names more ++ Mark Semicolon ∷ [])) rest)
    ∙ wire-begins r n ps is m ((spell_more_names more ++ Mark Semicolon ∷ []) ++ rest)
    ∙ ap (steps (between n ps is (AfterName WireSort r (m ∷ [])))) (append_assoc (spell_more_names more) (Mark Semicolon ∷ []) rest)
    ∙ read-more-names more WireSort r n ps is (m ∷ []) (Mark Semicolon ∷ rest)
    ∙ name-end WireSort r n ps is (m ∷ more) rest

read-registers : (r : Range) (names : List (List ℕ)) (n : List ℕ) (ps : List WrittenPort) (is : List WrittenItem) (rest : List Token) → IsNonempty names → steps (between n ps is WantItem) (spell_item (Registers r names) ++ rest) ≡ steps (between n ps (is ++ Registers r names ∷ []) WantItem) rest
read-registers r [] n ps is rest h = absurd h
read-registers r (m ∷ more) n ps is rest h =
    ap (λ (x : List Token). steps (between n ps is WantItem) (Reserved RegWord ∷ x)) (append_assoc (spell_range r) (Name m ∷ (spell_more_names more ++ Mark Semicolon ∷ [])) rest)
    ∙ reg-begins r n ps is m ((spell_more_names more ++ Mark Semicolon ∷ []) ++ rest)
    ∙ ap (steps (between n ps is (AfterName RegisterSort r (m ∷ [])))) (append_assoc (spell_more_names more) (Mark Semicolon ∷ []) rest)
    ∙ read-more-names more RegisterSort r n ps is (m ∷ []) (Mark Semicolon ∷ rest)
    ∙ name-end RegisterSort r n ps is (m ∷ more) rest

read-memory : (r : Range) (m last n : List ℕ) (ps : List WrittenPort) (is : List WrittenItem) (rest : List Token) → steps (between n ps is WantItem) (spell_item (MemoryOf r m last) ++ rest) ≡ steps (between n ps (is ++ MemoryOf r m last ∷ []) WantItem) rest
read-memory r m last n ps is rest =
    ap (λ (x : List Token). steps (between n ps is WantItem) (Reserved RegWord ∷ x)) (append_assoc (spell_range r) (Name m ∷ Mark OpenBracket ∷ Number zero_digit ∷ Mark Colon ∷ Number last ∷ Mark CloseBracket ∷ Mark Semicolon ∷ []) rest)
    ∙ reg-begins r n ps is m (Mark OpenBracket ∷ Number zero_digit ∷ Mark Colon ∷ Number last ∷ Mark CloseBracket ∷ Mark Semicolon ∷ rest)
    ∙ memory-ends r n ps is m last rest

read-assign : (target : List ℕ) (e : WrittenExpr) (n : List ℕ) (ps : List WrittenPort) (is : List WrittenItem) (rest : List Token) → IsExpr e → steps (between n ps is WantItem) (spell_item (Assign target e) ++ rest) ≡ steps (between n ps (is ++ Assign target e ∷ []) WantItem) rest
read-assign target e n ps is rest g =
    assign-begins n ps is target ((spell_expr e ++ Mark Semicolon ∷ []) ++ rest)
    ∙ ap (steps (wanting (between n ps is WantItem) (AssignTo target ∷ []))) (append_assoc (spell_expr e) (Mark Semicolon ∷ []) rest)
    ∙ (reads e).alone (between n ps is WantItem) (AssignTo target ∷ []) (Mark Semicolon ∷ rest) g.0 g.1 tt
    ∙ is-machine.goes _ _ (Mark Semicolon) rest (assign-ends n ps is target (waits e (AssignTo target ∷ [])) (last_of e) e (reduce-waits e 11 (AssignTo target ∷ []) g.1 g.0 ∙ reduce-assign target [] e))

-- an item is read, and then the items behind it
read-item : (it : WrittenItem) (items : List WrittenItem) (n : List ℕ) (ps : List WrittenPort) (is : List WrittenItem) (rest : List Token) → IsItem it
    → steps (between n ps is WantItem) (spell_item it ++ (spell_items items ++ Reserved EndModuleWord ∷ rest)) ≡ steps (between n ps (is ++ it ∷ []) WantItem) (spell_items items ++ Reserved EndModuleWord ∷ rest)
read-item (Wires r names) items n ps is rest g = read-wires r names n ps is (spell_items items ++ Reserved EndModuleWord ∷ rest) g
read-item (Registers r names) items n ps is rest g = read-registers r names n ps is (spell_items items ++ Reserved EndModuleWord ∷ rest) g
read-item (MemoryOf r m last) items n ps is rest g = read-memory r m last n ps is (spell_items items ++ Reserved EndModuleWord ∷ rest)
read-item (Assign target e) items n ps is rest g = read-assign target e n ps is (spell_items items ++ Reserved EndModuleWord ∷ rest) g
read-item (Always clock body) items n ps is rest g =
    let same = always-ends n ps is clock (holds body (BodyOf clock ∷ [])) (final_of body) body (end-holds body (BodyOf clock ∷ []) ∙ end-body clock [] body) in
    always-begins n ps is clock (spell_statement body ++ (spell_items items ++ Reserved EndModuleWord ∷ rest))
    ∙ (reads_statement body).single (between n ps is WantItem) (BodyOf clock ∷ []) (spell_items items ++ Reserved EndModuleWord ∷ rest) g
    ∙ items-begin items _ _ rest same.0 same.1 same.2 same.3 same.4

module-ends : (n : List ℕ) (ps : List WrittenPort) (is : List WrittenItem) → steps (between n ps is WantItem) (Reserved EndModuleWord ∷ []) ≡ Some (between n ps is Complete)
unfolding steps step
module-ends n ps is = refl

read-items : (items : List WrittenItem) (n : List ℕ) (ps : List WrittenPort) (is : List WrittenItem) → AllByRecursion IsItem items
    → steps (between n ps is WantItem) (spell_items items ++ Reserved EndModuleWord ∷ []) ≡ Some (between n ps (is ++ items) Complete)
read-items [] n ps is g = module-ends n ps is ∙ ap (λ (x : List WrittenItem). Some (between n ps x Complete)) (sym (append-nil is))
read-items (it ∷ items) n ps is g =
    ap (steps (between n ps is WantItem)) (append_assoc (spell_item it) (spell_items items) (Reserved EndModuleWord ∷ []))
    ∙ read-item it items n ps is [] g.0
    ∙ read-items items n ps (is ++ it ∷ []) g.1
    ∙ ap (λ (x : List WrittenItem). Some (between n ps x Complete)) (append_assoc is (it ∷ []) items)

-- ---- the whole

module-begins : (n : List ℕ) (rest : List Token) → steps start (Reserved ModuleWord ∷ Name n ∷ Mark OpenParen ∷ rest) ≡ steps (between n [] [] WantPort) rest
unfolding steps step
module-begins n rest = refl

ports-end : (n : List ℕ) (ps : List WrittenPort) (rest : List Token) → steps (between n ps [] AfterPort) (Mark CloseParen ∷ Mark Semicolon ∷ rest) ≡ steps (between n ps [] WantItem) rest
unfolding steps step
ports-end n ps rest = refl

pub read_again : (w : WrittenModule) → IsWritten w → steps start (spell w) ≡ Some (between w.name w.ports w.items Complete)
read_again w g =
    module-begins w.name (spell_ports w.ports ++ Mark CloseParen ∷ Mark Semicolon ∷ (spell_items w.items ++ Reserved EndModuleWord ∷ []))
    ∙ read-ports w.ports w.name (Mark CloseParen ∷ Mark Semicolon ∷ (spell_items w.items ++ Reserved EndModuleWord ∷ [])) g.ports
    ∙ ports-end w.name w.ports (spell_items w.items ++ Reserved EndModuleWord ∷ [])
    ∙ read-items w.items w.name w.ports [] g.items

some_same : {A : Type 0} (x y : A) (o : Option A) → o ≡ Some x → o ≡ Some y → x ≡ y
some_same x y o e f = cc

-- tokens spell one written module at most, limits aside
pub one_spelt : (v w : WrittenModule) → IsWritten v → IsWritten w → spell v ≡ spell w → v ≡ w
one_spelt v w gv gw e =
    let s : between v.name v.ports v.items Complete ≡ between w.name w.ports w.items Complete = some_same _ _ (steps start (spell v)) (read_again v gv) (ap (steps start) e ∙ read_again w gw) in
    some_same v w (finish (between v.name v.ports v.items Complete)) refl (ap finish s)

pub one_module : (text : List ℕ) (m n : Module) → HasModule text m → HasModule text n → m ≡ n
one_module text m n a b =
    let same : a.written ≡ b.written = one_spelt a.written b.written a.grammar b.grammar (sym a.spelled ∙ b.spelled) in
    let both : Some m ≡ Some n = sym a.resolved ∙ ap resolve same ∙ b.resolved in
    cc
