-- The roles of a spelled module are those that its tokens have one behind the other, so a front's roles are the front's alone.
use Rattle.std.proofs.Common.{◌≡◌, ℕ, zero, suc, ◌+◌, List, [], ◌∷◌, ◌++◌, None, Some, refl, sym, ap, ◌∙◌, append_assoc}
use Rattle.gl_verilog.specs.Tokens.{Token, Reserved, Name, Number, Sized, Mark, EndModuleWord, EndWord, ElseWord, OpenParen, CloseParen, OpenBracket, CloseBracket, OpenBrace, CloseBrace, Semicolon, Comma, Colon, Question, LessEquals}
use Rattle.gl_verilog.specs.Written.{PrefixOp, BitNot, LogicalNot, InfixOp, Times, Added, Subtracted, Below, AtMost, Above, AtLeast, Equal, NotEqual, BitAnd, BitXor, BitOr, LogicalAnd, LogicalOr, WrittenExpr, Named, Constant, BitOf, PartOf, WordOf, Braces, Parts, Parens, Prefix, Infix, Conditional, WrittenStatement, Update, UpdateWord, IfThen, IfElse, Block, Listed, Ended, Direction, In, InWire, Out, OutWire, OutReg, Range, WrittenPort, WrittenItem, Wires, Registers, MemoryOf, Assign, Always, WrittenModule, prefix_token, infix_token, spell_expr, spell_statement, spell_direction, spell_range, spell_port, spell_more_ports, spell_ports, spell_more_names, spell_names, spell_item, spell_items, spell, zero_digit}
use Rattle.gl_verilog_faults.specs.Counts.{Role, Opens, Closes, Operates, Starts, OpensWhole, Tests, Begins, Plain}
use Rattle.gl_verilog_faults.proofs.Roles.{of_expr, of_statement, plain_for, of_item, of_items, of_more_ports, of_ports, roles_of}
use Rattle.gl_verilog_faults.specs.Marks.{State, Header, Ground, Declares, Aims, Index, Test, Value, Opening, Closing, Operating, Going, turn, turn_role, inside, in_value, role_at, next, marks, behind}

prefix_turn : (op : PrefixOp) → turn (prefix_token op) ≡ Operating
prefix_turn BitNot = refl
prefix_turn LogicalNot = refl

infix_turn : (op : InfixOp) → turn (infix_token op) ≡ Operating
infix_turn Times = refl
infix_turn Added = refl
infix_turn Subtracted = refl
infix_turn Below = refl
infix_turn AtMost = refl
infix_turn Above = refl
infix_turn AtLeast = refl
infix_turn Equal = refl
infix_turn NotEqual = refl
infix_turn BitAnd = refl
infix_turn BitXor = refl
infix_turn BitOr = refl
infix_turn LogicalAnd = refl
infix_turn LogicalOr = refl

-- a state that reads an expression, with brackets of the expression's own counted
pub record Reads (here : ℕ → State) : Type 0 where
  pub role : (d : ℕ) (t : Token) → role_at (here d) t ≡ turn_role (turn t)
  pub opening : (d : ℕ) (t : Token) → turn t ≡ Opening → next (here d) t ≡ here (suc d)
  pub closing : (d : ℕ) (t : Token) → turn t ≡ Closing → next (here (suc d)) t ≡ here d
  pub operating : (d : ℕ) (t : Token) → turn t ≡ Operating → next (here d) t ≡ here d
  pub going : (d : ℕ) (t : Token) → turn t ≡ Going → next (here d) t ≡ here d

reads_index : Reads Index
reads_index = record { role = λ d t. refl; opening = λ d t e. ap (inside Index Aims d) e ∙ open' d; closing = λ d t e. ap (inside Index Aims (suc d)) e; operating = λ d t e. ap (inside Index Aims d) e ∙ operate d; going = λ d t e. ap (inside Index Aims d) e ∙ go d }
  where
    open' : (d : ℕ) → inside Index Aims d Opening ≡ Index (suc d)
    open' d = refl

    operate : (d : ℕ) → inside Index Aims d Operating ≡ Index d
    operate zero = refl
    operate (suc d) = refl

    go : (d : ℕ) → inside Index Aims d Going ≡ Index d
    go zero = refl
    go (suc d) = refl

reads_test : Reads Test
reads_test = record { role = λ d t. refl; opening = λ d t e. ap (inside Test Ground d) e ∙ open' d; closing = λ d t e. ap (inside Test Ground (suc d)) e; operating = λ d t e. ap (inside Test Ground d) e ∙ operate d; going = λ d t e. ap (inside Test Ground d) e ∙ go d }
  where
    open' : (d : ℕ) → inside Test Ground d Opening ≡ Test (suc d)
    open' d = refl

    operate : (d : ℕ) → inside Test Ground d Operating ≡ Test d
    operate zero = refl
    operate (suc d) = refl

    go : (d : ℕ) → inside Test Ground d Going ≡ Test d
    go zero = refl
    go (suc d) = refl

reads_value : Reads (λ d. Value)
reads_value = record { role = λ d t. refl; opening = λ d t e. ap in_value e; closing = λ d t e. ap in_value e; operating = λ d t e. ap in_value e; going = λ d t e. ap in_value e }

module _ (here : ℕ → State) (r : Reads here) where
  -- one token
  one : (d e : ℕ) (t : Token) (role' : Role) (rest : List Token) → role_at (here d) t ≡ role' → next (here d) t ≡ here e → marks (here d) (t ∷ rest) ≡ role' ∷ marks (here e) rest
  one d e t role' rest p q = rw (p, q) refl

  opens : (d : ℕ) (t : Token) (rest : List Token) → turn t ≡ Opening → marks (here d) (t ∷ rest) ≡ Opens ∷ marks (here (suc d)) rest
  opens d t rest e = one d (suc d) t Opens rest (r.role d t ∙ ap turn_role e) (r.opening d t e)

  closes : (d : ℕ) (t : Token) (rest : List Token) → turn t ≡ Closing → marks (here (suc d)) (t ∷ rest) ≡ Closes ∷ marks (here d) rest
  closes d t rest e = one (suc d) d t Closes rest (r.role (suc d) t ∙ ap turn_role e) (r.closing d t e)

  operates : (d : ℕ) (t : Token) (rest : List Token) → turn t ≡ Operating → marks (here d) (t ∷ rest) ≡ Operates ∷ marks (here d) rest
  operates d t rest e = one d d t Operates rest (r.role d t ∙ ap turn_role e) (r.operating d t e)

  goes : (d : ℕ) (t : Token) (rest : List Token) → turn t ≡ Going → marks (here d) (t ∷ rest) ≡ Plain ∷ marks (here d) rest
  goes d t rest e = one d d t Plain rest (r.role d t ∙ ap turn_role e) (r.going d t e)

  pub marked : (e : WrittenExpr) (d : ℕ) (rest : List Token) → marks (here d) (spell_expr e ++ rest) ≡ of_expr e ++ marks (here d) rest
  marked (Named name) d rest = goes d (Name name) rest refl
  marked (Constant size radix digits) d rest = goes d (Sized size radix digits) rest refl
  marked (BitOf name place) d rest =
      goes d (Name name) (Mark OpenBracket ∷ Number place ∷ Mark CloseBracket ∷ rest) refl
      ∙ ap (λ (x : List Role). Plain ∷ x) (opens d (Mark OpenBracket) (Number place ∷ Mark CloseBracket ∷ rest) refl
      ∙ ap (λ (x : List Role). Opens ∷ x) (goes (suc d) (Number place) (Mark CloseBracket ∷ rest) refl
      ∙ ap (λ (x : List Role). Plain ∷ x) (closes d (Mark CloseBracket) rest refl)))
  marked (PartOf name high low) d rest =
      goes d (Name name) (Mark OpenBracket ∷ Number high ∷ Mark Colon ∷ Number low ∷ Mark CloseBracket ∷ rest) refl
      ∙ ap (λ (x : List Role). Plain ∷ x) (opens d (Mark OpenBracket) (Number high ∷ Mark Colon ∷ Number low ∷ Mark CloseBracket ∷ rest) refl
      ∙ ap (λ (x : List Role). Opens ∷ x) (goes (suc d) (Number high) (Mark Colon ∷ Number low ∷ Mark CloseBracket ∷ rest) refl
      ∙ ap (λ (x : List Role). Plain ∷ x) (goes (suc d) (Mark Colon) (Number low ∷ Mark CloseBracket ∷ rest) refl
      ∙ ap (λ (x : List Role). Plain ∷ x) (goes (suc d) (Number low) (Mark CloseBracket ∷ rest) refl
      ∙ ap (λ (x : List Role). Plain ∷ x) (closes d (Mark CloseBracket) rest refl)))))
  marked (WordOf name address) d rest =
      goes d (Name name) (Mark OpenBracket ∷ ((spell_expr address ++ Mark CloseBracket ∷ []) ++ rest)) refl
      ∙ ap (λ (x : List Role). Plain ∷ x) (opens d (Mark OpenBracket) ((spell_expr address ++ Mark CloseBracket ∷ []) ++ rest) refl
      ∙ ap (λ (x : List Role). Opens ∷ x) (ap (marks (here (suc d))) (append_assoc (spell_expr address) (Mark CloseBracket ∷ []) rest) ∙ marked address (suc d) (Mark CloseBracket ∷ rest) ∙ ap (λ (x : List Role). of_expr address ++ x) (closes d (Mark CloseBracket) rest refl) ∙ sym (append_assoc (of_expr address) (Closes ∷ []) (marks (here d) rest))))
  marked (Braces parts) d rest = opens d (Mark OpenBrace) ((spell_expr parts ++ Mark CloseBrace ∷ []) ++ rest) refl ∙ ap (λ (x : List Role). Opens ∷ x) (ap (marks (here (suc d))) (append_assoc (spell_expr parts) (Mark CloseBrace ∷ []) rest) ∙ marked parts (suc d) (Mark CloseBrace ∷ rest) ∙ ap (λ (x : List Role). of_expr parts ++ x) (closes d (Mark CloseBrace) rest refl) ∙ sym (append_assoc (of_expr parts) (Closes ∷ []) (marks (here d) rest)))
  marked (Parts first rest') d rest =
      ap (marks (here d)) (append_assoc (spell_expr first) (Mark Comma ∷ spell_expr rest') rest)
      ∙ marked first d (Mark Comma ∷ (spell_expr rest' ++ rest))
      ∙ ap (λ (x : List Role). of_expr first ++ x) (goes d (Mark Comma) (spell_expr rest' ++ rest) refl ∙ ap (λ (x : List Role). Plain ∷ x) (marked rest' d rest))
      ∙ sym (append_assoc (of_expr first) (Plain ∷ of_expr rest') (marks (here d) rest))
  marked (Parens inner) d rest = opens d (Mark OpenParen) ((spell_expr inner ++ Mark CloseParen ∷ []) ++ rest) refl ∙ ap (λ (x : List Role). Opens ∷ x) (ap (marks (here (suc d))) (append_assoc (spell_expr inner) (Mark CloseParen ∷ []) rest) ∙ marked inner (suc d) (Mark CloseParen ∷ rest) ∙ ap (λ (x : List Role). of_expr inner ++ x) (closes d (Mark CloseParen) rest refl) ∙ sym (append_assoc (of_expr inner) (Closes ∷ []) (marks (here d) rest)))
  marked (Prefix op arg) d rest = operates d (prefix_token op) (spell_expr arg ++ rest) (prefix_turn op) ∙ ap (λ (x : List Role). Operates ∷ x) (marked arg d rest)
  marked (Infix op left right) d rest =
      ap (marks (here d)) (append_assoc (spell_expr left) (infix_token op ∷ spell_expr right) rest)
      ∙ marked left d (infix_token op ∷ (spell_expr right ++ rest))
      ∙ ap (λ (x : List Role). of_expr left ++ x) (operates d (infix_token op) (spell_expr right ++ rest) (infix_turn op) ∙ ap (λ (x : List Role). Operates ∷ x) (marked right d rest))
      ∙ sym (append_assoc (of_expr left) (Operates ∷ of_expr right) (marks (here d) rest))
  marked (Conditional test yes' no') d rest =
      ap (marks (here d)) (append_assoc (spell_expr test) (Mark Question ∷ (spell_expr yes' ++ Mark Colon ∷ spell_expr no')) rest)
      ∙ marked test d (Mark Question ∷ ((spell_expr yes' ++ Mark Colon ∷ spell_expr no') ++ rest))
      ∙ ap (λ (x : List Role). of_expr test ++ x) (operates d (Mark Question) ((spell_expr yes' ++ Mark Colon ∷ spell_expr no') ++ rest) refl ∙ ap (λ (x : List Role). Operates ∷ x)
      (ap (marks (here d)) (append_assoc (spell_expr yes') (Mark Colon ∷ spell_expr no') rest)
      ∙ marked yes' d (Mark Colon ∷ (spell_expr no' ++ rest))
      ∙ ap (λ (x : List Role). of_expr yes' ++ x) (goes d (Mark Colon) (spell_expr no' ++ rest) refl ∙ ap (λ (x : List Role). Plain ∷ x) (marked no' d rest))
      ∙ sym (append_assoc (of_expr yes') (Plain ∷ of_expr no') (marks (here d) rest))))
      ∙ sym (append_assoc (of_expr test) (Operates ∷ (of_expr yes' ++ Plain ∷ of_expr no')) (marks (here d) rest))

-- ---- statements

valued : (e : WrittenExpr) (rest : List Token) → marks Value ((spell_expr e ++ Mark Semicolon ∷ []) ++ rest) ≡ (of_expr e ++ Plain ∷ []) ++ marks Ground rest
valued e rest =
    ap (marks Value) (append_assoc (spell_expr e) (Mark Semicolon ∷ []) rest) ∙ marked (λ d. Value) reads_value e 0 (Mark Semicolon ∷ rest) ∙ sym (append_assoc (of_expr e) (Plain ∷ []) (marks Ground rest))

tested : (e : WrittenExpr) (more : List Token) (rest : List Token) → marks (Test 0) ((spell_expr e ++ Mark CloseParen ∷ more) ++ rest) ≡ of_expr e ++ Closes ∷ marks Ground (more ++ rest)
tested e more rest = ap (marks (Test 0)) (append_assoc (spell_expr e) (Mark CloseParen ∷ more) rest) ∙ marked Test reads_test e 0 (Mark CloseParen ∷ (more ++ rest))

indexed : (e : WrittenExpr) (more : List Token) (rest : List Token) → marks (Index 0) ((spell_expr e ++ Mark CloseBracket ∷ more) ++ rest) ≡ of_expr e ++ Closes ∷ marks Aims (more ++ rest)
indexed e more rest = ap (marks (Index 0)) (append_assoc (spell_expr e) (Mark CloseBracket ∷ more) rest) ∙ marked Index reads_index e 0 (Mark CloseBracket ∷ (more ++ rest))

pub marked_in : (s : WrittenStatement) (rest : List Token) → marks Ground (spell_statement s ++ rest) ≡ of_statement s ++ marks Ground rest
marked_in (Update target value) rest = ap (λ (x : List Role). Plain ∷ Starts ∷ x) (valued value rest)
marked_in (UpdateWord target address value) rest =
    ap (λ (x : List Role). Plain ∷ OpensWhole ∷ x) (indexed address (Mark LessEquals ∷ (spell_expr value ++ Mark Semicolon ∷ [])) rest
    ∙ ap (λ (x : List Role). of_expr address ++ Closes ∷ Starts ∷ x) (valued value rest)
    ∙ sym (append_assoc (of_expr address) (Closes ∷ Starts ∷ (of_expr value ++ Plain ∷ [])) (marks Ground rest)))
marked_in (IfThen test yes') rest =
    ap (λ (x : List Role). Tests ∷ OpensWhole ∷ x) (tested test (spell_statement yes') rest
    ∙ ap (λ (x : List Role). of_expr test ++ Closes ∷ x) (marked_in yes' rest)
    ∙ sym (append_assoc (of_expr test) (Closes ∷ of_statement yes') (marks Ground rest)))
marked_in (IfElse test yes' no') rest =
    ap (λ (x : List Role). Tests ∷ OpensWhole ∷ x) (tested test (spell_statement yes' ++ Reserved ElseWord ∷ spell_statement no') rest
    ∙ ap (λ (x : List Role). of_expr test ++ Closes ∷ x) (ap (marks Ground) (append_assoc (spell_statement yes') (Reserved ElseWord ∷ spell_statement no') rest)
    ∙ marked_in yes' (Reserved ElseWord ∷ (spell_statement no' ++ rest))
    ∙ ap (λ (x : List Role). of_statement yes' ++ Plain ∷ x) (marked_in no' rest)
    ∙ sym (append_assoc (of_statement yes') (Plain ∷ of_statement no') (marks Ground rest)))
    ∙ sym (append_assoc (of_expr test) (Closes ∷ (of_statement yes' ++ Plain ∷ of_statement no')) (marks Ground rest)))
marked_in (Block statements) rest =
    ap (λ (x : List Role). Opens ∷ x) (ap (marks Ground) (append_assoc (spell_statement statements) (Reserved EndWord ∷ []) rest)
    ∙ marked_in statements (Reserved EndWord ∷ rest)
    ∙ sym (append_assoc (of_statement statements) (Closes ∷ []) (marks Ground rest)))
marked_in (Listed first rest') rest =
    ap (marks Ground) (append_assoc (spell_statement first) (spell_statement rest') rest)
    ∙ marked_in first (spell_statement rest' ++ rest)
    ∙ ap (λ (x : List Role). of_statement first ++ x) (marked_in rest' rest)
    ∙ sym (append_assoc (of_statement first) (of_statement rest') (marks Ground rest))
marked_in Ended rest = refl

-- ---- declarations

range_marks : (r : Range) (rest : List Token) → marks Declares (spell_range r ++ rest) ≡ plain_for (spell_range r) ++ marks Declares rest
range_marks None rest = refl
range_marks (Some high) rest = refl

more_names_marks : (ns : List (List ℕ)) (rest : List Token) → marks Declares (spell_more_names ns ++ rest) ≡ plain_for (spell_more_names ns) ++ marks Declares rest
more_names_marks [] rest = refl
more_names_marks (n ∷ ns) rest = ap (λ (x : List Role). Plain ∷ Plain ∷ x) (more_names_marks ns rest)

names_marks : (ns : List (List ℕ)) (rest : List Token) → marks Declares (spell_names ns ++ rest) ≡ plain_for (spell_names ns) ++ marks Declares rest
names_marks [] rest = refl
names_marks (n ∷ ns) rest = ap (λ (x : List Role). Plain ∷ x) (more_names_marks ns rest)

declared_marks : (r : Range) (ns : List (List ℕ)) (rest : List Token) → marks Declares ((spell_range r ++ (spell_names ns ++ Mark Semicolon ∷ [])) ++ rest) ≡ (plain_for (spell_range r) ++ (plain_for (spell_names ns) ++ Plain ∷ [])) ++ marks Ground rest
declared_marks r ns rest =
    ap (marks Declares) (append_assoc (spell_range r) (spell_names ns ++ Mark Semicolon ∷ []) rest)
    ∙ range_marks r ((spell_names ns ++ Mark Semicolon ∷ []) ++ rest)
    ∙ ap (λ (x : List Role). plain_for (spell_range r) ++ x) (ap (marks Declares) (append_assoc (spell_names ns) (Mark Semicolon ∷ []) rest)
    ∙ names_marks ns (Mark Semicolon ∷ rest) ∙ sym (append_assoc (plain_for (spell_names ns)) (Plain ∷ []) (marks Ground rest)))
    ∙ sym (append_assoc (plain_for (spell_range r)) (plain_for (spell_names ns) ++ Plain ∷ []) (marks Ground rest))

item_marks : (i : WrittenItem) (rest : List Token) → marks Ground (spell_item i ++ rest) ≡ of_item i ++ marks Ground rest
item_marks (Wires range names) rest = ap (λ (x : List Role). Begins ∷ x) (declared_marks range names rest)
item_marks (Registers range names) rest = ap (λ (x : List Role). Begins ∷ x) (declared_marks range names rest)
item_marks (MemoryOf range name last) rest =
    ap (λ (x : List Role). Begins ∷ x) (ap (marks Declares) (append_assoc (spell_range range) (Name name ∷ Mark OpenBracket ∷ Number zero_digit ∷ Mark Colon ∷ Number last ∷ Mark CloseBracket ∷ Mark Semicolon ∷ []) rest)
    ∙ range_marks range (Name name ∷ Mark OpenBracket ∷ Number zero_digit ∷ Mark Colon ∷ Number last ∷ Mark CloseBracket ∷ Mark Semicolon ∷ rest)
    ∙ sym (append_assoc (plain_for (spell_range range)) (Plain ∷ Plain ∷ Plain ∷ Plain ∷ Plain ∷ Plain ∷ Plain ∷ []) (marks Ground rest)))
item_marks (Assign target value) rest = ap (λ (x : List Role). Begins ∷ Plain ∷ Starts ∷ x) (valued value rest)
item_marks (Always clock body) rest = ap (λ (x : List Role). Begins ∷ Plain ∷ Plain ∷ Plain ∷ Plain ∷ Plain ∷ x) (marked_in body rest)

items_marks : (is : List WrittenItem) (rest : List Token) → marks Ground (spell_items is ++ rest) ≡ of_items is ++ marks Ground rest
items_marks [] rest = refl
items_marks (i ∷ is) rest =
    ap (marks Ground) (append_assoc (spell_item i) (spell_items is) rest) ∙ item_marks i (spell_items is ++ rest)
    ∙ ap (λ (x : List Role). of_item i ++ x) (items_marks is rest) ∙ sym (append_assoc (of_item i) (of_items is) (marks Ground rest))

-- ---- the header

end_marks : (r : Range) (name : List ℕ) (rest : List Token) → marks Header ((spell_range r ++ Name name ∷ []) ++ rest) ≡ plain_for (spell_range r ++ Name name ∷ []) ++ marks Header rest
end_marks None name rest = refl
end_marks (Some high) name rest = refl

port_marks' : (d : Direction) (r : Range) (name : List ℕ) (rest : List Token) → marks Header ((spell_direction d ++ (spell_range r ++ Name name ∷ [])) ++ rest) ≡ plain_for (spell_direction d ++ (spell_range r ++ Name name ∷ [])) ++ marks Header rest
port_marks' In r name rest = ap (λ (x : List Role). Plain ∷ x) (end_marks r name rest)
port_marks' InWire r name rest = ap (λ (x : List Role). Plain ∷ Plain ∷ x) (end_marks r name rest)
port_marks' Out r name rest = ap (λ (x : List Role). Plain ∷ x) (end_marks r name rest)
port_marks' OutWire r name rest = ap (λ (x : List Role). Plain ∷ Plain ∷ x) (end_marks r name rest)
port_marks' OutReg r name rest = ap (λ (x : List Role). Plain ∷ Plain ∷ x) (end_marks r name rest)

port_marks : (p : WrittenPort) (rest : List Token) → marks Header (spell_port p ++ rest) ≡ plain_for (spell_port p) ++ marks Header rest
port_marks p rest = port_marks' p.direction p.range p.name rest

more_ports_marks : (ps : List WrittenPort) (rest : List Token) → marks Header (spell_more_ports ps ++ rest) ≡ of_more_ports ps ++ marks Header rest
more_ports_marks [] rest = refl
more_ports_marks (p ∷ ps) rest = ap (λ (x : List Role). Plain ∷ x) (ap (marks Header) (append_assoc (spell_port p) (spell_more_ports ps) rest) ∙ port_marks p (spell_more_ports ps ++ rest)
    ∙ ap (λ (x : List Role). plain_for (spell_port p) ++ x) (more_ports_marks ps rest) ∙ sym (append_assoc (plain_for (spell_port p)) (of_more_ports ps) (marks Header rest)))

ports_marks : (ps : List WrittenPort) (rest : List Token) → marks Header (spell_ports ps ++ rest) ≡ of_ports ps ++ marks Header rest
ports_marks [] rest = refl
ports_marks (p ∷ ps) rest = ap (marks Header) (append_assoc (spell_port p) (spell_more_ports ps) rest) ∙ port_marks p (spell_more_ports ps ++ rest)
    ∙ ap (λ (x : List Role). plain_for (spell_port p) ++ x) (more_ports_marks ps rest) ∙ sym (append_assoc (plain_for (spell_port p)) (of_more_ports ps) (marks Header rest))

-- THE ROLES of a module are those of its tokens
pub module_marks : (m : WrittenModule) → marks Header (spell m) ≡ roles_of m
module_marks m = ap (λ (x : List Role). Plain ∷ Plain ∷ Plain ∷ x) (ports_marks m.ports (Mark CloseParen ∷ Mark Semicolon ∷ (spell_items m.items ++ Reserved EndModuleWord ∷ []))
    ∙ ap (λ (x : List Role). of_ports m.ports ++ Plain ∷ Plain ∷ x) (items_marks m.items (Reserved EndModuleWord ∷ [])))

pub marks_join : (s : State) (a b : List Token) → marks s (a ++ b) ≡ marks s a ++ marks (behind s a) b
marks_join s [] b = refl
marks_join s (t ∷ a) b = ap (λ (x : List Role). role_at s t ∷ x) (marks_join (next s t) a b)
