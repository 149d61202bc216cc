-- The token that shows a broken rule is one of the module's.
use Rattle.std.proofs.Common.{ℕ, ◌+◌, ◌<◌, ◌≤◌, inl, inr, false, List, [], ◌∷◌, ◌++◌, length, map, subst, arith, length-append}
use Rattle.std.specs.Prelude.{nat_eq}
use Rattle.std.specs.List.{AllByRecursion}
use Rattle.gl_bits.proofs.AllLists.{all_append, all_back, all_at}
use Rattle.gl_verilog.specs.Module.{Declaration, Kind, Input, OutputWire, OutputRegister, Wire, Register, Memory}
use Rattle.gl_verilog.specs.Tokens.{Name, Number, Mark, Reserved, CloseBracket, CloseBrace, CloseParen, Comma, Question, Colon, Semicolon, LessEquals, OpenBracket, ElseWord, EndWord, EndModuleWord}
use Rattle.gl_verilog.specs.Written.{WrittenExpr, Named, Constant, BitOf, PartOf, WordOf, Braces, Parts, Parens, Prefix, Infix, Conditional, infix_token, spell_expr, WrittenStatement, Update, UpdateWord, IfThen, IfElse, Block, Listed, Ended, spell_statement, Range, WrittenPort, spell_range, spell_port, spell_more_ports, spell_ports, spell_more_names, spell_names, zero_digit, WrittenItem, Wires, Registers, MemoryOf, Assign, Always, spell_item, spell_items, WrittenModule, spell}
use Rattle.gl_verilog.specs.Resolve.{declare, declare_port, port_kind}
use Rattle.gl_verilog_elaborator.proofs.OfDeclarations.{port_size}
use Rattle.gl_verilog_faults.specs.Demands.{Rule, WidthsDiffer, Demand, ask, bits_in, of_expr, of_statement, targets_in, of_names, of_ports, name_token, memory_declared, of_items, targets_of, undriven_names, undriven_port, undriven_ports, undriven_items, items_token, demands_of, assign_tokens}
use Rattle.gl_verilog_faults.specs.Faults.{IsBroken}

-- each of these demands is made at a token before the n-th
abbrev AreBefore : ℕ → List Demand → Type 0
AreBefore n demands = AllByRecursion (λ d. d.token < n) demands

join : (n : ℕ) (a b : List Demand) → AreBefore n a → AreBefore n b → AreBefore n (a ++ b)
join n a b g h = all_append (λ d. d.token < n) a b g h

-- ---- expressions

expr_before : (n : ℕ) (ds : List Declaration) (k : ℕ) (e : WrittenExpr) → k + length (spell_expr e) ≤ n → AreBefore n (of_expr ds k e)
expr_before n ds k (Named name) h = (let a : k < n = omega arith in (a, (a, (a, tt))))
expr_before n ds k (Constant size radix digits) h = (let a : k < n = omega arith in (a, (a, tt)))
expr_before n ds k (BitOf name place) h = (let a : k < n = omega arith in (a, (a, (a, (a, tt)))))
expr_before n ds k (PartOf name high low) h = (let a : k < n = omega arith in (a, (a, (a, (a, tt)))))
expr_before n ds k (WordOf name address) h =
    let size = length-append (spell_expr address) (Mark CloseBracket ∷ []) in
    let a : k < n = omega arith in
    (a, (a, (a, join n (of_expr ds (k + 2) address) _ (expr_before n ds (k + 2) address (omega (arith, size))) (a, tt))))
expr_before n ds k (Braces parts) h =
    let size = length-append (spell_expr parts) (Mark CloseBrace ∷ []) in
    join n (of_expr ds (k + 1) parts) _ (expr_before n ds (k + 1) parts (omega (arith, size))) (omega arith, tt)
expr_before n ds k (Parts first rest) h =
    let size = length-append (spell_expr first) (Mark Comma ∷ spell_expr rest) in
    join n (of_expr ds k first) _ (expr_before n ds k first (omega (arith, size)))
    (expr_before n ds (k + length (spell_expr first) + 1) rest (omega (arith, size)))
expr_before n ds k (Parens inner) h =
    let size = length-append (spell_expr inner) (Mark CloseParen ∷ []) in
    expr_before n ds (k + 1) inner (omega (arith, size))
expr_before n ds k (Prefix op arg) h =
    join n (of_expr ds (k + 1) arg) _ (expr_before n ds (k + 1) arg (omega arith)) (omega arith, tt)
expr_before n ds k (Infix op left right) h =
    let size = length-append (spell_expr left) (infix_token op ∷ spell_expr right) in
    join n (of_expr ds k left ++ of_expr ds (k + length (spell_expr left) + 1) right) _
    (join n (of_expr ds k left) _ (expr_before n ds k left (omega (arith, size))) (expr_before n ds (k + length (spell_expr left) + 1) right (omega (arith, size))))
    (omega (arith, size), tt)
expr_before n ds k (Conditional test yes' no') h =
    let inner = length-append (spell_expr yes') (Mark Colon ∷ spell_expr no') in
    let size = length-append (spell_expr test) (Mark Question ∷ (spell_expr yes' ++ Mark Colon ∷ spell_expr no')) in
    let second = k + length (spell_expr test) + 1 in
    let third = k + length (spell_expr test) + length (spell_expr yes') + 2 in
    join n (of_expr ds k test ++ of_expr ds second yes' ++ of_expr ds third no') _
    (join n (of_expr ds k test ++ of_expr ds second yes') _
    (join n (of_expr ds k test) _ (expr_before n ds k test (omega (arith, size))) (expr_before n ds second yes' (omega (arith, inner, size))))
    (expr_before n ds third no' (omega (arith, inner, size))))
    (omega (arith, size), tt)

-- ---- statements

statement_before : (n : ℕ) (ds : List Declaration) (done before beside : List (List ℕ)) (k : ℕ) (s : WrittenStatement) → k + length (spell_statement s) ≤ n → AreBefore n (of_statement ds done before beside k s)
statement_before n ds done before beside k (Update target value) h =
    let size = length-append (spell_expr value) (Mark Semicolon ∷ []) in
    let a : k < n = omega arith in
    join n (of_expr ds (k + 2) value) _ (expr_before n ds (k + 2) value (omega (arith, size))) (a, (a, (a, (a, (a, tt)))))
statement_before n ds done before beside k (UpdateWord target address value) h =
    let inner = length-append (spell_expr value) (Mark Semicolon ∷ []) in
    let size = length-append (spell_expr address) (Mark CloseBracket ∷ Mark LessEquals ∷ (spell_expr value ++ Mark Semicolon ∷ [])) in
    let a : k < n = omega arith in
    join n (of_expr ds (k + 2) address ++ of_expr ds (k + length (spell_expr address) + 4) value) _
    (join n (of_expr ds (k + 2) address) _ (expr_before n ds (k + 2) address (omega (arith, size)))
    (expr_before n ds (k + length (spell_expr address) + 4) value (omega (arith, inner, size)))) (a, (a, (a, (a, (a, tt)))))
statement_before n ds done before beside k (IfThen test yes') h =
    let size = length-append (spell_expr test) (Mark CloseParen ∷ spell_statement yes') in
    join n (of_expr ds (k + 2) test) _ (expr_before n ds (k + 2) test (omega (arith, size)))
    (omega arith, statement_before n ds done before beside (k + length (spell_expr test) + 3) yes' (omega (arith, size)))
statement_before n ds done before beside k (IfElse test yes' no') h =
    let inner = length-append (spell_statement yes') (Reserved ElseWord ∷ spell_statement no') in
    let size = length-append (spell_expr test) (Mark CloseParen ∷ (spell_statement yes' ++ Reserved ElseWord ∷ spell_statement no')) in
    let then_at = k + length (spell_expr test) + 3 in
    let else_at = k + length (spell_expr test) + length (spell_statement yes') + 4 in
    let first = of_statement ds done before beside then_at yes' in
    let second = of_statement ds done (before ++ targets_in yes') beside else_at no' in
    let both = join n first second (statement_before n ds done before beside then_at yes' (omega (arith, inner, size))) (statement_before n ds done (before ++ targets_in yes') beside else_at no' (omega (arith, inner, size))) in
    let rest = ask WidthsDiffer k (nat_eq (bits_in ds test) 1) ∷ (first ++ second) in
    join n (of_expr ds (k + 2) test) rest (expr_before n ds (k + 2) test (omega (arith, size))) (omega arith, both)
statement_before n ds done before beside k (Block statements) h =
    let size = length-append (spell_statement statements) (Reserved EndWord ∷ []) in
    statement_before n ds done before beside (k + 1) statements (omega (arith, size))
statement_before n ds done before beside k (Listed first rest) h =
    let size = length-append (spell_statement first) (spell_statement rest) in
    join n (of_statement ds done before beside k first) _ (statement_before n ds done before beside k first (omega (arith, size)))
    (statement_before n ds done (before ++ targets_in first) (beside ++ targets_in first) (k + length (spell_statement first)) rest (omega (arith, size)))
statement_before n ds done before beside k Ended h = tt

-- ---- names and ports: each has a token behind it

more_names : (names : List (List ℕ)) → length (spell_more_names names) ≤ length (spell_names names) + 1
more_names [] = omega arith
more_names (x ∷ names) = omega arith

names_before : (n : ℕ) (kind : Kind) (range : Range) (ds : List Declaration) (k : ℕ) (names : List (List ℕ)) → k + length (spell_more_names names) ≤ n + 1 → AreBefore n (of_names kind range ds k names)
names_before n kind range ds k [] h = tt
names_before n kind range ds k (x ∷ names) h =
    let a : k < n = omega arith in
    (a, (a, names_before n kind range (ds ++ declare kind range x ∷ []) (k + 2) names (omega arith)))

undriven_names_before : (n : ℕ) (driven : List (List ℕ)) (k : ℕ) (names : List (List ℕ)) → k + length (spell_more_names names) ≤ n + 1 → AreBefore n (undriven_names driven k names)
undriven_names_before n driven k [] h = tt
undriven_names_before n driven k (x ∷ names) h = (omega arith, undriven_names_before n driven (k + 2) names (omega arith))

more_ports : (ps : List WrittenPort) → length (spell_more_ports ps) ≤ length (spell_ports ps) + 1
more_ports [] = omega arith
more_ports (p ∷ ps) = omega arith

ports_before : (n : ℕ) (ds : List Declaration) (k : ℕ) (ps : List WrittenPort) → k + length (spell_more_ports ps) ≤ n + 1 → AreBefore n (of_ports ds k ps)
ports_before n ds k [] h = tt
ports_before n ds k (p ∷ ps) h =
    let size = length-append (spell_port p) (spell_more_ports ps) in
    let a : k + name_token p < n = omega (arith, size, port_size p) in
    (a, (a, ports_before n (ds ++ declare_port p ∷ []) (k + length (spell_port p) + 1) ps (omega (arith, size))))

undriven_port_before : (n : ℕ) (driven : List (List ℕ)) (k : ℕ) (kind : Kind) (name : List ℕ) → k < n → AreBefore n (undriven_port driven k kind name)
undriven_port_before n driven k Input name h = tt
undriven_port_before n driven k OutputWire name h = (h, tt)
undriven_port_before n driven k OutputRegister name h = (h, tt)
undriven_port_before n driven k Wire name h = (h, tt)
undriven_port_before n driven k Register name h = (h, tt)
undriven_port_before n driven k (Memory bits) name h = (h, tt)

undriven_ports_before : (n : ℕ) (driven : List (List ℕ)) (k : ℕ) (ps : List WrittenPort) → k + length (spell_more_ports ps) ≤ n + 1 → AreBefore n (undriven_ports driven k ps)
undriven_ports_before n driven k [] h = tt
undriven_ports_before n driven k (p ∷ ps) h =
    let size = length-append (spell_port p) (spell_more_ports ps) in
    join n (undriven_port driven (k + name_token p) (port_kind p.direction) p.name) _
    (undriven_port_before n driven (k + name_token p) (port_kind p.direction) p.name (omega (arith, size, port_size p)))
    (undriven_ports_before n driven (k + length (spell_port p) + 1) ps (omega (arith, size)))

-- ---- items

-- the names of an item with a range, which begins at k
listed_in : (n k : ℕ) (range : Range) (names : List (List ℕ)) → k + 1 + length (spell_range range ++ (spell_names names ++ Mark Semicolon ∷ [])) ≤ n → k + 1 + length (spell_range range) + length (spell_more_names names) ≤ n + 1
listed_in n k range names h =
    omega (arith, more_names names, length-append (spell_range range) (spell_names names ++ Mark Semicolon ∷ []), length-append (spell_names names) (Mark Semicolon ∷ []))

-- the name of a memory
memory_in : (n k : ℕ) (range : Range) (name last : List ℕ) → k + length (spell_item (MemoryOf range name last)) ≤ n → k + 1 + length (spell_range range) < n
memory_in n k range name last h =
    omega (arith, h, length-append (spell_range range) (Name name ∷ Mark OpenBracket ∷ Number zero_digit ∷ Mark Colon ∷ Number last ∷ Mark CloseBracket ∷ Mark Semicolon ∷ []))

items_before : (n : ℕ) (ds : List Declaration) (done : List (List ℕ)) (k : ℕ) (is : List WrittenItem) → k + length (spell_items is) ≤ n → AreBefore n (of_items ds done k is)
items_before n ds done k [] h = tt
items_before n ds done k (Wires range names ∷ is) h =
    let size = length-append (spell_item (Wires range names)) (spell_items is) in
    join n (of_names Wire range ds (k + 1 + length (spell_range range)) names) _
    (names_before n Wire range ds (k + 1 + length (spell_range range)) names (listed_in n k range names (omega (arith, size))))
    (items_before n _ done (k + length (spell_item (Wires range names))) is (omega (arith, size)))
items_before n ds done k (Registers range names ∷ is) h =
    let size = length-append (spell_item (Registers range names)) (spell_items is) in
    join n (of_names Register range ds (k + 1 + length (spell_range range)) names) _
    (names_before n Register range ds (k + 1 + length (spell_range range)) names (listed_in n k range names (omega (arith, size))))
    (items_before n _ done (k + length (spell_item (Registers range names))) is (omega (arith, size)))
items_before n ds done k (MemoryOf range name last ∷ is) h =
    let size = length-append (spell_item (MemoryOf range name last)) (spell_items is) in
    let a : k + 1 + length (spell_range range) < n = memory_in n k range name last (omega (arith, size)) in
    (a, (a, (a, items_before n (ds ++ memory_declared range name last ∷ []) done (k + length (spell_item (MemoryOf range name last))) is (omega (arith, size)))))
items_before n ds done k (Assign target value ∷ is) h =
    let inner = length-append (spell_expr value) (Mark Semicolon ∷ []) in
    let size = length-append (spell_item (Assign target value)) (spell_items is) in
    let a : k + 1 < n = omega (arith, size) in
    join n (of_expr ds (k + 3) value) _ (expr_before n ds (k + 3) value (omega (arith, inner, size)))
    (a, (a, (a, (a, items_before n ds (done ++ target ∷ []) (k + length (spell_item (Assign target value))) is (omega (arith, size))))))
items_before n ds done k (Always clock body ∷ is) h =
    let size = length-append (spell_item (Always clock body)) (spell_items is) in
    let a : k + 4 < n = omega (arith, size) in (
      a,
      (
        a,
        (
          a,
          join n (of_statement ds done [] [] (k + 6) body) _ (statement_before n ds done [] [] (k + 6) body (omega (arith, size)))
              (items_before n ds (done ++ targets_in body) (k + length (spell_item (Always clock body))) is (omega (arith, size))),
        ),
      ),
    )

undriven_items_before : (n : ℕ) (driven : List (List ℕ)) (k : ℕ) (is : List WrittenItem) → k + length (spell_items is) ≤ n → AreBefore n (undriven_items driven k is)
undriven_items_before n driven k [] h = tt
undriven_items_before n driven k (Wires range names ∷ is) h =
    let size = length-append (spell_item (Wires range names)) (spell_items is) in
    join n (undriven_names driven (k + 1 + length (spell_range range)) names) _
    (undriven_names_before n driven (k + 1 + length (spell_range range)) names (listed_in n k range names (omega (arith, size))))
    (undriven_items_before n driven (k + length (spell_item (Wires range names))) is (omega (arith, size)))
undriven_items_before n driven k (Registers range names ∷ is) h =
    let size = length-append (spell_item (Registers range names)) (spell_items is) in
    join n (undriven_names driven (k + 1 + length (spell_range range)) names) _
    (undriven_names_before n driven (k + 1 + length (spell_range range)) names (listed_in n k range names (omega (arith, size))))
    (undriven_items_before n driven (k + length (spell_item (Registers range names))) is (omega (arith, size)))
undriven_items_before n driven k (MemoryOf range name last ∷ is) h =
    let size = length-append (spell_item (MemoryOf range name last)) (spell_items is) in
    (memory_in n k range name last (omega (arith, size)), undriven_items_before n driven (k + length (spell_item (MemoryOf range name last))) is (omega (arith, size)))
undriven_items_before n driven k (Assign target value ∷ is) h =
    undriven_items_before n driven (k + length (spell_item (Assign target value))) is (omega (arith, length-append (spell_item (Assign target value)) (spell_items is)))
undriven_items_before n driven k (Always clock body ∷ is) h =
    undriven_items_before n driven (k + length (spell_item (Always clock body))) is (omega (arith, length-append (spell_item (Always clock body)) (spell_items is)))

assigns_before : (n k : ℕ) (is : List WrittenItem) → k + length (spell_items is) ≤ n → AllByRecursion (λ t. t < n) (assign_tokens k is)
assigns_before n k [] h = tt
assigns_before n k (Wires range names ∷ is) h = assigns_before n (k + length (spell_item (Wires range names))) is (omega (arith, length-append (spell_item (Wires range names)) (spell_items is)))
assigns_before n k (Registers range names ∷ is) h = assigns_before n (k + length (spell_item (Registers range names))) is (omega (arith, length-append (spell_item (Registers range names)) (spell_items is)))
assigns_before n k (MemoryOf range name last ∷ is) h = assigns_before n (k + length (spell_item (MemoryOf range name last))) is (omega (arith, length-append (spell_item (MemoryOf range name last)) (spell_items is)))
assigns_before n k (Assign target value ∷ is) h =
    let size = length-append (spell_item (Assign target value)) (spell_items is) in
    (omega (arith, size), assigns_before n (k + length (spell_item (Assign target value))) is (omega (arith, size)))
assigns_before n k (Always clock body ∷ is) h = assigns_before n (k + length (spell_item (Always clock body))) is (omega (arith, length-append (spell_item (Always clock body)) (spell_items is)))

-- ---- the whole module

record Sizes (w : WrittenModule) (n : ℕ) : Type 0 where
  pub ports : 3 + length (spell_more_ports w.ports) ≤ n + 1
  pub items : items_token w.ports + length (spell_items w.items) ≤ n

sizes_of : (w : WrittenModule) → Sizes w (length (spell w))
sizes_of w =
    let behind = length-append (spell_items w.items) (Reserved EndModuleWord ∷ []) in
    let size = length-append (spell_ports w.ports) (Mark CloseParen ∷ Mark Semicolon ∷ (spell_items w.items ++ Reserved EndModuleWord ∷ [])) in
    record { ports = omega (arith, more_ports w.ports, size); items = omega (arith, behind, size) }

demands_before : (w : WrittenModule) (n : ℕ) → Sizes w n → AreBefore n (demands_of w)
demands_before w n s =
    let declared = of_ports [] 3 w.ports ++ of_items (map declare_port w.ports) [] (items_token w.ports) w.items in
    let driven = targets_of w.items in
    join n (declared ++ undriven_ports driven 3 w.ports) _
    (join n declared _
    (join n (of_ports [] 3 w.ports) _ (ports_before n [] 3 w.ports s.ports) (items_before n (map declare_port w.ports) [] (items_token w.ports) w.items s.items))
    (undriven_ports_before n driven 3 w.ports s.ports))
    (undriven_items_before n driven (items_token w.ports) w.items s.items)

pub token_before : (w : WrittenModule) (rule : Rule) (token : ℕ) → IsBroken w rule token → token < length (spell w)
token_before w rule token (inl first) =
    let n = length (spell w) in
    let all : AreBefore n (first.0 ++ ask rule token false ∷ first.1) = subst (AreBefore n) first.2 (demands_before w n (sizes_of w)) in
    (all_back (λ d. d.token < n) first.0 (ask rule token false ∷ first.1) all).0
token_before w rule token (inr loop) =
    let n = length (spell w) in
    all_at (λ t. t < n) (assign_tokens (items_token w.ports) w.items) (length loop.1.front) token loop.1.place (assigns_before n (items_token w.ports) w.items (sizes_of w).items)
