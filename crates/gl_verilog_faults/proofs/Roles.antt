-- What each token of a spelled module counts for, told by the tree.
use Rattle.std.specs.Prelude.{List, [], ◌∷◌, ◌++◌, map}
use Rattle.gl_verilog.specs.Written.{WrittenExpr, Named, Constant, BitOf, PartOf, WordOf, Braces, Parts, Parens, Prefix, Infix, Conditional, WrittenStatement, Update, UpdateWord, IfThen, IfElse, Block, Listed, Ended, WrittenPort, WrittenItem, Wires, Registers, MemoryOf, Assign, Always, WrittenModule, spell_port, spell_range, spell_names}
use Rattle.gl_verilog_faults.specs.Counts.{Role, Opens, Closes, Operates, Starts, OpensWhole, Tests, Begins, Plain}

abbrev pub of_expr : WrittenExpr → List Role
of_expr (Named name) = Plain ∷ []
of_expr (Constant size radix digits) = Plain ∷ []
of_expr (BitOf name place) = Plain ∷ Opens ∷ Plain ∷ Closes ∷ []
of_expr (PartOf name high low) = Plain ∷ Opens ∷ Plain ∷ Plain ∷ Plain ∷ Closes ∷ []
of_expr (WordOf name address) = Plain ∷ Opens ∷ (of_expr address ++ Closes ∷ [])
of_expr (Braces parts) = Opens ∷ (of_expr parts ++ Closes ∷ [])
of_expr (Parts first rest) = of_expr first ++ Plain ∷ of_expr rest
of_expr (Parens inner) = Opens ∷ (of_expr inner ++ Closes ∷ [])
of_expr (Prefix op arg) = Operates ∷ of_expr arg
of_expr (Infix op left right) = of_expr left ++ Operates ∷ of_expr right
of_expr (Conditional test yes' no') = of_expr test ++ Operates ∷ (of_expr yes' ++ Plain ∷ of_expr no')

abbrev pub of_statement : WrittenStatement → List Role
of_statement (Update target value) = Plain ∷ Starts ∷ (of_expr value ++ Plain ∷ [])
of_statement (UpdateWord target address value) = Plain ∷ OpensWhole ∷ (of_expr address ++ Closes ∷ Starts ∷ (of_expr value ++ Plain ∷ []))
of_statement (IfThen test yes') = Tests ∷ OpensWhole ∷ (of_expr test ++ Closes ∷ of_statement yes')
of_statement (IfElse test yes' no') = Tests ∷ OpensWhole ∷ (of_expr test ++ Closes ∷ (of_statement yes' ++ Plain ∷ of_statement no'))
of_statement (Block statements) = Opens ∷ (of_statement statements ++ Closes ∷ [])
of_statement (Listed first rest) = of_statement first ++ of_statement rest
of_statement Ended = []

abbrev pub plain_for : {A : Type 0} → List A → List Role
plain_for ts = map (λ t. Plain) ts

abbrev pub of_item : WrittenItem → List Role
of_item (Wires range names) = Begins ∷ (plain_for (spell_range range) ++ (plain_for (spell_names names) ++ Plain ∷ []))
of_item (Registers range names) = Begins ∷ (plain_for (spell_range range) ++ (plain_for (spell_names names) ++ Plain ∷ []))
of_item (MemoryOf range name last) = Begins ∷ (plain_for (spell_range range) ++ Plain ∷ Plain ∷ Plain ∷ Plain ∷ Plain ∷ Plain ∷ Plain ∷ [])
of_item (Assign target value) = Begins ∷ Plain ∷ Starts ∷ (of_expr value ++ Plain ∷ [])
of_item (Always clock body) = Begins ∷ Plain ∷ Plain ∷ Plain ∷ Plain ∷ Plain ∷ of_statement body

abbrev pub of_items : List WrittenItem → List Role
of_items [] = []
of_items (i ∷ is) = of_item i ++ of_items is

abbrev pub of_more_ports : List WrittenPort → List Role
of_more_ports [] = []
of_more_ports (p ∷ ps) = Plain ∷ (plain_for (spell_port p) ++ of_more_ports ps)

abbrev pub of_ports : List WrittenPort → List Role
of_ports [] = []
of_ports (p ∷ ps) = plain_for (spell_port p) ++ of_more_ports ps

abbrev pub roles_of : WrittenModule → List Role
roles_of m = Plain ∷ Plain ∷ Plain ∷ (of_ports m.ports ++ Plain ∷ Plain ∷ (of_items m.items ++ Begins ∷ []))
