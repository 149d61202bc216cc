-- A printed module has the tokens of the written one.
use Rattle.std.proofs.Common.{◌≡◌, ℕ, List, [], ◌∷◌, ◌++◌, Some, None, refl, sym, ap, subst, ◌∙◌, append_assoc}
use Rattle.std.specs.Prelude.{codes}
use Rattle.std.specs.List.{AllByRecursion}
use Rattle.std.specs.Str.Parse.{IsNumeral}
use Rattle.gl_verilog.specs.Tokens.{Token, Reserved, Name, Number, Sized, Mark, ModuleWord, EndModuleWord, WireWord, RegWord, AssignWord, AlwaysWord, PosedgeWord, BeginWord, EndWord, IfWord, ElseWord, OpenParen, CloseParen, OpenBracket, CloseBracket, OpenBrace, CloseBrace, Semicolon, Comma, Colon, Question, At, Equals, Tilde, LessEquals, Between, InWord, InNumber, InDigits, to, scan, tokens_of, number_token, word_token, sized_token, Reads, ClosesWord, ClosesNumber, ClosesDigits}
use Rattle.gl_verilog.specs.Written.{BitNot, LogicalNot, InfixOp, Times, Added, Subtracted, Below, AtMost, Above, AtLeast, Equal, NotEqual, BitAnd, BitXor, BitOr, LogicalAnd, LogicalOr, WrittenExpr, Named, Constant, BitOf, PartOf, WordOf, Braces, Parts, Parens, Prefix, Infix, Conditional, WrittenStatement, Update, UpdateWord, IfThen, IfElse, Block, Listed, Ended, Direction, In, InWire, Out, OutWire, OutReg, Range, WrittenPort, WrittenItem, Wires, Registers, MemoryOf, Assign, Always, WrittenModule, infix_token, zero_digit, spell_expr, spell_statement, spell_direction, spell_range, spell_port, spell_more_ports, spell_ports, spell_more_names, spell_names, spell_item, spell_items, spell}
use Rattle.gl_verilog.proofs.Pieces.{scan-append, reads_on, reads_all}
use Rattle.gl_verilog_writer.specs.Printed.{infix_text, expr_text, statement_text, range_text, names_behind, names_text, always_text, item_text, Line, line_text, lines_text, direction_text, port_text, more_ports_text, ports_text, head_text, end_text}
use Rattle.gl_verilog_writer.specs.Comments.{heading_text}
use Rattle.gl_verilog_writer.proofs.Quiet.{heading-reads}
use Rattle.gl_verilog_writer.proofs.Digits.{IsPlain, IsSize, plain-reads, number-reads, literal-reads}

-- this text ends a name, a number or a literal, and gives these tokens behind it
pub record Closes (text : List ℕ) (tokens : List Token) : Type 0 where
  pub word : ClosesWord text tokens
  pub number : ClosesNumber text tokens
  pub digits : ClosesDigits text tokens
  pub between : Reads text tokens

closer : (a : List ℕ) (x : List Token) → ((w : List ℕ) → scan (InWord w) a ≡ to Between (word_token w ∷ x)) → ((n : List ℕ) → scan (InNumber n) a ≡ to Between (number_token n ∷ x)) → ((n ds : List ℕ) → scan (InDigits n 10 ds) a ≡ to Between (sized_token n 10 ds ∷ x)) → scan Between a ≡ to Between x → Closes a x
closer a x w n d b = record { word = record { is = w }; number = record { is = n }; digits = record { is = d }; between = record { is = b } }

closes_on : (a b : List ℕ) (x y : List Token) → Closes a x → Reads b y → Closes (a ++ b) (x ++ y)
closes_on a b x y p q = record {
  word = record { is = λ w. scan-append (InWord w) a b ∙ rw (p.word.is w, q.is) refl };
  number = record { is = λ n. scan-append (InNumber n) a b ∙ rw (p.number.is n, q.is) refl };
  digits = record { is = λ n ds. scan-append (InDigits n 10 ds) a b ∙ rw (p.digits.is n ds, q.is) refl };
  between = reads_on a b x y p.between q;
}

-- the same text and the same tokens, put together otherwise
pub moved : (a b : List ℕ) (x y : List Token) → a ≡ b → x ≡ y → Reads a x → Reads b y
moved a b x y e f p = subst (λ t. Reads t y) e (subst (λ ts. Reads a ts) f p)

right3 : {A : Type 0} (a b c d : List A) → a ++ (b ++ (c ++ d)) ≡ (a ++ b ++ c) ++ d
right3 a b c d = sym (append_assoc (a ++ b) c d ∙ append_assoc a b (c ++ d))

right4 : {A : Type 0} (a b c d e : List A) → a ++ (b ++ (c ++ (d ++ e))) ≡ (a ++ b ++ c ++ d) ++ e
right4 a b c d e = right3 a b c (d ++ e) ∙ sym (append_assoc (a ++ b ++ c) d e)

right5 : {A : Type 0} (a b c d e f : List A) → a ++ (b ++ (c ++ (d ++ (e ++ f)))) ≡ (a ++ b ++ c ++ d ++ e) ++ f
right5 a b c d e f = right4 a b c d (e ++ f) ∙ sym (append_assoc (a ++ b ++ c ++ d) e f)

right2 : {A : Type 0} (a b c : List A) → a ++ (b ++ c) ≡ (a ++ b) ++ c
right2 a b c = sym (append_assoc a b c)

-- ---- expressions

-- an expression that the printed text spells
abbrev pub IsPrintable : WrittenExpr → Type 0
IsPrintable (Named name) = IsPlain name
IsPrintable (Constant size radix digits) = IsSize size × (radix ≡ 10) × IsNumeral 10 digits
IsPrintable (BitOf name place) = ⊥
IsPrintable (PartOf name high low) = IsPlain name × IsSize high × IsSize low
IsPrintable (WordOf name address) = IsPlain name × IsPrintable address
IsPrintable (Braces parts) = IsPrintable parts
IsPrintable (Parts first rest) = IsPrintable first × IsPrintable rest
IsPrintable (Parens inner) = IsPrintable inner
IsPrintable (Prefix BitNot arg) = IsPrintable arg
IsPrintable (Prefix LogicalNot arg) = ⊥
IsPrintable (Infix op left right) = IsPrintable left × IsPrintable right
IsPrintable (Conditional test yes' no') = IsPrintable test × IsPrintable yes' × IsPrintable no'

infix-closes : (op : InfixOp) → Closes (infix_text op) (infix_token op ∷ [])
infix-closes Times = closer _ _ (λ w. refl) (λ n. refl) (λ n ds. refl) refl
infix-closes Added = closer _ _ (λ w. refl) (λ n. refl) (λ n ds. refl) refl
infix-closes Subtracted = closer _ _ (λ w. refl) (λ n. refl) (λ n ds. refl) refl
infix-closes Below = closer _ _ (λ w. refl) (λ n. refl) (λ n ds. refl) refl
infix-closes AtMost = closer _ _ (λ w. refl) (λ n. refl) (λ n ds. refl) refl
infix-closes Above = closer _ _ (λ w. refl) (λ n. refl) (λ n ds. refl) refl
infix-closes AtLeast = closer _ _ (λ w. refl) (λ n. refl) (λ n ds. refl) refl
infix-closes Equal = closer _ _ (λ w. refl) (λ n. refl) (λ n ds. refl) refl
infix-closes NotEqual = closer _ _ (λ w. refl) (λ n. refl) (λ n ds. refl) refl
infix-closes BitAnd = closer _ _ (λ w. refl) (λ n. refl) (λ n ds. refl) refl
infix-closes BitXor = closer _ _ (λ w. refl) (λ n. refl) (λ n ds. refl) refl
infix-closes BitOr = closer _ _ (λ w. refl) (λ n. refl) (λ n ds. refl) refl
infix-closes LogicalAnd = closer _ _ (λ w. refl) (λ n. refl) (λ n ds. refl) refl
infix-closes LogicalOr = closer _ _ (λ w. refl) (λ n. refl) (λ n ds. refl) refl

question : Closes (codes " ? ") (Mark Question ∷ [])
question = closer _ _ (λ w. refl) (λ n. refl) (λ n ds. refl) refl

otherwise : Closes (codes " : ") (Mark Colon ∷ [])
otherwise = closer _ _ (λ w. refl) (λ n. refl) (λ n ds. refl) refl

to_low : Closes (codes ":") (Mark Colon ∷ [])
to_low = closer _ _ (λ w. refl) (λ n. refl) (λ n ds. refl) refl

comma : Closes (codes ", ") (Mark Comma ∷ [])
comma = closer _ _ (λ w. refl) (λ n. refl) (λ n ds. refl) refl

opens : Closes (codes "[") (Mark OpenBracket ∷ [])
opens = closer _ _ (λ w. refl) (λ n. refl) (λ n ds. refl) refl

shuts : Closes (codes "]") (Mark CloseBracket ∷ [])
shuts = closer _ _ (λ w. refl) (λ n. refl) (λ n ds. refl) refl

brace : Closes (codes "}") (Mark CloseBrace ∷ [])
brace = closer _ _ (λ w. refl) (λ n. refl) (λ n ds. refl) refl

paren : Closes (codes ")") (Mark CloseParen ∷ [])
paren = closer _ _ (λ w. refl) (λ n. refl) (λ n ds. refl) refl

paren_blank : Closes (codes ") ") (Mark CloseParen ∷ [])
paren_blank = closer _ _ (λ w. refl) (λ n. refl) (λ n ds. refl) refl

paren_line : Closes (codes ")\n        ") (Mark CloseParen ∷ [])
paren_line = closer _ _ (λ w. refl) (λ n. refl) (λ n ds. refl) refl

line : Closes (codes ";\n") (Mark Semicolon ∷ [])
line = closer _ _ (λ w. refl) (λ n. refl) (λ n ds. refl) refl

arrow : Closes (codes " <= ") (Mark LessEquals ∷ [])
arrow = closer _ _ (λ w. refl) (λ n. refl) (λ n ds. refl) refl

word_arrow : Closes (codes "] <= ") (Mark CloseBracket ∷ Mark LessEquals ∷ [])
word_arrow = closer _ _ (λ w. refl) (λ n. refl) (λ n ds. refl) refl

gets : Closes (codes " = ") (Mark Equals ∷ [])
gets = closer _ _ (λ w. refl) (λ n. refl) (λ n ds. refl) refl

range_end : Closes (codes ":0] ") (Mark Colon ∷ Number zero_digit ∷ Mark CloseBracket ∷ [])
range_end = closer _ _ (λ w. refl) (λ n. refl) (λ n ds. refl) refl

words_begin : Closes (codes " [0:") (Mark OpenBracket ∷ Number zero_digit ∷ Mark Colon ∷ [])
words_begin = closer _ _ (λ w. refl) (λ n. refl) (λ n ds. refl) refl

words_end : Closes (codes "];\n") (Mark CloseBracket ∷ Mark Semicolon ∷ [])
words_end = closer _ _ (λ w. refl) (λ n. refl) (λ n ds. refl) refl

ports_end : Closes (codes "\n);\n") (Mark CloseParen ∷ Mark Semicolon ∷ [])
ports_end = closer _ _ (λ w. refl) (λ n. refl) (λ n ds. refl) refl

next_port : Closes (codes ",") (Mark Comma ∷ [])
next_port = closer _ _ (λ w. refl) (λ n. refl) (λ n ds. refl) refl

-- an expression, and what ends it
pub expr-reads : (e : WrittenExpr) (rest : List ℕ) (x : List Token) → IsPrintable e → Closes rest x → Reads (expr_text e ++ rest) (spell_expr e ++ x)
expr-reads (Named name) rest x h c = plain-reads name rest x h c.word
expr-reads (Constant size radix digits) rest x h c =
    moved _ _ _ _ (right3 size (codes "'d") digits rest) (ap (λ (r : ℕ). Sized size r digits ∷ x) (sym h.1)) (literal-reads size digits rest x h.0 h.2 c.digits)
expr-reads (BitOf name place) rest x h c = absurd h
expr-reads (PartOf name high low) rest x h c =
    let l = number-reads low (codes "]" ++ rest) (Mark CloseBracket ∷ x) h.2 (closes_on (codes "]") rest (Mark CloseBracket ∷ []) x shuts c.between).number in
    let m = number-reads high (codes ":" ++ (low ++ (codes "]" ++ rest))) (Mark Colon ∷ Number low ∷ Mark CloseBracket ∷ x) h.1 (closes_on (codes ":") _ (Mark Colon ∷ []) _ to_low l).number in
    let n = plain-reads name (codes "[" ++ (high ++ (codes ":" ++ (low ++ (codes "]" ++ rest))))) (Mark OpenBracket ∷ Number high ∷ Mark Colon ∷ Number low ∷ Mark CloseBracket ∷ x) h.0 (closes_on (codes "[") _ (Mark OpenBracket ∷ []) _ opens m).word in
    moved _ _ _ _ (right5 name (codes "[") high (codes ":") low (codes "]" ++ rest) ∙ sym (append_assoc (name ++ codes "[" ++ high ++ codes ":" ++ low) (codes "]") rest)) refl n
expr-reads (WordOf name address) rest x h c =
    let a = expr-reads address (codes "]" ++ rest) (Mark CloseBracket ∷ x) h.1 (closes_on (codes "]") rest (Mark CloseBracket ∷ []) x shuts c.between) in
    let n = plain-reads name (codes "[" ++ (expr_text address ++ (codes "]" ++ rest))) (Mark OpenBracket ∷ (spell_expr address ++ Mark CloseBracket ∷ x)) h.0 (closes_on (codes "[") _ (Mark OpenBracket ∷ []) _ opens a).word in
    moved _ _ _ _ (right4 name (codes "[") (expr_text address) (codes "]") rest) (ap (λ (ts : List Token). Name name ∷ Mark OpenBracket ∷ ts) (right2 (spell_expr address) (Mark CloseBracket ∷ []) x)) n
expr-reads (Braces parts) rest x h c =
    let a = expr-reads parts (codes "}" ++ rest) (Mark CloseBrace ∷ x) h (closes_on (codes "}") rest (Mark CloseBrace ∷ []) x brace c.between) in
    moved _ _ _ _ (right3 (codes "{") (expr_text parts) (codes "}") rest) (ap (λ (ts : List Token). Mark OpenBrace ∷ ts) (right2 (spell_expr parts) (Mark CloseBrace ∷ []) x)) (reads_on (codes "{") _ (Mark OpenBrace ∷ []) _ (record { is = refl }) a)
expr-reads (Parts first others) rest x h c =
    let b = expr-reads others rest x h.1 c in
    let a = expr-reads first (codes ", " ++ (expr_text others ++ rest)) (Mark Comma ∷ (spell_expr others ++ x)) h.0 (closes_on (codes ", ") _ (Mark Comma ∷ []) _ comma b) in
    moved _ _ _ _ (right3 (expr_text first) (codes ", ") (expr_text others) rest) (right2 (spell_expr first) (Mark Comma ∷ spell_expr others) x) a
expr-reads (Parens inner) rest x h c =
    let a = expr-reads inner (codes ")" ++ rest) (Mark CloseParen ∷ x) h (closes_on (codes ")") rest (Mark CloseParen ∷ []) x paren c.between) in
    moved _ _ _ _ (right3 (codes "(") (expr_text inner) (codes ")") rest) (ap (λ (ts : List Token). Mark OpenParen ∷ ts) (right2 (spell_expr inner) (Mark CloseParen ∷ []) x)) (reads_on (codes "(") _ (Mark OpenParen ∷ []) _ (record { is = refl }) a)
expr-reads (Prefix BitNot arg) rest x h c = reads_on (codes "~") _ (Mark Tilde ∷ []) _ (record { is = refl }) (expr-reads arg rest x h c)
expr-reads (Prefix LogicalNot arg) rest x h c = absurd h
expr-reads (Infix op left right) rest x h c =
    let b = expr-reads right rest x h.1 c in
    let a = expr-reads left (infix_text op ++ (expr_text right ++ rest)) (infix_token op ∷ (spell_expr right ++ x)) h.0 (closes_on (infix_text op) _ (infix_token op ∷ []) _ (infix-closes op) b) in
    moved _ _ _ _ (right3 (expr_text left) (infix_text op) (expr_text right) rest) (right2 (spell_expr left) (infix_token op ∷ spell_expr right) x) a
expr-reads (Conditional test yes' no') rest x h c =
    let n = expr-reads no' rest x h.2 c in
    let y = expr-reads yes' (codes " : " ++ (expr_text no' ++ rest)) (Mark Colon ∷ (spell_expr no' ++ x)) h.1 (closes_on (codes " : ") _ (Mark Colon ∷ []) _ otherwise n) in
    let t = expr-reads test (codes " ? " ++ (expr_text yes' ++ (codes " : " ++ (expr_text no' ++ rest)))) (Mark Question ∷ (spell_expr yes' ++ Mark Colon ∷ (spell_expr no' ++ x))) h.0 (closes_on (codes " ? ") _ (Mark Question ∷ []) _ question y) in
    moved _ _ _ _ (right5 (expr_text test) (codes " ? ") (expr_text yes') (codes " : ") (expr_text no') rest)
    (ap (λ (ts : List Token). spell_expr test ++ Mark Question ∷ ts) (right2 (spell_expr yes') (Mark Colon ∷ spell_expr no') x) ∙ right2 (spell_expr test) (Mark Question ∷ (spell_expr yes' ++ Mark Colon ∷ spell_expr no')) x) t

-- ---- statements

abbrev pub CanPrint : WrittenStatement → Type 0
CanPrint (Update target value) = IsPlain target × IsPrintable value
CanPrint (UpdateWord target address value) = IsPlain target × IsPrintable address × IsPrintable value
CanPrint (IfThen test yes') = IsPrintable test × CanPrint yes'
CanPrint (IfElse test yes' no') = IsPrintable test × CanPrint yes' × CanPrint no'
CanPrint (Block statements) = CanPrint statements
CanPrint (Listed first rest) = CanPrint first × CanPrint rest
CanPrint Ended = Unit {0}

-- a value and the end of its line
valued : (e : WrittenExpr) → IsPrintable e → Reads (expr_text e ++ codes ";\n") (spell_expr e ++ Mark Semicolon ∷ [])
valued e h = expr-reads e (codes ";\n") (Mark Semicolon ∷ []) h line

tested : (e : WrittenExpr) (b : List ℕ) (y : List Token) → IsPrintable e → Reads b y → Reads (codes "if (" ++ (expr_text e ++ (codes ") " ++ b))) (Reserved IfWord ∷ Mark OpenParen ∷ (spell_expr e ++ Mark CloseParen ∷ y))
tested e b y h r = reads_on (codes "if (") _ (Reserved IfWord ∷ Mark OpenParen ∷ []) _ (record { is = refl }) (expr-reads e (codes ") " ++ b) (Mark CloseParen ∷ y) h (closes_on (codes ") ") b (Mark CloseParen ∷ []) y paren_blank r))

pub statement-reads : (s : WrittenStatement) → CanPrint s → Reads (statement_text s) (spell_statement s)
statement-reads (Update target value) h =
    moved _ _ _ _ (right3 target (codes " <= ") (expr_text value) (codes ";\n")) refl
    (plain-reads target (codes " <= " ++ (expr_text value ++ codes ";\n")) (Mark LessEquals ∷ (spell_expr value ++ Mark Semicolon ∷ [])) h.0 (closes_on (codes " <= ") _ (Mark LessEquals ∷ []) _ arrow (valued value h.1)).word)
statement-reads (UpdateWord target address value) h =
    let a = expr-reads address (codes "] <= " ++ (expr_text value ++ codes ";\n")) (Mark CloseBracket ∷ Mark LessEquals ∷ (spell_expr value ++ Mark Semicolon ∷ [])) h.1 (closes_on (codes "] <= ") _ (Mark CloseBracket ∷ Mark LessEquals ∷ []) _ word_arrow (valued value h.2)) in
    moved _ _ _ _ (right5 target (codes "[") (expr_text address) (codes "] <= ") (expr_text value) (codes ";\n")) refl
    (plain-reads target (codes "[" ++ (expr_text address ++ (codes "] <= " ++ (expr_text value ++ codes ";\n")))) _ h.0 (closes_on (codes "[") _ (Mark OpenBracket ∷ []) _ opens a).word)
statement-reads (IfThen test yes') h =
    moved _ _ _ _ (right3 (codes "if (") (expr_text test) (codes ") ") (statement_text yes')) refl (tested test (statement_text yes') (spell_statement yes') h.0 (statement-reads yes' h.1))
statement-reads (IfElse test yes' no') h =
    let n = reads_on (codes "        else ") (statement_text no') (Reserved ElseWord ∷ []) (spell_statement no') (record { is = refl }) (statement-reads no' h.2) in
    let y = reads_on (statement_text yes') (codes "        else " ++ statement_text no') _ _ (statement-reads yes' h.1) n in
    moved _ _ _ _ (right5 (codes "if (") (expr_text test) (codes ") ") (statement_text yes') (codes "        else ") (statement_text no')) refl (tested test _ _ h.0 y)
statement-reads (Block statements) h =
    moved _ _ _ _ (right2 (codes "begin ") (statement_text statements) (codes "end\n")) refl
    (reads_on (codes "begin ") _ (Reserved BeginWord ∷ []) _ (record { is = refl }) (reads_on (statement_text statements) (codes "end\n") _ (Reserved EndWord ∷ []) (statement-reads statements h) (record { is = refl })))
statement-reads (Listed first rest) h = reads_on _ _ _ _ (statement-reads first h.0) (statement-reads rest h.1)
statement-reads Ended h = record { is = refl }

-- ---- ranges, names, items

abbrev pub IsRange : Range → Type 0
IsRange None = Unit {0}
IsRange (Some high) = IsSize high

range-reads : (r : Range) → IsRange r → Reads (range_text r) (spell_range r)
range-reads None h = record { is = refl }
range-reads (Some high) h =
    moved _ _ _ _ (right2 (codes "[") high (codes ":0] ")) refl (reads_on (codes "[") _ (Mark OpenBracket ∷ []) _ (record { is = refl }) (number-reads high (codes ":0] ") _ h range_end.number))

names-read : (n : List ℕ) (ns : List (List ℕ)) (rest : List ℕ) (x : List Token) → IsPlain n → AllByRecursion IsPlain ns → Closes rest x → Reads (names_behind n ns ++ rest) (Name n ∷ (spell_more_names ns ++ x))
names-read n [] rest x h a c = plain-reads n rest x h c.word
names-read n (m ∷ ms) rest x h a c =
    let r = names-read m ms rest x a.0 a.1 c in
    moved _ _ _ _ (right3 n (codes ", ") (names_behind m ms) rest) refl (plain-reads n (codes ", " ++ (names_behind m ms ++ rest)) _ h (closes_on (codes ", ") _ (Mark Comma ∷ []) _ comma r).word)

abbrev pub AreNames : List (List ℕ) → Type 0
AreNames [] = ⊥
AreNames (n ∷ ns) = IsPlain n × AllByRecursion IsPlain ns

-- an item that the printed text spells
abbrev pub IsPrinted : WrittenItem → Type 0
IsPrinted (Wires range names) = IsRange range × AreNames names
IsPrinted (Registers range names) = IsRange range × AreNames names
IsPrinted (MemoryOf range name last) = IsRange range × IsPlain name × IsSize last
IsPrinted (Assign target value) = IsPlain target × IsPrintable value
IsPrinted (Always clock body) = IsPlain clock × CanPrint body

declared : (names : List (List ℕ)) → AreNames names → Reads (names_text names ++ codes ";\n") (spell_names names ++ Mark Semicolon ∷ [])
declared [] h = absurd h
declared (n ∷ ns) h = names-read n ns (codes ";\n") (Mark Semicolon ∷ []) h.0 h.1 line

item-reads : (i : WrittenItem) → IsPrinted i → Reads (item_text i) (spell_item i)
unfolding always_text
item-reads (Wires range names) h =
    moved _ _ _ _ (right3 (codes "    wire ") (range_text range) (names_text names) (codes ";\n")) refl
    (reads_on (codes "    wire ") _ (Reserved WireWord ∷ []) _ (record { is = refl }) (reads_on (range_text range) _ (spell_range range) _ (range-reads range h.0) (declared names h.1)))
item-reads (Registers range names) h =
    moved _ _ _ _ (right3 (codes "    reg ") (range_text range) (names_text names) (codes ";\n")) refl
    (reads_on (codes "    reg ") _ (Reserved RegWord ∷ []) _ (record { is = refl }) (reads_on (range_text range) _ (spell_range range) _ (range-reads range h.0) (declared names h.1)))
item-reads (MemoryOf range name last) h =
    let l = number-reads last (codes "];\n") (Mark CloseBracket ∷ Mark Semicolon ∷ []) h.2 words_end.number in
    let n = plain-reads name (codes " [0:" ++ (last ++ codes "];\n")) (Mark OpenBracket ∷ Number zero_digit ∷ Mark Colon ∷ Number last ∷ Mark CloseBracket ∷ Mark Semicolon ∷ []) h.1 (closes_on (codes " [0:") _ (Mark OpenBracket ∷ Number zero_digit ∷ Mark Colon ∷ []) _ words_begin l).word in
    moved _ _ _ _ (right5 (codes "    reg ") (range_text range) name (codes " [0:") last (codes "];\n")) refl
    (reads_on (codes "    reg ") _ (Reserved RegWord ∷ []) _ (record { is = refl }) (reads_on (range_text range) _ (spell_range range) _ (range-reads range h.0) n))
item-reads (Assign target value) h =
    moved _ _ _ _ (right4 (codes "    assign ") target (codes " = ") (expr_text value) (codes ";\n")) refl
    (reads_on (codes "    assign ") _ (Reserved AssignWord ∷ []) _ (record { is = refl }) (plain-reads target (codes " = " ++ (expr_text value ++ codes ";\n")) _ h.0 (closes_on (codes " = ") _ (Mark Equals ∷ []) _ gets (valued value h.1)).word))
item-reads (Always clock body) h =
    moved _ _ _ _ (right3 (codes "    always @(posedge ") clock (codes ")\n        ") (statement_text body)) refl
    (reads_on (codes "    always @(posedge ") _ (Reserved AlwaysWord ∷ Mark At ∷ Mark OpenParen ∷ Reserved PosedgeWord ∷ []) _ (record { is = refl })
    (plain-reads clock (codes ")\n        " ++ statement_text body) _ h.0 (closes_on (codes ")\n        ") _ (Mark CloseParen ∷ []) _ paren_line (statement-reads body h.1)).word))

-- the items of lines
abbrev pub items_in : List Line → List WrittenItem
items_in [] = []
items_in (l ∷ ls) = l.item ∷ items_in ls

pub lines-read : (ls : List Line) → AllByRecursion IsPrinted (items_in ls) → Reads (lines_text ls) (spell_items (items_in ls))
lines-read [] h = record { is = refl }
lines-read (l ∷ ls) h =
    reads_on (line_text l) (lines_text ls) _ _ (reads_on (heading_text l.above) (item_text l.item) [] _ (heading-reads l.above) (item-reads l.item h.0)) (lines-read ls h.1)

-- ---- ports

pub record IsPrintedPort (p : WrittenPort) : Type 0 where
  pub range : IsRange p.range
  pub name : IsPlain p.name

direction-reads : (d : Direction) → Reads (direction_text d) (spell_direction d)
unfolding direction_text
direction-reads In = record { is = refl }
direction-reads InWire = record { is = refl }
direction-reads Out = record { is = refl }
direction-reads OutWire = record { is = refl }
direction-reads OutReg = record { is = refl }

port-reads : (p : WrittenPort) (rest : List ℕ) (x : List Token) → IsPrintedPort p → Closes rest x → Reads (port_text p ++ rest) (spell_port p ++ x)
port-reads p rest x h c =
    moved _ _ _ _ (right3 (direction_text p.direction) (range_text p.range) p.name rest)
    (ap (λ (ts : List Token). spell_direction p.direction ++ ts) (right2 (spell_range p.range) (Name p.name ∷ []) x) ∙ right2 (spell_direction p.direction) (spell_range p.range ++ Name p.name ∷ []) x)
    (reads_on (direction_text p.direction) _ (spell_direction p.direction) _ (direction-reads p.direction) (reads_on (range_text p.range) _ (spell_range p.range) _ (range-reads p.range h.range) (plain-reads p.name rest x h.name c.word)))

more-close : (ps : List WrittenPort) → AllByRecursion IsPrintedPort ps → Closes (more_ports_text ps ++ codes "\n);\n") (spell_more_ports ps ++ Mark CloseParen ∷ Mark Semicolon ∷ [])
more-close [] h = ports_end
more-close (p ∷ ps) h =
    let r = port-reads p _ _ h.0 (more-close ps h.1) in
    let e = right2 (port_text p) (more_ports_text ps) (codes "\n);\n") in
    let f = right2 (spell_port p) (spell_more_ports ps) (Mark CloseParen ∷ Mark Semicolon ∷ []) in
    closes_on (codes ",") _ (Mark Comma ∷ []) _ next_port (moved _ _ _ _ e f r)

ports-read : (ps : List WrittenPort) → AllByRecursion IsPrintedPort ps → Reads (ports_text ps ++ codes "\n);\n") (spell_ports ps ++ Mark CloseParen ∷ Mark Semicolon ∷ [])
ports-read [] h = ports_end.between
ports-read (p ∷ ps) h =
    moved _ _ _ _ (right2 (port_text p) (more_ports_text ps) (codes "\n);\n")) (right2 (spell_port p) (spell_more_ports ps) (Mark CloseParen ∷ Mark Semicolon ∷ [])) (port-reads p _ _ h.0 (more-close ps h.1))

-- ---- the module

pub record IsPrintedModule (m : WrittenModule) : Type 0 where
  pub name : IsPlain m.name
  pub ports : AllByRecursion IsPrintedPort m.ports

paren_open : Closes (codes "(") (Mark OpenParen ∷ [])
paren_open = closer _ _ (λ w. refl) (λ n. refl) (λ n ds. refl) refl

head-reads : (m : WrittenModule) → IsPrintedModule m → Reads (head_text m) (Reserved ModuleWord ∷ Name m.name ∷ Mark OpenParen ∷ (spell_ports m.ports ++ Mark CloseParen ∷ Mark Semicolon ∷ []))
unfolding head_text
head-reads m h =
    let p = ports-read m.ports h.ports in
    let n = plain-reads m.name (codes "(" ++ (ports_text m.ports ++ codes "\n);\n")) (Mark OpenParen ∷ (spell_ports m.ports ++ Mark CloseParen ∷ Mark Semicolon ∷ [])) h.name (closes_on (codes "(") _ (Mark OpenParen ∷ []) _ paren_open p).word in
    moved _ _ _ _ (right4 (codes "module ") m.name (codes "(") (ports_text m.ports) (codes "\n);\n")) refl (reads_on (codes "module ") _ (Reserved ModuleWord ∷ []) _ (record { is = refl }) n)

pub module-spelled : (m : WrittenModule) (front body : List ℕ) → IsPrintedModule m → Reads front [] → Reads body (spell_items m.items) → tokens_of (front ++ (head_text m ++ body ++ end_text)) ≡ spell m
module-spelled m front body h f b =
    let i = reads_on body end_text (spell_items m.items) (Reserved EndModuleWord ∷ []) b (record { is = refl }) in
    let a = reads_on (head_text m) _ _ _ (head-reads m h) i in
    let all : Reads (head_text m ++ body ++ end_text) (spell m) =
    moved _ _ _ _ (right2 (head_text m) body end_text)
    (ap (λ (ts : List Token). Reserved ModuleWord ∷ Name m.name ∷ Mark OpenParen ∷ ts) (append_assoc (spell_ports m.ports) (Mark CloseParen ∷ Mark Semicolon ∷ []) (spell_items m.items ++ Reserved EndModuleWord ∷ []))) a in
    reads_all (front ++ (head_text m ++ body ++ end_text)) (spell m) (reads_on front _ [] (spell m) f all)
