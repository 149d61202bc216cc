-- An expression is judged by its demands, and what is judged is what it means.
use Rattle.std.proofs.Common.{◌≡◌, ℕ, ◌+◌, ◌-◌, Bool, true, false, List, [], ◌∷◌, ◌++◌, length, Option, Some, Ok, refl, sym, ap, subst, ◌∙◌, arith, inl, inr, append_assoc, length-append}
use Rattle.std.specs.Prelude.{◌&&◌, ◌||◌, not, nat_eq, nat_le, nat_lt, option_map, option_and_then}
use Rattle.std.proofs.lemmas.Bool.{eqb-true, not-true, and_parts}
use Rattle.std.proofs.lemmas.List.{append-nil}
use Rattle.gl_verilog.specs.Tokens.{Mark, CloseBracket, CloseBrace, CloseParen, Comma, Question, Colon, number_in}
use Rattle.gl_verilog.specs.Written.{PrefixOp, BitNot, LogicalNot, InfixOp, Times, Added, Subtracted, Below, AtMost, Above, AtLeast, Equal, NotEqual, BitAnd, BitXor, BitOr, LogicalAnd, LogicalOr, WrittenExpr, Named, Constant, BitOf, PartOf, WordOf, Braces, Parts, Parens, Prefix, Infix, Conditional, spell_expr, infix_token}
use Rattle.gl_verilog.specs.Module.{Declaration, Expr, Net, Literal, Invert, Binary, Choose, Join, Select, Read}
use Rattle.gl_verilog.specs.Widths.{width_at, width_after, width_of}
use Rattle.gl_verilog.specs.Resolve.{both, three, number_read, decimal_number, prefixed, infixed, joined as joint, resolve_expr, is_so, is_memory, is_memory_kind}
use Rattle.gl_verilog_faults.specs.Demands.{Demand, ask, Undeclared, ClockRead, BadMemory, WidthsDiffer, TooWide, is_declared, is_clock_name, address_of, address_kind, takes_bits, bits_named, bits_in, of_name, of_select, takes_prefix, of_expr}
use Rattle.gl_verilog_faults.proofs.Names.{Seen, Looked, look, so_by, bits_by}
use Rattle.gl_verilog_elaborator.specs.Judged.{then', asks, or_breaks, Known, known_as, known_at, known, named, read, Typed, typed, closed, judged_net, judged_literal, judged_select, judged_memory, judged_word, judged_braces, joined, judged_prefix, op_meant, infix_width, judged_infix, judged_choice, judged_expr}
use Rattle.gl_verilog_elaborator.proofs.Demanded.{Is, is_then, is_ask, is_ask_as, is_as}

-- ---- names

-- what is known of a name is what it is declared as
pub record IsKnown (ds : List Declaration) (name : List ℕ) (k : Known) : Type 0 where
  pub n : ℕ
  pub d : Declaration
  pub seen : Seen ds name n d
  pub same : k ≡ known_as n d

known_seen : (ds : List Declaration) (name : List ℕ) (n : ℕ) (d : Declaration) → Seen ds name n d → known ds name ≡ Some (known_as n d)
known_seen ds name n d s = ap (option_and_then (known_at ds)) s.number ∙ ap (option_map (known_as n)) s.at

named_by : (ds : List Declaration) (name : List ℕ) (k : ℕ) → Looked ds name → Is (ask Undeclared k (is_declared ds name) ∷ []) (IsKnown ds name) (named ds k name)
named_by ds name k (inl u) = rw (u.number, u.declared) refl
named_by ds name k (inr s) =
    subst (λ (o : Option Known). Is (ask Undeclared k (is_declared ds name) ∷ []) (IsKnown ds name) (or_breaks Undeclared k o)) (sym (known_seen ds name s.0 s.1 s.2))
    (((let e : is_declared ds name ≡ true = rw s.2.declared refl in e), tt), record { n = s.0; d = s.1; seen = s.2; same = refl })

pub named_is : (ds : List Declaration) (name : List ℕ) (k : ℕ) → Is (ask Undeclared k (is_declared ds name) ∷ []) (IsKnown ds name) (named ds k name)
named_is ds name k = named_by ds name k (look ds name)

-- and it is not the clock
pub record IsRead (ds : List Declaration) (name : List ℕ) (k : Known) : Type 0 where
  pub known' : IsKnown ds name k
  pub clock : is_clock_name name ≡ false

read_is : (ds : List Declaration) (name : List ℕ) (k : ℕ) → Is (of_name ds k name) (IsRead ds name) (read ds k name)
read_is ds name k =
    is_then (ask Undeclared k (is_declared ds name) ∷ []) (ask ClockRead k (not (is_clock_name name)) ∷ []) (IsKnown ds name) (IsRead ds name) (named ds k name) (λ d. asks ClockRead k (not (is_clock_name name)) (Ok d)) (named_is ds name k) (λ d h.
    is_ask ClockRead k (not (is_clock_name name)) [] (IsRead ds name) (Ok d) (λ c. (tt, record { known' = h; clock = not-true (is_clock_name name) c })))

number_of_read : (ds : List Declaration) (name : List ℕ) (k : Known) (r : IsRead ds name k) → number_read ds name ≡ Some r.known'.n
number_of_read ds name k r = rw r.clock r.known'.seen.number

-- a test of what is known is a test of the name
pub kind_so : (ds : List Declaration) (name : List ℕ) (k : Known) (h : IsKnown ds name k) → is_so is_memory ds name ≡ is_memory_kind k.kind
kind_so ds name k h = so_by is_memory ds name h.n h.d h.seen ∙ ap (λ (x : Known). is_memory_kind x.kind) (sym h.same)

pub width_known : (ds : List Declaration) (name : List ℕ) (k : Known) (h : IsKnown ds name k) → k.width ≡ bits_named ds name
width_known ds name k h = ap (λ (x : Known). x.width) h.same ∙ sym (bits_by ds name h.n h.d h.seen)

pub number_known : (ds : List Declaration) (name : List ℕ) (k : Known) (h : IsKnown ds name k) → k.number ≡ h.n
number_known ds name k h = ap (λ (x : Known). x.number) h.same

width_there : (ds : List Declaration) (name : List ℕ) (k : Known) (h : IsKnown ds name k) → width_at ds k.number ≡ k.width
width_there ds name k h = rw (number_known ds name k h, h.seen.at) (ap (λ (x : Known). x.width) (sym h.same))

-- ---- what is judged is what is meant

pub record Means (ds : List Declaration) (k : ℕ) (e : WrittenExpr) (t : Typed) : Type 0 where
  pub meant : resolve_expr ds e ≡ Some t.expr
  pub width : t.width ≡ bits_in ds e
  pub wide : width_of ds t.expr ≡ t.width
  pub end' : t.end ≡ k + length (spell_expr e)

-- ---- names and literals

net_is : (ds : List Declaration) (k : ℕ) (name : List ℕ) → Is (of_expr ds k (Named name)) (Means ds k (Named name)) (judged_net ds k name)
net_is ds k name = is_then (of_name ds k name) (ask BadMemory k (not (is_so is_memory ds name)) ∷ []) (IsRead ds name) (Means ds k (Named name)) (read ds k name) (λ d. asks BadMemory k (not (is_memory_kind d.kind)) (Ok (typed (Net d.number) d.width (k + 1)))) (read_is ds name k) (λ d r.
    is_ask_as BadMemory k (not (is_memory_kind d.kind)) (not (is_so is_memory ds name)) [] (Means ds k (Named name)) (Ok (typed (Net d.number) d.width (k + 1))) (ap not (kind_so ds name d r.known')) (λ m. (
      tt,
      record {
        meant = ap (option_map Net) (number_of_read ds name d r) ∙ ap (λ (n : ℕ). Some (Net n)) (sym (number_known ds name d r.known'));
        width = width_known ds name d r.known';
        wide = width_there ds name d r.known';
        end' = refl;
      },
    )))

literal_is : (ds : List Declaration) (k : ℕ) (size : List ℕ) (radix : ℕ) (digits : List ℕ) → Is (of_expr ds k (Constant size radix digits)) (Means ds k (Constant size radix digits)) (judged_literal k size radix digits)
literal_is ds k size radix digits =
    is_ask WidthsDiffer k _ (ask TooWide k (nat_le (decimal_number size) 128) ∷ []) (Means ds k (Constant size radix digits)) (asks TooWide k (nat_le (decimal_number size) 128) (Ok (typed (Literal (number_in radix digits) (decimal_number size)) (decimal_number size) (k + 1)))) (λ a.
    is_ask TooWide k _ [] (Means ds k (Constant size radix digits)) (Ok (typed (Literal (number_in radix digits) (decimal_number size)) (decimal_number size) (k + 1))) (λ b. (tt, record { meant = refl; width = refl; wide = refl; end' = refl })))

-- a select from one place to another, as a bit or as a part
module _ (ds : List Declaration) (k : ℕ) (name : List ℕ) (high low end' : ℕ) (e : WrittenExpr) (meant : resolve_expr ds e ≡ option_map (Select high low) (number_read ds name)) (wide : bits_in ds e ≡ high + 1 - low) (size : end' ≡ k + length (spell_expr e)) where
  select_is : Is (of_select ds k name high low) (Means ds k e) (judged_select ds k name high low end')
  select_is = is_then (of_name ds k name) (ask BadMemory k (not (is_so is_memory ds name)) ∷ ask WidthsDiffer k (is_so (λ d. d.is_vector && (nat_le low high && nat_lt high d.width)) ds name) ∷ []) (IsRead ds name) (Means ds k e) (read ds k name) (λ d. asks BadMemory k (not (is_memory_kind d.kind)) (asks WidthsDiffer k (d.is_vector && (nat_le low high && nat_lt high d.width)) (Ok (typed (Select high low d.number) (high + 1 - low) end')))) (read_is ds name k) (λ d r.
      is_ask_as BadMemory k (not (is_memory_kind d.kind)) (not (is_so is_memory ds name)) (ask WidthsDiffer k (is_so (λ d. d.is_vector && (nat_le low high && nat_lt high d.width)) ds name) ∷ []) (Means ds k e) _ (ap not (kind_so ds name d r.known')) (λ m.
      is_ask_as WidthsDiffer k (d.is_vector && (nat_le low high && nat_lt high d.width)) (is_so (λ d. d.is_vector && (nat_le low high && nat_lt high d.width)) ds name) [] (Means ds k e) _
      (so_by (λ d. d.is_vector && (nat_le low high && nat_lt high d.width)) ds name r.known'.n r.known'.d r.known'.seen ∙ ap (λ (x : Known). x.is_vector && (nat_le low high && nat_lt high x.width)) (sym r.known'.same)) (λ w. (
        tt,
        record {
          meant = meant ∙ ap (option_map (Select high low)) (number_of_read ds name d r) ∙ ap (λ (n : ℕ). Some (Select high low n)) (sym (number_known ds name d r.known'));
          width = sym wide;
          wide = refl;
          end' = size;
        },
      ))))

one_bit : (n : ℕ) → 1 ≡ n + 1 - n
one_bit n = omega arith

-- ---- operators

-- the operator, and its operands' width, where they are one bit for a logical one
infixed_as : (ds : List Declaration) (op : InfixOp) (x y : Expr) (w : ℕ) → width_of ds x ≡ w → (takes_bits op ≡ true → w ≡ 1) → infixed ds op x y ≡ Binary (op_meant op) w x y
infixed_as ds Times x y w e h = ap (λ (n : ℕ). Binary (op_meant Times) n x y) e
infixed_as ds Added x y w e h = ap (λ (n : ℕ). Binary (op_meant Added) n x y) e
infixed_as ds Subtracted x y w e h = ap (λ (n : ℕ). Binary (op_meant Subtracted) n x y) e
infixed_as ds Below x y w e h = ap (λ (n : ℕ). Binary (op_meant Below) n x y) e
infixed_as ds AtMost x y w e h = ap (λ (n : ℕ). Binary (op_meant AtMost) n x y) e
infixed_as ds Above x y w e h = ap (λ (n : ℕ). Binary (op_meant Above) n x y) e
infixed_as ds AtLeast x y w e h = ap (λ (n : ℕ). Binary (op_meant AtLeast) n x y) e
infixed_as ds Equal x y w e h = ap (λ (n : ℕ). Binary (op_meant Equal) n x y) e
infixed_as ds NotEqual x y w e h = ap (λ (n : ℕ). Binary (op_meant NotEqual) n x y) e
infixed_as ds BitAnd x y w e h = ap (λ (n : ℕ). Binary (op_meant BitAnd) n x y) e
infixed_as ds BitXor x y w e h = ap (λ (n : ℕ). Binary (op_meant BitXor) n x y) e
infixed_as ds BitOr x y w e h = ap (λ (n : ℕ). Binary (op_meant BitOr) n x y) e
infixed_as ds LogicalAnd x y w e h = ap (λ (n : ℕ). Binary (op_meant LogicalAnd) n x y) (sym (h refl))
infixed_as ds LogicalOr x y w e h = ap (λ (n : ℕ). Binary (op_meant LogicalOr) n x y) (sym (h refl))

infix_after : (op : InfixOp) (w : ℕ) → width_after (op_meant op) w ≡ infix_width op w
infix_after Times w = refl
infix_after Added w = refl
infix_after Subtracted w = refl
infix_after Below w = refl
infix_after AtMost w = refl
infix_after Above w = refl
infix_after AtLeast w = refl
infix_after Equal w = refl
infix_after NotEqual w = refl
infix_after BitAnd w = refl
infix_after BitXor w = refl
infix_after BitOr w = refl
infix_after LogicalAnd w = refl
infix_after LogicalOr w = refl

-- a test of both widths
both_test : (op : InfixOp) (a b : ℕ) → (nat_eq a b && (not (takes_bits op) || nat_eq a 1)) ≡ true → takes_bits op ≡ true → a ≡ 1
both_test op a b h t = one (takes_bits op) t (and_parts (nat_eq a b) (not (takes_bits op) || nat_eq a 1) h).1
  where
    one : (t : Bool) → t ≡ true → (not t || nat_eq a 1) ≡ true → a ≡ 1
    one true e k = eqb-true a 1 k
    one false e k = absurd cc

prefixed_as : (ds : List Declaration) (op : PrefixOp) (x : Expr) (w : ℕ) → width_of ds x ≡ w → takes_prefix op w ≡ true → prefixed ds op x ≡ Invert w x
prefixed_as ds BitNot x w e h = ap (λ (n : ℕ). Invert n x) e
prefixed_as ds LogicalNot x w e h = ap (λ (n : ℕ). Invert n x) (sym (eqb-true w 1 h))

-- ---- all expressions

abbrev Judged : List Declaration → ℕ → WrittenExpr → Type 0
Judged ds k e = Is (of_expr ds k e) (Means ds k e) (judged_expr ds k e)

word_is : (ds : List Declaration) (k : ℕ) (name : List ℕ) (address : WrittenExpr) → Judged ds (k + 2) address → Judged ds k (WordOf name address)
word_is ds k name address h =
    is_as ((of_name ds k name ++ ask BadMemory k (is_so is_memory ds name) ∷ []) ++ back) (of_expr ds k (WordOf name address)) (Means ds k (WordOf name address)) (judged_expr ds k (WordOf name address)) refl
    (is_then (of_name ds k name ++ ask BadMemory k (is_so is_memory ds name) ∷ []) back (IsRead ds name) (Means ds k (WordOf name address)) (judged_memory ds k name) (λ d. then' (judged_expr ds (k + 2) address) (judged_word k d))
    (is_then (of_name ds k name) (ask BadMemory k (is_so is_memory ds name) ∷ []) (IsRead ds name) (IsRead ds name) (read ds k name) (λ d. asks BadMemory k (is_memory_kind d.kind) (Ok d)) (read_is ds name k) (λ d r.
    is_ask_as BadMemory k (is_memory_kind d.kind) (is_so is_memory ds name) [] (IsRead ds name) (Ok d) (kind_so ds name d r.known') (λ m. (tt, r))))
    (λ d r. is_then (of_expr ds (k + 2) address) (ask BadMemory k (is_so (λ x. nat_eq (address_of x) (bits_in ds address)) ds name) ∷ []) (Means ds (k + 2) address) (Means ds k (WordOf name address)) (judged_expr ds (k + 2) address) (judged_word k d) h (λ a m.
    is_ask_as BadMemory k (nat_eq (address_kind d.kind) a.width) (is_so (λ x. nat_eq (address_of x) (bits_in ds address)) ds name) [] (Means ds k (WordOf name address)) _ (test d r a m) (λ w. (
      tt,
      record {
        meant = ap (λ (n : Option ℕ). both Read n (resolve_expr ds address)) (number_of_read ds name d r) ∙ ap (option_map (Read r.known'.n)) m.meant ∙ ap (λ (n : ℕ). Some (Read n a.expr)) (sym (number_known ds name d r.known'));
        width = width_known ds name d r.known';
        wide = width_there ds name d r.known';
        end' = (let e : a.end ≡ k + 2 + length (spell_expr address) = m.end' in omega (arith, length-append (spell_expr address) (Mark CloseBracket ∷ [])));
      },
    )))))
  where
    back : List Demand
    back = of_expr ds (k + 2) address ++ ask BadMemory k (is_so (λ x. nat_eq (address_of x) (bits_in ds address)) ds name) ∷ []

    test : (d : Known) (r : IsRead ds name d) (a : Typed) → Means ds (k + 2) address a → is_so (λ x. nat_eq (address_of x) (bits_in ds address)) ds name ≡ nat_eq (address_kind d.kind) a.width
    test d r a m =
        so_by (λ x. nat_eq (address_of x) (bits_in ds address)) ds name r.known'.n r.known'.d r.known'.seen
        ∙ ap (λ (x : Known). nat_eq (address_kind x.kind) (bits_in ds address)) (sym r.known'.same) ∙ ap (λ (w : ℕ). nat_eq (address_kind d.kind) w) (sym m.width)

braces_is : (ds : List Declaration) (k : ℕ) (parts : WrittenExpr) → Judged ds (k + 1) parts → Judged ds k (Braces parts)
braces_is ds k parts h = is_then (of_expr ds (k + 1) parts) (ask TooWide k (nat_le (bits_in ds parts) 128) ∷ []) (Means ds (k + 1) parts) (Means ds k (Braces parts)) (judged_expr ds (k + 1) parts) (judged_braces k) h (λ t m.
    is_ask_as TooWide k (nat_le t.width 128) (nat_le (bits_in ds parts) 128) [] (Means ds k (Braces parts)) (Ok (closed t)) (ap (λ (w : ℕ). nat_le w 128) (sym m.width)) (λ w. (
      tt,
      record {
        meant = m.meant;
        width = m.width;
        wide = m.wide;
        end' = (let e : t.end ≡ k + 1 + length (spell_expr parts) = m.end' in omega (arith, length-append (spell_expr parts) (Mark CloseBrace ∷ [])));
      },
    )))

parts_is : (ds : List Declaration) (k : ℕ) (first rest : WrittenExpr) → Judged ds k first → ((n : ℕ) → Judged ds n rest) → Judged ds k (Parts first rest)
parts_is ds k first rest h g = is_then (of_expr ds k first) (of_expr ds (k + length (spell_expr first) + 1) rest) (Means ds k first) (Means ds k (Parts first rest)) (judged_expr ds k first) (λ a. then' (judged_expr ds (a.end + 1) rest) (λ b. Ok (joined a b))) h (λ a m.
    is_as (of_expr ds (a.end + 1) rest) (of_expr ds (k + length (spell_expr first) + 1) rest) (Means ds k (Parts first rest)) _ (ap (λ (n : ℕ). of_expr ds (n + 1) rest) m.end')
    (is_as (of_expr ds (a.end + 1) rest ++ []) (of_expr ds (a.end + 1) rest) (Means ds k (Parts first rest)) _ (append-nil (of_expr ds (a.end + 1) rest))
    (is_then (of_expr ds (a.end + 1) rest) [] (Means ds (a.end + 1) rest) (Means ds k (Parts first rest)) (judged_expr ds (a.end + 1) rest) (λ b. Ok (joined a b)) (g (a.end + 1)) (λ b n. (
      tt,
      record {
        meant = ap (λ (o : Option Expr). both (joint ds) o (resolve_expr ds rest)) m.meant ∙ ap (option_map (joint ds a.expr)) n.meant ∙ ap (λ (w : ℕ). Some (Join w a.expr b.expr)) n.wide;
        width = rw (m.width, n.width) refl;
        wide = rw m.wide refl;
        end' = (let e : a.end ≡ k + length (spell_expr first) = m.end' in let f : b.end ≡ a.end + 1 + length (spell_expr rest) = n.end' in omega (arith, length-append (spell_expr first) (Mark Comma ∷ spell_expr rest)));
      },
    )))))

parens_is : (ds : List Declaration) (k : ℕ) (inner : WrittenExpr) → Judged ds (k + 1) inner → Judged ds k (Parens inner)
parens_is ds k inner h =
    is_as (of_expr ds (k + 1) inner ++ []) (of_expr ds (k + 1) inner) (Means ds k (Parens inner)) _ (append-nil (of_expr ds (k + 1) inner))
    (is_then (of_expr ds (k + 1) inner) [] (Means ds (k + 1) inner) (Means ds k (Parens inner)) (judged_expr ds (k + 1) inner) (λ t. Ok (closed t)) h (λ t m. (
      tt,
      record {
        meant = m.meant;
        width = m.width;
        wide = m.wide;
        end' = (let e : t.end ≡ k + 1 + length (spell_expr inner) = m.end' in omega (arith, length-append (spell_expr inner) (Mark CloseParen ∷ [])));
      },
    )))

prefix_is : (ds : List Declaration) (k : ℕ) (op : PrefixOp) (arg : WrittenExpr) → Judged ds (k + 1) arg → Judged ds k (Prefix op arg)
prefix_is ds k op arg h = is_then (of_expr ds (k + 1) arg) (ask WidthsDiffer k (takes_prefix op (bits_in ds arg)) ∷ []) (Means ds (k + 1) arg) (Means ds k (Prefix op arg)) (judged_expr ds (k + 1) arg) (judged_prefix k op) h (λ a m.
    is_ask_as WidthsDiffer k (takes_prefix op a.width) (takes_prefix op (bits_in ds arg)) [] (Means ds k (Prefix op arg)) _ (ap (takes_prefix op) (sym m.width)) (λ t. (
      tt,
      record {
        meant = ap (option_map (prefixed ds op)) m.meant ∙ ap Some (prefixed_as ds op a.expr a.width m.wide t);
        width = m.width;
        wide = refl;
        end' = (let e : a.end ≡ k + 1 + length (spell_expr arg) = m.end' in omega arith);
      },
    )))

infix_is : (ds : List Declaration) (k : ℕ) (op : InfixOp) (left right : WrittenExpr) → Judged ds k left → ((n : ℕ) → Judged ds n right) → Judged ds k (Infix op left right)
infix_is ds k op left right h g =
    is_as (of_expr ds k left ++ (of_expr ds (k + length (spell_expr left) + 1) right ++ last (k + length (spell_expr left)))) (of_expr ds k (Infix op left right)) (Means ds k (Infix op left right)) _ (sym (append_assoc (of_expr ds k left) (of_expr ds (k + length (spell_expr left) + 1) right) (last (k + length (spell_expr left)))))
    (is_then (of_expr ds k left) (of_expr ds (k + length (spell_expr left) + 1) right ++ last (k + length (spell_expr left))) (Means ds k left) (Means ds k (Infix op left right)) (judged_expr ds k left) (λ a. then' (judged_expr ds (a.end + 1) right) (judged_infix op a)) h (λ a m.
    is_as (of_expr ds (a.end + 1) right ++ last a.end) (of_expr ds (k + length (spell_expr left) + 1) right ++ last (k + length (spell_expr left))) (Means ds k (Infix op left right)) _ (ap (λ (n : ℕ). of_expr ds (n + 1) right ++ last n) m.end')
    (is_then (of_expr ds (a.end + 1) right) (last a.end) (Means ds (a.end + 1) right) (Means ds k (Infix op left right)) (judged_expr ds (a.end + 1) right) (judged_infix op a) (g (a.end + 1)) (λ b n.
    is_ask_as WidthsDiffer a.end (nat_eq a.width b.width && (not (takes_bits op) || nat_eq a.width 1)) _ [] (Means ds k (Infix op left right)) _ (rw (m.width, n.width) refl) (λ t. (
      tt,
      record {
        meant = ap (λ (o : Option Expr). both (infixed ds op) o (resolve_expr ds right)) m.meant ∙ ap (option_map (infixed ds op a.expr)) n.meant ∙ ap Some (infixed_as ds op a.expr b.expr a.width m.wide (both_test op a.width b.width t));
        width = ap (infix_width op) m.width;
        wide = infix_after op a.width;
        end' = (let e : a.end ≡ k + length (spell_expr left) = m.end' in let f : b.end ≡ a.end + 1 + length (spell_expr right) = n.end' in omega (arith, length-append (spell_expr left) (infix_token op ∷ spell_expr right)));
      },
    ))))))
  where
    last : ℕ → List Demand
    last n = ask WidthsDiffer n (nat_eq (bits_in ds left) (bits_in ds right) && (not (takes_bits op) || nat_eq (bits_in ds left) 1)) ∷ []

choice_is : (ds : List Declaration) (k : ℕ) (test yes' no' : WrittenExpr) → Judged ds k test → ((n : ℕ) → Judged ds n yes') → ((n : ℕ) → Judged ds n no') → Judged ds k (Conditional test yes' no')
choice_is ds k test yes' no' h g i =
    is_as (of_expr ds k test ++ (of_expr ds (t1 + 1) yes' ++ (of_expr ds (t1 + length (spell_expr yes') + 2) no' ++ last t1))) (of_expr ds k (Conditional test yes' no')) (Means ds k (Conditional test yes' no')) _ shape
    (is_then (of_expr ds k test) (of_expr ds (t1 + 1) yes' ++ (of_expr ds (t1 + length (spell_expr yes') + 2) no' ++ last t1)) (Means ds k test) Q (judged_expr ds k test) (λ t. then' (judged_expr ds (t.end + 1) yes') (λ a. then' (judged_expr ds (a.end + 1) no') (judged_choice t a))) h (λ t m.
    is_as (of_expr ds (t.end + 1) yes' ++ (of_expr ds (t.end + length (spell_expr yes') + 2) no' ++ last t.end)) (of_expr ds (t1 + 1) yes' ++ (of_expr ds (t1 + length (spell_expr yes') + 2) no' ++ last t1)) Q _ (ap (λ (n : ℕ). of_expr ds (n + 1) yes' ++ (of_expr ds (n + length (spell_expr yes') + 2) no' ++ last n)) m.end')
    (is_then (of_expr ds (t.end + 1) yes') (of_expr ds (t.end + length (spell_expr yes') + 2) no' ++ last t.end) (Means ds (t.end + 1) yes') Q (judged_expr ds (t.end + 1) yes') (λ a. then' (judged_expr ds (a.end + 1) no') (judged_choice t a)) (g (t.end + 1)) (λ a n.
    is_as (of_expr ds (a.end + 1) no' ++ last t.end) (of_expr ds (t.end + length (spell_expr yes') + 2) no' ++ last t.end) Q _ (ap (λ (x : ℕ). of_expr ds x no' ++ last t.end) (let e : a.end ≡ t.end + 1 + length (spell_expr yes') = n.end' in let z : a.end + 1 ≡ t.end + length (spell_expr yes') + 2 = omega arith in z))
    (is_then (of_expr ds (a.end + 1) no') (last t.end) (Means ds (a.end + 1) no') Q (judged_expr ds (a.end + 1) no') (judged_choice t a) (i (a.end + 1)) (λ b o.
    is_ask_as WidthsDiffer t.end (nat_eq t.width 1 && nat_eq a.width b.width) _ [] Q _ (rw (m.width, n.width, o.width) refl) (λ w. (
      tt,
      record {
        meant = ap (λ (x : Option Expr). three Choose x (resolve_expr ds yes') (resolve_expr ds no')) m.meant ∙ ap (λ (x : Option Expr). both (Choose t.expr) x (resolve_expr ds no')) n.meant ∙ ap (option_map (Choose t.expr a.expr)) o.meant;
        width = n.width;
        wide = n.wide;
        end' = (let e : t.end ≡ k + length (spell_expr test) = m.end' in let f : a.end ≡ t.end + 1 + length (spell_expr yes') = n.end' in let j : b.end ≡ a.end + 1 + length (spell_expr no') = o.end' in omega (arith, length-append (spell_expr test) (Mark Question ∷ (spell_expr yes' ++ Mark Colon ∷ spell_expr no')), length-append (spell_expr yes') (Mark Colon ∷ spell_expr no')));
      },
    ))))))))
  where
    Q : Typed → Type 0
    Q = Means ds k (Conditional test yes' no')

    t1 : ℕ
    t1 = k + length (spell_expr test)

    last : ℕ → List Demand
    last n = ask WidthsDiffer n (nat_eq (bits_in ds test) 1 && nat_eq (bits_in ds yes') (bits_in ds no')) ∷ []

    shape : of_expr ds k test ++ (of_expr ds (t1 + 1) yes' ++ (of_expr ds (t1 + length (spell_expr yes') + 2) no' ++ last t1)) ≡ of_expr ds k (Conditional test yes' no')
    shape = sym (append_assoc (of_expr ds k test ++ of_expr ds (t1 + 1) yes') (of_expr ds (t1 + length (spell_expr yes') + 2) no') (last t1) ∙ append_assoc (of_expr ds k test) (of_expr ds (t1 + 1) yes') (of_expr ds (t1 + length (spell_expr yes') + 2) no' ++ last t1))

pub judged_is : (ds : List Declaration) (e : WrittenExpr) (k : ℕ) → Judged ds k e
judged_is ds (Named name) k = net_is ds k name
judged_is ds (Constant size radix digits) k = literal_is ds k size radix digits
judged_is ds (BitOf name place) k = select_is ds k name (decimal_number place) (decimal_number place) (k + 4) (BitOf name place) refl (one_bit (decimal_number place)) refl
judged_is ds (PartOf name high low) k = select_is ds k name (decimal_number high) (decimal_number low) (k + 6) (PartOf name high low) refl refl refl
judged_is ds (WordOf name address) k = word_is ds k name address (judged_is ds address (k + 2))
judged_is ds (Braces parts) k = braces_is ds k parts (judged_is ds parts (k + 1))
judged_is ds (Parts first rest) k = parts_is ds k first rest (judged_is ds first k) (judged_is ds rest)
judged_is ds (Parens inner) k = parens_is ds k inner (judged_is ds inner (k + 1))
judged_is ds (Prefix op arg) k = prefix_is ds k op arg (judged_is ds arg (k + 1))
judged_is ds (Infix op left right) k = infix_is ds k op left right (judged_is ds left k) (judged_is ds right)
judged_is ds (Conditional test yes' no') k = choice_is ds k test yes' no' (judged_is ds test k) (judged_is ds yes') (judged_is ds no')
