-- An expression that is spelled is read again.
use Rattle.std.proofs.Common.{◌≡◌, ℕ, ◌+◌, ◌-◌, ◌<◌, ◌≤◌, List, [], ◌∷◌, ◌++◌, Some, refl, sym, ap, ◌∙◌, append_assoc, arith}
use Rattle.std.proofs.lemmas.Bool.{le-leb, lt-leb}
use Rattle.gl_verilog.specs.Tokens.{Token, Name, Number, Sized, Mark, OpenParen, CloseParen, OpenBracket, CloseBracket, OpenBrace, CloseBrace, Comma, Colon, Question}
use Rattle.gl_verilog.specs.Written.{PrefixOp, BitNot, LogicalNot, InfixOp, Times, Added, Subtracted, Below, AtMost, Above, AtLeast, Equal, NotEqual, BitAnd, BitXor, BitOr, LogicalAnd, LogicalOr, WrittenExpr, Named, Constant, BitOf, PartOf, WordOf, Braces, Parts, Parens, Prefix, Infix, Conditional, looseness, level, IsGrouped, prefix_token, infix_token, spell_expr}
use Rattle.gl_verilog_grammar.specs.Machine.{State, Frame, InParens, InBraces, InIndex, PrefixOf, InfixOf, TestOf, ColonOf, AssignTo, UpdateTo, AddressFor, UpdateWordTo, IfTest, ThenOf, ElseOf, InBegin, BodyOf, AtIndex, AtPlace, WantLow, AtPart, step, reduce, parts_of, Open}
use Rattle.gl_verilog_grammar.proofs.Steps.{steps, wanting, having, is-machine}
use Rattle.gl_verilog_grammar.proofs.OpenTexts.{loose-range}
use Rattle.gl_bits.proofs.Machines.{machine-same}

-- what is still open at an expression's end, and its last operand
abbrev pub waits : WrittenExpr → List Frame → List Frame
waits (Prefix op a) fs = waits a (PrefixOf op ∷ fs)
waits (Infix op l r) fs = waits r (InfixOf op l ∷ fs)
waits (Conditional c x y) fs = waits y (ColonOf c x ∷ fs)
waits e fs = fs

abbrev pub last_of : WrittenExpr → WrittenExpr
last_of (Prefix op a) = last_of a
last_of (Infix op l r) = last_of r
last_of (Conditional c x y) = last_of y
last_of e = e

-- nothing on top binds as tight as the level
abbrev pub Blocks : ℕ → List Frame → Type 0
Blocks p (PrefixOf op ∷ fs) = p ≤ 1
Blocks p (InfixOf op l ∷ fs) = p < looseness op
Blocks p fs = Unit {0}

blocks-le : (p q : ℕ) (fs : List Frame) → q ≤ p → Blocks p fs → Blocks q fs
blocks-le p q [] le b = tt
blocks-le p q (InParens ∷ fs) le b = tt
blocks-le p q (InBraces done ∷ fs) le b = tt
blocks-le p q (InIndex n ∷ fs) le b = tt
blocks-le p q (PrefixOf op ∷ fs) le b = omega (arith, b)
blocks-le p q (InfixOf op l ∷ fs) le b = omega (arith, b)
blocks-le p q (TestOf c ∷ fs) le b = tt
blocks-le p q (ColonOf c x ∷ fs) le b = tt
blocks-le p q (AssignTo n ∷ fs) le b = tt
blocks-le p q (UpdateTo n ∷ fs) le b = tt
blocks-le p q (AddressFor n ∷ fs) le b = tt
blocks-le p q (UpdateWordTo n e ∷ fs) le b = tt
blocks-le p q (IfTest ∷ fs) le b = tt
blocks-le p q (ThenOf c ∷ fs) le b = tt
blocks-le p q (ElseOf c y ∷ fs) le b = tt
blocks-le p q (InBegin done ∷ fs) le b = tt
blocks-le p q (BodyOf c ∷ fs) le b = tt

abbrev pub opened : List Frame → WrittenExpr → Open WrittenExpr
opened fs e = (fs, e)

pub reduce-blocked : (p : ℕ) (fs : List Frame) (e : WrittenExpr) → 2 ≤ p → p ≤ 10 → Blocks p fs → reduce p fs e ≡ opened fs e
unfolding reduce
reduce-blocked p [] e low high b = refl
reduce-blocked p (InParens ∷ fs) e low high b = refl
reduce-blocked p (InBraces done ∷ fs) e low high b = refl
reduce-blocked p (InIndex n ∷ fs) e low high b = refl
reduce-blocked p (PrefixOf op ∷ fs) e low high b = absurd (omega (arith, b))
reduce-blocked p (InfixOf op l ∷ fs) e low high b = rw (lt-leb (looseness op) p b) refl
reduce-blocked p (TestOf c ∷ fs) e low high b = refl
reduce-blocked p (ColonOf c x ∷ fs) e low high b = let lt : p < 11 = omega arith in rw (lt-leb 11 p lt) refl
reduce-blocked p (AssignTo n ∷ fs) e low high b = refl
reduce-blocked p (UpdateTo n ∷ fs) e low high b = refl
reduce-blocked p (AddressFor n ∷ fs) e low high b = refl
reduce-blocked p (UpdateWordTo n a ∷ fs) e low high b = refl
reduce-blocked p (IfTest ∷ fs) e low high b = refl
reduce-blocked p (ThenOf c ∷ fs) e low high b = refl
reduce-blocked p (ElseOf c y ∷ fs) e low high b = refl
reduce-blocked p (InBegin done ∷ fs) e low high b = refl
reduce-blocked p (BodyOf c ∷ fs) e low high b = refl

reduce-prefix : (p : ℕ) (op : PrefixOp) (fs : List Frame) (e : WrittenExpr) → reduce p (PrefixOf op ∷ fs) e ≡ reduce p fs (Prefix op e)
unfolding reduce
reduce-prefix p op fs e = refl

reduce-infix : (p : ℕ) (op : InfixOp) (l : WrittenExpr) (fs : List Frame) (e : WrittenExpr) → looseness op ≤ p → reduce p (InfixOf op l ∷ fs) e ≡ reduce p fs (Infix op l e)
unfolding reduce
reduce-infix p op l fs e le = rw (le-leb (looseness op) p le) refl

reduce-colon : (p : ℕ) (c x : WrittenExpr) (fs : List Frame) (e : WrittenExpr) → 11 ≤ p → reduce p (ColonOf c x ∷ fs) e ≡ reduce p fs (Conditional c x e)
unfolding reduce
reduce-colon p c x fs e le = rw (le-leb 11 p le) refl

-- what an expression left open is put together again
pub reduce-waits : (e : WrittenExpr) (p : ℕ) (fs : List Frame) → IsGrouped e → level e ≤ p → reduce p (waits e fs) (last_of e) ≡ reduce p fs e
reduce-waits (Named n) p fs g le = refl
reduce-waits (Constant a r d) p fs g le = refl
reduce-waits (BitOf n i) p fs g le = refl
reduce-waits (PartOf n h l) p fs g le = refl
reduce-waits (WordOf n a) p fs g le = refl
reduce-waits (Braces a) p fs g le = refl
reduce-waits (Parts a b) p fs g le = refl
reduce-waits (Parens a) p fs g le = refl
reduce-waits (Prefix op a) p fs g le = reduce-waits a p (PrefixOf op ∷ fs) g.1 (omega (arith, g.0)) ∙ reduce-prefix p op fs a
reduce-waits (Infix op l r) p fs g le = reduce-waits r p (InfixOf op l ∷ fs) g.3 (omega (arith, g.1)) ∙ reduce-infix p op l fs r le
reduce-waits (Conditional c x y) p fs g le = reduce-waits y p (ColonOf c x ∷ fs) g.5 (omega (arith, g.2)) ∙ reduce-colon p c x fs y le

-- ---- single steps

want-name : (s : State) (fs : List Frame) (n : List ℕ) → step (wanting s fs) (Name n) ≡ Some (having s fs (Named n))
unfolding step
want-name s fs n = refl

want-sized : (s : State) (fs : List Frame) (r : ℕ) (a d : List ℕ) → step (wanting s fs) (Sized a r d) ≡ Some (having s fs (Constant a r d))
unfolding step
want-sized s fs r a d = refl

want-paren : (s : State) (fs : List Frame) → step (wanting s fs) (Mark OpenParen) ≡ Some (wanting s (InParens ∷ fs))
unfolding step
want-paren s fs = refl

want-brace : (s : State) (fs : List Frame) → step (wanting s fs) (Mark OpenBrace) ≡ Some (wanting s (InBraces [] ∷ fs))
unfolding step
want-brace s fs = refl

want-prefix : (s : State) (fs : List Frame) (op : PrefixOp) → step (wanting s fs) (prefix_token op) ≡ Some (wanting s (PrefixOf op ∷ fs))
unfolding step
want-prefix s fs BitNot = refl
want-prefix s fs LogicalNot = refl

-- inside an index, before anything of it was read
abbrev pub indexing : State → List Frame → List ℕ → State
indexing s fs n = record s { stage = AtIndex n; frames = fs }

abbrev pub placed : State → List Frame → List ℕ → List ℕ → State
placed s fs n i = record s { stage = AtPlace n i; frames = fs }

abbrev pub lowering : State → List Frame → List ℕ → List ℕ → State
lowering s fs n h = record s { stage = WantLow n h; frames = fs }

abbrev pub parted : State → List Frame → List ℕ → List ℕ → List ℕ → State
parted s fs n h l = record s { stage = AtPart n h l; frames = fs }

have-index : (s : State) (fs : List Frame) (n : List ℕ) → step (having s fs (Named n)) (Mark OpenBracket) ≡ Some (indexing s fs n)
unfolding step
have-index s fs n = refl

index-number : (s : State) (fs : List Frame) (n i : List ℕ) → step (indexing s fs n) (Number i) ≡ Some (placed s fs n i)
unfolding step
index-number s fs n i = refl

place-close : (s : State) (fs : List Frame) (n i : List ℕ) → step (placed s fs n i) (Mark CloseBracket) ≡ Some (having s fs (BitOf n i))
unfolding step
place-close s fs n i = refl

place-colon : (s : State) (fs : List Frame) (n i : List ℕ) → step (placed s fs n i) (Mark Colon) ≡ Some (lowering s fs n i)
unfolding step
place-colon s fs n i = refl

low-number : (s : State) (fs : List Frame) (n h l : List ℕ) → step (lowering s fs n h) (Number l) ≡ Some (parted s fs n h l)
unfolding step
low-number s fs n h l = refl

part-close : (s : State) (fs : List Frame) (n h l : List ℕ) → step (parted s fs n h l) (Mark CloseBracket) ≡ Some (having s fs (PartOf n h l))
unfolding step
part-close s fs n h l = refl

-- an expression in an index begins as one in brackets
index-begins : (e : WrittenExpr) (s : State) (fs : List Frame) (n : List ℕ) (rest : List Token) → level e ≤ 11 → IsGrouped e → steps (indexing s fs n) (spell_expr e ++ rest) ≡ steps (wanting s (InIndex n ∷ fs)) (spell_expr e ++ rest)
unfolding step
index-begins (Named m) s fs n rest lv g = machine-same step steps is-machine _ _ _ rest refl
index-begins (Constant a r d) s fs n rest lv g = machine-same step steps is-machine _ _ _ rest refl
index-begins (BitOf m i) s fs n rest lv g = machine-same step steps is-machine _ _ _ _ refl
index-begins (PartOf m h l) s fs n rest lv g = machine-same step steps is-machine _ _ _ _ refl
index-begins (WordOf m a) s fs n rest lv g = machine-same step steps is-machine _ _ _ _ refl
index-begins (Braces a) s fs n rest lv g = machine-same step steps is-machine _ _ _ _ refl
index-begins (Parts a b) s fs n rest lv g = absurd (omega (arith, lv))
index-begins (Parens a) s fs n rest lv g = machine-same step steps is-machine _ _ _ _ refl
index-begins (Prefix BitNot a) s fs n rest lv g = machine-same step steps is-machine _ _ _ _ refl
index-begins (Prefix LogicalNot a) s fs n rest lv g = machine-same step steps is-machine _ _ _ _ refl
index-begins (Infix op l r) s fs n rest lv g =
    ap (steps (indexing s fs n)) (append_assoc (spell_expr l) (infix_token op ∷ spell_expr r) rest)
    ∙ index-begins l s fs n (infix_token op ∷ (spell_expr r ++ rest)) (omega (arith, g.0, loose-le op)) g.2
    ∙ ap (steps (wanting s (InIndex n ∷ fs))) (sym (append_assoc (spell_expr l) (infix_token op ∷ spell_expr r) rest))
  where
    loose-le : (op : InfixOp) → looseness op ≤ 11
    loose-le Times = omega arith
    loose-le Added = omega arith
    loose-le Subtracted = omega arith
    loose-le Below = omega arith
    loose-le AtMost = omega arith
    loose-le Above = omega arith
    loose-le AtLeast = omega arith
    loose-le Equal = omega arith
    loose-le NotEqual = omega arith
    loose-le BitAnd = omega arith
    loose-le BitXor = omega arith
    loose-le BitOr = omega arith
    loose-le LogicalAnd = omega arith
    loose-le LogicalOr = omega arith
index-begins (Conditional c x y) s fs n rest lv g =
    ap (steps (indexing s fs n)) (append_assoc (spell_expr c) (Mark Question ∷ (spell_expr x ++ Mark Colon ∷ spell_expr y)) rest)
    ∙ index-begins c s fs n (Mark Question ∷ ((spell_expr x ++ Mark Colon ∷ spell_expr y) ++ rest)) (omega (arith, g.0)) g.3
    ∙ ap (steps (wanting s (InIndex n ∷ fs))) (sym (append_assoc (spell_expr c) (Mark Question ∷ (spell_expr x ++ Mark Colon ∷ spell_expr y)) rest))

-- what closes an operand
close-paren : (s : State) (fs0 fs : List Frame) (e0 e : WrittenExpr) → reduce 11 fs0 e0 ≡ opened (InParens ∷ fs) e → step (having s fs0 e0) (Mark CloseParen) ≡ Some (having s fs (Parens e))
unfolding step
close-paren s fs0 fs e0 e h = rw h refl

close-index : (s : State) (fs0 fs : List Frame) (n : List ℕ) (e0 e : WrittenExpr) → reduce 11 fs0 e0 ≡ opened (InIndex n ∷ fs) e → step (having s fs0 e0) (Mark CloseBracket) ≡ Some (having s fs (WordOf n e))
unfolding step
close-index s fs0 fs n e0 e h = rw h refl

close-brace : (s : State) (fs0 fs : List Frame) (done : List WrittenExpr) (e0 e : WrittenExpr) → reduce 11 fs0 e0 ≡ opened (InBraces done ∷ fs) e → step (having s fs0 e0) (Mark CloseBrace) ≡ Some (having s fs (Braces (parts_of done e)))
unfolding step
close-brace s fs0 fs done e0 e h = rw h refl

at-comma : (s : State) (fs0 fs : List Frame) (done : List WrittenExpr) (e0 e : WrittenExpr) → reduce 11 fs0 e0 ≡ opened (InBraces done ∷ fs) e → step (having s fs0 e0) (Mark Comma) ≡ Some (wanting s (InBraces (done ++ e ∷ []) ∷ fs))
unfolding step
at-comma s fs0 fs done e0 e h = rw h refl

at-infix : (op : InfixOp) (s : State) (fs0 fs : List Frame) (e0 e : WrittenExpr) → reduce (looseness op) fs0 e0 ≡ opened fs e → step (having s fs0 e0) (infix_token op) ≡ Some (wanting s (InfixOf op e ∷ fs))
unfolding step
at-infix Times s fs0 fs e0 e h = rw h refl
at-infix Added s fs0 fs e0 e h = rw h refl
at-infix Subtracted s fs0 fs e0 e h = rw h refl
at-infix Below s fs0 fs e0 e h = rw h refl
at-infix AtMost s fs0 fs e0 e h = rw h refl
at-infix Above s fs0 fs e0 e h = rw h refl
at-infix AtLeast s fs0 fs e0 e h = rw h refl
at-infix Equal s fs0 fs e0 e h = rw h refl
at-infix NotEqual s fs0 fs e0 e h = rw h refl
at-infix BitAnd s fs0 fs e0 e h = rw h refl
at-infix BitXor s fs0 fs e0 e h = rw h refl
at-infix BitOr s fs0 fs e0 e h = rw h refl
at-infix LogicalAnd s fs0 fs e0 e h = rw h refl
at-infix LogicalOr s fs0 fs e0 e h = rw h refl

at-question : (s : State) (fs0 fs : List Frame) (e0 e : WrittenExpr) → reduce 10 fs0 e0 ≡ opened fs e → step (having s fs0 e0) (Mark Question) ≡ Some (wanting s (TestOf e ∷ fs))
unfolding step
at-question s fs0 fs e0 e h = rw h refl

at-colon : (s : State) (fs0 fs : List Frame) (c e0 e : WrittenExpr) → reduce 11 fs0 e0 ≡ opened (TestOf c ∷ fs) e → step (having s fs0 e0) (Mark Colon) ≡ Some (wanting s (ColonOf c e ∷ fs))
unfolding step
at-colon s fs0 fs c e0 e h = rw h refl

reduce-parens : (fs : List Frame) (e : WrittenExpr) → reduce 11 (InParens ∷ fs) e ≡ opened (InParens ∷ fs) e
unfolding reduce
reduce-parens fs e = refl

reduce-index : (n : List ℕ) (fs : List Frame) (e : WrittenExpr) → reduce 11 (InIndex n ∷ fs) e ≡ opened (InIndex n ∷ fs) e
unfolding reduce
reduce-index n fs e = refl

reduce-braces : (done : List WrittenExpr) (fs : List Frame) (e : WrittenExpr) → reduce 11 (InBraces done ∷ fs) e ≡ opened (InBraces done ∷ fs) e
unfolding reduce
reduce-braces done fs e = refl

reduce-test : (c : WrittenExpr) (fs : List Frame) (e : WrittenExpr) → reduce 11 (TestOf c ∷ fs) e ≡ opened (TestOf c ∷ fs) e
unfolding reduce
reduce-test c fs e = refl

-- ---- whole expressions

parts_of-append : (done : List WrittenExpr) (a b : WrittenExpr) → parts_of (done ++ a ∷ []) b ≡ parts_of done (Parts a b)
parts_of-append [] a b = refl
parts_of-append (d ∷ ds) a b = ap (Parts d) (parts_of-append ds a b)

-- an expression is read, and then what follows it
abbrev pub IsReadAlone : WrittenExpr → Type 0
IsReadAlone e = (s : State) (fs : List Frame) (rest : List Token) → level e ≤ 11 → IsGrouped e → Blocks (level e) fs
    → steps (wanting s fs) (spell_expr e ++ rest) ≡ steps (having s (waits e fs) (last_of e)) rest

-- the last parts of a concatenation are read, with its brace
abbrev pub IsReadInBraces : WrittenExpr → Type 0
IsReadInBraces e = (s : State) (fs : List Frame) (done : List WrittenExpr) (rest : List Token) → IsGrouped e
    → steps (wanting s (InBraces done ∷ fs)) (spell_expr e ++ Mark CloseBrace ∷ rest) ≡ steps (having s fs (Braces (parts_of done e))) rest

pub record IsRead (e : WrittenExpr) : Type 0 where
  pub alone : IsReadAlone e
  pub in_braces : IsReadInBraces e

-- an expression that is no list is the last part
closes : (e : WrittenExpr) → level e ≤ 11 → IsReadAlone e → IsReadInBraces e
closes e lv alone s fs done rest g =
    alone s (InBraces done ∷ fs) (Mark CloseBrace ∷ rest) lv g tt
    ∙ is-machine.goes _ _ (Mark CloseBrace) rest (close-brace s (waits e (InBraces done ∷ fs)) fs done (last_of e) e (reduce-waits e 11 (InBraces done ∷ fs) g lv ∙ reduce-braces done fs e))

both_ways : (e : WrittenExpr) → level e ≤ 11 → IsReadAlone e → IsRead e
both_ways e lv alone = record { alone = alone; in_braces = closes e lv alone }

pub reads : (e : WrittenExpr) → IsRead e
reads (Named n) = both_ways (Named n) (omega arith) (λ s fs rest lv g b. is-machine.goes _ _ (Name n) rest (want-name s fs n))
reads (Constant a r c) = both_ways (Constant a r c) (omega arith) (λ s fs rest lv g b. is-machine.goes _ _ (Sized a r c) rest (want-sized s fs r a c))
reads (BitOf n p) = both_ways (BitOf n p) (omega arith) (λ s fs rest lv g b.
    is-machine.goes _ _ (Name n) (Mark OpenBracket ∷ Number p ∷ Mark CloseBracket ∷ rest) (want-name s fs n)
    ∙ is-machine.goes _ _ (Mark OpenBracket) (Number p ∷ Mark CloseBracket ∷ rest) (have-index s fs n)
    ∙ is-machine.goes _ _ (Number p) (Mark CloseBracket ∷ rest) (index-number s fs n p)
    ∙ is-machine.goes _ _ (Mark CloseBracket) rest (place-close s fs n p))
reads (PartOf n h l) = both_ways (PartOf n h l) (omega arith) (λ s fs rest lv g b.
    is-machine.goes _ _ (Name n) (Mark OpenBracket ∷ Number h ∷ Mark Colon ∷ Number l ∷ Mark CloseBracket ∷ rest) (want-name s fs n)
    ∙ is-machine.goes _ _ (Mark OpenBracket) (Number h ∷ Mark Colon ∷ Number l ∷ Mark CloseBracket ∷ rest) (have-index s fs n)
    ∙ is-machine.goes _ _ (Number h) (Mark Colon ∷ Number l ∷ Mark CloseBracket ∷ rest) (index-number s fs n h)
    ∙ is-machine.goes _ _ (Mark Colon) (Number l ∷ Mark CloseBracket ∷ rest) (place-colon s fs n h)
    ∙ is-machine.goes _ _ (Number l) (Mark CloseBracket ∷ rest) (low-number s fs n h l)
    ∙ is-machine.goes _ _ (Mark CloseBracket) rest (part-close s fs n h l))
reads (WordOf n a) = both_ways (WordOf n a) (omega arith) (λ s fs rest lv g b.
    is-machine.goes _ _ (Name n) (Mark OpenBracket ∷ ((spell_expr a ++ Mark CloseBracket ∷ []) ++ rest)) (want-name s fs n)
    ∙ is-machine.goes _ _ (Mark OpenBracket) ((spell_expr a ++ Mark CloseBracket ∷ []) ++ rest) (have-index s fs n)
    ∙ ap (steps (indexing s fs n)) (append_assoc (spell_expr a) (Mark CloseBracket ∷ []) rest)
    ∙ index-begins a s fs n (Mark CloseBracket ∷ rest) g.0 g.1
    ∙ (reads a).alone s (InIndex n ∷ fs) (Mark CloseBracket ∷ rest) g.0 g.1 tt
    ∙ is-machine.goes _ _ (Mark CloseBracket) rest (close-index s (waits a (InIndex n ∷ fs)) fs n (last_of a) a (reduce-waits a 11 (InIndex n ∷ fs) g.1 g.0 ∙ reduce-index n fs a)))
reads (Braces a) = both_ways (Braces a) (omega arith) (λ s fs rest lv g b.
    is-machine.goes _ _ (Mark OpenBrace) ((spell_expr a ++ Mark CloseBrace ∷ []) ++ rest) (want-brace s fs)
    ∙ ap (steps (wanting s (InBraces [] ∷ fs))) (append_assoc (spell_expr a) (Mark CloseBrace ∷ []) rest)
    ∙ (reads a).in_braces s fs [] rest g)
reads (Parts a c) = record {
  alone = λ s fs rest lv g b. absurd (omega (arith, lv));
  in_braces = λ s fs done rest g.
      ap (steps (wanting s (InBraces done ∷ fs))) (append_assoc (spell_expr a) (Mark Comma ∷ spell_expr c) (Mark CloseBrace ∷ rest))
      ∙ (reads a).alone s (InBraces done ∷ fs) (Mark Comma ∷ (spell_expr c ++ Mark CloseBrace ∷ rest)) g.0 g.1 tt
      ∙ is-machine.goes _ _ (Mark Comma) (spell_expr c ++ Mark CloseBrace ∷ rest) (at-comma s (waits a (InBraces done ∷ fs)) fs done (last_of a) a (reduce-waits a 11 (InBraces done ∷ fs) g.1 g.0 ∙ reduce-braces done fs a))
      ∙ (reads c).in_braces s fs (done ++ a ∷ []) rest g.2
      ∙ ap (λ (x : WrittenExpr). steps (having s fs (Braces x)) rest) (parts_of-append done a c);
}
reads (Parens a) = both_ways (Parens a) (omega arith) (λ s fs rest lv g b.
    is-machine.goes _ _ (Mark OpenParen) ((spell_expr a ++ Mark CloseParen ∷ []) ++ rest) (want-paren s fs)
    ∙ ap (steps (wanting s (InParens ∷ fs))) (append_assoc (spell_expr a) (Mark CloseParen ∷ []) rest)
    ∙ (reads a).alone s (InParens ∷ fs) (Mark CloseParen ∷ rest) g.0 g.1 tt
    ∙ is-machine.goes _ _ (Mark CloseParen) rest (close-paren s (waits a (InParens ∷ fs)) fs (last_of a) a (reduce-waits a 11 (InParens ∷ fs) g.1 g.0 ∙ reduce-parens fs a)))
reads (Prefix op a) = both_ways (Prefix op a) (omega arith) (λ s fs rest lv g b.
    is-machine.goes _ _ (prefix_token op) (spell_expr a ++ rest) (want-prefix s fs op)
    ∙ (reads a).alone s (PrefixOf op ∷ fs) rest (omega (arith, g.0)) g.1 g.0)
reads (Infix op l r) = both_ways (Infix op l r) (omega (arith, loose-range op)) (λ s fs rest lv g b.
    let range = loose-range op in
    ap (steps (wanting s fs)) (append_assoc (spell_expr l) (infix_token op ∷ spell_expr r) rest)
    ∙ (reads l).alone s fs (infix_token op ∷ (spell_expr r ++ rest)) (omega (arith, g.0)) g.2 (blocks-le (looseness op) (level l) fs g.0 b)
    ∙ is-machine.goes _ _ (infix_token op) (spell_expr r ++ rest) (at-infix op s (waits l fs) fs (last_of l) l (reduce-waits l (looseness op) fs g.2 g.0 ∙ reduce-blocked (looseness op) fs l range.0 range.1 b))
    ∙ (reads r).alone s (InfixOf op l ∷ fs) rest (omega (arith, g.1)) g.3 g.1)
reads (Conditional c x y) = both_ways (Conditional c x y) (omega arith) (λ s fs rest lv g b.
    ap (steps (wanting s fs)) (append_assoc (spell_expr c) (Mark Question ∷ (spell_expr x ++ Mark Colon ∷ spell_expr y)) rest)
    ∙ (reads c).alone s fs (Mark Question ∷ ((spell_expr x ++ Mark Colon ∷ spell_expr y) ++ rest)) (omega (arith, g.0)) g.3 (blocks-le 11 (level c) fs (omega (arith, g.0)) b)
    ∙ is-machine.goes _ _ (Mark Question) ((spell_expr x ++ Mark Colon ∷ spell_expr y) ++ rest) (at-question s (waits c fs) fs (last_of c) c (reduce-waits c 10 fs g.3 g.0 ∙ reduce-blocked 10 fs c (omega arith) (omega arith) (blocks-le 11 10 fs (omega arith) b)))
    ∙ ap (steps (wanting s (TestOf c ∷ fs))) (append_assoc (spell_expr x) (Mark Colon ∷ spell_expr y) rest)
    ∙ (reads x).alone s (TestOf c ∷ fs) (Mark Colon ∷ (spell_expr y ++ rest)) g.1 g.4 tt
    ∙ is-machine.goes _ _ (Mark Colon) (spell_expr y ++ rest) (at-colon s (waits x (TestOf c ∷ fs)) fs c (last_of x) x (reduce-waits x 11 (TestOf c ∷ fs) g.4 g.1 ∙ reduce-test c fs x))
    ∙ (reads y).alone s (ColonOf c x ∷ fs) rest g.2 g.5 tt)
