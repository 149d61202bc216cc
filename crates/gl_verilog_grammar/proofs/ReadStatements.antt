-- A statement that is spelled is read again.
use Rattle.std.proofs.Common.{◌≡◌, ℕ, ◌+◌, ◌-◌, false, List, [], ◌∷◌, ◌++◌, Some, refl, sym, ap, ◌∙◌, append_assoc}
use Rattle.gl_verilog.specs.Tokens.{Token, Reserved, Name, Mark, BeginWord, EndWord, IfWord, ElseWord, OpenParen, CloseParen, OpenBracket, CloseBracket, Semicolon, LessEquals}
use Rattle.gl_verilog.specs.Written.{WrittenExpr, IsExpr, spell_expr, WrittenStatement, Update, UpdateWord, IfThen, IfElse, Block, Listed, Ended, ends_open, Single, InBlock, IsStatementAt, spell_statement, listed}
use Rattle.gl_verilog_grammar.specs.Machine.{State, Frame, UpdateTo, AddressFor, UpdateWordTo, IfTest, ThenOf, ElseOf, InBegin, WantStatement, AfterTarget, WantArrow, WantTest, HaveStatement, step, reduce, at_else, at_end, Open}
use Rattle.gl_verilog_grammar.proofs.Steps.{steps, wanting, having, is-machine}
use Rattle.gl_verilog_grammar.proofs.ReadExpressions.{waits, last_of, opened, reduce-waits, reads}
use Rattle.gl_bits.proofs.Machines.{machine-same}

-- what is still open at a statement's end, and its last part
abbrev pub holds : WrittenStatement → List Frame → List Frame
holds (IfThen c a) fs = holds a (ThenOf c ∷ fs)
holds (IfElse c a b) fs = holds b (ElseOf c a ∷ fs)
holds st fs = fs

abbrev pub final_of : WrittenStatement → WrittenStatement
final_of (IfThen c a) = final_of a
final_of (IfElse c a b) = final_of b
final_of st = st

abbrev pub settled_at : List Frame → WrittenStatement → Open WrittenStatement
settled_at fs st = (fs, st)

else-then : (c : WrittenExpr) (fs : List Frame) (st : WrittenStatement) → at_else (ThenOf c ∷ fs) st ≡ Some (ElseOf c st ∷ fs)
unfolding at_else
else-then c fs st = refl

else-else : (c : WrittenExpr) (a : WrittenStatement) (fs : List Frame) (st : WrittenStatement) → at_else (ElseOf c a ∷ fs) st ≡ at_else fs (IfElse c a st)
unfolding at_else
else-else c a fs st = refl

end-then : (c : WrittenExpr) (fs : List Frame) (st : WrittenStatement) → at_end (ThenOf c ∷ fs) st ≡ at_end fs (IfThen c st)
unfolding at_end
end-then c fs st = refl

end-else : (c : WrittenExpr) (a : WrittenStatement) (fs : List Frame) (st : WrittenStatement) → at_end (ElseOf c a ∷ fs) st ≡ at_end fs (IfElse c a st)
unfolding at_end
end-else c a fs st = refl

end-begin : (done : List WrittenStatement) (fs : List Frame) (st : WrittenStatement) → at_end (InBegin done ∷ fs) st ≡ settled_at (InBegin done ∷ fs) st
unfolding at_end
end-begin done fs st = refl

else-holds : (st : WrittenStatement) (fs : List Frame) → ends_open st ≡ false → at_else (holds st fs) (final_of st) ≡ at_else fs st
else-holds (Update n e) fs o = refl
else-holds (UpdateWord n a e) fs o = refl
else-holds (IfThen c a) fs o = absurd cc
else-holds (IfElse c a b) fs o = else-holds b (ElseOf c a ∷ fs) o ∙ else-else c a fs b
else-holds (Block l) fs o = refl
else-holds (Listed a b) fs o = refl
else-holds Ended fs o = refl

pub end-holds : (st : WrittenStatement) (fs : List Frame) → at_end (holds st fs) (final_of st) ≡ at_end fs st
end-holds (Update n e) fs = refl
end-holds (UpdateWord n a e) fs = refl
end-holds (IfThen c a) fs = end-holds a (ThenOf c ∷ fs) ∙ end-then c fs a
end-holds (IfElse c a b) fs = end-holds b (ElseOf c a ∷ fs) ∙ end-else c a fs b
end-holds (Block l) fs = refl
end-holds (Listed a b) fs = refl
end-holds Ended fs = refl

-- ---- states inside a statement

abbrev pub stating : State → List Frame → State
stating s fs = record s { stage = WantStatement; frames = fs }

abbrev pub stated : State → List Frame → WrittenStatement → State
stated s fs st = record s { stage = HaveStatement st; frames = fs }

abbrev pub targeted : State → List Frame → List ℕ → State
targeted s fs n = record s { stage = AfterTarget n; frames = fs }

abbrev pub arrowing : State → List Frame → List ℕ → WrittenExpr → State
arrowing s fs n a = record s { stage = WantArrow n a; frames = fs }

abbrev pub testing : State → List Frame → State
testing s fs = record s { stage = WantTest; frames = fs }

state-name : (s : State) (fs : List Frame) (n : List ℕ) → step (stating s fs) (Name n) ≡ Some (targeted s fs n)
unfolding step
state-name s fs n = refl

state-if : (s : State) (fs : List Frame) → step (stating s fs) (Reserved IfWord) ≡ Some (testing s fs)
unfolding step
state-if s fs = refl

state-begin : (s : State) (fs : List Frame) → step (stating s fs) (Reserved BeginWord) ≡ Some (stating s (InBegin [] ∷ fs))
unfolding step
state-begin s fs = refl

state-end : (s : State) (fs : List Frame) (done : List WrittenStatement) → step (stating s (InBegin done ∷ fs)) (Reserved EndWord) ≡ Some (stated s fs (Block (listed done)))
unfolding step
state-end s fs done = refl

target-arrow : (s : State) (fs : List Frame) (n : List ℕ) → step (targeted s fs n) (Mark LessEquals) ≡ Some (wanting s (UpdateTo n ∷ fs))
unfolding step
target-arrow s fs n = refl

target-index : (s : State) (fs : List Frame) (n : List ℕ) → step (targeted s fs n) (Mark OpenBracket) ≡ Some (wanting s (AddressFor n ∷ fs))
unfolding step
target-index s fs n = refl

word-arrow : (s : State) (fs : List Frame) (n : List ℕ) (a : WrittenExpr) → step (arrowing s fs n a) (Mark LessEquals) ≡ Some (wanting s (UpdateWordTo n a ∷ fs))
unfolding step
word-arrow s fs n a = refl

test-open : (s : State) (fs : List Frame) → step (testing s fs) (Mark OpenParen) ≡ Some (wanting s (IfTest ∷ fs))
unfolding step
test-open s fs = refl

end-update : (s : State) (fs0 fs : List Frame) (n : List ℕ) (e0 e : WrittenExpr) → reduce 11 fs0 e0 ≡ opened (UpdateTo n ∷ fs) e → step (having s fs0 e0) (Mark Semicolon) ≡ Some (stated s fs (Update n e))
unfolding step
end-update s fs0 fs n e0 e h = rw h refl

end-address : (s : State) (fs0 fs : List Frame) (n : List ℕ) (e0 e : WrittenExpr) → reduce 11 fs0 e0 ≡ opened (AddressFor n ∷ fs) e → step (having s fs0 e0) (Mark CloseBracket) ≡ Some (arrowing s fs n e)
unfolding step
end-address s fs0 fs n e0 e h = rw h refl

end-word : (s : State) (fs0 fs : List Frame) (n : List ℕ) (a e0 e : WrittenExpr) → reduce 11 fs0 e0 ≡ opened (UpdateWordTo n a ∷ fs) e → step (having s fs0 e0) (Mark Semicolon) ≡ Some (stated s fs (UpdateWord n a e))
unfolding step
end-word s fs0 fs n a e0 e h = rw h refl

end-test : (s : State) (fs0 fs : List Frame) (e0 e : WrittenExpr) → reduce 11 fs0 e0 ≡ opened (IfTest ∷ fs) e → step (having s fs0 e0) (Mark CloseParen) ≡ Some (stating s (ThenOf e ∷ fs))
unfolding step
end-test s fs0 fs e0 e h = rw h refl

take-else : (s : State) (fs0 fs : List Frame) (st : WrittenStatement) → at_else fs0 st ≡ Some fs → step (stated s fs0 st) (Reserved ElseWord) ≡ Some (stating s fs)
unfolding step
take-else s fs0 fs st h = rw h refl

reduce-update : (n : List ℕ) (fs : List Frame) (e : WrittenExpr) → reduce 11 (UpdateTo n ∷ fs) e ≡ opened (UpdateTo n ∷ fs) e
unfolding reduce
reduce-update n fs e = refl

reduce-address : (n : List ℕ) (fs : List Frame) (e : WrittenExpr) → reduce 11 (AddressFor n ∷ fs) e ≡ opened (AddressFor n ∷ fs) e
unfolding reduce
reduce-address n fs e = refl

reduce-word : (n : List ℕ) (a : WrittenExpr) (fs : List Frame) (e : WrittenExpr) → reduce 11 (UpdateWordTo n a ∷ fs) e ≡ opened (UpdateWordTo n a ∷ fs) e
unfolding reduce
reduce-word n a fs e = refl

reduce-iftest : (fs : List Frame) (e : WrittenExpr) → reduce 11 (IfTest ∷ fs) e ≡ opened (IfTest ∷ fs) e
unfolding reduce
reduce-iftest fs e = refl

-- ---- whole expressions inside statements

read-update : (s : State) (fs : List Frame) (n : List ℕ) (e : WrittenExpr) (rest : List Token) → IsExpr e
    → steps (wanting s (UpdateTo n ∷ fs)) (spell_expr e ++ Mark Semicolon ∷ rest) ≡ steps (stated s fs (Update n e)) rest
read-update s fs n e rest g =
    (reads e).alone s (UpdateTo n ∷ fs) (Mark Semicolon ∷ rest) g.0 g.1 tt
    ∙ is-machine.goes _ _ (Mark Semicolon) rest (end-update s (waits e (UpdateTo n ∷ fs)) fs n (last_of e) e (reduce-waits e 11 (UpdateTo n ∷ fs) g.1 g.0 ∙ reduce-update n fs e))

read-address : (s : State) (fs : List Frame) (n : List ℕ) (e : WrittenExpr) (rest : List Token) → IsExpr e
    → steps (wanting s (AddressFor n ∷ fs)) (spell_expr e ++ Mark CloseBracket ∷ rest) ≡ steps (arrowing s fs n e) rest
read-address s fs n e rest g =
    (reads e).alone s (AddressFor n ∷ fs) (Mark CloseBracket ∷ rest) g.0 g.1 tt
    ∙ is-machine.goes _ _ (Mark CloseBracket) rest (end-address s (waits e (AddressFor n ∷ fs)) fs n (last_of e) e (reduce-waits e 11 (AddressFor n ∷ fs) g.1 g.0 ∙ reduce-address n fs e))

read-word : (s : State) (fs : List Frame) (n : List ℕ) (a e : WrittenExpr) (rest : List Token) → IsExpr e
    → steps (wanting s (UpdateWordTo n a ∷ fs)) (spell_expr e ++ Mark Semicolon ∷ rest) ≡ steps (stated s fs (UpdateWord n a e)) rest
read-word s fs n a e rest g =
    (reads e).alone s (UpdateWordTo n a ∷ fs) (Mark Semicolon ∷ rest) g.0 g.1 tt
    ∙ is-machine.goes _ _ (Mark Semicolon) rest (end-word s (waits e (UpdateWordTo n a ∷ fs)) fs n a (last_of e) e (reduce-waits e 11 (UpdateWordTo n a ∷ fs) g.1 g.0 ∙ reduce-word n a fs e))

-- `if`, its brackets and its condition
read-test : (s : State) (fs : List Frame) (e : WrittenExpr) (rest : List Token) → IsExpr e
    → steps (stating s fs) (Reserved IfWord ∷ Mark OpenParen ∷ (spell_expr e ++ Mark CloseParen ∷ rest)) ≡ steps (stating s (ThenOf e ∷ fs)) rest
read-test s fs e rest g =
    is-machine.goes _ _ (Reserved IfWord) (Mark OpenParen ∷ (spell_expr e ++ Mark CloseParen ∷ rest)) (state-if s fs)
    ∙ is-machine.goes _ _ (Mark OpenParen) (spell_expr e ++ Mark CloseParen ∷ rest) (test-open s fs)
    ∙ (reads e).alone s (IfTest ∷ fs) (Mark CloseParen ∷ rest) g.0 g.1 tt
    ∙ is-machine.goes _ _ (Mark CloseParen) rest (end-test s (waits e (IfTest ∷ fs)) fs (last_of e) e (reduce-waits e 11 (IfTest ∷ fs) g.1 g.0 ∙ reduce-iftest fs e))

-- ---- lists of statements

-- behind a statement of goes on what a list's beginning goes on
behind : (s : State) (fs0 fs : List Frame) (done : List WrittenStatement) (st0 st : WrittenStatement) → at_end fs0 st0 ≡ settled_at (InBegin done ∷ fs) st
    → (step (stated s fs0 st0) (Reserved EndWord) ≡ step (stating s (InBegin (done ++ st ∷ []) ∷ fs)) (Reserved EndWord))
    × (step (stated s fs0 st0) (Reserved BeginWord) ≡ step (stating s (InBegin (done ++ st ∷ []) ∷ fs)) (Reserved BeginWord))
    × (step (stated s fs0 st0) (Reserved IfWord) ≡ step (stating s (InBegin (done ++ st ∷ []) ∷ fs)) (Reserved IfWord))
    × ((n : List ℕ) → step (stated s fs0 st0) (Name n) ≡ step (stating s (InBegin (done ++ st ∷ []) ∷ fs)) (Name n))
unfolding step
behind s fs0 fs done st0 st h = (rw h refl, rw h refl, rw h refl, λ n. rw h refl)

first-same : (st : WrittenStatement) (x y : State) (rest : List Token) → IsStatementAt Single st → step x (Reserved BeginWord) ≡ step y (Reserved BeginWord) → step x (Reserved IfWord) ≡ step y (Reserved IfWord) → ((n : List ℕ) → step x (Name n) ≡ step y (Name n))
    → steps x (spell_statement st ++ rest) ≡ steps y (spell_statement st ++ rest)
first-same (Update n e) x y rest g b f m = machine-same step steps is-machine x y (Name n) _ (m n)
first-same (UpdateWord n a e) x y rest g b f m = machine-same step steps is-machine x y (Name n) _ (m n)
first-same (IfThen c a) x y rest g b f m = machine-same step steps is-machine x y (Reserved IfWord) _ f
first-same (IfElse c a d) x y rest g b f m = machine-same step steps is-machine x y (Reserved IfWord) _ f
first-same (Block l) x y rest g b f m = machine-same step steps is-machine x y (Reserved BeginWord) _ b
first-same (Listed a c) x y rest g b f m = absurd g
first-same Ended x y rest g b f m = absurd g

goes_on : (l : WrittenStatement) (s : State) (fs0 fs : List Frame) (done : List WrittenStatement) (st0 st : WrittenStatement) (rest : List Token) → IsStatementAt InBlock l → at_end fs0 st0 ≡ settled_at (InBegin done ∷ fs) st
    → steps (stated s fs0 st0) (spell_statement l ++ Reserved EndWord ∷ rest) ≡ steps (stating s (InBegin (done ++ st ∷ []) ∷ fs)) (spell_statement l ++ Reserved EndWord ∷ rest)
goes_on Ended s fs0 fs done st0 st rest g h = machine-same step steps is-machine _ _ (Reserved EndWord) rest (behind s fs0 fs done st0 st h).0
goes_on (Listed a b) s fs0 fs done st0 st rest g h =
    let same = behind s fs0 fs done st0 st h in
    ap (steps (stated s fs0 st0)) (append_assoc (spell_statement a) (spell_statement b) (Reserved EndWord ∷ rest))
    ∙ first-same a _ _ (spell_statement b ++ Reserved EndWord ∷ rest) g.0 same.1 same.2 same.3
    ∙ ap (steps (stating s (InBegin (done ++ st ∷ []) ∷ fs))) (sym (append_assoc (spell_statement a) (spell_statement b) (Reserved EndWord ∷ rest)))
goes_on (Update n e) s fs0 fs done st0 st rest g h = absurd g
goes_on (UpdateWord n a e) s fs0 fs done st0 st rest g h = absurd g
goes_on (IfThen c a) s fs0 fs done st0 st rest g h = absurd g
goes_on (IfElse c a b) s fs0 fs done st0 st rest g h = absurd g
goes_on (Block l) s fs0 fs done st0 st rest g h = absurd g

-- a list's end behind the statements that were read
abbrev pub onto : List WrittenStatement → WrittenStatement → WrittenStatement
onto [] l = l
onto (d ∷ ds) l = Listed d (onto ds l)

onto-ended : (done : List WrittenStatement) → listed done ≡ onto done Ended
onto-ended [] = refl
onto-ended (d ∷ ds) = ap (Listed d) (onto-ended ds)

onto-append : (done : List WrittenStatement) (a l : WrittenStatement) → onto (done ++ a ∷ []) l ≡ onto done (Listed a l)
onto-append [] a l = refl
onto-append (d ∷ ds) a l = ap (Listed d) (onto-append ds a l)

-- ---- whole statements

abbrev pub IsReadSingle : WrittenStatement → Type 0
IsReadSingle st = (s : State) (fs : List Frame) (rest : List Token) → IsStatementAt Single st
    → steps (stating s fs) (spell_statement st ++ rest) ≡ steps (stated s (holds st fs) (final_of st)) rest

abbrev pub IsReadInBlock : WrittenStatement → Type 0
IsReadInBlock l = (s : State) (fs : List Frame) (done : List WrittenStatement) (rest : List Token) → IsStatementAt InBlock l
    → steps (stating s (InBegin done ∷ fs)) (spell_statement l ++ Reserved EndWord ∷ rest) ≡ steps (stated s fs (Block (onto done l))) rest

pub record IsReadAs (st : WrittenStatement) : Type 0 where
  pub single : IsReadSingle st
  pub in_block : IsReadInBlock st

pub reads_statement : (st : WrittenStatement) → IsReadAs st
reads_statement (Update n e) = record {
  single = λ s fs rest g.
      is-machine.goes _ _ (Name n) (Mark LessEquals ∷ ((spell_expr e ++ Mark Semicolon ∷ []) ++ rest)) (state-name s fs n)
      ∙ is-machine.goes _ _ (Mark LessEquals) ((spell_expr e ++ Mark Semicolon ∷ []) ++ rest) (target-arrow s fs n)
      ∙ ap (steps (wanting s (UpdateTo n ∷ fs))) (append_assoc (spell_expr e) (Mark Semicolon ∷ []) rest)
      ∙ read-update s fs n e rest g;
  in_block = λ s fs done rest g. absurd g;
}
reads_statement (UpdateWord n a e) = record {
  single = λ s fs rest g.
      is-machine.goes _ _ (Name n) (Mark OpenBracket ∷ ((spell_expr a ++ Mark CloseBracket ∷ Mark LessEquals ∷ (spell_expr e ++ Mark Semicolon ∷ [])) ++ rest)) (state-name s fs n)
      ∙ is-machine.goes _ _ (Mark OpenBracket) ((spell_expr a ++ Mark CloseBracket ∷ Mark LessEquals ∷ (spell_expr e ++ Mark Semicolon ∷ [])) ++ rest) (target-index s fs n)
      ∙ ap (steps (wanting s (AddressFor n ∷ fs))) (append_assoc (spell_expr a) (Mark CloseBracket ∷ Mark LessEquals ∷ (spell_expr e ++ Mark Semicolon ∷ [])) rest)
      ∙ read-address s fs n a (Mark LessEquals ∷ ((spell_expr e ++ Mark Semicolon ∷ []) ++ rest)) g.0
      ∙ is-machine.goes _ _ (Mark LessEquals) ((spell_expr e ++ Mark Semicolon ∷ []) ++ rest) (word-arrow s fs n a)
      ∙ ap (steps (wanting s (UpdateWordTo n a ∷ fs))) (append_assoc (spell_expr e) (Mark Semicolon ∷ []) rest)
      ∙ read-word s fs n a e rest g.1;
  in_block = λ s fs done rest g. absurd g;
}
reads_statement (IfThen c a) = record {
  single = λ s fs rest g.
      ap (λ (x : List Token). steps (stating s fs) (Reserved IfWord ∷ Mark OpenParen ∷ x)) (append_assoc (spell_expr c) (Mark CloseParen ∷ spell_statement a) rest)
      ∙ read-test s fs c (spell_statement a ++ rest) g.0
      ∙ (reads_statement a).single s (ThenOf c ∷ fs) rest g.1;
  in_block = λ s fs done rest g. absurd g;
}
reads_statement (IfElse c a b) = record {
  single = λ s fs rest g.
      ap (λ (x : List Token). steps (stating s fs) (Reserved IfWord ∷ Mark OpenParen ∷ x)) (append_assoc (spell_expr c) (Mark CloseParen ∷ (spell_statement a ++ Reserved ElseWord ∷ spell_statement b)) rest)
      ∙ read-test s fs c ((spell_statement a ++ Reserved ElseWord ∷ spell_statement b) ++ rest) g.0
      ∙ ap (steps (stating s (ThenOf c ∷ fs))) (append_assoc (spell_statement a) (Reserved ElseWord ∷ spell_statement b) rest)
      ∙ (reads_statement a).single s (ThenOf c ∷ fs) (Reserved ElseWord ∷ (spell_statement b ++ rest)) g.2
      ∙ is-machine.goes _ _ (Reserved ElseWord) (spell_statement b ++ rest) (take-else s (holds a (ThenOf c ∷ fs)) (ElseOf c a ∷ fs) (final_of a) (else-holds a (ThenOf c ∷ fs) g.1 ∙ else-then c fs a))
      ∙ (reads_statement b).single s (ElseOf c a ∷ fs) rest g.3;
  in_block = λ s fs done rest g. absurd g;
}
reads_statement (Block l) = record {
  single = λ s fs rest g.
      is-machine.goes _ _ (Reserved BeginWord) ((spell_statement l ++ Reserved EndWord ∷ []) ++ rest) (state-begin s fs)
      ∙ ap (steps (stating s (InBegin [] ∷ fs))) (append_assoc (spell_statement l) (Reserved EndWord ∷ []) rest)
      ∙ (reads_statement l).in_block s fs [] rest g;
  in_block = λ s fs done rest g. absurd g;
}
reads_statement (Listed a b) = record {
  single = λ s fs rest g. absurd g;
  in_block = λ s fs done rest g.
      ap (steps (stating s (InBegin done ∷ fs))) (append_assoc (spell_statement a) (spell_statement b) (Reserved EndWord ∷ rest))
      ∙ (reads_statement a).single s (InBegin done ∷ fs) (spell_statement b ++ Reserved EndWord ∷ rest) g.0
      ∙ goes_on b s (holds a (InBegin done ∷ fs)) fs done (final_of a) a rest g.1 (end-holds a (InBegin done ∷ fs) ∙ end-begin done fs a)
      ∙ (reads_statement b).in_block s fs (done ++ a ∷ []) rest g.1
      ∙ ap (λ (l : WrittenStatement). steps (stated s fs (Block l)) rest) (onto-append done a b);
}
reads_statement Ended = record {
  single = λ s fs rest g. absurd g;
  in_block = λ s fs done rest g.
      is-machine.goes _ _ (Reserved EndWord) rest (state-end s fs done)
      ∙ ap (λ (l : WrittenStatement). steps (stated s fs (Block l)) rest) (onto-ended done);
}
