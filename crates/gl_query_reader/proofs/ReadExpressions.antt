-- An expression that is spelled is read again.
use Rattle.std.proofs.Common.{◌≡◌, ℕ, ◌<◌, ◌≤◌, List, [], ◌∷◌, ◌++◌, Some, refl, ap, ◌∙◌, append_assoc, arith}
use Rattle.std.proofs.lemmas.Bool.{le-leb, lt-leb, lt-ltb}
use Rattle.gl_values.specs.declared.kind.Kind.{Kind}
use Rattle.gl_schema.specs.SchemaFaults.{kind_named}
use Rattle.gl_query.specs.declared.tree.Name.{Name}
use Rattle.gl_query.specs.declared.tree.Num.{Num}
use Rattle.gl_values.specs.declared.op.Op.{Op}
use Rattle.gl_values.specs.declared.op.Op.TheVariants as op
use Rattle.gl_query_tokens.specs.declared.token.Plain.TheVariants as plain
use Rattle.gl_query_tokens.specs.declared.token.Token.{Token}
use Rattle.gl_query_tokens.specs.declared.token.Token.TheVariants as token
use Rattle.gl_query_tokens.specs.Sorts.{plain_eq}
use Rattle.gl_query_reader.specs.Written.{Expr, Column, Number, Minus, Parameter, Letters, Brackets, Cast, Flip, Not, Binary, looseness, left_looseness, level, IsExpr, spell}
use Rattle.gl_query_reader.specs.States.{State, Frame, LeftOf, FlipOf, NotOf, BracketOf, InCast, WantOperand, HaveExpr}
use Rattle.gl_query_reader.specs.Machine.{Reduced, room, reduced, step}
use Rattle.gl_query_reader.proofs.Steps.{steps, state}

-- what is still open at an expression's end, and its last operand
abbrev pub waits : Expr → List Frame → List Frame
waits (Flip at e) fs = waits e (FlipOf at ∷ fs)
waits (Not at e) fs = waits e (NotOf at ∷ fs)
waits (Binary o at l r) fs = waits r (LeftOf l o at ∷ fs)
waits e fs = fs

abbrev pub last_of : Expr → Expr
last_of (Flip at e) = last_of e
last_of (Not at e) = last_of e
last_of (Binary o at l r) = last_of r
last_of e = e

abbrev pub pair : List Frame → Expr → Reduced
pair fs e = (fs, e)

-- nothing on top binds as tight as p, which is no tighter than an operator
pub reduced-blocked : (p : ℕ) (fs : List Frame) (e : Expr) → 2 ≤ p → p < room fs → reduced p fs e ≡ pair fs e
unfolding reduced
reduced-blocked p [] e two lt = refl
reduced-blocked p (LeftOf l o at ∷ fs) e two lt = rw (lt-leb (looseness o) p lt) refl
reduced-blocked p (FlipOf at ∷ fs) e two lt = absurd (omega (arith, two, lt))
reduced-blocked p (NotOf at ∷ fs) e two lt = rw (lt-leb 9 p lt) refl
reduced-blocked p (f ∷ fs) e two lt = refl

pub reduced-flip : (p at : ℕ) (fs : List Frame) (e : Expr) → 1 ≤ p → reduced p (FlipOf at ∷ fs) e ≡ reduced p fs (Flip at e)
unfolding reduced
reduced-flip p at fs e le = rw (le-leb 1 p le) refl

pub reduced-not : (p at : ℕ) (fs : List Frame) (e : Expr) → 9 ≤ p → reduced p (NotOf at ∷ fs) e ≡ reduced p fs (Not at e)
unfolding reduced
reduced-not p at fs e le = rw (le-leb 9 p le) refl

pub reduced-binary : (p : ℕ) (o : Op) (at : ℕ) (l : Expr) (fs : List Frame) (e : Expr) → looseness o ≤ p → reduced p (LeftOf l o at ∷ fs) e ≡ reduced p fs (Binary o at l e)
unfolding reduced
reduced-binary p o at l fs e le = rw (le-leb (looseness o) p le) refl

-- what an expression left open is put together again
pub reduced-waits : (e : Expr) (p : ℕ) (fs : List Frame) → IsExpr e → level e ≤ p → reduced p (waits e fs) (last_of e) ≡ reduced p fs e
reduced-waits (Flip at e) p fs g le = reduced-waits e p (FlipOf at ∷ fs) g.1 (omega (arith, g.0, le)) ∙ reduced-flip p at fs e le
reduced-waits (Not at e) p fs g le = reduced-waits e p (NotOf at ∷ fs) g.1 (omega (arith, g.0)) ∙ reduced-not p at fs e le
reduced-waits (Binary o at l r) p fs g le = reduced-waits r p (LeftOf l o at ∷ fs) g.3 (omega (arith, g.1)) ∙ reduced-binary p o at l fs r le
reduced-waits e p fs g le = refl

pub looseness-le : (o : Op) → looseness o ≤ 11
looseness-le op.Mul = omega arith
looseness-le op.Add = omega arith
looseness-le op.Sub = omega arith
looseness-le op.ShiftLeft = omega arith
looseness-le op.ShiftRight = omega arith
looseness-le op.BitAnd = omega arith
looseness-le op.BitXor = omega arith
looseness-le op.BitOr = omega arith
looseness-le op.Eq = omega arith
looseness-le op.Ne = omega arith
looseness-le op.Lt = omega arith
looseness-le op.Le = omega arith
looseness-le op.Gt = omega arith
looseness-le op.Ge = omega arith
looseness-le op.And = omega arith
looseness-le op.Or = omega arith

pub left-le : (o : Op) → left_looseness o ≤ looseness o
left-le op.Mul = omega arith
left-le op.Add = omega arith
left-le op.Sub = omega arith
left-le op.ShiftLeft = omega arith
left-le op.ShiftRight = omega arith
left-le op.BitAnd = omega arith
left-le op.BitXor = omega arith
left-le op.BitOr = omega arith
left-le op.Eq = omega arith
left-le op.Ne = omega arith
left-le op.Lt = omega arith
left-le op.Le = omega arith
left-le op.Gt = omega arith
left-le op.Ge = omega arith
left-le op.And = omega arith
left-le op.Or = omega arith

-- no operator binds as tight as `~`
left-two : (o : Op) → 2 ≤ left_looseness o
left-two op.Mul = omega arith
left-two op.Add = omega arith
left-two op.Sub = omega arith
left-two op.ShiftLeft = omega arith
left-two op.ShiftRight = omega arith
left-two op.BitAnd = omega arith
left-two op.BitXor = omega arith
left-two op.BitOr = omega arith
left-two op.Eq = omega arith
left-two op.Ne = omega arith
left-two op.Lt = omega arith
left-two op.Le = omega arith
left-two op.Gt = omega arith
left-two op.Ge = omega arith
left-two op.And = omega arith
left-two op.Or = omega arith

pub level-lt : (e : Expr) → level e < 12
level-lt (Flip at e) = omega arith
level-lt (Not at e) = omega arith
level-lt (Binary o at l r) = omega (arith, looseness-le o)
level-lt (Column name) = omega arith
level-lt (Number n) = omega arith
level-lt (Minus at n) = omega arith
level-lt (Parameter at name) = omega arith
level-lt (Letters text at) = omega arith
level-lt (Brackets at e) = omega arith
level-lt (Cast at open' e word kind) = omega arith

-- all of an expression, in what is no operator
pub reduced-whole : (e : Expr) (fs : List Frame) → IsExpr e → 11 < room fs → reduced 11 (waits e fs) (last_of e) ≡ pair fs e
reduced-whole e fs g lt = reduced-waits e 11 fs g (omega (arith, level-lt e)) ∙ reduced-blocked 11 fs e (omega arith) lt

abbrev pub wanting : List Frame → State
wanting fs = state WantOperand fs

abbrev pub having : Expr → List Frame → State
having e fs = state (HaveExpr e) fs

-- ---- single steps

want-name : (name : Name) (fs : List Frame) (rest : List Token) → steps (wanting fs) (token.Name name ∷ rest) ≡ steps (having (Column name) fs) rest
unfolding steps step
want-name name fs rest = refl

want-number : (n : Num) (fs : List Frame) (rest : List Token) → steps (wanting fs) (token.Number n ∷ rest) ≡ steps (having (Number n) fs) rest
unfolding steps step
want-number n fs rest = refl

want-minus : (at : ℕ) (n : Num) (fs : List Frame) (rest : List Token) → steps (wanting fs) (token.Operator op.Sub at ∷ token.Number n ∷ rest) ≡ steps (having (Minus at n) fs) rest
unfolding steps step
want-minus at n fs rest = refl

want-parameter : (at : ℕ) (name : Name) (fs : List Frame) (rest : List Token) → steps (wanting fs) (token.Colon at ∷ token.Name name ∷ rest) ≡ steps (having (Parameter at name) fs) rest
unfolding steps step
want-parameter at name fs rest = refl

want-letters : (text : List ℕ) (at : ℕ) (fs : List Frame) (rest : List Token) → steps (wanting fs) (token.Letters text at ∷ rest) ≡ steps (having (Letters text at) fs) rest
unfolding steps step
want-letters text at fs rest = refl

want-open : (at : ℕ) (fs : List Frame) (rest : List Token) → steps (wanting fs) (token.Open at ∷ rest) ≡ steps (wanting (BracketOf at ∷ fs)) rest
unfolding steps step
want-open at fs rest = refl

want-cast : (at open' : ℕ) (fs : List Frame) (rest : List Token) → steps (wanting fs) (token.Cast at ∷ token.Open open' ∷ rest) ≡ steps (wanting (InCast at open' ∷ fs)) rest
unfolding steps step
want-cast at open' fs rest = refl

want-tilde : (at : ℕ) (fs : List Frame) (rest : List Token) → 1 < room fs → steps (wanting fs) (token.Tilde at ∷ rest) ≡ steps (wanting (FlipOf at ∷ fs)) rest
unfolding steps step
want-tilde at fs rest lt = rw (lt-ltb 1 (room fs) lt) refl

want-not : (at : ℕ) (fs : List Frame) (rest : List Token) → 9 < room fs → steps (wanting fs) (token.Not at ∷ rest) ≡ steps (wanting (NotOf at ∷ fs)) rest
unfolding steps step
want-not at fs rest lt = rw (lt-ltb 9 (room fs) lt) refl

at-operator : (o : Op) (at : ℕ) (fs0 fs : List Frame) (e0 e : Expr) (rest : List Token) → reduced (left_looseness o) fs0 e0 ≡ pair fs e → looseness o < room fs → steps (having e0 fs0) (token.Operator o at ∷ rest) ≡ steps (wanting (LeftOf e o at ∷ fs)) rest
unfolding steps step
at-operator o at fs0 fs e0 e rest h lt = rw (h, lt-ltb (looseness o) (room fs) lt) refl

at-close : (at : ℕ) (fs0 fs : List Frame) (e0 e : Expr) (rest : List Token) → reduced 11 fs0 e0 ≡ pair (BracketOf at ∷ fs) e → steps (having e0 fs0) (token.Plain plain.Close ∷ rest) ≡ steps (having (Brackets at e) fs) rest
unfolding steps step plain_eq
at-close at fs0 fs e0 e rest h = rw h refl

at-kind : (at open' : ℕ) (fs0 fs : List Frame) (e0 e : Expr) (word : Name) (kind : Kind) (rest : List Token) → reduced 11 fs0 e0 ≡ pair (InCast at open' ∷ fs) e → kind_named word.text ≡ Some kind
    → steps (having e0 fs0) (token.Plain plain.As ∷ token.Name word ∷ token.Plain plain.Close ∷ rest) ≡ steps (having (Cast at open' e word kind) fs) rest
unfolding steps step plain_eq
at-kind at open' fs0 fs e0 e word kind rest h k = rw (h, k) refl

-- ---- whole expressions

-- an expression is read, and then what follows it
pub reads_expr : (e : Expr) (fs : List Frame) (rest : List Token) → IsExpr e → level e < room fs → steps (wanting fs) (spell e ++ rest) ≡ steps (having (last_of e) (waits e fs)) rest
reads_expr (Column name) fs rest g lt = want-name name fs rest
reads_expr (Number n) fs rest g lt = want-number n fs rest
reads_expr (Minus at n) fs rest g lt = want-minus at n fs rest
reads_expr (Parameter at name) fs rest g lt = want-parameter at name fs rest
reads_expr (Letters text at) fs rest g lt = want-letters text at fs rest
reads_expr (Brackets at e) fs rest g lt =
    want-open at fs ((spell e ++ token.Plain plain.Close ∷ []) ++ rest)
    ∙ ap (steps (wanting (BracketOf at ∷ fs))) (append_assoc (spell e) (token.Plain plain.Close ∷ []) rest)
    ∙ reads_expr e (BracketOf at ∷ fs) (token.Plain plain.Close ∷ rest) g (level-lt e)
    ∙ at-close at (waits e (BracketOf at ∷ fs)) fs (last_of e) e rest (reduced-whole e (BracketOf at ∷ fs) g (omega arith))
reads_expr (Cast at open' e word kind) fs rest g lt =
    want-cast at open' fs ((spell e ++ token.Plain plain.As ∷ token.Name word ∷ token.Plain plain.Close ∷ []) ++ rest)
    ∙ ap (steps (wanting (InCast at open' ∷ fs))) (append_assoc (spell e) (token.Plain plain.As ∷ token.Name word ∷ token.Plain plain.Close ∷ []) rest)
    ∙ reads_expr e (InCast at open' ∷ fs) (token.Plain plain.As ∷ token.Name word ∷ token.Plain plain.Close ∷ rest) g.0 (level-lt e)
    ∙ at-kind at open' (waits e (InCast at open' ∷ fs)) fs (last_of e) e word kind rest (reduced-whole e (InCast at open' ∷ fs) g.0 (omega arith)) g.1
reads_expr (Flip at e) fs rest g lt = want-tilde at fs (spell e ++ rest) lt ∙ reads_expr e (FlipOf at ∷ fs) rest g.1 g.0
reads_expr (Not at e) fs rest g lt = want-not at fs (spell e ++ rest) lt ∙ reads_expr e (NotOf at ∷ fs) rest g.1 g.0
reads_expr (Binary o at l r) fs rest g lt =
    ap (steps (wanting fs)) (append_assoc (spell l) (token.Operator o at ∷ spell r) rest)
    ∙ reads_expr l fs (token.Operator o at ∷ (spell r ++ rest)) g.2 (omega (arith, g.0, left-le o, lt))
    ∙ at-operator o at (waits l fs) fs (last_of l) l (spell r ++ rest) (reduced-waits l (left_looseness o) fs g.2 g.0 ∙ reduced-blocked (left_looseness o) fs l (left-two o) (omega (arith, left-le o, lt))) lt
    ∙ reads_expr r (LeftOf l o at ∷ fs) rest g.3 g.1
