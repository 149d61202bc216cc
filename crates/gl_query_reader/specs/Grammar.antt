-- Which texts have a statement, and which statement that is.
use Rattle.std.specs.Prelude.{◌≡◌, ℕ, true, List, [], ◌∷◌, ◌++◌, length, map, Some, None, Result, Ok, Err, ◌⊎◌}
use Rattle.gl_query.specs.declared.tree.Statement as tree
use Rattle.gl_query.specs.declared.fault.QueryFault.{QueryFault}
use Rattle.gl_query.specs.declared.fault.QueryFault.TheVariants as fault
use Rattle.gl_query.specs.Shapes.{StatementShape}
use Rattle.gl_query.specs.Alike.{statement_alike}
use Rattle.gl_query.specs.Sizes.{QueryIsSmall}
use Rattle.gl_query.specs.Names.{StatementHasNames}
use Rattle.gl_query_tokens.specs.declared.token.Token.{Token}
use Rattle.gl_query_tokens.specs.declared.token.Lexeme.{Lexeme}
use Rattle.gl_query_tokens.specs.Tokens.{tokens_of}
use Rattle.gl_query_reader.specs.Written.{Statement, IsQuery, spell_statement}
use Rattle.gl_query_reader.specs.Limits.{none_counted, counted, is_past, keeps_limits}
use Rattle.gl_query_reader.specs.Meaning.{statement_meaning}
use Rattle.gl_query.specs.Trees.{StatementTree, statement_tree}
use Rattle.gl_query_reader.specs.Mixed.{mixed_in}

-- tokens without where they begin
abbrev pub bare_tokens : List Lexeme → List Token
bare_tokens ls = map (λ (l : Lexeme). l.token) ls

-- the tokens spell this statement as it is written, and the grammar derives it
pub record Derives (tokens : List Token) (w : Statement) : Type 0 where
  pub grammar : IsQuery w.query
  pub spelled : spell_statement w ≡ tokens

-- the tokens begin a statement
abbrev pub CanBegin : List Token → Type 0
CanBegin tokens = (more : List Token) × (w : Statement) × Derives (tokens ++ more) w

-- the tokens have this statement: they derive it, pass no limit, and its items go together
pub record HaveStatement (tokens : List Lexeme) (s : StatementTree) : Type 0 where
  pub written : Statement
  pub derived : Derives (bare_tokens tokens) written
  pub limits : keeps_limits none_counted (bare_tokens tokens) ≡ true
  pub items : mixed_in written.query ≡ None
  pub means : s ≡ statement_meaning written

-- what a function returned is this statement, unless memory ran out
abbrev pub IsOrMemory : Result tree.Statement QueryFault → StatementTree → Type 0
IsOrMemory (Ok s) m = statement_tree s ≡ m
IsOrMemory (Err fault.Memory) m = Unit {0}
IsOrMemory (Err e) m = ⊥

-- what a function returned is this fault, unless memory ran out
abbrev pub IsErrOrMemory : Result tree.Statement QueryFault → QueryFault → Type 0
IsErrOrMemory r e = (r ≡ Err e) ⊎ (r ≡ Err fault.Memory)

-- why reading stops: no statement goes on with the token at this place, or, at the tokens' end, what was read is none
abbrev pub Stops : ℕ → ℕ → List Lexeme → List Lexeme → Type 0
Stops end at read [] = (at ≡ end) × ((w : Statement) → Derives (bare_tokens read) w → ⊥)
Stops end at read (l ∷ left) = (at ≡ l.at) × (CanBegin (bare_tokens (read ++ l ∷ [])) → ⊥)

-- the tokens before this place pass no limit and begin a statement; with the one at it they begin none
pub record HaveSyntaxFault (tokens : List Lexeme) (end at : ℕ) : Type 0 where
  pub read : List Lexeme
  pub left : List Lexeme
  pub parts : tokens ≡ read ++ left
  pub limits : keeps_limits none_counted (bare_tokens read) ≡ true
  pub begins : CanBegin (bare_tokens read)
  pub stops : Stops end at read left

-- the tokens before this place pass no limit, the one at it does, and up to it they begin a statement
pub record HaveDepthFault (tokens : List Lexeme) (at : ℕ) : Type 0 where
  pub read : List Lexeme
  pub deep : Lexeme
  pub left : List Lexeme
  pub parts : tokens ≡ read ++ deep ∷ left
  pub place : at ≡ deep.at
  pub limits : keeps_limits none_counted (bare_tokens read) ≡ true
  pub past : is_past (counted none_counted (bare_tokens (read ++ deep ∷ []))) ≡ true
  pub begins : CanBegin (bare_tokens (read ++ deep ∷ []))

-- the tokens would have a statement, but items of a select do not go together
pub record HaveItemsFault (tokens : List Lexeme) (at : ℕ) : Type 0 where
  pub written : Statement
  pub derived : Derives (bare_tokens tokens) written
  pub limits : keeps_limits none_counted (bare_tokens tokens) ≡ true
  pub items : mixed_in written.query ≡ Some at

-- what tokens come to: their statement, or what is wrong with them and where
abbrev pub Verdict : Type 0
Verdict = Result StatementTree QueryFault

-- what a verdict on a list of tokens claims: a statement, or a fault of the grammar, of the depth or of its items
abbrev pub HaveVerdict : List Lexeme → ℕ → Verdict → Type 0
HaveVerdict tokens end (Ok s) = HaveStatement tokens s
HaveVerdict tokens end (Err (fault.Syntax at)) = HaveSyntaxFault tokens end at
HaveVerdict tokens end (Err (fault.TooDeep at)) = HaveDepthFault tokens at
HaveVerdict tokens end (Err (fault.MixedItems at)) = HaveItemsFault tokens at
HaveVerdict tokens end (Err e) = ⊥

-- what is wrong with tokens
abbrev pub HaveFault : List Lexeme → ℕ → QueryFault → Type 0
HaveFault tokens end (fault.Syntax at) = HaveSyntaxFault tokens end at
HaveFault tokens end (fault.TooDeep at) = HaveDepthFault tokens at
HaveFault tokens end (fault.MixedItems at) = HaveItemsFault tokens at
HaveFault tokens end fault.Memory = Unit {0}
HaveFault tokens end e = ⊥

-- ---- a text has what its tokens have, which end at its length

-- a text reads as this statement
abbrev pub HasStatement : List ℕ → StatementTree → Type 0
HasStatement text s = HaveStatement (tokens_of text) s

-- a text breaks the grammar at this place
abbrev pub IsSyntaxFault : List ℕ → ℕ → Type 0
IsSyntaxFault text at = HaveSyntaxFault (tokens_of text) (length text) at

-- a text passes a limit on nesting or on length at this place
abbrev pub IsDepthFault : List ℕ → ℕ → Type 0
IsDepthFault text at = HaveDepthFault (tokens_of text) at

-- items that do not go together in one select begin at this place of a text
abbrev pub IsItemsFault : List ℕ → ℕ → Type 0
IsItemsFault text at = HaveItemsFault (tokens_of text) at

-- a verdict is right for a text
abbrev pub IsVerdict : List ℕ → Verdict → Type 0
IsVerdict text v = HaveVerdict (tokens_of text) (length text) v

-- a text's first fault is this one; want of memory may come with any text
abbrev pub IsFault : List ℕ → QueryFault → Type 0
IsFault text f = HaveFault (tokens_of text) (length text) f

-- ---- what holds of all texts

-- no tokens have two statements
abbrev pub HaveOneStatement : Type 0
HaveOneStatement = (tokens : List Token) (v w : Statement) → Derives tokens v → Derives tokens w → v ≡ w

-- a text comes to one thing
pub record HasOneVerdict (text : List ℕ) : Type 0 where
  pub verdict : Verdict
  pub is : IsVerdict text verdict
  pub only : (other : Verdict) → IsVerdict text other → other ≡ verdict

-- each text has exactly one of a statement, a syntax fault, a depth fault and a fault of items, at one place
abbrev pub TextsHaveOneVerdict : Type 0
TextsHaveOneVerdict = (text : List ℕ) → HasOneVerdict text

-- the whole expressions of a statement that a text has are small, and its names are names
pub record IsRegular (s : StatementShape) : Type 0 where
  pub small : QueryIsSmall s.query
  pub names : StatementHasNames s

-- every statement that some text reads as is regular
abbrev pub StatementsAreRegular : Type 0
StatementsAreRegular = (text : List ℕ) (s : StatementTree) → HasStatement text s → IsRegular (statement_alike s)
