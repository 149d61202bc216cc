-- Which statements a text of several queries has over a schema, and what is wrong with a text that has none.
use Rattle.std.specs.Prelude.{◌≡◌, ◌⊎◌, ℕ, not, List, [], ◌∷◌, ◌++◌, length, map, Option, Some, None, Err, bytes_eq, nat_lt}
use Rattle.std.specs.List.{list_any}
use Rattle.gl_bits.specs.Limits.{most_statements}
use Rattle.gl_schema.specs.declared.schema.Schema.{Schema}
use Rattle.gl_query.specs.declared.fault.QueryFault.{QueryFault}
use Rattle.gl_query.specs.declared.fault.QueryFault.TheVariants as fault
use Rattle.gl_query.specs.declared.tree.Name.{Name}
use Rattle.gl_query.specs.Faults.{or_else, unless, first_fault}
use Rattle.gl_query.specs.Checked.{IsChecked}
use Rattle.gl_query.specs.Trees.{StatementTree, statement_tree}
use Rattle.gl_query_check.specs.declared.checking.Checked.{Checked}
use Rattle.gl_query_reader.specs.Grammar.{HaveStatement, HaveVerdict}
use Rattle.gl_query_texts.specs.Pieces.{Piece, pieces_of}

-- the names that statements have behind INTO
abbrev pub names_of : List StatementTree → List (List ℕ)
names_of ss = map (λ (s : StatementTree). s.name.text) ss

-- behind statements of these names stands one more: its name is none of theirs, and it is one of at most eight
abbrev pub name_fault : List (List ℕ) → Name → Option QueryFault
name_fault names name =
    or_else (unless (not (list_any (bytes_eq name.text) names)) (fault.TwiceNamed name.at))
    (unless (nat_lt (length names) most_statements) (fault.OutOfRange name.at))

-- the first rule that it breaks there: those of acceptance come before that of its name
abbrev pub statement_fault : Schema → List (List ℕ) → StatementTree → Option QueryFault
statement_fault schema names s = or_else (first_fault schema s) (name_fault names s.name)

-- behind statements of these names the piece has this one, which breaks no rule
pub record IsPiece (schema : Schema) (names : List (List ℕ)) (p : Piece) (s : StatementTree) : Type 0 where
  pub has : HaveStatement p.tokens s
  pub first : statement_fault schema names s ≡ None

-- behind statements of these names the piece has one that breaks a rule, and this is the first
pub record BreaksRule (schema : Schema) (names : List (List ℕ)) (p : Piece) (f : QueryFault) : Type 0 where
  pub statement : StatementTree
  pub has : HaveStatement p.tokens statement
  pub first : statement_fault schema names statement ≡ Some f

-- what is wrong with the piece there: what reading finds in its tokens, or the first rule that its statement breaks
abbrev pub IsPieceFault : Schema → List (List ℕ) → Piece → QueryFault → Type 0
IsPieceFault schema names p f = HaveVerdict p.tokens p.end (Err f) ⊎ BreaksRule schema names p f

-- behind statements of these names each piece has the next statement
abbrev pub AreStatements : Schema → List (List ℕ) → List Piece → List StatementTree → Type 0
AreStatements schema names [] [] = Unit {0}
AreStatements schema names [] (s ∷ ss) = ⊥
AreStatements schema names (p ∷ ps) [] = ⊥
AreStatements schema names (p ∷ ps) (s ∷ ss) =
    IsPiece schema names p s × AreStatements schema (names ++ s.name.text ∷ []) ps ss

-- the first fault from the left: all pieces before it have statements, behind which it is wrong with the next piece
pub record HaveFirstFault (schema : Schema) (ps : List Piece) (f : QueryFault) : Type 0 where
  pub before : List Piece
  pub broken : Piece
  pub behind : List Piece
  pub parts : ps ≡ before ++ broken ∷ behind
  pub statements : List StatementTree
  pub are : AreStatements schema [] before statements
  pub fault : IsPieceFault schema (names_of statements) broken f

-- the text of several queries has these statements over the schema
abbrev pub HasStatements : Schema → List ℕ → List StatementTree → Type 0
HasStatements schema text ss = AreStatements schema [] (pieces_of text) ss

-- this is the first thing that is wrong with a text of several queries
abbrev pub IsListFault : Schema → List ℕ → QueryFault → Type 0
IsListFault schema text f = HaveFirstFault schema (pieces_of text) f

-- a text of several queries has this fault, or memory ran out
abbrev pub IsFaultOrMemory : Schema → List ℕ → QueryFault → Type 0
IsFaultOrMemory schema text f = IsListFault schema text f ⊎ (f ≡ fault.Memory)

-- a statement that was checked, without its places in memory
abbrev pub tree_of : Checked → StatementTree
tree_of c = statement_tree c.statement

-- a statement was checked over this schema
pub record IsCheckedOver (schema : Schema) (c : Checked) : Type 0 where
  pub over : c.schema ≡ schema
  pub checked : IsChecked c.schema c.statement
