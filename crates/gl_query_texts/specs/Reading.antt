-- Reading piece by piece, from the left.
-- A middle layer, proved equal to `Lists`: no promise rests on it.
use Rattle.std.specs.Prelude.{◌≡◌, ◌⊎◌, ℕ, List, [], ◌∷◌, ◌++◌, map, Some, None, Result, Ok, Err}
use Rattle.std.specs.List.{AllByRecursion}
use Rattle.gl_schema.specs.declared.schema.Schema.{Schema}
use Rattle.gl_query.specs.declared.fault.QueryFault.{QueryFault}
use Rattle.gl_query.specs.declared.fault.QueryFault.TheVariants as fault
use Rattle.gl_query_check.specs.declared.checking.Checked.{Checked}
use Rattle.gl_query_texts.specs.Pieces.{Piece}
use Rattle.gl_query_texts.specs.Lists.{AreStatements, HaveFirstFault, IsCheckedOver, IsPiece, IsPieceFault, name_fault, names_of, tree_of}

-- the names of statements that were checked
abbrev pub names_before : List Checked → List (List ℕ)
names_before cs = names_of (map tree_of cs)

-- the name of a statement may stand behind these, or this is wrong with it
abbrev pub IsNamed : List (List ℕ) → Checked → Result Checked QueryFault → Type 0
IsNamed names c (Ok d) = (d ≡ c) × (name_fault names c.statement.name ≡ None)
IsNamed names c (Err f) = name_fault names c.statement.name ≡ Some f

-- a piece has this fault, or memory ran out
abbrev pub IsPieceFaultOrMemory : Schema → List (List ℕ) → Piece → QueryFault → Type 0
IsPieceFaultOrMemory schema names p f = IsPieceFault schema names p f ⊎ (f ≡ fault.Memory)

-- the first piece has a statement, which stands behind the old ones now; these pieces are left
pub record GoesOn (schema : Schema) (ps left : List Piece) (old new : List Checked) : Type 0 where
  pub first : Piece
  pub checked : Checked
  pub parts : ps ≡ first ∷ left
  pub is : IsPiece schema (names_before old) first (tree_of checked)
  pub over : IsCheckedOver schema checked
  pub more : new ≡ old ++ checked ∷ []

-- this is wrong with the first piece
pub record IsWrong (schema : Schema) (names : List (List ℕ)) (ps : List Piece) (f : QueryFault) : Type 0 where
  pub first : Piece
  pub behind : List Piece
  pub parts : ps ≡ first ∷ behind
  pub fault : IsPieceFault schema names first f

-- some piece has this fault, or memory ran out
abbrev pub IsWrongOrMemory : Schema → List (List ℕ) → List Piece → QueryFault → Type 0
IsWrongOrMemory schema names ps f = IsWrong schema names ps f ⊎ (f ≡ fault.Memory)

-- the pieces before those that are left have these statements
pub record Came (schema : Schema) (ps left : List Piece) (cs : List Checked) : Type 0 where
  pub before : List Piece
  pub parts : ps ≡ before ++ left
  pub are : AreStatements schema [] before (map tree_of cs)
  pub over : AllByRecursion (IsCheckedOver schema) cs

-- all pieces have these statements
pub record IsDone (schema : Schema) (ps : List Piece) (cs : List Checked) : Type 0 where
  pub are : AreStatements schema [] ps (map tree_of cs)
  pub over : AllByRecursion (IsCheckedOver schema) cs

-- this is the first fault of all pieces, or memory ran out
abbrev pub HaveFirstFaultOrMemory : Schema → List Piece → QueryFault → Type 0
HaveFirstFaultOrMemory schema ps f = HaveFirstFault schema ps f ⊎ (f ≡ fault.Memory)
