-- Statements as they are written, and the tokens that spell them.
use Rattle.std.specs.Prelude.{◌≡◌, ℕ, ◌<◌, ◌≤◌, Bool, true, false, List, [], ◌∷◌, ◌++◌, Option, Some, None}
use Rattle.gl_values.specs.declared.kind.Kind.{Kind}
use Rattle.gl_schema.specs.SchemaFaults.{kind_named}
use Rattle.gl_query.specs.declared.tree.Measure.{Measure}
use Rattle.gl_query.specs.declared.tree.Measure.TheVariants.{Tuples, Time}
use Rattle.gl_query.specs.declared.tree.Name.{Name}
use Rattle.gl_query.specs.declared.tree.Num.{Num}
use Rattle.gl_values.specs.declared.op.Op.{Op}
use Rattle.gl_values.specs.declared.op.Op.TheVariants as op
use Rattle.gl_query_tokens.specs.declared.token.Fold.{Fold}
use Rattle.gl_query_reader.specs.declared.joins.Joining.{Joining}
use Rattle.gl_query_tokens.specs.declared.token.Plain.{Plain}
use Rattle.gl_query_tokens.specs.declared.token.Plain.TheVariants as plain
use Rattle.gl_query_tokens.specs.declared.token.Word.TheVariants as word
use Rattle.gl_query_tokens.specs.declared.token.Spelling.{Spelling}
use Rattle.gl_query_tokens.specs.declared.token.Token.{Token}
use Rattle.gl_query_tokens.specs.declared.token.Token.TheVariants as token
pub use Rattle.gl_query_reader.specs.Joins.{spell_join, spell_word}
pub use Rattle.gl_query_reader.specs.Ranks.{looseness, left_looseness}
use Rattle.gl_query_reader.specs.declared.written.RowWindow.{RowWindow}
use Rattle.gl_query_reader.specs.declared.written.Window.{Window}
use Rattle.gl_query_reader.specs.declared.written.Grouping.{Grouping}
use Rattle.gl_query_reader.specs.declared.written.Bound.{Bound}
use Rattle.gl_query_reader.specs.declared.written.Bound.TheVariants as bound
use Rattle.gl_query_reader.specs.declared.written.Part.{Part}
use Rattle.gl_query_reader.specs.declared.written.FrameRows.{FrameRows}
use Rattle.gl_query_reader.specs.declared.written.FrameRows.TheVariants as rows

-- an expression as it is written, brackets included
pub data Expr : Type 0 where
  Column : (name : Name) → Expr
  Number : (n : Num) → Expr
  Minus : (at : ℕ) (n : Num) → Expr
  Parameter : (at : ℕ) (name : Name) → Expr
  Letters : (text : List ℕ) (at : ℕ) → Expr
  Brackets : (at : ℕ) (e : Expr) → Expr
  Cast : (at open' : ℕ) (e : Expr) (word : Name) (kind : Kind) → Expr
  Flip : (at : ℕ) (e : Expr) → Expr
  Not : (at : ℕ) (e : Expr) → Expr
  Binary : (o : Op) (at : ℕ) (l r : Expr) → Expr

-- an aggregate as it is written
pub data Agg : Type 0 where
  Count : (at open' : ℕ) → Agg
  Fold' : (fold : Fold) (at open' : ℕ) (e : Expr) → Agg
  Wsum : (at open' : ℕ) (e : Expr) (weights : List Num) → Agg

-- a function over the rows of a frame as it is written
pub data OverAgg : Type 0 where
  CountOf : (at open' : ℕ) → OverAgg
  FoldOf : (fold : Fold) (at open' : ℕ) (e : Expr) → OverAgg
  LastOf : (word : Spelling) (open' : ℕ) (e : Expr) → OverAgg

-- FILTER as it is written, with its condition
pub data Filtering : Type 0 where
  FilterOf : (word : Spelling) (open' : ℕ) (e : Expr) → Filtering

-- what stands before OVER: LAG and how many rows it looks back, or a function over rows and its FILTER
pub data OverHead : Type 0 where
  LagOf : (word : Spelling) (open' : ℕ) (e : Expr) (back : Option Num) → OverHead
  Ranged : (agg : OverAgg) (filter : Option Filtering) → OverHead

-- a function with OVER, and PARTITION and the rows in the bracket behind it
pub data Over : Type 0 where
  OverOf : (head : OverHead) (word : Spelling) (open' : ℕ) (part : Option Part) (rows : Option FrameRows) → Over

-- an item: a column under its own name, an expression, an aggregate or a function with OVER under a name
pub data Item : Type 0 where
  Bare : (name : Name) → Item
  Named : (e : Expr) (name : Name) → Item
  Total : (agg : Agg) (name : Name) → Item
  Framed : (over : Over) (name : Name) → Item

-- what a select picks
pub data Pick : Type 0 where
  All : (at : ℕ) → Pick
  Items : (items : List Item) → Pick

-- a query as it is written: a stream and an as-of join are sources alone, and other sources and bodies stand in brackets
pub data Query : Type 0 where
  Stream : (name : Name) → Query
  InBrackets : (at : ℕ) (q : Query) → Query
  Select : (pick : Pick) (source : Query) (window : Option Window) (filter : Option Expr) (grouping : Option Grouping)
      → Query
  Windows : (at : ℕ) (var : Name) (source : Query) (window : Window) (open' : ℕ) (body : Query) → Query
  Groups : (at : ℕ) (var : Name) (source : Query) (grouping : Grouping) (window : Option RowWindow) (open' : ℕ)
      (body : Query) → Query
  AsOf' : (word : Spelling) (l r : Query) (grouping : Grouping) → Query
  Join' : (join : Joining) (at : ℕ) (l r : Query) → Query

-- a written statement: a query, the name of its result, and whether a semicolon ends it
pub record Statement : Type 0 where
  pub query : Query
  pub name : Name
  pub closed : Bool

-- ---- the grammar

-- how loose an expression is: `~` binds tighter than all operators, and NOT stands between comparisons and AND
abbrev pub level : Expr → ℕ
level (Column name) = 0
level (Number n) = 0
level (Minus at n) = 0
level (Parameter at name) = 0
level (Letters text at) = 0
level (Brackets at e) = 0
level (Cast at open' e word kind) = 0
level (Flip at e) = 1
level (Not at e) = 9
level (Binary o at l r) = looseness o

-- an expression is written by the grammar: operands bind tightly enough for their operator, and a CAST names a kind
abbrev pub IsExpr : Expr → Type 0
IsExpr (Column name) = Unit {0}
IsExpr (Number n) = Unit {0}
IsExpr (Minus at n) = Unit {0}
IsExpr (Parameter at name) = Unit {0}
IsExpr (Letters text at) = Unit {0}
IsExpr (Brackets at e) = IsExpr e
IsExpr (Cast at open' e word kind) = IsExpr e × (kind_named word.text ≡ Some kind)
IsExpr (Flip at e) = (level e < 2) × IsExpr e
IsExpr (Not at e) = (level e < 9) × IsExpr e
IsExpr (Binary o at l r) = (level l ≤ left_looseness o) × (level r < looseness o) × IsExpr l × IsExpr r

-- WSUM has at least one weight
abbrev pub IsAgg : Agg → Type 0
IsAgg (Count at open') = Unit {0}
IsAgg (Fold' fold at open' e) = IsExpr e
IsAgg (Wsum at open' e []) = ⊥
IsAgg (Wsum at open' e (n ∷ ns)) = IsExpr e

-- the argument of a function over rows is written by the grammar
abbrev pub IsOverAgg : OverAgg → Type 0
IsOverAgg (CountOf at open') = Unit {0}
IsOverAgg (FoldOf fold at open' e) = IsExpr e
IsOverAgg (LastOf word open' e) = IsExpr e

-- the condition of FILTER is written by the grammar, or there is none
abbrev pub IsFiltering : Option Filtering → Type 0
IsFiltering None = Unit {0}
IsFiltering (Some (FilterOf word open' e)) = IsExpr e

-- what stands before OVER is written by the grammar
abbrev pub IsOverHead : OverHead → Type 0
IsOverHead (LagOf word open' e back) = IsExpr e
IsOverHead (Ranged agg filter) = IsOverAgg agg × IsFiltering filter

-- LAG has no rows behind OVER, and a function over rows has some
abbrev pub FitsRows : OverHead → Option FrameRows → Type 0
FitsRows (LagOf word open' e back) None = Unit {0}
FitsRows (LagOf word open' e back) (Some r) = ⊥
FitsRows (Ranged agg filter) None = ⊥
FitsRows (Ranged agg filter) (Some r) = Unit {0}

-- a function with OVER is written by the grammar
abbrev pub IsOver : Over → Type 0
IsOver (OverOf head word open' part rows) = IsOverHead head × FitsRows head rows

-- an item is written by the grammar where its expression, its aggregate or its function is
abbrev pub IsItem : Item → Type 0
IsItem (Bare name) = Unit {0}
IsItem (Named e name) = IsExpr e
IsItem (Total agg name) = IsAgg agg
IsItem (Framed over name) = IsOver over

-- every item is written by the grammar
abbrev pub AreItems : List Item → Type 0
AreItems [] = Unit {0}
AreItems (i ∷ is) = IsItem i × AreItems is

-- a select has at least one item, or `*`
abbrev pub IsPick : Pick → Type 0
IsPick (All at) = Unit {0}
IsPick (Items []) = ⊥
IsPick (Items (i ∷ is)) = IsItem i × AreItems is

-- a filter is written by the grammar, or there is none
abbrev pub IsFilter : Option Expr → Type 0
IsFilter None = Unit {0}
IsFilter (Some e) = IsExpr e

-- a source is a stream or stands in brackets, or joins two of these; a term of UNION and CONCAT stands in brackets, or is
-- a select or an EACH
abbrev mutual
  -- what may stand as a whole query: anything but what is a source alone, with its parts by the grammar
  pub IsQuery : Query → Type 0
  IsQuery (Stream name) = ⊥
  IsQuery (InBrackets at q) = IsQuery q
  IsQuery (Select pick source window filter grouping) = IsPick pick × IsSource source × IsFilter filter
  IsQuery (Windows at var source window open' body) = IsSource source × IsQuery body
  IsQuery (Groups at var source grouping window open' body) = IsSource source × IsQuery body
  IsQuery (AsOf' w l r grouping) = ⊥
  IsQuery (Join' join at l r) = IsQuery l × IsTerm r

  -- what may stand on a side of ASOF: a stream, or a query in brackets
  pub IsSide : Query → Type 0
  IsSide (Stream name) = Unit {0}
  IsSide (InBrackets at q) = IsQuery q
  IsSide q = ⊥

  -- what may stand behind FROM or IN: a stream, a query in brackets, or two of these with ASOF between them
  pub IsSource : Query → Type 0
  IsSource (Stream name) = Unit {0}
  IsSource (InBrackets at q) = IsQuery q
  IsSource (AsOf' w l r grouping) = IsSide l × IsSide r
  IsSource q = ⊥

  -- what may stand on the right of a join: a query in brackets, a select, or an EACH
  pub IsTerm : Query → Type 0
  IsTerm (Stream name) = ⊥
  IsTerm (InBrackets at q) = IsQuery q
  IsTerm (Select pick source window filter grouping) = IsPick pick × IsSource source × IsFilter filter
  IsTerm (Windows at var source window open' body) = IsSource source × IsQuery body
  IsTerm (Groups at var source grouping window open' body) = IsSource source × IsQuery body
  IsTerm (AsOf' w l r grouping) = ⊥
  IsTerm (Join' join at l r) = ⊥

-- ---- the tokens

-- a number's minus sign is the token of an operator, and a parameter is a colon and a name
abbrev pub spell : Expr → List Token
spell (Column name) = token.Name name ∷ []
spell (Number n) = token.Number n ∷ []
spell (Minus at n) = token.Operator op.Sub at ∷ token.Number n ∷ []
spell (Parameter at name) = token.Colon at ∷ token.Name name ∷ []
spell (Letters text at) = token.Letters text at ∷ []
spell (Brackets at e) = token.Open at ∷ (spell e ++ token.Plain plain.Close ∷ [])
spell (Cast at open' e word kind) =
    token.Cast at ∷ token.Open open' ∷ (spell e ++ token.Plain plain.As ∷ token.Name word ∷ token.Plain plain.Close
    ∷ [])
spell (Flip at e) = token.Tilde at ∷ spell e
spell (Not at e) = token.Not at ∷ spell e
spell (Binary o at l r) = spell l ++ token.Operator o at ∷ spell r

-- numbers with a comma between each two
abbrev pub spell_numbers : List Num → List Token
spell_numbers [] = []
spell_numbers (n ∷ []) = token.Number n ∷ []
spell_numbers (n ∷ m ∷ ns) = token.Number n ∷ token.Plain plain.Comma ∷ spell_numbers (m ∷ ns)

-- the tokens of an aggregate: its keyword, and in brackets its argument and its weights
abbrev pub spell_agg : Agg → List Token
spell_agg (Count at open') = token.Count at ∷ token.Open open' ∷ token.Plain plain.Close ∷ []
spell_agg (Fold' fold at open' e) = token.Fold fold at ∷ token.Open open' ∷ (spell e ++ token.Plain plain.Close ∷ [])
spell_agg (Wsum at open' e ns) =
    token.Wsum at ∷ token.Open open' ∷ (spell e ++ token.Plain plain.Comma ∷ token.Plain plain.LeftSquare
    ∷ (spell_numbers ns ++ token.Plain plain.RightSquare ∷ token.Plain plain.Close ∷ []))

-- the tokens of a function over rows: its keyword or its word, and in brackets its argument
abbrev pub spell_over_agg : OverAgg → List Token
spell_over_agg (CountOf at open') = token.Count at ∷ token.Open open' ∷ token.Plain plain.Close ∷ []
spell_over_agg (FoldOf fold at open' e) = token.Fold fold at ∷ token.Open open' ∷ (spell e ++ token.Plain plain.Close ∷ [])
spell_over_agg (LastOf w open' e) =
    spell_word word.LastValue w ∷ token.Open open' ∷ (spell e ++ token.Plain plain.Close ∷ [])

-- `FILTER ( WHERE condition )`, or none
abbrev pub spell_filtering : Option Filtering → List Token
spell_filtering None = []
spell_filtering (Some (FilterOf w open' e)) =
    spell_word word.Filter w ∷ token.Open open' ∷ token.Plain plain.Where ∷ (spell e ++ token.Plain plain.Close ∷ [])

-- a comma and how many rows LAG looks back, or none
abbrev pub spell_back : Option Num → List Token
spell_back None = []
spell_back (Some n) = token.Plain plain.Comma ∷ token.Number n ∷ []

-- the tokens of what stands before OVER
abbrev pub spell_head : OverHead → List Token
spell_head (LagOf w open' e back) =
    spell_word word.Lag w ∷ token.Open open' ∷ (spell e ++ (spell_back back ++ token.Plain plain.Close ∷ []))
spell_head (Ranged agg filter) = spell_over_agg agg ++ spell_filtering filter

-- a number of rows, or UNBOUNDED
abbrev pub spell_bound : Bound → Token
spell_bound (bound.Number n) = token.Number n
spell_bound (bound.Unbounded w) = spell_word word.Unbounded w

-- `ROWS bound PRECEDING`, or `ROWS BETWEEN bound PRECEDING AND CURRENT ROW`, or none
abbrev pub spell_rows : Option FrameRows → List Token
spell_rows None = []
spell_rows (Some (rows.Short r b p)) = spell_word word.Rows r ∷ spell_bound b ∷ spell_word word.Preceding p ∷ []
spell_rows (Some (rows.Between f at c o)) =
    spell_word word.Rows f.rows ∷ spell_word word.Between f.between ∷ spell_bound f.bound
    ∷ spell_word word.Preceding f.preceding ∷ token.Operator op.And at ∷ spell_word word.Current c
    ∷ spell_word word.Row o ∷ []

-- `BY name GROUPS n`
abbrev pub spell_grouping : Grouping → List Token
spell_grouping g = token.By g.at ∷ token.Name g.key ∷ token.Plain plain.Groups ∷ token.Number g.groups ∷ []

-- `PARTITION BY name GROUPS n`, or none
abbrev pub spell_part : Option Part → List Token
spell_part None = []
spell_part (Some p) = spell_word word.Partition p.word ∷ spell_grouping p.grouping

-- `head OVER ( part rows )`
abbrev pub spell_over : Over → List Token
spell_over (OverOf head w open' part rows) =
    spell_head head ++ spell_word word.Over w ∷ token.Open open'
    ∷ (spell_part part ++ (spell_rows rows ++ token.Plain plain.Close ∷ []))

-- the tokens of an item: a column alone, or an expression, an aggregate or a function with OVER, with AS and a name
abbrev pub spell_item : Item → List Token
spell_item (Bare name) = token.Name name ∷ []
spell_item (Named e name) = spell e ++ token.Plain plain.As ∷ token.Name name ∷ []
spell_item (Total agg name) = spell_agg agg ++ token.Plain plain.As ∷ token.Name name ∷ []
spell_item (Framed over name) = spell_over over ++ token.Plain plain.As ∷ token.Name name ∷ []

-- items with a comma between each two
abbrev pub spell_items : List Item → List Token
spell_items [] = []
spell_items (i ∷ []) = spell_item i
spell_items (i ∷ j ∷ is) = spell_item i ++ token.Plain plain.Comma ∷ spell_items (j ∷ is)

-- the tokens of what is picked: a star, or the items with commas between
abbrev pub spell_pick : Pick → List Token
spell_pick (All at) = token.Operator op.Mul at ∷ []
spell_pick (Items items) = spell_items items

-- the word that says what a window is measured in
abbrev pub measure_word : Measure → Plain
measure_word Tuples = plain.Tuples
measure_word Time = plain.Time

-- `[ SIZE n ADVANCE m TUPLES ]`, or with TIME
abbrev pub spell_window : Window → List Token
spell_window w =
    token.Plain plain.LeftSquare ∷ token.Size w.at ∷ token.Number w.size ∷ token.Plain plain.Advance
    ∷ token.Number w.advance ∷ token.Plain (measure_word w.measure) ∷ token.Plain plain.RightSquare ∷ []

-- the tokens of a window of groups, which counts rows alone; none where there is no window
abbrev pub spell_row_window : Option RowWindow → List Token
spell_row_window None = []
spell_row_window (Some w) =
    spell_window (record { at = w.at; size = w.size; advance = w.advance; measure = Tuples })

-- the tokens of a window, or none
abbrev pub spell_if_window : Option Window → List Token
spell_if_window None = []
spell_if_window (Some w) = spell_window w

-- WHERE and the tokens of its condition, or none
abbrev pub spell_filter : Option Expr → List Token
spell_filter None = []
spell_filter (Some e) = token.Plain plain.Where ∷ spell e

-- GROUP and the tokens of what is grouped by, or none
abbrev pub spell_if_grouping : Option Grouping → List Token
spell_if_grouping None = []
spell_if_grouping (Some g) = token.Plain plain.Group ∷ spell_grouping g

-- the tokens of a query as it is written, its brackets included
abbrev pub spell_query : Query → List Token
spell_query (Stream name) = token.Name name ∷ []
spell_query (InBrackets at q) = token.Open at ∷ (spell_query q ++ token.Plain plain.Close ∷ [])
spell_query (Select pick source window filter grouping) =
    token.Plain plain.Select ∷ (spell_pick pick ++ token.Plain plain.From
    ∷ (spell_query source ++ (spell_if_window window ++ (spell_filter filter ++ spell_if_grouping grouping))))
spell_query (Windows at var source window open' body) =
    token.Each at ∷ token.Name var ∷ token.Plain plain.In
    ∷ (spell_query source ++ (spell_window window ++ token.Open open'
    ∷ (spell_query body ++ token.Plain plain.Close ∷ [])))
spell_query (Groups at var source grouping window open' body) =
    token.Each at ∷ token.Name var ∷ token.Plain plain.In
    ∷ (spell_query source ++ (spell_grouping grouping ++ (spell_row_window window ++ token.Open open'
    ∷ (spell_query body ++ token.Plain plain.Close ∷ []))))
spell_query (AsOf' w l r grouping) =
    spell_query l ++ spell_word word.AsOf w ∷ (spell_query r ++ spell_grouping grouping)
spell_query (Join' join at l r) = spell_query l ++ (spell_join join at ++ spell_query r)

-- a closing semicolon, or nothing
abbrev pub spell_end : Bool → List Token
spell_end false = []
spell_end true = token.Plain plain.Semicolon ∷ []

-- the tokens of a whole statement: the query, INTO, the name, and a semicolon where it has one
abbrev pub spell_statement : Statement → List Token
spell_statement s = spell_query s.query ++ token.Plain plain.Into ∷ token.Name s.name ∷ spell_end s.closed
