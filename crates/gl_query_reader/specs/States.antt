-- What the reader has read so far: what may follow, and what is open on a stack.
use Rattle.std.specs.Prelude.{ℕ, List, [], Option, Some, None, if◌then◌else◌}
use Rattle.gl_values.specs.declared.kind.Kind.{Kind}
use Rattle.gl_query.specs.declared.tree.Measure.{Measure}
use Rattle.gl_query.specs.declared.tree.Measure.TheVariants.{Tuples, Time}
use Rattle.gl_query.specs.declared.tree.Name.{Name}
use Rattle.gl_query.specs.declared.tree.Num.{Num}
use Rattle.gl_values.specs.declared.op.Op.{Op}
use Rattle.gl_query_tokens.specs.declared.token.Fold.{Fold}
use Rattle.gl_query_reader.specs.declared.joins.Joining.{Joining}
use Rattle.gl_query_tokens.specs.declared.token.Plain.{Plain}
use Rattle.gl_query_tokens.specs.declared.token.Plain.TheVariants as plain
use Rattle.gl_query_tokens.specs.declared.token.Spelling.{Spelling}
use Rattle.gl_query_tokens.specs.declared.token.Token.{Token}
use Rattle.gl_query_tokens.specs.declared.token.Token.TheVariants as token
use Rattle.gl_query_tokens.specs.Sorts.{is_plain}
use Rattle.gl_query_reader.specs.declared.written.RowWindow.{RowWindow}
use Rattle.gl_query_reader.specs.declared.written.Window.{Window}
use Rattle.gl_query_reader.specs.declared.written.Grouping.{Grouping}
use Rattle.gl_query_reader.specs.declared.written.Part.{Part}
use Rattle.gl_query_reader.specs.declared.over_state.Call.{Call}
use Rattle.gl_query_reader.specs.declared.over_state.RowsSoFar.{RowsSoFar}
use Rattle.gl_query_reader.specs.Written.{Expr, Agg, OverAgg, OverHead, Over, Item, Pick, Query}

-- what stands before the right side of ASOF: a select of these items, or an EACH with its variable, and the left side
pub data JoinHead : Type 0 where
  SelectJoin : (pick : Pick) (left' : Query) (word : Spelling) → JoinHead
  EachJoin : (at : ℕ) (var : Name) (left' : Query) (word : Spelling) → JoinHead

-- what reads a source: a select of these items, an EACH with its variable, or ASOF
pub data Head : Type 0 where
  SelectHead : (pick : Pick) → Head
  EachHead : (at : ℕ) (var : Name) → Head
  RightHead : (join : JoinHead) → Head

-- what stands before a window: a select, an EACH, or an EACH with its BY
pub data WindowHead : Type 0 where
  SelectWindow : (pick : Pick) → WindowHead
  EachWindow : (at : ℕ) (var : Name) → WindowHead
  GroupsWindow : (at : ℕ) (var : Name) (grouping : Grouping) → WindowHead

-- what stands before the bracket of a body
pub data BodyHead : Type 0 where
  WindowsHead : (at : ℕ) (var : Name) (source : Query) (window : Window) → BodyHead
  GroupsHead' : (at : ℕ) (var : Name) (source : Query) (grouping : Grouping) (window : Option RowWindow) → BodyHead

-- what stands before BY: a select with GROUP, an EACH, a function with OVER and PARTITION, or both sides of ASOF
pub data GroupsHead : Type 0 where
  SelectGroups : (pick : Pick) (source : Query) (window : Option Window) (filter : Option Expr) → GroupsHead
  EachGroups : (at : ℕ) (var : Name) (source : Query) → GroupsHead
  OverGroups : (items : List Item) (head : OverHead) (word : Spelling) (open' : ℕ) (part : Spelling) → GroupsHead
  JoinGroups : (join : JoinHead) (right' : Query) → GroupsHead

-- an expression, an aggregate or a function with OVER that waits for its name
pub data Unnamed : Type 0 where
  UnnamedExpr : (e : Expr) → Unnamed
  UnnamedAgg : (agg : Agg) → Unnamed
  UnnamedOver : (over : Over) → Unnamed

-- what is open: eleven frames wait for an expression, four for a query
pub data Frame : Type 0 where
  LeftOf : (l : Expr) (o : Op) (at : ℕ) → Frame
  FlipOf : (at : ℕ) → Frame
  NotOf : (at : ℕ) → Frame
  BracketOf : (at : ℕ) → Frame
  InCast : (at open' : ℕ) → Frame
  InItem : (items : List Item) → Frame
  InFold : (items : List Item) (fold : Fold) (at open' : ℕ) → Frame
  InWsum : (items : List Item) (at open' : ℕ) → Frame
  InCall : (items : List Item) (call : Call) (word : Spelling) (open' : ℕ) → Frame
  InCondition : (items : List Item) (agg : OverAgg) (word : Spelling) (open' : ℕ) → Frame
  InFilter : (pick : Pick) (source : Query) (window : Option Window) → Frame
  JoinOf : (l : Query) (join : Joining) (at : ℕ) → Frame
  InQuery : (at : ℕ) → Frame
  InSource : (head : Head) (at : ℕ) → Frame
  InBody : (head : BodyHead) (open' : ℕ) → Frame

-- what was read last, and what may follow
pub data Control : Type 0 where
  WantTerm : Control
  WantItem : (items : List Item) → Control
  WantOperand : Control
  WantMinus : (at : ℕ) → Control
  WantParameter : (at : ℕ) → Control
  HaveExpr : (last' : Expr) → Control
  WantCastOpen : (at : ℕ) → Control
  WantKind : (at open' : ℕ) (inner : Expr) → Control
  WantCastClose : (at open' : ℕ) (inner : Expr) (word : Name) (kind : Kind) → Control
  WantCountOpen : (items : List Item) (at : ℕ) → Control
  WantCountClose : (items : List Item) (at open' : ℕ) → Control
  WantFoldOpen : (items : List Item) (fold : Fold) (at : ℕ) → Control
  WantWsumOpen : (items : List Item) (at : ℕ) → Control
  WantWeightsOpen : (items : List Item) (at open' : ℕ) (arg : Expr) → Control
  WantWeight : (items : List Item) (at open' : ℕ) (arg : Expr) (weights : List Num) → Control
  HaveWeight : (items : List Item) (at open' : ℕ) (arg : Expr) (weights : List Num) → Control
  WantWsumClose : (items : List Item) (at open' : ℕ) (arg : Expr) (weights : List Num) → Control
  HaveAgg : (items : List Item) (agg : Agg) → Control
  WantCallOpen : (items : List Item) (call : Call) (at : ℕ) → Control
  WantBack : (items : List Item) (word : Spelling) (open' : ℕ) (arg : Expr) → Control
  WantLagClose : (items : List Item) (word : Spelling) (open' : ℕ) (arg : Expr) (back : Num) → Control
  WantOver : (items : List Item) (head : OverHead) → Control
  WantFilterOpen : (items : List Item) (agg : OverAgg) (word : Spelling) → Control
  WantFilterWhere : (items : List Item) (agg : OverAgg) (word : Spelling) (open' : ℕ) → Control
  WantOverOpen : (items : List Item) (head : OverHead) (word : Spelling) → Control
  WantPart : (items : List Item) (head : OverHead) (word : Spelling) (open' : ℕ) → Control
  WantPartBy : (items : List Item) (head : OverHead) (word : Spelling) (open' : ℕ) (part : Spelling) → Control
  InOver : (items : List Item) (head : OverHead) (word : Spelling) (open' : ℕ) (part : Option Part) (rows : RowsSoFar)
      → Control
  WantOverAs : (items : List Item) (over : Over) → Control
  WantItemName : (items : List Item) (unnamed : Unnamed) → Control
  HaveItem : (items : List Item) → Control
  WantFrom : (at : ℕ) → Control
  WantSource : (head : Head) → Control
  HaveSource : (pick : Pick) (source : Query) (window : Option Window) → Control
  HaveEachSource : (at : ℕ) (var : Name) (source : Query) → Control
  WantJoinBy : (join : JoinHead) (right' : Query) → Control
  WantSize : (head : WindowHead) (source : Query) → Control
  WantSizeNumber : (head : WindowHead) (source : Query) (at : ℕ) → Control
  WantAdvance : (head : WindowHead) (source : Query) (at : ℕ) (size : Num) → Control
  WantAdvanceNumber : (head : WindowHead) (source : Query) (at : ℕ) (size : Num) → Control
  WantMeasure : (head : WindowHead) (source : Query) (at : ℕ) (size advance : Num) → Control
  WantWindowClose : (head : WindowHead) (source : Query) (window : Window) → Control
  WantBy : (pick : Pick) (source : Query) (window : Option Window) (filter : Option Expr) → Control
  WantKey : (head : GroupsHead) (at : ℕ) → Control
  WantGroups : (head : GroupsHead) (at : ℕ) (key : Name) → Control
  WantGroupsNumber : (head : GroupsHead) (at : ℕ) (key : Name) → Control
  WantArrival : (left' : Query) (at by' : ℕ) → Control
  WantVar : (at : ℕ) → Control
  WantIn : (at : ℕ) (var : Name) → Control
  WantBody : (head : BodyHead) → Control
  HaveTerm : (term : Query) → Control
  WantName : (query : Query) → Control
  HaveName : (query : Query) (name : Name) → Control
  WantEnd : (query : Query) (name : Name) → Control

-- the innermost frame stands first
pub record State : Type 0 where
  pub control : Control
  pub frames : List Frame

-- reading begins where a query is wanted, with nothing open
abbrev pub start : State
start = record { control = WantTerm; frames = [] }

-- reading goes on with this wanted or read, and these frames open
abbrev pub goes : Control → List Frame → Option State
goes control fs = Some (record { control = control; frames = fs })

-- a keyword or a sign leads on
abbrev pub expected : Plain → Control → List Frame → Token → Option State
expected wanted next fs t = if is_plain wanted t then goes next fs else None

-- ---- windows

-- what a window counts, by its word: that of groups rows alone
abbrev pub measure_in : Token → Option Measure
measure_in (token.Plain plain.Tuples) = Some Tuples
measure_in (token.Plain plain.Time) = Some Time
measure_in t = None

-- what a window may be measured in: tuples or time, but tuples alone where it stands in groups
abbrev pub measure_for : WindowHead → Token → Option Measure
measure_for (SelectWindow pick) t = measure_in t
measure_for (EachWindow at var) t = measure_in t
measure_for (GroupsWindow at var grouping) t = if is_plain plain.Tuples t then Some Tuples else None

-- a window of this size, advance and measure
abbrev pub measured : ℕ → Num → Num → Measure → Window
measured at size advance measure = record { at = at; size = size; advance = advance; measure = measure }

-- a window of a group, which is always measured in tuples
abbrev pub row_window : Window → RowWindow
row_window w = record { at = w.at; size = w.size; advance = w.advance }

-- what follows a window
abbrev pub after_window : WindowHead → Query → Window → Control
after_window (SelectWindow pick) source window = HaveSource pick source (Some window)
after_window (EachWindow at var) source window = WantBody (WindowsHead at var source window)
after_window (GroupsWindow at var grouping) source window =
    WantBody (GroupsHead' at var source grouping (Some (row_window window)))
