-- What the reader's trees and states stand for, without where they lie in memory.
-- A middle layer, proved equal to `Grammar`: no promise rests on it.
use Rattle.std.specs.Prelude.{ℕ, List, map, reverse, Option, option_map}
use Rattle.gl_query.specs.declared.tree.Name.{Name}
use Rattle.gl_query.specs.Trees.{QueryTree, Each}
use Rattle.gl_query_reader.specs.Meaning.{each_group}
use Rattle.gl_query_reader.specs.declared.written.WrittenExpr as expr
use Rattle.gl_query_reader.specs.declared.written_functions.WrittenAgg.{WrittenAgg}
use Rattle.gl_query_reader.specs.declared.written_functions.WrittenAgg.TheVariants as agg
use Rattle.gl_query_reader.specs.declared.written_functions.WrittenOverAgg.{WrittenOverAgg}
use Rattle.gl_query_reader.specs.declared.written_functions.WrittenOverAgg.TheVariants as over_agg
use Rattle.gl_query_reader.specs.declared.written_functions.WrittenFilter.{WrittenFilter}
use Rattle.gl_query_reader.specs.declared.written_functions.WrittenHead.{WrittenHead}
use Rattle.gl_query_reader.specs.declared.written_functions.WrittenHead.TheVariants as written_head
use Rattle.gl_query_reader.specs.declared.written_functions.WrittenOver.{WrittenOver}
use Rattle.gl_query_reader.specs.declared.written.WrittenItem.{WrittenItem}
use Rattle.gl_query_reader.specs.declared.written.WrittenItem.TheVariants as item
use Rattle.gl_query_reader.specs.declared.written.WrittenPick.{WrittenPick}
use Rattle.gl_query_reader.specs.declared.written.WrittenPick.TheVariants as pick
use Rattle.gl_query_reader.specs.declared.written.Over.{Over as EachOver}
use Rattle.gl_query_reader.specs.declared.written.Over.TheVariants as over
use Rattle.gl_query_reader.specs.declared.written.WrittenEach.{WrittenEach}
use Rattle.gl_query_reader.specs.declared.written.WrittenSelect.{WrittenSelect}
use Rattle.gl_query_reader.specs.declared.written.WrittenQuery as query
use Rattle.gl_query_reader.specs.declared.written.WrittenStatement.{WrittenStatement}
use Rattle.gl_query_reader.specs.Written.{Expr, Column, Number, Minus, Letters, Brackets, Cast, Flip, Not, Binary, Agg, Count, Fold', Wsum, OverAgg, CountOf, FoldOf, LastOf, Filtering, FilterOf, OverHead, LagOf, Ranged, Over, OverOf, Item, Bare, Named, Total, Framed, Pick, All, Items, Query, Stream, InBrackets, Select, Windows, Groups, AsOf', Join', Statement, Parameter}
use Rattle.gl_query_reader.specs.declared.frames.Head.{Head}
use Rattle.gl_query_tokens.specs.declared.token.Spelling.{Spelling}
use Rattle.gl_query_reader.specs.declared.frames.JoinBy.{JoinBy}
use Rattle.gl_query_reader.specs.declared.frames.JoinBy.TheVariants as join_by
use Rattle.gl_query_reader.specs.declared.frames.JoinHead.{JoinHead}
use Rattle.gl_query_reader.specs.declared.frames.WindowBy.{WindowBy}
use Rattle.gl_query_reader.specs.declared.frames.WindowBy.TheVariants as window_by
use Rattle.gl_query_reader.specs.declared.frames.Head.TheVariants as head
use Rattle.gl_query_reader.specs.declared.frames.BodyHead.{BodyHead}
use Rattle.gl_query_reader.specs.declared.frames.GroupsHead.{GroupsHead}
use Rattle.gl_query_reader.specs.declared.frames.GroupsHead.TheVariants as groups_head
use Rattle.gl_query_reader.specs.declared.frames.Unnamed.{Unnamed}
use Rattle.gl_query_reader.specs.declared.frames.Unnamed.TheVariants as unnamed
use Rattle.gl_query_reader.specs.declared.frames.Frame.{Frame}
use Rattle.gl_query_reader.specs.declared.frames.Frame.TheVariants as frame
use Rattle.gl_query_reader.specs.declared.state.Control.{Control}
use Rattle.gl_query_reader.specs.declared.state.Control.TheVariants as control
use Rattle.gl_query_reader.specs.declared.state.ExprControl.{ExprControl}
use Rattle.gl_query_reader.specs.declared.state.ExprControl.TheVariants as expr_control
use Rattle.gl_query_reader.specs.declared.state.ItemControl.{ItemControl}
use Rattle.gl_query_reader.specs.declared.state.ItemControl.TheVariants as item_control
use Rattle.gl_query_reader.specs.declared.over_state.OverControl.{OverControl}
use Rattle.gl_query_reader.specs.declared.over_state.OverControl.TheVariants as over_control
use Rattle.gl_query_reader.specs.declared.state.AggControl.{AggControl}
use Rattle.gl_query_reader.specs.declared.state.AggControl.TheVariants as agg_control
use Rattle.gl_query_reader.specs.declared.state.SourceControl.{SourceControl}
use Rattle.gl_query_reader.specs.declared.state.SourceControl.TheVariants as source_control
use Rattle.gl_query_reader.specs.declared.state.WindowControl.{WindowControl}
use Rattle.gl_query_reader.specs.declared.state.WindowControl.TheVariants as window_control
use Rattle.gl_query_reader.specs.declared.state.GroupsControl.{GroupsControl}
use Rattle.gl_query_reader.specs.declared.state.GroupsControl.TheVariants as groups_control
use Rattle.gl_query_reader.specs.declared.state.QueryControl.{QueryControl}
use Rattle.gl_query_reader.specs.declared.state.QueryControl.TheVariants as query_control
use Rattle.gl_query_reader.specs.States as states

-- the tree of a written expression
abbrev pub expr_of : expr.WrittenExpr → Expr
expr_of (expr.Column name) = Column name
expr_of (expr.Number n) = Number n
expr_of (expr.Minus at n) = Minus at n
expr_of (expr.Parameter at name) = Parameter at name
expr_of (expr.Letters text at) = Letters text at
expr_of (expr.Brackets' at p e) = Brackets at (expr_of e)
expr_of (expr.Cast' at open' p e word kind) = Cast at open' (expr_of e) word kind
expr_of (expr.Flip' at p e) = Flip at (expr_of e)
expr_of (expr.Not' at p e) = Not at (expr_of e)
expr_of (expr.Binary' o at p l q r) = Binary o at (expr_of l) (expr_of r)

-- the aggregate that the reader's tree of it stands for
abbrev pub agg_of : WrittenAgg → Agg
agg_of (agg.Count at open') = Count at open'
agg_of (agg.Fold fold at open' e) = Fold' fold at open' (expr_of e)
agg_of (agg.Wsum at open' e ns) = Wsum at open' (expr_of e) ns

-- the function over rows that the reader's tree of it stands for
abbrev pub over_agg_of : WrittenOverAgg → OverAgg
over_agg_of (over_agg.Count at open') = CountOf at open'
over_agg_of (over_agg.Fold fold at open' e) = FoldOf fold at open' (expr_of e)
over_agg_of (over_agg.LastValue w open' e) = LastOf w open' (expr_of e)

-- the FILTER that the reader's tree of it stands for
abbrev pub filtering_of : WrittenFilter → Filtering
filtering_of f = FilterOf f.word f.open (expr_of f.cond)

-- what stands before OVER, from the reader's tree of it
abbrev pub written_head_of : WrittenHead → OverHead
written_head_of (written_head.Lag w open' e back) = LagOf w open' (expr_of e) back
written_head_of (written_head.Ranged a filter) = Ranged (over_agg_of a) (option_map filtering_of filter)

-- the function with OVER that the reader's tree of it stands for
abbrev pub written_over_of : WrittenOver → Over
written_over_of o = OverOf (written_head_of o.head) o.word o.open o.part o.rows

-- the item that the reader's tree of it stands for
abbrev pub item_of : WrittenItem → Item
item_of (item.Bare name) = Bare name
item_of (item.Named e name) = Named (expr_of e) name
item_of (item.Total a name) = Total (agg_of a) name
item_of (item.Framed o name) = Framed (written_over_of o) name

-- the items that the reader's trees stand for, in their order
abbrev pub items_of : List WrittenItem → List Item
items_of items = map item_of items

-- what is picked, from the reader's tree of it
abbrev pub pick_of : WrittenPick → Pick
pick_of (pick.All at) = All at
pick_of (pick.Items items) = Items (items_of items)

-- the filter that the reader's tree of it stands for, where there is one
abbrev pub filter_of : Option expr.WrittenExpr → Option Expr
filter_of o = option_map expr_of o

-- the select over this source that the reader's tree stands for
abbrev pub select_of : WrittenSelect → Query → Query
select_of s source = Select (pick_of s.pick) source s.window (filter_of s.filter) s.grouping

-- the EACH over windows or groups that its parts stand for
abbrev pub over_of : EachOver → ℕ → Name → ℕ → Query → Query → Query
over_of (over.Windows w) at var open' source body = Windows at var source w open' body
over_of (over.Groups g w) at var open' source body = Groups at var source g w open' body

-- the EACH over this source and with this body that the reader's tree stands for
unfoldable pub each_of : WrittenEach → Query → Query → Query
each_of e source body = over_of e.over e.at e.var e.open source body

-- the query that the reader's tree of it stands for
abbrev pub query_of : query.WrittenQuery → Query
query_of (query.Stream name) = Stream name
query_of (query.Brackets' at p q) = InBrackets at (query_of q)
query_of (query.Select' s p source) = select_of s (query_of source)
query_of (query.Each' e p source q body) = each_of e (query_of source) (query_of body)
query_of (query.AsOf' word grouping p l q r) = AsOf' word (query_of l) (query_of r) grouping
query_of (query.Join' join at p l q r) = Join' join at (query_of l) (query_of r)

-- what an EACH means over what its source means, with what its body means
abbrev pub over_tree : EachOver → ℕ → Name → QueryTree → QueryTree → QueryTree
over_tree (over.Windows w) at var source body = Each w.measure var source w.size w.advance body at
over_tree (over.Groups g w) at var source body = each_group var source g w body at

-- the meaning of an EACH, from the meanings of its source and its body
unfoldable pub each_tree : WrittenEach → QueryTree → QueryTree → QueryTree
each_tree e source body = over_tree e.over e.at e.var source body

-- the statement that the reader's tree of it stands for
abbrev pub statement_of : WrittenStatement → Statement
statement_of s = record { query = query_of s.query; name = s.name; closed = s.closed }

-- what stands before the right side of ASOF, from the reader's value
abbrev pub join_by_of : JoinBy → Query → Spelling → states.JoinHead
join_by_of (join_by.Select pick) left word = states.SelectJoin (pick_of pick) left word
join_by_of (join_by.Each at var) left word = states.EachJoin at var left word

abbrev pub join_head_of : JoinHead → states.JoinHead
join_head_of h = join_by_of h.by (query_of h.left) h.word

-- what reads a source, from the reader's value
abbrev pub head_of : Head → states.Head
head_of (head.Select pick) = states.SelectHead (pick_of pick)
head_of (head.Each at var) = states.EachHead at var
head_of (head.Join h) = states.RightHead (join_head_of h)

-- what stands before a window, from the reader's value
abbrev pub window_head_of : WindowBy → states.WindowHead
window_head_of (window_by.Select pick) = states.SelectWindow (pick_of pick)
window_head_of (window_by.Each at var) = states.EachWindow at var
window_head_of (window_by.Groups at var grouping) = states.GroupsWindow at var grouping

-- what stands before the bracket of a body over windows or groups
abbrev pub over_head_of : EachOver → ℕ → Name → Query → states.BodyHead
over_head_of (over.Windows w) at var source = states.WindowsHead at var source w
over_head_of (over.Groups g w) at var source = states.GroupsHead' at var source g w

-- what stands before the bracket of a body, from the reader's value
abbrev pub body_head_of : BodyHead → states.BodyHead
body_head_of h = over_head_of h.over h.at h.var (query_of h.source)

-- what stands before BY, from the reader's value
abbrev pub groups_head_of : GroupsHead → states.GroupsHead
groups_head_of (groups_head.Select from filter) =
    states.SelectGroups (pick_of from.pick) (query_of from.source) from.window (filter_of filter)
groups_head_of (groups_head.Each at var source) = states.EachGroups at var (query_of source)
groups_head_of (groups_head.Over h) =
    states.OverGroups (items_of h.over.items) (written_head_of h.over.head) h.over.word h.open h.word
groups_head_of (groups_head.Join h right) = states.JoinGroups (join_head_of h) (query_of right)

-- what waits for its name, from the reader's value
abbrev pub unnamed_of : Unnamed → states.Unnamed
unnamed_of (unnamed.Expr e) = states.UnnamedExpr (expr_of e)
unnamed_of (unnamed.Agg a) = states.UnnamedAgg (agg_of a)
unnamed_of (unnamed.Over o) = states.UnnamedOver (written_over_of o)

-- what is open, from the reader's frame
abbrev pub frame_of : Frame → states.Frame
frame_of (frame.LeftOf l o at) = states.LeftOf (expr_of l) o at
frame_of (frame.FlipOf at) = states.FlipOf at
frame_of (frame.NotOf at) = states.NotOf at
frame_of (frame.InBrackets at) = states.BracketOf at
frame_of (frame.InCast at open') = states.InCast at open'
frame_of (frame.InItem items) = states.InItem (items_of items)
frame_of (frame.InFold items fold at open') = states.InFold (items_of items) fold at open'
frame_of (frame.InWsum items at open') = states.InWsum (items_of items) at open'
frame_of (frame.InCall items c w open') = states.InCall (items_of items) c w open'
frame_of (frame.InCondition h open') = states.InCondition (items_of h.items) (over_agg_of h.agg) h.word open'
frame_of (frame.InFilter from) = states.InFilter (pick_of from.pick) (query_of from.source) from.window
frame_of (frame.JoinOf l join at) = states.JoinOf (query_of l) join at
frame_of (frame.InQuery at) = states.InQuery at
frame_of (frame.InSource head at) = states.InSource (head_of head) at
frame_of (frame.InBody head open') = states.InBody (body_head_of head) open'

-- the innermost frame is the last of a Vec
abbrev pub frames_of : List Frame → List states.Frame
frames_of stack = map frame_of (reverse stack)

-- what was read last inside an expression, from the reader's value
abbrev pub expr_control_of : ExprControl → states.Control
expr_control_of expr_control.WantOperand = states.WantOperand
expr_control_of (expr_control.WantMinus at) = states.WantMinus at
expr_control_of (expr_control.WantParameter at) = states.WantParameter at
expr_control_of (expr_control.HaveExpr e) = states.HaveExpr (expr_of e)
expr_control_of (expr_control.WantCastOpen at) = states.WantCastOpen at
expr_control_of (expr_control.WantKind h) = states.WantKind h.at h.open (expr_of h.inner)
expr_control_of (expr_control.WantCastClose h word kind) = states.WantCastClose h.at h.open (expr_of h.inner) word kind

-- what was read last between the items of a select, from the reader's value
abbrev pub item_control_of : ItemControl → states.Control
item_control_of (item_control.WantItem items) = states.WantItem (items_of items)
item_control_of (item_control.HaveAgg items a) = states.HaveAgg (items_of items) (agg_of a)
item_control_of (item_control.WantItemName items u) = states.WantItemName (items_of items) (unnamed_of u)
item_control_of (item_control.HaveItem items) = states.HaveItem (items_of items)
item_control_of (item_control.WantFrom at) = states.WantFrom at

-- what was read last inside an aggregate, from the reader's value
abbrev pub agg_control_of : AggControl → states.Control
agg_control_of (agg_control.WantCountOpen items at) = states.WantCountOpen (items_of items) at
agg_control_of (agg_control.WantCountClose items at open') = states.WantCountClose (items_of items) at open'
agg_control_of (agg_control.WantFoldOpen items fold at) = states.WantFoldOpen (items_of items) fold at
agg_control_of (agg_control.WantWsumOpen items at) = states.WantWsumOpen (items_of items) at
agg_control_of (agg_control.WantWeightsOpen h) = states.WantWeightsOpen (items_of h.items) h.at h.open (expr_of h.arg)
agg_control_of (agg_control.WantWeight h ns) = states.WantWeight (items_of h.items) h.at h.open (expr_of h.arg) ns
agg_control_of (agg_control.HaveWeight h ns) = states.HaveWeight (items_of h.items) h.at h.open (expr_of h.arg) ns
agg_control_of (agg_control.WantWsumClose h ns) = states.WantWsumClose (items_of h.items) h.at h.open (expr_of h.arg) ns

-- what was read last inside a function with OVER, from the reader's value
abbrev pub over_control_of : OverControl → states.Control
over_control_of (over_control.WantCallOpen items c at) = states.WantCallOpen (items_of items) c at
over_control_of (over_control.WantBack h) = states.WantBack (items_of h.items) h.word h.open (expr_of h.arg)
over_control_of (over_control.WantLagClose h back) =
    states.WantLagClose (items_of h.items) h.word h.open (expr_of h.arg) back
over_control_of (over_control.WantOver items head) = states.WantOver (items_of items) (written_head_of head)
over_control_of (over_control.WantFilterOpen h) = states.WantFilterOpen (items_of h.items) (over_agg_of h.agg) h.word
over_control_of (over_control.WantFilterWhere h open') =
    states.WantFilterWhere (items_of h.items) (over_agg_of h.agg) h.word open'
over_control_of (over_control.WantOverOpen h) = states.WantOverOpen (items_of h.items) (written_head_of h.head) h.word
over_control_of (over_control.WantPart h open') =
    states.WantPart (items_of h.items) (written_head_of h.head) h.word open'
over_control_of (over_control.WantPartBy h) =
    states.WantPartBy (items_of h.over.items) (written_head_of h.over.head) h.over.word h.open h.word
over_control_of (over_control.InOver h open' part rows) =
    states.InOver (items_of h.items) (written_head_of h.head) h.word open' part rows
over_control_of (over_control.WantOverAs items o) = states.WantOverAs (items_of items) (written_over_of o)

-- what was read last before or behind a source, from the reader's value
abbrev pub source_control_of : SourceControl → states.Control
source_control_of (source_control.WantSource head) = states.WantSource (head_of head)
source_control_of (source_control.HaveSource from) =
    states.HaveSource (pick_of from.pick) (query_of from.source) from.window
source_control_of (source_control.HaveEachSource at var source) = states.HaveEachSource at var (query_of source)
source_control_of (source_control.WantJoinBy h right) = states.WantJoinBy (join_head_of h) (query_of right)

-- what was read last inside a window, from the reader's value
abbrev pub window_control_of : WindowControl → states.Control
window_control_of (window_control.WantSize h) = states.WantSize (window_head_of h.head) (query_of h.source)
window_control_of (window_control.WantSizeNumber h at) = states.WantSizeNumber (window_head_of h.head) (query_of h.source) at
window_control_of (window_control.WantAdvance h at size) =
    states.WantAdvance (window_head_of h.head) (query_of h.source) at size
window_control_of (window_control.WantAdvanceNumber h at size) =
    states.WantAdvanceNumber (window_head_of h.head) (query_of h.source) at size
window_control_of (window_control.WantMeasure h at size advance) =
    states.WantMeasure (window_head_of h.head) (query_of h.source) at size advance
window_control_of (window_control.WantWindowClose h window) =
    states.WantWindowClose (window_head_of h.head) (query_of h.source) window

-- what was read last inside a grouping, from the reader's value
abbrev pub groups_control_of : GroupsControl → states.Control
groups_control_of (groups_control.WantBy from filter) =
    states.WantBy (pick_of from.pick) (query_of from.source) from.window (filter_of filter)
groups_control_of (groups_control.WantKey head at) = states.WantKey (groups_head_of head) at
groups_control_of (groups_control.WantGroups head at key) = states.WantGroups (groups_head_of head) at key
groups_control_of (groups_control.WantGroupsNumber head at key) = states.WantGroupsNumber (groups_head_of head) at key

-- what was read last between queries, from the reader's value
abbrev pub query_control_of : QueryControl → states.Control
query_control_of query_control.WantTerm = states.WantTerm
query_control_of (query_control.WantArrival l at by') = states.WantArrival (query_of l) at by'
query_control_of (query_control.WantVar at) = states.WantVar at
query_control_of (query_control.WantIn at var) = states.WantIn at var
query_control_of (query_control.WantBody head) = states.WantBody (body_head_of head)
query_control_of (query_control.HaveTerm q) = states.HaveTerm (query_of q)
query_control_of (query_control.WantName q) = states.WantName (query_of q)
query_control_of (query_control.HaveName q name) = states.HaveName (query_of q) name
query_control_of (query_control.WantEnd q name) = states.WantEnd (query_of q) name

-- what was read last and what may follow, from the reader's value
abbrev pub control_of : Control → states.Control
control_of (control.Expr c) = expr_control_of c
control_of (control.Item c) = item_control_of c
control_of (control.Agg c) = agg_control_of c
control_of (control.Over c) = over_control_of c
control_of (control.Source c) = source_control_of c
control_of (control.Window c) = window_control_of c
control_of (control.Groups c) = groups_control_of c
control_of (control.Query c) = query_control_of c

-- the state of reading with this read last and these frames open
abbrev pub state_of : Control → List states.Frame → states.State
state_of c fs = record { control = control_of c; frames = fs }

-- what a call leads to, in these frames
abbrev pub leads : Option Control → List states.Frame → Option states.State
leads o fs = option_map (λ c. state_of c fs) o
