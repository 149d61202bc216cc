-- Reading a statement from left to right, a token at a time, with what is open on a stack.
-- A middle layer, proved equal to `Grammar`: no promise rests on it.
use Rattle.std.specs.Prelude.{ℕ, Bool, true, false, ◌&&◌, List, [], ◌∷◌, ◌++◌, Option, Some, None, option_and_then, nat_lt, nat_le, if◌then◌else◌}
use Rattle.gl_values.specs.declared.kind.Kind.{Kind}
use Rattle.gl_schema.specs.SchemaFaults.{kind_named}
use Rattle.gl_query.specs.declared.tree.Name.{Name}
use Rattle.gl_query.specs.declared.tree.Num.{Num}
use Rattle.gl_values.specs.declared.op.Op.{Op}
use Rattle.gl_values.specs.declared.op.Op.TheVariants as op
use Rattle.gl_query_tokens.specs.declared.token.Fold.{Fold}
use Rattle.gl_query_tokens.specs.declared.token.Plain.{Plain}
use Rattle.gl_query_tokens.specs.declared.token.Plain.TheVariants as plain
use Rattle.gl_query_tokens.specs.declared.token.Token.{Token}
use Rattle.gl_query_tokens.specs.declared.token.Token.TheVariants as token
use Rattle.gl_query_tokens.specs.declared.token.Spelling.{Spelling}
use Rattle.gl_query_tokens.specs.Sorts.{is_plain, name_in, number_in, open_in}
use Rattle.gl_query_reader.specs.declared.written.Window.{Window}
use Rattle.gl_query_reader.specs.Written.{Expr, Column, Number, Minus, Letters, Brackets, Cast, Flip, Not, Binary, Count, Fold', Wsum, LagOf, Item, Bare, Named, Total, Framed, Pick, All, Items, Query, Stream, InBrackets, Select, Windows, Groups, Join', Statement, looseness, left_looseness, Parameter}
use Rattle.gl_query_reader.specs.Begun.{begin_select, want_var, begin_arrival, want_arrival, want_body}
use Rattle.gl_query_reader.specs.Joins.{joining_of}
use Rattle.gl_query_reader.specs.Framing.{begin_call, want_call, want_call_open, after_call, want_back, want_over, have_agg, want_filter_open, want_filter_where, after_condition, want_over_open, in_over, want_part, want_part_by}
use Rattle.gl_query_reader.specs.Windowed.{begin_window, can_join, join_word, have_each_source, want_size, want_size_number, want_advance_number, want_measure, want_by, want_join_by, want_key, want_groups_number}
use Rattle.gl_query_reader.specs.States.{Head, after_window, SelectHead, EachHead, RightHead, SelectJoin, WantJoinBy, BodyHead, WindowsHead, GroupsHead', Unnamed, UnnamedExpr, UnnamedAgg, UnnamedOver, Frame, Control, State, goes, expected, LeftOf, FlipOf, NotOf, BracketOf, InCast, InItem, InFold, InWsum, InCall, InCondition, InFilter, JoinOf, InQuery, InSource, InBody, WantTerm, WantItem, WantOperand, WantMinus, HaveExpr, WantCastOpen, WantKind, WantCastClose, WantCountOpen, WantCountClose, WantFoldOpen, WantWsumOpen, WantWeightsOpen, WantWeight, HaveWeight, WantWsumClose, HaveAgg, WantCallOpen, WantBack, WantLagClose, WantOver, WantFilterOpen, WantFilterWhere, WantOverOpen, WantPart, WantPartBy, InOver, WantOverAs, WantItemName, HaveItem, WantFrom, WantSource, HaveSource, HaveEachSource, WantSize, WantSizeNumber, WantAdvance, WantAdvanceNumber, WantMeasure, WantWindowClose, WantBy, WantKey, WantGroups, WantGroupsNumber, WantArrival, WantVar, WantIn, WantBody, HaveTerm, WantName, HaveName, WantEnd, WantParameter}

-- ---- expressions

-- what is looser than all that may stand here
abbrev pub room_in : Frame → ℕ
room_in (LeftOf l o at) = looseness o
room_in (FlipOf at) = 2
room_in (NotOf at) = 9
room_in f = 12

abbrev pub room : List Frame → ℕ
room [] = 12
room (f ∷ fs) = room_in f

abbrev pub Reduced : Type 0
Reduced = List Frame × Expr

-- whether a frame is an operator that binds at least as tight
abbrev pub binds : ℕ → Frame → Bool
binds p (LeftOf l o at) = nat_le (looseness o) p
binds p (FlipOf at) = nat_le 1 p
binds p (NotOf at) = nat_le 9 p
binds p f = false

-- an operator with its operands
abbrev pub applied : Frame → Expr → Expr
applied (LeftOf l o at) e = Binary o at l e
applied (FlipOf at) e = Flip at e
applied (NotOf at) e = Not at e
applied f e = e

abbrev pub last_binds : ℕ → List Frame → Bool
last_binds p [] = false
last_binds p (f ∷ fs) = binds p f

abbrev pub apply_last : List Frame → Expr → Reduced
apply_last [] e = ([], e)
apply_last (f ∷ fs) e = (fs, applied f e)

-- an expression with the operators before it that bind at least as tight
unfoldable pub reduced : ℕ → List Frame → Expr → Reduced
reduced p [] e = ([], e)
reduced p (f ∷ fs) e = if binds p f then reduced p fs (applied f e) else (f ∷ fs, e)

abbrev pub with_operator : Op → ℕ → Reduced → Option State
with_operator o at r = if nat_lt (looseness o) (room r.0) then goes WantOperand (LeftOf r.1 o at ∷ r.0) else None

-- `~` stands where any operand may
abbrev pub with_tilde : ℕ → List Frame → Option State
with_tilde at fs = if nat_lt 1 (room fs) then goes WantOperand (FlipOf at ∷ fs) else None

-- NOT stands where an operand of AND and OR may
abbrev pub with_not : ℕ → List Frame → Option State
with_not at fs = if nat_lt 9 (room fs) then goes WantOperand (NotOf at ∷ fs) else None

abbrev pub is_minus : Op → Bool
is_minus op.Sub = true
is_minus o = false

-- a minus sign where an operand may begin leads to a number
abbrev pub begin_minus : Op → ℕ → List Frame → Option State
begin_minus o at fs = if is_minus o then goes (WantMinus at) fs else None

abbrev pub want_minus : List Frame → ℕ → Token → Option State
want_minus fs at t = option_and_then (λ n. goes (HaveExpr (Minus at n)) fs) (number_in t)

-- a colon where an operand may begin leads to a name
abbrev pub want_parameter : List Frame → ℕ → Token → Option State
want_parameter fs at t = option_and_then (λ name. goes (HaveExpr (Parameter at name)) fs) (name_in t)

abbrev pub want_operand : List Frame → Token → Option State
want_operand fs (token.Name name) = goes (HaveExpr (Column name)) fs
want_operand fs (token.Number n) = goes (HaveExpr (Number n)) fs
want_operand fs (token.Operator o at) = begin_minus o at fs
want_operand fs (token.Letters text at) = goes (HaveExpr (Letters text at)) fs
want_operand fs (token.Open at) = goes WantOperand (BracketOf at ∷ fs)
want_operand fs (token.Colon at) = goes (WantParameter at) fs
want_operand fs (token.Cast at) = goes (WantCastOpen at) fs
want_operand fs (token.Tilde at) = with_tilde at fs
want_operand fs (token.Not at) = with_not at fs
want_operand fs t = None

abbrev pub want_cast_open : List Frame → ℕ → Token → Option State
want_cast_open fs at t = option_and_then (λ n. goes WantOperand (InCast at n ∷ fs)) (open_in t)

abbrev pub with_kind : List Frame → ℕ → ℕ → Expr → Name → Option State
with_kind fs at open' e word =
    option_and_then (λ kind. goes (WantCastClose at open' e word kind) fs) (kind_named word.text)

abbrev pub want_kind : List Frame → ℕ → ℕ → Expr → Token → Option State
want_kind fs at open' e t = option_and_then (λ word. with_kind fs at open' e word) (name_in t)

abbrev pub want_cast_close : List Frame → ℕ → ℕ → Expr → Name → Kind → Token → Option State
want_cast_close fs at open' e word kind t = expected plain.Close (HaveExpr (Cast at open' e word kind)) fs t

-- ---- queries

-- a term joins what stands before it
abbrev pub Joined : Type 0
Joined = List Frame × Query

abbrev pub is_join : Frame → Bool
is_join (JoinOf l join at) = true
is_join f = false

abbrev pub last_joins : List Frame → Bool
last_joins [] = false
last_joins (f ∷ fs) = is_join f

abbrev pub join_with : Frame → Query → Query
join_with (JoinOf l join at) q = Join' join at l q
join_with f q = q

abbrev pub joined : List Frame → Query → Joined
joined [] q = ([], q)
joined (f ∷ fs) q = if is_join f then (fs, join_with f q) else (f ∷ fs, q)

abbrev pub body_of : BodyHead → ℕ → Query → Query
body_of (WindowsHead at var source window) open' q = Windows at var source window open' q
body_of (GroupsHead' at var source grouping window) open' q = Groups at var source grouping window open' q

-- what may stand behind a source
abbrev pub after_source : Head → Query → Control
after_source (SelectHead pick) source = HaveSource pick source None
after_source (EachHead at var) source = HaveEachSource at var source
after_source (RightHead join) source = WantJoinBy join source

abbrev pub close_query : List Frame → Query → Option State
close_query (InQuery at ∷ fs) q = goes (HaveTerm (InBrackets at q)) fs
close_query (InSource head at ∷ fs) q = goes (after_source head (InBrackets at q)) fs
close_query (InBody head open' ∷ fs) q = goes (HaveTerm (body_of head open' q)) fs
close_query fs q = None

abbrev pub end_query : List Frame → Query → Option State
end_query [] q = goes (WantName q) []
end_query (f ∷ fs) q = None

abbrev pub after_whole : List Frame → Query → Plain → Option State
after_whole fs q plain.Close = close_query fs q
after_whole fs q plain.Into = end_query fs q
after_whole fs q p = None

-- what stands behind a query
abbrev pub after_query : List Frame → Query → Token → Option State
after_query fs q (token.Join join at) = goes WantTerm (JoinOf q (joining_of join) at ∷ fs)
after_query fs q (token.Plain p) = after_whole fs q p
after_query fs q t = None

-- what stands behind a term
abbrev pub have_term : List Frame → Query → Token → Option State
have_term fs q t = let r = joined fs q in after_query r.0 r.1 t

-- ---- items

abbrev pub none_yet : List Item → Bool
none_yet [] = true
none_yet (i ∷ is) = false

abbrev pub is_star : Op → Bool
is_star op.Mul = true
is_star o = false

-- `*` stands for all columns in place of the first item
abbrev pub want_all : Op → List Item → ℕ → List Frame → Option State
want_all o items at fs = if is_star o && none_yet items then goes (WantFrom at) fs else None

-- whether a token is `*`, or begins an aggregate or a function with a capital
abbrev pub begins_agg : Token → Bool
begins_agg (token.Operator o at) = is_star o
begins_agg (token.Count at) = true
begins_agg (token.Fold fold at) = true
begins_agg (token.Wsum at) = true
begins_agg (token.Word w at) = true
begins_agg t = false

abbrev pub want_agg : List Item → List Frame → Token → Option State
want_agg items fs (token.Operator o at) = want_all o items at fs
want_agg items fs (token.Count at) = goes (WantCountOpen items at) fs
want_agg items fs (token.Fold fold at) = goes (WantFoldOpen items fold at) fs
want_agg items fs (token.Wsum at) = goes (WantWsumOpen items at) fs
want_agg items fs (token.Word w at) = want_call items fs w at
want_agg items fs t = None

abbrev pub want_item : List Item → List Frame → Token → Option State
want_item items fs t = if begins_agg t then want_agg items fs t else want_operand (InItem items ∷ fs) t

abbrev pub want_count_open : List Frame → List Item → ℕ → Token → Option State
want_count_open fs items at t = option_and_then (λ n. goes (WantCountClose items at n) fs) (open_in t)

abbrev pub want_fold_open : List Frame → List Item → Fold → ℕ → Token → Option State
want_fold_open fs items fold at t = option_and_then (λ n. goes WantOperand (InFold items fold at n ∷ fs)) (open_in t)

abbrev pub want_wsum_open : List Frame → List Item → ℕ → Token → Option State
want_wsum_open fs items at t = option_and_then (λ n. goes WantOperand (InWsum items at n ∷ fs)) (open_in t)

abbrev pub want_weight : List Frame → List Item → ℕ → ℕ → Expr → List Num → Token → Option State
want_weight fs items at open' e ns t =
    option_and_then (λ n. goes (HaveWeight items at open' e (ns ++ n ∷ [])) fs) (number_in t)

abbrev pub have_weight : List Frame → List Item → ℕ → ℕ → Expr → List Num → Token → Option State
have_weight fs items at open' e ns t = if is_plain plain.Comma t then goes (WantWeight items at open' e ns) fs else
    if is_plain plain.RightSquare t then goes (WantWsumClose items at open' e ns) fs else None

abbrev pub under_name : Unnamed → Name → Item
under_name (UnnamedExpr e) name = Named e name
under_name (UnnamedAgg agg) name = Total agg name
under_name (UnnamedOver over) name = Framed over name

abbrev pub want_item_name : List Frame → List Item → Unnamed → Token → Option State
want_item_name fs items u t = option_and_then (λ name. goes (HaveItem (items ++ under_name u name ∷ [])) fs) (name_in t)

-- what stands behind an item
abbrev pub have_item : List Frame → List Item → Token → Option State
have_item fs items t = if is_plain plain.Comma t then goes (WantItem items) fs else
    if is_plain plain.From t then goes (WantSource (SelectHead (Items items))) fs else None

-- ---- what stands behind an expression

-- a column alone is an item under its own name
abbrev pub bare : Expr → Option Name
bare (Column name) = Some name
bare e = None

abbrev pub bare_or_call : Option ℕ → List Frame → List Item → Name → Token → Option State
bare_or_call None fs items name t = have_item fs (items ++ Bare name ∷ []) t
bare_or_call (Some n) fs items name t = begin_call fs items name n

-- a column alone ends its item, but a bracket behind it makes it the name of a function
abbrev pub after_item : List Frame → List Item → Expr → Token → Option State
after_item fs items e t = if is_plain plain.As t then goes (WantItemName items (UnnamedExpr e)) fs else
    option_and_then (λ name. bare_or_call (open_in t) fs items name t) (bare e)

abbrev pub after_filter : List Frame → Pick → Query → Option Window → Expr → Token → Option State
after_filter fs pick source window e t =
    if is_plain plain.Group t then goes (WantBy pick source window (Some e)) fs else
    have_term fs (Select pick source window (Some e) None) t

abbrev pub after_brackets : List Frame → ℕ → Expr → Token → Option State
after_brackets fs at e t = expected plain.Close (HaveExpr (Brackets at e)) fs t

abbrev pub after_cast : List Frame → ℕ → ℕ → Expr → Token → Option State
after_cast fs at open' e t = expected plain.As (WantKind at open' e) fs t

abbrev pub after_fold : List Frame → List Item → Fold → ℕ → ℕ → Expr → Token → Option State
after_fold fs items fold at open' e t = expected plain.Close (HaveAgg items (Fold' fold at open' e)) fs t

abbrev pub after_wsum : List Frame → List Item → ℕ → ℕ → Expr → Token → Option State
after_wsum fs items at open' e t = expected plain.Comma (WantWeightsOpen items at open' e) fs t

-- what ends an expression, by what it stands in
abbrev pub after_expr : List Frame → Expr → Token → Option State
after_expr [] e t = None
after_expr (BracketOf at ∷ fs) e t = after_brackets fs at e t
after_expr (InCast at open' ∷ fs) e t = after_cast fs at open' e t
after_expr (InItem items ∷ fs) e t = after_item fs items e t
after_expr (InFold items fold at open' ∷ fs) e t = after_fold fs items fold at open' e t
after_expr (InWsum items at open' ∷ fs) e t = after_wsum fs items at open' e t
after_expr (InCall items c w open' ∷ fs) e t = after_call fs items c w open' e t
after_expr (InCondition items agg w open' ∷ fs) e t = after_condition fs items agg w open' e t
after_expr (InFilter pick source window ∷ fs) e t = after_filter fs pick source window e t
after_expr (f ∷ fs) e t = None

abbrev pub is_operator : Token → Bool
is_operator (token.Operator o at) = true
is_operator t = false

abbrev pub have_operator : List Frame → Expr → Token → Option State
have_operator fs e (token.Operator o at) = with_operator o at (reduced (left_looseness o) fs e)
have_operator fs e t = None

-- what stands behind an expression
abbrev pub have_expr : List Frame → Expr → Token → Option State
have_expr fs e t = if is_operator t then have_operator fs e t else (let r = reduced 11 fs e in after_expr r.0 r.1 t)

-- ---- sources, windows and groups

abbrev pub want_source : List Frame → Head → Token → Option State
want_source fs head (token.Name name) = goes (after_source head (Stream name)) fs
want_source fs head (token.Open at) = goes WantTerm (InSource head at ∷ fs)
want_source fs head t = None

abbrev pub end_source : List Frame → Pick → Query → Option Window → Token → Option State
end_source fs pick source window t = have_term fs (Select pick source window None None) t

-- ASOF behind the source of a select, or what ends the select
abbrev pub join_or_end : List Frame → Pick → Query → Option Window → Option Spelling → Token → Option State
join_or_end fs pick source window (Some w) t = goes (WantSource (RightHead (SelectJoin pick source w))) fs
join_or_end fs pick source window None t = end_source fs pick source window t

abbrev pub have_source : List Frame → Pick → Query → Option Window → Token → Option State
have_source fs pick source window t = if is_plain plain.LeftSquare t then begin_window fs pick source window else
    if is_plain plain.Where t then goes WantOperand (InFilter pick source window ∷ fs) else
    if is_plain plain.Group t then goes (WantBy pick source window None) fs else
    join_or_end fs pick source window (join_word (can_join source window) t) t

-- ---- terms and the statement

abbrev pub want_term : List Frame → Token → Option State
want_term fs (token.Plain p) = begin_select fs p
want_term fs (token.Each at) = goes (WantVar at) fs
want_term fs (token.Open at) = goes WantTerm (InQuery at ∷ fs)
want_term fs (token.By at) = begin_arrival fs at
want_term fs t = None

abbrev pub want_name : List Frame → Query → Token → Option State
want_name fs q t = option_and_then (λ name. goes (HaveName q name) fs) (name_in t)

abbrev pub step_at : Control → List Frame → Token → Option State
step_at WantTerm fs t = want_term fs t
step_at (WantArrival l at by') fs t = want_arrival fs l at by' t
step_at (WantVar at) fs t = want_var fs at t
step_at (WantIn at var) fs t = expected plain.In (WantSource (EachHead at var)) fs t
step_at (WantBody head) fs t = want_body fs head t
step_at (HaveTerm q) fs t = have_term fs q t
step_at (WantName q) fs t = want_name fs q t
step_at (HaveName q name) fs t = expected plain.Semicolon (WantEnd q name) fs t
step_at (WantSource head) fs t = want_source fs head t
step_at (HaveSource pick source window) fs t = have_source fs pick source window t
step_at (HaveEachSource at var source) fs t = have_each_source fs at var source t
step_at (WantJoinBy join right) fs t = want_join_by fs join right t
step_at (WantSize head source) fs t = want_size fs head source t
step_at (WantSizeNumber head source at) fs t = want_size_number fs head source at t
step_at (WantAdvance head source at size) fs t = expected plain.Advance (WantAdvanceNumber head source at size) fs t
step_at (WantAdvanceNumber head source at size) fs t = want_advance_number fs head source at size t
step_at (WantMeasure head source at size advance) fs t = want_measure fs head source at size advance t
step_at (WantWindowClose head source window) fs t = expected plain.RightSquare (after_window head source window) fs t
step_at (WantBy pick source window filter) fs t = want_by fs pick source window filter t
step_at (WantKey head at) fs t = want_key fs head at t
step_at (WantGroups head at key) fs t = expected plain.Groups (WantGroupsNumber head at key) fs t
step_at (WantGroupsNumber head at key) fs t = want_groups_number fs head at key t
step_at (WantItem items) fs t = want_item items fs t
step_at WantOperand fs t = want_operand fs t
step_at (WantMinus at) fs t = want_minus fs at t
step_at (WantParameter at) fs t = want_parameter fs at t
step_at (HaveExpr e) fs t = have_expr fs e t
step_at (WantCastOpen at) fs t = want_cast_open fs at t
step_at (WantKind at open' e) fs t = want_kind fs at open' e t
step_at (WantCastClose at open' e word kind) fs t = want_cast_close fs at open' e word kind t
step_at (WantCountOpen items at) fs t = want_count_open fs items at t
step_at (WantCountClose items at open') fs t = expected plain.Close (HaveAgg items (Count at open')) fs t
step_at (WantFoldOpen items fold at) fs t = want_fold_open fs items fold at t
step_at (WantWsumOpen items at) fs t = want_wsum_open fs items at t
step_at (WantWeightsOpen items at open' e) fs t = expected plain.LeftSquare (WantWeight items at open' e []) fs t
step_at (WantWeight items at open' e ns) fs t = want_weight fs items at open' e ns t
step_at (HaveWeight items at open' e ns) fs t = have_weight fs items at open' e ns t
step_at (WantWsumClose items at open' e ns) fs t = expected plain.Close (HaveAgg items (Wsum at open' e ns)) fs t
step_at (HaveAgg items agg) fs t = have_agg fs items agg t
step_at (WantCallOpen items c at) fs t = want_call_open fs items c at t
step_at (WantBack items w open' e) fs t = want_back fs items w open' e t
step_at (WantLagClose items w open' e n) fs t = expected plain.Close (WantOver items (LagOf w open' e (Some n))) fs t
step_at (WantOver items head) fs t = want_over fs items head t
step_at (WantFilterOpen items agg w) fs t = want_filter_open fs items agg w t
step_at (WantFilterWhere items agg w open') fs t = want_filter_where fs items agg w open' t
step_at (WantOverOpen items head w) fs t = want_over_open fs items head w t
step_at (WantPart items head w open') fs t = want_part fs items head w open' t
step_at (WantPartBy items head w open' p) fs t = want_part_by fs items head w open' p t
step_at (InOver items head w open' p rows) fs t = in_over fs items head w open' p rows t
step_at (WantOverAs items over) fs t = expected plain.As (WantItemName items (UnnamedOver over)) fs t
step_at (WantItemName items u) fs t = want_item_name fs items u t
step_at (HaveItem items) fs t = have_item fs items t
step_at (WantFrom at) fs t = expected plain.From (WantSource (SelectHead (All at))) fs t
step_at (WantEnd q name) fs t = None

-- the state behind a token that can stand there
unfoldable pub step : State → Token → Option State
step s t = step_at s.control s.frames t

abbrev pub finish_at : Control → Option Statement
finish_at (HaveName q name) = Some (record { query = q; name = name; closed = false })
finish_at (WantEnd q name) = Some (record { query = q; name = name; closed = true })
finish_at c = None

-- the statement, where it may end here
unfoldable pub finish : State → Option Statement
finish s = finish_at s.control
