-- Every state that reading comes to has an end: single tokens, then all states.
use Rattle.std.proofs.Common.{◌≡◌, ℕ, List, ◌∷◌, ◌++◌, Option, Some, None, refl, sym, subst}
use Rattle.gl_values.specs.declared.kind.Kind.{Kind}
use Rattle.gl_values.specs.declared.kind.Kind.TheVariants.{Unsigned}
use Rattle.gl_query.specs.declared.tree.Name.{Name}
use Rattle.gl_query_tokens.specs.declared.token.Fold.{Fold}
use Rattle.gl_query_tokens.specs.declared.token.Plain.TheVariants as plain
use Rattle.gl_query_tokens.specs.declared.token.Spelling.{Spelling}
use Rattle.gl_query_tokens.specs.declared.token.Spelling.TheVariants.{Capital}
use Rattle.gl_query_tokens.specs.declared.token.Token.{Token}
use Rattle.gl_query_tokens.specs.declared.token.Token.TheVariants as token
use Rattle.gl_query_tokens.specs.declared.token.Word.TheVariants as word
use Rattle.gl_query_tokens.specs.Sorts.{plain_eq, word_eq}
use Rattle.gl_query_reader.specs.declared.joins.Joining.TheVariants as joining
use Rattle.gl_query_reader.specs.declared.over_state.Call.{Call}
use Rattle.gl_query_reader.specs.declared.written.Window.{Window}
use Rattle.gl_query_reader.specs.Written.{Expr, Column, Minus, Cast, Count, OverAgg, Item, Pick, All, Query, Stream, Parameter}
use Rattle.gl_query_reader.specs.States.{State, Control, Frame, SelectHead, EachHead, SelectGroups, InCast, InItem, InFold, InWsum, InCall, InCondition, WantTerm, WantItem, WantOperand, WantMinus, HaveExpr, WantCastOpen, WantKind, WantCastClose, WantCountOpen, WantCountClose, WantFoldOpen, WantWsumOpen, WantWeightsOpen, WantWeight, HaveWeight, WantWsumClose, HaveAgg, WantCallOpen, WantBack, WantLagClose, WantOver, WantFilterOpen, WantFilterWhere, WantOverOpen, WantPart, WantPartBy, InOver, WantOverAs, WantItemName, HaveItem, WantFrom, WantSource, HaveSource, HaveEachSource, WantSize, WantSizeNumber, WantAdvance, WantAdvanceNumber, WantMeasure, WantWindowClose, WantBy, WantKey, WantGroups, WantGroupsNumber, WantVar, WantIn, WantBody, HaveTerm, WantName, HaveName, WantEnd, JoinOf, WantArrival, JoinHead, JoinGroups, WantJoinBy, WantParameter}
use Rattle.gl_query_reader.specs.Machine.{step}
use Rattle.gl_query_reader.proofs.Steps.{steps, state}
use Rattle.gl_query_reader.proofs.ReadExpressions.{wanting, having}
use Rattle.gl_query_reader.specs.Grammar.{CanBegin}
use Rattle.gl_query_reader.proofs.Said.{InTerm, Fits, Holds, Read}
use Rattle.gl_query_reader.proofs.Sound.{sound_steps, sound_finish}
use Rattle.gl_query_reader.proofs.Begins.{some_name, some_number, Ends, by_token, by_tokens, all_text, named_ends, closed_ends, unnamed_ends, have_term_ends, have_source_ends, want_body_ends, have_each_ends, have_item_ends, item_name_ends, as_ends, wsum_close_ends, have_weight_ends, weight_ends, weights_open_ends, want_source_ends, window_close_ends, measure_ends, advance_number_ends, advance_ends, size_number_ends, size_ends}
use Rattle.gl_query_reader.proofs.BeginsFrames.{over_as_ends, in_over_ends, part_ends, part_by_ends, over_open_ends, over_ends, lag_close_ends, back_ends, groups_number_ends, groups_ends, key_ends}
use Rattle.gl_query_reader.proofs.BeginsExpressions.{some_word, kind_then, expr_ends, have_expr_ends, operand_ends}

-- ---- single tokens before these

all_steps : (fs : List Frame) → steps (state WantTerm fs) all_text ≡ Some (state (HaveSource (All 0) (Stream some_name) None) fs)
unfolding steps step plain_eq
all_steps fs = refl

item_step : (fs : List Frame) (items : List Item) → step (state (WantItem items) fs) (token.Name some_name) ≡ Some (having (Column some_name) (InItem items ∷ fs))
unfolding step
item_step fs items = refl

minus_step : (fs : List Frame) (at : ℕ) → step (state (WantMinus at) fs) (token.Number some_number) ≡ Some (having (Minus at some_number) fs)
unfolding step
minus_step fs at = refl

parameter_step : (fs : List Frame) (at : ℕ) → step (state (WantParameter at) fs) (token.Name some_name) ≡ Some (having (Parameter at some_name) fs)
unfolding step
parameter_step fs at = refl

cast_open_step : (fs : List Frame) (at : ℕ) → step (state (WantCastOpen at) fs) (token.Open 0) ≡ Some (wanting (InCast at 0 ∷ fs))
unfolding step
cast_open_step fs at = refl

cast_close_step : (fs : List Frame) (at open' : ℕ) (e : Expr) (word : Name) (kind : Kind) → step (state (WantCastClose at open' e word kind) fs) (token.Plain plain.Close) ≡ Some (having (Cast at open' e word kind) fs)
unfolding step plain_eq
cast_close_step fs at open' e word kind = refl

count_open_step : (fs : List Frame) (items : List Item) (at : ℕ) → step (state (WantCountOpen items at) fs) (token.Open 0) ≡ Some (state (WantCountClose items at 0) fs)
unfolding step
count_open_step fs items at = refl

count_close_step : (fs : List Frame) (items : List Item) (at open' : ℕ) → step (state (WantCountClose items at open') fs) (token.Plain plain.Close) ≡ Some (state (HaveAgg items (Count at open')) fs)
unfolding step plain_eq
count_close_step fs items at open' = refl

count_close_ends : (fs : List Frame) (items : List Item) (at open' : ℕ) → Fits fs → InTerm fs → Ends (state (WantCountClose items at open') fs)
count_close_ends fs items at open' f i = by_token _ (state (HaveAgg items (Count at open')) fs) (token.Plain plain.Close) (count_close_step fs items at open') (as_ends fs items (Count at open') f i)

fold_open_step : (fs : List Frame) (items : List Item) (fold : Fold) (at : ℕ) → step (state (WantFoldOpen items fold at) fs) (token.Open 0) ≡ Some (wanting (InFold items fold at 0 ∷ fs))
unfolding step
fold_open_step fs items fold at = refl

wsum_open_step : (fs : List Frame) (items : List Item) (at : ℕ) → step (state (WantWsumOpen items at) fs) (token.Open 0) ≡ Some (wanting (InWsum items at 0 ∷ fs))
unfolding step
wsum_open_step fs items at = refl

from_step : (fs : List Frame) (at : ℕ) → step (state (WantFrom at) fs) (token.Plain plain.From) ≡ Some (state (WantSource (SelectHead (All at))) fs)
unfolding step plain_eq
from_step fs at = refl

by_step : (fs : List Frame) (pick : Pick) (source : Query) (window : Option Window) (filter : Option Expr) → step (state (WantBy pick source window filter) fs) (token.By 0) ≡ Some (state (WantKey (SelectGroups pick source window filter) 0) fs)
unfolding step
by_step fs pick source window filter = refl

in_step : (fs : List Frame) (at : ℕ) (var : Name) → step (state (WantIn at var) fs) (token.Plain plain.In) ≡ Some (state (WantSource (EachHead at var)) fs)
unfolding step plain_eq
in_step fs at var = refl

in_ends : (fs : List Frame) (at : ℕ) (var : Name) → Fits fs → InTerm fs → Ends (state (WantIn at var) fs)
in_ends fs at var f i = by_token _ (state (WantSource (EachHead at var)) fs) (token.Plain plain.In) (in_step fs at var) (want_source_ends fs (EachHead at var) f i)

var_step : (fs : List Frame) (at : ℕ) → step (state (WantVar at) fs) (token.Name some_name) ≡ Some (state (WantIn at some_name) fs)
unfolding step
var_step fs at = refl

join_by_step : (fs : List Frame) (join : JoinHead) (right : Query) → step (state (WantJoinBy join right) fs) (token.By 0) ≡ Some (state (WantKey (JoinGroups join right) 0) fs)
unfolding step
join_by_step fs join right = refl

call_open_step : (fs : List Frame) (items : List Item) (c : Call) (at : ℕ) → step (state (WantCallOpen items c at) fs) (token.Open 0) ≡ Some (wanting (InCall items c (Capital at) 0 ∷ fs))
unfolding step
call_open_step fs items c at = refl

filter_open_step : (fs : List Frame) (items : List Item) (a : OverAgg) (w : Spelling) → step (state (WantFilterOpen items a w) fs) (token.Open 0) ≡ Some (state (WantFilterWhere items a w 0) fs)
unfolding step
filter_open_step fs items a w = refl

filter_where_step : (fs : List Frame) (items : List Item) (a : OverAgg) (w : Spelling) (open' : ℕ) → step (state (WantFilterWhere items a w open') fs) (token.Plain plain.Where) ≡ Some (wanting (InCondition items a w open' ∷ fs))
unfolding step plain_eq
filter_where_step fs items a w open' = refl

filter_where_ends : (fs : List Frame) (items : List Item) (a : OverAgg) (w : Spelling) (open' : ℕ) → Fits fs → Holds (WantFilterWhere items a w open') fs → Ends (state (WantFilterWhere items a w open') fs)
filter_where_ends fs items a w open' f h = by_token _ (wanting (InCondition items a w open' ∷ fs)) (token.Plain plain.Where) (filter_where_step fs items a w open') (operand_ends (InCondition items a w open' ∷ fs) (h, f) tt)

arrival_step : (fs : List Frame) (l : Query) (at by' : ℕ) → step (state (WantArrival l at by') fs) (token.Word word.Arrival 0) ≡ Some (state WantTerm (JoinOf l (joining.Arrival by' (Capital 0)) at ∷ fs))
unfolding step word_eq
arrival_step fs l at by' = refl

want_term_ends : (fs : List Frame) → Fits fs → InTerm fs → Ends (state WantTerm fs)
want_term_ends fs f i = by_tokens (state WantTerm fs) (state (HaveSource (All 0) (Stream some_name) None) fs) all_text (all_steps fs) (have_source_ends fs (All 0) (Stream some_name) None f i)

-- every state goes on to a whole statement
pub state_ends : (c : Control) (fs : List Frame) → Fits fs → Holds c fs → Ends (state c fs)
state_ends WantTerm fs f h = want_term_ends fs f h
state_ends (WantItem items) fs f h = by_token _ (having (Column some_name) (InItem items ∷ fs)) (token.Name some_name) (item_step fs items) (have_expr_ends (InItem items ∷ fs) (Column some_name) (h, f) tt)
state_ends WantOperand fs f h = operand_ends fs f h
state_ends (WantMinus at) fs f h = by_token _ (having (Minus at some_number) fs) (token.Number some_number) (minus_step fs at) (have_expr_ends fs (Minus at some_number) f h)
state_ends (WantParameter at) fs f h = by_token _ (having (Parameter at some_name) fs) (token.Name some_name) (parameter_step fs at) (have_expr_ends fs (Parameter at some_name) f h)
state_ends (HaveExpr e) fs f h = have_expr_ends fs e f h.0
state_ends (WantCastOpen at) fs f h = by_token _ (wanting (InCast at 0 ∷ fs)) (token.Open 0) (cast_open_step fs at) (operand_ends (InCast at 0 ∷ fs) (h, f) tt)
state_ends (WantKind at open' e) fs f h = kind_then fs at open' e (expr_ends fs (Cast at open' e some_word (Unsigned 1)) f h.0)
state_ends (WantCastClose at open' e word kind) fs f h = by_token _ (having (Cast at open' e word kind) fs) (token.Plain plain.Close) (cast_close_step fs at open' e word kind) (have_expr_ends fs (Cast at open' e word kind) f h.0)
state_ends (WantCountOpen items at) fs f h = by_token _ (state (WantCountClose items at 0) fs) (token.Open 0) (count_open_step fs items at) (count_close_ends fs items at 0 f h.0)
state_ends (WantCountClose items at open') fs f h = count_close_ends fs items at open' f h.0
state_ends (WantFoldOpen items fold at) fs f h = by_token _ (wanting (InFold items fold at 0 ∷ fs)) (token.Open 0) (fold_open_step fs items fold at) (operand_ends (InFold items fold at 0 ∷ fs) (h, f) tt)
state_ends (WantWsumOpen items at) fs f h = by_token _ (wanting (InWsum items at 0 ∷ fs)) (token.Open 0) (wsum_open_step fs items at) (operand_ends (InWsum items at 0 ∷ fs) (h, f) tt)
state_ends (WantWeightsOpen items at open' e) fs f h = weights_open_ends fs items at open' e f h.0
state_ends (WantWeight items at open' e ns) fs f h = weight_ends fs items at open' e ns f h.0
state_ends (HaveWeight items at open' e ns) fs f h = have_weight_ends fs items at open' e ns f h.0
state_ends (WantWsumClose items at open' e ns) fs f h = wsum_close_ends fs items at open' e ns f h.0
state_ends (HaveAgg items agg) fs f h = as_ends fs items agg f h.0
state_ends (WantCallOpen items c at) fs f h = by_token _ (wanting (InCall items c (Capital at) 0 ∷ fs)) (token.Open 0) (call_open_step fs items c at) (operand_ends (InCall items c (Capital at) 0 ∷ fs) (h, f) tt)
state_ends (WantBack items w open' e) fs f h = back_ends fs items w open' e f h.0
state_ends (WantLagClose items w open' e n) fs f h = lag_close_ends fs items w open' e n f h.0
state_ends (WantOver items head) fs f h = over_ends fs items head f h.0
state_ends (WantFilterOpen items a w) fs f h = by_token _ (state (WantFilterWhere items a w 0) fs) (token.Open 0) (filter_open_step fs items a w) (filter_where_ends fs items a w 0 f h)
state_ends (WantFilterWhere items a w open') fs f h = filter_where_ends fs items a w open' f h
state_ends (WantOverOpen items head w) fs f h = over_open_ends fs items head w f h.0
state_ends (WantPart items head w open') fs f h = part_ends fs items head w open' f h.0
state_ends (WantPartBy items head w open' p) fs f h = part_by_ends fs items head w open' p f h.0
state_ends (InOver items head w open' p r) fs f h = in_over_ends fs items head w open' p r f h.0
state_ends (WantOverAs items o) fs f h = over_as_ends fs items o f h.0
state_ends (WantItemName items u) fs f h = item_name_ends fs items u f h.0
state_ends (HaveItem items) fs f h = have_item_ends fs items f h.0
state_ends (WantFrom at) fs f h = by_token _ (state (WantSource (SelectHead (All at))) fs) (token.Plain plain.From) (from_step fs at) (want_source_ends fs (SelectHead (All at)) f h)
state_ends (WantSource head) fs f h = want_source_ends fs head f h.0
state_ends (HaveSource pick source window) fs f h = have_source_ends fs pick source window f h.0
state_ends (HaveEachSource at var source) fs f h = have_each_ends fs at var source f h.0
state_ends (WantSize head source) fs f h = size_ends fs head source f h.0
state_ends (WantSizeNumber head source at) fs f h = size_number_ends fs head source at f h.0
state_ends (WantAdvance head source at size) fs f h = advance_ends fs head source at size f h.0
state_ends (WantAdvanceNumber head source at size) fs f h = advance_number_ends fs head source at size f h.0
state_ends (WantMeasure head source at size advance) fs f h = measure_ends fs head source at size advance f h.0
state_ends (WantWindowClose head source w) fs f h = window_close_ends fs head source w f h.0
state_ends (WantBy pick source window filter) fs f h = by_token _ (state (WantKey (SelectGroups pick source window filter) 0) fs) (token.By 0) (by_step fs pick source window filter) (key_ends fs (SelectGroups pick source window filter) 0 f h.0)
state_ends (WantKey head at) fs f h = key_ends fs head at f h.0
state_ends (WantGroups head at key) fs f h = groups_ends fs head at key f h.0
state_ends (WantGroupsNumber head at key) fs f h = groups_number_ends fs head at key f h.0
state_ends (WantArrival l at by') fs f h = by_token _ (state WantTerm (JoinOf l (joining.Arrival by' (Capital 0)) at ∷ fs)) (token.Word word.Arrival 0) (arrival_step fs l at by') (want_term_ends (JoinOf l (joining.Arrival by' (Capital 0)) at ∷ fs) (h, f) tt)
state_ends (WantJoinBy join right) fs f h = by_token _ (state (WantKey (JoinGroups join right) 0) fs) (token.By 0) (join_by_step fs join right) (key_ends fs (JoinGroups join right) 0 f h.0)
state_ends (WantVar at) fs f h = by_token _ (state (WantIn at some_name) fs) (token.Name some_name) (var_step fs at) (in_ends fs at some_name f h)
state_ends (WantIn at var) fs f h = in_ends fs at var f h
state_ends (WantBody head) fs f h = want_body_ends fs head f h.0
state_ends (HaveTerm q) fs f h = have_term_ends fs q f h.0
state_ends (WantName q) fs f h = subst (λ (x : List Frame). Ends (state (WantName q) x)) (sym h.0) (unnamed_ends q)
state_ends (HaveName q name) fs f h = subst (λ (x : List Frame). Ends (state (HaveName q name) x)) (sym h.0) (named_ends q name)
state_ends (WantEnd q name) fs f h = subst (λ (x : List Frame). Ends (state (WantEnd q name) x)) (sym h.0) (closed_ends q name)

-- what was read so far begins a statement
pub begins : (s : State) (done : List Token) → Read s done → CanBegin done
begins s done r =
    let e = state_ends s.control s.frames r.fits r.holds in
    (e.more, e.written, sound_finish e.there (done ++ e.more) e.written (sound_steps e.more s e.there done r e.steps) e.done)
