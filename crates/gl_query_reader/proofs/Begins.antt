-- What was read so far begins a statement.
use Rattle.std.proofs.Common.{◌≡◌, ℕ, true, false, List, [], ◌∷◌, ◌++◌, Option, Some, None, refl, sym, ◌∙◌}
use Rattle.std.specs.Prelude.{codes}
use Rattle.gl_query.specs.declared.tree.Measure.TheVariants.{Tuples}
use Rattle.gl_query.specs.declared.tree.Name.{Name}
use Rattle.gl_query.specs.declared.tree.Num.{Num}
use Rattle.gl_values.specs.declared.op.Op.TheVariants as op
use Rattle.gl_query_tokens.specs.declared.token.Plain.TheVariants as plain
use Rattle.gl_query_tokens.specs.declared.token.Token.{Token}
use Rattle.gl_query_tokens.specs.declared.token.Token.TheVariants as token
use Rattle.gl_query_tokens.specs.Sorts.{plain_eq}
use Rattle.gl_query_reader.specs.declared.written.Window.{Window}
use Rattle.gl_query_reader.specs.declared.written.Grouping.{Grouping}
use Rattle.gl_query_reader.specs.Written.{Expr, Agg, Wsum, Item, Pick, All, Items, Query, Stream, InBrackets, Select, Groups, AsOf', Join', Statement}
use Rattle.gl_query_reader.specs.States.{after_window, measured, row_window, State, Frame, Head, WindowHead, BodyHead, Unnamed, SelectHead, EachHead, RightHead, JoinHead, SelectJoin, EachJoin, EachGroups, WantKey, WantJoinBy, SelectWindow, EachWindow, GroupsWindow, WindowsHead, GroupsHead', UnnamedAgg, JoinOf, InQuery, InSource, InBody, WantWeightsOpen, WantWeight, HaveWeight, WantWsumClose, HaveAgg, WantItemName, HaveItem, WantSource, HaveSource, HaveEachSource, WantSize, WantSizeNumber, WantAdvance, WantAdvanceNumber, WantMeasure, WantWindowClose, WantBody, HaveTerm, WantName, HaveName, WantEnd}
use Rattle.gl_query_reader.specs.Windowed.{after_join}
use Rattle.gl_query_reader.specs.Machine.{have_term, after_source, body_of, under_name, step, finish}
use Rattle.gl_query_reader.proofs.Steps.{steps, state, is-machine}
use Rattle.gl_query_reader.proofs.ReadQueries.{Follows, close-follows, into-follows, have-source, have-whole, term-alone}
use Rattle.gl_query_reader.proofs.ReadSides.{each_by, key_groups}
use Rattle.gl_query_reader.proofs.Said.{InTerm, Fits}
use Rattle.gl_bits.proofs.Machines.{machine-append}

abbrev pub some_name : Name
some_name = record { text = codes "a"; at = 0 }

abbrev pub some_number : Num
some_number = record { value = 1; at = 0 }

-- tokens that lead to a whole statement
pub record Ends (s : State) : Type 0 where
  pub more : List Token
  pub there : State
  pub written : Statement
  pub steps : steps s more ≡ Some there
  pub done : finish there ≡ Some written

pub by_token : (s s' : State) (t : Token) → step s t ≡ Some s' → Ends s' → Ends s
by_token s s' t e x = record { more = t ∷ x.more; there = x.there; written = x.written; steps = is-machine.goes s s' t x.more e ∙ x.steps; done = x.done }

pub by_tokens : (s s' : State) (ts : List Token) → steps s ts ≡ Some s' → Ends s' → Ends s
by_tokens s s' ts e x = record { more = ts ++ x.more; there = x.there; written = x.written; steps = machine-append step steps is-machine ts x.more s s' e ∙ x.steps; done = x.done }

-- ---- behind a term

pub record TermEnds (fs : List Frame) (q : Query) : Type 0 where
  pub next : Token
  pub follows : Follows next
  pub there : State
  pub goes : have_term fs q next ≡ Some there
  pub ends : Ends there

whole_ends : (fs : List Frame) (q : Query) → TermEnds fs q → Ends (state (HaveTerm q) fs)
whole_ends fs q x = by_token (state (HaveTerm q) fs) x.there x.next (have-whole q fs x.next ∙ x.goes) x.ends

source_ends : (fs : List Frame) (pick : Pick) (source : Query) (window : Option Window) → TermEnds fs (Select pick source window None None) → Ends (state (HaveSource pick source window) fs)
source_ends fs pick source window x = by_token (state (HaveSource pick source window) fs) x.there x.next (have-source pick source window fs x.next x.follows ∙ x.goes) x.ends

-- all of one stream
abbrev pub all_of_one : Query
all_of_one = Select (All 0) (Stream some_name) None None None

abbrev pub all_text : List Token
all_text = token.Plain plain.Select ∷ token.Operator op.Mul 0 ∷ token.Plain plain.From ∷ token.Name some_name ∷ []

abbrev pub body_tokens : List Token
body_tokens = token.Open 0 ∷ token.Plain plain.Select ∷ token.Operator op.Mul 0 ∷ token.Plain plain.From ∷ token.Name some_name ∷ token.Plain plain.Close ∷ []

body_steps : (fs : List Frame) (head : BodyHead) → steps (state (WantBody head) fs) body_tokens ≡ Some (state (HaveTerm (body_of head 0 all_of_one)) fs)
unfolding steps step plain_eq
body_steps fs (WindowsHead at var source w) = refl
body_steps fs (GroupsHead' at var source g None) = refl
body_steps fs (GroupsHead' at var source g (Some w)) = refl

body_ends : (fs : List Frame) (head : BodyHead) → TermEnds fs (body_of head 0 all_of_one) → Ends (state (WantBody head) fs)
body_ends fs head x = by_tokens (state (WantBody head) fs) (state (HaveTerm (body_of head 0 all_of_one)) fs) body_tokens (body_steps fs head) (whole_ends fs (body_of head 0 all_of_one) x)

abbrev pub some_grouping : ℕ → Grouping
some_grouping at = record { at = at; key = some_name; groups = some_number }

each_steps : (fs : List Frame) (at : ℕ) (var : Name) (source : Query) → steps (state (HaveEachSource at var source) fs) (token.By 0 ∷ token.Name some_name ∷ token.Plain plain.Groups ∷ token.Number some_number ∷ []) ≡ Some (state (WantBody (GroupsHead' at var source (some_grouping 0) None)) fs)
each_steps fs at var source =
    is-machine.goes (state (HaveEachSource at var source) fs) (state (WantKey (EachGroups at var source) 0) fs) (token.By 0) (token.Name some_name ∷ token.Plain plain.Groups ∷ token.Number some_number ∷ []) (each_by at var source 0 fs)
    ∙ key_groups at var source (some_grouping 0) fs []
    ∙ is-machine.none_left (state (WantBody (GroupsHead' at var source (some_grouping 0) None)) fs)

each_ends : (fs : List Frame) (at : ℕ) (var : Name) (source : Query) → TermEnds fs (Groups at var source (some_grouping 0) None 0 all_of_one) → Ends (state (HaveEachSource at var source) fs)
each_ends fs at var source x = by_tokens (state (HaveEachSource at var source) fs) (state (WantBody (GroupsHead' at var source (some_grouping 0) None)) fs) (token.By 0 ∷ token.Name some_name ∷ token.Plain plain.Groups ∷ token.Number some_number ∷ []) (each_steps fs at var source) (body_ends fs (GroupsHead' at var source (some_grouping 0) None) x)

-- what ends with a join
abbrev pub closing : JoinHead → Query → Query
closing (SelectJoin pick l w) r = Select pick (AsOf' w l r (some_grouping 0)) None None None
closing (EachJoin at var l w) r = Groups at var (AsOf' w l r (some_grouping 0)) (some_grouping 0) None 0 all_of_one

join_steps : (fs : List Frame) (join : JoinHead) (r : Query) → steps (state (WantJoinBy join r) fs) (token.By 0 ∷ token.Name some_name ∷ token.Plain plain.Groups ∷ token.Number some_number ∷ []) ≡ Some (state (after_join join r (some_grouping 0)) fs)
unfolding steps step plain_eq
join_steps fs join r = refl

joined_ends : (fs : List Frame) (join : JoinHead) (r : Query) → TermEnds fs (closing join r) → Ends (state (after_join join r (some_grouping 0)) fs)
joined_ends fs (SelectJoin pick l w) r x = source_ends fs pick (AsOf' w l r (some_grouping 0)) None x
joined_ends fs (EachJoin at var l w) r x = each_ends fs at var (AsOf' w l r (some_grouping 0)) x

join_ends : (fs : List Frame) (join : JoinHead) (r : Query) → TermEnds fs (closing join r) → Ends (state (WantJoinBy join r) fs)
join_ends fs join r x = by_tokens (state (WantJoinBy join r) fs) (state (after_join join r (some_grouping 0)) fs) (token.By 0 ∷ token.Name some_name ∷ token.Plain plain.Groups ∷ token.Number some_number ∷ []) (join_steps fs join r) (joined_ends fs join r x)

pub named_ends : (q : Query) (name : Name) → Ends (state (HaveName q name) [])
unfolding steps finish
named_ends q name = record { more = []; there = state (HaveName q name) []; written = record { query = q; name = name; closed = false }; steps = refl; done = refl }

pub closed_ends : (q : Query) (name : Name) → Ends (state (WantEnd q name) [])
unfolding steps finish
closed_ends q name = record { more = []; there = state (WantEnd q name) []; written = record { query = q; name = name; closed = true }; steps = refl; done = refl }

name_step : (q : Query) → step (state (WantName q) []) (token.Name some_name) ≡ Some (state (HaveName q some_name) [])
unfolding step
name_step q = refl

pub unnamed_ends : (q : Query) → Ends (state (WantName q) [])
unnamed_ends q = by_token (state (WantName q) []) (state (HaveName q some_name) []) (token.Name some_name) (name_step q) (named_ends q some_name)

-- what waits for a query ends
pub term_ends : (fs : List Frame) (q : Query) → Fits fs → InTerm fs → TermEnds fs q
term_ends [] q f i = record { next = token.Plain plain.Into; follows = into-follows; there = state (WantName q) []; goes = refl; ends = unnamed_ends q }
term_ends (JoinOf l join at ∷ fs) q f i =
    let x = term_ends fs (Join' join at l q) f.1 f.0.0 in
    record { next = x.next; follows = x.follows; there = x.there; goes = sym (term-alone fs (Join' join at l q) x.next f.0.1) ∙ x.goes; ends = x.ends }
term_ends (InQuery at ∷ fs) q f i = record {
  next = token.Plain plain.Close;
  follows = close-follows;
  there = state (HaveTerm (InBrackets at q)) fs;
  goes = refl;
  ends = whole_ends fs (InBrackets at q) (term_ends fs (InBrackets at q) f.1 f.0);
}
term_ends (InSource (SelectHead pick) at ∷ fs) q f i = record {
  next = token.Plain plain.Close;
  follows = close-follows;
  there = state (HaveSource pick (InBrackets at q) None) fs;
  goes = refl;
  ends = source_ends fs pick (InBrackets at q) None (term_ends fs (Select pick (InBrackets at q) None None None) f.1 f.0.0);
}
term_ends (InSource (EachHead at' var) at ∷ fs) q f i = record {
  next = token.Plain plain.Close;
  follows = close-follows;
  there = state (HaveEachSource at' var (InBrackets at q)) fs;
  goes = refl;
  ends = each_ends fs at' var (InBrackets at q) (term_ends fs (Groups at' var (InBrackets at q) (some_grouping 0) None 0 all_of_one) f.1 f.0.0);
}
term_ends (InSource (RightHead join) at ∷ fs) q f i = record {
  next = token.Plain plain.Close;
  follows = close-follows;
  there = state (WantJoinBy join (InBrackets at q)) fs;
  goes = refl;
  ends = join_ends fs join (InBrackets at q) (term_ends fs (closing join (InBrackets at q)) f.1 f.0.0);
}
term_ends (InBody head open' ∷ fs) q f i = record {
  next = token.Plain plain.Close;
  follows = close-follows;
  there = state (HaveTerm (body_of head open' q)) fs;
  goes = refl;
  ends = whole_ends fs (body_of head open' q) (term_ends fs (body_of head open' q) f.1 f.0.0);
}
term_ends fs q f i = absurd i

-- a term, a source or a body that is still wanted
pub have_term_ends : (fs : List Frame) (q : Query) → Fits fs → InTerm fs → Ends (state (HaveTerm q) fs)
have_term_ends fs q f i = whole_ends fs q (term_ends fs q f i)

pub have_source_ends : (fs : List Frame) (pick : Pick) (source : Query) (window : Option Window) → Fits fs → InTerm fs → Ends (state (HaveSource pick source window) fs)
have_source_ends fs pick source window f i = source_ends fs pick source window (term_ends fs (Select pick source window None None) f i)

pub want_body_ends : (fs : List Frame) (head : BodyHead) → Fits fs → InTerm fs → Ends (state (WantBody head) fs)
want_body_ends fs head f i = body_ends fs head (term_ends fs (body_of head 0 all_of_one) f i)

pub have_each_ends : (fs : List Frame) (at : ℕ) (var : Name) (source : Query) → Fits fs → InTerm fs → Ends (state (HaveEachSource at var source) fs)
have_each_ends fs at var source f i = each_ends fs at var source (term_ends fs (Groups at var source (some_grouping 0) None 0 all_of_one) f i)

-- a join that still wants its key, or has one
pub join_by_ends : (fs : List Frame) (join : JoinHead) (right : Query) → Fits fs → InTerm fs → Ends (state (WantJoinBy join right) fs)
join_by_ends fs join right f i = join_ends fs join right (term_ends fs (closing join right) f i)

pub after_join_ends : (fs : List Frame) (join : JoinHead) (right : Query) (g : Grouping) → Fits fs → InTerm fs → Ends (state (after_join join right g) fs)
after_join_ends fs (SelectJoin pick l w) right g f i = have_source_ends fs pick (AsOf' w l right g) None f i
after_join_ends fs (EachJoin at var l w) right g f i = have_each_ends fs at var (AsOf' w l right g) f i

-- ---- items

from_steps : (fs : List Frame) (items : List Item) → steps (state (HaveItem items) fs) (token.Plain plain.From ∷ token.Name some_name ∷ []) ≡ Some (state (HaveSource (Items items) (Stream some_name) None) fs)
unfolding steps step plain_eq
from_steps fs items = refl

pub have_item_ends : (fs : List Frame) (items : List Item) → Fits fs → InTerm fs → Ends (state (HaveItem items) fs)
have_item_ends fs items f i = by_tokens _ (state (HaveSource (Items items) (Stream some_name) None) fs) (token.Plain plain.From ∷ token.Name some_name ∷ []) (from_steps fs items) (have_source_ends fs (Items items) (Stream some_name) None f i)

item_name_step : (fs : List Frame) (items : List Item) (u : Unnamed) → step (state (WantItemName items u) fs) (token.Name some_name) ≡ Some (state (HaveItem (items ++ under_name u some_name ∷ [])) fs)
unfolding step
item_name_step fs items u = refl

pub item_name_ends : (fs : List Frame) (items : List Item) (u : Unnamed) → Fits fs → InTerm fs → Ends (state (WantItemName items u) fs)
item_name_ends fs items u f i = by_token _ (state (HaveItem (items ++ under_name u some_name ∷ [])) fs) (token.Name some_name) (item_name_step fs items u) (have_item_ends fs (items ++ under_name u some_name ∷ []) f i)

as_step : (fs : List Frame) (items : List Item) (agg : Agg) → step (state (HaveAgg items agg) fs) (token.Plain plain.As) ≡ Some (state (WantItemName items (UnnamedAgg agg)) fs)
unfolding step plain_eq
as_step fs items agg = refl

pub as_ends : (fs : List Frame) (items : List Item) (agg : Agg) → Fits fs → InTerm fs → Ends (state (HaveAgg items agg) fs)
as_ends fs items agg f i = by_token _ (state (WantItemName items (UnnamedAgg agg)) fs) (token.Plain plain.As) (as_step fs items agg) (item_name_ends fs items (UnnamedAgg agg) f i)

wsum_close_step : (fs : List Frame) (items : List Item) (at open' : ℕ) (e : Expr) (ns : List Num) → step (state (WantWsumClose items at open' e ns) fs) (token.Plain plain.Close) ≡ Some (state (HaveAgg items (Wsum at open' e ns)) fs)
unfolding step plain_eq
wsum_close_step fs items at open' e ns = refl

pub wsum_close_ends : (fs : List Frame) (items : List Item) (at open' : ℕ) (e : Expr) (ns : List Num) → Fits fs → InTerm fs → Ends (state (WantWsumClose items at open' e ns) fs)
wsum_close_ends fs items at open' e ns f i = by_token _ (state (HaveAgg items (Wsum at open' e ns)) fs) (token.Plain plain.Close) (wsum_close_step fs items at open' e ns) (as_ends fs items (Wsum at open' e ns) f i)

have_weight_step : (fs : List Frame) (items : List Item) (at open' : ℕ) (e : Expr) (ns : List Num) → step (state (HaveWeight items at open' e ns) fs) (token.Plain plain.RightSquare) ≡ Some (state (WantWsumClose items at open' e ns) fs)
unfolding step plain_eq
have_weight_step fs items at open' e ns = refl

pub have_weight_ends : (fs : List Frame) (items : List Item) (at open' : ℕ) (e : Expr) (ns : List Num) → Fits fs → InTerm fs → Ends (state (HaveWeight items at open' e ns) fs)
have_weight_ends fs items at open' e ns f i = by_token _ (state (WantWsumClose items at open' e ns) fs) (token.Plain plain.RightSquare) (have_weight_step fs items at open' e ns) (wsum_close_ends fs items at open' e ns f i)

weight_step : (fs : List Frame) (items : List Item) (at open' : ℕ) (e : Expr) (ns : List Num) → step (state (WantWeight items at open' e ns) fs) (token.Number some_number) ≡ Some (state (HaveWeight items at open' e (ns ++ some_number ∷ [])) fs)
unfolding step
weight_step fs items at open' e ns = refl

pub weight_ends : (fs : List Frame) (items : List Item) (at open' : ℕ) (e : Expr) (ns : List Num) → Fits fs → InTerm fs → Ends (state (WantWeight items at open' e ns) fs)
weight_ends fs items at open' e ns f i = by_token _ (state (HaveWeight items at open' e (ns ++ some_number ∷ [])) fs) (token.Number some_number) (weight_step fs items at open' e ns) (have_weight_ends fs items at open' e (ns ++ some_number ∷ []) f i)

weights_open_step : (fs : List Frame) (items : List Item) (at open' : ℕ) (e : Expr) → step (state (WantWeightsOpen items at open' e) fs) (token.Plain plain.LeftSquare) ≡ Some (state (WantWeight items at open' e []) fs)
unfolding step plain_eq
weights_open_step fs items at open' e = refl

pub weights_open_ends : (fs : List Frame) (items : List Item) (at open' : ℕ) (e : Expr) → Fits fs → InTerm fs → Ends (state (WantWeightsOpen items at open' e) fs)
weights_open_ends fs items at open' e f i = by_token _ (state (WantWeight items at open' e []) fs) (token.Plain plain.LeftSquare) (weights_open_step fs items at open' e) (weight_ends fs items at open' e [] f i)

-- ---- sources, windows and groups

source_step : (fs : List Frame) (head : Head) → step (state (WantSource head) fs) (token.Name some_name) ≡ Some (state (after_source head (Stream some_name)) fs)
unfolding step
source_step fs head = refl

after_source_ends : (fs : List Frame) (head : Head) → Fits fs → InTerm fs → Ends (state (after_source head (Stream some_name)) fs)
after_source_ends fs (SelectHead pick) f i = have_source_ends fs pick (Stream some_name) None f i
after_source_ends fs (EachHead at var) f i = have_each_ends fs at var (Stream some_name) f i
after_source_ends fs (RightHead join) f i = join_by_ends fs join (Stream some_name) f i

pub want_source_ends : (fs : List Frame) (head : Head) → Fits fs → InTerm fs → Ends (state (WantSource head) fs)
want_source_ends fs head f i = by_token _ (state (after_source head (Stream some_name)) fs) (token.Name some_name) (source_step fs head) (after_source_ends fs head f i)

after_window_ends : (fs : List Frame) (head : WindowHead) (source : Query) (w : Window) → Fits fs → InTerm fs → Ends (state (after_window head source w) fs)
after_window_ends fs (SelectWindow pick) source w f i = have_source_ends fs pick source (Some w) f i
after_window_ends fs (EachWindow at var) source w f i = want_body_ends fs (WindowsHead at var source w) f i
after_window_ends fs (GroupsWindow at var g) source w f i = want_body_ends fs (GroupsHead' at var source g (Some (row_window w))) f i

window_close_step : (fs : List Frame) (head : WindowHead) (source : Query) (w : Window) → step (state (WantWindowClose head source w) fs) (token.Plain plain.RightSquare) ≡ Some (state (after_window head source w) fs)
unfolding step plain_eq
window_close_step fs head source w = refl

pub window_close_ends : (fs : List Frame) (head : WindowHead) (source : Query) (w : Window) → Fits fs → InTerm fs → Ends (state (WantWindowClose head source w) fs)
window_close_ends fs head source w f i = by_token _ (state (after_window head source w) fs) (token.Plain plain.RightSquare) (window_close_step fs head source w) (after_window_ends fs head source w f i)

measure_step : (fs : List Frame) (head : WindowHead) (source : Query) (at : ℕ) (size advance : Num) → step (state (WantMeasure head source at size advance) fs) (token.Plain plain.Tuples) ≡ Some (state (WantWindowClose head source (measured at size advance Tuples)) fs)
unfolding step plain_eq
measure_step fs (SelectWindow pick) source at size advance = refl
measure_step fs (EachWindow e var) source at size advance = refl
measure_step fs (GroupsWindow e var g) source at size advance = refl

pub measure_ends : (fs : List Frame) (head : WindowHead) (source : Query) (at : ℕ) (size advance : Num) → Fits fs → InTerm fs → Ends (state (WantMeasure head source at size advance) fs)
measure_ends fs head source at size advance f i = by_token _ (state (WantWindowClose head source (measured at size advance Tuples)) fs) (token.Plain plain.Tuples) (measure_step fs head source at size advance) (window_close_ends fs head source (measured at size advance Tuples) f i)

advance_number_step : (fs : List Frame) (head : WindowHead) (source : Query) (at : ℕ) (size : Num) → step (state (WantAdvanceNumber head source at size) fs) (token.Number some_number) ≡ Some (state (WantMeasure head source at size some_number) fs)
unfolding step
advance_number_step fs head source at size = refl

pub advance_number_ends : (fs : List Frame) (head : WindowHead) (source : Query) (at : ℕ) (size : Num) → Fits fs → InTerm fs → Ends (state (WantAdvanceNumber head source at size) fs)
advance_number_ends fs head source at size f i = by_token _ (state (WantMeasure head source at size some_number) fs) (token.Number some_number) (advance_number_step fs head source at size) (measure_ends fs head source at size some_number f i)

advance_step : (fs : List Frame) (head : WindowHead) (source : Query) (at : ℕ) (size : Num) → step (state (WantAdvance head source at size) fs) (token.Plain plain.Advance) ≡ Some (state (WantAdvanceNumber head source at size) fs)
unfolding step plain_eq
advance_step fs head source at size = refl

pub advance_ends : (fs : List Frame) (head : WindowHead) (source : Query) (at : ℕ) (size : Num) → Fits fs → InTerm fs → Ends (state (WantAdvance head source at size) fs)
advance_ends fs head source at size f i = by_token _ (state (WantAdvanceNumber head source at size) fs) (token.Plain plain.Advance) (advance_step fs head source at size) (advance_number_ends fs head source at size f i)

size_number_step : (fs : List Frame) (head : WindowHead) (source : Query) (at : ℕ) → step (state (WantSizeNumber head source at) fs) (token.Number some_number) ≡ Some (state (WantAdvance head source at some_number) fs)
unfolding step
size_number_step fs head source at = refl

pub size_number_ends : (fs : List Frame) (head : WindowHead) (source : Query) (at : ℕ) → Fits fs → InTerm fs → Ends (state (WantSizeNumber head source at) fs)
size_number_ends fs head source at f i = by_token _ (state (WantAdvance head source at some_number) fs) (token.Number some_number) (size_number_step fs head source at) (advance_ends fs head source at some_number f i)

size_step : (fs : List Frame) (head : WindowHead) (source : Query) → step (state (WantSize head source) fs) (token.Size 0) ≡ Some (state (WantSizeNumber head source 0) fs)
unfolding step
size_step fs head source = refl

pub size_ends : (fs : List Frame) (head : WindowHead) (source : Query) → Fits fs → InTerm fs → Ends (state (WantSize head source) fs)
size_ends fs head source f i = by_token _ (state (WantSizeNumber head source 0) fs) (token.Size 0) (size_step fs head source) (size_number_ends fs head source 0 f i)
