-- A query that is spelled is read again, and no tokens have two statements.
use Rattle.std.proofs.Common.{◌≡◌, ℕ, Bool, true, false, List, [], ◌∷◌, ◌++◌, Option, Some, None, refl, sym, ap, ◌∙◌, append_assoc, arith}
use Rattle.std.specs.Prelude.{option_and_then}
use Rattle.gl_query.specs.declared.tree.Measure.{Measure}
use Rattle.gl_query.specs.declared.tree.Measure.TheVariants.{Tuples, Time}
use Rattle.gl_query.specs.declared.tree.Name.{Name}
use Rattle.gl_query.specs.declared.tree.Num.{Num}
use Rattle.gl_query_tokens.specs.declared.token.Join.{Join}
use Rattle.gl_query_tokens.specs.declared.token.Join.TheVariants as join
use Rattle.gl_query_tokens.specs.declared.token.Spelling.{Spelling}
use Rattle.gl_query_tokens.specs.declared.token.Word.TheVariants as word
use Rattle.gl_query_reader.specs.declared.joins.Joining.{Joining}
use Rattle.gl_query_reader.specs.declared.joins.Joining.TheVariants as joining
use Rattle.gl_query_tokens.specs.declared.token.Plain.TheVariants as plain
use Rattle.gl_query_tokens.specs.declared.token.Token.{Token}
use Rattle.gl_query_tokens.specs.declared.token.Token.TheVariants as token
use Rattle.gl_query_tokens.specs.Sorts.{plain_eq, is_plain, word_in}
use Rattle.gl_query_reader.specs.declared.written.RowWindow.{RowWindow}
use Rattle.gl_query_reader.specs.declared.written.Window.{Window}
use Rattle.gl_query_reader.specs.declared.written.Grouping.{Grouping}
use Rattle.gl_query_reader.specs.Written.{Expr, Pick, Query, Stream, InBrackets, Select, Windows, Groups, AsOf', Join', Statement, IsPick, IsQuery, IsSide, IsSource, IsTerm, IsFilter, measure_word, spell, spell_pick, spell_window, spell_if_window, spell_row_window, spell_filter, spell_grouping, spell_if_grouping, spell_join, spell_word, spell_query, spell_end, spell_statement}
use Rattle.gl_query_reader.specs.States.{after_window, measure_in, measure_for, measured, State, Frame, InFilter, JoinOf, InQuery, InSource, InBody, Head, SelectHead, EachHead, RightHead, JoinHead, SelectJoin, EachJoin, WindowHead, SelectWindow, EachWindow, GroupsWindow, WindowsHead, GroupsHead', EachGroups, WantKey, WantBody, WantSize, WantTerm, WantSource, HaveSource, HaveEachSource, WantArrival, HaveTerm, WantName, HaveName, WantEnd, goes, start}
use Rattle.gl_query_reader.specs.Windowed.{after_join, can_join}
use Rattle.gl_query_reader.specs.Machine.{Joined, reduced, joined, after_source, after_query, have_term, is_operator, step, finish}
use Rattle.gl_query_reader.specs.Grammar.{Derives}
use Rattle.gl_query_reader.proofs.Steps.{steps, state, is-machine}
use Rattle.gl_query_reader.proofs.ReadExpressions.{waits, last_of, pair, wanting, having, reads_expr, reduced-whole, level-lt}
use Rattle.gl_query_reader.proofs.ReadItems.{wanting_item, reads_pick}
use Rattle.gl_query_reader.proofs.RowsSaid.{word-in}
use Rattle.gl_query_reader.proofs.ReadSides.{IsFirst, each_by, each_joins, ends_alone, join_grouping, key_groups, select_joins}
use Rattle.gl_bits.proofs.Options.{some_same}

-- the state at a query's end: a select waits for what may stand behind it
abbrev pub ended : Query → List Frame → State
ended (Select pick source window None None) fs = state (HaveSource pick source window) fs
ended (Select pick source window (Some e) None) fs = having (last_of e) (waits e (InFilter pick source window ∷ fs))
ended (Join' join at l r) fs = ended r (JoinOf l join at ∷ fs)
ended q fs = state (HaveTerm q) fs

-- a token that can stand behind a query
pub record Follows (t : Token) : Type 0 where
  pub operator : is_operator t ≡ false
  pub window : is_plain plain.LeftSquare t ≡ false
  pub filter : is_plain plain.Where t ≡ false
  pub group : is_plain plain.Group t ≡ false
  pub as_of : word_in word.AsOf t ≡ None

pub close-follows : Follows (token.Plain plain.Close)
unfolding plain_eq
close-follows = record { operator = refl; window = refl; filter = refl; group = refl; as_of = refl }

pub into-follows : Follows (token.Plain plain.Into)
unfolding plain_eq
into-follows = record { operator = refl; window = refl; filter = refl; group = refl; as_of = refl }

join-follows : (join : Join) (at : ℕ) → Follows (token.Join join at)
join-follows join at = record { operator = refl; window = refl; filter = refl; group = refl; as_of = refl }

pub have-source : (pick : Pick) (source : Query) (window : Option Window) (fs : List Frame) (t : Token) → Follows t → step (state (HaveSource pick source window) fs) t ≡ have_term fs (Select pick source window None None) t
unfolding step
have-source pick source window fs t f = rw (f.window, f.filter, f.group) (ends_alone pick source window fs t (can_join source window) f.as_of)

have-filter : (pick : Pick) (source : Query) (window : Option Window) (e0 e : Expr) (fs0 fs : List Frame) (t : Token) → Follows t → reduced 11 fs0 e0 ≡ pair (InFilter pick source window ∷ fs) e → step (having e0 fs0) t ≡ have_term fs (Select pick source window (Some e) None) t
unfolding step
have-filter pick source window e0 e fs0 fs t f h = rw (f.operator, h, f.group) refl

pub have-whole : (q : Query) (fs : List Frame) (t : Token) → step (state (HaveTerm q) fs) t ≡ have_term fs q t
unfolding step
have-whole q fs t = refl

-- a term ends before what may follow it
pub end_term : (q : Query) (fs : List Frame) (t : Token) → IsTerm q → Follows t → step (ended q fs) t ≡ have_term fs q t
end_term (Stream name) fs t g f = absurd g
end_term (InBrackets at q) fs t g f = have-whole (InBrackets at q) fs t
end_term (Select pick source window None None) fs t g f = have-source pick source window fs t f
end_term (Select pick source window (Some e) None) fs t g f = have-filter pick source window (last_of e) e (waits e (InFilter pick source window ∷ fs)) fs t f (reduced-whole e (InFilter pick source window ∷ fs) g.2 (omega arith))
end_term (Select pick source window None (Some n)) fs t g f = have-whole (Select pick source window None (Some n)) fs t
end_term (Select pick source window (Some e) (Some n)) fs t g f = have-whole (Select pick source window (Some e) (Some n)) fs t
end_term (Windows at var source window open' body) fs t g f = have-whole (Windows at var source window open' body) fs t
end_term (Groups at var source grouping window open' body) fs t g f = have-whole (Groups at var source grouping window open' body) fs t
end_term (AsOf' w l r grouping) fs t g f = absurd g
end_term (Join' join at l r) fs t g f = absurd g

-- no UNION or CONCAT waits on top
abbrev pub NoJoin : List Frame → Type 0
NoJoin (JoinOf l join at ∷ fs) = ⊥
NoJoin fs = Unit {0}

abbrev pub joint : List Frame → Query → Joined
joint fs q = (fs, q)

pub joined-none : (fs : List Frame) (q : Query) → NoJoin fs → joined fs q ≡ joint fs q
joined-none (JoinOf l join at ∷ fs) q n = absurd n
joined-none [] q n = refl
joined-none (f ∷ fs) q n = refl

pub term-alone : (fs : List Frame) (q : Query) (t : Token) → NoJoin fs → have_term fs q t ≡ after_query fs q t
term-alone fs q t n = ap (λ (r : Joined). after_query r.0 r.1 t) (joined-none fs q n)

-- a query ends before what may follow it
pub end_query : (q : Query) (fs : List Frame) (t : Token) → IsQuery q → NoJoin fs → Follows t → step (ended q fs) t ≡ after_query fs q t
end_query (Stream name) fs t g n f = absurd g
end_query (InBrackets at q) fs t g n f = end_term (InBrackets at q) fs t g f ∙ term-alone fs (InBrackets at q) t n
end_query (Select pick source window filter grouping) fs t g n f = end_term (Select pick source window filter grouping) fs t g f ∙ term-alone fs (Select pick source window filter grouping) t n
end_query (Windows at var source window open' body) fs t g n f = end_term (Windows at var source window open' body) fs t g f ∙ term-alone fs (Windows at var source window open' body) t n
end_query (Groups at var source grouping window open' body) fs t g n f = end_term (Groups at var source grouping window open' body) fs t g f ∙ term-alone fs (Groups at var source grouping window open' body) t n
end_query (AsOf' w l r grouping) fs t g n f = absurd g
end_query (Join' join at l r) fs t g n f = end_term r (JoinOf l join at ∷ fs) t g.1 f

-- ---- parts of a select

begin-select : (fs : List Frame) (rest : List Token) → steps (state WantTerm fs) (token.Plain plain.Select ∷ rest) ≡ steps (wanting_item [] fs) rest
unfolding steps step
begin-select fs rest = refl

source-name : (head : Head) (name : Name) (fs : List Frame) (rest : List Token) → steps (state (WantSource head) fs) (token.Name name ∷ rest) ≡ steps (state (after_source head (Stream name)) fs) rest
unfolding steps step
source-name head name fs rest = refl

source-open : (head : Head) (at : ℕ) (fs : List Frame) (rest : List Token) → steps (state (WantSource head) fs) (token.Open at ∷ rest) ≡ steps (state WantTerm (InSource head at ∷ fs)) rest
unfolding steps step
source-open head at fs rest = refl

-- the words of a window are read
reads_words : (head : WindowHead) (source : Query) (at : ℕ) (size advance : Num) (m : Measure) (fs : List Frame) (rest : List Token) → measure_for head (token.Plain (measure_word m)) ≡ Some m
    → steps (state (WantSize head source) fs) (token.Size at ∷ token.Number size ∷ token.Plain plain.Advance ∷ token.Number advance ∷ token.Plain (measure_word m) ∷ token.Plain plain.RightSquare ∷ rest)
    ≡ steps (state (after_window head source (measured at size advance m)) fs) rest
unfolding steps step plain_eq
reads_words (SelectWindow pick) source at size advance Tuples fs rest k = refl
reads_words (SelectWindow pick) source at size advance Time fs rest k = refl
reads_words (EachWindow e var) source at size advance Tuples fs rest k = refl
reads_words (EachWindow e var) source at size advance Time fs rest k = refl
reads_words (GroupsWindow e var g) source at size advance Tuples fs rest k = refl
reads_words (GroupsWindow e var g) source at size advance Time fs rest k = absurd cc

-- a select and an EACH take either word
takes_word : (m : Measure) → measure_in (token.Plain (measure_word m)) ≡ Some m
takes_word Tuples = refl
takes_word Time = refl

reads_window : (pick : Pick) (source : Query) (w : Option Window) (fs : List Frame) (rest : List Token) → steps (state (HaveSource pick source None) fs) (spell_if_window w ++ rest) ≡ steps (state (HaveSource pick source w) fs) rest
unfolding steps step plain_eq
reads_window pick source None fs rest = refl
reads_window pick source (Some w) fs rest = reads_words (SelectWindow pick) source w.at w.size w.advance w.measure fs rest (takes_word w.measure)

reads_grouping : (pick : Pick) (source : Query) (w : Option Window) (g : Grouping) (fs : List Frame) (rest : List Token) → steps (state (HaveSource pick source w) fs) (spell_if_grouping (Some g) ++ rest) ≡ steps (state (HaveTerm (Select pick source w None (Some g))) fs) rest
unfolding steps step plain_eq
reads_grouping pick source w g fs rest = refl

begin-filter : (pick : Pick) (source : Query) (w : Option Window) (fs : List Frame) (rest : List Token) → steps (state (HaveSource pick source w) fs) (token.Plain plain.Where ∷ rest) ≡ steps (wanting (InFilter pick source w ∷ fs)) rest
unfolding steps step plain_eq
begin-filter pick source w fs rest = refl

filter-grouping : (pick : Pick) (source : Query) (w : Option Window) (e0 e : Expr) (g : Grouping) (fs0 fs : List Frame) (rest : List Token) → reduced 11 fs0 e0 ≡ pair (InFilter pick source w ∷ fs) e → steps (having e0 fs0) (spell_if_grouping (Some g) ++ rest) ≡ steps (state (HaveTerm (Select pick source w (Some e) (Some g))) fs) rest
unfolding steps step plain_eq
filter-grouping pick source w e0 e g fs0 fs rest h = rw h refl

-- the filter and the groups of a select are read
reads_tail : (pick : Pick) (source : Query) (w : Option Window) (filter : Option Expr) (grouping : Option Grouping) (fs : List Frame) (rest : List Token) → IsFilter filter
    → steps (state (HaveSource pick source w) fs) (spell_filter filter ++ (spell_if_grouping grouping ++ rest)) ≡ steps (ended (Select pick source w filter grouping) fs) rest
reads_tail pick source w None None fs rest g = refl
reads_tail pick source w None (Some n) fs rest g = reads_grouping pick source w n fs rest
reads_tail pick source w (Some e) None fs rest g = begin-filter pick source w fs (spell e ++ rest) ∙ reads_expr e (InFilter pick source w ∷ fs) rest g (level-lt e)
reads_tail pick source w (Some e) (Some n) fs rest g =
    begin-filter pick source w fs (spell e ++ (spell_if_grouping (Some n) ++ rest))
    ∙ reads_expr e (InFilter pick source w ∷ fs) (spell_if_grouping (Some n) ++ rest) g (level-lt e)
    ∙ filter-grouping pick source w (last_of e) e n (waits e (InFilter pick source w ∷ fs)) fs rest (reduced-whole e (InFilter pick source w ∷ fs) g (omega arith))

-- ---- EACH

begin-each : (at : ℕ) (var : Name) (fs : List Frame) (rest : List Token) → steps (state WantTerm fs) (token.Each at ∷ token.Name var ∷ token.Plain plain.In ∷ rest) ≡ steps (state (WantSource (EachHead at var)) fs) rest
unfolding steps step plain_eq
begin-each at var fs rest = refl

each-window : (at : ℕ) (var : Name) (source : Query) (w : Window) (open' : ℕ) (fs : List Frame) (rest : List Token)
    → steps (state (HaveEachSource at var source) fs) (spell_window w ++ token.Open open' ∷ rest) ≡ steps (state WantTerm (InBody (WindowsHead at var source w) open' ∷ fs)) rest
unfolding steps step plain_eq
each-window at var source w open' fs rest = reads_words (EachWindow at var) source w.at w.size w.advance w.measure fs (token.Open open' ∷ rest) (takes_word w.measure)

groups_body : (at : ℕ) (var : Name) (source : Query) (g : Grouping) (w : Option RowWindow) (open' : ℕ) (fs : List Frame) (rest : List Token)
    → steps (state (WantBody (GroupsHead' at var source g None)) fs) (spell_row_window w ++ token.Open open' ∷ rest) ≡ steps (state WantTerm (InBody (GroupsHead' at var source g w) open' ∷ fs)) rest
unfolding steps step plain_eq
groups_body at var source g None open' fs rest = refl
groups_body at var source g (Some w) open' fs rest = reads_words (GroupsWindow at var g) source w.at w.size w.advance Tuples fs (token.Open open' ∷ rest) refl

each-groups : (at : ℕ) (var : Name) (source : Query) (g : Grouping) (w : Option RowWindow) (open' : ℕ) (fs : List Frame) (rest : List Token)
    → steps (state (HaveEachSource at var source) fs) (spell_grouping g ++ (spell_row_window w ++ token.Open open' ∷ rest)) ≡ steps (state WantTerm (InBody (GroupsHead' at var source g w) open' ∷ fs)) rest
each-groups at var source g w open' fs rest =
    let behind : List Token = spell_row_window w ++ token.Open open' ∷ rest in
    is-machine.goes (state (HaveEachSource at var source) fs) (state (WantKey (EachGroups at var source) g.at) fs) (token.By g.at) (token.Name g.key ∷ token.Plain plain.Groups ∷ token.Number g.groups ∷ behind) (each_by at var source g.at fs)
    ∙ key_groups at var source g fs behind
    ∙ groups_body at var source g w open' fs rest

-- ---- whole queries

begin-brackets : (at : ℕ) (fs : List Frame) (rest : List Token) → steps (state WantTerm fs) (token.Open at ∷ rest) ≡ steps (state WantTerm (InQuery at ∷ fs)) rest
unfolding steps step
begin-brackets at fs rest = refl

regroup_select : (a b w f g rest : List Token) (from : Token) → (a ++ from ∷ (b ++ (w ++ (f ++ g)))) ++ rest ≡ a ++ from ∷ (b ++ (w ++ (f ++ (g ++ rest))))
regroup_select a b w f g rest from = simp append_assoc

regroup_each : (b w body rest : List Token) (o c : Token) → (b ++ (w ++ o ∷ (body ++ c ∷ []))) ++ rest ≡ b ++ (w ++ o ∷ (body ++ c ∷ rest))
regroup_each b w body rest o c = simp append_assoc

regroup_groups : (b g w body rest : List Token) (o c : Token) → (b ++ (g ++ (w ++ o ∷ (body ++ c ∷ [])))) ++ rest ≡ b ++ (g ++ (w ++ o ∷ (body ++ c ∷ rest)))
regroup_groups b g w body rest o c = simp append_assoc

pub record IsRead (q : Query) : Type 0 where
  pub as_term : IsTerm q → (fs : List Frame) (rest : List Token) → steps (state WantTerm fs) (spell_query q ++ rest) ≡ steps (ended q fs) rest
  pub as_query : IsQuery q → (fs : List Frame) (rest : List Token) → NoJoin fs → steps (state WantTerm fs) (spell_query q ++ rest) ≡ steps (ended q fs) rest
  pub as_side : IsSide q → (head : Head) (fs : List Frame) (rest : List Token) → steps (state (WantSource head) fs) (spell_query q ++ rest) ≡ steps (state (after_source head q) fs) rest
  pub as_source : IsSource q → (head : Head) → IsFirst head → (fs : List Frame) (rest : List Token) → steps (state (WantSource head) fs) (spell_query q ++ rest) ≡ steps (state (after_source head q) fs) rest

-- a query in brackets, whatever they are
closes : (q : Query) (f : Frame) (fs : List Frame) (s : State) (rest : List Token) → IsRead q → IsQuery q → NoJoin (f ∷ fs) → after_query (f ∷ fs) q (token.Plain plain.Close) ≡ Some s
    → steps (state WantTerm (f ∷ fs)) (spell_query q ++ token.Plain plain.Close ∷ rest) ≡ steps s rest
closes q f fs s rest r g n e =
    r.as_query g (f ∷ fs) (token.Plain plain.Close ∷ rest) n
    ∙ is-machine.goes (ended q (f ∷ fs)) s (token.Plain plain.Close) rest (end_query q (f ∷ fs) (token.Plain plain.Close) g n close-follows ∙ e)

reads_brackets : (at : ℕ) (q : Query) (fs : List Frame) (rest : List Token) → IsRead q → IsQuery q → steps (state WantTerm fs) (spell_query (InBrackets at q) ++ rest) ≡ steps (state (HaveTerm (InBrackets at q)) fs) rest
reads_brackets at q fs rest r g =
    begin-brackets at fs ((spell_query q ++ token.Plain plain.Close ∷ []) ++ rest)
    ∙ ap (steps (state WantTerm (InQuery at ∷ fs))) (append_assoc (spell_query q) (token.Plain plain.Close ∷ []) rest)
    ∙ closes q (InQuery at) fs (state (HaveTerm (InBrackets at q)) fs) rest r g tt refl

reads_source_brackets : (head : Head) (at : ℕ) (q : Query) (fs : List Frame) (rest : List Token) → IsRead q → IsQuery q → steps (state (WantSource head) fs) (spell_query (InBrackets at q) ++ rest) ≡ steps (state (after_source head (InBrackets at q)) fs) rest
reads_source_brackets head at q fs rest r g =
    source-open head at fs ((spell_query q ++ token.Plain plain.Close ∷ []) ++ rest)
    ∙ ap (steps (state WantTerm (InSource head at ∷ fs))) (append_assoc (spell_query q) (token.Plain plain.Close ∷ []) rest)
    ∙ closes q (InSource head at) fs (state (after_source head (InBrackets at q)) fs) rest r g tt refl

reads_select : (pick : Pick) (source : Query) (w : Option Window) (filter : Option Expr) (grouping : Option Grouping) (fs : List Frame) (rest : List Token) → IsRead source → IsPick pick → IsSource source → IsFilter filter
    → steps (state WantTerm fs) (spell_query (Select pick source w filter grouping) ++ rest) ≡ steps (ended (Select pick source w filter grouping) fs) rest
reads_select pick source w filter grouping fs rest r p s f =
    begin-select fs ((spell_pick pick ++ token.Plain plain.From ∷ (spell_query source ++ (spell_if_window w ++ (spell_filter filter ++ spell_if_grouping grouping)))) ++ rest)
    ∙ ap (steps (wanting_item [] fs)) (regroup_select (spell_pick pick) (spell_query source) (spell_if_window w) (spell_filter filter) (spell_if_grouping grouping) rest (token.Plain plain.From))
    ∙ reads_pick pick fs (spell_query source ++ (spell_if_window w ++ (spell_filter filter ++ (spell_if_grouping grouping ++ rest)))) p
    ∙ r.as_source s (SelectHead pick) tt fs (spell_if_window w ++ (spell_filter filter ++ (spell_if_grouping grouping ++ rest)))
    ∙ reads_window pick source w fs (spell_filter filter ++ (spell_if_grouping grouping ++ rest))
    ∙ reads_tail pick source w filter grouping fs rest f

reads_windows : (at : ℕ) (var : Name) (source : Query) (w : Window) (open' : ℕ) (body : Query) (fs : List Frame) (rest : List Token) → IsRead source → IsRead body → IsSource source → IsQuery body
    → steps (state WantTerm fs) (spell_query (Windows at var source w open' body) ++ rest) ≡ steps (state (HaveTerm (Windows at var source w open' body)) fs) rest
reads_windows at var source w open' body fs rest r b s g =
    begin-each at var fs ((spell_query source ++ (spell_window w ++ token.Open open' ∷ (spell_query body ++ token.Plain plain.Close ∷ []))) ++ rest)
    ∙ ap (steps (state (WantSource (EachHead at var)) fs)) (regroup_each (spell_query source) (spell_window w) (spell_query body) rest (token.Open open') (token.Plain plain.Close))
    ∙ r.as_source s (EachHead at var) tt fs (spell_window w ++ token.Open open' ∷ (spell_query body ++ token.Plain plain.Close ∷ rest))
    ∙ each-window at var source w open' fs (spell_query body ++ token.Plain plain.Close ∷ rest)
    ∙ closes body (InBody (WindowsHead at var source w) open') fs (state (HaveTerm (Windows at var source w open' body)) fs) rest b g tt refl

reads_groups : (at : ℕ) (var : Name) (source : Query) (n : Grouping) (window : Option RowWindow) (open' : ℕ) (body : Query) (fs : List Frame) (rest : List Token) → IsRead source → IsRead body → IsSource source → IsQuery body
    → steps (state WantTerm fs) (spell_query (Groups at var source n window open' body) ++ rest) ≡ steps (state (HaveTerm (Groups at var source n window open' body)) fs) rest
reads_groups at var source n window open' body fs rest r b s g =
    begin-each at var fs ((spell_query source ++ (spell_grouping n ++ (spell_row_window window ++ token.Open open' ∷ (spell_query body ++ token.Plain plain.Close ∷ [])))) ++ rest)
    ∙ ap (steps (state (WantSource (EachHead at var)) fs)) (regroup_groups (spell_query source) (spell_grouping n) (spell_row_window window) (spell_query body) rest (token.Open open') (token.Plain plain.Close))
    ∙ r.as_source s (EachHead at var) tt fs (spell_grouping n ++ (spell_row_window window ++ token.Open open' ∷ (spell_query body ++ token.Plain plain.Close ∷ rest)))
    ∙ each-groups at var source n window open' fs (spell_query body ++ token.Plain plain.Close ∷ rest)
    ∙ closes body (InBody (GroupsHead' at var source n window) open') fs (state (HaveTerm (Groups at var source n window open' body)) fs) rest b g tt refl

by_step : (l : Query) (at by' : ℕ) (fs : List Frame) → step (state WantTerm (JoinOf l joining.Union at ∷ fs)) (token.By by') ≡ Some (state (WantArrival l at by') fs)
unfolding step
by_step l at by' fs = refl

arrival_step : (l : Query) (at by' : ℕ) (w : Spelling) (fs : List Frame) → step (state (WantArrival l at by') fs) (spell_word word.Arrival w) ≡ Some (state WantTerm (JoinOf l (joining.Arrival by' w) at ∷ fs))
unfolding step
arrival_step l at by' w fs =
    ap (λ (o : Option Spelling). option_and_then (λ v. goes WantTerm (JoinOf l (joining.Arrival by' v) at ∷ fs)) o) (word-in word.Arrival w)

-- what stands between two queries is read
reads_joining : (join : Joining) (at : ℕ) (l : Query) (fs : List Frame) (rest : List Token) → IsQuery l → NoJoin fs
    → steps (ended l fs) (spell_join join at ++ rest) ≡ steps (state WantTerm (JoinOf l join at ∷ fs)) rest
reads_joining joining.Union at l fs rest g n =
    is-machine.goes (ended l fs) (state WantTerm (JoinOf l joining.Union at ∷ fs)) (token.Join join.Union at) rest (end_query l fs (token.Join join.Union at) g n (join-follows join.Union at))
reads_joining (joining.Arrival by' w) at l fs rest g n =
    is-machine.goes (ended l fs) (state WantTerm (JoinOf l joining.Union at ∷ fs)) (token.Join join.Union at) (token.By by' ∷ spell_word word.Arrival w ∷ rest)
    (end_query l fs (token.Join join.Union at) g n (join-follows join.Union at))
    ∙ is-machine.goes (state WantTerm (JoinOf l joining.Union at ∷ fs)) (state (WantArrival l at by') fs) (token.By by') (spell_word word.Arrival w ∷ rest) (by_step l at by' fs)
    ∙ is-machine.goes (state (WantArrival l at by') fs) (state WantTerm (JoinOf l (joining.Arrival by' w) at ∷ fs)) (spell_word word.Arrival w) rest (arrival_step l at by' w fs)
reads_joining joining.Concat at l fs rest g n =
    is-machine.goes (ended l fs) (state WantTerm (JoinOf l joining.Concat at ∷ fs)) (token.Join join.Concat at) rest (end_query l fs (token.Join join.Concat at) g n (join-follows join.Concat at))

regroup_join : (l j r rest : List Token) → (l ++ (j ++ r)) ++ rest ≡ l ++ (j ++ (r ++ rest))
regroup_join l j r rest = simp append_assoc

reads_join : (join : Joining) (at : ℕ) (l r : Query) (fs : List Frame) (rest : List Token) → IsRead l → IsRead r → IsQuery l → IsTerm r → NoJoin fs
    → steps (state WantTerm fs) (spell_query (Join' join at l r) ++ rest) ≡ steps (ended (Join' join at l r) fs) rest
reads_join join at l r fs rest a b g h n =
    ap (steps (state WantTerm fs)) (regroup_join (spell_query l) (spell_join join at) (spell_query r) rest)
    ∙ a.as_query g fs (spell_join join at ++ (spell_query r ++ rest)) n
    ∙ reads_joining join at l fs (spell_query r ++ rest) g n
    ∙ b.as_term h (JoinOf l join at ∷ fs) rest

regroup_as_of : (l r g rest : List Token) (t : Token) → (l ++ t ∷ (r ++ g)) ++ rest ≡ l ++ t ∷ (r ++ (g ++ rest))
regroup_as_of l r g rest t = simp append_assoc

reads_right : (join : JoinHead) (r : Query) (g : Grouping) (fs : List Frame) (rest : List Token) → IsRead r → IsSide r
    → steps (state (WantSource (RightHead join)) fs) (spell_query r ++ (spell_grouping g ++ rest)) ≡ steps (state (after_join join r g) fs) rest
reads_right join r g fs rest a h = a.as_side h (RightHead join) fs (spell_grouping g ++ rest) ∙ join_grouping join r g fs rest

-- an as-of join is read where a source may stand
reads_as_of : (w : Spelling) (l r : Query) (g : Grouping) (head : Head) (fs : List Frame) (rest : List Token) → IsRead l → IsRead r → IsSide l → IsSide r → IsFirst head
    → steps (state (WantSource head) fs) (spell_query (AsOf' w l r g) ++ rest) ≡ steps (state (after_source head (AsOf' w l r g)) fs) rest
reads_as_of w l r g (SelectHead pick) fs rest a b h k i =
    ap (steps (state (WantSource (SelectHead pick)) fs)) (regroup_as_of (spell_query l) (spell_query r) (spell_grouping g) rest (spell_word word.AsOf w))
    ∙ a.as_side h (SelectHead pick) fs (spell_word word.AsOf w ∷ (spell_query r ++ (spell_grouping g ++ rest)))
    ∙ is-machine.goes (state (HaveSource pick l None) fs) (state (WantSource (RightHead (SelectJoin pick l w))) fs) (spell_word word.AsOf w) (spell_query r ++ (spell_grouping g ++ rest)) (select_joins pick l w fs h)
    ∙ reads_right (SelectJoin pick l w) r g fs rest b k
reads_as_of w l r g (EachHead at var) fs rest a b h k i =
    ap (steps (state (WantSource (EachHead at var)) fs)) (regroup_as_of (spell_query l) (spell_query r) (spell_grouping g) rest (spell_word word.AsOf w))
    ∙ a.as_side h (EachHead at var) fs (spell_word word.AsOf w ∷ (spell_query r ++ (spell_grouping g ++ rest)))
    ∙ is-machine.goes (state (HaveEachSource at var l) fs) (state (WantSource (RightHead (EachJoin at var l w))) fs) (spell_word word.AsOf w) (spell_query r ++ (spell_grouping g ++ rest)) (each_joins at var l w fs h)
    ∙ reads_right (EachJoin at var l w) r g fs rest b k
reads_as_of w l r g (RightHead join) fs rest a b h k i = absurd i

-- a term, a query and a source are read, and then what follows them
pub reads : (q : Query) → IsRead q
reads (Stream name) = record { as_term = λ g fs rest. absurd g; as_query = λ g fs rest n. absurd g; as_side = λ g head fs rest. source-name head name fs rest; as_source = λ g head i fs rest. source-name head name fs rest }
reads (InBrackets at q) = record {
  as_term = λ g fs rest. reads_brackets at q fs rest (reads q) g;
  as_query = λ g fs rest n. reads_brackets at q fs rest (reads q) g;
  as_side = λ g head fs rest. reads_source_brackets head at q fs rest (reads q) g;
  as_source = λ g head i fs rest. reads_source_brackets head at q fs rest (reads q) g;
}
reads (Select pick source w filter grouping) = record {
  as_term = λ g fs rest. reads_select pick source w filter grouping fs rest (reads source) g.0 g.1 g.2;
  as_query = λ g fs rest n. reads_select pick source w filter grouping fs rest (reads source) g.0 g.1 g.2;
  as_side = λ g head fs rest. absurd g;
  as_source = λ g head i fs rest. absurd g;
}
reads (Windows at var source w open' body) = record {
  as_term = λ g fs rest. reads_windows at var source w open' body fs rest (reads source) (reads body) g.0 g.1;
  as_query = λ g fs rest n. reads_windows at var source w open' body fs rest (reads source) (reads body) g.0 g.1;
  as_side = λ g head fs rest. absurd g;
  as_source = λ g head i fs rest. absurd g;
}
reads (Groups at var source n window open' body) = record {
  as_term = λ g fs rest. reads_groups at var source n window open' body fs rest (reads source) (reads body) g.0 g.1;
  as_query = λ g fs rest m. reads_groups at var source n window open' body fs rest (reads source) (reads body) g.0 g.1;
  as_side = λ g head fs rest. absurd g;
  as_source = λ g head i fs rest. absurd g;
}
reads (AsOf' w l r grouping) = record {
  as_term = λ g fs rest. absurd g;
  as_query = λ g fs rest n. absurd g;
  as_side = λ g head fs rest. absurd g;
  as_source = λ g head i fs rest. reads_as_of w l r grouping head fs rest (reads l) (reads r) g.0 g.1 i;
}
reads (Join' join at l r) = record {
  as_term = λ g fs rest. absurd g;
  as_query = λ g fs rest n. reads_join join at l r fs rest (reads l) (reads r) g.0 g.1 n;
  as_side = λ g head fs rest. absurd g;
  as_source = λ g head i fs rest. absurd g;
}

-- ---- whole statements

-- the state at a statement's end
abbrev pub final_at : Query → Name → Bool → State
final_at q name false = state (HaveName q name) []
final_at q name true = state (WantEnd q name) []

abbrev pub final : Statement → State
final w = final_at w.query w.name w.closed

into-name : (q : Query) (name : Name) (closed : Bool) → steps (state (WantName q) []) (token.Name name ∷ spell_end closed) ≡ Some (final_at q name closed)
unfolding steps step plain_eq
into-name q name false = refl
into-name q name true = refl

-- a statement is read
pub reads_statement : (w : Statement) → IsQuery w.query → steps start (spell_statement w) ≡ Some (final w)
reads_statement w g =
    (reads w.query).as_query g [] (token.Plain plain.Into ∷ token.Name w.name ∷ spell_end w.closed) tt
    ∙ is-machine.goes (ended w.query []) (state (WantName w.query) []) (token.Plain plain.Into) (token.Name w.name ∷ spell_end w.closed) (end_query w.query [] (token.Plain plain.Into) g tt into-follows)
    ∙ into-name w.query w.name w.closed

finish-final : (q : Query) (name : Name) (closed : Bool) → finish (final_at q name closed) ≡ Some (record { query = q; name = name; closed = closed })
unfolding finish
finish-final q name false = refl
finish-final q name true = refl

pub finishes : (w : Statement) → finish (final w) ≡ Some w
finishes w = finish-final w.query w.name w.closed

-- tokens have at most one statement
pub one_statement : (ts : List Token) (v w : Statement) → Derives ts v → Derives ts w → v ≡ w
one_statement ts v w a b =
    let same : final v ≡ final w = some_same _ _ (sym (reads_statement v a.grammar) ∙ ap (steps start) (a.spelled ∙ sym b.spelled) ∙ reads_statement w b.grammar) in
    some_same v w (sym (finishes v) ∙ ap finish same ∙ finishes w)
