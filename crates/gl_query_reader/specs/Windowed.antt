-- Reading what stands behind a source: a join, a window or groups, a token at a time.
-- A middle layer, proved equal to `Grammar`: no promise rests on it.
use Rattle.std.specs.Prelude.{ℕ, Bool, true, false, not, List, Option, Some, None, option_and_then, if◌then◌else◌}
use Rattle.gl_query.specs.declared.tree.Name.{Name}
use Rattle.gl_query.specs.declared.tree.Num.{Num}
use Rattle.gl_query_tokens.specs.declared.token.Plain.TheVariants as plain
use Rattle.gl_query_tokens.specs.declared.token.Spelling.{Spelling}
use Rattle.gl_query_tokens.specs.declared.token.Token.{Token}
use Rattle.gl_query_tokens.specs.declared.token.Word.TheVariants as word
use Rattle.gl_query_tokens.specs.Sorts.{is_plain, name_in, number_in, size_in, by_in, word_in}
use Rattle.gl_query_reader.specs.declared.written.Window.{Window}
use Rattle.gl_query_reader.specs.declared.written.Grouping.{Grouping}
use Rattle.gl_query_reader.specs.Written.{AsOf', Expr, Pick, Query, Select}
use Rattle.gl_query_reader.specs.Framing.{rows_first}
use Rattle.gl_query_reader.specs.States.{measure_for, measured, RightHead, WindowHead, SelectWindow, EachWindow, GroupsHead', GroupsHead, SelectGroups, EachGroups, OverGroups, JoinGroups, JoinHead, SelectJoin, EachJoin, HaveSource, HaveEachSource, InOver, Frame, Control, State, goes, WantSource, WantSize, WantSizeNumber, WantAdvance, WantMeasure, WantWindowClose, WantKey, WantGroups, WantBody, HaveTerm}

-- ---- behind a source

-- a window stands at most once
abbrev pub begin_window : List Frame → Pick → Query → Option Window → Option State
begin_window fs pick source None = goes (WantSize (SelectWindow pick) source) fs
begin_window fs pick source (Some w) = None

-- a source is an as-of join already
abbrev pub is_joined : Query → Bool
is_joined (AsOf' w l r grouping) = true
is_joined q = false

-- a source without a window may be the left side of ASOF where it is no such join itself
abbrev pub can_join : Query → Option Window → Bool
can_join source None = not (is_joined source)
can_join source (Some w) = false

-- how ASOF is spelled, where it may stand here
abbrev pub join_word : Bool → Token → Option Spelling
join_word can t = if can then word_in word.AsOf t else None

-- ASOF or BY behind the source of an EACH
abbrev pub join_or_by : List Frame → ℕ → Name → Query → Option Spelling → Token → Option State
join_or_by fs at var source (Some w) t = goes (WantSource (RightHead (EachJoin at var source w))) fs
join_or_by fs at var source None t = option_and_then (λ n. goes (WantKey (EachGroups at var source) n) fs) (by_in t)

-- a window, ASOF or BY behind the source of an EACH
abbrev pub have_each_source : List Frame → ℕ → Name → Query → Token → Option State
have_each_source fs at var source t =
    if is_plain plain.LeftSquare t then goes (WantSize (EachWindow at var) source) fs else
    join_or_by fs at var source (join_word (not (is_joined source)) t) t

-- ---- windows and groups

abbrev pub want_size : List Frame → WindowHead → Query → Token → Option State
want_size fs head source t = option_and_then (λ n. goes (WantSizeNumber head source n) fs) (size_in t)

abbrev pub want_size_number : List Frame → WindowHead → Query → ℕ → Token → Option State
want_size_number fs head source at t = option_and_then (λ n. goes (WantAdvance head source at n) fs) (number_in t)

abbrev pub want_advance_number : List Frame → WindowHead → Query → ℕ → Num → Token → Option State
want_advance_number fs head source at size t =
    option_and_then (λ n. goes (WantMeasure head source at size n) fs) (number_in t)

abbrev pub want_measure : List Frame → WindowHead → Query → ℕ → Num → Num → Token → Option State
want_measure fs head source at size advance t =
    option_and_then (λ m. goes (WantWindowClose head source (measured at size advance m)) fs) (measure_for head t)

abbrev pub want_by : List Frame → Pick → Query → Option Window → Option Expr → Token → Option State
want_by fs pick source window filter t =
    option_and_then (λ n. goes (WantKey (SelectGroups pick source window filter) n) fs) (by_in t)

abbrev pub want_key : List Frame → GroupsHead → ℕ → Token → Option State
want_key fs head at t = option_and_then (λ key. goes (WantGroups head at key) fs) (name_in t)

-- what may stand behind an as-of join
abbrev pub after_join : JoinHead → Query → Grouping → Control
after_join (SelectJoin pick l w) r g = HaveSource pick (AsOf' w l r g) None
after_join (EachJoin at var l w) r g = HaveEachSource at var (AsOf' w l r g)

-- BY behind the right side of ASOF
abbrev pub want_join_by : List Frame → JoinHead → Query → Token → Option State
want_join_by fs join right t = option_and_then (λ n. goes (WantKey (JoinGroups join right) n) fs) (by_in t)

abbrev pub after_groups : GroupsHead → Grouping → Control
after_groups (SelectGroups pick source window filter) g = HaveTerm (Select pick source window filter (Some g))
after_groups (EachGroups at var source) g = WantBody (GroupsHead' at var source g None)
after_groups (OverGroups items head w open' p) g =
    InOver items head w open' (Some (record { word = p; grouping = g })) (rows_first head)
after_groups (JoinGroups join right) g = after_join join right g

abbrev pub want_groups_number : List Frame → GroupsHead → ℕ → Name → Token → Option State
want_groups_number fs head at key t =
    option_and_then (λ n. goes (after_groups head (record { at = at; key = key; groups = n })) fs) (number_in t)
