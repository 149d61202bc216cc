-- Where a select or an EACH begins, a window or a body behind what an EACH is over, and a union by arrival.
-- A middle layer of the reader: no promise rests on it.
use Rattle.std.specs.Prelude.{◌≡◌, ℕ, List, [], ◌∷◌, Option, Some, None, Result, Ok, Err, option_and_then, if◌then◌else◌}
use Rattle.gl_query_tokens.specs.declared.token.Plain.{Plain}
use Rattle.gl_query_tokens.specs.declared.token.Plain.TheVariants as plain
use Rattle.gl_query_tokens.specs.declared.token.Token.{Token}
use Rattle.gl_query_tokens.specs.declared.token.Word.TheVariants as word
use Rattle.gl_query_tokens.specs.Sorts.{is_plain, name_in, open_in, word_in}
use Rattle.gl_query_reader.specs.declared.joins.Joining.{Joining}
use Rattle.gl_query_reader.specs.declared.joins.Joining.TheVariants as joining
use Rattle.gl_query_reader.specs.declared.frames.BodyHead.{BodyHead as Head}
use Rattle.gl_query_reader.specs.declared.frames.WindowHead.{WindowHead}
use Rattle.gl_query_reader.specs.States.{BodyHead, WindowsHead, GroupsHead', GroupsWindow, Frame, State, goes, InBody, JoinOf, WantArrival, WantTerm, WantItem, WantIn, WantSize}
use Rattle.gl_query_reader.specs.Written.{Query}
use Rattle.gl_query_reader.specs.Trees.{body_head_of, query_of, window_head_of}

-- SELECT begins a select
abbrev pub begin_select : List Frame → Plain → Option State
begin_select fs plain.Select = goes (WantItem []) fs
begin_select fs p = None

-- EACH takes its variable
abbrev pub want_var : List Frame → ℕ → Token → Option State
want_var fs at t = option_and_then (λ name. goes (WantIn at name) fs) (name_in t)

-- the bracket of a body
abbrev pub open_body : List Frame → BodyHead → Token → Option State
open_body fs head t = option_and_then (λ n. goes WantTerm (InBody head n ∷ fs)) (open_in t)

-- groups have one window at most
abbrev pub want_body : List Frame → BodyHead → Token → Option State
want_body fs (WindowsHead at var source window) t = open_body fs (WindowsHead at var source window) t
want_body fs (GroupsHead' at var source grouping (Some window)) t =
    open_body fs (GroupsHead' at var source grouping (Some window)) t
want_body fs (GroupsHead' at var source grouping None) t =
    if is_plain plain.LeftSquare t then goes (WantSize (GroupsWindow at var grouping) source) fs
    else open_body fs (GroupsHead' at var source grouping None) t

-- a window begins, or what was handed in wants its bracket
abbrev pub BeginsWindow : Head → Token → Result WindowHead Head → Type 0
BeginsWindow head t (Ok w) = (fs : List Frame)
    → want_body fs (body_head_of head) t ≡ goes (WantSize (window_head_of w.head) (query_of w.source)) fs
BeginsWindow head t (Err same) = (same ≡ head) × ((fs : List Frame)
    → want_body fs (body_head_of head) t ≡ open_body fs (body_head_of head) t)

-- BY behind UNION alone
abbrev pub by_behind : List Frame → Joining → Query → ℕ → ℕ → Option State
by_behind fs joining.Union l at by' = goes (WantArrival l at by') fs
by_behind fs (joining.Arrival b w) l at by' = None
by_behind fs joining.Concat l at by' = None

-- BY where a term is wanted: behind UNION it begins BY ARRIVAL
abbrev pub begin_arrival : List Frame → ℕ → Option State
begin_arrival (JoinOf l join at ∷ fs) by' = by_behind fs join l at by'
begin_arrival fs by' = None

-- ARRIVAL behind UNION BY
abbrev pub want_arrival : List Frame → Query → ℕ → ℕ → Token → Option State
want_arrival fs l at by' t =
    option_and_then (λ w. goes WantTerm (JoinOf l (joining.Arrival by' w) at ∷ fs)) (word_in word.Arrival t)
