-- Reading a function with OVER, a token at a time.
-- A middle layer, proved equal to `Grammar`: no promise rests on it.
use Rattle.std.specs.Prelude.{ℕ, List, ◌∷◌, Option, Some, None, option_map, option_and_then, if◌then◌else◌}
use Rattle.gl_query.specs.declared.tree.Name.{Name}
use Rattle.gl_query.specs.declared.tree.Num.{Num}
use Rattle.gl_values.specs.declared.op.Op.TheVariants as op
use Rattle.gl_query_tokens.specs.declared.token.Plain.TheVariants as plain
use Rattle.gl_query_tokens.specs.declared.token.Spelling.{Spelling}
use Rattle.gl_query_tokens.specs.declared.token.Spelling.TheVariants.{Small, Capital}
use Rattle.gl_query_tokens.specs.declared.token.Word.{Word}
use Rattle.gl_query_tokens.specs.declared.token.Word.TheVariants as word
use Rattle.gl_query_tokens.specs.declared.token.Token.{Token}
use Rattle.gl_query_tokens.specs.declared.token.Token.TheVariants as token
use Rattle.gl_query_tokens.specs.Sorts.{by_in, is_plain, is_small, number_in, open_in, word_in}
use Rattle.gl_query_reader.specs.declared.over_state.Call.{Call}
use Rattle.gl_query_reader.specs.declared.over_state.Call.TheVariants as call
use Rattle.gl_query_reader.specs.declared.over_state.RowsSoFar.{RowsSoFar}
use Rattle.gl_query_reader.specs.declared.over_state.RowsSoFar.TheVariants as so_far
use Rattle.gl_query_reader.specs.declared.written.BetweenFront.{BetweenFront}
use Rattle.gl_query_reader.specs.declared.written.Bound.{Bound}
use Rattle.gl_query_reader.specs.declared.written.Bound.TheVariants as bound
use Rattle.gl_query_reader.specs.declared.written.Part.{Part}
use Rattle.gl_query_reader.specs.declared.written.FrameRows.{FrameRows}
use Rattle.gl_query_reader.specs.declared.written.FrameRows.TheVariants as rows
use Rattle.gl_query_reader.specs.Written.{Expr, Agg, Count, Fold', Wsum, OverAgg, CountOf, FoldOf, LastOf, FilterOf, OverHead, LagOf, Ranged, OverOf, Item}
use Rattle.gl_query_reader.specs.States.{Frame, State, goes, expected, InCall, InCondition, WantOperand, WantItemName, WantCallOpen, WantBack, WantLagClose, WantOver, WantFilterOpen, WantFilterWhere, WantOverOpen, WantPart, WantPartBy, InOver, WantOverAs, UnnamedAgg, OverGroups, WantKey}

-- ---- functions whose names are no keywords

-- the function that a word with a capital is
abbrev pub capital_call : Word → Option Call
capital_call word.Lag = Some call.Lag
capital_call word.LastValue = Some call.LastValue
capital_call w = None

-- the function that a name with a bracket behind it is
abbrev pub named_call : Name → Option Call
named_call name = if is_small word.Lag name then Some call.Lag else
    if is_small word.LastValue name then Some call.LastValue else None

-- a name at the beginning of an item, behind which a bracket stands
abbrev pub begin_call : List Frame → List Item → Name → ℕ → Option State
begin_call fs items name n =
    option_and_then (λ c. goes WantOperand (InCall items c (Small name.at) n ∷ fs)) (named_call name)

abbrev pub want_call : List Item → List Frame → Word → ℕ → Option State
want_call items fs w at = option_and_then (λ c. goes (WantCallOpen items c at) fs) (capital_call w)

abbrev pub want_call_open : List Frame → List Item → Call → ℕ → Token → Option State
want_call_open fs items c at t =
    option_and_then (λ n. goes WantOperand (InCall items c (Capital at) n ∷ fs)) (open_in t)

-- what stands behind the argument of LAG or LAST_VALUE
abbrev pub after_call : List Frame → List Item → Call → Spelling → ℕ → Expr → Token → Option State
after_call fs items call.LastValue w open' e t =
    expected plain.Close (WantOver items (Ranged (LastOf w open' e) None)) fs t
after_call fs items call.Lag w open' e t = if is_plain plain.Comma t then goes (WantBack items w open' e) fs else
    expected plain.Close (WantOver items (LagOf w open' e None)) fs t

abbrev pub want_back : List Frame → List Item → Spelling → ℕ → Expr → Token → Option State
want_back fs items w open' e t = option_and_then (λ n. goes (WantLagClose items w open' e n) fs) (number_in t)

-- ---- FILTER and OVER

-- OVER behind what stands before it
abbrev pub begin_over : List Frame → List Item → OverHead → Token → Option State
begin_over fs items head t = option_and_then (λ w. goes (WantOverOpen items head w) fs) (word_in word.Over t)

abbrev pub filter_or_over : Option Spelling → List Frame → List Item → OverAgg → Token → Option State
filter_or_over (Some w) fs items agg t = goes (WantFilterOpen items agg w) fs
filter_or_over None fs items agg t = begin_over fs items (Ranged agg None) t

-- one FILTER may stand behind a function over rows
abbrev pub want_over : List Frame → List Item → OverHead → Token → Option State
want_over fs items (Ranged agg None) t = filter_or_over (word_in word.Filter t) fs items agg t
want_over fs items (Ranged agg (Some f)) t = begin_over fs items (Ranged agg (Some f)) t
want_over fs items (LagOf w open' e back) t = begin_over fs items (LagOf w open' e back) t

-- the function over rows that an aggregate is, where OVER may stand behind it
abbrev pub ranged : Agg → Option OverAgg
ranged (Count at open') = Some (CountOf at open')
ranged (Fold' fold at open' e) = Some (FoldOf fold at open' e)
ranged (Wsum at open' e ns) = None

-- what stands behind an aggregate
abbrev pub have_agg : List Frame → List Item → Agg → Token → Option State
have_agg fs items agg t = if is_plain plain.As t then goes (WantItemName items (UnnamedAgg agg)) fs else
    option_and_then (λ a. want_over fs items (Ranged a None) t) (ranged agg)

abbrev pub want_filter_open : List Frame → List Item → OverAgg → Spelling → Token → Option State
want_filter_open fs items agg w t = option_and_then (λ n. goes (WantFilterWhere items agg w n) fs) (open_in t)

abbrev pub want_filter_where : List Frame → List Item → OverAgg → Spelling → ℕ → Token → Option State
want_filter_where fs items agg w open' t = expected plain.Where WantOperand (InCondition items agg w open' ∷ fs) t

abbrev pub after_condition : List Frame → List Item → OverAgg → Spelling → ℕ → Expr → Token → Option State
after_condition fs items agg w open' e t =
    expected plain.Close (WantOver items (Ranged agg (Some (FilterOf w open' e)))) fs t

-- ---- the rows

-- where the rows of LAG and of a function over rows begin to be read
abbrev pub rows_first : OverHead → RowsSoFar
rows_first (LagOf w open' e back) = so_far.WantClose None
rows_first (Ranged agg filter) = so_far.WantRows

abbrev pub want_over_open : List Frame → List Item → OverHead → Spelling → Token → Option State
want_over_open fs items head w t = option_and_then (λ n. goes (WantPart items head w n) fs) (open_in t)

abbrev pub number_or_unbounded : Option Num → Token → Option Bound
number_or_unbounded (Some n) t = Some (bound.Number n)
number_or_unbounded None t = option_map (λ w. bound.Unbounded w) (word_in word.Unbounded t)

-- where the rows of a frame begin, if the token says so
abbrev pub bound_in : Token → Option Bound
bound_in t = number_or_unbounded (number_in t) t

-- the place of AND, if the token is this keyword
abbrev pub and_in : Token → Option ℕ
and_in (token.Operator op.And at) = Some at
and_in t = None

abbrev pub between_or_bound : Option Spelling → Spelling → Token → Option RowsSoFar
between_or_bound (Some w) r t = Some (so_far.WantFirst r w)
between_or_bound None r t = option_map (λ b. so_far.WantPreceding r b) (bound_in t)

-- ROWS BETWEEN a bound PRECEDING
abbrev pub front_of : Spelling → Spelling → Bound → Spelling → BetweenFront
front_of r w b p = record { rows = r; between = w; bound = b; preceding = p }

-- how far the rows are read behind one token more
abbrev pub rows_step : RowsSoFar → Token → Option RowsSoFar
rows_step so_far.WantRows t = option_map (λ w. so_far.WantBound w) (word_in word.Rows t)
rows_step (so_far.WantBound r) t = between_or_bound (word_in word.Between t) r t
rows_step (so_far.WantPreceding r b) t =
    option_map (λ p. so_far.WantClose (Some (rows.Short r b p))) (word_in word.Preceding t)
rows_step (so_far.WantFirst r w) t = option_map (λ b. so_far.WantFirstPreceding r w b) (bound_in t)
rows_step (so_far.WantFirstPreceding r w b) t =
    option_map (λ p. so_far.WantAnd (front_of r w b p)) (word_in word.Preceding t)
rows_step (so_far.WantAnd f) t = option_map (λ n. so_far.WantCurrent f n) (and_in t)
rows_step (so_far.WantCurrent f n) t = option_map (λ c. so_far.WantRow f n c) (word_in word.Current t)
rows_step (so_far.WantRow f n c) t =
    option_map (λ o. so_far.WantClose (Some (rows.Between f n c o))) (word_in word.Row t)
rows_step (so_far.WantClose r) t = None

-- the rows, where they were read to their end
abbrev pub whole_rows : RowsSoFar → Option (Option FrameRows)
whole_rows (so_far.WantClose r) = Some r
whole_rows s = None

abbrev pub close_over : List Frame → List Item → OverHead → Spelling → ℕ → Option Part → RowsSoFar → Token
    → Option State
close_over fs items head w open' p s t =
    option_and_then (λ r. expected plain.Close (WantOverAs items (OverOf head w open' p r)) fs t) (whole_rows s)

abbrev pub over_goes : Option RowsSoFar → List Frame → List Item → OverHead → Spelling → ℕ → Option Part → RowsSoFar
    → Token → Option State
over_goes (Some next) fs items head w open' p s t = goes (InOver items head w open' p next) fs
over_goes None fs items head w open' p s t = close_over fs items head w open' p s t

-- the rows go on, or their bracket closes
abbrev pub in_over : List Frame → List Item → OverHead → Spelling → ℕ → Option Part → RowsSoFar → Token → Option State
in_over fs items head w open' p s t = over_goes (rows_step s t) fs items head w open' p s t

-- ---- PARTITION

abbrev pub part_or_rows : Option Spelling → List Frame → List Item → OverHead → Spelling → ℕ → Token → Option State
part_or_rows (Some p) fs items head w open' t = goes (WantPartBy items head w open' p) fs
part_or_rows None fs items head w open' t = in_over fs items head w open' None (rows_first head) t

-- PARTITION, or the rows at once
abbrev pub want_part : List Frame → List Item → OverHead → Spelling → ℕ → Token → Option State
want_part fs items head w open' t = part_or_rows (word_in word.Partition t) fs items head w open' t

abbrev pub want_part_by : List Frame → List Item → OverHead → Spelling → ℕ → Spelling → Token → Option State
want_part_by fs items head w open' p t =
    option_and_then (λ n. goes (WantKey (OverGroups items head w open' p) n) fs) (by_in t)
