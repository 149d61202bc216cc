-- The first rule of acceptance that a statement breaks, with its place: the sources of a query come first, then its own
-- parts.
use Rattle.std.specs.Prelude.{ℕ, ◌*◌, ◌==◌, pos, Bool, true, false, not, ◌&&◌, List, [], ◌∷◌, ◌++◌, length, Option, Some, None, bytes_eq, nat_le, nat_lt, slice_get, if◌then◌else◌}
use Rattle.std.specs.Int.{div_ceil}
use Rattle.std.specs.List.{list_any}
use Rattle.gl_values.specs.Kinds.{can_cast, has_negative, in_range, is_number, is_text}
use Rattle.gl_bits.specs.Limits.{most_columns, most_copies, most_groups, most_rows, most_weights, most_windows}
use Rattle.gl_values.specs.declared.kind.Kind.{Kind}
use Rattle.gl_values.specs.declared.kind.Kind.TheVariants.{Unsigned}
use Rattle.gl_values.specs.declared.op.Op.{Op}
use Rattle.gl_values.specs.declared.op.Sort.{Sort}
use Rattle.gl_values.specs.declared.op.Sort.TheVariants.{Arithmetic, Comparison, Logic}
use Rattle.gl_values.specs.Operators.{same_kind, sort_of}
use Rattle.gl_schema.specs.declared.schema.Column.{Column as NamedColumn}
use Rattle.gl_schema.specs.declared.schema.Schema.{Schema}
use Rattle.gl_schema.specs.Schemas.{column_names, has_column, kinds_of}
use Rattle.gl_query.specs.declared.fault.QueryFault.{QueryFault}
use Rattle.gl_query.specs.declared.fault.QueryFault.TheVariants.{UnknownStream, UnknownColumn, KindsDiffer, LiteralTooWide, NotCondition, TwiceNamed, ColumnsDiffer, PaceDiffers, NotClosing, OutOfRange, NoTime, NoArrival, UnknownParameter}
use Rattle.gl_query.specs.declared.tree.Measure.{Measure}
use Rattle.gl_query.specs.declared.tree.Measure.TheVariants.{Tuples}
use Rattle.gl_query.specs.declared.tree.Name.{Name}
use Rattle.gl_query.specs.declared.tree.Num.{Num}
use Rattle.gl_query.specs.declared.tree.Slots.{Slots}
use Rattle.gl_query.specs.Trees.{ExprTree, AggTree, ItemTree, AggItemTree, FrameAggTree, FrameTree, FrameItemTree, PickTree, QueryTree, StatementTree, Column, Number, Minus, Letters, Not, Flip, Cast, Binary, Count, Sum, Min, Max, Avg, Wsum, CountOver, SumOver, MinOver, MaxOver, AvgOver, LastOver, Own, Lag, Over, All, Items, Read, Rows, Total, Frames, Each, PerGroup, Partition, Union, ByArrival, AsOf, Concat}
use Rattle.gl_query.specs.Shapes.{QueryShape}
use Rattle.gl_query.specs.Alike.{expr_alike, query_alike}
use Rattle.gl_query.specs.Values.{column_kind, is_loose, kind_alone, kind_of, letters_fit, operand_place, shift_fits}
use Rattle.gl_query.specs.Columns.{Pace, Once, Step, arrives, is_closing, pace_of}
use Rattle.gl_query.specs.Accepted.{Scope, body_scope, can_measure, can_read, columns_under, most_slots, reach_under, schema_scope}
use Rattle.gl_query.specs.Windows.{copies_of}

-- the first of two faults, where there is one
abbrev pub or_else : Option QueryFault → Option QueryFault → Option QueryFault
or_else None b = b
or_else (Some f) b = Some f

-- the first fault of a list of rules
abbrev pub first_of : List (Option QueryFault) → Option QueryFault
first_of [] = None
first_of (f ∷ fs) = or_else f (first_of fs)

-- a fault where a rule is broken
abbrev pub unless : Bool → QueryFault → Option QueryFault
unless true f = None
unless false f = Some f

-- ---- tests

-- two lists of kinds have the same length and the same kinds in order
abbrev pub same_kinds : List Kind → List Kind → Bool
same_kinds [] [] = true
same_kinds [] (k ∷ ks) = false
same_kinds (j ∷ js) [] = false
same_kinds (j ∷ js) (k ∷ ks) = same_kind j k && same_kinds js ks

-- one bit
abbrev pub is_bit : Kind → Bool
is_bit kind = same_kind kind (Unsigned 1)

-- from 1 to the most
abbrev pub is_within : ℕ → ℕ → Bool
is_within n most = nat_le 1 n && nat_le n most

-- no two names are equal
abbrev pub are_distinct : List (List ℕ) → Bool
are_distinct [] = true
are_distinct (name ∷ names) = not (list_any (bytes_eq name) names) && are_distinct names

-- both sides have a pace, and it is one
abbrev pub same_pace : Option Pace → Option Pace → Bool
same_pace (Some Once) (Some Once) = true
same_pace (Some (Step a)) (Some (Step b)) = bytes_eq a b
same_pace p q = false

-- ---- expressions: operands from left to right, but a loose left one behind a right one that is not, and then the
-- operator, and last how far a shift goes

-- a number as a text is of another kind
abbrev pub number_fault : Kind → Num → Option QueryFault
number_fault kind n =
    or_else (unless (is_number kind) (KindsDiffer n.at)) (unless (in_range kind (pos n.value)) (LiteralTooWide n.at))

-- a number behind a minus sign fits a kind with a sign alone
abbrev pub negative_fault : Kind → Num → Option QueryFault
negative_fault kind n =
    or_else (unless (is_number kind) (KindsDiffer n.at)) (unless (has_negative kind n.value) (LiteralTooWide n.at))

-- a text literal stands where its place wants a text, and its letters fit into that text's width
abbrev pub letters_fault : Kind → List ℕ → ℕ → Option QueryFault
letters_fault kind text at =
    or_else (unless (is_text kind) (KindsDiffer at)) (unless (letters_fit kind text) (LiteralTooWide at))

-- the first fault of an operator's operands: arithmetic wants equal kinds of numbers, comparisons equal kinds, logic
-- single bits
abbrev pub operator_fault : Sort → Kind → Kind → ℕ → Option QueryFault
operator_fault Arithmetic left right at = unless (same_kind left right && is_number left) (KindsDiffer at)
operator_fault Comparison left right at = unless (same_kind left right) (KindsDiffer at)
operator_fault Logic left right at = unless (is_bit left && is_bit right) (NotCondition at)

-- the operands' faults, the right one's first where only the left one is loose
abbrev pub of_operands : Bool → Bool → Option QueryFault → Option QueryFault → Option QueryFault
of_operands left_loose right_loose left right =
    if left_loose && not right_loose then or_else right left else or_else left right

-- a name that is not there is that of a parameter where it begins with a colon, and else that of a column
abbrev pub unknown_fault : List ℕ → ℕ → QueryFault
unknown_fault [] at = UnknownColumn at
unknown_fault (b ∷ name) at = if b == 58 then UnknownParameter at else UnknownColumn at

-- the place of an expression's first token, opening brackets aside
abbrev pub first_place : ExprTree → ℕ
first_place (Column name) = name.at
first_place (Number n) = n.at
first_place (Minus n) = n.at
first_place (Letters text at) = at
first_place (Not e at) = at
first_place (Flip e at) = at
first_place (Cast e kind at) = at
first_place (Binary op l r at) = first_place l

-- a shift goes by a number below the width
abbrev pub distance_fault : Op → Kind → ExprTree → Option QueryFault
distance_fault op kind e = unless (shift_fits op kind (expr_alike e)) (OutOfRange (first_place e))

-- the first fault of an expression in a place; the faults of operands stand before their operator's own
abbrev pub expr_fault : List NamedColumn → Kind → ExprTree → Option QueryFault
expr_fault columns place (Column name) =
    unless (has_column columns name.text) (unknown_fault name.text name.at)
expr_fault columns place (Number n) = number_fault place n
expr_fault columns place (Minus n) = negative_fault place n
expr_fault columns place (Letters text at) = letters_fault place text at
expr_fault columns place (Not e at) =
    or_else (expr_fault columns (Unsigned 1) e)
    (unless (is_bit (kind_of columns (Unsigned 1) (expr_alike e))) (NotCondition at))
expr_fault columns place (Flip e at) =
    or_else (expr_fault columns place e) (unless (is_number (kind_of columns place (expr_alike e))) (KindsDiffer at))
expr_fault columns place (Cast e kind at) =
    let alone = kind_alone (expr_alike e) in
    or_else (expr_fault columns alone e) (unless (can_cast (kind_of columns alone (expr_alike e)) kind)
    (KindsDiffer at))
expr_fault columns place (Binary op l r at) =
    let left = operand_place columns op place (expr_alike l) (expr_alike r) in
    let right = operand_place columns op place (expr_alike r) (expr_alike l) in
    or_else (or_else (of_operands (is_loose columns (expr_alike l)) (is_loose columns (expr_alike r))
    (expr_fault columns left l) (expr_fault columns right r))
    (operator_fault (sort_of op) (kind_of columns left (expr_alike l)) (kind_of columns right (expr_alike r)) at))
    (distance_fault op (kind_of columns left (expr_alike l)) r)

-- an expression of an item or an argument
abbrev pub whole_fault : List NamedColumn → ExprTree → Option QueryFault
whole_fault columns e = expr_fault columns (kind_alone (expr_alike e)) e

-- the kind that an expression has where no place gives one
abbrev pub whole_kind : List NamedColumn → ExprTree → Kind
whole_kind columns e = kind_of columns (kind_alone (expr_alike e)) (expr_alike e)

-- a filter's first fault: one inside its expression, or else that it is no single bit, told at its first token,
-- brackets aside
abbrev pub filter_fault : List NamedColumn → Option ExprTree → Option QueryFault
filter_fault columns None = None
filter_fault columns (Some e) =
    or_else (expr_fault columns (Unsigned 1) e)
    (unless (is_bit (kind_of columns (Unsigned 1) (expr_alike e))) (NotCondition (first_place e)))

-- ---- what is under a name

-- the rules for one, in order: it is no 33rd, it breaks no rule of its own, and no earlier one has its name
abbrev pub rules_under_name : {A : Type 0} → (A → Name) → (A → Option QueryFault) → List A → A → List (Option QueryFault)
rules_under_name name own earlier i =
    unless (nat_lt (length earlier) most_columns) (OutOfRange (name i).at)
    ∷ own i
    ∷ unless (not (list_any (λ j. bytes_eq (name i).text (name j).text) earlier)) (TwiceNamed (name i).at)
    ∷ []

-- the first rule that one of them breaks, from the first one on
abbrev pub named_fault : {A : Type 0} → (A → Name) → (A → Option QueryFault) → List A → List A → Option QueryFault
named_fault name own earlier [] = None
named_fault name own earlier (i ∷ items) =
    or_else (first_of (rules_under_name name own earlier i)) (named_fault name own (earlier ++ i ∷ []) items)

-- the first fault of the items of a select, behind those that were already looked at
abbrev pub items_fault : List NamedColumn → List ItemTree → List ItemTree → Option QueryFault
items_fault columns earlier items =
    named_fault (λ (i : ItemTree). i.name) (λ (i : ItemTree). whole_fault columns i.expr) earlier items

-- the star has no fault; a list of items has the fault of its first broken item
abbrev pub pick_fault : List NamedColumn → PickTree → Option QueryFault
pick_fault columns All = None
pick_fault columns (Items items) = items_fault columns [] items

-- ---- aggregates: the argument, its kind, the 65th weight, and the first weight that is too wide

-- what is summed has no fault of its own and is a number; a text is told at the name of its item
abbrev pub summed_fault : List NamedColumn → ExprTree → Name → Option QueryFault
summed_fault columns e name =
    or_else (whole_fault columns e) (unless (is_number (whole_kind columns e)) (KindsDiffer name.at))

-- a number that stands past the longest list that is allowed is the fault
abbrev pub too_many : Option Num → Option QueryFault
too_many None = None
too_many (Some n) = Some (OutOfRange n.at)

-- the first weight that does not fit into the kind of what it multiplies
abbrev pub weights_fault : Kind → List Num → Option QueryFault
weights_fault kind [] = None
weights_fault kind (n ∷ ns) = or_else (number_fault kind n) (weights_fault kind ns)

-- an aggregate's first fault: that of its argument, and for WSUM a weight too many or too wide
abbrev pub agg_fault : List NamedColumn → AggTree → Name → Option QueryFault
agg_fault columns (Count at) name = None
agg_fault columns (Sum e) name = summed_fault columns e name
agg_fault columns (Min e) name = whole_fault columns e
agg_fault columns (Max e) name = whole_fault columns e
agg_fault columns (Avg e) name = summed_fault columns e name
agg_fault columns (Wsum e weights) name =
    or_else (summed_fault columns e name) (or_else (too_many (slice_get weights most_weights))
    (weights_fault (whole_kind columns e) weights))

-- the first fault of a list of named aggregates, behind those that were already looked at
abbrev pub aggs_fault : List NamedColumn → List AggItemTree → List AggItemTree → Option QueryFault
aggs_fault columns earlier items =
    named_fault (λ (i : AggItemTree). i.name) (λ (i : AggItemTree). agg_fault columns i.agg i.name) earlier items

-- ---- frames: the argument, its kind, the condition, and how many rows are looked back over

-- the first fault of a function over the rows of a frame
abbrev pub frame_agg_fault : List NamedColumn → FrameAggTree → Name → Option QueryFault
frame_agg_fault columns CountOver name = None
frame_agg_fault columns (SumOver e) name = summed_fault columns e name
frame_agg_fault columns (MinOver e) name = whole_fault columns e
frame_agg_fault columns (MaxOver e) name = whole_fault columns e
frame_agg_fault columns (AvgOver e) name = summed_fault columns e name
frame_agg_fault columns (LastOver e) name = whole_fault columns e

-- a frame has fewer than 65,536 rows before the row itself
abbrev pub back_fault : Option Num → Option QueryFault
back_fault None = None
back_fault (Some n) = unless (nat_lt n.value most_rows) (OutOfRange n.at)

-- the first fault of a frame
abbrev pub frame_fault : List NamedColumn → FrameTree → Name → Option QueryFault
frame_fault columns (Own e) name = whole_fault columns e
frame_fault columns (Lag e back at) name =
    or_else (whole_fault columns e)
    (unless (nat_le 1 back.value && nat_lt back.value most_rows) (OutOfRange back.at))
frame_fault columns (Over agg filter back at) name =
    or_else (frame_agg_fault columns agg name) (or_else (filter_fault columns filter) (back_fault back))

-- the first fault of a list of named frames, behind those that were already looked at
abbrev pub frames_fault : List NamedColumn → List FrameItemTree → List FrameItemTree → Option QueryFault
frames_fault columns earlier items =
    named_fault (λ (i : FrameItemTree). i.name) (λ (i : FrameItemTree). frame_fault columns i.frame i.name) earlier
    items

-- the key and GROUPS of PARTITION or ASOF, where there is one
abbrev pub slots_fault : List NamedColumn → Option Slots → Option QueryFault
slots_fault columns None = None
slots_fault columns (Some s) =
    or_else (unless (has_column columns s.key.text) (UnknownColumn s.key.at))
    (unless (is_within s.groups.value most_slots) (OutOfRange s.groups.at))

-- ---- queries

-- SIZE, ADVANCE, and SIZE again for the windows that are open at once
abbrev pub window_fault : Measure → Num → Num → Option QueryFault
window_fault measure size advance =
    or_else (unless (is_within size.value most_rows) (OutOfRange size.at))
    (or_else (unless (is_within advance.value most_rows) (OutOfRange advance.at))
    (unless (nat_le (copies_of measure size.value advance.value) most_copies) (OutOfRange size.at)))

-- GROUPS again for the windows of all groups that are open at once
abbrev pub windows_fault : Num → Num → Num → Option QueryFault
windows_fault groups size advance =
    unless (nat_le (groups.value * div_ceil size.value advance.value) most_windows) (OutOfRange groups.at)

-- the key's name and the count of columns, behind all faults of the body
abbrev pub key_fault : Name → List NamedColumn → Option QueryFault
key_fault key columns =
    or_else (unless (not (list_any (bytes_eq key.text) (column_names columns))) (TwiceNamed key.at))
    (unless (nat_lt (length columns) most_columns) (OutOfRange key.at))

-- the fault of columns that are put beside each other: a name twice, or too many columns
abbrev pub names_fault : List NamedColumn → ℕ → Option QueryFault
names_fault columns at =
    or_else (unless (are_distinct (column_names columns)) (TwiceNamed at))
    (unless (nat_le (length columns) most_columns) (OutOfRange at))

-- the fault of two sides put beside each other: unequal paces, a name on both, or too many columns
abbrev pub beside_fault : QueryShape → QueryShape → List NamedColumn → ℕ → Option QueryFault
beside_fault l r columns at =
    or_else (unless (same_pace (pace_of l) (pace_of r)) (PaceDiffers at)) (names_fault columns at)

-- the fault of ASOF's key and of its columns: the key and GROUPS over the left side, the key over the right one, its
-- kinds on both, and then another name on both, or too many columns
abbrev pub join_fault : List NamedColumn → List NamedColumn → Slots → List NamedColumn → ℕ → Option QueryFault
join_fault lefts rights slots columns at =
    or_else (slots_fault lefts (Some slots))
    (or_else (slots_fault rights (Some slots))
    (or_else (unless (same_kind (column_kind lefts slots.key.text) (column_kind rights slots.key.text))
    (KindsDiffer slots.key.at)) (names_fault columns at)))

-- the first rule of acceptance that a query breaks in a scope, with its place; sources are judged before what stands
-- over them
abbrev pub query_fault : Scope → QueryTree → Option QueryFault
query_fault scope (Read name) = unless (can_read scope.sources name.text) (UnknownStream name.at)
query_fault scope (Rows pick filter source) =
    let reach = reach_under scope (query_alike source) in
    or_else (query_fault scope source) (or_else (pick_fault reach pick) (filter_fault reach filter))
query_fault scope (Total aggs source) =
    or_else (query_fault scope source) (aggs_fault (reach_under scope (query_alike source)) [] aggs)
query_fault scope (Frames items filter slots source) =
    let reach = reach_under scope (query_alike source) in
    or_else (query_fault scope source)
    (or_else (slots_fault (columns_under scope (query_alike source)) slots)
    (or_else (frames_fault reach [] items) (filter_fault reach filter)))
query_fault scope (Each measure var source size advance body at) =
    let inside = body_scope scope var.text (columns_under scope (query_alike source)) in
    or_else (query_fault scope source)
    (or_else (unless (can_measure measure scope (query_alike source)) (NoTime at))
    (or_else (window_fault measure size advance) (or_else (query_fault inside body)
    (unless (is_closing (query_alike body)) (NotClosing at)))))
query_fault scope (PerGroup var source key groups body at) =
    let columns = columns_under scope (query_alike source) in
    let inside = body_scope scope var.text columns in
    or_else (query_fault scope source)
    (or_else (unless (has_column columns key.text) (UnknownColumn key.at))
    (or_else (unless (is_within groups.value most_groups) (OutOfRange groups.at))
    (or_else (query_fault inside body)
    (or_else (unless (is_closing (query_alike body)) (NotClosing at))
    (key_fault key (columns_under inside (query_alike body)))))))
query_fault scope (Partition var source key groups size advance body at) =
    let columns = columns_under scope (query_alike source) in
    let inside = body_scope scope var.text columns in
    or_else (query_fault scope source)
    (or_else (unless (has_column columns key.text) (UnknownColumn key.at))
    (or_else (unless (is_within groups.value most_groups) (OutOfRange groups.at))
    (or_else (window_fault Tuples size advance)
    (or_else (windows_fault groups size advance)
    (or_else (query_fault inside body)
    (or_else (unless (is_closing (query_alike body)) (NotClosing at))
    (key_fault key (columns_under inside (query_alike body)))))))))
query_fault scope (Union l r at) =
    or_else (query_fault scope l) (or_else (query_fault scope r)
    (unless (same_kinds (kinds_of (columns_under scope (query_alike l)))
    (kinds_of (columns_under scope (query_alike r)))) (ColumnsDiffer at)))
query_fault scope (ByArrival l r at) =
    or_else (query_fault scope l) (or_else (query_fault scope r)
    (or_else (unless (arrives (query_alike l) && arrives (query_alike r)) (NoArrival at))
    (unless (same_kinds (kinds_of (columns_under scope (query_alike l)))
    (kinds_of (columns_under scope (query_alike r)))) (ColumnsDiffer at))))
query_fault scope (AsOf l r slots at) =
    or_else (query_fault scope l) (or_else (query_fault scope r)
    (or_else (unless (arrives (query_alike l) && arrives (query_alike r)) (NoArrival at))
    (join_fault (columns_under scope (query_alike l)) (columns_under scope (query_alike r)) slots
    (columns_under scope (query_alike (AsOf l r slots at))) at)))
query_fault scope (Concat l r at) =
    or_else (query_fault scope l)
    (or_else (query_fault scope r) (beside_fault (query_alike l) (query_alike r)
    (columns_under scope (query_alike (Concat l r at))) at))

-- the first rule that a statement breaks over a schema
abbrev pub first_fault : Schema → StatementTree → Option QueryFault
first_fault schema s = query_fault (schema_scope schema) s.query
