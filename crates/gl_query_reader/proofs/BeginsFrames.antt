-- What was read of a function with OVER, or of what makes groups, begins a statement.
use Rattle.std.proofs.Common.{◌≡◌, ℕ, List, [], ◌∷◌, Option, Some, None, refl}
use Rattle.gl_values.specs.declared.op.Op.TheVariants as op
use Rattle.gl_query.specs.declared.tree.Name.{Name}
use Rattle.gl_query.specs.declared.tree.Num.{Num}
use Rattle.gl_query_tokens.specs.declared.token.Plain.TheVariants as plain
use Rattle.gl_query_tokens.specs.declared.token.Spelling.{Spelling}
use Rattle.gl_query_tokens.specs.declared.token.Spelling.TheVariants.{Capital}
use Rattle.gl_query_tokens.specs.declared.token.Word.TheVariants as word
use Rattle.gl_query_tokens.specs.declared.token.Token.{Token}
use Rattle.gl_query_tokens.specs.declared.token.Token.TheVariants as token
use Rattle.gl_query_tokens.specs.Sorts.{plain_eq, word_eq}
use Rattle.gl_query_reader.specs.declared.over_state.RowsSoFar.{RowsSoFar}
use Rattle.gl_query_reader.specs.declared.over_state.RowsSoFar.TheVariants as so_far
use Rattle.gl_query_reader.specs.declared.written.Bound.TheVariants as bound
use Rattle.gl_query_reader.specs.declared.written.Grouping.{Grouping}
use Rattle.gl_query_reader.specs.declared.written.Part.{Part}
use Rattle.gl_query_reader.specs.declared.written.FrameRows.{FrameRows}
use Rattle.gl_query_reader.specs.declared.written.FrameRows.TheVariants as rows
use Rattle.gl_query_reader.specs.Written.{Expr, OverHead, LagOf, Ranged, Over, OverOf, Item, Select}
use Rattle.gl_query_reader.specs.Framing.{front_of, rows_first}
use Rattle.gl_query_reader.specs.States.{Frame, GroupsHead, GroupsHead', SelectGroups, EachGroups, OverGroups, JoinGroups, UnnamedOver, WantBack, WantLagClose, WantOver, WantOverOpen, WantPart, WantPartBy, InOver, WantOverAs, WantItemName, WantKey, WantGroups, WantGroupsNumber}
use Rattle.gl_query_reader.specs.Windowed.{after_groups}
use Rattle.gl_query_reader.specs.Machine.{step}
use Rattle.gl_query_reader.proofs.Steps.{steps, state}
use Rattle.gl_query_reader.proofs.Said.{InTerm, Fits}
use Rattle.gl_query_reader.proofs.Begins.{some_name, some_number, Ends, by_token, by_tokens, after_join_ends, have_term_ends, item_name_ends, want_body_ends}

over_as_step : (fs : List Frame) (items : List Item) (over : Over) → step (state (WantOverAs items over) fs) (token.Plain plain.As) ≡ Some (state (WantItemName items (UnnamedOver over)) fs)
unfolding step plain_eq
over_as_step fs items over = refl

pub over_as_ends : (fs : List Frame) (items : List Item) (over : Over) → Fits fs → InTerm fs → Ends (state (WantOverAs items over) fs)
over_as_ends fs items over f i = by_token _ (state (WantItemName items (UnnamedOver over)) fs) (token.Plain plain.As) (over_as_step fs items over) (item_name_ends fs items (UnnamedOver over) f i)

-- what is left of the rows, and the rows that it makes
abbrev last_text : List Token
last_text = token.Word word.Row 0 ∷ token.Plain plain.Close ∷ []

abbrev current_text : List Token
current_text = token.Word word.Current 0 ∷ last_text

abbrev and_text : List Token
and_text = token.Operator op.And 0 ∷ current_text

abbrev left_text : RowsSoFar → List Token
left_text so_far.WantRows = token.Word word.Rows 0 ∷ token.Number some_number ∷ token.Word word.Preceding 0 ∷ token.Plain plain.Close ∷ []
left_text (so_far.WantBound r) = token.Number some_number ∷ token.Word word.Preceding 0 ∷ token.Plain plain.Close ∷ []
left_text (so_far.WantPreceding r b) = token.Word word.Preceding 0 ∷ token.Plain plain.Close ∷ []
left_text (so_far.WantFirst r w) = token.Number some_number ∷ token.Word word.Preceding 0 ∷ and_text
left_text (so_far.WantFirstPreceding r w b) = token.Word word.Preceding 0 ∷ and_text
left_text (so_far.WantAnd f) = and_text
left_text (so_far.WantCurrent f n) = current_text
left_text (so_far.WantRow f n c) = last_text
left_text (so_far.WantClose r) = token.Plain plain.Close ∷ []

abbrev rows_end : RowsSoFar → Option FrameRows
rows_end so_far.WantRows = Some (rows.Short (Capital 0) (bound.Number some_number) (Capital 0))
rows_end (so_far.WantBound r) = Some (rows.Short r (bound.Number some_number) (Capital 0))
rows_end (so_far.WantPreceding r b) = Some (rows.Short r b (Capital 0))
rows_end (so_far.WantFirst r w) = Some (rows.Between (front_of r w (bound.Number some_number) (Capital 0)) 0 (Capital 0) (Capital 0))
rows_end (so_far.WantFirstPreceding r w b) = Some (rows.Between (front_of r w b (Capital 0)) 0 (Capital 0) (Capital 0))
rows_end (so_far.WantAnd f) = Some (rows.Between f 0 (Capital 0) (Capital 0))
rows_end (so_far.WantCurrent f n) = Some (rows.Between f n (Capital 0) (Capital 0))
rows_end (so_far.WantRow f n c) = Some (rows.Between f n c (Capital 0))
rows_end (so_far.WantClose r) = r

rows_steps : (fs : List Frame) (items : List Item) (head : OverHead) (w : Spelling) (open' : ℕ) (p : Option Part) (r : RowsSoFar) → steps (state (InOver items head w open' p r) fs) (left_text r) ≡ Some (state (WantOverAs items (OverOf head w open' p (rows_end r))) fs)
unfolding steps step plain_eq word_eq
rows_steps fs items head w open' p so_far.WantRows = refl
rows_steps fs items head w open' p (so_far.WantBound r) = refl
rows_steps fs items head w open' p (so_far.WantPreceding r b) = refl
rows_steps fs items head w open' p (so_far.WantFirst r v) = refl
rows_steps fs items head w open' p (so_far.WantFirstPreceding r v b) = refl
rows_steps fs items head w open' p (so_far.WantAnd f) = refl
rows_steps fs items head w open' p (so_far.WantCurrent f n) = refl
rows_steps fs items head w open' p (so_far.WantRow f n c) = refl
rows_steps fs items head w open' p (so_far.WantClose r) = refl

pub in_over_ends : (fs : List Frame) (items : List Item) (head : OverHead) (w : Spelling) (open' : ℕ) (p : Option Part) (r : RowsSoFar) → Fits fs → InTerm fs → Ends (state (InOver items head w open' p r) fs)
in_over_ends fs items head w open' p r f i = by_tokens _ (state (WantOverAs items (OverOf head w open' p (rows_end r))) fs) (left_text r) (rows_steps fs items head w open' p r) (over_as_ends fs items (OverOf head w open' p (rows_end r)) f i)

-- without PARTITION
part_steps : (fs : List Frame) (items : List Item) (head : OverHead) (w : Spelling) (open' : ℕ) → steps (state (WantPart items head w open') fs) (left_text (rows_first head)) ≡ Some (state (WantOverAs items (OverOf head w open' None (rows_end (rows_first head)))) fs)
unfolding steps step plain_eq word_eq
part_steps fs items (LagOf v begin e b) w open' = refl
part_steps fs items (Ranged a f) w open' = refl

pub part_ends : (fs : List Frame) (items : List Item) (head : OverHead) (w : Spelling) (open' : ℕ) → Fits fs → InTerm fs → Ends (state (WantPart items head w open') fs)
part_ends fs items head w open' f i = by_tokens _ (state (WantOverAs items (OverOf head w open' None (rows_end (rows_first head)))) fs) (left_text (rows_first head)) (part_steps fs items head w open') (over_as_ends fs items (OverOf head w open' None (rows_end (rows_first head))) f i)

over_open_step : (fs : List Frame) (items : List Item) (head : OverHead) (w : Spelling) → step (state (WantOverOpen items head w) fs) (token.Open 0) ≡ Some (state (WantPart items head w 0) fs)
unfolding step
over_open_step fs items head w = refl

pub over_open_ends : (fs : List Frame) (items : List Item) (head : OverHead) (w : Spelling) → Fits fs → InTerm fs → Ends (state (WantOverOpen items head w) fs)
over_open_ends fs items head w f i = by_token _ (state (WantPart items head w 0) fs) (token.Open 0) (over_open_step fs items head w) (part_ends fs items head w 0 f i)

over_step : (fs : List Frame) (items : List Item) (head : OverHead) → step (state (WantOver items head) fs) (token.Word word.Over 0) ≡ Some (state (WantOverOpen items head (Capital 0)) fs)
unfolding step word_eq
over_step fs items (LagOf w open' e back) = refl
over_step fs items (Ranged a None) = refl
over_step fs items (Ranged a (Some x)) = refl

pub over_ends : (fs : List Frame) (items : List Item) (head : OverHead) → Fits fs → InTerm fs → Ends (state (WantOver items head) fs)
over_ends fs items head f i = by_token _ (state (WantOverOpen items head (Capital 0)) fs) (token.Word word.Over 0) (over_step fs items head) (over_open_ends fs items head (Capital 0) f i)

lag_close_step : (fs : List Frame) (items : List Item) (w : Spelling) (open' : ℕ) (e : Expr) (n : Num) → step (state (WantLagClose items w open' e n) fs) (token.Plain plain.Close) ≡ Some (state (WantOver items (LagOf w open' e (Some n))) fs)
unfolding step plain_eq
lag_close_step fs items w open' e n = refl

pub lag_close_ends : (fs : List Frame) (items : List Item) (w : Spelling) (open' : ℕ) (e : Expr) (n : Num) → Fits fs → InTerm fs → Ends (state (WantLagClose items w open' e n) fs)
lag_close_ends fs items w open' e n f i = by_token _ (state (WantOver items (LagOf w open' e (Some n))) fs) (token.Plain plain.Close) (lag_close_step fs items w open' e n) (over_ends fs items (LagOf w open' e (Some n)) f i)

back_step : (fs : List Frame) (items : List Item) (w : Spelling) (open' : ℕ) (e : Expr) → step (state (WantBack items w open' e) fs) (token.Number some_number) ≡ Some (state (WantLagClose items w open' e some_number) fs)
unfolding step
back_step fs items w open' e = refl

pub back_ends : (fs : List Frame) (items : List Item) (w : Spelling) (open' : ℕ) (e : Expr) → Fits fs → InTerm fs → Ends (state (WantBack items w open' e) fs)
back_ends fs items w open' e f i = by_token _ (state (WantLagClose items w open' e some_number) fs) (token.Number some_number) (back_step fs items w open' e) (lag_close_ends fs items w open' e some_number f i)

-- ---- what makes groups

abbrev pub grouping_at : ℕ → Name → Grouping
grouping_at at key = record { at = at; key = key; groups = some_number }

after_groups_ends : (fs : List Frame) (head : GroupsHead) (g : Grouping) → Fits fs → InTerm fs → Ends (state (after_groups head g) fs)
after_groups_ends fs (SelectGroups pick source window filter) g f i = have_term_ends fs (Select pick source window filter (Some g)) f i
after_groups_ends fs (EachGroups at var source) g f i = want_body_ends fs (GroupsHead' at var source g None) f i
after_groups_ends fs (OverGroups items head w open' p) g f i = in_over_ends fs items head w open' (Some (record { word = p; grouping = g })) (rows_first head) f i
after_groups_ends fs (JoinGroups join right) g f i = after_join_ends fs join right g f i

groups_number_step : (fs : List Frame) (head : GroupsHead) (at : ℕ) (key : Name) → step (state (WantGroupsNumber head at key) fs) (token.Number some_number) ≡ Some (state (after_groups head (grouping_at at key)) fs)
unfolding step
groups_number_step fs head at key = refl

pub groups_number_ends : (fs : List Frame) (head : GroupsHead) (at : ℕ) (key : Name) → Fits fs → InTerm fs → Ends (state (WantGroupsNumber head at key) fs)
groups_number_ends fs head at key f i = by_token _ (state (after_groups head (grouping_at at key)) fs) (token.Number some_number) (groups_number_step fs head at key) (after_groups_ends fs head (grouping_at at key) f i)

groups_step : (fs : List Frame) (head : GroupsHead) (at : ℕ) (key : Name) → step (state (WantGroups head at key) fs) (token.Plain plain.Groups) ≡ Some (state (WantGroupsNumber head at key) fs)
unfolding step plain_eq
groups_step fs head at key = refl

pub groups_ends : (fs : List Frame) (head : GroupsHead) (at : ℕ) (key : Name) → Fits fs → InTerm fs → Ends (state (WantGroups head at key) fs)
groups_ends fs head at key f i = by_token _ (state (WantGroupsNumber head at key) fs) (token.Plain plain.Groups) (groups_step fs head at key) (groups_number_ends fs head at key f i)

key_step : (fs : List Frame) (head : GroupsHead) (at : ℕ) → step (state (WantKey head at) fs) (token.Name some_name) ≡ Some (state (WantGroups head at some_name) fs)
unfolding step
key_step fs head at = refl

pub key_ends : (fs : List Frame) (head : GroupsHead) (at : ℕ) → Fits fs → InTerm fs → Ends (state (WantKey head at) fs)
key_ends fs head at f i = by_token _ (state (WantGroups head at some_name) fs) (token.Name some_name) (key_step fs head at) (groups_ends fs head at some_name f i)

part_by_step : (fs : List Frame) (items : List Item) (head : OverHead) (w : Spelling) (open' : ℕ) (p : Spelling) → step (state (WantPartBy items head w open' p) fs) (token.By 0) ≡ Some (state (WantKey (OverGroups items head w open' p) 0) fs)
unfolding step
part_by_step fs items head w open' p = refl

pub part_by_ends : (fs : List Frame) (items : List Item) (head : OverHead) (w : Spelling) (open' : ℕ) (p : Spelling) → Fits fs → InTerm fs → Ends (state (WantPartBy items head w open' p) fs)
part_by_ends fs items head w open' p f i = by_token _ (state (WantKey (OverGroups items head w open' p) 0) fs) (token.By 0) (part_by_step fs items head w open' p) (key_ends fs (OverGroups items head w open' p) 0 f i)
