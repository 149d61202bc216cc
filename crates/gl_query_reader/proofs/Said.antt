-- What the reader has read, put together from what it keeps.
use Rattle.std.proofs.Common.{◌≡◌, ℕ, ◌<◌, ◌≤◌, Bool, true, false, cond, List, [], ◌∷◌, ◌++◌, Option, Some, None, refl, sym, ap, subst, ◌∙◌, append_assoc}
use Rattle.std.specs.Prelude.{option_and_then}
use Rattle.std.proofs.lemmas.Bool.{false≢true}
use Rattle.std.proofs.lemmas.List.{append-nil}
use Rattle.gl_schema.specs.SchemaFaults.{kind_named}
use Rattle.gl_query.specs.declared.tree.Measure.{Measure}
use Rattle.gl_query.specs.declared.tree.Measure.TheVariants.{Tuples, Time}
use Rattle.gl_query.specs.declared.tree.Name.{Name}
use Rattle.gl_query.specs.declared.tree.Num.{Num}
use Rattle.gl_values.specs.declared.op.Op.TheVariants as op
use Rattle.gl_query_tokens.specs.declared.token.Join.TheVariants as join
use Rattle.gl_query_tokens.specs.declared.token.Plain.{Plain}
use Rattle.gl_query_tokens.specs.declared.token.Plain.TheVariants as plain
use Rattle.gl_query_tokens.specs.declared.token.Spelling.{Spelling}
use Rattle.gl_query_tokens.specs.declared.token.Word.{Word}
use Rattle.gl_query_tokens.specs.declared.token.Word.TheVariants as word
use Rattle.gl_query_tokens.specs.declared.token.Token.{Token}
use Rattle.gl_query_tokens.specs.declared.token.Token.TheVariants as token
use Rattle.gl_query_tokens.specs.Sorts.{plain_eq, is_plain, name_in, number_in, open_in, size_in, by_in, word_in}
use Rattle.gl_query_reader.specs.Written.{Wsum, Item, Items, Query, left_looseness, looseness, level, IsExpr, IsAgg, IsOverAgg, IsOverHead, IsOver, AreItems, IsPick, IsFilter, IsQuery, IsSide, IsSource, IsTerm, spell, spell_numbers, spell_agg, spell_word, spell_over_agg, spell_head, spell_part, spell_over, spell_items, measure_word, spell_pick, spell_window, spell_if_window, spell_row_window, spell_filter, spell_grouping, spell_query, spell_join}
use Rattle.gl_query_reader.specs.States.{measure_in, measure_for, State, Control, Frame, Head, WindowHead, BodyHead, GroupsHead, Unnamed, SelectHead, EachHead, SelectWindow, EachWindow, GroupsWindow, WindowsHead, GroupsHead', SelectGroups, EachGroups, OverGroups, UnnamedExpr, UnnamedAgg, UnnamedOver, LeftOf, FlipOf, NotOf, BracketOf, InCast, InItem, InFold, InWsum, InCall, InCondition, InFilter, JoinOf, InQuery, InSource, InBody, WantTerm, WantItem, WantOperand, WantMinus, HaveExpr, WantCastOpen, WantKind, WantCastClose, WantCountOpen, WantCountClose, WantFoldOpen, WantWsumOpen, WantWeightsOpen, WantWeight, HaveWeight, WantWsumClose, HaveAgg, WantCallOpen, WantBack, WantLagClose, WantOver, WantFilterOpen, WantFilterWhere, WantOverOpen, WantPart, WantPartBy, InOver, WantOverAs, WantItemName, HaveItem, WantFrom, WantSource, HaveSource, HaveEachSource, WantSize, WantSizeNumber, WantAdvance, WantAdvanceNumber, WantMeasure, WantWindowClose, WantBy, WantKey, WantGroups, WantGroupsNumber, WantVar, WantIn, WantBody, HaveTerm, WantName, HaveName, WantEnd, WantArrival, JoinHead, SelectJoin, EachJoin, RightHead, JoinGroups, WantJoinBy, WantParameter}
use Rattle.gl_query_reader.specs.Machine.{room}
use Rattle.gl_query_reader.proofs.Steps.{state}
use Rattle.gl_query_reader.proofs.ReadQueries.{NoJoin}
use Rattle.gl_query_reader.proofs.RowsSaid.{call_word, rows_text, word_is, FitsSoFar}
use Rattle.gl_bits.proofs.Options.{some_same}

-- ---- the tokens

-- items and numbers with a comma behind them
abbrev pub items_before : List Item → List Token
items_before [] = []
items_before (i ∷ is) = spell_items (i ∷ is) ++ token.Plain plain.Comma ∷ []

abbrev pub numbers_before : List Num → List Token
numbers_before [] = []
numbers_before (n ∷ ns) = spell_numbers (n ∷ ns) ++ token.Plain plain.Comma ∷ []

abbrev pub join_text : JoinHead → List Token
join_text (SelectJoin pick l w) = token.Plain plain.Select ∷ (spell_pick pick ++ token.Plain plain.From ∷ (spell_query l ++ spell_word word.AsOf w ∷ []))
join_text (EachJoin at var l w) = token.Each at ∷ token.Name var ∷ token.Plain plain.In ∷ (spell_query l ++ spell_word word.AsOf w ∷ [])

abbrev pub head_text : Head → List Token
head_text (SelectHead pick) = token.Plain plain.Select ∷ (spell_pick pick ++ token.Plain plain.From ∷ [])
head_text (EachHead at var) = token.Each at ∷ token.Name var ∷ token.Plain plain.In ∷ []
head_text (RightHead join) = join_text join

abbrev pub body_text : BodyHead → List Token
body_text (WindowsHead at var source window) = token.Each at ∷ token.Name var ∷ token.Plain plain.In ∷ (spell_query source ++ spell_window window)
body_text (GroupsHead' at var source grouping window) = token.Each at ∷ token.Name var ∷ token.Plain plain.In ∷ (spell_query source ++ (spell_grouping grouping ++ spell_row_window window))

abbrev pub unnamed_text : Unnamed → List Token
unnamed_text (UnnamedExpr e) = spell e
unnamed_text (UnnamedAgg a) = spell_agg a
unnamed_text (UnnamedOver o) = spell_over o

-- a select so far, in its items
abbrev pub in_items : List Item → List Token → List Token
in_items items more = token.Plain plain.Select ∷ (items_before items ++ more)

-- what stands before BY
abbrev pub groups_text : GroupsHead → List Token
groups_text (SelectGroups pick source window filter) = token.Plain plain.Select ∷ (spell_pick pick ++ token.Plain plain.From ∷ (spell_query source ++ (spell_if_window window ++ (spell_filter filter ++ token.Plain plain.Group ∷ []))))
groups_text (EachGroups at var source) = token.Each at ∷ token.Name var ∷ token.Plain plain.In ∷ spell_query source
groups_text (OverGroups items head w open' p) = in_items items (spell_head head ++ spell_word word.Over w ∷ token.Open open' ∷ spell_word word.Partition p ∷ [])
groups_text (JoinGroups join r) = join_text join ++ spell_query r

-- what has a window, and what was read behind it
abbrev pub in_source : WindowHead → Query → List Token → List Token
in_source (SelectWindow pick) source more = head_text (SelectHead pick) ++ (spell_query source ++ more)
in_source (EachWindow at var) source more = head_text (EachHead at var) ++ (spell_query source ++ more)
in_source (GroupsWindow at var g) source more = head_text (EachHead at var) ++ (spell_query source ++ (spell_grouping g ++ more))

abbrev pub frame_text : Frame → List Token
frame_text (LeftOf l o at) = spell l ++ token.Operator o at ∷ []
frame_text (FlipOf at) = token.Tilde at ∷ []
frame_text (NotOf at) = token.Not at ∷ []
frame_text (BracketOf at) = token.Open at ∷ []
frame_text (InCast at open') = token.Cast at ∷ token.Open open' ∷ []
frame_text (InItem items) = token.Plain plain.Select ∷ items_before items
frame_text (InFold items fold at open') = in_items items (token.Fold fold at ∷ token.Open open' ∷ [])
frame_text (InWsum items at open') = in_items items (token.Wsum at ∷ token.Open open' ∷ [])
frame_text (InCall items c w open') = in_items items (spell_word (call_word c) w ∷ token.Open open' ∷ [])
frame_text (InCondition items a w open') = in_items items (spell_over_agg a ++ spell_word word.Filter w ∷ token.Open open' ∷ token.Plain plain.Where ∷ [])
frame_text (InFilter pick source window) = token.Plain plain.Select ∷ (spell_pick pick ++ token.Plain plain.From ∷ (spell_query source ++ (spell_if_window window ++ token.Plain plain.Where ∷ [])))
frame_text (JoinOf l join at) = spell_query l ++ spell_join join at
frame_text (InQuery at) = token.Open at ∷ []
frame_text (InSource head at) = head_text head ++ token.Open at ∷ []
frame_text (InBody head open') = body_text head ++ token.Open open' ∷ []

-- what was read before the innermost frame
abbrev pub before : List Frame → List Token
before [] = []
before (f ∷ fs) = before fs ++ frame_text f

abbrev pub control_text : Control → List Token
control_text WantTerm = []
control_text (WantItem items) = token.Plain plain.Select ∷ items_before items
control_text WantOperand = []
control_text (WantMinus at) = token.Operator op.Sub at ∷ []
control_text (WantParameter at) = token.Colon at ∷ []
control_text (HaveExpr e) = spell e
control_text (WantCastOpen at) = token.Cast at ∷ []
control_text (WantKind at open' e) = token.Cast at ∷ token.Open open' ∷ (spell e ++ token.Plain plain.As ∷ [])
control_text (WantCastClose at open' e word kind) = token.Cast at ∷ token.Open open' ∷ (spell e ++ token.Plain plain.As ∷ token.Name word ∷ [])
control_text (WantCountOpen items at) = in_items items (token.Count at ∷ [])
control_text (WantCountClose items at open') = in_items items (token.Count at ∷ token.Open open' ∷ [])
control_text (WantFoldOpen items fold at) = in_items items (token.Fold fold at ∷ [])
control_text (WantWsumOpen items at) = in_items items (token.Wsum at ∷ [])
control_text (WantWeightsOpen items at open' e) = in_items items (token.Wsum at ∷ token.Open open' ∷ (spell e ++ token.Plain plain.Comma ∷ []))
control_text (WantWeight items at open' e ns) = in_items items (token.Wsum at ∷ token.Open open' ∷ (spell e ++ token.Plain plain.Comma ∷ token.Plain plain.LeftSquare ∷ numbers_before ns))
control_text (HaveWeight items at open' e ns) = in_items items (token.Wsum at ∷ token.Open open' ∷ (spell e ++ token.Plain plain.Comma ∷ token.Plain plain.LeftSquare ∷ spell_numbers ns))
control_text (WantWsumClose items at open' e ns) = in_items items (token.Wsum at ∷ token.Open open' ∷ (spell e ++ token.Plain plain.Comma ∷ token.Plain plain.LeftSquare ∷ (spell_numbers ns ++ token.Plain plain.RightSquare ∷ [])))
control_text (HaveAgg items agg) = in_items items (spell_agg agg)
control_text (WantCallOpen items c at) = in_items items (token.Word (call_word c) at ∷ [])
control_text (WantBack items w open' e) = in_items items (spell_word word.Lag w ∷ token.Open open' ∷ (spell e ++ token.Plain plain.Comma ∷ []))
control_text (WantLagClose items w open' e n) = in_items items (spell_word word.Lag w ∷ token.Open open' ∷ (spell e ++ token.Plain plain.Comma ∷ token.Number n ∷ []))
control_text (WantOver items head) = in_items items (spell_head head)
control_text (WantFilterOpen items a w) = in_items items (spell_over_agg a ++ spell_word word.Filter w ∷ [])
control_text (WantFilterWhere items a w open') = in_items items (spell_over_agg a ++ spell_word word.Filter w ∷ token.Open open' ∷ [])
control_text (WantOverOpen items head w) = in_items items (spell_head head ++ spell_word word.Over w ∷ [])
control_text (WantPart items head w open') = in_items items (spell_head head ++ spell_word word.Over w ∷ token.Open open' ∷ [])
control_text (WantPartBy items head w open' p) = groups_text (OverGroups items head w open' p)
control_text (InOver items head w open' p r) = in_items items (spell_head head ++ spell_word word.Over w ∷ token.Open open' ∷ (spell_part p ++ rows_text r))
control_text (WantOverAs items o) = in_items items (spell_over o)
control_text (WantItemName items u) = in_items items (unnamed_text u ++ token.Plain plain.As ∷ [])
control_text (HaveItem items) = token.Plain plain.Select ∷ spell_items items
control_text (WantFrom at) = token.Plain plain.Select ∷ token.Operator op.Mul at ∷ []
control_text (WantSource head) = head_text head
control_text (HaveSource pick source window) = token.Plain plain.Select ∷ (spell_pick pick ++ token.Plain plain.From ∷ (spell_query source ++ spell_if_window window))
control_text (HaveEachSource at var source) = token.Each at ∷ token.Name var ∷ token.Plain plain.In ∷ spell_query source
control_text (WantJoinBy join r) = join_text join ++ spell_query r
control_text (WantSize head source) = in_source head source (token.Plain plain.LeftSquare ∷ [])
control_text (WantSizeNumber head source at) = in_source head source (token.Plain plain.LeftSquare ∷ token.Size at ∷ [])
control_text (WantAdvance head source at size) = in_source head source (token.Plain plain.LeftSquare ∷ token.Size at ∷ token.Number size ∷ [])
control_text (WantAdvanceNumber head source at size) = in_source head source (token.Plain plain.LeftSquare ∷ token.Size at ∷ token.Number size ∷ token.Plain plain.Advance ∷ [])
control_text (WantMeasure head source at size advance) = in_source head source (token.Plain plain.LeftSquare ∷ token.Size at ∷ token.Number size ∷ token.Plain plain.Advance ∷ token.Number advance ∷ [])
control_text (WantWindowClose head source w) = in_source head source (token.Plain plain.LeftSquare ∷ token.Size w.at ∷ token.Number w.size ∷ token.Plain plain.Advance ∷ token.Number w.advance ∷ token.Plain (measure_word w.measure) ∷ [])
control_text (WantBy pick source window filter) = groups_text (SelectGroups pick source window filter)
control_text (WantKey head at) = groups_text head ++ token.By at ∷ []
control_text (WantGroups head at key) = groups_text head ++ token.By at ∷ token.Name key ∷ []
control_text (WantGroupsNumber head at key) = groups_text head ++ token.By at ∷ token.Name key ∷ token.Plain plain.Groups ∷ []
control_text (WantArrival l at by') = spell_query l ++ token.Join join.Union at ∷ token.By by' ∷ []
control_text (WantVar at) = token.Each at ∷ []
control_text (WantIn at var) = token.Each at ∷ token.Name var ∷ []
control_text (WantBody head) = body_text head
control_text (HaveTerm q) = spell_query q
control_text (WantName q) = spell_query q ++ token.Plain plain.Into ∷ []
control_text (HaveName q name) = spell_query q ++ token.Plain plain.Into ∷ token.Name name ∷ []
control_text (WantEnd q name) = spell_query q ++ token.Plain plain.Into ∷ token.Name name ∷ token.Plain plain.Semicolon ∷ []

-- ---- that it keeps trees of the grammar

abbrev pub IsJoinHead : JoinHead → Type 0
IsJoinHead (SelectJoin pick l w) = IsPick pick × IsSide l
IsJoinHead (EachJoin at var l w) = IsSide l

abbrev pub IsHead : Head → Type 0
IsHead (SelectHead pick) = IsPick pick
IsHead (EachHead at var) = Unit {0}
IsHead (RightHead join) = IsJoinHead join

abbrev pub IsWindowHead : WindowHead → Type 0
IsWindowHead (SelectWindow pick) = IsPick pick
IsWindowHead (EachWindow at var) = Unit {0}
IsWindowHead (GroupsWindow at var grouping) = Unit {0}

-- a window of groups counts rows
abbrev pub CountsFor : WindowHead → Measure → Type 0
CountsFor (SelectWindow pick) m = Unit {0}
CountsFor (EachWindow at var) m = Unit {0}
CountsFor (GroupsWindow at var grouping) m = m ≡ Tuples

abbrev pub IsBodyHead : BodyHead → Type 0
IsBodyHead (WindowsHead at var source window) = IsSource source
IsBodyHead (GroupsHead' at var source grouping window) = IsSource source

abbrev pub IsGroupsHead : GroupsHead → Type 0
IsGroupsHead (SelectGroups pick source window filter) = IsPick pick × IsSource source × IsFilter filter
IsGroupsHead (EachGroups at var source) = IsSource source
IsGroupsHead (OverGroups items head w open' p) = AreItems items × IsOverHead head
IsGroupsHead (JoinGroups join r) = IsJoinHead join × IsSide r

abbrev pub IsUnnamed : Unnamed → Type 0
IsUnnamed (UnnamedExpr e) = IsExpr e
IsUnnamed (UnnamedAgg a) = IsAgg a
IsUnnamed (UnnamedOver o) = IsOver o

-- the innermost frame waits for an expression
abbrev pub InExpr : List Frame → Type 0
InExpr (LeftOf l o at ∷ fs) = Unit {0}
InExpr (FlipOf at ∷ fs) = Unit {0}
InExpr (NotOf at ∷ fs) = Unit {0}
InExpr (BracketOf at ∷ fs) = Unit {0}
InExpr (InCast at open' ∷ fs) = Unit {0}
InExpr (InItem items ∷ fs) = Unit {0}
InExpr (InFold items fold at open' ∷ fs) = Unit {0}
InExpr (InWsum items at open' ∷ fs) = Unit {0}
InExpr (InCall items c w open' ∷ fs) = Unit {0}
InExpr (InCondition items a w open' ∷ fs) = Unit {0}
InExpr (InFilter pick source window ∷ fs) = Unit {0}
InExpr fs = ⊥

-- the innermost frame, where there is one, waits for a query
abbrev pub InTerm : List Frame → Type 0
InTerm [] = Unit {0}
InTerm (JoinOf l join at ∷ fs) = Unit {0}
InTerm (InQuery at ∷ fs) = Unit {0}
InTerm (InSource head at ∷ fs) = Unit {0}
InTerm (InBody head open' ∷ fs) = Unit {0}
InTerm fs = ⊥

abbrev pub IsFrame : Frame → List Frame → Type 0
IsFrame (LeftOf l o at) fs = InExpr fs × IsExpr l × (level l ≤ left_looseness o) × (looseness o < room fs)
IsFrame (FlipOf at) fs = InExpr fs × (1 < room fs)
IsFrame (NotOf at) fs = InExpr fs × (9 < room fs)
IsFrame (BracketOf at) fs = InExpr fs
IsFrame (InCast at open') fs = InExpr fs
IsFrame (InItem items) fs = InTerm fs × AreItems items
IsFrame (InFold items fold at open') fs = InTerm fs × AreItems items
IsFrame (InWsum items at open') fs = InTerm fs × AreItems items
IsFrame (InCall items c w open') fs = InTerm fs × AreItems items
IsFrame (InCondition items a w open') fs = InTerm fs × AreItems items × IsOverAgg a
IsFrame (InFilter pick source window) fs = InTerm fs × IsPick pick × IsSource source
IsFrame (JoinOf l join at) fs = InTerm fs × NoJoin fs × IsQuery l
IsFrame (InQuery at) fs = InTerm fs
IsFrame (InSource head at) fs = InTerm fs × IsHead head
IsFrame (InBody head open') fs = InTerm fs × IsBodyHead head

abbrev pub Fits : List Frame → Type 0
Fits [] = Unit {0}
Fits (f ∷ fs) = IsFrame f fs × Fits fs

abbrev pub Holds : Control → List Frame → Type 0
Holds WantTerm fs = InTerm fs
Holds (WantItem items) fs = InTerm fs × AreItems items
Holds WantOperand fs = InExpr fs
Holds (WantMinus at) fs = InExpr fs
Holds (WantParameter at) fs = InExpr fs
Holds (HaveExpr e) fs = InExpr fs × IsExpr e × (level e ≡ 0)
Holds (WantCastOpen at) fs = InExpr fs
Holds (WantKind at open' e) fs = InExpr fs × IsExpr e
Holds (WantCastClose at open' e word kind) fs = InExpr fs × IsExpr e × (kind_named word.text ≡ Some kind)
Holds (WantCountOpen items at) fs = InTerm fs × AreItems items
Holds (WantCountClose items at open') fs = InTerm fs × AreItems items
Holds (WantFoldOpen items fold at) fs = InTerm fs × AreItems items
Holds (WantWsumOpen items at) fs = InTerm fs × AreItems items
Holds (WantWeightsOpen items at open' e) fs = InTerm fs × AreItems items × IsExpr e
Holds (WantWeight items at open' e ns) fs = InTerm fs × AreItems items × IsExpr e
Holds (HaveWeight items at open' e ns) fs = InTerm fs × AreItems items × IsExpr e × IsAgg (Wsum at open' e ns)
Holds (WantWsumClose items at open' e ns) fs = InTerm fs × AreItems items × IsExpr e × IsAgg (Wsum at open' e ns)
Holds (HaveAgg items agg) fs = InTerm fs × AreItems items × IsAgg agg
Holds (WantCallOpen items c at) fs = InTerm fs × AreItems items
Holds (WantBack items w open' e) fs = InTerm fs × AreItems items × IsExpr e
Holds (WantLagClose items w open' e n) fs = InTerm fs × AreItems items × IsExpr e
Holds (WantOver items head) fs = InTerm fs × AreItems items × IsOverHead head
Holds (WantFilterOpen items a w) fs = InTerm fs × AreItems items × IsOverAgg a
Holds (WantFilterWhere items a w open') fs = InTerm fs × AreItems items × IsOverAgg a
Holds (WantOverOpen items head w) fs = InTerm fs × AreItems items × IsOverHead head
Holds (WantPart items head w open') fs = InTerm fs × AreItems items × IsOverHead head
Holds (WantPartBy items head w open' p) fs = InTerm fs × IsGroupsHead (OverGroups items head w open' p)
Holds (InOver items head w open' p r) fs = InTerm fs × AreItems items × IsOverHead head × FitsSoFar head r
Holds (WantOverAs items o) fs = InTerm fs × AreItems items × IsOver o
Holds (WantItemName items u) fs = InTerm fs × AreItems items × IsUnnamed u
Holds (HaveItem items) fs = InTerm fs × IsPick (Items items)
Holds (WantFrom at) fs = InTerm fs
Holds (WantSource head) fs = InTerm fs × IsHead head
Holds (HaveSource pick source window) fs = InTerm fs × IsPick pick × IsSource source
Holds (HaveEachSource at var source) fs = InTerm fs × IsSource source
Holds (WantJoinBy join r) fs = InTerm fs × IsJoinHead join × IsSide r
Holds (WantSize head source) fs = InTerm fs × IsWindowHead head × IsSource source
Holds (WantSizeNumber head source at) fs = InTerm fs × IsWindowHead head × IsSource source
Holds (WantAdvance head source at size) fs = InTerm fs × IsWindowHead head × IsSource source
Holds (WantAdvanceNumber head source at size) fs = InTerm fs × IsWindowHead head × IsSource source
Holds (WantMeasure head source at size advance) fs = InTerm fs × IsWindowHead head × IsSource source
Holds (WantWindowClose head source w) fs = InTerm fs × IsWindowHead head × IsSource source × CountsFor head w.measure
Holds (WantBy pick source window filter) fs = InTerm fs × IsGroupsHead (SelectGroups pick source window filter)
Holds (WantKey head at) fs = InTerm fs × IsGroupsHead head
Holds (WantGroups head at key) fs = InTerm fs × IsGroupsHead head
Holds (WantGroupsNumber head at key) fs = InTerm fs × IsGroupsHead head
Holds (WantArrival l at by') fs = InTerm fs × NoJoin fs × IsQuery l
Holds (WantVar at) fs = InTerm fs
Holds (WantIn at var) fs = InTerm fs
Holds (WantBody head) fs = InTerm fs × IsBodyHead head
Holds (HaveTerm q) fs = InTerm fs × IsTerm q
Holds (WantName q) fs = (fs ≡ []) × IsQuery q
Holds (HaveName q name) fs = (fs ≡ []) × IsQuery q
Holds (WantEnd q name) fs = (fs ≡ []) × IsQuery q

-- a state behind these tokens
pub record Read (s : State) (done : List Token) : Type 0 where
  pub text : before s.frames ++ control_text s.control ≡ done
  pub fits : Fits s.frames
  pub holds : Holds s.control s.frames

-- ---- one token more

pub by_some : (x s' : State) (done : List Token) → Some x ≡ Some s' → Read x done → Read s' done
by_some x s' done e r = subst (λ (y : State). Read y done) (some_same x s' e) r

eq_is : (q p : Plain) → plain_eq q p ≡ true → q ≡ p
unfolding plain_eq
eq_is plain.Select plain.Select e = refl
eq_is plain.From plain.From e = refl
eq_is plain.Where plain.Where e = refl
eq_is plain.Group plain.Group e = refl
eq_is plain.Groups plain.Groups e = refl
eq_is plain.In plain.In e = refl
eq_is plain.Advance plain.Advance e = refl
eq_is plain.Tuples plain.Tuples e = refl
eq_is plain.Time plain.Time e = refl
eq_is plain.Into plain.Into e = refl
eq_is plain.As plain.As e = refl
eq_is plain.Close plain.Close e = refl
eq_is plain.LeftSquare plain.LeftSquare e = refl
eq_is plain.RightSquare plain.RightSquare e = refl
eq_is plain.Comma plain.Comma e = refl
eq_is plain.Semicolon plain.Semicolon e = refl
eq_is q p e = absurd (false≢true e)

pub plain_is : (p : Plain) (t : Token) → is_plain p t ≡ true → t ≡ token.Plain p
plain_is p (token.Plain q) e = ap token.Plain (eq_is q p e)
plain_is p t e = absurd (false≢true e)

pub by_if : (p : Plain) (t : Token) (a b : Option State) (s' : State) (done : List Token) → cond (is_plain p t) a b ≡ Some s' → (a ≡ Some s' → Read s' (done ++ token.Plain p ∷ [])) → (b ≡ Some s' → Read s' (done ++ t ∷ [])) → Read s' (done ++ t ∷ [])
by_if p t a b s' done e here there = test (is_plain p t) refl e
  where
    test : (c : Bool) → is_plain p t ≡ c → cond c a b ≡ Some s' → Read s' (done ++ t ∷ [])
    test true h e = subst (λ (u : Token). Read s' (done ++ u ∷ [])) (sym (plain_is p t h)) (here e)
    test false h e = there e

pub by_plain : (p : Plain) (t : Token) (x s' : State) (done : List Token) → cond (is_plain p t) (Some x) None ≡ Some s' → Read x (done ++ token.Plain p ∷ []) → Read s' (done ++ t ∷ [])
by_plain p t x s' done e r = by_if p t (Some x) None s' done e (λ f. by_some x s' (done ++ token.Plain p ∷ []) f r) (λ f. absurd cc)

pub by_name : (t : Token) (f : Name → Option State) (s' : State) (done : List Token) → option_and_then f (name_in t) ≡ Some s' → ((n : Name) → f n ≡ Some s' → Read s' (done ++ token.Name n ∷ [])) → Read s' (done ++ t ∷ [])
by_name (token.Name n) f s' done e g = g n e
by_name t f s' done e g = absurd cc

pub by_number : (t : Token) (f : Num → Option State) (s' : State) (done : List Token) → option_and_then f (number_in t) ≡ Some s' → ((n : Num) → f n ≡ Some s' → Read s' (done ++ token.Number n ∷ [])) → Read s' (done ++ t ∷ [])
by_number (token.Number n) f s' done e g = g n e
by_number t f s' done e g = absurd cc

pub by_open : (t : Token) (f : ℕ → Option State) (s' : State) (done : List Token) → option_and_then f (open_in t) ≡ Some s' → ((n : ℕ) → f n ≡ Some s' → Read s' (done ++ token.Open n ∷ [])) → Read s' (done ++ t ∷ [])
by_open (token.Open n) f s' done e g = g n e
by_open t f s' done e g = absurd cc

-- an opening bracket, or else
pub by_open_or : (t : Token) (f : Option ℕ → Option State) (s' : State) (done : List Token) → f (open_in t) ≡ Some s' → ((n : ℕ) → f (Some n) ≡ Some s' → Read s' (done ++ token.Open n ∷ [])) → (f None ≡ Some s' → Read s' (done ++ t ∷ [])) → Read s' (done ++ t ∷ [])
by_open_or (token.Open n) f s' done e here there = here n e
by_open_or t f s' done e here there = there e

-- a word of frames, or else
pub by_word_or : (w : Word) (t : Token) (f : Option Spelling → Option State) (s' : State) (done : List Token) → f (word_in w t) ≡ Some s' → ((x : Spelling) → f (Some x) ≡ Some s' → Read s' (done ++ spell_word w x ∷ [])) → (f None ≡ Some s' → Read s' (done ++ t ∷ [])) → Read s' (done ++ t ∷ [])
by_word_or w t f s' done e here there = test (word_in w t) refl e
  where
    test : (o : Option Spelling) → word_in w t ≡ o → f o ≡ Some s' → Read s' (done ++ t ∷ [])
    test None h d = there d
    test (Some x) h d = subst (λ (u : Token). Read s' (done ++ u ∷ [])) (word_is w t x h) (here x d)

pub by_size : (t : Token) (f : ℕ → Option State) (s' : State) (done : List Token) → option_and_then f (size_in t) ≡ Some s' → ((n : ℕ) → f n ≡ Some s' → Read s' (done ++ token.Size n ∷ [])) → Read s' (done ++ t ∷ [])
by_size (token.Size n) f s' done e g = g n e
by_size t f s' done e g = absurd cc

by_word : (t : Token) (f : Measure → Option State) (s' : State) (done : List Token) → option_and_then f (measure_in t) ≡ Some s' → ((m : Measure) → f m ≡ Some s' → Read s' (done ++ token.Plain (measure_word m) ∷ [])) → Read s' (done ++ t ∷ [])
by_word (token.Plain plain.Tuples) f s' done e g = g Tuples e
by_word (token.Plain plain.Time) f s' done e g = g Time e
by_word (token.Plain p) f s' done e g = absurd cc
by_word t f s' done e g = absurd cc

pub by_measure : (head : WindowHead) (t : Token) (f : Measure → Option State) (s' : State) (done : List Token) → option_and_then f (measure_for head t) ≡ Some s' → ((m : Measure) → CountsFor head m → f m ≡ Some s' → Read s' (done ++ token.Plain (measure_word m) ∷ [])) → Read s' (done ++ t ∷ [])
by_measure (SelectWindow pick) t f s' done e g = by_word t f s' done e (λ m d. g m tt d)
by_measure (EachWindow at var) t f s' done e g = by_word t f s' done e (λ m d. g m tt d)
by_measure (GroupsWindow at var grouping) t f s' done e g = test (is_plain plain.Tuples t) refl e
  where
    test : (c : Bool) → is_plain plain.Tuples t ≡ c → option_and_then f (cond c (Some Tuples) None) ≡ Some s' → Read s' (done ++ t ∷ [])
    test true h d = subst (λ (u : Token). Read s' (done ++ u ∷ [])) (sym (plain_is plain.Tuples t h)) (g Tuples refl d)
    test false h d = absurd cc

pub by_by : (t : Token) (f : ℕ → Option State) (s' : State) (done : List Token) → option_and_then f (by_in t) ≡ Some s' → ((n : ℕ) → f n ≡ Some s' → Read s' (done ++ token.By n ∷ [])) → Read s' (done ++ t ∷ [])
by_by (token.By n) f s' done e g = g n e
by_by t f s' done e g = absurd cc

-- the same frames
pub go_on : (text : List Token) (c : Control) (fs : List Frame) (t : Token) → Fits fs → Holds c fs → text ++ t ∷ [] ≡ control_text c → Read (state c fs) ((before fs ++ text) ++ t ∷ [])
go_on text c fs t f h e = record { text = ap (λ (x : List Token). before fs ++ x) (sym e) ∙ sym (append_assoc (before fs) text (t ∷ [])); fits = f; holds = h }

-- one frame more, with nothing read in it
pub go_in : (text : List Token) (c : Control) (f : Frame) (fs : List Frame) (t : Token) → Fits fs → IsFrame f fs → Holds c (f ∷ fs) → control_text c ≡ [] → text ++ t ∷ [] ≡ frame_text f → Read (state c (f ∷ fs)) ((before fs ++ text) ++ t ∷ [])
go_in text c f fs t fits is h z e = record {
  text = ap (λ (x : List Token). (before fs ++ frame_text f) ++ x) z ∙ append-nil (before fs ++ frame_text f) ∙ ap (λ (x : List Token). before fs ++ x) (sym e) ∙ sym (append_assoc (before fs) text (t ∷ []));
  fits = (is, fits);
  holds = h;
}
