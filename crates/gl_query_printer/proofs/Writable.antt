-- What has a canonical text: what some text has.
use Rattle.std.proofs.Common.{◌≡◌, ℕ, Bool, true, false, List, [], ◌∷◌, ◌++◌, map, Option, Some, None, option_map, refl, sym, ap, subst, ◌∙◌, inl, inr, ◌⊎◌}
use Rattle.std.specs.List.{AllByRecursion, list_any}
use Rattle.std.proofs.lemmas.Bool.{true≢false}
use Rattle.gl_values.specs.declared.kind.Kind.{Kind}
use Rattle.gl_schema.specs.SchemaText.{kind_text}
use Rattle.gl_schema.specs.SchemaFaults.{kind_named}
use Rattle.gl_schema.proofs.KindTable.{kind_named_is}
use Rattle.gl_query.specs.declared.tree.Num.{Num}
use Rattle.gl_query.specs.Shapes.{ExprShape, AggShape, ItemShape, AggItemShape, FrameAggShape, FrameShape, FrameItemShape, SlotsShape, PickShape, QueryShape, slots_shape}
use Rattle.gl_query.specs.Shapes as shape
use Rattle.gl_query.specs.Sizes.{looks_back}
use Rattle.gl_query_tokens.specs.declared.token.Fold.{Fold}
use Rattle.gl_query_tokens.specs.declared.token.Fold.TheVariants.{Sum, Min, Max, Avg}
use Rattle.gl_query_tokens.specs.declared.token.Plain.TheVariants as plain
use Rattle.gl_query_tokens.specs.declared.token.Token.{Token}
use Rattle.gl_query_tokens.specs.declared.token.Token.TheVariants as token
use Rattle.gl_query_tokens.specs.declared.token.Word.TheVariants as word
use Rattle.gl_query_reader.specs.declared.written.Bound.{Bound}
use Rattle.gl_query_reader.specs.declared.written.Bound.TheVariants as bound
use Rattle.gl_query_reader.specs.declared.written.FrameRows.{FrameRows}
use Rattle.gl_query_reader.specs.declared.written.FrameRows.TheVariants as rows
use Rattle.gl_query_reader.specs.Written as written
use Rattle.gl_query.specs.Trees as tree
use Rattle.gl_query_reader.specs.Meaning.{expr_meaning, agg_meaning, fold_meaning, fold_over, over_agg_meaning, filtering_meaning, bound_meaning, rows_meaning, over_meaning, plain_items, agg_items, frame_items, slots_in, is_total, is_framed}
use Rattle.gl_query.specs.Alike.{expr_alike, agg_alike, item_alike, agg_item_alike, frame_agg_alike, frame_alike, frame_item_alike}
use Rattle.gl_query_tokens.proofs.Sound.{IsLetters, IsNameWord, IsSmall, IsSound}
use Rattle.gl_query_reader.proofs.Regular.{sound_parts, AreSound}

-- a colon and a name
abbrev pub IsParameterWord : List ℕ → Type 0
IsParameterWord [] = ⊥
IsParameterWord (b ∷ name) = (b ≡ 58) × IsNameWord name

-- a column, or a parameter
abbrev pub CanBeColumn : List ℕ → Type 0
CanBeColumn name = IsNameWord name ⊎ IsParameterWord name

abbrev pub CanBeExpr : ExprShape → Type 0
CanBeExpr (shape.Column name) = CanBeColumn name
CanBeExpr (shape.Number n) = IsSmall n
CanBeExpr (shape.Minus n) = IsSmall n
CanBeExpr (shape.Letters text) = IsLetters text
CanBeExpr (shape.Not e) = CanBeExpr e
CanBeExpr (shape.Flip e) = CanBeExpr e
CanBeExpr (shape.Cast kind e) = CanBeExpr e × IsNameWord (kind_text kind) × (kind_named (kind_text kind) ≡ Some kind)
CanBeExpr (shape.Binary o l r) = CanBeExpr l × CanBeExpr r

abbrev pub AreWeights : List ℕ → Type 0
AreWeights [] = ⊥
AreWeights (n ∷ ns) = AllByRecursion IsSmall (n ∷ ns)

abbrev pub CanBeAgg : AggShape → Type 0
CanBeAgg shape.Count = Unit {0}
CanBeAgg (shape.Sum e) = CanBeExpr e
CanBeAgg (shape.Min e) = CanBeExpr e
CanBeAgg (shape.Max e) = CanBeExpr e
CanBeAgg (shape.Avg e) = CanBeExpr e
CanBeAgg (shape.Wsum e ns) = CanBeExpr e × AreWeights ns

abbrev pub CanBeItem : ItemShape → Type 0
CanBeItem i = CanBeExpr i.expr × IsNameWord i.name

abbrev pub CanBeAggItem : AggItemShape → Type 0
CanBeAggItem i = CanBeAgg i.agg × IsNameWord i.name

abbrev pub CanBeFrameAgg : FrameAggShape → Type 0
CanBeFrameAgg shape.CountOver = Unit {0}
CanBeFrameAgg (shape.SumOver e) = CanBeExpr e
CanBeFrameAgg (shape.MinOver e) = CanBeExpr e
CanBeFrameAgg (shape.MaxOver e) = CanBeExpr e
CanBeFrameAgg (shape.AvgOver e) = CanBeExpr e
CanBeFrameAgg (shape.LastOver e) = CanBeExpr e

abbrev pub CanBeFilter : Option ExprShape → Type 0
CanBeFilter None = Unit {0}
CanBeFilter (Some e) = CanBeExpr e

abbrev pub CanBeBack : Option ℕ → Type 0
CanBeBack None = Unit {0}
CanBeBack (Some n) = IsSmall n

abbrev pub CanBeFrame : FrameShape → Type 0
CanBeFrame (shape.Own e) = CanBeExpr e
CanBeFrame (shape.Lag e back) = CanBeExpr e × IsSmall back
CanBeFrame (shape.Over agg filter back) = CanBeFrameAgg agg × CanBeFilter filter × CanBeBack back

abbrev pub CanBeFrameItem : FrameItemShape → Type 0
CanBeFrameItem i = CanBeFrame i.frame × IsNameWord i.name

abbrev pub CanBeSlots : Option SlotsShape → Type 0
CanBeSlots None = Unit {0}
CanBeSlots (Some s) = IsNameWord s.key × IsSmall s.groups

abbrev pub is_back : FrameItemShape → Bool
is_back i = looks_back i.frame

-- at least one
abbrev pub Some' : {A : Type 0} → List A → Type 0
Some' [] = ⊥
Some' (x ∷ xs) = Unit {0}

abbrev pub CanBePick : PickShape → Type 0
CanBePick shape.All = Unit {0}
CanBePick (shape.Items items) = Some' items × AllByRecursion CanBeItem items

-- a stream alone is no query
abbrev pub IsNoStream : QueryShape → Type 0
IsNoStream (shape.Read name) = ⊥
IsNoStream (shape.Rows pick filter source) = Unit {0}
IsNoStream (shape.Total aggs source) = Unit {0}
IsNoStream (shape.Frames items filter slots source) = Unit {0}
IsNoStream (shape.Each measure var source size advance body) = Unit {0}
IsNoStream (shape.PerGroup var source key groups body) = Unit {0}
IsNoStream (shape.Partition var source key groups size advance body) = Unit {0}
IsNoStream (shape.Union l r) = Unit {0}
IsNoStream (shape.ByArrival l r) = Unit {0}
IsNoStream (shape.AsOf l r slots) = ⊥
IsNoStream (shape.Concat l r) = Unit {0}

-- what may stand on a side of ASOF: anything but another such join
abbrev pub IsNoJoin : QueryShape → Type 0
IsNoJoin (shape.Read name) = Unit {0}
IsNoJoin (shape.Rows pick filter source) = Unit {0}
IsNoJoin (shape.Total aggs source) = Unit {0}
IsNoJoin (shape.Frames items filter slots source) = Unit {0}
IsNoJoin (shape.Each measure var source size advance body) = Unit {0}
IsNoJoin (shape.PerGroup var source key groups body) = Unit {0}
IsNoJoin (shape.Partition var source key groups size advance body) = Unit {0}
IsNoJoin (shape.Union l r) = Unit {0}
IsNoJoin (shape.ByArrival l r) = Unit {0}
IsNoJoin (shape.AsOf l r slots) = ⊥
IsNoJoin (shape.Concat l r) = Unit {0}

abbrev pub CanBeSource : QueryShape → Type 0
CanBeSource (shape.Read name) = IsNameWord name
CanBeSource (shape.Rows pick filter source) = CanBePick pick × CanBeFilter filter × CanBeSource source
CanBeSource (shape.Total aggs source) = Some' aggs × AllByRecursion CanBeAggItem aggs × CanBeSource source
CanBeSource (shape.Frames items filter slots source) = (list_any is_back items ≡ true) × AllByRecursion CanBeFrameItem items × CanBeFilter filter × CanBeSlots slots × CanBeSource source
CanBeSource (shape.Each measure var source size advance body) = IsNameWord var × CanBeSource source × IsSmall size × IsSmall advance × CanBeSource body × IsNoStream body
CanBeSource (shape.PerGroup var source key groups body) = IsNameWord var × CanBeSource source × IsNameWord key × IsSmall groups × CanBeSource body × IsNoStream body
CanBeSource (shape.Partition var source key groups size advance body) = IsNameWord var × CanBeSource source × IsNameWord key × IsSmall groups × IsSmall size × IsSmall advance × CanBeSource body × IsNoStream body
CanBeSource (shape.Union l r) = CanBeSource l × IsNoStream l × CanBeSource r × IsNoStream r
CanBeSource (shape.ByArrival l r) = CanBeSource l × IsNoStream l × CanBeSource r × IsNoStream r
CanBeSource (shape.AsOf l r s) = CanBeSource l × IsNoJoin l × CanBeSource r × IsNoJoin r × IsNameWord s.key × IsSmall s.groups
CanBeSource (shape.Concat l r) = CanBeSource l × IsNoStream l × CanBeSource r × IsNoStream r

abbrev pub CanBeQuery : QueryShape → Type 0
CanBeQuery q = CanBeSource q × IsNoStream q

-- ---- what is written can be

kind_word : (word : List ℕ) (kind : Kind) → kind_named word ≡ Some kind → IsNameWord word → IsNameWord (kind_text kind) × (kind_named (kind_text kind) ≡ Some kind)
kind_word word kind e h =
    let k = kind_named_is word kind e in
    (subst IsNameWord (sym k.0) h, ap kind_named k.0 ∙ e)

pub expr_can : (e : written.Expr) → written.IsExpr e → AreSound (written.spell e) → CanBeExpr (expr_alike (expr_meaning e))
expr_can (written.Column name) g h = inl h.0
expr_can (written.Number n) g h = h.0
expr_can (written.Minus at n) g h = h.1.0
expr_can (written.Parameter at name) g h = inr (refl, h.1.0)
expr_can (written.Letters text at) g h = h.0
expr_can (written.Brackets at e) g h = expr_can e g (sound_parts (written.spell e) (token.Plain plain.Close ∷ []) h.1).0
expr_can (written.Cast at open' e word kind) g h =
    let p = sound_parts (written.spell e) (token.Plain plain.As ∷ token.Name word ∷ token.Plain plain.Close ∷ []) h.1.1 in
    let k = kind_word word.text kind g.1 p.1.1.0 in
    (expr_can e g.0 p.0, k.0, k.1)
expr_can (written.Not at e) g h = expr_can e g.1 h.1
expr_can (written.Flip at e) g h = expr_can e g.1 h.1
expr_can (written.Binary o at l r) g h =
    let p = sound_parts (written.spell l) (token.Operator o at ∷ written.spell r) h in
    (expr_can l g.2 p.0, expr_can r g.3 p.1.1)

weights_can : (ns : List Num) → AreSound (written.spell_numbers ns) → AllByRecursion IsSmall (map (λ (n : Num). n.value) ns)
weights_can [] h = tt
weights_can (n ∷ []) h = (h.0, tt)
weights_can (n ∷ m ∷ ns) h = (h.0, weights_can (m ∷ ns) h.1.1)

fold_can : (f : Fold) (e : tree.ExprTree) → CanBeExpr (expr_alike e) → CanBeAgg (agg_alike (fold_meaning f e))
fold_can Sum e h = h
fold_can Min e h = h
fold_can Max e h = h
fold_can Avg e h = h

some_weights : (n : Num) (ns : List Num) → AllByRecursion IsSmall (map (λ (n : Num). n.value) (n ∷ ns)) → AreWeights (map (λ (n : Num). n.value) (n ∷ ns))
some_weights n ns h = h

agg_can : (a : written.Agg) → written.IsAgg a → AreSound (written.spell_agg a) → CanBeAgg (agg_alike (agg_meaning a))
agg_can (written.Count at open') g h = tt
agg_can (written.Fold' f at open' e) g h = fold_can f (expr_meaning e) (expr_can e g (sound_parts (written.spell e) (token.Plain plain.Close ∷ []) h.1.1).0)
agg_can (written.Wsum at open' e []) g h = absurd g
agg_can (written.Wsum at open' e (n ∷ ns)) g h =
    let tail : List Token = token.Plain plain.RightSquare ∷ token.Plain plain.Close ∷ [] in
    let p = sound_parts (written.spell e) (token.Plain plain.Comma ∷ token.Plain plain.LeftSquare ∷ (written.spell_numbers (n ∷ ns) ++ tail)) h.1.1 in
    let q = sound_parts (written.spell_numbers (n ∷ ns)) tail p.1.1.1 in
    (expr_can e g p.0, some_weights n ns (weights_can (n ∷ ns) q.0))

-- each item is sound
abbrev pub IsSoundItem : written.Item → Type 0
IsSoundItem i = written.IsItem i × AreSound (written.spell_item i)

pub each_sound : (is : List written.Item) → written.AreItems is → AreSound (written.spell_items is) → AllByRecursion IsSoundItem is
each_sound [] g h = tt
each_sound (i ∷ []) g h = ((g.0, h), tt)
each_sound (i ∷ j ∷ is) g h =
    let p = sound_parts (written.spell_item i) (token.Plain plain.Comma ∷ written.spell_items (j ∷ is)) h in
    ((g.0, p.0), each_sound (j ∷ is) g.1 p.1.1)

pub plain_can : (is : List written.Item) → AllByRecursion IsSoundItem is → AllByRecursion CanBeItem (map item_alike (plain_items is))
plain_can [] h = tt
plain_can (written.Bare name ∷ is) h = ((inl h.0.1.0, h.0.1.0), plain_can is h.1)
plain_can (written.Named e name ∷ is) h =
    let p = sound_parts (written.spell e) (token.Plain plain.As ∷ token.Name name ∷ []) h.0.1 in
    ((expr_can e h.0.0 p.0, p.1.1.0), plain_can is h.1)
plain_can (written.Total a name ∷ is) h = plain_can is h.1
plain_can (written.Framed o name ∷ is) h = plain_can is h.1

pub aggs_can : (is : List written.Item) → AllByRecursion IsSoundItem is → AllByRecursion CanBeAggItem (map agg_item_alike (agg_items is))
aggs_can [] h = tt
aggs_can (written.Bare name ∷ is) h = aggs_can is h.1
aggs_can (written.Named e name ∷ is) h = aggs_can is h.1
aggs_can (written.Total a name ∷ is) h =
    let p = sound_parts (written.spell_agg a) (token.Plain plain.As ∷ token.Name name ∷ []) h.0.1 in
    ((agg_can a h.0.0 p.0, p.1.1.0), aggs_can is h.1)
aggs_can (written.Framed o name ∷ is) h = aggs_can is h.1

pub some_plain : (i : written.Item) (is : List written.Item) → is_total i ≡ false → is_framed i ≡ false → Some' (map item_alike (plain_items (i ∷ is)))
some_plain (written.Bare name) is h f = tt
some_plain (written.Named e name) is h f = tt
some_plain (written.Total a name) is h f = absurd (true≢false h)
some_plain (written.Framed o name) is h f = absurd (true≢false f)

pub some_aggs : (i : written.Item) (is : List written.Item) → is_total i ≡ true → Some' (map agg_item_alike (agg_items (i ∷ is)))
some_aggs (written.Bare name) is h = absurd (true≢false (sym h))
some_aggs (written.Named e name) is h = absurd (true≢false (sym h))
some_aggs (written.Total a name) is h = tt
some_aggs (written.Framed o name) is h = absurd (true≢false (sym h))

-- ---- frames

fold_over_can : (f : Fold) (e : tree.ExprTree) → CanBeExpr (expr_alike e) → CanBeFrameAgg (frame_agg_alike (fold_over f e))
fold_over_can Sum e h = h
fold_over_can Min e h = h
fold_over_can Max e h = h
fold_over_can Avg e h = h

over_agg_can : (a : written.OverAgg) → written.IsOverAgg a → AreSound (written.spell_over_agg a) → CanBeFrameAgg (frame_agg_alike (over_agg_meaning a))
over_agg_can (written.CountOf at open') g h = tt
over_agg_can (written.FoldOf f at open' e) g h = fold_over_can f (expr_meaning e) (expr_can e g (sound_parts (written.spell e) (token.Plain plain.Close ∷ []) h.1.1).0)
over_agg_can (written.LastOf w open' e) g h = expr_can e g (sound_parts (written.spell e) (token.Plain plain.Close ∷ []) h.1.1).0

filtering_can : (f : Option written.Filtering) → written.IsFiltering f → AreSound (written.spell_filtering f) → CanBeFilter (option_map expr_alike (filtering_meaning f))
filtering_can None g h = tt
filtering_can (Some (written.FilterOf w open' e)) g h = expr_can e g (sound_parts (written.spell e) (token.Plain plain.Close ∷ []) h.1.1.1).0

bound_can : (b : Bound) → IsSound (written.spell_bound b) → CanBeBack (option_map (λ (n : Num). n.value) (bound_meaning b))
bound_can (bound.Number n) h = h
bound_can (bound.Unbounded w) h = tt

rows_can : (r : Option FrameRows) (more : List Token) → AreSound (written.spell_rows r ++ more) → CanBeBack (option_map (λ (n : Num). n.value) (rows_meaning r))
rows_can None more h = tt
rows_can (Some (rows.Short r b p)) more h = bound_can b h.1.0
rows_can (Some (rows.Between f n c o)) more h = bound_can f.bound h.1.1.0

one_small : IsSmall 1
one_small = refl

over_can : (o : written.Over) → written.IsOver o → AreSound (written.spell_over o) → CanBeFrame (frame_alike (over_meaning o))
over_can (written.OverOf (written.LagOf v begin e None) w open' k r) g h =
    let p = sound_parts (written.spell_head (written.LagOf v begin e None)) (written.spell_word word.Over w ∷ token.Open open' ∷ (written.spell_part k ++ (written.spell_rows r ++ token.Plain plain.Close ∷ []))) h in
    (expr_can e g.0 (sound_parts (written.spell e) (token.Plain plain.Close ∷ []) p.0.1.1).0, one_small)
over_can (written.OverOf (written.LagOf v begin e (Some n)) w open' k r) g h =
    let p = sound_parts (written.spell_head (written.LagOf v begin e (Some n))) (written.spell_word word.Over w ∷ token.Open open' ∷ (written.spell_part k ++ (written.spell_rows r ++ token.Plain plain.Close ∷ []))) h in
    let q = sound_parts (written.spell e) (token.Plain plain.Comma ∷ token.Number n ∷ token.Plain plain.Close ∷ []) p.0.1.1 in
    (expr_can e g.0 q.0, q.1.1.0)
over_can (written.OverOf (written.Ranged a f) w open' k r) g h =
    let last : List Token = written.spell_rows r ++ token.Plain plain.Close ∷ [] in
    let p = sound_parts (written.spell_head (written.Ranged a f)) (written.spell_word word.Over w ∷ token.Open open' ∷ (written.spell_part k ++ last)) h in
    let q = sound_parts (written.spell_over_agg a) (written.spell_filtering f) p.0 in
    let d = sound_parts (written.spell_part k) last p.1.1.1 in
    (over_agg_can a g.0.0 q.0, filtering_can f g.0.1 q.1, rows_can r (token.Plain plain.Close ∷ []) d.1)

pub frames_can : (is : List written.Item) → AllByRecursion IsSoundItem is → AllByRecursion CanBeFrameItem (map frame_item_alike (frame_items is))
frames_can [] h = tt
frames_can (written.Bare name ∷ is) h = ((inl h.0.1.0, h.0.1.0), frames_can is h.1)
frames_can (written.Named e name ∷ is) h =
    let p = sound_parts (written.spell e) (token.Plain plain.As ∷ token.Name name ∷ []) h.0.1 in
    ((expr_can e h.0.0 p.0, p.1.1.0), frames_can is h.1)
frames_can (written.Total a name ∷ is) h = frames_can is h.1
frames_can (written.Framed o name ∷ is) h =
    let p = sound_parts (written.spell_over o) (token.Plain plain.As ∷ token.Name name ∷ []) h.0.1 in
    ((over_can o h.0.0 p.0, p.1.1.0), frames_can is h.1)

-- the key and the number of PARTITION
pub slots_can : (is : List written.Item) → AllByRecursion IsSoundItem is → CanBeSlots (option_map slots_shape (slots_in is))
slots_can [] h = tt
slots_can (written.Bare name ∷ is) h = slots_can is h.1
slots_can (written.Named e name ∷ is) h = slots_can is h.1
slots_can (written.Total a name ∷ is) h = slots_can is h.1
slots_can (written.Framed (written.OverOf head w open' None r) name ∷ is) h = tt
slots_can (written.Framed (written.OverOf head w open' (Some k) r) name ∷ is) h =
    let last : List Token = written.spell_rows r ++ token.Plain plain.Close ∷ [] in
    let p = sound_parts (written.spell_over (written.OverOf head w open' (Some k) r)) (token.Plain plain.As ∷ token.Name name ∷ []) h.0.1 in
    let q = sound_parts (written.spell_head head) (written.spell_word word.Over w ∷ token.Open open' ∷ (written.spell_part (Some k) ++ last)) p.0 in
    let d = sound_parts (written.spell_part (Some k)) last q.1.1.1 in
    (d.0.1.1.0, d.0.1.1.1.1.0)
